-- A call that is under way: some entries were added, and what is left to do gives the rest.
use Rattle.std.proofs.Common.{◌≡◌, ℕ, zero, suc, ◌+◌, ◌-◌, ◌<◌, ◌≤◌, Bool, true, false, List, [], ◌∷◌, ◌++◌, refl, ap, sym, ◌∙◌, subst, append_assoc, append-nil, arith}
use Rattle.std.specs.Prelude.{if◌then◌else◌}
use Rattle.std.specs.declared.result.Result.{Result}
use Rattle.std.specs.declared.result.Result.TheVariants.{Ok, Err}
use Rattle.lsl_post.specs.declared.entries.Entry.{Entry}
use Rattle.lsl_post.specs.Told.{Told, quiet, lead, next_to, each, until, each_of}
use Rattle.lsl_post.specs.Journal.{Part, Tells}

pub lead-lead : {X : Type 0} (xs ys : List Entry) (a : Told X) → lead xs (lead ys a) ≡ lead (xs ++ ys) a
lead-lead xs ys a = ap (λ (es : List Entry). record { value = a.value; entries = es })
    (sym (append_assoc xs ys a.entries))

-- after these entries come a part of others
pub part-after : (old mid new first others : List Entry) → mid ≡ old ++ first → Part mid new others
    → Part old new (first ++ others)
part-after old mid new first others e p =
    record {
      added = first ++ p.added;
      missing = p.missing;
      now = p.now ∙ ap (λ (m : List Entry). m ++ p.added) e ∙ append_assoc old first p.added;
      all = append_assoc first p.added p.missing ∙ ap (λ (z : List Entry). first ++ z) p.all;
    }

-- a part of the first entries is a part of all
part-before : (old new first others : List Entry) → Part old new first → Part old new (first ++ others)
part-before old new first others p =
    record {
      added = p.added;
      missing = p.missing ++ others;
      now = p.now;
      all = sym (append_assoc p.added p.missing others) ∙ ap (λ (z : List Entry). z ++ others) p.all;
    }

pub part-none : (old entries : List Entry) → Part old old entries
part-none old entries = record { added = []; missing = entries; now = sym (append-nil old); all = refl }

-- The program's value corresponds to a value by Rel; what is left to do from that value gives the rest of the whole.
pub record Amid {X Y : Type 0} (Rel : X → Type 0) (total : Told Y) (old now : List Entry)
    (rest : X → Told Y) : Type 0 where
  pub value : X
  pub rel : Rel value
  pub done : List Entry
  pub whole : total ≡ lead done (rest value)
  pub so_far : now ≡ old ++ done

pub amid-start : {X Y : Type 0} (Rel : X → Type 0) (x : X) (old : List Entry) (rest : X → Told Y) → Rel x
    → Amid Rel (rest x) old old rest
amid-start Rel x old rest r = record {
  value = x;
  rel = r;
  done = [];
  whole = refl;
  so_far =
      sym (append-nil old);
}

module _ {X Y : Type 0} (Rel : X → Type 0) (total : Told Y) (old now : List Entry) (rest : X → Told Y)
    (a : Amid Rel total old now rest) where
  -- one thing of what is left was done
  pub amid-ok : {Z : Type 0} (Rel' : Z → Type 0) (rest' : Z → Told Y) (thing : X → Told Z)
      (new : List Entry) →
      ((x : X) → Rel x → rest x ≡ next_to (thing x) rest') →
      ((x : X) → Rel x → Rel' (thing x).value × (new ≡ now ++ (thing x).entries)) →
      Amid Rel' total old new rest'
  amid-ok Rel' rest' thing new split does =
      let d = does a.value a.rel in
      let es : List Entry = (thing a.value).entries in
      record {
        value = (thing a.value).value;
        rel = d.0;
        done = a.done ++ es;
        whole = a.whole ∙ ap (λ (z : Told Y). lead a.done z) (split a.value a.rel)
            ∙ lead-lead a.done es (rest' (thing a.value).value);
        so_far = d.1 ∙ ap (λ (z : List Entry). z ++ es) a.so_far ∙ append_assoc old a.done es;
      }

  -- memory ran out while a thing was done
  pub amid-err : {Z : Type 0} (rest' : Z → Told Y) (thing : X → Told Z) (new : List Entry) →
      ((x : X) → Rel x → rest x ≡ next_to (thing x) rest') →
      ((x : X) → Rel x → Part now new (thing x).entries) →
      Part old new total.entries
  amid-err rest' thing new split does =
      subst (λ (z : List Entry). Part old new z)
      (sym (ap (λ (z : Told Y). z.entries)
      (a.whole ∙ ap (λ (z : Told Y). lead a.done z) (split a.value a.rel))))
      (part-after old now new a.done _ a.so_far
      (part-before now new (thing a.value).entries _ (does a.value a.rel)))

  -- what is left is done as a whole
  pub amid-last : {T E : Type 0} (r : Result T E) (Last : Y → T → Type 0) (new : List Entry)
      → ((x : X) → Rel x → Tells r Last now new (rest x)) → Tells r Last old new total
  amid-last (Ok t) Last new does =
      let d = does a.value a.rel in (
        subst (λ (y : Y). Last y t) (sym (ap (λ (z : Told Y). z.value) a.whole)) d.0,
        d.1 ∙ ap (λ (z : List Entry). z ++ (rest a.value).entries) a.so_far
            ∙ append_assoc old a.done (rest a.value).entries
            ∙ ap (λ (z : List Entry). old ++ z) (sym (ap (λ (z : Told Y). z.entries) a.whole)),
      )
  amid-last (Err e) Last new does =
      subst (λ (z : List Entry). Part old new z) (sym (ap (λ (z : Told Y). z.entries) a.whole))
      (part-after old now new a.done (rest a.value).entries a.so_far (does a.value a.rel))

  -- nothing is left
  pub amid-end : (Last : Y → Type 0) (end : X → Y) → ((x : X) → Rel x → rest x ≡ quiet (end x))
      → ((x : X) → Rel x → Last (end x)) → Last total.value × (now ≡ old ++ total.entries)
  amid-end Last end none last =
      let w = a.whole ∙ ap (λ (z : Told Y). lead a.done z) (none a.value a.rel) in (
        subst Last (sym (ap (λ (z : Told Y). z.value) w)) (last a.value a.rel),
        a.so_far ∙ ap (λ (z : List Entry). old ++ z)
            (sym (ap (λ (z : Told Y). z.entries) w ∙ append-nil a.done)),
      )

-- entries, and then a thing
pub tells-lead : {T E Y : Type 0} (r : Result T E) (Last : Y → T → Type 0) (old mid new es : List Entry)
    (total rest : Told Y) →
    total ≡ lead es rest → mid ≡ old ++ es → Tells r Last mid new rest → Tells r Last old new total
tells-lead {Y = Y} r Last old mid new es total rest e m d =
    amid-last (λ (z : Told Y). z ≡ rest) total old mid (λ z. z)
    (record { value = rest; rel = refl; done = es; whole = e; so_far = m }) r Last new
    (λ z k. subst (λ (y : Told Y). Tells r Last mid new y) (sym k) d)

pub part-lead : {Y : Type 0} (old new es : List Entry) (total rest : Told Y) → total ≡ lead es rest
    → Part old new es → Part old new total.entries
part-lead {Y = Y} old new es total rest e p =
    subst (λ (z : List Entry). Part old new z) (sym (ap (λ (a : Told Y). a.entries) e))
    (part-before old new es rest.entries p)

-- Numbers in order.
one_left : (first left end : ℕ) → first + left ≡ end → first < end → left ≡ suc (left - 1)
one_left first left end e h = omega arith

one_on : (first left end : ℕ) → first + left ≡ end → first < end → (first + 1) + (left - 1) ≡ end
one_on first left end e h = omega arith

none_left : (first left end : ℕ) → first + left ≡ end → end ≤ first → left ≡ 0
none_left first left end e h = omega arith

each-more : {X : Type 0} (thing : ℕ → X → Told X) (count left first : ℕ) → count ≡ suc left → (x : X) →
    each thing count first x ≡ next_to (thing first x) (each thing left (first + 1))
unfolding each
each-more thing count left first e x = ap (λ (n : ℕ). each thing n first x) e

each-none : {X : Type 0} (thing : ℕ → X → Told X) (count first : ℕ) → count ≡ 0 → (x : X)
    → each thing count first x ≡ quiet x
unfolding each
each-none thing count first e x = ap (λ (n : ℕ). each thing n first x) e

-- a walk over the numbers, at one of them before an end
pub record Walk {X : Type 0} (Rel : X → Type 0) (total : Told X) (old now : List Entry)
    (thing : ℕ → X → Told X) (at end : ℕ) : Type 0 where
  pub left : ℕ
  pub span : at + left ≡ end
  pub amid : Amid Rel total old now (each thing left at)

pub walk-start : {X : Type 0} (Rel : X → Type 0) (x : X) (old : List Entry) (thing : ℕ → X → Told X)
    (count end : ℕ) → Rel x → end ≡ count →
    Walk Rel (each thing count 0 x) old old thing 0 end
walk-start Rel x old thing count end r e =
    record { left = count; span = omega (arith, e); amid = amid-start Rel x old (each thing count 0) r }

module _ {X : Type 0} (Rel : X → Type 0) (total : Told X) (old now : List Entry) (thing : ℕ → X → Told X)
    (at end : ℕ) (walk : Walk Rel total old now thing at end) where
  pub walk-ok : (Rel' : X → Type 0) (new : List Entry) → at < end →
      ((x : X) → Rel x → Rel' (thing at x).value × (new ≡ now ++ (thing at x).entries)) →
      Walk Rel' total old new thing (at + 1) end
  walk-ok Rel' new h does =
      record {
        left = walk.left - 1;
        span = one_on at walk.left end walk.span h;
        amid = amid-ok Rel total old now (each thing walk.left at) walk.amid Rel'
            (each thing (walk.left - 1) (at + 1)) (thing at) new
            (λ x r. each-more thing walk.left (walk.left - 1) at (one_left at walk.left end walk.span h) x)
            does;
      }

  pub walk-err : (new : List Entry) → at < end → ((x : X) → Rel x → Part now new (thing at x).entries)
      → Part old new total.entries
  walk-err new h does =
      amid-err Rel total old now (each thing walk.left at) walk.amid (each thing (walk.left - 1) (at + 1))
      (thing at) new
      (λ x r. each-more thing walk.left (walk.left - 1) at (one_left at walk.left end walk.span h) x) does

  pub walk-end : end ≤ at → Rel total.value × (now ≡ old ++ total.entries)
  walk-end h = amid-end Rel total old now (each thing walk.left at) walk.amid Rel (λ x. x)
      (λ x r. each-none thing walk.left at (none_left at walk.left end walk.span h) x) (λ x r. r)

-- Again and again.
until-more : {X : Type 0} (stops : X → Bool) (thing : X → Told X) (most left : ℕ) → most ≡ suc left
    → (x : X) → stops x ≡ false →
    until stops thing most x ≡ next_to (thing x) (until stops thing left)
unfolding until
until-more stops thing most left e x f =
    ap (λ (n : ℕ). until stops thing n x) e
    ∙ ap (λ (b : Bool). if b then quiet x else next_to (thing x) (until stops thing left)) f

until-stops : {X : Type 0} (stops : X → Bool) (thing : X → Told X) (most : ℕ) (x : X) → stops x ≡ true
    → until stops thing most x ≡ quiet x
unfolding until
until-stops stops thing zero x t = refl
until-stops stops thing (suc most) x t = ap
    (λ (b : Bool). if b then quiet x else next_to (thing x) (until stops thing most)) t

until-none : {X : Type 0} (stops : X → Bool) (thing : X → Told X) (most : ℕ) → most ≡ 0 → (x : X)
    → until stops thing most x ≡ quiet x
unfolding until
until-none stops thing most e x = ap (λ (n : ℕ). until stops thing n x) e

pub record Again {X : Type 0} (Rel : X → Type 0) (total : Told X) (old now : List Entry) (stops : X → Bool)
    (thing : X → Told X) (past most : ℕ) : Type 0 where
  pub left : ℕ
  pub span : past + left ≡ most
  pub amid : Amid Rel total old now (until stops thing left)

pub again-start : {X : Type 0} (Rel : X → Type 0) (x : X) (old : List Entry) (stops : X → Bool)
    (thing : X → Told X) (most : ℕ) → Rel x →
    Again Rel (until stops thing most x) old old stops thing 0 most
again-start Rel x old stops thing most r =
    record { left = most; span = omega arith; amid = amid-start Rel x old (until stops thing most) r }

module _ {X : Type 0} (Rel : X → Type 0) (total : Told X) (old now : List Entry) (stops : X → Bool)
    (thing : X → Told X) (past most : ℕ) (again : Again Rel total old now stops thing past most) where
  pub again-ok : (Rel' : X → Type 0) (new : List Entry) → past < most → ((x : X) → Rel x → stops x ≡ false) →
      ((x : X) → Rel x → Rel' (thing x).value × (new ≡ now ++ (thing x).entries)) →
      Again Rel' total old new stops thing (past + 1) most
  again-ok Rel' new h on does =
      record {
        left = again.left - 1;
        span = one_on past again.left most again.span h;
        amid = amid-ok Rel total old now (until stops thing again.left) again.amid Rel'
            (until stops thing (again.left - 1)) thing new
            (λ x r. until-more stops thing again.left (again.left - 1)
            (one_left past again.left most again.span h) x (on x r)) does;
      }

  pub again-err : (new : List Entry) → past < most → ((x : X) → Rel x → stops x ≡ false)
      → ((x : X) → Rel x → Part now new (thing x).entries) → Part old new total.entries
  again-err new h on does =
      amid-err Rel total old now (until stops thing again.left) again.amid
      (until stops thing (again.left - 1)) thing new
      (λ x r. until-more stops thing again.left (again.left - 1)
      (one_left past again.left most again.span h) x (on x r)) does

  pub again-stops : ((x : X) → Rel x → stops x ≡ true) → Rel total.value × (now ≡ old ++ total.entries)
  again-stops on = amid-end Rel total old now (until stops thing again.left) again.amid Rel (λ x. x)
      (λ x r. until-stops stops thing again.left x (on x r)) (λ x r. r)

  pub again-end : most ≤ past → Rel total.value × (now ≡ old ++ total.entries)
  again-end h = amid-end Rel total old now (until stops thing again.left) again.amid Rel (λ x. x)
      (λ x r. until-none stops thing again.left (none_left past again.left most again.span h) x) (λ x r. r)

-- Along a list.
pub along-more : {A X : Type 0} (thing : A → X → Told X) (all : List A) (a : A) (left : List A)
    → all ≡ a ∷ left → (x : X) → each_of thing all x ≡ next_to (thing a x) (each_of thing left)
unfolding each_of
along-more thing all a left e x = ap (λ z. each_of thing z x) e

pub along-none : {A X : Type 0} (thing : A → X → Told X) (all : List A) → all ≡ [] → (x : X)
    → each_of thing all x ≡ quiet x
unfolding each_of
along-none thing all e x = ap (λ z. each_of thing z x) e

pub along-append : {A X : Type 0} (thing : A → X → Told X) (first second : List A) (x : X)
    → each_of thing (first ++ second) x ≡ next_to (each_of thing first x) (each_of thing second)
unfolding each_of
along-append thing [] second x = refl
along-append {X = X} thing (a ∷ first) second x =
    ap (λ (z : Told X). lead (thing a x).entries z) (along-append thing first second (thing a x).value)
    ∙ lead-lead (thing a x).entries (each_of thing first (thing a x).value).entries
    (each_of thing second (each_of thing first (thing a x).value).value)
