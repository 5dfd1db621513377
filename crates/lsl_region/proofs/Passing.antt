-- Places that are passed over, since no script there is in the audience of an event.
use Rattle.std.proofs.Common.{◌≡◌, ℕ, zero, suc, ◌+◌, ◌-◌, ◌<◌, ◌≤◌, Bool, false, List, [], ◌++◌, get_or, ℤ, refl, ap, sym, ◌∙◌, subst, arith}
use Rattle.std.specs.Prelude.{if◌then◌else◌, Option, Some, None, slice_get}
use Rattle.lsl_code.specs.declared.woven_units.Woven.{Woven as Code}
use Rattle.lsl_post.specs.declared.entries.Entry.{Entry}
use Rattle.lsl_post.specs.declared.events.Event.{Event}
use Rattle.lsl_post.specs.declared.parts.ScriptParts.{ScriptParts}
use Rattle.lsl_post.specs.Told.{Told, each, next_to, lead, quiet}
use Rattle.std.specs.declared.result.Result.{Result}
use Rattle.lsl_post.specs.Journal.{Part, Tells}
use Rattle.lsl_post.proofs.Amid.{Walk, amid-err, amid-last, amid-ok, amid-start, lead-lead}
use Rattle.lsl_script.specs.Parts.{parts_of}
use Rattle.lsl_script.specs.Rules.{Rules}
use Rattle.lsl_script.specs.Scripts.{post_to}
use Rattle.lsl_region.specs.declared.notice.Audience.{Audience}
use Rattle.lsl_region.specs.declared.grid.Seat.{Seat}
use Rattle.lsl_region.specs.Grids.{Contents, Stands, is_out, seat_of}
use Rattle.lsl_region.specs.Hearing.{ArePassed, HasRow, HaveRows, is_in_row, listens_on}
use Rattle.lsl_region.specs.Posting.{admits, post_where}
use Rattle.lsl_region.specs.Worlds.{Member, World, changed_at, prim_of}
use Rattle.lsl_region.proofs.Placed.{seated-at}
use Rattle.lsl_region.proofs.Posts.{post-none}

-- A walk over numbers continues from a later one, if nothing is to be done before it.
each-one : {X : Type 0} (thing : ℕ → X → Told X) (count left first : ℕ) → count ≡ suc left → (x : X)
    → each thing count first x ≡ next_to (thing first x) (each thing left (first + 1))
unfolding each
each-one thing count left first e x = ap (λ (n : ℕ). each thing n first x) e

each-later : {X : Type 0} (thing : ℕ → X → Told X) (k n count first to : ℕ) (x : X) → count ≡ k + n → to ≡ first + k
    → ((place : ℕ) → first ≤ place → place < to → thing place x ≡ quiet x)
    → each thing count first x ≡ each thing n to x
each-later thing zero n count first to x e t none =
    let left : count ≡ n = omega arith in
    let at : first ≡ to = omega arith in
    ap (λ (z : ℕ). each thing z first x) left ∙ ap (λ (z : ℕ). each thing n z x) at
each-later {X = X} thing (suc k) n count first to x e t none =
    let left : count ≡ suc (k + n) = omega arith in
    let at : to ≡ (first + 1) + k = omega arith in
    let here : thing first x ≡ quiet x = none first (omega arith) (omega arith) in
    each-one thing count (k + n) first left x
    ∙ ap (λ (z : Told X). next_to z (each thing (k + n) (first + 1))) here
    ∙ each-later thing k n (k + n) (first + 1) to x refl at (λ place h l. none place (omega arith) l)

pub walk-later : {X : Type 0} (Rel : X → Type 0) (total : Told X) (old now : List Entry) (thing : ℕ → X → Told X)
    (from to end : ℕ) → Walk Rel total old now thing from end → from ≤ to → to ≤ end
    → ((x : X) → Rel x → (place : ℕ) → from ≤ place → place < to → thing place x ≡ quiet x)
    → Walk Rel total old now thing to end
walk-later {X = X} Rel total old now thing from to end walk h l none =
    let a = walk.amid in
    let span : walk.left ≡ (to - from) + (end - to) = omega (arith, walk.span, h, l) in
    let at : to ≡ from + (to - from) = omega (arith, h) in
    record {
      left = end - to;
      span = omega (arith, l);
      amid = record {
        value = a.value;
        rel = a.rel;
        done = a.done;
        whole = a.whole ∙ ap (λ (z : Told X). lead a.done z)
            (each-later thing (to - from) (end - to) walk.left from to a.value span at
            (λ place first last. none a.value a.rel place first last));
        so_far = a.so_far;
      };
    }

-- A walk over some numbers begins at the first of them.
pub walk-from : {X : Type 0} (Rel : X → Type 0) (x : X) (old : List Entry) (thing : ℕ → X → Told X) (first end : ℕ)
    → Rel x → first ≤ end → Walk Rel (each thing (end - first) first x) old old thing first end
walk-from Rel x old thing first end r h = record {
  left = end - first;
  span = omega (arith, h);
  amid = amid-start Rel x old (each thing (end - first) first) r;
}

-- this many things, and then others
each-both : {X : Type 0} (thing : ℕ → X → Told X) (k n count first to : ℕ) (x : X) → count ≡ k + n → to ≡ first + k
    → each thing count first x ≡ next_to (each thing k first x) (each thing n to)
unfolding each
each-both thing zero n count first to x e t =
    let left : count ≡ n = omega (arith, e) in
    let at : first ≡ to = omega (arith, t) in
    ap (λ (z : ℕ). each thing z first x) left ∙ ap (λ (z : ℕ). each thing n z x) at
each-both {X = X} thing (suc k) n count first to x e t =
    let left : count ≡ suc (k + n) = omega (arith, e) in
    let at : to ≡ (first + 1) + k = omega (arith, t) in
    let a = thing first x in
    let b = each thing k (first + 1) a.value in
    each-one thing count (k + n) first left x
    ∙ ap (λ (z : Told X). lead a.entries z) (each-both thing k n (k + n) (first + 1) to a.value refl at)
    ∙ lead-lead a.entries b.entries (each thing n to b.value)

module _ {X : Type 0} (Rel : X → Type 0) (total : Told X) (old now : List Entry) (thing : ℕ → X → Told X)
    (first end : ℕ) (walk : Walk Rel total old now thing first end) where
  each-left : (to : ℕ) (x : X) → first ≤ to → to ≤ end
      → each thing walk.left first x ≡ next_to (each thing (to - first) first x) (each thing (end - to) to)
  each-left to x h l =
      let span : walk.left ≡ (to - first) + (end - to) = omega (arith, walk.span, h, l) in
      let at : to ≡ first + (to - first) = omega (arith, h) in
      each-both thing (to - first) (end - to) walk.left first to x span at

  -- the things for the numbers up to a later one were done
  pub walk-stretch : (Rel' : X → Type 0) (new : List Entry) (to : ℕ) → first ≤ to → to ≤ end
      → ((x : X) → Rel x → Rel' (each thing (to - first) first x).value
      × (new ≡ now ++ (each thing (to - first) first x).entries))
      → Walk Rel' total old new thing to end
  walk-stretch Rel' new to h l does = record {
    left = end - to;
    span = omega (arith, l);
    amid = amid-ok Rel total old now (each thing walk.left first) walk.amid Rel' (each thing (end - to) to)
        (each thing (to - first) first) new (λ x r. each-left to x h l) does;
  }

  -- memory ran out while they were done
  pub walk-stops : (new : List Entry) (to : ℕ) → first ≤ to → to ≤ end
      → ((x : X) → Rel x → Part now new (each thing (to - first) first x).entries) → Part old new total.entries
  walk-stops new to h l does =
      amid-err Rel total old now (each thing walk.left first) walk.amid (each thing (end - to) to)
      (each thing (to - first) first) new (λ x r. each-left to x h l) does

  -- those that are left are done as a whole
  pub walk-last : {T E : Type 0} (r : Result T E) (Last : X → T → Type 0) (new : List Entry)
      → ((x : X) → Rel x → Tells r Last now new (each thing (end - first) first x)) → Tells r Last old new total
  walk-last r Last new does =
      let left : end - first ≡ walk.left = omega (arith, walk.span) in
      amid-last Rel total old now (each thing walk.left first) walk.amid r Last new
      (λ x k. subst (λ (n : ℕ). Tells r Last now new (each thing n first x)) left (does x k))

-- a script that isn't out listens on the channels of its row
pub listening : (rows : List (List ℤ)) (seats : List Seat) (channel : ℤ) (place : ℕ) (seat : Seat) (parts : ScriptParts)
    → HaveRows rows seats → slice_get seats place ≡ Some seat → seat.script ≡ Some parts
    → listens_on channel parts.listens ≡ is_in_row rows channel place
listening rows seats channel place seat parts h at is =
    let k : HasRow (get_or rows place []) (Some parts)
    = subst (λ (o : Option ScriptParts). HasRow (get_or rows place []) o) is (h.each place seat at) in
    sym (k channel)

-- Nothing is posted to the scripts that are passed over.
module _ (codes : List Code) (away : Option ℕ) (clock : ℕ) (grid : Contents) (w : World) (a : Audience) (from to : ℕ)
    (st : Stands codes away clock grid w) (passed : ArePassed a grid.seats from to) (r : Rules) (e : Event) where
  pub post-passed : (place : ℕ) → from ≤ place → place < to → is_out away place ≡ false
      → post_where r (admits a) e place w ≡ quiet w
  post-passed place h l home = go (slice_get w.members place) refl where
    go : (o : Option Member) → slice_get w.members place ≡ o → post_where r (admits a) e place w ≡ quiet w
    go None k = ap (λ (o : Option Member). changed_at place
        (λ (m : Member). if admits a w m then post_to r (place + 1) e m.script else quiet m.script) w o) k
    go (Some m) k =
        let at : slice_get grid.seats place ≡ Some (seat_of codes false m)
        = seated-at codes away clock grid w st place m k ∙ ap (λ (b : Bool). Some (seat_of codes b m)) home in
        sym (post-none r a e place w m k
        (passed place (seat_of codes false m) (parts_of codes m.script) h l at refl m.object m.prim (prim_of w m).key))
