-- What a touch is.
use Rattle.std.proofs.Common.{◌≡◌, ℕ, zero, suc, Bool, true, false, List, [], ◌∷◌, ◌++◌, refl, ap, sym, ◌∙◌, append-nil}
use Rattle.std.specs.Prelude.{◌&&◌, ◌||◌, nat_eq, if◌then◌else◌, Some, slice_get}
use Rattle.std.specs.List.{list_any}
use Rattle.std.proofs.lemmas.Bool.{and_parts, eqb-true, eq-eqb}
use Rattle.lsl_post.specs.declared.entries.Entry.{Entry}
use Rattle.lsl_post.specs.Told.{Told, each_of, next_to}
use Rattle.lsl_region.specs.Arrivals.{handles_touch, is_in_prim, touch_end, touch_held, touch_start}
use Rattle.lsl_region.specs.Posting.{post_all}
use Rattle.lsl_region.specs.TouchLaws.{IsIn, TouchesAreThreeEvents, TouchesGoToThePrim, TouchesGoToTheRoot}
use Rattle.lsl_region.specs.Worlds.{Member, World}

-- nothing follows the last
last-of : {A X : Type 0} (thing : A → X → Told X) (a : A) (x : X) → thing a x ≡ each_of thing (a ∷ []) x
unfolding each_of
last-of thing a x =
    ap (λ (es : List Entry). record { value = (thing a x).value; entries = es }) (sym (append-nil (thing a x).entries))

more-of : {A X : Type 0} (thing : A → X → Told X) (a : A) (rest : List A) (x : X)
    → next_to (thing a x) (each_of thing rest) ≡ each_of thing (a ∷ rest) x
unfolding each_of
more-of thing a rest x = refl

three-of : {A X : Type 0} (thing : A → X → Told X) (a b c : A) (x : X)
    → next_to (thing a x) (λ y. next_to (thing b y) (λ z. thing c z)) ≡ each_of thing (a ∷ b ∷ c ∷ []) x
three-of {X = X} thing a b c x =
    let y = (thing a x).value in
    let z = (thing b y).value in
    ap (λ (t : Told X). record { value = t.value; entries = (thing a x).entries ++ ((thing b y).entries ++ t.entries) })
    (last-of thing c z)
    ∙ ap (λ (t : Told X). record { value = t.value; entries = (thing a x).entries ++ t.entries })
    (more-of thing b (c ∷ []) y)
    ∙ more-of thing a (b ∷ c ∷ []) x

pub touches-are : TouchesAreThreeEvents
touches-are r object prim t w = record {
  first = touch_start t;
  second = touch_held t;
  third = touch_end t;
  are = record {
    order = refl;
    first_is = record { count = refl; toucher = refl };
    second_is = record { count = refl; toucher = refl };
    third_is = record { count = refl; toucher = refl };
  };
  posted = three-of (λ e v. post_all r (is_in_prim object prim) e v) (touch_start t) (touch_held t) (touch_end t) w;
}

any-at : {X : Type 0} (p : X → Bool) (xs : List X) (n : ℕ) (x : X) → slice_get xs n ≡ Some x → p x ≡ true
    → list_any p xs ≡ true
any-at p [] n x at e = absurd cc
any-at p (y ∷ xs) zero x at e =
    let is : y ≡ x = cc in
    let k : p y ≡ true = ap p is ∙ e in
    ap (λ (b : Bool). b || list_any p xs) k
any-at p (y ∷ xs) (suc n) x at e =
    go (p y) (any-at p xs n x at e) where
      go : (b : Bool) → list_any p xs ≡ true → (b || list_any p xs) ≡ true
      go true k = refl
      go false k = k

any-none : {X : Type 0} (p : X → Bool) (xs : List X) → ((n : ℕ) (x : X) → slice_get xs n ≡ Some x → p x ≡ false)
    → list_any p xs ≡ false
any-none p [] none = refl
any-none p (y ∷ xs) none =
    ap (λ (b : Bool). b || list_any p xs) (none 0 y refl) ∙ any-none p xs (λ n. none (suc n))

in-prim : (object prim : ℕ) (w : World) (m : Member) → IsIn object prim m → is_in_prim object prim w m ≡ true
in-prim object prim w m is =
    ap (λ (b : Bool). b && nat_eq m.prim prim) (eq-eqb m.object object is.in_object)
    ∙ eq-eqb m.prim prim is.in_prim

pub touches-prim : TouchesGoToThePrim
touches-prim r w object prim n m at is handles =
    let k : (is_in_prim object prim w m && handles_touch r m) ≡ true
    = ap (λ (b : Bool). b && handles_touch r m) (in-prim object prim w m is) ∙ handles in
    ap (λ (b : Bool). if b then prim else 0)
    (any-at (λ (m : Member). is_in_prim object prim w m && handles_touch r m) w.members n m at k)

pub touches-root : TouchesGoToTheRoot
touches-root r w object prim none =
    ap (λ (b : Bool). if b then prim else 0)
    (any-none (λ (m : Member). is_in_prim object prim w m && handles_touch r m) w.members
    (λ n m at. go n m at (is_in_prim object prim w m) refl))
  where
    go : (n : ℕ) (m : Member) → slice_get w.members n ≡ Some m → (b : Bool) → is_in_prim object prim w m ≡ b
        → (b && handles_touch r m) ≡ false
    go n m at true e =
        let k = and_parts (nat_eq m.object object) (nat_eq m.prim prim) e in
        none n m at (record { in_object = eqb-true m.object object k.0; in_prim = eqb-true m.prim prim k.1 })
    go n m at false e = refl
