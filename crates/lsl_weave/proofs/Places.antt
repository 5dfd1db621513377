-- The table of the places of points, filled from the code's end.
use Rattle.std.proofs.Common.{◌≡◌, ℕ, zero, suc, ◌+◌, ◌-◌, ◌<◌, List, [], ◌∷◌, length, drop, get_or, Some, Bool, true, false, cond, refl, sym, ap, ◌∙◌, arith, slice_get, slice_set}
use Rattle.std.specs.Prelude.{nat_eq, replicate}
use Rattle.std.proofs.lemmas.List.{get_or-replicate, length-replicate}
use Rattle.std.proofs.lemmas.Option.{slice_get-get_or, slice_get_within}
use Rattle.lsl_code.specs.declared.instructions.Instr.{Instr}
use Rattle.lsl_code.specs.declared.instructions.Instr.TheVariants.{Tick, Call}
use Rattle.lsl_code.proofs.Fitting.{one_off}
use Rattle.lsl_code.proofs.Sames.{eq_is}
use Rattle.lsl_code.proofs.Tested.{eq_self}
use Rattle.lsl_weave.specs.Layout.{has_point, place_of}
use Rattle.lsl_weave.specs.Tables.{with_place}

get_set_same : (xs : List ℕ) (k v : ℕ) → k < length xs → slice_get (slice_set xs k v) k ≡ Some v
get_set_same [] k v lt = absurd (omega arith)
get_set_same (x ∷ xs) zero v lt = refl
get_set_same (x ∷ xs) (suc k) v lt = get_set_same xs k v (omega arith)

get_set_other : (xs : List ℕ) (j k v : ℕ) → (k ≡ j → ⊥) → slice_get (slice_set xs j v) k ≡ slice_get xs k
get_set_other [] zero k v e = refl
get_set_other [] (suc j) k v e = refl
get_set_other (x ∷ xs) zero zero v e = absurd (e refl)
get_set_other (x ∷ xs) zero (suc k) v e = refl
get_set_other (x ∷ xs) (suc j) zero v e = refl
get_set_other (x ∷ xs) (suc j) (suc k) v e = get_set_other xs j k v (λ same. e (ap suc same))

differ : (p q : ℕ) → nat_eq p q ≡ false → p ≡ q → ⊥
differ p q e same =
    let never : true ≡ false = sym (eq_self p) ∙ ap (nat_eq p) same ∙ e in
    absurd cc

drop_all : {A : Type 0} (xs : List A) → drop (length xs) xs ≡ []
drop_all [] = refl
drop_all (x ∷ xs) = drop_all xs

pub places_start : (code : List Instr) (points end : ℕ) (items : List ℕ) → items ≡ replicate points end
    → end ≡ 0 + length code
    → (p : ℕ) → p < points → slice_get items p
    ≡ Some (length code - 0 + place_of p (drop (length code - 0) code))
places_start code points end items e is p lt =
    let z : length code - 0 ≡ length code = omega arith in
    let none : place_of p (drop (length code - 0) code) ≡ 0 = ap (λ n. place_of p (drop n code)) z
    ∙ ap (place_of p) (drop_all code) in
    let all : end ≡ length code - 0 + place_of p (drop (length code - 0) code) = omega (arith, none, is) in
    let long : p < length (replicate points end) = omega (arith, lt, length-replicate points end) in
    ap (λ l. slice_get l p) e ∙ slice_get-get_or (replicate points end) p end long
    ∙ ap Some (get_or-replicate points p end end lt ∙ all)

-- one instruction more, before those that were seen
placed_more : (i : Instr) (items : List ℕ) (k p n : ℕ) → slice_get items p ≡ Some (suc k + n)
    → slice_get (with_place items i k) p ≡ Some (k + cond (has_point p i) 0 (suc n))
placed_more (Tick q) items k p n h = by_test (nat_eq p q) refl
  where
    by_test : (b : Bool) → nat_eq p q ≡ b → slice_get (slice_set items q k) p ≡ Some (k + cond b 0 (suc n))
    by_test true e =
        let z : k ≡ k + 0 = omega arith in
        let same = eq_is p q e in
        ap (λ x. slice_get (slice_set items x k) p) (sym same)
        ∙ get_set_same items p k (slice_get_within items p _ h) ∙ ap Some z
    by_test false e = let z : suc k + n ≡ k + suc n = omega arith in get_set_other items q p k (differ p q e)
        ∙ h ∙ ap Some z
placed_more (Call f q) items k p n h = by_test (nat_eq p q) refl
  where
    by_test : (b : Bool) → nat_eq p q ≡ b → slice_get (slice_set items q k) p ≡ Some (k + cond b 0 (suc n))
    by_test true e =
        let z : k ≡ k + 0 = omega arith in
        let same = eq_is p q e in
        ap (λ x. slice_get (slice_set items x k) p) (sym same)
        ∙ get_set_same items p k (slice_get_within items p _ h) ∙ ap Some z
    by_test false e = let z : suc k + n ≡ k + suc n = omega arith in get_set_other items q p k (differ p q e)
        ∙ h ∙ ap Some z
placed_more i items k p n h = let z : suc k + n ≡ k + suc n = omega arith in h ∙ ap Some z

pub places_more : (code : List Instr) (i points : ℕ) (x : Instr) (items items' : List ℕ) → i < length code
    → x ≡ get_or code (length code - 1 - i) x → items' ≡ with_place items x (length code - 1 - i)
    → ((p : ℕ) → p < points → slice_get items p
    ≡ Some (length code - i + place_of p (drop (length code - i) code)))
    → (p : ℕ) → p < points
    → slice_get items' p ≡ Some (length code - (i + 1) + place_of p (drop (length code - (i + 1)) code))
places_more code i points x items items' lt is e h p within =
    let k = length code - (i + 1) in
    let at : length code - 1 - i ≡ k = omega arith in
    let next : length code - i ≡ suc k = omega arith in
    let more : k + 1 ≡ suc k = omega arith in
    let inside : k < length code = omega arith in
    let front = one_off code k x inside (is ∙ ap (λ n. get_or code n x) at) in
    let front' : drop k code ≡ x ∷ drop (suc k) code = front ∙ ap (λ n. x ∷ drop n code) more in
    let before : slice_get items p ≡ Some (suc k + place_of p (drop (suc k) code)) =
    h p within ∙ ap (λ n. Some (n + place_of p (drop n code))) next in
    ap (λ l. slice_get l p) (e ∙ ap (with_place items x) at)
    ∙ placed_more x items k p (place_of p (drop (suc k) code)) before
    ∙ ap (λ l. Some (k + place_of p l)) (sym front')

pub places_end : (code : List Instr) (i points : ℕ) (items : List ℕ) → i ≡ length code
    → ((p : ℕ) → p < points → slice_get items p
    ≡ Some (length code - i + place_of p (drop (length code - i) code)))
    → (p : ℕ) → p < points → slice_get items p ≡ Some (place_of p code)
places_end code i points items e h p within =
    let z : length code - i ≡ 0 = omega (arith, e) in
    let zero_more : 0 + place_of p code ≡ place_of p code = omega arith in
    h p within ∙ ap (λ n. Some (n + place_of p (drop n code))) z ∙ ap Some zero_more
