-- What was appended, piece by piece and one for each of a list.
use Rattle.std.proofs.Common.{◌≡◌, ◌∙◌, refl, sym, ap, subst, arith, ℕ, zero, suc, ◌+◌, ◌*◌, ◌<◌, ◌≤◌, List, [], ◌∷◌, ◌++◌, length, take, get_or, append_assoc, Result, Ok, Err, OnOk, Some, slice_get, sum_by}
use Rattle.std.proofs.lemmas.Option.{slice_get_read}
use Rattle.std.specs.List.{flat_map, AllByRecursion}
use Rattle.std.proofs.lemmas.List.{append-nil}
use Rattle.std.proofs.lemmas.List.Sums.{sum_by-cons}
use Rattle.std.proofs.lemmas.Grind.{flat_map-append}
use Rattle.lsl_value.specs.declared.tagged.Value.{Value}
use Rattle.lsl_running.specs.Charging.{default_limit}
use Rattle.lsl_code.specs.declared.frames.Frame.{Frame}
use Rattle.lsl_code.specs.declared.woven_units.Woven.{Woven as Code}
use Rattle.lsl_code.specs.Frames.{frame_charge, parked_charge}
use Rattle.lsl_post.specs.declared.parts.Rest.{Rest}
use Rattle.lsl_post.specs.declared.parts.Rest.TheVariants.{Idle, Saved, Dead}
use Rattle.lsl_post.specs.declared.parts.ScriptParts.{ScriptParts}
use Rattle.lsl_post.specs.Fitting.{CanRest}
use Rattle.lsl_post.proofs.Places.{take-at}
use Rattle.lsl_image.specs.Valid.{HasFewCalls, HasUnit}

appended : (old mid new a b : List ℕ) → mid ≡ old ++ a → new ≡ mid ++ b → new ≡ old ++ (a ++ b)
appended old mid new a b first then =
    then ∙ ap (λ (t : List ℕ). t ++ b) first ∙ append_assoc old a b

-- several pieces, the last by a call that may run out of memory
pub appended-four : {T E : Type 0} (r : Result T E) (old m n o new a b c d : List ℕ) → m ≡ old ++ a → n ≡ m ++ b
    → o ≡ n ++ c → OnOk r (new ≡ o ++ d) → OnOk r (new ≡ old ++ (a ++ b ++ c ++ d))
appended-four (Ok x) old m n o new a b c d first second third last =
    simp append_assoc (appended old m new a (b ++ (c ++ d)) first (appended m n new b (c ++ d) second
    (appended n o new c d third last)))
appended-four (Err e) old m n o new a b c d first second third last = tt

pub appended-six : {T E : Type 0} (r : Result T E) (old m n o p q new a b c d e f : List ℕ) → m ≡ old ++ a
    → n ≡ m ++ b → o ≡ n ++ c → p ≡ o ++ d → q ≡ p ++ e → OnOk r (new ≡ q ++ f)
    → OnOk r (new ≡ old ++ (a ++ b ++ c ++ d ++ e ++ f))
appended-six (Ok x) old m n o p q new a b c d e f first second third fourth fifth last =
    simp append_assoc (appended old m new a (b ++ (c ++ (d ++ (e ++ f)))) first
    (appended m n new b (c ++ (d ++ (e ++ f))) second (appended n o new c (d ++ (e ++ f)) third
    (appended o p new d (e ++ f) fourth (appended p q new e f fifth last)))))
appended-six (Err x) old m n o p q new a b c d e f first second third fourth fifth last = tt

module _ {X : Type 0} where
  flat_map-push : (f : X → List ℕ) (xs : List X) (x : X) → flat_map f (xs ++ x ∷ []) ≡ flat_map f xs ++ f x
  flat_map-push f xs x = flat_map-append f xs (x ∷ []) ∙ ap (λ (t : List ℕ). flat_map f xs ++ t) (append-nil (f x))

  -- one more of them was appended
  pub wrote-at : (f : X → List ℕ) (xs : List X) (i : ℕ) (x : X) (start now new : List ℕ) → Some x ≡ slice_get xs i
      → now ≡ start ++ flat_map f (take i xs) → new ≡ now ++ f x → new ≡ start ++ flat_map f (take (i + 1) xs)
  wrote-at f xs i x start now new is before more =
      appended start now new (flat_map f (take i xs)) (f x) before more
      ∙ ap (λ (t : List ℕ). start ++ t)
      (sym (ap (flat_map f) (take-at xs i x is) ∙ flat_map-push f (take i xs) x))

  each-push : (P : X → Type 0) (xs : List X) (x : X) → AllByRecursion P xs → P x → AllByRecursion P (xs ++ x ∷ [])
  each-push P [] x all one = (one, tt)
  each-push P (y ∷ xs) x all one = (all.0, each-push P xs x all.1 one)

  pub fits-at : (P : X → Type 0) (xs : List X) (i : ℕ) (x : X) → Some x ≡ slice_get xs i
      → AllByRecursion P (take i xs) → P x → AllByRecursion P (take (i + 1) xs)
  fits-at P xs i x is all one = subst (AllByRecursion P) (sym (take-at xs i x is)) (each-push P (take i xs) x all one)

  -- an item is what is at its place
  pub item-at : (xs : List X) (i : ℕ) (x : X) → i < length xs → x ≡ get_or xs i x → Some x ≡ slice_get xs i
  item-at xs i x within is = sym (slice_get_read xs (length xs) i x refl within is)

  -- what holds of each holds of the one at a place
  pub each-at : (P : X → Type 0) (xs : List X) (i : ℕ) (x : X) → AllByRecursion P xs → i < length xs
      → x ≡ get_or xs i x → P x
  each-at P [] i x all within is = absurd (omega (arith, within))
  each-at P (y ∷ xs) zero x all within is = subst P (sym is) all.0
  each-at P (y ∷ xs) (suc i) x all within is = each-at P xs i x all.1 (omega (arith, within)) is

-- calls within a limit are few
frames-charged : (frames : List Frame) → 32 * length frames ≤ sum_by frame_charge frames
frames-charged [] = omega arith
frames-charged (f ∷ frames) = omega (arith, frames-charged frames, sum_by-cons frame_charge f frames)

calls-few : (globals : List Value) (frames : List Frame) (limit : ℕ) → parked_charge globals frames ≤ limit
    → limit ≤ 65536 → length frames < 65536
calls-few globals frames limit within most = omega (arith, frames-charged frames)

rest-few : (unit : Code) (s : ScriptParts) (rest : Rest) → s.limit ≤ default_limit
    → CanRest unit s.state s.leaving s.globals s.limit rest → HasFewCalls rest
rest-few unit s Idle most may = tt
rest-few unit s (Saved e frames) most may = calls-few s.globals frames s.limit may.2.1 most
rest-few unit s (Dead fault) most may = tt

pub script-few : (library : List Code) (s : ScriptParts) → HasUnit library s → HasFewCalls s.rest
script-few library s has = rest-few has.unit s s.rest has.script.limit has.script.rest
