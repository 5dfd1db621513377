-- Moments passed from the last one back.
use Rattle.std.proofs.Common.{◌≡◌, ℕ, zero, suc, ◌+◌, ◌-◌, ◌<◌, ◌≤◌, List, [], ◌∷◌, length, take, drop, get_or, min, Some, refl, ⊎_elim, sym, ap, ◌∙◌, arith}
use Rattle.std.proofs.lemmas.Bool.{cases_lt}
use Rattle.std.proofs.lemmas.List.{get_or-take, length-take, take-take, take_min}
use Rattle.std.proofs.lemmas.Option.{slice_get-get_or, slice_get_past}
use Rattle.lsl_seek.specs.Moments.{Moment, marks_of, moment_of, moments, onto, up_to}
use Rattle.lsl_seek.specs.declared.trace.Trace.{Trace}
use Rattle.lsl_seek.proofs.Watching.{length-moments, moment-here, up_to-more}

-- more than all are all
pub up_to-past : (ms : List Moment) (n : ℕ) → up_to ms (min n (length ms)) ≡ up_to ms n
unfolding up_to
up_to-past ms zero = let e : min 0 (length ms) ≡ 0 = omega arith in ap (up_to ms) e
up_to-past ms (suc n) = ⊎_elim
    (λ lt. let e : min (suc n) (length ms) ≡ suc n = omega arith in ap (up_to ms) e)
    (λ le. let e : min (suc n) (length ms) ≡ min n (length ms) = omega arith in
    ap (up_to ms) e ∙ (up_to-past ms n ∙ sym (ap (λ o. onto o (up_to ms n)) (slice_get_past ms n le))))
    (cases_lt n (length ms))

-- the first places, as many as there are of them
pub places-taken : (items : List ℕ) (n : ℕ) → take n items ≡ take (length (take n items)) items
places-taken items n = sym (take_min n items) ∙ ap (λ k. take k items) (sym (length-take n items))

pub up_to-taken : (trace : Trace) (n : ℕ) (rest : List ℕ) → rest ≡ take n trace.places.items
    → up_to (moments trace) (length rest) ≡ up_to (moments trace) n
up_to-taken trace n rest is =
    let count : length rest ≡ min n (length (moments trace)) = omega (arith, ap length is, length-take n trace.places.items, length-moments trace) in
    ap (up_to (moments trace)) count ∙ up_to-past (moments trace) n

pub no_place : (ms : List Moment) (n : ℕ) → n < 1 → up_to ms n ≡ []
unfolding up_to
no_place ms zero h = refl
no_place ms (suc n) h = absurd (omega arith)

-- the last of these places, and the ones before it
module _ (trace : Trace) (rest : List ℕ) (at : ℕ) (some : 1 ≤ length rest) (is : rest ≡ take (length rest) trace.places.items)
    (last : at ≡ get_or rest (length rest - 1) 0) where
  pub last-passed : up_to (moments trace) (length rest)
      ≡ moment_of (marks_of trace) (drop at trace.text.now) ∷ up_to (moments trace) (length rest - 1)
  last-passed =
      let k = length rest - 1 in
      let low : k < length rest = omega arith in
      let bound : k < length trace.places.items = omega (arith, ap length is, length-take (length rest) trace.places.items) in
      let place : get_or trace.places.items k 0 ≡ at =
      sym (get_or-take (length rest) trace.places.items k 0 low) ∙ (ap (λ (xs : List ℕ). get_or xs k 0) (sym is) ∙ sym last) in
      let here = moment-here trace k at (slice_get-get_or trace.places.items k 0 bound ∙ ap (λ i. Some i) place) in
      let count : length rest ≡ k + 1 = omega arith in
      ap (up_to (moments trace)) count ∙ up_to-more (moments trace) k (moment_of (marks_of trace) (drop at trace.text.now)) here

  pub before-last : (more : List ℕ) → more ≡ take (length rest - 1) rest
      → (more ≡ take (length more) trace.places.items) × (length more ≡ length rest - 1)
  before-last more h =
      let k = length rest - 1 in
      let low : k ≤ length rest = omega arith in
      let count : length more ≡ k = omega (arith, ap length h, length-take k rest) in
      (h ∙ (ap (take k) is ∙ (take-take k (length rest) trace.places.items low ∙ ap (λ n. take n trace.places.items) (sym count))), count)
