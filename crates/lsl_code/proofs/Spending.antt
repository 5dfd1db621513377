-- The charge of saved calls, one after another.
use Rattle.std.proofs.Common.{◌≡◌, ◌∙◌, ap, arith, ℕ, ◌+◌, ◌<◌, List, take, Option, Some, None, MatchOption, sum_by}
use Rattle.std.specs.Prelude.{slice_get}
use Rattle.std.proofs.lemmas.List.Sums.{sum_by-take-le, sum_by_more}
use Rattle.std.proofs.lemmas.Option.{get_or_from_slice_get, slice_get_within}
use Rattle.lsl_value.specs.declared.tagged.Value.{Value}
use Rattle.lsl_running.specs.Charging.{call_charge, charges_of}
use Rattle.lsl_code.specs.declared.frames.Frame.{Frame}
use Rattle.lsl_code.specs.Frames.{frame_charge, parked_charge}
use Rattle.lsl_code.specs.Saving.{frame_of}

-- a call is charged for its values
pub without_laid : (left held f p : ℕ) (vs : List Value) (r : Option ℕ) → held + call_charge ≡ left
    → MatchOption r (held < charges_of vs) (λ rest. rest + charges_of vs ≡ held)
    → MatchOption r (left < frame_charge (frame_of f p vs)) (λ rest. rest + frame_charge (frame_of f p vs) ≡ left)
without_laid left held f p vs None is h = omega arith
without_laid left held f p vs (Some rest) is h = omega arith

module _ (globals : List Value) (frames : List Frame) (i : ℕ) (frame : Frame) (is : slice_get frames i ≡ Some frame)
  where
    more : sum_by frame_charge (take (i + 1) frames) ≡ sum_by frame_charge (take i frames) + frame_charge frame
    more =
        sum_by_more frame_charge frames i frame (slice_get_within frames i frame is)
        ∙ ap (λ (f : Frame). sum_by frame_charge (take i frames) + frame_charge f)
        (get_or_from_slice_get frames i frame frame is)

    -- one more call is paid
    pub spent_more : (limit left rest : ℕ) → left + parked_charge globals (take i frames) ≡ limit
        → rest + frame_charge frame ≡ left → rest + parked_charge globals (take (i + 1) frames) ≡ limit
    spent_more limit left rest before paid = let m = more in omega arith

    -- one call is more than what is left
    pub spent_over : (limit left : ℕ) → left + parked_charge globals (take i frames) ≡ limit
        → left < frame_charge frame → limit < parked_charge globals frames
    spent_over limit left before over =
        let m = more in
        let all = sum_by-take-le frame_charge frames (i + 1) in
        omega arith
