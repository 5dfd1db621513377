-- The charge of values, saturated at 64 bits.
use Rattle.std.proofs.Common.{◌≡◌, refl, ap, sym, subst, arith, ℕ, List, [], ◌∷◌, ◌++◌, sum_by}
use Rattle.std.proofs.lemmas.List.Sums.{sum_by_push}
use Rattle.lsl_value.specs.Values.{charge_of}
use Rattle.lsl_value.specs.declared.tagged.Value.{Value}
use Rattle.lsl_running.specs.Charging.{charged_with, charges_of}
use Rattle.lsl_code.specs.declared.frames.Frame.{Frame}
use Rattle.lsl_code.specs.Frames.{frame_charge, parked_charge}

-- one value more is charged
pub charged-more : (before charged : ℕ) (values more : List Value) (value : Value) (charge sum : ℕ)
    → more ≡ values ++ value ∷ [] → charge ≡ charge_of value → sum ≡ charged_with charged charge
    → charged ≡ charged_with before (charges_of values) → sum ≡ charged_with before (charges_of more)
charged-more before charged values more value charge sum is one added so =
    let pushed = sum_by_push charge_of values value in
    let all = ap charges_of is in
    omega (arith, pushed, all, one, added, so)

-- no frame is charged so far
pub frames-none : (frames : List Frame) → frames ≡ [] → 0 ≡ charged_with 0 (sum_by frame_charge frames)
frames-none frames none = subst (λ (fs : List Frame). 0 ≡ charged_with 0 (sum_by frame_charge fs)) (sym none) refl

-- one frame more is charged
pub frames-more : (before charged : ℕ) (frames more : List Frame) (frame : Frame) (sum : ℕ)
    → more ≡ frames ++ frame ∷ [] → sum ≡ charged_with charged (frame_charge frame)
    → charged ≡ charged_with before (sum_by frame_charge frames) → sum ≡ charged_with before (sum_by frame_charge more)
frames-more before charged frames more frame sum is added so =
    let pushed = sum_by_push frame_charge frames frame in
    let all = ap (sum_by frame_charge) is in
    omega (arith, pushed, all, added, so)

-- the globals are charged first, and then the frames
pub charged-all : (globals shown : List Value) (frames : List Frame) (start charged : ℕ) → shown ≡ globals
    → start ≡ charged_with 1024 (charges_of shown) → charged ≡ charged_with start (sum_by frame_charge frames)
    → charged ≡ charged_with 0 (parked_charge globals frames)
charged-all globals shown frames start charged same first more =
    let all = ap charges_of same in
    omega (arith, all, first, more)
