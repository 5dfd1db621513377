-- The charge of a machine is that of its frames.
use Rattle.std.proofs.Common.{◌≡◌, ℕ, ◌+◌, List, [], ◌∷◌, ◌++◌, reverse, Some, None, ap, ◌∙◌, arith}
use Rattle.std.proofs.lemmas.List.Sums.{sum_by-cons, sum_by-append}
use Rattle.std.specs.Prelude.{sum_by}
use mathlib.Core.List.{reverse_aux}
use Rattle.lsl_value.specs.declared.tagged.Value.{Value}
use Rattle.lsl_running.specs.declared.kept.Kept.{Kept}
use Rattle.lsl_value.specs.Values.{charge_of}
use Rattle.lsl_code.specs.declared.frames.Frame.{Frame}
use Rattle.lsl_running.specs.Charging.{script_charge, call_charge, charges_of, hold_all}
use Rattle.lsl_code.specs.Bodies.{Body}
use Rattle.lsl_code.specs.Machine.{MachineCall, base, used_in}
use Rattle.lsl_code.specs.Frames.{frame_charge, parked_charge}
use Rattle.lsl_code.specs.Standing.{Stands, Wait, HasFrames}

pub more_charge : (v : Value) (vs : List Value) → charges_of (v ∷ vs) ≡ charge_of v + charges_of vs
more_charge v vs = sum_by-cons charge_of v vs

more_frames : (fr : Frame) (frs : List Frame)
    → sum_by frame_charge (fr ∷ frs) ≡ frame_charge fr + sum_by frame_charge frs
more_frames fr frs = sum_by-cons frame_charge fr frs

hold_sum : (h : ℕ) (ops : List Value) → hold_all h ops ≡ h + charges_of ops
hold_sum h [] = omega arith
hold_sum h (v ∷ ops) = omega (arith, more_charge v ops, hold_sum h ops)

charges_append : (xs ys : List Value) → charges_of (xs ++ ys) ≡ charges_of xs + charges_of ys
charges_append xs ys = sum_by-append charge_of xs ys

charges_aux : (xs ys : List Value) → charges_of (reverse_aux xs ys) ≡ charges_of xs + charges_of ys
charges_aux [] ys = omega arith
charges_aux (x ∷ xs) ys = omega (arith, more_charge x xs, more_charge x ys, charges_aux xs (x ∷ ys))

charges_reverse : (xs : List Value) → charges_of (reverse xs) ≡ charges_of xs
charges_reverse xs = charges_aux xs [] ∙ omega arith

-- one call and its frame
one_charge : (h : ℕ) (c : MachineCall) (fr : Frame) → fr.slots ≡ c.slots ++ reverse c.operands
    → hold_all h c.operands + call_charge + charges_of c.slots ≡ h + frame_charge fr
one_charge h c fr e =
    omega (
      arith,
      hold_sum h c.operands,
      ap charges_of e,
      charges_append c.slots
          (reverse c.operands),
      charges_reverse c.operands,
    )

base_charge : (bs : List Body) (h g : ℕ) (cs : List MachineCall) (frs : List Frame) → Wait bs h cs frs g
    → base cs ≡ script_charge + sum_by frame_charge frs
base_charge bs h g [] [] w = omega arith
base_charge bs h g [] (fr ∷ frs) w = absurd w
base_charge bs h g (c ∷ cs) [] w = absurd w
base_charge bs h g (c ∷ cs) (fr ∷ frs) w =
    let st : Stands bs c w.0 (Some g) fr = w.2 in
    omega (
      arith,
      more_frames fr frs,
      one_charge
          (base cs) c fr st.values,
      base_charge bs h c.function cs frs w.3,
    )

-- the charge of the machine is that of its frames, with 1,024 and the globals
pub machine_charge : (bs : List Body) (h : ℕ) (calls : List MachineCall) (frs : List Frame) (g : Kept)
    → HasFrames bs h calls frs → used_in calls g ≡ parked_charge g.globals frs
machine_charge bs h [] frs g w = absurd w
machine_charge bs h (c ∷ cs) [] g w = absurd w
machine_charge bs h (c ∷ cs) (fr ∷ frs) g w =
    let st : Stands bs c c.place None fr = w.0 in
    omega (
      arith,
      more_frames fr frs,
      one_charge
          (base cs) c fr st.values,
      base_charge bs h c.function cs frs w.1,
    )
