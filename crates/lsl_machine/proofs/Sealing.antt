-- The current call of a saver.
use Rattle.std.proofs.Common.{◌≡◌, ◌∙◌, sym, ap, subst, arith, ℕ, suc, ◌+◌, ◌<◌, List, ◌++◌, length, reverse, take, Some, true}
use Rattle.std.specs.Prelude.{slice_get, nat_lt}
use Rattle.std.proofs.lemmas.Option.{slice_get_within}
use Rattle.std.proofs.lemmas.Bool.Decides.{nat_tests}
use Rattle.std.proofs.lemmas.List.{append_assoc}
use Rattle.lsl_value.specs.declared.tagged.Value.{Value}
use Rattle.lsl_code.specs.declared.frames.Frame.{Frame}
use Rattle.lsl_code.specs.declared.instructions.Instr.{Instr}
use Rattle.lsl_code.specs.declared.woven_units.Woven.{Woven}
use Rattle.lsl_code.specs.Bodies.{Body}
use Rattle.lsl_code.specs.Machine.{MachineCall}
use Rattle.lsl_code.specs.Saving.{frame_of, save_act}
use Rattle.lsl_code.specs.Weaves.{bodies_of}
use Rattle.lsl_code.proofs.Sames.{both_true}
use Rattle.lsl_weave.proofs.SavingOn.{function_ok, kept_ok}
use Rattle.lsl_machine.specs.declared.saving.Saver.{Saver}
use Rattle.lsl_machine.specs.CallsSaved.{HasCall, CanSeal, DidKeep, IsFrameOf, call_of, low_of}
use Rattle.lsl_machine.proofs.Keeping.{IsSealing, with_slots, begins_sealing, is_sealed}
use Rattle.lsl_machine.proofs.Leaving.{take_front}

-- a call lies above these values
pub low_is : (s : Saver) (low : List Value) (c : MachineCall) (hand : List Value) → HasCall s low c hand
    → low_of s ≡ low
low_is s low c hand h =
    ap (λ n. take n s.stack.items) h.base
    ∙ ap (take (length low)) (h.stack ∙ append_assoc low c.slots (reverse c.operands))
    ∙ take_front low (c.slots ++ reverse c.operands)

frame_same : (f p : ℕ) (values : List Value) (fr : Frame) → fr.function ≡ f → fr.point ≡ p → fr.slots ≡ values
    → frame_of f p values ≡ fr
frame_same f p values fr a b c =
    ap (λ x. frame_of x p values) (sym a) ∙ ap (λ x. frame_of fr.function x values) (sym b)
    ∙ ap (λ x. frame_of fr.function fr.point x) (sym c)

module _ (unit : Woven) (s : Saver) (can : CanSeal (bodies_of unit) s) where
  -- the way begins
  pub begins : (w : Body) → slice_get (bodies_of unit) s.active.function ≡ Some w
      → IsSealing (bodies_of unit) w (call_of s) (low_of s) (length w.code) s
  begins w found =
      let fit = can.1.4 in
      let same : fit.body ≡ w = cc (fit.found, found) in
      subst (λ (b : Body). IsSealing (bodies_of unit) b (call_of s) (low_of s) (length b.code) s) same
      (begins_sealing (bodies_of unit) s (low_of s) (call_of s) can.1.0 can.1.1 can.1.2 fit can.1.3
      (kept_ok unit.globals unit.states (bodies_of unit) unit.woven s.active.function fit.body fit.found) can.0)

is_less : (m n : ℕ) → nat_lt m n ≡ true → m < n
is_less m n e = grind (arith, nat_tests)

-- a place of woven code can be numbered
pub place_short : (unit : Woven) (f : ℕ) (w : Body) (place : ℕ) (i : Instr) → slice_get (bodies_of unit) f ≡ Some w
    → slice_get w.code place ≡ Some i → place + 1 < 4294967296
place_short unit f w place i found here =
    let short : length w.code < 4294967296 = is_less (length w.code) 4294967296
    (both_true _ _ (both_true _ _
    (function_ok unit.globals unit.states (bodies_of unit) unit.woven f w found)).0).1 in
    let within = slice_get_within w.code place i here in
    omega arith

-- the frame that the saver closes then
pub closes : (bodies : List Body) (w : Body) (start : MachineCall) (low : List Value) (n : ℕ) (s t : Saver)
    (x : IsSealing bodies w start low (suc n) s) → slice_get bodies start.function ≡ Some w → (i : Instr)
    → slice_get w.code s.active.place ≡ Some i → (q : ℕ)
    → DidKeep i low (with_slots x.c x.slots) x.hand (save_act (Some i) (with_slots x.c x.slots) x.hand) (Some q) t
    → (fr : Frame) → fr.function ≡ t.active.function → fr.point ≡ q → fr.slots ≡ t.pack.hand
    → IsFrameOf bodies start fr
closes bodies w start low n s t x found i here q d fr f p v =
    let r = is_sealed bodies w start low n s x found i here q t d in
    let same = frame_same x.c.function q x.hand fr (f ∙ r.0.function) p
    (v ∙ r.0.in_hand) in
    subst (IsFrameOf bodies start) same r.1
