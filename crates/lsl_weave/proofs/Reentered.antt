-- A frame that is restored is at its point, with values of its kinds.
use Rattle.std.proofs.Common.{◌≡◌, ℕ, zero, suc, ◌≤◌, List, [], ◌∷◌, Option, Some, None, refl, sym, ap, ◌∙◌, subst, arith}
use Rattle.std.specs.Prelude.{slice_get, option_map, option_and_then}
use Rattle.lsl_value.specs.declared.tagged.Value.{Value}
use Rattle.lsl_code.specs.declared.frames.Frame.{Frame}
use Rattle.lsl_code.specs.Bodies.{Body, instruction_in}
use Rattle.lsl_code.specs.Machine.{MachineCall}
use Rattle.lsl_code.specs.Modes.{repeat}
use Rattle.lsl_code.specs.Restoring.{Restoring, restoring, awake_with, blank, BackAct, Moves, Reenters, Wakes, NoBack, back_act, back_after, back_step}
use Rattle.lsl_code.proofs.Repeating.{first_then}
use Rattle.lsl_weave.proofs.BackKept.{OnBack, BackEnds, BackGoesOn}
use Rattle.lsl_weave.proofs.BackOn.{back_goes_on, back_not_over}

-- what follows the end of a call's way: the called function is entered, or restoring ends
abbrev pub after_end : List Body → Option ℕ → MachineCall → List MachineCall → ℕ → List Frame
    → Option Restoring
after_end bodies (Some g) c rest point left =
    option_map (λ callee. restoring (blank g callee ∷ c ∷ rest) point [] left) (slice_get bodies g)
after_end bodies None c rest point left = Some (awake_with (c ∷ rest) point [] left)

-- within n instructions the call is restored, and these frames are left
pub record IsReentered (bodies : List Body) (n : ℕ) (left : List Frame) (callee : Option ℕ) (c : MachineCall)
    (point : ℕ) (hand : List Value) (sack : List Frame) : Type 0 where
  pub steps : ℕ
  pub few : steps ≤ n
  pub call : MachineCall
  pub at : ℕ
  pub function_is : call.function ≡ c.function
  pub ends : BackEnds bodies call callee
  pub ran : (rest : List MachineCall) → repeat (back_step bodies) steps (restoring (c ∷ rest) point hand sack)
      ≡ after_end bodies callee call rest at left

one_step : {S : Type 0} (step : S → Option S) (s : S) (o : Option S) → step s ≡ o → repeat step 1 s ≡ o
one_step step s None e = ap (option_and_then (repeat step 0)) e
one_step step s (Some t) e = first_then step 0 s t (Some t) e refl

module _ (bodies : List Body) (w : Body) (left : List Frame) (callee : Option ℕ) where
  step_is : (c : MachineCall) (point : ℕ) (hand : List Value) (sack : List Frame)
      → slice_get bodies c.function ≡ Some w → (rest : List MachineCall)
      → back_step bodies (restoring (c ∷ rest) point hand sack)
      ≡ back_after bodies (back_act (Some w) (slice_get w.code c.place) c point hand sack) rest point hand
      sack
  step_is c point hand sack found rest =
      ap (λ o. back_after bodies (back_act o (instruction_in o c.place) c point hand sack) rest point hand
      sack) found

  by_act : (n : ℕ) (c : MachineCall) (point : ℕ) (hand : List Value) (sack : List Frame) (a : BackAct)
      → BackGoesOn bodies w n left callee c.function hand sack a
      → ((rest : List MachineCall) → back_step bodies (restoring (c ∷ rest) point hand sack)
      ≡ back_after bodies a rest point hand sack)
      → ((c' : MachineCall) (point' : ℕ) (hand' : List Value) (sack' : List Frame) → c'.function ≡ c.function
      → OnBack w n left callee c' point' hand' sack' → IsReentered bodies n left callee c' point' hand' sack')
      → IsReentered bodies (suc n) left callee c point hand sack
  by_act n c point hand sack (Moves c' point' hand' sack') g step more =
      let r = more c' point' hand' sack' g.0 g.1 in
      record {
        steps = suc r.steps;
        few = omega (arith, r.few);
        call = r.call;
        at = r.at;
        function_is = r.function_is ∙ g.0;
        ends = r.ends;
        ran = λ rest. first_then (back_step bodies) r.steps (restoring (c ∷ rest) point hand sack)
            (restoring (c' ∷ rest) point' hand' sack') _ (step rest) (r.ran rest);
      }
  by_act n c point hand sack (Reenters g c') on step more =
      record {
        steps = 1;
        few = omega arith;
        call = c';
        at = point;
        function_is = on.0;
        ends = subst (BackEnds bodies c') (sym on.3) on.4;
        ran = λ rest. one_step (back_step bodies) (restoring (c ∷ rest) point hand sack) _
            (step rest ∙ entered rest);
      }
    where
      entered : (rest : List MachineCall)
          → back_after bodies (Reenters g c') rest point hand sack
          ≡ after_end bodies callee c' rest point left
      entered rest =
          ap (λ h. back_after bodies (Reenters g c') rest point h sack) on.1
          ∙ ap (λ s. back_after bodies (Reenters g c') rest point [] s) on.2
          ∙ ap (λ o. after_end bodies o c' rest point left) (sym on.3)
  by_act n c point hand sack (Wakes c') on step more =
      record {
        steps = 1;
        few = omega arith;
        call = c';
        at = point;
        function_is = on.0;
        ends = subst (BackEnds bodies c') (sym on.3) on.4;
        ran = λ rest. one_step (back_step bodies) (restoring (c ∷ rest) point hand sack) _
            (step rest ∙ woken rest);
      }
    where
      woken : (rest : List MachineCall) → back_after bodies (Wakes c') rest point hand sack
          ≡ after_end bodies callee c' rest point left
      woken rest =
          ap (λ h. back_after bodies (Wakes c') rest point h sack) on.1
          ∙ ap (λ s. back_after bodies (Wakes c') rest point [] s) on.2
          ∙ ap (λ o. after_end bodies o c' rest point left) (sym on.3)
  by_act n c point hand sack NoBack on step more = absurd on

  pub reentered : (n : ℕ) (c : MachineCall) (point : ℕ) (hand : List Value) (sack : List Frame)
      → slice_get bodies c.function ≡ Some w → OnBack w n left callee c point hand sack
      → IsReentered bodies n left callee c point hand sack
  reentered zero c point hand sack found on = absurd (back_not_over w left callee c point hand sack on)
  reentered (suc n) c point hand sack found on =
      by_act n c point hand sack (back_act (Some w) (slice_get w.code c.place) c point hand sack)
      (back_goes_on bodies w n left callee c point hand sack found on) (step_is c point hand sack found)
      (λ c' point' hand' sack' same on'.
      reentered n c' point' hand' sack' (ap (slice_get bodies) same ∙ found) on')
