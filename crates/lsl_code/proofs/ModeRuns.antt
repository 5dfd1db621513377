-- Saving and restoring have one result, and keep what is beside the calls.
use Rattle.std.proofs.Common.{◌≡◌, ℕ, zero, suc, List, [], Option, Some, None, refl, sym, ap, ◌∙◌, subst}
use Rattle.std.specs.Prelude.{option_map, option_and_then}
use Rattle.lsl_code.specs.Machine.{MachineCall, Machine}
use Rattle.lsl_code.specs.Modes.{repeat}
use Rattle.lsl_code.specs.Saving.{saving, save_step, begins_saving}
use Rattle.lsl_code.specs.Restoring.{awake_with, back_step, begins_restoring}
use Rattle.lsl_code.specs.ModeRuns.{Beside, Whole, whole, step_beside, beside_of}
use Rattle.lsl_code.specs.ModeLaws.{OneSaving, SavingKeeps, OneRestoring, RestoringKeeps}
use Rattle.lsl_code.proofs.Repeating.{one_end}

beside_behind : {S : Type 0} (step : S → Option S) (n : ℕ) (x : Beside)
    → ((s : S) → repeat (step_beside step) n (whole x s) ≡ option_map (whole x) (repeat step n s))
    → (o : Option S) → option_and_then (repeat (step_beside step) n) (option_map (whole x) o)
    ≡ option_map (whole x) (option_and_then (repeat step n) o)
beside_behind step n x h None = refl
beside_behind step n x h (Some s) = h s

-- a run beside these is the run alone
pub runs_beside : {S : Type 0} (step : S → Option S) (n : ℕ) (x : Beside) (s : S)
    → repeat (step_beside step) n (whole x s) ≡ option_map (whole x) (repeat step n s)
runs_beside step zero x s = refl
runs_beside step (suc n) x s = beside_behind step n x (runs_beside step n x) (step s)

kept_whole : {S : Type 0} (x : Beside) (o : Option S) (v : Whole S) → option_map (whole x) o ≡ Some v
    → v.beside ≡ x
kept_whole x None v e = cc
kept_whole x (Some s) v e = let same : whole x s ≡ v = cc in sym (ap (λ w. w.beside) same)

-- whatever state such a run reaches
pub beside_kept : {S : Type 0} (step : S → Option S) (n : ℕ) (x : Beside) (s : S) (v : Whole S)
    → repeat (step_beside step) n (whole x s) ≡ Some v → v.beside ≡ x
beside_kept step n x s v e = kept_whole x (repeat step n s) v (sym (runs_beside step n x s) ∙ e)

pub saving_keeps : SavingKeeps
saving_keeps bodies m frames x r =
    beside_kept (save_step bodies) r.0 (beside_of m) (begins_saving m.calls)
    (whole x (saving [] [] frames)) r.1

pub restoring_keeps : RestoringKeeps
restoring_keeps bodies h frames x m n r =
    beside_kept (back_step bodies) n x (begins_restoring h r.0 frames)
    (whole (beside_of m) (awake_with m.calls r.1 [] [])) r.3

pub one_saving : OneSaving
one_saving bodies m a b x y r s =
    let e = one_end (step_beside (save_step bodies)) r.0 s.0 (whole (beside_of m) (begins_saving m.calls))
    (whole x (saving [] [] a)) (whole y (saving [] [] b)) r.1 refl s.1 refl in
    (ap (λ w. w.part.sack) e.1, ap (λ w. w.beside) e.1)

abbrev machine_of : List MachineCall → Beside → Machine
machine_of calls x = record { kept = x.kept; calls = calls; answers = x.answers }

pub one_restoring : OneRestoring
one_restoring bodies h frames x m m' n n' r s =
    let same : r.0 ≡ s.0 = cc (r.2, s.2) in
    let first = subst (λ c. repeat (step_beside (back_step bodies)) n (whole x (begins_restoring h c frames))
    ≡ Some (whole (beside_of m) (awake_with m.calls r.1 [] []))) same r.3 in
    let e = one_end (step_beside (back_step bodies)) n n' (whole x (begins_restoring h s.0 frames))
    (whole (beside_of m) (awake_with m.calls r.1 [] []))
    (whole (beside_of m') (awake_with m'.calls s.1 [] [])) first refl s.3 refl in
    (ap (λ w. machine_of w.part.calls w.beside) e.1, e.0)
