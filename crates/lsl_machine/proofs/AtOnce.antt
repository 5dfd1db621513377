-- Calls that were laid out are those that restoring ends with.
use Rattle.std.proofs.Common.{◌≡◌, ◌∙◌, sym, ap, subst, arith, ℕ, ◌≤◌, List, [], ◌∷◌, ◌++◌, vec_capacity}
use Rattle.std.specs.Prelude.{option_map}
use Rattle.lsl_running.specs.declared.kept.Kept.{Kept}
use Rattle.lsl_running.specs.Charging.{default_limit}
use Rattle.lsl_code.specs.declared.frames.Frame.{Frame}
use Rattle.lsl_code.specs.declared.woven_units.Woven.{Woven}
use Rattle.lsl_code.specs.Bodies.{Body}
use Rattle.lsl_code.specs.Frames.{AreValid, points_of}
use Rattle.lsl_code.specs.Machine.{Machine}
use Rattle.lsl_code.specs.ModeRuns.{BackRun, whole}
use Rattle.lsl_code.specs.Restoring.{back_step, begins_restoring}
use Rattle.lsl_code.specs.Weaves.{bodies_of}
use Rattle.lsl_code.proofs.ModeRuns.{runs_beside}
use Rattle.lsl_machine.specs.declared.layouts.Layout.{Layout}
use Rattle.lsl_machine.specs.declared.running.Running.{Running}
use Rattle.lsl_machine.specs.CallsRestored.{IsRestored, beside}
use Rattle.lsl_machine.specs.Laid.{Lays, activation, activations, machine_of}
use Rattle.lsl_machine.specs.Layouts.{HasLayout, IsLayout}
use Rattle.lsl_machine.specs.Rooms.{IsReserved}
use Rattle.lsl_machine.proofs.BackCharged.{restored_charge}
use Rattle.lsl_machine.proofs.Laying.{last_same}
use Rattle.lsl_machine.proofs.Reserving.{reserved_more}
use Rattle.lsl_machine.proofs.Returning.{body_there, run_short}
use Rattle.lsl_machine.proofs.Viewing.{machine_view}
use Rattle.lsl_machine.proofs.Waking.{uncapped}

module _ (unit : Woven) (handler : ℕ) (frames : List Frame) (kept : Kept)
    (valid : AreValid (points_of (bodies_of unit)) handler kept.globals kept.limit frames)
    (small : kept.limit ≤ default_limit) (l : Layout) (x : IsLayout (bodies_of unit) handler frames l) where
  abbrev bodies : List Body
  bodies = bodies_of unit

  abbrev machine : Machine
  machine = record { kept = kept; calls = x.c ∷ x.outer; answers = [] }

  run : BackRun bodies handler frames (beside kept) machine l.steps
  run =
      let b = body_there unit handler frames kept valid small in (
        b.0,
        x.point,
        b.1,
        runs_beside (back_step bodies) l.steps (beside kept) (begins_restoring handler b.0 frames)
            ∙ ap (option_map (whole (beside kept))) (x.ran b.0 b.1),
      )

  -- the instructions can be counted
  pub counts : l.steps ≤ 9223372036854775807
  counts = run_short unit handler frames kept valid small machine l.steps run

  pub restored : (r : Running) → HasLayout l frames kept r → IsRestored bodies handler frames kept r l.steps
  restored r h =
      let charged = restored_charge unit.globals unit.states bodies unit.woven handler frames (beside kept)
      valid.0 machine l.steps run in
      let within = valid.1 in
      let calls = ap (λ l1. l1 ++ r.active ∷ []) h.callers ∙ ap (λ a. l.callers.items ++ a ∷ []) h.active
      ∙ x.calls ∙ uncapped (x.c ∷ x.outer) (omega arith) in
      let both = last_same r.callers.items (activations x.outer) r.active (activation x.c x.outer) calls in
      let lays : Lays r kept x.c x.outer =
      record {
        stack = h.stack ∙ sym x.values;
        callers = both.0;
        active = both.1;
        globals = h.globals;
        global_charge = let g = h.global_charge in omega arith;
        limit = h.limit;
        small = small;
        within = omega arith;
      } in
      let view : machine_of r ≡ machine = machine_view r kept x.c x.outer lays in
      record {
        held = (kept, x.c.function, x.c.place, x.c.slots, x.c.operands, x.outer, lays);
        ran = subst (λ m. BackRun bodies handler frames (beside kept) m l.steps) (sym view) run;
        reserved = subst (λ (m : Machine). IsReserved bodies (vec_capacity r.stack) m.calls) (sym view)
            (reserved_more bodies l.room (vec_capacity r.stack) (x.c ∷ x.outer) h.room x.reserved);
      }
