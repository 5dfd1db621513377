-- A step beside the globals, the limit and the answers keeps them; saving and restoring a machine.
use Rattle.std.proofs.Common.{ℕ, ◌≤◌, List, ap, ◌∙◌}
use Rattle.std.specs.Prelude.{option_map}
use Rattle.lsl_code.specs.declared.frames.Frame.{Frame}
use Rattle.lsl_code.specs.Bodies.{Body}
use Rattle.lsl_code.specs.Machine.{Machine}
use Rattle.lsl_code.specs.Saving.{save_step, begins_saving}
use Rattle.lsl_code.specs.Restoring.{back_step, begins_restoring}
use Rattle.lsl_code.specs.ModeRuns.{whole, beside_of, SaveRun, BackRun}
use Rattle.lsl_weave.specs.Layout.{all_woven}
use Rattle.lsl_code.specs.Standing.{HasFrames}
use Rattle.lsl_weave.specs.Lifting.{lift_machine, AreOnePlaced}
use Rattle.lsl_code.specs.Weaves.{most_steps}
use Rattle.lsl_code.proofs.ModeRuns.{runs_beside}
use Rattle.lsl_weave.proofs.Saved.{frames_saved}
use Rattle.lsl_weave.proofs.Restored.{frames_restored}

-- saving a woven machine at a tick ends with its frames, and with its globals, limit and answers
pub machine_saved : (bs : List Body) (h : ℕ) (m : Machine) (frs : List Frame) → HasFrames bs h m.calls frs
    → SaveRun (all_woven bs) (lift_machine bs m) frs (beside_of m)
machine_saved bs h m frs w =
    let r = frames_saved bs h m.calls frs w in (
      r.0,
      runs_beside (save_step (all_woven bs)) r.0 (beside_of m) (begins_saving (lift_machine bs m).calls)
          ∙ ap (option_map (whole (beside_of m))) r.1,
    )

-- restoring its frames beside these ends with that machine, within the bound
pub machine_restored : (bs : List Body) (h : ℕ) (m : Machine) (frs : List Frame) → AreOnePlaced bs
    → HasFrames bs h m.calls frs → (n : ℕ) × (n ≤ most_steps frs)
    × BackRun (all_woven bs) h frs (beside_of m) (lift_machine bs m) n
machine_restored bs h m frs one w =
    let r = frames_restored bs h m.calls frs one w in
    let q = r.2 in (
      r.0,
      r.1,
      (
        q.0,
        q.1,
        q.2,
        runs_beside (back_step (all_woven bs)) r.0 (beside_of m)
            (begins_restoring h q.0 frs) ∙ ap (option_map (whole (beside_of m))) q.3,
      ),
    )
