use Rattle.std.proofs.Common.{length}
use Rattle.lsl_code.specs.Weaves.{bodies_of}
use Rattle.lsl_machine.specs.Laid.{machine_of}
use Rattle.lsl_machine.proofs.Sacking.{IsSaving}
use Rattle.lsl_machine.proofs.running.Running.save_by_code.Given as goal

-- some calls are saved, and the others are left
abbrev pub invariant-loop-caller : goal.invariant-loop-caller
invariant-loop-caller l =
    IsSaving (bodies_of l.unit) (machine_of l.fn.self).calls l.saver l.callers.items l.saver.pack.frames

abbrev pub decreases-loop-caller : goal.decreases-loop-caller
decreases-loop-caller l = length l.callers.items
