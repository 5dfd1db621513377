use Rattle.std.proofs.Common.{refl}
use Rattle.lsl_machine.proofs.Putting.{frame_taken}
use Rattle.lsl_machine.proofs.restoring.Restorer.unpack.Goals as goal

pub returns : goal.returns
returns c bodies m outer p hand sack h =
    let taken = c.in-Some.ensures in
    frame_taken bodies c.args.self.now _ taken.0 taken.1 taken.2 taken.3 refl refl refl m outer p hand sack h
