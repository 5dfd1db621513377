use Rattle.std.proofs.Common.{refl}
use Rattle.lsl_machine.proofs.Putting.{slot_set}
use Rattle.lsl_machine.proofs.restoring.Restorer.back_slot.Goals as goal

pub returns : goal.returns
returns c bodies m outer p hand sack h =
    slot_set c.requires.0 c.args.self.now _ c.args.n c.in-Some.value c.requires.1 c.in-Some.ensures.hand refl refl refl
    refl refl c.in-Some.ensures.frames bodies m outer p hand sack h
