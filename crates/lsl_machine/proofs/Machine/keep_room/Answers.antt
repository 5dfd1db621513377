use Rattle.std.proofs.Common.{◌∙◌}
use Rattle.lsl_machine.proofs.Machine.keep_room.Goals as goal

pub returns : goal.returns
returns c = c.keep_room.ensures.same c.self.inside.standing ∙ c.self.view_is
