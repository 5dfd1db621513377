use Rattle.std.proofs.Common.{Some, None, sym, ◌∙◌}
use Rattle.lsl_seek.proofs.Watching.{moment-of_number}
use Rattle.lsl_seek.proofs.trace.Trace.moment.Goals as goal

pub returns-in-Some : goal.returns-in-Some
returns-in-Some c = c.moment_at.ensures
    ∙ sym (moment-of_number c.args.self.now c.args.number (Some c.in-Some.place) (sym c.in-Some.is ∙ c.place.ensures))

pub returns-in-None : goal.returns-in-None
returns-in-None c = c.no_moment.ensures
    ∙ sym (moment-of_number c.args.self.now c.args.number None (sym c.in-None.is ∙ c.place.ensures))
