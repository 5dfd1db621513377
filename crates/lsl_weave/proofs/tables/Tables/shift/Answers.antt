use Rattle.std.proofs.Common.{refl}
use Rattle.lsl_code.specs.Bodies.{plain_body}
use Rattle.lsl_weave.specs.Layout.{width}
use Rattle.lsl_weave.proofs.Sums.{looks_at}
use Rattle.lsl_weave.proofs.tables.Tables.shift.Goals as goal

pub returns : goal.returns
returns c =
    let b = plain_body c.args.function.now in
    looks_at 1 width b.code c.args.self.now.shifts.items _ c.args.place c.args.place c.look.result
    c.requires.shifts_are
    c.deref.ensures.value refl c.look.ensures.inside c.look.ensures.past
