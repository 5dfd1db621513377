use Rattle.std.proofs.Common.{◌+◌, length, refl}
use Rattle.lsl_code.specs.Bodies.{plain_body}
use Rattle.lsl_weave.specs.Layout.{back_width, backs_from}
use Rattle.lsl_weave.proofs.Sums.{looks_at}
use Rattle.lsl_weave.proofs.tables.Tables.back_place.Goals as goal

pub returns : goal.returns
returns c =
    let b = plain_body c.args.function.now in
    looks_at (backs_from b + 2 + length b.points)
    (back_width b) b.points c.args.self.now.backs.items _ c.args.point
    c.args.point c.look.result c.requires.backs_are c.deref.ensures.value refl c.look.ensures.inside
    c.look.ensures.past
