use Rattle.std.proofs.Common.{refl}
use Rattle.lsl_code.specs.Bodies.{plain_body}
use Rattle.lsl_weave.specs.Layout.{save_width, saves_from}
use Rattle.lsl_weave.proofs.Sums.{looks_at}
use Rattle.lsl_weave.proofs.tables.Tables.save_place.Goals as goal

pub returns : goal.returns
returns c =
    let b = plain_body c.args.function.now in
    looks_at (saves_from b)
    (save_width b) b.points c.args.self.now.saves.items _ c.args.point c.args.point c.look.result
    c.requires.saves_are c.deref.ensures.value refl c.look.ensures.inside c.look.ensures.past
