use Rattle.std.proofs.Common.{◌-◌, subst, arith}
use Rattle.lsl_region.specs.Grids.{ArePlaced, Contents}
use Rattle.lsl_region.proofs.Shapes.{object-written}
use Rattle.lsl_region.proofs.grid.Grid.parts.Goals as goal

pub returns-clause-written : goal.returns-clause-written
returns-clause-written c = λ codes seated.
    object-written codes c.args.self.now (c.args.object - 1)
    (subst (λ (g : Contents). ArePlaced g.objects g.seats) c.self.view_is c.self.invariant.0)
    (omega (arith, c.requires.first, c.requires.last)) seated
