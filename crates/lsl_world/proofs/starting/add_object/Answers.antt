use Rattle.std.proofs.Common.{length, subst, sym}
use Rattle.lsl_region.specs.Grids.{IsFormed}
use Rattle.lsl_world.proofs.Filling.{object-formed}
use Rattle.lsl_world.proofs.starting.add_object.Goals as goal

pub add-requires-clause-formed : goal.add-requires-clause-formed
add-requires-clause-formed c =
    subst IsFormed (sym c.in_ok-linkset.ensures)
    (object-formed (length c.args.units.now) c.args.line.now c.requires.fits)
