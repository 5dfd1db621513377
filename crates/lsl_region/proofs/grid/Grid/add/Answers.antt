use Rattle.std.proofs.Common.{◌<◌, List, length, ap, subst, sym, arith}
use Rattle.lsl_region.specs.declared.objects.Linkset.{Linkset}
use Rattle.lsl_region.specs.Grids.{ArePlaced, Contents}
use Rattle.lsl_region.proofs.Behind.{placed-more}
use Rattle.lsl_region.proofs.grid.Grid.add.Goals as goal

pub invariant_of-self-2 : goal.invariant_of-self-2
invariant_of-self-2 c =
    let inside = c.self.inside in
    let room : length inside.objects.items < 64 =
    omega (arith, c.requires.room, ap (λ (g : Contents). length g.objects) c.self.view_is) in (
      subst (λ (xs : List Linkset). ArePlaced xs inside.seats.items) (sym c.in_ok-push.ensures.items)
          (placed-more inside.objects.items inside.seats.items c.args.object c.self.invariant.0 room c.requires.formed),
      c.self.invariant.1,
    )
