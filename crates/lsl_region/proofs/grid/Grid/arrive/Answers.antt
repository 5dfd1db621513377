use Rattle.std.proofs.Common.{◌∙◌, List, ap, length}
use Rattle.std.specs.Prelude.{map}
use Rattle.lsl_region.specs.declared.objects.Linkset.{Linkset}
use Rattle.lsl_region.specs.declared.grid.Seat.{Seat}
use Rattle.lsl_region.specs.Crossings.{post_in_seats, region_changed}
use Rattle.lsl_region.specs.ObjectParts.{reseated}
use Rattle.lsl_region.proofs.Furnishing.{arrived-is, furnished-with}
use Rattle.lsl_region.proofs.grid.Grid.arrive.Goals as goal

pub returns-clause-grid : goal.returns-clause-grid
returns-clause-grid c =
    let site = c.args.site.now in
    arrived-is site.library.now c.args.self.now c.tell_all.new.self site.place c.args.arrival.region c.args.parts
    c.requires.place
    (c.tell_all.ensures.kept.objects ∙ c.reseat.ensures.kept.objects
    ∙ furnished-with c.args.self.now site.place c.args.parts c.args.arrival.region c.in_ok-store.store
    c.furnish.new.self.objects c.in_ok-store.ensures c.furnish.ensures.objects)
    (c.tell_all.ensures.seats
    ∙ ap (λ (z : List Seat). (post_in_seats site.library.now site.place region_changed 1 z).value)
    (c.reseat.ensures.seats
    ∙ ap (λ (z : List Seat). reseated site.place c.args.parts.scripts z) c.furnish.ensures.seats))
    (c.tell_all.ensures.kept.cards ∙ c.reseat.ensures.kept.cards ∙ c.furnish.ensures.cards)

pub returns-clause-kept : goal.returns-clause-kept
returns-clause-kept c = record {
  seated = c.tell_all.ensures.kept.seated;
  objects = ap (λ (os : List Linkset). map (λ (o : Linkset). length o.prims) os)
      (c.tell_all.ensures.kept.objects ∙ c.reseat.ensures.kept.objects) ∙ c.furnish.ensures.prims;
  scripts = c.tell_all.ensures.len ∙ c.reseat.ensures.len ∙ ap (λ (z : List Seat). length z) c.furnish.ensures.seats;
}
