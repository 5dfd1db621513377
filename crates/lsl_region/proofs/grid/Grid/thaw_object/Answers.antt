use Rattle.std.proofs.Common.{◌∙◌, List, ap, subst, sym}
use Rattle.lsl_image.specs.declared.parts.Shape.{Shape}
use Rattle.lsl_region.specs.declared.grid.Seat.{Seat}
use Rattle.lsl_region.specs.GridParts.{AreHome, fixed_of, placed_in}
use Rattle.lsl_region.specs.ObjectParts.{reseated}
use Rattle.lsl_region.proofs.Furnishing.{furnished-with}
use Rattle.lsl_region.proofs.Refilling.{home-reseated}
use Rattle.lsl_region.proofs.Thawing.{refilled-fixed, refilled-is, refilled-parts}
use Rattle.lsl_region.proofs.grid.Grid.thaw_object.Goals as goal

pub returns-clause-parts : goal.returns-clause-parts
returns-clause-parts c =
    let a = c.args in
    ap placed_in (refilled-is a.self.now a.place a.region a.parts c.requires.place c.requires.parts.shape
    c.reseat.new.self (c.reseat.ensures.kept.objects
    ∙ furnished-with a.self.now a.place a.parts a.region c.in_ok-store.store c.furnish.new.self.objects
    c.in_ok-store.ensures c.furnish.ensures.objects)
    (c.reseat.ensures.seats
    ∙ ap (λ (z : List Seat). reseated a.place a.parts.scripts z) c.furnish.ensures.seats)
    (c.reseat.ensures.kept.cards ∙ c.furnish.ensures.cards))
    ∙ refilled-parts a.self.now a.place a.region a.parts c.requires.place c.requires.parts.shape

pub returns-clause-fixed : goal.returns-clause-fixed
returns-clause-fixed c =
    let a = c.args in
    ap fixed_of (refilled-is a.self.now a.place a.region a.parts c.requires.place c.requires.parts.shape
    c.reseat.new.self (c.reseat.ensures.kept.objects
    ∙ furnished-with a.self.now a.place a.parts a.region c.in_ok-store.store c.furnish.new.self.objects
    c.in_ok-store.ensures c.furnish.ensures.objects)
    (c.reseat.ensures.seats
    ∙ ap (λ (z : List Seat). reseated a.place a.parts.scripts z) c.furnish.ensures.seats)
    (c.reseat.ensures.kept.cards ∙ c.furnish.ensures.cards))
    ∙ refilled-fixed a.self.now a.place a.region a.parts c.requires.place c.requires.parts.shape

pub returns-clause-home : goal.returns-clause-home
returns-clause-home c =
    let a = c.args in
    subst (λ (z : List Seat). AreHome z)
    (sym (c.reseat.ensures.seats
    ∙ ap (λ (z : List Seat). reseated a.place a.parts.scripts z) c.furnish.ensures.seats))
    (home-reseated a.place a.self.now.seats a.parts.scripts (ap (λ (s : Shape). s.units) c.requires.parts.shape)
    c.requires.home)
