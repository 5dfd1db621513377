use Rattle.std.proofs.Common.{◌≡◌, ◌∙◌, ◌-◌, refl, sym, ap, subst, inl, List, ℕ, [], None, Ok, Some, arith}
use Rattle.std.specs.Prelude.{IfSome}
use Rattle.std.proofs.lemmas.Result.{err_from_is_err_and}
use Rattle.lsl_region.specs.Crossings.{CanArrive, region_in}
use Rattle.lsl_region.specs.ObjectParts.{parts_of_object}
use Rattle.lsl_world.specs.Orders.{SendsOf}
use Rattle.lsl_world.specs.Regions.{number_of, way_between}
use Rattle.lsl_world.proofs.Going.{went-none}
use Rattle.lsl_world.proofs.Handed.{a-way, grid-here, hands-cut, hands-driven, hands-here, named-here, no-way}
use Rattle.lsl_world.proofs.Numbering.{way-there}
use Rattle.lsl_world.proofs.world.World.hand.Goals as goal

pub drive-requires-clause-seated : goal.drive-requires-clause-seated
drive-requires-clause-seated g c = c.requires.sound.seated

pub drive-requires-clause-object : goal.drive-requires-clause-object
drive-requires-clause-object g c =
    let there = way-there c.args.regions.now c.args.object c.region.result.now c.args.region.now c.in-Some.way
    (sym c.way.ensures ∙ c.in-Some.is) in
    (omega (arith, there.object_is, c.requires.object.0), omega (arith, there.object_is, c.requires.object.1))

pub drive-requires-clause-from : goal.drive-requires-clause-from
drive-requires-clause-from g c =
    (way-there c.args.regions.now c.args.object c.region.result.now c.args.region.now c.in-Some.way
    (sym c.way.ensures ∙ c.in-Some.is)).from

pub drive-requires-clause-here : goal.drive-requires-clause-here
drive-requires-clause-here g c =
    let there = way-there c.args.regions.now c.args.object c.region.result.now c.args.region.now c.in-Some.way
    (sym c.way.ensures ∙ c.in-Some.is) in
    there.from_is ∙ c.region.ensures
    ∙ ap (λ (o : ℕ). region_in c.args.self.now.grid (o - 1)) (sym there.object_is)

pub drive-requires-clause-to : goal.drive-requires-clause-to
drive-requires-clause-to g c =
    (way-there c.args.regions.now c.args.object c.region.result.now c.args.region.now c.in-Some.way
    (sym c.way.ensures ∙ c.in-Some.is)).to

pub land-requires-clause-fits : goal.land-requires-clause-fits
land-requires-clause-fits g c =
    let there = way-there c.args.regions.now c.args.object c.region.result.now c.args.region.now c.in-Some.way
    (sym c.way.ensures ∙ c.in-Some.is) in
    subst (λ (o : ℕ). IfSome c.in_ok-given.given (CanArrive c.args.self.now.units c.args.self.now.grid (o - 1)))
    there.object_is c.in_ok-given.ensures.fits

pub returns-in_default-clause-goes : goal.returns-in_default-clause-goes
returns-in_default-clause-goes g c = (
  [],
  went-none g.L.Link.gives (g.L.Link.trips c.args.link.now),
  λ programs w entries is order past carried.
      (let here = grid-here programs c.args.self.now w is c.args.regions.now c.args.field.now order c.args.object
      c.args.region.now c.requires.object c.requires.named entries past in
      let none : way_between c.args.object (number_of c.args.regions.now _)
      (number_of c.args.regions.now c.args.region.now)
      ≡ None = subst (λ (h : List ℕ). way_between c.args.object (number_of c.args.regions.now h)
      (number_of c.args.regions.now c.args.region.now) ≡ None) (c.region.ensures ∙ here)
      (sym c.way.ensures ∙ c.in_default.is) in
      hands-here programs c.args.self.now w is c.args.regions.now c.args.field.now order c.args.object c.args.region.now
      c.requires.object c.requires.named entries past (Ok tt) c.args.out.now
      (no-way c.args.regions.now c.args.object _ c.args.region.now
      (named-here programs c.args.self.now w is c.args.regions.now c.args.field.now order c.args.object
      c.args.region.now c.requires.object c.requires.named entries past) c.requires.named none)),
  inl refl,
)

pub returns-clause-goes : goal.returns-clause-goes
returns-clause-goes g c =
    let world = c.args.self.now in
    let names = c.args.regions.now in
    let region = c.args.region.now in
    let object = c.args.object in
    let e = sym c.way.ensures ∙ c.in-Some.is in
    let there = way-there names object c.region.result.now region c.in-Some.way e in
    let (trips, went, drives, sends) = c.in_ok-given.ensures.drives in (
      trips,
      went,
      λ programs w entries is order past carried.
          (let named = named-here programs world w is names c.args.field.now order object region c.requires.object
          c.requires.named entries past in
          let here = grid-here programs world w is names c.args.field.now order object region c.requires.object
          c.requires.named entries past in
          let found = a-way names object _ region named c.requires.named c.in-Some.way
          (subst (λ (h : List ℕ). way_between object (number_of names h) (number_of names region) ≡ Some c.in-Some.way)
          (c.region.ensures ∙ here) e) in
          hands-driven programs world w is names c.args.field.now order object region c.requires.object
          c.requires.named entries past c.in-Some.way found.way_is found.apart c.in_ok-given.ensures.image.0
          c.in_ok-given.ensures.image.1 c.land.result c.land.new.self c.drive.new.field trips
          c.args.out.now c.land.new.out carried c.drive.ensures.counts c.in_ok-given.given c.land.ensures.stays
          (λ own. c.land.ensures.comes programs w is
          (own ∙ ap (λ (o : ℕ). Some (parts_of_object world.grid (o - 1))) there.object_is)
          (λ same. found.apart (sym here ∙ same))) drives),
      subst (λ (o : ℕ). SendsOf world.units names world.grid o trips) there.object_is sends,
    )

pub returns-in_err-given-clause-goes : goal.returns-in_err-given-clause-goes
returns-in_err-given-clause-goes g c =
    let world = c.args.self.now in
    let names = c.args.regions.now in
    let region = c.args.region.now in
    let object = c.args.object in
    let p = err_from_is_err_and c.from_residual.result c.from_residual.ensures.1 in
    let e = sym c.way.ensures ∙ c.in-Some.is in
    let there = way-there names object c.region.result.now region c.in-Some.way e in
    let (trips, went, cut, sends) = c.in_err-given.ensures.drives in (
      trips,
      went,
      λ programs w entries is order past carried.
          (let named = named-here programs world w is names c.args.field.now order object region c.requires.object
          c.requires.named entries past in
          let here = grid-here programs world w is names c.args.field.now order object region c.requires.object
          c.requires.named entries past in
          let found = a-way names object _ region named c.requires.named c.in-Some.way
          (subst (λ (h : List ℕ). way_between object (number_of names h) (number_of names region) ≡ Some c.in-Some.way)
          (c.region.ensures ∙ here) e) in
          hands-cut programs world w is names c.args.field.now order object region c.requires.object
          c.requires.named entries past c.in-Some.way found.way_is found.apart
          c.from_residual.result p.0 world c.drive.new.field trips c.args.out.now p.1 cut),
      subst (λ (o : ℕ). SendsOf world.units names world.grid o trips) there.object_is sends,
    )
