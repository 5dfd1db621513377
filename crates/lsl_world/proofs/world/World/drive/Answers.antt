use Rattle.std.proofs.Common.{◌∙◌, refl, sym, ap, subst, arith, inl, inr, [], length, ℕ}
use Rattle.std.proofs.lemmas.Result.{MatchResult-from_err}
use Rattle.lsl_handoff.specs.Handovers.{HasCounts}
use Rattle.lsl_world.proofs.Going.{went-none}
use Rattle.lsl_world.proofs.Given.{given-fits}
use Rattle.lsl_world.proofs.Handed.{cut-as, has-way, over-as, own-image}
use Rattle.lsl_world.proofs.world.World.drive.Goals as goal

pub hand_over-requires-clause-way : goal.hand_over-requires-clause-way
hand_over-requires-clause-way g c =
    has-way (length c.args.self.now.grid.objects) (length c.args.regions.now) c.args.field.now c.args.way
    c.requires.counts c.requires.object c.requires.from c.requires.to

pub hand_over-requires-clause-counts : goal.hand_over-requires-clause-counts
hand_over-requires-clause-counts g c =
    subst (λ (n : ℕ). HasCounts n c.len.result c.args.field.now) (sym c.objects-objects.ensures.value)
    (subst (λ (m : ℕ). HasCounts (length c.args.self.now.grid.objects) m c.args.field.now) (sym c.len.ensures.value)
    c.requires.counts)

pub hand_over-requires-clause-parcels : goal.hand_over-requires-clause-parcels
hand_over-requires-clause-parcels g c = (sym c.objects-objects.ensures.value, sym c.len.ensures.value)

pub hand_over-requires-clause-own : goal.hand_over-requires-clause-own
hand_over-requires-clause-own g c trip =
    own-image c.args.self.now.units c.args.regions.now c.args.self.now.grid c.args.way c.from_vec.result
    c.requires.here (c.from_vec.ensures ∙ c.in_ok-image.ensures.bytes) c.in_ok-image.ensures.image
    c.in_ok-image.ensures.own trip

pub returns-in-Ok-clause-drives : goal.returns-in-Ok-clause-drives
returns-in-Ok-clause-drives g c =
    let (trips, went, over) = c.in-Ok.ensures.goes in
    let bytes = ap length c.in_ok-image.ensures.bytes in
    let full = c.in_ok-image.image.ok in
    let small = c.in_ok-image.image.small in
    let many = c.objects-objects.ensures.within in (
      trips,
      went,
      inl (over-as c.args.self.now.units c.args.regions.now c.args.self.now.grid c.args.way c.args.field.now
          c.hand_over.new.field trips _ _ _ _ _ _ c.objects-objects.ensures.value c.len.ensures.value
          (c.from_vec.ensures ∙ c.in_ok-image.ensures.bytes) c.in-Ok.given over),
      inr (record {
        short = omega arith;
        counts = (omega arith, c.len.ensures.within);
        sent = c.in_ok-image.ensures.image;
        fits = c.in_ok-image.ensures.own;
      }),
    )

pub returns-in_err-image-clause-drives : goal.returns-in_err-image-clause-drives
returns-in_err-image-clause-drives g c = (
  [],
  went-none g.L.Link.gives (g.L.Link.trips c.args.link.now),
  MatchResult-from_err c.from_residual.result _ _ c.from_residual.ensures.0 (λ y. tt),
  inl refl,
)

pub returns-in-Ok-clause-fits : goal.returns-in-Ok-clause-fits
returns-in-Ok-clause-fits g c =
    let (trips, went, over) = c.in-Ok.ensures.goes in
    let (landed, handed, given, rests) = over in
    given-fits c.args.self.now.units c.args.regions.now c.args.self.now.grid c.args.way _ _ _ _ trips
    c.args.field.now c.hand_over.new.field landed c.in-Ok.given handed given

pub returns-in-Err-NoMemory-clause-drives : goal.returns-in-Err-NoMemory-clause-drives
returns-in-Err-NoMemory-clause-drives g c =
    let (trips, went, over) = c.in-Err-NoMemory.ensures.goes in
    let bytes = ap length c.in_ok-image.ensures.bytes in
    let full = c.in_ok-image.image.ok in
    let small = c.in_ok-image.image.small in
    let many = c.objects-objects.ensures.within in (
      trips,
      went,
      cut-as c.args.self.now.units c.args.regions.now c.args.self.now.grid c.args.way c.args.field.now
          c.hand_over.new.field trips _ _ _ _ _ _ c.objects-objects.ensures.value c.len.ensures.value
          (c.from_vec.ensures ∙ c.in_ok-image.ensures.bytes) over.cut,
      inr (record {
        short = omega arith;
        counts = (omega arith, c.len.ensures.within);
        sent = c.in_ok-image.ensures.image;
        fits = c.in_ok-image.ensures.own;
      }),
    )
