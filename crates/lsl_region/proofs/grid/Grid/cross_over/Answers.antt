use Rattle.std.proofs.Common.{◌∙◌, ◌-◌, List, ℕ, [], ap, arith, length, subst, sym, take}
use Rattle.std.specs.Prelude.{Some, option_map}
use Rattle.std.proofs.lemmas.List.{take_all}
use Rattle.std.proofs.lemmas.Result.{MatchResult-from_err}
use Rattle.lsl_region.specs.Crossings.{IsOneTrip, image_in}
use Rattle.lsl_region.proofs.Passages.{came, no-trip, not-begun}
use Rattle.lsl_region.proofs.grid.Grid.cross_over.Goals as goal

pub returns-in_err-shape-clause-crosses : goal.returns-in_err-shape-clause-crosses
returns-in_err-shape-clause-crosses g c = (
  [],
  no-trip g.L.Link.gives (g.L.Link.trips c.args.link.now),
  MatchResult-from_err c.from_residual.result _ _ c.from_residual.ensures.0
      (λ y. not-begun c.args.library.now (c.args.object - 1) c.args.self.now c.args.out.now c.args.out.now
      (take_all (length c.args.out.now) c.args.out.now (omega arith))),
)

pub returns-in_err-arrival-clause-crosses : goal.returns-in_err-arrival-clause-crosses
returns-in_err-arrival-clause-crosses g c = (
  [],
  no-trip g.L.Link.gives (g.L.Link.trips c.args.link.now),
  MatchResult-from_err c.from_residual-in_err-arrival.result _ _ c.from_residual-in_err-arrival.ensures.0
      (λ y. not-begun c.args.library.now (c.args.object - 1) c.args.self.now c.args.out.now c.prepare.new.out
      c.prepare.ensures.kept),
)

pub returns-in-Some-clause-crosses : goal.returns-in-Some-clause-crosses
returns-in-Some-clause-crosses g c =
    let codes = c.args.library.now in
    let place = c.args.object - 1 in
    let image = image_in codes c.args.self.now place in
    let arrival = c.in_ok-arrival.arrival in
    let t = c.in_ok-back.ensures.went in
    let one : IsOneTrip t.0 image (Some c.in-Some.back.items) =
    subst (λ (o : _). IsOneTrip t.0 image (option_map (λ b. b.items) o)) c.in-Some.is t.2 in (
      t.0,
      t.1,
      came codes place c.args.region.now arrival.region c.args.self.now c.receive.new.self c.args.out.now
          c.prepare.new.out c.receive.new.out arrival.before t.0 c.deref.result.now c.receive.result
          c.requires.elsewhere c.in_ok-arrival.ensures.region c.in_ok-arrival.ensures.before
          (ap (λ (k : ℕ). take k c.prepare.new.out) c.in_ok-arrival.ensures.before ∙ c.prepare.ensures.kept)
          (subst (λ (bytes : List ℕ). IsOneTrip t.0 image (Some bytes)) (sym c.deref.ensures.value) one)
          c.receive.ensures.comes,
    )
