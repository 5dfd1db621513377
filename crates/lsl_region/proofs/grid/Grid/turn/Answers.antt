use Rattle.std.proofs.Common.{◌<◌, ◌∙◌, ◌-◌, ℕ, ap, arith, length, rules, sym}
use Rattle.std.specs.Prelude.{slice_get}
use Rattle.std.proofs.lemmas.Option.{slice_get_within}
use Rattle.lsl_region.specs.Grids.{Contents}
use Rattle.lsl_region.proofs.Seats.{read-at}
use Rattle.lsl_region.proofs.grid.Grid.turn.Goals as goal

pub unit-unit-requires : goal.unit-unit-requires
unit-unit-requires c =
    let place : ℕ = c.args.script - 1 in
    let h : place < length c.self.inside.seats.items = search (rules, c.requires.first, c.requires.last) in
    let k = c.requires.seated place c.index.result.now
    (ap (λ (g : Contents). slice_get g.seats place) (sym c.self.view_is)
    ∙ read-at c.self.inside.seats.items place _ h c.index.ensures) in
    slice_get_within c.args.library.now c.index.result.now.unit k.unit k.has

pub turn_with-requires-clause-set : goal.turn_with-requires-clause-set
turn_with-requires-clause-set c =
    let place : ℕ = c.args.script - 1 in
    let h : place < length c.self.inside.seats.items = search (rules, c.requires.first, c.requires.last) in
    record {
      place = search (rules, c.requires.first, c.requires.last);
      number = omega (arith, h, c.self.invariant.0.few_seats);
      clock = c.requires.clock;
      seated = c.requires.seated;
      unit = record {
        seat = c.index.result.now;
        at = ap (λ (g : Contents). slice_get g.seats place) (sym c.self.view_is)
            ∙ read-at c.self.inside.seats.items place _ h c.index.ensures;
        has = sym c.unit-unit.ensures.unit;
        weaves = c.unit-unit.ensures.weaves;
      };
    }
