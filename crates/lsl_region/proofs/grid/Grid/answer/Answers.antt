use Rattle.std.proofs.Common.{◌≡◌, ◌<◌, ◌∙◌, ◌-◌, ℕ, arith, length, ap, rules, sym, subst}
use Rattle.std.specs.Prelude.{Option, Some, slice_get}
use Rattle.std.proofs.lemmas.Option.{slice_get_within}
use Rattle.lsl_code.specs.declared.woven_units.Woven.{Woven as Code}
use Rattle.lsl_post.specs.Journal.{Tells}
use Rattle.lsl_script.specs.Awake.{IsAwake}
use Rattle.lsl_region.specs.Answers.{Answered, answer_in}
use Rattle.lsl_region.specs.Grids.{Contents, Lent}
use Rattle.lsl_region.specs.Worlds.{Member}
use Rattle.lsl_region.proofs.Lending.{lent-unit, one-unit}
use Rattle.lsl_region.proofs.Seats.{read-at}
use Rattle.lsl_region.proofs.grid.Grid.answer.Goals as goal

pub unit-unit-requires : goal.unit-unit-requires
unit-unit-requires c =
    let place : ℕ = c.args.script - 1 in
    let h : place < length c.self.inside.seats.items = search (rules, c.requires.first, c.requires.last) in
    let k = c.requires.seated place c.index.result.now
    (ap (λ (g : Contents). slice_get g.seats place) (sym c.self.view_is)
    ∙ read-at c.self.inside.seats.items place _ h c.index.ensures) in
    slice_get_within c.args.library.now c.index.result.now.unit k.unit k.has

pub answer_at-requires-clause-awake : goal.answer_at-requires-clause-awake
answer_at-requires-clause-awake c =
    let place : ℕ = c.args.script - 1 in
    let h : place < length c.self.inside.seats.items = search (rules, c.requires.first, c.requires.last) in
    let at = ap (λ (g : Contents). slice_get g.seats place) (sym c.self.view_is)
    ∙ read-at c.self.inside.seats.items place _ h c.index.ensures in
    record {
      set = record {
        place = search (rules, c.requires.first, c.requires.last);
        number = omega (arith, h, c.self.invariant.0.few_seats);
        clock = c.requires.clock;
        seated = c.requires.seated;
        unit = record {
          seat = c.index.result.now;
          at = at;
          has = sym c.unit-unit.ensures.unit;
          weaves = c.unit-unit.ensures.weaves;
        };
      };
      awake = c.requires.awake c.index.result.now c.unit-unit.result.now at (sym c.unit-unit.ensures.unit);
    }

pub returns-clause-does : goal.returns-clause-does
returns-clause-does c = λ m unit f w lent.
    let codes = c.args.library.now in
    let place : ℕ = c.args.script - 1 in
    let h : place < length c.self.inside.seats.items = search (rules, c.requires.first, c.requires.last) in
    let at = ap (λ (g : Contents). slice_get g.seats place) (sym c.self.view_is)
    ∙ read-at c.self.inside.seats.items place _ h c.index.ensures in
    let e = lent-unit lent
    c.index.result.now c.unit-unit.result.now at c.unit-unit.ensures.unit in
    subst (λ (a : Answered). Tells c.answer_at.result
    (λ x reply. Lent codes unit c.args.clock place c.answer_at.new.self c.answer_at.new.live c.args.call.id f x.0
    × (reply ≡ x.1)) c.args.out.now c.answer_at.new.out a)
    (ap (λ (o : Option Member). answer_in m.rules place o c.args.call.id c.args.call.args w) (sym lent.at))
    (subst (λ (u : Code). (k : Lent codes u c.args.clock place c.args.self.now c.args.live.now c.args.call.id f w)
    → Tells c.answer_at.result
    (λ x reply. Lent codes u c.args.clock place c.answer_at.new.self c.answer_at.new.live c.args.call.id f x.0
    × (reply ≡ x.1)) c.args.out.now c.answer_at.new.out
    (answer_in m.rules place (Some k.member) c.args.call.id c.args.call.args w)) e
    (c.answer_at.ensures.does m f c.args.call.id w) lent)

pub returns-clause-awake : goal.returns-clause-awake
returns-clause-awake c = λ seat unit at has.
    let place : ℕ = c.args.script - 1 in
    let h : place < length c.self.inside.seats.items = search (rules, c.requires.first, c.requires.last) in
    let there = ap (λ (g : Contents). slice_get g.seats place) (sym c.self.view_is)
    ∙ read-at c.self.inside.seats.items place _ h c.index.ensures in
    subst (λ (u : Code). IsAwake u c.answer_at.new.live)
    (one-unit c.args.library.now c.args.self.now.seats place seat c.index.result.now unit c.unit-unit.result.now at has
    there c.unit-unit.ensures.unit) c.answer_at.ensures.live.awake
