use Rattle.std.proofs.Common.{◌≡◌, ◌∙◌, sym, subst, Some}
use Rattle.lsl_code.specs.declared.woven_units.Woven.{Woven as Code}
use Rattle.lsl_post.specs.Fitting.{FitsUnit}
use Rattle.lsl_view.proofs.Stepping.{state-named, state-unnamed}
use Rattle.lsl_view.proofs.holding.Scene.push_script.Goals as goal

pub push_state-requires : goal.push_state-requires
push_state-requires c =
    let has = c.requires.unit in
    let one : Some has.unit ≡ Some c.unit-unit.result.now = sym has.named ∙ sym c.unit-unit.ensures.unit in
    let same : has.unit ≡ c.unit-unit.result.now = cc in
    subst (λ (u : Code). FitsUnit u c.args.script.now) same has.script

pub returns-in-Some : goal.returns-in-Some
returns-in-Some c =
    state-named c.args.self.now.library.now c.args.self.now.names.now c.args.self.now.clock c.args.place
    c.args.script.now c.unit-unit.result.now c.args.out.now.items c.push_state.new.out.items c.push_state.result
    c.unit-unit.ensures.unit c.in-Some.name.now c.in-Some.ensures c.push_state.ensures

pub returns-in-None : goal.returns-in-None
returns-in-None c =
    state-unnamed c.args.self.now.library.now c.args.self.now.names.now c.args.self.now.clock c.args.place
    c.args.script.now c.unit-unit.result.now c.args.out.now.items c.push_state-in-None-2.new.out.items c.push_state-in-None-2.result
    c.unit-unit.ensures.unit c.new.result c.new.ensures c.in-None.ensures c.push_state-in-None-2.ensures
