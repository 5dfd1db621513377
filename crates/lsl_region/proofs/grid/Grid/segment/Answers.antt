use Rattle.std.proofs.Common.{◌≡◌, arith, subst}
use Rattle.std.specs.Prelude.{Bool}
use Rattle.lsl_region.specs.Turning.{PassesAwake}
use Rattle.lsl_region.proofs.ManyTicks.{none-amid, one-behind, ready-still}
use Rattle.lsl_region.proofs.grid.Grid.segment.Goals as goal

pub returns-then-stands-clause-does : goal.returns-then-stands-clause-does
returns-then-stands-clause-does c = λ m w before.
    let scene = c.args.scene.now in
    let made = c.pass_ticks-stands.ensures in
    let n = c.pass_ticks-stands.result.0 in
    let some = made.some c.if-stands.true in
    let one : n ≡ 1 = omega (arith, some, made.most) in
    one-behind scene.library.now scene.unit.now scene.clock scene.place c.args.self.now m n c.args.live.now
    c.pass_ticks-stands.new.live w c.args.out.now one
    (subst (λ (b : Bool). PassesAwake b scene.unit.now n c.args.live.now c.pass_ticks-stands.new.live)
    c.if-stands.true
    made.passed) before

pub finish_segment-requires-clause-ready : goal.finish_segment-requires-clause-ready
finish_segment-requires-clause-ready c =
    let scene = c.args.scene.now in
    ready-still c.pass_ticks-stands.result.1 scene.unit.now c.pass_ticks-stands.result.0 scene.clock scene.place
    c.args.self.now.seats c.args.live.now c.pass_ticks-stands.new.live c.pass_ticks-stands.ensures.passed
    c.requires.ready

pub returns-clause-does : goal.returns-clause-does
returns-clause-does c = λ m w before.
    let scene = c.args.scene.now in
    let made = c.pass_ticks-stands.ensures in
    let n = c.pass_ticks-stands.result.0 in
    let left = made.left c.if-stands.false in
    let none : n ≡ 0 = omega (arith, left) in
    c.finish_segment.ensures.does m w
    (none-amid scene.library.now scene.unit.now scene.clock scene.place c.args.self.now n c.args.live.now
    c.pass_ticks-stands.new.live w none
    (subst (λ (b : Bool). PassesAwake b scene.unit.now n c.args.live.now c.pass_ticks-stands.new.live)
    c.if-stands.false made.passed) before)
