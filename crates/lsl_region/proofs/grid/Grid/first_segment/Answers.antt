use Rattle.std.proofs.Common.{◌∙◌, refl, subst, sym}
use Rattle.std.specs.Prelude.{Option, slice_get}
use Rattle.lsl_post.specs.Journal.{Tells}
use Rattle.lsl_post.specs.Told.{Told}
use Rattle.lsl_post.proofs.Amid.{tells-lead}
use Rattle.lsl_script.specs.declared.live.Live.{Live}
use Rattle.lsl_machine.specs.State.{CanRun}
use Rattle.lsl_script.specs.Awake.{IsAwake}
use Rattle.lsl_script.specs.Waking.{StandsWoken}
use Rattle.lsl_region.specs.Segments.{flown_in, segment, taken}
use Rattle.lsl_region.specs.Turning.{IsOut}
use Rattle.lsl_region.specs.Worlds.{World}
use Rattle.lsl_region.proofs.Flying.{goes-to, stands-at}
use Rattle.lsl_region.proofs.Stops.{begun-goes, begun-rests, begun_most, flown-begun}
use Rattle.lsl_region.specs.Scenes.{IsBegun, IsBehindSegment}
use Rattle.lsl_region.proofs.grid.Grid.first_segment.Goals as goal

pub start-turn-requires : goal.start-turn-requires
start-turn-requires c = record {
  able = subst (λ (o : Option Live). IsOut o (λ live. CanRun live.machine.standing)) c.in-Some.is
      c.in_ok-begin.ensures.able;
  awake = subst (λ (o : Option Live). IsOut o (IsAwake c.args.scene.now.unit.now)) c.in-Some.is
      c.in_ok-begin.ensures.awake;
  woken = subst (λ (o : Option Live). IsOut o StandsWoken) c.in-Some.is c.in_ok-begin.ensures.stands;
}

pub go_on-requires-clause-stands : goal.go_on-requires-clause-stands
go_on-requires-clause-stands c =
    stands-at c.args.scene.now.unit.now c.start-turn.result c.start-turn.new.self c.start-turn.ensures.stands

pub returns-clause-does : goal.returns-clause-does
returns-clause-does c = λ m w st.
    let scene = c.args.scene.now in
    let live = c.in-Some.awake in
    let d = c.in_ok-begin.ensures.does m w st in
    let v = (taken scene.place w).value in
    let rest = flown_in m.rules scene.place v (slice_get v.members scene.place) in
    let grid = c.begin.new.self in
    let b = subst (λ (o : Option Live). IsOut o (λ live. IsBegun scene grid live v)) c.in-Some.is d.0 in
    let most = begun_most m b in
    let g = begun-goes m b in
    tells-lead c.go_on.result (λ u _. IsBehindSegment scene c.go_on.new.self c.go_on.new.live u)
    c.args.out.now
    c.begin.new.out c.go_on.new.out (taken scene.place w).entries (segment m.rules scene.place w) rest refl d.1
    (subst (λ (a : Told World). Tells c.go_on.result
    (λ u _. IsBehindSegment scene c.go_on.new.self c.go_on.new.live u) c.begin.new.out c.go_on.new.out a)
    (sym (flown-begun m b))
    (c.go_on.ensures.does m b.flight most v
    (goes-to scene.library.now scene.unit.now scene.clock scene.place grid live c.start-turn.new.self
    c.start-turn.result b.flight most v g
    (c.start-turn.ensures.source scene.library.now g.member.script b.flight g.lives
    (begun-rests m b)))))

pub returns-clause-grid : goal.returns-clause-grid
returns-clause-grid c = record {
  set = c.go_on.ensures.grid.set;
  outline = c.go_on.ensures.grid.outline ∙ c.in_ok-begin.ensures.grid.outline;
}
