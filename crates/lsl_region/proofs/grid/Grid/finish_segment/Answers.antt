use Rattle.std.proofs.Common.{subst, sym}
use Rattle.std.specs.Prelude.{Option}
use Rattle.lsl_post.specs.Journal.{Tells}
use Rattle.lsl_post.specs.Told.{Told}
use Rattle.lsl_script.specs.declared.live.Live.{Live}
use Rattle.lsl_region.specs.Turning.{IsAble, IsReadyInTurn}
use Rattle.lsl_region.specs.Worlds.{World}
use Rattle.lsl_region.proofs.Flying.{goes-to, stands-at}
use Rattle.lsl_region.proofs.Stops.{held-goes, held-rests, held_most, segment-held}
use Rattle.lsl_region.specs.Scenes.{IsBehindSegment, IsWithinSegment}
use Rattle.lsl_region.proofs.grid.Grid.finish_segment.Goals as goal

pub go-turn-requires : goal.go-turn-requires
go-turn-requires c =
    let able = subst (λ (o : Option Live). IsAble c.args.scene.now.unit.now o) c.in-Some.is c.requires.able in
    record { able = able.1; awake = able.0 }

pub go_on-requires : goal.go_on-requires
go_on-requires c = record {
  set = c.requires.set;
  awake = c.go-turn.ensures.awake;
  stands = stands-at c.args.scene.now.unit.now c.go-turn.result c.go-turn.new.self c.go-turn.ensures.stands;
}

pub first_segment-requires-clause-ready : goal.first_segment-requires-clause-ready
first_segment-requires-clause-ready c =
    subst (λ (o : Option Live). IsReadyInTurn c.args.scene.now.clock c.args.self.now.seats c.args.scene.now.place o)
    c.in-None.is
    c.requires.ready

pub returns-in-Some-clause-does : goal.returns-in-Some-clause-does
returns-in-Some-clause-does c = λ m w before.
    let scene = c.args.scene.now in
    let grid = c.args.self.now in
    let a = subst (λ (o : Option Live). IsWithinSegment scene grid o w) c.in-Some.is before in
    let mid = a.0 in
    let h = a.1 in
    let most = held_most m h in
    let g = held-goes m h in
    let on = a.2.source scene.library.now g.member.script h.flight (held-rests m h) in
    subst (λ (a : Told World). Tells c.go_on.result
    (λ v _. IsBehindSegment scene c.go_on.new.self c.go_on.new.live v) c.args.out.now c.go_on.new.out a)
    (sym (segment-held m h))
    (c.go_on.ensures.does m h.flight most w
    (goes-to scene.library.now scene.unit.now scene.clock scene.place grid mid c.go-turn.new.self c.go-turn.result
    h.flight most w g
    (c.go-turn.ensures.source scene.library.now g.member.script h.flight on)))

pub returns-in-None-clause-does : goal.returns-in-None-clause-does
returns-in-None-clause-does c = λ m w before.
    c.first_segment.ensures.does m w (subst (λ (o : Option Live). IsWithinSegment c.args.scene.now c.args.self.now o
    w) c.in-None.is before)
