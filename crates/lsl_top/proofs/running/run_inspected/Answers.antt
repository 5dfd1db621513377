use Rattle.std.proofs.Common.{ℕ, List, Vec, Global, map, ap, subst}
use Rattle.lsl_ports.specs.Trips.{Honest, Trip}
use Rattle.lsl_image.specs.Images.{IsIntact}
use Rattle.lsl_region.specs.Worlds.{World}
use Rattle.lsl_view.specs.Globals.{HaveGlobals}
use Rattle.lsl_top.specs.Answers.{Answer, ComesFromStart, Grade, Inspects}
use Rattle.lsl_top.specs.Plays.{Last, inspected}
use Rattle.lsl_top.specs.Ports.{Concludes, log, wire}
use Rattle.lsl_top.proofs.Finishing.{concludes-as, concludes-memory}
use Rattle.lsl_top.proofs.running.run_inspected.Goals as goal

pub returns-in-Ok : goal.returns-in-Ok
returns-in-Ok g c = λ programs run.
    let texts = map (λ (t : Vec ℕ Global). t.items) c.args.play.now.texts.items in
    let units = c.args.cast.units in
    let file = c.args.play.now.world.now in
    let cards = c.args.cast.cards in
    let names = c.in-Ok.names in
    let known = c.in-Ok.ensures in
    let globals = subst (λ (z : List (List ℕ)). HaveGlobals z names.globals) (ap (map (λ (t : Vec ℕ Global). t.items)) c.as_slice.ensures.value) known.0 in
    let IsOne : Grade → World → List Trip → Answer → Type 0 =
    λ grade from trips. ComesFromStart grade trips (inspected file names.globals) units programs file cards in
    let IsAll : Grade → World → List Trip → Answer → Type 0 =
    λ grade from trips. Inspects grade trips texts units programs file cards in
    let old = log (g.K.Sink.sunk c.args.sink.now) (g.K.Sink.faults c.args.sink.now) in
    let new = log (g.K.Sink.sunk c.run_started.new.sink) (g.K.Sink.faults c.run_started.new.sink) in
    let before = wire (g.L.Link.trips c.args.link.now) (g.L.Link.faults c.args.link.now) in
    let after = wire (g.L.Link.trips c.run_started.new.link) (g.L.Link.faults c.run_started.new.link) in
    concludes-as g.L.Link.gives (Honest IsIntact) (λ from. Unit {0}) (λ from. Unit {0}) IsOne IsAll old new before after
    c.run_started.result (λ from fits. fits) (λ grade from trips answer is. (names.globals, globals, is))
    (subst (λ (last : Last). Concludes g.L.Link.gives (Honest IsIntact) (λ from. Unit {0})
    (λ grade from trips. ComesFromStart grade trips last units programs file cards) old new before after
    c.run_started.result) known.1 (c.run_started.ensures programs run))

pub returns-in-Err : goal.returns-in-Err
returns-in-Err g c = λ programs run.
    concludes-memory g.L.Link.gives (Honest IsIntact) (λ from. Unit {0})
    (λ grade from trips. Inspects grade trips (map (λ (t : Vec ℕ Global). t.items) c.args.play.now.texts.items)
    c.args.cast.units programs c.args.play.now.world.now c.args.cast.cards)
    (log (g.K.Sink.sunk c.args.sink.now) (g.K.Sink.faults c.args.sink.now))
    (wire (g.L.Link.trips c.args.link.now) (g.L.Link.faults c.args.link.now))
