use Rattle.std.proofs.Common.{ℕ, List, Vec, Global, map, sym, ap, subst}
use Rattle.lsl_ports.specs.Trips.{Trip}
use Rattle.lsl_region.specs.Worlds.{World}
use Rattle.lsl_top.specs.Answers.{Answer, Comes, Grade, Shows}
use Rattle.lsl_top.specs.Fair.{IsFairIn}
use Rattle.lsl_top.specs.Froms.{IsFromIn}
use Rattle.lsl_top.specs.Meant.{mode_of}
use Rattle.lsl_top.specs.Plays.{Mode, Viewing}
use Rattle.lsl_top.specs.Ports.{Concludes, gives_in, log, wire}
use Rattle.lsl_top.proofs.Finishing.{concludes-finished}
use Rattle.lsl_top.proofs.running.run_cast.Goals as goal

pub returns-in-Whole : goal.returns-in-Whole
returns-in-Whole g c = λ programs run.
    let texts = map (λ (t : Vec ℕ Global). t.items) c.args.play.now.texts.items in
    let units = c.args.cast.units in
    let file = c.args.play.now.world.now in
    let text = c.args.play.now.frozen.items in
    let cards = c.args.cast.cards in
    subst (λ (mode : Mode). Concludes (gives_in mode g.L.Link.gives) (IsFairIn mode)
    (IsFromIn mode units programs file cards text)
    (λ grade from trips. Comes grade from trips mode texts units programs file cards text)
    (log (g.K.Sink.sunk c.args.sink.now) (g.K.Sink.faults c.args.sink.now))
    (log (g.K.Sink.sunk c.run_started.new.sink) (g.K.Sink.faults c.run_started.new.sink))
    (wire (g.L.Link.trips c.args.link.now) (g.L.Link.faults c.args.link.now))
    (wire (g.L.Link.trips c.run_started.new.link) (g.L.Link.faults c.run_started.new.link)) c.run_started.result)
    (sym (ap mode_of c.in-Whole.is)) (c.run_started.ensures programs run)

pub returns-in-Handing : goal.returns-in-Handing
returns-in-Handing g c = λ programs run.
    let texts = map (λ (t : Vec ℕ Global). t.items) c.args.play.now.texts.items in
    let units = c.args.cast.units in
    let file = c.args.play.now.world.now in
    let text = c.args.play.now.frozen.items in
    let cards = c.args.cast.cards in
    subst (λ (mode : Mode). Concludes (gives_in mode g.L.Link.gives) (IsFairIn mode)
    (IsFromIn mode units programs file cards text)
    (λ grade from trips. Comes grade from trips mode texts units programs file cards text)
    (log (g.K.Sink.sunk c.args.sink.now) (g.K.Sink.faults c.args.sink.now))
    (log (g.K.Sink.sunk c.run_lossy.new.sink) (g.K.Sink.faults c.run_lossy.new.sink))
    (wire (g.L.Link.trips c.args.link.now) (g.L.Link.faults c.args.link.now))
    (wire (g.L.Link.trips c.run_lossy.new.link) (g.L.Link.faults c.run_lossy.new.link)) c.run_lossy.result)
    (sym (ap mode_of c.in-Handing.is)) (c.run_lossy.ensures programs run)

pub returns-in-Freezing : goal.returns-in-Freezing
returns-in-Freezing g c = λ programs run.
    let texts = map (λ (t : Vec ℕ Global). t.items) c.args.play.now.texts.items in
    let units = c.args.cast.units in
    let file = c.args.play.now.world.now in
    let text = c.args.play.now.frozen.items in
    let cards = c.args.cast.cards in
    subst (λ (mode : Mode). Concludes (gives_in mode g.L.Link.gives) (IsFairIn mode)
    (IsFromIn mode units programs file cards text)
    (λ grade from trips. Comes grade from trips mode texts units programs file cards text)
    (log (g.K.Sink.sunk c.args.sink.now) (g.K.Sink.faults c.args.sink.now))
    (log (g.K.Sink.sunk c.run_started-in-Freezing.new.sink) (g.K.Sink.faults c.run_started-in-Freezing.new.sink))
    (wire (g.L.Link.trips c.args.link.now) (g.L.Link.faults c.args.link.now))
    (wire (g.L.Link.trips c.run_started-in-Freezing.new.link) (g.L.Link.faults c.run_started-in-Freezing.new.link))
    c.run_started-in-Freezing.result)
    (sym (ap mode_of c.in-Freezing.is)) (c.run_started-in-Freezing.ensures programs run)

pub returns-in-Inspecting : goal.returns-in-Inspecting
returns-in-Inspecting g c = λ programs run.
    let texts = map (λ (t : Vec ℕ Global). t.items) c.args.play.now.texts.items in
    let units = c.args.cast.units in
    let file = c.args.play.now.world.now in
    let text = c.args.play.now.frozen.items in
    let cards = c.args.cast.cards in
    subst (λ (mode : Mode). Concludes (gives_in mode g.L.Link.gives) (IsFairIn mode)
    (IsFromIn mode units programs file cards text)
    (λ grade from trips. Comes grade from trips mode texts units programs file cards text)
    (log (g.K.Sink.sunk c.args.sink.now) (g.K.Sink.faults c.args.sink.now))
    (log (g.K.Sink.sunk c.run_inspected.new.sink) (g.K.Sink.faults c.run_inspected.new.sink))
    (wire (g.L.Link.trips c.args.link.now) (g.L.Link.faults c.args.link.now))
    (wire (g.L.Link.trips c.run_inspected.new.link) (g.L.Link.faults c.run_inspected.new.link)) c.run_inspected.result)
    (sym (ap mode_of c.in-Inspecting.is)) (c.run_inspected.ensures programs run)

pub returns-in-Thawing : goal.returns-in-Thawing
returns-in-Thawing g c = λ programs run.
    let texts = map (λ (t : Vec ℕ Global). t.items) c.args.play.now.texts.items in
    let units = c.args.cast.units in
    let file = c.args.play.now.world.now in
    let text = c.args.play.now.frozen.items in
    let cards = c.args.cast.cards in
    subst (λ (mode : Mode). Concludes (gives_in mode g.L.Link.gives) (IsFairIn mode)
    (IsFromIn mode units programs file cards text)
    (λ grade from trips. Comes grade from trips mode texts units programs file cards text)
    (log (g.K.Sink.sunk c.args.sink.now) (g.K.Sink.faults c.args.sink.now))
    (log (g.K.Sink.sunk c.run_thawed.new.sink) (g.K.Sink.faults c.run_thawed.new.sink))
    (wire (g.L.Link.trips c.args.link.now) (g.L.Link.faults c.args.link.now))
    (wire (g.L.Link.trips c.run_thawed.new.link) (g.L.Link.faults c.run_thawed.new.link)) c.run_thawed.result)
    (sym (ap mode_of c.in-Thawing.is)) (c.run_thawed.ensures programs run)

pub returns-in-Viewing : goal.returns-in-Viewing
returns-in-Viewing g c = λ programs run.
    let name = c.in-Viewing.name.now in
    let texts = map (λ (t : Vec ℕ Global). t.items) c.args.play.now.texts.items in
    let units = c.args.cast.units in
    let file = c.args.play.now.world.now in
    let text = c.args.play.now.frozen.items in
    let cards = c.args.cast.cards in
    let old = log (g.K.Sink.sunk c.args.sink.now) (g.K.Sink.faults c.args.sink.now) in
    let new = log (g.K.Sink.sunk c.show_frozen.new.sink) (g.K.Sink.faults c.show_frozen.new.sink) in
    let link = wire (g.L.Link.trips c.args.link.now) (g.L.Link.faults c.args.link.now) in
    let IsThis : Answer → Type 0 = λ answer. Shows units file name text answer in
    let IsAll : Grade → World → List Trip → Answer → Type 0 =
    λ grade from trips. Comes grade from trips (Viewing name) texts units programs file cards text in
    subst (λ (mode : Mode). Concludes (gives_in mode g.L.Link.gives) (IsFairIn mode)
    (IsFromIn mode units programs file cards text)
    (λ grade from trips. Comes grade from trips mode texts units programs file cards text) old new link link
    c.show_frozen.result)
    (sym (ap mode_of c.in-Viewing.is))
    (concludes-finished (gives_in (Viewing name) g.L.Link.gives) (IsFairIn (Viewing name)) IsThis
    (IsFromIn (Viewing name) units programs file cards text) IsAll old new link
    c.show_frozen.result (λ grade from trips answer is. is) c.show_frozen.ensures)
