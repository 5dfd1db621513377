use Rattle.std.proofs.Common.{Err, ap, ◌∙◌}
use Rattle.std.proofs.lemmas.List.{length-map}
use Rattle.lsl_top.specs.Answers.{Comes, PlaysRead}
use Rattle.lsl_top.specs.Fair.{IsFairIn}
use Rattle.lsl_top.specs.Froms.{IsFromIn, IsFromRead}
use Rattle.lsl_top.specs.Meant.{mode_of, play_in, read_in}
use Rattle.lsl_top.specs.Ports.{gives_in, log, wire}
use Rattle.lsl_top.specs.Prepared.{Refuses}
use Rattle.lsl_top.proofs.Finishing.{concludes-as, concludes-finished, concludes-memory}
use Rattle.lsl_top.proofs.Prepared.{cast-fits, cast-scripts, plays-cast, plays-refused}
use Rattle.lsl_top.proofs.commands.write_play.Goals as goal

pub prepare-requires : goal.prepare-requires
prepare-requires g c = c.requires

pub run_cast-requires-clause-range : goal.run_cast-requires-clause-range
run_cast-requires-clause-range g c = c.requires

pub run_cast-requires-clause-units : goal.run_cast-requires-clause-units
run_cast-requires-clause-units g c =
    let play = c.args.play.now in
    c.in-Ok.ensures.ok.len ∙ length-map play.texts.items (λ t. t.items) ∙ play.texts_fit ∙ play.names_fit

pub run_cast-requires-clause-scripts : goal.run_cast-requires-clause-scripts
run_cast-requires-clause-scripts g c =
    cast-scripts (play_in c.args.play.now) (read_in c.args.play.now) c.in-Ok.cast c.in-Ok.ensures.ok

pub returns-in-Ok : goal.returns-in-Ok
returns-in-Ok g c =
    let mode = mode_of c.args.play.now.mode in
    let play = play_in c.args.play.now in
    let read = read_in c.args.play.now in
    let cast = c.in-Ok.cast in
    let is = c.in-Ok.ensures.ok in
    concludes-as (gives_in mode g.L.Link.gives) (IsFairIn mode)
    (IsFromIn mode cast.units is.programs play.world cast.cards read.frozen) (IsFromRead play read)
    (λ grade from trips. Comes grade from trips mode read.texts cast.units is.programs play.world cast.cards read.frozen)
    (λ grade from trips. PlaysRead grade from trips play read)
    (log (g.K.Sink.sunk c.args.sink.now) (g.K.Sink.faults c.args.sink.now))
    (log (g.K.Sink.sunk c.run_cast.new.sink) (g.K.Sink.faults c.run_cast.new.sink))
    (wire (g.L.Link.trips c.args.link.now) (g.L.Link.faults c.args.link.now))
    (wire (g.L.Link.trips c.run_cast.new.link) (g.L.Link.faults c.run_cast.new.link)) c.run_cast.result
    (cast-fits play read cast is) (plays-cast play read cast is) (c.run_cast.ensures is.programs is.run)

pub refuse-requires : goal.refuse-requires
refuse-requires g c =
    c.in-Err-Fault.ensures.refused c.in-Err-Fault.unfit (ap (λ r. Err r) c.in-Err-Fault.field-0-is)

pub returns-in-Err-Fault : goal.returns-in-Err-Fault
returns-in-Err-Fault g c =
    let mode = mode_of c.args.play.now.mode in
    let play = play_in c.args.play.now in
    let read = read_in c.args.play.now in
    concludes-finished (gives_in mode g.L.Link.gives) (IsFairIn mode) (Refuses play read) (IsFromRead play read)
    (λ grade from trips. PlaysRead grade from trips play read)
    (log (g.K.Sink.sunk c.args.sink.now) (g.K.Sink.faults c.args.sink.now))
    (log (g.K.Sink.sunk c.refuse.new.sink) (g.K.Sink.faults c.refuse.new.sink))
    (wire (g.L.Link.trips c.args.link.now) (g.L.Link.faults c.args.link.now)) c.refuse.result
    (plays-refused play read) c.refuse.ensures

pub returns-in-Err-NoMemory : goal.returns-in-Err-NoMemory
returns-in-Err-NoMemory g c =
    let mode = mode_of c.args.play.now.mode in
    let play = play_in c.args.play.now in
    let read = read_in c.args.play.now in
    concludes-memory (gives_in mode g.L.Link.gives) (IsFairIn mode) (IsFromRead play read)
    (λ grade from trips. PlaysRead grade from trips play read)
    (log (g.K.Sink.sunk c.args.sink.now) (g.K.Sink.faults c.args.sink.now))
    (wire (g.L.Link.trips c.args.link.now) (g.L.Link.faults c.args.link.now))
