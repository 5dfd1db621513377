use Rattle.std.proofs.Common.{refl, sym, ap, subst, arith}
use Rattle.lsl_ports.specs.Trips.{Honest}
use Rattle.lsl_image.specs.Images.{IsIntact}
use Rattle.lsl_top.specs.Answers.{Answers, Makes}
use Rattle.lsl_top.specs.Fair.{IsFairOf}
use Rattle.lsl_top.specs.Meant.{asked_by}
use Rattle.lsl_top.specs.Named.{IsNamed}
use Rattle.lsl_top.specs.Ports.{Serves, log, ports, wire, gives_by}
use Rattle.lsl_top.specs.Promise.{KeepsOf}
use Rattle.lsl_top.specs.Words.{Command, Make}
use Rattle.lsl_top.proofs.Finishing.{serve-concluded}
use Rattle.lsl_top.proofs.commands.serve.Goals as goal

pub returns-in-Once : goal.returns-in-Once
returns-in-Once g c =
    let held = g.S.Shelf.held c.args.shelf.now in
    subst (λ (command : Command). Serves (gives_by command g.L.Link.gives) (IsFairOf command)
    (λ trips. KeepsOf held trips command)
    (λ grade from trips. Answers grade held from trips command) (IsNamed held command)
    (ports held (g.S.Shelf.faults c.args.shelf.now) (g.K.Sink.sunk c.args.sink.now) (g.K.Sink.faults c.args.sink.now)
    (g.L.Link.trips c.args.link.now) (g.L.Link.faults c.args.link.now))
    (ports (g.S.Shelf.held c.once.new.shelf) (g.S.Shelf.faults c.once.new.shelf) (g.K.Sink.sunk c.once.new.sink)
    (g.K.Sink.faults c.once.new.sink) (g.L.Link.trips c.once.new.link) (g.L.Link.faults c.once.new.link))
    c.once.result)
    (sym (ap asked_by c.in-Once.is)) c.once.ensures

pub returns-in-Check : goal.returns-in-Check
returns-in-Check g c =
    let held = g.S.Shelf.held c.args.shelf.now in
    subst (λ (command : Command). Serves (gives_by command g.L.Link.gives) (IsFairOf command)
    (λ trips. KeepsOf held trips command)
    (λ grade from trips. Answers grade held from trips command) (IsNamed held command)
    (ports held (g.S.Shelf.faults c.args.shelf.now) (g.K.Sink.sunk c.args.sink.now) (g.K.Sink.faults c.args.sink.now)
    (g.L.Link.trips c.args.link.now) (g.L.Link.faults c.args.link.now))
    (ports (g.S.Shelf.held c.check.new.shelf) (g.S.Shelf.faults c.check.new.shelf) (g.K.Sink.sunk c.check.new.sink)
    (g.K.Sink.faults c.check.new.sink) (g.L.Link.trips c.check.new.link) (g.L.Link.faults c.check.new.link))
    c.check.result)
    (sym (ap asked_by c.in-Check.is)) c.check.ensures

pub returns-in-Replay : goal.returns-in-Replay
returns-in-Replay g c =
    let held = g.S.Shelf.held c.args.shelf.now in
    subst (λ (command : Command). Serves (gives_by command g.L.Link.gives) (IsFairOf command)
    (λ trips. KeepsOf held trips command)
    (λ grade from trips. Answers grade held from trips command) (IsNamed held command)
    (ports held (g.S.Shelf.faults c.args.shelf.now) (g.K.Sink.sunk c.args.sink.now) (g.K.Sink.faults c.args.sink.now)
    (g.L.Link.trips c.args.link.now) (g.L.Link.faults c.args.link.now))
    (ports (g.S.Shelf.held c.replay.new.shelf) (g.S.Shelf.faults c.replay.new.shelf) (g.K.Sink.sunk c.replay.new.sink)
    (g.K.Sink.faults c.replay.new.sink) (g.L.Link.trips c.replay.new.link) (g.L.Link.faults c.replay.new.link))
    c.replay.result)
    (sym (ap asked_by c.in-Replay.is)) c.replay.ensures

pub returns-in-Lossy : goal.returns-in-Lossy
returns-in-Lossy g c =
    let held = g.S.Shelf.held c.args.shelf.now in
    subst (λ (command : Command). Serves (gives_by command g.L.Link.gives) (IsFairOf command)
    (λ trips. KeepsOf held trips command)
    (λ grade from trips. Answers grade held from trips command) (IsNamed held command)
    (ports held (g.S.Shelf.faults c.args.shelf.now) (g.K.Sink.sunk c.args.sink.now) (g.K.Sink.faults c.args.sink.now)
    (g.L.Link.trips c.args.link.now) (g.L.Link.faults c.args.link.now))
    (ports (g.S.Shelf.held c.replay-in-Lossy.new.shelf) (g.S.Shelf.faults c.replay-in-Lossy.new.shelf)
    (g.K.Sink.sunk c.replay-in-Lossy.new.sink) (g.K.Sink.faults c.replay-in-Lossy.new.sink)
    (g.L.Link.trips c.replay-in-Lossy.new.link) (g.L.Link.faults c.replay-in-Lossy.new.link))
    c.replay-in-Lossy.result)
    (sym (ap asked_by c.in-Lossy.is)) c.replay-in-Lossy.ensures

pub returns-in-Freeze : goal.returns-in-Freeze
returns-in-Freeze g c =
    let held = g.S.Shelf.held c.args.shelf.now in
    subst (λ (command : Command). Serves (gives_by command g.L.Link.gives) (IsFairOf command)
    (λ trips. KeepsOf held trips command)
    (λ grade from trips. Answers grade held from trips command) (IsNamed held command)
    (ports held (g.S.Shelf.faults c.args.shelf.now) (g.K.Sink.sunk c.args.sink.now) (g.K.Sink.faults c.args.sink.now)
    (g.L.Link.trips c.args.link.now) (g.L.Link.faults c.args.link.now))
    (ports (g.S.Shelf.held c.replay-in-Freeze.new.shelf) (g.S.Shelf.faults c.replay-in-Freeze.new.shelf)
    (g.K.Sink.sunk c.replay-in-Freeze.new.sink)
    (g.K.Sink.faults c.replay-in-Freeze.new.sink) (g.L.Link.trips c.replay-in-Freeze.new.link)
    (g.L.Link.faults c.replay-in-Freeze.new.link))
    c.replay-in-Freeze.result)
    (sym (ap asked_by c.in-Freeze.is)) c.replay-in-Freeze.ensures

pub returns-in-State : goal.returns-in-State
returns-in-State g c =
    let held = g.S.Shelf.held c.args.shelf.now in
    subst (λ (command : Command). Serves (gives_by command g.L.Link.gives) (IsFairOf command)
    (λ trips. KeepsOf held trips command)
    (λ grade from trips. Answers grade held from trips command) (IsNamed held command)
    (ports held (g.S.Shelf.faults c.args.shelf.now) (g.K.Sink.sunk c.args.sink.now) (g.K.Sink.faults c.args.sink.now)
    (g.L.Link.trips c.args.link.now) (g.L.Link.faults c.args.link.now))
    (ports (g.S.Shelf.held c.replay-in-State.new.shelf) (g.S.Shelf.faults c.replay-in-State.new.shelf)
    (g.K.Sink.sunk c.replay-in-State.new.sink)
    (g.K.Sink.faults c.replay-in-State.new.sink) (g.L.Link.trips c.replay-in-State.new.link)
    (g.L.Link.faults c.replay-in-State.new.link))
    c.replay-in-State.result)
    (sym (ap asked_by c.in-State.is)) c.replay-in-State.ensures

pub returns-in-Thaw : goal.returns-in-Thaw
returns-in-Thaw g c =
    let held = g.S.Shelf.held c.args.shelf.now in
    subst (λ (command : Command). Serves (gives_by command g.L.Link.gives) (IsFairOf command)
    (λ trips. KeepsOf held trips command)
    (λ grade from trips. Answers grade held from trips command) (IsNamed held command)
    (ports held (g.S.Shelf.faults c.args.shelf.now) (g.K.Sink.sunk c.args.sink.now) (g.K.Sink.faults c.args.sink.now)
    (g.L.Link.trips c.args.link.now) (g.L.Link.faults c.args.link.now))
    (ports (g.S.Shelf.held c.replay-in-Thaw.new.shelf) (g.S.Shelf.faults c.replay-in-Thaw.new.shelf)
    (g.K.Sink.sunk c.replay-in-Thaw.new.sink)
    (g.K.Sink.faults c.replay-in-Thaw.new.sink) (g.L.Link.trips c.replay-in-Thaw.new.link)
    (g.L.Link.faults c.replay-in-Thaw.new.link))
    c.replay-in-Thaw.result)
    (sym (ap asked_by c.in-Thaw.is)) c.replay-in-Thaw.ensures

pub returns-in-View : goal.returns-in-View
returns-in-View g c =
    let held = g.S.Shelf.held c.args.shelf.now in
    subst (λ (command : Command). Serves (gives_by command g.L.Link.gives) (IsFairOf command)
    (λ trips. KeepsOf held trips command)
    (λ grade from trips. Answers grade held from trips command) (IsNamed held command)
    (ports held (g.S.Shelf.faults c.args.shelf.now) (g.K.Sink.sunk c.args.sink.now) (g.K.Sink.faults c.args.sink.now)
    (g.L.Link.trips c.args.link.now) (g.L.Link.faults c.args.link.now))
    (ports (g.S.Shelf.held c.replay-in-View.new.shelf) (g.S.Shelf.faults c.replay-in-View.new.shelf)
    (g.K.Sink.sunk c.replay-in-View.new.sink) (g.K.Sink.faults c.replay-in-View.new.sink)
    (g.L.Link.trips c.replay-in-View.new.link) (g.L.Link.faults c.replay-in-View.new.link))
    c.replay-in-View.result)
    (sym (ap asked_by c.in-View.is)) c.replay-in-View.ensures

pub returns-in-Make : goal.returns-in-Make
returns-in-Make g c =
    let held = g.S.Shelf.held c.args.shelf.now in
    let faults = g.S.Shelf.faults c.args.shelf.now in
    let number = c.in-Make.number in
    subst (λ (command : Command). Serves (gives_by command g.L.Link.gives) (IsFairOf command)
    (λ trips. KeepsOf held trips command)
    (λ grade from trips. Answers grade held from trips command) (IsNamed held command)
    (ports held faults (g.K.Sink.sunk c.args.sink.now) (g.K.Sink.faults c.args.sink.now)
    (g.L.Link.trips c.args.link.now) (g.L.Link.faults c.args.link.now))
    (ports held faults (g.K.Sink.sunk c.make.new.sink) (g.K.Sink.faults c.make.new.sink)
    (g.L.Link.trips c.make.new.link) (g.L.Link.faults c.make.new.link)) c.make.result)
    (sym (ap asked_by c.in-Make.is))
    (serve-concluded g.L.Link.gives (Honest IsIntact) (λ trips. KeepsOf held trips (Make number))
    (λ grade from trips. Answers grade held from trips (Make number)) (IsNamed held (Make number)) held held faults
    faults
    refl (λ n. omega arith) (λ from. Unit {0}) (λ grade from trips. Makes grade from trips number)
    (log (g.K.Sink.sunk c.args.sink.now) (g.K.Sink.faults c.args.sink.now))
    (log (g.K.Sink.sunk c.make.new.sink) (g.K.Sink.faults c.make.new.sink))
    (wire (g.L.Link.trips c.args.link.now) (g.L.Link.faults c.args.link.now))
    (wire (g.L.Link.trips c.make.new.link) (g.L.Link.faults c.make.new.link)) c.make.result (λ trips keeps from. keeps from tt)
    (λ from trips answer h. h) c.make.ensures)
