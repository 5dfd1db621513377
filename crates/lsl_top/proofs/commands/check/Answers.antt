use Rattle.std.proofs.Common.{Err, List, [], ℕ, inl, refl, sym, ap, subst}
use Rattle.lsl_ports.specs.Trips.{Trip}
use Rattle.lsl_region.specs.Worlds.{World}
use Rattle.lsl_top.specs.Answers.{Answer, Answers, Checks, Grade}
use Rattle.lsl_top.specs.Fair.{IsFairOf}
use Rattle.lsl_top.specs.Held.{Holds}
use Rattle.lsl_top.specs.Named.{IsNamed}
use Rattle.lsl_top.specs.Ports.{Keeping, Serves, gives_by, log, ports, wire}
use Rattle.lsl_top.specs.Promise.{KeepsOf}
use Rattle.lsl_top.specs.Words.{Check}
use Rattle.lsl_top.specs.declared.status.Status.{Status}
use Rattle.lsl_top.proofs.FilesRead.{checks-read, text-read}
use Rattle.lsl_top.proofs.Finishing.{keeps-as, serve-finished, serve-unread}
use Rattle.lsl_top.proofs.commands.check.Goals as goal

pub returns-in-Ok : goal.returns-in-Ok
returns-in-Ok g c =
    let held = g.S.Shelf.held c.args.shelf.now in
    let name = c.args.name.now in
    let bytes = c.in-Ok.text.items in
    let read = c.in-Ok.ensures in
    let (text, is, of) = text-read held name bytes read.ok in
    let old = (log (g.K.Sink.sunk c.args.sink.now) (g.K.Sink.faults c.args.sink.now)) in
    let new = (log (g.K.Sink.sunk c.write_check.new.sink) (g.K.Sink.faults c.write_check.new.sink)) in
    let link = (wire (g.L.Link.trips c.args.link.now) (g.L.Link.faults c.args.link.now)) in
    let given = c.as_slice.result.now in
    let found : (answer : Answer) → Checks name given answer
    → (text : List ℕ) × Holds held name text × Checks name text answer =
    λ answer h. (
      text,
      is,
      checks-read name bytes text answer of
          (subst (λ (z : List ℕ). Checks name z answer) c.as_slice.ensures.value h),
    ) in
    serve-finished (gives_by (Check name) g.L.Link.gives) (IsFairOf (Check name))
    (λ trips. KeepsOf held trips (Check name)) (λ grade from trips. Answers grade held from trips (Check name))
    (IsNamed held (Check name)) held
    (g.S.Shelf.held c.read_script.new.shelf) (g.S.Shelf.faults c.args.shelf.now)
    (g.S.Shelf.faults c.read_script.new.shelf) read.unchanged read.counted (Checks name given) old new link
    c.write_check.result
    (keeps-as (λ grade. Checks name given)
    (λ grade answer. (text : List ℕ) × Holds held name text × Checks name text answer) c.write_check.result []
    old.sunk new.sunk (λ grade answer h. found answer h))
    (λ from trips answer h. found answer h) c.write_check.ensures

pub returns-in-Err : goal.returns-in-Err
returns-in-Err g c =
    let held = g.S.Shelf.held c.args.shelf.now in
    let name = c.args.name.now in
    let read = c.in-Err.ensures in
    let Kept : Keeping = λ trips. KeepsOf held trips (Check name) in
    let IsThis : Grade → World → List Trip → Answer → Type 0 =
    λ grade from trips. Answers grade held from trips (Check name) in
    subst (λ (status : Status). Serves (gives_by (Check name) g.L.Link.gives) (IsFairOf (Check name)) Kept IsThis
    (IsNamed held (Check name))
    (ports held (g.S.Shelf.faults c.args.shelf.now) (g.K.Sink.sunk c.args.sink.now) (g.K.Sink.faults c.args.sink.now)
    (g.L.Link.trips c.args.link.now) (g.L.Link.faults c.args.link.now))
    (ports (g.S.Shelf.held c.read_script.new.shelf) (g.S.Shelf.faults c.read_script.new.shelf)
    (g.K.Sink.sunk c.args.sink.now)
    (g.K.Sink.faults c.args.sink.now) (g.L.Link.trips c.args.link.now) (g.L.Link.faults c.args.link.now)) status)
    (sym c.unread.ensures)
    (serve-unread (gives_by (Check name) g.L.Link.gives) (IsFairOf (Check name)) Kept IsThis
    (IsNamed held (Check name)) held
    (g.S.Shelf.held c.read_script.new.shelf) (g.S.Shelf.faults c.args.shelf.now)
    (g.S.Shelf.faults c.read_script.new.shelf)
    read.unchanged read.counted (log (g.K.Sink.sunk c.args.sink.now) (g.K.Sink.faults c.args.sink.now))
    (wire (g.L.Link.trips c.args.link.now) (g.L.Link.faults c.args.link.now)) c.in-Err.fault
    (inl (refl, refl)) tt (λ e. (name, refl, read.err (ap (λ r. Err r) e))))
