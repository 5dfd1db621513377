use Rattle.std.proofs.Common.{◌≡◌, Err, List, [], ℕ, Option, refl, sym, ap, subst, inl, inr}
use Rattle.lsl_ports.specs.Shelf.{Files}
use Rattle.lsl_ports.specs.Trips.{Trip}
use Rattle.lsl_lines.specs.World.{FileFirst, IsRefused, IsWorld}
use Rattle.lsl_lines.specs.declared.file.WorldFile.{WorldFile}
use Rattle.lsl_region.specs.Worlds.{World}
use Rattle.lsl_world.specs.Ranges.{IsInRange}
use Rattle.lsl_world.proofs.Ranges.{good-in_range}
use Rattle.lsl_top.specs.Answers.{Answer, Due, Grade, Plays, ReplaysFile, world_refused}
use Rattle.lsl_top.specs.Fair.{IsFairIn}
use Rattle.lsl_top.specs.Lines.{world_refusal_of}
use Rattle.lsl_top.specs.Meant.{mode_of}
use Rattle.lsl_top.specs.Named.{IsNamedIn, IsPlayName}
use Rattle.lsl_top.specs.Plays.{cards_in, file_in, names_in, play_of}
use Rattle.lsl_top.specs.Ports.{Finishes, Serves, gives_in, log, ports, wire}
use Rattle.lsl_top.specs.Promise.{KeepsFile, KeepsPlay, RefusesWorld}
use Rattle.lsl_top.specs.declared.status.Status.{Status}
use Rattle.lsl_top.specs.declared.status.Status.TheVariants.{BadWorld}
use Rattle.lsl_top.proofs.Finishing.{finish-written, keeps-as, serve-finished, serve-later, serve-memory, serve-unread}
use Rattle.lsl_top.proofs.Cuts.{played-in_range}
use Rattle.lsl_top.proofs.WorldRead.{world-read}
use Rattle.lsl_top.proofs.commands.replay.Goals as goal

pub play_world-requires : goal.play_world-requires
play_world-requires g c =
    let mode = mode_of c.args.mode in
    let file = c.in-Ok-read_world.file in
    subst IsInRange (sym c.played.ensures)
    (played-in_range mode file (good-in_range c.as_slice.result.now file c.in-Ok-read_world.ensures.found))

pub returns-in-Err : goal.returns-in-Err
returns-in-Err g c =
    let held = g.S.Shelf.held c.args.shelf.now in
    let mode = mode_of c.args.mode in
    let name = c.args.name.now in
    let read = c.in-Err.ensures in
    let IsThis : Grade → World → List Trip → Answer → Type 0 =
    λ grade from trips. ReplaysFile grade held from trips mode name in
    subst (λ (status : Status). Serves (gives_in mode g.L.Link.gives) (IsFairIn mode)
    (λ trips. KeepsFile held trips mode name) IsThis
    (IsNamedIn held mode name)
    (ports held (g.S.Shelf.faults c.args.shelf.now) (g.K.Sink.sunk c.args.sink.now) (g.K.Sink.faults c.args.sink.now)
    (g.L.Link.trips c.args.link.now) (g.L.Link.faults c.args.link.now))
    (ports (g.S.Shelf.held c.read_all.new.shelf) (g.S.Shelf.faults c.read_all.new.shelf) (g.K.Sink.sunk c.args.sink.now)
    (g.K.Sink.faults c.args.sink.now) (g.L.Link.trips c.args.link.now) (g.L.Link.faults c.args.link.now)) status)
    (sym c.unread.ensures)
    (serve-unread (gives_in mode g.L.Link.gives) (IsFairIn mode) (λ trips. KeepsFile held trips mode name) IsThis
    (IsNamedIn held mode name) held
    (g.S.Shelf.held c.read_all.new.shelf) (g.S.Shelf.faults c.args.shelf.now) (g.S.Shelf.faults c.read_all.new.shelf)
    read.unchanged read.counted (log (g.K.Sink.sunk c.args.sink.now) (g.K.Sink.faults c.args.sink.now))
    (wire (g.L.Link.trips c.args.link.now) (g.L.Link.faults c.args.link.now)) c.in-Err.fault
    (inl (inl (refl, refl))) (inl tt) (λ e. (name, inr (inl refl), read.err (ap (λ r. Err r) e))))

pub returns-in-Ok-read_world : goal.returns-in-Ok-read_world
returns-in-Ok-read_world g c =
    let held = g.S.Shelf.held c.args.shelf.now in
    let later = g.S.Shelf.held c.read_all.new.shelf in
    let mode = mode_of c.args.mode in
    let name = c.args.name.now in
    let read = c.in-Ok.ensures in
    let whole = c.in-Ok-read_world.file in
    let world = file_in mode whole in
    let (file, is, of) = world-read held name c.in-Ok.text.items read.ok in
    let good : IsWorld file whole = of.good whole
    (subst (λ (z : List ℕ). IsWorld z whole) c.as_slice.ensures.value c.in-Ok-read_world.ensures.found) in
    serve-later (gives_in mode g.L.Link.gives) (IsFairIn mode) (λ trips. KeepsPlay later trips (play_of mode world))
    (λ trips. KeepsFile held trips mode name)
    (λ grade from trips. Plays grade later from trips (play_of mode world))
    (λ grade from trips. ReplaysFile grade held from trips mode name)
    (IsPlayName mode (names_in world) (cards_in world)) (IsNamedIn held mode name) held later
    (g.S.Shelf.faults c.args.shelf.now)
    (g.S.Shelf.faults c.read_all.new.shelf)
    (log (g.K.Sink.sunk c.args.sink.now) (g.K.Sink.faults c.args.sink.now))
    (wire (g.L.Link.trips c.args.link.now) (g.L.Link.faults c.args.link.now))
    (ports (g.S.Shelf.held c.play_world.new.shelf) (g.S.Shelf.faults c.play_world.new.shelf)
    (g.K.Sink.sunk c.play_world.new.sink)
    (g.K.Sink.faults c.play_world.new.sink) (g.L.Link.trips c.play_world.new.link)
    (g.L.Link.faults c.play_world.new.link)) c.play_world.result read.unchanged read.counted
    (λ trips k. inr (
      file,
      whole,
      is,
      good,
      subst (λ (z : Option Files). KeepsPlay z trips (play_of mode world) c.play_world.result
          (g.K.Sink.sunk c.args.sink.now) (g.K.Sink.sunk c.play_world.new.sink)) read.unchanged k,
    ))
    (λ from trips answer h. (
      file,
      is,
      inl (
        whole,
        good,
        subst (λ (z : Option Files). Plays Due z from trips (play_of mode world) answer) read.unchanged h,
      ),
    ))
    (λ n h. elim h [
      | inl frozen ↦ inl frozen
      | inr has ↦ inr (inr (file, whole, is, good, has))
    ])
    (subst (λ (z : WorldFile). Serves (gives_in mode g.L.Link.gives) (IsFairIn mode)
    (λ trips. KeepsPlay later trips (play_of mode z)) (λ grade from trips. Plays grade later from trips (play_of mode z))
    (IsPlayName mode (names_in z) (cards_in z))
    (ports later (g.S.Shelf.faults c.read_all.new.shelf) (g.K.Sink.sunk c.args.sink.now) (g.K.Sink.faults c.args.sink.now)
    (g.L.Link.trips c.args.link.now) (g.L.Link.faults c.args.link.now))
    (ports (g.S.Shelf.held c.play_world.new.shelf) (g.S.Shelf.faults c.play_world.new.shelf)
    (g.K.Sink.sunk c.play_world.new.sink)
    (g.K.Sink.faults c.play_world.new.sink) (g.L.Link.trips c.play_world.new.link)
    (g.L.Link.faults c.play_world.new.link)) c.play_world.result) c.played.ensures c.play_world.ensures)

pub returns-in-Err-Fault : goal.returns-in-Err-Fault
returns-in-Err-Fault g c =
    let held = g.S.Shelf.held c.args.shelf.now in
    let mode = mode_of c.args.mode in
    let name = c.args.name.now in
    let read = c.in-Ok.ensures in
    let fault = c.in-Err-Fault.fault in
    let (file, is, of) = world-read held name c.in-Ok.text.items read.ok in
    let refused = subst (IsRefused c.as_slice.result.now) c.in-Err-Fault.field-0-is c.in-Err-Fault.ensures.first in
    let first : FileFirst file fault = of.first fault
    (subst (λ (z : List ℕ). FileFirst z fault) c.as_slice.ensures.value refused) in
    let old = (log (g.K.Sink.sunk c.args.sink.now) (g.K.Sink.faults c.args.sink.now)) in
    let new = (log (g.K.Sink.sunk c.write_line.new.sink) (g.K.Sink.faults c.write_line.new.sink)) in
    let link = (wire (g.L.Link.trips c.args.link.now) (g.L.Link.faults c.args.link.now)) in
    let IsThis : Answer → Type 0 = λ answer. answer ≡ world_refused name fault in
    serve-finished (gives_in mode g.L.Link.gives) (IsFairIn mode) (λ trips. KeepsFile held trips mode name)
    (λ grade from trips. ReplaysFile grade held from trips mode name) (IsNamedIn held mode name) held
    (g.S.Shelf.held c.read_all.new.shelf) (g.S.Shelf.faults c.args.shelf.now)
    (g.S.Shelf.faults c.read_all.new.shelf) read.unchanged read.counted IsThis old new link c.status_after.result
    (λ k. inl (keeps-as (λ grade. IsThis) (λ grade. RefusesWorld held name) c.status_after.result [] old.sunk new.sunk
    (λ grade answer e. (file, fault, is, first, e)) k))
    (λ from trips answer e. (file, is, inr (fault, first, e)))
    (subst (λ (status : Status). Finishes IsThis old new status) (sym c.status_after.ensures)
    (finish-written IsThis BadWorld (world_refusal_of name fault) old new c.write_line.result tt refl
    (c.write_line.ensures (world_refusal_of name fault) c.world_refusal.ensures)))

pub returns : goal.returns
returns g c =
    let held = g.S.Shelf.held c.args.shelf.now in
    let mode = mode_of c.args.mode in
    let name = c.args.name.now in
    let read = c.in-Ok.ensures in
    serve-memory (gives_in mode g.L.Link.gives) (IsFairIn mode) (λ trips. KeepsFile held trips mode name)
    (λ grade from trips. ReplaysFile grade held from trips mode name) (IsNamedIn held mode name) held
    (g.S.Shelf.held c.read_all.new.shelf) (g.S.Shelf.faults c.args.shelf.now)
    (g.S.Shelf.faults c.read_all.new.shelf) read.unchanged read.counted
    (log (g.K.Sink.sunk c.args.sink.now) (g.K.Sink.faults c.args.sink.now))
    (wire (g.L.Link.trips c.args.link.now) (g.L.Link.faults c.args.link.now)) (inl (inl (refl, refl)))
