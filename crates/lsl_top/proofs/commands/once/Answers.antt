use Rattle.std.proofs.Common.{Err, [], ◌∷◌, inl, inr, length, refl, sym, ap, ◌∙◌, subst, arith}
use Rattle.lsl_ports.specs.Trips.{Honest}
use Rattle.lsl_image.specs.Images.{IsIntact}
use Rattle.lsl_lines.specs.declared.file.WorldFile.{WorldFile}
use Rattle.lsl_world.specs.Ranges.{IsInRange}
use Rattle.lsl_top.specs.Answers.{Answers}
use Rattle.lsl_top.specs.Meant.{play_in, read_in}
use Rattle.lsl_top.specs.Named.{IsNamed, IsPlayName}
use Rattle.lsl_top.specs.Plays.{Play, Whole, play_of_once, played}
use Rattle.lsl_top.specs.Ports.{Serves, log, ports, wire}
use Rattle.lsl_top.specs.Promise.{KeepsOf, KeepsPlay}
use Rattle.lsl_top.specs.Words.{Once}
use Rattle.lsl_top.specs.declared.status.Status.{Status}
use Rattle.lsl_top.proofs.Finishing.{serve-later, serve-memory, serve-unread}
use Rattle.lsl_top.proofs.OnceRange.{no-name, once-in_range, only-name}
use Rattle.lsl_top.proofs.PlayRead.{serve-play}
use Rattle.lsl_top.proofs.commands.once.Goals as goal

pub write_play-requires : goal.write_play-requires
write_play-requires g c =
    subst IsInRange
    (sym (ap (λ (p : Play). p.world) c.in-Ok-read_play.ensures.is ∙ c.in-Ok.ensures)) once-in_range

pub read_play-requires-clause-names : goal.read_play-requires-clause-names
read_play-requires-clause-names g c = sym (ap (λ (w : WorldFile). length w.files) c.in-Ok.ensures)

pub read_play-requires-clause-cards : goal.read_play-requires-clause-cards
read_play-requires-clause-cards g c = sym (ap (λ (w : WorldFile). length w.cards) c.in-Ok.ensures)

pub returns-in-Ok-read_play : goal.returns-in-Ok-read_play
returns-in-Ok-read_play g c =
    let held = g.S.Shelf.held c.args.shelf.now in
    let name = c.args.name.now in
    let faults = g.S.Shelf.faults c.args.shelf.now in
    let read = c.in-Ok-read_play.ensures in
    let play = c.in-Ok-read_play.play in
    let same = ap (λ (w : WorldFile). played Whole (name ∷ []) [] w) c.in-Ok.ensures in
    let a = log (g.K.Sink.sunk c.args.sink.now) (g.K.Sink.faults c.args.sink.now) in
    let b = log (g.K.Sink.sunk c.write_play.new.sink) (g.K.Sink.faults c.write_play.new.sink) in
    let p = wire (g.L.Link.trips c.args.link.now) (g.L.Link.faults c.args.link.now) in
    let q = wire (g.L.Link.trips c.write_play.new.link) (g.L.Link.faults c.write_play.new.link) in
    serve-later g.L.Link.gives (Honest IsIntact) (λ trips. KeepsPlay held trips (play_of_once name))
    (λ trips. KeepsOf held trips (Once name))
    (λ grade from trips. Answers grade held from trips (Once name))
    (λ grade from trips. Answers grade held from trips (Once name)) (IsPlayName Whole (name ∷ []) [])
    (IsNamed held (Once name)) held held faults faults a p
    (ports (g.S.Shelf.held c.read_play.new.shelf) (g.S.Shelf.faults c.read_play.new.shelf)
    (g.K.Sink.sunk c.write_play.new.sink) (g.K.Sink.faults c.write_play.new.sink)
    (g.L.Link.trips c.write_play.new.link) (g.L.Link.faults c.write_play.new.link)) c.write_play.result
    refl (λ n. omega arith) (λ trips k. k) (λ from trips answer h. h)
    (λ n h. elim h [
      | inl never ↦ absurd never
      | inr has ↦ elim has [
        | inl one ↦ only-name name n one
        | inr none ↦ absurd (no-name n none)
      ]
    ])
    (serve-play g.L.Link.gives held (g.S.Shelf.held c.read_play.new.shelf) faults
    (g.S.Shelf.faults c.read_play.new.shelf) (play_in play) (play_of_once name) (read_in play) a b p q
    c.write_play.result read.unchanged read.counted (read.is ∙ same) read.read c.write_play.ensures)

pub returns-in-Ok : goal.returns-in-Ok
returns-in-Ok g c =
    let held = g.S.Shelf.held c.args.shelf.now in
    let name = c.args.name.now in
    let read = c.in-Err-read_play.ensures in
    subst (λ (status : Status). Serves g.L.Link.gives (Honest IsIntact) (λ trips. KeepsOf held trips (Once name))
    (λ grade from trips. Answers grade held from trips (Once name)) (IsNamed held (Once name))
    (ports held (g.S.Shelf.faults c.args.shelf.now) (g.K.Sink.sunk c.args.sink.now) (g.K.Sink.faults c.args.sink.now)
    (g.L.Link.trips c.args.link.now) (g.L.Link.faults c.args.link.now))
    (ports (g.S.Shelf.held c.read_play.new.shelf) (g.S.Shelf.faults c.read_play.new.shelf)
    (g.K.Sink.sunk c.args.sink.now) (g.K.Sink.faults c.args.sink.now) (g.L.Link.trips c.args.link.now)
    (g.L.Link.faults c.args.link.now)) status)
    (sym c.unread.ensures)
    (serve-unread g.L.Link.gives (Honest IsIntact) (λ trips. KeepsOf held trips (Once name))
    (λ grade from trips. Answers grade held from trips (Once name)) (IsNamed held (Once name)) held
    (g.S.Shelf.held c.read_play.new.shelf) (g.S.Shelf.faults c.args.shelf.now)
    (g.S.Shelf.faults c.read_play.new.shelf) read.unchanged read.counted
    (log (g.K.Sink.sunk c.args.sink.now) (g.K.Sink.faults c.args.sink.now))
    (wire (g.L.Link.trips c.args.link.now) (g.L.Link.faults c.args.link.now)) c.in-Err-read_play.fault (inl (inl (refl, refl)))
    (inl tt)
    (λ e. let (n, has, rose) = read.err (ap (λ r. Err r) e) in (
      n,
      elim has [
        | inl never ↦ absurd never
        | inr one ↦ elim one [
          | inl is ↦ only-name name n is
          | inr none ↦ absurd (no-name n none)
        ]
      ],
      rose,
    )))

pub returns : goal.returns
returns g c =
    let held = g.S.Shelf.held c.args.shelf.now in
    let name = c.args.name.now in
    serve-memory g.L.Link.gives (Honest IsIntact) (λ trips. KeepsOf held trips (Once name))
    (λ grade from trips. Answers grade held from trips (Once name))
    (IsNamed held (Once name)) held held
    (g.S.Shelf.faults c.args.shelf.now) (g.S.Shelf.faults c.args.shelf.now) refl (λ n. omega arith)
    (log (g.K.Sink.sunk c.args.sink.now) (g.K.Sink.faults c.args.sink.now))
    (wire (g.L.Link.trips c.args.link.now) (g.L.Link.faults c.args.link.now)) (inl (inl (refl, refl)))
