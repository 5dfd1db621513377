use Rattle.std.proofs.Common.{◌≡◌, List, ℕ, Bor, Err, length, map, inl, refl, sym, ap, ap₂, ◌∙◌, subst, arith}
use Rattle.std.specs.Str.{encode_utf8_all}
use Rattle.std.proofs.lemmas.List.{length-map}
use Rattle.lsl_world.specs.Ranges.{IsInRange}
use Rattle.lsl_top.specs.Answers.{Plays}
use Rattle.lsl_top.specs.Fair.{IsFairIn}
use Rattle.lsl_top.specs.Meant.{mode_of, play_in, read_in}
use Rattle.lsl_top.specs.Named.{IsPlayName}
use Rattle.lsl_top.specs.Plays.{Play, cards_in, names_in, play_of, played}
use Rattle.lsl_top.specs.Ports.{Serves, gives_in, log, ports, wire}
use Rattle.lsl_top.specs.Promise.{KeepsPlay}
use Rattle.lsl_top.specs.declared.status.Status.{Status}
use Rattle.lsl_top.proofs.Finishing.{serve-memory, serve-unread}
use Rattle.lsl_top.proofs.PlayRead.{serve-play}
use Rattle.lsl_top.proofs.commands.play_world.Goals as goal

pub write_play-requires : goal.write_play-requires
write_play-requires g c =
    subst IsInRange (sym (ap (λ (p : Play). p.world) c.in-Ok-read_play.ensures.is)) c.requires

pub read_play-requires-clause-names : goal.read_play-requires-clause-names
read_play-requires-clause-names g c =
    let name : Bor (List ℕ) → List ℕ = λ n. n.now in
    ap length c.as_slice-in-Ok-file_names.ensures.value
    ∙ sym (length-map c.in-Ok.names.items name)
    ∙ ap length c.in-Ok.ensures
    ∙ length-map c.as_slice.result.now encode_utf8_all
    ∙ ap length c.as_slice.ensures

pub read_play-requires-clause-cards : goal.read_play-requires-clause-cards
read_play-requires-clause-cards g c =
    let name : Bor (List ℕ) → List ℕ = λ n. n.now in
    ap length c.as_slice-in-Ok-file_names-2.ensures.value
    ∙ sym (length-map c.in-Ok-file_names.cards.items name)
    ∙ ap length c.in-Ok-file_names.ensures
    ∙ length-map c.as_slice-in-Ok.result.now encode_utf8_all
    ∙ ap length c.as_slice-in-Ok.ensures

pub returns-in-Ok-read_play : goal.returns-in-Ok-read_play
returns-in-Ok-read_play g c =
    let held = g.S.Shelf.held c.args.shelf.now in
    let mode = mode_of c.args.mode in
    let world = c.args.world.now in
    let name : Bor (List ℕ) → List ℕ = λ n. n.now in
    let names = map name c.as_slice-in-Ok-file_names.result.now in
    let cards = map name c.as_slice-in-Ok-file_names-2.result.now in
    let read = c.in-Ok-read_play.ensures in
    let play = c.in-Ok-read_play.play in
    let same_names : names ≡ names_in world =
    ap (map name) c.as_slice-in-Ok-file_names.ensures.value ∙ c.in-Ok.ensures
    ∙ ap (map encode_utf8_all) c.as_slice.ensures in
    let same_cards : cards ≡ cards_in world =
    ap (map name) c.as_slice-in-Ok-file_names-2.ensures.value ∙ c.in-Ok-file_names.ensures
    ∙ ap (map encode_utf8_all) c.as_slice-in-Ok.ensures in
    let same : played mode names cards world ≡ play_of mode world =
    ap₂ (λ ns cs. played mode ns cs world) same_names same_cards in
    serve-play g.L.Link.gives held (g.S.Shelf.held c.read_play.new.shelf) (g.S.Shelf.faults c.args.shelf.now)
    (g.S.Shelf.faults c.read_play.new.shelf) (play_in play) (play_of mode world) (read_in play)
    (log (g.K.Sink.sunk c.args.sink.now) (g.K.Sink.faults c.args.sink.now))
    (log (g.K.Sink.sunk c.write_play.new.sink) (g.K.Sink.faults c.write_play.new.sink))
    (wire (g.L.Link.trips c.args.link.now) (g.L.Link.faults c.args.link.now))
    (wire (g.L.Link.trips c.write_play.new.link) (g.L.Link.faults c.write_play.new.link)) c.write_play.result
    read.unchanged read.counted (read.is ∙ same) read.read c.write_play.ensures

pub returns-in-Ok-file_names : goal.returns-in-Ok-file_names
returns-in-Ok-file_names g c =
    let held = g.S.Shelf.held c.args.shelf.now in
    let mode = mode_of c.args.mode in
    let world = c.args.world.now in
    let name : Bor (List ℕ) → List ℕ = λ n. n.now in
    let names = map name c.as_slice-in-Ok-file_names.result.now in
    let cards = map name c.as_slice-in-Ok-file_names-2.result.now in
    let read = c.in-Err-read_play.ensures in
    let same_names : names ≡ names_in world =
    ap (map name) c.as_slice-in-Ok-file_names.ensures.value ∙ c.in-Ok.ensures
    ∙ ap (map encode_utf8_all) c.as_slice.ensures in
    let same_cards : cards ≡ cards_in world =
    ap (map name) c.as_slice-in-Ok-file_names-2.ensures.value ∙ c.in-Ok-file_names.ensures
    ∙ ap (map encode_utf8_all) c.as_slice-in-Ok.ensures in
    subst (λ (status : Status). Serves (gives_in mode g.L.Link.gives) (IsFairIn mode)
    (λ trips. KeepsPlay held trips (play_of mode world))
    (λ grade from trips. Plays grade held from trips (play_of mode world))
    (IsPlayName mode (names_in world) (cards_in world))
    (ports held (g.S.Shelf.faults c.args.shelf.now) (g.K.Sink.sunk c.args.sink.now) (g.K.Sink.faults c.args.sink.now)
    (g.L.Link.trips c.args.link.now) (g.L.Link.faults c.args.link.now))
    (ports (g.S.Shelf.held c.read_play.new.shelf) (g.S.Shelf.faults c.read_play.new.shelf)
    (g.K.Sink.sunk c.args.sink.now) (g.K.Sink.faults c.args.sink.now) (g.L.Link.trips c.args.link.now)
    (g.L.Link.faults c.args.link.now)) status)
    (sym c.unread.ensures)
    (serve-unread (gives_in mode g.L.Link.gives) (IsFairIn mode) (λ trips. KeepsPlay held trips (play_of mode world))
    (λ grade from trips. Plays grade held from trips (play_of mode world))
    (IsPlayName mode (names_in world) (cards_in world)) held (g.S.Shelf.held c.read_play.new.shelf)
    (g.S.Shelf.faults c.args.shelf.now) (g.S.Shelf.faults c.read_play.new.shelf) read.unchanged read.counted
    (log (g.K.Sink.sunk c.args.sink.now) (g.K.Sink.faults c.args.sink.now))
    (wire (g.L.Link.trips c.args.link.now) (g.L.Link.faults c.args.link.now)) c.in-Err-read_play.fault (inl (inl (refl, refl)))
    (inl tt)
    (λ e. let (n, has, rose) = read.err (ap (λ r. Err r) e) in (
      n,
      subst (λ (z : List (List ℕ)). IsPlayName mode (names_in world) z n) same_cards
          (subst (λ (z : List (List ℕ)). IsPlayName mode z cards n) same_names has),
      rose,
    )))

pub returns-in-Ok : goal.returns-in-Ok
returns-in-Ok g c =
    let held = g.S.Shelf.held c.args.shelf.now in
    let mode = mode_of c.args.mode in
    serve-memory (gives_in mode g.L.Link.gives) (IsFairIn mode)
    (λ trips. KeepsPlay held trips (play_of mode c.args.world.now))
    (λ grade from trips. Plays grade held from trips (play_of mode c.args.world.now))
    (IsPlayName mode (names_in c.args.world.now) (cards_in c.args.world.now)) held held
    (g.S.Shelf.faults c.args.shelf.now) (g.S.Shelf.faults c.args.shelf.now) refl (λ n. omega arith)
    (log (g.K.Sink.sunk c.args.sink.now) (g.K.Sink.faults c.args.sink.now))
    (wire (g.L.Link.trips c.args.link.now) (g.L.Link.faults c.args.link.now)) (inl (inl (refl, refl)))

pub returns : goal.returns
returns g c =
    let held = g.S.Shelf.held c.args.shelf.now in
    let mode = mode_of c.args.mode in
    serve-memory (gives_in mode g.L.Link.gives) (IsFairIn mode)
    (λ trips. KeepsPlay held trips (play_of mode c.args.world.now))
    (λ grade from trips. Plays grade held from trips (play_of mode c.args.world.now))
    (IsPlayName mode (names_in c.args.world.now) (cards_in c.args.world.now)) held held
    (g.S.Shelf.faults c.args.shelf.now) (g.S.Shelf.faults c.args.shelf.now) refl (λ n. omega arith)
    (log (g.K.Sink.sunk c.args.sink.now) (g.K.Sink.faults c.args.sink.now))
    (wire (g.L.Link.trips c.args.link.now) (g.L.Link.faults c.args.link.now)) (inl (inl (refl, refl)))
