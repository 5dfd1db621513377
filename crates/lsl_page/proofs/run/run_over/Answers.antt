use Rattle.std.proofs.Common.{[], length, map, take, ap, ◌∙◌, arith}
use Rattle.std.proofs.lemmas.List.{length-map, length-take}
use Rattle.std.specs.Prelude.{string_bytes}
use Rattle.lsl_region.specs.Worlds.{World}
use Rattle.lsl_top.specs.Plays.{once_world}
use Rattle.lsl_top.specs.Words.{command_of}
use Rattle.lsl_world.specs.Programs.{rules_of}
use Rattle.lsl_world.specs.Starts.{start}
use Rattle.lsl_page.specs.Request.{files_in}
use Rattle.lsl_page.proofs.Endings.{ended-of, same-mark}
use Rattle.lsl_page.proofs.Fits.{words-fit}
use Rattle.lsl_page.proofs.run.run_over.Goals as goal

-- a command of two words doesn't depend on the frozen world
anywhere : World
anywhere = start (rules_of []) once_world []

pub returns-clause-same_room : goal.returns-clause-same_room
returns-clause-same_room c =
    let shelf = c.args.shelf.now in
    let other = c.end.new.shelf in
    let sink = c.args.sink.now in
    let filled = c.end.new.sink in
    same-mark (files_in shelf.bytes.now shelf.places.now) (files_in other.bytes.now other.places.now)
    (command_of c.args.words.now) c.end.result sink.room.ghost_name filled.room.ghost_name
    (take sink.count sink.room.now) (take filled.count filled.room.now) shelf.faults other.faults sink.faults
    filled.faults c.end.ensures c.requires.fresh (ap (λ count. take count sink.room.now) c.requires.empty)
    c.requires.calm anywhere
    (words-fit (files_in shelf.bytes.now shelf.places.now) anywhere (map string_bytes c.args.words.now)
    (length-map c.args.words.now string_bytes ∙ c.requires.two))

pub returns-clause-ended : goal.returns-clause-ended
returns-clause-ended c =
    let shelf = c.args.shelf.now in
    let other = c.end.new.shelf in
    let sink = c.args.sink.now in
    let filled = c.end.new.sink in
    let size = length-take filled.count filled.room.now in
    ended-of (files_in shelf.bytes.now shelf.places.now) (files_in other.bytes.now other.places.now)
    (command_of c.args.words.now) c.end.result sink.room.ghost_name filled.room.ghost_name
    (take sink.count sink.room.now) (take filled.count filled.room.now) shelf.faults other.faults sink.faults
    filled.faults c.end.ensures c.requires.fresh (ap (λ count. take count sink.room.now) c.requires.empty)
    c.requires.calm anywhere
    (words-fit (files_in shelf.bytes.now shelf.places.now) anywhere (map string_bytes c.args.words.now)
    (length-map c.args.words.now string_bytes ∙ c.requires.two)) (length filled.room.now)
    (λ some. let all = filled.full some in omega (arith, size, all))
