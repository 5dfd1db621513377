use Rattle.std.proofs.Common.{[], Some, length, take, ap, arith}
use Rattle.std.proofs.lemmas.List.{length-take}
use Rattle.lsl_region.specs.Worlds.{World}
use Rattle.lsl_top.specs.Plays.{once_world}
use Rattle.lsl_top.specs.Words.{State}
use Rattle.lsl_world.specs.Programs.{rules_of}
use Rattle.lsl_world.specs.Starts.{start}
use Rattle.lsl_page.specs.Request.{files_in}
use Rattle.lsl_page.proofs.Endings.{ended-of, same-mark}
use Rattle.lsl_page.proofs.Fits.{state-fits}
use Rattle.lsl_page.proofs.stepping.state_over.Goals as goal

-- a state doesn't depend on the frozen world
anywhere : World
anywhere = start (rules_of []) once_world []

pub returns-clause-same_room : goal.returns-clause-same_room
returns-clause-same_room c =
    let shelf = c.args.shelf.now in
    let other = c.state.new.shelf in
    let sink = c.args.sink.now in
    let filled = c.state.new.sink in
    let files = files_in shelf.bytes.now shelf.places.now in
    same-mark files (files_in other.bytes.now other.places.now) (Some (State c.args.at c.args.file.now)) c.state.result
    sink.room.ghost_name filled.room.ghost_name (take sink.count sink.room.now) (take filled.count filled.room.now)
    shelf.faults other.faults sink.faults filled.faults c.state.ensures c.requires.fresh
    (ap (λ count. take count sink.room.now) c.requires.empty) c.requires.calm anywhere
    (state-fits files anywhere c.args.at c.args.file.now)

pub returns-clause-ended : goal.returns-clause-ended
returns-clause-ended c =
    let shelf = c.args.shelf.now in
    let other = c.state.new.shelf in
    let sink = c.args.sink.now in
    let filled = c.state.new.sink in
    let files = files_in shelf.bytes.now shelf.places.now in
    let size = length-take filled.count filled.room.now in
    ended-of files (files_in other.bytes.now other.places.now) (Some (State c.args.at c.args.file.now)) c.state.result
    sink.room.ghost_name filled.room.ghost_name (take sink.count sink.room.now) (take filled.count filled.room.now)
    shelf.faults other.faults sink.faults filled.faults c.state.ensures c.requires.fresh
    (ap (λ count. take count sink.room.now) c.requires.empty) c.requires.calm anywhere
    (state-fits files anywhere c.args.at c.args.file.now) (length filled.room.now)
    (λ some. let all = filled.full some in omega (arith, size, all))
