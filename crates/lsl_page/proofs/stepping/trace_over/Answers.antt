use Rattle.std.proofs.Common.{take, ap, arith}
use Rattle.std.proofs.lemmas.List.{length-take}
use Rattle.lsl_page.specs.Request.{files_in}
use Rattle.lsl_page.proofs.Traced.{trace-ends, trace-mark}
use Rattle.lsl_page.proofs.stepping.trace_over.Goals as goal

pub returns-clause-same_room : goal.returns-clause-same_room
returns-clause-same_room c =
    let shelf = c.args.shelf.now in
    let sink = c.args.sink.now in
    let filled = c.trace.new.sink in
    trace-mark (files_in shelf.bytes.now shelf.places.now) c.args.request.now c.trace.result sink.room.ghost_name
    filled.room.ghost_name (take sink.count sink.room.now) (take filled.count filled.room.now) shelf.faults sink.faults
    filled.faults c.trace.ensures.ended c.requires.fresh (ap (λ count. take count sink.room.now) c.requires.empty)
    c.requires.calm

pub returns-clause-ended : goal.returns-clause-ended
returns-clause-ended c =
    let shelf = c.args.shelf.now in
    let sink = c.args.sink.now in
    let filled = c.trace.new.sink in
    let size = length-take filled.count filled.room.now in
    record {
      refused = filled.faults;
      ends = trace-ends (files_in shelf.bytes.now shelf.places.now) c.args.request.now c.trace.result
          sink.room.ghost_name filled.room.ghost_name (take sink.count sink.room.now)
          (take filled.count filled.room.now) shelf.faults sink.faults filled.faults c.trace.ensures.ended
          c.requires.fresh (ap (λ count. take count sink.room.now) c.requires.empty) c.requires.calm;
      full = λ some. let all = filled.full some in omega (arith, size, all);
    }
