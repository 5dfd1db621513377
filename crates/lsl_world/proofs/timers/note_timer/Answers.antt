use Rattle.lsl_world.proofs.Indexing.{numbered-after, puts-due, puts-in}
use Rattle.lsl_world.proofs.timers.note_timer.Goals as goal

pub returns-clause-puts : goal.returns-clause-puts
returns-clause-puts c =
    puts-due c.args.grid.now c.args.script c.due.result c.args.due.now c.put.new.self c.requires.script c.put.result
    (λ codes clock w m st at. c.due.ensures.source codes clock w m st at) c.put.ensures.ok

pub returns-clause-numbered : goal.returns-clause-numbered
returns-clause-numbered c =
    numbered-after c.args.grid.now c.args.script c.due.result c.args.due.now c.put.new.self c.requires.script
    c.put.result c.requires.numbered c.put.ensures.ok c.put.ensures.unchanged

pub returns-clause-seat : goal.returns-clause-seat
returns-clause-seat c =
    puts-in c.args.grid.now.seats c.args.script c.due.result c.args.due.now c.put.new.self c.put.result
    (λ seat parts at home. c.due.ensures.fields seat parts at home) c.put.ensures.ok
