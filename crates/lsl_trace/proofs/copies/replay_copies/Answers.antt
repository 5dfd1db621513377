use Rattle.lsl_trace.proofs.Below.{held-below, none-fell-below, same-number}
use Rattle.lsl_trace.proofs.copies.replay_copies.Goals as goal

pub returns-clause-same_shelf : goal.returns-clause-same_shelf
returns-clause-same_shelf g c =
    same-number c.args.copies.now.shelf.ghost_name c.replay.new.shelf.shelf.ghost_name
    (g.S.Shelf.faults c.args.copies.now.shelf.now) (g.S.Shelf.faults c.replay.new.shelf.shelf.now)
    c.replay.ensures.counted.0

pub returns-clause-unchanged : goal.returns-clause-unchanged
returns-clause-unchanged g c =
    held-below c.args.copies.now.copies.now c.replay.new.shelf.copies.now (g.S.Shelf.held c.args.copies.now.shelf.now)
    (g.S.Shelf.held c.replay.new.shelf.shelf.now) c.replay.ensures.unchanged

pub returns-clause-counted : goal.returns-clause-counted
returns-clause-counted g c = (
  none-fell-below c.args.copies.now.shelf.ghost_name c.replay.new.shelf.shelf.ghost_name
      (g.S.Shelf.faults c.args.copies.now.shelf.now) (g.S.Shelf.faults c.replay.new.shelf.shelf.now)
      c.replay.ensures.counted.0,
  c.replay.ensures.counted.1,
)
