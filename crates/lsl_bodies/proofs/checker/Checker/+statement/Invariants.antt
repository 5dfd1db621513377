use Rattle.std.proofs.Common.{◌≡◌, drop}
use Rattle.lsl_tree.specs.Actions.{actions_of, NoAction}
use Rattle.lsl_bodies.specs.Known.{known_of}
use Rattle.lsl_bodies.specs.Scope.{frame_of}
use Rattle.lsl_bodies.specs.Verdict.{each_verdict}
use Rattle.lsl_bodies.proofs.Walks.{item_next}
use Rattle.lsl_bodies.proofs.checker.Checker.+statement.Given as goal

abbrev pub invariant-actions-loop-entry : goal.invariant-actions-loop-entry
invariant-actions-loop-entry l =
    each_verdict (item_next (known_of l.self.known.now) l.self.home)
    (actions_of l.actions.items, frame_of l.frame) (drop l.entry-index l.items)
    ≡ each_verdict (item_next (known_of l.self.known.now) l.self.home) (NoAction, frame_of l.initial.frame) l.items
