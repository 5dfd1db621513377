use Rattle.std.proofs.Common.{◌≡◌, ◌++◌, [], take, length}
use Rattle.lsl_tree.specs.Actions.{actions_of}
use Rattle.lsl_gen.specs.Statements.{actions_code, places_in}
use Rattle.lsl_gen.specs.OpenJumps.{all_open}
use Rattle.lsl_gen.proofs.statements.+emit_action.Given as goal

abbrev pub invariant-emit_actions-loop-action : goal.invariant-emit_actions-loop-action
invariant-emit_actions-loop-action l =
    (l.draft ≡ l.fn.draft ++ actions_code (actions_of (take l.action-index l.actions)) [] (length l.fn.draft))
    × (l.jumps.items
    ≡ l.fn.jumps.items ++ all_open (actions_of (take l.action-index l.actions)) (length l.fn.draft))
    × (l.labels.items ≡ places_in (actions_of (take l.action-index l.actions)) (length l.fn.draft))
