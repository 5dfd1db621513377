use Rattle.std.proofs.Common.{◌≡◌, Some, [], ◌∷◌, map, length}
use Rattle.lsl_signs.specs.Limits.{height_limit}
use Rattle.lsl_tree.specs.Scripts.{handler_of}
use Rattle.lsl_read.specs.StatementReading.{stmt_room_r}
use Rattle.lsl_read.specs.ScriptReading.{many_r, handler_r}
use Rattle.lsl_read.proofs.script.more_handlers.Given as goal
use Rattle.lsl_signs.specs.Kinds.{Name}

-- what is still to be read gives the whole
abbrev pub invariant-all : goal.invariant-all
invariant-all l = many_r (Name ∷ []) (handler_r (stmt_room_r (Some height_limit) l.room))
    (map handler_of l.all.items) l.rest ≡ many_r (Name ∷ [])
    (handler_r (stmt_room_r (Some height_limit) l.room)) (handler_of l.fn.first ∷ []) l.tokens

abbrev pub decreases-all : goal.decreases-all
decreases-all l = length l.rest
