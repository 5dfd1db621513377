use Rattle.std.proofs.Common.{◌≡◌, Some, [], ◌∷◌, map, length}
use Rattle.lsl_signs.specs.Limits.{height_limit}
use Rattle.lsl_lex.specs.declared.token_types.Sort.TheVariants.{StateWord}
use Rattle.lsl_tree.specs.Scripts.{state_of}
use Rattle.lsl_read.specs.StatementReading.{stmt_room_r}
use Rattle.lsl_read.specs.ScriptReading.{many_r, state_r}
use Rattle.lsl_read.proofs.script.states.Given as goal

-- what is still to be read gives the whole
abbrev pub invariant-all : goal.invariant-all
invariant-all l = many_r (StateWord ∷ []) (state_r (stmt_room_r (Some height_limit) l.room))
    (map state_of l.all.items) l.rest ≡ many_r (StateWord ∷ [])
    (state_r (stmt_room_r (Some height_limit) l.room)) [] l.tokens

abbrev pub decreases-all : goal.decreases-all
decreases-all l = length l.rest
