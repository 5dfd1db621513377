use Rattle.std.proofs.Common.{◌≡◌, ◌+◌, ◌*◌, Some, length}
use Rattle.lsl_signs.specs.Limits.{height_limit}
use Rattle.lsl_tree.specs.Statements.{items_of}
use Rattle.lsl_grammar.specs.Reading.{rounds_r}
use Rattle.lsl_signs.specs.Kinds.{token_code, not_end}
use Rattle.lsl_read.specs.StatementReading.{next_item_r, item_r, items_r}
use Rattle.lsl_read.proofs.statement.+statement.Given as goal

-- an open construct leaves less room, and the functions that open none have their order
abbrev pub decreases-items : goal.decreases-items
decreases-items l = 8 * l.room + 6

abbrev pub decreases-item : goal.decreases-item
decreases-item l = 8 * l.room + 5

abbrev pub decreases-statement : goal.decreases-statement
decreases-statement l = 8 * l.room + 4

abbrev pub decreases-braces : goal.decreases-braces
decreases-braces l = 8 * l.room + 3

abbrev pub decreases-if_statement : goal.decreases-if_statement
decreases-if_statement l = 8 * l.room + 3

abbrev pub decreases-while_statement : goal.decreases-while_statement
decreases-while_statement l = 8 * l.room + 3

abbrev pub decreases-do_statement : goal.decreases-do_statement
decreases-do_statement l = 8 * l.room + 3

abbrev pub decreases-for_statement : goal.decreases-for_statement
decreases-for_statement l = 8 * l.room + 3

abbrev pub decreases-block : goal.decreases-block
decreases-block l = 8 * l.room + 1

abbrev pub decreases-body : goal.decreases-body
decreases-body l = 8 * l.room + 2

-- what is still to be read gives the whole
abbrev pub invariant-items-all : goal.invariant-items-all
invariant-items-all l = rounds_r token_code not_end (next_item_r (item_r (Some height_limit) l.room))
    (items_of l.all.items) l.rest ≡ items_r (item_r (Some height_limit) l.room) l.tokens

abbrev pub decreases-items-all : goal.decreases-items-all
decreases-items-all l = length l.rest
