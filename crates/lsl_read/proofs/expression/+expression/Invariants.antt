use Rattle.std.proofs.Common.{◌≡◌, ◌+◌, ◌*◌, Some, [], ◌∷◌, length}
use Rattle.lsl_signs.specs.Limits.{height_limit}
use Rattle.lsl_lex.specs.declared.token_types.Sort.TheVariants.{Comma}
use Rattle.lsl_tree.specs.Expressions.{expr_of, exprs_of, AndExpr, NoExpr}
use Rattle.lsl_read.specs.ExpressionReading.{expr_r, level_r, while_r, comma_r, series_r, operators_r}
use Rattle.lsl_read.proofs.expression.+expression.Given as goal

-- an open construct leaves less room, and the functions that open none have their order
abbrev pub decreases-expressions : goal.decreases-expressions
decreases-expressions l = 64 * l.room + 42

abbrev pub decreases-series : goal.decreases-series
decreases-series l = 64 * l.room + 41

abbrev pub decreases-expr : goal.decreases-expr
decreases-expr l = 64 * l.room + 40

abbrev pub decreases-level : goal.decreases-level
decreases-level l = 64 * l.room + 10 + 2 * l.n

abbrev pub decreases-operation : goal.decreases-operation
decreases-operation l = 64 * l.room + 11 + 2 * l.n

abbrev pub decreases-unary : goal.decreases-unary
decreases-unary l = 64 * l.room + 9

abbrev pub decreases-prefix : goal.decreases-prefix
decreases-prefix l = 64 * l.room + 3

abbrev pub decreases-group : goal.decreases-group
decreases-group l = 64 * l.room + 3

abbrev pub decreases-list : goal.decreases-list
decreases-list l = 64 * l.room + 3

abbrev pub decreases-named : goal.decreases-named
decreases-named l = 64 * l.room + 3

abbrev pub decreases-arguments : goal.decreases-arguments
decreases-arguments l = 64 * l.room + 2

abbrev pub decreases-assignment : goal.decreases-assignment
decreases-assignment l = 64 * l.room + 1

-- what is still to be read gives the whole
abbrev pub invariant-series-more : goal.invariant-series-more
invariant-series-more l = while_r (Comma ∷ []) (comma_r AndExpr (expr_r (Some height_limit) l.room))
    (exprs_of l.all.exprs.items) l.rest ≡ series_r AndExpr NoExpr (expr_r (Some height_limit) l.room) l.tokens

abbrev pub decreases-series-more : goal.decreases-series-more
decreases-series-more l = length l.rest

abbrev pub invariant-level-operations : goal.invariant-level-operations
invariant-level-operations l = operators_r (Some height_limit) l.room l.n (expr_of l.left.expr) l.rest
    ≡ level_r (Some height_limit) l.room l.n l.tokens

abbrev pub decreases-level-operations : goal.decreases-level-operations
decreases-level-operations l = length l.rest
