use Rattle.std.proofs.Common.{◌≡◌, Some, [], ◌∷◌, Ok, true, false, refl, sym, ap, ◌∙◌, arith, rules}
use Rattle.lsl_grammar.specs.Reading.{◌>>=◌, begins}
use Rattle.lsl_signs.specs.Limits.{height_limit}
use Rattle.lsl_lex.specs.declared.token_types.Sort.TheVariants.{Comma, ParenOpen, BracketOpen}
use Rattle.lsl_tree.specs.Expressions.{expr_of, exprs_of, AndExpr}
use Rattle.lsl_signs.specs.Kinds.{Name, Str, codes, token_code}
use Rattle.lsl_signs.specs.Operators.{prefix_signs, step_signs, signs}
use Rattle.lsl_read.specs.ExpressionReading.{expr_r, level_r, while_r, comma_r, next_operand_r, operators_r}
use Rattle.lsl_read.proofs.Dispatch.{operand_heads, unary_prefix, unary_step, unary_group, unary_list, unary_string, unary_named, unary_integer}
use Rattle.lsl_read.proofs.ExpressionLevels.{level_operators, operators_still, operators_step}
use Rattle.lsl_read.proofs.ExpressionLoops.{room_inside, next_less, next_step, operand_less}
use Rattle.lsl_read.proofs.expression.+expression.Goals as goal

pub arguments-returns : goal.arguments-returns
arguments-returns t c = let e = room_inside (Some height_limit) c.args.room (omega arith) in rw e (search rules)

pub assignment-returns-in_err-value : goal.assignment-returns-in_err-value
assignment-returns-in_err-value t c = let e = room_inside (Some height_limit) c.args.room (omega arith) in
    rw e (search rules)

pub assignment-returns : goal.assignment-returns
assignment-returns t c = let e = room_inside (Some height_limit) c.args.room (omega arith) in rw e (search rules)

pub group-returns-in_err-operand : goal.group-returns-in_err-operand
group-returns-in_err-operand t c = let e = room_inside (Some height_limit) c.args.room (omega arith) in
    rw e (search rules)

pub group-returns-in_err-inner : goal.group-returns-in_err-inner
group-returns-in_err-inner t c = let e = room_inside (Some height_limit) c.args.room (omega arith) in
    rw e (search rules)

pub group-returns-in_err-rest-2 : goal.group-returns-in_err-rest-2
group-returns-in_err-rest-2 t c = let e = room_inside (Some height_limit) c.args.room (omega arith) in
    rw e (search rules)

pub group-returns-in_ok-operand-2 : goal.group-returns-in_ok-operand-2
group-returns-in_ok-operand-2 t c = let e = room_inside (Some height_limit) c.args.room (omega arith) in
    rw e (search rules)

pub group-returns-in_ok-operand-3 : goal.group-returns-in_ok-operand-3
group-returns-in_ok-operand-3 t c = let e = room_inside (Some height_limit) c.args.room (omega arith) in
    rw e (search rules)

pub list-returns-in_err-all : goal.list-returns-in_err-all
list-returns-in_err-all t c = let e = room_inside (Some height_limit) c.args.room (omega arith) in rw e (search rules)

pub list-returns : goal.list-returns
list-returns t c = let e = room_inside (Some height_limit) c.args.room (omega arith) in rw e (search rules)

pub prefix-returns-in_err-operand : goal.prefix-returns-in_err-operand
prefix-returns-in_err-operand t c = let e = room_inside (Some height_limit) c.args.room (omega arith) in
    rw e (search rules)

pub prefix-returns : goal.prefix-returns
prefix-returns t c = let e = room_inside (Some height_limit) c.args.room (omega arith) in rw e (search rules)

pub expr-returns-then-assigns : goal.expr-returns-then-assigns
unfolding expr_r level_r
expr-returns-then-assigns t c = search rules

pub expr-returns-else-assigns : goal.expr-returns-else-assigns
unfolding expr_r level_r
expr-returns-else-assigns t c = search rules

pub unary-returns-in-Minus : goal.unary-returns-in-Minus
unary-returns-in-Minus t c =
    let next : begins token_code (codes prefix_signs) c.args.tokens.now ≡ true = search rules in
    rw (unary_prefix (Some height_limit) c.args.room c.args.tokens.now next) c.prefix.ensures

pub unary-returns-in-PlusPlus : goal.unary-returns-in-PlusPlus
unary-returns-in-PlusPlus t c =
    let next : begins token_code (codes step_signs) c.args.tokens.now ≡ true = search rules in
    rw (unary_step (Some height_limit) c.args.room c.args.tokens.now next) c.step_before.ensures

pub unary-returns-in-ParenOpen : goal.unary-returns-in-ParenOpen
unary-returns-in-ParenOpen t c =
    let next : begins token_code (codes (ParenOpen ∷ [])) c.args.tokens.now ≡ true = search rules in
    rw (unary_group (Some height_limit) c.args.room c.args.tokens.now next) c.group.ensures

pub unary-returns-in-BracketOpen : goal.unary-returns-in-BracketOpen
unary-returns-in-BracketOpen t c =
    let next : begins token_code (codes (BracketOpen ∷ [])) c.args.tokens.now ≡ true = search rules in
    rw (unary_list (Some height_limit) c.args.room c.args.tokens.now next) c.list.ensures

pub unary-returns-in-Str : goal.unary-returns-in-Str
unary-returns-in-Str t c =
    let next : begins token_code (codes (Str ∷ [])) c.args.tokens.now ≡ true = search rules in
    rw (unary_string (Some height_limit) c.args.room c.args.tokens.now next) c.string.ensures

pub unary-returns-in-Name : goal.unary-returns-in-Name
unary-returns-in-Name t c =
    let next : begins token_code (codes (Name ∷ [])) c.args.tokens.now ≡ true = search rules in
    rw (unary_named (Some height_limit) c.args.room c.args.tokens.now next) c.named.ensures

pub unary-returns-in_default : goal.unary-returns-in_default
unary-returns-in_default t c =
    let next : begins token_code (codes operand_heads) c.args.tokens.now ≡ false = search rules in
    rw (unary_integer (Some height_limit) c.args.room c.args.tokens.now next) c.integer.ensures

pub unary-returns-in_default-sort : goal.unary-returns-in_default-sort
unary-returns-in_default-sort t c =
    let next : begins token_code (codes operand_heads) c.args.tokens.now ≡ false = search rules in
    rw (unary_integer (Some height_limit) c.args.room c.args.tokens.now next) c.integer-in_default-sort.ensures

pub level-returns-in_err-left : goal.level-returns-in_err-left
level-returns-in_err-left t c = let e = level_operators (Some height_limit) c.args.room c.args.n
    c.args.tokens.now in rw e (search rules)

pub level-operations-init : goal.level-operations-init
level-operations-init t c = let e = level_operators (Some height_limit) c.args.room c.args.n
    c.args.tokens.now in rw e (search rules)

pub level-operations-smaller : goal.level-operations-smaller
level-operations-smaller t c =
    let k = c.in-Some.k in
    let now : next_operand_r (Some height_limit) (level_r (Some height_limit) c.args.room k) (signs k)
    (expr_of c.operations.left.expr) c.operations.rest.now
    ≡ Ok (expr_of c.in_ok-joined.joined.expr, c.in_ok-joined.after.now) = search rules in
    operand_less (Some height_limit) c.args.room k (expr_of c.operations.left.expr)
    (expr_of c.in_ok-joined.joined.expr) c.operations.rest.now c.in_ok-joined.after.now now

pub level-operations-preserved : goal.level-operations-preserved
level-operations-preserved t c =
    let k = c.in-Some.k in
    let now : next_operand_r (Some height_limit) (level_r (Some height_limit) c.args.room k) (signs k)
    (expr_of c.operations.left.expr) c.operations.rest.now
    ≡ Ok (expr_of c.in_ok-joined.joined.expr, c.in_ok-joined.after.now) = search rules in
    let step = operators_step (Some height_limit) c.args.room c.args.n k (expr_of c.operations.left.expr)
    c.operations.rest.now c.in-Some.ensures.some.0 c.in-Some.ensures.some.1 in
    sym (step ∙ ap (λ o. o >>= λ x. operators_r (Some height_limit) c.args.room c.args.n x.0 x.1) now)
    ∙ c.operations.invariant

pub level-returns-in_err-joined : goal.level-returns-in_err-joined
level-returns-in_err-joined t c =
    let k = c.in-Some.k in
    let step = operators_step (Some height_limit) c.args.room c.args.n k (expr_of c.operations.left.expr)
    c.operations.rest.now c.in-Some.ensures.some.0 c.in-Some.ensures.some.1 in
    rw (← c.operations.invariant, step) (search rules)

pub level-returns : goal.level-returns
level-returns t c =
    sym c.operations.invariant ∙ operators_still (Some height_limit) c.args.room c.args.n
    (expr_of c.operations.left.expr) c.operations.rest.now (c.in_default.ensures.none refl)

pub series-more-smaller : goal.series-more-smaller
series-more-smaller t c =
    let now : comma_r AndExpr (expr_r (Some height_limit) c.args.room) (exprs_of c.more.all.exprs.items)
    c.more.rest.now ≡ Ok (
      AndExpr (exprs_of c.more.all.exprs.items)
          (expr_of c.in_ok-next.next.expr),
      c.in_ok-next.after.now,
    ) = search rules in
    next_less (Some height_limit) c.args.room (exprs_of c.more.all.exprs.items)
    (AndExpr (exprs_of c.more.all.exprs.items) (expr_of c.in_ok-next.next.expr)) c.more.rest.now
    c.in_ok-next.after.now now

pub series-more-preserved : goal.series-more-preserved
series-more-preserved t c =
    let d = c.args.room in
    let before = exprs_of c.more.all.exprs.items in
    let now : comma_r AndExpr (expr_r (Some height_limit) d) before c.more.rest.now
    ≡ Ok (AndExpr before (expr_of c.in_ok-next.next.expr), c.in_ok-next.after.now) = search rules in
    ap (λ x. while_r (Comma ∷ []) (comma_r AndExpr (expr_r (Some height_limit) d)) x c.in_ok-next.after.now)
    c.in_ok-push-2.ensures
    ∙ sym (next_step (Some height_limit) d before (AndExpr before (expr_of c.in_ok-next.next.expr))
    c.more.rest.now c.in_ok-next.after.now (search rules) now)
    ∙ c.more.invariant
