-- What the loops over expressions rely on.
use Rattle.std.proofs.Common.{◌≡◌, ℕ, zero, suc, ◌+◌, ◌-◌, ◌<◌, true, Option, None, List, [], ◌∷◌, length, Ok, refl, sym, ap, arith}
use Rattle.lsl_lex.specs.declared.token_types.Token.{Token}
use Rattle.lsl_tree.specs.Expressions.{Expr, Exprs, NoExpr, AndExpr}
use Rattle.lsl_grammar.specs.Language.{ret, ◌>>=◌ as ◌>=>◌}
use Rattle.lsl_grammar.specs.Reading.{◌>>=◌}
use Rattle.lsl_grammar.proofs.Until.{shrinks}
use Rattle.lsl_grammar.proofs.Loops.{rounds_step}
use Rattle.lsl_grammar.specs.Reading.{begins}
use Rattle.lsl_lex.specs.declared.token_types.Sort.TheVariants.{Comma}
use Rattle.lsl_signs.specs.Kinds.{codes, token_code}
use Rattle.lsl_signs.specs.Operators.{signs}
use Rattle.lsl_read.specs.ExpressionGrammar.{sign, fits, gate, operation, level, expr}
use Rattle.lsl_read.specs.ExpressionReading.{while_r, comma_r, next_operand_r, level_rule_r, unary_rule_r, expr_rule_r, Inside_r, room_r, expr_r, unary_r, level_r}
use Rattle.lsl_read.proofs.ExpressionRules.{heads, tails, expr_tails, U, Ur, next_solid, operation_solid, level_solid, unary_solid, below_all, expr_is_read}

-- with room for a construct, its parts have one less
pub room_inside : (limit : Option ℕ) (d : ℕ) → 0 < d
    → room_r limit d ≡ Inside_r (expr_r limit (d - 1)) (unary_r limit (d - 1))
unfolding expr_r unary_r
room_inside limit zero h = absurd (omega arith)
room_inside limit (suc d) h = let e : suc d - 1 ≡ d = omega arith in
    ap (λ n. Inside_r (expr_rule_r limit (room_r limit n)) (unary_rule_r (room_r limit n))) (sym e)

pub level_next : (limit : Option ℕ) (d n : ℕ) (ts : List Token) → 0 < n
    → level_r limit d n ts ≡ (level_r limit d (n - 1) ts >>= λ x.
    while_r (signs (n - 1)) (next_operand_r limit (level_r limit d (n - 1)) (signs (n - 1))) x.0 x.1)
unfolding level_r
level_next limit d zero ts h = absurd (omega arith)
level_next limit d (suc n) ts h = let e : suc n - 1 ≡ n = omega arith in
    ap (λ m. level_rule_r limit (unary_rule_r (room_r limit d)) m ts >>= λ x.
    while_r (signs m) (next_operand_r limit (level_rule_r limit (unary_rule_r (room_r limit d)) m) (signs m))
    x.0 x.1) (sym e)

pub next_less : (limit : Option ℕ) (d : ℕ) (a b : Exprs) (ts rest : List Token)
    → comma_r AndExpr (expr_r limit d) a ts ≡ Ok (b, rest) → length rest < length ts
next_less limit d a b ts rest e =
    let s = next_solid AndExpr NoExpr (expr limit d) (expr None (d + 1)) (expr_r limit d) (expr_r None (d + 1))
    (codes heads) expr_tails (expr_is_read limit d (d + 1) (omega arith)) refl refl a in
    shrinks token_code (sign Comma >=> λ comma. expr limit d >=> λ next. ret (AndExpr a next))
    (comma_r AndExpr (expr_r limit d) a) (codes (Comma ∷ [])) (λ _. expr_tails) s.rule.reads s.full ts rest
    b e

pub operand_less : (limit : Option ℕ) (d n : ℕ) (a b : Expr) (ts rest : List Token)
    → next_operand_r limit (level_r limit d n) (signs n) a ts ≡ Ok (b, rest) → length rest < length ts
unfolding level_r
operand_less limit d n a b ts rest e =
    let u = unary_solid limit d (d + 1) (below_all limit d (d + 1) (omega arith)) in
    let l = level_solid limit (U limit d) (U None (d + 1)) (Ur limit d) (Ur None (d + 1)) u n in
    let s = operation_solid limit (level limit (U limit d) n) (level None (U None (d + 1)) n)
    (level_rule_r limit (Ur limit d) n) (level_rule_r None (Ur None (d + 1)) n) n l a in
    shrinks token_code (gate (fits limit a) (operation (level limit (U limit d) n) (signs n) a))
    (next_operand_r limit (level_rule_r limit (Ur limit d) n) (signs n) a) (codes (signs n)) (λ _. tails n)
    s.rule.reads s.full ts rest b e

-- one more expression after a comma
pub next_step : (limit : Option ℕ) (d : ℕ) (a b : Exprs) (ts rest : List Token)
    → begins token_code (codes (Comma ∷ [])) ts ≡ true → comma_r AndExpr (expr_r limit d) a ts ≡ Ok (b, rest)
    → while_r (Comma ∷ []) (comma_r AndExpr (expr_r limit d)) a ts
    ≡ while_r (Comma ∷ []) (comma_r AndExpr (expr_r limit d)) b rest
next_step limit d a b ts rest t e = rounds_step token_code (codes (Comma ∷ []))
    (comma_r AndExpr (expr_r limit d)) (next_less limit d) a b ts rest t e

-- one more operator
pub operand_step : (limit : Option ℕ) (d n : ℕ) (a b : Expr) (ts rest : List Token)
    → begins token_code (codes (signs n)) ts ≡ true
    → next_operand_r limit (level_r limit d n) (signs n) a ts ≡ Ok (b, rest)
    → while_r (signs n) (next_operand_r limit (level_r limit d n) (signs n)) a ts
    ≡ while_r (signs n) (next_operand_r limit (level_r limit d n) (signs n)) b rest
operand_step limit d n a b ts rest t e = rounds_step token_code (codes (signs n))
    (next_operand_r limit (level_r limit d n) (signs n)) (operand_less limit d n) a b ts rest t e
