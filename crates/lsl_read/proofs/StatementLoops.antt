-- What the loop over a block relies on.
use Rattle.std.proofs.Common.{◌≡◌, ℕ, zero, suc, ◌+◌, ◌-◌, ◌<◌, ◌==◌, true, not, Option, None, List, length, Ok, refl, sym, ap, arith}
use Rattle.lsl_lex.specs.Kinds.{kind_of}
use Rattle.lsl_lex.specs.declared.token_types.Token.{Token}
use Rattle.lsl_tree.specs.Statements.{Items, AndItem}
use Rattle.lsl_grammar.specs.Language.{among, ret, ◌>>=◌ as ◌>=>◌}
use Rattle.lsl_grammar.specs.Reading.{begins, rounds_r}
use Rattle.lsl_grammar.proofs.Until.{shrinks}
use Rattle.lsl_grammar.proofs.Loops.{rounds_step}
use Rattle.lsl_lex.specs.declared.token_types.Sort.{Sort}
use Rattle.lsl_lex.specs.declared.token_types.Sort.TheVariants.{BraceClose}
use Rattle.lsl_signs.specs.Kinds.{token_code, not_end}
use Rattle.lsl_read.specs.ExpressionGrammar.{expr}
use Rattle.lsl_read.specs.ExpressionReading.{expr_r}
use Rattle.lsl_read.specs.StatementGrammar.{statement_rule, item_rule, stmt_room_of}
use Rattle.lsl_read.specs.StatementReading.{Holds_r, next_item_r, item_rule_r, statement_rule_r, stmt_room_r, statement_r, item_r}
use Rattle.lsl_read.proofs.Wholes.{else_tail}
use Rattle.lsl_read.proofs.BlockRules.{item_heads, next_solid}
use Rattle.lsl_read.proofs.StatementRules.{statement_is_read}

pub stmt_room_inside : (limit : Option ℕ) (d : ℕ) → 0 < d
    → stmt_room_r limit d ≡ Holds_r (item_r limit (d - 1)) (statement_r limit (d - 1))
unfolding statement_r item_r
stmt_room_inside limit zero h = absurd (omega arith)
stmt_room_inside limit (suc d) h = let e : suc d - 1 ≡ d = omega arith in
    ap (λ n. Holds_r (item_rule_r (expr_r limit n) (statement_rule_r (expr_r limit n) (stmt_room_r limit n)))
    (statement_rule_r (expr_r limit n) (stmt_room_r limit n))) (sym e)

pub item_less : (limit : Option ℕ) (d : ℕ) (a b : Items) (ts rest : List Token)
    → next_item_r (item_r limit d) a ts ≡ Ok (b, rest) → length rest < length ts
unfolding item_r
item_less limit d a b ts rest e =
    let D = d + 2 in
    let s = next_solid limit d D (omega arith) (statement_rule (expr limit d) (stmt_room_of limit d))
    (statement_rule (expr None D) (stmt_room_of None D))
    (statement_rule_r (expr_r limit d) (stmt_room_r limit d))
    (statement_rule_r (expr_r None D) (stmt_room_r None D)) (statement_is_read limit d D (omega arith)) a in
    shrinks token_code (item_rule (expr limit d) (statement_rule (expr limit d) (stmt_room_of limit d)) >=>
    λ next. ret (AndItem a next)) (next_item_r
    (item_rule_r (expr_r limit d) (statement_rule_r (expr_r limit d) (stmt_room_r limit d))) a) item_heads
    (λ _. else_tail) s.rule.reads s.full ts rest b e

pub item_step : (limit : Option ℕ) (d : ℕ) (a b : Items) (ts rest : List Token)
    → begins token_code not_end ts ≡ true → next_item_r (item_r limit d) a ts ≡ Ok (b, rest)
    → rounds_r token_code not_end (next_item_r (item_r limit d)) a ts
    ≡ rounds_r token_code not_end (next_item_r (item_r limit d)) b rest
item_step limit d a b ts rest t e = rounds_step token_code not_end (next_item_r (item_r limit d))
    (item_less limit d) a b ts rest t e

-- each kind but the end of a block continues in it
pub not_end_is : (k : Sort) → among (kind_of k) not_end ≡ not (kind_of k == kind_of BraceClose)
not_end_is BraceClose = refl
not_end_is _ = refl
