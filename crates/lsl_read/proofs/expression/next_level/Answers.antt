use Rattle.std.proofs.Common.{◌≡◌, None, List, true, drop, sym, subst, arith, rules}
use Rattle.lsl_lex.specs.declared.token_types.Token.{Token}
use Rattle.lsl_grammar.specs.Reading.{begins}
use Rattle.lsl_signs.specs.Kinds.{codes, token_code}
use Rattle.lsl_signs.specs.Operators.{levels, signs, level_of}
use Rattle.lsl_read.proofs.Dispatch.{first_of}
use Rattle.lsl_read.proofs.ExpressionLevels.{Clear, level_some, clear_none, clear_below}
use Rattle.lsl_read.proofs.expression.next_level.Goals as goal

pub returns-in-Some-clause-some : goal.returns-in-Some-clause-some
returns-in-Some-clause-some c =
    let t = c.first-item.result in
    let ts = first_of c.args.tokens.now t (omega arith) c.first-item.is in (
      c.if-k-n.true,
      subst (λ (l : List Token). begins token_code (codes (signs c.in-Some.k)) l ≡ true) (sym ts)
          (level_some levels t.sort c.in-Some.k (sym c.in-Some.ensures)).1,
    )

pub returns-in_default-level_of-clause-none : goal.returns-in_default-level_of-clause-none
returns-in_default-level_of-clause-none c =
    let t = c.first-item.result in
    let ts = first_of c.args.tokens.now t (omega arith) c.first-item.is in
    λ e. subst (Clear c.args.n) (sym ts) (clear_below c.args.n c.in-Some.k t (drop 1 c.args.tokens.now)
    c.if-k-n.false (sym c.in-Some.ensures))

pub returns-in_default-level_of-2-clause-none : goal.returns-in_default-level_of-2-clause-none
returns-in_default-level_of-2-clause-none c =
    let t = c.first-item.result in
    let ts = first_of c.args.tokens.now t (omega arith) c.first-item.is in
    let none : level_of levels t.sort ≡ None = search rules in
    λ e. subst (Clear c.args.n) (sym ts) (clear_none c.args.n t (drop 1 c.args.tokens.now) none)
