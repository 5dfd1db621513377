use Rattle.std.proofs.Common.{◌≡◌, true, [], ◌∷◌, refl, sym, rules}
use Rattle.lsl_lex.specs.declared.token_types.Sort.TheVariants.{ParenOpen, BracketOpen}
use Rattle.lsl_grammar.specs.Reading.{begins}
use Rattle.lsl_signs.specs.Kinds.{Name, Int, Str, codes, token_code}
use Rattle.lsl_signs.specs.Operators.{prefix_signs, step_signs}
use Rattle.lsl_read.specs.StatementReading.{statement_heads}
use Rattle.lsl_read.proofs.Dispatch.{begins_more}
use Rattle.lsl_read.proofs.next.is_statement.Goals as goal

pub returns-in-Minus : goal.returns-in-Minus
returns-in-Minus c =
    let next : begins token_code (codes prefix_signs) c.args.tokens.now ≡ true = search rules in
    sym (begins_more prefix_signs statement_heads c.args.tokens.now refl next)

pub returns-in-PlusPlus : goal.returns-in-PlusPlus
returns-in-PlusPlus c =
    let next : begins token_code (codes step_signs) c.args.tokens.now ≡ true = search rules in
    sym (begins_more step_signs statement_heads c.args.tokens.now refl next)

pub returns-in-ParenOpen : goal.returns-in-ParenOpen
returns-in-ParenOpen c =
    let next : begins token_code (codes (ParenOpen ∷ BracketOpen ∷ [])) c.args.tokens.now ≡ true = search rules in
    sym (begins_more (ParenOpen ∷ BracketOpen ∷ []) statement_heads c.args.tokens.now refl next)

pub returns-in-Str : goal.returns-in-Str
returns-in-Str c =
    let next : begins token_code (codes (Str ∷ Name ∷ Int ∷ [])) c.args.tokens.now ≡ true = search rules in
    sym (begins_more (Str ∷ Name ∷ Int ∷ []) statement_heads c.args.tokens.now refl next)
