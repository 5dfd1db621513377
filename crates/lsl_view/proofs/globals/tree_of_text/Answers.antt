use Rattle.std.proofs.Common.{◌∙◌, sym, subst}
use Rattle.lsl_lex.specs.declared.token_types.Tokens.{Tokens as TheTokens}
use Rattle.lsl_parse.specs.Faults.{Derives}
use Rattle.lsl_view.proofs.globals.tree_of_text.Goals as goal

pub tree_of_tokens-requires : goal.tree_of_tokens-requires
tree_of_tokens-requires c =
    let script = c.requires.0 in
    let read = c.requires.1 in
    let same = c.in-Ok.ensures.every read.tokens read.lexed in
    (script, subst (λ (t : TheTokens). Derives t.list script) (sym same) read.derived)

pub unreachable-requires : goal.unreachable-requires
unreachable-requires c =
    let read = c.requires.1 in
    let refusal = sym c.in-Err-Fault.field-0-is ∙ c.in-Err-Fault.ensures.every read.tokens read.lexed in
    absurd cc
