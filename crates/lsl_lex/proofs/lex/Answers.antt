use Rattle.std.proofs.Common.{[], take, inl, ap, ◌∙◌, arith}
use Rattle.std.specs.Str.{valid_up_to}
use Rattle.lsl_text.specs.Place.{span_of}
use Rattle.lsl_text.specs.declared.Refusal.TheVariants.{Fault}
use Rattle.lsl_lex.proofs.Top.{every_found, only_first, not_text_first, same_fault}
use Rattle.lsl_lex.proofs.lex.Goals as goal

pub returns-in-Ok-clause-every : goal.returns-in-Ok-clause-every
returns-in-Ok-clause-every c = every_found c.args.text.now c.cut.result c.cut.ensures.found c.cut.ensures.first

pub returns-in-Ok-clause-only : goal.returns-in-Ok-clause-only
returns-in-Ok-clause-only c = only_first c.args.text.now c.cut.result c.cut.ensures.found c.cut.ensures.first

pub returns-in-Err-clause-only : goal.returns-in-Err-clause-only
returns-in-Err-clause-only c =
    let place = c.valid_up_to.ensures in
    let span = c.not_text.ensures.span ∙ ap (λ n. span_of (take n c.args.text.now) []) place in
    let first = not_text_first c.args.text.now (valid_up_to c.in-Err.error) c.not_text.result (omega arith)
    c.in-Err.ensures.cases.1 c.not_text.ensures.kind span in
    λ fault h. inl (ap (λ z. Fault z) (same_fault c.args.text.now c.not_text.result fault first h))
