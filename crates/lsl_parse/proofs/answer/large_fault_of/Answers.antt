use Rattle.std.proofs.Common.{◌≡◌, ◌-◌, take, drop, length, ap, ◌∙◌}
use Rattle.lsl_text.specs.declared.Span.{Span}
use Rattle.lsl_signs.specs.Limits.{most_tokens}
use Rattle.lsl_parse.specs.declared.fault.ParseFault.{ParseFault}
use Rattle.lsl_parse.specs.declared.fault.ParseKind.TheVariants.{TooLarge}
use Rattle.lsl_parse.specs.Faults.{span_at}
use Rattle.lsl_parse.proofs.Answering.{span_at-rest}
use Rattle.lsl_parse.proofs.answer.large_fault_of.Goals as goal

pub returns : goal.returns
returns c =
    let e : c.first_span.result ≡ span_at
    (take (length c.args.tokens.now - most_tokens) (drop most_tokens c.args.tokens.now)) c.args.end 0 =
    c.first_span.ensures in
    let made : Span → ParseFault = λ s. record { kind = TooLarge; span = s } in
    ap made (e ∙ span_at-rest most_tokens c.args.tokens.now c.args.end)
