use Rattle.lsl_handoff.proofs.OuterLemmas.{head-refused}
use Rattle.lsl_handoff.proofs.reader.parse.Goals as goal

pub returns-in_err-head : goal.returns-in_err-head
returns-in_err-head c = head-refused c.args.bytes.now c.args.objects c.args.regions c.in_ok-fields.fields.now
    c.in_err-head.field-0.0 c.from_residual-in_err-head.result c.in_ok-fields.ensures.0 c.in_ok-fields.ensures.2
    c.in_err-head.ensures c.from_residual-in_err-head.ensures.1
