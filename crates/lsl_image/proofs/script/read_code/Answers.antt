use Rattle.std.proofs.Common.{◌∙◌, sym, ap}
use Rattle.std.specs.Str.{bytes_eq}
use Rattle.lsl_image.specs.Layout.{Bytes}
use Rattle.lsl_image.specs.Rest.{code_digest}
use Rattle.lsl_image.proofs.FieldLemmas.{field-next, field-none, field-wrong}
use Rattle.lsl_image.proofs.HeadLemmas.{code-right, code-wrong, of_code}
use Rattle.lsl_image.proofs.script.read_code.Goals as goal

pub returns-in_err-found : goal.returns-in_err-found
unfolding code_digest
returns-in_err-found c =
    field-none c.args.bytes.now (Bytes 32) c.args.place (of_code c.args.unit.now) _ _ c.in_err-found.ensures
    c.from_residual.ensures.1

pub returns-then-not-are_same : goal.returns-then-not-are_same
unfolding code_digest
returns-then-not-are_same c =
    rw c.digest.ensures (field-wrong c.args.bytes.now (Bytes 32) c.args.place (of_code c.args.unit.now)
    c.in_ok-found.found c.in_ok-found.next _ c.in_ok-found.ensures
    (code-wrong c.args.bytes.now c.args.unit.now c.in_ok-found.found c.in_ok-found.next
    (ap (bytes_eq c.in_ok-found.found) (sym c.digest.ensures) ∙ sym c.are_same.ensures ∙ c.if-not-are_same.true)))

pub returns : goal.returns
unfolding code_digest
returns c =
    field-next c.args.bytes.now (Bytes 32) c.args.place (of_code c.args.unit.now) c.in_ok-found.found
    c.in_ok-found.next _ _ c.in_ok-found.ensures
    (code-right c.args.bytes.now c.args.unit.now c.in_ok-found.found c.in_ok-found.next
    (ap (bytes_eq c.in_ok-found.found) (sym c.digest.ensures) ∙ sym c.are_same.ensures ∙ c.if-not-are_same.false))
