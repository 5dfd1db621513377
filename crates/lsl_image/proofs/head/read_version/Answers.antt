use Rattle.std.proofs.Common.{◌∙◌, sym}
use Rattle.lsl_image.specs.Layout.{U16}
use Rattle.lsl_image.specs.Object.{known_version}
use Rattle.lsl_image.proofs.FieldLemmas.{field-next, field-none, field-wrong}
use Rattle.lsl_image.proofs.HeadLemmas.{of_version, version-known, version-unknown}
use Rattle.lsl_image.proofs.head.read_version.Goals as goal

pub returns-in_err-version : goal.returns-in_err-version
unfolding known_version
returns-in_err-version c =
    field-none c.args.bytes.now U16 c.args.place of_version _ _ c.in_err-version.ensures c.from_residual.ensures.1

pub returns-then-not-is_known : goal.returns-then-not-is_known
unfolding known_version
returns-then-not-is_known c =
    field-wrong c.args.bytes.now U16 c.args.place of_version c.in_ok-version.version c.in_ok-version.next _
    c.in_ok-version.ensures (version-unknown c.args.bytes.now c.in_ok-version.version c.in_ok-version.next
    (sym c.is_known.ensures ∙ c.if-not-is_known.true))

pub returns : goal.returns
unfolding known_version
returns c =
    field-next c.args.bytes.now U16 c.args.place of_version c.in_ok-version.version c.in_ok-version.next _ _
    c.in_ok-version.ensures (version-known c.args.bytes.now c.in_ok-version.version c.in_ok-version.next
    (sym c.is_known.ensures ∙ c.if-not-is_known.false))
