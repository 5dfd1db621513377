use Rattle.std.proofs.Common.{◌∙◌, sym}
use Rattle.lsl_image.specs.Layout.{Bytes}
use Rattle.lsl_image.specs.Object.{are_these, key_bytes}
use Rattle.lsl_image.proofs.FieldLemmas.{field_that-fails}
use Rattle.lsl_image.proofs.object.read_key.Goals as goal

pub returns-then-not-is_key : goal.returns-then-not-is_key
returns-then-not-is_key c =
    rw c.wrong.ensures (field_that-fails c.args.bytes.now (Bytes 16) c.args.place
    (are_these (key_bytes c.args.key.now)) c.in_ok-found.found c.in_ok-found.next c.in_ok-found.ensures
    (sym c.is_key.ensures ∙ c.if-not-is_key.true))
