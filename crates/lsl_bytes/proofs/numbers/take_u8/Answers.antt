use Rattle.std.proofs.Common.{arith, ◌∙◌, sym, ap}
use Rattle.lsl_bytes.specs.Fields.{u8_bytes, FitsU8}
use Rattle.lsl_bytes.proofs.NumberLemmas.{array_bytes, IsArray, array-none, length-u8, u8-of_bytes, u8-prefix_free}
use Rattle.lsl_bytes.proofs.PlaceLemmas.{takes_as}
use Rattle.lsl_bytes.proofs.numbers.take_u8.Goals as goal

pub returns-in_err-field : goal.returns-in_err-field
returns-in_err-field c = rw c.from_residual.ensures
    (array-none u8_bytes FitsU8 1 length-u8 c.args.bytes.now c.args.place c.in_err-field.ensures)

pub returns : goal.returns
returns c =
    let takes = c.in_ok-field.ensures in
    let is = u8-of_bytes c.in_ok-field.field takes.found.0 ∙ ap u8_bytes (sym c.from_be_bytes.ensures) in
    takes_as array_bytes (IsArray 1) u8_bytes FitsU8 u8-prefix_free c.args.bytes.now c.args.place
    c.in_ok-field.field c.from_be_bytes.result c.in_ok-field.next (omega arith) is takes
