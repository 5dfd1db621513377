use Rattle.std.proofs.Common.{arith}
use Rattle.lsl_bytes.specs.Fields.{u16_bytes, FitsU16}
use Rattle.lsl_bytes.proofs.NumberLemmas.{array_bytes, IsArray, array-none, length-u16, u16-of_bytes, u16-prefix_free}
use Rattle.lsl_bytes.proofs.PlaceLemmas.{part-fits, takes_as}
use Rattle.lsl_bytes.proofs.numbers.take_u16.Goals as goal

pub returns-in_err-field : goal.returns-in_err-field
returns-in_err-field c = rw c.from_residual.ensures
    (array-none u16_bytes FitsU16 2 length-u16 c.args.bytes.now c.args.place c.in_err-field.ensures)

pub returns : goal.returns
returns c =
    let takes = c.in_ok-field.ensures in
    let stands = takes.found.1 in
    let is = u16-of_bytes c.in_ok-field.field c.from_be_bytes.result takes.found.0
    (part-fits _ _ _ _ stands (λ i. omega (arith, c.type_inv.bytes i))) c.from_be_bytes.ensures in
    takes_as array_bytes (IsArray 2) u16_bytes FitsU16 u16-prefix_free c.args.bytes.now c.args.place
    c.in_ok-field.field c.from_be_bytes.result c.in_ok-field.next (omega arith) is takes
