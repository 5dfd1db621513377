use Rattle.std.proofs.Common.{arith}
use Rattle.lsl_bytes.specs.Fields.{u32_bytes, FitsU32}
use Rattle.lsl_bytes.proofs.NumberLemmas.{array_bytes, IsArray, array-none, length-u32, u32-of_bytes, u32-prefix_free}
use Rattle.lsl_bytes.proofs.PlaceLemmas.{part-fits, takes_as}
use Rattle.lsl_bytes.proofs.numbers.take_u32.Goals as goal

pub returns-in_err-field : goal.returns-in_err-field
returns-in_err-field c = rw c.from_residual.ensures
    (array-none u32_bytes FitsU32 4 length-u32 c.args.bytes.now c.args.place c.in_err-field.ensures)

pub returns : goal.returns
returns c =
    let takes = c.in_ok-field.ensures in
    let stands = takes.found.1 in
    let is = u32-of_bytes c.in_ok-field.field c.from_be_bytes.result takes.found.0
    (part-fits _ _ _ _ stands (λ i. omega (arith, c.type_inv.bytes i))) c.from_be_bytes.ensures in
    takes_as array_bytes (IsArray 4) u32_bytes FitsU32 u32-prefix_free c.args.bytes.now c.args.place
    c.in_ok-field.field c.from_be_bytes.result c.in_ok-field.next (omega arith) is takes
