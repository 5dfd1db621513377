use Rattle.std.proofs.Common.{◌∙◌, ap, ℤ, ◌≡◌}
use Rattle.std.specs.Int.{w32, cast_unsigned, cast_signed}
use Rattle.std.proofs.lemmas.Int.{of_z-to_z}
use Rattle.lsl_bytes.specs.Fields.{u32_bytes, FitsU32, i32_bytes, FitsI32}
use Rattle.lsl_bytes.proofs.NumberLemmas.{i32-begins, i32-of_u32, i32-prefix_free, signed-fits}
use Rattle.lsl_bytes.proofs.PlaceLemmas.{takes_as, takes_no}
use Rattle.lsl_bytes.proofs.numbers.take_i32.Goals as goal

pub returns-in_err-n : goal.returns-in_err-n
returns-in_err-n c = rw c.from_residual.ensures
    (takes_no u32_bytes FitsU32 i32_bytes FitsI32 c.args.bytes.now c.args.place i32-begins c.in_err-n.ensures)

pub returns : goal.returns
returns c =
    let takes = c.in_ok-n.ensures in
    let n = c.in_ok-n.n in
    let same : cast_signed w32 (cast_unsigned w32 c.cast_signed.result) ≡ cast_signed w32 n =
    ap (λ (z : ℤ). cast_signed w32 (cast_unsigned w32 z)) c.cast_signed.ensures
    ∙ ap (cast_signed w32) (of_z-to_z w32 n takes.found.0) in
    rw same (takes_as u32_bytes FitsU32 i32_bytes FitsI32 i32-prefix_free c.args.bytes.now c.args.place n
    (cast_signed w32 n) c.in_ok-n.next (signed-fits n takes.found.0) (i32-of_u32 n takes.found.0) takes)
