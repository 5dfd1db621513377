use Rattle.std.proofs.Common.{◌∙◌, ap, sym, length, to_z, of_z, w32, arith}
use Rattle.std.proofs.lemmas.Int.{to_z-of_z}
use Rattle.lsl_pure.specs.Cuts.{trimmed}
use Rattle.lsl_pure.proofs.ByteLemmas.{IsUtf8-spelled, chars-spelled}
use Rattle.lsl_pure.proofs.RangeLemmas.{IfOk-same}
use Rattle.lsl_pure.proofs.TrimLemmas.{trimmed-short, trimmed-spelled, scalars-trimmed}
use Rattle.lsl_pure.proofs.cuts.string_trim.Goals as goal

pub copy_of-requires-clause-valid : goal.copy_of-requires-clause-valid
copy_of-requires-clause-valid c =
    IsUtf8-spelled _ (trimmed c.args.text.now (to_z w32 (of_z w32 c.args.kind)))
    (trimmed-spelled c.args.text.now c.bytes.result.now c.trim_head.result.now c.trim_tail.result.now
    (to_z w32 (of_z w32 c.args.kind)) c.bytes.ensures.value c.trim_head.ensures c.trim_tail.ensures)
    (scalars-trimmed c.args.text.now (to_z w32 (of_z w32 c.args.kind)) c.bytes.ensures.valid.scalars)

pub copy_of-requires-clause-short : goal.copy_of-requires-clause-short
copy_of-requires-clause-short c =
    omega (
      arith,
      trimmed-short c.bytes.result.now c.trim_head.result.now c.trim_tail.result.now _ _
          c.trim_head.ensures c.trim_tail.ensures,
      ap length c.bytes.ensures.value,
      c.bytes.ensures.valid.within,
    )

pub returns : goal.returns
returns c =
    IfOk-same c.copy_of.result _ _
    (sym (chars-spelled _ (trimmed c.args.text.now (to_z w32 (of_z w32 c.args.kind)))
    (trimmed-spelled c.args.text.now c.bytes.result.now c.trim_head.result.now c.trim_tail.result.now
    (to_z w32 (of_z w32 c.args.kind)) c.bytes.ensures.value c.trim_head.ensures c.trim_tail.ensures)
    (scalars-trimmed c.args.text.now (to_z w32 (of_z w32 c.args.kind)) c.bytes.ensures.valid.scalars)
    ∙ ap (trimmed c.args.text.now) (to_z-of_z w32 c.args.kind c.ranges.kind)))
    c.copy_of.ensures
