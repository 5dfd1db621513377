use Rattle.std.proofs.Common.{sym}
use Rattle.std.specs.List.{slice_range}
use Rattle.lsl_pure.proofs.ByteLemmas.{bytes_inside, scalars-inside, IsUtf8-spelled, chars-spelled}
use Rattle.lsl_pure.proofs.RangeLemmas.{IfOk-same}
use Rattle.lsl_pure.proofs.cuts.inside.Goals as goal

pub copy_of-requires-clause-valid : goal.copy_of-requires-clause-valid
copy_of-requires-clause-valid c =
    IsUtf8-spelled _ (slice_range c.args.text.now c.args.start c.args.end)
    (bytes_inside c.args.text.now c.bytes.result.now c.args.start c.args.end c.offsets-from.result.0
    c.offsets-from.result.1 c.requires c.bytes.ensures.value c.offsets-from.ensures.from
    c.offsets-from.ensures.to)
    (scalars-inside c.args.start c.args.end c.args.text.now c.bytes.ensures.valid.scalars)

pub returns : goal.returns
returns c =
    IfOk-same c.copy_of.result _ _
    (sym (chars-spelled _ (slice_range c.args.text.now c.args.start c.args.end)
    (bytes_inside c.args.text.now c.bytes.result.now c.args.start c.args.end c.offsets-from.result.0
    c.offsets-from.result.1 c.requires c.bytes.ensures.value c.offsets-from.ensures.from
    c.offsets-from.ensures.to)
    (scalars-inside c.args.start c.args.end c.args.text.now c.bytes.ensures.valid.scalars)))
    c.copy_of.ensures
