use Rattle.std.proofs.Common.{◌++◌, ◌∙◌, ℕ, ap, sym, take, drop, length, arith, length-append}
use Rattle.std.proofs.lemmas.List.{length-take, length-drop, take_rest}
use Rattle.lsl_pure.proofs.ByteLemmas.{outside-spelled, outside-scalars, IsUtf8-spelled, chars-spelled}
use Rattle.lsl_pure.proofs.RangeLemmas.{IfOk-same}
use Rattle.lsl_pure.proofs.cuts.outside.Goals as goal

pub text_of-requires-clause-valid : goal.text_of-requires-clause-valid
text_of-requires-clause-valid c =
    IsUtf8-spelled _ (take c.args.start c.args.text.now ++ drop c.args.end c.args.text.now)
    (outside-spelled c.args.text.now c.bytes-bytes.result.now _ _ _ c.args.start c.args.end
    c.offsets-from.result.0 c.offsets-from.result.1 c.bytes-bytes.ensures.value c.offsets-from.ensures.from
    c.offsets-from.ensures.to c.in_ok-out.ensures.items c.in_ok-extend_from_slice.ensures.items
    (c.in_ok-extend_from_slice-2.ensures.items
    ∙ ap (λ t. c.extend_from_slice.new.self.items ++ t)
    (take_rest c.bytes-bytes.result.now c.offsets-from.result.1)))
    (outside-scalars c.args.start c.args.end c.args.text.now c.bytes-bytes.ensures.valid.scalars)

pub text_of-requires-clause-short : goal.text_of-requires-clause-short
text_of-requires-clause-short c =
    omega (
      arith,
      ap length c.bytes-bytes.ensures.value,
      c.bytes-bytes.ensures.valid.within,
      ap length c.in_ok-extend_from_slice-2.ensures.items,
      ap length c.in_ok-extend_from_slice.ensures.items,
      ap length c.in_ok-out.ensures.items,
      length-append {A = ℕ},
      length-take {A = ℕ},
      length-drop {A = ℕ},
    )

pub returns : goal.returns
returns c =
    IfOk-same c.text_of.result _ _
    (sym (chars-spelled _ (take c.args.start c.args.text.now ++ drop c.args.end c.args.text.now)
    (outside-spelled c.args.text.now c.bytes-bytes.result.now _ _ _ c.args.start c.args.end
    c.offsets-from.result.0 c.offsets-from.result.1 c.bytes-bytes.ensures.value c.offsets-from.ensures.from
    c.offsets-from.ensures.to c.in_ok-out.ensures.items c.in_ok-extend_from_slice.ensures.items
    (c.in_ok-extend_from_slice-2.ensures.items
    ∙ ap (λ t. c.extend_from_slice.new.self.items ++ t)
    (take_rest c.bytes-bytes.result.now c.offsets-from.result.1)))
    (outside-scalars c.args.start c.args.end c.args.text.now c.bytes-bytes.ensures.valid.scalars)))
    c.text_of.ensures
