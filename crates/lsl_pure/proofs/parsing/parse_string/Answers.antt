use Rattle.std.proofs.Common.{◌∙◌, ◌<◌, List, length, ap, subst, sym, arith}
use Rattle.std.specs.List.{All}
use Rattle.lsl_pure.specs.Parsing.{marks_of, parsed}
use Rattle.lsl_pure.specs.declared.marks.Mark.{Mark}
use Rattle.lsl_pure.proofs.ChargeLemmas.{IfErr-strings, IfOk-strings}
use Rattle.lsl_pure.proofs.CutLemmas.{parsed-spelled}
use Rattle.lsl_pure.proofs.MarkLemmas.{marks_of-few, marks_of-have}
use Rattle.lsl_pure.proofs.parsing.parse_string.Goals as goal

pub cut-requires-clause-nonempty : goal.cut-requires-clause-nonempty
cut-requires-clause-nonempty c =
    let P : List Mark → Type 0 = λ ms. All (λ (m : Mark). 0 < length m.text) ms in
    subst P (sym (c.as_slice.ensures.value ∙ c.in_ok-marks.ensures))
    (marks_of-have c.args.separators.now c.args.spacers.now)

pub cut-requires-clause-few : goal.cut-requires-clause-few
cut-requires-clause-few c =
    omega (
      arith,
      ap length (c.as_slice.ensures.value ∙ c.in_ok-marks.ensures),
      marks_of-few c.args.separators.now c.args.spacers.now,
    )

pub returns-clause-ok : goal.returns-clause-ok
returns-clause-ok c =
    IfOk-strings c.cut.result _ (parsed c.args.keep_nulls c.args.text.now c.args.separators.now c.args.spacers.now)
    (parsed-spelled c.args.keep_nulls c.args.text.now c.bytes.result.now c.as_slice.result.now
    (marks_of c.args.separators.now c.args.spacers.now) c.bytes.ensures.value
    (c.as_slice.ensures.value ∙ c.in_ok-marks.ensures)
    (marks_of-have c.args.separators.now c.args.spacers.now))
    c.cut.ensures.ok

pub returns-clause-too_big : goal.returns-clause-too_big
returns-clause-too_big c =
    IfErr-strings c.cut.result _ (parsed c.args.keep_nulls c.args.text.now c.args.separators.now c.args.spacers.now)
    (parsed-spelled c.args.keep_nulls c.args.text.now c.bytes.result.now c.as_slice.result.now
    (marks_of c.args.separators.now c.args.spacers.now) c.bytes.ensures.value
    (c.as_slice.ensures.value ∙ c.in_ok-marks.ensures)
    (marks_of-have c.args.separators.now c.args.spacers.now))
    c.cut.ensures.too_big
