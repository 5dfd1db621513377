use Rattle.std.proofs.Common.{◌≡◌, ◌∙◌, ap, rules, sym}
use Rattle.std.specs.Int.{w32, cast_signed, cast_unsigned}
use Rattle.std.proofs.lemmas.Int.{to_z-of_z}
use Rattle.lsl_region.specs.Answers.{line_from}
use Rattle.lsl_region.proofs.CardTold.{count-asked}
use Rattle.lsl_region.proofs.notecard_calls.line_of.Goals as goal

pub returns-in-GetNotecardLine : goal.returns-in-GetNotecardLine
returns-in-GetNotecardLine c =
    let same : cast_signed w32 (cast_unsigned w32 c.integer_at.result) ≡ c.integer_at.result =
    to_z-of_z w32 c.integer_at.result (search rules) in
    rw c.in-GetNotecardLine.is (c.line_from.ensures ∙ ap line_from (same ∙ c.integer_at.ensures))

pub returns-in_default : goal.returns-in_default
returns-in_default c = sym (count-asked c.args.id c.args.args.now c.in_default.not-GetNotecardLine)
