use Rattle.std.proofs.Common.{◌∙◌, ◌-◌, sym, ap, take, length, get_or}
use Rattle.lsl_pure.specs.Cuts.{without_tail}
use Rattle.lsl_pure.proofs.TrimLemmas.{last_split, without_tail-blank, without_tail-kept}
use Rattle.lsl_pure.proofs.cuts.before_blanks.Goals as goal

pub blanks-preserved : goal.blanks-preserved
blanks-preserved c =
    let rest = c.blanks.rest.now in
    let more = take (length rest - 1) rest in
    sym (without_tail-blank more (get_or rest (length rest - 1) 0)
    (sym c.is_blank.ensures ∙ c.if-not-is_blank.false))
    ∙ sym (ap without_tail (last_split rest c.in-len1-up.len_at_least)) ∙ c.blanks.invariant

pub returns-then-not-is_blank : goal.returns-then-not-is_blank
returns-then-not-is_blank c =
    let rest = c.blanks.rest.now in
    let more = take (length rest - 1) rest in
    last_split rest c.in-len1-up.len_at_least
    ∙ sym (without_tail-kept more (get_or rest (length rest - 1) 0)
    (sym c.is_blank.ensures ∙ c.if-not-is_blank.true))
    ∙ sym (ap without_tail (last_split rest c.in-len1-up.len_at_least)) ∙ c.blanks.invariant
