use Rattle.std.proofs.Common.{◌≡◌, sym, ◌∙◌, arith, take, drop, length, ◌-◌}
use Rattle.std.proofs.lemmas.Grind.{common_steps}
use Rattle.lsl_seek.proofs.Contains.{contains-found, contains-more, contains-end}
use Rattle.lsl_seek.proofs.texts.contains.Goals as goal

pub returns-then-starts_with : goal.returns-then-starts_with
returns-then-starts_with c =
    sym (sym c.bytes.invariant ∙ contains-found c.bytes.rest.now c.args.part.now c.in-len1-up.len_at_least (sym c.starts_with.ensures.value ∙ c.if-starts_with.true))

pub bytes-preserved : goal.bytes-preserved
bytes-preserved c =
    let more = take (length c.bytes.rest.now - 1) (drop 1 c.bytes.rest.now) in
    let same : more ≡ drop 1 c.bytes.rest.now = grind (arith, common_steps) in
    contains-more c.bytes.rest.now more c.args.part.now c.in-len1-up.len_at_least same (sym c.starts_with.ensures.value ∙ c.if-starts_with.false) ∙ c.bytes.invariant

pub returns : goal.returns
returns c = c.is_empty.ensures ∙ sym (sym c.bytes.invariant ∙ contains-end c.bytes.rest.now c.args.part.now c.in_default.len_below)
