use Rattle.std.proofs.Common.{◌≡◌, ◌-◌, sym, take, drop, length, arith}
use Rattle.std.proofs.lemmas.Grind.{common_steps}
use Rattle.lsl_text.proofs.Digits.{one_more_digit}
use Rattle.lsl_text.proofs.number.magnitude.Goals as goal

pub digits-preserved : goal.digits-preserved
digits-preserved c =
    let more = take (length c.digits.rest.now - 1) (drop 1 c.digits.rest.now) in
    let same : more ≡ drop 1 c.digits.rest.now = grind (arith, common_steps) in
    let read = rw c.from.ensures at c.in-Some.ensures.value in
    let capped = rw (c.from-in-Some.ensures, c.from-in-Some-2.ensures) at c.min-n.ensures in
    one_more_digit c.args.base c.digits.n c.in-Some.d c.min-n.result _ c.digits.rest.now more (omega arith)
    c.in-len1-up.len_at_least same read.0 (sym read.1) capped c.digits.invariant.1
