use Rattle.std.proofs.Common.{◌∙◌, sym}
use Rattle.lsl_image.proofs.PairLemmas.{above-last}
use Rattle.lsl_image.proofs.store.is_above_last.Goals as goal

pub returns-in-Some : goal.returns-in-Some
returns-in-Some c = c.is_below.ensures
    ∙ sym (above-last c.args.name.now c.args.before.now c.in-Some.last.now c.in-Some.ensures.value)
