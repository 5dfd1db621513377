use Rattle.std.proofs.Common.{◌∙◌}
use Rattle.lsl_data.proofs.PairLemmas.{value-found}
use Rattle.lsl_data.proofs.pairs.pair_at.Goals as goal

pub returns : goal.returns
returns c =
    c.get.ensures.value
    ∙ value-found c.args.map.now.entries c.args.name.now c.as_str.result.now c.as_str.ensures.value c.requires
