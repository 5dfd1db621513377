use Rattle.std.proofs.Common.{◌∙◌, ap, sym, subst}
use Rattle.std.specs.Map.{values_of}
use Rattle.lsl_data.specs.Kept.{AreNamed}
use Rattle.lsl_data.proofs.PairLemmas.{named-put, values-put}
use Rattle.lsl_data.proofs.pairs.put.Goals as goal

pub returns-clause-ok : goal.returns-clause-ok
returns-clause-ok c =
    ap values_of c.in_ok-insert.ensures.entries
    ∙ values-put c.args.map.now.entries c.in_ok-name.name c.args.pair
    (c.in_ok-name.ensures.ok ∙ c.as_str.ensures.value)
    c.requires.named c.requires.ascend

pub returns-clause-named : goal.returns-clause-named
returns-clause-named c =
    subst AreNamed (sym c.in_ok-insert.ensures.entries)
    (named-put c.args.map.now.entries c.in_ok-name.name c.args.pair
    (c.in_ok-name.ensures.ok ∙ c.as_str.ensures.value)
    c.requires.named)
