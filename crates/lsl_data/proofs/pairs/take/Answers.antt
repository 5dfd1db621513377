use Rattle.std.proofs.Common.{◌∙◌, ap, sym, subst, Some}
use Rattle.std.specs.Map.{values_of}
use Rattle.std.specs.Option.{option_map}
use Rattle.lsl_image.specs.Object.{pair_bytes}
use Rattle.lsl_data.specs.Kept.{AreNamed}
use Rattle.lsl_data.proofs.PairLemmas.{named-take, value-found, values-take}
use Rattle.lsl_data.proofs.pairs.take.Goals as goal

pub returns-in-Some-clause-gone : goal.returns-in-Some-clause-gone
returns-in-Some-clause-gone c =
    ap Some c.length_of.ensures.value
    ∙ ap (option_map pair_bytes) (sym c.in-Some.is ∙ c.remove.ensures.value
    ∙ value-found c.args.map.now.entries c.args.name.now c.as_str.result.now c.as_str.ensures.value c.requires.named)

pub returns-in-Some-clause-left : goal.returns-in-Some-clause-left
returns-in-Some-clause-left c =
    ap values_of c.remove.ensures.entries
    ∙ values-take c.args.map.now.entries c.args.name.now c.as_str.result.now c.as_str.ensures.value c.requires.named
    c.requires.ascend

pub returns-in-Some-clause-named : goal.returns-in-Some-clause-named
returns-in-Some-clause-named c =
    subst AreNamed (sym c.remove.ensures.entries)
    (named-take c.args.map.now.entries c.args.name.now c.as_str.result.now c.as_str.ensures.value c.requires.named)

pub returns-in-None-clause-gone : goal.returns-in-None-clause-gone
returns-in-None-clause-gone c =
    ap (option_map pair_bytes) (sym c.in-None.is ∙ c.remove.ensures.value
    ∙ value-found c.args.map.now.entries c.args.name.now c.as_str.result.now c.as_str.ensures.value c.requires.named)

pub returns-in-None-clause-left : goal.returns-in-None-clause-left
returns-in-None-clause-left c =
    ap values_of c.remove.ensures.entries
    ∙ values-take c.args.map.now.entries c.args.name.now c.as_str.result.now c.as_str.ensures.value c.requires.named
    c.requires.ascend
