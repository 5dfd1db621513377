use Rattle.std.proofs.Common.{◌∙◌, ap}
use Rattle.std.specs.Str.{encode_utf8_all}
use Rattle.std.proofs.lemmas.List.{take_rest}
use Rattle.std.proofs.lemmas.Str.{encodes-chars}
use Rattle.lsl_pure.proofs.JoinLemmas.{joined-parts}
use Rattle.lsl_pure.proofs.joining.join.Goals as goal

pub returns-in_ok-text_of-in-len1-up-clause-ok : goal.returns-in_ok-text_of-in-len1-up-clause-ok
returns-in_ok-text_of-in-len1-up-clause-ok c =
    ap encode_utf8_all c.in_ok-text_of-in-len1-up.ensures
    ∙ encodes-chars c.push_others.new.out.items c.in_ok-push_others-in-len1-up.ensures.whole
    ∙ joined-parts c.push_others.new.out.items _ _ c.args.separator.now c.args.atoms.now _ c.first-item.result
    c.in-len1-up.len_at_least c.first-item.is (take_rest c.args.atoms.now 1)
    c.in_ok-out-in-len1-up.ensures.items c.in_ok-push_atom-in-len1-up.ensures.ok
    c.in_ok-push_others-in-len1-up.ensures.ok
