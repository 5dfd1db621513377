use Rattle.std.proofs.Common.{◌∙◌, ap, nat_eq}
use Rattle.std.specs.Char.{encode_utf8}
use Rattle.std.specs.Cmp.Lexicographic.{pointwise}
use Rattle.lsl_value.specs.Key.{null_key}
use Rattle.lsl_value.proofs.TextLemmas.{pointwise-encodes}
use Rattle.lsl_value.proofs.keys.is_null_key.Goals as goal

pub returns : goal.returns
unfolding encode_utf8
returns c = c.eq.ensures ∙ ap (λ bytes. pointwise nat_eq bytes null_key) c.as_str.ensures.value
    ∙ pointwise-encodes c.args.text.now null_key
