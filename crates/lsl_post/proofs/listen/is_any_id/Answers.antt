use Rattle.std.proofs.Common.{◌∙◌, sym, ap, nat_eq, not, ◌||◌, Bool}
use Rattle.std.specs.Char.{encode_utf8}
use Rattle.std.specs.Cmp.Lexicographic.{pointwise}
use Rattle.lsl_value.specs.Key.{is_null_key, null_key}
use Rattle.lsl_value.proofs.TextLemmas.{pointwise-encodes}
use Rattle.lsl_post.proofs.listen.is_any_id.Goals as goal

pub returns-else-not-valid_key : goal.returns-else-not-valid_key
unfolding encode_utf8
returns-else-not-valid_key c =
    c.eq.ensures ∙ ap (λ bytes. pointwise nat_eq bytes null_key) c.as_str.ensures.value
    ∙ pointwise-encodes c.args.id.now null_key
    ∙ ap (λ (valid : Bool). not valid || is_null_key c.args.id.now)
    (sym c.if-not-valid_key.false ∙ c.valid_key.ensures)
