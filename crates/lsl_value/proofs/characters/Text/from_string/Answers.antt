use Rattle.std.proofs.Common.{◌≡◌, ◌∙◌, [], sym, ap}
use Rattle.std.specs.Str.{chars}
use Rattle.std.proofs.lemmas.Str.{chars-nil}
use Rattle.lsl_value.proofs.TextLemmas.{empty-list}
use Rattle.lsl_value.proofs.characters.Text.from_string.Goals as goal

pub returns-then-is_empty : goal.returns-then-is_empty
returns-then-is_empty c =
    let empty : c.as_str.result.now ≡ [] =
    empty-list c.as_str.result.now (sym c.is_empty.ensures ∙ c.if-is_empty.true) in
    c.new.ensures ∙ sym chars-nil ∙ ap chars (sym empty ∙ c.as_str.ensures.value)
