use Rattle.std.proofs.Common.{◌≡◌, ◌∙◌, [], ap, refl, sym}
use Rattle.std.specs.Option.{option_copied, unwrap_or}
use Rattle.lsl_region.specs.Texts.{cut_speech, cut_to}
use Rattle.lsl_region.proofs.chat_calls.spoken.Goals as goal

none-cut : [] ≡ cut_speech []
unfolding cut_to
none-cut = refl

pub returns-in-None : goal.returns-in-None
returns-in-None c =
    c.new.ensures ∙ none-cut
    ∙ ap cut_speech (sym (c.text_in.ensures ∙ ap (λ o. unwrap_or (option_copied o) []) c.in-None.is))
