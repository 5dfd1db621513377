use Rattle.std.proofs.Common.{◌≡◌, ◌∙◌, ap, refl, subst, List, ℕ, IfOk}
use Rattle.std.specs.Str.{chars}
use Rattle.lsl_notes.specs.Notecards.{end_of_card}
use Rattle.lsl_notes.proofs.cards.end_of_card.Goals as goal

feeds : chars end_of_card ≡ end_of_card
unfolding chars
feeds = refl

pub returns : goal.returns
returns c =
    let same = ap chars c.in_ok-from_str.ensures.ok ∙ feeds in
    subst (λ (text : List ℕ). IfOk c.from_string.result (λ made. made ≡ text)) same c.from_string.ensures
