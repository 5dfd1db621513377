use Rattle.std.proofs.Common.{◌≡◌, ◌∙◌, ℕ, List, Option, Some, None, false, refl, ap}
use Rattle.std.proofs.lemmas.Bool.{false≢true}
use Rattle.uuid.specs.Text.{parsed}
use Rattle.lsl_image.specs.Object.{are_these}
use Rattle.lsl_image.proofs.object.is_key.Goals as goal

no_key : (o : Option (List ℕ)) (found : List ℕ) → ((x : List ℕ) → o ≡ Some x → ⊥) → false ≡ are_these o found
no_key None found none = refl
no_key (Some bytes) found none = absurd (none bytes refl)

pub returns-in-Err : goal.returns-in-Err
returns-in-Err c =
    no_key _ c.args.found.now (λ x e. false≢true
    (c.in-Err.ensures.ok.1 (x, ap parsed c.as_str.ensures.value ∙ e)))
