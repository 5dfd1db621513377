-- What the calls return that read images.
use Rattle.std.specs.Prelude.{◌≡◌, ◌⊎◌, MatchResult, Result}
use Rattle.lsl_text.specs.declared.Refusal.{Refusal}
use Rattle.lsl_text.specs.declared.Refusal.TheVariants.{Fault, NoMemory}
use Rattle.lsl_image.specs.declared.faults.ImageFault.{ImageFault}

-- what the bytes are an image of is given, unless memory runs out
abbrev pub GivesThat : {A : Type 0} → Result A (Refusal ImageFault) → A → Type 0
GivesThat result a = MatchResult result (λ found. found ≡ a) (λ refusal. refusal ≡ NoMemory)

-- bytes with this first fault are refused with it, unless memory runs out
abbrev pub RefusesWith : {A : Type 0} → Result A (Refusal ImageFault) → ImageFault → Type 0
RefusesWith result fault =
    MatchResult result (λ found. ⊥) (λ refusal. (refusal ≡ Fault fault) ⊎ (refusal ≡ NoMemory))
