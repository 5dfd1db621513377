-- Laws of stores.
use Rattle.std.specs.Prelude.{◌≡◌, ◌↔◌, ℕ, true, if◌then◌else◌, List, [], Some, None}
use Rattle.lsl_value.specs.Text.{IsText}
use Rattle.lsl_post.specs.declared.parts.Pair.{Pair}
use Rattle.lsl_image.specs.Valid.{IsStore}
use Rattle.lsl_data.specs.History.{Command, accepted_from, last_value, store_after}
use Rattle.lsl_data.specs.Pairs.{same_name, value_at, with_pair, without}

-- After any commands, a read gives the value of the last command on the name that was accepted since the last reset:
-- none if that took the name out, or if there was none.
abbrev pub ReadsAreLastAccepted : Type 0
ReadsAreLastAccepted =
    (commands : List Command) (name : List ℕ)
    → value_at (store_after commands) name ≡ last_value (accepted_from [] commands) name

-- After any commands, an image may hold the pairs.
abbrev pub StoresAreKept : Type 0
StoresAreKept = (commands : List Command) → IsStore (store_after commands)

-- A change changes the value of one name.
abbrev pub GivenIsRead : Type 0
GivenIsRead =
    (pairs : List Pair) (p : Pair) (name : List ℕ)
    → value_at (with_pair pairs p) name ≡ (if same_name name p.name then Some p.value else value_at pairs name)

abbrev pub TakenIsNotRead : Type 0
TakenIsNotRead =
    (pairs : List Pair) (gone name : List ℕ)
    → value_at (without pairs gone) name ≡ (if same_name name gone then None else value_at pairs name)

-- Texts are one name if they are the same.
abbrev pub NamesAreTexts : Type 0
NamesAreTexts = (a b : List ℕ) → IsText a → IsText b → (same_name a b ≡ true) ↔ (a ≡ b)
