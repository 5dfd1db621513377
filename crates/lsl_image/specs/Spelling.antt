-- The bytes that a layout has for what it encodes.
use Rattle.std.specs.Prelude.{◌≡◌, ℕ, ◌+◌, List, [], ◌++◌, length}
use Rattle.lsl_image.specs.Layout.{Content, Fits, Layout, Ends, Refused, Here, Field, bytes_of}

-- these bytes, which begin at the place, spell this
abbrev pub Spells : {A : Type 0} → Layout A → ℕ → A → List ℕ → Type 0
Spells (Ends b) place a part = (a ≡ b) × (part ≡ [])
Spells (Refused fault) place a part = ⊥
Spells (Here next) place a part = Spells (next place) place a part
Spells (Field form next) place a part =
    (content : Content form) × (rest : List ℕ) × Fits form content × (part ≡ bytes_of form content ++ rest)
    × Spells (next content) (place + length (bytes_of form content)) a rest
