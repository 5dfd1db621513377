-- One list of bytes for a value, and one value for a list of bytes.
use Rattle.std.specs.Prelude.{◌≡◌, ℕ, List, ◌++◌}

-- the bytes of no value begin those of another
abbrev pub IsPrefixFree : {V : Type 0} → (V → List ℕ) → (V → Type 0) → Type 0
IsPrefixFree {V} form Fits =
    (v w : V) (a b : List ℕ) → Fits v → Fits w → form v ++ a ≡ form w ++ b → (v ≡ w) × (a ≡ b)
