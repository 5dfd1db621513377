-- The bytes of a parcel.
use Rattle.std.specs.Prelude.{ℕ, List, [], Option, Some, None}

-- none where nothing is held
abbrev pub held_bytes : {V : Type 0} → Option V → (V → List ℕ) → List ℕ
held_bytes None items = []
held_bytes (Some held) items = items held
