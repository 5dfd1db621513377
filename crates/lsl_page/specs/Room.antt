-- What a sink reports that writes into a borrowed buffer.
use Rattle.std.specs.Prelude.{ℕ, List, ◌∷◌, take, Option, Some}
use Rattle.std.specs.Borrow.{MutBor}

-- The buffer's own number, and then the bytes that were written into it. This only grows, so code that passes the sink
-- on knows that it is still the sink of the same buffer.
abbrev pub told_in : MutBor (List ℕ) → ℕ → Option (List ℕ)
told_in room count = Some (room.ghost_name ∷ take count room.now)
