-- Where a field is, and what a call returns that takes one.
use Rattle.std.specs.Prelude.{◌≡◌, ℕ, ◌+◌, ◌≤◌, List, ◌++◌, length, drop, Option, Some, IfSome}

-- the part is at this place of the bytes, and the next place is right after it
pub record StandsAt (bytes : List ℕ) (place : ℕ) (part : List ℕ) (next : ℕ) : Type 0 where
  pub parts : drop place bytes ≡ part ++ drop next bytes
  pub behind : next ≡ place + length part
  pub within : next ≤ length bytes

-- a value whose bytes are at the place, with the place after them; none exactly where no value's bytes are
pub record Takes {V : Type 0} (form : V → List ℕ) (Fits : V → Type 0) (bytes : List ℕ) (place : ℕ)
    (answer : Option (V × ℕ)) : Type 0 where
  pub found : IfSome answer (λ taken. Fits taken.0 × StandsAt bytes place (form taken.0) taken.1)
  pub every : (v : V) (next : ℕ) → Fits v → StandsAt bytes place (form v) next → answer ≡ Some (v, next)
