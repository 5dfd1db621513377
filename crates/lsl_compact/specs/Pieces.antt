-- A list that consists of parts of another.
use Rattle.std.specs.Prelude.{ℕ, ◌+◌, ◌≤◌, List, [], ◌∷◌, ◌++◌, take, drop}
use Rattle.lsl_compact.specs.declared.pieces.Piece.{Piece}

-- the part of the pool that a piece names
abbrev pub part : {A : Type 0} → List A → Piece → List A
part pool p = take p.count (drop p.from pool)

abbrev pub joined : {A : Type 0} → List A → List Piece → List A
joined pool [] = []
joined pool (p ∷ ps) = part pool p ++ joined pool ps

-- each piece lies within a pool of this length
abbrev pub ArePieces : ℕ → List Piece → Type 0
ArePieces pool [] = Unit {0}
ArePieces pool (p ∷ ps) = (p.from + p.count ≤ pool) × ArePieces pool ps

-- words of which a list may repeat any, and the list
pub record Worded (A : Type 0) : Type 0 where
  pub words : List A
  pub list : List A

abbrev pub worded : {A : Type 0} → List A → List A → Worded A
worded words list = record { words = words; list = list }
