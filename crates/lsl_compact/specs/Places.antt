-- Where a place of joined pieces is in their pool.
use Rattle.std.specs.Prelude.{ℕ, ◌+◌, ◌-◌, ◌≡◌, ◌<◌, ◌≤◌, List, [], ◌∷◌, Option, Some, slice_get, take, MatchOption}
use Rattle.lsl_compact.specs.declared.pieces.Piece.{Piece}

-- how many elements the pieces have
abbrev pub span : List Piece → ℕ
span [] = 0
span (p ∷ ps) = p.count + span ps

-- the piece k has the place, counted from the first piece, and it is this one of the pool
pub record IsIn (ps : List Piece) (place number k : ℕ) (p : Piece) : Type 0 where
  pub piece : slice_get ps k ≡ Some p
  pub from : span (take k ps) ≤ place
  pub within : place - span (take k ps) < p.count
  pub there : number ≡ p.from + (place - span (take k ps))

abbrev pub IsPlaceIn : List Piece → ℕ → Option ℕ → Type 0
IsPlaceIn ps place r = MatchOption r (span ps ≤ place) (λ number. (k : ℕ) × (p : Piece) × IsIn ps place number k p)
