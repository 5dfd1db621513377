-- The first moment after one that an aim asks for, and the last before it.
use Rattle.std.specs.Prelude.{◌≡◌, ℕ, ◌-◌, ◌<◌, ◌≤◌, min, Bool, true, false, List, [], ◌∷◌, length, Option, Some, None}
use Rattle.lsl_seek.specs.Aims.{meets}
use Rattle.lsl_seek.specs.Moments.{Moment, moments, up_to}
use Rattle.lsl_seek.specs.declared.aim.Aim.{Aim}
use Rattle.lsl_seek.specs.declared.trace.Trace.{Trace}

-- the latest of these is what an aim asks for
abbrev pub met : Trace → Aim → List Moment → Bool
met trace aim [] = false
met trace aim (m ∷ past) = meets trace aim m past

-- the moment of this number is
unfoldable pub met_at : Trace → Aim → ℕ → Bool
met_at trace aim n = met trace aim (up_to (moments trace) n)

-- none after the first number, up to the second one
abbrev pub NoneUpTo : Trace → Aim → ℕ → ℕ → Type 0
NoneUpTo trace aim from upto = (k : ℕ) → from < k → k ≤ upto → met_at trace aim k ≡ false

pub record IsFirstAt (trace : Trace) (aim : Aim) (from n : ℕ) : Type 0 where
  pub low : from < n
  pub high : n ≤ length (moments trace)
  pub met : met_at trace aim n ≡ true
  pub none : (k : ℕ) → from < k → k < n → met_at trace aim k ≡ false

-- the first moment after this number, or none where none is
abbrev pub IsFirst : Trace → Aim → ℕ → Option ℕ → Type 0
IsFirst trace aim from None = NoneUpTo trace aim from (length (moments trace))
IsFirst trace aim from (Some n) = IsFirstAt trace aim from n

pub record IsLastAt (trace : Trace) (aim : Aim) (upto n : ℕ) : Type 0 where
  pub low : 0 < n
  pub high : n ≤ upto
  pub met : met_at trace aim n ≡ true
  pub none : (k : ℕ) → n < k → k ≤ upto → met_at trace aim k ≡ false

-- the last moment up to this number, or none where none is
abbrev pub LastUpTo : Trace → Aim → ℕ → Option ℕ → Type 0
LastUpTo trace aim upto None = (k : ℕ) → 0 < k → k ≤ upto → met_at trace aim k ≡ false
LastUpTo trace aim upto (Some n) = IsLastAt trace aim upto n

-- the last moment before this number, or none where none is
abbrev pub IsLast : Trace → Aim → ℕ → Option ℕ → Type 0
IsLast trace aim from found = LastUpTo trace aim (min (from - 1) (length (moments trace))) found
