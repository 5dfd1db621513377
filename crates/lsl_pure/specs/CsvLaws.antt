-- Which cut of a text into pieces between commas is the one that CSV takes.
use Rattle.std.specs.Prelude.{◌≡◌, ℕ, ◌<◌, List, [], ◌∷◌, ◌++◌, length, take, count_by, slice_index}
use Rattle.lsl_pure.specs.Csv.{is_closing, is_opening}

-- some bracket of these characters isn't closed behind them: a part at their end opens more than it closes
pub record IsOpenBehind (front : List ℕ) : Type 0 where
  pub before : List ℕ
  pub part : List ℕ
  pub is : front ≡ before ++ part
  pub more : count_by is_closing part < count_by is_opening part

-- each comma of a piece, which stands behind the front, stands inside brackets
abbrev pub IsWhole : List ℕ → List ℕ → Type 0
IsWhole front piece = (k : ℕ) → k < length piece → slice_index piece k ≡ 44 → IsOpenBehind (front ++ take k piece)

-- what stands behind the front is these whole pieces, with commas between them that stand inside no brackets
abbrev pub IsPartedBehind : List ℕ → List ℕ → List ℕ → List (List ℕ) → Type 0
IsPartedBehind front text piece [] = (text ≡ piece) × IsWhole front piece
IsPartedBehind front text piece (next ∷ more) =
    (rest : List ℕ) × (text ≡ piece ++ 44 ∷ rest) × IsWhole front piece × (IsOpenBehind (front ++ piece) → ⊥)
    × IsPartedBehind ((front ++ piece) ++ 44 ∷ []) rest next more

-- the text is these pieces, of which there is a first
pub record IsCsvCut (text : List ℕ) (pieces : List (List ℕ)) : Type 0 where
  pub first : List ℕ
  pub others : List (List ℕ)
  pub are : pieces ≡ first ∷ others
  pub parted : IsPartedBehind [] text first others
