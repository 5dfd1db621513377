-- Which segments are pausing, and what is counted: all segments since the gaps were last set are numbered from 1.
use Rattle.std.specs.Prelude.{◌≡◌, ℕ, ◌+◌, ◌%◌, ◌<◌, Bool, cond, List, [], ◌∷◌, All, length, get_or, map, min, nat_eq, sum}
use Rattle.std.specs.List.{list_any, range_with_len}

-- the gap at a place, the gaps being repeated
abbrev pub gap_at : List ℕ → ℕ → ℕ
gap_at gaps place = get_or gaps (place % length gaps) 0

-- the sum of the first `count` gaps
unfoldable pub sum_of_gaps : List ℕ → ℕ → ℕ
sum_of_gaps gaps count = sum (map (gap_at gaps) (range_with_len 0 count))

-- a segment is pausing where its number is a sum of the first gaps. Each gap is at least 1, so that as many of them as
-- the number are enough
unfoldable pub is_pausing : List ℕ → ℕ → Bool
is_pausing gaps number = list_any (λ count. nat_eq number (sum_of_gaps gaps count)) (range_with_len 1 number)

-- the gaps, how many segments were passed since they were set, and how many saves there were in all
pub record Tally : Type 0 where
  pub gaps : List ℕ
  pub passed : ℕ
  pub saves : ℕ

-- without gaps, and nothing was saved
abbrev pub no_tally : Tally
no_tally = record { gaps = []; passed = 0; saves = 0 }

-- other gaps, and segments are numbered anew
abbrev pub with_gaps : List ℕ → Tally → Tally
with_gaps gaps t = record { gaps = gaps; passed = 0; saves = t.saves }

-- one segment more, and one save more where there was one
abbrev pub with_segment : Tally → Tally
with_segment t = record t { passed = t.passed + 1 }

abbrev pub with_save : Bool → Tally → Tally
with_save saved t = record t { saves = t.saves + cond saved 1 0 }

-- how it is kept: the gaps, the place of the next one, the segments since the last one, and the saves
pub record Cursor : Type 0 where
  pub gaps : List ℕ
  pub next : ℕ
  pub count : ℕ
  pub saves : ℕ

-- the next gap is there, and fewer segments were passed since the last one; both are 0 without gaps
abbrev pub IsWithin : List ℕ → ℕ → ℕ → Type 0
IsWithin [] next count = (next ≡ 0) × (count ≡ 0)
IsWithin (gap ∷ gaps) next count = (next < length (gap ∷ gaps)) × (count < get_or (gap ∷ gaps) next 0)

-- each gap is at least 1
abbrev pub AreGaps : List ℕ → Type 0
AreGaps gaps = All (λ gap. 0 < gap) gaps

pub record IsCursor (c : Cursor) : Type 0 where
  pub some : AreGaps c.gaps
  pub within : IsWithin c.gaps c.next c.count

-- this many gaps, repeated, were passed, and the segments since the last one. Without gaps this says nothing
abbrev pub HasPassed : List ℕ → ℕ → ℕ → ℕ → Type 0
HasPassed [] next count number = Unit {0}
HasPassed (gap ∷ gaps) next count number =
    (whole : ℕ) × (next ≡ whole % length (gap ∷ gaps)) × (number ≡ sum_of_gaps (gap ∷ gaps) whole + count)

-- the saves saturate here
abbrev pub most_saves : ℕ
most_saves = 18446744073709551615

-- the cursor keeps this count
pub record Counts (c : Cursor) (t : Tally) : Type 0 where
  pub gaps : c.gaps ≡ t.gaps
  pub passed : HasPassed c.gaps c.next c.count t.passed
  pub saves : c.saves ≡ min t.saves most_saves
