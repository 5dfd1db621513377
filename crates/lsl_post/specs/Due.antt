-- When scripts are due: due times, each with its script.
use Rattle.std.specs.Prelude.{◌≡◌, ℕ, ◌≢◌, ◌↔◌, Bool, nat_le, List, map, filter, Option, Some, Contains, IsSorted, IsPermutation}
use Rattle.std.specs.declared.cmp.Ordering.{Ordering}
use Rattle.std.specs.Ordering.{nat_cmp, ordering_then}
use Rattle.std.specs.List.Sorted.{IsStrictlySortedBy}

-- entries are ordered by their times, and those of one time by their scripts
abbrev pub entry_cmp : ℕ × ℕ → ℕ × ℕ → Ordering
entry_cmp a b = ordering_then (nat_cmp a.0 b.0) (nat_cmp a.1 b.1)

-- in rising order, each script at most once
pub record IsIndex (entries : List (ℕ × ℕ)) : Type 0 where
  pub rising : IsStrictlySortedBy entry_cmp entries
  pub once : (script a b : ℕ) → Contains entries (a, script) → Contains entries (b, script) → a ≡ b

-- the script's entry is this one, or none; those of others stay
pub record Puts (script : ℕ) (due : Option ℕ) (old new : List (ℕ × ℕ)) : Type 0 where
  pub own : (at : ℕ) → Contains new (at, script) ↔ (due ≡ Some at)
  pub others : (at other : ℕ) → other ≢ script → Contains new (at, other) ↔ Contains old (at, other)

abbrev pub is_due : ℕ → ℕ × ℕ → Bool
is_due clock entry = nat_le entry.0 clock

-- the scripts that are due by this reading of the clock, in the order of their times
abbrev pub scripts_due : ℕ → List (ℕ × ℕ) → List ℕ
scripts_due clock entries = map (λ entry. entry.1) (filter (is_due clock) entries)

-- the same in rising order
pub record IsRipe (clock : ℕ) (entries : List (ℕ × ℕ)) (scripts : List ℕ) : Type 0 where
  pub rising : IsSorted nat_cmp scripts
  pub exact : IsPermutation (scripts_due clock entries) scripts
