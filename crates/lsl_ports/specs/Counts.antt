-- Counts of faults. A count never falls, and saturates at its type's maximum.
use Rattle.std.specs.Prelude.{ℕ, ◌+◌, ◌<◌, ◌≤◌, min, List}

-- the count after one more fault or call
abbrev pub raised : ℕ → ℕ
raised count = min (count + 1) 18446744073709551615

-- the count rose; a saturated count counts as having risen
abbrev pub Rose : ℕ → ℕ → Type 0
Rose old new = old < 18446744073709551615 → old < new

-- of the counts by name none fell
abbrev pub NoneFell : (List ℕ → ℕ) → (List ℕ → ℕ) → Type 0
NoneFell old new = (name : List ℕ) → old name ≤ new name
