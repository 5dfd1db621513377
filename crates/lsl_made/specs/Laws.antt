-- What holds of the steps of every generated world, in the language's terms.
use Rattle.std.specs.Prelude.{◌≡◌, ℕ, ◌≤◌, ◌<◌, List, length, Option, Some, None, All, AllPairs}
use Rattle.lsl_made.specs.declared.step.Step.{Step}
use Rattle.lsl_made.specs.declared.step.Step.TheVariants.{Touch, Clock, Go, Run, Cross, Pause, Say}

-- the number of an object, and of its script
abbrev pub IsObject : ℕ → Type 0
IsObject n = (1 ≤ n) × (n ≤ 8)

-- numbers of objects and scripts are those of the world, and readings, ticks, gaps and what is said are within a world
-- file's ranges
abbrev pub IsInRange : Step → Type 0
IsInRange (Touch object) = IsObject object
IsInRange (Clock reading) = reading ≤ 2000000
IsInRange (Go script ticks) = IsObject script × (ticks < 40)
IsInRange (Run ticks) = ticks ≡ 200
IsInRange (Cross object region) = IsObject object
IsInRange (Pause gap) = gap < 5
IsInRange (Say said) = said < 32768

-- what the clock is set to, in a step that sets it
abbrev pub reading_of : Step → Option ℕ
reading_of (Clock reading) = Some reading
reading_of _ = None

-- where both steps set the clock, the first doesn't set it beyond the second
abbrev pub IsNoLater : Step → Step → Type 0
IsNoLater first second = (m n : ℕ) → reading_of first ≡ Some m → reading_of second ≡ Some n → m ≤ n

-- 4,000 steps, each in range, and no step sets the clock beyond a later one
pub record IsRun (steps : List Step) : Type 0 where
  pub count : length steps ≡ 4000
  pub ranges : All IsInRange steps
  pub clocks : AllPairs IsNoLater steps
