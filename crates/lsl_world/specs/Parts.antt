-- Steps that are done in parts: a part reports the first entries of a step, and the step that is left reports the
-- others.
use Rattle.std.specs.Prelude.{◌≡◌, ℕ, ◌<◌, List, [], ◌++◌, Option, Some, None, Result, Ok, Err, MatchResult}
use Rattle.lsl_code.specs.declared.woven_units.Woven.{Woven as Code}
use Rattle.lsl_ports.specs.Trips.{Trip}
use Rattle.lsl_post.specs.declared.entries.Entry.{Entry}
use Rattle.lsl_post.specs.Journal.{Part}
use Rattle.lsl_post.specs.Told.{Told, lead}
use Rattle.lsl_script.specs.Rules.{Rules}
use Rattle.lsl_region.specs.Worlds.{World}
use Rattle.lsl_lines.specs.declared.file.Step.{Step}
use Rattle.lsl_lines.specs.declared.file.Step.TheVariants.{Go, Run}
use Rattle.lsl_world.specs.Lossy.{Gone, IsFairFrom, Stage, goes}
use Rattle.lsl_world.specs.Stages.{DoesAt}
use Rattle.lsl_world.specs.Steps.{next}

-- what is left of a step: the same, with fewer segments
abbrev pub IsRestOf : Step → Step → Type 0
IsRestOf (Go script most) (Go other left) = (other ≡ script) × (left < most)
IsRestOf (Run most) (Run left) = left < most
IsRestOf step rest = ⊥

-- how many segments a step has at most, and what is left of one
abbrev pub segments_in : Step → ℕ
segments_in (Go script most) = most
segments_in (Run most) = most
segments_in step = 0

-- these entries were reported first, and from a world that is there now what is left reports the others
pub record Leaves (IsNow : World → Type 0) (old new : List Entry) (left : World → Told World) (total : Told World)
    : Type 0 where
  pub world : World
  pub now : IsNow world
  pub told : List Entry
  pub added : new ≡ old ++ told
  pub whole : total ≡ lead told (left world)

-- all entries were reported, or the first ones, and this step is left
abbrev pub TellsFirst : Rules → (World → Type 0) → Option Step → (old new : List Entry) → Told World → Type 0
TellsFirst r IsNow None old new total = IsNow total.value × (new ≡ old ++ total.entries)
TellsFirst r IsNow (Some rest) old new total = Leaves IsNow old new (next r rest) total

-- a part was done, or memory ran out after the first entries
abbrev pub TellsPart : {E : Type 0} → Result (Option Step) E → Rules → (World → Type 0) → (old new : List Entry)
    → Told World → Type 0
TellsPart result r IsNow old new total =
    MatchResult result (λ rest. TellsFirst r IsNow rest old new total) (λ _. Part old new total.entries)

-- entries, and then the result of a step
abbrev pub led : List Entry → Gone → Gone
led entries gone = record gone { told = lead entries gone.told }

-- The same for a step at a stage. No trip was made, and what came back was fair stays so.
pub record LeavesAt (codes : List Code) (r : Rules) (regions : List (List ℕ)) (IsNow : Stage → Type 0)
    (step rest : Step) (stage : Stage) (trips : List Trip) (old new : List Entry) : Type 0 where
  pub there : Stage
  pub now : IsNow there
  pub told : List Entry
  pub added : new ≡ old ++ told
  pub whole : (others : List Trip)
      → goes codes r regions step stage others ≡ led told (goes codes r regions rest there others)
  pub none : trips ≡ []
  pub fair : (others : List Trip) → IsFairFrom stage others → IsFairFrom there others

-- the result of a part of a step: all of it was done, or a step is left; or memory ran out
abbrev pub DoesPartAt : {E : Type 0} → List Code → Rules → List (List ℕ) → (Stage → Type 0) → Step → Stage → List Trip
    → (old new : List Entry) → Result (Option Step) E → Type 0
DoesPartAt {E = E} codes r regions IsNow step stage trips old new (Ok None) =
    DoesAt {T = Unit {0}} {E = E} codes r regions IsNow step stage trips old new (Ok tt)
DoesPartAt codes r regions IsNow step stage trips old new (Ok (Some rest)) =
    LeavesAt codes r regions IsNow step rest stage trips old new
DoesPartAt {E = E} codes r regions IsNow step stage trips old new (Err e) =
    DoesAt {T = Unit {0}} {E = E} codes r regions IsNow step stage trips old new (Err e)
