-- Positions in a world file: after the first segments of a step. Steps are counted from 1.
use Rattle.std.specs.Prelude.{◌≡◌, ℕ, zero, suc, ◌-◌, ◌<◌, ◌≤◌, min, List, [], ◌∷◌, ◌++◌, Option, Some, None, length, take}
use Rattle.lsl_lines.specs.declared.file.Step.{Step}
use Rattle.lsl_lines.specs.declared.file.Step.TheVariants.{Clock, Say, Touch, Changed, Rez, Go, Run, Pause, Cross}
use Rattle.lsl_lines.specs.declared.file.WorldFile.{WorldFile}
use Rattle.lsl_top.specs.declared.positions.Position.{Position}

-- a step with at most this many segments; one that has no segments is whole
abbrev pub shortened : ℕ → Step → Step
shortened most (Run count) = Run (min count most)
shortened most (Go script count) = Go script (min count most)
shortened most (Clock time) = Clock time
shortened most (Say channel name key text) = Say channel name key text
shortened most (Touch object link key name) = Touch object link key name
shortened most (Changed object flags) = Changed object flags
shortened most (Rez object n) = Rez object n
shortened most (Pause gaps) = Pause gaps
shortened most (Cross object region) = Cross object region

-- the part of a step up to this segment: before the first one it isn't begun
abbrev pub part_of : ℕ → Step → List Step
part_of zero step = []
part_of (suc n) step = shortened (suc n) step ∷ []

-- the first `whole` steps, and of the next one the part up to this segment
abbrev pub steps_to : (whole segment : ℕ) → List Step → List Step
steps_to whole segment [] = []
steps_to zero segment (step ∷ steps) = part_of segment step
steps_to (suc whole) segment (step ∷ steps) = step ∷ steps_to whole segment steps

-- up to a position, or to the end
abbrev pub steps_until : Option Position → List Step → List Step
steps_until None steps = steps
steps_until (Some at) steps = steps_to (at.step - 1) at.segment steps

-- the file that ends there
abbrev pub file_until : Option Position → WorldFile → WorldFile
file_until at file = record {
  objects = file.objects;
  files = file.files;
  cards = file.cards;
  notes = file.notes;
  steps = steps_until at file.steps;
}

-- Steps up to a position are the whole steps before it and a part of its step; at the start of a step, the whole steps
-- before it; and after the last step, all.
pub record ArePartsOf (at : Position) (steps : List Step) : Type 0 where
  pub within : (before after : List Step) (step : Step) → steps ≡ before ++ step ∷ after → at.step ≡ suc (length before)
      → steps_until (Some at) steps ≡ before ++ part_of at.segment step
  pub beginning : 0 < at.step → at.segment ≡ 0 → steps_until (Some at) steps ≡ take (at.step - 1) steps
  pub beyond : length steps < at.step → steps_until (Some at) steps ≡ steps

-- A step is done at a segment from its last one on. A step without segments is done from the first one on.
pub record AreDone (segment : ℕ) : Type 0 where
  pub run : (count : ℕ) → count ≤ segment → part_of segment (Run count) ≡ Run count ∷ []
  pub go : (script count : ℕ) → count ≤ segment → part_of segment (Go script count) ≡ Go script count ∷ []

abbrev pub PositionsAreOfTheFile : Type 0
PositionsAreOfTheFile =
    ((at : Position) (steps : List Step) → ArePartsOf at steps)
    × ((segment : ℕ) → 0 < segment → AreDone segment)
