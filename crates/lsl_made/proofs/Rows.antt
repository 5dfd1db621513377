-- The row of a step, and what holds of each row.
use Rattle.std.proofs.Common.{◌≡◌, ℕ, ◌/◌, ◌%◌, ◌<◌, ap, arith}
use Rattle.std.specs.List.{slice_index_or, AllByRecursion}
use Rattle.std.proofs.lemmas.List.Elements.{All-from_recursion}
use Rattle.lsl_made.specs.declared.step.Step.{Step}
use Rattle.lsl_made.specs.declared.step.Step.TheVariants.{Run}
use Rattle.lsl_made.specs.Steps.{rows, step_of}

pub step_of-row : (place drawn row : ℕ) → drawn / 8 % 8 ≡ row
    → step_of place drawn ≡ slice_index_or (rows place drawn) row (Run 200)
unfolding step_of
step_of-row place drawn row e = ap (λ k. slice_index_or (rows place drawn) k (Run 200)) e

-- what holds of each row holds of the step
pub step_of-each : (P : Step → Type 0) (place drawn : ℕ) → AllByRecursion P (rows place drawn)
    → P (step_of place drawn)
unfolding step_of
step_of-each P place drawn each =
    let within : drawn / 8 % 8 < 8 = omega arith in
    All-from_recursion P (rows place drawn) each (drawn / 8 % 8) (Run 200) within
