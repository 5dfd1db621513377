-- The steps of a made world.
use Rattle.std.specs.Prelude.{ℕ, ◌+◌, ◌*◌, ◌/◌, ◌%◌, ◌==◌, if◌then◌else◌, List, [], ◌∷◌, map}
use Rattle.std.specs.List.{range_with_len, slice_index_or}
use Rattle.lsl_made.specs.Numbers.{drawn_at}
use Rattle.lsl_made.specs.declared.step.Region.{Region}
use Rattle.lsl_made.specs.declared.step.Region.TheVariants.{A, B}
use Rattle.lsl_made.specs.declared.step.Step.{Step}
use Rattle.lsl_made.specs.declared.step.Step.TheVariants.{Touch, Clock, Go, Run, Cross, Pause, Say}

-- an object is sent to B at even places, and to A at odd ones
abbrev pub region_of : ℕ → Region
region_of place = if place % 2 == 0 then B else A

-- the eight rows of steps: what each is at a place, by what is drawn
abbrev pub rows : ℕ → ℕ → List Step
rows place drawn =
    let object = drawn % 8 + 1 in
    Touch object
    ∷ Clock (500 * place)
    ∷ Go object (drawn / 64 % 40)
    ∷ Run 200
    ∷ Cross object (region_of place)
    ∷ Pause (drawn / 64 % 5)
    ∷ Say drawn
    ∷ Go object 3
    ∷ []

-- the step at a place, by what is drawn: that of row `drawn / 8 % 8`
unfoldable pub step_of : ℕ → ℕ → Step
step_of place drawn = slice_index_or (rows place drawn) (drawn / 8 % 8) (Run 200)

-- the steps of a number, from place 1 on
abbrev pub step_at : ℕ → ℕ → Step
step_at number place = step_of place (drawn_at number place)

unfoldable pub first_steps : ℕ → ℕ → List Step
first_steps number count = map (step_at number) (range_with_len 1 count)

unfoldable pub steps_of : ℕ → List Step
steps_of number = first_steps number 4000
