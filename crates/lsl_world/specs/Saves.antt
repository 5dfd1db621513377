-- What is counted along steps: the segments since gaps were set, and the saves.
use Rattle.std.specs.Prelude.{ℕ, ◌-◌, Bool, false, ◌==◌, min, List, [], ◌∷◌, length}
use Rattle.lsl_ports.specs.Trips.{Trip}
use Rattle.lsl_post.specs.Told.{Told, as_value, each, until}
use Rattle.lsl_script.specs.Rules.{Rules}
use Rattle.lsl_region.specs.PausedTurns.{counted_turn}
use Rattle.lsl_region.specs.Pausing.{Tally, with_gaps}
use Rattle.lsl_region.specs.Worlds.{World}
use Rattle.lsl_lines.specs.declared.file.Step.{Step}
use Rattle.lsl_lines.specs.declared.file.Step.TheVariants.{Go, Run, Pause}
use Rattle.lsl_world.specs.Steps.{most_in_turn, turn_in}
use Rattle.lsl_world.specs.Travels.{go_on, left}

-- a turn within a round, and what is counted then
abbrev pub counted_turn_in : Rules → ℕ → (World × ℕ) × Tally → Told ((World × ℕ) × Tally)
counted_turn_in r place x =
    as_value (λ y. (y, counted_turn r (min most_in_turn x.0.1) place x.0.0 x.1)) (turn_in r place x.0)

abbrev pub counted_round : Rules → (World × ℕ) × Tally → Told ((World × ℕ) × Tally)
counted_round r x = each (counted_turn_in r) (length x.0.0.members) 0 x

-- and whether no script ran
abbrev pub counted_round_or_last : Rules → (World × (ℕ × Bool)) × Tally → Told ((World × (ℕ × Bool)) × Tally)
counted_round_or_last r x =
    as_value (λ y. ((y.0.0, (y.0.1, y.0.1 == x.0.1.0)), y.1)) (counted_round r ((x.0.0, x.0.1.0), x.1))

-- rounds, as they are in a `run` step, and what is counted then
abbrev pub counted_rounds : Rules → ℕ → World → Tally → Tally
counted_rounds r most w t =
    (until (λ x. x.0.1.1) (counted_round_or_last r) most ((w, (most, false)), t)).value.1

-- a step sets gaps, or its turns are counted
abbrev pub counted_step : Rules → Step → World → Tally → Tally
counted_step r (Go script most) w t = counted_turn r most (script - 1) w t
counted_step r (Run most) w t = counted_rounds r most w t
counted_step r (Pause gaps) w t = with_gaps gaps t
counted_step r step w t = t

-- all steps by their trips, in order
unfoldable pub counted_steps : Rules → List Step → List Trip → World → Tally → Tally
counted_steps r [] trips w t = t
counted_steps r (step ∷ steps) trips w t =
    counted_steps r steps (left step w trips) (go_on r step trips w).value (counted_step r step w t)
