-- What holds of every run.
use Rattle.std.specs.Prelude.{◌≡◌, ◌⊎◌, ℕ, false, List, ◌++◌, length}
use Rattle.lsl_code.specs.declared.woven_units.Woven.{Woven as Code}
use Rattle.lsl_lines.specs.declared.file.Step.{Step}
use Rattle.lsl_ports.specs.Trips.{Trip}
use Rattle.lsl_post.specs.Told.{as_value, next_to, until}
use Rattle.lsl_script.specs.Rules.{Rules}
use Rattle.lsl_region.specs.Pausing.{Tally}
use Rattle.lsl_region.specs.Segments.{is_ready_at, turn}
use Rattle.lsl_region.specs.Worlds.{World}
use Rattle.lsl_world.specs.Kept.{kept_steps, regions_of}
use Rattle.lsl_world.specs.Saves.{counted_round_or_last, counted_steps}
use Rattle.lsl_world.specs.Steps.{reference, round_or_last, rounds}
use Rattle.lsl_world.specs.Travels.{images, travel}

-- a run of two lists of steps is the run of the first, and then the run of the second from where that ended
abbrev pub TwoListsAreTwoRuns : Type 0
TwoListsAreTwoRuns =
    (r : Rules) (first second : List Step) (w : World)
    → reference r (first ++ second) w ≡ next_to (reference r first w) (reference r second)

-- a run by trips is the run of the kept steps, as the meaning without trips defines it
abbrev pub TripsKeepSteps : Type 0
TripsKeepSteps =
    (r : Rules) (steps : List Step) (trips : List Trip) (w : World)
    → travel r steps trips w ≡ reference r (kept_steps (regions_of w) steps trips) w

-- as many trips as these steps make
abbrev pub Fits : List Code → Rules → List Step → List Trip → World → Type 0
Fits codes r steps trips w = length trips ≡ length (images codes r steps trips w)

-- a run of two lists of steps is the run of the first by its trips, and then the run of the second by the trips after
-- them
abbrev pub TwoListsAreTwoTravels : Type 0
TwoListsAreTwoTravels =
    (codes : List Code) (r : Rules) (first second : List Step) (before behind : List Trip) (w : World)
    → Fits codes r first before w
    → travel r (first ++ second) (before ++ behind) w
    ≡ next_to (travel r first before w) (λ v. travel r second behind v)

-- where there is one script, rounds of at most n segments are one turn of at most n
abbrev pub OneScriptHasOneTurn : Type 0
OneScriptHasOneTurn =
    (r : Rules) (most : ℕ) (w : World) → length w.members ≡ 1
    → rounds r most w ≡ as_value (λ x. x.0) (turn r most 0 w)

-- how many of its segments are left at the end of a run
abbrev pub left_of_run : Rules → ℕ → World → ℕ
left_of_run r most w = (until (λ x. x.1.1) (round_or_last r) most (w, (most, false))).value.1.0

-- a run ends where no segment is left, or no script is ready
abbrev pub RunsEndWhereNoneIsReady : Type 0
RunsEndWhereNoneIsReady =
    (r : Rules) (most : ℕ) (w : World)
    → (left_of_run r most w ≡ 0) ⊎ ((place : ℕ) → is_ready_at (rounds r most w).value place ≡ false)

-- what is counted in a run of two lists is what is counted in the first, and then in the second from where that ended
abbrev pub TwoListsAreTwoCounts : Type 0
TwoListsAreTwoCounts =
    (codes : List Code) (r : Rules) (first second : List Step) (before behind : List Trip) (w : World) (t : Tally)
    → Fits codes r first before w
    → counted_steps r (first ++ second) (before ++ behind) w t
    ≡ counted_steps r second behind (travel r first before w).value (counted_steps r first before w t)

-- rounds report the same, and lead to the same world, whether they are counted or not
abbrev pub CountingChangesNothing : Type 0
CountingChangesNothing =
    (r : Rules) (most : ℕ) (w : World) (t : Tally)
    → as_value (λ x. x.0.0) (until (λ x. x.0.1.1) (counted_round_or_last r) most ((w, (most, false)), t))
    ≡ rounds r most w
