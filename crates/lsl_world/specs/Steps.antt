-- What the steps of a world file do: a case for each.
use Rattle.std.specs.Prelude.{ℕ, ◌-◌, Bool, false, ◌==◌, min, List, length}
use Rattle.lsl_lines.specs.declared.file.Step.{Step}
use Rattle.lsl_lines.specs.declared.file.Step.TheVariants.{Clock, Say, Touch, Changed, Rez, Go, Run, Pause, Cross}
use Rattle.lsl_post.specs.Told.{Told, as_value, each, each_of, quiet, until}
use Rattle.lsl_script.specs.Rules.{Rules}
use Rattle.lsl_region.specs.Arrivals.{changed_event, post_object, read_clock, rez_event, say, touch}
use Rattle.lsl_region.specs.Journeys.{cross}
use Rattle.lsl_region.specs.Segments.{turn}
use Rattle.lsl_region.specs.Worlds.{World}

-- how many segments a turn within a round has at most
abbrev pub most_in_turn : ℕ
most_in_turn = 8

-- the script at this place has a turn, and this many segments are left then
abbrev pub turn_in : Rules → ℕ → World × ℕ → Told (World × ℕ)
turn_in r place x = as_value (λ y. (y.0, x.1 - y.1)) (turn r (min most_in_turn x.1) place x.0)

-- all scripts have a turn each, in order
abbrev pub round : Rules → World × ℕ → Told (World × ℕ)
round r x = each (turn_in r) (length x.0.members) 0 x

-- a round, and whether no script ran in it
abbrev pub round_or_last : Rules → World × (ℕ × Bool) → Told (World × (ℕ × Bool))
round_or_last r x = as_value (λ y. (y.0, (y.1, y.1 == x.1.0))) (round r (x.0, x.1.0))

-- rounds, until one finds no script ready or this many segments have run
abbrev pub rounds : Rules → ℕ → World → Told World
rounds r most w = as_value (λ x. x.0) (until (λ x. x.1.1) (round_or_last r) most (w, (most, false)))

-- objects and scripts are numbered from 1. Pauses leave the world as it is
abbrev pub next : Rules → Step → World → Told World
next r (Clock time) w = read_clock r time w
next r (Say channel name key text) w = say r channel name key text w
next r (Touch object link key name) w = touch r (object - 1) link key name w
next r (Changed object flags) w = post_object r (object - 1) (changed_event flags) w
next r (Rez object n) w = post_object r (object - 1) (rez_event n) w
next r (Go script most) w = as_value (λ x. x.0) (turn r most (script - 1) w)
next r (Run most) w = rounds r most w
next r (Pause gaps) w = quiet w
next r (Cross object region) w = cross r (object - 1) region w

-- all steps, in order
abbrev pub reference : Rules → List Step → World → Told World
reference r steps w = each_of (next r) steps w
