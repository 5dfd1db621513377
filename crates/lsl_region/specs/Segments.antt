-- A script runs from one tick to the next, or to its handler's end: the result of the handler's text from its start,
-- for one tick more. While it asks, the host answers.
use Rattle.std.specs.Prelude.{ℕ, ◌+◌, Bool, false, not, Option, Some, None, slice_get}
use Rattle.std.proofs.Common.{zero, suc}
use Rattle.lsl_running.specs.Results.{Whole, Ends, Asks, Cut, Fails, Lost}
use Rattle.lsl_post.specs.Told.{Told, as_value, next_to, quiet, until}
use Rattle.lsl_script.specs.Rules.{Rules}
use Rattle.lsl_script.specs.Scripts.{Flight, Doing, Resting, Flying, Stopped, is_ready}
use Rattle.lsl_script.specs.Handlers.{ended, failed, given, take_next, ticked, whole_of_flight, with_flight}
use Rattle.lsl_region.specs.Answers.{answer}
use Rattle.lsl_region.specs.Worlds.{Member, World, at_member}

abbrev pub whole_in_flight : Rules → Option Member → Flight → Whole
whole_in_flight r None f = Lost
whole_in_flight r (Some m) f = whole_of_flight r m.script f (f.ticks + 1) f.answers

-- the effect of a handler's result on the world; it continues as given after an answer
abbrev pub came : Rules → (Flight → World → Told World) → ℕ → Flight → World → Whole → Told World
came r on place f w (Asks id args) = next_to (answer r place id args w) (λ x. on (given x.1 f) x.0)
came r on place f w (Cut calls) = at_member place (λ m. quiet (with_flight (ticked f) m.script)) w
came r on place f w (Ends outcome kept) = at_member place (λ m. ended r (place + 1) m.script kept outcome) w
came r on place f w (Fails fault) = at_member place (λ m. failed r (place + 1) m.script fault) w
came r on place f w Lost = quiet w

-- the handler makes at most this many calls
unfoldable pub asked : Rules → ℕ → ℕ → Flight → World → Told World
asked r zero place f w = quiet w
asked r (suc most) place f w =
    came r (asked r most place) place f w (whole_in_flight r (slice_get w.members place) f)

abbrev pub flown : Rules → ℕ → World → ℕ → Doing → Told World
flown r place w code Resting = quiet w
flown r place w code (Flying f) = asked r (r.most code + 1) place f w
flown r place w code (Stopped fault) = quiet w

abbrev pub flown_in : Rules → ℕ → World → Option Member → Told World
flown_in r place w None = quiet w
flown_in r place w (Some m) = flown r place w m.script.code m.script.doing

-- the script at this place takes its next event, unless a handler is in flight
abbrev pub taken : ℕ → World → Told World
taken place w = at_member place (λ m. take_next (place + 1) m.script m.script.doing) w

-- and passes one tick
abbrev pub segment : Rules → ℕ → World → Told World
segment r place w = next_to (taken place w) (λ v. flown_in r place v (slice_get v.members place))

abbrev pub is_ready_in : World → Option Member → Bool
is_ready_in w None = false
is_ready_in w (Some m) = is_ready w.clock m.script

abbrev pub is_ready_at : World → ℕ → Bool
is_ready_at w place = is_ready_in w (slice_get w.members place)

-- segments while the script is ready, at most `most`, and how many they were
abbrev pub turn : Rules → ℕ → ℕ → World → Told (World × ℕ)
turn r most place w =
    until (λ x. not (is_ready_at x.0 place)) (λ x. as_value (λ v. (v, x.1 + 1)) (segment r place x.0)) most (w, 0)
