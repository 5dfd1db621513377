-- The parts of a script between turns: a handler in flight is saved as the frames of the machine that its code
-- reaches from its start.
use Rattle.std.specs.Prelude.{◌≡◌, refl, ℕ, Bool, true, false, List, [], Option, Some, None, slice_get}
use Rattle.lsl_running.specs.declared.kept.Kept.{Kept}
use Rattle.lsl_code.specs.declared.woven_units.Woven.{Woven as Code}
use Rattle.lsl_code.specs.Bodies.{Body}
use Rattle.lsl_code.specs.Frames.{frames_of}
use Rattle.lsl_code.specs.Machine.{Machine, Lost}
use Rattle.lsl_code.specs.Runs.{Halt, Over, AskAt, CutAt}
use Rattle.lsl_code.specs.Wholes.{run_of}
use Rattle.lsl_post.specs.declared.parts.Rest.{Rest}
use Rattle.lsl_post.specs.declared.parts.Rest.TheVariants.{Idle, Saved, Dead}
use Rattle.lsl_post.specs.declared.parts.ScriptParts.{ScriptParts}
use Rattle.lsl_post.specs.declared.timer.Timer.{Timer}
use Rattle.lsl_post.specs.Timing.{Timing, fits_timer}
use Rattle.lsl_script.specs.Codes.{bodies_in, handler_in_unit}
use Rattle.lsl_script.specs.Scripts.{Flight, Doing, Resting, Flying, Stopped, Script}

abbrev pub machine_in : Kept → Halt → Machine
machine_in kept (CutAt m) = m
machine_in kept (AskAt id args m t) = m
machine_in kept (Over e) = record { kept = kept; calls = []; answers = [] }

abbrev pub run_in : List Body → Option ℕ → Flight → Halt
run_in bodies None f = Over Lost
run_in bodies (Some handler) f = run_of bodies handler f.kept f.event.args f.ticks f.answers

abbrev pub machine_at : Option Code → ℕ → Flight → Machine
machine_at unit state f = machine_in f.kept (run_in (bodies_in unit) (handler_in_unit unit state f.event.id) f)

abbrev pub rest_of : List Code → (code state : ℕ) → Doing → Rest
rest_of codes code state Resting = Idle
rest_of codes code state (Flying f) =
    let unit = slice_get codes code in
    Saved f.event (frames_of (bodies_in unit) (machine_at unit state f).calls)
rest_of codes code state (Stopped fault) = Dead fault

-- what a script keeps: in flight, what its machine has
abbrev pub kept_of : List Code → (code state : ℕ) → Kept → Doing → Kept
kept_of codes code state kept Resting = kept
kept_of codes code state kept (Flying f) = (machine_at (slice_get codes code) state f).kept
kept_of codes code state kept (Stopped fault) = kept

abbrev pub timer_with : (period due : ℕ) (fits : Bool) → fits_timer period due ≡ fits → Timer
timer_with period due true fits = record { period = period; due = due; fits = fits }
timer_with period due false fits = record { period = 0; due = 0; fits = refl }

abbrev pub timer_of : Timing → Timer
timer_of t = timer_with t.period t.due (fits_timer t.period t.due) refl

abbrev pub parts_of : List Code → Script → ScriptParts
parts_of codes s = record {
  unit = s.code;
  globals = (kept_of codes s.code s.state s.kept s.doing).globals;
  limit = (kept_of codes s.code s.state s.kept s.doing).limit;
  state = s.state;
  leaving = s.leaving;
  queue = s.mailbox.queue;
  listens = s.mailbox.listens;
  timer = timer_of s.mailbox.timing;
  wake = s.wake;
  rest = rest_of codes s.code s.state s.doing;
}
