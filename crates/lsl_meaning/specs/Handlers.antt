-- The result of a handler: it is evaluated whole, from its start.
use Rattle.std.specs.Prelude.{ℕ, zero, suc, List, [], slice_get, Option, Some, None}
use Rattle.lsl_value.specs.declared.tagged.Value.{Value}
use Rattle.lsl_tree.specs.Program.{Routine, Program}
use Rattle.lsl_tree.specs.Signatures.{routines_of}
use Rattle.lsl_running.specs.declared.ends.Outcome.TheVariants as outcome
use Rattle.lsl_running.specs.declared.host.Reply.{Reply}
use Rattle.lsl_running.specs.declared.kept.Kept.{Kept}
use Rattle.lsl_running.specs.Charging.{script_charge}
use Rattle.lsl_running.specs.Results.{Whole, Ends, Cut, Lost}
use Rattle.lsl_meaning.specs.State.{Site, Evaluation, Gives, Stops}
use Rattle.lsl_meaning.specs.Calls.{Lower, first_slots, run_routine}
use Rattle.lsl_meaning.specs.Statements.{execute}

-- what a statement does after a tick, if at most n ticks pass
abbrev pub level : List Routine → ℕ → Lower
level routines zero = λ a from site s. Stops (Cut [])
level routines (suc n) = execute routines (level routines n)

abbrev pub ended : Evaluation (Option Value) → Whole
ended (Gives result s) = Ends outcome.Return s.kept
ended (Stops whole) = whole

-- no other call is active and nothing waits
abbrev pub outermost : ℕ → Site
outermost number = record { held = script_charge; function = number; callers = [] }

abbrev pub whole_of : List Routine → Option Routine → ℕ → Kept → List Value → ℕ → List Reply → Whole
whole_of routines None number kept arguments ticks answers = Lost
whole_of routines (Some r) number kept arguments ticks answers =
    ended (run_routine (level routines ticks) r (outermost number)
    (record { kept = kept; slots = first_slots r arguments; ticks = ticks; answers = answers }))

-- the routine of this number, for arguments from the first to the last, a number of ticks and a list of answers
abbrev pub whole : Program → ℕ → Kept → List Value → ℕ → List Reply → Whole
whole p number kept arguments ticks answers =
    whole_of (routines_of p) (slice_get (routines_of p) number) number kept arguments ticks answers
