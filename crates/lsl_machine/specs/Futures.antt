-- What results from a machine, for further ticks and answers; and the effect of a run up to a halt on that.
use Rattle.std.specs.Prelude.{◌≡◌, ◌≢◌, ℕ, ◌+◌, true, cond, List, [], ◌∷◌}
use Rattle.lsl_value.specs.declared.names.BuiltinId.{BuiltinId}
use Rattle.lsl_table.specs.Calls.{row_of}
use Rattle.lsl_running.specs.declared.ends.Fault.TheVariants.{StackHeap}
use Rattle.lsl_running.specs.declared.host.Reply.{Reply}
use Rattle.lsl_running.specs.Calling.{call_form, is_answered_by}
use Rattle.lsl_running.specs.Results as whole
use Rattle.lsl_running.specs.Results.{Whole}
use Rattle.lsl_code.specs.Bodies.{Body}
use Rattle.lsl_code.specs.Effects.{is_asked}
use Rattle.lsl_code.specs.Kinds.{kinds_of}
use Rattle.lsl_code.specs.Laws.{with_answers}
use Rattle.lsl_code.specs.Machine.{Machine, Ended, Faulted, Lost, Next, On, Pauses, Halts}
use Rattle.lsl_code.specs.Runs as runs
use Rattle.lsl_code.specs.Runs.{Over, CutAt, run}
use Rattle.lsl_code.specs.Wholes.{told, active_calls}
use Rattle.lsl_machine.specs.declared.standing.Standing.{Standing}
use Rattle.lsl_machine.specs.declared.standing.Standing.TheVariants as standing
use Rattle.lsl_machine.specs.declared.standing.Halt.{Halt}
use Rattle.lsl_machine.specs.declared.standing.Halt.TheVariants as halt
use Rattle.lsl_machine.specs.State.{State, replied_to}

-- continues from what an answer leads to
abbrev pub run_on : List Body → ℕ → Next → runs.Halt
run_on bodies t (On m) = run bodies t m
run_on bodies t (Pauses x) = Over Lost
run_on bodies t (Halts e) = Over e

-- continues with answers to the pending call
abbrev pub answered_with : List Body → BuiltinId → Machine → ℕ → List Reply → runs.Halt
answered_with bodies id m t [] = Over Lost
answered_with bodies id m t (r ∷ more) =
    cond (is_answered_by id r) (run_on bodies t (replied_to r m.kept more m.calls)) (Over Lost)

abbrev pub halt_from : Standing → List Body → Machine → ℕ → List Reply → runs.Halt
halt_from standing.Ready bodies m t answers = run bodies t (with_answers answers m)
halt_from standing.AtTick bodies m t answers = run bodies t (with_answers answers m)
halt_from standing.Full bodies m t answers = Over (Faulted StackHeap)
halt_from (standing.Asking id) bodies m t answers = answered_with bodies id m t answers
halt_from (standing.Ended way) bodies m t answers = Over Lost
halt_from standing.Lost bodies m t answers = Over Lost

-- the result of a machine for this many ticks and these answers
abbrev pub whole_from : List Body → State → ℕ → List Reply → Whole
whole_from bodies s t answers = told bodies (halt_from s.standing bodies s.machine t answers)

-- how many ticks a run passes
abbrev pub ticks_passed : Standing → ℕ
ticks_passed standing.AtTick = 1
ticks_passed s = 0

-- the result of a machine after this halt
abbrev pub whole_behind : List Body → Halt → State → ℕ → List Reply → Whole
whole_behind bodies (halt.Asks call) s t [] = whole.Asks call.id call.args
whole_behind bodies (halt.Asks call) s t (r ∷ more) = whole_from bodies s t (r ∷ more)
whole_behind bodies halt.AtTick s t answers = whole_from bodies s t answers
whole_behind bodies (halt.Ended way) s t answers = whole.Ends way s.machine.kept
whole_behind bodies (halt.Faulted fault) s t answers = whole.Fails fault
whole_behind bodies halt.NoMemory s t answers = whole.Lost

-- unless memory runs out, the result of the machine after the halt is what it was before
abbrev pub GoesOn : List Body → State → Halt → State → Type 0
GoesOn bodies old h new =
    h ≢ halt.NoMemory → (t : ℕ) (answers : List Reply)
    → whole_from bodies old (ticks_passed old.standing + t) answers ≡ whole_behind bodies h new t answers

-- the same for the run itself: how it halts
abbrev pub HaltsBehind : List Body → Halt → State → ℕ → List Reply → runs.Halt → Type 0
HaltsBehind bodies (halt.Asks call) s t [] h = told bodies h ≡ whole.Asks call.id call.args
HaltsBehind bodies (halt.Asks call) s t (r ∷ more) h = h ≡ halt_from s.standing bodies s.machine t (r ∷ more)
HaltsBehind bodies halt.AtTick s t answers h = h ≡ halt_from s.standing bodies s.machine t answers
HaltsBehind bodies (halt.Ended way) s t answers h = h ≡ Over (Ended way s.machine.kept)
HaltsBehind bodies (halt.Faulted fault) s t answers h = h ≡ Over (Faulted fault)
HaltsBehind bodies halt.NoMemory s t answers h = Unit {0}

abbrev pub RunsOn : List Body → State → Halt → State → Type 0
RunsOn bodies old h new =
    (t : ℕ) (answers : List Reply)
    → HaltsBehind bodies h new t answers
    (halt_from old.standing bodies old.machine (ticks_passed old.standing + t) answers)

-- with no tick more the run is cut there
abbrev pub StandsCut : List Body → State → Type 0
StandsCut bodies s = halt_from s.standing bodies s.machine 0 [] ≡ CutAt s.machine

-- with no tick more nothing more results
abbrev pub IsCut : List Body → State → Type 0
IsCut bodies s = whole_from bodies s 0 [] ≡ whole.Cut (active_calls bodies s.machine.calls)

-- the pending call is one that the host answers, with arguments of its kinds
abbrev pub IsAsked : Halt → Type 0
IsAsked (halt.Asks call) = (is_asked (call_form call.id) ≡ true) × (kinds_of call.args ≡ (row_of call.id).params)
IsAsked h = Unit {0}
