-- The result of a handler that a unit's code runs from its start, and the calls of a machine that is cut, each with its
-- line.
use Rattle.std.specs.Prelude.{ℕ, ◌-◌, List, [], ◌∷◌, Option, Some, None, cond, map, get_or, slice_get, option_map}
use Rattle.lsl_value.specs.declared.tagged.Value.{Value}
use Rattle.lsl_running.specs.declared.ends.Fault.TheVariants.{StackHeap}
use Rattle.lsl_running.specs.declared.host.Reply.{Reply}
use Rattle.lsl_running.specs.declared.kept.Kept.{Kept}
use Rattle.lsl_running.specs.Charging.{script_charge, used, is_within}
use Rattle.lsl_running.specs.Results as whole
use Rattle.lsl_running.specs.Results.{ActiveCall, Whole}
use Rattle.lsl_code.specs.declared.instructions.Instr.{Instr}
use Rattle.lsl_code.specs.declared.instructions.Instr.TheVariants.{Tick, Call}
use Rattle.lsl_code.specs.Acts.{first_slots}
use Rattle.lsl_code.specs.Bodies.{Body, instruction_at}
use Rattle.lsl_code.specs.Machine.{MachineCall, Machine, End, Ended, Faulted, Lost, put}
use Rattle.lsl_code.specs.Runs.{Halt, Over, AskAt, CutAt, run}

-- the instruction with its line in place of its point
abbrev pub with_line : List ℕ → Instr → Instr
with_line lines (Tick point) = Tick (get_or lines point 0)
with_line lines (Call f point) = Call f (get_or lines point 0)
with_line lines i = i

abbrev pub lines_in : Option Body → List ℕ
lines_in None = []
lines_in (Some body) = body.lines

-- the instruction at this place of this function, with its line in place of its point
abbrev pub seen : List Body → ℕ → ℕ → Option Instr
seen bodies f place = option_map (with_line (lines_in (slice_get bodies f))) (instruction_at bodies f place)

abbrev pub line_in : Option Instr → ℕ
line_in (Some (Tick line)) = line
line_in (Some (Call f line)) = line
line_in _ = 0

-- the line of the text for a call
abbrev pub line_at : List Body → ℕ → ℕ → ℕ
line_at bodies f place = line_in (seen bodies f place)

abbrev pub active_at : List Body → ℕ → MachineCall → ActiveCall
active_at bodies place c = record { function = c.function; slots = c.slots; line = line_at bodies c.function place }

-- a call that waits is after the call that it made
abbrev pub waiting_call : List Body → MachineCall → ActiveCall
waiting_call bodies c = active_at bodies (c.place - 1) c

-- the active calls of a machine at a tick
abbrev pub active_calls : List Body → List MachineCall → List ActiveCall
active_calls bodies [] = []
active_calls bodies (c ∷ outer) = active_at bodies c.place c ∷ map (waiting_call bodies) outer

abbrev pub told_end : End → Whole
told_end (Ended way kept) = whole.Ends way kept
told_end (Faulted fault) = whole.Fails fault
told_end Lost = whole.Lost

-- a halt without the machine, except its active calls if it is cut
abbrev pub told : List Body → Halt → Whole
told bodies (Over e) = told_end e
told bodies (AskAt id args m t) = whole.Asks id args
told bodies (CutAt m) = whole.Cut (active_calls bodies m.calls)

-- the machine before the first tick of a handler
abbrev pub begun : ℕ → Kept → List Value → List Reply → Machine
begun f kept slots answers = put kept answers f 0 slots [] []

-- its slots are charged before its first tick
abbrev pub started_with : List Body → ℕ → Kept → List Value → ℕ → List Reply → Halt
started_with bodies f kept slots ticks answers =
    cond (is_within kept (used script_charge slots kept)) (run bodies ticks (begun f kept slots answers))
    (Over (Faulted StackHeap))

abbrev pub started : Option Body → List Body → ℕ → Kept → List Value → ℕ → List Reply → Halt
started None bodies f kept args ticks answers = Over Lost
started (Some body) bodies f kept args ticks answers =
    started_with bodies f kept (first_slots body args) ticks answers

-- the run of a routine from its start: its arguments from first to last, a number of ticks, these answers
abbrev pub run_of : List Body → ℕ → Kept → List Value → ℕ → List Reply → Halt
run_of bodies f kept args ticks answers = started (slice_get bodies f) bodies f kept args ticks answers

-- its result
abbrev pub whole_of_bodies : List Body → ℕ → Kept → List Value → ℕ → List Reply → Whole
whole_of_bodies bodies f kept args ticks answers = told bodies (run_of bodies f kept args ticks answers)
