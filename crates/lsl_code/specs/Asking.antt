-- How many host calls are ahead of the active calls before their next ticks.
use Rattle.std.specs.Prelude.{ℕ, suc, ◌+◌, Bool, true, false, nat_lt, List, [], ◌∷◌, Option, Some, None, drop, slice_get}
use Rattle.lsl_code.specs.declared.instructions.Instr.{Instr}
use Rattle.lsl_code.specs.declared.instructions.Instr.TheVariants.{Jump, JumpIf, JumpIfNot, Tick, TestSave, TestBack}
use Rattle.lsl_code.specs.Bodies.{Body, instruction_at}
use Rattle.lsl_code.specs.Forward.{is_back, is_tick}
use Rattle.lsl_code.specs.Laws.{hosts}
use Rattle.lsl_code.specs.Machine.{MachineCall}

abbrev pub code_of : Option Body → List Instr
code_of None = []
code_of (Some body) = body.code

-- at a jump: backward, all of the code; otherwise what follows it
abbrev pub due_jump : Bool → ℕ → List Instr → ℕ
due_jump true place code = hosts code
due_jump false place code = hosts (drop place code)

-- at a test: none before a tick, otherwise as at a jump if one follows it
abbrev pub due_test : Bool → Bool → ℕ → List Instr → ℕ
due_test true back place code = 0
due_test false back place code = due_jump back place code

-- at an instruction: none at a tick, otherwise the host calls after it in the code, since control goes back only after
-- a tick
abbrev pub due_of : Option Instr → Option Instr → ℕ → List Instr → ℕ
due_of (Some (Tick point)) next place code = 0
due_of (Some (Jump t)) next place code = due_jump (nat_lt t (suc place)) place code
due_of (Some (JumpIf t)) next place code = due_jump (nat_lt t (suc place)) place code
due_of (Some (JumpIfNot t)) next place code = due_jump (nat_lt t (suc place)) place code
due_of (Some (TestSave t)) next place code = due_test (is_tick next) (is_back (place + 1) next) place code
due_of (Some (TestBack t)) next place code = due_test (is_tick next) (is_back (place + 1) next) place code
due_of _ next place code = hosts (drop place code)

-- at a place of a function
abbrev pub due_at : List Body → ℕ → ℕ → ℕ
due_at bodies f place =
    due_of (instruction_at bodies f place) (instruction_at bodies f (place + 1)) place
    (code_of (slice_get bodies f))

-- in all active calls
abbrev pub due_in : List Body → List MachineCall → ℕ
due_in bodies [] = 0
due_in bodies (c ∷ outer) = due_at bodies c.function c.place + due_in bodies outer
