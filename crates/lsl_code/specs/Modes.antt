-- What saving and restoring share: steps, one after another, and a call that continues at another place.
use Rattle.std.specs.Prelude.{ℕ, zero, suc, List, Option, Some, option_and_then}
use Rattle.lsl_value.specs.declared.tagged.Value.{Value}
use Rattle.lsl_code.specs.declared.instructions.Instr.{Instr}
use Rattle.lsl_code.specs.declared.instructions.Instr.TheVariants.{Jump}
use Rattle.lsl_code.specs.Machine.{MachineCall, call_at}

-- n steps, none of which fails
abbrev pub repeat : {S : Type 0} → (S → Option S) → ℕ → S → Option S
repeat step zero s = Some s
repeat step (suc n) s = option_and_then (repeat step n) (step s)

-- the call at this place, with these operands
abbrev pub at_place : MachineCall → ℕ → List Value → MachineCall
at_place c place operands = call_at c.function place c.slots operands

-- this place, or the one to which the jump there leads
abbrev pub landing : Option Instr → ℕ → ℕ
landing (Some (Jump to)) place = to
landing i place = place
