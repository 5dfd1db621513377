-- The calls that a script answers by itself, each by its name: what it gives, and what its code is.
use Rattle.std.specs.Prelude.{◌≡◌, ◌↔◌, ◌⊎◌, ℕ, ◌+◌, ◌-◌, ◌≤◌, ℤ, pos, ◌<ℤ◌, List, [], ◌∷◌, Some}
use Rattle.lsl_value.specs.declared.names.BuiltinId.{BuiltinId}
use Rattle.lsl_value.specs.declared.names.BuiltinId.TheVariants.{GetUsedMemory, GetFreeMemory, SetMemoryLimit, GetMemoryLimit}
use Rattle.lsl_value.specs.declared.tagged.Value.{Value}
use Rattle.lsl_value.specs.declared.tagged.Value.TheVariants.{Int}
use Rattle.lsl_table.specs.Calls.{row_of}
use Rattle.lsl_table.specs.declared.calls.Home.{Home}
use Rattle.lsl_table.specs.declared.calls.Home.TheVariants as home
use Rattle.lsl_tree.specs.declared.program_node.Callee.TheVariants.{Builtin}
use Rattle.lsl_tree.specs.Program.{Routine}
use Rattle.lsl_running.specs.Charging.{default_limit, used}
use Rattle.lsl_running.specs.Limits.{integer_charge}
use Rattle.lsl_meaning.specs.Calls.{Lower, call}
use Rattle.lsl_meaning.specs.State.{State, Site, give_result}
use Rattle.lsl_code.specs.declared.instructions.Instr.{Instr}
use Rattle.lsl_code.specs.declared.instructions.Instr.TheVariants.{Used, Free, GetLimit}
use Rattle.lsl_gen.specs.Expressions.{call_code}

-- wherever it is called, it gives this number
abbrev pub GivesNumber : BuiltinId → (Site → State → ℕ) → Type 0
GivesNumber id number =
    (routines : List Routine) (low : Lower) (line : ℕ) (arguments : List Value) (site : Site) (s : State)
    → call routines low (Builtin id) line arguments site s ≡ give_result (Some (Int (pos (number site s)))) site s

-- its code is this instruction
abbrev pub HasCode : BuiltinId → Instr → Type 0
HasCode id i = (line : ℕ) → call_code (Builtin id) line ≡ i ∷ []

abbrev pub charged : Site → State → ℕ
charged site s = used site.held s.slots s.kept

-- all that is charged where it is called
abbrev pub UsedMemoryIsTheCharge : Type 0
UsedMemoryIsTheCharge = GivesNumber GetUsedMemory charged × HasCode GetUsedMemory Used

-- what the limit leaves of it
abbrev pub FreeMemoryIsTheRest : Type 0
FreeMemoryIsTheRest =
    GivesNumber GetFreeMemory (λ site s. s.kept.limit - charged site s) × HasCode GetFreeMemory Free

-- what the limit is
abbrev pub LimitIsTold : Type 0
LimitIsTold = GivesNumber GetMemoryLimit (λ site s. s.kept.limit) × HasCode GetMemoryLimit GetLimit

abbrev pub limited_to : ℕ → State → State
limited_to n s = record s { kept = record s.kept { limit = n } }

-- wherever a limit is asked for that all that is charged, and the answer, are within, and that isn't above the one
-- at the start, the script has it from there on, and 1 is given. The argument is not charged any more
abbrev pub LimitIsSet : Type 0
LimitIsSet =
    (routines : List Routine) (low : Lower) (line n : ℕ) (site : Site) (s : State)
    → charged site s + integer_charge ≤ n → n ≤ default_limit
    → call routines low (Builtin SetMemoryLimit) line (Int (pos n) ∷ []) site s
    ≡ give_result (Some (Int (pos 1))) site (limited_to n s)

-- for any other limit 0 is given, and nothing changes
abbrev pub LimitIsKept : Type 0
LimitIsKept =
    (routines : List Routine) (low : Lower) (line : ℕ) (n : ℤ) (site : Site) (s : State)
    → (n <ℤ pos (charged site s + integer_charge)) ⊎ (pos default_limit <ℤ n)
    → call routines low (Builtin SetMemoryLimit) line (Int n ∷ []) site s ≡ give_result (Some (Int (pos 0))) site s

-- this call has this home, and no other call has it
abbrev pub IsAloneAt : BuiltinId → Home → Type 0
IsAloneAt own at = (id : BuiltinId) → ((row_of id).home ≡ at) ↔ (id ≡ own)

-- each of a script's own calls has a home in the table that no other call has
abbrev pub OwnCallsAreThese : Type 0
OwnCallsAreThese =
    IsAloneAt GetUsedMemory home.UsedMemory × IsAloneAt GetFreeMemory home.FreeMemory
    × IsAloneAt SetMemoryLimit home.SetLimit × IsAloneAt GetMemoryLimit home.GetLimit
