-- Which program a script is, and the first fault of a script that isn't one.
use Rattle.std.specs.Prelude.{◌≡◌}
use Rattle.lsl_text.specs.declared.Refusal.{Refusal}
use Rattle.lsl_text.specs.declared.Refusal.TheVariants.{NoMemory, Fault}
use Rattle.lsl_tree.specs.Scripts.{Tree}
use Rattle.lsl_tree.specs.Program.{Program}
use Rattle.lsl_bodies.specs.declared.faults.TypeFault.{TypeFault}
use Rattle.lsl_type.specs.ScriptRules.{script}

-- the script is this program
abbrev pub Typed : Tree → Program → Type 0
Typed tree program = (script tree).types program

-- the script's first fault is this one
abbrev pub TypeFirst : Tree → TypeFault → Type 0
TypeFirst tree fault = (script tree).breaks fault

-- why there is no program: the first fault, or out of memory
abbrev pub IsTypeRefusal : Tree → Refusal TypeFault → Type 0
IsTypeRefusal tree (Fault fault) = TypeFirst tree fault
IsTypeRefusal tree NoMemory = Unit {0}

-- this fault, or out of memory
abbrev pub IsThat : TypeFault → Refusal TypeFault → Type 0
IsThat fault (Fault other) = other ≡ fault
IsThat fault NoMemory = Unit {0}
