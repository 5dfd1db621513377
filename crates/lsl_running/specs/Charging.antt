-- What a script is charged while a handler runs, and the limit of it.
use Rattle.std.specs.Prelude.{ℕ, ◌+◌, min, Bool, nat_le, List, [], ◌∷◌, sum_by, slice_set}
use Rattle.lsl_value.specs.Values.{charge_of}
use Rattle.lsl_value.specs.declared.tagged.Value.{Value}
use Rattle.lsl_running.specs.declared.kept.Kept.{Kept}

-- a script with no globals and no call is charged this much
abbrev pub script_charge : ℕ
script_charge = 1024

-- each active call is charged this much besides its slots
abbrev pub call_charge : ℕ
call_charge = 32

-- a script's limit at its start
abbrev pub default_limit : ℕ
default_limit = 65536

abbrev pub charges_of : List Value → ℕ
charges_of values = sum_by charge_of values

-- the greatest number of 64 bits
abbrev pub most_charged : ℕ
most_charged = 18446744073709551615

-- this much is charged, and more besides, saturated at 64 bits
abbrev pub charged_with : ℕ → ℕ → ℕ
charged_with charged more = min (charged + more) most_charged

-- what is held, and these waiting values, the last one pushed first
abbrev pub hold_all : ℕ → List Value → ℕ
hold_all held [] = held
hold_all held (v ∷ vs) = hold_all held vs + charge_of v

-- all that is charged if the outer calls and the waiting values hold this much: the current call with its slots, and
-- the globals
abbrev pub used : ℕ → List Value → Kept → ℕ
used held slots kept = held + call_charge + charges_of slots + charges_of kept.globals

-- the charge is within the limit
abbrev pub is_within : Kept → ℕ → Bool
is_within kept charge = nat_le charge kept.limit

-- with this value in the global of this number
abbrev pub with_global : Kept → ℕ → Value → Kept
with_global kept n value = record kept { globals = slice_set kept.globals n value }
