-- The limit of what a script may be charged, if the script itself sets it.
use Rattle.std.specs.Prelude.{ℕ, ◌+◌, ℤ, pos, ◌&&◌, nat_le, Option, Some, None, cond}
use Rattle.lsl_value.specs.declared.tagged.Value.{Value}
use Rattle.lsl_value.specs.declared.tagged.Value.TheVariants as value
use Rattle.lsl_running.specs.declared.kept.Kept.{Kept}
use Rattle.lsl_running.specs.Charging.{default_limit}

-- an integer is charged this much
abbrev pub integer_charge : ℕ
integer_charge = 8

-- the limit that a script gets by asking for this one, with this charge: with the answer it must be charged within it,
-- and no limit is above the one at its start
abbrev pub granted : ℤ → ℕ → Option ℕ
granted (pos n) charge =
    cond (nat_le (charge + integer_charge) n && nat_le n default_limit) (Some n) None
granted n charge = None

-- the answer: whether it got one
abbrev pub grant_value : Option ℕ → Value
grant_value None = value.Int (pos 0)
grant_value (Some n) = value.Int (pos 1)

-- what it keeps then
abbrev pub with_limit : Option ℕ → Kept → Kept
with_limit None kept = kept
with_limit (Some n) kept = record kept { limit = n }
