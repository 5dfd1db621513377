-- Parts of a script that are valid for its unit, and when they can run.
use Rattle.std.specs.Prelude.{ℕ, Bool, false, ◌||◌, nat_le, nat_lt, length, is_some}
pub use Rattle.lsl_post.specs.Fitting.{CanLeave, CanLeaveFor, CanRest, CanWait, FitsStates, FitsUnit, IsInHand, has_handler, is_exit, least_limit}
use Rattle.lsl_post.specs.declared.parts.Rest.{Rest}
use Rattle.lsl_post.specs.declared.parts.Rest.TheVariants.{Idle, Saved, Dead}
use Rattle.lsl_post.specs.declared.parts.ScriptParts.{ScriptParts}

-- the script can run at this reading of the clock
abbrev pub can_run : ℕ → ScriptParts → Rest → Bool
can_run clock parts Idle = is_some parts.leaving || nat_lt 0 (length parts.queue)
can_run clock parts (Saved e frames) = nat_le parts.wake clock
can_run clock parts (Dead fault) = false

abbrev pub are_ready : ℕ → ScriptParts → Bool
are_ready clock parts = can_run clock parts parts.rest
