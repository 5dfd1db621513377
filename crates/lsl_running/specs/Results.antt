-- The result of a handler: the same words for the meaning of a script's text and for a run of its code.
use Rattle.std.specs.Prelude.{ℕ, List}
use Rattle.lsl_value.specs.declared.names.BuiltinId.{BuiltinId}
use Rattle.lsl_value.specs.declared.tagged.Value.{Value}
use Rattle.lsl_running.specs.declared.ends.Fault.{Fault}
use Rattle.lsl_running.specs.declared.ends.Outcome.{Outcome}
use Rattle.lsl_running.specs.declared.kept.Kept.{Kept}

-- an active call: the number of the function or handler, what its slots hold, and its current line in the text
pub record ActiveCall : Type 0 where
  pub function : ℕ
  pub slots : List Value
  pub line : ℕ

-- for a number of ticks and a list of answers
pub data Whole : Type 0 where
  -- the handler has ended this way, with these globals and this limit
  Ends : Outcome → Kept → Whole
  -- the answers are used up, and this call is asked for
  Asks : BuiltinId → List Value → Whole
  -- the ticks are used up; the active calls, the innermost first
  Cut : List ActiveCall → Whole
  -- the script stops for good
  Fails : Fault → Whole
  -- no checked program gets here, nor an answer that its call gives
  Lost : Whole
