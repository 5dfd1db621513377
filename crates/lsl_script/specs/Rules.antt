-- What the meaning needs of the code of a script: of a unit, or of a program. Codes are known by their numbers.
use Rattle.std.specs.Prelude.{◌≡◌, ◌≢◌, ℕ, ◌+◌, List, ◌++◌, Option, Some, None}
use Rattle.lsl_value.specs.declared.names.BuiltinId.{BuiltinId}
use Rattle.lsl_value.specs.declared.names.EventId.{EventId}
use Rattle.lsl_value.specs.declared.tagged.Value.{Value}
use Rattle.lsl_running.specs.declared.host.Reply.{Reply}
use Rattle.lsl_running.specs.declared.kept.Kept.{Kept}
use Rattle.lsl_running.specs.Charging.{default_limit}
use Rattle.lsl_running.specs.Results.{ActiveCall, Whole, Asks, Cut, Lost}

pub record Rules : Type 0 where
  -- the number of the routine that handles an event in a state
  pub handler : (code state : ℕ) → EventId → Option ℕ
  -- what the globals hold at first
  pub initial : (code : ℕ) → List Value
  -- the result of a routine from its start, for arguments, a number of ticks and a list of answers
  pub whole : (code routine : ℕ) → Kept → List Value → ℕ → List Reply → Whole
  -- the most calls that a routine makes between two ticks
  pub most : (code : ℕ) → ℕ

-- what a script keeps at its start, and again after a reset or a fault
abbrev pub initial_kept : Rules → ℕ → Kept
initial_kept r code = record { globals = r.initial code; limit = default_limit }

abbrev pub whole_in : Rules → ℕ → Option ℕ → Kept → List Value → ℕ → List Reply → Whole
whole_in r code None kept args ticks answers = Lost
whole_in r code (Some routine) kept args ticks answers = r.whole code routine kept args ticks answers

-- the laws that a meaning has: what isn't cut is the same with more ticks, and what doesn't ask is the same with more
-- answers
pub record AreLawful (r : Rules) : Type 0 where
  pub ticks : (code routine : ℕ) (kept : Kept) (args : List Value) (ticks more : ℕ) (answers : List Reply)
      → ((calls : List ActiveCall) → r.whole code routine kept args ticks answers ≢ Cut calls)
      → r.whole code routine kept args (ticks + more) answers ≡ r.whole code routine kept args ticks answers
  pub answers : (code routine : ℕ) (kept : Kept) (args : List Value) (ticks : ℕ) (answers further : List Reply)
      → ((id : BuiltinId) (asked : List Value) → r.whole code routine kept args ticks answers ≢ Asks id asked)
      → r.whole code routine kept args ticks (answers ++ further) ≡ r.whole code routine kept args ticks answers
