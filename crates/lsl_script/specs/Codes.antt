-- The rules that the units of a library give, and other rules that mean the same of them.
use Rattle.std.specs.Prelude.{◌≡◌, ℕ, ◌*◌, ◌<◌, ◌≤◌, List, [], length, Option, Some, None, slice_get}
use Rattle.lsl_value.specs.declared.names.EventId.{EventId}
use Rattle.lsl_value.specs.declared.tagged.Value.{Value}
use Rattle.lsl_running.specs.declared.host.Reply.{Reply}
use Rattle.lsl_running.specs.declared.kept.Kept.{Kept}
use Rattle.lsl_code.specs.declared.woven_units.Woven.{Woven as Code}
use Rattle.lsl_code.specs.Bodies.{Body}
use Rattle.lsl_code.specs.Laws.{hosts_of}
use Rattle.lsl_code.specs.Units.{handler_of}
use Rattle.lsl_code.specs.Wholes.{whole_of_bodies}
use Rattle.lsl_machine.specs.State.{bodies_of}
use Rattle.lsl_script.specs.Rules.{Rules}

-- the unit of this number
abbrev pub HasUnit : List Code → ℕ → Code → Type 0
HasUnit codes code unit = slice_get codes code ≡ Some unit

abbrev pub handler_in_unit : Option Code → ℕ → EventId → Option ℕ
handler_in_unit None state id = None
handler_in_unit (Some unit) state id = handler_of unit.states state id

abbrev pub globals_in : Option Code → List Value
globals_in None = []
globals_in (Some unit) = unit.globals

abbrev pub bodies_in : Option Code → List Body
bodies_in None = []
bodies_in (Some unit) = bodies_of unit

-- fewer than 2,048 calls are active, and each executes an instruction at most once between two ticks
abbrev pub most_asks : List Body → ℕ
most_asks bodies = 2048 * hosts_of bodies

abbrev pub rules_of : List Code → Rules
rules_of codes = record {
  handler = λ code state id. handler_in_unit (slice_get codes code) state id;
  initial = λ code. globals_in (slice_get codes code);
  whole = λ code routine kept args ticks answers.
      whole_of_bodies (bodies_in (slice_get codes code)) routine kept args ticks answers;
  most = λ code. most_asks (bodies_in (slice_get codes code));
}

-- Rules that say of these units what the units' own rules say, with no smaller bound of calls. Nothing is required of
-- them outside the units' numbers.
pub record Meant (codes : List Code) : Type 0 where
  pub rules : Rules
  pub handler : (code state : ℕ) (id : EventId) → code < length codes
      → rules.handler code state id ≡ (rules_of codes).handler code state id
  pub initial : (code : ℕ) → code < length codes → rules.initial code ≡ (rules_of codes).initial code
  pub whole : (code routine : ℕ) (kept : Kept) (args : List Value) (ticks : ℕ) (answers : List Reply)
      → code < length codes
      → rules.whole code routine kept args ticks answers ≡ (rules_of codes).whole code routine kept args ticks answers
  pub most : (code : ℕ) → code < length codes → (rules_of codes).most code ≤ rules.most code
