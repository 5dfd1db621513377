-- Parts of a script that are valid for its unit, whatever they were read from: what a script at rest has, and what an
-- image of one may hold.
use Rattle.std.specs.Prelude.{◌≡◌, ◌≢◌, ℕ, ◌<◌, ◌≤◌, Bool, true, false, List, length, Option, Some, None, is_some, All}
use Rattle.lsl_value.specs.declared.names.EventId.{EventId}
use Rattle.lsl_value.specs.declared.names.EventId.TheVariants as event
use Rattle.lsl_value.specs.declared.tagged.Value.{Value}
use Rattle.lsl_running.specs.Charging.{default_limit}
use Rattle.lsl_code.specs.declared.functions.StateCode.{StateCode}
use Rattle.lsl_code.specs.declared.woven_units.Woven.{Woven as Code}
use Rattle.lsl_code.specs.Frames.{AreValid, points_of}
use Rattle.lsl_code.specs.Kinds.{kinds_of}
use Rattle.lsl_code.specs.Units.{handler_of, same_event}
use Rattle.lsl_code.specs.Weaves.{bodies_of}
use Rattle.lsl_post.specs.declared.events.Event.{Event}
use Rattle.lsl_post.specs.declared.parts.Rest.{Rest}
use Rattle.lsl_post.specs.declared.parts.Rest.TheVariants.{Idle, Saved, Dead}
use Rattle.lsl_post.specs.declared.parts.ScriptParts.{ScriptParts}

abbrev pub is_exit : Event → Bool
is_exit e = same_event e.id event.StateExit

abbrev pub has_handler : List StateCode → ℕ → EventId → Bool
has_handler states state id = is_some (handler_of states state id)

-- an event that waits in this state: it has a handler, and isn't an exit
pub record CanWait (states : List StateCode) (state : ℕ) (e : Event) : Type 0 where
  pub handled : has_handler states state e.id ≡ true
  pub other : is_exit e ≡ false

-- a state with an exit is left for another one
pub record CanLeaveFor (states : List StateCode) (state to : ℕ) : Type 0 where
  pub there : to < length states
  pub other : to ≢ state
  pub exit : has_handler states state event.StateExit ≡ true

abbrev pub CanLeave : List StateCode → ℕ → Option ℕ → Type 0
CanLeave states state None = Unit {0}
CanLeave states state (Some to) = CanLeaveFor states state to

-- the script's state, what it leaves for, and which events wait
pub record FitsStates (states : List StateCode) (state : ℕ) (leaving : Option ℕ) (queue : List Event) : Type 0 where
  pub stands : state < length states
  pub leaves : CanLeave states state leaving
  pub waits : All (CanWait states state) queue

-- the current event, with this function as its handler: it is an exit exactly where one is due
pub record IsInHand (states : List StateCode) (state : ℕ) (leaving : Option ℕ) (e : Event) (handler : ℕ) : Type 0
  where
    pub handled : handler_of states state e.id ≡ Some handler
    pub exit : is_exit e ≡ is_some leaving

-- saved calls are those of the current event's handler, and are charged within the limit beside the globals
abbrev pub CanRest : Code → (state : ℕ) → Option ℕ → List Value → ℕ → Rest → Type 0
CanRest unit state leaving globals limit Idle = Unit {0}
CanRest unit state leaving globals limit (Saved e frames) =
    (handler : ℕ) × IsInHand unit.states state leaving e handler
    × AreValid (points_of (bodies_of unit)) handler globals limit frames
CanRest unit state leaving globals limit (Dead fault) = Unit {0}

-- the lowest limit that a script has
abbrev pub least_limit : ℕ
least_limit = 1064

pub record FitsUnit (unit : Code) (parts : ScriptParts) : Type 0 where
  pub states : FitsStates unit.states parts.state parts.leaving parts.queue
  pub globals : kinds_of parts.globals ≡ kinds_of unit.globals
  pub least : least_limit ≤ parts.limit
  pub limit : parts.limit ≤ default_limit
  pub rest : CanRest unit parts.state parts.leaving parts.globals parts.limit parts.rest
