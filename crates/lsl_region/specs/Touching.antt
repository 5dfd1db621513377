-- Which states have handlers of touches.
use Rattle.std.specs.Prelude.{ℕ, Bool, ◌||◌, List, is_some}
use Rattle.lsl_value.specs.declared.names.EventId.TheVariants as event
use Rattle.lsl_code.specs.declared.functions.StateCode.{StateCode}
use Rattle.lsl_code.specs.Units.{handler_of}

-- the state has a handler for one of the three events of a touch
abbrev pub has_touch : List StateCode → ℕ → Bool
has_touch states state =
    is_some (handler_of states state event.TouchStart) || is_some (handler_of states state event.Touch)
    || is_some (handler_of states state event.TouchEnd)
