use Rattle.std.proofs.Common.{◌≡◌, drop}
use Rattle.lsl_code.specs.Units.{handler_in}
use Rattle.lsl_code.proofs.woven_units.handler.Given as goal

-- the handlers before this one are of other events
abbrev pub invariant-loop-handler : goal.invariant-loop-handler
invariant-loop-handler l = handler_in (drop l.handler-index l.handlers) l.event ≡ handler_in l.handlers l.event
