use Rattle.std.proofs.Common.{◌≡◌, ◌≤◌, take, length}
use Rattle.lsl_seek.specs.Calls.{call_after}
use Rattle.lsl_seek.specs.Moments.{moments, up_to}
use Rattle.lsl_seek.proofs.trace.Trace.active_after.Given as goal

abbrev pub invariant-back : goal.invariant-back
invariant-back l = record {
  rest : l.rest ≡ take (length l.rest) l.self.places.items;
  shorter : length l.rest ≤ length l.initial.rest;
  same : call_after l.script (up_to (moments l.self) (length l.rest)) ≡ call_after l.script (up_to (moments l.self) l.number);
}

abbrev pub decreases-back : goal.decreases-back
decreases-back l = length l.rest
