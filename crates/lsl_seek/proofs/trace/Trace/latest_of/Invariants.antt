use Rattle.std.proofs.Common.{◌≡◌, ◌≤◌, take, length}
use Rattle.std.specs.List.{find}
use Rattle.lsl_seek.specs.Calls.{is_of_call}
use Rattle.lsl_seek.specs.Moments.{moments, up_to}
use Rattle.lsl_seek.proofs.trace.Trace.latest_of.Given as goal

abbrev pub invariant-back : goal.invariant-back
invariant-back l = record {
  rest : l.rest ≡ take (length l.rest) l.self.places.items;
  shorter : length l.rest ≤ length l.initial.rest;
  same : find (is_of_call l.serial) (up_to (moments l.self) (length l.rest))
      ≡ find (is_of_call l.serial) (up_to (moments l.self) l.number);
}

abbrev pub decreases-back : goal.decreases-back
decreases-back l = length l.rest
