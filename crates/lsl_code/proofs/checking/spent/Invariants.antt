use Rattle.std.proofs.Common.{◌≡◌, ◌+◌, take}
use Rattle.lsl_code.specs.Frames.{parked_charge}
use Rattle.lsl_code.proofs.checking.spent.Given as goal

abbrev pub invariant-loop-i : goal.invariant-loop-i
invariant-loop-i l = l.left + parked_charge l.globals (take l.i l.sack) ≡ l.limit
