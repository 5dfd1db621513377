use Rattle.std.proofs.Common.{◌≡◌, ◌+◌}
use Rattle.lsl_machine.proofs.Returning.{IsReturning}
use Rattle.lsl_machine.proofs.restoring.restore_by_code.Given as goal

-- this many instructions were done and counted
abbrev pub invariant-loop-i : goal.invariant-loop-i
invariant-loop-i l = record {
  way : IsReturning l.unit l.fn.handler l.fn.sack l.restorer l.i;
  counted : l.steps ≡ l.fn.steps + l.i;
}
