use Rattle.std.proofs.Common.{◌≡◌, ◌≤◌, length, drop}
use Rattle.lsl_compact.specs.Stacks.{stack_of}
use Rattle.lsl_compact.proofs.stacks.lowered.Given as goal

abbrev pub invariant-loop-i : goal.invariant-loop-i
invariant-loop-i l = record {
  stack : stack_of l.links l.top ≡ drop l.i (stack_of l.links l.fn.top);
  top : l.top ≤ length l.links;
}
