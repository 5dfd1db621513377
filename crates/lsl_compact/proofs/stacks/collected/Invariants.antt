use Rattle.std.proofs.Common.{◌≡◌, ◌≤◌, ◌++◌, length}
use Rattle.lsl_compact.specs.Stacks.{stack_of}
use Rattle.lsl_compact.proofs.stacks.collected.Given as goal

abbrev pub invariant-loop-top : goal.invariant-loop-top
invariant-loop-top l = record {
  stack : l.kinds.items ++ stack_of l.links l.top ≡ stack_of l.links l.fn.top;
  top : l.top ≤ length l.links;
}

abbrev pub decreases-loop-top : goal.decreases-loop-top
decreases-loop-top l = l.top
