use Rattle.std.proofs.Common.{◌≡◌, ◌++◌, drop, map}
use Rattle.lsl_world.specs.Starts.{prim_of_line}
use Rattle.lsl_world.proofs.starting.prims.Given as goal

abbrev pub invariant-loop-line : goal.invariant-loop-line
invariant-loop-line l = record {
  prims : l.prims ++ map prim_of_line (drop l.line-index l.lines) ≡ map prim_of_line l.lines;
}
