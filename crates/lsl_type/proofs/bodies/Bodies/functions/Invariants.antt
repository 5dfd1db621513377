use Rattle.std.proofs.Common.{◌≡◌, [], drop}
use Rattle.std.specs.Prelude.{map}
use Rattle.lsl_tree.specs.Program.{function_of}
use Rattle.lsl_bodies.specs.Known.{known_of}
use Rattle.lsl_bodies.specs.Scope.{scope_of, frame_of}
use Rattle.lsl_bodies.specs.Verdict.{each_verdict}
use Rattle.lsl_type.proofs.BodyRounds.{function_next}
use Rattle.lsl_type.proofs.bodies.Bodies.functions.Given as goal

abbrev pub invariant-loop-header : goal.invariant-loop-header
invariant-loop-header l = record {
  unchanged : frame_of l.frame ≡ frame_of l.initial.frame;
  same : each_verdict (function_next (known_of l.self.known.now) (scope_of l.initial.frame.scope))
      (map function_of l.functions.items) (drop l.header-index l.list)
      ≡ each_verdict (function_next (known_of l.self.known.now) (scope_of l.initial.frame.scope)) [] l.list;
}
