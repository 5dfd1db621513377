use Rattle.std.proofs.Common.{◌≡◌, [], drop}
use Rattle.std.specs.Prelude.{map}
use Rattle.lsl_tree.specs.Program.{handler_of}
use Rattle.lsl_bodies.specs.Known.{known_of}
use Rattle.lsl_bodies.specs.Scope.{scope_of, frame_of}
use Rattle.lsl_bodies.specs.Verdict.{each_verdict}
use Rattle.lsl_type.proofs.BodyRounds.{handler_next}
use Rattle.lsl_type.proofs.bodies.Bodies.handlers.Given as goal

abbrev pub invariant-loop-handler : goal.invariant-loop-handler
invariant-loop-handler l = record {
  unchanged : frame_of l.frame ≡ frame_of l.initial.frame;
  same : each_verdict (handler_next (known_of l.self.known.now) (scope_of l.initial.frame.scope))
      (map handler_of l.routines.items) (drop l.handler-index l.list)
      ≡ each_verdict (handler_next (known_of l.self.known.now) (scope_of l.initial.frame.scope)) [] l.list;
}
