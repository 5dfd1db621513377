use Rattle.std.proofs.Common.{◌≡◌, [], ◌∷◌, drop}
use Rattle.std.specs.Prelude.{map}
use Rattle.lsl_tree.specs.Program.{handler_of, state_of}
use Rattle.lsl_bodies.specs.Known.{known_of}
use Rattle.lsl_bodies.specs.Scope.{scope_of, frame_of}
use Rattle.lsl_bodies.specs.Verdict.{each_verdict}
use Rattle.lsl_type.specs.ScriptRules.{default_name}
use Rattle.lsl_type.proofs.BodyRounds.{state_next}
use Rattle.lsl_type.proofs.bodies.Bodies.states.Given as goal

abbrev pub invariant-loop-state : goal.invariant-loop-state
invariant-loop-state l = record {
  unchanged : frame_of l.frame ≡ frame_of l.initial.frame;
  same : each_verdict (state_next (known_of l.self.known.now) (scope_of l.initial.frame.scope))
      (map state_of l.states.items) (drop l.state-index l.list)
      ≡ each_verdict (state_next (known_of l.self.known.now) (scope_of l.initial.frame.scope))
      (record { name = default_name; handlers = map handler_of l.fn.start.items } ∷ []) l.list;
}
