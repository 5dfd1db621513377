use Rattle.std.proofs.Common.{◌≡◌, drop}
use Rattle.lsl_bodies.specs.Scope.{frame_of, with_locals}
use Rattle.lsl_bodies.proofs.frame.Frame.declare_all.Given as goal

abbrev pub invariant-loop-param : goal.invariant-loop-param
invariant-loop-param l = with_locals (frame_of l.self) (drop l.param-index l.params)
    ≡ with_locals (frame_of l.initial.self) l.params
