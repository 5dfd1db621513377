use Rattle.std.proofs.Common.{◌<◌, ◌≤◌, ◌+◌, length, drop, ap, ◌∙◌, arith}
use Rattle.lsl_bodies.specs.Scope.{FrameView, frame_of, with_locals}
use Rattle.lsl_bodies.proofs.BlockWalks.{locals_next, locals_end}
use Rattle.lsl_bodies.proofs.frame.Frame.declare_all.Goals as goal

pub loop-param-preserved : goal.loop-param-preserved
loop-param-preserved c =
    let ps = c.args.params.now in
    let lt : c.loop-param.param-index < length ps = omega arith in
    ap (λ (f : FrameView). with_locals f (drop (c.loop-param.param-index + 1) ps)) c.in_ok-declare.ensures
    ∙ locals_next (frame_of c.loop-param.self) ps c.loop-param.param-index c.param-item.result _ lt
    c.param-item.is c.loop-param.invariant

pub returns : goal.returns
returns c =
    let ps = c.args.params.now in
    let over : length ps ≤ c.loop-param.param-index = omega arith in
    locals_end (frame_of c.loop-param.self) ps c.loop-param.param-index _ over c.loop-param.invariant
