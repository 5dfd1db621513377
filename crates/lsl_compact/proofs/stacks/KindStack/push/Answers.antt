use Rattle.std.proofs.Common.{◌≡◌, ◌+◌, refl, arith, length}
use Rattle.lsl_compact.proofs.Growing.{pushed_holds, pushed_view}
use Rattle.lsl_compact.proofs.stacks.KindStack.push.Goals as goal

pub invariant_of-self-2 : goal.invariant_of-self-2
invariant_of-self-2 c =
    let inside = c.self.inside in
    let i = c.self.invariant in
    let at : c.in-Ok.number ≡ length inside.links.items + 1 = omega (arith, c.in-Ok.ensures, c.len.ensures) in
    pushed_holds inside.links.items c.push.new.self.items inside.top c.in-Ok.number
    (record { below = inside.top; kind = c.args.kind }) inside.tops.items c.in_ok-push.ensures.items refl at i.2
    inside.height i.0 i.1 i.3 i.4

pub returns-clause-pushed : goal.returns-clause-pushed
returns-clause-pushed c =
    let inside = c.self.inside in
    let at : c.in-Ok.number ≡ length inside.links.items + 1 = omega (arith, c.in-Ok.ensures, c.len.ensures) in
    pushed_view inside.links.items c.push.new.self.items inside.top c.in-Ok.number
    (record { below = inside.top; kind = c.args.kind }) inside.tops.items c.in_ok-push.ensures.items refl at
    c.self.invariant.2 c.args.self.now c.self.view_is
