use Rattle.std.proofs.Common.{◌≡◌, arith, length}
use Rattle.lsl_compact.proofs.Joining.{view_at, view_past}
use Rattle.lsl_compact.proofs.pieces.Pieces.get.Goals as goal

pub returns-in-Some : goal.returns-in-Some
returns-in-Some g c =
    let inside = c.self.inside in
    let long : c.len-before.result ≡ length inside.first.items = omega (arith, c.len-before.ensures) in
    let found = c.in-Some.ensures in
    view_at inside.first.items inside.pool.items c.args.self.now inside.pieces.items c.as_slice.result.now c.args.place
    c.len-before.result c.self.invariant c.self.view_is c.as_slice.ensures.value long c.if-place-before.false
    c.in-Some.number found.0 found.1 c.as_slice-in-Some.result.now _ found.2 c.as_slice-in-Some.ensures.value
    c.element.ensures

pub returns-in-None : goal.returns-in-None
returns-in-None g c =
    let inside = c.self.inside in
    let long : c.len-before.result ≡ length inside.first.items = omega (arith, c.len-before.ensures) in
    view_past inside.first.items inside.pool.items c.args.self.now inside.pieces.items c.as_slice.result.now c.args.place
    c.len-before.result c.self.invariant c.self.view_is c.as_slice.ensures.value long c.if-place-before.false
    c.in-None.ensures
