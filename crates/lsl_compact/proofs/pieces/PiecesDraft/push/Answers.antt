use Rattle.std.proofs.Common.{◌≡◌, ◌∙◌, ap, refl, arith, List, [], ◌∷◌, ◌++◌, length}
use Rattle.lsl_compact.specs.declared.pieces.Piece.{Piece}
use Rattle.lsl_compact.proofs.Joining.{pushed_holds, pushed_view}
use Rattle.lsl_compact.proofs.pieces.PiecesDraft.push.Goals as goal

pub invariant_of-self-2 : goal.invariant_of-self-2
invariant_of-self-2 g c =
    let inside = c.self.inside in
    let piece : Piece = record { from = c.in-Ok.from; count = 1 } in
    let from : c.in-Ok.from ≡ length inside.pool.items = omega (arith, c.in-Ok.ensures, c.len.ensures) in
    let new = ◌∙◌ {A = List Piece} c.push_reserved.ensures.items (ap (λ (l : List Piece). l ++ piece ∷ []) c.in_ok-reserve.ensures.items) in
    pushed_holds inside.first.items inside.pool.items inside.words inside.pieces.items c.push_reserved.new.self.items
    piece c.args.self.now c.self.invariant.0 c.self.invariant.1 new c.self.view_is c.push-2.new.self.items
    c.args.element c.in_ok-push-2.ensures.items from refl

pub returns-clause-pushed : goal.returns-clause-pushed
returns-clause-pushed g c =
    let inside = c.self.inside in
    let piece : Piece = record { from = c.in-Ok.from; count = 1 } in
    let from : c.in-Ok.from ≡ length inside.pool.items = omega (arith, c.in-Ok.ensures, c.len.ensures) in
    let new = ◌∙◌ {A = List Piece} c.push_reserved.ensures.items (ap (λ (l : List Piece). l ++ piece ∷ []) c.in_ok-reserve.ensures.items) in
    pushed_view inside.first.items inside.pool.items inside.words inside.pieces.items c.push_reserved.new.self.items
    piece c.args.self.now c.self.invariant.0 c.self.invariant.1 new c.self.view_is c.push-2.new.self.items
    c.args.element c.in_ok-push-2.ensures.items from refl
