use Rattle.std.proofs.Common.{◌≡◌, ◌∙◌, ap, arith, ℕ, suc, ◌+◌, take}
use Rattle.lsl_compact.specs.declared.pieces.Piece.{Piece}
use Rattle.lsl_compact.specs.Places.{span}
use Rattle.lsl_compact.proofs.Joining.{span_next}
use Rattle.lsl_compact.proofs.pieces.place_in.Goals as goal

pub loop-piece-preserved : goal.loop-piece-preserved
loop-piece-preserved c =
    let pieces = c.args.pieces.now in
    let k = c.loop-piece.piece-index in
    let none : Piece = record { from = 0; count = 0 } in
    let one : k + 1 ≡ suc k = omega arith in
    let next = ap (λ (n : ℕ). span (take n pieces)) one ∙ span_next pieces k none c.loop-piece-test.true in
    omega (arith, next, c.loop-piece.invariant, c.if-left-count.false)
