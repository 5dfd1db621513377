use Rattle.std.proofs.Common.{◌∙◌, ◌<◌, ◌∷◌, [], ◌++◌, ℕ, List, ap, length, arith, sym}
use Rattle.lsl_region.proofs.Gathering.{units-one, units-same}
use Rattle.lsl_region.proofs.object_image.units_of.Goals as goal
use Rattle.lsl_region.proofs.object_image.units_of.Goals.{then-is_of+in_ok-push, else-is_of}

pub loop-seat-preserved : goal.loop-seat-preserved
loop-seat-preserved c =
    let h : c.loop-seat.seat-index < length c.args.seats.now = omega arith in
    elim c.if-is_of.branch [
      | then-is_of+in_ok-push w ↦
          w.units-is ∙ w.in_ok-push.ensures.ok
          ∙ ap (λ (z : List ℕ). z ++ c.seat-item.result.unit ∷ []) c.loop-seat.invariant
          ∙ sym (units-one c.args.place c.args.seats.now c.loop-seat.seat-index c.seat-item.result h c.seat-item.is
          (sym c.is_of.ensures ∙ w.if-is_of.true))
      | else-is_of w ↦
          w.units-is ∙ c.loop-seat.invariant
          ∙ sym (units-same c.args.place c.args.seats.now c.loop-seat.seat-index c.seat-item.result h c.seat-item.is
          (sym c.is_of.ensures ∙ w.if-is_of.false))
    ]
