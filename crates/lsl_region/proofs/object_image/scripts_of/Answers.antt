use Rattle.std.proofs.Common.{◌∙◌, ◌<◌, ◌++◌, List, ap, length, sym, arith}
use Rattle.std.specs.Prelude.{Option}
use Rattle.std.specs.List.{filter_map}
use Rattle.std.specs.Option.{option_to_list}
use Rattle.lsl_post.specs.declared.parts.ScriptParts.{ScriptParts}
use Rattle.lsl_region.specs.ObjectParts.{parts_in_seat}
use Rattle.std.specs.Prelude.{take}
use Rattle.lsl_region.proofs.Gathering.{gathered}
use Rattle.lsl_region.proofs.object_image.scripts_of.Goals as goal

pub loop-seat-preserved : goal.loop-seat-preserved
loop-seat-preserved c =
    let h : c.loop-seat.seat-index < length c.args.seats.now = omega arith in
    c.in_ok-push_some.ensures
    ∙ ap (λ (z : List ScriptParts). z ++ option_to_list c.in_ok-parts.parts) c.loop-seat.invariant
    ∙ ap (λ (o : Option ScriptParts).
    filter_map (parts_in_seat c.args.place) (take c.loop-seat.seat-index c.args.seats.now) ++ option_to_list o)
    c.in_ok-parts.ensures
    ∙ sym (gathered (parts_in_seat c.args.place) c.args.seats.now c.loop-seat.seat-index c.seat-item.result h
    c.seat-item.is)
