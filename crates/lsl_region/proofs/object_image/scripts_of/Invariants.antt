use Rattle.std.proofs.Common.{◌≡◌, take}
use Rattle.std.specs.List.{filter_map}
use Rattle.lsl_region.specs.ObjectParts.{parts_in_seat}
use Rattle.lsl_region.proofs.object_image.scripts_of.Given as goal

abbrev pub invariant-loop-seat : goal.invariant-loop-seat
invariant-loop-seat l = l.scripts ≡ filter_map (parts_in_seat l.place) (take l.seat-index l.seats)
