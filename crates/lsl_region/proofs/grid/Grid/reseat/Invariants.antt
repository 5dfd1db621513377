use Rattle.std.proofs.Common.{◌≡◌, length, reverse, drop}
use Rattle.std.specs.Prelude.{map}
use Rattle.std.specs.List.{AllByRecursion, filter_map}
use Rattle.lsl_image.specs.Valid.{HasUnit, unit_number}
use Rattle.lsl_region.specs.Grids.{AreSeated}
use Rattle.lsl_region.specs.ObjectParts.{parts_in_seat}
use Rattle.lsl_region.proofs.Reseating.{reseat_from}
use Rattle.lsl_region.proofs.grid.Grid.reseat.Given as goal

abbrev pub invariant-loop-seat : goal.invariant-loop-seat
invariant-loop-seat l =
    record {
      len : length l.self.seats ≡ length l.fn.self.seats;
      objects : l.self.objects ≡ l.fn.self.objects;
      cards : l.self.cards ≡ l.fn.self.cards;
      seated : AreSeated l.library l.self.seats;
      valid : AllByRecursion (HasUnit l.library) (reverse l.scripts.items);
      units : map unit_number (reverse l.scripts.items)
          ≡ map unit_number (filter_map (parts_in_seat l.place) (drop l.seat l.self.seats));
      whole : reseat_from l.place l.seat (reverse l.scripts.items) l.self.seats
          ≡ reseat_from l.place 0 l.fn.scripts l.fn.self.seats;
    }
