use Rattle.std.proofs.Common.{[], ◌∷◌, ◌++◌, ap, sym, ◌∙◌, refl}
use Rattle.std.specs.Prelude.{List, slice_get}
use Rattle.lsl_region.specs.declared.grid.Seat.{Seat}
use Rattle.lsl_region.specs.Grids.{IsSeated}
use Rattle.lsl_region.proofs.Behind.{all-more}
use Rattle.lsl_world.specs.Seats.{seat_of_line, seats_of_prim}
use Rattle.lsl_world.proofs.Seams.{seam-on}
use Rattle.lsl_world.proofs.starting.add_scripts.Goals as goal

pub loop-line-preserved : goal.loop-line-preserved
loop-line-preserved c =
    let codes = c.args.units.now in
    let invariant = c.loop-line.invariant in
    let seat = c.in_ok-first_seat.field-0 in
    let added = c.in_ok-seat.ensures.added in
    record {
      objects = c.in_ok-seat.ensures.objects ∙ invariant.objects;
      seats = seam-on (λ n xs. seats_of_prim codes c.args.object c.args.prim xs)
          (λ n x. seat_of_line codes c.args.object c.args.prim x ∷ []) (λ n x xs. refl) (λ n. refl)
          c.loop-line.grid.seats c.seat.new.self.seats
          (c.args.grid.now.seats ++ seats_of_prim codes c.args.object c.args.prim c.args.lines.now)
          c.loop-line.line-index c.args.lines.now c.line-item.result c.loop-line-test.true c.line-item.is
          invariant.seats
          (added ∙ ap (λ (s : Seat). c.loop-line.grid.seats ++ s ∷ []) c.in_ok-first_seat.ensures.seat);
      seated = λ n s e.
          all-more (IsSeated codes) c.loop-line.grid.seats seat invariant.seated c.in_ok-first_seat.ensures.seated n s
          (sym (ap (λ (xs : List Seat). slice_get xs n) added) ∙ e);
    }
