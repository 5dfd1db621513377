use Rattle.std.proofs.Common.{◌≡◌, ◌<◌, ◌∷◌, [], ◌++◌, List, ap, arith, length, rules, subst, sym}
use Rattle.lsl_region.specs.declared.grid.Seat.{Seat}
use Rattle.lsl_region.specs.Grids.{ArePlaced, Contents, IsPlaced}
use Rattle.lsl_region.specs.Hearing.{HaveRows}
use Rattle.lsl_region.proofs.Behind.{placed-seat}
use Rattle.lsl_region.proofs.Told.{row-pushed, row-room}
use Rattle.lsl_region.proofs.grid.Grid.seat.Goals as goal

pub invariant_of-self-2 : goal.invariant_of-self-2
invariant_of-self-2 c =
    let inside = c.self.inside in
    let seats : c.push-2.new.self.items ≡ inside.seats.items ++ c.args.seat ∷ [] = search rules in
    let at : c.len-place.result ≡ length inside.seats.items = search rules in
    let room : length inside.seats.items < 256 =
    omega (arith, c.requires.room, ap (λ (g : Contents). length g.seats) c.self.view_is) in
    let prim = subst (λ (g : Contents). IsPlaced g.objects c.args.seat) (sym c.self.view_is) c.requires.placed in (
      subst (λ (xs : List Seat). ArePlaced inside.objects.items xs) (sym seats)
          (placed-seat inside.objects.items inside.seats.items c.args.seat c.self.invariant.0 room prim),
      subst (λ (xs : List Seat). HaveRows c.tell.new.self xs) (sym seats)
          (row-pushed inside.hearers c.push.new.self c.tell.new.self inside.seats.items c.len-place.result
          c.script_channels-channels.result c.args.seat at c.in_ok-push.ensures.pushed c.tell.ensures
          c.script_channels-channels.ensures.row c.self.invariant.1),
    )

pub invariant_of-self-in_err-push-2 : goal.invariant_of-self-in_err-push-2
invariant_of-self-in_err-push-2 c =
    let inside = c.self.inside in
    let seats : c.push-2.new.self.items ≡ inside.seats.items = search rules in
    let at : c.len-place.result ≡ length inside.seats.items = search rules in (
      subst (λ (xs : List Seat). ArePlaced inside.objects.items xs) (sym seats) c.self.invariant.0,
      subst (λ (xs : List Seat). HaveRows c.tell.new.self xs) (sym seats)
          (row-room inside.hearers c.push.new.self c.tell.new.self inside.seats.items c.len-place.result
          c.script_channels-channels.result at c.in_ok-push.ensures.pushed c.tell.ensures c.self.invariant.1),
    )
