use Rattle.std.proofs.Common.{◌≤◌, ℕ, ◌++◌, length, refl, sym, subst, arith}
use Rattle.lsl_world.specs.Seats.{seats_of_objects, seats_of_prims}
use Rattle.lsl_world.proofs.Filling.{objects-count, objects-more}
use Rattle.lsl_world.proofs.Seams.{seam-room}
use Rattle.lsl_world.proofs.starting.add_objects.Goals as goal

pub add_object-requires-clause-room : goal.add_object-requires-clause-room
add_object-requires-clause-room c =
    let codes = c.args.units.now in
    let total = seats_of_objects codes 0 c.args.lines.now in
    let few : length total ≤ 256 = omega (arith, objects-count codes 0 c.args.lines.now, c.requires.few_scripts) in
    subst (λ (n : ℕ). length (c.loop-line.grid.seats ++ seats_of_prims codes n 0 c.line-item.result.prims) ≤ 256)
    (sym c.loop-line.invariant.count)
    (seam-room (λ n xs. seats_of_objects codes n xs) (λ n x. seats_of_prims codes n 0 x.prims) (objects-more codes)
    (λ n. refl) c.loop-line.grid.seats total 256 c.loop-line.line-index c.args.lines.now c.line-item.result
    c.loop-line-test.true c.line-item.is c.loop-line.invariant.seats few)
