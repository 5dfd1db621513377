use Rattle.std.proofs.Common.{◌≡◌, ◌+◌, length, take}
use Rattle.lsl_region.proofs.arrival.make_room.Given as goal

abbrev pub invariant-loop : goal.invariant-loop
invariant-loop l =
    (length l.out ≡ length l.fn.out + l.counter) × (take (length l.fn.out) l.out ≡ l.fn.out)
