use Rattle.std.proofs.Common.{◌≡◌, ◌+◌, ℕ, None, get_or, length}
use Rattle.lsl_gen.proofs.labels.widen.Given as goal

abbrev pub invariant-loop : goal.invariant-loop
invariant-loop l = ((k : ℕ) → get_or l.places.items k None ≡ get_or l.fn.places.items k None)
    × (length l.places.items ≡ length l.fn.places.items + l.counter)
