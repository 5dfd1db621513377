use Rattle.std.proofs.Common.{ℕ, ◌≡◌, ◌<◌, ◌+◌, ◌-◌, Some, length, drop, slice_get}
use Rattle.lsl_weave.specs.Layout.{place_of}
use Rattle.lsl_weave.proofs.tables.place_table.Given as goal

-- the places in the code from here on
abbrev pub invariant-loop-i : goal.invariant-loop-i
invariant-loop-i l =
    (p : ℕ) → p < l.points
    → slice_get l.places.items p ≡ Some (length l.code - l.i + place_of p (drop (length l.code - l.i) l.code))
