use Rattle.std.proofs.Common.{◌≡◌, ◌+◌, take}
use Rattle.lsl_compact.specs.Places.{span}
use Rattle.lsl_compact.proofs.pieces.place_in.Given as goal

-- what is left of the place
abbrev pub invariant-loop-piece : goal.invariant-loop-piece
invariant-loop-piece l = l.fn.place ≡ span (take l.piece-index l.pieces) + l.left
