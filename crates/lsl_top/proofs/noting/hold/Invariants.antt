use Rattle.std.proofs.Common.{◌≡◌, take}
use Rattle.lsl_top.specs.Notes.{notecards_of}
use Rattle.lsl_top.proofs.noting.hold.Given as goal

abbrev pub invariant-loop-line : goal.invariant-loop-line
invariant-loop-line l = l.cards ≡ notecards_of (take l.line-index l.lines) l.read
