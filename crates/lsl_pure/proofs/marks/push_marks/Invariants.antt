use Rattle.std.proofs.Common.{◌≡◌, ◌++◌, take}
use Rattle.lsl_pure.specs.Parsing.{marks_among}
use Rattle.lsl_pure.proofs.marks.push_marks.Given as goal

abbrev pub invariant-atoms : goal.invariant-atoms
invariant-atoms l = l.marks.items ≡ l.initial.marks.items ++ marks_among l.spacer (take l.atom-index l.atom-items)
