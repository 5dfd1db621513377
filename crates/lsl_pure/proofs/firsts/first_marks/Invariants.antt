use Rattle.std.proofs.Common.{map, take}
use Rattle.lsl_pure.specs.Firsts.{AreFirst}
use Rattle.lsl_pure.specs.Spelling.{spelled_mark}
use Rattle.lsl_pure.proofs.firsts.first_marks.Given as goal

abbrev pub invariant-marks : goal.invariant-marks
invariant-marks l = AreFirst (map spelled_mark (take l.number l.marks)) l.text l.firsts.items
