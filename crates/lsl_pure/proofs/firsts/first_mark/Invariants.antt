use Rattle.std.proofs.Common.{◌≡◌, map, drop}
use Rattle.lsl_pure.specs.Parsing.{first_mark}
use Rattle.lsl_pure.specs.Spelling.{spelled_mark}
use Rattle.lsl_pure.proofs.firsts.first_mark.Given as goal

abbrev pub invariant-marks : goal.invariant-marks
invariant-marks l = first_mark (map spelled_mark (drop l.mark-index l.marks)) l.text
    ≡ first_mark (map spelled_mark l.marks) l.text
