use Rattle.std.proofs.Common.{◌-◌, length, map}
use Rattle.lsl_pure.specs.Spelling.{spelled_mark}
use Rattle.lsl_pure.proofs.ParsingLemmas.{IsCutting}
use Rattle.lsl_pure.proofs.parsing.cut.Given as goal

abbrev pub invariant-places : goal.invariant-places
invariant-places l = IsCutting l.keep_nulls (map spelled_mark l.marks) l.text l.items l.start l.at

abbrev pub decreases-places : goal.decreases-places
decreases-places l = length l.text - l.at
