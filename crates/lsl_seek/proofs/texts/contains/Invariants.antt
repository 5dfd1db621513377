use Rattle.std.proofs.Common.{◌≡◌, length}
use Rattle.lsl_seek.specs.Aims.{contains}
use Rattle.lsl_seek.proofs.texts.contains.Given as goal

abbrev pub invariant-bytes : goal.invariant-bytes
invariant-bytes l = contains l.rest l.part ≡ contains l.text l.part

abbrev pub decreases-bytes : goal.decreases-bytes
decreases-bytes l = length l.rest
