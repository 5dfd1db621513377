use Rattle.std.proofs.Common.{◌≡◌, ◌+◌, length}
use Rattle.lsl_lines.specs.Reading.{place_of}
use Rattle.lsl_lines.proofs.additions.place_of.Given as goal

abbrev pub invariant-names : goal.invariant-names
invariant-names l = (l.place + place_of l.rest l.file ≡ place_of l.files l.file)
    × (l.place + length l.rest ≡ length l.files)

abbrev pub decreases-names : goal.decreases-names
decreases-names l = length l.rest
