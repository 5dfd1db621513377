use Rattle.std.proofs.Common.{◌≡◌, ◌+◌, ◌≤◌, length}
use Rattle.lsl_lines.specs.Lines.{lines_of}
use Rattle.lsl_lines.specs.Reading.{begun}
use Rattle.lsl_lines.specs.World.{world_from}
use Rattle.lsl_lines.proofs.world.read_file.Given as goal

abbrev pub invariant-lines : goal.invariant-lines
invariant-lines l = (world_from l.number l.reading (lines_of l.rest) ≡ world_from 1 begun (lines_of l.text))
    × (l.number + length l.rest ≤ 1048577)

abbrev pub decreases-lines : goal.decreases-lines
decreases-lines l = length l.rest
