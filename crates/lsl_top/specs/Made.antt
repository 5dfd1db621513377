-- The world generated from a seed: the files from which it is replayed, and the line that is written in place of its
-- report.
use Rattle.std.specs.Prelude.{ℕ, codes, decimal, List, [], ◌∷◌, ◌++◌, Some, if◌then◌else◌}
use Rattle.std.specs.Str.{bytes_eq}
use Rattle.hex.specs.Hex.{encode_lower}
use Rattle.sha2.specs.Sha256.{sha256}
use Rattle.lsl_digest.specs.Lines.{count_lines}
use Rattle.lsl_made.specs.Walker.{walker_text}
use Rattle.lsl_made.specs.World.{world_text}
use Rattle.lsl_ports.specs.Shelf.{Files}

abbrev pub made_name : List ℕ
made_name = codes "made"

-- a world file of this name, and under every other name the text of a script
abbrev pub two_files : List ℕ → List ℕ → Files
two_files world script name = if bytes_eq name made_name then Some world else Some script

-- the world file of a seed names one script, which always has the same text
abbrev pub made_files : ℕ → Files
made_files number = two_files (world_text number) walker_text

-- the seed, the number of lines of a report, and its digest
abbrev pub made_line : ℕ → List ℕ → List ℕ
made_line number report =
    codes "made " ++ (decimal number ++ (codes " lines " ++ (decimal (count_lines report)
    ++ (codes " sha256 " ++ (encode_lower (sha256 report) ++ 10 ∷ [])))))
