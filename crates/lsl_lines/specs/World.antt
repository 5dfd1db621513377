-- The world that a file describes, or the file's first fault.
use Rattle.std.specs.Prelude.{◌≡◌, ℕ, ◌+◌, nat_le, cond, List, [], ◌∷◌, length, Result, Ok, Err}
use Rattle.lsl_text.specs.declared.Refusal.{Refusal}
use Rattle.lsl_text.specs.declared.Refusal.TheVariants.{Fault, NoMemory}
use Rattle.lsl_lines.specs.Lines.{lines_of}
use Rattle.lsl_lines.specs.Reading.{begun, read_line}
use Rattle.lsl_lines.specs.declared.faults.FileFault.{FileFault}
use Rattle.lsl_lines.specs.declared.faults.FileKind.{FileKind}
use Rattle.lsl_lines.specs.declared.faults.FileKind.TheVariants.{NoBegin, NoEnd, TooLong}
use Rattle.lsl_lines.specs.declared.file.WorldFile.{WorldFile}
use Rattle.lsl_lines.specs.declared.reading.Part.{Part}
use Rattle.lsl_lines.specs.declared.reading.Part.TheVariants.{Objects, Steps, Ended}
use Rattle.lsl_lines.specs.declared.reading.Reading.{Reading}

abbrev pub fault_at : ℕ → FileKind → FileFault
fault_at line kind = record { kind = kind; line = line }

-- the file of what was read, where its `end` was
abbrev pub file_of : ℕ → Part → Reading → Result WorldFile FileFault
file_of line Objects r = Err (fault_at line NoBegin)
file_of line Steps r = Err (fault_at line NoEnd)
file_of line Ended r = Ok (record {
  objects = r.objects;
  files = r.files;
  cards = r.cards;
  notes = r.notes;
  steps = r.steps;
})

-- the result of these lines, the first of which has this number, after what was read
abbrev pub world_from : ℕ → Reading → List (List ℕ) → Result WorldFile FileFault
world_from line r [] = file_of line r.part r
world_from line r (bytes ∷ lines) = elim (read_line bytes r) [
  | Ok next ↦ world_from (line + 1) next lines
  | Err kind ↦ Err (fault_at line kind)
]

-- the world of a file: its lines are read in turn, and numbered from 1
unfoldable pub world_of : List ℕ → Result WorldFile FileFault
world_of text =
    cond (nat_le (length text) 1048576) (world_from 1 begun (lines_of text)) (Err (fault_at 0 TooLong))

-- the text is the file of this world
abbrev pub IsWorld : List ℕ → WorldFile → Type 0
IsWorld text file = world_of text ≡ Ok file

-- the text's first fault
abbrev pub FileFirst : List ℕ → FileFault → Type 0
FileFirst text fault = world_of text ≡ Err fault

-- the text is refused for its first fault, or because memory ran out
abbrev pub IsRefused : List ℕ → Refusal FileFault → Type 0
IsRefused text (Fault fault) = FileFirst text fault
IsRefused text NoMemory = Unit {0}
