-- A shelf on which some files are replaced.
use Rattle.std.specs.Prelude.{ℕ, Bool, ◌==◌, nat_lt, List, drop, slice_index, Option, Some, None, if◌then◌else◌}
use Rattle.std.specs.List.{find}
use Rattle.std.specs.Str.{bytes_eq}
use Rattle.lsl_ports.specs.Shelf.{Files}
use Rattle.lsl_trace.specs.declared.copies.Replaced.{Replaced}

-- A name that doesn't begin with a byte, so that no file has it. Under these names the shelf reports what is below it:
-- code that passes it on knows that it is still over the same shelf.
abbrev pub is_aside : List ℕ → Bool
is_aside name = nat_lt 255 (slice_index name 0)

-- what is in place of a file, or the file
abbrev pub text_over : Option Replaced → Option (List ℕ) → Option (List ℕ)
text_over None file = file
text_over (Some replaced) file = Some replaced.text.items

abbrev pub is_named : List ℕ → Replaced → Bool
is_named name r = bytes_eq r.name.items name

abbrev pub files_over : List Replaced → Files → Files
files_over all files name =
    if is_aside name then files (drop 1 name) else text_over (find (is_named name) all) (files name)

-- where the shelf below reports its files, the first that replaces a name's file counts
abbrev pub held_over : List Replaced → Option Files → Option Files
held_over all None = None
held_over all (Some files) = Some (files_over all files)

-- aside, the counts of the shelf below, and 1 for its own number
abbrev pub faults_aside : ℕ → (List ℕ → ℕ) → List ℕ → ℕ
faults_aside number faults name =
    if slice_index name 1 == 0 then faults (drop 2 name) else (if slice_index name 2 == number then 1 else 0)

-- the counts of the shelf below, which has this number
abbrev pub faults_over : ℕ → (List ℕ → ℕ) → List ℕ → ℕ
faults_over number faults name = if is_aside name then faults_aside number faults name else faults name
