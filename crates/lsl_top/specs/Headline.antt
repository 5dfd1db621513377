-- Good files and accepted scripts, and the result of a call over them.
use Rattle.std.specs.Prelude.{◌≡◌, ℕ, ◌⊎◌, List, [], ◌∷◌, ◌++◌, Option, Some}
use Rattle.std.specs.List.{AllZip}
use Rattle.lsl_ports.specs.Shelf.{Files}
use Rattle.lsl_ports.specs.Growth.{Grew, GrewPartly}
use Rattle.lsl_ports.specs.Trips.{Trip}
use Rattle.lsl_code.specs.declared.woven_units.Woven.{Woven as Code}
use Rattle.lsl_tree.specs.Program.{Program}
use Rattle.lsl_build.specs.Accepted.{Accepted}
use Rattle.lsl_build.specs.Codes.{AreCodesOf}
use Rattle.lsl_lines.specs.Frozen.{IsFrozen, frozen_line}
use Rattle.lsl_lines.specs.Journal.{lines_of}
use Rattle.lsl_lines.specs.World.{IsWorld}
use Rattle.lsl_lines.specs.declared.file.Step.{Step}
use Rattle.lsl_lines.specs.declared.file.WorldFile.{WorldFile}
use Rattle.lsl_notes.specs.declared.cards.Notecard.{Notecard}
use Rattle.lsl_notes.specs.Card.{IsCard}
use Rattle.lsl_region.specs.Worlds.{World}
use Rattle.lsl_world.specs.Frozen.{AgreesWith, IsImageIn, frozen_image, parts_of_world}
use Rattle.lsl_world.specs.Kept.{kept_steps, regions_of}
use Rattle.lsl_world.specs.Lossy.{kept_lossy}
use Rattle.lsl_world.specs.Programs.{rules_of}
use Rattle.lsl_world.specs.Reports.{homes, journal_of}
use Rattle.lsl_world.specs.Starts.{start}
use Rattle.lsl_world.specs.Steps.{reference}
use Rattle.lsl_view.specs.Globals.{HaveGlobals}
use Rattle.lsl_view.specs.Source.{view_of_world}
use Rattle.lsl_view.specs.StateParts.{state_of_parts}
use Rattle.lsl_view.specs.declared.known.Names.{Names}
use Rattle.lsl_top.specs.Held.{AreHeld}
use Rattle.lsl_top.specs.Made.{made_files, made_line, made_name}
use Rattle.lsl_top.specs.Plays.{Last, Homes, Frozen, Inspected, cards_in, inspected, names_in, once_world}
use Rattle.lsl_top.specs.Positions.{file_until}
use Rattle.lsl_top.specs.Words.{Command, Once, Check, Replay, Lossy, Freeze, Thaw, Make, View, State}
use Rattle.lsl_top.specs.Notes.{notecards_of}
use Rattle.lsl_top.specs.declared.status.Status.{Status}
use Rattle.lsl_top.specs.declared.status.Status.TheVariants.{Ok, NoMemory}

-- the file of that name is there, and is accepted as this program
abbrev pub IsScriptIn : Files → List ℕ → Program → Type 0
IsScriptIn files name program = (text : List ℕ) × (files name ≡ Some text) × Accepted text program

-- the files of these names are there, and their texts have this code
abbrev pub IsCodeIn : Files → List (List ℕ) → List Code → Type 0
IsCodeIn files names codes = (texts : List (List ℕ)) × AreHeld (Some files) names texts × AreCodesOf texts codes

-- the files of these names are there, and their texts have globals of these names
abbrev pub AreGlobalsIn : Files → (names : List (List ℕ)) → List (List (List ℕ)) → Type 0
AreGlobalsIn files names globals =
    (texts : List (List ℕ)) × AreHeld (Some files) names texts × HaveGlobals texts globals

-- the file of that name is there, and is the file of this world
abbrev pub IsWorldIn : Files → List ℕ → WorldFile → Type 0
IsWorldIn files name file = (bytes : List ℕ) × (files name ≡ Some bytes) × IsWorld bytes file

-- the file of that name is there, and is a notecard of these lines
abbrev pub IsCardIn : Files → List ℕ → List (List ℕ) → Type 0
IsCardIn files name card = (bytes : List ℕ) × (files name ≡ Some bytes) × IsCard bytes card

-- good files: that of the world, those of its scripts, which are accepted as these programs, and those of its notecards
pub record AreGood (files : Files) (name : List ℕ) (file : WorldFile) (programs : List Program) (cards : List Notecard)
    : Type 0 where
  pub world : IsWorldIn files name file
  pub scripts : AllZip (IsScriptIn files) (names_in file) programs
  pub read : List (List (List ℕ))
  pub notes : AllZip (IsCardIn files) (cards_in file) read
  pub cards_are : cards ≡ notecards_of file.notes read

-- the file of that name is there, and its last line is the image of this world, which agrees with the world's file
abbrev pub IsFrozenIn : Files → List ℕ → List Code → List Program → WorldFile → List Notecard → World → Type 0
IsFrozenIn files name codes programs file cards from =
    (text : List ℕ) × (bytes : List ℕ) × (files name ≡ Some text) × IsFrozen text bytes
    × AgreesWith programs file cards from × IsImageIn codes file (parts_of_world codes from) bytes

-- the steps that are kept in a run from a world
abbrev pub kept_from : WorldFile → List Trip → World → List Step
kept_from file trips w = kept_steps (regions_of w) file.steps trips

-- the journal of the scripts' meaning over the steps without refused crossings, and then where each object is
abbrev pub report_from : List Program → WorldFile → List Trip → World → List ℕ
report_from programs file trips w =
    let all = reference (rules_of programs) (kept_from file trips w) w in
    lines_of (all.entries ++ homes all.value)

-- that journal, and then the image of the world to which the steps lead
abbrev pub frozen_from : List Code → List Program → WorldFile → List Trip → World → List ℕ
frozen_from codes programs file trips w =
    let all = reference (rules_of programs) (kept_from file trips w) w in
    lines_of all.entries ++ frozen_line (frozen_image codes all.value)

-- that journal, and then all that the world holds to which the steps lead, with these names
abbrev pub inspected_from : List Code → Names → List Program → WorldFile → List Trip → World → List ℕ
inspected_from codes names programs file trips w =
    let all = reference (rules_of programs) (kept_from file trips w) w in
    lines_of all.entries ++ state_of_parts codes names (parts_of_world codes all.value)

-- the journal of the scripts' meaning over the steps without the crossings whose offer didn't come, or came after its
-- cancel, and then where each object is
abbrev pub lossy_report : List Program → WorldFile → List Trip → World → List ℕ
lossy_report programs file trips w =
    let all = reference (rules_of programs) (kept_lossy (regions_of w) [] file.steps trips) w in
    lines_of (all.entries ++ homes all.value)

-- what a run from a world writes
abbrev pub output_from : Last → List Code → List Program → WorldFile → List Trip → World → List ℕ
output_from Homes codes programs file trips w = report_from programs file trips w
output_from Frozen codes programs file trips w = frozen_from codes programs file trips w
output_from (Inspected names) codes programs file trips w = inspected_from codes names programs file trips w

-- what a command that runs or shows a world is to write, where this world was frozen and these trips were made
abbrev pub Outputs : Files → World → Command → List Trip → List ℕ → Type 0
Outputs files from (Once name) trips lines =
    (programs : List Program) × AllZip (IsScriptIn files) (name ∷ []) programs
    × (lines ≡ lines_of (journal_of programs once_world [] trips))
Outputs files from (Check name) trips lines = ⊥
Outputs files from (Replay name) trips lines =
    (file : WorldFile) × (programs : List Program) × (cards : List Notecard) × AreGood files name file programs cards
    × (lines ≡ lines_of (journal_of programs file cards trips))
Outputs files from (Lossy name) trips lines =
    (file : WorldFile) × (programs : List Program) × (cards : List Notecard) × AreGood files name file programs cards
    × (lines ≡ lossy_report programs file trips (start (rules_of programs) file cards))
Outputs files from (Freeze name) trips lines =
    (file : WorldFile) × (programs : List Program) × (codes : List Code) × (cards : List Notecard)
    × AreGood files name file programs cards
    × IsCodeIn files (names_in file) codes
    × (lines ≡ frozen_from codes programs file trips (start (rules_of programs) file cards))
Outputs files from (Thaw frozen name) trips lines =
    (file : WorldFile) × (programs : List Program) × (codes : List Code) × (cards : List Notecard)
    × AreGood files name file programs cards
    × IsCodeIn files (names_in file) codes × IsFrozenIn files frozen codes programs file cards from
    × (lines ≡ report_from programs file trips from)
Outputs files from (View frozen name) trips lines =
    (file : WorldFile) × (programs : List Program) × (codes : List Code) × (cards : List Notecard)
    × AreGood files name file programs cards
    × IsCodeIn files (names_in file) codes × IsFrozenIn files frozen codes programs file cards from
    × (lines ≡ view_of_world programs from)
Outputs files from (Make number) trips lines =
    (file : WorldFile) × (programs : List Program) × (cards : List Notecard)
    × AreGood (made_files number) made_name file programs cards
    × (lines ≡ made_line number (lines_of (journal_of programs file cards trips)))
Outputs files from (State at name) trips lines =
    (file : WorldFile) × (programs : List Program) × (codes : List Code) × (cards : List Notecard)
    × (globals : List (List (List ℕ))) × AreGood files name file programs cards
    × IsCodeIn files (names_in file) codes × AreGlobalsIn files (names_in file) globals
    × (lines ≡ output_from (inspected file globals) codes programs (file_until at file) trips
    (start (rules_of programs) file cards))

-- the sink grew by exactly these lines, or memory ran out, and it grew by a prefix of them
abbrev pub WritesLines : List ℕ → Status → Option (List ℕ) → Option (List ℕ) → Type 0
WritesLines lines status old new =
    ((status ≡ Ok) × Grew old new lines) ⊎ ((status ≡ NoMemory) × GrewPartly old new lines)
