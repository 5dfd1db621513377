-- What is written if a world and its notecards are good and its scripts are accepted.
use Rattle.std.specs.Prelude.{◌≡◌, ◌⊎◌, ℕ, All, List, [], ◌∷◌, ◌++◌}
use Rattle.std.specs.List.{AllZip}
use Rattle.lsl_ports.specs.Growth.{Begins}
use Rattle.lsl_ports.specs.Shelf.{Files}
use Rattle.lsl_ports.specs.Trips.{Trip}
use Rattle.lsl_lines.specs.Journal.{lines_of}
use Rattle.lsl_lines.specs.declared.file.WorldFile.{WorldFile}
use Rattle.lsl_notes.specs.declared.cards.Notecard.{Notecard}
use Rattle.lsl_post.specs.declared.entries.Entry.{Entry}
use Rattle.lsl_tree.specs.Program.{Program}
use Rattle.lsl_world.specs.Programs.{rules_of}
use Rattle.lsl_world.specs.Reports.{homes, journal_of}
use Rattle.lsl_world.specs.Starts.{start}
use Rattle.lsl_world.specs.Steps.{reference}
use Rattle.lsl_top.specs.Headline.{AreGood, IsScriptIn}
use Rattle.lsl_top.specs.Laws.{copies}
use Rattle.lsl_top.specs.Plays.{once_world}
use Rattle.lsl_top.specs.Status.{number_of}
use Rattle.lsl_top.specs.Words.{Command, Once, Check, Replay, Lossy, Freeze, Thaw, Make, View, State}
use Rattle.lsl_top.specs.declared.status.Status.TheVariants.{Ok, WriteFault, NoMemory}

-- the command plays this world with these notecards from its start to its end, and the world's scripts are accepted as
-- these programs
abbrev pub Runs : Files → Command → WorldFile → List Program → List Notecard → Type 0
Runs files (Once name) file programs cards =
    (file ≡ once_world) × (cards ≡ []) × AllZip (IsScriptIn files) (name ∷ []) programs
Runs files (Replay name) file programs cards = AreGood files name file programs cards
Runs files (Check name) file programs cards = ⊥
Runs files (Lossy name) file programs cards = ⊥
Runs files (Freeze name) file programs cards = ⊥
Runs files (Thaw frozen name) file programs cards = ⊥
Runs files (View frozen name) file programs cards = ⊥
Runs files (Make number) file programs cards = ⊥
Runs files (State at name) file programs cards = ⊥

-- each of these trips brought back what was sent
abbrev pub AreCopied : List Trip → Type 0
AreCopied trips = All (λ (t : Trip). copies t.sent t.back) trips

-- the journal of a file with scripts of these programs, if all steps are done: no crossing is refused
abbrev pub whole_journal : List Program → WorldFile → List Notecard → List Entry
whole_journal programs file cards =
    let all = reference (rules_of programs) file.steps (start (rules_of programs) file cards) in
    all.entries ++ homes all.value

-- a prefix of its journal, by trips of which each brought back what was sent
abbrev pub IsFirst : WorldFile → List Program → List Notecard → List ℕ → Type 0
IsFirst file programs cards output =
    (trips : List Trip) × AreCopied trips × Begins output (lines_of (journal_of programs file cards trips))

-- the whole journal was written, or a prefix of it, if the buffer was full or memory ran out
abbrev pub WritesJournal : WorldFile → List Program → List Notecard → ℕ → List ℕ → Type 0
WritesJournal file programs cards number output =
    ((number ≡ number_of Ok) × (output ≡ lines_of (whole_journal programs file cards)))
    ⊎ (((number ≡ number_of WriteFault) ⊎ (number ≡ number_of NoMemory)) × IsFirst file programs cards output)
