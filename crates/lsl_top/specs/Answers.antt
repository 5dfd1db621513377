-- What a command answers, by the files, by the world that was frozen before and by what came back for what was sent: a
-- case for each.
use Rattle.std.specs.Prelude.{◌≡◌, ℕ, ◌⊎◌, List, [], ◌∷◌, Option, Some}
use Rattle.lsl_ports.specs.Shelf.{Files}
use Rattle.lsl_ports.specs.Trips.{Trip}
use Rattle.lsl_tree.specs.Program.{Program}
use Rattle.lsl_build.specs.Accepted.{Accepted}
use Rattle.lsl_build.specs.Faults.{FirstFault}
use Rattle.lsl_build.specs.declared.faults.BuildFault.{BuildFault}
use Rattle.lsl_build.specs.Codes.{AreCodesOf}
use Rattle.lsl_code.specs.declared.woven_units.Woven.{Woven as Code}
use Rattle.lsl_lines.specs.World.{FileFirst, IsWorld}
use Rattle.lsl_lines.specs.declared.faults.FileFault.{FileFault}
use Rattle.lsl_lines.specs.declared.file.WorldFile.{WorldFile}
use Rattle.lsl_image.specs.declared.faults.ImageFault.{ImageFault}
use Rattle.lsl_image.specs.declared.parts.WorldParts.{WorldParts}
use Rattle.lsl_notes.specs.declared.cards.Notecard.{Notecard}
use Rattle.lsl_notes.specs.declared.faults.CardFault.{CardFault}
use Rattle.lsl_region.specs.Worlds.{World}
use Rattle.lsl_view.specs.Globals.{HaveGlobals}
use Rattle.lsl_view.specs.Names.{script_names}
use Rattle.lsl_view.specs.Parts.{view_of_parts}
use Rattle.lsl_world.specs.Lossy.{lossy_stage}
use Rattle.lsl_world.specs.Programs.{rules_of}
use Rattle.lsl_world.specs.Regions.{regions_of_file}
use Rattle.lsl_world.specs.Starts.{start}
use Rattle.lsl_world.specs.Travels.{travel}
use Rattle.lsl_top.specs.Held.{AreRead, Holds}
use Rattle.lsl_top.specs.Lines.{accepted_line, image_refusal_of, note_refusal_of, refusal_of, world_refusal_of}
use Rattle.lsl_top.specs.Made.{made_files, made_line, made_name}
use Rattle.lsl_top.specs.Pieces.{Piece, lines_in, pieces_at, pieces_from, sent_in}
use Rattle.lsl_top.specs.Plays.{Mode, Whole, Handing, Freezing, Inspecting, Thawing, Play, Read, file_in, inspected, play_of, play_of_once, Last, Homes, Frozen, Inspected, Viewing}
use Rattle.lsl_top.specs.Notes.{AreCards, FirstBad, notecards_of}
use Rattle.lsl_top.specs.Scripts.{AreAccepted, FirstRefused}
use Rattle.lsl_top.specs.Thaws.{CanThaw, IsThawFault, IsThawOf}
use Rattle.lsl_top.specs.Words.{Command, Once, Check, Replay, Lossy, Freeze, Thaw, Make, View, State}
use Rattle.lsl_top.specs.declared.status.Status.{Status}
use Rattle.lsl_top.specs.declared.status.Status.TheVariants.{Ok, Usage, BadWorld, BadScript, ReadFault, WriteFault, BadImage, NoMemory, BadNote}

-- how a command ends, with its whole output and all that it hands to the link, piece by piece
pub record Answer : Type 0 where
  pub status : Status
  pub pieces : List Piece

-- these lines are written, and nothing is sent
abbrev pub plain : Status → List ℕ → Answer
plain status lines = record { status = status; pieces = record { lines = lines; sent = [] } ∷ [] }

abbrev pub done : List ℕ → Answer
done lines = plain Ok lines

abbrev pub script_refused : List ℕ → BuildFault → Answer
script_refused name fault = plain BadScript (refusal_of name fault)

abbrev pub world_refused : List ℕ → FileFault → Answer
world_refused name fault = plain BadWorld (world_refusal_of name fault)

abbrev pub note_refused : List ℕ → CardFault → Answer
note_refused name fault = plain BadNote (note_refusal_of name fault)

abbrev pub image_refused : List ℕ → ImageFault → Answer
image_refused name fault = plain BadImage (image_refusal_of name fault)

-- what is answered to a run from a world, by the trips that are made
abbrev pub run_answer : Last → List Code → List Program → WorldFile → List Trip → World → Answer
run_answer last codes programs world trips w =
    record { status = Ok; pieces = pieces_from last codes (rules_of programs) world.steps trips w }

-- what is answered to a run from a world at its start, where objects are handed over by notes
abbrev pub lossy_answer : List Code → List Program → WorldFile → List Trip → World → Answer
lossy_answer codes programs file trips w =
    let regions = regions_of_file file in
    record {
      status = Ok;
      pieces = pieces_at Homes codes (rules_of programs) regions file.steps trips (lossy_stage regions w);
    }

-- an answer that is due, or one that was written: in that case the world that was frozen can be thawed too
pub data Grade : Type 0 where
  Due : Grade
  Written : Grade

abbrev pub Lasts : Grade → Last → List Code → List Program → WorldFile → List Notecard → World → Type 0
Lasts Due last codes programs file cards w = Unit {0}
Lasts Written Homes codes programs file cards w = Unit {0}
Lasts Written Frozen codes programs file cards w = CanThaw codes programs file cards w
Lasts Written (Inspected names) codes programs file cards w = Unit {0}

-- a run from the file's start
abbrev pub ComesFromStart : Grade → List Trip → Last → List Code → List Program → WorldFile → List Notecard → Answer
    → Type 0
ComesFromStart grade trips last codes programs file cards answer =
    let w = start (rules_of programs) file cards in
    Lasts grade last codes programs file cards (travel (rules_of programs) file.steps trips w).value
    × (answer ≡ run_answer last codes programs file trips w)

-- what is shown of the text of a frozen world of the file: where its scripts are in their code, by its parts; or its
-- refusal
abbrev pub Shows : List Code → WorldFile → (name text : List ℕ) → Answer → Type 0
Shows codes file name text answer =
    ((parts : WorldParts) × IsThawOf codes file text parts
    × (answer ≡ done (view_of_parts codes (script_names file) parts)))
    ⊎ ((fault : ImageFault) × IsThawFault codes file text fault × (answer ≡ image_refused name fault))

-- a run from the file's start, and then all that the world holds, with the names that the file and the scripts' texts
-- have
abbrev pub Inspects : Grade → List Trip → (texts : List (List ℕ)) → List Code → List Program → WorldFile → List Notecard
    → Answer → Type 0
Inspects grade trips texts codes programs file cards answer =
    (globals : List (List (List ℕ))) × HaveGlobals texts globals
    × ComesFromStart grade trips (inspected file globals) codes programs file cards answer

-- the result of scripts whose texts are accepted as these programs, with these notecards: a run from the file's start,
-- or from the world that was frozen, where the text is of a frozen world of the file; or that world is shown
abbrev pub Comes : Grade → World → List Trip → Mode → (texts : List (List ℕ)) → List Code → List Program → WorldFile
    → List Notecard → List ℕ → Answer → Type 0
Comes grade from trips Whole texts codes programs file cards text answer =
    ComesFromStart grade trips Homes codes programs file cards answer
Comes grade from trips Handing texts codes programs file cards text answer =
    answer ≡ lossy_answer codes programs file trips (start (rules_of programs) file cards)
Comes grade from trips Freezing texts codes programs file cards text answer =
    ComesFromStart grade trips Frozen codes programs file cards answer
Comes grade from trips (Inspecting at) texts codes programs file cards text answer =
    Inspects grade trips texts codes programs file cards answer
Comes grade from trips (Thawing name) texts codes programs file cards text answer =
    ((parts : WorldParts) × IsThawOf codes file text parts
    × (answer ≡ run_answer Homes codes programs file trips from))
    ⊎ ((fault : ImageFault) × IsThawFault codes file text fault × (answer ≡ image_refused name fault))
Comes grade from trips (Viewing name) texts codes programs file cards text answer = Shows codes file name text answer

-- the answer to a play whose scripts are accepted, where its other files have these texts, its notecards' and the
-- frozen one: the result of the programs, by their code, or the refusal of the first text that isn't a notecard
abbrev pub PlaysAccepted : Grade → World → List Trip → Play → (texts : List (List ℕ)) → List Code → List Program
    → (notes : List (List ℕ)) → List ℕ → Answer → Type 0
PlaysAccepted grade from trips play texts codes programs notes text answer =
    ((cards : List (List (List ℕ))) × AreCards notes cards
    × Comes grade from trips play.mode texts codes programs play.world (notecards_of play.world.notes cards) text answer)
    ⊎ ((name : List ℕ) × (fault : CardFault) × FirstBad play.cards notes name fault
    × (answer ≡ note_refused name fault))

-- the answer to a play whose files have these texts, its scripts' first: the result of the programs, or the refusal of
-- the first script that isn't accepted
abbrev pub PlaysTexts : Grade → World → List Trip → Play → (texts notes : List (List ℕ)) → List ℕ → Answer → Type 0
PlaysTexts grade from trips play texts notes text answer =
    ((programs : List Program) × (codes : List Code) × AreAccepted texts programs × AreCodesOf texts codes
    × PlaysAccepted grade from trips play texts codes programs notes text answer)
    ⊎ ((name : List ℕ) × (fault : BuildFault) × FirstRefused play.names texts name fault
    × (answer ≡ script_refused name fault))

abbrev pub PlaysRead : Grade → World → List Trip → Play → Read → Answer → Type 0
PlaysRead grade from trips play read answer =
    PlaysTexts grade from trips play read.texts read.notes read.frozen answer

abbrev pub Plays : Grade → Option Files → World → List Trip → Play → Answer → Type 0
Plays grade held from trips play answer =
    (read : Read) × AreRead held play read × PlaysRead grade from trips play read answer

-- a text is accepted, or refused for its first fault
abbrev pub Checks : List ℕ → List ℕ → Answer → Type 0
Checks name text answer =
    ((program : Program) × Accepted text program × (answer ≡ done (accepted_line name)))
    ⊎ ((fault : BuildFault) × FirstFault text fault × (answer ≡ script_refused name fault))

-- these bytes are a world, which is played in this mode, or are refused for their first fault
abbrev pub Replays : Grade → Option Files → World → List Trip → Mode → List ℕ → List ℕ → Answer → Type 0
Replays grade held from trips mode name bytes answer =
    ((file : WorldFile) × IsWorld bytes file × Plays grade held from trips (play_of mode (file_in mode file)) answer)
    ⊎ ((fault : FileFault) × FileFirst bytes fault × (answer ≡ world_refused name fault))

-- a world file is read, and played in this mode
abbrev pub ReplaysFile : Grade → Option Files → World → List Trip → Mode → List ℕ → Answer → Type 0
ReplaysFile grade held from trips mode name answer =
    (bytes : List ℕ) × Holds held name bytes × Replays grade held from trips mode name bytes answer

-- one line in place of the report of a seed's world, after all that its run sends
abbrev pub made_piece : ℕ → List Piece → Piece
made_piece number pieces = record { lines = made_line number (lines_in pieces); sent = sent_in pieces }

-- the answer where the world of a seed was run with this answer; a refusal stays as it is
abbrev pub summed_as : Status → ℕ → Answer → Answer
summed_as Ok number answer = record { status = Ok; pieces = made_piece number answer.pieces ∷ [] }
summed_as Usage number answer = answer
summed_as BadWorld number answer = answer
summed_as BadScript number answer = answer
summed_as ReadFault number answer = answer
summed_as WriteFault number answer = answer
summed_as BadImage number answer = answer
summed_as NoMemory number answer = answer
summed_as BadNote number answer = answer

abbrev pub summed : ℕ → Answer → Answer
summed number answer = summed_as answer.status number answer

-- the world of a seed is replayed, from texts that no file has
abbrev pub Makes : Grade → World → List Trip → ℕ → Answer → Type 0
Makes grade from trips number answer =
    (whole : Answer) × ReplaysFile grade (Some (made_files number)) from trips Whole made_name whole
    × (answer ≡ summed number whole)

-- the answer of a command over these files, where this world was frozen before and these trips were made
abbrev pub Answers : Grade → Option Files → World → List Trip → Command → Answer → Type 0
Answers grade held from trips (Once name) answer = Plays grade held from trips (play_of_once name) answer
Answers grade held from trips (Check name) answer = (text : List ℕ) × Holds held name text × Checks name text answer
Answers grade held from trips (Replay name) answer = ReplaysFile grade held from trips Whole name answer
Answers grade held from trips (Lossy name) answer = ReplaysFile grade held from trips Handing name answer
Answers grade held from trips (Freeze name) answer = ReplaysFile grade held from trips Freezing name answer
Answers grade held from trips (Thaw frozen name) answer = ReplaysFile grade held from trips (Thawing frozen) name answer
Answers grade held from trips (View frozen name) answer = ReplaysFile grade held from trips (Viewing frozen) name answer
Answers grade held from trips (Make number) answer = Makes grade from trips number answer
Answers grade held from trips (State at name) answer = ReplaysFile grade held from trips (Inspecting at) name answer
