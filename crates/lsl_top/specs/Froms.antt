-- The worlds that can have been frozen, by the files of a command: if they have a frozen world of the command's world
-- file, it is that one. Where a command thaws nothing, any.
use Rattle.std.specs.Prelude.{ℕ, List, Option, Some, None}
use Rattle.lsl_ports.specs.Shelf.{Files}
use Rattle.lsl_build.specs.Codes.{AreCodesOf}
use Rattle.lsl_code.specs.declared.woven_units.Woven.{Woven as Code}
use Rattle.lsl_lines.specs.World.{IsWorld}
use Rattle.lsl_lines.specs.declared.file.WorldFile.{WorldFile}
use Rattle.lsl_notes.specs.declared.cards.Notecard.{Notecard}
use Rattle.lsl_tree.specs.Program.{Program}
use Rattle.lsl_region.specs.Worlds.{World}
use Rattle.lsl_top.specs.Held.{AreRead, Holds}
use Rattle.lsl_top.specs.Plays.{Mode, Whole, Handing, Freezing, Inspecting, Thawing, Viewing, Play, Read, file_in, play_of}
use Rattle.lsl_top.specs.Notes.{AreCards, notecards_of}
use Rattle.lsl_top.specs.Scripts.{AreAccepted}
use Rattle.lsl_top.specs.Thaws.{IsFrom}
use Rattle.lsl_top.specs.Words.{Command, Once, Check, Replay, Lossy, Freeze, Thaw, Make, View, State}

abbrev pub IsFromIn : Mode → List Code → List Program → WorldFile → List Notecard → List ℕ → World → Type 0
IsFromIn Whole codes programs file cards text from = Unit {0}
IsFromIn Handing codes programs file cards text from = Unit {0}
IsFromIn Freezing codes programs file cards text from = Unit {0}
IsFromIn (Inspecting at) codes programs file cards text from = Unit {0}
IsFromIn (Thawing name) codes programs file cards text from = IsFrom codes programs file cards text from
IsFromIn (Viewing name) codes programs file cards text from = Unit {0}

abbrev pub IsFromAccepted : Play → List Code → List Program → List (List ℕ) → List ℕ → World → Type 0
IsFromAccepted play codes programs notes text from =
    (cards : List (List (List ℕ))) → AreCards notes cards
    → IsFromIn play.mode codes programs play.world (notecards_of play.world.notes cards) text from

abbrev pub IsFromTexts : Play → (texts notes : List (List ℕ)) → List ℕ → World → Type 0
IsFromTexts play texts notes text from =
    (programs : List Program) (codes : List Code) → AreAccepted texts programs → AreCodesOf texts codes
    → IsFromAccepted play codes programs notes text from

abbrev pub IsFromRead : Play → Read → World → Type 0
IsFromRead play read from = IsFromTexts play read.texts read.notes read.frozen from

abbrev pub IsFromPlay : Option Files → Play → World → Type 0
IsFromPlay held play from = (read : Read) → AreRead held play read → IsFromRead play read from

abbrev pub IsFromFile : Option Files → Mode → List ℕ → World → Type 0
IsFromFile held mode name from =
    (bytes : List ℕ) (file : WorldFile) → Holds held name bytes → IsWorld bytes file
    → IsFromPlay held (play_of mode (file_in mode file)) from

abbrev pub IsFromOf : Option Files → Command → World → Type 0
IsFromOf held (Once name) from = Unit {0}
IsFromOf held (Check name) from = Unit {0}
IsFromOf held (Replay name) from = IsFromFile held Whole name from
IsFromOf held (Lossy name) from = IsFromFile held Handing name from
IsFromOf held (Freeze name) from = IsFromFile held Freezing name from
IsFromOf held (Thaw frozen name) from = IsFromFile held (Thawing frozen) name from
IsFromOf held (View frozen name) from = IsFromFile held (Viewing frozen) name from
IsFromOf held (Make number) from = Unit {0}
IsFromOf held (State at name) from = IsFromFile held (Inspecting at) name from

abbrev pub IsFromWords : Option Files → Option Command → World → Type 0
IsFromWords held None from = Unit {0}
IsFromWords held (Some command) from = IsFromOf held command from
