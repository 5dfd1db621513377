-- One run in two halves: the world is frozen after the first steps, and thawed before the others.
use Rattle.std.specs.Prelude.{◌≡◌, ◌≤◌, ℕ, List, ◌++◌, length, Some}
use Rattle.lsl_ports.specs.Shelf.{Files}
use Rattle.lsl_ports.specs.Trips.{Trip, sent_of}
use Rattle.lsl_lines.specs.Frozen.{frozen_line, most_frozen_text}
use Rattle.lsl_lines.specs.declared.file.WorldFile.{WorldFile}
use Rattle.lsl_region.specs.Worlds.{World}
use Rattle.lsl_top.specs.Answers.{Answer, Answers, Due, Written}
use Rattle.lsl_top.specs.Froms.{IsFromWords}
use Rattle.lsl_top.specs.Headline.{IsWorldIn}
use Rattle.lsl_top.specs.Held.{AreHeld}
use Rattle.lsl_top.specs.Pieces.{lines_in, sent_in}
use Rattle.lsl_top.specs.Plays.{cards_in, names_in}
use Rattle.lsl_top.specs.Words.{Replay, Freeze, Thaw}
use Rattle.lsl_top.specs.declared.status.Status.TheVariants.{Ok}

-- two files have the objects, prims, scripts and notecards of a third, and their steps, one after the other, are its
-- steps
pub record AreHalves (first second whole : WorldFile) : Type 0 where
  pub first_objects : first.objects ≡ whole.objects
  pub second_objects : second.objects ≡ whole.objects
  pub first_files : first.files ≡ whole.files
  pub second_files : second.files ≡ whole.files
  pub first_cards : first.cards ≡ whole.cards
  pub second_cards : second.cards ≡ whole.cards
  pub first_notes : first.notes ≡ whole.notes
  pub second_notes : second.notes ≡ whole.notes
  pub steps : whole.steps ≡ first.steps ++ second.steps

-- a shelf has the file of a world, and its scripts and notecards with these texts
pub record IsOnShelf (files : Files) (name : List ℕ) (file : WorldFile) (texts notes : List (List ℕ)) : Type 0 where
  pub world : IsWorldIn files name file
  pub scripts : AreHeld (Some files) (names_in file) texts
  pub cards : AreHeld (Some files) (cards_in file) notes

-- what `freeze` wrote where it ended well and made these trips; nothing was frozen before, so any world will do for
-- that
pub record IsFrozenBy (files : Files) (name : List ℕ) (from : World) (trips : List Trip) (froze : Answer) : Type 0
  where
    pub answers : Answers Written (Some files) from trips (Freeze name) froze
    pub well : froze.status ≡ Ok
    pub sent : sent_of trips ≡ sent_in froze.pieces

-- The answers of `freeze` on the first steps and of `thaw` on the others are the answer of `replay` on all: the journal
-- of the first, before the line of the frozen world, and then all that the second writes; and what the first sends, and
-- then what the second does.
pub record AreOneRun (froze thawed whole : Answer) (journal : List ℕ) : Type 0 where
  pub well : (thawed.status ≡ Ok) × (whole.status ≡ Ok)
  pub lines : lines_in whole.pieces ≡ journal ++ lines_in thawed.pieces
  pub sent : sent_in whole.pieces ≡ sent_in froze.pieces ++ sent_in thawed.pieces

-- the world that was frozen is the one that the text gives, and its continuation is the rest of one run
pub record IsGoneOn (more all : Files) (frozen second whole : List ℕ) (before behind : List Trip) (froze : Answer)
    : Type 0 where
  pub world : World
  pub from : IsFromWords (Some more) (Some (Thaw frozen second)) world
  pub journal : List ℕ
  pub image : List ℕ
  pub written : lines_in froze.pieces ≡ journal ++ frozen_line image
  pub one : (thawed answer : Answer) → Answers Due (Some more) world behind (Thaw frozen second) thawed
      → Answers Due (Some all) world (before ++ behind) (Replay whole) answer → AreOneRun froze thawed answer journal

-- where `freeze` ends well on the first steps, and a file has what it wrote, `thaw` of that continues with the others
abbrev pub TwoHalvesAreOneRun : Type 0
TwoHalvesAreOneRun =
    (files more all : Files) (first_name second_name whole_name frozen : List ℕ) (first second whole : WorldFile)
    (texts notes : List (List ℕ)) (from : World) (before behind : List Trip) (froze : Answer)
    → AreHalves first second whole → IsOnShelf files first_name first texts notes
    → IsOnShelf more second_name second texts notes → IsOnShelf all whole_name whole texts notes
    → IsFrozenBy files first_name from before froze
    → more frozen ≡ Some (lines_in froze.pieces) → length (lines_in froze.pieces) ≤ most_frozen_text
    → IsGoneOn more all frozen second_name whole_name before behind froze
