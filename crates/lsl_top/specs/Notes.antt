-- The notecards of a world, by the texts of their files: all are notecards, or one is the first that isn't.
use Rattle.std.specs.Prelude.{◌≡◌, ℕ, List, [], Some, get_or, map, slice_get, take}
use Rattle.std.specs.List.{AllZip}
use Rattle.lsl_text.specs.declared.Refusal.TheVariants.{Fault}
use Rattle.lsl_lines.specs.declared.file.NoteLine.{NoteLine}
use Rattle.lsl_notes.specs.declared.cards.Notecard.{Notecard}
use Rattle.lsl_notes.specs.declared.faults.CardFault.{CardFault}
use Rattle.lsl_notes.specs.Card.{IsCard, IsRefused}

-- the texts have these lines, in order
abbrev pub AreCards : List (List ℕ) → List (List (List ℕ)) → Type 0
AreCards texts cards = AllZip IsCard texts cards

-- the text at this place isn't a notecard, for this fault, and those before it are notecards
pub record IsBadAt (texts : List (List ℕ)) (place : ℕ) (fault : CardFault) : Type 0 where
  pub text : List ℕ
  pub text_is : slice_get texts place ≡ Some text
  pub refused : IsRefused text (Fault fault)
  pub before : (cards : List (List (List ℕ))) × AreCards (take place texts) cards

-- the file of this name is the first whose text isn't a notecard, for this fault
pub record FirstBad (names texts : List (List ℕ)) (name : List ℕ) (fault : CardFault) : Type 0 where
  pub place : ℕ
  pub named : slice_get names place ≡ Some name
  pub bad : IsBadAt texts place fault

-- the notecards of a world's lines, where their files have these lines
abbrev pub notecard_of : List (List (List ℕ)) → NoteLine → Notecard
notecard_of cards line = record { prim = line.prim; name = line.name; card = get_or cards line.file [] }

abbrev pub notecards_of : List NoteLine → List (List (List ℕ)) → List Notecard
notecards_of lines cards = map (notecard_of cards) lines
