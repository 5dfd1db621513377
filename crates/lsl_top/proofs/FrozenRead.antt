-- From what was read of a frozen file to what its shelf holds.
use Rattle.std.proofs.Common.{◌≡◌, ℕ, ◌<◌, List, length, Option, Some, None, inl, inr, refl, sym, ap, ◌∙◌, subst, arith}
use Rattle.std.proofs.lemmas.List.{take_all, length-take}
use Rattle.std.proofs.lemmas.Bool.{cases_lt}
use Rattle.lsl_ports.specs.Shelf.{Files, IsHeadOf, head_of}
use Rattle.lsl_ports.specs.Trips.{Trip}
use Rattle.lsl_code.specs.declared.woven_units.Woven.{Woven as Code}
use Rattle.lsl_image.specs.declared.faults.ImageFault.{ImageFault}
use Rattle.lsl_lines.specs.Frozen.{HasFrozenLine, IsFrozen}
use Rattle.lsl_lines.specs.declared.file.WorldFile.{WorldFile}
use Rattle.lsl_notes.specs.declared.cards.Notecard.{Notecard}
use Rattle.lsl_tree.specs.Program.{Program}
use Rattle.lsl_region.specs.Worlds.{World}
use Rattle.lsl_top.specs.Answers.{Answer, Comes, Grade, PlaysTexts, Shows}
use Rattle.lsl_top.specs.Froms.{IsFromIn, IsFromTexts}
use Rattle.lsl_top.specs.Held.{HoldsFrozen}
use Rattle.lsl_top.specs.Plays.{Mode, Whole, Handing, Freezing, Inspecting, Thawing, Viewing, Play}
use Rattle.lsl_top.specs.Notes.{notecards_of}
use Rattle.lsl_top.specs.Ports.{IsFrozenRead}
use Rattle.lsl_top.specs.Thaws.{IsThawFault}

-- what is found of the bytes that were read holds of the text
record IsFrozenReadOf (bytes text : List ℕ) : Type 0 where
  given : (image : List ℕ) → IsFrozen bytes image → IsFrozen text image
  none : (HasFrozenLine bytes → ⊥) → HasFrozenLine text → ⊥

same-read : (bytes text : List ℕ) → bytes ≡ text → IsFrozenReadOf bytes text
same-read bytes text e = record {
  given = λ image h. subst (λ (z : List ℕ). IsFrozen z image) e h;
  none = λ lacks has. lacks (subst (λ (z : List ℕ). HasFrozenLine z) (sym e) has);
}

-- a text that is too long has no frozen world, and so have its first bytes
long-read : (bytes text : List ℕ) → 2147483647 < length bytes → 2147483647 < length text → IsFrozenReadOf bytes text
long-read bytes text many long = record {
  given = λ image h. absurd (omega (arith, many, h.short));
  none = λ lacks has. omega (arith, long, has.short);
}

frozen-head : (text bytes : List ℕ) → bytes ≡ head_of 2147483647 text → IsFrozenReadOf bytes text
frozen-head text bytes e = elim (cases_lt 2147483647 (length text)) [
  | inl long ↦ long-read bytes text (omega (arith, ap length e, length-take 2147483648 text)) long
  | inr short ↦ same-read bytes text (e ∙ take_all 2147483648 text (omega arith))
]

-- a play's frozen text, of which these bytes were read
pub record HasFrozen (held : Option Files) (mode : Mode) (bytes : List ℕ) : Type 0 where
  pub text : List ℕ
  pub holds : HoldsFrozen held mode text
  pub comes : (grade : Grade) (from : World) (trips : List Trip) (texts : List (List ℕ)) (codes : List Code)
      (programs : List Program) (file : WorldFile) (cards : List Notecard) (answer : Answer)
      → Comes grade from trips mode texts codes programs file cards bytes answer
      → Comes grade from trips mode texts codes programs file cards text answer
  pub fits : (codes : List Code) (programs : List Program) (file : WorldFile) (cards : List Notecard) (from : World)
      → IsFromIn mode codes programs file cards text from → IsFromIn mode codes programs file cards bytes from

thaw-fault : (codes : List Code) (file : WorldFile) (bytes text : List ℕ) (fault : ImageFault)
    → IsFrozenReadOf bytes text
    → IsThawFault codes file bytes fault → IsThawFault codes file text fault
thaw-fault codes file bytes text fault of (inl (lacks, e)) = inl (of.none lacks, e)
thaw-fault codes file bytes text fault of (inr (image, is, first)) = inr (image, of.given image is, first)

thaw-comes : (name : List ℕ) (bytes text : List ℕ) (grade : Grade) (from : World) (trips : List Trip)
    (texts : List (List ℕ)) (codes : List Code) (programs : List Program) (file : WorldFile) (cards : List Notecard) (answer : Answer)
    → IsFrozenReadOf bytes text → Comes grade from trips (Thawing name) texts codes programs file cards bytes answer
    → Comes grade from trips (Thawing name) texts codes programs file cards text answer
thaw-comes name bytes text grade from trips texts codes programs file cards answer of (inl (parts, (image, is, stands), e)) =
    inl (parts, (image, of.given image is, stands), e)
thaw-comes name bytes text grade from trips texts codes programs file cards answer of (inr (fault, first, e)) =
    inr (fault, thaw-fault codes file bytes text fault of first, e)

shown-comes : (name : List ℕ) (bytes text : List ℕ) (codes : List Code) (file : WorldFile) (answer : Answer)
    → IsFrozenReadOf bytes text → Shows codes file name bytes answer → Shows codes file name text answer
shown-comes name bytes text codes file answer of (inl (parts, (image, is, stands), e)) =
    inl (parts, (image, of.given image is, stands), e)
shown-comes name bytes text codes file answer of (inr (fault, first, e)) =
    inr (fault, thaw-fault codes file bytes text fault of first, e)

pub frozen-read : (held : Option Files) (mode : Mode) (bytes : List ℕ) → IsFrozenRead held mode bytes
    → HasFrozen held mode bytes
frozen-read held Whole bytes h = record {
  text = bytes;
  holds = tt;
  comes = λ grade from trips texts codes programs file cards answer c. c;
  fits = λ codes programs file cards from f. f;
}
frozen-read held Handing bytes h = record {
  text = bytes;
  holds = tt;
  comes = λ grade from trips texts codes programs file cards answer c. c;
  fits = λ codes programs file cards from f. f;
}
frozen-read held Freezing bytes h = record {
  text = bytes;
  holds = tt;
  comes = λ grade from trips texts codes programs file cards answer c. c;
  fits = λ codes programs file cards from f. f;
}
frozen-read held (Inspecting at) bytes h = record {
  text = bytes;
  holds = tt;
  comes = λ grade from trips texts codes programs file cards answer c. c;
  fits = λ codes programs file cards from f. f;
}
frozen-read None (Thawing name) bytes h = record {
  text = bytes;
  holds = tt;
  comes = λ grade from trips texts codes programs file cards answer c. c;
  fits = λ codes programs file cards from f. f;
}
frozen-read (Some files) (Thawing name) bytes h = go (files name) refl h
  where
    go : (found : Option (List ℕ)) → files name ≡ found → IsHeadOf 2147483647 found bytes
        → HasFrozen (Some files) (Thawing name) bytes
    go None e h = absurd h
    go (Some text) e h = record {
      text = text;
      holds = e;
      comes = λ grade from trips texts codes programs file cards answer c.
          thaw-comes name bytes text grade from trips texts codes programs file cards answer (frozen-head text bytes h) c;
      fits = λ codes programs file cards from f parts thaw.
          f parts (thaw.0, (frozen-head text bytes h).given thaw.0 thaw.1, thaw.2);
    }
frozen-read None (Viewing name) bytes h = record {
  text = bytes;
  holds = tt;
  comes = λ grade from trips texts codes programs file cards answer c. c;
  fits = λ codes programs file cards from f. f;
}
frozen-read (Some files) (Viewing name) bytes h = go (files name) refl h
  where
    go : (found : Option (List ℕ)) → files name ≡ found → IsHeadOf 2147483647 found bytes
        → HasFrozen (Some files) (Viewing name) bytes
    go None e h = absurd h
    go (Some text) e h = record {
      text = text;
      holds = e;
      comes = λ grade from trips texts codes programs file cards answer c.
          shown-comes name bytes text codes file answer (frozen-head text bytes h) c;
      fits = λ codes programs file cards from f. tt;
    }

-- the same for a play whose scripts and notecards have these texts
pub plays-frozen : (held : Option Files) (bytes : List ℕ) (grade : Grade) (from : World) (trips : List Trip)
    (play : Play) (texts notes : List (List ℕ)) (answer : Answer) (has : HasFrozen held play.mode bytes)
    → PlaysTexts grade from trips play texts notes bytes answer
    → PlaysTexts grade from trips play texts notes has.text answer
plays-frozen held bytes grade from trips play texts notes answer has
    (inl (programs, codes, accepted, of, inl (cards, read, c))) =
    inl (
      programs,
      codes,
      accepted,
      of,
      inl (
        cards,
        read,
        has.comes grade from trips texts codes programs play.world (notecards_of play.world.notes cards) answer c,
      ),
    )
plays-frozen held bytes grade from trips play texts notes answer has (inl (programs, codes, accepted, of, inr bad)) =
    inl (programs, codes, accepted, of, inr bad)
plays-frozen held bytes grade from trips play texts notes answer has (inr r) = inr r

pub from-frozen : (held : Option Files) (bytes : List ℕ) (play : Play) (texts notes : List (List ℕ)) (from : World)
    (has : HasFrozen held play.mode bytes) → IsFromTexts play texts notes has.text from
    → IsFromTexts play texts notes bytes from
from-frozen held bytes play texts notes from has fits programs codes accepted of cards read =
    has.fits codes programs play.world (notecards_of play.world.notes cards) from
    (fits programs codes accepted of cards read)
