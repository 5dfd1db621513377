-- What the files of a shelf are, where it reports them.
use Rattle.std.specs.Prelude.{◌≡◌, ℕ, List, Option, Some, None}
use Rattle.std.specs.List.{AllZip}
use Rattle.lsl_ports.specs.Shelf.{Files}
use Rattle.lsl_top.specs.Plays.{Mode, Whole, Handing, Freezing, Inspecting, Thawing, Viewing, Play, Read}

-- the file of that name has these bytes; of a shelf that doesn't report its files nothing is known
abbrev pub Holds : Option Files → List ℕ → List ℕ → Type 0
Holds None name text = Unit {0}
Holds (Some files) name text = files name ≡ Some text

-- the files of these names have these bytes, in order
abbrev pub AreHeld : Option Files → List (List ℕ) → List (List ℕ) → Type 0
AreHeld held names texts = AllZip (Holds held) names texts

-- the frozen file of a play, where it has one
abbrev pub HoldsFrozen : Option Files → Mode → List ℕ → Type 0
HoldsFrozen held Whole text = Unit {0}
HoldsFrozen held Handing text = Unit {0}
HoldsFrozen held Freezing text = Unit {0}
HoldsFrozen held (Inspecting at) text = Unit {0}
HoldsFrozen held (Thawing name) text = Holds held name text
HoldsFrozen held (Viewing name) text = Holds held name text

-- the files of a play have these texts
pub record AreRead (held : Option Files) (play : Play) (read : Read) : Type 0 where
  pub scripts : AreHeld held play.names read.texts
  pub cards : AreHeld held play.cards read.notes
  pub frozen : HoldsFrozen held play.mode read.frozen

-- the shelf reports what it holds
abbrev pub IsToldBy : Option Files → Files → Type 0
IsToldBy held files = held ≡ Some files
