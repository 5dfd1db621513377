-- What is answered where a frozen world is played: the run from a world of which the file is an image, or a refusal.
use Rattle.std.specs.Prelude.{◌≡◌, ℕ, ◌⊎◌, List}
use Rattle.hex.specs.Hex.{IsBytes}
use Rattle.lsl_code.specs.declared.woven_units.Woven.{Woven as Code}
use Rattle.lsl_image.specs.declared.faults.ImageFault.{ImageFault}
use Rattle.lsl_image.specs.declared.faults.ImageFault.TheVariants.{NotFrozen}
use Rattle.lsl_image.specs.declared.parts.WorldParts.{WorldParts}
use Rattle.lsl_image.specs.Images.{WorldFirst}
use Rattle.lsl_lines.specs.Frozen.{HasFrozenLine, IsFrozen}
use Rattle.lsl_lines.specs.declared.file.WorldFile.{WorldFile}
use Rattle.lsl_notes.specs.declared.cards.Notecard.{Notecard}
use Rattle.lsl_tree.specs.Program.{Program}
use Rattle.lsl_region.specs.Worlds.{World}
use Rattle.lsl_world.specs.Frozen.{AgreesWith, IsImageIn, frozen_image, parts_of_world, shapes_of_file}

-- the text has no frozen world of this file with scripts of these units, for this fault
abbrev pub IsThawFault : List Code → WorldFile → List ℕ → ImageFault → Type 0
IsThawFault codes file text fault =
    ((¬ HasFrozenLine text) × (fault ≡ NotFrozen))
    ⊎ ((bytes : List ℕ) × IsFrozen text bytes × WorldFirst (shapes_of_file file) codes bytes fault)

-- the text has a frozen world of this file, with these parts
abbrev pub IsThawOf : List Code → WorldFile → List ℕ → WorldParts → Type 0
IsThawOf codes file text parts = (bytes : List ℕ) × IsFrozen text bytes × IsImageIn codes file parts bytes

-- the text, if it has a frozen world of this file, has this one, of these programs and with these notecards
abbrev pub IsFrom : List Code → List Program → WorldFile → List Notecard → List ℕ → World → Type 0
IsFrom codes programs file cards text from =
    (parts : WorldParts) → IsThawOf codes file text parts
    → AgreesWith programs file cards from × (parts_of_world codes from ≡ parts)

-- a frozen world can be thawed over this file: it agrees with the file, and its bytes are an image of it
pub record CanThaw (codes : List Code) (programs : List Program) (file : WorldFile) (cards : List Notecard)
    (w : World) : Type 0 where
  pub agrees : AgreesWith programs file cards w
  pub image : IsImageIn codes file (parts_of_world codes w) (frozen_image codes w)
  pub bytes : IsBytes (frozen_image codes w)
