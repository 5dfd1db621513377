-- The lines of a command that come from no run: an acceptance and refusals.
use Rattle.std.specs.Prelude.{ℕ, codes, decimal, List, [], ◌∷◌, ◌++◌}
use Rattle.lsl_text.specs.Quoted.{quoted}
use Rattle.lsl_build.specs.declared.faults.BuildFault.{BuildFault}
use Rattle.lsl_lines.specs.Faults.{number_of_kind}
use Rattle.lsl_lines.specs.declared.faults.FileFault.{FileFault}
use Rattle.lsl_notes.specs.declared.faults.CardFault.{CardFault}
use Rattle.lsl_notes.specs.Faults.{line_of_fault, number_of_fault}
use Rattle.hex.specs.Hex.{encode_lower}
use Rattle.lsl_image.specs.declared.faults.ImageFault.{ImageFault}
use Rattle.lsl_image.specs.declared.faults.ImageFault.TheVariants.{Size, Digest, Version, WrongCode, Body, NotFrozen}

abbrev pub accepted_line : List ℕ → List ℕ
accepted_line file = codes "accepted " ++ (quoted file ++ 10 ∷ [])

-- the number of a fault ends a line
abbrev pub fault_words : ℕ → List ℕ
fault_words number = codes " fault " ++ (decimal number ++ 10 ∷ [])

-- the place of a script's fault, and its number
abbrev pub place_words : ℕ → ℕ → ℕ → List ℕ
place_words line col number = codes " " ++ (decimal line ++ (codes ":" ++ (decimal col ++ fault_words number)))

-- the refusal of a script for a fault
abbrev pub refusal_of : List ℕ → BuildFault → List ℕ
refusal_of file fault =
    codes "bad script " ++ (quoted file ++ place_words fault.span.line fault.span.col fault.number)

-- the refusal of a world file for a fault
abbrev pub world_refusal_of : List ℕ → FileFault → List ℕ
world_refusal_of file fault =
    codes "bad world " ++ (quoted file ++ (codes " line "
    ++ (decimal fault.line ++ fault_words (number_of_kind fault.kind))))

-- the refusal of a notecard for a fault
abbrev pub note_refusal_of : List ℕ → CardFault → List ℕ
note_refusal_of file fault =
    codes "bad note " ++ (quoted file ++ (codes " line "
    ++ (decimal (line_of_fault fault) ++ fault_words (number_of_fault fault))))

-- the number of an image's fault, and its details: sizes and digests as found and wanted, the version, the place
abbrev pub number_of_image : ImageFault → ℕ
number_of_image (Size found wanted) = 40
number_of_image (Digest found wanted) = 41
number_of_image (Version version) = 42
number_of_image (WrongCode found wanted) = 43
number_of_image (Body place) = 44
number_of_image NotFrozen = 45

abbrev pub two_words : List ℕ → List ℕ → List ℕ
two_words found wanted = codes " " ++ (found ++ (codes " " ++ wanted))

abbrev pub detail_of : ImageFault → List ℕ
detail_of (Size found wanted) = two_words (decimal found) (decimal wanted)
detail_of (Digest found wanted) = two_words (encode_lower found) (encode_lower wanted)
detail_of (Version version) = codes " " ++ decimal version
detail_of (WrongCode found wanted) = two_words (encode_lower found) (encode_lower wanted)
detail_of (Body place) = codes " " ++ decimal place
detail_of NotFrozen = []

-- the refusal of a frozen file for a fault
abbrev pub image_refusal_of : List ℕ → ImageFault → List ℕ
image_refusal_of file fault =
    codes "bad image " ++ (quoted file ++ (codes " fault "
    ++ (decimal (number_of_image fault) ++ (detail_of fault ++ 10 ∷ []))))
