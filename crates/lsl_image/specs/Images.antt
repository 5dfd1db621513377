-- Which bytes are images, what they encode, and what the first fault of other bytes is.
use Rattle.std.specs.Prelude.{◌≡◌, ◌≢◌, ℕ, ◌-◌, ◌<◌, ◌≤◌, ◌⊎◌, List, length, take, drop}
use Rattle.sha2.specs.Sha256.{sha256}
use Rattle.lsl_code.specs.declared.woven_units.Woven.{Woven as Code}
use Rattle.lsl_bytes.specs.Fields.{FitsU64, u64_bytes}
use Rattle.lsl_bytes.specs.Places.{StandsAt}
use Rattle.lsl_image.specs.declared.faults.ImageFault.{ImageFault}
use Rattle.lsl_image.specs.declared.faults.ImageFault.TheVariants.{Size, Digest}
use Rattle.lsl_image.specs.declared.parts.ObjectParts.{ObjectParts}
use Rattle.lsl_image.specs.declared.parts.Shape.{Shape}
use Rattle.lsl_image.specs.declared.parts.WorldParts.{WorldParts}
use Rattle.lsl_image.specs.Layout.{Layout}
use Rattle.lsl_image.specs.Object.{object}
use Rattle.lsl_image.specs.Reading.{Faults, Gives}
use Rattle.lsl_image.specs.World.{world}

-- an image ends with the digest of all before it
abbrev pub digested : List ℕ → ℕ
digested bytes = length bytes - 32

abbrev pub covered : List ℕ → List ℕ
covered bytes = take (digested bytes) bytes

abbrev pub digest_in : List ℕ → List ℕ
digest_in bytes = drop (digested bytes) bytes

-- this number is in the size field
abbrev pub NamesSize : List ℕ → ℕ → Type 0
NamesSize bytes size = FitsU64 size × StandsAt bytes 6 (u64_bytes size) 14

abbrev pub HasSize : List ℕ → Type 0
HasSize bytes = (46 ≤ length bytes) × NamesSize bytes (length bytes)

-- there are too few bytes for any image, or another size is named
abbrev pub WantsSize : List ℕ → ℕ → Type 0
WantsSize bytes wanted =
    ((length bytes < 46) × (wanted ≡ 46))
    ⊎ ((46 ≤ length bytes) × NamesSize bytes wanted × (wanted ≢ length bytes))

-- the bytes arrived as they were sent
abbrev pub IsIntact : List ℕ → Type 0
IsIntact bytes = HasSize bytes × (digest_in bytes ≡ sha256 (covered bytes))

-- the bytes are an image of this layout, and encode this
abbrev pub IsImage : {A : Type 0} → (ℕ → Layout A) → List ℕ → A → Type 0
IsImage layout bytes a = IsIntact bytes × Gives (covered bytes) (layout (digested bytes)) 0 a (digested bytes)

-- the digest of these bytes isn't the one after them
abbrev pub IsDigestFault : List ℕ → List ℕ → ImageFault → Type 0
IsDigestFault bytes behind (Digest found wanted) = (found ≡ sha256 bytes) × (wanted ≡ behind) × (found ≢ wanted)
IsDigestFault bytes behind fault = ⊥

-- the bytes name a size that isn't theirs, or are followed by a digest that isn't theirs
abbrev pub IsOuterFault : List ℕ → ImageFault → Type 0
IsOuterFault bytes (Size found wanted) = (found ≡ length bytes) × WantsSize bytes wanted
IsOuterFault bytes fault = HasSize bytes × IsDigestFault (covered bytes) (digest_in bytes) fault

-- the bytes arrived as they were sent, and this is the first fault of their fields
abbrev pub IsFieldFault : {A : Type 0} → (ℕ → Layout A) → List ℕ → ImageFault → Type 0
IsFieldFault layout bytes fault = IsIntact bytes × Faults (covered bytes) (layout (digested bytes)) 0 fault

-- this is the first fault of bytes that aren't an image of this layout
abbrev pub IsFirstFault : {A : Type 0} → (ℕ → Layout A) → List ℕ → ImageFault → Type 0
IsFirstFault layout bytes fault = IsOuterFault bytes fault ⊎ IsFieldFault layout bytes fault

-- images of objects, read where the object is in this region, and of worlds
abbrev pub ObjectImage : List ℕ → Shape → List Code → ObjectParts → List ℕ → Type 0
ObjectImage region shape library parts bytes = IsImage (object region shape library) bytes parts

abbrev pub ObjectFirst : List ℕ → Shape → List Code → List ℕ → ImageFault → Type 0
ObjectFirst region shape library bytes fault = IsFirstFault (object region shape library) bytes fault

abbrev pub WorldImage : List Shape → List Code → WorldParts → List ℕ → Type 0
WorldImage shapes library parts bytes = IsImage (world shapes library) bytes parts

abbrev pub WorldFirst : List Shape → List Code → List ℕ → ImageFault → Type 0
WorldFirst shapes library bytes fault = IsFirstFault (world shapes library) bytes fault
