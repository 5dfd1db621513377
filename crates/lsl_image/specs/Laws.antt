-- What an image encodes is one thing, an image has no fault, and other bytes have one first fault.
use Rattle.std.specs.Prelude.{◌≡◌, ◌⊎◌, List, ℕ, true}
use Rattle.std.specs.List.{AllByRecursion}
use Rattle.lsl_value.specs.Key.{is_valid_key}
use Rattle.lsl_bytes.specs.Fields.{FitsU8, FitsU16, u16_bytes}
use Rattle.lsl_bytes.specs.Places.{StandsAt}
use Rattle.lsl_code.specs.declared.woven_units.Woven.{Woven as Code}
use Rattle.lsl_image.specs.declared.faults.ImageFault.{ImageFault}
use Rattle.lsl_image.specs.declared.parts.ObjectParts.{ObjectParts}
use Rattle.lsl_image.specs.declared.parts.Shape.{Shape}
use Rattle.lsl_image.specs.declared.parts.WorldParts.{WorldParts}
use Rattle.lsl_image.specs.Bytes.{object_image, world_image}
use Rattle.lsl_image.specs.Images.{ObjectFirst, ObjectImage, WorldFirst, WorldImage}
use Rattle.lsl_image.specs.Valid.{IsObject, IsWorld}

abbrev pub ObjectsAreOne : Type 0
ObjectsAreOne =
    (region : List ℕ) (shape : Shape) (library : List Code) (bytes : List ℕ) (a b : ObjectParts) →
    ObjectImage region shape library a bytes → ObjectImage region shape library b bytes → a ≡ b

abbrev pub ObjectsHaveNoFault : Type 0
ObjectsHaveNoFault =
    (region : List ℕ) (shape : Shape) (library : List Code) (bytes : List ℕ) (a : ObjectParts)
    (fault : ImageFault) →
    ObjectImage region shape library a bytes → ObjectFirst region shape library bytes fault → ⊥

abbrev pub WorldsAreOne : Type 0
WorldsAreOne =
    (shapes : List Shape) (library : List Code) (bytes : List ℕ) (a b : WorldParts) →
    WorldImage shapes library a bytes → WorldImage shapes library b bytes → a ≡ b

abbrev pub WorldsHaveNoFault : Type 0
WorldsHaveNoFault =
    (shapes : List Shape) (library : List Code) (bytes : List ℕ) (a : WorldParts) (fault : ImageFault) →
    WorldImage shapes library a bytes → WorldFirst shapes library bytes fault → ⊥

abbrev pub ObjectFaultsAreOne : Type 0
ObjectFaultsAreOne =
    (region : List ℕ) (shape : Shape) (library : List Code) (bytes : List ℕ) (a b : ImageFault) →
    ObjectFirst region shape library bytes a → ObjectFirst region shape library bytes b → a ≡ b

abbrev pub WorldFaultsAreOne : Type 0
WorldFaultsAreOne =
    (shapes : List Shape) (library : List Code) (bytes : List ℕ) (a b : ImageFault) →
    WorldFirst shapes library bytes a → WorldFirst shapes library bytes b → a ≡ b

-- what is read is valid, so that it can be written again
abbrev pub ObjectsAreValid : Type 0
ObjectsAreValid =
    (region : List ℕ) (shape : Shape) (library : List Code) (bytes : List ℕ) (a : ObjectParts) →
    is_valid_key shape.key ≡ true → ObjectImage region shape library a bytes → IsObject library a

abbrev pub HasKey : Shape → Type 0
HasKey shape = is_valid_key shape.key ≡ true

abbrev pub WorldsAreValid : Type 0
WorldsAreValid =
    (shapes : List Shape) (library : List Code) (bytes : List ℕ) (a : WorldParts) →
    AllByRecursion HasKey shapes → WorldImage shapes library a bytes → IsWorld library a

-- bytes are an image, or have a first fault
abbrev pub ObjectsOrFaults : Type 0
ObjectsOrFaults =
    (region : List ℕ) (shape : Shape) (library : List Code) (bytes : List ℕ) → AllByRecursion FitsU8 bytes →
    ((a : ObjectParts) × ObjectImage region shape library a bytes)
    ⊎ ((fault : ImageFault) × ObjectFirst region shape library bytes fault)

abbrev pub WorldsOrFaults : Type 0
WorldsOrFaults =
    (shapes : List Shape) (library : List Code) (bytes : List ℕ) → AllByRecursion FitsU8 bytes →
    ((a : WorldParts) × WorldImage shapes library a bytes)
    ⊎ ((fault : ImageFault) × WorldFirst shapes library bytes fault)

-- an image is the bytes that its parts have in version 1 or in version 2
abbrev pub ObjectsAreSpelled : Type 0
ObjectsAreSpelled =
    (region : List ℕ) (shape : Shape) (library : List Code) (bytes : List ℕ) (a : ObjectParts) →
    ObjectImage region shape library a bytes →
    (bytes ≡ object_image 1 region library a) ⊎ (bytes ≡ object_image 2 region library a)

abbrev pub WorldsAreSpelled : Type 0
WorldsAreSpelled =
    (shapes : List Shape) (library : List Code) (bytes : List ℕ) (a : WorldParts) →
    WorldImage shapes library a bytes →
    (bytes ≡ world_image 1 library a) ⊎ (bytes ≡ world_image 2 library a)

-- this number is in the version field
abbrev pub NamesVersion : List ℕ → ℕ → Type 0
NamesVersion bytes version = FitsU16 version × StandsAt bytes 4 (u16_bytes version) 6

-- images of one version that encode the same are the same bytes
abbrev pub ObjectsHaveOneSpelling : Type 0
ObjectsHaveOneSpelling =
    (region : List ℕ) (shape : Shape) (library : List Code) (version : ℕ) (x y : List ℕ) (a : ObjectParts) →
    NamesVersion x version → NamesVersion y version → ObjectImage region shape library a x →
    ObjectImage region shape library a y → x ≡ y

abbrev pub WorldsHaveOneSpelling : Type 0
WorldsHaveOneSpelling =
    (shapes : List Shape) (library : List Code) (version : ℕ) (x y : List ℕ) (a : WorldParts) →
    NamesVersion x version → NamesVersion y version → WorldImage shapes library a x →
    WorldImage shapes library a y → x ≡ y
