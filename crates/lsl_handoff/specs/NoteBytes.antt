-- Notes as bytes.
use Rattle.std.specs.Prelude.{◌≡◌, ℕ, ◌+◌, ◌<◌, ◌^◌, List, [], ◌++◌, length, codes}
use Rattle.sha2.specs.Sha256.{sha256}
use Rattle.lsl_bytes.specs.Fields.{u8_bytes, u16_bytes, u32_bytes, u64_bytes}
use Rattle.lsl_handoff.specs.declared.note.Note.{Note}
use Rattle.lsl_handoff.specs.declared.note.NoteKind.{NoteKind}
use Rattle.lsl_handoff.specs.declared.note.NoteKind.TheVariants.{Offer, Taken, Cancel, Refused}
use Rattle.lsl_handoff.specs.Fields.{IsOneOf}

abbrev pub kind_number : NoteKind → ℕ
kind_number Offer = 1
kind_number Taken = 2
kind_number Cancel = 3
kind_number Refused = 4

-- only an offer has a parcel: how many bytes there are, and these
abbrev pub parcel_bytes : NoteKind → List ℕ → List ℕ
parcel_bytes Offer parcel = u64_bytes (length parcel) ++ parcel
parcel_bytes Taken parcel = []
parcel_bytes Cancel parcel = []
parcel_bytes Refused parcel = []

-- the kind, the object, the trip, the two regions, the parcel
unfoldable pub fields_bytes : Note → List ℕ
fields_bytes note =
    u8_bytes (kind_number note.kind) ++ u32_bytes note.object ++ u64_bytes note.trip ++ u32_bytes note.from
    ++ u32_bytes note.to ++ parcel_bytes note.kind note.parcel

-- the letters, the version and the size of the whole
unfoldable pub head_bytes : ℕ → List ℕ
head_bytes size = codes "LSLN" ++ u16_bytes 1 ++ u64_bytes size

abbrev pub digested_bytes : List ℕ → List ℕ
digested_bytes bytes = bytes ++ sha256 bytes

-- the head, the fields, and the digest of all before it
unfoldable pub note_bytes : Note → List ℕ
note_bytes note = digested_bytes (head_bytes (14 + length (fields_bytes note) + 32) ++ fields_bytes note)

-- only an offer has a parcel
abbrev pub HasItsParcel : NoteKind → List ℕ → Type 0
HasItsParcel Offer parcel = Unit {0}
HasItsParcel Taken parcel = parcel ≡ []
HasItsParcel Cancel parcel = parcel ≡ []
HasItsParcel Refused parcel = parcel ≡ []

-- a note about one of `objects` objects, among `regions` regions
pub record IsNote (objects regions : ℕ) (note : Note) : Type 0 where
  pub object : IsOneOf objects note.object
  pub trip : note.trip < 2 ^ 64
  pub from : IsOneOf regions note.from
  pub to : IsOneOf regions note.to
  pub parcel : HasItsParcel note.kind note.parcel

-- these are the bytes of this note; their number fits the size field
pub record IsNoteOf (objects regions : ℕ) (bytes : List ℕ) (note : Note) : Type 0 where
  pub is : IsNote objects regions note
  pub bytes_are : bytes ≡ note_bytes note
  pub fits : length bytes < 2 ^ 64
