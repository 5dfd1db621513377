-- Bytes are those of one note, or have a first fault.
use Rattle.std.specs.Prelude.{◌≡◌, ℕ, ◌<◌, ◌^◌, List, length, None}
use Rattle.std.specs.List.{AllByRecursion}
use Rattle.lsl_bytes.specs.Fields.{FitsU8}
use Rattle.lsl_handoff.specs.declared.note.Note.{Note}
use Rattle.lsl_handoff.specs.NoteBytes.{IsNote, IsNoteOf, note_bytes}
use Rattle.lsl_handoff.specs.NoteFaults.{first_fault}

-- as many objects and regions as there can be
abbrev pub AreCounts : ℕ → ℕ → Type 0
AreCounts objects regions = (objects < 2 ^ 32) × (regions < 2 ^ 32)

abbrev pub NotesAreOne : Type 0
NotesAreOne =
    (objects regions : ℕ) (bytes : List ℕ) (a b : Note) → AreCounts objects regions →
    IsNoteOf objects regions bytes a → IsNoteOf objects regions bytes b → a ≡ b

abbrev pub NotesHaveOneSpelling : Type 0
NotesHaveOneSpelling =
    (objects regions : ℕ) (x y : List ℕ) (note : Note) → IsNoteOf objects regions x note →
    IsNoteOf objects regions y note → x ≡ y

-- the bytes of each note are its own, if their number fits the size field
abbrev pub NotesAreSpelled : Type 0
NotesAreSpelled =
    (objects regions : ℕ) (note : Note) → IsNote objects regions note → length (note_bytes note) < 2 ^ 64 →
    IsNoteOf objects regions (note_bytes note) note

abbrev pub NotesHaveNoFault : Type 0
NotesHaveNoFault =
    (objects regions : ℕ) (bytes : List ℕ) (note : Note) → AreCounts objects regions →
    IsNoteOf objects regions bytes note → first_fault bytes objects regions ≡ None

abbrev pub OthersHaveOne : Type 0
OthersHaveOne =
    (objects regions : ℕ) (bytes : List ℕ) → AllByRecursion FitsU8 bytes →
    first_fault bytes objects regions ≡ None → (note : Note) × IsNoteOf objects regions bytes note
