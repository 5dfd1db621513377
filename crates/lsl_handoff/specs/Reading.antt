-- What is read of the bytes of a note, for the calls inside the crate.
use Rattle.std.specs.Prelude.{ℕ, List, [], drop, slice_index}
use Rattle.lsl_handoff.specs.declared.note.Note.{Note}
use Rattle.lsl_handoff.specs.declared.note.NoteKind.{NoteKind}
use Rattle.lsl_handoff.specs.declared.note.NoteKind.TheVariants.{Offer, Taken, Cancel, Refused}
use Rattle.lsl_handoff.specs.declared.reader.Head.{Head}
use Rattle.lsl_handoff.specs.NoteFaults.{covered, kind_of, u32_at, u64_at}

abbrev pub head_in : List ℕ → Head
head_in fields = record {
  kind = kind_of (slice_index fields 14);
  object = u32_at fields 15;
  trip = u64_at fields 19;
  from = u32_at fields 27;
  to = u32_at fields 31;
}

abbrev pub parcel_in : NoteKind → List ℕ → List ℕ
parcel_in Offer fields = drop 43 fields
parcel_in Taken fields = []
parcel_in Cancel fields = []
parcel_in Refused fields = []

abbrev pub note_of : Head → List ℕ → Note
note_of head parcel = record {
  kind = head.kind;
  object = head.object;
  trip = head.trip;
  from = head.from;
  to = head.to;
  parcel = parcel;
}

abbrev pub note_in : List ℕ → Note
note_in bytes = note_of (head_in (covered bytes)) (parcel_in (kind_of (slice_index (covered bytes) 14)) (covered bytes))
