-- The notes that regions send.
use Rattle.std.specs.Prelude.{ℕ, List, []}
use Rattle.lsl_handoff.specs.declared.note.Note.{Note}
use Rattle.lsl_handoff.specs.declared.note.NoteKind.{NoteKind}
use Rattle.lsl_handoff.specs.declared.note.NoteKind.TheVariants.{Offer, Cancel}

-- on this trip the object leaves one region for another, as this parcel
abbrev pub offer_of : ℕ → ℕ → ℕ → ℕ → List ℕ → Note
offer_of object trip from to parcel =
    record { kind = Offer; object = object; trip = trip; from = from; to = to; parcel = parcel }

abbrev pub cancel_of : ℕ → ℕ → ℕ → ℕ → Note
cancel_of object trip from to =
    record { kind = Cancel; object = object; trip = trip; from = from; to = to; parcel = [] }

-- an answer goes back, about the same object and trip
abbrev pub answer_of : NoteKind → Note → Note
answer_of kind note = record {
  kind = kind;
  object = note.object;
  trip = note.trip;
  from = note.to;
  to = note.from;
  parcel = [];
}
