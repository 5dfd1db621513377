-- Events, and the effect of each on the one card that it changes.
use Rattle.std.specs.Prelude.{ℕ, ◌+◌, nat_eq, nat_lt, true, false, if◌then◌else◌, List, Option, Some, None}
use Rattle.lsl_handoff.specs.declared.card.Card.{Card}
use Rattle.lsl_handoff.specs.declared.card.Phase.{Phase}
use Rattle.lsl_handoff.specs.declared.card.Phase.TheVariants.{Away, Live, Leaving, Cancelling}
use Rattle.lsl_handoff.specs.declared.faults.DepartFault.{DepartFault}
use Rattle.lsl_handoff.specs.declared.note.Note.{Note}
use Rattle.lsl_handoff.specs.declared.note.NoteKind.{NoteKind}
use Rattle.lsl_handoff.specs.declared.note.NoteKind.TheVariants.{Offer, Taken, Cancel, Refused}
use Rattle.lsl_handoff.specs.Cards.{depart_fault}
use Rattle.lsl_handoff.specs.Notes.{answer_of, cancel_of, offer_of}

pub data Event : Type 0 where
  -- from a region an object leaves for another, as a parcel
  Depart : ℕ → ℕ → ℕ → List ℕ → Event
  -- a region sends again what it waits for of an object
  Again : ℕ → ℕ → Event
  -- a region calls an object back
  GiveUp : ℕ → ℕ → Event
  -- a note arrives at the region that it is for
  Deliver : Note → Event

-- the card after an event, and the note that is sent
abbrev pub Effect : Type 0
Effect = Card × Option Note

abbrev pub departs_unless : Option DepartFault → Card → ℕ → ℕ → ℕ → List ℕ → Effect
departs_unless (Some fault) card region object to parcel = (card, None)
departs_unless None card region object to parcel = (
  record { trip = card.trip + 1; took = false; phase = Leaving to parcel },
  Some (offer_of object (card.trip + 1) region to parcel),
)

-- an object leaves its region on its next trip
abbrev pub departs : Card → ℕ → ℕ → ℕ → List ℕ → Effect
departs card region object to parcel =
    departs_unless (depart_fault card region to) card region object to parcel

-- the pending note
abbrev pub awaited : Phase → ℕ → ℕ → ℕ → Option Note
awaited Away trip region object = None
awaited (Live held) trip region object = None
awaited (Leaving to held) trip region object = Some (offer_of object trip region to held)
awaited (Cancelling to held) trip region object = Some (cancel_of object trip region to)

-- an object that is leaving is called back
abbrev pub call_back : Phase → Card → ℕ → ℕ → Effect
call_back Away card region object = (card, None)
call_back (Live held) card region object = (card, None)
call_back (Leaving to held) card region object =
    (record card { phase = Cancelling to held }, Some (cancel_of object card.trip region to))
call_back (Cancelling to held) card region object = (card, None)

-- the answer to an offer or a cancel of the card's trip or an earlier one: the outcome of that trip
abbrev pub known_answer : Card → Note → Note
known_answer card note =
    if nat_lt note.trip card.trip
    then answer_of Taken note
    else if card.took then answer_of Taken note else answer_of Refused note

-- an object that was taken elsewhere is away
abbrev pub was_taken : Phase → Phase
was_taken Away = Away
was_taken (Live held) = Live held
was_taken (Leaving to held) = Away
was_taken (Cancelling to held) = Away

-- an object that was called back in time is live again
abbrev pub was_refused : Phase → Phase
was_refused Away = Away
was_refused (Live held) = Live held
was_refused (Leaving to held) = Leaving to held
was_refused (Cancelling to held) = Live held

-- what a note of each kind does to the card that it reaches
abbrev pub delivered : NoteKind → Card → Note → Effect
delivered Offer card note =
    if nat_lt card.trip note.trip
    then (record { trip = note.trip; took = true; phase = Live note.parcel }, Some (answer_of Taken note))
    else (card, Some (known_answer card note))
delivered Cancel card note =
    if nat_lt card.trip note.trip
    then (record { trip = note.trip; took = false; phase = Away }, Some (answer_of Refused note))
    else (card, Some (known_answer card note))
delivered Taken card note =
    if nat_eq card.trip note.trip then (record card { phase = was_taken card.phase }, None) else (card, None)
delivered Refused card note =
    if nat_eq card.trip note.trip then (record card { phase = was_refused card.phase }, None) else (card, None)

-- what an event does to its card
abbrev pub acts : Card → Event → Effect
acts card (Depart region object to parcel) = departs card region object to parcel
acts card (Again region object) = (card, awaited card.phase card.trip region object)
acts card (GiveUp region object) = call_back card.phase card region object
acts card (Deliver note) = delivered note.kind card note

abbrev pub region_of : Event → ℕ
region_of (Depart region object to parcel) = region
region_of (Again region object) = region
region_of (GiveUp region object) = region
region_of (Deliver note) = note.to

abbrev pub object_of : Event → ℕ
object_of (Depart region object to parcel) = object
object_of (Again region object) = object
object_of (GiveUp region object) = object
object_of (Deliver note) = note.object
