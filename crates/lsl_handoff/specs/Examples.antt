-- Small runs of one object, which begins in the first of two regions, and the bytes of a note.
use Rattle.std.specs.Prelude.{ℕ, Bool, true, false, List, [], ◌∷◌, ◌++◌}
use Rattle.lsl_handoff.specs.declared.card.Card.{Card}
use Rattle.lsl_handoff.specs.declared.card.Phase.{Phase}
use Rattle.lsl_handoff.specs.declared.card.Phase.TheVariants.{Away, Live}
use Rattle.lsl_handoff.specs.declared.note.Note.{Note}
use Rattle.lsl_handoff.specs.declared.note.NoteKind.TheVariants.{Taken, Refused}
use Rattle.lsl_handoff.specs.Notes.{answer_of, cancel_of, offer_of}
use Rattle.lsl_handoff.specs.Rules.{Event, Depart, Again, GiveUp, Deliver}
use Rattle.lsl_handoff.specs.Runs.{Run, start}

abbrev pub begun : Run
begun = start (1 ∷ []) 2

abbrev pub parcel : List ℕ
parcel = 7 ∷ 8 ∷ 9 ∷ []

-- the notes of the first trip, from the first region to the second
abbrev pub offer : Note
offer = offer_of 1 1 1 2 parcel

abbrev pub cancel : Note
cancel = cancel_of 1 1 1 2

abbrev pub taken : Note
taken = answer_of Taken offer

abbrev pub refused : Note
refused = answer_of Refused cancel

abbrev pub card : ℕ → Bool → Phase → Card
card trip took phase = record { trip = trip; took = took; phase = phase }

-- the offer comes, and its answer
abbrev pub good_handoff : List Event
good_handoff = Depart 1 1 2 parcel ∷ Deliver offer ∷ Deliver taken ∷ []

-- the first answer is lost, so the offer is sent again
abbrev pub lost_answer : List Event
lost_answer = Depart 1 1 2 parcel ∷ Deliver offer ∷ Again 1 1 ∷ Deliver offer ∷ Deliver taken ∷ []

-- the offer is lost, and the object is called back
abbrev pub cancelled : List Event
cancelled = Depart 1 1 2 parcel ∷ GiveUp 1 1 ∷ Deliver cancel ∷ Deliver refused ∷ []

-- the offer comes when the object is back
abbrev pub stale_offer : List Event
stale_offer = cancelled ++ Deliver offer ∷ []

-- the answer is lost, and the object is called back when it was taken
abbrev pub late_cancel : List Event
late_cancel = Depart 1 1 2 parcel ∷ Deliver offer ∷ GiveUp 1 1 ∷ Deliver cancel ∷ Deliver taken ∷ []

-- the object is live in the second region, or in the first one again
abbrev pub handed_over : List (List Card)
handed_over = (card 1 false Away ∷ card 1 true (Live parcel) ∷ []) ∷ []

abbrev pub called_back : List (List Card)
called_back = (card 1 false (Live parcel) ∷ card 1 false Away ∷ []) ∷ []

-- a note of the first trip that isn't an offer: the letters, the version, the size of the whole, the kind, the object,
-- the trip, the two regions
abbrev pub short_bytes : ℕ → ℕ → ℕ → List ℕ
short_bytes kind from to =
    76 ∷ 83 ∷ 76 ∷ 78 ∷ 0 ∷ 1 ∷ 0 ∷ 0 ∷ 0 ∷ 0 ∷ 0 ∷ 0 ∷ 0 ∷ 67 ∷ kind ∷ 0 ∷ 0 ∷ 0 ∷ 1 ∷
    0 ∷ 0 ∷ 0 ∷ 0 ∷ 0 ∷ 0 ∷ 0 ∷ 1 ∷ 0 ∷ 0 ∷ 0 ∷ from ∷ 0 ∷ 0 ∷ 0 ∷ to ∷ []

abbrev pub taken_bytes : List ℕ
taken_bytes = short_bytes 2 2 1

abbrev pub cancel_bytes : List ℕ
cancel_bytes = short_bytes 3 1 2

abbrev pub refused_bytes : List ℕ
refused_bytes = short_bytes 4 2 1

-- an offer, with kind 1: after these fields the parcel, with how many bytes it has
abbrev pub offer_bytes : List ℕ
offer_bytes =
    76 ∷ 83 ∷ 76 ∷ 78 ∷ 0 ∷ 1 ∷ 0 ∷ 0 ∷ 0 ∷ 0 ∷ 0 ∷ 0 ∷ 0 ∷ 78 ∷ 1 ∷ 0 ∷ 0 ∷ 0 ∷ 1 ∷ 0 ∷ 0 ∷ 0 ∷ 0 ∷ 0 ∷ 0 ∷ 0 ∷ 1 ∷
    0 ∷ 0 ∷ 0 ∷ 1 ∷ 0 ∷ 0 ∷ 0 ∷ 2 ∷ 0 ∷ 0 ∷ 0 ∷ 0 ∷ 0 ∷ 0 ∷ 0 ∷ 3 ∷ 7 ∷ 8 ∷ 9 ∷ []
