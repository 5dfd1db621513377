-- The result of a drive.
use Rattle.std.specs.Prelude.{◌≡◌, ◌≢◌, ℕ, ◌+◌, ◌≤◌, Bool, ◌&&◌, nat_eq, if◌then◌else◌, List, [], ◌∷◌, ◌++◌, length, Contains, Option, Some, None}
use Rattle.lsl_handoff.specs.declared.card.Card.{Card}
use Rattle.lsl_handoff.specs.declared.card.Phase.TheVariants.{Away}
use Rattle.lsl_handoff.specs.declared.note.Note.{Note}
use Rattle.lsl_handoff.specs.declared.note.NoteKind.{NoteKind}
use Rattle.lsl_handoff.specs.declared.note.NoteKind.TheVariants.{Offer, Taken, Cancel, Refused}
use Rattle.lsl_handoff.specs.declared.drive.Way.{Way}
use Rattle.lsl_handoff.specs.Cards.{depart_fault}
use Rattle.lsl_handoff.specs.Drives.{Carried, HasWay, Moment, Obeys, after_carried, asks, departed, rested}
use Rattle.lsl_handoff.specs.Fields.{HasCard, IsLive, IsOneOf, card_at, cards_of, does}
use Rattle.lsl_handoff.specs.Notes.{offer_of}
use Rattle.lsl_handoff.specs.Rules.{Depart}

-- which of a trip's two questions came first to the other region
pub data First : Type 0 where
  Neither : First
  OfferFirst : First
  CancelFirst : First

abbrev pub first_kind : NoteKind → First
first_kind Offer = OfferFirst
first_kind Taken = Neither
first_kind Cancel = CancelFirst
first_kind Refused = Neither

abbrev pub or_first : First → First → First
or_first Neither next = next
or_first OfferFirst next = OfferFirst
or_first CancelFirst next = CancelFirst

abbrev pub is_of_trip : Way → ℕ → Note → Bool
is_of_trip way trip note = nat_eq note.object way.object && nat_eq note.trip trip

abbrev pub first_with : Way → ℕ → First → Option Note → First
first_with way trip first None = first
first_with way trip first (Some note) =
    if is_of_trip way trip note then or_first first (first_kind note.kind) else first

abbrev pub first_of : Way → ℕ → First → List Carried → First
first_of way trip first [] = first
first_of way trip first (c ∷ more) = first_of way trip (first_with way trip first c.back) more

-- where the object rests then, and the offer with which it came to the other region
abbrev pub rests_in : Way → First → ℕ
rests_in way Neither = way.from
rests_in way OfferFirst = way.to
rests_in way CancelFirst = way.from

abbrev pub landed_as : First → Note → Option Note
landed_as Neither offer = None
landed_as OfferFirst offer = Some offer
landed_as CancelFirst offer = None

-- the object is live in this region and away in the others, and none of these heard of a later trip
pub record IsAtRest (field : List (List Card)) (object region : ℕ) : Type 0 where
  pub live : (held : List ℕ) × IsLive field object region held
  pub away : (other : ℕ) → other ≢ region → (card_at field object other).phase ≡ Away
  pub greatest : (other : ℕ) → (card_at field object other).trip ≤ (card_at field object region).trip

-- each object is at rest in its place
abbrev pub AreAtRest : List (List Card) → (ℕ → ℕ) → Type 0
AreAtRest field place = (object : ℕ) → IsOneOf (length field) object → IsAtRest field object (place object)

-- both regions of a note heard of its trip, or of a later one
pub record IsPast (field : List (List Card)) (note : Note) : Type 0 where
  pub from : HasCard field note.object note.from
  pub to : HasCard field note.object note.to
  pub by_from : note.trip ≤ (card_at field note.object note.from).trip
  pub by_to : note.trip ≤ (card_at field note.object note.to).trip

abbrev pub ArePast : List (List Card) → List Note → Type 0
ArePast field notes = (note : Note) → Contains notes note → IsPast field note

-- the notes that were handed over by the end, where these were before
abbrev pub handed_by : List Note → List Carried → List Note
handed_by handed [] = handed
handed_by handed (c ∷ more) = handed_by (handed ++ c.note ∷ []) more

-- what came back, if anything did, was handed over by then
abbrev pub WasHanded : List Note → Option Note → Type 0
WasHanded handed None = Unit {0}
WasHanded handed (Some back) = Contains handed back

abbrev pub AreFaithful : List Note → List Carried → Type 0
AreFaithful handed [] = Unit {0}
AreFaithful handed (c ∷ more) =
    WasHanded (handed ++ c.note ∷ []) c.back × AreFaithful (handed ++ c.note ∷ []) more

-- the result of the drive of an offer: the object is at rest after its trip, in the other region exactly if the offer
-- came, and not after its cancel; the other objects are unchanged, and all notes are past
pub record ComesToRest (old new : List (List Card)) (way : Way) (offer : Note) (first : First)
    (handed : Note → Type 0) (landed : Option Note) : Type 0 where
  pub rests : IsAtRest new way.object (rests_in way first)
  pub as_parcel : IsLive new way.object (rests_in way first) offer.parcel
  pub after : (card_at new way.object (rests_in way first)).trip ≡ offer.trip
  pub others : (object : ℕ) → object ≢ way.object → cards_of new object ≡ cards_of old object
  pub past : (note : Note) → handed note → IsPast new note
  pub landed_is : landed ≡ landed_as first offer

-- a departure of an object, as this parcel
abbrev pub departure : List (List Card) → Way → List ℕ → Moment
departure field way parcel = departed (does field (Depart way.from way.object way.to parcel)).0

-- its trip, and its offer
abbrev pub next_trip : List (List Card) → Way → ℕ
next_trip field way = (card_at field way.object way.from).trip + 1

abbrev pub next_offer : List (List Card) → Way → List ℕ → Note
next_offer field way parcel = offer_of way.object (next_trip field way) way.from way.to parcel

-- each drive comes to rest, if each object was at rest and all earlier notes were past, and nothing came back that
-- wasn't handed over
abbrev pub DrivesComeToRest : Type 0
DrivesComeToRest =
    (field : List (List Card)) (place : ℕ → ℕ) (way : Way) (parcel : List ℕ) (handed : List Note) (trips : List Carried)
    → HasWay field way → AreAtRest field place → place way.object ≡ way.from
    → depart_fault (card_at field way.object way.from) way.from way.to ≡ None → ArePast field handed
    → Obeys way (departure field way parcel) trips → AreFaithful handed trips
    → asks way (after_carried way (departure field way parcel) trips) ≡ None
    → ComesToRest field (rested (after_carried way (departure field way parcel) trips).field way) way
    (next_offer field way parcel) (first_of way (next_trip field way) Neither trips) (Contains (handed_by handed trips))
    (after_carried way (departure field way parcel) trips).landed
