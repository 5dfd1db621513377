-- An object is handed over: the notes of its drive go over a link as bytes.
use Rattle.std.specs.Prelude.{◌≡◌, ◌⊎◌, ℕ, Bool, if◌then◌else◌, List, [], ◌∷◌, length, Option, Some, None}
use Rattle.lsl_ports.specs.Trips.{Trip}
use Rattle.lsl_handoff.specs.declared.card.Card.{Card}
use Rattle.lsl_handoff.specs.declared.drive.Way.{Way}
use Rattle.lsl_handoff.specs.declared.faults.DepartFault.{DepartFault}
use Rattle.lsl_handoff.specs.declared.handover.Back.{Back}
use Rattle.lsl_handoff.specs.declared.note.Note.{Note}
use Rattle.lsl_handoff.specs.declared.note.NoteKind.{NoteKind}
use Rattle.lsl_handoff.specs.declared.note.NoteKind.TheVariants.{Offer, Taken, Cancel, Refused}
use Rattle.lsl_handoff.specs.Cards.{cause, depart_fault, is_live}
use Rattle.lsl_handoff.specs.DriveLaws.{departure}
use Rattle.lsl_handoff.specs.Drives.{Moment, asks, hears, lands, rested}
use Rattle.lsl_handoff.specs.Fields.{IsOneOf, card_at, cards_of}
use Rattle.lsl_handoff.specs.NoteBytes.{IsNoteOf, note_bytes}

-- a field has this many objects, each with a card for this many regions
pub record HasCounts (objects regions : ℕ) (field : List (List Card)) : Type 0 where
  pub rows : length field ≡ objects
  pub cards : (object : ℕ) → IsOneOf objects object → length (cards_of field object) ≡ regions

-- one trip of these bytes, which brought that back
abbrev pub IsOneTrip : List Trip → List ℕ → Option (List ℕ) → Type 0
IsOneTrip trips sent back = trips ≡ record { sent = sent; back = back } ∷ []

-- no trip of these bytes, or one
abbrev pub IsOneTripOrNone : List Trip → List ℕ → Type 0
IsOneTripOrNone trips sent = (trips ≡ []) ⊎ ((back : Option (List ℕ)) × IsOneTrip trips sent back)

-- an offer is delivered only if it may be taken
abbrev pub Passes : (Note → Type 0) → NoteKind → Note → Type 0
Passes Takes Offer note = Takes note
Passes Takes Taken note = Unit {0}
Passes Takes Cancel note = Unit {0}
Passes Takes Refused note = Unit {0}

-- an object that is live again where it was didn't arrive in the other region
abbrev pub landed_unless : {A : Type 0} → Bool → Option A → Option A
landed_unless home landed = if home then None else landed

-- what came back: a note, and what its parcel means, if it is an offer
abbrev pub note_of : {T : Type 0} → Option (Back T) → Option Note
note_of None = None
note_of (Some back) = Some back.note

-- an offer may be taken if its parcel means something
abbrev pub IsTaken : {T : Type 0} → (Note → T → Type 0) → Note → Type 0
IsTaken {T} stands offer = (parts : T) × stands offer parts

-- what comes with a note: with an offer, the meaning of its parcel
abbrev pub IsToldOf : {T : Type 0} → (Note → T → Type 0) → NoteKind → Note → Option T → Type 0
IsToldOf stands Offer note None = ⊥
IsToldOf stands Offer note (Some parts) = stands note parts
IsToldOf stands Taken note parts = Unit {0}
IsToldOf stands Cancel note parts = Unit {0}
IsToldOf stands Refused note parts = Unit {0}

abbrev pub IsToldWith : {T : Type 0} → (Note → T → Type 0) → Option (Back T) → Type 0
IsToldWith stands None = Unit {0}
IsToldWith stands (Some back) = IsToldOf stands back.note.kind back.note back.parts

-- what the offer means that made the object live in the other region, or what was before
abbrev pub given_by : {T : Type 0} → Way → List (List Card) → Option (Back T) → Option T → Option T
given_by way field None before = before
given_by way field (Some back) before = if lands way field back.note then back.parts else before

-- the object came as what the offer's parcel means, if it came
abbrev pub IsGivenOf : {T : Type 0} → (Note → T → Type 0) → Option Note → Option T → Type 0
IsGivenOf stands None None = Unit {0}
IsGivenOf stands None (Some parts) = ⊥
IsGivenOf stands (Some offer) None = ⊥
IsGivenOf stands (Some offer) (Some parts) = stands offer parts

module _ (objects regions : ℕ) (Takes : Note → Type 0) where
  abbrev pub IsReadAs : List ℕ → Note → Type 0
  IsReadAs bytes note = IsNoteOf objects regions bytes note × Passes Takes note.kind note

  -- what came back is this note, or none: other bytes are lost
  abbrev pub IsHeard : Option (List ℕ) → Option Note → Type 0
  IsHeard None None = Unit {0}
  IsHeard None (Some note) = ⊥
  IsHeard (Some bytes) None = (note : Note) → IsReadAs bytes note → ⊥
  IsHeard (Some bytes) (Some note) = IsReadAs bytes note

  -- from a moment to a later one by these trips: each carries what is asked, and what came back is heard
  abbrev pub Drives : Way → Moment → List Trip → Moment → Type 0
  Drives way m [] last = m ≡ last
  Drives way m (t ∷ trips) last =
      (note : Note) × (back : Option Note) × (asks way m ≡ Some note) × (t.sent ≡ note_bytes note)
      × IsHeard t.back back × Drives way (hears way m back) trips last

  -- the same trips, cut off anywhere: what came back on the last may not have been heard
  abbrev pub IsCut : Way → Moment → List Trip → Type 0
  IsCut way m [] = Unit {0}
  IsCut way m (t ∷ trips) =
      (note : Note) × (asks way m ≡ Some note) × (t.sent ≡ note_bytes note)
      × ((trips ≡ []) ⊎ ((back : Option Note) × IsHeard t.back back × IsCut way (hears way m back) trips))

  -- an object was driven to the end of its drive, and rests; it came to the other region by this offer, or is where it
  -- was
  pub record IsHandedOver (way : Way) (parcel : List ℕ) (trips : List Trip) (old new : List (List Card))
      (landed : Option Note) : Type 0 where
    pub departs : depart_fault (card_at old way.object way.from) way.from way.to ≡ None
    pub last : Moment
    pub drives : Drives way (departure old way parcel) trips last
    pub ends : asks way last ≡ None
    pub rests : new ≡ rested last.field way
    pub landed_is : landed ≡ landed_unless (is_live (card_at new way.object way.from).phase) last.landed

  -- it didn't depart for this fault, and nothing was carried; or memory ran out on the way
  pub record IsntHandedOver (way : Way) (parcel : List ℕ) (trips : List Trip) (old new : List (List Card))
      (fault : DepartFault) : Type 0 where
    pub first : depart_fault (card_at old way.object way.from) way.from way.to ≡ cause fault
    pub silent : (other : DepartFault) → cause fault ≡ Some other → (trips ≡ []) × (new ≡ old)
    pub cut : IsCut way (departure old way parcel) trips
