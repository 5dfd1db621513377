-- What holds of one object's cards and notes at each moment of a run. One region, the holder, has the object; a card is
-- given by its region.
use Rattle.std.proofs.Common.{◌≡◌, ◌≢◌, ℕ, ◌<◌, ◌≤◌, ◌⊎◌, true, false, List, Option, Some}
use Rattle.lsl_handoff.specs.declared.card.Card.{Card}
use Rattle.lsl_handoff.specs.declared.card.Phase.{Phase}
use Rattle.lsl_handoff.specs.declared.card.Phase.TheVariants.{Away, Live, Leaving, Cancelling}
use Rattle.lsl_handoff.specs.declared.note.Note.{Note}
use Rattle.lsl_handoff.specs.declared.note.NoteKind.{NoteKind}
use Rattle.lsl_handoff.specs.declared.note.NoteKind.TheVariants.{Offer, Taken, Cancel, Refused}
use Rattle.lsl_handoff.specs.Fields.{IsOneOf}
use Rattle.lsl_handoff.specs.Rules.{Effect}

-- the card's region didn't take the object on this trip, and may have heard that it shall not
abbrev pub IsUntaken : Card → ℕ → Type 0
IsUntaken card trip = (card.trip < trip) ⊎ ((card.trip ≡ trip) × (card.took ≡ false))

-- the card's region took the object on this trip, or a later trip shows it
abbrev pub IsTakenOn : Card → ℕ → Type 0
IsTakenOn card trip = (trip < card.trip) ⊎ ((card.trip ≡ trip) × (card.took ≡ true))

module _ (regions : ℕ) (at : ℕ → Card) where
  abbrev pub Has : List ℕ → ℕ → Phase → Type 0
  Has parcel holder Away = ⊥
  Has parcel holder (Live held) = held ≡ parcel
  Has parcel holder (Leaving to held) =
      (held ≡ parcel) × (to ≢ holder) × IsOneOf regions to × ((at to).trip < (at holder).trip)
  Has parcel holder (Cancelling to held) =
      (held ≡ parcel) × (to ≢ holder) × IsOneOf regions to × IsUntaken (at to) (at holder).trip

  abbrev pub HasNot : ℕ → Phase → Type 0
  HasNot region Away = Unit {0}
  HasNot region (Live held) = ⊥
  HasNot region (Leaving to held) = (to ≢ region) × IsOneOf regions to × IsTakenOn (at to) (at region).trip
  HasNot region (Cancelling to held) = (to ≢ region) × IsOneOf regions to × IsTakenOn (at to) (at region).trip

  pub record Holds (parcel : List ℕ) (holder : ℕ) : Type 0 where
    pub there : IsOneOf regions holder
    pub has : Has parcel holder (at holder).phase
    pub others : (region : ℕ) → region ≢ holder → HasNot region (at region).phase
    pub greatest : (region : ℕ) → (at region).trip ≤ (at holder).trip

-- no answer is awaited
abbrev pub IsSettled : Phase → Type 0
IsSettled Away = Unit {0}
IsSettled (Live held) = Unit {0}
IsSettled (Leaving to held) = ⊥
IsSettled (Cancelling to held) = ⊥

-- the trip is over for this card
abbrev pub IsOver : Card → ℕ → Type 0
IsOver card trip = (trip < card.trip) ⊎ ((card.trip ≡ trip) × IsSettled card.phase)

-- what the sender of an offer rests in
abbrev pub IsOffering : Phase → ℕ → List ℕ → Type 0
IsOffering Away region parcel = ⊥
IsOffering (Live held) region parcel = ⊥
IsOffering (Leaving to held) region parcel = (to ≡ region) × (held ≡ parcel)
IsOffering (Cancelling to held) region parcel = (to ≡ region) × (held ≡ parcel)

-- what the sender of a cancel rests in
abbrev pub IsCancelling : Phase → ℕ → Type 0
IsCancelling Away region = ⊥
IsCancelling (Live held) region = ⊥
IsCancelling (Leaving to held) region = ⊥
IsCancelling (Cancelling to held) region = to ≡ region

-- if an answer is awaited, it is this region's
abbrev pub AwaitsNoOther : Phase → ℕ → Type 0
AwaitsNoOther Away region = Unit {0}
AwaitsNoOther (Live held) region = Unit {0}
AwaitsNoOther (Leaving to held) region = to ≡ region
AwaitsNoOther (Cancelling to held) region = to ≡ region

module _ (at : ℕ → Card) (note : Note) where
  -- a question that was answered
  abbrev pub IsAnswered : Type 0
  IsAnswered = IsOver (at note.from) note.trip × (note.trip ≤ (at note.to).trip)

  -- what a note says of the cards of its two regions
  abbrev pub Fits : NoteKind → Type 0
  Fits Offer =
      (((at note.from).trip ≡ note.trip) × IsOffering (at note.from).phase note.to note.parcel) ⊎ IsAnswered
  Fits Cancel = (((at note.from).trip ≡ note.trip) × IsCancelling (at note.from).phase note.to) ⊎ IsAnswered
  Fits Taken =
      IsTakenOn (at note.from) note.trip
      × ((at note.to).trip ≡ note.trip → AwaitsNoOther (at note.to).phase note.from)
  Fits Refused =
      IsOver (at note.to) note.trip
      ⊎ (((at note.to).trip ≡ note.trip) × IsCancelling (at note.to).phase note.from
      × ((at note.from).trip ≡ note.trip) × ((at note.from).took ≡ false))

-- what is known of each note about the object that was sent
pub record Known (regions : ℕ) (at : ℕ → Card) (holder : ℕ) (note : Note) : Type 0 where
  pub from : IsOneOf regions note.from
  pub to : IsOneOf regions note.to
  pub apart : note.from ≢ note.to
  pub below : note.trip ≤ (at holder).trip
  pub fits : Fits at note note.kind

-- all of it, of the notes that were sent
pub record Keeps (regions : ℕ) (at : ℕ → Card) (sent : Note → Type 0) (parcel : List ℕ) : Type 0 where
  pub holder : ℕ
  pub holds : Holds regions at parcel holder
  pub known : (note : Note) → sent note → Known regions at holder note

-- one note more was sent, or none
abbrev pub OrSent : (Note → Type 0) → Option Note → Note → Type 0
OrSent sent more note = sent note ⊎ (more ≡ Some note)

-- all of it holds again, where the card of this region has become that of the effect, and its note was sent
abbrev pub Leads : ℕ → (ℕ → Card) → (Note → Type 0) → ℕ → List ℕ → Effect → Type 0
Leads regions at sent region parcel effect =
    (new : ℕ → Card) → new region ≡ effect.0 → ((q : ℕ) → q ≢ region → new q ≡ at q) →
    Keeps regions new (OrSent sent effect.1) parcel
