-- What holds of one object's cards, and of each note about it, while it is driven from one region to another. A card is
-- given by its region.
use Rattle.std.proofs.Common.{◌≡◌, ◌≢◌, ℕ, ◌<◌, ◌≤◌, ◌⊎◌, true, false, List, Option, Some, None}
use Rattle.lsl_handoff.specs.declared.card.Card.{Card}
use Rattle.lsl_handoff.specs.declared.card.Phase.{Phase}
use Rattle.lsl_handoff.specs.declared.card.Phase.TheVariants.{Away, Live, Leaving, Cancelling}
use Rattle.lsl_handoff.specs.declared.note.Note.{Note}
use Rattle.lsl_handoff.specs.declared.note.NoteKind.{NoteKind}
use Rattle.lsl_handoff.specs.declared.note.NoteKind.TheVariants.{Offer, Taken, Cancel, Refused}
use Rattle.lsl_handoff.specs.DriveLaws.{First, Neither, OfferFirst, CancelFirst}

-- the object isn't leaving without having been called back
abbrev pub IsntLeaving : Phase → Type 0
IsntLeaving Away = Unit {0}
IsntLeaving (Live held) = Unit {0}
IsntLeaving (Leaving to held) = ⊥
IsntLeaving (Cancelling to held) = Unit {0}

module _ (a b trip : ℕ) (parcel : List ℕ) where
  -- the region that the object leaves, a
  abbrev pub FromIs : First → Phase → Type 0
  FromIs first Away = first ≡ OfferFirst
  FromIs first (Live held) = (held ≡ parcel) × (first ≡ CancelFirst)
  FromIs first (Leaving to held) = (held ≡ parcel) × (to ≡ b) × (first ≢ CancelFirst)
  FromIs first (Cancelling to held) = (held ≡ parcel) × (to ≡ b)

  -- the region that it goes to, b
  abbrev pub ToIs : First → Card → Type 0
  ToIs Neither card = (card.phase ≡ Away) × (card.trip < trip)
  ToIs OfferFirst card = (card.phase ≡ Live parcel) × (card.trip ≡ trip) × (card.took ≡ true)
  ToIs CancelFirst card = (card.phase ≡ Away) × (card.trip ≡ trip) × (card.took ≡ false)

  pub record IsBetween (at : ℕ → Card) (first : First) : Type 0 where
    pub from_trip : (at a).trip ≡ trip
    pub from : FromIs first (at a).phase
    pub to : ToIs first (at b)
    pub others : (q : ℕ) → q ≢ a → q ≢ b → ((at q).phase ≡ Away) × ((at q).trip < trip)

  -- a note of an earlier trip
  pub record IsOld (at : ℕ → Card) (note : Note) : Type 0 where
    pub earlier : note.trip < trip
    pub by_from : note.trip ≤ (at note.from).trip
    pub by_to : note.trip ≤ (at note.to).trip

  -- a note of this trip
  abbrev pub IsNow : (ℕ → Card) → First → NoteKind → Note → Type 0
  IsNow at first Offer note = (note.from ≡ a) × (note.to ≡ b) × (note.parcel ≡ parcel)
  IsNow at first Taken note = (note.from ≡ b) × (note.to ≡ a) × (first ≡ OfferFirst)
  IsNow at first Cancel note = (note.from ≡ a) × (note.to ≡ b) × IsntLeaving (at a).phase
  IsNow at first Refused note =
      (note.from ≡ b) × (note.to ≡ a) × (first ≡ CancelFirst) × IsntLeaving (at a).phase

  abbrev pub IsKnown : (ℕ → Card) → First → Note → Type 0
  IsKnown at first note = IsOld at note ⊎ ((note.trip ≡ trip) × IsNow at first note.kind note)

  abbrev pub IsKnownReply : (ℕ → Card) → First → Option Note → Type 0
  IsKnownReply at first None = Unit {0}
  IsKnownReply at first (Some note) = IsKnown at first note

  -- after an arrival
  pub record Arrived (at new : ℕ → Card) (first next : First) (reply : Option Note) : Type 0 where
    pub between : IsBetween new next
    pub reply_known : IsKnownReply new next reply
    pub known : (note : Note) → IsKnown at first note → IsKnown new next note
