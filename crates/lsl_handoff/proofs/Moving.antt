-- What holds of a field and the notes that were handed over while one object is driven.
use Rattle.std.proofs.Common.{◌≡◌, ◌≢◌, ℕ, List, length, Option, Some, None}
use Rattle.lsl_handoff.specs.declared.card.Card.{Card}
use Rattle.lsl_handoff.specs.declared.drive.Way.{Way}
use Rattle.lsl_handoff.specs.declared.note.Note.{Note}
use Rattle.lsl_handoff.specs.DriveLaws.{First, IsPast, landed_as}
use Rattle.lsl_handoff.specs.Drives.{Moment}
use Rattle.lsl_handoff.specs.Fields.{HasCard, card_at, cards_of}
use Rattle.lsl_handoff.specs.Notes.{offer_of}
use Rattle.lsl_handoff.proofs.Driving.{IsBetween, IsKnown}

-- as many objects, and of each as many cards
pub record IsAsLong (old new : List (List Card)) : Type 0 where
  pub rows : length new ≡ length old
  pub cards : (object : ℕ) → length (cards_of new object) ≡ length (cards_of old object)

module _ (way : Way) (trip : ℕ) (parcel : List ℕ) (start : List (List Card)) where
  -- a note that was handed over: about the object that is driven, or past
  pub record IsHeld (now : List (List Card)) (first : First) (note : Note) : Type 0 where
    pub from : HasCard start note.object note.from
    pub to : HasCard start note.object note.to
    pub own : note.object ≡ way.object
        → IsKnown way.from way.to trip parcel (card_at now way.object) first note
    pub other : note.object ≢ way.object → IsPast start note

  abbrev pub IsHeldIf : List (List Card) → First → Option Note → Type 0
  IsHeldIf now first None = Unit {0}
  IsHeldIf now first (Some note) = IsHeld now first note

  pub record Moves (handed : Note → Type 0) (first : First) (m : Moment) : Type 0 where
    pub long : IsAsLong start m.field
    pub others : (object : ℕ) → object ≢ way.object → cards_of m.field object ≡ cards_of start object
    pub between : IsBetween way.from way.to trip parcel (card_at m.field way.object) first
    pub known : (note : Note) → handed note → IsHeld m.field first note
    pub reply : IsHeldIf m.field first m.reply
    pub landed : m.landed ≡ landed_as first (offer_of way.object trip way.from way.to parcel)
