-- What was sent over a link, as bytes, and the result of handing an object over.
use Rattle.std.specs.Prelude.{◌≡◌, ◌≢◌, ◌⊎◌, ℕ, ◌<◌, ◌^◌, Bool, true, false, if◌then◌else◌, List, [], ◌∷◌, ◌++◌, Contains, Option, Some, None}
use Rattle.std.specs.Str.{bytes_eq}
use Rattle.lsl_ports.specs.Trips.{Trip}
use Rattle.lsl_handoff.specs.declared.card.Card.{Card}
use Rattle.lsl_handoff.specs.declared.drive.Way.{Way}
use Rattle.lsl_handoff.specs.declared.note.Note.{Note}
use Rattle.lsl_handoff.specs.DriveLaws.{AreAtRest, IsAtRest, IsPast, next_offer, next_trip}
use Rattle.lsl_handoff.specs.Fields.{card_at, cards_of}
use Rattle.lsl_handoff.specs.NoteBytes.{IsNoteOf, note_bytes}
use Rattle.lsl_handoff.specs.Notes.{cancel_of}

-- these bytes came back
abbrev pub is_same : List ℕ → Option (List ℕ) → Bool
is_same sent None = false
is_same sent (Some back) = bytes_eq sent back

-- on these trips the offer came back, and not after the cancel
abbrev pub comes : List ℕ → List ℕ → List Trip → Bool
comes offer cancel [] = false
comes offer cancel (t ∷ trips) =
    if is_same offer t.back then true else if is_same cancel t.back then false else comes offer cancel trips

-- the offer of the object's next trip reaches the other region
abbrev pub arrives : List (List Card) → Way → List ℕ → List Trip → Bool
arrives field way parcel trips =
    comes (note_bytes (next_offer field way parcel))
    (note_bytes (cancel_of way.object (next_trip field way) way.from way.to)) trips

-- all entries by the end of these trips
abbrev pub entries_by : List (List ℕ) → List Trip → List (List ℕ)
entries_by entries [] = entries
entries_by entries (t ∷ trips) = entries_by (entries ++ t.sent ∷ []) trips

module _ (objects regions : ℕ) where
  -- a note among these entries
  abbrev pub IsAmong : List (List ℕ) → Note → Type 0
  IsAmong entries note = (bytes : List ℕ) × Contains entries bytes × IsNoteOf objects regions bytes note

  abbrev pub AreAllPast : List (List Card) → List (List ℕ) → Type 0
  AreAllPast field entries = (note : Note) → IsAmong entries note → IsPast field note

  -- nothing came back, or one of the entries, or bytes that aren't a note
  abbrev pub CameBackOf : List (List ℕ) → Option (List ℕ) → Type 0
  CameBackOf entries None = Unit {0}
  CameBackOf entries (Some bytes) =
      Contains entries bytes ⊎ ((note : Note) → IsNoteOf objects regions bytes note → ⊥)

  -- this holds on each trip, with the entries by then
  abbrev pub AreCarried : List (List ℕ) → List Trip → Type 0
  AreCarried entries [] = Unit {0}
  AreCarried entries (t ∷ trips) =
      CameBackOf (entries ++ t.sent ∷ []) t.back × AreCarried (entries ++ t.sent ∷ []) trips

  -- each object is at rest, the object's offer may be taken, all earlier entries are past, and the link brought back
  -- nothing else than entries
  pub record MayRest (Takes : Note → Type 0) (place : ℕ → ℕ) (field : List (List Card)) (way : Way) (parcel : List ℕ)
      (entries : List (List ℕ)) (trips : List Trip) : Type 0 where
    pub rest : AreAtRest field place
    pub home : place way.object ≡ way.from
    pub fit : (object region : ℕ) → (card_at field object region).trip < 2 ^ 64
    pub takes : Takes (next_offer field way parcel)
    pub past : AreAllPast field entries
    pub carried : AreCarried entries trips

  -- then the object is at rest after its trip, in the other region exactly if its offer came, and by that offer; the
  -- others are as before, and all entries are past again
  pub record Rests (old new : List (List Card)) (way : Way) (parcel : List ℕ) (entries : List (List ℕ))
      (trips : List Trip) (landed : Option Note) : Type 0 where
    pub rests : IsAtRest new way.object (if arrives old way parcel trips then way.to else way.from)
    pub after : (card_at new way.object (if arrives old way parcel trips then way.to else way.from)).trip
        ≡ next_trip old way
    pub others : (object : ℕ) → object ≢ way.object → cards_of new object ≡ cards_of old object
    pub past : AreAllPast new (entries_by entries trips)
    pub landed_is : landed ≡ (if arrives old way parcel trips then Some (next_offer old way parcel) else None)
