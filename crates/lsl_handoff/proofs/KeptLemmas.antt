-- What each event keeps of an earlier note. The cards are unchanged, except that of one region.
use Rattle.std.proofs.Common.{◌≡◌, ◌≢◌, ℕ, ◌+◌, ◌<◌, ◌≤◌, false, List, inl, inr, arith}
use Rattle.lsl_handoff.specs.declared.card.Card.{Card}
use Rattle.lsl_handoff.specs.declared.card.Phase.TheVariants.{Away, Live, Leaving, Cancelling}
use Rattle.lsl_handoff.specs.declared.note.Note.{Note}
use Rattle.lsl_handoff.specs.declared.note.NoteKind.{NoteKind}
use Rattle.lsl_handoff.specs.declared.note.NoteKind.TheVariants.{Offer, Taken, Cancel, Refused}
use Rattle.lsl_handoff.proofs.Holding.{Fits, Holds, IsCancelling, IsOver, IsSettled}

module _ (regions : ℕ) (at new : ℕ → Card) (parcel : List ℕ) (h : ℕ) (note : Note) (holds : Holds regions at parcel h)
    (below : note.trip ≤ (at h).trip) where
  -- the holder departs
  pub kept_by_departure : (next held : List ℕ) (to : ℕ) (kind : NoteKind) → (at h).phase ≡ Live held
      → (new h).trip ≡ (at h).trip + 1 → (new h).took ≡ false → (new h).phase ≡ Leaving to next
      → ((q : ℕ) → q ≢ h → new q ≡ at q) → Fits at note kind → Fits new note kind
  kept_by_departure next held to kind was trip took phase same fits = grind arith

  -- a region calls back what is leaving
  module _ (held : List ℕ) (r to : ℕ) (was : (at r).phase ≡ Leaving to held) (trip : (new r).trip ≡ (at r).trip)
      (took : (new r).took ≡ (at r).took) (phase : (new r).phase ≡ Cancelling to held)
      (same : (q : ℕ) → q ≢ r → new q ≡ at q) where
    pub offer-giving_up : Fits at note Offer → Fits new note Offer
    offer-giving_up fits = grind arith

    pub cancel-giving_up : Fits at note Cancel → Fits new note Cancel
    cancel-giving_up fits = grind arith

    pub taken-giving_up : Fits at note Taken → Fits new note Taken
    taken-giving_up fits = grind arith

    pub refused-giving_up : Fits at note Refused → Fits new note Refused
    refused-giving_up fits = grind arith

    pub kept_by_giving_up : (kind : NoteKind) → Fits at note kind → Fits new note kind
    kept_by_giving_up Offer fits = offer-giving_up fits
    kept_by_giving_up Cancel fits = cancel-giving_up fits
    kept_by_giving_up Taken fits = taken-giving_up fits
    kept_by_giving_up Refused fits = refused-giving_up fits

  -- the card of another region rises to the greatest trip: it takes an offer, or refuses it beforehand
  module _ (r : ℕ) (other : r ≢ h) (low : (at r).trip < (at h).trip) (trip : (new r).trip ≡ (at h).trip)
      (settled : IsSettled (new r).phase) (same : (q : ℕ) → q ≢ r → new q ≡ at q) where
    pub offer-rise : Fits at note Offer → Fits new note Offer
    offer-rise fits = grind arith

    pub cancel-rise : Fits at note Cancel → Fits new note Cancel
    cancel-rise fits = grind arith

    pub taken-rise : Fits at note Taken → Fits new note Taken
    taken-rise fits = grind arith

    over-rise : IsOver (at note.to) note.trip → IsOver (new note.to) note.trip
    over-rise over = grind arith

    -- a region that refuses a trip that isn't over has the greatest one
    refuser-stays : (at note.to).trip ≡ note.trip → IsCancelling (at note.to).phase note.from
        → (at note.from).trip ≡ note.trip → (at note.from).took ≡ false → (note.to ≡ h) × (note.from ≢ r)
    refuser-stays asked is refused took = grind arith

    open-rise : (at note.to).trip ≡ note.trip → IsCancelling (at note.to).phase note.from
        → (at note.from).trip ≡ note.trip → (at note.from).took ≡ false → Fits new note Refused
    open-rise asked is refused took = let stays = refuser-stays asked is refused took in grind arith

    pub refused-rise : Fits at note Refused → Fits new note Refused
    refused-rise (inl over) = inl (over-rise over)
    refused-rise (inr asked) = open-rise asked.0 asked.1 asked.2 asked.3

    pub kept_by_rise : (kind : NoteKind) → Fits at note kind → Fits new note kind
    kept_by_rise Offer fits = offer-rise fits
    kept_by_rise Cancel fits = cancel-rise fits
    kept_by_rise Taken fits = taken-rise fits
    kept_by_rise Refused fits = refused-rise fits

  -- another region hears that the object was taken
  module _ (r : ℕ) (other : r ≢ h) (trip : (new r).trip ≡ (at r).trip) (took : (new r).took ≡ (at r).took)
      (phase : (new r).phase ≡ Away) (same : (q : ℕ) → q ≢ r → new q ≡ at q) where
    pub offer-taken : Fits at note Offer → Fits new note Offer
    offer-taken fits = grind arith

    pub cancel-taken : Fits at note Cancel → Fits new note Cancel
    cancel-taken fits = grind arith

    pub taken-taken : Fits at note Taken → Fits new note Taken
    taken-taken fits = grind arith

    pub refused-taken : Fits at note Refused → Fits new note Refused
    refused-taken fits = grind arith

    pub kept_by_taken : (kind : NoteKind) → Fits at note kind → Fits new note kind
    kept_by_taken Offer fits = offer-taken fits
    kept_by_taken Cancel fits = cancel-taken fits
    kept_by_taken Taken fits = taken-taken fits
    kept_by_taken Refused fits = refused-taken fits

  -- the holder hears that the object was refused
  pub kept_by_refused : (held : List ℕ) (to : ℕ) (kind : NoteKind) → (at h).phase ≡ Cancelling to held
      → (at to).trip ≡ (at h).trip → (new h).trip ≡ (at h).trip → (new h).took ≡ (at h).took
      → (new h).phase ≡ Live held → ((q : ℕ) → q ≢ h → new q ≡ at q) → Fits at note kind → Fits new note kind
  kept_by_refused held to kind was answered trip took phase same fits = grind arith
