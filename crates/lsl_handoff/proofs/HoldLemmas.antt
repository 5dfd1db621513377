-- The holder, after each event. The cards are unchanged, except that of one region.
use Rattle.std.proofs.Common.{◌≡◌, ◌≢◌, sym, subst, ℕ, ◌+◌, ◌<◌, ◌⊎◌, true, false, List, inl, inr, arith}
use Rattle.std.proofs.lemmas.Bool.{cases_eq}
use Rattle.lsl_handoff.specs.declared.card.Card.{Card}
use Rattle.lsl_handoff.specs.declared.card.Phase.TheVariants.{Away, Live, Leaving, Cancelling}
use Rattle.lsl_handoff.specs.declared.note.Note.{Note}
use Rattle.lsl_handoff.specs.declared.note.NoteKind.TheVariants.{Offer, Taken, Cancel, Refused}
use Rattle.lsl_handoff.specs.Fields.{IsOneOf}
use Rattle.lsl_handoff.proofs.Holding.{Fits, HasNot, Holds, IsCancelling, IsOffering}

module _ (regions : ℕ) (at new : ℕ → Card) (parcel : List ℕ) (h : ℕ) (holds : Holds regions at parcel h) where
  -- where the object is live, it is held
  pub live-holder : (r : ℕ) (held : List ℕ) → (at r).phase ≡ Live held → r ≡ h
  live-holder r held live = grind arith

  -- an offer or a cancel of a later trip comes from the holder
  pub offer-holder : (note : Note) → (at note.to).trip < note.trip → Fits at note Offer → note.from ≡ h
  offer-holder note later fits = grind arith

  pub cancel-holder : (note : Note) → (at note.to).trip < note.trip → Fits at note Cancel → note.from ≡ h
  cancel-holder note later fits = grind arith

  -- a region that awaits an answer and hears that the object was taken isn't the holder
  pub taken-elsewhere : (note : Note) → (at note.to).trip ≡ note.trip → note.from ≢ note.to → Fits at note Taken
      → ((held : List ℕ) → (at note.to).phase ≡ Live held → ⊥) → ((at note.to).phase ≡ Away → ⊥)
      → note.to ≢ h
  taken-elsewhere note same apart fits not_live not_away = grind arith

  -- a region that called the object back and hears that it was refused is the holder, and the other region has this
  -- trip
  pub refused-holder : (note : Note) (to : ℕ) (held : List ℕ) → (at note.to).trip ≡ note.trip
      → (at note.to).phase ≡ Cancelling to held → Fits at note Refused
      → (note.to ≡ h) × (to ≡ note.from) × ((at note.from).trip ≡ note.trip)
  refused-holder note to held same was fits = grind arith

  -- what is under way goes to another region
  pub leaving-apart : (r to : ℕ) (held : List ℕ) → (at r).phase ≡ Leaving to held → to ≢ r
  leaving-apart r to held is = grind arith

  pub leaving-there : (r to : ℕ) (held : List ℕ) → (at r).phase ≡ Leaving to held → IsOneOf regions to
  leaving-there r to held is = grind arith

  pub cancelling-apart : (r to : ℕ) (held : List ℕ) → (at r).phase ≡ Cancelling to held → to ≢ r
  cancelling-apart r to held is = grind arith

  pub cancelling-there : (r to : ℕ) (held : List ℕ) → (at r).phase ≡ Cancelling to held → IsOneOf regions to
  cancelling-there r to held is = grind arith

  module _ (same : (q : ℕ) → q ≢ h → new q ≡ at q) where
    pub hold-departure : (next held : List ℕ) (to : ℕ) → (at h).phase ≡ Live held → to ≢ h → IsOneOf regions to
        → (new h).trip ≡ (at h).trip + 1 → (new h).phase ≡ Leaving to next → Holds regions new next h
    hold-departure next held to was apart there trip phase = record {
      there = holds.there;
      has = grind arith;
      others = λ q other. grind (arith, holds.others q);
      greatest = λ q. grind (arith, holds.greatest q);
    }

    pub hold-refused : (to : ℕ) (held : List ℕ) → (at h).phase ≡ Cancelling to held → (new h).trip ≡ (at h).trip
        → (new h).took ≡ (at h).took → (new h).phase ≡ Live held → Holds regions new parcel h
    hold-refused to held was trip took phase = record {
      there = holds.there;
      has = grind arith;
      others = λ q other. grind (arith, holds.others q);
      greatest = λ q. grind (arith, holds.greatest q);
    }

  module _ (r : ℕ) (same : (q : ℕ) → q ≢ r → new q ≡ at q) where
    pub hold-giving_up : (to : ℕ) (held : List ℕ) → (at r).phase ≡ Leaving to held → (new r).trip ≡ (at r).trip
        → (new r).took ≡ (at r).took → (new r).phase ≡ Cancelling to held → Holds regions new parcel h
    hold-giving_up to held was trip took phase = record {
      there = holds.there;
      has = grind arith;
      others = λ q other. grind (arith, holds.others q);
      greatest = λ q. grind (arith, holds.greatest q);
    }

    pub hold-taken : r ≢ h → (new r).trip ≡ (at r).trip → (new r).took ≡ (at r).took → (new r).phase ≡ Away
        → Holds regions new parcel h
    hold-taken other trip took phase = record {
      there = holds.there;
      has = grind arith;
      others = λ q apart. grind (arith, holds.others q);
      greatest = λ q. grind (arith, holds.greatest q);
    }

    -- the region of a cancel's target is closed to the trip
    pub hold-closing : r ≢ h → IsCancelling (at h).phase r → (at r).trip < (at h).trip → (new r).trip ≡ (at h).trip
        → (new r).took ≡ false → (new r).phase ≡ Away → Holds regions new parcel h
    hold-closing other is low trip took phase = record {
      there = holds.there;
      has = grind arith;
      others = λ q apart. grind (arith, holds.others q);
      greatest = λ q. grind (arith, holds.greatest q);
    }

-- the offer of a later trip is taken: its region is the new holder
module _ (regions : ℕ) (at new : ℕ → Card) (parcel : List ℕ) (h : ℕ) (holds : Holds regions at parcel h) (r : ℕ)
    (there : IsOneOf regions r) (other : r ≢ h) (low : (at r).trip < (at h).trip) (held : List ℕ)
    (is : IsOffering (at h).phase r held) (trip : (new r).trip ≡ (at h).trip) (took : (new r).took ≡ true)
    (phase : (new r).phase ≡ Live held) (same : (q : ℕ) → q ≢ r → new q ≡ at q) where
  was-held : held ≡ parcel
  was-held = grind arith

  gone : HasNot regions new h (new h).phase
  gone = grind arith

  elsewhere : (q : ℕ) → q ≢ r → q ≢ h → HasNot regions new q (new q).phase
  elsewhere q apart from = grind (arith, holds.others q)

  others-of : (q : ℕ) → q ≢ r → (q ≡ h) ⊎ (q ≢ h) → HasNot regions new q (new q).phase
  others-of q apart (inl here) = subst (λ (x : ℕ). HasNot regions new x (new x).phase) (sym here) gone
  others-of q apart (inr from) = elsewhere q apart from

  pub hold-taking : Holds regions new parcel r
  hold-taking = record {
    there = there;
    has = grind (arith, was-held);
    others = λ q apart. others-of q apart (cases_eq q h);
    greatest = λ q. grind (arith, holds.greatest q);
  }
