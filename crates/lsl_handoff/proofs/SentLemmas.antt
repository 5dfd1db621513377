-- Each note that an event sends fits the cards that the event leaves.
use Rattle.std.proofs.Common.{◌≡◌, ℕ, ◌<◌, true, false, List, inl, inr, arith}
use Rattle.lsl_handoff.specs.declared.card.Card.{Card}
use Rattle.lsl_handoff.specs.declared.card.Phase.TheVariants.{Leaving, Cancelling}
use Rattle.lsl_handoff.specs.declared.note.Note.{Note}
use Rattle.lsl_handoff.specs.declared.note.NoteKind.TheVariants.{Offer, Taken, Cancel, Refused}
use Rattle.lsl_handoff.specs.Notes.{answer_of, cancel_of, offer_of}
use Rattle.lsl_handoff.proofs.Holding.{Fits, Holds, IsCancelling, IsOffering}

module _ (regions : ℕ) (at : ℕ → Card) (parcel : List ℕ) (h : ℕ) (holds : Holds regions at parcel h) where
  pub offer-sent : (object r to : ℕ) (held : List ℕ) → (at r).phase ≡ Leaving to held
      → Fits at (offer_of object (at r).trip r to held) Offer
  offer-sent object r to held is = grind arith

  pub cancel-sent : (object r to : ℕ) (held : List ℕ) → (at r).phase ≡ Cancelling to held
      → Fits at (cancel_of object (at r).trip r to) Cancel
  cancel-sent object r to held is = grind arith

  module _ (note : Note) where
    -- a region that took the trip, or is past it, answers that it was taken
    pub taken-sent_offer : note.trip < (at note.to).trip → Fits at note Offer → Fits at (answer_of Taken note) Taken
    taken-sent_offer past fits = grind arith

    pub taken-sent_cancel : note.trip < (at note.to).trip → Fits at note Cancel → Fits at (answer_of Taken note) Taken
    taken-sent_cancel past fits = grind arith

    pub took-sent_offer : (at note.to).trip ≡ note.trip → (at note.to).took ≡ true → Fits at note Offer
        → Fits at (answer_of Taken note) Taken
    took-sent_offer same took fits = grind arith

    pub took-sent_cancel : (at note.to).trip ≡ note.trip → (at note.to).took ≡ true → Fits at note Cancel
        → Fits at (answer_of Taken note) Taken
    took-sent_cancel same took fits = grind arith

    pub refused-sent_offer : (at note.to).trip ≡ note.trip → (at note.to).took ≡ false → Fits at note Offer
        → Fits at (answer_of Refused note) Refused
    refused-sent_offer same took fits = grind arith

    pub refused-sent_cancel : (at note.to).trip ≡ note.trip → (at note.to).took ≡ false → Fits at note Cancel
        → Fits at (answer_of Refused note) Refused
    refused-sent_cancel same took fits = grind arith

-- the answers to an offer that is taken and to a cancel that closes the region
module _ (at new : ℕ → Card) (note : Note) (trip : (new note.to).trip ≡ note.trip) (from : new note.from ≡ at note.from)
  where
    pub taking-sent : (new note.to).took ≡ true → IsOffering (at note.from).phase note.to note.parcel
        → Fits new (answer_of Taken note) Taken
    taking-sent took is = grind arith

    pub closing-sent : (new note.to).took ≡ false → (at note.from).trip ≡ note.trip
        → IsCancelling (at note.from).phase note.to → Fits new (answer_of Refused note) Refused
    closing-sent took same is = grind arith

-- a question of a later trip than its target's is open
pub offer-asked : (at : ℕ → Card) (note : Note) → (at note.to).trip < note.trip → Fits at note Offer
    → ((at note.from).trip ≡ note.trip) × IsOffering (at note.from).phase note.to note.parcel
offer-asked at note later (inl asked) = asked
offer-asked at note later (inr past) = absurd (omega (arith, later, past.1))

pub cancel-asked : (at : ℕ → Card) (note : Note) → (at note.to).trip < note.trip → Fits at note Cancel
    → ((at note.from).trip ≡ note.trip) × IsCancelling (at note.from).phase note.to
cancel-asked at note later (inl asked) = asked
cancel-asked at note later (inr past) = absurd (omega (arith, later, past.1))
