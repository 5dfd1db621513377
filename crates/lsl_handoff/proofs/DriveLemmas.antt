-- An answer goes back to where its question came from, and every region keeps its cards.
use Rattle.std.proofs.Common.{◌≡◌, ◌∙◌, refl, sym, ap, subst, ℕ, ◌-◌, nat_eq, nat_lt, Bool, true, false, if◌then◌else◌, List, length, Option, Some, None}
use Rattle.std.specs.Prelude.{IfSome}
use Rattle.std.proofs.lemmas.List.{length-set}
use Rattle.lsl_handoff.specs.declared.card.Card.{Card}
use Rattle.lsl_handoff.specs.declared.card.Phase.{Phase}
use Rattle.lsl_handoff.specs.declared.card.Phase.TheVariants.{Away, Live, Leaving, Cancelling}
use Rattle.lsl_handoff.specs.declared.drive.Way.{Way}
use Rattle.lsl_handoff.specs.Drives.{awaited_in, received}
use Rattle.lsl_handoff.specs.declared.note.Note.{Note}
use Rattle.lsl_handoff.specs.declared.note.NoteKind.{NoteKind}
use Rattle.lsl_handoff.specs.declared.note.NoteKind.TheVariants.{Offer, Taken, Cancel, Refused}
use Rattle.lsl_handoff.specs.Fields.{HasCard, IsOneOf, card_at, cards_of, does, with_card}
use Rattle.lsl_handoff.specs.Notes.{answer_of}
use Rattle.lsl_handoff.specs.Rules.{Deliver, Effect, acts, awaited, delivered, known_answer, was_refused, was_taken}
use Rattle.lsl_handoff.proofs.FieldLemmas.{cards-replaced}

abbrev GoesBack : Note → Option Note → Type 0
GoesBack note None = Unit {0}
GoesBack note (Some answer) = (answer.object ≡ note.object) × (answer.to ≡ note.from)

back-if : (note : Note) (b : Bool) (x y : Effect) → GoesBack note x.1 → GoesBack note y.1
    → GoesBack note (if b then x else y).1
back-if note true x y p q = p
back-if note false x y p q = q

back-known : (card : Card) (note : Note) → GoesBack note (Some (known_answer card note))
back-known card note = go (nat_lt note.trip card.trip) card.took where
  go : (later took : Bool) → GoesBack note
      (Some (if later then answer_of Taken note else if took then answer_of Taken note else answer_of Refused note))
  go true took = (refl, refl)
  go false true = (refl, refl)
  go false false = (refl, refl)

back-delivered : (kind : NoteKind) (card : Card) (note : Note) → GoesBack note (delivered kind card note).1
back-delivered Offer card note = back-if note (nat_lt card.trip note.trip)
    (record { trip = note.trip; took = true; phase = Live note.parcel }, Some (answer_of Taken note))
    (card, Some (known_answer card note)) (refl, refl) (back-known card note)
back-delivered Cancel card note = back-if note (nat_lt card.trip note.trip)
    (record { trip = note.trip; took = false; phase = Away }, Some (answer_of Refused note))
    (card, Some (known_answer card note)) (refl, refl) (back-known card note)
back-delivered Taken card note = back-if note (nat_eq card.trip note.trip)
    (record card { phase = was_taken card.phase }, None) (card, None) tt tt
back-delivered Refused card note = back-if note (nat_eq card.trip note.trip)
    (record card { phase = was_refused card.phase }, None) (card, None) tt tt

-- the object of a note that is delivered keeps its cards
module _ (field : List (List Card)) (note : Note) (there : IsOneOf (length field) note.object) (region : ℕ)
    (has : IsOneOf (length (cards_of field note.object)) region) where
  abbrev card : Card
  card = (acts (card_at field note.object note.to) (Deliver note)).0

  cards-stay : HasCard (does field (Deliver note)).0 note.object region
  cards-stay =
      let rows = length-set field (note.object - 1) (with_card (cards_of field note.object) note.to card) in
      let cards = cards-replaced field note.object (with_card (cards_of field note.object) note.to card) there in
      let long = ap length cards ∙ length-set (cards_of field note.object) (note.to - 1) card in (
        subst (λ (n : ℕ). IsOneOf n note.object) (sym rows) there,
        subst (λ (n : ℕ). IsOneOf n region) (sym long) has,
      )

-- so an answer can be delivered where its question came from a region that has a card
pub answer-there : (field new : List (List Card)) (note : Note) (answer : Option Note)
    → does field (Deliver note) ≡ (new, answer) → HasCard field note.object note.to
    → HasCard field note.object note.from
    → IfSome answer (λ a. HasCard new a.object a.to)
answer-there field new note answer e to from =
    go answer (ap (λ (x : List (List Card) × Option Note). x.1) e)
  where
    stays : HasCard new note.object note.from
    stays = subst (λ (x : List (List Card) × Option Note). HasCard x.0 note.object note.from) e
        (cards-stay field note from.0 note.from from.1)

    go : (o : Option Note) → (does field (Deliver note)).1 ≡ o → IfSome o (λ a. HasCard new a.object a.to)
    go None k = tt
    go (Some a) k =
        let back = subst (λ (x : Option Note). GoesBack note x) k
        (back-delivered note.kind (card_at field note.object note.to) note) in
        subst (λ (r : ℕ). HasCard new a.object r) (sym back.1)
        (subst (λ (o : ℕ). HasCard new o note.from) (sym back.0) stays)

-- a pending note comes from the region that awaits its answer
awaited-there : (field : List (List Card)) (way : Way) → HasCard field way.object way.from
    → IfSome (awaited_in field way) (λ n. HasCard field n.object n.from)
awaited-there field way has = go (card_at field way.object way.from).phase where
  go : (phase : Phase)
      → IfSome (awaited phase (card_at field way.object way.from).trip way.from way.object)
      (λ n. HasCard field n.object n.from)
  go Away = tt
  go (Live held) = tt
  go (Leaving to held) = has
  go (Cancelling to held) = has

pub answer-received : (field new : List (List Card)) (way : Way) (note answer : Option Note)
    → awaited_in field way ≡ note → HasCard field way.object way.from
    → IfSome (awaited_in field way) (λ n. HasCard field n.object n.to) → received field note ≡ (new, answer)
    → IfSome answer (λ a. HasCard new a.object a.to)
answer-received field new way note answer is has there e =
    go note (subst (λ (o : Option Note). IfSome o (λ n. HasCard field n.object n.from)) is
    (awaited-there field way has))
    (subst (λ (o : Option Note). IfSome o (λ n. HasCard field n.object n.to)) is there) e
  where
    go : (o : Option Note) → IfSome o (λ n. HasCard field n.object n.from)
        → IfSome o (λ n. HasCard field n.object n.to) → received field o ≡ (new, answer)
        → IfSome answer (λ a. HasCard new a.object a.to)
    go None from to k =
        subst (λ (o : Option Note). IfSome o (λ a. HasCard new a.object a.to))
        (ap (λ (x : List (List Card) × Option Note). x.1) k) tt
    go (Some n) from to k = answer-there field new n answer k to from
