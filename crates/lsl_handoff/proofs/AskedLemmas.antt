-- What a drive asks: an offer is of the parcel with which the object left, and each note is one of its field.
use Rattle.std.proofs.Common.{◌≡◌, ◌∙◌, refl, sym, ap, subst, ℕ, ◌<◌, ◌^◌, nat_eq, nat_lt, Bool, true, false, if◌then◌else◌, List, Option, Some, None}
use Rattle.std.specs.Prelude.{IfSome}
use Rattle.lsl_handoff.specs.declared.card.Card.{Card}
use Rattle.lsl_handoff.specs.declared.card.Phase.{Phase}
use Rattle.lsl_handoff.specs.declared.card.Phase.TheVariants.{Away, Live, Leaving, Cancelling}
use Rattle.lsl_handoff.specs.declared.drive.Way.{Way}
use Rattle.lsl_handoff.specs.declared.faults.DepartFault.{DepartFault}
use Rattle.lsl_handoff.specs.declared.note.Note.{Note}
use Rattle.lsl_handoff.specs.declared.note.NoteKind.{NoteKind}
use Rattle.lsl_handoff.specs.declared.note.NoteKind.TheVariants.{Offer, Taken, Cancel, Refused}
use Rattle.lsl_handoff.specs.Cards.{depart_fault}
use Rattle.lsl_handoff.specs.DriveLaws.{departure}
use Rattle.lsl_handoff.specs.Drives.{HasWay, Moment, asks, asks_unless, awaited_in, hears, is_offer, landed_by, most_rounds, next_reply, next_rounds, received, settled_unless}
use Rattle.lsl_handoff.specs.Fields.{HasCard, IsOneOf, card_at}
use Rattle.lsl_handoff.specs.Handovers.{HasCounts, IsHeard}
use Rattle.lsl_handoff.specs.NoteBytes.{IsNote}
use Rattle.lsl_handoff.specs.Notes.{answer_of, cancel_of, offer_of}
use Rattle.lsl_handoff.specs.Rules.{Depart, Effect, GiveUp, awaited, call_back, delivered, departs_unless, known_answer, was_refused, was_taken}
use Rattle.lsl_handoff.proofs.HandoverLemmas.{GoesTo, Onward, card-keeps, onward-received, onward-way}
use Rattle.lsl_handoff.proofs.ReceivingLemmas.{done-here}

-- an object that is leaving left as this parcel
abbrev pub LeftAs : List ℕ → Phase → Type 0
LeftAs parcel Away = Unit {0}
LeftAs parcel (Live held) = Unit {0}
LeftAs parcel (Leaving to held) = held ≡ parcel
LeftAs parcel (Cancelling to held) = Unit {0}

left-taken : (parcel : List ℕ) (p : Phase) → LeftAs parcel p → LeftAs parcel (was_taken p)
left-taken parcel Away h = tt
left-taken parcel (Live held) h = tt
left-taken parcel (Leaving to held) h = tt
left-taken parcel (Cancelling to held) h = tt

left-refused : (parcel : List ℕ) (p : Phase) → LeftAs parcel p → LeftAs parcel (was_refused p)
left-refused parcel Away h = tt
left-refused parcel (Live held) h = tt
left-refused parcel (Leaving to held) h = h
left-refused parcel (Cancelling to held) h = tt

left-if : (parcel : List ℕ) (test : Bool) (x y : Effect) → LeftAs parcel x.0.phase → LeftAs parcel y.0.phase
    → LeftAs parcel ((λ (e : Effect). e.0.phase) (if test then x else y))
left-if parcel true x y p q = p
left-if parcel false x y p q = q

left-delivered : (parcel : List ℕ) (kind : NoteKind) (card : Card) (note : Note) → LeftAs parcel card.phase
    → LeftAs parcel (delivered kind card note).0.phase
left-delivered parcel Offer card note h = left-if parcel (nat_lt card.trip note.trip)
    (record { trip = note.trip; took = true; phase = Live note.parcel }, Some (answer_of Taken note))
    (card, Some (known_answer card note)) tt h
left-delivered parcel Cancel card note h = left-if parcel (nat_lt card.trip note.trip)
    (record { trip = note.trip; took = false; phase = Away }, Some (answer_of Refused note))
    (card, Some (known_answer card note)) tt h
left-delivered parcel Taken card note h = left-if parcel (nat_eq card.trip note.trip)
    (record card { phase = was_taken card.phase }, None) (card, None) (left-taken parcel card.phase h) h
left-delivered parcel Refused card note h = left-if parcel (nat_eq card.trip note.trip)
    (record card { phase = was_refused card.phase }, None) (card, None) (left-refused parcel card.phase h) h

left-called : (parcel : List ℕ) (p : Phase) (card : Card) (region object : ℕ) → card.phase ≡ p → LeftAs parcel p
    → LeftAs parcel (call_back p card region object).0.phase
left-called parcel Away card region object e h = subst (LeftAs parcel) (sym e) h
left-called parcel (Live held) card region object e h = subst (LeftAs parcel) (sym e) h
left-called parcel (Leaving to held) card region object e h = tt
left-called parcel (Cancelling to held) card region object e h = subst (LeftAs parcel) (sym e) h

-- a note of the field that isn't an offer
pub record IsAnswer (objects regions : ℕ) (note : Note) : Type 0 where
  pub is : IsNote objects regions note
  pub kind : is_offer note.kind ≡ false

module _ (objects regions : ℕ) where
  abbrev IsAnswerIf : Option Note → Type 0
  IsAnswerIf answer = IfSome answer (IsAnswer objects regions)

  answer-if : (test : Bool) (x y : Effect) → IsAnswerIf x.1 → IsAnswerIf y.1
      → IsAnswerIf ((λ (e : Effect). e.1) (if test then x else y))
  answer-if true x y p q = p
  answer-if false x y p q = q

  module _ (note : Note) (is : IsNote objects regions note) where
    taken : IsAnswer objects regions (answer_of Taken note)
    taken = record {
      is = record { object = is.object; trip = is.trip; from = is.to; to = is.from; parcel = refl };
      kind = refl;
    }

    refused : IsAnswer objects regions (answer_of Refused note)
    refused = record {
      is = record { object = is.object; trip = is.trip; from = is.to; to = is.from; parcel = refl };
      kind = refl;
    }

    known : (card : Card) → IsAnswer objects regions (known_answer card note)
    known card = go (nat_lt note.trip card.trip) card.took where
      go : (later took : Bool) → IsAnswer objects regions
          (if later then answer_of Taken note else if took then answer_of Taken note else answer_of Refused note)
      go true took = taken
      go false true = taken
      go false false = refused

    answers : (kind : NoteKind) (card : Card) → IsAnswerIf (delivered kind card note).1
    answers Offer card = answer-if (nat_lt card.trip note.trip)
        (record { trip = note.trip; took = true; phase = Live note.parcel }, Some (answer_of Taken note))
        (card, Some (known_answer card note)) taken (known card)
    answers Cancel card = answer-if (nat_lt card.trip note.trip)
        (record { trip = note.trip; took = false; phase = Away }, Some (answer_of Refused note))
        (card, Some (known_answer card note)) refused (known card)
    answers Taken card = answer-if (nat_eq card.trip note.trip)
        (record card { phase = was_taken card.phase }, None) (card, None) tt tt
    answers Refused card = answer-if (nat_eq card.trip note.trip)
        (record card { phase = was_refused card.phase }, None) (card, None) tt tt

  answer-received : (field : List (List Card)) (back : Option Note) → IfSome back (IsNote objects regions)
      → IsAnswerIf (received field back).1
  answer-received field None is = tt
  answer-received field (Some note) is = answers note is note.kind (card_at field note.object note.to)

  answer-next : (reply answer : Option Note) → IsAnswerIf answer → IsAnswerIf (next_reply reply answer)
  answer-next None answer is = is
  answer-next (Some reply) answer is = tt

  pub heard-note : (Takes : Note → Type 0) (bytes : Option (List ℕ)) (back : Option Note)
      → IsHeard objects regions Takes bytes back → IfSome back (IsNote objects regions)
  heard-note Takes None None heard = tt
  heard-note Takes None (Some note) heard = absurd heard
  heard-note Takes (Some bytes) None heard = tt
  heard-note Takes (Some bytes) (Some note) heard = heard.0.is

settled-reply : (asked : Option Note) (way : Way) (m : Moment) → (settled_unless asked way m).reply ≡ m.reply
settled-reply None way m = refl
settled-reply (Some note) way m = refl

-- what holds of a drive at each moment
pub record Asks (objects regions : ℕ) (way : Way) (parcel : List ℕ) (m : Moment) : Type 0 where
  pub left : LeftAs parcel (card_at m.field way.object way.from).phase
  pub reply : IfSome m.reply (IsAnswer objects regions)

module _ (objects regions : ℕ) (way : Way) (parcel : List ℕ) (start : List (List Card)) (has : HasWay start way) where
  pub asks-first : depart_fault (card_at start way.object way.from) way.from way.to ≡ None
      → Asks objects regions way parcel (departure start way parcel)
  asks-first fine = record {
    left = subst (λ (c : Card). LeftAs parcel c.phase)
        (sym (done-here start (Depart way.from way.object way.to parcel) has.0
        ∙ ap (λ (f : Option DepartFault). (departs_unless f (card_at start way.object way.from) way.from way.object
        way.to parcel).0) fine)) refl;
    reply = tt;
  }

  left-received : (field : List (List Card)) → LeftAs parcel (card_at field way.object way.from).phase
      → (back : Option Note) → IfSome back (λ n. HasCard field n.object n.to)
      → LeftAs parcel (card_at (received field back).0 way.object way.from).phase
  left-received field left None there = left
  left-received field left (Some note) there =
      card-keeps field note there way.object way.from (λ (c : Card). LeftAs parcel c.phase)
      (left-delivered parcel note.kind (card_at field note.object note.to) note) left

  left-settled : (m : Moment) → Onward way start m.field → LeftAs parcel (card_at m.field way.object way.from).phase
      → (asked : Option Note) → LeftAs parcel (card_at (settled_unless asked way m).field way.object way.from).phase
  left-settled m on left (Some note) = left
  left-settled m on left None =
      subst (λ (c : Card). LeftAs parcel c.phase)
      (sym (done-here m.field (GiveUp way.from way.object) (onward-way way start has m.field on).0))
      (left-called parcel (card_at m.field way.object way.from).phase (card_at m.field way.object way.from) way.from
      way.object refl left)

  module _ (m : Moment) (on : Onward way start m.field) (now : Asks objects regions way parcel m) where
    pub asks-on : (back : Option Note) → IfSome back (IsNote objects regions)
        → IfSome back (λ n. HasCard m.field n.object n.to) → Asks objects regions way parcel (hears way m back)
    asks-on back is there =
        let after : Moment = record {
          field = (received m.field back).0;
          rounds = next_rounds m.reply m.rounds;
          reply = next_reply m.reply (received m.field back).1;
          landed = landed_by way m back;
        } in record {
          left = left-settled after (onward-received way start has m.field on back there)
              (left-received m.field now.left back there) (asks way after);
          reply = subst (λ (r : Option Note). IfSome r (IsAnswer objects regions))
              (sym (settled-reply (asks way after) way after))
              (answer-next objects regions m.reply (received m.field back).1
              (answer-received objects regions m.field back is));
        }

    -- the note that is asked, if its trip has a number
    abbrev IsOfDrive : Note → Type 0
    IsOfDrive note =
        IsNote objects regions note
        × (note.kind ≡ Offer → note ≡ offer_of way.object note.trip way.from way.to parcel)

    module _ (counts : HasCounts objects regions start) where
      object-is : IsOneOf objects way.object
      object-is = subst (λ (n : ℕ). IsOneOf n way.object) counts.rows has.0.0

      region-is : (region : ℕ) → HasCard start way.object region → IsOneOf regions region
      region-is region there =
          subst (λ (n : ℕ). IsOneOf n region) (counts.cards way.object object-is) there.1

      awaited-of : (note : Note) → note.trip < 2 ^ 64 → (trip : ℕ) (p : Phase) → GoesTo way.to p → LeftAs parcel p
          → awaited p trip way.from way.object ≡ Some note → IsOfDrive note
      awaited-of note small trip Away goes left e = absurd (cc)
      awaited-of note small trip (Live held) goes left e = absurd (cc)
      awaited-of note small trip (Leaving to held) goes left e =
          let it : offer_of way.object trip way.from to held ≡ note = cc in
          subst IsOfDrive it (
            record {
              object = object-is;
              trip = subst (λ (n : Note). n.trip < 2 ^ 64) (sym it) small;
              from = region-is way.from has.0;
              to = subst (IsOneOf regions) (sym goes) (region-is way.to has.1);
              parcel = tt;
            },
            λ offer. ap (λ (to : ℕ). offer_of way.object trip way.from to held) goes
                ∙ ap (offer_of way.object trip way.from way.to) left,
          )
      awaited-of note small trip (Cancelling to held) goes left e =
          let it : cancel_of way.object trip way.from to ≡ note = cc in
          subst IsOfDrive it (
            record {
              object = object-is;
              trip = subst (λ (n : Note). n.trip < 2 ^ 64) (sym it) small;
              from = region-is way.from has.0;
              to = subst (IsOneOf regions) (sym goes) (region-is way.to has.1);
              parcel = refl;
            },
            λ offer. absurd (cc),
          )

      answer-of : (note reply : Note) → IsAnswer objects regions reply → reply ≡ note → IsOfDrive note
      answer-of note reply is e =
          subst IsOfDrive e (is.is, λ offer. absurd (let k = ap is_offer offer in let other = is.kind in cc))

      pub asked-is : (note : Note) → note.trip < 2 ^ 64 → asks way m ≡ Some note → IsOfDrive note
      asked-is note small e = go m.reply now.reply e where
        rounds : (b : Bool) → (if b then awaited_in m.field way else None) ≡ Some note → IsOfDrive note
        rounds true e =
            let card = card_at m.field way.object way.from in
            awaited-of note small card.trip card.phase on.goes now.left e
        rounds false e = absurd (cc)

        go : (r : Option Note) → IfSome r (IsAnswer objects regions) → asks_unless r way m ≡ Some note
            → IsOfDrive note
        go None is e = rounds (nat_lt m.rounds most_rounds) e
        go (Some reply) is e = answer-of note reply is (let it : Some reply ≡ Some note = e in cc)
