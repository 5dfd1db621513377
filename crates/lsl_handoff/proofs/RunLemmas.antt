-- Runs keep what holds of each object.
use Rattle.std.proofs.Common.{◌≡◌, ◌≢◌, ◌∙◌, refl, sym, ap, subst, ℕ, ◌-◌, nat_eq, nat_lt, ◌&&◌, if◌then◌else◌, is_none, ◌⊎◌, Bool, true, false, List, [], ◌∷◌, length, get_or, Option, Some, None, inl, inr, arith}
use Rattle.std.proofs.lemmas.Bool.{cases_eq, eq-eqb, ne_eqb}
use Rattle.std.proofs.lemmas.List.{length-set}
use Rattle.std.proofs.lemmas.List.Elements.{Contains-append_cases}
use Rattle.std.specs.Prelude.{Contains, option_to_list}
use Rattle.lsl_handoff.specs.declared.card.Card.{Card}
use Rattle.lsl_handoff.specs.declared.card.Phase.{Phase}
use Rattle.lsl_handoff.specs.declared.card.Phase.TheVariants.{Away, Live, Leaving, Cancelling}
use Rattle.lsl_handoff.specs.declared.faults.DepartFault.{DepartFault}
use Rattle.lsl_handoff.specs.declared.note.Note.{Note}
use Rattle.lsl_handoff.specs.declared.note.NoteKind.{NoteKind}
use Rattle.lsl_handoff.specs.declared.note.NoteKind.TheVariants.{Offer, Taken, Cancel, Refused}
use Rattle.lsl_handoff.specs.Cards.{depart_fault}
use Rattle.lsl_handoff.specs.Fields.{IsOneOf, card_at, card_of, cards_of, with_card}
use Rattle.lsl_handoff.specs.Rules.{Event, Depart, Again, GiveUp, Deliver, Effect, acts, awaited, call_back, delivered, departs, departs_unless, known_answer, object_of, region_of, was_refused, was_taken}
use Rattle.lsl_handoff.specs.Notes.{answer_of}
use Rattle.lsl_handoff.specs.Runs.{MayAllHappen, MayHappen, Run, after, happens, last_parcel, newer_parcel}
use Rattle.lsl_handoff.proofs.Holding.{Keeps, Known, Leads, OrSent}
use Rattle.lsl_handoff.proofs.EventLemmas.{leads-again, leads-departing, leads-giving_up}
use Rattle.lsl_handoff.proofs.DeliveryLemmas.{leads-delivered}
use Rattle.lsl_handoff.proofs.FieldLemmas.{card-others, card-replaced, cards-others, cards-replaced}

-- a note about this object was sent
abbrev pub SentOf : List Note → ℕ → Note → Type 0
SentOf sent object note = Contains sent note × (note.object ≡ object)

-- what holds of one object along a run
pub record KeepsObject (regions : ℕ) (run : Run) (object : ℕ) (parcel : List ℕ) : Type 0 where
  pub long : length (cards_of run.field object) ≡ regions
  pub keeps : Keeps regions (card_of (cards_of run.field object)) (SentOf run.sent object) parcel

-- what an event does to its card, and the cards of its object then
abbrev effect_of : Run → Event → Effect
effect_of run event = acts (card_of (cards_of run.field (object_of event)) (region_of event)) event

abbrev cards_after : Run → Event → List Card
cards_after run event =
    with_card (cards_of run.field (object_of event)) (region_of event) (effect_of run event).0

-- the numbers of a run
pub record KeepsNumbers (objects : ℕ) (run : Run) : Type 0 where
  pub long : length run.field ≡ objects
  pub there : (note : Note) → Contains run.sent note → IsOneOf objects note.object

keeps-fewer : (regions : ℕ) (at : ℕ → Card) (sent fewer : Note → Type 0) (parcel : List ℕ)
    → ((note : Note) → fewer note → sent note) → Keeps regions at sent parcel → Keeps regions at fewer parcel
keeps-fewer regions at sent fewer parcel among keeps = record {
  holder = keeps.holder;
  holds = keeps.holds;
  known = λ note is. keeps.known note (among note is);
}

-- the one that may be there
is-there : (more : Option Note) (note : Note) → Contains (option_to_list more) note → more ≡ Some note
is-there None note (k, within, is) = absurd (omega (arith, within))
is-there (Some n) note (k, within, is) =
    let first : k ≡ 0 = omega (arith, within) in
    let e : get_or (n ∷ []) k note ≡ note = is in
    ap Some (subst (λ (j : ℕ). get_or (n ∷ []) j note ≡ note) first e)

-- what an event sends is about its object
abbrev IsAbout : ℕ → Option Note → Type 0
IsAbout object None = Unit {0}
IsAbout object (Some note) = note.object ≡ object

about-if : (object : ℕ) (b : Bool) (x y : Effect) → IsAbout object x.1 → IsAbout object y.1
    → IsAbout object (if b then x else y).1
about-if object true x y p q = p
about-if object false x y p q = q

about-note : (object : ℕ) (b : Bool) (x y : Note) → x.object ≡ object → y.object ≡ object
    → (if b then x else y).object ≡ object
about-note object true x y p q = p
about-note object false x y p q = q

about-departure : (card : Card) (region object to : ℕ) (parcel : List ℕ) (fault : Option DepartFault)
    → IsAbout object (departs_unless fault card region object to parcel).1
about-departure card region object to parcel None = refl
about-departure card region object to parcel (Some fault) = tt

about-awaited : (phase : Phase) (trip region object : ℕ) → IsAbout object (awaited phase trip region object)
about-awaited Away trip region object = tt
about-awaited (Live held) trip region object = tt
about-awaited (Leaving to held) trip region object = refl
about-awaited (Cancelling to held) trip region object = refl

about-call_back : (phase : Phase) (card : Card) (region object : ℕ)
    → IsAbout object (call_back phase card region object).1
about-call_back Away card region object = tt
about-call_back (Live held) card region object = tt
about-call_back (Leaving to held) card region object = refl
about-call_back (Cancelling to held) card region object = tt

about-known : (card : Card) (note : Note) → (known_answer card note).object ≡ note.object
about-known card note = about-note note.object (nat_lt note.trip card.trip) (answer_of Taken note)
    (if card.took then answer_of Taken note else answer_of Refused note) refl
    (about-note note.object card.took (answer_of Taken note) (answer_of Refused note) refl refl)

about-delivered : (kind : NoteKind) (card : Card) (note : Note) → IsAbout note.object (delivered kind card note).1
about-delivered Offer card note = about-if note.object (nat_lt card.trip note.trip)
    (record { trip = note.trip; took = true; phase = Live note.parcel }, Some (answer_of Taken note))
    (card, Some (known_answer card note)) refl (about-known card note)
about-delivered Cancel card note = about-if note.object (nat_lt card.trip note.trip)
    (record { trip = note.trip; took = false; phase = Away }, Some (answer_of Refused note))
    (card, Some (known_answer card note)) refl (about-known card note)
about-delivered Taken card note = about-if note.object (nat_eq card.trip note.trip)
    (record card { phase = was_taken card.phase }, None) (card, None) tt tt
about-delivered Refused card note = about-if note.object (nat_eq card.trip note.trip)
    (record card { phase = was_refused card.phase }, None) (card, None) tt tt

about-acts : (card : Card) (event : Event) → IsAbout (object_of event) (acts card event).1
about-acts card (Depart region object to parcel) =
    about-departure card region object to parcel (depart_fault card region to)
about-acts card (Again region object) = about-awaited card.phase card.trip region object
about-acts card (GiveUp region object) = about-call_back card.phase card region object
about-acts card (Deliver note) = about-delivered note.kind card note

told-about : (object : ℕ) (more : Option Note) (note : Note) → IsAbout object more → more ≡ Some note
    → note.object ≡ object
told-about object None note about is = cc
told-about object (Some n) note about is =
    let e : n ≡ note = cc in
    subst (λ (x : Note). x.object ≡ object) e about

-- the parcel of a departure of this object, and of another's
newer-own : (object : ℕ) (b rest : Bool) (x y : List ℕ) → b ≡ true
    → (if rest then x else y) ≡ (if b && rest then x else y)
newer-own object true rest x y is = refl
newer-own object false rest x y is = cc

newer-other : (b rest : Bool) (x y : List ℕ) → b ≡ false → y ≡ (if b && rest then x else y)
newer-other true rest x y is = cc
newer-other false rest x y is = refl

module _ (regions objects : ℕ) (run : Run) where
  -- an event's numbers are there
  event-there : KeepsNumbers objects run → (event : Event) → MayHappen objects regions run event
      → IsOneOf objects (object_of event)
  event-there numbers (Depart region object to parcel) may = may.1
  event-there numbers (Again region object) may = may.1
  event-there numbers (GiveUp region object) may = may.1
  event-there numbers (Deliver note) may = numbers.there note may

  known-of : (note : Note) (parcel : List ℕ) (state : KeepsObject regions run note.object parcel)
      → Contains run.sent note → Known regions (card_of (cards_of run.field note.object)) state.keeps.holder note
  known-of note parcel state is = state.keeps.known note (is, refl)

  region-there : (event : Event) (parcel : List ℕ) → KeepsObject regions run (object_of event) parcel
      → MayHappen objects regions run event → IsOneOf regions (region_of event)
  region-there (Depart region object to next) parcel state may = may.0
  region-there (Again region object) parcel state may = may.0
  region-there (GiveUp region object) parcel state may = may.0
  region-there (Deliver note) parcel state may = (known-of note parcel state may).to

  -- what an event does to the cards of its object
  event-leads : (event : Event) (parcel : List ℕ) → KeepsObject regions run (object_of event) parcel
      → MayHappen objects regions run event
      → Leads regions (card_of (cards_of run.field (object_of event))) (SentOf run.sent (object_of event))
      (region_of event) (newer_parcel (object_of event) run event parcel)
      (effect_of run event)
  event-leads (Depart region object to next) parcel state may =
      subst (λ (p : List ℕ). Leads regions (card_of (cards_of run.field object)) (SentOf run.sent object) region p
      (departs (card_of (cards_of run.field object) region) region object to next))
      (newer-own object (nat_eq object object)
      (is_none (depart_fault (card_of (cards_of run.field object) region) region to)) next parcel
      (eq-eqb object object refl))
      (leads-departing regions (card_of (cards_of run.field object)) (SentOf run.sent object) parcel state.keeps region
      object to next may.2 (depart_fault (card_of (cards_of run.field object) region) region to) refl)
  event-leads (Again region object) parcel state may =
      leads-again regions (card_of (cards_of run.field object)) (SentOf run.sent object) parcel state.keeps region
      object
      may.0 (card_of (cards_of run.field object) region).phase refl
  event-leads (GiveUp region object) parcel state may =
      leads-giving_up regions (card_of (cards_of run.field object)) (SentOf run.sent object) parcel state.keeps region
      object may.0 (card_of (cards_of run.field object) region).phase refl
  event-leads (Deliver note) parcel state may =
      leads-delivered regions (card_of (cards_of run.field note.object)) (SentOf run.sent note.object) parcel
      state.keeps
      note (known-of note parcel state may) note.kind (known-of note parcel state may).fits

  module _ (event : Event) (numbers : KeepsNumbers objects run) (may : MayHappen objects regions run event) where
    there-now : IsOneOf (length run.field) (object_of event)
    there-now = subst (λ (n : ℕ). IsOneOf n (object_of event)) (sym numbers.long) (event-there numbers event may)

    -- a note that was sent by then
    sent-by : (note : Note) → Contains (happens run event).sent note
        → Contains run.sent note ⊎ ((effect_of run event).1 ≡ Some note)
    sent-by note is = sent-of (Contains-append_cases run.sent (option_to_list (effect_of run event).1) note is)
      where
        sent-of : Contains run.sent note ⊎ Contains (option_to_list (effect_of run event).1) note
            → Contains run.sent note ⊎ ((effect_of run event).1 ≡ Some note)
        sent-of (inl old) = inl old
        sent-of (inr one) = inr (is-there (effect_of run event).1 note one)

    sent-about : (note : Note) → (effect_of run event).1 ≡ Some note → note.object ≡ object_of event
    sent-about note is = told-about (object_of event) (effect_of run event).1 note
        (about-acts (card_of (cards_of run.field (object_of event)) (region_of event)) event) is

    pub numbers-kept : KeepsNumbers objects (happens run event)
    numbers-kept = record {
      long = length-set run.field (object_of event - 1) (cards_after run event) ∙ numbers.long;
      there = λ note is. by-sent note (sent-by note is);
    }
      where
        by-sent : (note : Note) → Contains run.sent note ⊎ ((effect_of run event).1 ≡ Some note)
            → IsOneOf objects note.object
        by-sent note (inl old) = numbers.there note old
        by-sent note (inr one) =
            subst (IsOneOf objects) (sym (sent-about note one)) (event-there numbers event may)

    -- the event's own object
    module _ (parcel : List ℕ) (state : KeepsObject regions run (object_of event) parcel) where
      own-cards : cards_of (happens run event).field (object_of event) ≡ cards_after run event
      own-cards = cards-replaced run.field (object_of event) (cards_after run event) there-now

      own-region : IsOneOf (length (cards_of run.field (object_of event))) (region_of event)
      own-region =
          subst (λ (n : ℕ). IsOneOf n (region_of event)) (sym state.long) (region-there event parcel state may)

      own-keeps : Keeps regions (card_of (cards_after run event))
          (OrSent (SentOf run.sent (object_of event)) (effect_of run event).1)
          (newer_parcel (object_of event) run event parcel)
      own-keeps = event-leads event parcel state may (card_of (cards_after run event))
          (card-replaced (cards_of run.field (object_of event)) (region_of event) (effect_of run event).0 own-region)
          (card-others (cards_of run.field (object_of event)) (region_of event) (effect_of run event).0 own-region.0)

      own-sent : (note : Note) → SentOf (happens run event).sent (object_of event) note
          → OrSent (SentOf run.sent (object_of event)) (effect_of run event).1 note
      own-sent note is = by-sent (sent-by note is.0)
        where
          by-sent : Contains run.sent note ⊎ ((effect_of run event).1 ≡ Some note)
              → OrSent (SentOf run.sent (object_of event)) (effect_of run event).1 note
          by-sent (inl old) = inl (old, is.1)
          by-sent (inr one) = inr one

      pub own-kept : KeepsObject regions (happens run event) (object_of event)
          (newer_parcel (object_of event) run event parcel)
      own-kept = record {
        long = ap length own-cards ∙ length-set (cards_of run.field (object_of event)) (region_of event - 1)
            (effect_of run event).0 ∙ state.long;
        keeps = subst (λ (cs : List Card). Keeps regions (card_of cs)
            (SentOf (happens run event).sent (object_of event))
            (newer_parcel (object_of event) run event parcel)) (sym own-cards)
            (keeps-fewer regions (card_of (cards_after run event))
            (OrSent (SentOf run.sent (object_of event)) (effect_of run event).1)
            (SentOf (happens run event).sent (object_of event)) (newer_parcel (object_of event) run event parcel)
            own-sent own-keeps);
      }

    -- another object
    module _ (object : ℕ) (apart : object ≢ object_of event) (parcel : List ℕ)
        (state : KeepsObject regions run object parcel) where
      other-cards : cards_of (happens run event).field object ≡ cards_of run.field object
      other-cards = cards-others run.field (object_of event) (cards_after run event) there-now.0 object apart

      other-sent : (note : Note) → SentOf (happens run event).sent object note → SentOf run.sent object note
      other-sent note is = by-sent (sent-by note is.0)
        where
          by-sent : Contains run.sent note ⊎ ((effect_of run event).1 ≡ Some note) → SentOf run.sent object note
          by-sent (inl old) = (old, is.1)
          by-sent (inr one) = absurd (apart (sym is.1 ∙ sent-about note one))

      pub other-kept : KeepsObject regions (happens run event) object parcel
      other-kept = record {
        long = ap length other-cards ∙ state.long;
        keeps = subst (λ (cs : List Card). Keeps regions (card_of cs) (SentOf (happens run event).sent object) parcel)
            (sym other-cards) (keeps-fewer regions (card_of (cards_of run.field object)) (SentOf run.sent object)
            (SentOf (happens run event).sent object) parcel other-sent state.keeps);
      }

  newer-apart : (object : ℕ) (event : Event) (parcel : List ℕ) → object ≢ object_of event
      → parcel ≡ newer_parcel object run event parcel
  newer-apart object (Depart region other to next) parcel apart =
      newer-other (nat_eq other object) (is_none (depart_fault (card_at run.field other region) region to)) next parcel
      (ne_eqb other object (λ e. apart (sym e)))
  newer-apart object (Again region other) parcel apart = refl
  newer-apart object (GiveUp region other) parcel apart = refl
  newer-apart object (Deliver note) parcel apart = refl

  pub object-kept : (event : Event) (object : ℕ) (parcel : List ℕ) → KeepsNumbers objects run
      → MayHappen objects regions run event → (object ≡ object_of event) ⊎ (object ≢ object_of event)
      → KeepsObject regions run object parcel
      → KeepsObject regions (happens run event) object (newer_parcel object run event parcel)
  object-kept event object parcel numbers may (inl own) state =
      subst (λ (o : ℕ). KeepsObject regions (happens run event) o (newer_parcel o run event parcel)) (sym own)
      (own-kept event numbers may parcel
      (subst (λ (o : ℕ). KeepsObject regions run o parcel) own state))
  object-kept event object parcel numbers may (inr apart) state =
      subst (KeepsObject regions (happens run event) object) (newer-apart object event parcel apart)
      (other-kept event numbers may object apart parcel state)

pub run-keeps : (regions objects : ℕ) (events : List Event) (run : Run) (object : ℕ) (parcel : List ℕ)
    → KeepsNumbers objects run → KeepsObject regions run object parcel → MayAllHappen objects regions run events
    → KeepsObject regions (after run events) object (last_parcel object run events parcel)
run-keeps regions objects [] run object parcel numbers state may = state
run-keeps regions objects (event ∷ events) run object parcel numbers state may =
    run-keeps regions objects events (happens run event) object (newer_parcel object run event parcel)
    (numbers-kept regions objects run event numbers may.0)
    (object-kept regions objects run event object parcel numbers may.0 (cases_eq object (object_of event)) state) may.1
