-- A note that is known comes to the region that it is for.
use Rattle.std.proofs.Common.{◌≡◌, ◌≢◌, ◌∙◌, refl, sym, ap, subst, ℕ, ◌<◌, ◌≤◌, nat_eq, nat_lt, ◌⊎◌, Bool, true, false, if◌then◌else◌, List, Option, Some, None, inl, inr, arith}
use Rattle.std.proofs.lemmas.Bool.{cases_eq}
use Rattle.std.proofs.lemmas.Bool.Decides.{nat_tests}
use Rattle.lsl_handoff.specs.declared.card.Card.{Card}
use Rattle.lsl_handoff.specs.declared.card.Phase.{Phase}
use Rattle.lsl_handoff.specs.declared.card.Phase.TheVariants.{Away, Live, Leaving, Cancelling}
use Rattle.lsl_handoff.specs.declared.note.Note.{Note}
use Rattle.lsl_handoff.specs.declared.note.NoteKind.{NoteKind}
use Rattle.lsl_handoff.specs.declared.note.NoteKind.TheVariants.{Offer, Taken, Cancel, Refused}
use Rattle.lsl_handoff.specs.DriveLaws.{First, Neither, OfferFirst, CancelFirst, or_first}
use Rattle.lsl_handoff.specs.Notes.{answer_of}
use Rattle.lsl_handoff.specs.Rules.{Effect, delivered, known_answer, was_refused, was_taken}
use Rattle.lsl_handoff.proofs.Driving.{Arrived, FromIs, IsBetween, IsKnown, IsKnownReply, IsNow, IsOld, IsntLeaving, ToIs}

-- cards that are the same except one that is the same
pub same-cards : (at new : ℕ → Card) (r : ℕ) → new r ≡ at r → ((q : ℕ) → q ≢ r → new q ≡ at q) → at ≡ new
same-cards at new r here same = λ i q. (each q (cases_eq q r)) i
  where
    each : (q : ℕ) → (q ≡ r) ⊎ (q ≢ r) → at q ≡ new q
    each q (inl is) = ap at is ∙ sym here ∙ ap new (sym is)
    each q (inr other) = sym (same q other)

pub if-true : {X : Type 0} (b : Bool) (x y : X) → b ≡ true → (if b then x else y) ≡ x
if-true true x y e = refl
if-true false x y e = absurd (cc)

pub if-false : {X : Type 0} (b : Bool) (x y : X) → b ≡ false → (if b then x else y) ≡ y
if-false true x y e = absurd (cc)
if-false false x y e = refl

taken-from : (a b trip : ℕ) (parcel : List ℕ) (p : Phase) → FromIs a b trip parcel OfferFirst p
    → FromIs a b trip parcel OfferFirst (was_taken p)
taken-from a b trip parcel Away h = h
taken-from a b trip parcel (Live held) h = h
taken-from a b trip parcel (Leaving to held) h = refl
taken-from a b trip parcel (Cancelling to held) h = refl

refused-from : (a b trip : ℕ) (parcel : List ℕ) (p : Phase) → FromIs a b trip parcel CancelFirst p
    → FromIs a b trip parcel CancelFirst (was_refused p)
refused-from a b trip parcel Away h = h
refused-from a b trip parcel (Live held) h = h
refused-from a b trip parcel (Leaving to held) h = h
refused-from a b trip parcel (Cancelling to held) h = (h.0, refl)

taken-isnt : (p : Phase) → IsntLeaving (was_taken p)
taken-isnt Away = tt
taken-isnt (Live held) = tt
taken-isnt (Leaving to held) = tt
taken-isnt (Cancelling to held) = tt

refused-isnt : (p : Phase) → IsntLeaving p → IsntLeaving (was_refused p)
refused-isnt Away h = tt
refused-isnt (Live held) h = tt
refused-isnt (Leaving to held) h = h
refused-isnt (Cancelling to held) h = tt

-- a region that the object isn't in stays so, whatever note comes
taken-away : (card : Card) → card.phase ≡ Away → record card { phase = was_taken card.phase } ≡ card
taken-away card is = ap (λ (p : Phase). record card { phase = p }) (ap was_taken is ∙ sym is)

refused-away : (card : Card) → card.phase ≡ Away → record card { phase = was_refused card.phase } ≡ card
refused-away card is = ap (λ (p : Phase). record card { phase = p }) (ap was_refused is ∙ sym is)

module _ (a b trip : ℕ) (parcel : List ℕ) (apart : a ≢ b) where
  -- a phase of the leaving region where the cancel came first
  called-isnt : (p : Phase) → FromIs a b trip parcel CancelFirst p → IsntLeaving p
  called-isnt Away h = tt
  called-isnt (Live held) h = tt
  called-isnt (Leaving to held) h = h.2 refl
  called-isnt (Cancelling to held) h = tt

  low-away : (first : First) (card : Card) → ToIs a b trip parcel first card → card.trip < trip → card.phase ≡ Away
  low-away Neither card to low = to.0
  low-away OfferFirst card to low = absurd (omega (arith, to.1, low))
  low-away CancelFirst card to low = to.0

  module _ (at : ℕ → Card) (first : First) (is : IsBetween a b trip parcel at first) where
    away-of : (q : ℕ) → (at q).trip < trip → (q ≡ a) ⊎ (q ≢ a) → (q ≡ b) ⊎ (q ≢ b) → (at q).phase ≡ Away
    away-of q low (inl here) other =
        absurd (let e = ap (λ (r : ℕ). (at r).trip) here in omega (arith, e, is.from_trip, low))
    away-of q low (inr from) (inl here) =
        ap (λ (r : ℕ). (at r).phase) here
        ∙ low-away first (at b) is.to (subst (λ (r : ℕ). (at r).trip < trip) here low)
    away-of q low (inr from) (inr to) = (is.others q from to).0

    -- an old note changes no card
    old-stays : (kind : NoteKind) (note : Note) → IsOld a b trip parcel at note
        → (delivered kind (at note.to) note).0 ≡ at note.to
    old-stays Offer note old =
        ap (λ (e : Effect). e.0)
        (if-false (nat_lt (at note.to).trip note.trip) _ _ (let h = old.by_to in grind (arith, nat_tests)))
    old-stays Cancel note old =
        ap (λ (e : Effect). e.0)
        (if-false (nat_lt (at note.to).trip note.trip) _ _ (let h = old.by_to in grind (arith, nat_tests)))
    old-stays Taken note old = go (nat_eq (at note.to).trip note.trip) refl where
      go : (test : Bool) → nat_eq (at note.to).trip note.trip ≡ test
          → (λ (e : Effect). e.0) (if test
          then (record (at note.to) { phase = was_taken (at note.to).phase }, None)
          else (at note.to, None)) ≡ at note.to
      go false e = refl
      go true e =
          let same : (at note.to).trip ≡ note.trip = grind (arith, nat_tests) in
          taken-away (at note.to)
          (away-of note.to (omega (arith, same, old.earlier)) (cases_eq note.to a) (cases_eq note.to b))
    old-stays Refused note old = go (nat_eq (at note.to).trip note.trip) refl where
      go : (test : Bool) → nat_eq (at note.to).trip note.trip ≡ test
          → (λ (e : Effect). e.0) (if test
          then (record (at note.to) { phase = was_refused (at note.to).phase }, None)
          else (at note.to, None)) ≡ at note.to
      go false e = refl
      go true e =
          let same : (at note.to).trip ≡ note.trip = grind (arith, nat_tests) in
          refused-away (at note.to)
          (away-of note.to (omega (arith, same, old.earlier)) (cases_eq note.to a) (cases_eq note.to b))

    -- and its answer is an old one
    old-answer : (kind : NoteKind) (note : Note) → IsOld a b trip parcel at note
        → IsOld a b trip parcel at (answer_of kind note)
    old-answer kind note old = record { earlier = old.earlier; by_from = old.by_to; by_to = old.by_from }

    known-old : (card : Card) (note : Note) → IsOld a b trip parcel at note
        → IsKnown a b trip parcel at first (known_answer card note)
    known-old card note old = go (nat_lt note.trip card.trip) card.took where
      go : (later took : Bool) → IsKnown a b trip parcel at first
          (if later then answer_of Taken note else if took then answer_of Taken note else answer_of Refused note)
      go true took = inl (old-answer Taken note old)
      go false true = inl (old-answer Taken note old)
      go false false = inl (old-answer Refused note old)

    old-reply : (kind : NoteKind) (note : Note) → IsOld a b trip parcel at note
        → IsKnownReply a b trip parcel at first (delivered kind (at note.to) note).1
    old-reply Offer note old =
        subst (λ (e : Effect). IsKnownReply a b trip parcel at first e.1)
        (sym (if-false (nat_lt (at note.to).trip note.trip)
        (record { trip = note.trip; took = true; phase = Live note.parcel }, Some (answer_of Taken note))
        (at note.to, Some (known_answer (at note.to) note)) (let h = old.by_to in grind (arith, nat_tests))))
        (known-old (at note.to) note old)
    old-reply Cancel note old =
        subst (λ (e : Effect). IsKnownReply a b trip parcel at first e.1)
        (sym (if-false (nat_lt (at note.to).trip note.trip)
        (record { trip = note.trip; took = false; phase = Away }, Some (answer_of Refused note))
        (at note.to, Some (known_answer (at note.to) note)) (let h = old.by_to in grind (arith, nat_tests))))
        (known-old (at note.to) note old)
    old-reply Taken note old = go (nat_eq (at note.to).trip note.trip) where
      go : (test : Bool) → (λ (e : Effect). IsKnownReply a b trip parcel at first e.1)
          (if test
          then (record (at note.to) { phase = was_taken (at note.to).phase }, None)
          else (at note.to, None))
      go false = tt
      go true = tt
    old-reply Refused note old = go (nat_eq (at note.to).trip note.trip) where
      go : (test : Bool) → (λ (e : Effect). IsKnownReply a b trip parcel at first e.1)
          (if test
          then (record (at note.to) { phase = was_refused (at note.to).phase }, None)
          else (at note.to, None))
      go false = tt
      go true = tt

    pub arrived-old : (note : Note) → IsOld a b trip parcel at note → (new : ℕ → Card)
        → new note.to ≡ (delivered note.kind (at note.to) note).0 → ((q : ℕ) → q ≢ note.to → new q ≡ at q)
        → Arrived a b trip parcel at new first first (delivered note.kind (at note.to) note).1
    arrived-old note old new here same =
        subst (λ (f : ℕ → Card). Arrived a b trip parcel at f first first (delivered note.kind (at note.to) note).1)
        (same-cards at new note.to (here ∙ old-stays note.kind note old) same)
        (record { between = is; reply_known = old-reply note.kind note old; known = λ m k. k })

-- What is known of notes where one card is another.
module _ (a b trip : ℕ) (parcel : List ℕ) (at new : ℕ → Card) (first next : First)
    (rises : (q : ℕ) → (at q).trip ≤ (new q).trip)
    (called : IsntLeaving (at a).phase → IsntLeaving (new a).phase)
    (offered : first ≡ OfferFirst → next ≡ OfferFirst) (cancelled : first ≡ CancelFirst → next ≡ CancelFirst) where
  kept-old : (note : Note) → IsOld a b trip parcel at note → IsOld a b trip parcel new note
  kept-old note old = record {
    earlier = old.earlier;
    by_from = omega (arith, old.by_from, rises note.from);
    by_to = omega (arith, old.by_to, rises note.to);
  }

  kept-now : (kind : NoteKind) (note : Note) → IsNow a b trip parcel at first kind note
      → IsNow a b trip parcel new next kind note
  kept-now Offer note now = now
  kept-now Taken note now = (now.0, now.1, offered now.2)
  kept-now Cancel note now = (now.0, now.1, called now.2)
  kept-now Refused note now = (now.0, now.1, cancelled now.2, called now.3)

  pub kept-known : (note : Note) → IsKnown a b trip parcel at first note → IsKnown a b trip parcel new next note
  kept-known note (inl old) = inl (kept-old note old)
  kept-known note (inr now) = inr (now.0, kept-now note.kind note now.1)

rises-at : (at new : ℕ → Card) (r : ℕ) → (at r).trip ≤ (new r).trip → ((q : ℕ) → q ≢ r → new q ≡ at q) → (q : ℕ)
    → (at q).trip ≤ (new q).trip
rises-at at new r rise same q = go (cases_eq q r) where
  go : (q ≡ r) ⊎ (q ≢ r) → (at q).trip ≤ (new q).trip
  go (inl here) = subst (λ (s : ℕ). (at s).trip ≤ (new s).trip) (sym here) rise
  go (inr other) = let e = ap (λ (c : Card). c.trip) (same q other) in omega (arith, e)

same-offered : (first : First) → first ≡ OfferFirst → first ≡ OfferFirst
same-offered first e = e

module _ (a b trip : ℕ) (parcel : List ℕ) (apart : a ≢ b) (at new : ℕ → Card) where
  -- the offer comes first
  landed-from : (p : Phase) → FromIs a b trip parcel Neither p → FromIs a b trip parcel OfferFirst p
  landed-from Away h = absurd (cc)
  landed-from (Live held) h = absurd (let no = h.1 in cc)
  landed-from (Leaving to held) h = (h.0, h.1, λ e. cc)
  landed-from (Cancelling to held) h = h

  closed-from : (p : Phase) → FromIs a b trip parcel Neither p → IsntLeaving p → FromIs a b trip parcel CancelFirst p
  closed-from Away h isnt = absurd (cc)
  closed-from (Live held) h isnt = absurd (let no = h.1 in cc)
  closed-from (Leaving to held) h isnt = absurd isnt
  closed-from (Cancelling to held) h isnt = h

  module _ (is : IsBetween a b trip parcel at Neither) (same : (q : ℕ) → q ≢ b → new q ≡ at q) where
    others-kept : (q : ℕ) → q ≢ a → q ≢ b → ((new q).phase ≡ Away) × ((new q).trip < trip)
    others-kept q from to =
        subst (λ (c : Card). (c.phase ≡ Away) × (c.trip < trip)) (sym (same q to)) (is.others q from to)

    landed-between : new b ≡ record { trip = trip; took = true; phase = Live parcel }
        → IsBetween a b trip parcel new OfferFirst
    landed-between here = record {
      from_trip = ap (λ (c : Card). c.trip) (same a apart) ∙ is.from_trip;
      from = subst (λ (c : Card). FromIs a b trip parcel OfferFirst c.phase) (sym (same a apart))
          (landed-from (at a).phase is.from);
      to = (ap (λ (c : Card). c.phase) here, ap (λ (c : Card). c.trip) here, ap (λ (c : Card). c.took) here);
      others = others-kept;
    }

    closed-between : IsntLeaving (at a).phase → new b ≡ record { trip = trip; took = false; phase = Away }
        → IsBetween a b trip parcel new CancelFirst
    closed-between isnt here = record {
      from_trip = ap (λ (c : Card). c.trip) (same a apart) ∙ is.from_trip;
      from = subst (λ (c : Card). FromIs a b trip parcel CancelFirst c.phase) (sym (same a apart))
          (closed-from (at a).phase is.from isnt);
      to = (ap (λ (c : Card). c.phase) here, ap (λ (c : Card). c.trip) here, ap (λ (c : Card). c.took) here);
      others = others-kept;
    }

    known-next : (next : First) → (new b).trip ≡ trip → (note : Note) → IsKnown a b trip parcel at Neither note
        → IsKnown a b trip parcel new next note
    known-next next here =
        kept-known a b trip parcel at new Neither next
        (rises-at at new b (let low = is.to.1 in omega (arith, low, here)) same)
        (λ isnt. subst (λ (c : Card). IsntLeaving c.phase) (sym (same a apart)) isnt) (λ e. cc) (λ e. cc)

  -- the leaving region hears the outcome
  module _ (first : First) (is : IsBetween a b trip parcel at first) (same : (q : ℕ) → q ≢ a → new q ≡ at q)
      (p : Phase) (here : new a ≡ record (at a) { phase = p }) (from : FromIs a b trip parcel first p) where
    pub told-between : IsBetween a b trip parcel new first
    told-between = record {
      from_trip = ap (λ (c : Card). c.trip) here ∙ is.from_trip;
      from = subst (λ (c : Card). FromIs a b trip parcel first c.phase) (sym here) from;
      to = subst (λ (c : Card). ToIs a b trip parcel first c) (sym (same b (λ e. apart (sym e)))) is.to;
      others = λ q other to.
          subst (λ (c : Card). (c.phase ≡ Away) × (c.trip < trip)) (sym (same q other)) (is.others q other to);
    }

    pub told-known : (IsntLeaving (at a).phase → IsntLeaving p) → (note : Note) → IsKnown a b trip parcel at first note
        → IsKnown a b trip parcel new first note
    told-known isnt =
        kept-known a b trip parcel at new first first
        (rises-at at new a (let e = ap (λ (c : Card). c.trip) here in omega (arith, e)) same)
        (λ was. subst (λ (c : Card). IsntLeaving c.phase) (sym here) (isnt was)) (λ e. e) (λ e. e)

-- notes of this trip, by their kinds
module _ (a b trip : ℕ) (parcel : List ℕ) (apart : a ≢ b) (at new : ℕ → Card) (note : Note)
    (now : note.trip ≡ trip) where
  -- an answer about what is known of the trip
  known-taken : (is : IsBetween a b trip parcel at OfferFirst) → known_answer (at b) note ≡ answer_of Taken note
  known-taken is =
      ap (λ (took : Bool). if nat_lt note.trip (at b).trip then answer_of Taken note
      else if took then answer_of Taken note else answer_of Refused note) is.to.2
      ∙ if-false (nat_lt note.trip (at b).trip) (answer_of Taken note) (answer_of Taken note)
      (let e = is.to.1 in grind (arith, nat_tests))

  known-refused : (is : IsBetween a b trip parcel at CancelFirst) → known_answer (at b) note ≡ answer_of Refused note
  known-refused is =
      ap (λ (took : Bool). if nat_lt note.trip (at b).trip then answer_of Taken note
      else if took then answer_of Taken note else answer_of Refused note) is.to.2
      ∙ if-false (nat_lt note.trip (at b).trip) (answer_of Taken note) (answer_of Refused note)
      (let e = is.to.1 in grind (arith, nat_tests))

  taken-known : (note.from ≡ a) × (note.to ≡ b) → (f : ℕ → Card)
      → IsKnown a b trip parcel f OfferFirst (answer_of Taken note)
  taken-known way f = inr (now, (way.1, way.0, refl))

  refused-known : (note.from ≡ a) × (note.to ≡ b) → (f : ℕ → Card) → IsntLeaving (f a).phase
      → IsKnown a b trip parcel f CancelFirst (answer_of Refused note)
  refused-known way f isnt = inr (now, (way.1, way.0, refl, isnt))

  -- a question that finds the trip known is only answered
  module _ (first : First) (is : IsBetween a b trip parcel at first) (same : (q : ℕ) → q ≢ b → new q ≡ at q)
      (reply : Note) (known : IsKnown a b trip parcel at first reply) (effect : Effect)
      (plain : effect ≡ (at b, Some reply)) (here : new b ≡ effect.0) where
    only-answered : Arrived a b trip parcel at new first first effect.1
    only-answered =
        subst (λ (o : Option Note). Arrived a b trip parcel at new first first o)
        (sym (ap (λ (e : Effect). e.1) plain))
        (subst (λ (f : ℕ → Card). Arrived a b trip parcel at f first first (Some reply))
        (same-cards at new b (here ∙ ap (λ (e : Effect). e.0) plain) same)
        (record { between = is; reply_known = known; known = λ m k. k }))

  not-later : (first : First) → ToIs a b trip parcel first (at b) → (first ≢ Neither)
      → nat_lt (at b).trip note.trip ≡ false
  not-later Neither to some = absurd (some refl)
  not-later OfferFirst to some = let e = to.1 in grind (arith, nat_tests)
  not-later CancelFirst to some = let e = to.1 in grind (arith, nat_tests)

  abbrev landing_card : Card
  landing_card = record { trip = note.trip; took = true; phase = Live note.parcel }

  abbrev closing_card : Card
  closing_card = record { trip = note.trip; took = false; phase = Away }

  pub offer-arrives : (first : First) → IsBetween a b trip parcel at first
      → (note.from ≡ a) × (note.to ≡ b) × (note.parcel ≡ parcel) → new b ≡ (delivered Offer (at b) note).0
      → ((q : ℕ) → q ≢ b → new q ≡ at q)
      → Arrived a b trip parcel at new first (or_first first OfferFirst) (delivered Offer (at b) note).1
  offer-arrives Neither is way here same =
      let later : nat_lt (at b).trip note.trip ≡ true = (let low = is.to.1 in grind (arith, nat_tests)) in
      let effect = if-true (nat_lt (at b).trip note.trip) (landing_card, Some (answer_of Taken note))
      (at b, Some (known_answer (at b) note)) later in
      let card : new b ≡ record { trip = trip; took = true; phase = Live parcel } =
      here ∙ ap (λ (e : Effect). e.0) effect
      ∙ ap (λ (n : ℕ). let c : Card = record { trip = n; took = true; phase = Live note.parcel } in c) now
      ∙ ap (λ (l : List ℕ). let c : Card = record { trip = trip; took = true; phase = Live l } in c) way.2 in
      record {
        between = landed-between a b trip parcel apart at new is same card;
        reply_known = subst (λ (e : Effect). IsKnownReply a b trip parcel new OfferFirst e.1) (sym effect)
            (taken-known (way.0, way.1) new);
        known = known-next a b trip parcel apart at new is same OfferFirst (ap (λ (c : Card). c.trip) card);
      }
  offer-arrives OfferFirst is way here same =
      only-answered OfferFirst is same (answer_of Taken note) (taken-known (way.0, way.1) at)
      (delivered Offer (at b) note)
      (if-false (nat_lt (at b).trip note.trip) (landing_card, Some (answer_of Taken note))
      (at b, Some (known_answer (at b) note)) (not-later OfferFirst is.to (λ e. cc))
      ∙ ap (λ (n : Note). let e : Effect = (at b, Some n) in e) (known-taken is)) here
  offer-arrives CancelFirst is way here same =
      only-answered CancelFirst is same (answer_of Refused note)
      (refused-known (way.0, way.1) at (called-isnt a b trip parcel apart (at a).phase is.from))
      (delivered Offer (at b) note)
      (if-false (nat_lt (at b).trip note.trip) (landing_card, Some (answer_of Taken note))
      (at b, Some (known_answer (at b) note)) (not-later CancelFirst is.to (λ e. cc))
      ∙ ap (λ (n : Note). let e : Effect = (at b, Some n) in e) (known-refused is)) here

  pub cancel-arrives : (first : First) → IsBetween a b trip parcel at first
      → (note.from ≡ a) × (note.to ≡ b) → IsntLeaving (at a).phase → new b ≡ (delivered Cancel (at b) note).0
      → ((q : ℕ) → q ≢ b → new q ≡ at q)
      → Arrived a b trip parcel at new first (or_first first CancelFirst) (delivered Cancel (at b) note).1
  cancel-arrives Neither is way isnt here same =
      let later : nat_lt (at b).trip note.trip ≡ true = (let low = is.to.1 in grind (arith, nat_tests)) in
      let effect = if-true (nat_lt (at b).trip note.trip) (closing_card, Some (answer_of Refused note))
      (at b, Some (known_answer (at b) note)) later in
      let card : new b ≡ record { trip = trip; took = false; phase = Away } =
      here ∙ ap (λ (e : Effect). e.0) effect
      ∙ ap (λ (n : ℕ). let c : Card = record { trip = n; took = false; phase = Away } in c) now in
      record {
        between = closed-between a b trip parcel apart at new is same isnt card;
        reply_known = subst (λ (e : Effect). IsKnownReply a b trip parcel new CancelFirst e.1) (sym effect)
            (refused-known way new (subst (λ (c : Card). IsntLeaving c.phase) (sym (same a apart)) isnt));
        known = known-next a b trip parcel apart at new is same CancelFirst (ap (λ (c : Card). c.trip) card);
      }
  cancel-arrives OfferFirst is way isnt here same =
      only-answered OfferFirst is same (answer_of Taken note) (taken-known way at) (delivered Cancel (at b) note)
      (if-false (nat_lt (at b).trip note.trip) (closing_card, Some (answer_of Refused note))
      (at b, Some (known_answer (at b) note)) (not-later OfferFirst is.to (λ e. cc))
      ∙ ap (λ (n : Note). let e : Effect = (at b, Some n) in e) (known-taken is)) here
  cancel-arrives CancelFirst is way isnt here same =
      only-answered CancelFirst is same (answer_of Refused note) (refused-known way at isnt)
      (delivered Cancel (at b) note)
      (if-false (nat_lt (at b).trip note.trip) (closing_card, Some (answer_of Refused note))
      (at b, Some (known_answer (at b) note)) (not-later CancelFirst is.to (λ e. cc))
      ∙ ap (λ (n : Note). let e : Effect = (at b, Some n) in e) (known-refused is)) here

  -- an answer reaches the leaving region
  module _ (first : First) (is : IsBetween a b trip parcel at first) (same : (q : ℕ) → q ≢ a → new q ≡ at q) where
    asked-now : nat_eq (at a).trip note.trip ≡ true
    asked-now = let e = is.from_trip in grind (arith, nat_tests)

    pub taken-arrives : first ≡ OfferFirst → new a ≡ (delivered Taken (at a) note).0
        → Arrived a b trip parcel at new first first (delivered Taken (at a) note).1
    taken-arrives e here =
        let effect = if-true (nat_eq (at a).trip note.trip)
        (record (at a) { phase = was_taken (at a).phase }, None) (at a, None) asked-now in
        let card : new a ≡ record (at a) { phase = was_taken (at a).phase } =
        here ∙ ap (λ (x : Effect). x.0) effect in
        let from : FromIs a b trip parcel first (was_taken (at a).phase) =
        subst (λ (f : First). FromIs a b trip parcel f (was_taken (at a).phase)) (sym e)
        (taken-from a b trip parcel (at a).phase
        (subst (λ (f : First). FromIs a b trip parcel f (at a).phase) e is.from)) in
        record {
          between = told-between a b trip parcel apart at new first is same (was_taken (at a).phase) card from;
          reply_known = subst (λ (x : Effect). IsKnownReply a b trip parcel new first x.1) (sym effect) tt;
          known = told-known a b trip parcel apart at new first is same (was_taken (at a).phase) card from
              (λ isnt. taken-isnt (at a).phase);
        }

    pub refused-arrives : first ≡ CancelFirst → new a ≡ (delivered Refused (at a) note).0
        → Arrived a b trip parcel at new first first (delivered Refused (at a) note).1
    refused-arrives e here =
        let effect = if-true (nat_eq (at a).trip note.trip)
        (record (at a) { phase = was_refused (at a).phase }, None) (at a, None) asked-now in
        let card : new a ≡ record (at a) { phase = was_refused (at a).phase } =
        here ∙ ap (λ (x : Effect). x.0) effect in
        let from : FromIs a b trip parcel first (was_refused (at a).phase) =
        subst (λ (f : First). FromIs a b trip parcel f (was_refused (at a).phase)) (sym e)
        (refused-from a b trip parcel (at a).phase
        (subst (λ (f : First). FromIs a b trip parcel f (at a).phase) e is.from)) in
        record {
          between = told-between a b trip parcel apart at new first is same (was_refused (at a).phase) card from;
          reply_known = subst (λ (x : Effect). IsKnownReply a b trip parcel new first x.1) (sym effect) tt;
          known = told-known a b trip parcel apart at new first is same (was_refused (at a).phase) card from
              (refused-isnt (at a).phase);
        }
