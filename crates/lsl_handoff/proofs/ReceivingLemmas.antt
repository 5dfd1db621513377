-- A note comes while an object is driven: what holds of the drive continues to hold.
use Rattle.std.proofs.Common.{◌≡◌, ◌≢◌, ◌∙◌, refl, sym, ap, subst, ℕ, ◌-◌, ◌<◌, ◌≤◌, nat_eq, nat_lt, ◌&&◌, ◌⊎◌, Bool, true, false, if◌then◌else◌, List, [], length, get_or, set, Option, Some, None, inl, inr, arith}
use Rattle.std.proofs.lemmas.Bool.{cases_eq, eq-eqb, ne_eqb}
use Rattle.std.proofs.lemmas.Bool.Decides.{nat_tests}
use Rattle.std.proofs.lemmas.List.{length-set, set-get_or}
use Rattle.lsl_handoff.specs.declared.card.Card.{Card}
use Rattle.lsl_handoff.specs.declared.card.Phase.{Phase}
use Rattle.lsl_handoff.specs.declared.card.Phase.TheVariants.{Away, Live, Leaving, Cancelling}
use Rattle.lsl_handoff.specs.declared.drive.Way.{Way}
use Rattle.lsl_handoff.specs.declared.note.Note.{Note}
use Rattle.lsl_handoff.specs.declared.note.NoteKind.{NoteKind}
use Rattle.lsl_handoff.specs.declared.note.NoteKind.TheVariants.{Offer, Taken, Cancel, Refused}
use Rattle.lsl_handoff.specs.Cards.{blank}
use Rattle.lsl_handoff.specs.DriveLaws.{First, Neither, OfferFirst, CancelFirst, AreAtRest, IsAtRest, IsPast, first_kind, first_with, is_of_trip, landed_as, or_first}
use Rattle.lsl_handoff.specs.Drives.{Moment, is_offer, landed_by, landing, lands, next_reply, next_rounds, received}
use Rattle.lsl_handoff.specs.Fields.{HasCard, IsOneOf, card_at, card_of, cards_of, does, with_card}
use Rattle.lsl_handoff.specs.Notes.{answer_of, offer_of}
use Rattle.lsl_handoff.specs.Rules.{Event, Deliver, Effect, acts, delivered, known_answer, object_of, region_of, was_refused, was_taken}
use Rattle.lsl_handoff.proofs.ArrivalLemmas.{arrived-old, cancel-arrives, if-false, if-true, offer-arrives, refused-arrives, taken-arrives}
use Rattle.lsl_handoff.proofs.Driving.{Arrived, IsBetween, IsKnown, IsKnownReply, IsNow, ToIs}
use Rattle.lsl_handoff.proofs.FieldLemmas.{card-others, card-replaced, cards-others, cards-replaced}
use Rattle.lsl_handoff.proofs.Holding.{IsSettled}
use Rattle.lsl_handoff.proofs.Moving.{IsAsLong, IsHeld, IsHeldIf, Moves}

-- a card that is put back
card-same : (cards : List Card) (r : ℕ) → IsOneOf (length cards) r → with_card cards r (card_of cards r) ≡ cards
card-same cards r there =
    let e : nat_eq r 0 ≡ false = (let least : 1 ≤ r = there.0 in grind (arith, nat_tests)) in
    ap (λ (b : Bool). with_card cards r (if b then blank else get_or cards (r - 1) blank)) e
    ∙ set-get_or cards (r - 1) blank

-- the card that an event changes, and the others
module _ (field : List (List Card)) (event : Event) (there : HasCard field (object_of event) (region_of event)) where
  abbrev effect : Effect
  effect = acts (card_at field (object_of event) (region_of event)) event

  abbrev cards : List Card
  cards = with_card (cards_of field (object_of event)) (region_of event) effect.0

  own-cards : cards_of (does field event).0 (object_of event) ≡ cards
  own-cards = cards-replaced field (object_of event) cards there.0

  pub done-here : card_at (does field event).0 (object_of event) (region_of event) ≡ effect.0
  done-here =
      ap (λ (cs : List Card). card_of cs (region_of event)) own-cards
      ∙ card-replaced (cards_of field (object_of event)) (region_of event) effect.0 there.1

  pub done-elsewhere : (q : ℕ) → q ≢ region_of event
      → card_at (does field event).0 (object_of event) q ≡ card_at field (object_of event) q
  done-elsewhere q apart =
      let region : IsOneOf (length (cards_of field (object_of event))) (region_of event) = there.1 in
      ap (λ (cs : List Card). card_of cs q) own-cards
      ∙ card-others (cards_of field (object_of event)) (region_of event) effect.0 region.0 q apart

  pub done-others : (object : ℕ) → object ≢ object_of event
      → cards_of (does field event).0 object ≡ cards_of field object
  done-others object apart =
      let one : IsOneOf (length field) (object_of event) = there.0 in
      cards-others field (object_of event) cards one.0 object apart

  pub done-long : IsAsLong field (does field event).0
  done-long = record {
    rows = length-set field (object_of event - 1) cards;
    cards = λ object. go object (cases_eq object (object_of event));
  }
    where
      go : (object : ℕ) → (object ≡ object_of event) ⊎ (object ≢ object_of event)
          → length (cards_of (does field event).0 object) ≡ length (cards_of field object)
      go object (inl own) =
          subst (λ (o : ℕ). length (cards_of (does field event).0 o) ≡ length (cards_of field o)) (sym own)
          (ap length own-cards ∙ length-set (cards_of field (object_of event)) (region_of event - 1) effect.0)
      go object (inr apart) = ap length (done-others object apart)

  pub done-same : effect.0 ≡ card_at field (object_of event) (region_of event) → (does field event).0 ≡ field
  done-same same =
      ap (λ (c : Card). set field (object_of event - 1)
      (with_card (cards_of field (object_of event)) (region_of event) c)) same
      ∙ ap (λ (cs : List Card). set field (object_of event - 1) cs)
      (card-same (cards_of field (object_of event)) (region_of event) there.1)
      ∙ row-same field (object_of event) there.0
    where
      row-same : (rows : List (List Card)) (o : ℕ) → IsOneOf (length rows) o
          → set rows (o - 1) (cards_of rows o) ≡ rows
      row-same rows o one =
          let e : nat_eq o 0 ≡ false = (let least : 1 ≤ o = one.0 in grind (arith, nat_tests)) in
          ap (λ (b : Bool). set rows (o - 1)
          (if b then [] else get_or rows (o - 1) [])) e
          ∙ set-get_or rows (o - 1) []

pub has-long : (old new : List (List Card)) → IsAsLong old new → (object region : ℕ) → HasCard old object region
    → HasCard new object region
has-long old new long object region has = (
  subst (λ (n : ℕ). IsOneOf n object) (sym long.rows) has.0,
  subst (λ (n : ℕ). IsOneOf n region) (sym (long.cards object)) has.1,
)

pub long-on : (old now new : List (List Card)) → IsAsLong old now → IsAsLong now new → IsAsLong old new
long-on old now new before behind = record {
  rows = behind.rows ∙ before.rows;
  cards = λ object. behind.cards object ∙ before.cards object;
}

-- an answer goes back, about the same trip
abbrev pub IsAnswerTo : Note → Option Note → Type 0
IsAnswerTo note None = Unit {0}
IsAnswerTo note (Some answer) =
    (answer.object ≡ note.object) × (answer.trip ≡ note.trip) × (answer.from ≡ note.to) × (answer.to ≡ note.from)

answer-if : (note : Note) (b : Bool) (x y : Effect) → IsAnswerTo note x.1 → IsAnswerTo note y.1
    → IsAnswerTo note (if b then x else y).1
answer-if note true x y p q = p
answer-if note false x y p q = q

answer-known : (card : Card) (note : Note) → IsAnswerTo note (Some (known_answer card note))
answer-known card note = go (nat_lt note.trip card.trip) card.took where
  go : (later took : Bool) → IsAnswerTo note
      (Some (if later then answer_of Taken note else if took then answer_of Taken note else answer_of Refused note))
  go true took = (refl, refl, refl, refl)
  go false true = (refl, refl, refl, refl)
  go false false = (refl, refl, refl, refl)

pub answer-delivered : (kind : NoteKind) (card : Card) (note : Note) → IsAnswerTo note (delivered kind card note).1
answer-delivered Offer card note = answer-if note (nat_lt card.trip note.trip)
    (record { trip = note.trip; took = true; phase = Live note.parcel }, Some (answer_of Taken note))
    (card, Some (known_answer card note)) (refl, refl, refl, refl) (answer-known card note)
answer-delivered Cancel card note = answer-if note (nat_lt card.trip note.trip)
    (record { trip = note.trip; took = false; phase = Away }, Some (answer_of Refused note))
    (card, Some (known_answer card note)) (refl, refl, refl, refl) (answer-known card note)
answer-delivered Taken card note = answer-if note (nat_eq card.trip note.trip)
    (record card { phase = was_taken card.phase }, None) (card, None) tt tt
answer-delivered Refused card note = answer-if note (nat_eq card.trip note.trip)
    (record card { phase = was_refused card.phase }, None) (card, None) tt tt

-- the cards of a note's answer are there, since those of the note are
answer-there : (field : List (List Card)) (object from to o f : ℕ) → o ≡ object → f ≡ to → HasCard field object to
    → HasCard field o f
answer-there field object from to o f same is has =
    subst (λ (x : ℕ). HasCard field x f) (sym same) (subst (λ (r : ℕ). HasCard field object r) (sym is) has)

pub answer-past : (field : List (List Card)) (note answer : Note) → IsAnswerTo note (Some answer) → IsPast field note
    → IsPast field answer
answer-past field note answer is past =
    let from = ap (λ (c : Card). c.trip)
    (ap (λ (o : ℕ). card_at field o answer.from) is.0 ∙ ap (λ (r : ℕ). card_at field note.object r) is.2) in
    let to = ap (λ (c : Card). c.trip)
    (ap (λ (o : ℕ). card_at field o answer.to) is.0 ∙ ap (λ (r : ℕ). card_at field note.object r) is.3) in
    let trip : answer.trip ≡ note.trip = is.1 in
    record {
      from = answer-there field note.object note.from note.to answer.object answer.from is.0 is.2 past.to;
      to = answer-there field note.object note.to note.from answer.object answer.to is.0 is.3 past.from;
      by_from = omega (arith, from, trip, past.by_to);
      by_to = omega (arith, to, trip, past.by_from);
    }

-- a past note changes no card of an object at rest
taken-none : (p : Phase) → IsSettled p → was_taken p ≡ p
taken-none Away s = refl
taken-none (Live held) s = refl
taken-none (Leaving to held) s = absurd s
taken-none (Cancelling to held) s = absurd s

refused-none : (p : Phase) → IsSettled p → was_refused p ≡ p
refused-none Away s = refl
refused-none (Live held) s = refl
refused-none (Leaving to held) s = absurd s
refused-none (Cancelling to held) s = absurd s

pub idle : (card : Card) → IsSettled card.phase → (kind : NoteKind) (note : Note) → note.trip ≤ card.trip
    → (delivered kind card note).0 ≡ card
idle card settled Offer note low =
    ap (λ (e : Effect). e.0)
    (if-false (nat_lt card.trip note.trip)
    (record { trip = note.trip; took = true; phase = Live note.parcel }, Some (answer_of Taken note))
    (card, Some (known_answer card note)) (grind (arith, nat_tests)))
idle card settled Cancel note low =
    ap (λ (e : Effect). e.0)
    (if-false (nat_lt card.trip note.trip)
    (record { trip = note.trip; took = false; phase = Away }, Some (answer_of Refused note))
    (card, Some (known_answer card note)) (grind (arith, nat_tests)))
idle card settled Taken note low = go (nat_eq card.trip note.trip) where
  go : (test : Bool)
      → (λ (e : Effect). e.0) (if test then (record card { phase = was_taken card.phase }, None) else (card, None))
      ≡ card
  go true = ap (λ (p : Phase). record card { phase = p }) (taken-none card.phase settled)
  go false = refl
idle card settled Refused note low = go (nat_eq card.trip note.trip) where
  go : (test : Bool)
      → (λ (e : Effect). e.0) (if test then (record card { phase = was_refused card.phase }, None) else (card, None))
      ≡ card
  go true = ap (λ (p : Phase). record card { phase = p }) (refused-none card.phase settled)
  go false = refl

pub rests-settled : (field : List (List Card)) (object home : ℕ) → IsAtRest field object home → (r : ℕ)
    → IsSettled (card_at field object r).phase
rests-settled field object home rest r = go (cases_eq r home) where
  go : (r ≡ home) ⊎ (r ≢ home) → IsSettled (card_at field object r).phase
  go (inl here) = subst (λ (q : ℕ). IsSettled (card_at field object q).phase) (sym here)
      (subst (λ (p : Phase). IsSettled p) (sym rest.live.1) tt)
  go (inr other) = subst (λ (p : Phase). IsSettled p) (sym (rest.away r other)) tt

-- tests of a note
and-second : (x y : Bool) → y ≡ false → (x && y) ≡ false
and-second true y e = e
and-second false y e = refl

and-first : (x y : Bool) → x ≡ false → (x && y) ≡ false
and-first true y e = absurd (cc)
and-first false y e = refl

and-both : (x y : Bool) → x ≡ true → y ≡ true → (x && y) ≡ true
and-both true y e f = f
and-both false y e f = absurd (cc)

not-all : (x y z w : Bool) → (x ≡ true → y ≡ true → z ≡ true → w ≡ true → ⊥) → (x && y && z && w) ≡ false
not-all true true true true h = absurd (h refl refl refl refl)
not-all true true true false h = refl
not-all true true false w h = refl
not-all true false z w h = refl
not-all false y z w h = refl

all-four : (x y z w : Bool) → x ≡ true → y ≡ true → z ≡ true → w ≡ true → (x && y && z && w) ≡ true
all-four true true true true a b c d = refl
all-four false y z w a b c d = absurd (cc)
all-four true false z w a b c d = absurd (cc)
all-four true true false w a b c d = absurd (cc)
all-four true true true false a b c d = absurd (cc)

pub or-neither : (first : First) → or_first first Neither ≡ first
or-neither Neither = refl
or-neither OfferFirst = refl
or-neither CancelFirst = refl

landed-cancel : (first : First) (offer : Note) → landed_as (or_first first CancelFirst) offer ≡ landed_as first offer
landed-cancel Neither offer = refl
landed-cancel OfferFirst offer = refl
landed-cancel CancelFirst offer = refl

-- which came first, with one more note
module _ (way : Way) (trip : ℕ) (first : First) (note : Note) where
  pub first-other : note.object ≢ way.object → first_with way trip first (Some note) ≡ first
  first-other other =
      if-false (is_of_trip way trip note) (or_first first (first_kind note.kind)) first
      (and-first (nat_eq note.object way.object) (nat_eq note.trip trip) (ne_eqb note.object way.object other))

  pub first-old : note.trip < trip → first_with way trip first (Some note) ≡ first
  first-old old =
      if-false (is_of_trip way trip note) (or_first first (first_kind note.kind)) first
      (and-second (nat_eq note.object way.object) (nat_eq note.trip trip) (grind (arith, nat_tests)))

  pub first-now : note.object ≡ way.object → note.trip ≡ trip
      → first_with way trip first (Some note) ≡ or_first first (first_kind note.kind)
  first-now own now =
      if-true (is_of_trip way trip note) (or_first first (first_kind note.kind)) first
      (and-both (nat_eq note.object way.object) (nat_eq note.trip trip) (eq-eqb note.object way.object own)
      (eq-eqb note.trip trip now))

-- a note about the object that is driven
module _ (way : Way) (trip : ℕ) (parcel : List ℕ) (apart : way.from ≢ way.to) (at new : ℕ → Card) (first : First)
    (is : IsBetween way.from way.to trip parcel at first) (note : Note)
    (same : (q : ℕ) → q ≢ note.to → new q ≡ at q) where
  arrives-now : (kind : NoteKind) → IsNow way.from way.to trip parcel at first kind note → note.trip ≡ trip
      → new note.to ≡ (delivered kind (at note.to) note).0
      → Arrived way.from way.to trip parcel at new first (or_first first (first_kind kind))
      (delivered kind (at note.to) note).1
  arrives-now Offer now this here =
      subst (λ (r : ℕ). Arrived way.from way.to trip parcel at new first (or_first first OfferFirst)
      (delivered Offer (at r) note).1) (sym now.1)
      (offer-arrives way.from way.to trip parcel apart at new note this first is now
      (subst (λ (r : ℕ). new r ≡ (delivered Offer (at r) note).0) now.1 here)
      (subst (λ (r : ℕ). (q : ℕ) → q ≢ r → new q ≡ at q) now.1 same))
  arrives-now Cancel now this here =
      subst (λ (r : ℕ). Arrived way.from way.to trip parcel at new first (or_first first CancelFirst)
      (delivered Cancel (at r) note).1) (sym now.1)
      (cancel-arrives way.from way.to trip parcel apart at new note this first is (now.0, now.1) now.2
      (subst (λ (r : ℕ). new r ≡ (delivered Cancel (at r) note).0) now.1 here)
      (subst (λ (r : ℕ). (q : ℕ) → q ≢ r → new q ≡ at q) now.1 same))
  arrives-now Taken now this here =
      subst (λ (f : First). Arrived way.from way.to trip parcel at new first f (delivered Taken (at note.to) note).1)
      (sym (or-neither first))
      (subst (λ (r : ℕ). Arrived way.from way.to trip parcel at new first first (delivered Taken (at r) note).1)
      (sym now.1)
      (taken-arrives way.from way.to trip parcel apart at new note this first is
      (subst (λ (r : ℕ). (q : ℕ) → q ≢ r → new q ≡ at q) now.1 same) now.2
      (subst (λ (r : ℕ). new r ≡ (delivered Taken (at r) note).0) now.1 here)))
  arrives-now Refused now this here =
      subst (λ (f : First). Arrived way.from way.to trip parcel at new first f (delivered Refused (at note.to) note).1)
      (sym (or-neither first))
      (subst (λ (r : ℕ). Arrived way.from way.to trip parcel at new first first (delivered Refused (at r) note).1)
      (sym now.1)
      (refused-arrives way.from way.to trip parcel apart at new note this first is
      (subst (λ (r : ℕ). (q : ℕ) → q ≢ r → new q ≡ at q) now.1 same) now.2
      (subst (λ (r : ℕ). new r ≡ (delivered Refused (at r) note).0) now.1 here)))

  pub arrives : note.object ≡ way.object → IsKnown way.from way.to trip parcel at first note
      → new note.to ≡ (delivered note.kind (at note.to) note).0
      → Arrived way.from way.to trip parcel at new first (first_with way trip first (Some note))
      (delivered note.kind (at note.to) note).1
  arrives own (inl old) here =
      subst (λ (f : First). Arrived way.from way.to trip parcel at new first f
      (delivered note.kind (at note.to) note).1) (sym (first-old way trip first note old.earlier))
      (arrived-old way.from way.to trip parcel apart at first is note old new here same)
  arrives own (inr now) here =
      subst (λ (f : First). Arrived way.from way.to trip parcel at new first f
      (delivered note.kind (at note.to) note).1) (sym (first-now way trip first note own now.0))
      (arrives-now note.kind now.1 now.0 here)

-- the offer with which the object came to the other region
module _ (way : Way) (trip : ℕ) (parcel : List ℕ) (field : List (List Card)) (note : Note) (before : Option Note) where
  abbrev offer : Note
  offer = offer_of way.object trip way.from way.to parcel

  is-offer : note.kind ≡ Offer → note.object ≡ way.object → note.trip ≡ trip → note.from ≡ way.from
      → note.to ≡ way.to → note.parcel ≡ parcel → note ≡ offer
  is-offer kind own now from there same = λ i. record {
    kind = kind i;
    object = own i;
    trip = now i;
    from = from i;
    to = there i;
    parcel = same i;
  }

  stays-landed : lands way field note ≡ false → landing way field note before ≡ before
  stays-landed out = if-false (lands way field note) (Some note) before out

  unoffered : is_offer note.kind ≡ false → lands way field note ≡ false
  unoffered out =
      not-all (nat_eq note.object way.object) (nat_eq note.to way.to) (is_offer note.kind)
      (nat_lt (card_at field way.object way.to).trip note.trip) (λ a b c d. cc)

  not-later : note.trip ≤ (card_at field way.object way.to).trip → lands way field note ≡ false
  not-later low =
      not-all (nat_eq note.object way.object) (nat_eq note.to way.to) (is_offer note.kind)
      (nat_lt (card_at field way.object way.to).trip note.trip) (λ a b c d. grind (arith, nat_tests))

  old-lands : note.trip ≤ (card_at field way.object note.to).trip → lands way field note ≡ false
  old-lands low =
      not-all (nat_eq note.object way.object) (nat_eq note.to way.to) (is_offer note.kind)
      (nat_lt (card_at field way.object way.to).trip note.trip)
      (λ a b c d. (let e : note.to ≡ way.to = grind (arith, nat_tests) in
      let less : note.trip ≤ (card_at field way.object way.to).trip =
      subst (λ (r : ℕ). note.trip ≤ (card_at field way.object r).trip) e low in
      grind (arith, nat_tests)))

  other-lands : note.object ≢ way.object → lands way field note ≡ false
  other-lands other =
      not-all (nat_eq note.object way.object) (nat_eq note.to way.to) (is_offer note.kind)
      (nat_lt (card_at field way.object way.to).trip note.trip)
      (λ a b c d. (let no = ne_eqb note.object way.object other in cc))

  landing-offer : (first : First) → before ≡ landed_as first offer
      → ToIs way.from way.to trip parcel first (card_at field way.object way.to) → note.object ≡ way.object
      → note.kind ≡ Offer → note.from ≡ way.from → note.to ≡ way.to → note.parcel ≡ parcel → note.trip ≡ trip
      → landing way field note before ≡ landed_as (or_first first OfferFirst) offer
  landing-offer Neither was to own kind from there same now =
      let low : (card_at field way.object way.to).trip < trip = to.1 in
      if-true (lands way field note) (Some note) before
      (all-four (nat_eq note.object way.object) (nat_eq note.to way.to) (is_offer note.kind)
      (nat_lt (card_at field way.object way.to).trip note.trip)
      (eq-eqb note.object way.object own) (eq-eqb note.to way.to there) (ap is_offer kind) (grind (arith, nat_tests)))
      ∙ ap Some (is-offer kind own now from there same)
  landing-offer OfferFirst was to own kind from there same now =
      let e : (card_at field way.object way.to).trip ≡ trip =
      to.1 in stays-landed (not-later (omega (arith, e, now))) ∙ was
  landing-offer CancelFirst was to own kind from there same now =
      let e : (card_at field way.object way.to).trip ≡ trip =
      to.1 in stays-landed (not-later (omega (arith, e, now))) ∙ was

  module _ (first : First) (was : before ≡ landed_as first offer)
      (is : IsBetween way.from way.to trip parcel (card_at field way.object) first)
      (own : note.object ≡ way.object) where
    landing-now : (kind : NoteKind) → note.kind ≡ kind
        → IsNow way.from way.to trip parcel (card_at field way.object) first kind note → note.trip ≡ trip
        → landing way field note before ≡ landed_as (or_first first (first_kind kind)) offer
    landing-now Offer e now this = landing-offer first was is.to own e now.0 now.1 now.2 this
    landing-now Taken e now this =
        stays-landed (unoffered (ap is_offer e)) ∙ was ∙ ap (λ (f : First). landed_as f offer) (sym (or-neither first))
    landing-now Cancel e now this = stays-landed (unoffered (ap is_offer e)) ∙ was ∙ sym (landed-cancel first offer)
    landing-now Refused e now this =
        stays-landed (unoffered (ap is_offer e)) ∙ was ∙ ap (λ (f : First). landed_as f offer) (sym (or-neither first))

    landing-is : IsKnown way.from way.to trip parcel (card_at field way.object) first note
        → landing way field note before ≡ landed_as (first_with way trip first (Some note)) offer
    landing-is (inl old) =
        stays-landed (old-lands old.by_to) ∙ was
        ∙ ap (λ (f : First). landed_as f offer) (sym (first-old way trip first note old.earlier))
    landing-is (inr now) =
        landing-now note.kind refl now.1 now.0
        ∙ ap (λ (f : First). landed_as f offer) (sym (first-now way trip first note own now.0))

no-reply : (reply : Option Note) → next_reply reply None ≡ None
no-reply None = refl
no-reply (Some r) = refl

module _ (way : Way) (trip : ℕ) (parcel : List ℕ) (start : List (List Card)) where
  reply-held : (reply answer : Option Note) (now : List (List Card)) (first : First)
      → IsHeldIf way trip parcel start now first answer
      → IsHeldIf way trip parcel start now first (next_reply reply answer)
  reply-held None answer now first held = held
  reply-held (Some r) answer now first held = tt

  abbrev pub heard : Moment → Option Note → Moment
  heard m back = record {
    field = (received m.field back).0;
    rounds = next_rounds m.reply m.rounds;
    reply = next_reply m.reply (received m.field back).1;
    landed = landed_by way m back;
  }

  module _ (apart : way.from ≢ way.to) (place : ℕ → ℕ) (rest : AreAtRest start place) (handed : Note → Type 0)
      (first : First)
      (m : Moment) (moves : Moves way trip parcel start handed first m) where
    lost-moves : Moves way trip parcel start handed first (heard m None)
    lost-moves = record {
      long = moves.long;
      others = moves.others;
      between = moves.between;
      known = moves.known;
      reply = subst (λ (o : Option Note). IsHeldIf way trip parcel start m.field first o) (sym (no-reply m.reply)) tt;
      landed = moves.landed;
    }

    module _ (note : Note) (held : IsHeld way trip parcel start m.field first note) where
      abbrev new : List (List Card)
      new = (does m.field (Deliver note)).0

      abbrev answer : Option Note
      answer = (does m.field (Deliver note)).1

      answers : IsAnswerTo note answer
      answers = answer-delivered note.kind (card_at m.field note.object note.to) note

      there : HasCard m.field note.object note.to
      there = has-long start m.field moves.long note.object note.to held.to

      -- another object
      module _ (other : note.object ≢ way.object) where
        past : IsPast start note
        past = held.other other

        cards-same : cards_of m.field note.object ≡ cards_of start note.object
        cards-same = moves.others note.object other

        stays : new ≡ m.field
        stays = done-same m.field (Deliver note) there
            (idle (card_at m.field note.object note.to)
            (subst (λ (cs : List Card). IsSettled (card_of cs note.to).phase) (sym cards-same)
            (rests-settled start note.object (place note.object) (rest note.object held.to.0) note.to))
            note.kind note
            (subst (λ (cs : List Card). note.trip ≤ (card_of cs note.to).trip) (sym cards-same) past.by_to))

        other-held : (o : Option Note) → IsAnswerTo note o → IsHeldIf way trip parcel start m.field first o
        other-held None is = tt
        other-held (Some a) is = record {
          from = (answer-past start note a is past).from;
          to = (answer-past start note a is past).to;
          own = λ e. absurd (other (sym is.0 ∙ e));
          other = λ e. answer-past start note a is past;
        }

        other-moves : Moves way trip parcel start handed (first_with way trip first (Some note)) (heard m (Some note))
        other-moves =
            subst (λ (f : First). Moves way trip parcel start handed f (heard m (Some note)))
            (sym (first-other way trip first note other))
            (record {
              long = subst (λ (x : List (List Card)). IsAsLong start x) (sym stays) moves.long;
              others = subst (λ (x : List (List Card)). (object : ℕ) → object ≢ way.object
                  → cards_of x object ≡ cards_of start object) (sym stays) moves.others;
              between = subst (λ (x : List (List Card)). IsBetween way.from way.to trip parcel (card_at x way.object)
                  first)
                  (sym stays) moves.between;
              known = subst (λ (x : List (List Card)). (n : Note) → handed n
                  → IsHeld way trip parcel start x first n) (sym stays) moves.known;
              reply = reply-held m.reply answer new first
                  (subst (λ (x : List (List Card)). IsHeldIf way trip parcel start x first answer) (sym stays)
                  (other-held answer answers));
              landed = stays-landed way trip parcel m.field note m.landed
                  (other-lands way trip parcel m.field note m.landed other) ∙ moves.landed;
            })

      -- the object that is driven
      module _ (own : note.object ≡ way.object) where
        abbrev next : First
        next = first_with way trip first (Some note)

        arrived : Arrived way.from way.to trip parcel (card_at m.field way.object) (card_at new way.object) first next
            answer
        arrived =
            subst (λ (o : ℕ). Arrived way.from way.to trip parcel (card_at m.field o) (card_at new o) first next answer)
            own
            (arrives way trip parcel apart (card_at m.field note.object) (card_at new note.object) first
            (subst (λ (o : ℕ). IsBetween way.from way.to trip parcel (card_at m.field o) first) (sym own) moves.between)
            note (done-elsewhere m.field (Deliver note) there) own
            (subst (λ (o : ℕ). IsKnown way.from way.to trip parcel (card_at m.field o) first note) (sym own)
            (held.own own))
            (done-here m.field (Deliver note) there))

        own-held : (o : Option Note) → IsAnswerTo note o
            → IsKnownReply way.from way.to trip parcel (card_at new way.object) next o
            → IsHeldIf way trip parcel start new next o
        own-held None is known = tt
        own-held (Some a) is known = record {
          from = answer-there start note.object note.from note.to a.object a.from is.0 is.2 held.to;
          to = answer-there start note.object note.to note.from a.object a.to is.0 is.3 held.from;
          own = λ e. known;
          other = λ e. absurd (e (is.0 ∙ own));
        }

        own-moves : Moves way trip parcel start handed next (heard m (Some note))
        own-moves = record {
          long = long-on start m.field new moves.long (done-long m.field (Deliver note) there);
          others = λ object other. done-others m.field (Deliver note) there object (λ e. other (e ∙ own))
              ∙ moves.others object other;
          between = arrived.between;
          known = λ n is. (let h = moves.known n is in record {
            from = h.from;
            to = h.to;
            own = λ e. arrived.known n (h.own e);
            other = h.other;
          });
          reply = reply-held m.reply answer new next (own-held answer answers arrived.reply_known);
          landed = landing-is way trip parcel m.field note m.landed first moves.landed moves.between own (held.own own);
        }

    pub received-moves : (back : Option Note) → IsHeldIf way trip parcel start m.field first back
        → Moves way trip parcel start handed (first_with way trip first back) (heard m back)
    received-moves None held = lost-moves
    received-moves (Some note) held = go (cases_eq note.object way.object) where
      go : (note.object ≡ way.object) ⊎ (note.object ≢ way.object)
          → Moves way trip parcel start handed (first_with way trip first (Some note)) (heard m (Some note))
      go (inl own) = own-moves note held own
      go (inr other) = other-moves note held other
