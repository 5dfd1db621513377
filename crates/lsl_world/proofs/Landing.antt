-- A drive by its trips: which of them are its own, and that its object lands exactly where its offer came, and not
-- after its cancel.
use Rattle.std.proofs.Common.{◌≡◌, ◌≢◌, ◌∙◌, ◌<◌, ◌≤◌, ◌+◌, ◌^◌, ◌⊎◌, ◌==◌, ◌&&◌, inl, inr, refl, ap, ap₂, sym, subst, arith, ℕ, zero, suc, nat_eq, nat_lt, Bool, true, false, if◌then◌else◌, List, [], ◌∷◌, ◌++◌, append-nil, append_assoc, drop, get_or, length, take, Option, Some, None}
use Rattle.std.specs.Prelude.{◌||◌, Contains, IfSome, not}
use Rattle.std.specs.List.{list_any}
use Rattle.std.specs.Str.{bytes_eq}
use Rattle.std.proofs.Math.Seq.{drop-nil}
use Rattle.std.proofs.lemmas.Bool.{cases_eq}
use Rattle.std.proofs.lemmas.List.{map-append}
use Rattle.std.proofs.lemmas.List.Elements.{Contains-append_cases, Contains-append_left, Contains-append_right}
use Rattle.std.proofs.lemmas.Slice.Eq.{bytes_eq-Decides}
use Rattle.lsl_ports.specs.Growth.{Begins}
use Rattle.lsl_ports.specs.Trips.{Trip, sent_of}
use Rattle.lsl_handoff.specs.declared.card.Card.{Card}
use Rattle.lsl_handoff.specs.declared.card.Phase.{Phase}
use Rattle.lsl_handoff.specs.declared.card.Phase.TheVariants.{Away, Live, Leaving, Cancelling}
use Rattle.lsl_handoff.specs.declared.drive.Way.{Way}
use Rattle.lsl_handoff.specs.declared.faults.DepartFault.{DepartFault}
use Rattle.lsl_handoff.specs.declared.note.Note.{Note}
use Rattle.lsl_handoff.specs.declared.note.NoteKind.{NoteKind}
use Rattle.lsl_handoff.specs.declared.note.NoteKind.TheVariants.{Offer, Taken, Cancel, Refused}
use Rattle.lsl_handoff.specs.DriveLaws.{First, Neither, OfferFirst, CancelFirst, ArePast, AreAtRest, ComesToRest, IsAtRest, IsPast, WasHanded, departure, first_kind, first_with, next_offer, next_trip, or_first}
use Rattle.lsl_handoff.specs.Cards.{depart_fault}
use Rattle.lsl_handoff.specs.Drives.{HasWay, Moment, asks, asks_unless, awaited_in, departed, hears, is_offer, most_rounds, next_reply, received, rested, settled_unless}
use Rattle.lsl_handoff.specs.Entries.{comes, is_same}
use Rattle.lsl_handoff.specs.Fields.{HasCard, IsOneOf, card_at, does}
use Rattle.lsl_handoff.specs.Handovers.{HasCounts}
use Rattle.lsl_handoff.specs.NoteBytes.{IsNoteOf, note_bytes}
use Rattle.lsl_handoff.specs.NoteLaws.{AreCounts}
use Rattle.lsl_handoff.specs.Notes.{answer_of, cancel_of, offer_of}
use Rattle.lsl_handoff.specs.Rules.{Depart, Effect, awaited, delivered, departs_unless, known_answer, was_refused, was_taken}
use Rattle.lsl_handoff.proofs.Driving.{FromIs, IsKnown, IsNow, IsntLeaving}
use Rattle.lsl_handoff.proofs.HandoverLemmas.{GoesTo, Onward, left, less-hears}
use Rattle.lsl_handoff.proofs.Moving.{IsHeld, Moves}
use Rattle.lsl_handoff.proofs.ReceivingLemmas.{done-here, first-now, first-old, first-other, has-long, heard as heard_by}
use Rattle.lsl_handoff.proofs.RestLemmas.{CameOf, OrNote, ends, question-held, start-moves, trip-moves, apart as ways-apart}
use Rattle.lsl_image.specs.Images.{IsIntact}
use Rattle.lsl_world.specs.Lossy.{Driven, WasCarried, WereCarried, bytes_of, driven, driven_on, driven_unless, first_back, heard, is_new_offer, note_among, own_trips, trips_before_offer, trips_behind, trips_from_offer}
use Rattle.lsl_world.proofs.Heard.{among-found, among-none, heard-handed, note-intact, one-more}
use Rattle.lsl_world.proofs.Spelling.{IsFit, IsLike, cancel-short, cancel-spelled, no-offer-byte, offer-byte, spelled-like}

-- ---- what a note that came back says of the offer and the cancel

abbrev pub is_first : First → Bool → Bool
is_first Neither later = later
is_first OfferFirst later = true
is_first CancelFirst later = false

abbrev Tells : First → Bool → Bool → Type 0
Tells Neither offered called = (offered ≡ false) × (called ≡ false)
Tells OfferFirst offered called = offered ≡ true
Tells CancelFirst offered called = (offered ≡ false) × (called ≡ true)

tells-first : (f : First) (o c later : Bool) → Tells f o c
    → (if o then true else if c then false else later) ≡ is_first f later
tells-first Neither o c later is =
    ap (λ (b : Bool). if b then true else if c then false else later) is.0
    ∙ ap (λ (b : Bool). if b then false else later) is.1
tells-first OfferFirst o c later is = ap (λ (b : Bool). if b then true else if c then false else later) is
tells-first CancelFirst o c later is =
    ap (λ (b : Bool). if b then true else if c then false else later) is.0
    ∙ ap (λ (b : Bool). if b then false else later) is.1

if-same : {X : Type 0} (b : Bool) (x y : X) → x ≡ y → (if b then x else y) ≡ y
if-same true x y e = e
if-same false x y e = refl

with-offer : (way : Way) (trip : ℕ) (back : Option Note) → first_with way trip OfferFirst back ≡ OfferFirst
with-offer way trip None = refl
with-offer way trip (Some note) =
    if-same (nat_eq note.object way.object && nat_eq note.trip trip)
    (or_first OfferFirst (first_kind note.kind)) OfferFirst refl

with-cancel : (way : Way) (trip : ℕ) (back : Option Note) → first_with way trip CancelFirst back ≡ CancelFirst
with-cancel way trip None = refl
with-cancel way trip (Some note) =
    if-same (nat_eq note.object way.object && nat_eq note.trip trip)
    (or_first CancelFirst (first_kind note.kind)) CancelFirst refl

-- ---- an answer isn't an offer

-- it isn't an offer, and has no parcel
abbrev pub IsBare : Note → Type 0
IsBare note = (is_offer note.kind ≡ false) × (note.parcel ≡ [])

abbrev pub IsAnswerIf : Option Note → Type 0
IsAnswerIf None = Unit {0}
IsAnswerIf (Some note) = IsBare note

answer-if : (b : Bool) (x y : Effect) → IsAnswerIf x.1 → IsAnswerIf y.1
    → IsAnswerIf ((λ (e : Effect). e.1) (if b then x else y))
answer-if true x y p q = p
answer-if false x y p q = q

answer-known : (card : Card) (note : Note) → IsAnswerIf (Some (known_answer card note))
answer-known card note = go (nat_lt note.trip card.trip) card.took where
  go : (later took : Bool) → IsAnswerIf
      (Some (if later then answer_of Taken note else if took then answer_of Taken note else answer_of Refused note))
  go true took = (refl, refl)
  go false true = (refl, refl)
  go false false = (refl, refl)

answer-delivered : (kind : NoteKind) (card : Card) (note : Note) → IsAnswerIf (delivered kind card note).1
answer-delivered Offer card note = answer-if (nat_lt card.trip note.trip)
    (record { trip = note.trip; took = true; phase = Live note.parcel }, Some (answer_of Taken note))
    (card, Some (known_answer card note)) (refl, refl) (answer-known card note)
answer-delivered Cancel card note = answer-if (nat_lt card.trip note.trip)
    (record { trip = note.trip; took = false; phase = Away }, Some (answer_of Refused note))
    (card, Some (known_answer card note)) (refl, refl) (answer-known card note)
answer-delivered Taken card note = answer-if (nat_eq card.trip note.trip)
    (record card { phase = was_taken card.phase }, None) (card, None) tt tt
answer-delivered Refused card note = answer-if (nat_eq card.trip note.trip)
    (record card { phase = was_refused card.phase }, None) (card, None) tt tt

answer-received : (field : List (List Card)) (back : Option Note) → IsAnswerIf (received field back).1
answer-received field None = tt
answer-received field (Some note) = answer-delivered note.kind (card_at field note.object note.to) note

answer-next : (reply answer : Option Note) → IsAnswerIf answer → IsAnswerIf (next_reply reply answer)
answer-next None answer is = is
answer-next (Some r) answer is = tt

settled-reply : (asked : Option Note) (way : Way) (m : Moment) → (settled_unless asked way m).reply ≡ m.reply
settled-reply None way m = refl
settled-reply (Some note) way m = refl

pub hears-answer : (way : Way) (m : Moment) (back : Option Note) → IsAnswerIf (hears way m back).reply
hears-answer way m back =
    let after = heard_by way 0 [] m.field m back in
    subst IsAnswerIf (sym (settled-reply (asks way after) way after))
    (answer-next m.reply (received m.field back).1 (answer-received m.field back))

-- ---- trips up to the next new offer

-- no trip is left, or the next one carries a new offer
abbrev pub IsOpen : List (List ℕ) → List Trip → Type 0
IsOpen entries [] = Unit {0}
IsOpen entries (t ∷ trips) = is_new_offer entries t.sent ≡ true

pub record Parts (entries : List (List ℕ)) (trips before behind : List Trip) : Type 0 where
  pub before_is : trips_before_offer entries trips ≡ before
  pub behind_is : trips_from_offer entries trips ≡ behind

pub parts-last : (entries : List (List ℕ)) (trips : List Trip) → IsOpen entries trips → Parts entries trips [] trips
parts-last entries [] opened = record { before_is = refl; behind_is = refl }
parts-last entries (t ∷ trips) opened = record {
  before_is = ap (λ (b : Bool). if b then [] else t ∷ trips_before_offer (entries ++ t.sent ∷ []) trips) opened;
  behind_is = ap (λ (b : Bool). if b then t ∷ trips else trips_from_offer (entries ++ t.sent ∷ []) trips) opened;
}

parts-more : (entries : List (List ℕ)) (t : Trip) (trips before behind : List Trip)
    → is_new_offer entries t.sent ≡ false → Parts (entries ++ t.sent ∷ []) trips before behind
    → Parts entries (t ∷ trips) (t ∷ before) behind
parts-more entries t trips before behind old parts = record {
  before_is = ap (λ (b : Bool). if b then [] else t ∷ trips_before_offer (entries ++ t.sent ∷ []) trips) old
      ∙ ap (λ (ts : List Trip). t ∷ ts) parts.before_is;
  behind_is = ap (λ (b : Bool). if b then t ∷ trips else trips_from_offer (entries ++ t.sent ∷ []) trips) old
      ∙ parts.behind_is;
}

any-has : (x : List ℕ) (xs : List (List ℕ)) → Contains xs x → list_any (bytes_eq x) xs ≡ true
any-has x [] (k, lt, at) = absurd (omega (arith, lt))
any-has x (y ∷ xs) (zero, lt, at) =
    ap (λ (b : Bool). b || list_any (bytes_eq x) xs) ((bytes_eq-Decides x y).1 (sym at))
any-has x (y ∷ xs) (suc k, lt, at) =
    or-second (bytes_eq x y) (list_any (bytes_eq x) xs) (any-has x xs (k, omega (arith, lt), at))
  where
    or-second : (a b : Bool) → b ≡ true → (a || b) ≡ true
    or-second true b e = refl
    or-second false b e = e

pub has-any : (x : List ℕ) (xs : List (List ℕ)) → list_any (bytes_eq x) xs ≡ true → Contains xs x
has-any x [] e = absurd (cc)
has-any x (y ∷ xs) e = go (bytes_eq x y) refl e (λ more. has-any x xs more) where
  go : (b : Bool) → bytes_eq x y ≡ b → (b || list_any (bytes_eq x) xs) ≡ true
      → (list_any (bytes_eq x) xs ≡ true → Contains xs x) → Contains (y ∷ xs) x
  go true same f next = (0, omega arith, sym ((bytes_eq-Decides x y).0 same))
  go false same f next = Contains-append_right (y ∷ []) xs x (next f)

pub contains-bytes : (notes : List Note) (note : Note) → Contains notes note
    → Contains (bytes_of notes) (note_bytes note)
contains-bytes [] note (k, lt, at) = absurd (omega (arith, lt))
contains-bytes (n ∷ notes) note (zero, lt, at) = (0, omega arith, ap note_bytes at)
contains-bytes (n ∷ notes) note (suc k, lt, at) =
    Contains-append_right (note_bytes n ∷ []) (bytes_of notes) (note_bytes note)
    (contains-bytes notes note (k, omega (arith, lt), at))

bytes-more : (notes : List Note) (note : Note) → bytes_of notes ++ note_bytes note ∷ [] ≡ bytes_of (notes ++ note ∷ [])
bytes-more notes note = sym (map-append (λ (n : Note). note_bytes n) notes (note ∷ []))

pub entries-more : (handed : List Note) (note : Note) (sent : List ℕ) → sent ≡ note_bytes note
    → bytes_of handed ++ sent ∷ [] ≡ bytes_of (handed ++ note ∷ [])
entries-more handed note sent e = ap (λ (z : List ℕ). bytes_of handed ++ z ∷ []) e ∙ bytes-more handed note

-- a trip that carries the first of these notes
pub record Carries (t : Trip) (trips : List Trip) (bytes : List ℕ) (all : List (List ℕ)) : Type 0 where
  pub first : t.sent ≡ bytes
  pub others : Begins (sent_of trips) all

pub begins-with : (t : Trip) (trips : List Trip) (bytes : List ℕ) (all : List (List ℕ))
    → Begins (sent_of (t ∷ trips)) (bytes ∷ all) → Carries t trips bytes all
begins-with t trips bytes all begins = record {
  first = ap (λ (xs : List (List ℕ)). get_or xs 0 []) begins.whole;
  others = record { others = begins.others; whole = ap (λ (xs : List (List ℕ)). drop 1 xs) begins.whole };
}

-- a drive by what is asked first: the rest of it, and all of it
abbrev pub rest_by : Way → ℕ → List Note → Moment → List Trip → Note → Driven
rest_by way most handed m trips note =
    driven way most (handed ++ note ∷ []) (hears way m (heard (handed ++ note ∷ []) (first_back trips))) (drop 1 trips)

abbrev pub by_asked : Way → ℕ → List Note → Moment → List Trip → Option Note → Driven
by_asked way most handed m trips o =
    driven_unless o (record { last = m; notes = []; behind = trips })
    (λ note. driven_on note (rest_by way most handed m trips note))

-- ---- a drive after its departure

module _ (objects regions : ℕ) (ranges : AreCounts objects regions) (way : Way) (parcel : List ℕ)
    (start : List (List Card)) (counts : HasCounts objects regions start) (has : HasWay start way)
    (apart : way.from ≢ way.to) (place : ℕ → ℕ) (rest : AreAtRest start place)
    (fit : (object region : ℕ) → (card_at start object region).trip < 2 ^ 64) (trip : ℕ)
    (trip_fits : trip < 2 ^ 64) where
  abbrev pub offer : Note
  offer = offer_of way.object trip way.from way.to parcel

  abbrev pub cancel : Note
  cancel = cancel_of way.object trip way.from way.to

  pub there : (object region : ℕ) → HasCard start object region → IsOneOf objects object × IsOneOf regions region
  there object region card =
      let one : IsOneOf objects object = subst (λ (n : ℕ). IsOneOf n object) counts.rows card.0 in
      (one, subst (λ (n : ℕ). IsOneOf n region) (counts.cards object one) card.1)

  numbers : (object region : ℕ) → HasCard start object region → (object < 2 ^ 32) × (region < 2 ^ 32)
  numbers object region card =
      let are = there object region card in
      (omega (arith, are.0.1, ranges.0), omega (arith, are.1.1, ranges.1))

  pub past-fit : (note : Note) → IsPast start note → IsFit note
  past-fit note past = record {
    object = (numbers note.object note.from past.from).0;
    trip = (let low = past.by_from in omega (arith, low, fit note.object note.from));
    from = (numbers note.object note.from past.from).1;
    to = (numbers note.object note.to past.to).1;
  }

  pub offer-fit : IsFit offer
  offer-fit = record {
    object = (numbers way.object way.from has.0).0;
    trip = trip_fits;
    from = (numbers way.object way.from has.0).1;
    to = (numbers way.object way.to has.1).1;
  }

  cancel-fit : IsFit cancel
  cancel-fit = record {
    object = (numbers way.object way.from has.0).0;
    trip = trip_fits;
    from = (numbers way.object way.from has.0).1;
    to = (numbers way.object way.to has.1).1;
  }

  -- the cancel is read of its bytes
  cancel-read : IsNoteOf objects regions (note_bytes cancel) cancel
  cancel-read = record {
    is = record {
      object = (there way.object way.from has.0).0;
      trip = trip_fits;
      from = (there way.object way.from has.0).1;
      to = (there way.object way.to has.1).1;
      parcel = refl;
    };
    bytes_are = refl;
    fits = cancel-short way.object trip way.from way.to;
  }

  isnt-same : (x : Note) (bytes : List ℕ) → (note_bytes x ≡ bytes → ⊥) → is_same (note_bytes x) (Some bytes) ≡ false
  isnt-same x bytes other = go (bytes_eq (note_bytes x) bytes) refl where
    go : (b : Bool) → bytes_eq (note_bytes x) bytes ≡ b → bytes_eq (note_bytes x) bytes ≡ false
    go true e = absurd (other ((bytes_eq-Decides (note_bytes x) bytes).0 e))
    go false e = e

  -- a note that was handed over and came back
  module _ (now : List (List Card)) (first : First) (note : Note)
      (held : IsHeld way trip parcel start now first note) where
    pub trip-few : note.trip < 2 ^ 64
    trip-few = go (cases_eq note.object way.object) where
      known : IsKnown way.from way.to trip parcel (card_at now way.object) first note → note.trip < 2 ^ 64
      known (inl old) = omega (arith, old.earlier, trip_fits)
      known (inr is) = let e : note.trip ≡ trip = is.0 in omega (arith, e, trip_fits)

      go : (note.object ≡ way.object) ⊎ (note.object ≢ way.object) → note.trip < 2 ^ 64
      go (inl own) = known (held.own own)
      go (inr other) =
          let low = (held.other other).by_from in omega (arith, low, fit note.object note.from)

    note-fit : IsFit note
    note-fit = record {
      object = (numbers note.object note.from held.from).0;
      trip = trip-few;
      from = (numbers note.object note.from held.from).1;
      to = (numbers note.object note.to held.to).1;
    }

    module _ (bytes : List ℕ) (spelled : note_bytes note ≡ bytes) where
      abbrev IsTold : First → Type 0
      IsTold f = Tells f (is_same (note_bytes offer) (Some bytes)) (is_same (note_bytes cancel) (Some bytes))

      unlike : (x : Note) → IsFit x → (IsLike note x → ⊥) → is_same (note_bytes x) (Some bytes) ≡ false
      unlike x few other = isnt-same x bytes (λ e. other (spelled-like note x note-fit few (spelled ∙ sym e)))

      tells-nothing : first_with way trip Neither (Some note) ≡ Neither → (IsLike note offer → ⊥)
          → (IsLike note cancel → ⊥) → IsTold (first_with way trip Neither (Some note))
      tells-nothing e a b =
          subst IsTold (sym e) (unlike offer offer-fit a, unlike cancel cancel-fit b)

      module _ (own : note.object ≡ way.object) (this : note.trip ≡ trip) where
        by-kind : (kind : NoteKind) → note.kind ≡ kind
            → IsNow way.from way.to trip parcel (card_at now way.object) first kind note
            → IsTold (first_with way trip Neither (Some note))
        by-kind Offer k is =
            let same : note ≡ offer = λ i. record {
              kind = k i;
              object = own i;
              trip = this i;
              from = is.0 i;
              to = is.1 i;
              parcel = is.2 i;
            } in
            subst IsTold (sym (first-now way trip Neither note own this ∙ ap first_kind k))
            ((bytes_eq-Decides (note_bytes offer) bytes).1 (ap note_bytes (sym same) ∙ spelled))
        by-kind Cancel k is =
            let same : cancel_of note.object note.trip note.from note.to ≡ cancel = λ i. record {
              kind = Cancel;
              object = own i;
              trip = this i;
              from = is.0 i;
              to = is.1 i;
              parcel = [];
            } in
            subst IsTold (sym (first-now way trip Neither note own this ∙ ap first_kind k)) (
              unlike offer offer-fit (λ like. (let clash : Cancel ≡ Offer = sym k ∙ like.kind in cc)),
              (bytes_eq-Decides (note_bytes cancel) bytes).1
                  (sym (cancel-spelled note k ∙ ap note_bytes same) ∙ spelled),
            )
        by-kind Taken k is =
            tells-nothing (first-now way trip Neither note own this ∙ ap first_kind k)
            (λ like. (let clash : Taken ≡ Offer = sym k ∙ like.kind in cc))
            (λ like. (let clash : Taken ≡ Cancel = sym k ∙ like.kind in cc))
        by-kind Refused k is =
            tells-nothing (first-now way trip Neither note own this ∙ ap first_kind k)
            (λ like. (let clash : Refused ≡ Offer = sym k ∙ like.kind in cc))
            (λ like. (let clash : Refused ≡ Cancel = sym k ∙ like.kind in cc))

      note-tells : IsTold (first_with way trip Neither (Some note))
      note-tells = go (cases_eq note.object way.object) where
        by-known : note.object ≡ way.object → IsKnown way.from way.to trip parcel (card_at now way.object) first note
            → IsTold (first_with way trip Neither (Some note))
        by-known own (inl old) =
            tells-nothing (first-old way trip Neither note old.earlier)
            (λ like. (let t = like.trip in let low = old.earlier in omega (arith, t, low)))
            (λ like. (let t = like.trip in let low = old.earlier in omega (arith, t, low)))
        by-known own (inr is) = by-kind own is.0 note.kind refl is.1

        go : (note.object ≡ way.object) ⊎ (note.object ≢ way.object)
            → IsTold (first_with way trip Neither (Some note))
        go (inl own) = by-known own (held.own own)
        go (inr other) =
            tells-nothing (first-other way trip Neither note other) (λ like. other like.object)
            (λ like. other like.object)

  -- what came back, where only notes that were handed over are heard
  module _ (now : List (List Card)) (first : First) (notes : List Note)
      (known : (note : Note) → Contains notes note → IsHeld way trip parcel start now first note)
      (offered : Contains notes offer) where
    back-tells : (back : Option (List ℕ)) → WasCarried (bytes_of notes) back
        → Tells (first_with way trip Neither (heard notes back)) (is_same (note_bytes offer) back)
        (is_same (note_bytes cancel) back)
    back-tells None was = (refl, refl)
    back-tells (Some bytes) was = go (note_among notes bytes) refl where
      isnt-cancel : note_among notes bytes ≡ None → note_bytes cancel ≡ bytes → ⊥
      isnt-cancel none e = by was where
        by : Contains (bytes_of notes) bytes ⊎ (IsIntact bytes → ⊥) → ⊥
        by (inl among) = among-none notes bytes none among
        by (inr broken) =
            broken (subst IsIntact e (note-intact objects regions (note_bytes cancel) cancel cancel-read))

      go : (o : Option Note) → note_among notes bytes ≡ o
          → Tells (first_with way trip Neither o) (is_same (note_bytes offer) (Some bytes))
          (is_same (note_bytes cancel) (Some bytes))
      go None none = (
        isnt-same offer bytes (λ e. among-none notes bytes none
            (subst (λ (z : List ℕ). Contains (bytes_of notes) z) e (contains-bytes notes offer offered))),
        isnt-same cancel bytes (isnt-cancel none),
      )
      go (Some note) some =
          let found = among-found notes bytes note some in
          note-tells now first note (known note found.there) bytes found.bytes_are

    trip-tells : (back : Option (List ℕ)) → WasCarried (bytes_of notes) back → (f : First) (later : Bool)
        → is_first f (if is_same (note_bytes offer) back then true
        else if is_same (note_bytes cancel) back then false else later)
        ≡ is_first (first_with way trip f (heard notes back)) later
    trip-tells back was Neither later =
        tells-first (first_with way trip Neither (heard notes back)) (is_same (note_bytes offer) back)
        (is_same (note_bytes cancel) back) later (back-tells back was)
    trip-tells back was OfferFirst later =
        ap (λ (f : First). is_first f later) (sym (with-offer way trip (heard notes back)))
    trip-tells back was CancelFirst later =
        ap (λ (f : First). is_first f later) (sym (with-cancel way trip (heard notes back)))

  abbrev pub Holds : List Note → First → Moment → Type 0
  Holds handed first m = Moves way trip parcel start (Contains handed) first m

  abbrev Quiet : Moment → Type 0
  Quiet x = asks way x ≡ None → IsntLeaving (card_at x.field way.object way.from).phase

  -- what is asked is the offer, or no offer
  module _ (handed : List Note) (first : First) (m : Moment) (moves : Holds handed first m) where
    awaited-is : (note : Note) → (p : Phase) → FromIs way.from way.to trip parcel first p
        → awaited p (card_at m.field way.object way.from).trip way.from way.object ≡ Some note
        → IsBare note ⊎ (note ≡ offer)
    awaited-is note Away from k = absurd (cc)
    awaited-is note (Live held) from k = absurd (cc)
    awaited-is note (Leaving to held) from k =
        let it : offer_of way.object (card_at m.field way.object way.from).trip way.from to held ≡ note = cc in
        let same : offer_of way.object (card_at m.field way.object way.from).trip way.from to held ≡ offer =
        λ i. record {
          kind = Offer;
          object = way.object;
          trip = moves.between.from_trip i;
          from = way.from;
          to = from.1 i;
          parcel = from.0 i;
        } in
        inr (sym it ∙ same)
    awaited-is note (Cancelling to held) from k =
        let it : cancel_of way.object (card_at m.field way.object way.from).trip way.from to ≡ note = cc in
        inl (subst IsBare it (refl, refl))

    pub asked-is : IsAnswerIf m.reply → (reply : Option Note) → m.reply ≡ reply → (note : Note)
        → asks_unless reply way m ≡ Some note → IsBare note ⊎ (note ≡ offer)
    asked-is answers (Some r) e note k =
        let it : r ≡ note = cc in
        inl (subst IsBare it (subst IsAnswerIf e answers))
    asked-is answers None e note k = go (nat_lt m.rounds most_rounds) k where
      go : (b : Bool) → (if b then awaited_in m.field way else None) ≡ Some note
          → IsBare note ⊎ (note ≡ offer)
      go true k = awaited-is note (card_at m.field way.object way.from).phase moves.between.from k
      go false k = absurd (cc)

    goes-to : (p : Phase) → FromIs way.from way.to trip parcel first p → GoesTo way.to p
    goes-to Away from = tt
    goes-to (Live held) from = tt
    goes-to (Leaving to held) from = from.1
    goes-to (Cancelling to held) from = from.1

    pub onward : Onward way start m.field
    onward =
        record {
          long = moves.long;
          goes = goes-to (card_at m.field way.object way.from).phase moves.between.from;
        }

  not-new : (entries : List (List ℕ)) → Contains entries (note_bytes offer) → (note : Note)
      → IsBare note ⊎ (note ≡ offer) → is_new_offer entries (note_bytes note) ≡ false
  not-new entries among note (inl other) =
      ap (λ (b : Bool). b && not (list_any (bytes_eq (note_bytes note)) entries)) (no-offer-byte note other.0)
  not-new entries among note (inr same) =
      subst (λ (n : Note). is_new_offer entries (note_bytes n) ≡ false) (sym same)
      (ap (λ (b : Bool). (get_or (note_bytes offer) 14 0 == 1) && not b) (any-has (note_bytes offer) entries among)
      ∙ and-none (get_or (note_bytes offer) 14 0 == 1))
    where
      and-none : (b : Bool) → (b && false) ≡ false
      and-none true = refl
      and-none false = refl

  -- the result of the rest of a drive
  pub record Came (first : First) (handed : List Note) (d : Driven) (trips : List Trip) : Type 0 where
    pub then_first : First
    pub told : is_first first (comes (note_bytes offer) (note_bytes cancel) (take (length d.notes) trips))
        ≡ is_first then_first false
    pub come : ComesToRest start (rested d.last.field way) way offer then_first (Contains (handed ++ d.notes))
        d.last.landed
    pub on : Onward way start d.last.field
    pub parts : IsOpen (bytes_of (handed ++ d.notes)) (drop (length d.notes) trips)
        → Parts (bytes_of handed) trips (take (length d.notes) trips) (drop (length d.notes) trips)

  -- the result of a note, and the rest of a drive after it
  record Went (first : First) (handed : List Note) (note : Note) (d : Driven) (trips : List Trip) : Type 0 where
    then_first : First
    told : is_first first (comes (note_bytes offer) (note_bytes cancel) (take (suc (length d.notes)) trips))
        ≡ is_first then_first false
    come : ComesToRest start (rested d.last.field way) way offer then_first (Contains (handed ++ note ∷ d.notes))
        d.last.landed
    on : Onward way start d.last.field
    parts : IsOpen (bytes_of (handed ++ note ∷ d.notes)) (drop (length d.notes) (drop 1 trips))
        → Parts (bytes_of (handed ++ note ∷ [])) (drop 1 trips) (take (length d.notes) (drop 1 trips))
        (drop (length d.notes) (drop 1 trips))

  -- a drive of at most this many notes ends
  abbrev pub Ends : ℕ → List Note → Type 0
  Ends most handed =
      (first : First) (m : Moment) (trips : List Trip) (more : List (List ℕ)) → Holds handed first m → Quiet m
      → IsAnswerIf m.reply → left way m ≤ most → Contains handed offer → WereCarried (bytes_of handed) trips
      → Begins (sent_of trips) (bytes_of (driven way most handed m trips).notes ++ more)
      → Came first handed (driven way most handed m trips) trips

  -- nothing is asked
  came-last : (first : First) (handed : List Note) (m : Moment) (trips : List Trip) → Holds handed first m → Quiet m
      → asks way m ≡ None → Came first handed (record { last = m; notes = []; behind = trips }) trips
  came-last first handed m trips moves quiet none = record {
    then_first = first;
    told = refl;
    come = subst (λ (ns : List Note). ComesToRest start (rested m.field way) way offer first (Contains ns) m.landed)
        (sym (append-nil handed))
        (ends way trip parcel start has apart place rest (Contains handed) first m moves
        (card_at m.field way.object way.from).phase refl (quiet none));
    on = onward handed first m moves;
    parts = λ opened. parts-last (bytes_of handed) trips
        (subst (λ (ns : List Note). IsOpen (bytes_of ns) trips) (append-nil handed) opened);
  }

  -- a note is asked, and then others
  module _ (most : ℕ) (handed : List Note) (first : First) (m : Moment) (moves : Holds handed first m)
      (few : left way m ≤ suc most) (note : Note) (offered : Contains (handed ++ note ∷ []) offer)
      (asked : asks way m ≡ Some note) (on : Ends most (handed ++ note ∷ [])) where
    abbrev notes : List Note
    notes = handed ++ note ∷ []

    held : IsHeld way trip parcel start m.field first note
    held = question-held way trip parcel start has apart (Contains handed) first m moves m.reply refl note asked

    known : (n : Note) → Contains notes n → IsHeld way trip parcel start m.field first n
    known n is = by (one-more handed note n is) where
      by : Contains handed n ⊎ (note ≡ n) → IsHeld way trip parcel start m.field first n
      by (inl old) = moves.known n old
      by (inr same) = subst (λ (x : Note). IsHeld way trip parcel start m.field first x) same held

    came-of : (back : Option Note) → WasHanded notes back → CameOf (OrNote (Contains handed) note) back
    came-of None was = tt
    came-of (Some n) was = one-more handed note n was

    back-there : (back : Option Note) → WasHanded notes back → IfSome back (λ n. HasCard m.field n.object n.to)
    back-there None was = tt
    back-there (Some n) was = has-long start m.field moves.long n.object n.to (known n was).to

    -- what came back is heard
    module _ (bytes : Option (List ℕ)) where
      abbrev back : Option Note
      back = heard notes bytes

      abbrev next : Moment
      next = hears way m back

      abbrev now_first : First
      now_first = first_with way trip first back

      moved : Moves way trip parcel start (OrNote (Contains handed) note) now_first next × Quiet next
      moved =
          trip-moves way trip parcel start has apart place rest (Contains handed) first m moves
          (record { note = note; back = back }) asked (came-of back (heard-handed notes bytes))

      next-moves : Holds notes now_first next
      next-moves =
          let all = moved.0 in
          record {
            long = all.long;
            others = all.others;
            between = all.between;
            known = λ n is. all.known n (one-more handed note n is);
            reply = all.reply;
            landed = all.landed;
          }

      fewer : left way next ≤ most
      fewer =
          let less = less-hears way start has m (onward handed first m moves) back note
          (back-there back (heard-handed notes bytes)) asked in
          omega (arith, few, less)

      came-next : (trips : List Trip) (more : List (List ℕ)) → WereCarried (bytes_of notes) trips
          → Begins (sent_of trips) (bytes_of (driven way most notes next trips).notes ++ more)
          → Came now_first notes (driven way most notes next trips) trips
      came-next trips more fair begins =
          on now_first next trips more next-moves moved.1 (hears-answer way m back) fewer offered fair begins

    abbrev rest_of : List Trip → Driven
    rest_of trips = driven way most notes (hears way m (heard notes (first_back trips))) (drop 1 trips)

    later : (d : Driven) → notes ++ d.notes ≡ handed ++ note ∷ d.notes
    later d = append_assoc handed (note ∷ []) d.notes

    come-later : (d : Driven) (f : First)
        → ComesToRest start (rested d.last.field way) way offer f (Contains (notes ++ d.notes)) d.last.landed
        → ComesToRest start (rested d.last.field way) way offer f (Contains (handed ++ note ∷ d.notes)) d.last.landed
    come-later d f come =
        subst (λ (ns : List Note). ComesToRest start (rested d.last.field way) way offer f (Contains ns) d.last.landed)
        (later d) come

    went : (trips : List Trip) (more : List (List ℕ)) → WereCarried (bytes_of handed) trips
        → Begins (sent_of trips) (bytes_of (driven_on note (rest_of trips)).notes ++ more)
        → Went first handed note (rest_of trips) trips
    went [] more fair begins =
        let d = rest_of [] in
        let end = came-next None [] more tt (record { others = bytes_of d.notes ++ more; whole = refl }) in
        record {
          then_first = end.then_first;
          told = ap (λ (ts : List Trip). is_first first (comes (note_bytes offer) (note_bytes cancel) ts))
              (sym (take-none (length d.notes)))
              ∙ end.told;
          come = come-later d end.then_first end.come;
          on = end.on;
          parts = λ opened. end.parts
              (subst (λ (ns : List Note). IsOpen (bytes_of ns) (drop (length d.notes) [])) (sym (later d)) opened);
        }
      where
        take-none : (n : ℕ) → ◌≡◌ {A = List Trip} (take n []) []
        take-none zero = refl
        take-none (suc n) = refl
    went (t ∷ trips) more fair begins =
        let d = rest_of (t ∷ trips) in
        let carries = begins-with t trips (note_bytes note) (bytes_of d.notes ++ more) begins in
        let entries = entries-more handed note t.sent carries.first in
        let was = subst (λ (es : List (List ℕ)). WasCarried es t.back) entries fair.0 in
        let end = came-next t.back trips more (subst (λ (es : List (List ℕ)). WereCarried es trips) entries fair.1)
        carries.others in
        record {
          then_first = end.then_first;
          told = trip-tells m.field first notes known offered t.back was first
              (comes (note_bytes offer) (note_bytes cancel) (take (length d.notes) trips)) ∙ end.told;
          come = come-later d end.then_first end.come;
          on = end.on;
          parts = λ opened. end.parts
              (subst (λ (ns : List Note). IsOpen (bytes_of ns) (drop (length d.notes) trips)) (sym (later d)) opened);
        }

    -- a note that isn't the drive's first one
    came-more : IsAnswerIf m.reply → Contains handed offer → (trips : List Trip) (more : List (List ℕ))
        → WereCarried (bytes_of handed) trips
        → Begins (sent_of trips) (bytes_of (driven_on note (rest_of trips)).notes ++ more)
        → Came first handed (driven_on note (rest_of trips)) trips
    came-more answers old [] more fair begins =
        let all = went [] more fair begins in
        record {
          then_first = all.then_first;
          told = all.told;
          come = all.come;
          on = all.on;
          parts = λ opened. record { before_is = refl; behind_is = refl };
        }
    came-more answers old (t ∷ trips) more fair begins =
        let d = rest_of (t ∷ trips) in
        let all = went (t ∷ trips) more fair begins in
        let carries = begins-with t trips (note_bytes note) (bytes_of d.notes ++ more) begins in
        record {
          then_first = all.then_first;
          told = all.told;
          come = all.come;
          on = all.on;
          parts = λ opened. parts-more (bytes_of handed) t trips (take (length d.notes) trips)
              (drop (length d.notes) trips)
              (subst (λ (z : List ℕ). is_new_offer (bytes_of handed) z ≡ false) (sym carries.first)
              (not-new (bytes_of handed) (contains-bytes handed offer old) note
              (asked-is handed first m moves answers m.reply refl note asked)))
              (subst (λ (es : List (List ℕ)). Parts es trips (take (length d.notes) trips)
              (drop (length d.notes) trips))
              (sym (entries-more handed note t.sent carries.first)) (all.parts opened));
        }

  pub drive-comes : (most : ℕ) (handed : List Note) → Ends most handed
  unfolding driven
  drive-comes zero handed first m trips more moves quiet answers few offered fair begins = go (asks way m) refl where
    go : (o : Option Note) → asks way m ≡ o → Came first handed (record { last = m; notes = []; behind = trips }) trips
    go None e = came-last first handed m trips moves quiet e
    go (Some note) e =
        let less = less-hears way start has m (onward handed first m moves) None note tt e in
        absurd (omega (arith, few, less))
  drive-comes (suc most) handed first m trips more moves quiet answers few offered fair begins =
      go (asks way m) refl begins (λ note. drive-comes most (handed ++ note ∷ []))
    where
      go : (o : Option Note) → asks way m ≡ o
          → Begins (sent_of trips) (bytes_of (by_asked way most handed m trips o).notes ++ more)
          → ((note : Note) → Ends most (handed ++ note ∷ []))
          → Came first handed (by_asked way most handed m trips o) trips
      go None e begins on = came-last first handed m trips moves quiet e
      go (Some note) e begins on =
          came-more most handed first m moves few note (Contains-append_left handed (note ∷ []) offer offered) e
          (on note)
          answers offered trips more fair begins

-- ---- a whole drive

-- an object that departs asks by its offer
module _ (start : List (List Card)) (way : Way) (parcel : List ℕ) (has : HasWay start way)
    (fine : depart_fault (card_at start way.object way.from) way.from way.to ≡ None) where
  departs-card : card_at (does start (Depart way.from way.object way.to parcel)).0 way.object way.from
      ≡ record { trip = next_trip start way; took = false; phase = Leaving way.to parcel }
  departs-card =
      done-here start (Depart way.from way.object way.to parcel) has.0
      ∙ ap (λ (f : Option DepartFault). (departs_unless f (card_at start way.object way.from) way.from way.object way.to
      parcel).0) fine

  pub departs-asks : asks way (departure start way parcel) ≡ Some (next_offer start way parcel)
  departs-asks = ap (λ (c : Card). awaited c.phase c.trip way.from way.object) departs-card

-- one that doesn't depart asks nothing
pub stays-silent : (start : List (List Card)) (way : Way) (parcel : List ℕ) → HasWay start way → (fault : DepartFault)
    → depart_fault (card_at start way.object way.from) way.from way.to ≡ Some fault → (kept : List ℕ)
    → (card_at start way.object way.from).phase ≡ Live kept → asks way (departure start way parcel) ≡ None
stays-silent start way parcel has fault e kept live =
    let same : card_at (does start (Depart way.from way.object way.to parcel)).0 way.object way.from
    ≡ card_at start way.object way.from =
    done-here start (Depart way.from way.object way.to parcel) has.0
    ∙ ap (λ (f : Option DepartFault). (departs_unless f (card_at start way.object way.from) way.from way.object way.to
    parcel).0) e in
    ap (λ (c : Card). awaited c.phase c.trip way.from way.object) same
    ∙ ap (λ (p : Phase). awaited p (card_at start way.object way.from).trip way.from way.object) live

-- the trips of a drive are its own, and its offer came exactly where it lands
pub record Lands (start : List (List Card)) (way : Way) (parcel : List ℕ) (handed : List Note) (d : Driven)
    (trips : List Trip) : Type 0 where
  pub first : First
  pub rest_notes : List Note
  pub notes_are : d.notes ≡ next_offer start way parcel ∷ rest_notes
  pub told : comes (note_bytes (next_offer start way parcel))
      (note_bytes (cancel_of way.object (next_trip start way) way.from way.to)) (take (length d.notes) trips)
      ≡ is_first first false
  pub come : ComesToRest start (rested d.last.field way) way (next_offer start way parcel) first
      (Contains (handed ++ d.notes)) d.last.landed
  pub on : Onward way start d.last.field
  pub own : IsOpen (bytes_of (handed ++ d.notes)) (drop (length d.notes) trips)
      → (own_trips (bytes_of handed) trips ≡ take (length d.notes) trips)
      × (trips_behind (bytes_of handed) trips ≡ drop (length d.notes) trips)

module _ (objects regions : ℕ) (ranges : AreCounts objects regions) (way : Way) (parcel : List ℕ)
    (start : List (List Card)) (counts : HasCounts objects regions start) (has : HasWay start way) (place : ℕ → ℕ)
    (rest : AreAtRest start place) (home : place way.object ≡ way.from)
    (fine : depart_fault (card_at start way.object way.from) way.from way.to ≡ None)
    (fit : (object region : ℕ) → (card_at start object region).trip < 2 ^ 64) (trip_fits : next_trip start way < 2 ^ 64)
    (handed : List Note) (past : ArePast start handed) where
  abbrev trip : ℕ
  trip = next_trip start way

  abbrev own_offer : Note
  own_offer = next_offer start way parcel

  abbrev gone : List (List Card)
  gone = (does start (Depart way.from way.object way.to parcel)).0

  abbrev begin : Moment
  begin = departure start way parcel

  far : way.from ≢ way.to
  far = ways-apart start place way parcel (Contains handed) has rest home fine past

  leaves : card_at gone way.object way.from ≡ record { trip = trip; took = false; phase = Leaving way.to parcel }
  leaves = departs-card start way parcel has fine

  pub asks-offer : asks way begin ≡ Some own_offer
  asks-offer = departs-asks start way parcel has fine

  pub begins-so : Moves way trip parcel start (Contains handed) Neither begin
  begins-so = start-moves start place way parcel (Contains handed) has rest home fine past

  -- a drive makes at most 32 trips
  abbrev one_way : Way
  one_way = record { object = 1; from = 1; to = 1 }

  pub most-trips : left way begin ≡ 32
  most-trips = ap (λ (c : Card). left one_way (departed ((c ∷ []) ∷ []))) leaves

  resting : IsAtRest start way.object way.from
  resting = subst (λ (r : ℕ). IsAtRest start way.object r) home (rest way.object has.0.0)

  -- no past note is spelled as the offer
  isnt-past : (n : Note) → IsPast start n → note_bytes n ≡ note_bytes own_offer → ⊥
  isnt-past n was same =
      let like = spelled-like n own_offer
      (past-fit objects regions ranges way parcel start counts has far place rest fit trip trip_fits n was)
      (offer-fit objects regions ranges way parcel start counts has far place rest fit trip trip_fits) same in
      let own : n.object ≡ way.object = like.object in
      let now : n.trip ≡ (card_at start way.object way.from).trip + 1 = like.trip in
      let low : n.trip ≤ (card_at start way.object n.from).trip =
      subst (λ (o : ℕ). n.trip ≤ (card_at start o n.from).trip) own was.by_from in
      omega (arith, now, low, resting.greatest n.from)

  isnt-among : (ns : List Note) → ((n : Note) → Contains ns n → IsPast start n)
      → Contains (bytes_of ns) (note_bytes own_offer) → ⊥
  isnt-among [] are (k, lt, at) = omega (arith, lt)
  isnt-among (n ∷ ns) are among =
      go (Contains-append_cases (note_bytes n ∷ []) (bytes_of ns) (note_bytes own_offer) among)
      (λ more. isnt-among ns (λ m is. are m (Contains-append_right (n ∷ []) ns m is)) more)
    where
      go : Contains (note_bytes n ∷ []) (note_bytes own_offer) ⊎ Contains (bytes_of ns) (note_bytes own_offer)
          → (Contains (bytes_of ns) (note_bytes own_offer) → ⊥) → ⊥
      go (inl (k, lt, at)) others =
          let none : k ≡ 0 = omega (arith, lt) in
          isnt-past n (are n (0, omega arith, refl))
          (subst (λ (i : ℕ). get_or (note_bytes n ∷ []) i (note_bytes own_offer) ≡ note_bytes own_offer) none at)
      go (inr more) others = others more

  -- the offer wasn't handed over before
  pub offer-new : is_new_offer (bytes_of handed) (note_bytes own_offer) ≡ true
  offer-new =
      ap (λ (b : Bool). b && not (list_any (bytes_eq (note_bytes own_offer)) (bytes_of handed)))
      (offer-byte own_offer refl)
      ∙ ap not (never (list_any (bytes_eq (note_bytes own_offer)) (bytes_of handed)) refl)
    where
      never : (b : Bool) → list_any (bytes_eq (note_bytes own_offer)) (bytes_of handed) ≡ b → b ≡ false
      never true e = absurd (isnt-among handed past (has-any (note_bytes own_offer) (bytes_of handed) e))
      never false e = refl

  -- a drive of at most this many notes
  module _ (most : ℕ) (enough : 32 ≤ suc most) (trips : List Trip) where
    abbrev rest_of_drive : Driven
    rest_of_drive =
        driven way most (handed ++ own_offer ∷ [])
        (hears way begin (heard (handed ++ own_offer ∷ []) (first_back trips))) (drop 1 trips)

    drives-on : driven way (suc most) handed begin trips ≡ driven_on own_offer rest_of_drive
    unfolding driven
    drives-on =
        ap (λ (o : Option Note). driven_unless o (record { last = begin; notes = []; behind = trips })
        (λ note. driven_on note (driven way most (handed ++ note ∷ [])
        (hears way begin (heard (handed ++ note ∷ []) (first_back trips))) (drop 1 trips)))) asks-offer

    module _ (more : List (List ℕ)) (fair : WereCarried (bytes_of handed) trips) where
      lands-on : Begins (sent_of trips) (bytes_of (driven_on own_offer rest_of_drive).notes ++ more)
          → Lands start way parcel handed (driven_on own_offer rest_of_drive) trips
      lands-on begins =
          let all = went objects regions ranges way parcel start counts has far place rest fit trip trip_fits most
          handed
          Neither begin begins-so (omega (arith, most-trips, enough)) own_offer
          (Contains-append_right handed (own_offer ∷ []) own_offer (0, omega arith, refl)) asks-offer
          (drive-comes objects regions ranges way parcel start counts has far place rest fit trip trip_fits most
          (handed ++ own_offer ∷ [])) trips more fair begins in
          record {
            first = all.then_first;
            rest_notes = rest_of_drive.notes;
            notes_are = refl;
            told = all.told;
            come = all.come;
            on = all.on;
            own = own-parts trips begins (λ opened. all.parts opened);
          }
        where
          own-parts : (ts : List Trip)
              → Begins (sent_of ts) (bytes_of (driven_on own_offer rest_of_drive).notes ++ more)
              → (IsOpen (bytes_of (handed ++ own_offer ∷ rest_of_drive.notes))
              (drop (length rest_of_drive.notes) (drop 1 ts))
              → Parts (bytes_of (handed ++ own_offer ∷ [])) (drop 1 ts) (take (length rest_of_drive.notes) (drop 1 ts))
              (drop (length rest_of_drive.notes) (drop 1 ts)))
              → IsOpen (bytes_of (handed ++ own_offer ∷ rest_of_drive.notes))
              (drop (suc (length rest_of_drive.notes)) ts)
              → (own_trips (bytes_of handed) ts ≡ take (suc (length rest_of_drive.notes)) ts)
              × (trips_behind (bytes_of handed) ts ≡ drop (suc (length rest_of_drive.notes)) ts)
          own-parts [] begins parts opened = (refl, refl)
          own-parts (t ∷ ts) begins parts opened =
              let carries = begins-with t ts (note_bytes own_offer) (bytes_of rest_of_drive.notes ++ more) begins in
              let entries = entries-more handed own_offer t.sent carries.first in
              let are = parts opened in (
                ap (λ (es : List (List ℕ)). t ∷ trips_before_offer es ts) entries
                    ∙ ap (λ (xs : List Trip). t ∷ xs) are.before_is,
                ap (λ (es : List (List ℕ)). trips_from_offer es ts) entries ∙ are.behind_is,
              )

      pub lands : Begins (sent_of trips) (bytes_of (driven way (suc most) handed begin trips).notes ++ more)
          → Lands start way parcel handed (driven way (suc most) handed begin trips) trips
      lands begins =
          subst (λ (d : Driven). Lands start way parcel handed d trips) (sym drives-on)
          (lands-on (subst (λ (d : Driven). Begins (sent_of trips) (bytes_of d.notes ++ more)) drives-on begins))

    -- its first note is the offer, whatever comes back
    pub first-note : (driven way (suc most) handed begin trips).notes ≡ own_offer ∷ rest_of_drive.notes
    first-note = ap (λ (d : Driven). d.notes) drives-on

-- what follows a drive
pub drive-behind : (way : Way) (most : ℕ) (handed : List Note) (m : Moment) (trips : List Trip)
    → (driven way most handed m trips).behind ≡ drop (length (driven way most handed m trips).notes) trips
unfolding driven
drive-behind way zero handed m trips = refl
drive-behind way (suc most) handed m trips =
    go (asks way m)
    (λ note. drive-behind way most (handed ++ note ∷ [])
    (hears way m (heard (handed ++ note ∷ []) (first_back trips))) (drop 1 trips))
  where
    once-more : (n : ℕ) (ts : List Trip) → drop n (drop 1 ts) ≡ drop (suc n) ts
    once-more n [] = drop-nil n
    once-more n (t ∷ ts) = refl

    go : (o : Option Note)
        → ((note : Note) → (rest_by way most handed m trips note).behind
        ≡ drop (length (rest_by way most handed m trips note).notes) (drop 1 trips))
        → (by_asked way most handed m trips o).behind
        ≡ drop (length (by_asked way most handed m trips o).notes) trips
    go None on = refl
    go (Some note) on = on note ∙ once-more (length (rest_by way most handed m trips note).notes) trips

-- the trips of first notes are all of these, or nothing follows
pub whole-or-none : (ns : List Note) (trips : List Trip) (more : List (List ℕ))
    → Begins (sent_of trips) (bytes_of ns ++ more)
    → (sent_of (take (length ns) trips) ≡ bytes_of ns) ⊎ (drop (length ns) trips ≡ [])
whole-or-none [] trips more begins = inl refl
whole-or-none (n ∷ ns) [] more begins = inr refl
whole-or-none (n ∷ ns) (t ∷ trips) more begins =
    let carries = begins-with t trips (note_bytes n) (bytes_of ns ++ more) begins in
    go carries.first (whole-or-none ns trips more carries.others)
  where
    go : t.sent ≡ note_bytes n
        → (sent_of (take (length ns) trips) ≡ bytes_of ns) ⊎ (drop (length ns) trips ≡ [])
        → (t.sent ∷ sent_of (take (length ns) trips) ≡ note_bytes n ∷ bytes_of ns)
        ⊎ (drop (length ns) trips ≡ [])
    go e (inl all) = inl (ap₂ (λ (x : List ℕ) (xs : List (List ℕ)). x ∷ xs) e all)
    go e (inr none) = inr none

-- what follows begins as the rest does
pub begins-behind : (ns : List Note) (trips : List Trip) (more : List (List ℕ))
    → Begins (sent_of trips) (bytes_of ns ++ more) → Begins (sent_of (drop (length ns) trips)) more
begins-behind [] trips more begins = begins
begins-behind (n ∷ ns) [] more begins = record { others = more; whole = refl }
begins-behind (n ∷ ns) (t ∷ trips) more begins =
    begins-behind ns trips more (begins-with t trips (note_bytes n) (bytes_of ns ++ more) begins).others
