-- An object that is handed over comes to rest, by the bytes that went over the link.
use Rattle.std.proofs.Common.{◌≡◌, ◌≢◌, ◌∙◌, refl, sym, ap, subst, ℕ, ◌+◌, ◌<◌, ◌≤◌, ◌^◌, nat_eq, nat_lt, ◌⊎◌, Bool, true, false, if◌then◌else◌, List, [], ◌∷◌, ◌++◌, length, length-append, get_or, codes, Option, Some, None, inl, inr, arith}
use Rattle.std.specs.Prelude.{Contains}
use Rattle.std.specs.Str.{bytes_eq}
use Rattle.std.proofs.lemmas.Bool.{cases_eq, eqb-false}
use Rattle.std.proofs.lemmas.List.Elements.{Contains-append_cases}
use Rattle.std.proofs.lemmas.Slice.Eq.{bytes_eq-Decides}
use Rattle.sha2.specs.Sha256.{sha256}
use Rattle.sha2.proofs.Facts256.{length-sha256}
use Rattle.lsl_bytes.specs.Fields.{u16_bytes, u64_bytes}
use Rattle.lsl_bytes.proofs.NumberLemmas.{length-u16, length-u64}
use Rattle.lsl_ports.specs.Trips.{Trip}
use Rattle.lsl_handoff.specs.declared.card.Card.{Card}
use Rattle.lsl_handoff.specs.declared.card.Phase.{Phase}
use Rattle.lsl_handoff.specs.declared.card.Phase.TheVariants.{Away, Live, Leaving, Cancelling}
use Rattle.lsl_handoff.specs.declared.drive.Way.{Way}
use Rattle.lsl_handoff.specs.declared.faults.DepartFault.TheVariants.{NotLive, Here, LastTrip}
use Rattle.lsl_handoff.specs.declared.note.Note.{Note}
use Rattle.lsl_handoff.specs.declared.note.NoteKind.{NoteKind}
use Rattle.lsl_handoff.specs.declared.note.NoteKind.TheVariants.{Offer, Taken, Cancel, Refused}
use Rattle.lsl_handoff.specs.Cards.{is_live, last_trip}
use Rattle.lsl_handoff.specs.DriveLaws.{First, Neither, OfferFirst, CancelFirst, AreAtRest, ComesToRest, IsAtRest, IsPast, departure, first_kind, first_with, is_of_trip, landed_as, next_offer, next_trip, or_first, rests_in}
use Rattle.lsl_handoff.specs.Drives.{HasWay, Moment, asks, asks_unless, awaited_in, hears, most_rounds, next_reply, received, rested, settled_unless}
use Rattle.lsl_handoff.specs.Entries.{AreCarried, CameBackOf, IsAmong, MayRest, Rests, comes, entries_by, is_same}
use Rattle.lsl_handoff.specs.Fields.{HasCard, IsOneOf, card_at, cards_of}
use Rattle.lsl_handoff.specs.Handovers.{Drives, HasCounts, IsHandedOver, IsHeard, landed_unless}
use Rattle.lsl_handoff.specs.NoteBytes.{HasItsParcel, IsNote, IsNoteOf, fields_bytes, head_bytes, note_bytes, parcel_bytes}
use Rattle.lsl_handoff.specs.NoteLaws.{AreCounts}
use Rattle.lsl_handoff.specs.Notes.{answer_of, cancel_of, offer_of}
use Rattle.lsl_handoff.specs.Rules.{Effect, awaited, delivered, known_answer, was_refused, was_taken}
use Rattle.lsl_handoff.proofs.Driving.{FromIs, IsKnown, IsNow, IsntLeaving}
use Rattle.lsl_handoff.proofs.Moving.{IsHeld, IsHeldIf, Moves}
use Rattle.lsl_handoff.proofs.NoteLengths.{length-fields}
use Rattle.lsl_handoff.proofs.ReceivingLemmas.{first-now, first-old, first-other, heard}
use Rattle.lsl_handoff.proofs.RestLemmas.{CameOf, OrNote, ends, question-held, start-moves, start-quiet, trip-moves, apart as ways-apart}
use Rattle.lsl_handoff.proofs.WrittenLemmas.{written-is}

-- how long a note's bytes are
length-head : (size : ℕ) → length (head_bytes size) ≡ 14
unfolding head_bytes
length-head size =
    omega (
      arith,
      length-append (codes "LSLN" ++ u16_bytes 1) (u64_bytes size),
      length-append (codes "LSLN") (u16_bytes 1),
      length-u16 1,
      length-u64 size,
    )

length-parcel : (kind : NoteKind) (parcel : List ℕ) → length (parcel_bytes kind parcel) ≤ 8 + length parcel
length-parcel Offer parcel = omega (arith, length-append (u64_bytes (length parcel)) parcel, length-u64 (length parcel))
length-parcel Taken parcel = omega arith
length-parcel Cancel parcel = omega arith
length-parcel Refused parcel = omega arith

long-bytes : (note : Note) → length note.parcel < 2 ^ 63 → length (note_bytes note) < 2 ^ 64
unfolding note_bytes
long-bytes note short =
    let f = fields_bytes note in
    let h = head_bytes (14 + length (fields_bytes note) + 32) in
    omega (
      arith,
      short,
      length-append (h ++ f) (sha256 (h ++ f)),
      length-append h f,
      length-head (14 + length (fields_bytes note) + 32),
      length-fields note,
      length-sha256 (h ++ f),
      length-parcel note.kind note.parcel,
    )

-- a note that can be written has a parcel of its kind
pub record IsPlain (note : Note) : Type 0 where
  pub parcel : HasItsParcel note.kind note.parcel
  pub short : length note.parcel < 2 ^ 63

abbrev pub IsPlainIf : Option Note → Type 0
IsPlainIf None = Unit {0}
IsPlainIf (Some note) = IsPlain note

plain-answer : (note : Note) → IsPlain (answer_of Taken note) × IsPlain (answer_of Refused note)
plain-answer note =
    (record { parcel = refl; short = omega arith }, record { parcel = refl; short = omega arith })

plain-if : (b : Bool) (x y : Effect) → IsPlainIf x.1 → IsPlainIf y.1
    → IsPlainIf ((λ (e : Effect). e.1) (if b then x else y))
plain-if true x y p q = p
plain-if false x y p q = q

plain-known : (card : Card) (note : Note) → IsPlain (known_answer card note)
plain-known card note = go (nat_lt note.trip card.trip) card.took where
  go : (later took : Bool) → IsPlain
      (if later then answer_of Taken note else if took then answer_of Taken note else answer_of Refused note)
  go true took = (plain-answer note).0
  go false true = (plain-answer note).0
  go false false = (plain-answer note).1

plain-delivered : (kind : NoteKind) (card : Card) (note : Note) → IsPlainIf (delivered kind card note).1
plain-delivered Offer card note = plain-if (nat_lt card.trip note.trip)
    (record { trip = note.trip; took = true; phase = Live note.parcel }, Some (answer_of Taken note))
    (card, Some (known_answer card note)) (plain-answer note).0 (plain-known card note)
plain-delivered Cancel card note = plain-if (nat_lt card.trip note.trip)
    (record { trip = note.trip; took = false; phase = Away }, Some (answer_of Refused note))
    (card, Some (known_answer card note)) (plain-answer note).1 (plain-known card note)
plain-delivered Taken card note = plain-if (nat_eq card.trip note.trip)
    (record card { phase = was_taken card.phase }, None) (card, None) tt tt
plain-delivered Refused card note = plain-if (nat_eq card.trip note.trip)
    (record card { phase = was_refused card.phase }, None) (card, None) tt tt

plain-next : (reply answer : Option Note) → IsPlainIf answer → IsPlainIf (next_reply reply answer)
plain-next None answer plain = plain
plain-next (Some r) answer plain = tt

plain-received : (field : List (List Card)) (back : Option Note) → IsPlainIf (received field back).1
plain-received field None = tt
plain-received field (Some note) = plain-delivered note.kind (card_at field note.object note.to) note

settled-reply : (asked : Option Note) (way : Way) (m : Moment) → (settled_unless asked way m).reply ≡ m.reply
settled-reply None way m = refl
settled-reply (Some note) way m = refl

plain-hears : (way : Way) (start : List (List Card)) (m : Moment) (back : Option Note)
    → IsPlainIf (hears way m back).reply
plain-hears way start m back =
    let after = heard way 0 [] start m back in
    subst IsPlainIf (sym (settled-reply (asks way after) way after))
    (plain-next m.reply (received m.field back).1 (plain-received m.field back))

-- whether the offer came first, with what came before
abbrev pub is_first : First → Bool → Bool
is_first Neither later = later
is_first OfferFirst later = true
is_first CancelFirst later = false

-- what a note that came back says of the offer and the cancel
abbrev Tells : First → Bool → Bool → Type 0
Tells Neither offered called = (offered ≡ false) × (called ≡ false)
Tells OfferFirst offered called = offered ≡ true
Tells CancelFirst offered called = (offered ≡ false) × (called ≡ true)

tells-first : (f : First) (o c later : Bool) → Tells f o c
    → (if o then true else if c then false else later) ≡ is_first f later
tells-first Neither o c later is =
    ap (λ (b : Bool). if b then true else if c then false else later) is.0
    ∙ ap (λ (b : Bool). if b then false else later) is.1
tells-first OfferFirst o c later is = ap (λ (b : Bool). if b then true else if c then false else later) is
tells-first CancelFirst o c later is =
    ap (λ (b : Bool). if b then true else if c then false else later) is.0
    ∙ ap (λ (b : Bool). if b then false else later) is.1

or-kept : (f g : First) → f ≢ Neither → or_first f g ≡ f
or-kept Neither g some = absurd (some refl)
or-kept OfferFirst g some = refl
or-kept CancelFirst g some = refl

if-same : {X : Type 0} (b : Bool) (x y : X) → x ≡ y → (if b then x else y) ≡ y
if-same true x y e = e
if-same false x y e = refl

with-kept : (way : Way) (trip : ℕ) (f : First) → f ≢ Neither → (back : Option Note) → first_with way trip f back ≡ f
with-kept way trip f some None = refl
with-kept way trip f some (Some note) =
    if-same (is_of_trip way trip note) (or_first f (first_kind note.kind)) f
    (or-kept f (first_kind note.kind) some)

module _ (objects regions : ℕ) (Takes : Note → Type 0) (ranges : AreCounts objects regions) (way : Way)
    (parcel : List ℕ) (short : length parcel < 2 ^ 63) (start : List (List Card))
    (counts : HasCounts objects regions start) (has : HasWay start way) (apart : way.from ≢ way.to) (place : ℕ → ℕ)
    (rest : AreAtRest start place) (fit : (object region : ℕ) → (card_at start object region).trip < 2 ^ 64) (trip : ℕ)
    (trip-fits : trip < 2 ^ 64) where
  abbrev offer : Note
  offer = offer_of way.object trip way.from way.to parcel

  abbrev cancel : Note
  cancel = cancel_of way.object trip way.from way.to

  numbers : (object region : ℕ) → HasCard start object region → IsOneOf objects object × IsOneOf regions region
  numbers object region there =
      let one : IsOneOf objects object = subst (λ (n : ℕ). IsOneOf n object) counts.rows there.0 in
      (one, subst (λ (n : ℕ). IsOneOf n region) (counts.cards object one) there.1)

  offer-note : IsNote objects regions offer
  offer-note = record {
    object = (numbers way.object way.from has.0).0;
    trip = trip-fits;
    from = (numbers way.object way.from has.0).1;
    to = (numbers way.object way.to has.1).1;
    parcel = tt;
  }

  cancel-note : IsNote objects regions cancel
  cancel-note = record {
    object = (numbers way.object way.from has.0).0;
    trip = trip-fits;
    from = (numbers way.object way.from has.0).1;
    to = (numbers way.object way.to has.1).1;
    parcel = refl;
  }

  -- bytes that were written are those of their note
  note-read : (x : Note) → IsNote objects regions x → length x.parcel < 2 ^ 63 → (bytes : List ℕ)
      → bytes ≡ note_bytes x → IsNoteOf objects regions bytes x
  note-read x is few bytes e = record {
    is = is;
    bytes_are = e;
    fits = subst (λ (b : List ℕ). length b < 2 ^ 64) (sym e) (long-bytes x few);
  }

  -- and are read as it alone
  read-as : (x y : Note) → IsNote objects regions x → length x.parcel < 2 ^ 63 → (bytes : List ℕ)
      → bytes ≡ note_bytes x → IsNoteOf objects regions bytes y → y ≡ x
  read-as x y is few bytes e it =
      let own = note-read x is few bytes e in
      sym (written-is objects regions ranges.0 ranges.1 bytes it.fits y it)
      ∙ written-is objects regions ranges.0 ranges.1 bytes own.fits x own

  not-bytes : (x : Note) (bytes : List ℕ) → (note_bytes x ≡ bytes → ⊥) → bytes_eq (note_bytes x) bytes ≡ false
  not-bytes x bytes other = go (bytes_eq (note_bytes x) bytes) refl where
    go : (b : Bool) → bytes_eq (note_bytes x) bytes ≡ b → bytes_eq (note_bytes x) bytes ≡ false
    go true e = absurd (other ((bytes_eq-Decides (note_bytes x) bytes).0 e))
    go false e = e

  module _ (now : List (List Card)) (first : First) (note : Note)
      (held : IsHeld way trip parcel start now first note) where
    trip-few : note.trip < 2 ^ 64
    trip-few = go (cases_eq note.object way.object) where
      known : IsKnown way.from way.to trip parcel (card_at now way.object) first note → note.trip < 2 ^ 64
      known (inl old) = omega (arith, old.earlier, trip-fits)
      known (inr is) = let e : note.trip ≡ trip = is.0 in omega (arith, e, trip-fits)

      go : (note.object ≡ way.object) ⊎ (note.object ≢ way.object) → note.trip < 2 ^ 64
      go (inl own) = known (held.own own)
      go (inr other) =
          let low = (held.other other).by_from in omega (arith, low, fit note.object note.from)

    held-note : IsPlain note → IsNote objects regions note
    held-note plain = record {
      object = (numbers note.object note.from held.from).0;
      trip = trip-few;
      from = (numbers note.object note.from held.from).1;
      to = (numbers note.object note.to held.to).1;
      parcel = plain.parcel;
    }

    -- what it says, if it came back as these bytes
    module _ (bytes : List ℕ) (read : IsNoteOf objects regions bytes note) where
      unlike : (x : Note) → IsNote objects regions x → length x.parcel < 2 ^ 63 → (note ≡ x → ⊥)
          → is_same (note_bytes x) (Some bytes) ≡ false
      unlike x is few other = not-bytes x bytes (λ e. other (read-as x note is few bytes (sym e) read))

      tells-nothing : first_with way trip Neither (Some note) ≡ Neither → (note ≡ offer → ⊥) → (note ≡ cancel → ⊥)
          → Tells (first_with way trip Neither (Some note)) (is_same (note_bytes offer) (Some bytes))
          (is_same (note_bytes cancel) (Some bytes))
      tells-nothing e a b =
          subst (λ (f : First). Tells f (is_same (note_bytes offer) (Some bytes))
          (is_same (note_bytes cancel) (Some bytes)))
          (sym e) (unlike offer offer-note short a, unlike cancel cancel-note (omega arith) b)

      module _ (own : note.object ≡ way.object) (this : note.trip ≡ trip) where
        by-kind : (kind : NoteKind) → note.kind ≡ kind
            → IsNow way.from way.to trip parcel (card_at now way.object) first kind note
            → Tells (first_with way trip Neither (Some note)) (is_same (note_bytes offer) (Some bytes))
            (is_same (note_bytes cancel) (Some bytes))
        by-kind Offer k is =
            let same : note ≡ offer = λ i. record {
              kind = k i;
              object = own i;
              trip = this i;
              from = is.0 i;
              to = is.1 i;
              parcel = is.2 i;
            } in
            subst (λ (f : First). Tells f (is_same (note_bytes offer) (Some bytes))
            (is_same (note_bytes cancel) (Some bytes)))
            (sym (first-now way trip Neither note own this ∙ ap first_kind k))
            ((bytes_eq-Decides (note_bytes offer) bytes).1 (sym (read.bytes_are ∙ ap note_bytes same)))
        by-kind Cancel k is =
            let none : note.parcel ≡ [] =
            subst (λ (x : NoteKind). HasItsParcel x note.parcel) k read.is.parcel in
            let same : note ≡ cancel = λ i. record {
              kind = k i;
              object = own i;
              trip = this i;
              from = is.0 i;
              to = is.1 i;
              parcel = none i;
            } in
            subst (λ (f : First). Tells f (is_same (note_bytes offer) (Some bytes))
            (is_same (note_bytes cancel) (Some bytes)))
            (sym (first-now way trip Neither note own this ∙ ap first_kind k)) (
              unlike offer offer-note short
                  (λ e. (let clash : Cancel ≡ Offer = sym k ∙ ap (λ (n : Note). n.kind) e in cc)),
              (bytes_eq-Decides (note_bytes cancel) bytes).1 (sym (read.bytes_are ∙ ap note_bytes same)),
            )
        by-kind Taken k is =
            tells-nothing (first-now way trip Neither note own this ∙ ap first_kind k)
            (λ e. (let clash : Taken ≡ Offer = sym k ∙ ap (λ (n : Note). n.kind) e in cc))
            (λ e. (let clash : Taken ≡ Cancel = sym k ∙ ap (λ (n : Note). n.kind) e in cc))
        by-kind Refused k is =
            tells-nothing (first-now way trip Neither note own this ∙ ap first_kind k)
            (λ e. (let clash : Refused ≡ Offer = sym k ∙ ap (λ (n : Note). n.kind) e in cc))
            (λ e. (let clash : Refused ≡ Cancel = sym k ∙ ap (λ (n : Note). n.kind) e in cc))

      read-tells : Tells (first_with way trip Neither (Some note)) (is_same (note_bytes offer) (Some bytes))
          (is_same (note_bytes cancel) (Some bytes))
      read-tells = go (cases_eq note.object way.object) where
        by-known : note.object ≡ way.object → IsKnown way.from way.to trip parcel (card_at now way.object) first note
            → Tells (first_with way trip Neither (Some note)) (is_same (note_bytes offer) (Some bytes))
            (is_same (note_bytes cancel) (Some bytes))
        by-known own (inl old) =
            tells-nothing (first-old way trip Neither note old.earlier)
            (λ e. (let t = ap (λ (n : Note). n.trip) e in let low = old.earlier in omega (arith, t, low)))
            (λ e. (let t = ap (λ (n : Note). n.trip) e in let low = old.earlier in omega (arith, t, low)))
        by-known own (inr is) = by-kind own is.0 note.kind refl is.1

        go : (note.object ≡ way.object) ⊎ (note.object ≢ way.object)
            → Tells (first_with way trip Neither (Some note)) (is_same (note_bytes offer) (Some bytes))
            (is_same (note_bytes cancel) (Some bytes))
        go (inl own) = by-known own (held.own own)
        go (inr other) =
            tells-nothing (first-other way trip Neither note other) (λ e. other (ap (λ (n : Note). n.object) e))
            (λ e. other (ap (λ (n : Note). n.object) e))

  -- what came back on a trip
  module _ (takes : Takes offer) (now : List (List Card)) (first : First) where
    back-tells : (bytes : Option (List ℕ)) (back : Option Note) → IsHeard objects regions Takes bytes back
        → IsHeldIf way trip parcel start now first back
        → Tells (first_with way trip Neither back) (is_same (note_bytes offer) bytes)
        (is_same (note_bytes cancel) bytes)
    back-tells None None is held = (refl, refl)
    back-tells None (Some note) is held = absurd is
    back-tells (Some bytes) None is held = (
      not-bytes offer bytes (λ e. is offer (note-read offer offer-note short bytes (sym e), takes)),
      not-bytes cancel bytes (λ e. is cancel (note-read cancel cancel-note (omega arith) bytes (sym e), tt)),
    )
    back-tells (Some bytes) (Some note) is held = read-tells now first note held bytes is.0

    trip-tells : (bytes : Option (List ℕ)) (back : Option Note) → IsHeard objects regions Takes bytes back
        → IsHeldIf way trip parcel start now first back → (f : First) (later : Bool)
        → is_first f (if is_same (note_bytes offer) bytes then true
        else if is_same (note_bytes cancel) bytes then false else later)
        ≡ is_first (first_with way trip f back) later
    trip-tells bytes back is held Neither later =
        tells-first (first_with way trip Neither back) (is_same (note_bytes offer) bytes)
        (is_same (note_bytes cancel) bytes) later (back-tells bytes back is held)
    trip-tells bytes back is held OfferFirst later =
        ap (λ (f : First). is_first f later) (sym (with-kept way trip OfferFirst (λ e. cc) back))
    trip-tells bytes back is held CancelFirst later =
        ap (λ (f : First). is_first f later) (sym (with-kept way trip CancelFirst (λ e. cc) back))

  -- the note that is asked can be written
  asked-plain : (m : Moment) (first : First) → Moves way trip parcel start (λ (n : Note). ⊥) first m → IsPlainIf m.reply
      → (reply : Option Note) → m.reply ≡ reply → (note : Note) → asks_unless reply way m ≡ Some note → IsPlain note
  asked-plain m first moves plain (Some r) e note k =
      let it : r ≡ note = cc in
      subst IsPlain it (subst IsPlainIf e plain)
  asked-plain m first moves plain None e note k = go (nat_lt m.rounds most_rounds) k where
    by : (p : Phase) → FromIs way.from way.to trip parcel first p
        → awaited p (card_at m.field way.object way.from).trip way.from way.object ≡ Some note → IsPlain note
    by Away from k = absurd (cc)
    by (Live held) from k = absurd (cc)
    by (Leaving to held) from k =
        let it : offer_of way.object (card_at m.field way.object way.from).trip way.from to held ≡ note = cc in
        subst IsPlain it (record {
          parcel = tt;
          short = subst (λ (l : List ℕ). length l < 2 ^ 63) (sym from.0) short;
        })
    by (Cancelling to held) from k =
        let it : cancel_of way.object (card_at m.field way.object way.from).trip way.from to ≡ note = cc in
        subst IsPlain it (record { parcel = refl; short = omega arith })

    go : (b : Bool) → (if b then awaited_in m.field way else None) ≡ Some note → IsPlain note
    go true k = by (card_at m.field way.object way.from).phase moves.between.from k
    go false k = absurd (cc)

  weaken : (A B : Note → Type 0) (first : First) (m : Moment) → ((n : Note) → B n → A n)
      → Moves way trip parcel start A first m → Moves way trip parcel start B first m
  weaken A B first m into moves = record {
    long = moves.long;
    others = moves.others;
    between = moves.between;
    known = λ n is. moves.known n (into n is);
    reply = moves.reply;
    landed = moves.landed;
  }

  abbrev Quiet : Moment → Type 0
  Quiet x = asks way x ≡ None → IsntLeaving (card_at x.field way.object way.from).phase

  -- the result of the rest of a drive
  pub record Comes (first : First) (last : Moment) (entries : List (List ℕ)) (trips : List Trip) : Type 0 where
    pub then_first : First
    pub told : is_first first (comes (note_bytes offer) (note_bytes cancel) trips) ≡ is_first then_first false
    pub come : ComesToRest start (rested last.field way) way offer then_first
        (IsAmong objects regions (entries_by entries trips)) last.landed

  pub bytes-rest : Takes offer → (trips : List Trip) (entries : List (List ℕ)) (first : First) (m last : Moment)
      → Moves way trip parcel start (IsAmong objects regions entries) first m → Quiet m → IsPlainIf m.reply
      → Drives objects regions Takes way m trips last → AreCarried objects regions entries trips → asks way last ≡ None
      → Comes first last entries trips
  bytes-rest takes [] entries first m last moves quiet plain drives carried none =
      subst (λ (x : Moment). Comes first x entries []) drives
      (record {
        then_first = first;
        told = refl;
        come = ends way trip parcel start has apart place rest (IsAmong objects regions entries) first m moves
            (card_at m.field way.object way.from).phase refl (quiet (ap (asks way) drives ∙ none));
      })
  bytes-rest takes (t ∷ trips) entries first m last moves quiet plain (note, back, asked, sent, heard-is, more) carried
      none =
      let among = IsAmong objects regions entries in
      let held = question-held way trip parcel start has apart among first m moves m.reply refl note asked in
      let bare = weaken among (λ (n : Note). ⊥) first m (λ n is. absurd is) moves in
      let note-plain = asked-plain m first bare plain m.reply refl note asked in
      let is-note = held-note m.field first note held note-plain in
      let into : (n : Note) → IsAmong objects regions (entries ++ t.sent ∷ []) n → OrNote among note n =
      λ n is. among-more entries t.sent note n is-note note-plain.short sent is in
      let came : CameOf (OrNote among note) back =
      came-back entries t.sent t.back back note is-note note-plain.short sent
      heard-is carried.0 in
      let on = trip-moves way trip parcel start has apart place rest among first m moves
      (record { note = note; back = back }) asked came in
      let after = weaken (OrNote among note) (IsAmong objects regions (entries ++ t.sent ∷ []))
      (first_with way trip first back) (hears way m back) into on.0 in
      let end = bytes-rest takes trips (entries ++ t.sent ∷ []) (first_with way trip first back) (hears way m back) last
      after on.1 (plain-hears way start m back) more carried.1 none in
      record {
        then_first = end.then_first;
        told = trip-tells takes m.field first t.back back heard-is
            (back-if-held among first m moves note held back came)
            first (comes (note_bytes offer) (note_bytes cancel) trips) ∙ end.told;
        come = end.come;
      }
    where
      -- a note among the entries and one more
      among-more : (es : List (List ℕ)) (one : List ℕ) (x n : Note) → IsNote objects regions x
          → length x.parcel < 2 ^ 63 → one ≡ note_bytes x → IsAmong objects regions (es ++ one ∷ []) n
          → OrNote (IsAmong objects regions es) x n
      among-more es one x n is few e (bytes, among, read) =
          go (Contains-append_cases es (one ∷ []) bytes among)
        where
          go : Contains es bytes ⊎ Contains (one ∷ []) bytes → OrNote (IsAmong objects regions es) x n
          go (inl old) = inl (bytes, old, read)
          go (inr (k, within, got)) =
              let zero-th : k ≡ 0 = omega (arith, within) in
              let same : one ≡ bytes =
              subst (λ (j : ℕ). get_or (one ∷ []) j bytes ≡ bytes) zero-th got in
              inr (sym (read-as x n is few bytes (sym same ∙ e) read))

      came-back : (es : List (List ℕ)) (one : List ℕ) (bytes : Option (List ℕ)) (b : Option Note) (x : Note)
          → IsNote objects regions x → length x.parcel < 2 ^ 63 → one ≡ note_bytes x
          → IsHeard objects regions Takes bytes b → CameBackOf objects regions (es ++ one ∷ []) bytes
          → CameOf (OrNote (IsAmong objects regions es) x) b
      came-back es one bytes None x is few e h c = tt
      came-back es one None (Some n) x is few e h c = absurd h
      came-back es one (Some bytes) (Some n) x is few e h (inl among) =
          among-more es one x n is few e (bytes, among, h.0)
      came-back es one (Some bytes) (Some n) x is few e h (inr never) = absurd (never n h.0)

      back-if-held : (among : Note → Type 0) (f : First) (mm : Moment) → Moves way trip parcel start among f mm
          → (x : Note)
          → IsHeld way trip parcel start mm.field f x → (b : Option Note) → CameOf (OrNote among x) b
          → IsHeldIf way trip parcel start mm.field f b
      back-if-held among f mm moves x held None came = tt
      back-if-held among f mm moves x held (Some n) (inl old) = moves.known n old
      back-if-held among f mm moves x held (Some n) (inr is) =
          subst (λ (y : Note). IsHeld way trip parcel start mm.field f y) is held

-- the trip of a departure fits its field
no-last : (live here last : Bool)
    → (if live then (if here then Some Here else if last then Some LastTrip else None)
    else Some NotLive) ≡ None
    → last ≡ false
no-last true false false e = refl
no-last true false true e = absurd (cc)
no-last true true last e = absurd (cc)
no-last false here last e = absurd (cc)

rests-as : (way : Way) (f : First) → rests_in way f ≡ (if is_first f false then way.to else way.from)
rests-as way Neither = refl
rests-as way OfferFirst = refl
rests-as way CancelFirst = refl

-- what arrived in the other region is returned, unless the object is live again where it was
landed-so : (way : Way) (came : Note) (new : List (List Card)) → way.from ≢ way.to → (f : First)
    → IsAtRest new way.object (rests_in way f) → (landed : Option Note) → landed ≡ landed_as f came
    → landed_unless (is_live (card_at new way.object way.from).phase) landed
    ≡ (if is_first f false then Some came else None)
landed-so way came new apart Neither rest landed e =
    if-same (is_live (card_at new way.object way.from).phase) None landed (sym e) ∙ e
landed-so way came new apart OfferFirst rest landed e =
    ap (λ (p : Phase). landed_unless (is_live p) landed) (rest.away way.from apart) ∙ e
landed-so way came new apart CancelFirst rest landed e =
    if-same (is_live (card_at new way.object way.from).phase) None landed (sym e) ∙ e

pub handed-rests : (objects regions : ℕ) (Takes : Note → Type 0) (field new : List (List Card)) (way : Way)
    (parcel : List ℕ) (trips : List Trip) (landed : Option Note) → AreCounts objects regions
    → length parcel < 2 ^ 63 → HasCounts objects regions field → HasWay field way
    → IsHandedOver objects regions Takes way parcel trips field new landed → (place : ℕ → ℕ)
    (entries : List (List ℕ)) → MayRest objects regions Takes place field way parcel entries trips
    → Rests objects regions field new way parcel entries trips landed
handed-rests objects regions Takes field new way parcel trips landed ranges short counts has it place entries may =
    let among = IsAmong objects regions entries in
    let far = ways-apart field place way parcel among has may.rest may.home it.departs may.past in
    let last-free = no-last (is_live (card_at field way.object way.from).phase) (nat_eq way.to way.from)
    (nat_eq (card_at field way.object way.from).trip last_trip) it.departs in
    let fits : (card_at field way.object way.from).trip < 2 ^ 64 = may.fit way.object way.from in
    let end = bytes-rest objects regions Takes ranges way parcel short field counts has far place may.rest may.fit
    (next_trip field way) (next-fits (card_at field way.object way.from).trip fits last-free) may.takes trips entries
    Neither (departure field way parcel) it.last
    (start-moves field place way parcel among has may.rest may.home it.departs may.past)
    (start-quiet field place way parcel among has may.rest may.home it.departs may.past) tt it.drives may.carried
    it.ends in
    let come = end.come in
    let rest-new : IsAtRest new way.object (rests_in way end.then_first) =
    subst (λ (f : List (List Card)). IsAtRest f way.object (rests_in way end.then_first)) (sym it.rests) come.rests in
    record {
      rests = subst (λ (b : Bool). IsAtRest new way.object (if b then way.to else way.from)) (sym end.told)
          (subst (λ (r : ℕ). IsAtRest new way.object r) (rests-as way end.then_first) rest-new);
      after = subst (λ (b : Bool). (card_at new way.object (if b then way.to else way.from)).trip ≡ next_trip field way)
          (sym end.told)
          (subst (λ (r : ℕ). (card_at new way.object r).trip ≡ next_trip field way) (rests-as way end.then_first)
          (subst (λ (f : List (List Card)). (card_at f way.object (rests_in way end.then_first)).trip
          ≡ next_trip field way) (sym it.rests) come.after));
      others = subst (λ (f : List (List Card)). (object : ℕ) → object ≢ way.object
          → cards_of f object ≡ cards_of field object) (sym it.rests) come.others;
      past = subst (λ (f : List (List Card)). (n : Note) → IsAmong objects regions (entries_by entries trips) n
          → IsPast f n) (sym it.rests) come.past;
      landed_is = it.landed_is
          ∙ landed-so way (next_offer field way parcel) new far end.then_first rest-new it.last.landed come.landed_is
          ∙ ap (λ (b : Bool). if b then Some (next_offer field way parcel) else None) (sym end.told);
    }
  where
    next-fits : (n : ℕ) → n < 2 ^ 64 → nat_eq n last_trip ≡ false → n + 1 < 2 ^ 64
    next-fits n few no-end =
        let other : n ≢ 18446744073709551615 = eqb-false n 18446744073709551615 no-end in omega (arith, few, other)
