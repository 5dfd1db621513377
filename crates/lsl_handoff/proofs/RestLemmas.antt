-- A drive comes to rest.
use Rattle.std.proofs.Common.{◌≡◌, ◌≢◌, ◌∙◌, refl, sym, ap, subst, ℕ, ◌+◌, ◌<◌, ◌≤◌, nat_eq, nat_lt, ◌⊎◌, Bool, true, false, if◌then◌else◌, List, [], ◌∷◌, ◌++◌, get_or, Option, Some, None, inl, inr, arith}
use Rattle.std.specs.Prelude.{Contains}
use Rattle.std.proofs.lemmas.Bool.{cases_eq, eq-eqb}
use Rattle.std.proofs.lemmas.List.Elements.{Contains-append_cases}
use Rattle.lsl_handoff.specs.declared.card.Card.{Card}
use Rattle.lsl_handoff.specs.declared.card.Phase.{Phase}
use Rattle.lsl_handoff.specs.declared.card.Phase.TheVariants.{Away, Live, Leaving, Cancelling}
use Rattle.lsl_handoff.specs.declared.drive.Way.{Way}
use Rattle.lsl_handoff.specs.declared.faults.DepartFault.{DepartFault}
use Rattle.lsl_handoff.specs.declared.faults.DepartFault.TheVariants.{NotLive, Here, LastTrip}
use Rattle.lsl_handoff.specs.declared.note.Note.{Note}
use Rattle.lsl_handoff.specs.declared.note.NoteKind.{NoteKind}
use Rattle.lsl_handoff.specs.declared.note.NoteKind.TheVariants.{Offer, Taken, Cancel, Refused}
use Rattle.lsl_handoff.specs.Cards.{depart_fault, is_live, last_trip}
use Rattle.lsl_handoff.specs.DriveLaws.{First, Neither, OfferFirst, CancelFirst, AreAtRest, AreFaithful, ComesToRest, IsAtRest, IsPast, WasHanded, departure, first_kind, first_of, first_with, handed_by, landed_as, next_offer, next_trip, or_first, rests_in}
use Rattle.lsl_handoff.specs.Drives.{Carried, HasWay, Moment, Obeys, after_carried, answered, asks, asks_unless, awaited_in, hears, most_rounds, received, rested, settled_unless}
use Rattle.lsl_handoff.specs.Fields.{HasCard, IsLive, card_at, card_of, does}
use Rattle.lsl_handoff.specs.Notes.{answer_of, cancel_of, offer_of}
use Rattle.lsl_handoff.specs.Rules.{Depart, Deliver, GiveUp, Effect, awaited, call_back, delivered, departs_unless, known_answer, was_refused, was_taken}
use Rattle.lsl_handoff.proofs.ArrivalLemmas.{if-true, told-between, told-known}
use Rattle.lsl_handoff.proofs.Driving.{FromIs, IsBetween, IsKnown, IsNow, IsntLeaving, ToIs}
use Rattle.lsl_handoff.proofs.Holding.{IsSettled}
use Rattle.lsl_handoff.proofs.Moving.{IsHeld, IsHeldIf, Moves}
use Rattle.lsl_handoff.proofs.ReceivingLemmas.{done-elsewhere, done-here, done-long, done-others, first-now, has-long, heard, long-on, or-neither, received-moves}

-- an object that is called back
abbrev gave_up : Phase → Phase
gave_up Away = Away
gave_up (Live held) = Live held
gave_up (Leaving to held) = Cancelling to held
gave_up (Cancelling to held) = Cancelling to held

gives : (p : Phase) (card : Card) (region object : ℕ) → card.phase ≡ p
    → (call_back p card region object).0 ≡ record card { phase = gave_up p }
gives Away card region object e = ap (λ (p : Phase). record card { phase = p }) e
gives (Live held) card region object e = ap (λ (p : Phase). record card { phase = p }) e
gives (Leaving to held) card region object e = refl
gives (Cancelling to held) card region object e = ap (λ (p : Phase). record card { phase = p }) e

isnt-now : (p : Phase) → IsntLeaving (gave_up p)
isnt-now Away = tt
isnt-now (Live held) = tt
isnt-now (Leaving to held) = tt
isnt-now (Cancelling to held) = tt

module _ (a b trip : ℕ) (parcel : List ℕ) where
  from-given : (first : First) (p : Phase) → FromIs a b trip parcel first p → FromIs a b trip parcel first (gave_up p)
  from-given first Away h = h
  from-given first (Live held) h = h
  from-given first (Leaving to held) h = (h.0, h.1)
  from-given first (Cancelling to held) h = h

  -- where the leaving region awaits nothing, one of both came
  has-come : (first : First) (p : Phase) → FromIs a b trip parcel first p → IsSettled p → first ≢ Neither
  has-come first Away h s = λ e. (let no : first ≡ OfferFirst = h in cc)
  has-come first (Live held) h s = λ e. (let no : first ≡ CancelFirst = h.1 in cc)
  has-come first (Leaving to held) h s = absurd s
  has-come first (Cancelling to held) h s = absurd s

  away-from : (p : Phase) → FromIs a b trip parcel OfferFirst p → IsSettled p → p ≡ Away
  away-from Away h s = refl
  away-from (Live held) h s = absurd (let no = h.1 in cc)
  away-from (Leaving to held) h s = absurd s
  away-from (Cancelling to held) h s = absurd s

  live-from : (p : Phase) → FromIs a b trip parcel CancelFirst p → IsSettled p → p ≡ Live parcel
  live-from Away h s = absurd (cc)
  live-from (Live held) h s = ap Live h.0
  live-from (Leaving to held) h s = absurd s
  live-from (Cancelling to held) h s = absurd s

one-more : (handed : List Note) (n note : Note) → Contains (handed ++ n ∷ []) note → Contains handed note ⊎ (n ≡ note)
one-more handed n note is = go (Contains-append_cases handed (n ∷ []) note is) where
  go : Contains handed note ⊎ Contains (n ∷ []) note → Contains handed note ⊎ (n ≡ note)
  go (inl old) = inl old
  go (inr (k, within, e)) =
      let first : k ≡ 0 = omega (arith, within) in
      inr (subst (λ (j : ℕ). get_or (n ∷ []) j note ≡ note) first e)

-- what is handed over, with one more note, and by the end
abbrev pub OrNote : (Note → Type 0) → Note → Note → Type 0
OrNote handed one note = handed note ⊎ (one ≡ note)

abbrev pub HandedBy : (Note → Type 0) → List Carried → Note → Type 0
HandedBy handed [] = handed
HandedBy handed (c ∷ more) = HandedBy (OrNote handed c.note) more

-- what came back was handed over by then
abbrev pub CameOf : (Note → Type 0) → Option Note → Type 0
CameOf handed None = Unit {0}
CameOf handed (Some back) = handed back

abbrev pub AreCameOf : (Note → Type 0) → List Carried → Type 0
AreCameOf handed [] = Unit {0}
AreCameOf handed (c ∷ more) = CameOf (OrNote handed c.note) c.back × AreCameOf (OrNote handed c.note) more

-- the same for lists
pub came-of : (trips : List Carried) (handed : List Note) (P : Note → Type 0)
    → ((n : Note) → Contains handed n → P n) → AreFaithful handed trips → AreCameOf P trips
came-of [] handed P are faithful = tt
came-of (c ∷ more) handed P are faithful = (
  go c.back faithful.0,
  came-of more (handed ++ c.note ∷ []) (OrNote P c.note) on faithful.1,
)
  where
    on : (n : Note) → Contains (handed ++ c.note ∷ []) n → OrNote P c.note n
    on n is = by (one-more handed c.note n is) where
      by : Contains handed n ⊎ (c.note ≡ n) → OrNote P c.note n
      by (inl old) = inl (are n old)
      by (inr one) = inr one

    go : (back : Option Note) → WasHanded (handed ++ c.note ∷ []) back → CameOf (OrNote P c.note) back
    go None was = tt
    go (Some back) was = on back was

pub handed-so : (trips : List Carried) (handed : List Note) (P : Note → Type 0)
    → ((n : Note) → Contains handed n → P n) → (n : Note) → Contains (handed_by handed trips) n → HandedBy P trips n
handed-so [] handed P are n is = are n is
handed-so (c ∷ more) handed P are n is =
    handed-so more (handed ++ c.note ∷ []) (OrNote P c.note) on n is
  where
    on : (x : Note) → Contains (handed ++ c.note ∷ []) x → OrNote P c.note x
    on x was = by (one-more handed c.note x was) where
      by : Contains handed x ⊎ (c.note ≡ x) → OrNote P c.note x
      by (inl old) = inl (are x old)
      by (inr one) = inr one

module _ (way : Way) (trip : ℕ) (parcel : List ℕ) (start : List (List Card)) (has : HasWay start way)
    (apart : way.from ≢ way.to) where
  -- the note that asks is one that may be handed over
  asked-held : (m : Moment) (first : First)
      → IsBetween way.from way.to trip parcel (card_at m.field way.object) first → (p : Phase)
      → (card_at m.field way.object way.from).phase ≡ p → (note : Note)
      → awaited p (card_at m.field way.object way.from).trip way.from way.object ≡ Some note
      → IsHeld way trip parcel start m.field first note
  asked-held m first is Away e note k = absurd (cc)
  asked-held m first is (Live held) e note k = absurd (cc)
  asked-held m first is (Leaving to held) e note k =
      let from : FromIs way.from way.to trip parcel first (Leaving to held) =
      subst (λ (p : Phase). FromIs way.from way.to trip parcel first p) e is.from in
      let it : offer_of way.object (card_at m.field way.object way.from).trip way.from to held ≡ note = cc in
      subst (λ (n : Note). IsHeld way trip parcel start m.field first n) it
      (record {
        from = has.0;
        to = subst (λ (r : ℕ). HasCard start way.object r) (sym from.1) has.1;
        own = λ same. inr (is.from_trip, (refl, from.1, from.0));
        other = λ other. absurd (other refl);
      })
  asked-held m first is (Cancelling to held) e note k =
      let from : FromIs way.from way.to trip parcel first (Cancelling to held) =
      subst (λ (p : Phase). FromIs way.from way.to trip parcel first p) e is.from in
      let it : cancel_of way.object (card_at m.field way.object way.from).trip way.from to ≡ note = cc in
      subst (λ (n : Note). IsHeld way trip parcel start m.field first n) it
      (record {
        from = has.0;
        to = subst (λ (r : ℕ). HasCard start way.object r) (sym from.1) has.1;
        own = λ same. inr (is.from_trip, (refl, from.1, subst (λ (p : Phase). IsntLeaving p) (sym e) tt));
        other = λ other. absurd (other refl);
      })

  module _ (handed : Note → Type 0) (first : First) (m : Moment)
      (moves : Moves way trip parcel start handed first m) where
    pub awaited-held : (note : Note) → awaited_in m.field way ≡ Some note
        → IsHeld way trip parcel start m.field first note
    awaited-held = asked-held m first moves.between (card_at m.field way.object way.from).phase refl

    pub question-held : (reply : Option Note) → m.reply ≡ reply → (note : Note) → asks_unless reply way m ≡ Some note
        → IsHeld way trip parcel start m.field first note
    question-held (Some r) e note k =
        let it : r ≡ note = cc in
        subst (λ (n : Note). IsHeld way trip parcel start m.field first n) it
        (subst (λ (o : Option Note). IsHeldIf way trip parcel start m.field first o) e moves.reply)
    question-held None e note k = go (nat_lt m.rounds most_rounds) k where
      go : (b : Bool) → (if b then awaited_in m.field way else None) ≡ Some note
          → IsHeld way trip parcel start m.field first note
      go true k = awaited-held note k
      go false k = absurd (cc)

    -- one more note is handed over
    handed-more : (note : Note) → IsHeld way trip parcel start m.field first note
        → Moves way trip parcel start (OrNote handed note) first m
    handed-more note held = record {
      long = moves.long;
      others = moves.others;
      between = moves.between;
      known = λ n is. go n is;
      reply = moves.reply;
      landed = moves.landed;
    }
      where
        go : (n : Note) → OrNote handed note n → IsHeld way trip parcel start m.field first n
        go n (inl old) = moves.known n old
        go n (inr is) = subst (λ (x : Note). IsHeld way trip parcel start m.field first x) is held

    back-held : (back : Option Note) → CameOf handed back → IsHeldIf way trip parcel start m.field first back
    back-held None was = tt
    back-held (Some note) was = moves.known note was

    -- the object is called back
    abbrev given : List (List Card)
    given = (does m.field (GiveUp way.from way.object)).0

    from-there : HasCard m.field way.object way.from
    from-there = has-long start m.field moves.long way.object way.from has.0

    abbrev phase : Phase
    phase = (card_at m.field way.object way.from).phase

    given-card : card_at given way.object way.from
        ≡ record (card_at m.field way.object way.from) { phase = gave_up phase }
    given-card =
        done-here m.field (GiveUp way.from way.object) from-there
        ∙ gives phase (card_at m.field way.object way.from) way.from way.object refl

    given-between : IsBetween way.from way.to trip parcel (card_at given way.object) first
    given-between =
        told-between way.from way.to trip parcel apart (card_at m.field way.object) (card_at given way.object) first
        moves.between (done-elsewhere m.field (GiveUp way.from way.object) from-there) (gave_up phase) given-card
        (from-given way.from way.to trip parcel first phase moves.between.from)

    given-known : (n : Note) → IsHeld way trip parcel start m.field first n → IsHeld way trip parcel start given first n
    given-known n h = record {
      from = h.from;
      to = h.to;
      own = λ e. told-known way.from way.to trip parcel apart (card_at m.field way.object)
          (card_at given way.object) first
          moves.between (done-elsewhere m.field (GiveUp way.from way.object) from-there) (gave_up phase) given-card
          (from-given way.from way.to trip parcel first phase moves.between.from) (λ was. isnt-now phase) n (h.own e);
      other = h.other;
    }

    given-reply : (o : Option Note) → IsHeldIf way trip parcel start m.field first o
        → IsHeldIf way trip parcel start given first o
    given-reply None held = tt
    given-reply (Some n) held = given-known n held

    abbrev called : Moment
    called = settled_unless None way m

    given-moves : Moves way trip parcel start handed first called
    given-moves = record {
      long = long-on start m.field given moves.long (done-long m.field (GiveUp way.from way.object) from-there);
      others = λ object other. done-others m.field (GiveUp way.from way.object) from-there object other
          ∙ moves.others object other;
      between = given-between;
      known = λ n is. given-known n (moves.known n is);
      reply = given-reply m.reply moves.reply;
      landed = moves.landed;
    }

    -- where nothing is asked, the object isn't leaving any more
    abbrev IsQuiet : Moment → Type 0
    IsQuiet x = asks way x ≡ None → IsntLeaving (card_at x.field way.object way.from).phase

    settled-moves : (asked : Option Note) → asks way m ≡ asked
        → Moves way trip parcel start handed first (settled_unless asked way m) × IsQuiet (settled_unless asked way m)
    settled-moves (Some note) e = (moves, λ none. absurd (let no : Some note ≡ None = sym e ∙ none in cc))
    settled-moves None e = (
      given-moves,
      λ none. subst (λ (c : Card). IsntLeaving c.phase) (sym given-card) (isnt-now phase),
    )

  abbrev Quiet : Moment → Type 0
  Quiet x = asks way x ≡ None → IsntLeaving (card_at x.field way.object way.from).phase

  module _ (place : ℕ → ℕ) (rest : AreAtRest start place) where
    -- a trip
    pub trip-moves : (handed : Note → Type 0) (first : First) (m : Moment) → Moves way trip parcel start handed first m
        → (c : Carried) → asks way m ≡ Some c.note → CameOf (OrNote handed c.note) c.back
        → Moves way trip parcel start (OrNote handed c.note) (first_with way trip first c.back) (hears way m c.back)
        × Quiet (hears way m c.back)
    trip-moves handed first m moves c asked was =
        let more = handed-more handed first m moves c.note
        (question-held handed first m moves m.reply refl c.note asked) in
        let on = received-moves way trip parcel start apart place rest (OrNote handed c.note) first m more c.back
        (back-held (OrNote handed c.note) first m more c.back was) in
        settled-moves (OrNote handed c.note) (first_with way trip first c.back)
        (heard way trip parcel start m c.back) on
        (asks way (heard way trip parcel start m c.back)) refl

    drive-moves : (trips : List Carried) (handed : Note → Type 0) (first : First) (m : Moment)
        → Moves way trip parcel start handed first m → Quiet m → Obeys way m trips → AreCameOf handed trips
        → Moves way trip parcel start (HandedBy handed trips) (first_of way trip first trips)
        (after_carried way m trips)
        × Quiet (after_carried way m trips)
    drive-moves [] handed first m moves quiet obeys faithful = (moves, quiet)
    drive-moves (c ∷ more) handed first m moves quiet obeys faithful =
        let on = trip-moves handed first m moves c obeys.0 faithful.0 in
        drive-moves more (OrNote handed c.note) (first_with way trip first c.back) (hears way m c.back) on.0 on.1
        obeys.1
        faithful.1

    -- the end, where nothing is awaited
    module _ (handed : Note → Type 0) (field : List (List Card)) (first : First) (before : Option Note) (rounds : ℕ)
        (reply : Option Note)
        (moves : Moves way trip parcel start handed first
        (record { field = field; rounds = rounds; reply = reply; landed = before }))
        (calm : IsSettled (card_at field way.object way.from).phase) where
      own-past : (f : First) → IsBetween way.from way.to trip parcel (card_at field way.object) f → f ≢ Neither
          → (n : Note) → IsKnown way.from way.to trip parcel (card_at field way.object) f n
          → (n.trip ≤ (card_at field way.object n.from).trip) × (n.trip ≤ (card_at field way.object n.to).trip)
      own-past f is some n (inl old) = (old.by_from, old.by_to)
      own-past f is some n (inr now) =
          go n.kind now.1
        where
          to-trip : (g : First) → ToIs way.from way.to trip parcel g (card_at field way.object way.to) → g ≢ Neither
              → (card_at field way.object way.to).trip ≡ trip
          to-trip Neither to some = absurd (some refl)
          to-trip OfferFirst to some = to.1
          to-trip CancelFirst to some = to.1

          there : (card_at field way.object way.to).trip ≡ trip
          there = to-trip f is.to some

          by : (r s : ℕ) → r ≡ s → (card_at field way.object s).trip ≡ trip → n.trip ≤ (card_at field way.object r).trip
          by r s e t =
              let same : n.trip ≡ trip = now.0 in
              subst (λ (q : ℕ). n.trip ≤ (card_at field way.object q).trip) (sym e) (omega (arith, same, t))

          go : (kind : NoteKind) → IsNow way.from way.to trip parcel (card_at field way.object) f kind n
              → (n.trip ≤ (card_at field way.object n.from).trip) × (n.trip ≤ (card_at field way.object n.to).trip)
          go Offer is-now = (by n.from way.from is-now.0 is.from_trip, by n.to way.to is-now.1 there)
          go Taken is-now = (by n.from way.to is-now.0 there, by n.to way.from is-now.1 is.from_trip)
          go Cancel is-now = (by n.from way.from is-now.0 is.from_trip, by n.to way.to is-now.1 there)
          go Refused is-now = (by n.from way.to is-now.0 there, by n.to way.from is-now.1 is.from_trip)

      come : first ≢ Neither
      come = has-come way.from way.to trip parcel first (card_at field way.object way.from).phase
          moves.between.from calm

      past-of : (n : Note) → IsHeld way trip parcel start field first n → IsPast field n
      past-of n h = go (cases_eq n.object way.object) where
        go : (n.object ≡ way.object) ⊎ (n.object ≢ way.object) → IsPast field n
        go (inl own) =
            let by = own-past first moves.between come n (h.own own) in
            record {
              from = has-long start field moves.long n.object n.from h.from;
              to = has-long start field moves.long n.object n.to h.to;
              by_from = subst (λ (o : ℕ). n.trip ≤ (card_at field o n.from).trip) (sym own) by.0;
              by_to = subst (λ (o : ℕ). n.trip ≤ (card_at field o n.to).trip) (sym own) by.1;
            }
        go (inr other) =
            let past = h.other other in
            let same = moves.others n.object other in
            record {
              from = has-long start field moves.long n.object n.from h.from;
              to = has-long start field moves.long n.object n.to h.to;
              by_from = subst (λ (cs : List Card). n.trip ≤ (card_of cs n.from).trip) (sym same) past.by_from;
              by_to = subst (λ (cs : List Card). n.trip ≤ (card_of cs n.to).trip) (sym same) past.by_to;
            }

      pub all-past : (n : Note) → handed n → IsPast field n
      all-past n is = past-of n (moves.known n is)

      abbrev at : ℕ → Card
      at = card_at field way.object

      -- if all cards but that of one region are away
      at-rest : (home other : ℕ) → (at home).phase ≡ Live parcel → (at home).trip ≡ trip → (at other).phase ≡ Away
          → (at other).trip ≡ trip
          → ((q : ℕ) → q ≢ home → q ≢ other → ((at q).phase ≡ Away) × ((at q).trip < trip))
          → IsAtRest field way.object home
      at-rest home other live trip-of away away-trip others = record {
        live = (parcel, live);
        away = λ q no. go-away q no (cases_eq q other);
        greatest = λ q. go q (cases_eq q home) (cases_eq q other);
      }
        where
          go-away : (q : ℕ) → q ≢ home → (q ≡ other) ⊎ (q ≢ other) → (at q).phase ≡ Away
          go-away q apart (inl is) = ap (λ (r : ℕ). (at r).phase) is ∙ away
          go-away q apart (inr isnt) = (others q apart isnt).0

          go : (q : ℕ) → (q ≡ home) ⊎ (q ≢ home) → (q ≡ other) ⊎ (q ≢ other) → (at q).trip ≤ (at home).trip
          go q (inl is) o = let e = ap (λ (r : ℕ). (at r).trip) is in omega (arith, e)
          go q (inr far) (inl is) = let e = ap (λ (r : ℕ). (at r).trip) is in omega (arith, e, away-trip, trip-of)
          go q (inr far) (inr isnt) =
              let low : (at q).trip < trip = (others q far isnt).1 in omega (arith, low, trip-of)

      pub comes : (f : First) → IsBetween way.from way.to trip parcel at f → f ≢ Neither
          → IsAtRest field way.object (rests_in way f) × IsLive field way.object (rests_in way f) parcel
          × ((at (rests_in way f)).trip ≡ trip)
      comes Neither is some = absurd (some refl)
      comes OfferFirst is some = (
        at-rest way.to way.from is.to.0 is.to.1
            (away-from way.from way.to trip parcel (at way.from).phase is.from calm) is.from_trip
            (λ q no isnt. is.others q isnt no),
        is.to.0,
        is.to.1,
      )
      comes CancelFirst is some =
          let live = live-from way.from way.to trip parcel (at way.from).phase is.from calm in (
            at-rest way.from way.to live is.from_trip is.to.0 is.to.1 is.others,
            live,
            is.from_trip,
          )

      pub come-to-rest : (told : First) → rests_in way first ≡ rests_in way told → (landed : Option Note)
          → landed ≡ landed_as told (offer_of way.object trip way.from way.to parcel)
          → ComesToRest start field way (offer_of way.object trip way.from way.to parcel) told handed landed
      come-to-rest told same landed is = let end = comes first moves.between come in record {
        rests = subst (λ (r : ℕ). IsAtRest field way.object r) same end.0;
        as_parcel = subst (λ (r : ℕ). IsLive field way.object r parcel) same end.1;
        after = subst (λ (r : ℕ). (at r).trip ≡ trip) same end.2;
        others = moves.others;
        past = all-past;
        landed_is = is;
      }

rests-cancel : (way : Way) (first : First) → rests_in way (or_first first CancelFirst) ≡ rests_in way first
rests-cancel way Neither = refl
rests-cancel way OfferFirst = refl
rests-cancel way CancelFirst = refl

abbrev IsAnswered : Note → Effect → Type 0
IsAnswered note e = (e.1 ≡ Some (answer_of Taken note)) ⊎ (e.1 ≡ Some (answer_of Refused note))

-- a cancel is answered by the outcome of its trip
cancel-answer : (card : Card) (note : Note) → ((delivered Cancel card note).1 ≡ Some (answer_of Taken note))
    ⊎ ((delivered Cancel card note).1 ≡ Some (answer_of Refused note))
cancel-answer card note = go (nat_lt card.trip note.trip) where
  old : (later took : Bool)
      → IsAnswered note (
        card,
        Some (if later then answer_of Taken note
            else if took then answer_of Taken note else answer_of Refused note),
      )
  old true took = inl refl
  old false true = inl refl
  old false false = inr refl

  go : (b : Bool)
      → IsAnswered note (if b
      then (record { trip = note.trip; took = false; phase = Away }, Some (answer_of Refused note))
      else (card, Some (known_answer card note)))
  go true = inr refl
  go false = old (nat_lt note.trip card.trip) card.took

-- an object that is called back and hears the outcome
told-settled : (card : Card) (to : ℕ) (held : List ℕ) → card.phase ≡ Cancelling to held → (note : Note)
    → note.trip ≡ card.trip
    → IsSettled (delivered Taken card note).0.phase × IsSettled (delivered Refused card note).0.phase
told-settled card to held e note same =
    let test : nat_eq card.trip note.trip ≡ true = eq-eqb card.trip note.trip (sym same) in (
      subst (λ (x : Effect). IsSettled x.0.phase)
          (sym (if-true (nat_eq card.trip note.trip) (record card { phase = was_taken card.phase }, None) (card, None)
          test))
          (subst (λ (p : Phase). IsSettled (was_taken p)) (sym e) tt),
      subst (λ (x : Effect). IsSettled x.0.phase)
          (sym (if-true (nat_eq card.trip note.trip) (record card { phase = was_refused card.phase }, None) (card, None)
          test))
          (subst (λ (p : Phase). IsSettled (was_refused p)) (sym e) tt),
    )

module _ (way : Way) (trip : ℕ) (parcel : List ℕ) (start : List (List Card)) (has : HasWay start way)
    (apart : way.from ≢ way.to) (place : ℕ → ℕ) (rest : AreAtRest start place) (handed : Note → Type 0) (first : First)
    (m : Moment) (moves : Moves way trip parcel start handed first m) where
  abbrev last_card : Card
  last_card = card_at m.field way.object way.from

  abbrev offer : Note
  offer = offer_of way.object trip way.from way.to parcel

  -- nothing is awaited
  calm-rests : awaited_in m.field way ≡ None → IsSettled last_card.phase
      → ComesToRest start (rested m.field way) way offer first handed m.landed
  calm-rests none calm =
      subst (λ (f : List (List Card)). ComesToRest start f way offer first handed m.landed)
      (sym (ap (λ (o : Option Note). answered (received m.field o)) none))
      (come-to-rest way trip parcel start has apart place rest handed m.field first m.landed m.rounds m.reply moves calm
      first refl m.landed moves.landed)

  -- a cancel is delivered directly, and its answer
  module _ (to : ℕ) (held : List ℕ) (e : last_card.phase ≡ Cancelling to held) where
    abbrev cancel : Note
    cancel = cancel_of way.object last_card.trip way.from to

    asks-cancel : awaited_in m.field way ≡ Some cancel
    asks-cancel = ap (λ (p : Phase). awaited p last_card.trip way.from way.object) e

    goes-to : to ≡ way.to
    goes-to =
        let from : FromIs way.from way.to trip parcel first (Cancelling to held) =
        subst (λ (p : Phase). FromIs way.from way.to trip parcel first p) e moves.between.from in from.1

    abbrev bare : Moment
    bare = record m { reply = None }

    bare-moves : Moves way trip parcel start handed first bare
    bare-moves = record {
      long = moves.long;
      others = moves.others;
      between = moves.between;
      known = moves.known;
      reply = tt;
      landed = moves.landed;
    }

    abbrev heard_once : Moment
    heard_once = heard way trip parcel start bare (Some cancel)

    abbrev answer : Option Note
    answer = (does m.field (Deliver cancel)).1

    once-moves : Moves way trip parcel start handed (first_with way trip first (Some cancel)) heard_once
    once-moves =
        received-moves way trip parcel start apart place rest handed first bare bare-moves (Some cancel)
        (awaited-held way trip parcel start has apart handed first m moves cancel asks-cancel)

    cancel-first : first_with way trip first (Some cancel) ≡ or_first first CancelFirst
    cancel-first = first-now way trip first cancel refl moves.between.from_trip

    abbrev heard_twice : Option Note → Moment
    heard_twice o = heard way trip parcel start heard_once o

    same-card : card_at heard_once.field way.object way.from ≡ last_card
    same-card =
        done-elsewhere m.field (Deliver cancel)
        (has-long start m.field moves.long way.object to
        (subst (λ (r : ℕ). HasCard start way.object r) (sym goes-to) has.1))
        way.from (λ k. apart (k ∙ goes-to))

    -- by the answer's kind, which is Taken or Refused
    module _ (kind : NoteKind) (plain : first_kind kind ≡ Neither) (is : answer ≡ Some (answer_of kind cancel))
        (calms : IsSettled (delivered kind last_card (answer_of kind cancel)).0.phase) where
      abbrev reply : Note
      reply = answer_of kind cancel

      twice-moves : Moves way trip parcel start handed
          (first_with way trip (first_with way trip first (Some cancel)) (Some reply)) (heard_twice (Some reply))
      twice-moves =
          received-moves way trip parcel start apart place rest handed (first_with way trip first (Some cancel))
          heard_once
          once-moves (Some reply)
          (subst (λ (o : Option Note). IsHeldIf way trip parcel start heard_once.field
          (first_with way trip first (Some cancel)) o) is once-moves.reply)

      still : first_with way trip (first_with way trip first (Some cancel)) (Some reply) ≡ or_first first CancelFirst
      still =
          first-now way trip (first_with way trip first (Some cancel)) reply refl moves.between.from_trip
          ∙ ap (λ (f : First). or_first (first_with way trip first (Some cancel)) f) plain
          ∙ or-neither (first_with way trip first (Some cancel)) ∙ cancel-first

      twice-card : card_at (heard_twice (Some reply)).field way.object way.from
          ≡ (delivered kind last_card reply).0
      twice-card =
          done-here heard_once.field (Deliver reply)
          (has-long start heard_once.field once-moves.long way.object way.from has.0)
          ∙ ap (λ (c : Card). (delivered kind c reply).0) same-card

      answered-rests : ComesToRest start (rested m.field way) way offer first handed m.landed
      answered-rests =
          subst (λ (f : List (List Card)). ComesToRest start f way offer first handed m.landed)
          (sym (ap (λ (o : Option Note). answered (received m.field o)) asks-cancel
          ∙ ap (λ (o : Option Note). (received heard_once.field o).0) is))
          (come-to-rest way trip parcel start has apart place rest handed (heard_twice (Some reply)).field
          (first_with way trip (first_with way trip first (Some cancel)) (Some reply)) (heard_twice (Some reply)).landed
          (heard_twice (Some reply)).rounds (heard_twice (Some reply)).reply twice-moves
          (subst (λ (c : Card). IsSettled c.phase) (sym twice-card) calms) first
          (ap (λ (f : First). rests_in way f) still ∙ rests-cancel way first) m.landed moves.landed)

    called-rests : ComesToRest start (rested m.field way) way offer first handed m.landed
    called-rests = go (cancel-answer (card_at m.field way.object to) cancel) where
      go : (answer ≡ Some (answer_of Taken cancel)) ⊎ (answer ≡ Some (answer_of Refused cancel))
          → ComesToRest start (rested m.field way) way offer first handed m.landed
      go (inl is) = answered-rests Taken refl is (told-settled last_card to held e (answer_of Taken cancel) refl).0
      go (inr is) = answered-rests Refused refl is (told-settled last_card to held e (answer_of Refused cancel) refl).1

  pub ends : (p : Phase) → last_card.phase ≡ p → IsntLeaving p
      → ComesToRest start (rested m.field way) way offer first handed m.landed
  ends Away e isnt =
      calm-rests (ap (λ (p : Phase). awaited p last_card.trip way.from way.object) e)
      (subst (λ (p : Phase). IsSettled p) (sym e) tt)
  ends (Live held) e isnt =
      calm-rests (ap (λ (p : Phase). awaited p last_card.trip way.from way.object) e)
      (subst (λ (p : Phase). IsSettled p) (sym e) tt)
  ends (Leaving to held) e isnt = absurd isnt
  ends (Cancelling to held) e isnt = called-rests to held e

-- an object can depart
no-fault : (live here last : Bool)
    → (if live then (if here then Some Here else if last then Some LastTrip else None) else Some NotLive) ≡ None
    → here ≡ false
no-fault true false last e = refl
no-fault true true last e = absurd (cc)
no-fault false here last e = absurd (cc)

module _ (field : List (List Card)) (place : ℕ → ℕ) (way : Way) (parcel : List ℕ) (handed : Note → Type 0)
    (has : HasWay field way) (rest : AreAtRest field place) (home : place way.object ≡ way.from)
    (fine : depart_fault (card_at field way.object way.from) way.from way.to ≡ None)
    (past : (n : Note) → handed n → IsPast field n) where
  abbrev home_card : Card
  home_card = card_at field way.object way.from

  pub apart : way.from ≢ way.to
  apart e =
      let no = no-fault (is_live home_card.phase) (nat_eq way.to way.from) (nat_eq home_card.trip last_trip) fine in
      let yes = eq-eqb way.to way.from (sym e) in cc

  abbrev gone : List (List Card)
  gone = (does field (Depart way.from way.object way.to parcel)).0

  there : HasCard field way.object way.from
  there = has.0

  left : card_at gone way.object way.from
      ≡ record { trip = home_card.trip + 1; took = false; phase = Leaving way.to parcel }
  left =
      done-here field (Depart way.from way.object way.to parcel) there
      ∙ ap (λ (f : Option DepartFault). (departs_unless f home_card way.from way.object way.to parcel).0) fine

  elsewhere : (q : ℕ) → q ≢ way.from → card_at gone way.object q ≡ card_at field way.object q
  elsewhere = done-elsewhere field (Depart way.from way.object way.to parcel) there

  resting : IsAtRest field way.object way.from
  resting = subst (λ (r : ℕ). IsAtRest field way.object r) home (rest way.object there.0)

  away-there : (q : ℕ) → q ≢ way.from
      → ((card_at gone way.object q).phase ≡ Away) × ((card_at gone way.object q).trip < home_card.trip + 1)
  away-there q other =
      subst (λ (c : Card). (c.phase ≡ Away) × (c.trip < home_card.trip + 1)) (sym (elsewhere q other))
      (resting.away q other, (let low = resting.greatest q in omega (arith, low)))

  start-between : IsBetween way.from way.to (home_card.trip + 1) parcel (card_at gone way.object) Neither
  start-between = record {
    from_trip = ap (λ (c : Card). c.trip) left;
    from = subst (λ (c : Card). FromIs way.from way.to (home_card.trip + 1) parcel Neither c.phase) (sym left)
        (refl, refl, λ e. cc);
    to = away-there way.to (λ e. apart (sym e));
    others = λ q from to. away-there q from;
  }

  rises : (q : ℕ) → (card_at field way.object q).trip ≤ (card_at gone way.object q).trip
  rises q = go (cases_eq q way.from) where
    go : (q ≡ way.from) ⊎ (q ≢ way.from) → (card_at field way.object q).trip ≤ (card_at gone way.object q).trip
    go (inl is) =
        subst (λ (r : ℕ). (card_at field way.object r).trip ≤ (card_at gone way.object r).trip) (sym is)
        (let e = ap (λ (c : Card). c.trip) left in omega (arith, e))
    go (inr other) = let e = ap (λ (c : Card). c.trip) (elsewhere q other) in omega (arith, e)

  start-held : (n : Note) → IsPast field n → IsHeld way (home_card.trip + 1) parcel field gone Neither n
  start-held n p = record {
    from = p.from;
    to = p.to;
    own = λ e. (let by_from = subst (λ (o : ℕ). n.trip ≤ (card_at field o n.from).trip) e p.by_from in
        let by_to = subst (λ (o : ℕ). n.trip ≤ (card_at field o n.to).trip) e p.by_to in
        inl (record {
          earlier = omega (arith, by_from, resting.greatest n.from);
          by_from = omega (arith, by_from, rises n.from);
          by_to = omega (arith, by_to, rises n.to);
        }));
    other = λ other. p;
  }

  pub start-moves : Moves way (home_card.trip + 1) parcel field handed Neither (departure field way parcel)
  start-moves = record {
    long = done-long field (Depart way.from way.object way.to parcel) there;
    others = done-others field (Depart way.from way.object way.to parcel) there;
    between = start-between;
    known = λ n is. start-held n (past n is);
    reply = tt;
    landed = refl;
  }

  pub start-quiet : asks way (departure field way parcel) ≡ None → IsntLeaving (card_at gone way.object way.from).phase
  start-quiet none =
      let e : awaited_in gone way ≡ Some (offer_of way.object (home_card.trip + 1) way.from way.to parcel) =
      ap (λ (c : Card). awaited c.phase c.trip way.from way.object) left in absurd (let no = sym e ∙ none in cc)

  pub drive-rests : (trips : List Carried) → Obeys way (departure field way parcel) trips → AreCameOf handed trips
      → asks way (after_carried way (departure field way parcel) trips) ≡ None
      → ComesToRest field (rested (after_carried way (departure field way parcel) trips).field way) way
      (next_offer field way parcel) (first_of way (next_trip field way) Neither trips) (HandedBy handed trips)
      (after_carried way (departure field way parcel) trips).landed
  drive-rests trips obeys faithful none =
      let on = drive-moves way (home_card.trip + 1) parcel field has apart place rest trips handed Neither
      (departure field way parcel) start-moves start-quiet obeys faithful in
      ends way (home_card.trip + 1) parcel field has apart place rest (HandedBy handed trips)
      (first_of way (home_card.trip + 1) Neither trips) (after_carried way (departure field way parcel) trips) on.0
      (card_at (after_carried way (departure field way parcel) trips).field way.object way.from).phase refl (on.1 none)
