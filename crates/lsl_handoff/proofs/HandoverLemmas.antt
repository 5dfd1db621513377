-- A drive over a link, trip by trip.
use Rattle.std.proofs.Common.{◌≡◌, ◌≢◌, ◌∙◌, refl, sym, ap, subst, ℕ, ◌+◌, ◌-◌, ◌<◌, ◌≤◌, nat_eq, nat_lt, ◌⊎◌, Bool, true, false, if◌then◌else◌, List, [], ◌∷◌, ◌++◌, append-nil, Option, Some, None, inl, inr, arith}
use Rattle.std.specs.Prelude.{IfSome}
use Rattle.std.proofs.lemmas.Bool.{cases_eq}
use Rattle.std.proofs.lemmas.Bool.Decides.{nat_tests}
use Rattle.lsl_ports.specs.Trips.{Trip}
use Rattle.lsl_handoff.specs.declared.card.Card.{Card}
use Rattle.lsl_handoff.specs.declared.card.Phase.{Phase}
use Rattle.lsl_handoff.specs.declared.card.Phase.TheVariants.{Away, Live, Leaving, Cancelling}
use Rattle.lsl_handoff.specs.declared.drive.Way.{Way}
use Rattle.lsl_handoff.specs.declared.faults.DepartFault.{DepartFault}
use Rattle.lsl_handoff.specs.declared.note.Note.{Note}
use Rattle.lsl_handoff.specs.declared.note.NoteKind.{NoteKind}
use Rattle.lsl_handoff.specs.declared.note.NoteKind.TheVariants.{Offer, Taken, Cancel, Refused}
use Rattle.lsl_handoff.specs.Cards.{depart_fault}
use Rattle.lsl_handoff.specs.Drives.{HasWay, Moment, answered, asks, asks_unless, awaited_in, hears, most_rounds, next_reply, next_rounds, received, rested, rounds_behind, settled_unless}
use Rattle.lsl_handoff.specs.Fields.{HasCard, IsOneOf, card_at, card_of, does}
use Rattle.lsl_handoff.specs.Handovers.{Drives, HasCounts, IsCut, IsHeard, IsOneTripOrNone}
use Rattle.lsl_handoff.specs.NoteBytes.{IsNote, note_bytes}
use Rattle.lsl_handoff.specs.Notes.{answer_of, cancel_of, offer_of}
use Rattle.lsl_handoff.specs.Rules.{Deliver, Depart, Effect, GiveUp, awaited, call_back, delivered, departs_unless, known_answer, was_refused, was_taken}
use Rattle.lsl_handoff.proofs.Moving.{IsAsLong}
use Rattle.lsl_handoff.proofs.ReceivingLemmas.{IsAnswerTo, answer-delivered, done-elsewhere, done-here, done-long, done-others, has-long, heard, long-on}

module _ (objects regions : ℕ) (Takes : Note → Type 0) (way : Way) where
  -- one more trip
  pub drives-on : (trips : List Trip) (m last : Moment) (note : Note) (back : Option Note) (t : Trip)
      → Drives objects regions Takes way m trips last → asks way last ≡ Some note → t.sent ≡ note_bytes note
      → IsHeard objects regions Takes t.back back
      → Drives objects regions Takes way m (trips ++ t ∷ []) (hears way last back)
  drives-on [] m last note back t drives asked sent heard = (
    note,
    back,
    subst (λ (x : Moment). asks way x ≡ Some note) (sym drives) asked,
    sent,
    heard,
    ap (λ (x : Moment). hears way x back) drives,
  )
  drives-on (s ∷ trips) m last note back t (n, b, a, e, h, more) asked sent heard =
      (n, b, a, e, h, drives-on trips (hears way m b) last note back t more asked sent heard)

  pub drives-cut : (trips : List Trip) (m last : Moment) → Drives objects regions Takes way m trips last
      → IsCut objects regions Takes way m trips
  drives-cut [] m last drives = tt
  drives-cut (s ∷ trips) m last (n, b, a, e, h, more) =
      (n, a, e, inr (b, h, drives-cut trips (hears way m b) last more))

  cut-one : (trips : List Trip) (m last : Moment) (note : Note) (t : Trip)
      → Drives objects regions Takes way m trips last → asks way last ≡ Some note → t.sent ≡ note_bytes note
      → IsCut objects regions Takes way m (trips ++ t ∷ [])
  cut-one [] m last note t drives asked sent =
      (note, subst (λ (x : Moment). asks way x ≡ Some note) (sym drives) asked, sent, inl refl)
  cut-one (s ∷ trips) m last note t (n, b, a, e, h, more) asked sent =
      (n, a, e, inr (b, h, cut-one trips (hears way m b) last note t more asked sent))

  pub drives-cut-off : (trips more : List Trip) (m last : Moment) (note : Note)
      → Drives objects regions Takes way m trips last → asks way last ≡ Some note
      → IsOneTripOrNone more (note_bytes note) → IsCut objects regions Takes way m (trips ++ more)
  drives-cut-off trips more m last note drives asked (inl none) =
      subst (λ (ts : List Trip). IsCut objects regions Takes way m (trips ++ ts)) (sym none)
      (subst (λ (ts : List Trip). IsCut objects regions Takes way m ts) (sym (append-nil trips))
      (drives-cut trips m last drives))
  drives-cut-off trips more m last note drives asked (inr (back, one)) =
      subst (λ (ts : List Trip). IsCut objects regions Takes way m (trips ++ ts)) (sym one)
      (cut-one trips m last note (record { sent = note_bytes note; back = back }) drives asked refl)

-- what holds of each card continues to hold where a note is delivered
module _ (field : List (List Card)) (note : Note) (there : HasCard field note.object note.to) (object region : ℕ)
    (P : Card → Type 0) (keeps : P (card_at field note.object note.to)
    → P (delivered note.kind (card_at field note.object note.to) note).0) where
  pub card-keeps : P (card_at field object region) → P (card_at (does field (Deliver note)).0 object region)
  card-keeps p = go (cases_eq object note.object) (cases_eq region note.to) where
    go : (object ≡ note.object) ⊎ (object ≢ note.object) → (region ≡ note.to) ⊎ (region ≢ note.to)
        → P (card_at (does field (Deliver note)).0 object region)
    go (inl own) (inl here) =
        subst (λ (o : ℕ). P (card_at (does field (Deliver note)).0 o region)) (sym own)
        (subst (λ (r : ℕ). P (card_at (does field (Deliver note)).0 note.object r)) (sym here)
        (subst P (sym (done-here field (Deliver note) there))
        (keeps (subst (λ (r : ℕ). P (card_at field note.object r)) here
        (subst (λ (o : ℕ). P (card_at field o region)) own p)))))
    go (inl own) (inr other) =
        subst (λ (o : ℕ). P (card_at (does field (Deliver note)).0 o region)) (sym own)
        (subst P (sym (done-elsewhere field (Deliver note) there region other))
        (subst (λ (o : ℕ). P (card_at field o region)) own p))
    go (inr other) r =
        subst (λ (cs : List Card). P (card_of cs region))
        (sym (done-others field (Deliver note) there object other)) p

-- where an object that is under way goes
abbrev pub GoesTo : ℕ → Phase → Type 0
GoesTo b Away = Unit {0}
GoesTo b (Live held) = Unit {0}
GoesTo b (Leaving to held) = to ≡ b
GoesTo b (Cancelling to held) = to ≡ b

goes-taken : (b : ℕ) (p : Phase) → GoesTo b p → GoesTo b (was_taken p)
goes-taken b Away h = tt
goes-taken b (Live held) h = tt
goes-taken b (Leaving to held) h = tt
goes-taken b (Cancelling to held) h = tt

goes-refused : (b : ℕ) (p : Phase) → GoesTo b p → GoesTo b (was_refused p)
goes-refused b Away h = tt
goes-refused b (Live held) h = tt
goes-refused b (Leaving to held) h = h
goes-refused b (Cancelling to held) h = tt

goes-if : (b : ℕ) (test : Bool) (x y : Effect) → GoesTo b x.0.phase → GoesTo b y.0.phase
    → GoesTo b ((λ (e : Effect). e.0.phase) (if test then x else y))
goes-if b true x y p q = p
goes-if b false x y p q = q

goes-delivered : (b : ℕ) (kind : NoteKind) (card : Card) (note : Note) → GoesTo b card.phase
    → GoesTo b (delivered kind card note).0.phase
goes-delivered b Offer card note h = goes-if b (nat_lt card.trip note.trip)
    (record { trip = note.trip; took = true; phase = Live note.parcel }, Some (answer_of Taken note))
    (card, Some (known_answer card note)) tt h
goes-delivered b Cancel card note h = goes-if b (nat_lt card.trip note.trip)
    (record { trip = note.trip; took = false; phase = Away }, Some (answer_of Refused note))
    (card, Some (known_answer card note)) tt h
goes-delivered b Taken card note h = goes-if b (nat_eq card.trip note.trip)
    (record card { phase = was_taken card.phase }, None) (card, None) (goes-taken b card.phase h) h
goes-delivered b Refused card note h = goes-if b (nat_eq card.trip note.trip)
    (record card { phase = was_refused card.phase }, None) (card, None) (goes-refused b card.phase h) h

goes-called : (b : ℕ) (p : Phase) (card : Card) (region object : ℕ) → card.phase ≡ p → GoesTo b p
    → GoesTo b (call_back p card region object).0.phase
goes-called b Away card region object e h = subst (GoesTo b) (sym e) h
goes-called b (Live held) card region object e h = subst (GoesTo b) (sym e) h
goes-called b (Leaving to held) card region object e h = h
goes-called b (Cancelling to held) card region object e h = subst (GoesTo b) (sym e) h

-- what is left of a drive: a measure
abbrev leaving : Phase → ℕ
leaving Away = 0
leaving (Live held) = 0
leaving (Leaving to held) = 16
leaving (Cancelling to held) = 0

abbrev reply_left : Option Note → ℕ
reply_left None = 0
reply_left (Some reply) = 1

abbrev pub left : Way → Moment → ℕ
left way m =
    leaving (card_at m.field way.object way.from).phase + ((8 - m.rounds) + (8 - m.rounds)) + reply_left m.reply

less-taken : (k : ℕ) (p : Phase) → leaving p ≤ k → leaving (was_taken p) ≤ k
less-taken k Away h = omega arith
less-taken k (Live held) h = omega arith
less-taken k (Leaving to held) h = omega arith
less-taken k (Cancelling to held) h = omega arith

less-refused : (k : ℕ) (p : Phase) → leaving p ≤ k → leaving (was_refused p) ≤ k
less-refused k Away h = omega arith
less-refused k (Live held) h = omega arith
less-refused k (Leaving to held) h = h
less-refused k (Cancelling to held) h = omega arith

less-if : (k : ℕ) (test : Bool) (x y : Effect) → leaving x.0.phase ≤ k → leaving y.0.phase ≤ k
    → leaving ((λ (e : Effect). e.0.phase) (if test then x else y)) ≤ k
less-if k true x y p q = p
less-if k false x y p q = q

less-delivered : (k : ℕ) (kind : NoteKind) (card : Card) (note : Note) → leaving card.phase ≤ k
    → leaving (delivered kind card note).0.phase ≤ k
less-delivered k Offer card note h = less-if k (nat_lt card.trip note.trip)
    (record { trip = note.trip; took = true; phase = Live note.parcel }, Some (answer_of Taken note))
    (card, Some (known_answer card note)) (omega arith) h
less-delivered k Cancel card note h = less-if k (nat_lt card.trip note.trip)
    (record { trip = note.trip; took = false; phase = Away }, Some (answer_of Refused note))
    (card, Some (known_answer card note)) (omega arith) h
less-delivered k Taken card note h = less-if k (nat_eq card.trip note.trip)
    (record card { phase = was_taken card.phase }, None) (card, None) (less-taken k card.phase h) h
less-delivered k Refused card note h = less-if k (nat_eq card.trip note.trip)
    (record card { phase = was_refused card.phase }, None) (card, None) (less-refused k card.phase h) h

-- the cards of a drive, from the first moment on
pub record Onward (way : Way) (start field : List (List Card)) : Type 0 where
  pub long : IsAsLong start field
  pub goes : GoesTo way.to (card_at field way.object way.from).phase

module _ (way : Way) (start : List (List Card)) (has : HasWay start way) where
  from-there : (field : List (List Card)) → IsAsLong start field → HasCard field way.object way.from
  from-there field long = has-long start field long way.object way.from has.0

  onward-delivered : (field : List (List Card)) → Onward way start field → (note : Note)
      → HasCard field note.object note.to
      → Onward way start (does field (Deliver note)).0
  onward-delivered field on note there = record {
    long = long-on start field (does field (Deliver note)).0 on.long (done-long field (Deliver note) there);
    goes = card-keeps field note there way.object way.from (λ (c : Card). GoesTo way.to c.phase)
        (goes-delivered way.to note.kind (card_at field note.object note.to) note) on.goes;
  }

  pub onward-received : (field : List (List Card)) → Onward way start field → (back : Option Note)
      → IfSome back (λ n. HasCard field n.object n.to) → Onward way start (received field back).0
  onward-received field on None there = on
  onward-received field on (Some note) there = onward-delivered field on note there

  onward-given : (field : List (List Card)) → Onward way start field
      → Onward way start (does field (GiveUp way.from way.object)).0
  onward-given field on = record {
    long = long-on start field (does field (GiveUp way.from way.object)).0 on.long
        (done-long field (GiveUp way.from way.object) (from-there field on.long));
    goes = subst (λ (c : Card). GoesTo way.to c.phase)
        (sym (done-here field (GiveUp way.from way.object) (from-there field on.long)))
        (goes-called way.to (card_at field way.object way.from).phase (card_at field way.object way.from) way.from
        way.object refl on.goes);
  }

  onward-settled : (m : Moment) → Onward way start m.field → (asked : Option Note)
      → Onward way start (settled_unless asked way m).field
  onward-settled m on (Some note) = on
  onward-settled m on None = onward-given m.field on

  pub onward-hears : (m : Moment) → Onward way start m.field → (back : Option Note)
      → IfSome back (λ n. HasCard m.field n.object n.to) → Onward way start (hears way m back).field
  onward-hears m on back there =
      let after = heard way 0 [] start m back in
      onward-settled after (onward-received m.field on back there) (asks way after)

  -- each trip leaves less
  less-received : (field : List (List Card)) (back : Option Note) → IfSome back (λ n. HasCard field n.object n.to)
      → leaving (card_at (received field back).0 way.object way.from).phase
      ≤ leaving (card_at field way.object way.from).phase
  less-received field None there = omega arith
  less-received field (Some note) there =
      go (leaving (card_at field way.object way.from).phase) (omega arith)
    where
      go : (k : ℕ) → leaving (card_at field way.object way.from).phase ≤ k
          → leaving (card_at (does field (Deliver note)).0 way.object way.from).phase ≤ k
      go k h = card-keeps field note there way.object way.from (λ (c : Card). leaving c.phase ≤ k)
          (less-delivered k note.kind (card_at field note.object note.to) note) h

  less-heard : (m : Moment) (back : Option Note) (note : Note) → IfSome back (λ n. HasCard m.field n.object n.to)
      → (reply : Option Note) → m.reply ≡ reply → asks_unless reply way m ≡ Some note
      → left way (heard way 0 [] start m back) < left way m
  less-heard m back note there (Some r) e asked =
      let low = less-received m.field back there in
      let rounds : next_rounds m.reply m.rounds ≡ m.rounds = ap (λ (o : Option Note). next_rounds o m.rounds) e in
      let none : reply_left (next_reply m.reply (received m.field back).1) ≡ 0 =
      ap (λ (o : Option Note). reply_left (next_reply o (received m.field back).1)) e in
      let one : reply_left m.reply ≡ 1 = ap reply_left e in
      omega (arith, low, rounds, none, one)
  less-heard m back note there None e asked =
      let low = less-received m.field back there in
      let rounds : next_rounds m.reply m.rounds ≡ m.rounds + 1 = ap (λ (o : Option Note). next_rounds o m.rounds) e in
      let some = at-most-one (next_reply m.reply (received m.field back).1) in
      let few = few-rounds (nat_lt m.rounds most_rounds) refl asked in
      omega (arith, low, rounds, some, few)
    where
      at-most-one : (o : Option Note) → reply_left o ≤ 1
      at-most-one None = omega arith
      at-most-one (Some r) = omega arith

      few-rounds : (b : Bool) → nat_lt m.rounds most_rounds ≡ b → (if b then awaited_in m.field way else None)
          ≡ Some note
          → m.rounds < 8
      few-rounds true e k = grind (arith, nat_tests)
      few-rounds false e k = absurd (cc)

  -- what is left where an object in this phase is called back
  abbrev called_left : Moment → Phase → ℕ
  called_left m p =
      let done = call_back p (card_at m.field way.object way.from) way.from way.object in
      leaving done.0.phase + ((8 - rounds_behind done.1 m.rounds) + (8 - rounds_behind done.1 m.rounds))
      + reply_left m.reply

  given-less : (m : Moment) → Onward way start m.field → (p : Phase) → (card_at m.field way.object way.from).phase ≡ p
      → left way (settled_unless None way m) ≤ left way m
  given-less m on p e = go p e
    where
      here : card_at (does m.field (GiveUp way.from way.object)).0 way.object way.from
          ≡ (call_back (card_at m.field way.object way.from).phase (card_at m.field way.object way.from) way.from
          way.object).0
      here = done-here m.field (GiveUp way.from way.object) (from-there m.field on.long)

      step-is : left way (settled_unless None way m) ≡ called_left m (card_at m.field way.object way.from).phase
      step-is = ap (λ (c : Card). leaving c.phase
          + ((8 - rounds_behind
          (does m.field (GiveUp way.from way.object)).1 m.rounds)
          + (8 - rounds_behind
          (does m.field (GiveUp way.from way.object)).1 m.rounds))
          + reply_left m.reply) here

      go : (q : Phase) → (card_at m.field way.object way.from).phase ≡ q
          → left way (settled_unless None way m) ≤ left way m
      go Away e = let k : left way (settled_unless None way m) ≡ left way m = step-is
          ∙ ap (called_left m) e in omega (arith, k)
      go (Live held) e = let k : left way (settled_unless None way m) ≡ left way m = step-is
          ∙ ap (called_left m) e in omega (arith, k)
      go (Leaving to held) e =
          let k : left way (settled_unless None way m) ≡ 16 + reply_left m.reply = step-is ∙ ap (called_left m) e in
          let much : leaving (card_at m.field way.object way.from).phase ≡ 16 = ap leaving e in
          omega (arith, k, much)
      go (Cancelling to held) e = let k : left way (settled_unless None way m) ≡ left way m = step-is
          ∙ ap (called_left m) e in omega (arith, k)

  less-settled : (m : Moment) → Onward way start m.field → (asked : Option Note)
      → left way (settled_unless asked way m) ≤ left way m
  less-settled m on (Some note) = omega arith
  less-settled m on None = given-less m on (card_at m.field way.object way.from).phase refl

  pub less-hears : (m : Moment) → Onward way start m.field → (back : Option Note) (note : Note)
      → IfSome back (λ n. HasCard m.field n.object n.to) → asks way m ≡ Some note
      → left way (hears way m back) < left way m
  less-hears m on back note there asked =
      let after = heard way 0 [] start m back in
      let a = less-heard m back note there m.reply refl asked in
      let b = less-settled after (onward-received m.field on back there) (asks way after) in
      omega (arith, a, b)

  -- at the departure, and at the end
  pub onward-departed : (parcel : List ℕ)
      → depart_fault (card_at start way.object way.from) way.from way.to ≡ None
      → Onward way start (does start (Depart way.from way.object way.to parcel)).0
  onward-departed parcel fine = record {
    long = done-long start (Depart way.from way.object way.to parcel) there;
    goes = subst (λ (c : Card). GoesTo way.to c.phase)
        (sym (done-here start (Depart way.from way.object way.to parcel) there
        ∙ ap (λ (f : Option DepartFault). (departs_unless f (card_at start way.object way.from) way.from way.object
        way.to parcel).0) fine)) refl;
  }
    where
      there : HasCard start way.object way.from
      there = has.0

  pub onward-way : (field : List (List Card)) → Onward way start field → HasWay field way
  onward-way field on = (
    has-long start field on.long way.object way.from has.0,
    has-long start field on.long way.object way.to has.1,
  )

  pub awaited-goes : (field : List (List Card)) → Onward way start field
      → IfSome (awaited_in field way) (λ n. HasCard field n.object n.to)
  awaited-goes field on = go (card_at field way.object way.from).phase on.goes where
    to-there : (to : ℕ) → to ≡ way.to → HasCard field way.object to
    to-there to e =
        subst (λ (r : ℕ). HasCard field way.object r) (sym e) (has-long start field on.long way.object way.to has.1)

    go : (p : Phase) → GoesTo way.to p
        → IfSome (awaited p (card_at field way.object way.from).trip way.from way.object)
        (λ n. HasCard field n.object n.to)
    go Away h = tt
    go (Live held) h = tt
    go (Leaving to held) h = to-there to h
    go (Cancelling to held) h = to-there to h

  -- the cards at rest are as many
  pub rested-long : (field : List (List Card)) → Onward way start field → IsAsLong start (rested field way)
  rested-long field on = go (awaited_in field way) refl where
    from-card : (n : Note) → awaited_in field way ≡ Some n
        → HasCard field n.object n.to × HasCard field n.object n.from
    from-card n e = by (card_at field way.object way.from).phase on.goes e where
      by : (p : Phase) → GoesTo way.to p
          → awaited p (card_at field way.object way.from).trip way.from way.object ≡ Some n
          → HasCard field n.object n.to × HasCard field n.object n.from
      by Away h e = absurd (cc)
      by (Live held) h e = absurd (cc)
      by (Leaving to held) h e =
          let it : offer_of way.object (card_at field way.object way.from).trip way.from to held ≡ n = cc in
          subst (λ (x : Note). HasCard field x.object x.to × HasCard field x.object x.from) it (
            subst (λ (r : ℕ). HasCard field way.object r) (sym h)
                (has-long start field on.long way.object way.to has.1),
            has-long start field on.long way.object way.from has.0,
          )
      by (Cancelling to held) h e =
          let it : cancel_of way.object (card_at field way.object way.from).trip way.from to ≡ n = cc in
          subst (λ (x : Note). HasCard field x.object x.to × HasCard field x.object x.from) it (
            subst (λ (r : ℕ). HasCard field way.object r) (sym h)
                (has-long start field on.long way.object way.to has.1),
            has-long start field on.long way.object way.from has.0,
          )

    answer-long : (n : Note) → HasCard field n.object n.to → HasCard field n.object n.from → (o : Option Note)
        → IsAnswerTo n o → IsAsLong start (received (does field (Deliver n)).0 o).0
    answer-long n to from None is =
        long-on start field (does field (Deliver n)).0 on.long (done-long field (Deliver n) to)
    answer-long n to from (Some a) is =
        let once = done-long field (Deliver n) to in
        let there : HasCard (does field (Deliver n)).0 a.object a.to =
        has-long field (does field (Deliver n)).0 once a.object a.to
        (subst (λ (o : ℕ). HasCard field o a.to) (sym is.0)
        (subst (λ (r : ℕ). HasCard field n.object r) (sym is.3) from)) in
        long-on start (does field (Deliver n)).0 (does (does field (Deliver n)).0 (Deliver a)).0
        (long-on start field (does field (Deliver n)).0 on.long once)
        (done-long (does field (Deliver n)).0 (Deliver a) there)

    go : (o : Option Note) → awaited_in field way ≡ o → IsAsLong start (answered (received field o))
    go None e = on.long
    go (Some n) e =
        let there = from-card n e in
        answer-long n there.0 there.1 (does field (Deliver n)).1
        (answer-delivered n.kind (card_at field n.object n.to) n)

-- as many objects and regions as before
pub counts-long : (objects regions : ℕ) (old new : List (List Card)) → HasCounts objects regions old
    → IsAsLong old new → HasCounts objects regions new
counts-long objects regions old new counts long = record {
  rows = long.rows ∙ counts.rows;
  cards = λ object one. long.cards object ∙ counts.cards object one;
}

-- a note that was read has its cards
pub note-there : (objects regions : ℕ) (start field : List (List Card)) → HasCounts objects regions start
    → IsAsLong start field → (note : Note) → IsNote objects regions note → HasCard field note.object note.to
note-there objects regions start field counts long note is =
    has-long start field long note.object note.to (
      subst (λ (n : ℕ). IsOneOf n note.object) (sym counts.rows) is.object,
      subst (λ (n : ℕ). IsOneOf n note.to) (sym (counts.cards note.object is.object)) is.to,
    )

pub heard-there : (objects regions : ℕ) (Takes : Note → Type 0) (start field : List (List Card))
    → HasCounts objects regions start → IsAsLong start field → (bytes : Option (List ℕ)) (back : Option Note)
    → IsHeard objects regions Takes bytes back → IfSome back (λ n. HasCard field n.object n.to)
heard-there objects regions Takes start field counts long None None heard = tt
heard-there objects regions Takes start field counts long None (Some note) heard = absurd heard
heard-there objects regions Takes start field counts long (Some bytes) None heard = tt
heard-there objects regions Takes start field counts long (Some bytes) (Some note) heard =
    note-there objects regions start field counts long note heard.0.is
