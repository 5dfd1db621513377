-- Each event keeps what holds of its object.
use Rattle.std.proofs.Common.{◌≡◌, ◌≢◌, ◌∙◌, refl, sym, ap, subst, ℕ, ◌+◌, ◌≤◌, nat_eq, is_none, ◌⊎◌, Bool, true, false, if◌then◌else◌, List, Option, Some, None, inl, inr, arith}
use Rattle.std.proofs.lemmas.Bool.{cases_eq, eqb-false}
use Rattle.lsl_handoff.specs.declared.card.Card.{Card}
use Rattle.lsl_handoff.specs.declared.card.Phase.{Phase}
use Rattle.lsl_handoff.specs.declared.card.Phase.TheVariants.{Away, Live, Leaving, Cancelling}
use Rattle.lsl_handoff.specs.declared.faults.DepartFault.{DepartFault}
use Rattle.lsl_handoff.specs.declared.faults.DepartFault.TheVariants.{NotLive, Here, LastTrip}
use Rattle.lsl_handoff.specs.declared.note.Note.{Note}
use Rattle.lsl_handoff.specs.declared.note.NoteKind.TheVariants.{Offer, Cancel}
use Rattle.lsl_handoff.specs.Cards.{depart_fault, is_live, last_trip}
use Rattle.lsl_handoff.specs.Fields.{IsOneOf}
use Rattle.lsl_handoff.specs.Notes.{cancel_of, offer_of}
use Rattle.lsl_handoff.specs.Rules.{Effect, awaited, call_back, departs_unless}
use Rattle.lsl_handoff.proofs.Holding.{Fits, Holds, Keeps, Known, Leads, OrSent}
use Rattle.lsl_handoff.proofs.HoldLemmas.{hold-departure, hold-giving_up, cancelling-apart, cancelling-there, leaving-apart, leaving-there, live-holder}
use Rattle.lsl_handoff.proofs.KeptLemmas.{kept_by_departure, kept_by_giving_up}
use Rattle.lsl_handoff.proofs.SentLemmas.{cancel-sent, offer-sent}

module _ (regions : ℕ) (at : ℕ → Card) (sent : Note → Type 0) where
  -- what is known of the notes that were sent, and of one more
  known-more : (holder : ℕ) (n : Note) → ((note : Note) → sent note → Known regions at holder note)
      → Known regions at holder n → (note : Note) → OrSent sent (Some n) note → Known regions at holder note
  known-more holder n before one note (inl old) = before note old
  known-more holder n before one note (inr is) =
      let e : n ≡ note = cc in
      subst (λ (x : Note). Known regions at holder x) e one

  known-none : (holder : ℕ) → ((note : Note) → sent note → Known regions at holder note)
      → (note : Note) → OrSent sent None note → Known regions at holder note
  known-none holder before note (inl old) = before note old
  known-none holder before note (inr is) = cc

  pub keeps-note : (parcel : List ℕ) (n : Note) (keeps : Keeps regions at sent parcel)
      → Known regions at keeps.holder n → Keeps regions at (OrSent sent (Some n)) parcel
  keeps-note parcel n keeps one = record {
    holder = keeps.holder;
    holds = keeps.holds;
    known = known-more keeps.holder n keeps.known one;
  }

  pub keeps-none : (parcel : List ℕ) → Keeps regions at sent parcel → Keeps regions at (OrSent sent None) parcel
  keeps-none parcel keeps = record {
    holder = keeps.holder;
    holds = keeps.holds;
    known = known-none keeps.holder keeps.known;
  }

  -- no card changes
  module _ (region : ℕ) (parcel : List ℕ) where
    all-same : (new : ℕ → Card) → new region ≡ at region → ((q : ℕ) → q ≢ region → new q ≡ at q) → at ≡ new
    all-same new here same = λ i q. (each q (cases_eq q region)) i
      where
        each : (q : ℕ) → (q ≡ region) ⊎ (q ≢ region) → at q ≡ new q
        each q (inl is) = ap at is ∙ sym here ∙ ap new (sym is)
        each q (inr other) = sym (same q other)

    pub leads-same : (card : Card) (more : Option Note) → card ≡ at region → Keeps regions at (OrSent sent more) parcel
        → Leads regions at sent region parcel (card, more)
    leads-same card more is keeps new here same =
        subst (λ (f : ℕ → Card). Keeps regions f (OrSent sent more) parcel) (all-same new (here ∙ is) same) keeps

    pub leads-if : (b : Bool) (x y : Effect) → (b ≡ true → Leads regions at sent region parcel x)
        → (b ≡ false → Leads regions at sent region parcel y)
        → Leads regions at sent region parcel (if b then x else y)
    leads-if true x y when otherwise = when refl
    leads-if false x y when otherwise = otherwise refl

-- an object with no fault to depart is live, and goes elsewhere
live-to-go : (phase : Phase) (rest : Option DepartFault) → (if is_live phase then rest else Some NotLive) ≡ None
    → (held : List ℕ) × (phase ≡ Live held) × (rest ≡ None)
live-to-go Away rest e = cc
live-to-go (Live held) rest e = (held, refl, e)
live-to-go (Leaving to held) rest e = cc
live-to-go (Cancelling to held) rest e = cc

elsewhere-to-go : (b : Bool) (rest : Option DepartFault) → (if b then Some Here else rest) ≡ None → b ≡ false
elsewhere-to-go true rest e = cc
elsewhere-to-go false rest e = refl

module _ (regions : ℕ) (at : ℕ → Card) (sent : Note → Type 0) (parcel : List ℕ) (keeps : Keeps regions at sent parcel)
  where
    -- a departure that does something
    module _ (region object to : ℕ) (next held : List ℕ) (was : (at region).phase ≡ Live held) (apart : to ≢ region)
        (there : IsOneOf regions to) (new : ℕ → Card)
        (here : new region ≡ record { trip = (at region).trip + 1; took = false; phase = Leaving to next })
        (same : (q : ℕ) → q ≢ region → new q ≡ at q) where
      is-held : region ≡ keeps.holder
      is-held = live-holder regions at at parcel keeps.holder keeps.holds region held was

      holds-here : Holds regions at parcel region
      holds-here = subst (Holds regions at parcel) (sym is-held) keeps.holds

      holds-new : Holds regions new next region
      holds-new = hold-departure regions at new parcel region holds-here same next held to was apart there
          (ap (λ (c : Card). c.trip) here) (ap (λ (c : Card). c.phase) here)

      known-old : (note : Note) → sent note → Known regions new region note
      known-old note old =
          let k : Known regions at region note =
          subst (λ (h : ℕ). Known regions at h note) (sym is-held) (keeps.known note old) in
          let trip : (new region).trip ≡ (at region).trip + 1 = ap (λ (c : Card). c.trip) here in
          record {
            from = k.from;
            to = k.to;
            apart = k.apart;
            below = omega (arith, k.below);
            fits = kept_by_departure regions at new parcel region note holds-here k.below next held to note.kind
                was trip
                (ap (λ (c : Card). c.took) here) (ap (λ (c : Card). c.phase) here) same k.fits;
          }

      offer : Note
      offer = offer_of object ((at region).trip + 1) region to next

      known-offer : Known regions new region offer
      unfolding offer
      known-offer =
          let trip : (new region).trip ≡ (at region).trip + 1 = ap (λ (c : Card). c.trip) here in
          record {
            from = holds-here.there;
            to = there;
            apart = λ e. apart (sym e);
            below = omega arith;
            fits = subst (λ (n : ℕ). Fits new (offer_of object n region to next) Offer) trip
                (offer-sent regions new next region holds-new object region to next (ap (λ (c : Card). c.phase) here));
          }

      pub departure-keeps : Keeps regions new
          (OrSent sent (Some (offer_of object ((at region).trip + 1) region to next)))
          next
      unfolding offer
      departure-keeps = keeps-note regions new sent next (offer_of object ((at region).trip + 1) region to next)
          (record { holder = region; holds = holds-new; known = known-old }) known-offer

    -- a region sends again what it sent
    known-sent : (object region to : ℕ) (held : List ℕ) → IsOneOf regions region → IsOneOf regions to → to ≢ region
        → (at region).phase ≡ Leaving to held
        → Known regions at keeps.holder (offer_of object (at region).trip region to held)
    known-sent object region to held from there apart is = record {
      from = from;
      to = there;
      apart = λ e. apart (sym e);
      below = keeps.holds.greatest region;
      fits = offer-sent regions at parcel keeps.holder keeps.holds object region to held is;
    }

    known-cancel : (object region to : ℕ) (held : List ℕ) → IsOneOf regions region → IsOneOf regions to → to ≢ region
        → (at region).phase ≡ Cancelling to held
        → Known regions at keeps.holder (cancel_of object (at region).trip region to)
    known-cancel object region to held from there apart is = record {
      from = from;
      to = there;
      apart = λ e. apart (sym e);
      below = keeps.holds.greatest region;
      fits = cancel-sent regions at parcel keeps.holder keeps.holds object region to held is;
    }

    pub leads-again : (region object : ℕ) → IsOneOf regions region → (phase : Phase) → (at region).phase ≡ phase
        → Leads regions at sent region parcel (at region, awaited phase (at region).trip region object)
    leads-again region object from Away is =
        leads-same regions at sent region parcel (at region) None refl (keeps-none regions at sent parcel keeps)
    leads-again region object from (Live held) is =
        leads-same regions at sent region parcel (at region) None refl (keeps-none regions at sent parcel keeps)
    leads-again region object from (Leaving to held) is =
        leads-same regions at sent region parcel (at region)
        (Some (offer_of object (at region).trip region to held)) refl
        (keeps-note regions at sent parcel (offer_of object (at region).trip region to held) keeps
        (known-sent object region to held from
        (leaving-there regions at at parcel keeps.holder keeps.holds region to held is)
        (leaving-apart regions at at parcel keeps.holder keeps.holds region to held is) is))
    leads-again region object from (Cancelling to held) is =
        leads-same regions at sent region parcel (at region) (Some (cancel_of object (at region).trip region to)) refl
        (keeps-note regions at sent parcel (cancel_of object (at region).trip region to) keeps
        (known-cancel object region to held from
        (cancelling-there regions at at parcel keeps.holder keeps.holds region to held is)
        (cancelling-apart regions at at parcel keeps.holder keeps.holds region to held is) is))

    pub leads-departing : (region object to : ℕ) (next : List ℕ) → IsOneOf regions to → (fault : Option DepartFault)
        → depart_fault (at region) region to ≡ fault
        → Leads regions at sent region (if is_none fault then next else parcel)
        (departs_unless fault (at region) region object to next)
    leads-departing region object to next there (Some fault) is =
        leads-same regions at sent region parcel (at region) None refl (keeps-none regions at sent parcel keeps)
    leads-departing region object to next there None is =
        let live = live-to-go (at region).phase (if nat_eq to region then Some Here else
        if nat_eq (at region).trip last_trip then Some LastTrip else None) is in
        let apart : to ≢ region = eqb-false to region (elsewhere-to-go (nat_eq to region)
        (if nat_eq (at region).trip last_trip then Some LastTrip else None) live.2) in
        λ new here same. departure-keeps region object to next live.0 live.1 apart there new here same

    -- a region calls back what is leaving
    module _ (region object to : ℕ) (held : List ℕ) (from : IsOneOf regions region)
        (was : (at region).phase ≡ Leaving to held) (new : ℕ → Card)
        (here : new region ≡ record (at region) { phase = Cancelling to held })
        (same : (q : ℕ) → q ≢ region → new q ≡ at q) where
      trip-stays : (new region).trip ≡ (at region).trip
      trip-stays = ap (λ (c : Card). c.trip) here

      took-stays : (new region).took ≡ (at region).took
      took-stays = ap (λ (c : Card). c.took) here

      cancels : (new region).phase ≡ Cancelling to held
      cancels = ap (λ (c : Card). c.phase) here

      holds-called : Holds regions new parcel keeps.holder
      holds-called = hold-giving_up regions at new parcel keeps.holder keeps.holds region same to held was trip-stays
          took-stays cancels

      known-called : (note : Note) → sent note → Known regions new keeps.holder note
      known-called note old =
          let k = keeps.known note old in
          let holder_trip : (at keeps.holder).trip ≤ (new keeps.holder).trip = grind arith in
          record {
            from = k.from;
            to = k.to;
            apart = k.apart;
            below = omega (arith, k.below, holder_trip);
            fits = kept_by_giving_up regions at new parcel keeps.holder note keeps.holds k.below held region to was
                trip-stays took-stays cancels same note.kind k.fits;
          }

      known-back : Known regions new keeps.holder (cancel_of object (at region).trip region to)
      known-back = record {
        from = from;
        to = leaving-there regions at at parcel keeps.holder keeps.holds region to held was;
        apart = λ e. leaving-apart regions at at parcel keeps.holder keeps.holds region to held was (sym e);
        below = omega (arith, holds-called.greatest region, trip-stays);
        fits = subst (λ (n : ℕ). Fits new (cancel_of object n region to) Cancel) trip-stays
            (cancel-sent regions new parcel keeps.holder holds-called object region to held cancels);
      }

      pub giving_up-keeps : Keeps regions new (OrSent sent (Some (cancel_of object (at region).trip region to))) parcel
      giving_up-keeps = keeps-note regions new sent parcel (cancel_of object (at region).trip region to)
          (record { holder = keeps.holder; holds = holds-called; known = known-called }) known-back

    pub leads-giving_up : (region object : ℕ) → IsOneOf regions region → (phase : Phase) → (at region).phase ≡ phase
        → Leads regions at sent region parcel (call_back phase (at region) region object)
    leads-giving_up region object from Away is =
        leads-same regions at sent region parcel (at region) None refl (keeps-none regions at sent parcel keeps)
    leads-giving_up region object from (Live held) is =
        leads-same regions at sent region parcel (at region) None refl (keeps-none regions at sent parcel keeps)
    leads-giving_up region object from (Leaving to held) is = λ new here same.
        giving_up-keeps region object to held from is new here same
    leads-giving_up region object from (Cancelling to held) is =
        leads-same regions at sent region parcel (at region) None refl (keeps-none regions at sent parcel keeps)
