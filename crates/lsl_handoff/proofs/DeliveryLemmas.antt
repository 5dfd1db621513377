-- Each delivery keeps what holds of its object.
use Rattle.std.proofs.Common.{◌≡◌, ◌≢◌, ◌∙◌, refl, sym, ap, subst, ℕ, ◌<◌, ◌≤◌, nat_eq, nat_lt, Bool, true, false, if◌then◌else◌, List, Some, None, arith}
use Rattle.std.proofs.lemmas.Bool.{eqb-true, ltb-true, ltb-false}
use Rattle.lsl_handoff.specs.declared.card.Card.{Card}
use Rattle.lsl_handoff.specs.declared.card.Phase.{Phase}
use Rattle.lsl_handoff.specs.declared.card.Phase.TheVariants.{Away, Live, Leaving, Cancelling}
use Rattle.lsl_handoff.specs.declared.note.Note.{Note}
use Rattle.lsl_handoff.specs.declared.note.NoteKind.{NoteKind}
use Rattle.lsl_handoff.specs.declared.note.NoteKind.TheVariants.{Offer, Taken, Cancel, Refused}
use Rattle.lsl_handoff.specs.Notes.{answer_of}
use Rattle.lsl_handoff.specs.Rules.{delivered, known_answer, was_refused, was_taken}
use Rattle.lsl_handoff.proofs.Holding.{Fits, Holds, IsCancelling, IsOffering, IsSettled, Keeps, Known, Leads, OrSent}
use Rattle.lsl_handoff.proofs.EventLemmas.{keeps-none, keeps-note, leads-if, leads-same}
use Rattle.lsl_handoff.proofs.HoldLemmas.{cancel-holder, hold-closing, hold-refused, hold-taken, hold-taking, offer-holder, refused-holder, taken-elsewhere}
use Rattle.lsl_handoff.proofs.KeptLemmas.{kept_by_refused, kept_by_rise, kept_by_taken}
use Rattle.lsl_handoff.proofs.SentLemmas.{cancel-asked, closing-sent, offer-asked, refused-sent_cancel, refused-sent_offer, taken-sent_cancel, taken-sent_offer, taking-sent, took-sent_cancel, took-sent_offer}

module _ (regions : ℕ) (at : ℕ → Card) (sent : Note → Type 0) (parcel : List ℕ) (keeps : Keeps regions at sent parcel)
    (note : Note) (k : Known regions at keeps.holder note) where
  -- the answer goes back
  answer-known : (kind : NoteKind) → Fits at (answer_of kind note) kind
      → Known regions at keeps.holder (answer_of kind note)
  answer-known kind fits = record {
    from = k.to;
    to = k.from;
    apart = λ e. k.apart (sym e);
    below = k.below;
    fits = fits;
  }

  -- a question of this trip or an earlier one is answered by its outcome
  module _ (past : note.trip < (at note.to).trip → Fits at (answer_of Taken note) Taken)
      (took : (at note.to).trip ≡ note.trip → (at note.to).took ≡ true → Fits at (answer_of Taken note) Taken)
      (refused : (at note.to).trip ≡ note.trip → (at note.to).took ≡ false → Fits at (answer_of Refused note) Refused)
      (known : note.trip ≤ (at note.to).trip) where
    by-took : (b : Bool) → (at note.to).took ≡ b → (at note.to).trip ≡ note.trip
        → Known regions at keeps.holder (if b then answer_of Taken note else answer_of Refused note)
    by-took true is same = answer-known Taken (took same is)
    by-took false is same = answer-known Refused (refused same is)

    by-trip : (b : Bool) → nat_lt note.trip (at note.to).trip ≡ b
        → Known regions at keeps.holder (if b then answer_of Taken note
        else if (at note.to).took then answer_of Taken note else answer_of Refused note)
    by-trip true is = answer-known Taken (past (ltb-true note.trip (at note.to).trip is))
    by-trip false is =
        let least : (at note.to).trip ≤ note.trip = ltb-false note.trip (at note.to).trip is in
        by-took (at note.to).took refl (omega (arith, least, known))

    pub leads-known : Leads regions at sent note.to parcel (at note.to, Some (known_answer (at note.to) note))
    leads-known = leads-same regions at sent note.to parcel (at note.to) (Some (known_answer (at note.to) note)) refl
        (keeps-note regions at sent parcel (known_answer (at note.to) note) keeps
        (by-trip (nat_lt note.trip (at note.to).trip) refl))

  -- an offer of a later trip is taken
  module _ (later : (at note.to).trip < note.trip) (fits : Fits at note Offer) (new : ℕ → Card)
      (here : new note.to ≡ record { trip = note.trip; took = true; phase = Live note.parcel })
      (same : (q : ℕ) → q ≢ note.to → new q ≡ at q) where
    offerer : note.from ≡ keeps.holder
    offerer = offer-holder regions at at parcel keeps.holder keeps.holds note later fits

    asked : ((at keeps.holder).trip ≡ note.trip) × IsOffering (at keeps.holder).phase note.to note.parcel
    asked = subst (λ (r : ℕ). ((at r).trip ≡ note.trip) × IsOffering (at r).phase note.to note.parcel) offerer
        (offer-asked at note later fits)

    trip-taken : (new note.to).trip ≡ (at keeps.holder).trip
    trip-taken = ap (λ (c : Card). c.trip) here ∙ sym asked.0

    taker-apart : note.to ≢ keeps.holder
    taker-apart e = k.apart (offerer ∙ sym e)

    taker-low : (at note.to).trip < (at keeps.holder).trip
    taker-low = omega (arith, later, asked.0)

    settled-taken : IsSettled (new note.to).phase
    settled-taken = subst IsSettled (sym (ap (λ (c : Card). c.phase) here)) tt

    holds-taken : Holds regions new parcel note.to
    holds-taken = hold-taking regions at new parcel keeps.holder keeps.holds note.to k.to taker-apart taker-low
        note.parcel asked.1 trip-taken (ap (λ (c : Card). c.took) here) (ap (λ (c : Card). c.phase) here) same

    known-taken : (other : Note) → sent other → Known regions new note.to other
    known-taken other old =
        let o = keeps.known other old in
        record {
          from = o.from;
          to = o.to;
          apart = o.apart;
          below = omega (arith, o.below, trip-taken);
          fits = kept_by_rise regions at new parcel keeps.holder other keeps.holds o.below note.to taker-apart taker-low
              trip-taken settled-taken same other.kind o.fits;
        }

    answer-taken : Known regions new note.to (answer_of Taken note)
    answer-taken = record {
      from = k.to;
      to = k.from;
      apart = λ e. k.apart (sym e);
      below = omega (arith, ap (λ (c : Card). c.trip) here);
      fits = taking-sent at new note (ap (λ (c : Card). c.trip) here) (same note.from k.apart)
          (ap (λ (c : Card). c.took) here) (offer-asked at note later fits).1;
    }

    pub taking-keeps : Keeps regions new (OrSent sent (Some (answer_of Taken note))) parcel
    taking-keeps = keeps-note regions new sent parcel (answer_of Taken note)
        (record { holder = note.to; holds = holds-taken; known = known-taken }) answer-taken

  -- a cancel of a later trip closes its region to it
  module _ (later : (at note.to).trip < note.trip) (fits : Fits at note Cancel) (new : ℕ → Card)
      (here : new note.to ≡ record { trip = note.trip; took = false; phase = Away })
      (same : (q : ℕ) → q ≢ note.to → new q ≡ at q) where
    canceller : note.from ≡ keeps.holder
    canceller = cancel-holder regions at at parcel keeps.holder keeps.holds note later fits

    called : ((at keeps.holder).trip ≡ note.trip) × IsCancelling (at keeps.holder).phase note.to
    called = subst (λ (r : ℕ). ((at r).trip ≡ note.trip) × IsCancelling (at r).phase note.to) canceller
        (cancel-asked at note later fits)

    trip-closed : (new note.to).trip ≡ (at keeps.holder).trip
    trip-closed = ap (λ (c : Card). c.trip) here ∙ sym called.0

    closed-apart : note.to ≢ keeps.holder
    closed-apart e = k.apart (canceller ∙ sym e)

    closed-low : (at note.to).trip < (at keeps.holder).trip
    closed-low = omega (arith, later, called.0)

    settled-closed : IsSettled (new note.to).phase
    settled-closed = subst IsSettled (sym (ap (λ (c : Card). c.phase) here)) tt

    holds-closed : Holds regions new parcel keeps.holder
    holds-closed = hold-closing regions at new parcel keeps.holder keeps.holds note.to same closed-apart called.1
        closed-low trip-closed (ap (λ (c : Card). c.took) here) (ap (λ (c : Card). c.phase) here)

    holder-stays : new keeps.holder ≡ at keeps.holder
    holder-stays = same keeps.holder (λ e. closed-apart (sym e))

    known-closed : (other : Note) → sent other → Known regions new keeps.holder other
    known-closed other old =
        let o = keeps.known other old in
        record {
          from = o.from;
          to = o.to;
          apart = o.apart;
          below = omega (arith, o.below, ap (λ (c : Card). c.trip) holder-stays);
          fits = kept_by_rise regions at new parcel keeps.holder other keeps.holds o.below note.to closed-apart
              closed-low trip-closed settled-closed same other.kind o.fits;
        }

    answer-closed : Known regions new keeps.holder (answer_of Refused note)
    answer-closed = record {
      from = k.to;
      to = k.from;
      apart = λ e. k.apart (sym e);
      below = omega (arith, k.below, ap (λ (c : Card). c.trip) holder-stays);
      fits = closing-sent at new note (ap (λ (c : Card). c.trip) here) (same note.from k.apart)
          (ap (λ (c : Card). c.took) here) (cancel-asked at note later fits).0 (cancel-asked at note later fits).1;
    }

    pub closing-keeps : Keeps regions new (OrSent sent (Some (answer_of Refused note))) parcel
    closing-keeps = keeps-note regions new sent parcel (answer_of Refused note)
        (record { holder = keeps.holder; holds = holds-closed; known = known-closed }) answer-closed

  -- another region hears that the object was taken
  module _ (other : note.to ≢ keeps.holder) (new : ℕ → Card) (here : new note.to ≡ record (at note.to) { phase = Away })
      (same : (q : ℕ) → q ≢ note.to → new q ≡ at q) where
    away : (new note.to).phase ≡ Away
    away = ap (λ (c : Card). c.phase) here

    kept-away : (old : Note) → sent old → Known regions new keeps.holder old
    kept-away old was =
        let o = keeps.known old was in
        record {
          from = o.from;
          to = o.to;
          apart = o.apart;
          below = omega (arith, o.below, ap (λ (c : Card). c.trip) (same keeps.holder (λ e. other (sym e))));
          fits = kept_by_taken regions at new parcel keeps.holder old keeps.holds o.below note.to other
              (ap (λ (c : Card). c.trip) here) (ap (λ (c : Card). c.took) here) away same old.kind o.fits;
        }

    pub taken-keeps : Keeps regions new (OrSent sent None) parcel
    taken-keeps = keeps-none regions new sent parcel (record {
      holder = keeps.holder;
      holds = hold-taken regions at new parcel keeps.holder keeps.holds note.to same other
          (ap (λ (c : Card). c.trip) here) (ap (λ (c : Card). c.took) here) away;
      known = kept-away;
    })

  -- the holder hears that the object was refused
  module _ (to : ℕ) (held : List ℕ) (was : (at keeps.holder).phase ≡ Cancelling to held)
      (answered : (at to).trip ≡ (at keeps.holder).trip) (new : ℕ → Card)
      (here : new keeps.holder ≡ record (at keeps.holder) { phase = Live held })
      (same : (q : ℕ) → q ≢ keeps.holder → new q ≡ at q) where
    kept-back : (old : Note) → sent old → Known regions new keeps.holder old
    kept-back old is =
        let o = keeps.known old is in
        record {
          from = o.from;
          to = o.to;
          apart = o.apart;
          below = omega (arith, o.below, ap (λ (c : Card). c.trip) here);
          fits = kept_by_refused regions at new parcel keeps.holder old keeps.holds o.below held to old.kind was
              answered
              (ap (λ (c : Card). c.trip) here) (ap (λ (c : Card). c.took) here) (ap (λ (c : Card). c.phase) here) same
              o.fits;
        }

    pub refused-keeps : Keeps regions new (OrSent sent None) parcel
    refused-keeps = keeps-none regions new sent parcel (record {
      holder = keeps.holder;
      holds = hold-refused regions at new parcel keeps.holder keeps.holds same to held was
          (ap (λ (c : Card). c.trip) here) (ap (λ (c : Card). c.took) here) (ap (λ (c : Card). c.phase) here);
      known = kept-back;
    })

  -- a card with the phase that it had
  same-phase : (phase : Phase) → (at note.to).phase ≡ phase → record (at note.to) { phase = phase } ≡ at note.to
  same-phase phase is = λ i. record (at note.to) { phase = sym is i }

  unmoved : (phase : Phase) → (at note.to).phase ≡ phase
      → Leads regions at sent note.to parcel (record (at note.to) { phase = phase }, None)
  unmoved phase is = leads-same regions at sent note.to parcel (record (at note.to) { phase = phase }) None
      (same-phase phase is) (keeps-none regions at sent parcel keeps)

  unheard : Leads regions at sent note.to parcel (at note.to, None)
  unheard = leads-same regions at sent note.to parcel (at note.to) None refl (keeps-none regions at sent parcel keeps)

  module _ (same : (at note.to).trip ≡ note.trip) where
    hears-taken : Fits at note Taken → (phase : Phase) → (at note.to).phase ≡ phase
        → Leads regions at sent note.to parcel (record (at note.to) { phase = was_taken phase }, None)
    hears-taken fits Away is = unmoved Away is
    hears-taken fits (Live held) is = unmoved (Live held) is
    hears-taken fits (Leaving to held) is = taken-keeps (taken-elsewhere regions at at parcel keeps.holder keeps.holds
        note same k.apart fits (λ h live. cc) (λ away. cc))
    hears-taken fits (Cancelling to held) is = taken-keeps (taken-elsewhere regions at at parcel keeps.holder
        keeps.holds note same k.apart fits (λ h live. cc) (λ away. cc))

    hears-refused : Fits at note Refused → (phase : Phase) → (at note.to).phase ≡ phase
        → Leads regions at sent note.to parcel (record (at note.to) { phase = was_refused phase }, None)
    hears-refused fits Away is = unmoved Away is
    hears-refused fits (Live held) is = unmoved (Live held) is
    hears-refused fits (Leaving to held) is = unmoved (Leaving to held) is
    hears-refused fits (Cancelling to held) is =
        let it = refused-holder regions at at parcel keeps.holder keeps.holds note to held same is fits in
        let was : (at keeps.holder).phase ≡ Cancelling to held =
        subst (λ (r : ℕ). (at r).phase ≡ Cancelling to held) it.0 is in
        let answered : (at to).trip ≡ (at keeps.holder).trip =
        ap (λ (r : ℕ). (at r).trip) it.1 ∙ it.2 ∙ sym same ∙ ap (λ (r : ℕ). (at r).trip) it.0 in
        subst (λ (r : ℕ). Leads regions at sent r parcel (record (at r) { phase = Live held }, None)) (sym it.0)
        (refused-keeps to held was answered)

  pub leads-delivered : (kind : NoteKind) → Fits at note kind
      → Leads regions at sent note.to parcel (delivered kind (at note.to) note)
  leads-delivered Offer fits = leads-if regions at sent note.to parcel (nat_lt (at note.to).trip note.trip)
      (record { trip = note.trip; took = true; phase = Live note.parcel }, Some (answer_of Taken note))
      (at note.to, Some (known_answer (at note.to) note))
      (λ is new here same. taking-keeps (ltb-true (at note.to).trip note.trip is) fits new here same)
      (λ is. leads-known (λ past. taken-sent_offer regions at parcel keeps.holder keeps.holds note past fits)
      (λ same took. took-sent_offer regions at parcel keeps.holder keeps.holds note same took fits)
      (λ same took. refused-sent_offer regions at parcel keeps.holder keeps.holds note same took fits)
      (ltb-false (at note.to).trip note.trip is))
  leads-delivered Cancel fits = leads-if regions at sent note.to parcel (nat_lt (at note.to).trip note.trip)
      (record { trip = note.trip; took = false; phase = Away }, Some (answer_of Refused note))
      (at note.to, Some (known_answer (at note.to) note))
      (λ is new here same. closing-keeps (ltb-true (at note.to).trip note.trip is) fits new here same)
      (λ is. leads-known (λ past. taken-sent_cancel regions at parcel keeps.holder keeps.holds note past fits)
      (λ same took. took-sent_cancel regions at parcel keeps.holder keeps.holds note same took fits)
      (λ same took. refused-sent_cancel regions at parcel keeps.holder keeps.holds note same took fits)
      (ltb-false (at note.to).trip note.trip is))
  leads-delivered Taken fits = leads-if regions at sent note.to parcel (nat_eq (at note.to).trip note.trip)
      (record (at note.to) { phase = was_taken (at note.to).phase }, None) (at note.to, None)
      (λ is. hears-taken (eqb-true (at note.to).trip note.trip is) fits (at note.to).phase refl) (λ is. unheard)
  leads-delivered Refused fits = leads-if regions at sent note.to parcel (nat_eq (at note.to).trip note.trip)
      (record (at note.to) { phase = was_refused (at note.to).phase }, None) (at note.to, None)
      (λ is. hears-refused (eqb-true (at note.to).trip note.trip is) fits (at note.to).phase refl) (λ is. unheard)
