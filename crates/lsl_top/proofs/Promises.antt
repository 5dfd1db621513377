-- What a call promises, from how it served a command.
use Rattle.std.proofs.Common.{◌≡◌, ◌≢◌, ℕ, List, [], ◌++◌, Option, Some, None, ◌⊎◌, inl, inr, refl, sym, ap, ◌∙◌, subst}
use Rattle.lsl_ports.specs.Counts.{Rose}
use Rattle.lsl_ports.specs.Shelf.{Files}
use Rattle.lsl_ports.specs.Growth.{Begins, Grew, GrewPartly}
use Rattle.lsl_ports.specs.Trips.{Trip, Went, sent_of}
use Rattle.lsl_ports.proofs.Growth.{begins-all, begins-none, grew-none, partly-begins}
use Rattle.lsl_region.specs.Worlds.{World}
use Rattle.lsl_top.specs.Answers.{Answer, Answers, Grade, Due, Written}
use Rattle.lsl_top.specs.Ends.{Ends, Outside}
use Rattle.lsl_top.specs.Fair.{IsFair, IsFairOf}
use Rattle.lsl_top.specs.Froms.{IsFromOf}
use Rattle.lsl_top.specs.Headline.{Outputs, WritesLines}
use Rattle.lsl_top.specs.Named.{IsNamed, NamedRose}
use Rattle.lsl_top.specs.Ports.{HasAnswer, IsOwn, Ports, Serves, gives_by}
use Rattle.lsl_top.specs.Promise.{Keeps, KeepsOf, KeepsTo, RunsNothing, SendsNothing, WritesNothing, Wrote}
use Rattle.lsl_top.specs.Words.{Command}
use Rattle.lsl_top.specs.declared.status.Status.{Status}
use Rattle.lsl_top.specs.declared.status.Status.TheVariants.{Ok, Usage, BadWorld, BadScript, ReadFault, WriteFault, BadImage, NoMemory, BadNote}
use Rattle.lsl_top.proofs.KeptFrom.{keeps_of-from}
use Rattle.lsl_top.proofs.OneAnswer.{answers-one}
use Rattle.lsl_top.proofs.Outputs.{outputs-answer, outputs-fit}
use Rattle.lsl_top.proofs.Pieces.{begun-partly, begun-sends}
use Rattle.lsl_top.proofs.Trips.{none-by, went-by, went-told}

module _ (files : Files) (from : World) (command : Command) (trips : List Trip) (lines : List ℕ)
    (outputs : Outputs files from command trips lines) (fair : IsFairOf command trips) (old new : Option (List ℕ)) where
  abbrev IsThis : Grade → Answer → Type 0
  IsThis grade = Answers grade (Some files) from trips command

  -- an answer that was written whole is these lines
  wrote-lines : (status : Status) → Wrote (IsThis Written) status trips old new → (status ≡ Ok) × Grew old new lines
  wrote-lines status (answer, h, e, whole) =
      let out = outputs-answer Written files from command trips lines answer outputs h fair
      (subst (λ (z : List (List ℕ)). Begins (sent_of trips) z) whole.sent (begins-all (sent_of trips))) in
      (sym e ∙ out.well, subst (λ (z : List ℕ). Grew old new z) out.is whole.written)

  -- a prefix of them was written, or nothing
  wrote-part : KeepsTo IsThis NoMemory trips old new → GrewPartly old new lines
  wrote-part (inl e) =
      subst (λ z. GrewPartly old z lines) (sym e.0)
      (partly-begins old old [] lines (grew-none old) (begins-none lines))
  wrote-part (inr (answer, h, begun)) =
      let out = outputs-answer Due files from command trips lines answer outputs h fair
      (begun-sends answer.pieces trips old new begun) in
      subst (λ (z : List ℕ). GrewPartly old new z) out.is (begun-partly answer.pieces trips old new begun)

  -- all of it was written, or memory ran out
  kept-lines : (status : Status) → KeepsTo IsThis status trips old new → status ≢ Usage → status ≢ ReadFault
      → status ≢ WriteFault → WritesLines lines status old new
  kept-lines Ok k u r w = inl (wrote-lines Ok k)
  kept-lines BadWorld k u r w = inl (wrote-lines BadWorld k)
  kept-lines BadScript k u r w = inl (wrote-lines BadScript k)
  kept-lines BadImage k u r w = inl (wrote-lines BadImage k)
  kept-lines BadNote k u r w = inl (wrote-lines BadNote k)
  kept-lines NoMemory k u r w = inr (refl, wrote-part k)
  kept-lines Usage k u r w = absurd (u refl)
  kept-lines ReadFault k u r w = absurd (r refl)
  kept-lines WriteFault k u r w = absurd (w refl)

-- a status is an answer's own, or one of these
own-status : (status : Status) → status ≢ Usage → status ≢ ReadFault → status ≢ WriteFault
    → IsOwn status ⊎ (status ≡ NoMemory)
own-status Ok u r w = inl tt
own-status BadWorld u r w = inl tt
own-status BadScript u r w = inl tt
own-status BadImage u r w = inl tt
own-status BadNote u r w = inl tt
own-status NoMemory u r w = inr refl
own-status Usage u r w = absurd (u refl)
own-status ReadFault u r w = absurd (r refl)
own-status WriteFault u r w = absurd (w refl)

module _ (gives : List ℕ → Option (List ℕ) → Type 0) (held : Option Files) (words : Option Command)
    (command : Command) (is : words ≡ Some command) (old new : Ports) (status : Status)
    (h : Serves (gives_by command gives) (IsFairOf command) (λ trips. KeepsOf held trips command)
    (λ grade from trips. Answers grade held from trips command) (IsNamed held command) old new status) where
  pub promise-usage : (status ≡ Usage → words ≡ None) × (words ≡ None → status ≡ Usage)
  promise-usage = (λ e. absurd (h.no_usage e), λ e. let both : Some command ≡ None = sym is ∙ e in absurd (cc))

  pub promise-nothing : WritesNothing status → new.log.sunk ≡ old.log.sunk
  promise-nothing n = go status refl n
    where
      go : (s : Status) → status ≡ s → WritesNothing s → new.log.sunk ≡ old.log.sunk
      go ReadFault e n = h.nothing e
      go Usage e n = absurd (h.no_usage e)
      go Ok e n = absurd n
      go BadWorld e n = absurd n
      go BadScript e n = absurd n
      go WriteFault e n = absurd n
      go BadImage e n = absurd n
      go BadNote e n = absurd n
      go NoMemory e n = absurd n

  pub promise-kept : (trips : List Trip) × Went gives old.wire.told new.wire.told trips
      × (SendsNothing status ⊎ RunsNothing words → trips ≡ [])
      × (IsFair words trips → Keeps held trips words status old.log.sunk new.log.sunk)
  promise-kept = (
    h.trips,
    went-by gives command old.wire.told new.wire.told h.trips h.went,
    λ e. elim e [
      | inl nothing ↦ h.silent nothing
      | inr runs ↦ none-by gives command old.wire.told new.wire.told h.trips h.went (subst RunsNothing is runs)
    ],
    λ fair. subst (λ w. Keeps held h.trips w status old.log.sunk new.log.sunk) (sym is)
        (h.keeps (subst (λ (w : Option Command). IsFair w h.trips) is fair)),
  )

  pub promise-read : status ≡ ReadFault → NamedRose held words old.read_faults new.read_faults
  promise-read e = subst (λ w. NamedRose held w old.read_faults new.read_faults) (sym is) (h.read_fault e)

  same : (other : Command) → words ≡ Some other → command ≡ other
  same other e = ap value (sym is ∙ e)
    where
      value : Option Command → Command
      value (Some c) = c
      value None = command

  pub promise-complete : (files : Files) (from : World) (trips : List Trip) (other : Command) (answer : Answer)
      → held ≡ Some files → words ≡ Some other → Answers Due (Some files) from trips other answer
      → (NamedRose held words old.read_faults new.read_faults → ⊥) → (Rose old.log.faults new.log.faults → ⊥)
      → (status ≡ answer.status) ⊎ (status ≡ NoMemory)
  promise-complete files from trips other answer told e answers quiet whole =
      elim (own-status status h.no_usage (λ f. quiet (promise-read f)) (λ f. whole (h.write_fault f))) [
        | inl own ↦ inl (of (h.answers from trips own))
        | inr k ↦ inr k
      ]
    where
      of : HasAnswer (Answers Due held from trips command) status → status ≡ answer.status
      of (mine, k, f) =
          sym f ∙ ap (λ (a : Answer). a.status)
          (answers-one files from trips command Due Due mine answer
          (subst (λ z. Answers Due z from trips command mine) told k)
          (subst (λ c. Answers Due (Some files) from trips c answer) (sym (same other e)) answers))

  pub promise-headline : (files : Files) (from : World) (other : Command) (before trips : List Trip) (lines : List ℕ)
      → held ≡ Some files → words ≡ Some other → old.wire.told ≡ Some before
      → new.wire.told ≡ Some (before ++ trips) → IsFair words trips → Outputs files from other trips lines
      → (NamedRose held words old.read_faults new.read_faults → ⊥) → (Rose old.log.faults new.log.faults → ⊥)
      → WritesLines lines status old.log.sunk new.log.sunk
  promise-headline files from other before trips lines told e tells telling fair outputs quiet whole =
      let mine : h.trips ≡ trips =
      went-told (gives_by command gives) old.wire.told new.wire.told before h.trips trips tells telling h.went in
      let out : Outputs files from command trips lines =
      subst (λ c. Outputs files from c trips lines) (sym (same other e)) outputs in
      let fits : IsFromOf held command from =
      subst (λ z. IsFromOf z command from) (sym told) (outputs-fit files from command trips lines out) in
      let by : IsFairOf command trips = subst (λ (w : Option Command). IsFair w trips) is fair in
      let keeps = keeps_of-from held h.trips command status old.log.sunk new.log.sunk from
      (h.keeps (subst (λ (z : List Trip). IsFairOf command z) (sym mine) by)) fits in
      kept-lines files from command trips lines out by old.log.sunk new.log.sunk status
      (subst (λ (z : List Trip). KeepsTo (λ grade. Answers grade (Some files) from z command) status z old.log.sunk
      new.log.sunk) mine
      (subst (λ z. KeepsTo (λ grade. Answers grade z from h.trips command) status h.trips old.log.sunk new.log.sunk)
      told keeps))
      h.no_usage (λ f. quiet (promise-read f)) (λ f. whole (h.write_fault f))

  -- all of that in one
  abbrev pub outside_of : Ports → Outside
  outside_of p = record {
    held = p.held;
    read_faults = p.read_faults;
    sunk = p.log.sunk;
    write_faults = p.log.faults;
    trips = p.wire.told;
    link_faults = p.wire.faults;
  }

  pub ends-served : old.held ≡ held → Ends gives words (outside_of old) (outside_of new) status
  ends-served e = record {
    usage = promise-usage;
    nothing = promise-nothing;
    kept = subst (λ (z : Option Files). (trips : List Trip) × Went gives old.wire.told new.wire.told trips
        × (SendsNothing status ⊎ RunsNothing words → trips ≡ [])
        × (IsFair words trips → Keeps z trips words status old.log.sunk new.log.sunk)) (sym e) promise-kept;
    read_fault = subst (λ (z : Option Files). status ≡ ReadFault → NamedRose z words old.read_faults new.read_faults)
        (sym e) promise-read;
    write_fault = h.write_fault;
    complete = λ files from trips other answer told is answers calm.
        promise-complete files from trips other answer (sym e ∙ told) is answers
        (λ rose. calm.reads (subst (λ (z : Option Files). NamedRose z words old.read_faults new.read_faults) (sym e) rose))
        calm.writes;
    headline = λ files from other before trips lines told is tells telling fair outputs calm.
        promise-headline files from other before trips lines (sym e ∙ told) is tells telling fair outputs
        (λ rose. calm.reads (subst (λ (z : Option Files). NamedRose z words old.read_faults new.read_faults) (sym e) rose))
        calm.writes;
    unchanged = h.unchanged;
    reads_counted = h.reads_counted;
    writes_counted = h.writes_counted;
    links_counted = h.links_counted;
  }
