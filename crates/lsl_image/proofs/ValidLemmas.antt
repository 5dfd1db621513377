-- Parts that are read are valid: events, and the states that a script is leaving for.
use Rattle.std.proofs.Common.{◌≡◌, ◌≢◌, ◌∙◌, refl, sym, ap, subst, ℕ, zero, suc, ◌<◌, ◌==◌, ◌&&◌, nat_lt, not, cond, eq-eqb, List, [], length, Bool, true, false, Option, Some, None}
use Rattle.std.proofs.lemmas.Bool.{and_parts, false≢true, ltb-true, not-true}
use Rattle.std.proofs.lemmas.List.Elements.{All-from_recursion}
use Rattle.std.specs.Prelude.{All}
use Rattle.lsl_value.specs.declared.names.EventId.{EventId}
use Rattle.lsl_value.specs.declared.names.EventId.TheVariants.{StateExit}
use Rattle.lsl_value.specs.declared.tagged.Kind.{Kind}
use Rattle.lsl_value.specs.declared.tagged.Value.{Value}
use Rattle.lsl_code.specs.declared.woven_units.Woven.{Woven as Code}
use Rattle.lsl_code.specs.Kinds.{kinds_of}
use Rattle.lsl_code.proofs.Sames.{sames_are}
use Rattle.lsl_post.specs.declared.events.Event.{Event}
use Rattle.lsl_post.specs.Fitting.{CanLeave, CanLeaveFor, CanWait}
use Rattle.lsl_image.specs.Layout.{Ends, Refused, U16, ◌>>=◌, values_of}
use Rattle.lsl_image.specs.Script.{event_in, event_numbered, event_of, event_that_may, flagged_leaving, handles, leaving, may_stand, other_state, queue}
use Rattle.lsl_image.specs.declared.faults.ImageFault.TheVariants.{Body}
use Rattle.lsl_image.proofs.GivenLemmas.{Given, ended, grown-all, split, that-told}
use Rattle.lsl_image.proofs.KindedLemmas.{values-fit}
use Rattle.lsl_image.proofs.StandLemmas.{stands-waits}

pub values-kinds_are : (bytes : List ℕ) (kinds : List Kind) (p : ℕ) (vs : List Value) (q : ℕ)
    → Given bytes (values_of kinds) p vs q → kinds_of vs ≡ kinds
values-kinds_are bytes kinds p vs q g = sames_are (kinds_of vs) kinds (values-fit bytes kinds p vs q g.gives)

module _ (bytes : List ℕ) (unit : Code) (state : ℕ) where
  other-told : (p to q : ℕ) → Given bytes (other_state unit state) p to q
      → (to < length unit.states) × (to ≢ state)
  other-told p to q g =
      let t = that-told U16 (λ n. nat_lt n (length unit.states) && not (n == state)) g in
      let parts = and_parts (nat_lt to (length unit.states)) (not (to == state)) t.holds in (
        ltb-true to (length unit.states) parts.0,
        λ same. false≢true (sym (not-true (to == state) parts.1) ∙ eq-eqb to state same),
      )

  exit-may : (place : ℕ) (b : Bool) → handles unit state StateExit ≡ b → (p : ℕ) (left : Option ℕ) (q : ℕ)
      → Given bytes (cond b (other_state unit state >>= λ to. Ends (Some to)) (Refused (Body place))) p left q
      → CanLeave unit.states state left
  exit-may place true e p left q g =
      let s = split g in
      let told = other-told p s.value s.middle s.first in
      let can : CanLeaveFor unit.states state s.value = record { there = told.0; other = told.1; exit = e } in
      subst (CanLeave unit.states state) (sym (ended s.rest)) can
  exit-may place false e p left q g = absurd g.gives

  flagged-may : (place flagged p : ℕ) (left : Option ℕ) (q : ℕ)
      → Given bytes (flagged_leaving unit state place flagged) p left q → CanLeave unit.states state left
  flagged-may place zero p left q g = subst (CanLeave unit.states state) (sym (ended g)) tt
  flagged-may place (suc n) p left q g = exit-may place (handles unit state StateExit) refl p left q g

  pub leaving-may : (p : ℕ) (left : Option ℕ) (q : ℕ) → Given bytes (leaving unit state) p left q
      → CanLeave unit.states state left
  unfolding leaving
  leaving-may p left q g =
      let placed = split g in
      let told = split placed.rest in
      flagged-may placed.value told.value told.middle left q told.rest

  module _ (exits : Bool) where
    of-told : (id : EventId) (p : ℕ) (e : Event) (q : ℕ) → Given bytes (event_of id) p e q → e.id ≡ id
    unfolding event_of
    of-told id p e q g = ap (λ (x : Event). x.id) (ended (split (split g).rest).rest)

    may-told : (place : ℕ) (id : EventId) (b : Bool) → may_stand unit state exits id ≡ b → (p : ℕ) (e : Event) (q : ℕ)
        → Given bytes (cond b (event_of id) (Refused (Body place))) p e q → may_stand unit state exits e.id ≡ true
    may-told place id true holds p e q g = ap (may_stand unit state exits) (of-told id p e q g) ∙ holds
    may-told place id false fails p e q g = absurd g.gives

    found-told : (place : ℕ) (found : Option EventId) (p : ℕ) (e : Event) (q : ℕ)
        → Given bytes (event_that_may unit state exits place found) p e q → may_stand unit state exits e.id ≡ true
    found-told place None p e q g = absurd g.gives
    found-told place (Some id) p e q g = may-told place id (may_stand unit state exits id) refl p e q g

    pub event-stands : (p : ℕ) (e : Event) (q : ℕ) → Given bytes (event_in unit state exits) p e q
        → may_stand unit state exits e.id ≡ true
    unfolding event_in
    event-stands p e q g =
        let placed = split g in
        let numbered = split placed.rest in
        found-told placed.value (event_numbered numbered.value) numbered.middle e q numbered.rest

  pub queue-may : (p : ℕ) (events : List Event) (q : ℕ) → Given bytes (queue unit state) p events q
      → All (CanWait unit.states state) events
  unfolding queue
  queue-may p events q g =
      let s = split g in
      All-from_recursion (CanWait unit.states state) events
      (grown-all (λ before. event_in unit state false) (CanWait unit.states state)
      (λ before p e q h. stands-waits unit state e (event-stands false p e q h)) s.value [] s.middle events q s.rest tt)
