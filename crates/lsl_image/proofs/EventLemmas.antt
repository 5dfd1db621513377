-- Events, read after their numbers.
use Rattle.std.proofs.Common.{◌≡◌, ◌∙◌, refl, subst, sym, ap, arith, ℕ, zero, suc, ◌+◌, ◌<◌, List, [], ◌∷◌, ◌++◌, length, cond, Bool, true, false, Option, Some, None, Result, Err, slice_get}
use Rattle.std.proofs.Math.Bool.{Bool-set}
use Rattle.std.proofs.lemmas.Bool.Decides.{nat_tests}
use Rattle.std.specs.Result.{IsErrAnd}
use Rattle.lsl_text.specs.declared.Refusal.{Refusal}
use Rattle.lsl_value.specs.declared.names.EventId.{EventId}
use Rattle.lsl_value.specs.declared.tagged.Kind.{Kind}
use Rattle.lsl_value.specs.declared.tagged.Value.{Value}
use Rattle.lsl_table.specs.Events.{events, signature_of}
use Rattle.lsl_code.specs.declared.woven_units.Woven.{Woven as Code}
use Rattle.lsl_code.specs.Kinds.{kinds_of, same_kinds}
use Rattle.lsl_post.specs.declared.events.Event.{Event}
use Rattle.lsl_post.specs.declared.events.Toucher.{Toucher}
use Rattle.lsl_post.specs.Queue.{has_room, with_event}
use Rattle.lsl_image.specs.declared.faults.ImageFault.{ImageFault}
use Rattle.lsl_image.specs.declared.faults.ImageFault.TheVariants.{Body}
use Rattle.lsl_image.specs.Layout.{Kinded, Layout, Ends, ◌>>=◌, kinded_values, values_of}
use Rattle.lsl_image.specs.Reading.{Faults, Gives, Reads}
use Rattle.lsl_image.specs.Script.{event_numbered, event_of, event_that_may, event_with, may_stand, toucher}
use Rattle.lsl_image.proofs.KindedLemmas.{HaveKinds, kinded-err, values-fit, values-kinds}
use Rattle.lsl_image.specs.Leading.{Leads}
use Rattle.lsl_image.proofs.LeadingLemmas.{leads-all, leads-ends, leads-exits, leads-then}

pub numbered_as : (n d : ℕ) → d + 1 ≡ n → event_numbered n ≡ slice_get events d
numbered_as zero d same = absurd (omega (arith, same))
numbered_as (suc n) d same = let e : n ≡ d = omega (arith, same) in ap (slice_get events) e

pub numbered_none : (n : ℕ) → n < 1 → event_numbered n ≡ None
numbered_none zero few = refl
numbered_none (suc n) few = absurd (omega (arith, few))

module _ (bytes : List ℕ) (unit : Code) (state : ℕ) (exits : Bool) (place : ℕ) (found : Option EventId) (q : ℕ)
    (whole : Layout Event) (start : ℕ) (leads : Leads bytes (event_that_may unit state exits place found) q
    (λ e. e) whole start) where
  pub event-unknown : None ≡ found → Faults bytes whole start (Body place)
  event-unknown none = leads.faults (Body place)
      (subst (λ (o : Option EventId). Faults bytes (event_that_may unit state exits place o) q (Body place))
      none refl)

  pub event-refused : (id : EventId) → Some id ≡ found → may_stand unit state exits id ≡ false
      → Faults bytes whole start (Body place)
  event-refused id known bad =
      let refused : Faults bytes (event_that_may unit state exits place (Some id)) q (Body place) = rw bad refl in
      leads.faults (Body place) (subst (λ (o : Option EventId).
      Faults bytes (event_that_may unit state exits place o) q (Body place)) known refused)

  pub event-allowed : (id : EventId) → Some id ≡ found → may_stand unit state exits id ≡ true
      → Leads bytes (event_of id) q (λ e. e) whole start
  event-allowed id known good =
      let at : Leads bytes (event_that_may unit state exits place (Some id)) q (λ e. e) whole start =
      subst (λ (o : Option EventId). Leads bytes (event_that_may unit state exits place o) q (λ e. e) whole
      start) (sym known) leads in
      rw good at at

-- an event with these arguments, with kinds that are shown to be its own in any way
module _ (id : EventId) (who : Option Toucher) where
  event-same : (k : Kinded (signature_of id)) (vs : List Value) → k.values ≡ vs
      → (fits : same_kinds (kinds_of vs) (signature_of id) ≡ true)
      → record { id = id; args = vs; toucher = who; fits = fits } ≡ event_with id k who
  event-same k vs same fits = subst
      (λ (ws : List Value). (f : same_kinds (kinds_of ws) (signature_of id) ≡ true)
      → record { id = id; args = ws; toucher = who; fits = f } ≡ event_with id k who)
      same
      (λ f. ap (λ (t : same_kinds (kinds_of k.values) (signature_of id) ≡ true).
      record { id = id; args = k.values; toucher = who; fits = t })
      (Bool-set (same_kinds (kinds_of k.values) (signature_of id)) true f k.fits))
      fits

module _ (bytes : List ℕ) (id : EventId) (kinds : List Kind) (own : kinds ≡ signature_of id) (p : ℕ) where
  pub event-no_args : (e : Refusal ImageFault) (r : Result (Event × ℕ) (Refusal ImageFault))
      → Reads bytes (values_of kinds) p (Err e) → IsErrAnd r (λ y. y ≡ e) → Reads bytes (event_of id) p r
  unfolding event_of
  event-no_args e r h exit =
      let at : Reads bytes (values_of (signature_of id)) p (Err e) =
      subst (λ (ks : List Kind). Reads bytes (values_of ks) p (Err e)) own h in
      leads-exits (kinded_values (signature_of id)) (λ args. toucher >>= λ who. Ends (event_with id args who)) e
      r (leads-all bytes (event_of id) p) (kinded-err bytes (signature_of id) p e at) exit

  module _ (vs : List Value) (q : ℕ) (read : Gives bytes (values_of kinds) p vs q) where
    at_own : Gives bytes (values_of (signature_of id)) p vs q
    at_own = subst (λ (ks : List Kind). Gives bytes (values_of ks) p vs q) own read

    pub event-fits : same_kinds (kinds_of vs) (signature_of id) ≡ true
    event-fits = values-fit bytes (signature_of id) p vs q at_own

    args-read : (have : HaveKinds bytes (signature_of id) p vs q)
        → Leads bytes (toucher >>= λ who. Ends (event_with id have.those who)) q (λ e. e) (event_of id) p
    unfolding event_of
    args-read have = leads-then (kinded_values (signature_of id))
        (λ args. toucher >>= λ who. Ends (event_with id args who)) (leads-all bytes (event_of id) p) have.given

    pub event-no_toucher : (e : Refusal ImageFault) (r : Result (Event × ℕ) (Refusal ImageFault))
        → Reads bytes toucher q (Err e) → IsErrAnd r (λ y. y ≡ e) → Reads bytes (event_of id) p r
    event-no_toucher e r h exit =
        let have = values-kinds bytes (signature_of id) p vs q at_own in
        leads-exits toucher (λ who. Ends (event_with id have.those who)) e r (args-read have) h exit

    pub event-given : (who : Option Toucher) (n : ℕ) (fits : same_kinds (kinds_of vs) (signature_of id) ≡ true)
        → Gives bytes toucher q who n → Gives bytes (event_of id) p
        (record { id = id; args = vs; toucher = who; fits = fits }) n
    event-given who n fits h =
        let have = values-kinds bytes (signature_of id) p vs q at_own in
        let given : Gives bytes (event_of id) p (event_with id have.those who) n =
        leads-ends (leads-then toucher (λ w. Ends (event_with id have.those w)) (args-read have) h) in
        subst (λ (e : Event). Gives bytes (event_of id) p e n)
        (sym (event-same id who have.those vs (sym have.same) fits)) given

-- an event that is put has room
pub event-put : (old new : List Event) (e : Event) → length old < 64 → new ≡ with_event e old → new ≡ old ++ e ∷ []
event-put old new e few put =
    let room : has_room old ≡ true = grind (arith, nat_tests, few) in
    put ∙ ap (λ (b : Bool). cond b (old ++ e ∷ []) old) room
