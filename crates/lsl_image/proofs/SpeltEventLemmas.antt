-- Values, events and what a script waits for, spelled.
use Rattle.std.proofs.Common.{◌≡◌, ◌≢◌, ◌∙◌, refl, sym, ap, subst, arith, ne_eqb, ℕ, ◌+◌, ◌<◌, ◌≤◌, ◌==◌, ◌&&◌, ◌||◌, nat_lt, nat_le, not, cond, List, [], ◌∷◌, ◌++◌, length, append_assoc, Bool, true, false, Option, Some, None}
use Rattle.std.proofs.Math.Bool.{Bool-set}
use Rattle.std.proofs.lemmas.Bool.{and_from, and_parts, false≢true}
use Rattle.std.proofs.lemmas.Bool.Decides.{nat_tests}
use Rattle.std.proofs.lemmas.List.Elements.{recursion_from_All}
use Rattle.std.specs.List.{AllByRecursion}
use Rattle.std.specs.Prelude.{All}
use Rattle.lsl_value.specs.Values.{kind_of}
use Rattle.lsl_value.specs.declared.names.EventId.{EventId}
use Rattle.lsl_value.specs.declared.names.EventId.TheVariants as event
use Rattle.lsl_value.specs.declared.names.EventId.TheVariants.{StateExit}
use Rattle.lsl_value.specs.declared.tagged.Kind.{Kind}
use Rattle.lsl_value.specs.declared.tagged.Value.{Value}
use Rattle.lsl_table.specs.Events.{signature_of}
use Rattle.lsl_code.specs.declared.woven_units.Woven.{Woven as Code}
use Rattle.lsl_code.specs.Kinds.{kinds_of, same_kind, same_kinds}
use Rattle.lsl_code.specs.Units.{event_number}
use Rattle.lsl_code.proofs.Tested.{sames}
use Rattle.lsl_post.specs.declared.events.Event.{Event}
use Rattle.lsl_post.specs.declared.events.Toucher.{Toucher}
use Rattle.lsl_post.specs.declared.timer.Timer.{Timer}
use Rattle.lsl_post.specs.Fitting.{CanLeave, CanWait}
use Rattle.lsl_post.specs.Queue.{most_events}
use Rattle.lsl_post.specs.Timing.{fits_timer}
use Rattle.lsl_bytes.specs.Fields.{FitsU16, i32_bytes, text_bytes, u8_bytes, u16_bytes, u32_bytes, u64_bytes, value_bytes}
use Rattle.lsl_image.specs.declared.faults.ImageFault.TheVariants.{Body}
use Rattle.lsl_image.specs.Bytes.{event_bytes, leaving_bytes, queue_bytes, timer_bytes, told_bytes, toucher_bytes, values_bytes}
use Rattle.lsl_image.specs.Fits.{AreValues, FitsEvent, FitsLeaving, FitsQueue, FitsTimer, FitsTold, FitsToucher}
use Rattle.lsl_image.specs.Layout.{Kinded, Layout, Ends, both, Refused, I32, TextForm, U16, U32, U64, U8, ValueForm, ◌>>=◌, kinded, kinded_values, one_more, values_of}
use Rattle.lsl_image.specs.Script.{due_timer, event_in, event_numbered, event_of, event_that_may, flag, flagged_leaving, leaving, may_stand, other_state, queue, timer, told_toucher, toucher}
use Rattle.lsl_image.proofs.StandLemmas.{waits-stands}
use Rattle.lsl_image.proofs.SpeltLemmas.{Spelt, good-all, spelt-as, spelt-ends, spelt-field, spelt-grown, spelt-here, spelt-last, spelt-that, spelt-then}

abbrev pub those : (kinds : List Kind) (vs : List Value) → same_kinds (kinds_of vs) kinds ≡ true → Kinded kinds
those kinds vs fits = record { values = vs; fits = fits }

kinded-record : (kinds : List Kind) (vs : List Value) (f g : same_kinds (kinds_of vs) kinds ≡ true)
    → those kinds vs f ≡ those kinds vs g
kinded-record kinds vs f g = ap (those kinds vs) (Bool-set (same_kinds (kinds_of vs) kinds) true f g)

module _ (kind : Kind) (kinds : List Kind) (place : ℕ) (v : Value) (others : Layout (Kinded kinds)) where
  kinded-spelt : (same : Bool) (e : same_kind (kind_of v) kind ≡ same) (own : same_kind (kind_of v) kind ≡ true)
      (p : ℕ) (k : Kinded kinds) (part : List ℕ) → Spelt others p k part
      → Spelt (kinded kind kinds place v same e others) p (one_more kind kinds v own k) part
  kinded-spelt true e own p k part s =
      spelt-last _ s (spelt-ends (ap (λ (t : same_kind (kind_of v) kind ≡ true). one_more kind kinds v t k)
      (Bool-set (same_kind (kind_of v) kind) true own e)))
  kinded-spelt false e own p k part s = absurd (false≢true (sym e ∙ own))

pub kinded-spells : (kinds : List Kind) (vs : List Value) (fits : same_kinds (kinds_of vs) kinds ≡ true) (p : ℕ)
    → AreValues vs → Spelt (kinded_values kinds) p (those kinds vs fits) (values_bytes vs)
unfolding kinded_values
kinded-spells [] [] fits p are = spelt-ends (kinded-record [] [] fits refl)
kinded-spells [] (v ∷ vs) fits p are = absurd (false≢true fits)
kinded-spells (k ∷ ks) [] fits p are = absurd (false≢true fits)
kinded-spells (k ∷ ks) (v ∷ vs) fits p are =
    let parts = and_parts (same_kind (kind_of v) k) (same_kinds (kinds_of vs) ks) fits in
    let others = kinded-spells ks vs parts.1 (p + length (value_bytes v)) are.1 in
    let one = kinded-spelt k ks p v (kinded_values ks) (same_kind (kind_of v) k) refl parts.0
    (p + length (value_bytes v)) (those ks vs parts.1) (values_bytes vs) others in
    let own = both (same_kind (kind_of v) k) (same_kinds (kinds_of vs) ks) parts.0 parts.1 in
    let whole : Spelt (kinded_values (k ∷ ks)) p (those (k ∷ ks) (v ∷ vs) own) (values_bytes (v ∷ vs)) =
    spelt-here _ (spelt-then _ (spelt-field ValueForm v are.0) one) in
    subst (λ (those : Kinded (k ∷ ks)). Spelt (kinded_values (k ∷ ks)) p those (values_bytes (v ∷ vs)))
    (kinded-record (k ∷ ks) (v ∷ vs) own fits) whole

pub values-spells : (kinds : List Kind) (vs : List Value) (p : ℕ) → kinds_of vs ≡ kinds → AreValues vs
    → Spelt (values_of kinds) p vs (values_bytes vs)
unfolding values_of
values-spells kinds vs p same are =
    spelt-last _ (kinded-spells kinds vs (sames (kinds_of vs) kinds same) p are) (spelt-ends refl)

told-spells : (who : Toucher) (p : ℕ) → FitsTold who → Spelt told_toucher p (Some who) (told_bytes who)
unfolding told_toucher told_bytes
told-spells who p fits =
    spelt-as (sym (append_assoc (text_bytes who.key) (text_bytes who.name) (i32_bytes who.link)))
    (spelt-then _ (spelt-field TextForm who.key fits.key) (spelt-then _ (spelt-field TextForm who.name fits.name)
    (spelt-last _ (spelt-field I32 who.link fits.link) (spelt-ends refl))))

pub flag-spells : (n p : ℕ) → n ≤ 1 → Spelt flag p n (u8_bytes n)
unfolding flag
flag-spells n p within = spelt-that U8 (λ m. nat_le m 1) n (omega (arith, within)) (grind (arith, nat_tests, within))

toucher-spells : (who : Option Toucher) (p : ℕ) → FitsToucher who → Spelt toucher p who (toucher_bytes who)
unfolding toucher
toucher-spells None p fits = spelt-last _ (flag-spells 0 p (omega arith)) (spelt-ends refl)
toucher-spells (Some who) p fits =
    spelt-then _ (flag-spells 1 p (omega arith)) (told-spells who (p + length (u8_bytes 1)) fits)

numbered-back : (id : EventId) → event_numbered (event_number id) ≡ Some id
numbered-back event.StateEntry = refl
numbered-back event.StateExit = refl
numbered-back event.TouchStart = refl
numbered-back event.Touch = refl
numbered-back event.TouchEnd = refl
numbered-back event.Listen = refl
numbered-back event.Timer = refl
numbered-back event.LinkMessage = refl
numbered-back event.Changed = refl
numbered-back event.OnRez = refl
numbered-back event.Dataserver = refl
numbered-back event.LinksetData = refl

number-fits : (id : EventId) → event_number id < 256
number-fits event.StateEntry = omega arith
number-fits event.StateExit = omega arith
number-fits event.TouchStart = omega arith
number-fits event.Touch = omega arith
number-fits event.TouchEnd = omega arith
number-fits event.Listen = omega arith
number-fits event.Timer = omega arith
number-fits event.LinkMessage = omega arith
number-fits event.Changed = omega arith
number-fits event.OnRez = omega arith
number-fits event.Dataserver = omega arith
number-fits event.LinksetData = omega arith

module _ (unit : Code) (state : ℕ) where
  module _ (exits : Bool) (e : Event) where
    of-spells : (p : ℕ) → FitsEvent e → Spelt (event_of e.id) p e (values_bytes e.args ++ toucher_bytes e.toucher)
    unfolding event_of
    of-spells p fits =
        spelt-then _ (kinded-spells (signature_of e.id) e.args e.fits p fits.args)
        (spelt-last _ (toucher-spells e.toucher (p + length (values_bytes e.args)) fits.toucher) (spelt-ends refl))

    may-spells : (place p : ℕ) (part : List ℕ) → may_stand unit state exits e.id ≡ true
        → Spelt (event_of e.id) p e part → Spelt (event_that_may unit state exits place (Some e.id)) p e part
    may-spells place p part stands s =
        subst (λ (b : Bool). Spelt (cond b (event_of e.id) (Refused (Body place))) p e part) (sym stands) s

    pub event-spells : (p : ℕ) → FitsEvent e → may_stand unit state exits e.id ≡ true
        → Spelt (event_in unit state exits) p e (event_bytes e)
    unfolding event_in event_bytes
    event-spells p fits stands =
        let part = values_bytes e.args ++ toucher_bytes e.toucher in
        let q = p + length (u8_bytes (event_number e.id)) in
        let known : Spelt (event_that_may unit state exits p (event_numbered (event_number e.id))) q e part =
        subst (λ (found : Option EventId). Spelt (event_that_may unit state exits p found) q e part)
        (sym (numbered-back e.id)) (may-spells p q part stands (of-spells q fits)) in
        spelt-as (sym (append_assoc (u8_bytes (event_number e.id)) (values_bytes e.args) (toucher_bytes e.toucher)))
        (spelt-here _ (spelt-then _ (spelt-field U8 (event_number e.id) (number-fits e.id)) known))

  both-all : (events : List Event) → AllByRecursion FitsEvent events → AllByRecursion (CanWait unit.states state) events
      → AllByRecursion (λ e. FitsEvent e × CanWait unit.states state e) events
  both-all [] fits may = tt
  both-all (e ∷ events) fits may = ((fits.0, may.0), both-all events fits.1 may.1)

  pub queue-spells : (events : List Event) (p : ℕ) → FitsQueue events → All (CanWait unit.states state) events
      → Spelt (queue unit state) p events (queue_bytes events)
  unfolding queue queue_bytes
  queue-spells events p fits may =
      let Good : List Event → Event → Type 0 = λ before e. FitsEvent e × CanWait unit.states state e in
      spelt-then _ (spelt-that U8 (λ n. nat_le n most_events) (length events) (omega (arith, fits.few))
      (grind (arith, nat_tests, fits.few)))
      (spelt-grown (λ before. event_in unit state false) event_bytes Good
      (λ before e q good. event-spells false e q good.0 (waits-stands unit state e good.1)) events (p + length (u8_bytes (length events)))
      (good-all (λ e. FitsEvent e × CanWait unit.states state e) [] events (both-all events fits.each
      (recursion_from_All (CanWait unit.states state) events may))))

  other-spells : (to p : ℕ) → to < length unit.states → to ≢ state → FitsU16 to
      → Spelt (other_state unit state) p to (u16_bytes to)
  other-spells to p there other fits =
      spelt-that U16 (λ n. nat_lt n (length unit.states) && not (n == state)) to fits
      (and_from (nat_lt to (length unit.states)) (not (to == state)) (grind (arith, nat_tests, there))
      (ap not (ne_eqb to state other)))

  pub leaving-spells : (left : Option ℕ) (p : ℕ) → CanLeave unit.states state left → FitsLeaving left
      → Spelt (leaving unit state) p left (leaving_bytes left)
  unfolding leaving
  leaving-spells None p may fits = spelt-here _ (spelt-last _ (flag-spells 0 p (omega arith)) (spelt-ends refl))
  leaving-spells (Some to) p may fits =
      let q = p + length (u8_bytes 1) in
      let told : Spelt (other_state unit state >>= λ n. Ends (Some n)) q (Some to) (u16_bytes to) =
      spelt-last _ (other-spells to q may.there may.other fits) (spelt-ends refl) in
      let flagged : Spelt (flagged_leaving unit state p 1) q (Some to) (u16_bytes to) =
      subst (λ (b : Bool). Spelt (cond b (other_state unit state >>= λ n. Ends (Some n)) (Refused (Body p))) q (Some to)
      (u16_bytes to)) (sym may.exit) told in
      spelt-here _ (spelt-then _ (flag-spells 1 p (omega arith)) flagged)

due-spells : (place : ℕ) (t : Timer) (good : Bool) (e : fits_timer t.period t.due ≡ good) (p : ℕ)
    → Spelt (due_timer place t.period t.due good e) p t []
due-spells place t true e p =
    spelt-ends (ap (λ (f : fits_timer t.period t.due ≡ true). record { period = t.period; due = t.due; fits = f })
    (Bool-set (fits_timer t.period t.due) true t.fits e))
due-spells place t false e p = absurd (false≢true (sym e ∙ t.fits))

pub timer-spells : (t : Timer) (p : ℕ) → FitsTimer t → Spelt timer p t (timer_bytes t)
unfolding timer timer_bytes
timer-spells t p fits =
    let within = (and_parts (nat_le t.period 2147483647) (nat_lt 0 t.period || (t.due == 0)) t.fits).0 in
    let q = p + length (u32_bytes t.period) in
    spelt-then _ (spelt-that U32 (λ n. nat_le n 2147483647) t.period fits.period within)
    (spelt-here _ (spelt-last _ (spelt-field U64 t.due fits.due)
    (due-spells q t (fits_timer t.period t.due) refl (q + length (u64_bytes t.due)))))
