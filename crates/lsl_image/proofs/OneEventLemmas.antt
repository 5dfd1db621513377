-- Values, events, listens and timers are spelled by their bytes alone.
use Rattle.std.proofs.Common.{◌≡◌, ◌∙◌, refl, sym, ap, arith, ℕ, zero, suc, ◌+◌, ◌≤◌, ◌==◌, ◌&&◌, nat_lt, nat_le, not, List, [], ◌∷◌, ◌++◌, length, map, append_assoc, Bool, true, false, Option, Some, None, slice_get}
use Rattle.std.proofs.lemmas.Bool.Decides.{nat_tests}
use Rattle.std.proofs.lemmas.List.{append-nil}
use Rattle.std.proofs.lemmas.Option.{none-some}
use Rattle.std.specs.List.{flat_map, list_any}
use Rattle.lsl_value.specs.Values.{kind_of}
use Rattle.lsl_value.specs.declared.names.EventId.{EventId}
use Rattle.lsl_value.specs.declared.tagged.Kind.{Kind}
use Rattle.lsl_value.specs.declared.tagged.Value.{Value}
use Rattle.lsl_table.specs.Events.{events, signature_of}
use Rattle.lsl_code.specs.declared.woven_units.Woven.{Woven as Code}
use Rattle.lsl_code.specs.Kinds.{same_kind}
use Rattle.lsl_code.specs.Units.{event_number}
use Rattle.lsl_post.specs.declared.events.Event.{Event}
use Rattle.lsl_post.specs.declared.events.Toucher.{Toucher}
use Rattle.lsl_post.specs.declared.filters.Filter.{Filter}
use Rattle.lsl_post.specs.declared.listen.Listen.{Listen}
use Rattle.lsl_post.specs.declared.timer.Timer.{Timer}
use Rattle.lsl_post.specs.Filters.{filter, same_filter}
use Rattle.lsl_post.specs.Listens.{Standing, filter_of, has_number, is_number, most_listens}
use Rattle.lsl_post.specs.Queue.{most_events}
use Rattle.lsl_post.specs.Timing.{fits_timer}
use Rattle.lsl_bytes.specs.Fields.{i32_bytes, text_bytes, u8_bytes, u16_bytes, u32_bytes, u64_bytes, value_bytes}
use Rattle.lsl_image.specs.Bytes.{event_bytes, flag_of, leaving_bytes, listen_bytes, listens_bytes, queue_bytes, timer_bytes, told_bytes, toucher_bytes, values_bytes}
use Rattle.lsl_image.specs.Layout.{Kinded, Layout, I32, TextForm, U16, U32, U64, U8, ValueForm, kinded, kinded_values, values_of}
use Rattle.lsl_image.specs.Script.{due_timer, event_in, event_numbered, event_of, event_that_may, filter_behind, flag, flagged_leaving, flagged_toucher, handles, leaving, listen_behind, listen_with, listens, may_stand, other_state, queue, timer, told_toucher, toucher}
use Rattle.lsl_value.specs.declared.names.EventId.TheVariants.{StateExit}
use Rattle.lsl_image.proofs.OneLemmas.{allowed, behind-here, both-parts, ended, field-bytes, grown-bytes, last-part, parted, passed, that-bytes}
use Rattle.lsl_image.proofs.SpeltLemmas.{Spelt}

module _ (kind : Kind) (kinds : List Kind) (place : ℕ) (v : Value) (others : Layout (Kinded kinds))
    (only : (k : Kinded kinds) (p : ℕ) (part : List ℕ) → Spelt others p k part → part ≡ values_bytes k.values) where
  kinded-bytes : (same : Bool) (e : same_kind (kind_of v) kind ≡ same) (p : ℕ) (k : Kinded (kind ∷ kinds))
      (part : List ℕ) → Spelt (kinded kind kinds place v same e others) p k part
      → value_bytes v ++ part ≡ values_bytes k.values
  kinded-bytes true e p k part s =
      let t = parted s in
      let end = ended t.others in
      ap (λ (u : List ℕ). value_bytes v ++ u) (last-part t (only t.value p t.front t.first) end.none)
      ∙ sym (ap (λ (m : Kinded (kind ∷ kinds)). values_bytes m.values) end.same)
  kinded-bytes false e p k part s = absurd s.spells

those-bytes : (kinds : List Kind) (k : Kinded kinds) (p : ℕ) (part : List ℕ) → Spelt (kinded_values kinds) p k part
    → part ≡ values_bytes k.values
unfolding kinded_values
those-bytes [] k p part s =
    let end = ended s in
    end.none ∙ sym (ap (λ (m : Kinded []). values_bytes m.values) end.same)
those-bytes (kind ∷ kinds) k p part s =
    let t = parted (behind-here _ s) in
    both-parts t (field-bytes ValueForm t.first) refl
    ∙ kinded-bytes kind kinds p t.value (kinded_values kinds) (those-bytes kinds)
    (same_kind (kind_of t.value) kind) refl
    (p + length t.front) k t.rest t.others

pub values-only : (kinds : List Kind) (p : ℕ) (vs : List Value) (part : List ℕ) → Spelt (values_of kinds) p vs part
    → part ≡ values_bytes vs
unfolding values_of
values-only kinds p vs part s =
    let t = parted s in
    let end = ended t.others in
    last-part t (those-bytes kinds t.value p t.front t.first) end.none ∙ ap values_bytes (sym end.same)

flag-only : (p n : ℕ) (part : List ℕ) → Spelt flag p n part → (n ≤ 1) × (part ≡ u8_bytes n)
unfolding flag
flag-only p n part s =
    let t = that-bytes U8 (λ m. nat_le m 1) s in
    (grind (arith, nat_tests, t.holds), t.bytes)

told-only : (p : ℕ) (who : Option Toucher) (part : List ℕ) → Spelt told_toucher p who part
    → (t : Toucher) × (who ≡ Some t) × (part ≡ told_bytes t)
unfolding told_toucher told_bytes
told-only p who part s =
    let key = parted s in
    let name = parted key.others in
    let link = parted name.others in
    let end = ended link.others in (
      record { key = key.value; name = name.value; link = link.value },
      end.same,
      both-parts key (field-bytes TextForm key.first) (both-parts name (field-bytes TextForm name.first)
          (last-part link (field-bytes I32 link.first) end.none))
          ∙ sym (append_assoc (text_bytes key.value) (text_bytes name.value) (i32_bytes link.value)),
    )

toucher-only : (p : ℕ) (who : Option Toucher) (part : List ℕ) → Spelt toucher p who part → part ≡ toucher_bytes who
unfolding toucher
toucher-only p who part s =
    let t = parted s in
    let f = flag-only p t.value t.front t.first in
    both-parts t f.1 refl ∙ by t.value f.0 (p + length t.front) t.rest t.others
  where
    by : (n : ℕ) → n ≤ 1 → (q : ℕ) (rest : List ℕ) → Spelt (flagged_toucher n) q who rest
        → u8_bytes n ++ rest ≡ toucher_bytes who
    by zero small q rest r =
        let end = ended r in
        ap (λ (t : List ℕ). u8_bytes 0 ++ t) end.none ∙ append-nil (u8_bytes 0) ∙ sym (ap toucher_bytes end.same)
    by (suc n) small q rest r =
        let t = told-only q who rest r in
        let one : n ≡ 0 = omega arith in
        ap (λ (m : ℕ). u8_bytes (suc m) ++ rest) one ∙ ap (λ (u : List ℕ). u8_bytes 1 ++ u) t.2
        ∙ sym (ap toucher_bytes t.1)

-- events that are numbered from here on
Numbered : ℕ → List EventId → Type 0
Numbered n [] = Unit {0}
Numbered n (id ∷ ids) = (event_number id ≡ n) × Numbered (suc n) ids

number-at : (n : ℕ) (ids : List EventId) (i : ℕ) (id : EventId) → Numbered n ids → slice_get ids i ≡ Some id
    → event_number id ≡ n + i
unfolding Numbered
number-at n [] i id are found = absurd (none-some id found)
number-at n (first ∷ ids) zero id are found =
    let same : first ≡ id = cc in
    ap event_number (sym same) ∙ are.0 ∙ omega arith
number-at n (first ∷ ids) (suc i) id are found = omega (arith, number-at (suc n) ids i id are.1 found)

all-numbered : Numbered 1 events
unfolding Numbered
all-numbered =
    (refl, (refl, (refl, (refl, (refl, (refl, (refl, (refl, (refl, (refl, (refl, (refl, tt))))))))))))

number-only : (n : ℕ) (id : EventId) → event_numbered n ≡ Some id → event_number id ≡ n
number-only zero id found = absurd (none-some id found)
number-only (suc n) id found = number-at 1 events n id all-numbered found ∙ omega arith

-- what follows an event's number
record IsEventOf (id : EventId) (e : Event) (part : List ℕ) : Type 0 where
  same : e.id ≡ id
  bytes : part ≡ values_bytes e.args ++ toucher_bytes e.toucher

of-only : (id : EventId) (p : ℕ) (e : Event) (part : List ℕ) → Spelt (event_of id) p e part → IsEventOf id e part
unfolding event_of
of-only id p e part s =
    let args = parted s in
    let who = parted args.others in
    let end = ended who.others in
    let told = both-parts args (those-bytes (signature_of id) args.value p args.front args.first)
    (last-part who (toucher-only (p + length args.front) who.value who.front who.first) end.none) in
    record {
      same = ap (λ (x : Event). x.id) end.same;
      bytes = told ∙ sym (ap (λ (x : Event). values_bytes x.args ++ toucher_bytes x.toucher) end.same);
    }

module _ (unit : Code) (state : ℕ) where
  pub event-only : (exits : Bool) (p : ℕ) (e : Event) (part : List ℕ) → Spelt (event_in unit state exits) p e part
      → part ≡ event_bytes e
  unfolding event_in event_bytes
  event-only exits p e part s =
      let t = parted (behind-here _ s) in
      let number = t.value in
      let q = p + length t.front in
      both-parts t (field-bytes U8 t.first) refl
      ∙ by number q t.rest (event_numbered number) refl t.others
      ∙ sym (append_assoc (u8_bytes (event_number e.id)) (values_bytes e.args) (toucher_bytes e.toucher))
    where
      by : (n q : ℕ) (rest : List ℕ) (found : Option EventId) → event_numbered n ≡ found
          → Spelt (event_that_may unit state exits p found) q e rest
          → u8_bytes n ++ rest ≡ u8_bytes (event_number e.id) ++ (values_bytes e.args ++ toucher_bytes e.toucher)
      by n q rest None known r = absurd r.spells
      by n q rest (Some id) known r =
          let stands = allowed (may_stand unit state exits id) _ _ r in
          let o = of-only id q e rest stands.1 in
          let same : n ≡ event_number e.id = sym (ap event_number o.same ∙ number-only n id known) in
          ap (λ (m : ℕ). u8_bytes m ++ rest) same ∙ ap (λ (u : List ℕ). u8_bytes (event_number e.id) ++ u) o.bytes

  pub queue-only : (p : ℕ) (events : List Event) (part : List ℕ) → Spelt (queue unit state) p events part
      → part ≡ queue_bytes events
  unfolding queue queue_bytes
  queue-only p events part s =
      let count = parted s in
      let g = grown-bytes (λ before. event_in unit state false) event_bytes
      (λ before q e rest r. event-only false q e rest r) count.value [] (p + length count.front) events count.rest
      count.others in
      both-parts count ((that-bytes U8 (λ n. nat_le n most_events) count.first).bytes
      ∙ ap u8_bytes (sym g.long)) g.bytes
      ∙ ap (λ (es : List Event). u8_bytes (length es) ++ flat_map event_bytes es) (sym g.same)

  pub leaving-only : (p : ℕ) (left : Option ℕ) (part : List ℕ) → Spelt (leaving unit state) p left part
      → part ≡ leaving_bytes left
  unfolding leaving
  leaving-only p left part s =
      let t = parted (behind-here _ s) in
      let f = flag-only p t.value t.front t.first in
      both-parts t f.1 refl ∙ by t.value f.0 (p + length t.front) t.rest t.others
    where
      told : (q : ℕ) (to : ℕ) (rest : List ℕ) → Spelt (other_state unit state) q to rest → rest ≡ u16_bytes to
      told q to rest r = (that-bytes U16 (λ n. nat_lt n (length unit.states) && not (n == state)) r).bytes

      by : (n : ℕ) → n ≤ 1 → (q : ℕ) (rest : List ℕ) → Spelt (flagged_leaving unit state p n) q left rest
          → u8_bytes n ++ rest ≡ leaving_bytes left
      by zero small q rest r =
          let end = ended r in
          ap (λ (t : List ℕ). u8_bytes 0 ++ t) end.none ∙ append-nil (u8_bytes 0) ∙ sym (ap leaving_bytes end.same)
      by (suc n) small q rest r =
          let t = parted (allowed (handles unit state StateExit) _ _ r).1 in
          let end = ended t.others in
          let one : n ≡ 0 = omega arith in
          ap (λ (m : ℕ). u8_bytes (suc m) ++ rest) one
          ∙ ap (λ (u : List ℕ). u8_bytes 1 ++ u) (last-part t (told q t.value t.front t.first) end.none)
          ∙ sym (ap leaving_bytes end.same)

flag-again : (n : ℕ) → n ≤ 1 → n ≡ flag_of (n == 1)
flag-again zero small = refl
flag-again (suc zero) small = refl
flag-again (suc (suc n)) small = absurd (omega arith)

filter-only : (before : List Listen) (p : ℕ) (f : Filter) (part : List ℕ) → Spelt (filter_behind before) p f part
    → part ≡ i32_bytes f.channel ++ (text_bytes f.name ++ (text_bytes f.id ++ text_bytes f.message))
unfolding filter_behind
filter-only before p f part s =
    let channel = parted s in
    let name = parted channel.others in
    let id = parted name.others in
    let message = parted (behind-here _ id.others) in
    let asked = filter channel.value name.value id.value message.value in
    let end = passed (not (list_any (same_filter asked) (map filter_of before)))
    (p + length channel.front + length name.front + length id.front) message.others in
    both-parts channel (field-bytes I32 channel.first) (both-parts name (field-bytes TextForm name.first)
    (both-parts id (field-bytes TextForm id.first) (last-part message (field-bytes TextForm message.first) end.none)))
    ∙ sym (ap (λ (g : Filter). i32_bytes g.channel ++ (text_bytes g.name ++ (text_bytes g.id ++ text_bytes g.message)))
    end.same)

listen-only : (before : List Listen) (p : ℕ) (l : Listen) (part : List ℕ) → Spelt (listen_behind before) p l part
    → part ≡ listen_bytes l
unfolding listen_behind listen_bytes
listen-only before p l part s =
    let number = parted s in
    let active = parted number.others in
    let asked = parted active.others in
    let end = ended asked.others in
    let f = flag-only (p + length number.front) active.value active.front active.first in
    let made = listen_with number.value active.value asked.value in
    both-parts number (that-bytes I32 (λ n. is_number n && not (has_number before n)) number.first).bytes
    (both-parts active (f.1 ∙ ap u8_bytes (flag-again active.value f.0))
    (last-part asked (filter-only before _ asked.value asked.front asked.first) end.none))
    ∙ grouped (i32_bytes made.number) (u8_bytes (flag_of made.active)) (i32_bytes made.channel) (text_bytes made.name)
    (text_bytes made.id) (text_bytes made.message)
    ∙ sym (ap (λ (m : Listen). i32_bytes m.number ++ u8_bytes (flag_of m.active) ++ i32_bytes m.channel
    ++ text_bytes m.name ++ text_bytes m.id ++ text_bytes m.message) end.same)
  where
    grouped : (a b c d e f : List ℕ) → a ++ (b ++ (c ++ (d ++ (e ++ f)))) ≡ a ++ b ++ c ++ d ++ e ++ f
    grouped a b c d e f = simp append_assoc

pub listens-only : (p : ℕ) (standing : Standing) (part : List ℕ) → Spelt listens p standing part
    → part ≡ listens_bytes standing
unfolding listens listens_bytes
listens-only p standing part s =
    let next = parted s in
    let count = parted next.others in
    let list = parted count.others in
    let end = ended list.others in
    let g = grown-bytes listen_behind listen_bytes (λ before q l rest r. listen-only before q l rest r) count.value []
    (p + length next.front + length count.front) list.value list.front list.first in
    let several : list.front ≡ flat_map listen_bytes list.value =
    g.bytes ∙ ap (flat_map listen_bytes) (sym g.same) in
    let many : count.value ≡ length list.value = sym (ap length g.same ∙ g.long) in
    both-parts next (that-bytes I32 is_number next.first).bytes
    (both-parts count ((that-bytes U8 (λ n. nat_le n most_listens) count.first).bytes ∙ ap u8_bytes many)
    (last-part list several end.none))
    ∙ sym (append_assoc (i32_bytes next.value) (u8_bytes (length list.value)) (flat_map listen_bytes list.value))
    ∙ sym (ap (λ (t : Standing). i32_bytes t.next ++ u8_bytes (length t.list) ++ flat_map listen_bytes t.list) end.same)

record IsDue (period due : ℕ) (t : Timer) (part : List ℕ) : Type 0 where
  same_period : t.period ≡ period
  same_due : t.due ≡ due
  none : part ≡ []

due-only : (place period due : ℕ) (good : Bool) (e : fits_timer period due ≡ good) (p : ℕ) (t : Timer)
    (part : List ℕ) → Spelt (due_timer place period due good e) p t part → IsDue period due t part
due-only place period due true e p t part s =
    let end = ended s in
    record {
      same_period = ap (λ (u : Timer). u.period) end.same;
      same_due = ap (λ (u : Timer). u.due) end.same;
      none = end.none;
    }
due-only place period due false e p t part s = absurd s.spells

pub timer-only : (p : ℕ) (t : Timer) (part : List ℕ) → Spelt timer p t part → part ≡ timer_bytes t
unfolding timer timer_bytes
timer-only p t part s =
    let period = parted s in
    let due = parted (behind-here _ period.others) in
    let q = p + length period.front in
    let d = due-only q period.value due.value (fits_timer period.value due.value) refl (q + length due.front) t due.rest
    due.others in
    both-parts period ((that-bytes U32 (λ n. nat_le n 2147483647) period.first).bytes
    ∙ ap u32_bytes (sym d.same_period))
    (last-part due (field-bytes U64 due.first ∙ ap u64_bytes (sym d.same_due)) d.none)
