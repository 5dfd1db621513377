-- Calls are saved, one after another.
use Rattle.std.proofs.Common.{◌<◌, ◌≡◌, ◌∙◌, refl, sym, ap, subst, arith, ℕ, ◌+◌, List, [], ◌∷◌, ◌++◌, length, Some, None}
use Rattle.std.specs.Prelude.{sum_by}
use Rattle.std.proofs.lemmas.List.{append-nil}
use Rattle.std.proofs.lemmas.List.Sums.{sum_by-append}
use Rattle.lsl_running.specs.declared.kept.Kept.{Kept}
use Rattle.lsl_code.specs.declared.frames.Frame.{Frame}
use Rattle.lsl_code.specs.declared.woven_units.Woven.{Woven}
use Rattle.lsl_code.specs.Bodies.{Body}
use Rattle.lsl_code.specs.Frames.{frame_charge}
use Rattle.lsl_code.specs.declared.instructions.Instr.TheVariants.{Tick}
use Rattle.lsl_code.specs.Machine.{MachineCall, Machine, base, call_at}
use Rattle.lsl_code.specs.Modes.{repeat, at_place}
use Rattle.lsl_code.specs.Packs.{Packed}
use Rattle.lsl_code.specs.Saving.{saving, save_step, begins_saving}
use Rattle.lsl_code.specs.Weaves.{bodies_of}
use Rattle.lsl_code.proofs.Repeating.{both_then}
use Rattle.lsl_weave.specs.WovenCalls.{IsAt, WaitAtCalls, RestAtTick}
use Rattle.lsl_machine.specs.declared.running.Activation.{Activation}
use Rattle.lsl_machine.specs.declared.running.Running.{Running}
use Rattle.lsl_machine.specs.declared.saving.Saver.{Saver}
use Rattle.lsl_machine.specs.CallsSaved.{HasCall, CanSeal, IsBehindPoint, IsFrameOf, AreSaved, call_of, low_of}
use Rattle.lsl_machine.specs.Laid.{call_in, flat, activation, activations, Held, Lays, machine_of}
use Rattle.lsl_machine.proofs.Laying.{last_same}
use Rattle.lsl_machine.proofs.Sealing.{low_is, place_short}
use Rattle.lsl_machine.proofs.Totals.{base_more}
use Rattle.lsl_machine.proofs.Viewing.{call_view, machine_view}

-- so far these frames are saved, and these calls are left
pub record IsSaving (bodies : List Body) (first : List MachineCall) (s : Saver) (callers : List Activation)
    (frames : List Frame) : Type 0 where
  pub outer : List MachineCall
  pub handler : ℕ
  pub callee : ℕ
  pub waits : WaitAtCalls bodies handler outer callee
  pub values : s.stack.items ≡ flat outer
  pub waiting : callers ≡ activations outer
  pub in_hand : s.pack.hand ≡ []
  pub ran : (n : ℕ) × (repeat (save_step bodies) n (begins_saving first) ≡ Some (saving outer [] frames))
  pub charge : base outer + sum_by frame_charge frames ≡ base first

-- a call of which the saver has the activation
pub has_call : (s : Saver) (c : MachineCall) (outer : List MachineCall) → s.stack.items ≡ flat (c ∷ outer)
    → s.active ≡ activation c outer → s.pack.hand ≡ [] → HasCall s (flat outer) c []
has_call s c outer values active hand =
    record {
      stack = values;
      function = ap (λ (a : Activation). a.function) active;
      place = ap (λ (a : Activation). a.place) active;
      base = ap (λ (a : Activation). a.base) active;
      floor = ap (λ (a : Activation). a.floor) active;
      in_hand = hand;
    }

pub call_is : (s : Saver) (c : MachineCall) (outer : List MachineCall) → s.stack.items ≡ flat (c ∷ outer)
    → s.active ≡ activation c outer → call_of s ≡ c
call_is s c outer values active =
    ap {A = Activation} (λ a. call_in s.stack.items a (length s.stack.items)) active
    ∙ ap (λ l. call_in l (activation c outer) (length l)) values
    ∙ ap (λ l. call_in l (activation c outer) (length (flat (c ∷ outer)))) (sym (append-nil (flat (c ∷ outer))))
    ∙ call_view c outer []

pub can_seal : (bodies : List Body) (s : Saver) (c : MachineCall) (outer : List MachineCall)
    → s.stack.items ≡ flat (c ∷ outer) → s.active ≡ activation c outer → s.pack.hand ≡ []
    → IsBehindPoint bodies c → CanSeal bodies s
can_seal bodies s c outer values active hand behind =
    let h = has_call s c outer values active hand in
    let low = low_is s (flat outer) c [] h in
    let call = call_is s c outer values active in
    subst (λ (x : MachineCall). HasCall s (low_of s) x [] × IsBehindPoint bodies x) (sym call)
    (subst (λ l. HasCall s l c []) (sym low) h, behind)

-- the innermost call after its tick
abbrev pub behind_tick : MachineCall → MachineCall
behind_tick c = at_place c (c.place + 1) c.operands

pub ticks_behind : (bodies : List Body) (h : ℕ) (c : MachineCall) (outer : List MachineCall)
    → RestAtTick bodies h (c ∷ outer) → IsBehindPoint bodies (behind_tick c)
ticks_behind bodies h c outer rests =
    let fit : IsAt bodies c c.place None rests.0 = rests.1 in (
      c.place,
      None,
      rests.0,
      refl,
      record {
        body = fit.body;
        found = fit.found;
        here = fit.here;
        point = fit.point;
        mapped = fit.mapped;
        calls = fit.calls;
        slots = fit.slots;
        operands = fit.operands;
      },
    )

frame_more : (frames : List Frame) (f : Frame)
    → sum_by frame_charge (frames ++ f ∷ []) ≡ sum_by frame_charge frames + frame_charge f
frame_more frames f = let e = sum_by-append frame_charge frames (f ∷ []) in omega arith

-- the first frame
pub first_saved : (bodies : List Body) (h : ℕ) (c : MachineCall) (outer : List MachineCall) (s : Saver) (f : Frame)
    (callers : List Activation) → RestAtTick bodies h (c ∷ outer) → IsFrameOf bodies (behind_tick c) f
    → s.stack.items ≡ flat outer → s.pack.hand ≡ [] → callers ≡ activations outer
    → IsSaving bodies (c ∷ outer) s callers (f ∷ [])
first_saved bodies h c outer s f callers rests frame values hand waiting =
    let more = base_more c outer in
    let one = frame_more [] f in
    let charge = frame.charge in
    record {
      outer = outer;
      handler = h;
      callee = c.function;
      waits = rests.2;
      values = values;
      waiting = waiting;
      in_hand = hand;
      ran = (frame.ran.0, frame.ran.1 outer []);
      charge = omega arith;
    }

-- the next call that is taken
pub record IsNext (bodies : List Body) (first : List MachineCall) (s : Saver) (caller : Activation)
    (callers : List Activation) (frames : List Frame) : Type 0 where
  pub c : MachineCall
  pub outer : List MachineCall
  pub handler : ℕ
  pub behind : IsBehindPoint bodies c
  pub waits : WaitAtCalls bodies handler outer c.function
  pub values : s.stack.items ≡ flat (c ∷ outer)
  pub caller_is : caller ≡ activation c outer
  pub waiting : callers ≡ activations outer
  pub in_hand : s.pack.hand ≡ []
  pub ran : (n : ℕ) × (repeat (save_step bodies) n (begins_saving first) ≡ Some (saving (c ∷ outer) [] frames))
  pub charge : base (c ∷ outer) + sum_by frame_charge frames ≡ base first

pub next_taken : (bodies : List Body) (first : List MachineCall) (s : Saver) (caller : Activation)
    (callers rest : List Activation) (frames : List Frame) → IsSaving bodies first s callers frames
    → callers ≡ rest ++ caller ∷ [] → IsNext bodies first s caller rest frames
next_taken bodies first s caller callers rest frames x e =
    by_calls x.outer x.waits x.values (sym x.waiting ∙ e) x.ran x.charge
  where
    by_calls : (outer : List MachineCall) → WaitAtCalls bodies x.handler outer x.callee
        → s.stack.items ≡ flat outer → activations outer ≡ rest ++ caller ∷ []
        → ((n : ℕ) × (repeat (save_step bodies) n (begins_saving first) ≡ Some (saving outer [] frames)))
        → base outer + sum_by frame_charge frames ≡ base first → IsNext bodies first s caller rest frames
    by_calls [] waits values e ran charge = none_left rest e
      where
        none_left : (rest : List Activation) → [] ≡ rest ++ caller ∷ [] → IsNext bodies first s caller rest frames
        none_left [] e = absurd cc
        none_left (a ∷ rest) e = absurd cc
    by_calls (c ∷ outer) waits values e ran charge =
        let both = last_same (activations outer) rest (activation c outer) caller e in
        record {
          c = c;
          outer = outer;
          handler = x.handler;
          behind = (waits.0, Some x.callee, waits.1, waits.2, waits.3);
          waits = waits.4;
          values = values;
          caller_is = sym both.1;
          waiting = sym both.0;
          in_hand = x.in_hand;
          ran = ran;
          charge = charge;
        }

pub next_saved : (bodies : List Body) (first : List MachineCall) (s t : Saver) (caller : Activation)
    (callers : List Activation) (frames : List Frame) (f : Frame)
    (x : IsNext bodies first s caller callers frames) → IsFrameOf bodies x.c f → t.stack.items ≡ flat x.outer
    → t.pack.hand ≡ [] → IsSaving bodies first t callers (frames ++ f ∷ [])
next_saved bodies first s t caller callers frames f x frame values hand =
    let more = base_more x.c x.outer in
    let one = frame_more frames f in
    let charge = frame.charge in
    let before = x.charge in
    record {
      outer = x.outer;
      handler = x.handler;
      callee = x.c.function;
      waits = x.waits;
      values = values;
      waiting = x.waiting;
      in_hand = hand;
      ran = (
        x.ran.0 + frame.ran.0,
        both_then (save_step bodies) x.ran.0 frame.ran.0 (begins_saving first) (saving (x.c ∷ x.outer) [] frames)
            (Some (saving x.outer [] (frames ++ f ∷ []))) x.ran.1 (frame.ran.1 x.outer frames),
      );
      charge = omega arith;
    }

-- all calls are saved
pub all_saved : (bodies : List Body) (first : List MachineCall) (s : Saver) (callers : List Activation)
    (frames : List Frame) → IsSaving bodies first s callers frames → callers ≡ [] → AreSaved bodies first frames
all_saved bodies first s callers frames x e = by_calls x.outer (sym x.waiting ∙ e) x.ran x.charge
  where
    by_calls : (outer : List MachineCall) → activations outer ≡ []
        → ((n : ℕ) × (repeat (save_step bodies) n (begins_saving first) ≡ Some (saving outer [] frames)))
        → base outer + sum_by frame_charge frames ≡ base first → AreSaved bodies first frames
    by_calls [] e ran charge = record { ran = ran; charge = sym charge }
    by_calls (c ∷ outer) e ran charge = absurd (not_none (activations outer) (activation c outer) e)
      where
        not_none : (xs : List Activation) (a : Activation) → xs ++ a ∷ [] ≡ [] → ⊥
        not_none [] a e = cc
        not_none (x ∷ xs) a e = cc

-- what a seal leaves
pub left_is : (bodies : List Body) (s t : Saver) (c : MachineCall) (outer : List MachineCall) (f : Frame)
    → s.stack.items ≡ flat (c ∷ outer) → s.active ≡ activation c outer → s.pack.hand ≡ []
    → IsFrameOf bodies (call_of s) f → t.stack.items ≡ low_of s
    → IsFrameOf bodies c f × (t.stack.items ≡ flat outer)
left_is bodies s t c outer f values active hand frame left = (
  subst (λ (x : MachineCall). IsFrameOf bodies x f) (call_is s c outer values active) frame,
  left ∙ low_is s (flat outer) c [] (has_call s c outer values active hand),
)

-- a machine that runs and rests at a tick, by its parts
pub record Rests (unit : Woven) (r : Running) : Type 0 where
  pub kept : Kept
  pub c : MachineCall
  pub outer : List MachineCall
  pub handler : ℕ
  pub lays : Lays r kept c outer
  pub rests : RestAtTick (bodies_of unit) handler (c ∷ outer)
  pub calls : (machine_of r).calls ≡ c ∷ outer

pub rests_so : (unit : Woven) (r : Running) → Held r
    → ((handler : ℕ) × RestAtTick (bodies_of unit) handler (machine_of r).calls) → Rests unit r
rests_so unit r h rests =
    let view = machine_view r h.0 (call_at h.1 h.2 h.3 h.4) h.5 h.6 in
    let calls = ap (λ (m : Machine). m.calls) view in
    record {
      kept = h.0;
      c = call_at h.1 h.2 h.3 h.4;
      outer = h.5;
      handler = rests.0;
      lays = h.6;
      rests = subst (RestAtTick (bodies_of unit) rests.0) calls rests.1;
      calls = calls;
    }

module _ (unit : Woven) (r : Running) (x : Rests unit r) where
  pub tick_short : r.active.place + 1 < 4294967296
  tick_short =
      let fit : IsAt (bodies_of unit) x.c x.c.place None x.rests.0 = x.rests.1 in
      let short = place_short unit x.c.function fit.body x.c.place (Tick x.rests.0) fit.found fit.here in
      let place = ap (λ (a : Activation). a.place) x.lays.active in
      omega arith

  -- the saver of the innermost call
  pub active_behind : record r.active { place = r.active.place + 1 } ≡ activation (behind_tick x.c) x.outer
  active_behind = ap {A = Activation} (λ a. record a { place = a.place + 1 }) x.lays.active

  pub seals_first : (s : Saver) → s.active ≡ record r.active { place = r.active.place + 1 }
      → s.stack ≡ r.stack → s.pack.hand ≡ [] → CanSeal (bodies_of unit) s
  seals_first s active stack hand =
      can_seal (bodies_of unit) s (behind_tick x.c) x.outer (ap (λ y. y.items) stack ∙ x.lays.stack)
      (active ∙ active_behind) hand (ticks_behind (bodies_of unit) x.handler x.c x.outer x.rests)

  pub saves_first : (s t : Saver) (f : Frame) (frames : List Frame)
      → s.active ≡ record r.active { place = r.active.place + 1 } → s.stack ≡ r.stack → s.pack.hand ≡ []
      → IsFrameOf (bodies_of unit) (call_of s) f → t.stack.items ≡ low_of s → t.pack.hand ≡ []
      → frames ≡ f ∷ [] → IsSaving (bodies_of unit) (machine_of r).calls t r.callers.items frames
  saves_first s t f frames active stack hand frame left none is =
      let bodies = bodies_of unit in
      let l = left_is bodies s t (behind_tick x.c) x.outer f (ap (λ y. y.items) stack ∙ x.lays.stack)
      (active ∙ active_behind) hand frame left in
      subst (λ calls. IsSaving bodies calls t r.callers.items frames) (sym x.calls)
      (subst (λ fs. IsSaving bodies (x.c ∷ x.outer) t r.callers.items fs) (sym is)
      (first_saved bodies x.handler x.c x.outer t f r.callers.items x.rests l.0 l.1 none x.lays.callers))

module _ (bodies : List Body) (first : List MachineCall) (s : Saver) (caller : Activation)
    (callers : List Activation) (frames : List Frame) (x : IsNext bodies first s caller callers frames) where
  pub seals_next : (u : Saver) → u.active ≡ caller → u.stack ≡ s.stack → u.pack ≡ s.pack → CanSeal bodies u
  seals_next u active stack hand =
      can_seal bodies u x.c x.outer (ap (λ y. y.items) stack ∙ x.values) (active ∙ x.caller_is)
      (ap (λ (p : Packed). p.hand) hand ∙ x.in_hand) x.behind

  pub saves_next : (u t : Saver) (f : Frame) (more : List Frame) → u.active ≡ caller → u.stack ≡ s.stack
      → u.pack ≡ s.pack → IsFrameOf bodies (call_of u) f → t.stack.items ≡ low_of u → t.pack.hand ≡ []
      → more ≡ frames ++ f ∷ [] → IsSaving bodies first t callers more
  saves_next u t f more active stack hand frame left none is =
      let l = left_is bodies u t x.c x.outer f (ap (λ y. y.items) stack ∙ x.values) (active ∙ x.caller_is)
      (ap (λ (p : Packed). p.hand) hand ∙ x.in_hand) frame left in
      subst (λ fs. IsSaving bodies first t callers fs) (sym is)
      (next_saved bodies first s t caller callers frames f x l.0 l.1 none)
