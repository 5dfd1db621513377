-- A machine that is saved and restored in place.
use Rattle.std.proofs.Common.{◌≡◌, ◌∙◌, refl, sym, ap, subst, arith, ℕ, ◌≤◌, List, [], Result, OnOk, Ok, Err}
use Rattle.lsl_running.specs.declared.kept.Kept.{Kept}
use Rattle.lsl_running.specs.Charging.{charges_of, default_limit}
use Rattle.lsl_code.specs.declared.frames.Frame.{Frame}
use Rattle.lsl_code.specs.declared.woven_units.Woven.{Woven}
use Rattle.lsl_code.specs.Kinds.{kinds_of}
use Rattle.lsl_code.specs.Weaves.{Weaves, bodies_of}
use Rattle.lsl_weave.specs.WovenCalls.{RestAtTick}
use Rattle.lsl_machine.specs.declared.layouts.Layout.{Layout}
use Rattle.lsl_machine.specs.declared.running.Running.{Running}
use Rattle.lsl_machine.specs.declared.standing.Standing.{Standing}
use Rattle.lsl_machine.specs.declared.standing.Standing.TheVariants as standing
use Rattle.lsl_machine.specs.CallsSaved.{AreSaved}
use Rattle.lsl_machine.specs.Laid.{Held, IsLaid, kept_of, machine_of, state_of}
use Rattle.lsl_machine.specs.Layouts.{HasLayout, IsLayout}
use Rattle.lsl_machine.specs.Paused.{HasSettled, IsPaused, SavesValid}
use Rattle.lsl_machine.specs.State.{State, IsChained, IsCharged, IsIn, IsOf}
use Rattle.lsl_machine.proofs.AtOnce.{restored}
use Rattle.lsl_machine.proofs.Chained.{laid_charge}
use Rattle.lsl_machine.proofs.Moved.{has_parked, parked_valid, restored_of, rests_at, same_machine}

pub held_small : (r : Running) → Held r → r.limit ≤ default_limit
held_small r h =
    let lays = h.6 in
    let same = lays.limit in
    let small = lays.small in
    omega arith

-- calls that settle beside the same globals
pub settled : (r before new : Running) → Held r → before.globals ≡ r.globals → before.global_charge ≡ r.global_charge
    → before.limit ≡ r.limit → (l : Layout) (frames : List Frame) → HasSettled l frames before new
    → HasLayout l frames (kept_of r) new
settled r before new held globals charge limit l frames h =
    let lays = held.6 in
    let within = lays.within in
    let small = lays.small in
    let is = h.global_charge ∙ charge ∙ lays.global_charge ∙ ap charges_of (sym lays.globals) in
    let same = ap charges_of lays.globals in
    record {
      stack = h.stack;
      callers = ap (λ v. v.items) h.callers;
      active = h.active;
      globals = ap (λ v. v.items) (h.globals ∙ globals);
      global_charge = omega arith;
      limit = h.limit ∙ limit;
      room = h.room;
    }

-- they are those that the machine was saved with
module _ (unit : Woven) (handler : ℕ) (r before new : Running) (held : Held r)
    (valid : SavesValid (bodies_of unit) handler r) (globals : before.globals ≡ r.globals)
    (charge : before.global_charge ≡ r.global_charge) (limit : before.limit ≡ r.limit) (frames : List Frame)
    (saved : AreSaved (bodies_of unit) (machine_of r).calls frames) (l : Layout)
    (x : IsLayout (bodies_of unit) handler frames l) where
  paused : HasSettled l frames before new → IsPaused (bodies_of unit) handler r new
  paused h =
      record {
        frames = frames;
        saved = saved;
        steps = l.steps;
        restored = restored unit handler frames (kept_of r) (valid frames saved) (held_small r held) l x new
            (settled r before new held globals charge limit l frames h);
      }

  pub settled_paused : {E : Type 0} (o : Result (Unit {0}) E) → OnOk o (HasSettled l frames before new)
      → OnOk o (IsPaused (bodies_of unit) handler r new)
  settled_paused (Ok u) h = paused h
  settled_paused (Err e) h = tt

-- the machine of a state at a tick
module _ (unit : Woven) (handler : ℕ) (r : Running) (z : Standing) (laid : IsLaid r z) (s : State)
    (view : state_of r z ≡ s) (stands : s.standing ≡ standing.AtTick) (of : IsOf unit s)
    (chained : IsChained (bodies_of unit) handler s) where
  none : s.machine.answers ≡ []
  none = subst (λ (x : State). x.machine.answers ≡ []) view refl

  kept : kept_of r ≡ s.machine.kept
  kept = ap (λ (x : State). x.machine.kept) view

  saved_of : (frames : List Frame) → AreSaved (bodies_of unit) (machine_of r).calls frames
      → AreSaved (bodies_of unit) s.machine.calls frames
  saved_of frames saved = subst (λ (x : State). AreSaved (bodies_of unit) x.machine.calls frames) view saved

  pub rests_there : (h : ℕ) × RestAtTick (bodies_of unit) h (machine_of r).calls
  rests_there =
      let at = rests_at unit s none stands of in
      (at.0, subst (λ (x : State). RestAtTick (bodies_of unit) at.0 x.machine.calls) (sym view) at.1)

  pub saves_valid : SavesValid (bodies_of unit) handler r
  saves_valid frames saved =
      parked_valid unit s none stands of frames (kept_of r) kept (saved_of frames saved)
      (subst IsCharged view (laid_charge r z laid)) handler chained

  module _ (new : Running) (p : IsPaused (bodies_of unit) handler r new) where
    pub paused_same : Weaves unit → machine_of new ≡ s.machine
    paused_same weaves =
        same_machine unit weaves handler p.frames (kept_of r) (saves_valid p.frames p.saved).0 (machine_of new) p.steps
        p.restored.ran s (has_parked unit s none stands of p.frames (kept_of r) kept (saved_of p.frames p.saved) weaves
        handler chained)

    pub paused_of : IsOf unit (state_of new standing.AtTick)
    paused_of =
        let here = subst (λ z. IsIn unit z s.machine) stands of.0 in
        restored_of unit handler p.frames (kept_of r) (saves_valid p.frames p.saved).0
        (ap (λ (k : Kept). kinds_of k.globals) kept ∙ here.0.kept) new p.steps p.restored
