-- What is saved is restored.
use Rattle.std.proofs.Common.{◌≡◌, ◌∙◌, sym, ap, subst, arith, ℕ, ◌+◌, ◌≤◌, List, [], ◌∷◌, Option, Some, None}
use Rattle.std.specs.Prelude.{option_map, sum_by}
use Rattle.lsl_running.specs.declared.host.Reply.{Reply}
use Rattle.lsl_running.specs.declared.kept.Kept.{Kept}
use Rattle.lsl_code.specs.declared.frames.Frame.{Frame}
use Rattle.lsl_code.specs.declared.instructions.Instr.{Instr}
use Rattle.lsl_code.specs.declared.instructions.Instr.TheVariants.{Tick}
use Rattle.lsl_code.specs.declared.woven_units.Woven.{Woven}
use Rattle.lsl_code.specs.Acts.{Passes, act}
use Rattle.lsl_code.specs.Bodies.{Body, instruction_at}
use Rattle.lsl_code.specs.Frames.{AreFrames, AreValid, frame_charge, frames_of, parked_charge, points_of}
use Rattle.lsl_code.specs.Kinded.{AreKindedCalls}
use Rattle.lsl_code.specs.Kinds.{kinds_of}
use Rattle.lsl_code.specs.Machine.{MachineCall, Machine, Pauses, Passing, base, done_by, put, step, used_in}
use Rattle.lsl_code.specs.ModeRuns.{Beside, BackRun, SaveRun, beside_of, whole}
use Rattle.lsl_code.specs.Saving.{save_step, begins_saving}
use Rattle.lsl_code.specs.Standing.{HasFrames, IsAtTick, IsChain}
use Rattle.lsl_code.specs.Weaves.{Weaves, bodies_of, most_steps}
use Rattle.lsl_code.proofs.Acts.{By, act_by}
use Rattle.lsl_code.proofs.ModeRuns.{one_restoring, one_saving, restoring_keeps, runs_beside}
use Rattle.lsl_code.proofs.Stood.{ticks_have_frames}
use Rattle.lsl_weave.proofs.FramesBack.{restored_rest}
use Rattle.lsl_weave.proofs.OnePlaced.{one_placed}
use Rattle.lsl_weave.proofs.Resting.{kinded_machines_rest, resting_calls_are_kinded}
use Rattle.lsl_weave.proofs.Sealed.{saved_frames_fit}
use Rattle.lsl_weave.specs.WovenCalls.{RestAtTick}
use Rattle.lsl_machine.specs.CallsSaved.{AreSaved}
use Rattle.lsl_machine.specs.CallsRestored.{IsRestored, beside}
use Rattle.lsl_machine.specs.declared.running.Running.{Running}
use Rattle.lsl_machine.specs.declared.standing.Standing.TheVariants as standing
use Rattle.lsl_machine.specs.Laid.{machine_of, state_of}
use Rattle.lsl_machine.specs.Parking.{HasParked}
use Rattle.lsl_machine.specs.State.{State, IsChained, IsChainedAt, IsCharged, IsChargedAt, IsIn, IsKinded, IsOf, StandsAtTick}
use Rattle.lsl_machine.proofs.Moving.{well_formed}
use Rattle.lsl_machine.proofs.OneFramed.{frames_same}
use Rattle.lsl_machine.proofs.Ticking.{passes_only}

is_tick : (bodies : List Body) (o : Option Instr) (g : Kept) (c : MachineCall) (held : ℕ)
    → act bodies o g held c.slots c.operands ≡ Passes → (p : ℕ) × (o ≡ Some (Tick p))
is_tick bodies None g c held e = absurd cc
is_tick bodies (Some i) g c held e =
    let by = subst (By bodies i) e (act_by bodies i g held c.slots c.operands) in
    (by.0, ap Some by.1)

-- a machine that passes a tick next is at one
pub at_tick : (bodies : List Body) (m : Machine) → m.answers ≡ [] → StandsAtTick bodies m → IsAtTick bodies m.calls
at_tick bodies m none stands = by_calls m.calls (subst (λ a. step bodies (record m { answers = a })
    ≡ Pauses (Passing stands.0)) none stands.1)
  where
    by_calls : (calls : List MachineCall) → step bodies (record { kept = m.kept; calls = calls; answers = [] })
        ≡ Pauses (Passing stands.0) → IsAtTick bodies calls
    by_calls [] e = absurd cc
    by_calls (c ∷ outer) e =
        is_tick bodies (instruction_at bodies c.function c.place) m.kept c (base outer)
        (passes_only (act bodies (instruction_at bodies c.function c.place) m.kept (base outer) c.slots c.operands)
        m.kept c.function c.place c.slots c.operands outer stands.0 e)

module _ (unit : Woven) (m : Machine) (none : m.answers ≡ []) (kinded : IsKinded unit m)
    (stands : StandsAtTick (bodies_of unit) m) where
  abbrev bodies : List Body
  bodies = bodies_of unit

  module _ (h : ℕ) (chain : IsChain bodies h m.calls) where
    pub rests : RestAtTick bodies h m.calls
    rests = kinded_machines_rest unit.globals unit.states bodies unit.woven h m kinded chain
        (at_tick bodies m none stands)

    pub has_frames : HasFrames bodies h m.calls (frames_of bodies m.calls)
    has_frames = ticks_have_frames unit.globals unit.states bodies (well_formed unit) h m kinded chain
        (at_tick bodies m none stands)

  module _ (frames : List Frame) (saved : AreSaved bodies m.calls frames) where
    pub save_run : SaveRun bodies m frames (beside m.kept)
    save_run =
        let same : beside_of m ≡ beside m.kept = ap (λ a. record { kept = m.kept; answers = a }) none in
        subst (SaveRun bodies m frames) same (
          saved.ran.0,
          runs_beside (save_step bodies) saved.ran.0 (beside_of m) (begins_saving m.calls)
              ∙ ap (option_map (whole (beside_of m))) saved.ran.1,
        )

    pub valid : (h : ℕ) → IsChain bodies h m.calls → used_in m.calls m.kept ≤ m.kept.limit
        → AreValid (points_of bodies) h m.kept.globals m.kept.limit frames
    valid h chain charged = (
      saved_frames_fit unit.globals unit.states bodies unit.woven h m (rests h chain) frames (beside m.kept)
          save_run,
      by_calls m.calls chain saved.charge charged,
    )
      where
        by_calls : (calls : List MachineCall) → IsChain bodies h calls
            → base calls ≡ 1024 + sum_by frame_charge frames → used_in calls m.kept ≤ m.kept.limit
            → parked_charge m.kept.globals frames ≤ m.kept.limit
        by_calls [] chain e within = absurd chain
        by_calls (c ∷ outer) chain e within = omega arith

    pub are_frames : Weaves unit → (h : ℕ) → IsChain bodies h m.calls → frames ≡ frames_of bodies m.calls
    are_frames weaves h chain =
        (one_saving bodies m frames (frames_of bodies m.calls) (beside m.kept) (beside_of m) save_run
        (weaves.saves h m (frames_of bodies m.calls) (has_frames h chain))).0

-- what these frames are restored to, where the unit weaves
module _ (unit : Woven) (weaves : Weaves unit) (h : ℕ) (frames : List Frame) (kept : Kept)
    (fit : AreFrames (points_of (bodies_of unit)) h frames) (m : Machine) (n : ℕ)
    (run : BackRun (bodies_of unit) h frames (beside kept) m n) where
  pub few_steps : n ≤ most_steps frames
  few_steps =
      let r = weaves.restores h frames (beside kept) fit in
      let same = one_restoring (bodies_of unit) h frames (beside kept) m r.0 n r.1 run r.4 in
      let e = same.1 in
      let le = r.3 in
      omega arith

  pub same_calls : (calls : List MachineCall) → HasFrames (bodies_of unit) h calls frames → m.calls ≡ calls
  same_calls calls has =
      let r = weaves.restores h frames (beside kept) fit in
      let same = one_restoring (bodies_of unit) h frames (beside kept) m r.0 n r.1 run r.4 in
      ap (λ (x : Machine). x.calls) same.0
      ∙ frames_same (bodies_of unit) (one_placed unit.globals unit.states (bodies_of unit) (well_formed unit))
      r.0.calls calls frames h r.2 has

  pub same_machine : (s : State) → HasParked (bodies_of unit) h s frames kept → m ≡ s.machine
  same_machine s parked =
      let keeps = restoring_keeps (bodies_of unit) h frames (beside kept) m n run in
      let kept_is : m.kept ≡ s.machine.kept = ap (λ (x : Beside). x.kept) keeps ∙ sym parked.keeps in
      let answers : m.answers ≡ s.machine.answers = ap (λ (x : Beside). x.answers) keeps ∙ sym parked.answers in
      let calls = same_calls s.machine.calls parked.frames_are in
      ap (λ x. record { kept = x; calls = m.calls; answers = m.answers }) kept_is
      ∙ ap (λ x. record { kept = s.machine.kept; calls = x; answers = m.answers }) calls
      ∙ ap (λ x. record { kept = s.machine.kept; calls = s.machine.calls; answers = x }) answers

tick_stands : (bs : List Body) (g : Kept) (answers : List Reply) (calls : List MachineCall)
    → IsAtTick bs calls
    → StandsAtTick bs (record { kept = g; calls = calls; answers = answers })
tick_stands bs g answers [] tick = absurd tick
tick_stands bs g answers (c ∷ outer) tick = (
  put g answers c.function (c.place + 1) c.slots c.operands outer,
  ap (λ o. done_by bs o g answers c.function c.place c.slots c.operands outer) tick.1,
)

-- the restored machine is one of the unit, and is at a tick
module _ (unit : Woven) (h : ℕ) (frames : List Frame) (kept : Kept)
    (fit : AreFrames (points_of (bodies_of unit)) h frames) (kinds : kinds_of kept.globals ≡ kinds_of unit.globals)
    (r : Running) (n : ℕ) (restored : IsRestored (bodies_of unit) h frames kept r n) where
  restored_calls : AreKindedCalls (bodies_of unit) (machine_of r).calls
      × IsChain (bodies_of unit) h (machine_of r).calls
      × IsAtTick (bodies_of unit) (machine_of r).calls
  restored_calls =
      resting_calls_are_kinded unit.globals unit.states (bodies_of unit) unit.woven h (machine_of r).calls
      (restored_rest unit.globals unit.states (bodies_of unit) unit.woven h frames (beside kept) fit (machine_of r) n
      restored.ran)

  pub restored_kept : (machine_of r).kept ≡ kept
  restored_kept =
      ap (λ (x : Beside). x.kept)
      (restoring_keeps (bodies_of unit) h frames (beside kept) (machine_of r) n restored.ran)

  pub restored_chained : IsChain (bodies_of unit) h (machine_of r).calls
  restored_chained = restored_calls.1

  pub restored_of : IsOf unit (state_of r standing.AtTick)
  restored_of =
      let calls = restored_calls in
      let same = restored_kept in (
        (
          record { kept = ap (λ (k : Kept). kinds_of k.globals) same ∙ kinds; calls = calls.0 },
          tick_stands (bodies_of unit) (machine_of r).kept [] (machine_of r).calls calls.2,
        ),
        restored.reserved,
        (h, calls.1),
      )

-- a machine of the unit at a tick
module _ (unit : Woven) (s : State) (none : s.machine.answers ≡ []) (stands : s.standing ≡ standing.AtTick)
    (of : IsOf unit s) where
  tick_in : IsKinded unit s.machine × StandsAtTick (bodies_of unit) s.machine
  tick_in = subst (λ z. IsIn unit z s.machine) stands of.0

  chain_at : (h : ℕ) → IsChained (bodies_of unit) h s → IsChain (bodies_of unit) h s.machine.calls
  chain_at h chain = subst (λ z. IsChainedAt (bodies_of unit) h z s.machine) stands chain

  pub rests_at : (h : ℕ) × RestAtTick (bodies_of unit) h s.machine.calls
  rests_at =
      let t = tick_in in
      (of.2.0, rests unit s.machine none t.0 t.1 of.2.0 (chain_at of.2.0 of.2.1))

  module _ (frames : List Frame) (kept : Kept) (keeps : kept ≡ s.machine.kept)
      (saved : AreSaved (bodies_of unit) s.machine.calls frames) where
    pub parked_run : SaveRun (bodies_of unit) s.machine frames (beside kept)
    parked_run =
        let t = tick_in in
        subst (λ g. SaveRun (bodies_of unit) s.machine frames (beside g)) (sym keeps)
        (save_run unit s.machine none t.0 t.1 frames saved)

    pub parked_valid : IsCharged s → (h : ℕ) → IsChained (bodies_of unit) h s
        → AreValid (points_of (bodies_of unit)) h kept.globals kept.limit frames
    parked_valid charged h chain =
        let t = tick_in in
        let within = subst (λ z. IsChargedAt z s.machine) stands charged in
        subst (λ (g : Kept). AreValid (points_of (bodies_of unit)) h g.globals g.limit frames) (sym keeps)
        (valid unit s.machine none t.0 t.1 frames saved h (chain_at h chain) within.0)

    pub parked_frames : Weaves unit → frames ≡ frames_of (bodies_of unit) s.machine.calls
    parked_frames weaves =
        let t = tick_in in
        are_frames unit s.machine none t.0 t.1 frames saved weaves of.2.0 (chain_at of.2.0 of.2.1)

    pub has_parked : Weaves unit → (h : ℕ) → IsChained (bodies_of unit) h s
        → HasParked (bodies_of unit) h s frames kept
    has_parked weaves h chain =
        let t = tick_in in
        record {
          stands = stands;
          frames_are = subst (HasFrames (bodies_of unit) h s.machine.calls) (sym (parked_frames weaves))
              (has_frames unit s.machine none t.0 t.1 h (chain_at h chain));
          keeps = sym keeps;
          answers = none;
        }
