-- Restoring continues from instruction to instruction, up to its end.
use Rattle.std.proofs.Common.{◌≡◌, ◌∙◌, refl, sym, ap, subst, arith, ℕ, ◌+◌, ◌*◌, ◌<◌, ◌≤◌, true, false, Bool, List, [], ◌∷◌, ◌++◌, length, length-append, reverse, Option, Some, None, vec_capacity}
use Rattle.std.specs.Prelude.{slice_get, option_map, sum_by}
use Rattle.std.proofs.lemmas.List.Sums.{sum_by-cons}
use Rattle.std.proofs.lemmas.Option.{none-some}
use Rattle.lsl_value.specs.declared.tagged.Value.{Value}
use Rattle.lsl_running.specs.declared.kept.Kept.{Kept}
use Rattle.lsl_running.specs.Charging.{default_limit}
use Rattle.lsl_code.specs.declared.frames.Frame.{Frame}
use Rattle.lsl_code.specs.declared.instructions.Instr.{Instr}
use Rattle.lsl_code.specs.declared.instructions.Instr.TheVariants.{Branch}
use Rattle.lsl_code.specs.declared.woven_units.Woven.{Woven}
use Rattle.lsl_code.specs.Bodies.{Body, instruction_in, instruction_at}
use Rattle.lsl_code.specs.Frames.{AreFrames, AreValid, frame_charge, points_of}
use Rattle.lsl_code.specs.Machine.{MachineCall, Machine, call_at, used_in}
use Rattle.lsl_code.specs.ModeRuns.{BackRun, beside_of, whole}
use Rattle.lsl_code.specs.Modes.{repeat}
use Rattle.lsl_code.specs.Restoring.{Restoring, awake_with, blank, back_act, back_after, back_step, back_step_in, begins_restoring, restoring, unless_awake}
use Rattle.lsl_code.specs.Weaves.{bodies_of}
use Rattle.lsl_code.proofs.ModeRuns.{runs_beside}
use Rattle.lsl_code.proofs.Repeating.{then_one, one_end}
use Rattle.lsl_weave.proofs.FramesBack.{woven_restores}
use Rattle.lsl_machine.specs.declared.restoring.Restorer.{Restorer}
use Rattle.lsl_machine.specs.declared.running.Running.{Running}
use Rattle.lsl_machine.specs.CallsRestored.{Backs, CameTo, CanBack, HasCalls, HasPlace, IsRestored, IsRestoring, IsState, beside, next_of}
use Rattle.lsl_machine.specs.Laid.{Lays, flat, machine_of}
use Rattle.lsl_machine.specs.Rooms.{IsReserved}
use Rattle.lsl_machine.proofs.BackCharged.{restored_charge}
use Rattle.lsl_machine.proofs.Reaching.{alone, next_there}
use Rattle.lsl_machine.proofs.Sealing.{place_short}
use Rattle.lsl_machine.proofs.Viewing.{machine_view}

-- restoring these frames ends this way, after n instructions
record Whole (unit : Woven) (handler : ℕ) (frames : List Frame) : Type 0 where
  body : Body
  found : slice_get (bodies_of unit) handler ≡ Some body
  calls : List MachineCall
  point : ℕ
  count : ℕ
  few : count ≤ 4294967296 * length frames
  ran : repeat (back_step (bodies_of unit)) count (begins_restoring handler body frames)
      ≡ Some (awake_with calls point [] [])

whole_of : (unit : Woven) (handler : ℕ) (frames : List Frame) (kept : Kept)
    → AreFrames (points_of (bodies_of unit)) handler frames → Whole unit handler frames
whole_of unit handler frames kept fit =
    let r = woven_restores unit.globals unit.states (bodies_of unit) unit.woven handler frames (beside kept) fit in
    let run = r.3 in
    record {
      body = run.0;
      found = run.2;
      calls = r.0.calls;
      point = run.1;
      count = r.1;
      few = r.2;
      ran = alone (back_step (bodies_of unit)) r.1 (beside kept) (beside_of r.0)
          (begins_restoring handler run.0 frames) (awake_with r.0.calls run.1 [] []) run.3;
    }

frames_few : (frames : List Frame) → 32 * length frames ≤ sum_by frame_charge frames
frames_few [] = omega arith
frames_few (f ∷ frames) =
    let more = sum_by-cons frame_charge f frames in
    let rest = frames_few frames in
    omega arith

-- so far k instructions were done
pub record IsReturning (unit : Woven) (handler : ℕ) (frames : List Frame) (r : Restorer) (k : ℕ) : Type 0 where
  pub body : Body
  pub found : slice_get (bodies_of unit) handler ≡ Some body
  pub state : Restoring
  pub asleep : state.awake ≡ false
  pub has : IsState (bodies_of unit) r state
  pub ran : repeat (back_step (bodies_of unit)) k (begins_restoring handler body frames) ≡ Some state

pub begins_so : (unit : Woven) (handler : ℕ) (frames : List Frame) (r : Restorer) (body : Body)
    → slice_get (bodies_of unit) handler ≡ Some body
    → IsRestoring (bodies_of unit) r (blank handler body) [] 0 [] frames → IsReturning unit handler frames r 0
begins_so unit handler frames r body found h =
    record {
      body = body;
      found = found;
      state = begins_restoring handler body frames;
      asleep = refl;
      has = h;
      ran = refl;
    }

module _ (unit : Woven) (handler : ℕ) (frames : List Frame) (kept : Kept)
    (valid : AreValid (points_of (bodies_of unit)) handler kept.globals kept.limit frames)
    (small : kept.limit ≤ default_limit) where
  abbrev bodies : List Body
  bodies = bodies_of unit

  pub body_there : (body : Body) × (slice_get bodies handler ≡ Some body)
  body_there = let w = whole_of unit handler frames kept valid.0 in (w.body, w.found)

  -- a whole run is short enough to be counted
  pub run_short : (m : Machine) (n : ℕ) → BackRun bodies handler frames (beside kept) m n
      → n ≤ 9223372036854775807
  run_short m n run =
      let all = whole_of unit handler frames kept valid.0 in
      let same : run.0 ≡ all.body = cc (run.2, all.found) in
      let other = alone (back_step bodies) n (beside kept) (beside_of m) (begins_restoring handler run.0 frames)
      (awake_with m.calls run.1 [] []) run.3 in
      let here = subst (λ (b : Body). repeat (back_step bodies) n (begins_restoring handler b frames)
      ≡ Some (awake_with m.calls run.1 [] [])) same other in
      let one = one_end (back_step bodies) n all.count (begins_restoring handler all.body frames)
      (awake_with m.calls run.1 [] []) (awake_with all.calls all.point [] []) here refl all.ran refl in
      let few = all.few in
      let some = frames_few frames in
      let within = valid.1 in
      let e = one.0 in
      omega arith

  module _ (r : Restorer) (k : ℕ) (x : IsReturning unit handler frames r k) where
    total : Whole unit handler frames
    total = whole_of unit handler frames kept valid.0

    same_run : repeat (back_step bodies) total.count (begins_restoring handler x.body frames)
        ≡ Some (awake_with total.calls total.point [] [])
    same_run =
        let same : total.body ≡ x.body = cc (total.found, x.found) in
        subst (λ (b : Body). repeat (back_step bodies) total.count (begins_restoring handler b frames)
        ≡ Some (awake_with total.calls total.point [] [])) same total.ran

    next : (v : Restoring) × (back_step bodies x.state ≡ Some v) × (k + 1 ≤ total.count)
    next =
        next_there (back_step bodies) k total.count (begins_restoring handler x.body frames) x.state
        (awake_with total.calls total.point [] []) x.ran same_run refl
        (λ e. let y : x.state.awake ≡ true = ap (λ (s : Restoring). s.awake) e in
        true_not_false (sym y ∙ x.asleep))
      where
        true_not_false : true ≡ false → ⊥
        true_not_false e = cc

    -- fewer instructions so far than can be counted
    pub counts_on : k + 1 ≤ 9223372036854775807
    counts_on =
        let few = total.few in
        let some = frames_few frames in
        let within = valid.1 in
        let n = next in
        let le = n.2 in
        omega arith

    -- and they are part of any whole run
    pub part_of : (m : Machine) (n : ℕ) → BackRun bodies handler frames (beside kept) m n → k + 1 ≤ n
    part_of m n run =
        let same : run.0 ≡ total.body = cc (run.2, total.found) in
        let other = alone (back_step bodies) n (beside kept) (beside_of m) (begins_restoring handler run.0 frames)
        (awake_with m.calls run.1 [] []) run.3 in
        let here = subst (λ (b : Body). repeat (back_step bodies) n (begins_restoring handler b frames)
        ≡ Some (awake_with m.calls run.1 [] [])) same other in
        let one = one_end (back_step bodies) n total.count (begins_restoring handler total.body frames)
        (awake_with m.calls run.1 [] []) (awake_with total.calls total.point [] []) here refl total.ran refl in
        let le = next.2 in
        let e = one.0 in
        omega arith

    -- the innermost call has an instruction, which restores
    record Next : Type 0 where
      c : MachineCall
      outer : List MachineCall
      calls : x.state.calls ≡ c ∷ outer
      is : IsRestoring bodies r c outer x.state.point x.state.hand x.state.sack

    first_call : (calls : List MachineCall) → x.state.calls ≡ calls
        → HasCalls bodies r calls x.state.point x.state.hand x.state.sack → Next
    first_call [] e h = absurd h
    first_call (c ∷ outer) e h = record { c = c; outer = outer; calls = e; is = h }

    at : Next
    at = first_call x.state.calls refl x.has

    stepped : back_step bodies x.state
        ≡ back_after bodies (back_act (slice_get bodies at.c.function)
        (instruction_at bodies at.c.function at.c.place) at.c x.state.point x.state.hand x.state.sack) at.outer
        x.state.point x.state.hand x.state.sack
    stepped =
        ap (λ b. unless_awake b (back_step_in bodies x.state.calls x.state.point x.state.hand x.state.sack)) x.asleep
        ∙ ap (λ calls. back_step_in bodies calls x.state.point x.state.hand x.state.sack) at.calls

    at_place : instruction_at bodies r.active.function r.active.place
        ≡ instruction_at bodies at.c.function at.c.place
    at_place =
        ap (λ f. instruction_at bodies f r.active.place) at.is.function
        ∙ ap (instruction_at bodies at.c.function) at.is.place

    pub has_next : instruction_at bodies r.active.function r.active.place ≡ None → ⊥
    has_next e =
        let none : instruction_at bodies at.c.function at.c.place ≡ None = sym at_place ∙ e in
        let stops : back_step bodies x.state ≡ None = stepped
        ∙ ap (λ o. back_after bodies (back_act (slice_get bodies at.c.function) o at.c x.state.point x.state.hand
        x.state.sack) at.outer x.state.point x.state.hand x.state.sack) none in
        let n = next in
        none-some n.0 (sym stops ∙ n.1)

    module _ (i : Instr) (here : instruction_at bodies r.active.function r.active.place ≡ Some i) where
      next_is : back_step bodies x.state ≡ next_of bodies i at.c at.outer x.state.point x.state.hand x.state.sack
      next_is =
          stepped
          ∙ ap (λ o. back_after bodies (back_act (slice_get bodies at.c.function) o at.c x.state.point x.state.hand
          x.state.sack) at.outer x.state.point x.state.hand x.state.sack) (sym at_place ∙ here)

      -- a place with an instruction can be numbered
      numbered : (f place : ℕ) → (j : Instr) → instruction_at bodies f place ≡ Some j → place + 1 < 4294967296
      numbered f place j = by_body (slice_get bodies f) refl
        where
          by_body : (o : Option Body) → slice_get bodies f ≡ o → instruction_in o place ≡ Some j
              → place + 1 < 4294967296
          by_body None e h = absurd cc
          by_body (Some w) e h = place_short unit f w place j e h

      -- where a branch leads to an instruction restores too
      branched : i ≡ Branch → at.c.place + 1 + x.state.point < 4294967296
      branched e =
          let to = call_at at.c.function (at.c.place + 1 + x.state.point) at.c.slots at.c.operands in
          let s = restoring (to ∷ at.outer) x.state.point x.state.hand x.state.sack in
          let steps : back_step bodies x.state ≡ Some s = next_is
          ∙ ap (λ j. next_of bodies j at.c at.outer x.state.point x.state.hand x.state.sack) e in
          let after = next_there (back_step bodies) (k + 1) total.count (begins_restoring handler x.body frames) s
          (awake_with total.calls total.point [] [])
          (then_one (back_step bodies) k (begins_restoring handler x.body frames) x.state (Some s) x.ran steps) same_run
          refl (λ d. let no : false ≡ true = ap (λ (t : Restoring). t.awake) d in absurd cc) in
          by_instr (instruction_at bodies at.c.function (at.c.place + 1 + x.state.point)) refl after.0 after.1
        where
          by_instr : (o : Option Instr) → instruction_at bodies at.c.function (at.c.place + 1 + x.state.point) ≡ o
              → (v : Restoring)
              → back_step bodies (restoring (call_at at.c.function (at.c.place + 1 + x.state.point) at.c.slots
              at.c.operands ∷ at.outer) x.state.point x.state.hand x.state.sack) ≡ Some v
              → at.c.place + 1 + x.state.point < 4294967296
          by_instr None e v d =
              let to = call_at at.c.function (at.c.place + 1 + x.state.point) at.c.slots at.c.operands in
              absurd (none-some v (sym (ap (λ o. back_after bodies (back_act (slice_get bodies at.c.function) o to
              x.state.point x.state.hand x.state.sack) at.outer x.state.point x.state.hand x.state.sack) e) ∙ d))
          by_instr (Some j) e v d =
              let less = numbered at.c.function (at.c.place + 1 + x.state.point) j e in
              omega arith

      placed_here : HasPlace i r
      placed_here = by_branch i refl
        where
          one : (j : Instr) → i ≡ j → r.active.place + 1 < 4294967296
          one j e = numbered r.active.function r.active.place i here

          by_branch : (j : Instr) → i ≡ j → HasPlace j r
          by_branch Branch e =
              let to = branched e in
              let place = at.is.place in
              let point = at.is.at_point in
              omega arith
          by_branch j e = one j e

      pub can_back : CanBack bodies i r
      can_back =
          let n = next in (
            at.c,
            at.outer,
            x.state.point,
            x.state.hand,
            x.state.sack,
            n.0,
            at.is,
            sym next_is ∙ n.1,
            placed_here,
          )

      -- the result of the instruction
      record Came (t : Restorer) (awake : Bool) : Type 0 where
        state : Restoring
        is_awake : state.awake ≡ awake
        has : IsState bodies t state
        ran : repeat (back_step bodies) (k + 1) (begins_restoring handler x.body frames) ≡ Some state

      came : (t : Restorer) (awake : Bool) → Backs bodies i r awake t → Came t awake
      came t awake backs =
          let did = backs at.c at.outer x.state.point x.state.hand x.state.sack at.is in
          by_next (next_of bodies i at.c at.outer x.state.point x.state.hand x.state.sack) next_is did
        where
          by_next : (o : Option Restoring) → back_step bodies x.state ≡ o → CameTo bodies o awake t → Came t awake
          by_next None e did = absurd did
          by_next (Some s) e did =
              record {
                state = s;
                is_awake = did.0;
                has = did.1;
                ran = then_one (back_step bodies) k (begins_restoring handler x.body frames) x.state (Some s) x.ran e;
              }

      pub goes_on : (t : Restorer) → Backs bodies i r false t → IsReturning unit handler frames t (k + 1)
      goes_on t backs =
          let y = came t false backs in
          record {
            body = x.body;
            found = x.found;
            state = y.state;
            asleep = y.is_awake;
            has = y.has;
            ran = y.ran;
          }

      -- or ends with the machine that then runs
      pub ends : (t : Restorer) (q : Running) → Backs bodies i r true t
          → ((bodies : List Body) (c : MachineCall) (outer : List MachineCall) (point : ℕ) (hand : List Value)
          (sack : List Frame) → IsRestoring bodies t c outer point hand sack → kept.limit ≤ default_limit
          → used_in (c ∷ outer) kept ≤ kept.limit → Lays q kept c outer) → vec_capacity q.stack ≡ vec_capacity t.stack
          → IsRestored bodies handler frames kept q (k + 1)
      ends t q backs finished room =
          let y = came t true backs in
          let over : back_step bodies y.state ≡ None =
          ap (λ b. unless_awake b (back_step_in bodies y.state.calls y.state.point y.state.hand y.state.sack))
          y.is_awake in
          let one = one_end (back_step bodies) (k + 1) total.count (begins_restoring handler x.body frames) y.state
          (awake_with total.calls total.point [] []) y.ran over same_run refl in
          let has = subst (IsState bodies t) one.1 y.has in
          let ran = subst (λ s. repeat (back_step bodies) (k + 1) (begins_restoring handler x.body frames) ≡ Some s)
          one.1 y.ran in
          by_calls total.calls has ran
        where
          by_calls : (calls : List MachineCall) → HasCalls bodies t calls total.point [] []
              → repeat (back_step bodies) (k + 1) (begins_restoring handler x.body frames)
              ≡ Some (awake_with calls total.point [] []) → IsRestored bodies handler frames kept q (k + 1)
          by_calls [] has ran = absurd has
          by_calls (c ∷ outer) has ran =
              let m : Machine = record { kept = kept; calls = c ∷ outer; answers = [] } in
              let run : BackRun bodies handler frames (beside kept) m (k + 1) = (
                x.body,
                total.point,
                x.found,
                runs_beside (back_step bodies) (k + 1) (beside kept) (begins_restoring handler x.body frames)
                    ∙ ap (option_map (whole (beside kept))) ran,
              ) in
              let charged = restored_charge unit.globals unit.states bodies unit.woven handler frames (beside kept)
              valid.0 m (k + 1) run in
              let within = valid.1 in
              let lays : Lays q kept c outer = finished bodies c outer total.point [] [] has small (omega arith) in
              let view : machine_of q ≡ m = machine_view q kept c outer lays in
              record {
                held = (kept, c.function, c.place, c.slots, c.operands, outer, lays);
                ran = subst (λ n. BackRun bodies handler frames (beside kept) n (k + 1)) (sym view) run;
                reserved = subst (λ (n : Machine). IsReserved bodies (vec_capacity q.stack) n.calls) (sym view)
                    (subst (λ n. IsReserved bodies n (c ∷ outer)) (sym room) has.reserved);
              }

      -- the calls lie on the stack
      pub ends_within : (t : Restorer) → Backs bodies i r true t → t.active.base ≤ length t.stack.items
      ends_within t backs = let y = came t true backs
          in by_calls y.state.calls y.state.point y.state.hand y.state.sack y.has
        where
          by_calls : (calls : List MachineCall) → (p : ℕ) (hand : List Value) (sack : List Frame)
              → HasCalls bodies t calls p hand sack → t.active.base ≤ length t.stack.items
          by_calls [] p hand sack h = absurd h
          by_calls (c ∷ outer) p hand sack h =
              let a = length-append (flat outer ++ c.slots) (reverse c.operands) in
              let b = length-append (flat outer) c.slots in
              let all = ap length h.values in
              let low = h.base_is in
              omega arith
