-- A handler of woven code has the result that it has in the plain code, with the same active calls at the same lines if
-- it is cut.
use Rattle.std.proofs.Common.{◌≡◌, ℕ, ◌+◌, ◌-◌, List, [], ◌∷◌, map, Option, Some, None, option_map, true, false, cond, refl, sym, ap, ap₂, ◌∙◌, arith, slice_get}
use Rattle.std.proofs.lemmas.Option.{slice_get-map}
use Rattle.lsl_value.specs.declared.tagged.Value.{Value}
use Rattle.lsl_running.specs.declared.ends.Fault.TheVariants.{StackHeap}
use Rattle.lsl_running.specs.declared.host.Reply.{Reply}
use Rattle.lsl_running.specs.declared.kept.Kept.{Kept}
use Rattle.lsl_running.specs.Charging.{script_charge, used, is_within}
use Rattle.lsl_running.specs.Results.{ActiveCall, Cut}
use Rattle.lsl_code.specs.declared.instructions.Instr.{Instr}
use Rattle.lsl_code.specs.declared.instructions.Instr.TheVariants.{Jump, JumpIf, JumpIfNot}
use Rattle.lsl_code.specs.Acts.{first_slots}
use Rattle.lsl_code.specs.Bodies.{Body, instruction_in}
use Rattle.lsl_code.specs.Forward.{Forward}
use Rattle.lsl_code.specs.Machine.{MachineCall, Faulted, put, done_by}
use Rattle.lsl_code.specs.Runs.{Halt, Over, AskAt, CutAt, on, passed, run}
use Rattle.lsl_code.specs.Wholes.{with_line, lines_in, line_in, waiting_call, active_calls, told, begun, started, whole_of_bodies}
use Rattle.lsl_code.proofs.Running.{run_law}
use Rattle.lsl_weave.specs.Layout.{width, shift, woven_code, woven_of, all_woven}
use Rattle.lsl_weave.specs.Lifting.{woven_place, lift_waiting, lift, lift_machine, lift_halt}
use Rattle.lsl_weave.proofs.Lift.{offset_none, first, first_at}
use Rattle.lsl_weave.proofs.Placing.{laid}
use Rattle.lsl_weave.proofs.Running.{past_still, runs_alike}
use Rattle.lsl_weave.proofs.Saved.{woven_found}

-- the line of what is at this place of a function
abbrev line_of : Option Body → ℕ → ℕ
line_of o place = line_in (option_map (with_line (lines_in o)) (instruction_in o place))

first_line : (b : Body) (i : Instr) (lines : List ℕ)
    → line_in (Some (with_line lines (first b i))) ≡ line_in (Some (with_line lines i))
first_line b (Jump to) lines = refl
first_line b (JumpIf to) lines = refl
first_line b (JumpIfNot to) lines = refl
first_line b i lines = refl

body_line : (b : Body) (k : ℕ) (o : Option Instr) → slice_get b.code k ≡ o
    → line_of (Some (woven_of b)) (shift b k) ≡ line_of (Some b) k
body_line b k None e =
    let s = past_still b k e in
    ap (λ x. line_in (option_map (with_line b.lines) x)) s.1 ∙ s.2.2 b.lines
    ∙ sym (ap (λ x. line_in (option_map (with_line b.lines) x)) e)
body_line b k (Some i) e =
    ap (λ x. line_in (option_map (with_line b.lines) x))
    (first_at b (woven_code b) (shift b k) k i ((laid b).mains k i e))
    ∙ first_line b i b.lines ∙ sym (ap (λ x. line_in (option_map (with_line b.lines) x)) e)

place_line : (o : Option Body) (k : ℕ) → line_of (option_map woven_of o) (woven_place o k) ≡ line_of o k
place_line None k = refl
place_line (Some b) k = body_line b k (slice_get b.code k) refl

module _ (bodies : List Body) where
  line_same : (f k : ℕ) → line_of (slice_get (all_woven bodies) f) (woven_place (slice_get bodies f) k)
      ≡ line_of (slice_get bodies f) k
  line_same f k =
      ap (λ o. line_of o (woven_place (slice_get bodies f) k)) (slice_get-map woven_of bodies f)
      ∙ place_line (slice_get bodies f) k

  abbrev call_with : MachineCall → ℕ → ActiveCall
  call_with c line = record { function = c.function; slots = c.slots; line = line }

  waiting_same : (c : MachineCall)
      → waiting_call (all_woven bodies) (lift_waiting bodies c) ≡ waiting_call bodies c
  waiting_same c =
      let at = woven_place (slice_get bodies c.function) (c.place - 1) in
      let z : at + 1 - 1 ≡ at = omega arith in
      ap (λ n. call_with c (line_of (slice_get (all_woven bodies) c.function) n)) z
      ∙ ap (call_with c) (line_same c.function (c.place - 1))

  waitings_same : (calls : List MachineCall)
      → map (waiting_call (all_woven bodies)) (map (lift_waiting bodies) calls) ≡ map (waiting_call bodies) calls
  waitings_same [] = refl
  waitings_same (c ∷ calls) = ap₂ (λ x l. x ∷ l) (waiting_same c) (waitings_same calls)

  calls_same : (calls : List MachineCall)
      → active_calls (all_woven bodies) (lift bodies calls) ≡ active_calls bodies calls
  calls_same [] = refl
  calls_same (c ∷ outer) =
      ap₂ (λ x l. x ∷ l) (ap (call_with c) (line_same c.function c.place)) (waitings_same outer)

  told_same : (h : Halt) → told (all_woven bodies) (lift_halt bodies h) ≡ told bodies h
  told_same (Over e) = refl
  told_same (AskAt id args m t) = refl
  told_same (CutAt m) = ap Cut (calls_same m.calls)

  module _ (plain : Forward bodies) (woven : Forward (all_woven bodies)) (f : ℕ) (kept : Kept) where
    -- a handler is at the test before its first tick, and continues to it
    module _ (b : Body) (there : slice_get bodies f ≡ Some b) (slots : List Value) (t : ℕ) (answers : List Reply)
      where
        one_on : run (all_woven bodies) t (begun f kept slots answers)
            ≡ run (all_woven bodies) t (put kept answers f 1 slots [] [])
        one_on =
            let m = begun f kept slots answers in
            let found = ap (λ o. instruction_in o 0) (woven_found bodies f b there) ∙ (laid b).head in
            run_law (all_woven bodies) woven t m
            ∙ ap (λ i. on (done_by (all_woven bodies) i kept answers f 0 slots [] [])
            (passed (all_woven bodies) t m) (run (all_woven bodies) t)) found

        begins_lifted : put kept answers f 1 slots [] [] ≡ lift_machine bodies (begun f kept slots answers)
        begins_lifted =
            let z : 1 ≡ shift b 0 = omega (arith, offset_none width b.code) in
            ap (λ n. put kept answers f n slots [] []) (z ∙ ap (λ o. woven_place o 0) (sym there))

        begun_same : told (all_woven bodies) (run (all_woven bodies) t (begun f kept slots answers))
            ≡ told bodies (run bodies t (begun f kept slots answers))
        begun_same =
            ap (told (all_woven bodies)) (one_on ∙ ap (run (all_woven bodies) t) begins_lifted
            ∙ runs_alike bodies plain t (begun f kept slots answers) tt)
            ∙ told_same (run bodies t (begun f kept slots answers))

    started_same : (o : Option Body) → slice_get bodies f ≡ o → (args : List Value) (t : ℕ) (answers : List Reply)
        → told (all_woven bodies) (started (option_map woven_of o) (all_woven bodies) f kept args t answers)
        ≡ told bodies (started o bodies f kept args t answers)
    started_same None there args t answers = refl
    started_same (Some b) there args t answers =
        let slots = first_slots b args in
        elim (is_within kept (used script_charge slots kept)) as
        (λ x. told (all_woven bodies)
        (cond x (run (all_woven bodies) t (begun f kept slots answers)) (Over (Faulted StackHeap)))
        ≡ told bodies (cond x (run bodies t (begun f kept slots answers)) (Over (Faulted StackHeap))))
        [ true ↦ begun_same b there slots t answers | false ↦ refl ]

    pub whole_same : (args : List Value) (t : ℕ) (answers : List Reply)
        → whole_of_bodies (all_woven bodies) f kept args t answers ≡ whole_of_bodies bodies f kept args t answers
    whole_same args t answers =
        ap (λ o. told (all_woven bodies) (started o (all_woven bodies) f kept args t answers))
        (slice_get-map woven_of bodies f)
        ∙ started_same (slice_get bodies f) refl args t answers
