-- A routine's code, run from its start, results in what the routine means.
use Rattle.std.proofs.Common.{◌≡◌, ℕ, zero, suc, List, [], Bool, true, false, cond, map, Option, Some, None, option_map, refl, ap, ◌∙◌, arith, slice_get}
use Rattle.std.specs.Prelude.{is_some}
use Rattle.std.proofs.lemmas.Option.{slice_get-map}
use Rattle.lsl_value.specs.declared.tagged.Value.{Value}
use Rattle.lsl_tree.specs.Program.{Routine, Program}
use Rattle.lsl_tree.specs.Shape.{IsShaped}
use Rattle.lsl_tree.specs.Signatures.{routines_of}
use Rattle.lsl_tree.specs.Actions.{Block}
use Rattle.lsl_running.specs.declared.ends.Fault.TheVariants.{StackHeap}
use Rattle.lsl_running.specs.declared.host.Reply.{Reply}
use Rattle.lsl_running.specs.declared.kept.Kept.{Kept}
use Rattle.lsl_running.specs.Charging.{script_charge, used, is_within}
use Rattle.lsl_running.specs.Results as whole
use Rattle.lsl_running.specs.Results.{Whole}
use Rattle.lsl_meaning.specs.Calls.{first_slots, result_behind}
use Rattle.lsl_meaning.specs.Handlers.{level, ended, outermost, whole_of, whole}
use Rattle.lsl_meaning.specs.State.{State, Evaluation, Gives, Stops, bind, Flow, Normal, Returned, Jumped, tick}
use Rattle.lsl_code.specs.Machine.{Machine, Faulted, step}
use Rattle.lsl_code.specs.Runs.{Over, on, passed, run}
use Rattle.lsl_code.specs.Wholes.{told, begun, started_with, started, whole_of_bodies}
use Rattle.lsl_gen.specs.Laws.{Agrees}
use Rattle.lsl_gen.specs.Programs.{generated_functions}
use Rattle.lsl_code.specs.Bodies.{plain_body}
use Rattle.lsl_gen.proofs.Bodies.{routine_body, bodies_of, bodies_generated, shaped_at, slots_same}
use Rattle.lsl_gen.proofs.Executions.{execute_sim}
use Rattle.lsl_gen.proofs.Leaves.{Results, Flows, resume}
use Rattle.lsl_gen.proofs.Routines.{LowerSim, routine_sim}
use Rattle.lsl_gen.proofs.Simulations.{Sim, map_sim}

weaker : (n : ℕ) (has : Bool) (labels : List ℕ) (flow : Flow) (s : State) → Flows n has labels flow s
    → Flows (suc n) has labels flow s
weaker n has labels Normal s le = omega arith
weaker n has labels (Returned o) s post = (omega (arith, post.0), post.1)
weaker n has labels (Jumped label) s post = (omega (arith, post.0), post.1)

module _ (p : Program) (shaped : IsShaped p)
    (law : (t : ℕ) (m : Machine) → run (bodies_of p) t m
    ≡ on (step (bodies_of p) m) (passed (bodies_of p) t m) (run (bodies_of p) t)) where
  -- by induction on the ticks
  level_sim : (n : ℕ) → LowerSim p shaped law n (level (routines_of p) n)
  level_sim zero a from has f outer places labels pc s le sh enters stands = absurd (omega arith)
  level_sim (suc n) a from has f outer places labels pc s le sh enters stands =
      map_sim (Flows n has labels) (Flows (suc n) has labels) _ _ _ _
      (execute_sim p shaped law (level (routines_of p) n) n (level_sim n) has f outer a from labels places pc s
      (omega arith) sh enters stands)
      (λ flow t post. (refl, weaker n has labels flow t post))

  ended_is : (f n : ℕ) (has : Bool) (r : Evaluation (Option Value)) (h : Whole)
      → Sim (Results n has) (λ o t. resume (bodies_of p) law f [] t o) r h → h ≡ ended r
  ended_is f n has (Gives o s) h m = m.eq
  ended_is f n has (Stops w) h m = m.eq

  begun_is : (b : Bool) (r : Routine) (f : ℕ) (s : State) → slice_get (routines_of p) f ≡ Some r
      → told (bodies_of p) (cond b (run (bodies_of p) s.ticks (begun f s.kept s.slots s.answers))
      (Over (Faulted StackHeap)))
      ≡ ended (cond b (tick s.ticks r.line (outermost f) s
      (λ t. bind (level (routines_of p) s.ticks (Block r.body) None (outermost f) t)
      (result_behind r.kind))) (Stops (whole.Fails StackHeap)))
  begun_is true r f s e =
      ended_is f s.ticks (is_some r.kind) _ _
      (routine_sim p shaped law (level (routines_of p) s.ticks) s.ticks (level_sim s.ticks) r f [] s e
      (omega arith))
  begun_is false r f s e = refl

  started_is : (o : Option Routine) (f : ℕ) (kept : Kept) (args : List Value) (ticks : ℕ) (answers : List Reply)
      → slice_get (routines_of p) f ≡ o
      → told (bodies_of p) (started (option_map (routine_body p) o) (bodies_of p) f kept args ticks answers)
      ≡ whole_of (routines_of p) o f kept args ticks answers
  started_is None f kept args ticks answers e = refl
  started_is (Some r) f kept args ticks answers e =
      ap (λ slots. told (bodies_of p) (started_with (bodies_of p) f kept slots ticks answers))
      (slots_same p r args (shaped_at p shaped f r e).params)
      ∙ begun_is (is_within kept (used script_charge (first_slots r args) kept)) r f
      (record { kept = kept; slots = first_slots r args; ticks = ticks; answers = answers }) e

  pub runs_as_meant : (f : ℕ) (kept : Kept) (args : List Value) (ticks : ℕ) (answers : List Reply)
      → whole_of_bodies (bodies_of p) f kept args ticks answers ≡ whole p f kept args ticks answers
  runs_as_meant f kept args ticks answers =
      ap (λ o. told (bodies_of p) (started o (bodies_of p) f kept args ticks answers))
      (slice_get-map (routine_body p) (routines_of p) f)
      ∙ started_is (slice_get (routines_of p) f) f kept args ticks answers refl

  pub agrees : Agrees (map plain_body (generated_functions p)) p
  agrees f kept args ticks answers =
      ap (λ bodies. whole_of_bodies bodies f kept args ticks answers) (bodies_generated p)
      ∙ runs_as_meant f kept args ticks answers
