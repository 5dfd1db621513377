-- Statements: the machine does what they do.
use Rattle.std.proofs.Common.{◌≡◌, ℕ, suc, ◌+◌, ◌≤◌, List, [], ◌∷◌, ◌++◌, Bool, true, false, cond, Option, Some, None, refl, sym, ap, ◌∙◌, arith, add_assoc, length, length-append}
use Rattle.std.specs.Prelude.{All}
use Rattle.lsl_value.specs.Values.{truth_of}
use Rattle.lsl_value.specs.declared.tagged.Value.{Value}
use Rattle.lsl_tree.specs.declared.program_node.Place.TheVariants.{Slot}
use Rattle.lsl_tree.specs.Actions as action
use Rattle.lsl_tree.specs.Actions.{Action, Actions, NoAction, AndAction}
use Rattle.lsl_tree.specs.Effects as effect
use Rattle.lsl_tree.specs.Effects.{Effect}
use Rattle.lsl_tree.specs.Program.{Program}
use Rattle.lsl_tree.specs.Shape.{labels_in, argument_count, IsShapedEffect, IsShapedAction, AreShapedActions, IsShaped}
use Rattle.lsl_tree.specs.Signatures.{routines_of}
use Rattle.lsl_running.specs.Results.{Whole}
use Rattle.lsl_meaning.specs.Calls.{Lower}
use Rattle.lsl_meaning.specs.Expressions.{storing}
use Rattle.lsl_meaning.specs.State.{State, Evaluation, Gives, Flow, Normal, Returned, Jumped, tick}
use Rattle.lsl_meaning.specs.Statements.{on_normal, has_label, no_result, perform, perform_all, caught, execute, execute_all}
use Rattle.lsl_code.specs.declared.instructions.Instr.{Instr}
use Rattle.lsl_code.specs.declared.instructions.Instr.TheVariants as instr
use Rattle.lsl_code.specs.Acts.{Goes, Jumps}
use Rattle.lsl_code.specs.Machine.{MachineCall, Machine, step}
use Rattle.lsl_code.specs.Pieces.{HasAt}
use Rattle.lsl_code.specs.Runs.{on, passed, run}
use Rattle.lsl_gen.specs.Expressions.{call_code, value_code, values_code, effect_code, effects_code}
use Rattle.lsl_gen.specs.declared.label_places.LabelPlace.{LabelPlace}
use Rattle.lsl_gen.specs.Statements.{size, sizes, place_of, place_if_label, places_in, action_code, actions_code}
use Rattle.lsl_gen.proofs.Bodies.{bodies_of, All-at}
use Rattle.lsl_gen.proofs.LabelScopes.{entry, CanEnter, entry_in, CanEnterIn, place_within, place_last, last_label, has_outer, has_contained}
use Rattle.lsl_gen.proofs.Leaves.{pushed, Results, Flows, site_of, at, led, one, tick_sim, flow_at, leave_value, leave}
use Rattle.lsl_gen.proofs.Lengths.{code_length, codes_length}
use Rattle.lsl_gen.proofs.Pieces.{has_front, has_back, has_behind, last_at, last_end}
use Rattle.lsl_gen.proofs.Routines.{outline, LowerSim, call_sim}
use Rattle.lsl_gen.proofs.Simulations.{Sim, then_sim, map_sim, from_sim, Within}
use Rattle.lsl_gen.proofs.Values.{Values, value_sim, values_sim}

All-rest : {X : Type 0} (P : X → Type 0) (x : X) (xs : List X) → All P (x ∷ xs) → All P xs
All-rest P x xs all = λ k d lt. all (suc k) d (omega arith)

module _ (p : Program) (shaped : IsShaped p)
    (law : (t : ℕ) (m : Machine) → run (bodies_of p) t m
    ≡ on (step (bodies_of p) m) (passed (bodies_of p) t m) (run (bodies_of p) t))
    (low : Lower) (n : ℕ) (lower : LowerSim p shaped law n low) where
  module _ (has : Bool) (f : ℕ) (outer : List MachineCall) where
    -- the call that a statement is has no result
    no_result_sim : (q : ℕ) (o : Option Value) (s : State) → Results n false o s
        → Sim (Within n) (λ u t. at (bodies_of p) law f outer t q []) (no_result o s)
        (at (bodies_of p) law f outer s q (pushed o []))
    no_result_sim q None s post = record { eq = refl; post = post.0 }
    no_result_sim q (Some v) s post = let never : true ≡ false = post.1 in absurd cc

    effect_sim : (x : Effect) (pc : ℕ) (s : State) → s.ticks ≤ n → IsShapedEffect (outline p has) x
        → HasAt (bodies_of p) f pc (effect_code x)
        → Sim (Within n) (λ u t. at (bodies_of p) law f outer t (pc + length (effect_code x)) [])
        (perform (routines_of p) low x (site_of (bodies_of p) f outer []) s)
        (at (bodies_of p) law f outer s pc [])
    effect_sim (effect.Value node) pc s le sh stands =
        let code = value_code node in
        then_sim (Within n) (Within n) (λ v t. at (bodies_of p) law f outer t (pc + length code) (v ∷ [])) _ _ _ _
        (value_sim p shaped law low n lower f outer node has pc [] s le sh
        (has_front (bodies_of p) f pc code (instr.Drop ∷ []) stands))
        (λ v t le'. record {
          eq = one (bodies_of p) law f outer t (pc + length code) (v ∷ []) instr.Drop
              (last_at (bodies_of p) f pc code instr.Drop stands)
              ∙ ap (λ q. at (bodies_of p) law f outer t q []) (last_end pc code instr.Drop);
          post = le';
        })
    effect_sim (effect.Call callee line arguments) pc s le sh stands =
        let code = values_code arguments in
        let end : pc + length code + length (call_code callee line)
        ≡ pc + length (code ++ call_code callee line) =
        omega (arith, length-append code (call_code callee line)) in
        then_sim (Values n (argument_count arguments)) (Within n)
        (λ vs t. at (bodies_of p) law f outer t (pc + length code) (vs ++ [])) _ _ _ _
        (values_sim p shaped law low n lower f outer arguments has pc [] s le sh.1
        (has_front (bodies_of p) f pc code (call_code callee line) stands))
        (λ vs t post. then_sim (Results n false) (Within n)
        (λ o u. at (bodies_of p) law f outer u (pc + length (code ++ call_code callee line)) (pushed o []))
        _ _ no_result _
        (call_sim p shaped law low n lower callee line has false (argument_count arguments) f outer
        (pc + length code) (pc + length (code ++ call_code callee line)) vs [] t sh.0 post.0 post.1
        (has_back (bodies_of p) f pc code (call_code callee line) stands) end)
        (no_result_sim (pc + length (code ++ call_code callee line))))

    effects_sim : (xs : List Effect) (pc : ℕ) (s : State) → s.ticks ≤ n
        → All (IsShapedEffect (outline p has)) xs → HasAt (bodies_of p) f pc (effects_code xs)
        → Sim (Within n) (λ u t. at (bodies_of p) law f outer t (pc + length (effects_code xs)) [])
        (perform_all (routines_of p) low xs (site_of (bodies_of p) f outer []) s)
        (at (bodies_of p) law f outer s pc [])
    effects_sim [] pc s le sh stands =
        let e : pc ≡ pc + 0 = omega arith in
        record { eq = ap (λ q. at (bodies_of p) law f outer s q []) e; post = le }
    effects_sim (x ∷ xs) pc s le sh stands =
        let cx = effect_code x in
        let cs = effects_code xs in
        let end : pc + length cx + length cs ≡ pc + length (cx ++ cs) = omega (arith, length-append cx cs) in
        then_sim (Within n) (Within n) (λ u t. at (bodies_of p) law f outer t (pc + length cx) [])
        (λ u t. at (bodies_of p) law f outer t (pc + length (cx ++ cs)) []) _ _ _
        (effect_sim x pc s le (All-at (IsShapedEffect (outline p has)) (x ∷ xs) 0 x sh refl)
        (has_front (bodies_of p) f pc cx cs stands))
        (λ u t le'. map_sim (Within n) (Within n) _ _ _ _
        (effects_sim xs (pc + length cx) t le' (All-rest (IsShapedEffect (outline p has)) x xs sh)
        (has_back (bodies_of p) f pc cx cs stands))
        (λ w t' le2. (ap (λ q. at (bodies_of p) law f outer t' q []) end, le2)))

    module _ (labels : List ℕ) where
      -- the same with another continuation after a normal end
      flow_next : (places : List LabelPlace) (q q' : ℕ) (r : Evaluation Flow) (h : Whole)
          → ((t : State) → at (bodies_of p) law f outer t q [] ≡ at (bodies_of p) law f outer t q' [])
          → Sim (Flows n has labels) (flow_at (bodies_of p) law f outer places q) r h
          → Sim (Flows n has labels) (flow_at (bodies_of p) law f outer places q') r h
      flow_next places q q' r h e m = map_sim (Flows n has labels) (Flows n has labels) _ _ r h m on_flow
        where
          on_flow : (flow : Flow) (t : State) → Flows n has labels flow t
              → (flow_at (bodies_of p) law f outer places q flow t
              ≡ flow_at (bodies_of p) law f outer places q' flow t) × Flows n has labels flow t
          on_flow Normal t le = (e t, le)
          on_flow (Returned o) t post = (refl, post)
          on_flow (Jumped label) t post = (refl, post)

      on_normal_sim : (places : List LabelPlace) (q q' : ℕ) (go : State → Evaluation Flow)
          → ((t : State) → t.ticks ≤ n → Sim (Flows n has labels) (flow_at (bodies_of p) law f outer places q')
          (go t) (at (bodies_of p) law f outer t q []))
          → (flow : Flow) (t : State) → Flows n has labels flow t
          → Sim (Flows n has labels) (flow_at (bodies_of p) law f outer places q') (on_normal go flow t)
          (flow_at (bodies_of p) law f outer places q flow t)
      on_normal_sim places q q' go next Normal t le = next t le
      on_normal_sim places q q' go next (Returned o) t post = record { eq = refl; post = post }
      on_normal_sim places q q' go next (Jumped label) t post = record { eq = refl; post = post }

      -- a conditional jump, where the value holds and where it doesn't
      branch_sim : (k : Flow → State → Whole) (b : Bool) (t : State) (pc to : ℕ) (from : List Value)
          (r r' : Evaluation Flow)
          → Sim (Flows n has labels) k r (at (bodies_of p) law f outer t (pc + 1) [])
          → Sim (Flows n has labels) k r' (at (bodies_of p) law f outer t to [])
          → Sim (Flows n has labels) k (cond b r r')
          (led (bodies_of p) law f outer t pc from (cond b (Goes t.slots [] t.kept) (Jumps to [])))
      branch_sim k true t pc to from r r' a b = a
      branch_sim k false t pc to from r r' a b = b

      -- a jump to a label of this block, or out of it
      caught_sim : (xs : Actions) (places : List LabelPlace) (pc : ℕ)
          → IsShapedAction (outline p has) labels (action.Block xs)
          → HasAt (bodies_of p) f pc (action_code (action.Block xs) places pc)
          → (flow : Flow) (s : State) → Flows n has (labels_in xs ++ labels) flow s
          → Sim (Flows n has labels) (flow_at (bodies_of p) law f outer places (pc + sizes xs))
          (caught (routines_of p) low xs (site_of (bodies_of p) f outer []) flow s)
          (flow_at (bodies_of p) law f outer (places_in xs pc ++ places) (pc + sizes xs) flow s)
      caught_sim xs places pc sh stands Normal s le = record { eq = refl; post = le }
      caught_sim xs places pc sh stands (Returned o) s post = record { eq = refl; post = post }
      caught_sim xs places pc sh stands (Jumped label) s post =
          from_sim _ _ _ _ _ (ap (λ q. at (bodies_of p) law f outer s q []) (place_within xs label pc places))
          (go (has_label (labels_in xs) label) refl)
        where
          go : (b : Bool) → has_label (labels_in xs) label ≡ b
              → Sim (Flows n has labels) (flow_at (bodies_of p) law f outer places (pc + sizes xs))
              (cond b (low (action.Block xs) (Some label) (site_of (bodies_of p) f outer []) s)
              (Gives (Jumped label) s))
              (at (bodies_of p) law f outer s (cond b (place_of label (places_in xs pc)) (place_of label places)) [])
          go true e = lower (action.Block xs) (Some label) has f outer places labels pc s post.0 sh e stands
          go false e = record { eq = refl; post = (post.0, has_outer label (labels_in xs) labels e post.1) }

      -- the end of a round: a tick, and the jump back
      again_sim : (a : Action) (line : ℕ) (places : List LabelPlace) (pc q q' : ℕ) (s : State) → s.ticks ≤ n
          → IsShapedAction (outline p has) labels a → HasAt (bodies_of p) f pc (action_code a places pc)
          → HasAt (bodies_of p) f q (instr.Tick line ∷ instr.Jump pc ∷ []) → q' ≡ pc + size a
          → Sim (Flows n has labels) (flow_at (bodies_of p) law f outer places q')
          (tick s.ticks line (site_of (bodies_of p) f outer []) s
          (low a None (site_of (bodies_of p) f outer []))) (at (bodies_of p) law f outer s q [])
      again_sim a line places pc q q' s le sh stands end e =
          flow_next places (pc + size a) q' _ _ (λ u. ap (λ m. at (bodies_of p) law f outer u m []) (sym e))
          (from_sim _ _ _ _ _ (one (bodies_of p) law f outer s q [] (instr.Tick line) end.0)
          (tick_sim (bodies_of p) law f outer _ _ s.ticks line q (q + 1) [] [] s
          (low a None (site_of (bodies_of p) f outer [])) end.0
          (λ t' same. from_sim _ _ _ _ _ (one (bodies_of p) law f outer (record s { ticks = t' }) (q + 1) []
          (instr.Jump pc) end.1.0)
          (lower a None has f outer places labels pc (record s { ticks = t' }) (omega arith) sh tt stands))))

      -- the statements after a label, which is before the last one, or is it
      skip_sim : (k : Flow → State → Whole) (s : State) (b : Bool) (q q' : ℕ) (r r' : Evaluation Flow)
          → (b ≡ true → Sim (Flows n has labels) k r (at (bodies_of p) law f outer s q []))
          → (b ≡ false → Sim (Flows n has labels) k r' (at (bodies_of p) law f outer s q' []))
          → Sim (Flows n has labels) k (cond b r r') (at (bodies_of p) law f outer s (cond b q q') [])
      skip_sim k s true q q' r r' a b = a refl
      skip_sim k s false q q' r r' a b = b refl

    mutual
      action_sim : (a : Action) (labels : List ℕ) (places : List LabelPlace) (pc : ℕ) (s : State) → s.ticks ≤ n
          → IsShapedAction (outline p has) labels a → HasAt (bodies_of p) f pc (action_code a places pc)
          → Sim (Flows n has labels) (flow_at (bodies_of p) law f outer places (pc + size a))
          (execute (routines_of p) low a None (site_of (bodies_of p) f outer []) s)
          (at (bodies_of p) law f outer s pc [])
      action_sim (action.Block xs) labels places pc s le sh stands =
          then_sim (Flows n has (labels_in xs ++ labels)) (Flows n has labels)
          (flow_at (bodies_of p) law f outer (places_in xs pc ++ places) (pc + sizes xs)) _ _ _ _
          (actions_sim xs None (labels_in xs ++ labels) (places_in xs pc ++ places) pc s le sh.1 tt stands)
          (caught_sim labels xs places pc sh stands)
      action_sim (action.Effect x) labels places pc s le sh stands =
          then_sim (Within n) (Flows n has labels)
          (λ u t. at (bodies_of p) law f outer t (pc + length (effect_code x)) []) _ _ _ _
          (effect_sim x pc s le sh stands) (λ u t le'. record { eq = refl; post = le' })
      action_sim (action.Declare slot node) labels places pc s le sh stands =
          let code = value_code node in
          then_sim (Within n) (Flows n has labels)
          (λ v t. at (bodies_of p) law f outer t (pc + length code) (v ∷ [])) _ _ _ _
          (value_sim p shaped law low n lower f outer node has pc [] s le sh
          (has_front (bodies_of p) f pc code (instr.Set slot ∷ []) stands))
          (λ v t le'. record {
            eq = one (bodies_of p) law f outer t (pc + length code) (v ∷ []) (instr.Set slot)
                (last_at (bodies_of p) f pc code (instr.Set slot) stands)
                ∙ ap (λ q. at (bodies_of p) law f outer (storing (Slot slot) v t) q []) (add_assoc pc (length code) 1);
            post = le';
          })
      action_sim (action.Label label) labels places pc s le sh stands =
          let e : pc ≡ pc + 0 = omega arith in
          record { eq = ap (λ q. at (bodies_of p) law f outer s q []) e; post = le }
      action_sim (action.If test a) labels places pc s le sh stands =
          let ct = value_code test in
          let then = pc + length ct + 1 in
          let to = then + size a in
          let ca = action_code a places then in
          let rest = has_back (bodies_of p) f pc ct (instr.JumpIfNot to ∷ ca) stands in
          let end : to ≡ pc + (length ct + 1 + size a) = omega arith in
          then_sim (Within n) (Flows n has labels)
          (λ v t. at (bodies_of p) law f outer t (pc + length ct) (v ∷ [])) _ _ _ _
          (value_sim p shaped law low n lower f outer test has pc [] s le sh.0
          (has_front (bodies_of p) f pc ct (instr.JumpIfNot to ∷ ca) stands))
          (λ v t le'. from_sim _ _ _ _ _ (one (bodies_of p) law f outer t (pc + length ct) (v ∷ [])
          (instr.JumpIfNot to) rest.0)
          (branch_sim labels _ (truth_of v) t (pc + length ct) to (v ∷ []) _ _
          (flow_next labels places to (pc + (length ct + 1 + size a)) _ _
          (λ u. ap (λ q. at (bodies_of p) law f outer u q []) end)
          (action_sim a labels places then t le' sh.1 rest.1))
          (record { eq = ap (λ q. at (bodies_of p) law f outer t q []) end; post = le' })))
      action_sim (action.IfElse test a b) labels places pc s le sh stands =
          let ct = value_code test in
          let then = pc + length ct + 1 in
          let otherwise = then + size a + 1 in
          let ca = action_code a places then in
          let cb = action_code b places otherwise in
          let over = instr.Jump (otherwise + size b) in
          let rest = has_back (bodies_of p) f pc ct (instr.JumpIfNot otherwise ∷ (ca ++ (over ∷ cb))) stands in
          let last = has_behind (bodies_of p) f then (size a) ca (over ∷ cb) (code_length a places then) rest.1 in
          let end : otherwise + size b ≡ pc + (length ct + 1 + size a + 1 + size b) = omega arith in
          then_sim (Within n) (Flows n has labels)
          (λ v t. at (bodies_of p) law f outer t (pc + length ct) (v ∷ [])) _ _ _ _
          (value_sim p shaped law low n lower f outer test has pc [] s le sh.0
          (has_front (bodies_of p) f pc ct (instr.JumpIfNot otherwise ∷ (ca ++ (over ∷ cb))) stands))
          (λ v t le'. from_sim _ _ _ _ _ (one (bodies_of p) law f outer t (pc + length ct) (v ∷ [])
          (instr.JumpIfNot otherwise) rest.0)
          (branch_sim labels _ (truth_of v) t (pc + length ct) otherwise (v ∷ []) _ _
          (flow_next labels places (then + size a) _ _ _
          (λ u. one (bodies_of p) law f outer u (then + size a) [] over last.0
          ∙ ap (λ q. at (bodies_of p) law f outer u q []) end)
          (action_sim a labels places then t le' sh.1 (has_front (bodies_of p) f then ca (over ∷ cb) rest.1)))
          (flow_next labels places (otherwise + size b) _ _ _
          (λ u. ap (λ q. at (bodies_of p) law f outer u q []) end)
          (action_sim b labels places otherwise t le' sh.2 last.1))))
      action_sim (action.Loop line test steps a) labels places pc s le sh stands =
          let ct = value_code test in
          let cs = effects_code steps in
          let body = pc + length ct + 1 in
          let behind = body + size a in
          let end = behind + length cs in
          let ca = action_code a places body in
          let back : List Instr = instr.Tick line ∷ instr.Jump pc ∷ [] in
          let rest = has_back (bodies_of p) f pc ct (instr.JumpIfNot (end + 2) ∷ (ca ++ (cs ++ back))) stands in
          let more = has_behind (bodies_of p) f body (size a) ca (cs ++ back) (code_length a places body) rest.1 in
          let last = has_back (bodies_of p) f behind cs back more in
          let out : end + 2 ≡ pc + (length ct + 1 + size a + length cs + 2) = omega arith in
          then_sim (Within n) (Flows n has labels)
          (λ v t. at (bodies_of p) law f outer t (pc + length ct) (v ∷ [])) _ _ _ _
          (value_sim p shaped law low n lower f outer test has pc [] s le sh.0
          (has_front (bodies_of p) f pc ct (instr.JumpIfNot (end + 2) ∷ (ca ++ (cs ++ back))) stands))
          (λ v t le'. from_sim _ _ _ _ _ (one (bodies_of p) law f outer t (pc + length ct) (v ∷ [])
          (instr.JumpIfNot (end + 2)) rest.0)
          (branch_sim labels _ (truth_of v) t (pc + length ct) (end + 2) (v ∷ []) _ _
          (then_sim (Flows n has labels) (Flows n has labels) (flow_at (bodies_of p) law f outer places behind) _ _ _ _
          (action_sim a labels places body t le' sh.2 (has_front (bodies_of p) f body ca (cs ++ back) rest.1))
          (on_normal_sim labels places behind _ _
          (λ u lu. then_sim (Within n) (Flows n has labels) (λ x w. at (bodies_of p) law f outer w end []) _
          _ _ _
          (effects_sim steps behind u lu sh.1 (has_front (bodies_of p) f behind cs back more))
          (λ x w lw. again_sim labels (action.Loop line test steps a) line places pc end _ w lw sh stands last refl))))
          (record { eq = ap (λ q. at (bodies_of p) law f outer t q []) out; post = le' })))
      action_sim (action.Do line a test) labels places pc s le sh stands =
          let ct = value_code test in
          let behind = pc + size a in
          let end = behind + length ct + 1 in
          let ca = action_code a places pc in
          let back : List Instr = instr.JumpIfNot (end + 2) ∷ instr.Tick line ∷ instr.Jump pc ∷ [] in
          let more = has_behind (bodies_of p) f pc (size a) ca (ct ++ back) (code_length a places pc) stands in
          let last = has_back (bodies_of p) f behind ct back more in
          let out : end + 2 ≡ pc + (size a + length ct + 1 + 2) = omega arith in
          then_sim (Flows n has labels) (Flows n has labels) (flow_at (bodies_of p) law f outer places behind) _ _ _ _
          (action_sim a labels places pc s le sh.0 (has_front (bodies_of p) f pc ca (ct ++ back) stands))
          (on_normal_sim labels places behind _ _
          (λ u lu. then_sim (Within n) (Flows n has labels)
          (λ v t. at (bodies_of p) law f outer t (behind + length ct) (v ∷ [])) _ _ _ _
          (value_sim p shaped law low n lower f outer test has behind [] u lu sh.1
          (has_front (bodies_of p) f behind ct back more))
          (λ v t le'. from_sim _ _ _ _ _ (one (bodies_of p) law f outer t (behind + length ct) (v ∷ [])
          (instr.JumpIfNot (end + 2)) last.0)
          (branch_sim labels _ (truth_of v) t (behind + length ct) (end + 2) (v ∷ []) _ _
          (again_sim labels (action.Do line a test) line places pc end _ t le' sh stands last.1 refl)
          (record { eq = ap (λ q. at (bodies_of p) law f outer t q []) out; post = le' })))))
      action_sim (action.Jump line label) labels places pc s le sh stands =
          from_sim _ _ _ _ _ (one (bodies_of p) law f outer s pc [] (instr.Tick line) stands.0)
          (tick_sim (bodies_of p) law f outer _ _ s.ticks line pc (pc + 1) [] [] s (Gives (Jumped label)) stands.0
          (λ t' same. record {
            eq = one (bodies_of p) law f outer (record s { ticks = t' }) (pc + 1) []
                (instr.Jump (place_of label places)) stands.1.0;
            post = (omega arith, has_contained labels label sh);
          }))
      action_sim action.Return labels places pc s le sh stands =
          record { eq = leave (bodies_of p) law f outer s pc [] stands.0; post = (le, sym sh) }
      action_sim (action.ReturnValue node) labels places pc s le sh stands =
          let code = value_code node in
          then_sim (Within n) (Flows n has labels)
          (λ v t. at (bodies_of p) law f outer t (pc + length code) (v ∷ [])) _ _ _ _
          (value_sim p shaped law low n lower f outer node has pc [] s le sh.1
          (has_front (bodies_of p) f pc code (instr.ReturnValue ∷ []) stands))
          (λ v t le'. record {
            eq = leave_value (bodies_of p) law f outer t (pc + length code) v []
                (last_at (bodies_of p) f pc code instr.ReturnValue stands);
            post = (le', sym sh.0);
          })
      action_sim (action.State state) labels places pc s le sh stands =
          record { eq = one (bodies_of p) law f outer s pc [] (instr.GoState state) stands.0; post = tt }

      actions_sim : (xs : Actions) (from : Option ℕ) (labels : List ℕ) (places : List LabelPlace) (pc : ℕ)
          (s : State) → s.ticks ≤ n → AreShapedActions (outline p has) labels xs → CanEnterIn xs from
          → HasAt (bodies_of p) f pc (actions_code xs places pc)
          → Sim (Flows n has labels) (flow_at (bodies_of p) law f outer places (pc + sizes xs))
          (execute_all (routines_of p) low xs from (site_of (bodies_of p) f outer []) s)
          (at (bodies_of p) law f outer s (entry_in xs from pc) [])
      actions_sim NoAction None labels places pc s le sh enters stands =
          let e : pc ≡ pc + 0 = omega arith in
          record { eq = ap (λ q. at (bodies_of p) law f outer s q []) e; post = le }
      actions_sim NoAction (Some label) labels places pc s le sh enters stands = absurd cc
      actions_sim (AndAction xs a) None labels places pc s le sh enters stands =
          let cs = actions_code xs places pc in
          let ca = action_code a places (pc + sizes xs) in
          let last = has_behind (bodies_of p) f pc (sizes xs) cs ca (codes_length xs places pc) stands in
          then_sim (Flows n has labels) (Flows n has labels)
          (flow_at (bodies_of p) law f outer places (pc + sizes xs)) _ _ _ _
          (actions_sim xs None labels places pc s le sh.0 tt (has_front (bodies_of p) f pc cs ca stands))
          (on_normal_sim labels places (pc + sizes xs) _ _
          (λ t le'. flow_next labels places (pc + sizes xs + size a) _ _ _
          (λ u. ap (λ q. at (bodies_of p) law f outer u q []) (add_assoc pc (sizes xs) (size a)))
          (action_sim a labels places (pc + sizes xs) t le' sh.1 last)))
      actions_sim (AndAction xs a) (Some label) labels places pc s le sh enters stands =
          let cs = actions_code xs places pc in
          let ca = action_code a places (pc + sizes xs) in
          let last = has_behind (bodies_of p) f pc (sizes xs) cs ca (codes_length xs places pc) stands in
          from_sim _ _ _ _ _ (ap (λ q. at (bodies_of p) law f outer s q []) (place_last xs a label pc))
          (skip_sim labels _ s (has_label (labels_in xs) label) (place_of label (places_in xs pc))
          (place_of label (place_if_label a (pc + sizes xs))) _ _
          (λ there. then_sim (Flows n has labels) (Flows n has labels)
          (flow_at (bodies_of p) law f outer places (pc + sizes xs)) _ _ _ _
          (actions_sim xs (Some label) labels places pc s le sh.0 there (has_front (bodies_of p) f pc cs ca stands))
          (on_normal_sim labels places (pc + sizes xs) _ _
          (λ t le'. flow_next labels places (pc + sizes xs + size a) _ _ _
          (λ u. ap (λ q. at (bodies_of p) law f outer u q []) (add_assoc pc (sizes xs) (size a)))
          (action_sim a labels places (pc + sizes xs) t le' sh.1 last))))
          (λ out. record {
            eq = ap (λ q. at (bodies_of p) law f outer s q [])
                (last_label a label (pc + sizes xs) (labels_in xs) out enters ∙ add_assoc pc (sizes xs) (size a));
            post = le;
          }))

    -- a statement from its start, or from after a label of its own
    pub execute_sim : (a : Action) (from : Option ℕ) (labels : List ℕ) (places : List LabelPlace) (pc : ℕ)
        (s : State) → s.ticks ≤ n → IsShapedAction (outline p has) labels a → CanEnter a from
        → HasAt (bodies_of p) f pc (action_code a places pc)
        → Sim (Flows n has labels) (flow_at (bodies_of p) law f outer places (pc + size a))
        (execute (routines_of p) low a from (site_of (bodies_of p) f outer []) s)
        (at (bodies_of p) law f outer s (entry a from pc) [])
    execute_sim a None labels places pc s le sh enters stands = action_sim a labels places pc s le sh stands
    execute_sim (action.Block xs) (Some label) labels places pc s le sh enters stands =
        then_sim (Flows n has (labels_in xs ++ labels)) (Flows n has labels)
        (flow_at (bodies_of p) law f outer (places_in xs pc ++ places) (pc + sizes xs)) _ _ _ _
        (actions_sim xs (Some label) (labels_in xs ++ labels) (places_in xs pc ++ places) pc s le sh.1 enters stands)
        (caught_sim labels xs places pc sh stands)
    execute_sim a (Some label) labels places pc s le sh enters stands = action_sim a labels places pc s le sh stands
