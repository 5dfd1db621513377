-- Calls of the script's own functions: a routine from its first tick to the result that its caller is handed.
use Rattle.std.proofs.Common.{◌≡◌, ℕ, suc, ◌+◌, ◌-◌, ◌≤◌, List, [], ◌∷◌, ◌++◌, Bool, true, false, cond, Option, Some, None, refl, sym, ap, ◌∙◌, subst, arith, length, reverse, take, slice_get}
use Rattle.std.specs.Prelude.{is_some}
use Rattle.lsl_value.specs.declared.tagged.Kind.{Kind}
use Rattle.lsl_value.specs.declared.tagged.Value.{Value}
use Rattle.lsl_table.specs.Calls.{row_of}
use Rattle.lsl_tree.specs.declared.program_node.Callee.{Callee}
use Rattle.lsl_tree.specs.declared.program_node.Callee.TheVariants.{Function, Builtin}
use Rattle.lsl_tree.specs.Actions.{Action, Block}
use Rattle.lsl_tree.specs.Program.{Routine, Program}
use Rattle.lsl_tree.specs.Shape.{Outline, FitsCallee, IsShapedAction, IsShaped}
use Rattle.lsl_tree.specs.Signatures.{function_signatures, routines_of}
use Rattle.lsl_running.specs.declared.ends.Fault.TheVariants.{StackHeap}
use Rattle.lsl_running.specs.Calling.{call_form}
use Rattle.lsl_running.specs.Charging.{call_charge, charges_of, hold_all, used, is_within}
use Rattle.lsl_running.specs.Results as whole
use Rattle.lsl_meaning.specs.Calls.{Lower, first_slots, result_behind, run_routine, enter, call}
use Rattle.lsl_meaning.specs.State.{State, Stops, bind, Flow, Normal, Returned, Jumped, give_result, tick}
use Rattle.lsl_code.specs.declared.instructions.Instr.{Instr}
use Rattle.lsl_code.specs.declared.instructions.Instr.TheVariants as instr
use Rattle.lsl_code.specs.Acts.{Enters, Fails, within, entered_with, entered}
use Rattle.lsl_code.specs.Machine.{MachineCall, Machine, Lost, base, call_at, step}
use Rattle.lsl_code.specs.Pieces.{HasAt}
use Rattle.lsl_code.specs.Runs.{Over, on, passed, run}
use Rattle.lsl_code.specs.Wholes.{seen, line_in, line_at}
use Rattle.lsl_gen.specs.Expressions.{call_code}
use Rattle.lsl_gen.specs.Programs.{ending, draft_of, scope_of}
use Rattle.lsl_gen.specs.declared.label_places.LabelPlace.{LabelPlace}
use Rattle.lsl_gen.specs.Statements.{size, sizes, action_code}
use Rattle.lsl_gen.proofs.Bodies.{routine_body, bodies_of, body_at, routine_at, shaped_at, slots_same}
use Rattle.lsl_gen.proofs.Calls.{popped, builtin_sim, has_sim}
use Rattle.lsl_gen.proofs.Forms.{form_fits}
use Rattle.lsl_gen.proofs.LabelScopes.{entry, CanEnter}
use Rattle.lsl_gen.proofs.Leaves.{pushed, Results, Flows, site_of, at, led, any, one, tick_sim, resume, flow_at, leave, received_sim}
use Rattle.lsl_gen.proofs.Lengths.{code_length}
use Rattle.lsl_gen.proofs.Pieces.{has_front, draft_seen, draft_stands}
use Rattle.lsl_gen.proofs.Simulations.{Sim, then_sim, from_sim}

abbrev pub outline : Program → Bool → Outline
outline p has = record { functions = function_signatures p; states = length p.states; gives = has }

at_seam : (a b : List Instr) → slice_get (a ++ b) (length a) ≡ slice_get b 0
at_seam [] b = refl
at_seam (i ∷ a) b = at_seam a b

-- what follows a routine's statements
end_seen : (i : Instr) (a b : List Instr) (m : ℕ) → length a ≡ m → slice_get (i ∷ (a ++ b)) (1 + m) ≡ slice_get b 0
end_seen i a b m e =
    let next : 1 + m ≡ suc (length a) = omega arith in
    ap (slice_get (i ∷ (a ++ b))) next ∙ at_seam a b

one_less : (n : ℕ) → n + 1 - 1 ≡ n
one_less n = omega arith

module _ (p : Program) (shaped : IsShaped p)
    (law : (t : ℕ) (m : Machine) → run (bodies_of p) t m
    ≡ on (step (bodies_of p) m) (passed (bodies_of p) t m) (run (bodies_of p) t)) where
  -- after a tick, the machine does what is meant there
  abbrev pub LowerSim : ℕ → Lower → Type 0
  LowerSim n low =
      (a : Action) (from : Option ℕ) (has : Bool) (f : ℕ) (outer : List MachineCall) (places : List LabelPlace)
      (labels : List ℕ) (pc : ℕ) (s : State)
      → suc s.ticks ≤ n → IsShapedAction (outline p has) labels a → CanEnter a from
      → HasAt (bodies_of p) f pc (action_code a places pc)
      → Sim (Flows n has labels) (flow_at (bodies_of p) law f outer places (pc + size a))
      (low a from (site_of (bodies_of p) f outer []) s)
      (at (bodies_of p) law f outer s (entry a from pc) [])

  module _ (low : Lower) (n : ℕ) (lower : LowerSim n low) where
    -- the end of a routine's statements
    end_sim : (kind : Option Kind) (k : ℕ) (outer : List MachineCall) (q : ℕ)
        → seen (bodies_of p) k q ≡ slice_get (ending kind) 0
        → (flow : Flow) (s : State) → Flows n (is_some kind) [] flow s
        → Sim (Results n (is_some kind)) (λ o t. resume (bodies_of p) law k outer t o)
        (result_behind kind flow s) (flow_at (bodies_of p) law k outer [] q flow s)
    end_sim None k outer q e Normal s le = record { eq = leave (bodies_of p) law k outer s q [] e; post = (le, refl) }
    end_sim (Some kind) k outer q e Normal s le = record { eq = any (bodies_of p) law k outer s q [] None e; post = tt }
    end_sim None k outer q e (Returned o) s post = record { eq = refl; post = post }
    end_sim (Some kind) k outer q e (Returned o) s post = record { eq = refl; post = post }
    end_sim None k outer q e (Jumped label) s post = let never : false ≡ true = post.1 in absurd cc
    end_sim (Some kind) k outer q e (Jumped label) s post = let never : false ≡ true = post.1 in absurd cc

    -- a routine from its tick
    pub routine_sim : (r : Routine) (k : ℕ) (outer : List MachineCall) (s : State)
        → slice_get (routines_of p) k ≡ Some r → s.ticks ≤ n
        → Sim (Results n (is_some r.kind)) (λ o t. resume (bodies_of p) law k outer t o)
        (tick s.ticks r.line (site_of (bodies_of p) k outer []) s
        (λ t. bind (low (Block r.body) None (site_of (bodies_of p) k outer []) t) (result_behind r.kind)))
        (at (bodies_of p) law k outer s 0 [])
    routine_sim r k outer s e le =
        let code = action_code (Block r.body) [] 1 in
        let there = body_at p k r e in
        let has = draft_stands (bodies_of p) k [] (scope_of p r) r.params (draft_of r) there in
        let end : seen (bodies_of p) k (1 + sizes r.body) ≡ slice_get (ending r.kind) 0 =
        draft_seen (bodies_of p) k [] (scope_of p r) r.params (draft_of r) there (1 + sizes r.body)
        ∙ end_seen (instr.Tick r.line) code (ending r.kind) (sizes r.body) (code_length (Block r.body) [] 1) in
        let is_shaped = shaped_at p shaped k r e in
        from_sim _ _ _ _ _ (one (bodies_of p) law k outer s 0 [] (instr.Tick r.line) has.0)
        (tick_sim (bodies_of p) law k outer (Results n (is_some r.kind))
        (λ o t. resume (bodies_of p) law k outer t o) s.ticks r.line 0 1 [] [] s
        (λ t. bind (low (Block r.body) None (site_of (bodies_of p) k outer []) t) (result_behind r.kind)) has.0
        (λ t' same. then_sim (Flows n (is_some r.kind) []) (Results n (is_some r.kind))
        (flow_at (bodies_of p) law k outer [] (1 + sizes r.body))
        (λ o t. resume (bodies_of p) law k outer t o) _ _ _
        (lower (Block r.body) None (is_some r.kind) k outer [] [] 1 (record s { ticks = t' }) (omega arith)
        is_shaped.body tt (has_front (bodies_of p) k 1 code (ending r.kind) has.1))
        (end_sim r.kind k outer (1 + sizes r.body) end)))

    -- a function is entered, where its slots can be charged
    enter_within : (b : Bool) (r : Routine) (k f : ℕ) (outer : List MachineCall) (pc : ℕ)
        (args from ops : List Value) (s : State) → slice_get (routines_of p) k ≡ Some r → s.ticks ≤ n
        → Sim (Results n (is_some r.kind))
        (λ o t. resume (bodies_of p) law k (call_at f (pc + 1) s.slots ops ∷ outer) t o)
        (cond b (tick s.ticks r.line (site_of (bodies_of p) k (call_at f (pc + 1) s.slots ops ∷ outer) [])
        (record s { slots = first_slots r args })
        (λ t. bind (low (Block r.body) None
        (site_of (bodies_of p) k (call_at f (pc + 1) s.slots ops ∷ outer) []) t) (result_behind r.kind)))
        (Stops (whole.Fails StackHeap)))
        (led (bodies_of p) law f outer s pc from (cond b (Enters k (first_slots r args) ops) (Fails StackHeap)))
    enter_within true r k f outer pc args from ops s e le =
        routine_sim r k (call_at f (pc + 1) s.slots ops ∷ outer) (record s { slots = first_slots r args }) e le
    enter_within false r k f outer pc args from ops s e le = record { eq = refl; post = tt }

    -- the caller continues with the result
    returned_sim : (has : Bool) (k f : ℕ) (outer : List MachineCall) (pc q : ℕ) (slots ops : List Value)
        (o : Option Value) (t : State) → pc + 1 ≡ q → Results n has o t
        → Sim (Results n has) (λ o u. at (bodies_of p) law f outer u q (pushed o ops))
        (give_result o (site_of (bodies_of p) f outer ops) (record t { slots = slots }))
        (resume (bodies_of p) law k (call_at f (pc + 1) slots ops ∷ outer) t o)
    returned_sim has k f outer pc q slots ops None t e post =
        record { eq = ap (λ q. at (bodies_of p) law f outer (record t { slots = slots }) q ops) e; post = post }
    returned_sim has k f outer pc q slots ops (Some v) t e post =
        has_sim (bodies_of p) law n f outer true has (λ o u. at (bodies_of p) law f outer u q (pushed o ops)) _ _ post.1
        (received_sim (bodies_of p) law f outer n (pc + 1) q (λ next. Over Lost) (record t { slots = slots }) v
        ops e post.0)

    enter_sim : (r : Routine) (k line f : ℕ) (outer : List MachineCall) (pc q : ℕ) (args from ops : List Value)
        (s : State)
        → slice_get (routines_of p) k ≡ Some r → line_at (bodies_of p) f (pc + 1 - 1) ≡ line → pc + 1 ≡ q → s.ticks ≤ n
        → Sim (Results n (is_some r.kind)) (λ o t. at (bodies_of p) law f outer t q (pushed o ops))
        (enter low (Some r) k line args (site_of (bodies_of p) f outer ops) s)
        (led (bodies_of p) law f outer s pc from
        (entered_with (routine_body p r) args ops k s.kept (base outer) s.slots))
    enter_sim r k line f outer pc q args from ops s e at_line d le =
        let caller = call_at f (pc + 1) s.slots ops in
        let is_shaped = shaped_at p shaped k r e in
        from_sim _ _ _ _ _
        (ap (λ slots. led (bodies_of p) law f outer s pc from
        (within (hold_all (base outer) ops + call_charge + charges_of s.slots) slots s.kept
        (Enters k slots ops))) (slots_same p r args is_shaped.params))
        (subst (λ line. Sim (Results n (is_some r.kind))
        (λ o t. at (bodies_of p) law f outer t q (pushed o ops))
        (enter low (Some r) k line args (site_of (bodies_of p) f outer ops) s)
        (led (bodies_of p) law f outer s pc from
        (within (hold_all (base outer) ops + call_charge + charges_of s.slots) (first_slots r args) s.kept
        (Enters k (first_slots r args) ops)))) at_line
        (then_sim (Results n (is_some r.kind)) (Results n (is_some r.kind))
        (λ o t. resume (bodies_of p) law k (caller ∷ outer) t o)
        (λ o t. at (bodies_of p) law f outer t q (pushed o ops))
        (run_routine low r (site_of (bodies_of p) k (caller ∷ outer) [])
        (record s { slots = first_slots r args }))
        (λ o t. give_result o (site_of (bodies_of p) f outer ops) (record t { slots = s.slots })) _
        (enter_within (is_within s.kept (used (base (caller ∷ outer)) (first_slots r args) s.kept)) r k f outer
        pc args from ops s e le)
        (λ o t post. returned_sim (is_some r.kind) k f outer pc q s.slots ops o t d post)))

    -- a call whose arguments are pushed
    pub call_sim : (callee : Callee) (line : ℕ) (other has : Bool) (count f : ℕ) (outer : List MachineCall)
        (pc q : ℕ) (vs ops : List Value) (s : State)
        → FitsCallee (outline p other) callee count has → s.ticks ≤ n → length vs ≡ count
        → HasAt (bodies_of p) f pc (call_code callee line) → pc + length (call_code callee line) ≡ q
        → Sim (Results n has) (λ o t. at (bodies_of p) law f outer t q (pushed o ops))
        (call (routines_of p) low callee line (reverse vs) (site_of (bodies_of p) f outer ops) s)
        (at (bodies_of p) law f outer s pc (vs ++ ops))
    call_sim (Function k) line other has count f outer pc q vs ops s fits le len stands d =
        let found = routine_at p k fits.0 fits.1 in
        let r = found.0 in
        let body = routine_body p r in
        let is_shaped = shaped_at p shaped k r found.1 in
        let params : length (take r.params r.slots) ≡ count = ap (λ g. length g.params) found.2 ∙ fits.2 in
        let gives_same : is_some r.kind ≡ has = ap (λ g. is_some g.result) found.2 ∙ fits.3 in
        let line_is : line_at (bodies_of p) f (pc + 1 - 1) ≡ line =
        ap (line_at (bodies_of p) f) (one_less pc) ∙ ap line_in stands.0 in
        from_sim _ _ _ _ _
        (one (bodies_of p) law f outer s pc (vs ++ ops) (instr.Call k line) stands.0
        ∙ ap (λ o. led (bodies_of p) law f outer s pc (vs ++ ops)
        (entered o k s.kept (base outer) s.slots (vs ++ ops))) (body_at p k r found.1)
        ∙ popped (length body.params) vs ops
        (λ args rest. led (bodies_of p) law f outer s pc (vs ++ ops)
        (entered_with body (reverse args) rest k s.kept (base outer) s.slots)) (len ∙ sym params))
        (has_sim (bodies_of p) law n f outer (is_some r.kind) has
        (λ o t. at (bodies_of p) law f outer t q (pushed o ops)) _ _ gives_same
        (subst (λ o. Sim (Results n (is_some r.kind)) (λ o t. at (bodies_of p) law f outer t q (pushed o ops))
        (enter low o k line (reverse vs) (site_of (bodies_of p) f outer ops) s)
        (led (bodies_of p) law f outer s pc (vs ++ ops)
        (entered_with body (reverse vs) ops k s.kept (base outer) s.slots))) (sym found.1)
        (enter_sim r k line f outer pc q (reverse vs) (vs ++ ops) ops s found.1 line_is d le)))
    call_sim (Builtin id) line other has count f outer pc q vs ops s fits le len stands d =
        let params : length (row_of id).params ≡ count =
        (let same : length (row_of id).params ≡ length fits.0.params = cc in same ∙ fits.2) in
        let gives_same : is_some (row_of id).result ≡ has =
        (let same : is_some (row_of id).result ≡ is_some fits.0.result = cc in same ∙ fits.3) in
        has_sim (bodies_of p) law n f outer (is_some (row_of id).result) has
        (λ o t. at (bodies_of p) law f outer t q (pushed o ops)) _ _ gives_same
        (builtin_sim (bodies_of p) law n f outer (call_form id) id line pc q vs ops s (form_fits id) le
        (len ∙ sym params) stands d)
