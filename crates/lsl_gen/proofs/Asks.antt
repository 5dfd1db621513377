-- The code of a program asks at no more places than the program has nodes, so a handler asks few times between
-- two ticks.
use Rattle.std.proofs.Common.{◌≡◌, ◌≢◌, ℕ, suc, ◌+◌, ◌*◌, ◌≤◌, pos, List, [], ◌∷◌, ◌++◌, length, map, refl, sym, ap, ◌∙◌, subst, arith}
use Rattle.std.specs.Prelude.{Option, Some, None}
use Rattle.lsl_value.specs.declared.names.BuiltinId.{BuiltinId}
use Rattle.lsl_value.specs.declared.names.ConstantId.{ConstantId}
use Rattle.lsl_value.specs.declared.names.ConstantId.TheVariants as constant
use Rattle.lsl_value.specs.declared.tagged.Kind.{Kind}
use Rattle.lsl_value.specs.declared.tagged.Value.{Value}
use Rattle.lsl_table.specs.Constants.{constant_value_of}
use Rattle.lsl_tree.specs.declared.program_node.Callee.{Callee}
use Rattle.lsl_tree.specs.declared.program_node.Callee.TheVariants.{Function, Builtin}
use Rattle.lsl_tree.specs.declared.program_node.Place.{Place}
use Rattle.lsl_tree.specs.declared.program_node.Place.TheVariants.{Global, Slot}
use Rattle.lsl_tree.specs.Actions as action
use Rattle.lsl_tree.specs.Actions.{Action, Actions, NoAction, AndAction}
use Rattle.lsl_tree.specs.Effects as effect
use Rattle.lsl_tree.specs.Effects.{Effect}
use Rattle.lsl_tree.specs.Nodes as node
use Rattle.lsl_tree.specs.Nodes.{Node, Nodes, NoNode, AndNode}
use Rattle.lsl_tree.specs.Program.{Routine, Program}
use Rattle.lsl_tree.specs.Shape.{argument_count}
use Rattle.lsl_tree.specs.Signatures.{routines_of}
use Rattle.lsl_running.specs.Calling as form
use Rattle.lsl_running.specs.Calling.{CallForm, call_form}
use Rattle.lsl_running.specs.Results as whole
use Rattle.lsl_running.specs.Results.{ActiveCall}
use Rattle.lsl_meaning.specs.Expressions.{step_operator}
use Rattle.lsl_code.specs.declared.instructions.Instr.{Instr}
use Rattle.lsl_code.specs.declared.instructions.Instr.TheVariants as instr
use Rattle.lsl_code.specs.Bodies.{Body, plain_body}
use Rattle.lsl_code.specs.Drafts.{numbered}
use Rattle.lsl_code.specs.Laws.{hosts, hosts_of}
use Rattle.lsl_code.specs.Machine.{Machine, Ended, Faulted, Lost}
use Rattle.lsl_code.specs.Runs.{Halt, Over, AskAt, CutAt}
use Rattle.lsl_code.specs.Wholes.{told, run_of}
use Rattle.lsl_code.proofs.Asking as code
use Rattle.lsl_code.proofs.Running.{run_law}
use Rattle.lsl_gen.specs.Counts.{nodes_in_value, nodes_in_values, nodes_in_effect, nodes_in_effects, nodes_in_action, nodes_in_actions, nodes_in_routines, nodes_of}
use Rattle.lsl_gen.specs.Expressions.{literal, load, store, builtin_code, call_code, value_code, values_code, effect_code, effects_code}
use Rattle.lsl_gen.specs.Laws.{AsksSoOften}
use Rattle.lsl_gen.specs.Programs.{ending, draft_of, generated_functions}
use Rattle.lsl_gen.specs.declared.label_places.LabelPlace.{LabelPlace}
use Rattle.lsl_gen.specs.Statements.{size, sizes, places_in, action_code, actions_code}
use Rattle.lsl_gen.proofs.Agreement.{runs_as_meant}
use Rattle.lsl_gen.proofs.Bodies.{routine_body, bodies_of, bodies_generated}
use Rattle.lsl_gen.proofs.Routes.{generated_forward}

hosts-append : (a b : List Instr) → hosts (a ++ b) ≡ hosts a + hosts b
hosts-append [] b = omega arith
hosts-append (instr.Host id ∷ a) b = let r = hosts-append a b in omega arith
hosts-append (i ∷ a) b = hosts-append a b

hosts_numbered : (d : List Instr) (k : ℕ) → hosts (numbered d k) ≡ hosts d
hosts_numbered [] k = refl
hosts_numbered (instr.Host id ∷ d) k = ap suc (hosts_numbered d k)
hosts_numbered (instr.Tick line ∷ d) k = hosts_numbered d (suc k)
hosts_numbered (instr.Call f line ∷ d) k = hosts_numbered d (suc k)
hosts_numbered (i ∷ d) k = hosts_numbered d k

load_hosts : (place : Place) (is : List Instr) → hosts (load place ∷ is) ≡ hosts is
load_hosts (Slot i) is = refl
load_hosts (Global i) is = refl

store_hosts : (place : Place) (is : List Instr) → hosts (store place ∷ is) ≡ hosts is
store_hosts (Slot i) is = refl
store_hosts (Global i) is = refl

literal_hosts : (id : ConstantId) → hosts (literal (constant_value_of id) ∷ []) ≡ 0
literal_hosts constant.True = refl
literal_hosts id = refl

builtin_hosts : (call : CallForm) (id : BuiltinId) (line : ℕ) → hosts (builtin_code call id line) ≤ 1
builtin_hosts form.Pure id line = omega arith
builtin_hosts form.UsedMemory id line = omega arith
builtin_hosts form.FreeMemory id line = omega arith
builtin_hosts form.SetLimit id line = omega arith
builtin_hosts form.GetLimit id line = omega arith
builtin_hosts form.Asked id line = omega arith
builtin_hosts form.AskedAndWaits id line = omega arith
builtin_hosts form.Resets id line = omega arith

call_hosts : (callee : Callee) (line : ℕ) → hosts (call_code callee line) ≤ 1
call_hosts (Function n) line = omega arith
call_hosts (Builtin id) line = builtin_hosts (call_form id) id line

mutual
  value_hosts : (t : Node) → hosts (value_code t) ≤ nodes_in_value t
  value_hosts (node.Int n) = omega arith
  value_hosts (node.Str text) = omega arith
  value_hosts (node.Constant id kind) = omega (arith, literal_hosts id)
  value_hosts (node.Variable place kind) = omega (arith, load_hosts place [])
  value_hosts (node.Call callee kind line ts) =
      let r = values_hosts ts in
      omega (arith, hosts-append (values_code ts) (call_code callee line), call_hosts callee line)
  value_hosts (node.ListLiteral ts) = let r = values_hosts ts in
      omega (arith, hosts-append (values_code ts) (instr.MakeList (argument_count ts) ∷ []))
  value_hosts (node.Cast kind t) = let r = value_hosts t in
      omega (arith, hosts-append (value_code t) (instr.Cast kind ∷ []))
  value_hosts (node.Unary op t) = let r = value_hosts t in
      omega (arith, hosts-append (value_code t) (instr.Unary op ∷ []))
  value_hosts (node.Binary op kind a b) =
      let r = value_hosts a in
      let s = value_hosts b in
      omega (
        arith,
        hosts-append (value_code b) (value_code a ++ instr.Binary op ∷ []),
        hosts-append
            (value_code a) (instr.Binary op ∷ []),
      )
  value_hosts (node.Assign place kind t) = let r = value_hosts t in
      omega (arith, hosts-append (value_code t) (store place ∷ []), store_hosts place [])
  value_hosts (node.StepBehind place op) =
      let c : List Instr = instr.Drop ∷ [] in
      let b : List Instr = instr.Binary (step_operator op) ∷ store place ∷ c in
      omega (arith, load_hosts place (instr.Int (pos 1) ∷ load place ∷ b), load_hosts place b, store_hosts place c)

  values_hosts : (ts : Nodes) → hosts (values_code ts) ≤ nodes_in_values ts
  values_hosts NoNode = omega arith
  values_hosts (AndNode ts t) =
      let r = values_hosts ts in
      let s = value_hosts t in
      omega (arith, hosts-append (values_code ts) (value_code t))

effect_hosts : (x : Effect) → hosts (effect_code x) ≤ nodes_in_effect x
effect_hosts (effect.Value t) = let r = value_hosts t in omega (arith, hosts-append (value_code t) (instr.Drop ∷ []))
effect_hosts (effect.Call callee line ts) =
    let r = values_hosts ts in
    omega (arith, hosts-append (values_code ts) (call_code callee line), call_hosts callee line)

effects_hosts : (xs : List Effect) → hosts (effects_code xs) ≤ nodes_in_effects xs
effects_hosts [] = omega arith
effects_hosts (x ∷ xs) =
    let r = effect_hosts x in
    let s = effects_hosts xs in
    omega (arith, hosts-append (effect_code x) (effects_code xs))

mutual
  action_hosts : (a : Action) (places : List LabelPlace) (pc : ℕ) → hosts (action_code a places pc) ≤ nodes_in_action a
  action_hosts (action.Block xs) places pc = let r = actions_hosts xs (places_in xs pc ++ places) pc in omega arith
  action_hosts (action.Effect x) places pc = let r = effect_hosts x in omega arith
  action_hosts (action.Declare slot t) places pc = let r = value_hosts t in
      omega (arith, hosts-append (value_code t) (instr.Set slot ∷ []))
  action_hosts (action.Label label) places pc = omega arith
  action_hosts (action.If t a) places pc =
      let q = pc + length (value_code t) + 1 in
      let r = value_hosts t in
      let s = action_hosts a places q in
      omega (arith, hosts-append (value_code t) (instr.JumpIfNot (q + size a) ∷ action_code a places q))
  action_hosts (action.IfElse t a b) places pc =
      let q = pc + length (value_code t) + 1 in
      let next = q + size a + 1 in
      let ca = action_code a places q in
      let cb = action_code b places next in
      let r = value_hosts t in
      let ra = action_hosts a places q in
      let rb = action_hosts b places next in
      omega (
        arith,
        hosts-append (value_code t)
            (instr.JumpIfNot next ∷ (ca ++ (instr.Jump (next + size b) ∷ cb))),
        hosts-append ca
            (instr.Jump (next + size b) ∷ cb),
      )
  action_hosts (action.Loop line t xs a) places pc =
      let q = pc + length (value_code t) + 1 in
      let end = q + size a + length (effects_code xs) in
      let ca = action_code a places q in
      let cs = effects_code xs in
      let back : List Instr = instr.Tick line ∷ instr.Jump pc ∷ [] in
      let r = value_hosts t in
      let ra = action_hosts a places q in
      let rs = effects_hosts xs in
      omega (
        arith,
        hosts-append (value_code t) (instr.JumpIfNot (end + 2) ∷ (ca ++ (cs ++ back))),
        hosts-append
            ca (cs ++ back),
        hosts-append cs back,
      )
  action_hosts (action.Do line a t) places pc =
      let end = pc + size a + length (value_code t) + 1 in
      let ca = action_code a places pc in
      let back : List Instr = instr.JumpIfNot (end + 2) ∷ instr.Tick line ∷ instr.Jump pc ∷ [] in
      let ra = action_hosts a places pc in
      let r = value_hosts t in
      omega (arith, hosts-append ca (value_code t ++ back), hosts-append (value_code t) back)
  action_hosts (action.Jump line label) places pc = omega arith
  action_hosts action.Return places pc = omega arith
  action_hosts (action.ReturnValue t) places pc = let r = value_hosts t in
      omega (arith, hosts-append (value_code t) (instr.ReturnValue ∷ []))
  action_hosts (action.State n) places pc = omega arith

  actions_hosts : (xs : Actions) (places : List LabelPlace) (pc : ℕ)
      → hosts (actions_code xs places pc) ≤ nodes_in_actions xs
  actions_hosts NoAction places pc = omega arith
  actions_hosts (AndAction xs a) places pc =
      let r = actions_hosts xs places pc in
      let s = action_hosts a places (pc + sizes xs) in
      omega (arith, hosts-append (actions_code xs places pc) (action_code a places (pc + sizes xs)))

ending_hosts : (kind : Option Kind) → hosts (ending kind) ≡ 0
ending_hosts None = refl
ending_hosts (Some kind) = refl

routine_hosts : (p : Program) (r : Routine) → hosts (routine_body p r).code ≤ nodes_in_actions r.body
routine_hosts p r =
    let code = actions_code r.body (places_in r.body 1 ++ []) 1 in
    let h = actions_hosts r.body (places_in r.body 1 ++ []) 1 in
    let e : hosts (numbered (draft_of r) 0) ≡ hosts code + hosts (ending r.kind) =
    hosts_numbered (draft_of r) 0 ∙ hosts-append code (ending r.kind) in
    omega (arith, ending_hosts r.kind)

bodies_hosts : (p : Program) (rs : List Routine) → hosts_of (map (routine_body p) rs) ≤ nodes_in_routines rs
bodies_hosts p [] = omega arith
bodies_hosts p (r ∷ rs) = let a = routine_hosts p r in let b = bodies_hosts p rs in omega arith

-- the code of a program asks at no more places than the program has nodes
pub generated_hosts : (p : Program) → hosts_of (map plain_body (generated_functions p)) ≤ nodes_of p
generated_hosts p =
    subst (λ (bodies : List Body). hosts_of bodies ≤ nodes_of p) (sym (bodies_generated p))
    (bodies_hosts p (routines_of p))

-- what the end of a run shows
cut_told : (bodies : List Body) (h : Halt) (calls : List ActiveCall) → told bodies h ≡ whole.Cut calls
    → (m : Machine) × (h ≡ CutAt m)
cut_told bodies (CutAt m) calls e = (m, refl)
cut_told bodies (AskAt id args m t) calls e = absurd cc
cut_told bodies (Over (Ended way kept)) calls e = absurd cc
cut_told bodies (Over (Faulted fault)) calls e = absurd cc
cut_told bodies (Over Lost) calls e = absurd cc

ask_told : (bodies : List Body) (h : Halt) (id : BuiltinId) (args : List Value)
    → told bodies h ≡ whole.Asks id args → ((m : Machine) (t : ℕ) → h ≢ AskAt id args m t) → ⊥
ask_told bodies (CutAt m) id args e never = absurd cc
ask_told bodies (AskAt i given m t) id args e never =
    let a : i ≡ id = cc in
    let b : given ≡ args = cc in
    never m t (ap (λ i. AskAt i given m t) a ∙ ap (λ w. AskAt id w m t) b)
ask_told bodies (Over (Ended way kept)) id args e never = absurd cc
ask_told bodies (Over (Faulted fault)) id args e never = absurd cc
ask_told bodies (Over Lost) id args e never = absurd cc

pub asks_so_often : AsksSoOften
asks_so_often p kinded shaped f kept args ticks answers replies calls cut limit enough id asked e =
    let forward = generated_forward p kinded shaped in
    let law = run_law (bodies_of p) forward in
    let at = cut_told (bodies_of p) (run_of (bodies_of p) f kept args ticks answers) calls
    (runs_as_meant p shaped law f kept args ticks answers ∙ cut) in
    let few = bodies_hosts p (routines_of p) in
    let many : 2048 * hosts_of (bodies_of p) ≤ length replies = omega arith in
    ask_told (bodies_of p) (run_of (bodies_of p) f kept args (suc ticks) (answers ++ replies)) id asked
    (runs_as_meant p shaped law f kept args (suc ticks) (answers ++ replies) ∙ e)
    (λ m t. code.asks_so_often (bodies_of p) forward f kept args ticks answers replies at.0 at.1 limit many id
    asked m t)
