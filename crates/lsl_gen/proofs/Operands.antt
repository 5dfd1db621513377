-- The code of a program with kinds finds what it needs: the kinds after the code of an expression, and of a statement.
use Rattle.std.proofs.Common.{◌≡◌, ◌≢◌, ℕ, suc, ◌+◌, List, [], ◌∷◌, ◌++◌, length, reverse, Option, Some, None, option_map, true, cond, ◌&&◌, nat_eq, pos, refl, sym, ap, ap₂, ◌∙◌, arith, slice_get}
use Rattle.std.specs.Prelude.{option_and_then, nat_lt, is_none, All}
use Rattle.std.proofs.lemmas.Bool.Decides.{nat_tests}
use Rattle.std.proofs.lemmas.List.Elements.{All-head, All-tail}
use Rattle.std.proofs.lemmas.Option.{slice_get-map, none-some}
use Rattle.lsl_value.specs.Values.{kind_of}
use Rattle.lsl_value.specs.declared.names.BuiltinId.{BuiltinId}
use Rattle.lsl_value.specs.declared.names.ConstantId.{ConstantId}
use Rattle.lsl_value.specs.declared.names.ConstantId.TheVariants as constant
use Rattle.lsl_value.specs.declared.tagged.Kind.{Kind}
use Rattle.lsl_value.specs.declared.tagged.Kind.TheVariants as kind
use Rattle.lsl_table.specs.Calls.{row_of}
use Rattle.lsl_table.specs.Constants.{constant_value_of}
use Rattle.lsl_tree.specs.declared.expression.StepOp.{StepOp}
use Rattle.lsl_tree.specs.declared.expression.StepOp.TheVariants.{Increment, Decrement}
use Rattle.lsl_tree.specs.declared.program_node.Callee.{Callee}
use Rattle.lsl_tree.specs.declared.program_node.Callee.TheVariants.{Function, Builtin}
use Rattle.lsl_tree.specs.declared.program_node.Place.{Place}
use Rattle.lsl_tree.specs.declared.program_node.Place.TheVariants.{Global, Slot}
use Rattle.lsl_tree.specs.Actions as action
use Rattle.lsl_tree.specs.Actions.{Action, Actions, NoAction, AndAction}
use Rattle.lsl_tree.specs.Effects as effect
use Rattle.lsl_tree.specs.Effects.{Effect}
use Rattle.lsl_tree.specs.Kinded as tree
use Rattle.lsl_tree.specs.Kinded.{IsElement, FitsCall, place_kind, IsKindedNode, AreKindedNodes, IsKindedEffect, IsKindedAction, AreKindedActions}
use Rattle.lsl_tree.specs.Nodes as node
use Rattle.lsl_tree.specs.Nodes.{Node, Nodes, NoNode, AndNode, node_kind_of, stack_of}
use Rattle.lsl_tree.specs.Program.{Routine, Program}
use Rattle.lsl_tree.specs.Shape.{argument_count}
use Rattle.lsl_tree.specs.Signatures.{routines_of}
use Rattle.lsl_running.specs.Calling as form
use Rattle.lsl_running.specs.Calling.{CallForm, call_form}
use Rattle.lsl_meaning.specs.Expressions.{step_operator}
use Rattle.lsl_code.specs.declared.instructions.Instr.{Instr}
use Rattle.lsl_code.specs.declared.instructions.Instr.TheVariants as instr
use Rattle.lsl_code.specs.declared.signatures.Signature.{Signature}
use Rattle.lsl_code.specs.Effects.{strip, gather, pushed, only_if, with_kind, is_pure, is_asked, called, called_if, behind, runs}
use Rattle.lsl_code.specs.Kinds.{same_kind, is_element, Scope, builtin_signature}
use Rattle.lsl_code.proofs.Tested.{same_self}
use Rattle.lsl_gen.specs.Expressions.{literal, load, store, builtin_code, call_code, value_code, values_code, effect_code, effects_code}
use Rattle.lsl_gen.specs.Programs.{signature_of, scope_of}
use Rattle.lsl_gen.specs.declared.label_places.LabelPlace.{LabelPlace}
use Rattle.lsl_gen.specs.Statements.{sizes, places_in, action_code, actions_code}
use Rattle.lsl_gen.proofs.Bodies.{routine_at}
use Rattle.lsl_gen.proofs.Calls.{both_true, empty_and}
use Rattle.lsl_gen.proofs.Forms.{gives_integer, takes_integer, fits_form, form_fits, integer_given, integer_taken}

strip_self : (ps ks : List Kind) → strip ps (ps ++ ks) ≡ Some ks
strip_self [] ks = refl
strip_self (p ∷ ps) ks = ap (λ b. cond b (strip ps (ps ++ ks)) None) (same_self p) ∙ strip_self ps ks

element_is : (k : Kind) → k ≢ kind.List → is_element k ≡ true
element_is kind.Int h = refl
element_is kind.Str h = refl
element_is kind.Key h = refl
element_is kind.List h = absurd (h refl)

gather_all : (ts : Nodes) (ks : List Kind) → All IsElement (stack_of ts)
    → gather (argument_count ts) (stack_of ts ++ ks) ≡ Some ks
gather_all NoNode ks h = refl
gather_all (AndNode ts t) ks h =
    let next : argument_count ts + 1 ≡ suc (argument_count ts) = omega arith in
    ap (λ n. gather n (node_kind_of t ∷ (stack_of ts ++ ks))) next
    ∙ ap (λ b. cond b (gather (argument_count ts) (stack_of ts ++ ks)) None)
    (element_is (node_kind_of t) (All-head IsElement (node_kind_of t) (stack_of ts) h))
    ∙ gather_all ts ks (All-tail IsElement (node_kind_of t) (stack_of ts) h)

no_kinds : (ps ks : List Kind) → length ps ≡ 0 → reverse ps ≡ ks → ks ≡ []
no_kinds [] ks e same = sym same
no_kinds (p ∷ ps) ks e same = absurd (omega arith)

none_is : (result : Option Kind) → is_none result ≡ true → result ≡ None
none_is None e = refl
none_is (Some k) e = absurd cc

module _ (s : Scope) where
  -- one stretch after another
  then_some : (a b : List Instr) (o : Option (List Kind)) (js : List Kind) (r : Option (List Kind))
      → ((ls : List Kind) → runs s a ls ≡ Some js → runs s (a ++ b) ls ≡ r)
      → option_and_then (runs s a) o ≡ Some js → option_and_then (runs s (a ++ b)) o ≡ r
  then_some a b None js r more e = absurd cc
  then_some a b (Some ls) js r more e = more ls e

  pub then : (a b : List Instr) (ks js : List Kind) (r : Option (List Kind)) → runs s a ks ≡ Some js
      → runs s b js ≡ r → runs s (a ++ b) ks ≡ r
  then [] b ks js r e f = let same : ks ≡ js = cc in ap (runs s b) same ∙ f
  then (i ∷ a) b ks js r e f = then_some a b (behind s i ks) js r (λ ls h. then a b ls js r h f) e

  -- a call of this signature
  called_some : (g : Signature) (js ks : List Kind) → reverse g.params ≡ js
      → called (Some g) (js ++ ks) ≡ Some (pushed g.result ks)
  called_some g js ks e =
      ap (λ ps. option_map (pushed g.result) (strip ps (js ++ ks))) e
      ∙ ap (option_map (pushed g.result)) (strip_self js ks)

  own_runs : (i : Instr) (id : BuiltinId) (js : List Kind) (r : Option Kind) (ks : List Kind)
      → ((ls : List Kind) → behind s i ls ≡ Some (kind.Int ∷ ls))
      → (nat_eq (length (row_of id).params) 0 && gives_integer (row_of id).result) ≡ true
      → reverse (row_of id).params ≡ js → (row_of id).result ≡ r → runs s (i ∷ []) (js ++ ks) ≡ Some (pushed r ks)
  own_runs i id js r ks step fits params result =
      let both = empty_and (length (row_of id).params) (gives_integer (row_of id).result) fits in
      ap (λ l. runs s (i ∷ []) (l ++ ks)) (no_kinds (row_of id).params js both.0 params)
      ∙ ap (option_and_then (runs s [])) (step ks)
      ∙ ap (λ o. Some (pushed o ks)) (sym (integer_given (row_of id).result both.1) ∙ result)

  limit_runs : (id : BuiltinId) (js : List Kind) (r : Option Kind) (ks : List Kind)
      → (takes_integer (row_of id).params && gives_integer (row_of id).result) ≡ true
      → reverse (row_of id).params ≡ js → (row_of id).result ≡ r
      → runs s (instr.SetLimit ∷ []) (js ++ ks) ≡ Some (pushed r ks)
  limit_runs id js r ks fits params result =
      let both = both_true (takes_integer (row_of id).params) (gives_integer (row_of id).result) fits in
      let taken : js ≡ kind.Int ∷ [] = sym params ∙ ap reverse (integer_taken (row_of id).params both.0) in
      ap (λ l. runs s (instr.SetLimit ∷ []) (l ++ ks)) taken
      ∙ ap (λ o. Some (pushed o ks)) (sym (integer_given (row_of id).result both.1) ∙ result)

  builtin_runs : (call : CallForm) (id : BuiltinId) (line : ℕ) (js : List Kind) (r : Option Kind) (ks : List Kind)
      → call_form id ≡ call → fits_form call (row_of id) ≡ true → reverse (row_of id).params ≡ js
      → (row_of id).result ≡ r → (r ≡ None → ks ≡ [])
      → runs s (builtin_code call id line) (js ++ ks) ≡ Some (pushed r ks)
  builtin_runs form.Pure id line js r ks e fits params result alone =
      ap (λ h. option_and_then (runs s []) (called_if (is_pure h) (builtin_signature id) (js ++ ks))) e
      ∙ ap (option_and_then (runs s [])) (called_some (builtin_signature id) js ks params)
      ∙ ap (λ o. Some (pushed o ks)) result
  builtin_runs form.UsedMemory id line js r ks e fits params result alone =
      own_runs instr.Used id js r ks (λ ls. refl) fits params result
  builtin_runs form.FreeMemory id line js r ks e fits params result alone =
      own_runs instr.Free id js r ks (λ ls. refl) fits params result
  builtin_runs form.SetLimit id line js r ks e fits params result alone =
      limit_runs id js r ks fits params result
  builtin_runs form.GetLimit id line js r ks e fits params result alone =
      own_runs instr.GetLimit id js r ks (λ ls. refl) fits params result
  builtin_runs form.Asked id line js r ks e fits params result alone =
      ap (λ h. option_and_then (runs s []) (called_if (is_asked h) (builtin_signature id) (js ++ ks))) e
      ∙ ap (option_and_then (runs s [])) (called_some (builtin_signature id) js ks params)
      ∙ ap (λ o. Some (pushed o ks)) result
  builtin_runs form.AskedAndWaits id line js r ks e fits params result alone =
      ap (λ h. option_and_then (runs s (instr.Tick line ∷ []))
      (called_if (is_asked h) (builtin_signature id) (js ++ ks))) e
      ∙ ap (option_and_then (runs s (instr.Tick line ∷ []))) (called_some (builtin_signature id) js ks params)
      ∙ ap (λ o. Some (pushed o ks)) result
  builtin_runs form.Resets id line js r ks e fits params result alone =
      let none : r ≡ None = sym result ∙ none_is (row_of id).result fits in
      sym (ap₂ (λ o l. Some (pushed o l)) none (alone none))

  literal_runs : (id : ConstantId) (ks : List Kind)
      → runs s (literal (constant_value_of id) ∷ []) ks ≡ Some (kind_of (constant_value_of id) ∷ ks)
  literal_runs constant.True ks = refl
  literal_runs id ks = refl

  step_runs : (op : StepOp) (is : List Instr) (ks : List Kind)
      → runs s (instr.Binary (step_operator op) ∷ is) (kind.Int ∷ kind.Int ∷ ks) ≡ runs s is (kind.Int ∷ ks)
  step_runs Increment is ks = refl
  step_runs Decrement is ks = refl

module _ (p : Program) (r : Routine) where
  load_runs : (place : Place) (k : Kind) (is : List Instr) (ks : List Kind)
      → place_kind (tree.scope_of p r) place ≡ Some k
      → runs (scope_of p r) (load place ∷ is) ks ≡ runs (scope_of p r) is (k ∷ ks)
  load_runs (Global i) k is ks e = ap (λ o.
      option_and_then (runs (scope_of p r) is) (with_kind o (λ q. Some (q ∷ ks)))) e
  load_runs (Slot i) k is ks e = ap (λ o. option_and_then (runs (scope_of p r) is) (with_kind o (λ q. Some (q ∷ ks)))) e

  store_runs : (place : Place) (k : Kind) (is : List Instr) (ks : List Kind)
      → place_kind (tree.scope_of p r) place ≡ Some k
      → runs (scope_of p r) (store place ∷ is) (k ∷ ks) ≡ runs (scope_of p r) is (k ∷ ks)
  store_runs (Global i) k is ks e =
      ap (λ o. option_and_then (runs (scope_of p r) is) (with_kind o (λ q. only_if (same_kind q k) (k ∷ ks)))) e
      ∙ ap (λ b. option_and_then (runs (scope_of p r) is) (only_if b (k ∷ ks))) (same_self k)
  store_runs (Slot i) k is ks e =
      ap (λ o. option_and_then (runs (scope_of p r) is) (with_kind o (λ q. only_if (same_kind q k) (k ∷ ks)))) e
      ∙ ap (λ b. option_and_then (runs (scope_of p r) is) (only_if b (k ∷ ks))) (same_self k)

  call_runs : (callee : Callee) (line : ℕ) (ts : Nodes) (result : Option Kind) (ks : List Kind)
      → FitsCall (tree.scope_of p r) callee ts result → (result ≡ None → ks ≡ [])
      → runs (scope_of p r) (call_code callee line) (stack_of ts ++ ks) ≡ Some (pushed result ks)
  call_runs (Function n) line ts result ks fits alone =
      let found = routine_at p n fits.0 fits.1 in
      let there : slice_get (scope_of p r).functions n ≡ Some (signature_of found.0) =
      slice_get-map signature_of (routines_of p) n ∙ ap (option_map signature_of) found.1 in
      ap (λ o. option_and_then (runs (scope_of p r) []) (called o (stack_of ts ++ ks))) there
      ∙ ap (option_and_then (runs (scope_of p r) []))
      (called_some (scope_of p r) (signature_of found.0) (stack_of ts) ks
      (ap (λ g. reverse g.params) found.2 ∙ fits.2))
      ∙ ap (λ o. Some (pushed o ks)) (ap (λ g. g.result) found.2 ∙ fits.3)
  call_runs (Builtin id) line ts result ks fits alone =
      let params : reverse (row_of id).params ≡ stack_of ts =
      (let same : reverse (row_of id).params ≡ reverse fits.0.params = cc in same ∙ fits.2) in
      let gives : (row_of id).result ≡ result = (let same : (row_of id).result ≡ fits.0.result = cc in same ∙ fits.3) in
      builtin_runs (scope_of p r) (call_form id) id line (stack_of ts) result ks refl (form_fits id) params gives alone

  mutual
    -- the code of an expression leaves its value
    pub value_runs : (t : Node) (ks : List Kind) → IsKindedNode (tree.scope_of p r) t
        → runs (scope_of p r) (value_code t) ks ≡ Some (node_kind_of t ∷ ks)
    value_runs (node.Int n) ks h = refl
    value_runs (node.Str t) ks h = refl
    value_runs (node.Constant id k) ks h = literal_runs (scope_of p r) id ks ∙ ap (λ k. Some (k ∷ ks)) h
    value_runs (node.Variable place k) ks h = load_runs place k [] ks h
    value_runs (node.Call callee k line ts) ks h =
        then (scope_of p r) (values_code ts) (call_code callee line) ks (stack_of ts ++ ks) _
        (values_run ts ks h.1) (call_runs callee line ts (Some k) ks h.0
        (λ e. absurd (none-some k (sym e))))
    value_runs (node.ListLiteral ts) ks h =
        then (scope_of p r) (values_code ts) (instr.MakeList (argument_count ts) ∷ []) ks (stack_of ts ++ ks) _
        (values_run ts ks h.1)
        (ap (λ o. option_and_then (runs (scope_of p r) []) (option_map (λ rest. kind.List ∷ rest) o))
        (gather_all ts ks h.0))
    value_runs (node.Cast k t) ks h =
        then (scope_of p r) (value_code t) (instr.Cast k ∷ []) ks (node_kind_of t ∷ ks) _ (value_runs t ks h.1)
        (ap (λ b. option_and_then (runs (scope_of p r) []) (only_if b (k ∷ ks))) h.0)
    value_runs (node.Unary op t) ks h =
        then (scope_of p r) (value_code t) (instr.Unary op ∷ []) ks (node_kind_of t ∷ ks) _
        (value_runs t ks h.1) (ap (λ q.
        option_and_then (runs (scope_of p r) []) (only_if (same_kind kind.Int q) (kind.Int ∷ ks))) h.0)
    value_runs (node.Binary op k a b) ks h =
        then (scope_of p r) (value_code b) (value_code a ++ instr.Binary op ∷ []) ks (node_kind_of b ∷ ks) _
        (value_runs b ks h.2)
        (then (scope_of p r) (value_code a) (instr.Binary op ∷ []) (node_kind_of b ∷ ks)
        (node_kind_of a ∷ node_kind_of b ∷ ks) _ (value_runs a (node_kind_of b ∷ ks) h.1)
        (ap (λ o. option_and_then (runs (scope_of p r) []) (option_map (λ k. k ∷ ks) o)) h.0))
    value_runs (node.Assign place k t) ks h =
        then (scope_of p r) (value_code t) (store place ∷ []) ks (node_kind_of t ∷ ks) _ (value_runs t ks h.2)
        (ap (λ q. runs (scope_of p r) (store place ∷ []) (q ∷ ks)) h.1 ∙ store_runs place k [] ks h.0)
    value_runs (node.StepBehind place op) ks h =
        let c : List Instr = instr.Drop ∷ [] in
        let b : List Instr = store place ∷ c in
        let a : List Instr = instr.Binary (step_operator op) ∷ b in
        load_runs place kind.Int (instr.Int (pos 1) ∷ load place ∷ a) ks h
        ∙ load_runs place kind.Int a (kind.Int ∷ kind.Int ∷ ks) h
        ∙ step_runs (scope_of p r) op b (kind.Int ∷ ks) ∙ store_runs place kind.Int c (kind.Int ∷ ks) h

    values_run : (ts : Nodes) (ks : List Kind) → AreKindedNodes (tree.scope_of p r) ts
        → runs (scope_of p r) (values_code ts) ks ≡ Some (stack_of ts ++ ks)
    values_run NoNode ks h = refl
    values_run (AndNode ts t) ks h =
        then (scope_of p r) (values_code ts) (value_code t) ks (stack_of ts ++ ks) _ (values_run ts ks h.0)
        (value_runs t (stack_of ts ++ ks) h.1)

  pub effect_runs : (x : Effect) → IsKindedEffect (tree.scope_of p r) x
      → runs (scope_of p r) (effect_code x) [] ≡ Some []
  effect_runs (effect.Value t) h = then (scope_of p r) (value_code t) (instr.Drop ∷ []) [] (node_kind_of t ∷ [])
      _ (value_runs t [] h) refl
  effect_runs (effect.Call callee line ts) h =
      then (scope_of p r) (values_code ts) (call_code callee line) [] (stack_of ts ++ []) _
      (values_run ts [] h.1) (call_runs callee line ts None [] h.0 (λ e. refl))

  pub effects_run : (xs : List Effect) → All (IsKindedEffect (tree.scope_of p r)) xs
      → runs (scope_of p r) (effects_code xs) [] ≡ Some []
  effects_run [] h = refl
  effects_run (x ∷ xs) h =
      then (scope_of p r) (effect_code x) (effects_code xs) [] [] _
      (effect_runs x (All-head (IsKindedEffect (tree.scope_of p r)) x xs h))
      (effects_run xs (All-tail (IsKindedEffect (tree.scope_of p r)) x xs h))

  mutual
    -- the code of a statement leaves no operand
    pub action_runs : (a : Action) (places : List LabelPlace) (pc : ℕ) → IsKindedAction (tree.scope_of p r) a
        → runs (scope_of p r) (action_code a places pc) [] ≡ Some []
    action_runs (action.Block xs) places pc h = actions_run xs (places_in xs pc ++ places) pc h
    action_runs (action.Effect x) places pc h = effect_runs x h
    action_runs (action.Declare slot t) places pc h =
        then (scope_of p r) (value_code t) (instr.Set slot ∷ []) [] (node_kind_of t ∷ []) _ (value_runs t [] h.1)
        (ap (λ o. option_and_then (runs (scope_of p r) [])
        (with_kind o (λ q. only_if (same_kind q (node_kind_of t)) []))) h.0
        ∙ ap (λ b. option_and_then (runs (scope_of p r) []) (only_if b [])) (same_self (node_kind_of t)))
    action_runs (action.Label label) places pc h = refl
    action_runs (action.If t a) places pc h =
        then (scope_of p r) (value_code t) _ [] (node_kind_of t ∷ []) _ (value_runs t [] h.0)
        (action_runs a places _ h.1)
    action_runs (action.IfElse t a b) places pc h =
        let q = pc + length (value_code t) + 1 in
        then (scope_of p r) (value_code t) _ [] (node_kind_of t ∷ []) _ (value_runs t [] h.0)
        (then (scope_of p r) (action_code a places q) _ [] [] _ (action_runs a places q h.1)
        (action_runs b places _ h.2))
    action_runs (action.Loop line t xs a) places pc h =
        let q = pc + length (value_code t) + 1 in
        then (scope_of p r) (value_code t) _ [] (node_kind_of t ∷ []) _ (value_runs t [] h.0)
        (then (scope_of p r) (action_code a places q) _ [] [] _ (action_runs a places q h.2)
        (then (scope_of p r) (effects_code xs) _ [] [] _ (effects_run xs h.1) refl))
    action_runs (action.Do line a t) places pc h =
        then (scope_of p r) (action_code a places pc) _ [] [] _ (action_runs a places pc h.0)
        (then (scope_of p r) (value_code t) _ [] (node_kind_of t ∷ []) _ (value_runs t [] h.1) refl)
    action_runs (action.Jump line label) places pc h = refl
    action_runs action.Return places pc h =
        ap (λ o. option_and_then (runs (scope_of p r) []) (only_if (is_none o) [])) h
    action_runs (action.ReturnValue t) places pc h =
        then (scope_of p r) (value_code t) (instr.ReturnValue ∷ []) [] (node_kind_of t ∷ []) _ (value_runs t [] h.1)
        (ap (λ o. option_and_then (runs (scope_of p r) [])
        (with_kind o (λ q. only_if (same_kind q (node_kind_of t)) []))) h.0
        ∙ ap (λ b. option_and_then (runs (scope_of p r) []) (only_if b [])) (same_self (node_kind_of t)))
    action_runs (action.State n) places pc h =
        let less : nat_lt n (length p.states) ≡ true = grind (arith, nat_tests) in
        ap (λ b. option_and_then (runs (scope_of p r) []) (only_if b [])) less

    pub actions_run : (xs : Actions) (places : List LabelPlace) (pc : ℕ)
        → AreKindedActions (tree.scope_of p r) xs → runs (scope_of p r) (actions_code xs places pc) [] ≡ Some []
    actions_run NoAction places pc h = refl
    actions_run (AndAction xs a) places pc h =
        then (scope_of p r) (actions_code xs places pc) (action_code a places (pc + sizes xs)) [] [] _
        (actions_run xs places pc h.0) (action_runs a places (pc + sizes xs) h.1)
