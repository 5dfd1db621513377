-- Calls and expressions with more ticks and more answers.
use Rattle.std.proofs.Common.{ℕ, pos, ◌-◌, get_or, inl, inr, ⊎_elim, List, [], ◌∷◌, ◌++◌, Option, Some, None, refl, ap, reverse, slice_get}
use Rattle.lsl_value.specs.declared.names.BuiltinId.{BuiltinId}
use Rattle.lsl_value.specs.declared.tagged.Kind.{Kind}
use Rattle.lsl_value.specs.declared.tagged.Value.{Value}
use Rattle.lsl_value.specs.declared.tagged.Value.TheVariants as value
use Rattle.lsl_table.specs.Constants.{constant_value_of}
use Rattle.lsl_ops.specs.Operations.{cast_of, integer_of}
use Rattle.lsl_pure.specs.Pure.{pure_of}
use Rattle.lsl_tree.specs.declared.expression.StepOp.{StepOp}
use Rattle.lsl_tree.specs.declared.program_node.Callee.{Callee}
use Rattle.lsl_tree.specs.declared.program_node.Callee.TheVariants.{Function, Builtin}
use Rattle.lsl_tree.specs.declared.program_node.Place.{Place}
use Rattle.lsl_tree.specs.declared.program_node.Place.TheVariants.{Global, Slot}
use Rattle.lsl_tree.specs.Actions.{Action, Block}
use Rattle.lsl_tree.specs.Nodes.{Node, Nodes, Int, Str, Constant, Variable, Call, ListLiteral, Cast, Unary, Binary, Assign, StepBehind, NoNode, AndNode}
use Rattle.lsl_tree.specs.Program.{Routine}
use Rattle.lsl_running.specs.declared.ends.Fault.TheVariants.{StackHeap}
use Rattle.lsl_running.specs.declared.host.Reply.{Reply}
use Rattle.lsl_running.specs.declared.host.Reply.TheVariants as reply
use Rattle.lsl_running.specs.Calling.{CallForm, Pure, UsedMemory, FreeMemory, SetLimit, GetLimit, Asked, AskedAndWaits, Resets, call_form, is_answered_by}
use Rattle.lsl_running.specs.Charging.{used, is_within}
use Rattle.lsl_running.specs.Limits.{granted, grant_value, with_limit}
use Rattle.lsl_running.specs.Results.{Fails, Lost}
use Rattle.lsl_running.specs.Values.{absent, unary_value, binary_value, list_value}
use Rattle.lsl_meaning.specs.State.{State, Site, holding, holding_all, within_call, Gives, Stops, bind, Flow, Normal, Returned, Jumped, give}
use Rattle.lsl_meaning.specs.Calls.{Lower, first_slots, result_at_end, result_behind, run_routine, enter, reply_given, ask, call_builtin, call}
use Rattle.lsl_meaning.specs.Expressions.{value_at, storing, assign, give_operation, step_operator, assign_step, step_behind, needed, value_of, values_of}
use Rattle.lsl_meaning.proofs.More.{Surplus, more, Extends, bind_more, cond_more, give_more, give_result_more, tick_more}

-- what comes after a tick, with fewer and with more ticks
abbrev pub LowerExtends : Surplus → Lower → Lower → Type 0
LowerExtends x low low' =
    (a : Action) (from : Option ℕ) (site : Site) (s : State)
    → Extends x (low a from site s) (low' a from site (more x s))

module _ (x : Surplus) where
  reply_more : (answer : Reply) (site : Site) (s : State)
      → Extends x (reply_given answer site s) (reply_given answer site (more x s))
  reply_more (reply.Value result) site s = give_result_more x result site s
  reply_more (reply.Stop fault) site s = inr refl

  ask_more : (id : BuiltinId) (args : List Value) (site : Site) (answers : List Reply) (s : State)
      → Extends x (ask id args site answers s) (ask id args site (answers ++ x.answers) (more x s))
  ask_more id args site [] s =
      ⊎_elim (λ l. inl l) (λ e. inr (ap (λ answers. ask id args site answers (more x s)) e)) (x.asks id args)
  ask_more id args site (answer ∷ rest) s =
      let behind : State = record s { answers = rest } in
      cond_more x (is_answered_by id answer) (reply_given answer site behind) _ (Stops Lost) (Stops Lost)
      (reply_more answer site behind) (inr refl)

  builtin_more : (form : CallForm) (id : BuiltinId) (line : ℕ) (args : List Value) (site : Site) (s : State)
      → Extends x (call_builtin form id line args site s) (call_builtin form id line args site (more x s))
  builtin_more Pure id line args site s = give_result_more x (Some (pure_of id args)) site s
  builtin_more UsedMemory id line args site s =
      give_result_more x (Some (value.Int (pos (used site.held s.slots s.kept)))) site s
  builtin_more FreeMemory id line args site s =
      give_result_more x (Some (value.Int (pos (s.kept.limit - used site.held s.slots s.kept)))) site s
  builtin_more SetLimit id line args site s =
      let limit = granted (integer_of (get_or args 0 absent)) (used site.held s.slots s.kept) in
      give_result_more x (Some (grant_value limit)) site (record s { kept = with_limit limit s.kept })
  builtin_more GetLimit id line args site s = give_result_more x (Some (value.Int (pos s.kept.limit))) site s
  builtin_more Asked id line args site s = ask_more id args site s.answers s
  builtin_more AskedAndWaits id line args site s =
      bind_more x (ask id args site s.answers s) _ _ _
      (ask_more id args site s.answers s)
      (λ result t. tick_more x t.ticks line site t (Gives result) (Gives result) (λ u. refl))
  builtin_more Resets id line args site s = inr refl

  operation_more : (v : Option Value) (site : Site) (s : State)
      → Extends x (give_operation v site s) (give_operation v site (more x s))
  operation_more None site s = inr refl
  operation_more (Some v) site s = give_more x v site s

  read_more : (place : Place) (site : Site) (s : State)
      → Extends x (give (value_at place s) site s) (give (value_at place (more x s)) site (more x s))
  read_more (Slot i) site s = give_more x (value_at (Slot i) s) site s
  read_more (Global i) site s = give_more x (value_at (Global i) s) site s

  assign_more : (place : Place) (v : Value) (site : Site) (s : State)
      → Extends x (assign place v site s) (assign place v site (more x s))
  assign_more (Slot i) v site s = give_more x v site (storing (Slot i) v s)
  assign_more (Global i) v site s = give_more x v site (storing (Global i) v s)

  assign_step_more : (place : Place) (op : StepOp) (site : Site) (s : State)
      → Extends x (assign_step place op site s) (assign_step place op site (more x s))
  assign_step_more place op site s =
      bind_more x (give (value.Int (pos 1)) site s) _ _ _
      (give_more x (value.Int (pos 1)) site s)
      (λ one t. bind_more x (give (value_at place t) (holding site one) t) _ _ _
      (read_more place (holding site one) t)
      (λ v u. bind_more x (give_operation (binary_value (step_operator op) v one) site u) _ _ _
      (operation_more (binary_value (step_operator op) v one) site u)
      (λ stepped w. assign_more place stepped site w)))

  step_behind_more : (place : Place) (op : StepOp) (site : Site) (s : State)
      → Extends x (step_behind place op site s) (step_behind place op site (more x s))
  step_behind_more place op site s =
      bind_more x (give (value_at place s) site s) _ _ _ (read_more place site s)
      (λ old t. bind_more x (assign_step place op (holding site old) t) _ _ _
      (assign_step_more place op (holding site old) t)
      (λ stepped u. give_more x old site u))

  needed_more : (result : Option Value) (s : State) → Extends x (needed result s) (needed result (more x s))
  needed_more None s = inr refl
  needed_more (Some v) s = refl

  end_more : (kind : Option Kind) (s : State) → Extends x (result_at_end kind s) (result_at_end kind (more x s))
  end_more None s = refl
  end_more (Some kind) s = inr refl

  result_more : (kind : Option Kind) (flow : Flow) (s : State)
      → Extends x (result_behind kind flow s) (result_behind kind flow (more x s))
  result_more kind Normal s = end_more kind s
  result_more kind (Returned result) s = refl
  result_more kind (Jumped label) s = inr refl

  module _ (low low' : Lower) (lower : LowerExtends x low low') where
    pub run_more : (r : Routine) (site : Site) (s : State)
        → Extends x (run_routine low r site s) (run_routine low' r site (more x s))
    run_more r site s =
        cond_more x (is_within s.kept (used site.held s.slots s.kept)) _ _
        (Stops (Fails StackHeap)) (Stops (Fails StackHeap))
        (tick_more x s.ticks r.line site s
        (λ t. bind (low (Block r.body) None site t) (result_behind r.kind))
        (λ t. bind (low' (Block r.body) None site t) (result_behind r.kind))
        (λ t. bind_more x (low (Block r.body) None site t) _ (result_behind r.kind) (result_behind r.kind)
        (lower (Block r.body) None site t) (result_more r.kind)))
        (inr refl)

    enter_more : (o : Option Routine) (number line : ℕ) (args : List Value) (site : Site) (s : State)
        → Extends x (enter low o number line args site s) (enter low' o number line args site (more x s))
    enter_more None number line args site s = inr refl
    enter_more (Some r) number line args site s =
        let inner : State = record s { slots = first_slots r args } in
        bind_more x (run_routine low r (within_call number line site s.slots) inner) _ _ _
        (run_more r (within_call number line site s.slots) inner)
        (λ result t. give_result_more x result site (record t { slots = s.slots }))

    pub call_more : (routines : List Routine) (callee : Callee) (line : ℕ) (args : List Value) (site : Site) (s : State)
        → Extends x (call routines low callee line args site s) (call routines low' callee line args site (more x s))
    call_more routines (Function number) line args site s =
        enter_more (slice_get routines number) number line args site s
    call_more routines (Builtin id) line args site s = builtin_more (call_form id) id line args site s

    module _ (routines : List Routine) where
      mutual
        pub value_more : (node : Node) (site : Site) (s : State)
            → Extends x (value_of routines low node site s) (value_of routines low' node site (more x s))
        value_more (Int n) site s = give_more x (value.Int n) site s
        value_more (Str text) site s = give_more x (value.Str text) site s
        value_more (Constant id kind) site s = give_more x (constant_value_of id) site s
        value_more (Variable place kind) site s = read_more place site s
        value_more (Call callee kind line args) site s =
            bind_more x (values_of routines low args site s) _ _ _
            (values_more args site s)
            (λ vs t. bind_more x (call routines low callee line (reverse vs) site t) _ needed needed
            (call_more routines callee line (reverse vs) site t) needed_more)
        value_more (ListLiteral nodes) site s =
            bind_more x (values_of routines low nodes site s) _ _ _
            (values_more nodes site s) (λ vs t. give_more x (list_value (reverse vs)) site t)
        value_more (Cast kind node) site s =
            bind_more x (value_of routines low node site s) _ _ _
            (value_more node site s) (λ v t. give_more x (cast_of v kind) site t)
        value_more (Unary op node) site s =
            bind_more x (value_of routines low node site s) _ _ _
            (value_more node site s) (λ v t. give_more x (unary_value op v) site t)
        value_more (Binary op kind left right) site s =
            bind_more x (value_of routines low right site s) _ _ _
            (value_more right site s)
            (λ w t. bind_more x (value_of routines low left (holding site w) t) _ _ _
            (value_more left (holding site w) t) (λ v u. operation_more (binary_value op v w) site u))
        value_more (Assign place kind node) site s =
            bind_more x (value_of routines low node site s) _ _ _
            (value_more node site s) (λ v t. assign_more place v site t)
        value_more (StepBehind place op) site s = step_behind_more place op site s

        pub values_more : (nodes : Nodes) (site : Site) (s : State)
            → Extends x (values_of routines low nodes site s) (values_of routines low' nodes site (more x s))
        values_more NoNode site s = refl
        values_more (AndNode nodes node) site s =
            bind_more x (values_of routines low nodes site s) _ _ _
            (values_more nodes site s)
            (λ vs t. bind_more x (value_of routines low node (holding_all site vs) t) _ _ _
            (value_more node (holding_all site vs) t) (λ v u. refl))
