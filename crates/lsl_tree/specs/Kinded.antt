-- What every checked program keeps of the kinds: each name is there, and each value has the kind that its place wants.
use Rattle.std.specs.Prelude.{◌≡◌, ◌≢◌, ℕ, ◌<◌, List, [], Option, Some, None, true, length, reverse, take, slice_get, All}
use Rattle.std.specs.List.{AllPairs}
use Rattle.lsl_value.specs.OperatorRows.{result_kind_of, casts_of}
use Rattle.lsl_value.specs.Values.{kind_of}
use Rattle.lsl_value.specs.declared.tagged.Kind.{Kind}
use Rattle.lsl_value.specs.declared.tagged.Kind.TheVariants as kind
use Rattle.lsl_table.specs.Constants.{constant_value_of}
use Rattle.lsl_table.specs.Events.{signature_of}
use Rattle.lsl_tree.specs.declared.program_node.Callee.{Callee}
use Rattle.lsl_tree.specs.declared.program_node.Place.{Place}
use Rattle.lsl_tree.specs.declared.program_node.Place.TheVariants.{Global, Slot}
use Rattle.lsl_tree.specs.Nodes as node
use Rattle.lsl_tree.specs.Nodes.{Node, Nodes, NoNode, AndNode, node_kind_of, stack_of}
use Rattle.lsl_tree.specs.Effects as effect
use Rattle.lsl_tree.specs.Effects.{Effect}
use Rattle.lsl_tree.specs.Actions as action
use Rattle.lsl_tree.specs.Actions.{Action, Actions, NoAction, AndAction}
use Rattle.lsl_tree.specs.Program.{Routine, EventRoutine, ProgramState, Program}
use Rattle.lsl_tree.specs.Signatures.{Signature, callee_signature, function_signatures, routines_of, handlers_of}
use Rattle.lsl_tree.specs.Initials.{AreKindedInitials, global_kinds}

-- what a routine can name, and the kind that it gives
pub record Scope : Type 0 where
  pub globals : List Kind
  pub functions : List Signature
  pub states : ℕ
  pub slots : List Kind
  pub result : Option Kind

abbrev pub place_kind : Scope → Place → Option Kind
place_kind s (Global i) = slice_get s.globals i
place_kind s (Slot i) = slice_get s.slots i

-- a list's elements aren't lists
abbrev pub IsElement : Kind → Type 0
IsElement k = k ≢ kind.List

module _ (s : Scope) where
  -- what is called has parameters of the arguments' kinds, and this result
  abbrev pub FitsCall : Callee → Nodes → Option Kind → Type 0
  FitsCall c ts result =
      (g : Signature) × (callee_signature s.functions c ≡ Some g) × (reverse g.params ≡ stack_of ts)
      × (g.result ≡ result)

  abbrev mutual
    pub IsKindedNode : Node → Type 0
    IsKindedNode (node.Int n) = Unit {0}
    IsKindedNode (node.Str t) = Unit {0}
    IsKindedNode (node.Constant i k) = kind_of (constant_value_of i) ≡ k
    IsKindedNode (node.Variable p k) = place_kind s p ≡ Some k
    IsKindedNode (node.Call c k l ts) = FitsCall c ts (Some k) × AreKindedNodes ts
    IsKindedNode (node.ListLiteral ts) = All IsElement (stack_of ts) × AreKindedNodes ts
    IsKindedNode (node.Cast k t) = (casts_of (node_kind_of t) k ≡ true) × IsKindedNode t
    IsKindedNode (node.Unary op t) = (node_kind_of t ≡ kind.Int) × IsKindedNode t
    IsKindedNode (node.Binary op k a b) =
        (result_kind_of op (node_kind_of a) (node_kind_of b) ≡ Some k) × IsKindedNode a × IsKindedNode b
    IsKindedNode (node.Assign p k t) = (place_kind s p ≡ Some k) × (node_kind_of t ≡ k) × IsKindedNode t
    IsKindedNode (node.StepBehind p op) = place_kind s p ≡ Some kind.Int

    pub AreKindedNodes : Nodes → Type 0
    AreKindedNodes NoNode = Unit {0}
    AreKindedNodes (AndNode ts t) = AreKindedNodes ts × IsKindedNode t

  abbrev pub IsKindedEffect : Effect → Type 0
  IsKindedEffect (effect.Value t) = IsKindedNode t
  IsKindedEffect (effect.Call c l ts) = FitsCall c ts None × AreKindedNodes ts

  abbrev mutual
    pub IsKindedAction : Action → Type 0
    IsKindedAction (action.Block xs) = AreKindedActions xs
    IsKindedAction (action.Effect x) = IsKindedEffect x
    IsKindedAction (action.Declare i t) = (slice_get s.slots i ≡ Some (node_kind_of t)) × IsKindedNode t
    IsKindedAction (action.Label n) = Unit {0}
    IsKindedAction (action.If t a) = IsKindedNode t × IsKindedAction a
    IsKindedAction (action.IfElse t a b) = IsKindedNode t × IsKindedAction a × IsKindedAction b
    IsKindedAction (action.Loop l t xs a) = IsKindedNode t × All IsKindedEffect xs × IsKindedAction a
    IsKindedAction (action.Do l a t) = IsKindedAction a × IsKindedNode t
    IsKindedAction (action.Jump l n) = Unit {0}
    IsKindedAction action.Return = s.result ≡ None
    IsKindedAction (action.ReturnValue t) = (s.result ≡ Some (node_kind_of t)) × IsKindedNode t
    IsKindedAction (action.State n) = n < s.states

    pub AreKindedActions : Actions → Type 0
    AreKindedActions NoAction = Unit {0}
    AreKindedActions (AndAction xs a) = AreKindedActions xs × IsKindedAction a

-- what is in scope in a routine of the program
abbrev pub scope_of : Program → Routine → Scope
scope_of p r = record {
  globals = global_kinds p;
  functions = function_signatures p;
  states =
      length p.states;
  slots = r.slots;
  result = r.kind;
}

abbrev pub IsKindedRoutine : Program → Routine → Type 0
IsKindedRoutine p r = AreKindedActions (scope_of p r) r.body

-- a handler has the parameters of its event, and gives no value
pub record IsHandler (h : EventRoutine) : Type 0 where
  pub params : take h.routine.params h.routine.slots ≡ signature_of h.event
  pub result : h.routine.kind ≡ None

-- a state has an event once at most
abbrev pub EventsDiffer : ProgramState → Type 0
EventsDiffer s = AllPairs (λ a b. a.event ≢ b.event) s.handlers

pub record IsKinded (p : Program) : Type 0 where
  pub globals : AreKindedInitials [] p.globals
  pub routines : All (IsKindedRoutine p) (routines_of p)
  pub handlers : All IsHandler (handlers_of p.states)
  pub events : All EventsDiffer p.states
