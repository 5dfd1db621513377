-- What every checked program keeps beside the kinds: counts of arguments, results where they are needed, labels
-- in scope.
use Rattle.std.specs.Prelude.{◌≡◌, ◌≢◌, ℕ, ◌+◌, ◌<◌, ◌≤◌, Bool, true, false, Some, None, is_some, List, [], ◌∷◌, ◌++◌, length, Contains, All}
use Rattle.std.specs.List.{AllPairs}
use Rattle.lsl_tree.specs.declared.program_node.Callee.{Callee}
use Rattle.lsl_tree.specs.Nodes as node
use Rattle.lsl_tree.specs.Nodes.{Node, Nodes, NoNode, AndNode}
use Rattle.lsl_tree.specs.Effects as effect
use Rattle.lsl_tree.specs.Effects.{Effect}
use Rattle.lsl_tree.specs.Actions as action
use Rattle.lsl_tree.specs.Actions.{Action, Actions, NoAction, AndAction}
use Rattle.lsl_tree.specs.Program.{Routine, Program}
use Rattle.lsl_tree.specs.Signatures.{Signature, callee_signature, function_signatures, routines_of, handlers_of}

abbrev pub argument_count : Nodes → ℕ
argument_count NoNode = 0
argument_count (AndNode ts t) = argument_count ts + 1

abbrev pub label_of : Action → List ℕ → List ℕ
label_of (action.Label n) more = n ∷ more
label_of a more = more

-- the labels directly in a block
abbrev pub labels_in : Actions → List ℕ
labels_in NoAction = []
labels_in (AndAction actions a) = label_of a (labels_in actions)

-- no number occurs twice
abbrev pub Differ : List ℕ → Type 0
Differ = AllPairs (λ a b. a ≢ b)

-- what a routine's body can name, and whether the routine gives a value
pub record Outline : Type 0 where
  pub functions : List Signature
  pub states : ℕ
  pub gives : Bool

module _ (o : Outline) where
  -- a function or built-in call with this many parameters, which gives a value or gives none
  abbrev pub FitsCallee : Callee → ℕ → Bool → Type 0
  FitsCallee c count gives =
      (g : Signature) × (callee_signature o.functions c ≡ Some g) × (length g.params ≡ count)
      × (is_some g.result ≡ gives)

  abbrev mutual
    pub IsShapedNode : Node → Type 0
    IsShapedNode (node.Int n) = Unit {0}
    IsShapedNode (node.Str t) = Unit {0}
    IsShapedNode (node.Constant i k) = Unit {0}
    IsShapedNode (node.Variable p k) = Unit {0}
    IsShapedNode (node.Call c k l ts) = FitsCallee c (argument_count ts) true × AreShapedNodes ts
    IsShapedNode (node.ListLiteral ts) = AreShapedNodes ts
    IsShapedNode (node.Cast k t) = IsShapedNode t
    IsShapedNode (node.Unary op t) = IsShapedNode t
    IsShapedNode (node.Binary op k a b) = IsShapedNode a × IsShapedNode b
    IsShapedNode (node.Assign p k t) = IsShapedNode t
    IsShapedNode (node.StepBehind p op) = Unit {0}

    pub AreShapedNodes : Nodes → Type 0
    AreShapedNodes NoNode = Unit {0}
    AreShapedNodes (AndNode ts t) = AreShapedNodes ts × IsShapedNode t

  abbrev pub IsShapedEffect : Effect → Type 0
  IsShapedEffect (effect.Value t) = IsShapedNode t
  IsShapedEffect (effect.Call c l ts) = FitsCallee c (argument_count ts) false × AreShapedNodes ts

  -- a statement in blocks with these labels
  abbrev mutual
    pub IsShapedAction : List ℕ → Action → Type 0
    IsShapedAction labels (action.Block xs) =
        Differ (labels_in xs ++ labels) × AreShapedActions (labels_in xs ++ labels) xs
    IsShapedAction labels (action.Effect x) = IsShapedEffect x
    IsShapedAction labels (action.Declare s t) = IsShapedNode t
    IsShapedAction labels (action.Label n) = Unit {0}
    IsShapedAction labels (action.If t a) = IsShapedNode t × IsShapedAction labels a
    IsShapedAction labels (action.IfElse t a b) = IsShapedNode t × IsShapedAction labels a × IsShapedAction labels b
    IsShapedAction labels (action.Loop l t xs a) = IsShapedNode t × All IsShapedEffect xs × IsShapedAction labels a
    IsShapedAction labels (action.Do l a t) = IsShapedAction labels a × IsShapedNode t
    IsShapedAction labels (action.Jump l n) = Contains labels n
    IsShapedAction labels action.Return = o.gives ≡ false
    IsShapedAction labels (action.ReturnValue t) = (o.gives ≡ true) × IsShapedNode t
    IsShapedAction labels (action.State n) = n < o.states

    pub AreShapedActions : List ℕ → Actions → Type 0
    AreShapedActions labels NoAction = Unit {0}
    AreShapedActions labels (AndAction xs a) = AreShapedActions labels xs × IsShapedAction labels a

-- the last statement returns a value
abbrev pub ends_with_value : Actions → Bool
ends_with_value (AndAction xs (action.ReturnValue t)) = true
ends_with_value xs = false

-- a routine's body is one block, and if the routine gives a value, so does the body's end
pub record IsShapedRoutine (functions : List Signature) (states : ℕ) (r : Routine) : Type 0 where
  pub body : IsShapedAction (record { functions = functions; states = states; gives = is_some r.kind }) []
      (action.Block r.body)
  pub ending : is_some r.kind ≡ true → ends_with_value r.body ≡ true
  pub params : r.params ≤ length r.slots

-- each routine of the program keeps to it, no handler gives a value, and there is a state
pub record IsShaped (p : Program) : Type 0 where
  pub routines : All (IsShapedRoutine (function_signatures p) (length p.states)) (routines_of p)
  pub handlers : All (λ h. h.routine.kind ≡ None) (handlers_of p.states)
  pub states : 1 ≤ length p.states
