-- Checked statements without where they lie in memory, under the names that the code has.
use Rattle.std.specs.Prelude.{ℕ, List, [], ◌∷◌, map}
use Rattle.lsl_tree.specs.declared.program_action.Action as declared
use Rattle.lsl_tree.specs.declared.program_action.Action.TheVariants as form
use Rattle.lsl_tree.specs.Effects as effect
use Rattle.lsl_tree.specs.Nodes.{Node, node_of}

mutual
  pub data Action : Type 0 where
    Block : Actions → Action
    Effect : effect.Effect → Action
    Declare : ℕ → Node → Action
    Label : ℕ → Action
    If : Node → Action → Action
    IfElse : Node → Action → Action → Action
    Loop : ℕ → Node → List effect.Effect → Action → Action
    Do : ℕ → Action → Node → Action
    Jump : ℕ → ℕ → Action
    Return : Action
    ReturnValue : Node → Action
    State : ℕ → Action

  -- from the last to the first
  pub data Actions : Type 0 where
    NoAction : Actions
    AndAction : Actions → Action → Actions

abbrev mutual
  pub action_of : declared.Action → Action
  action_of (declared.Block' m row) = Block (row_actions row NoAction)
  action_of (form.Effect e) = Effect (effect.effect_of e)
  action_of (form.Declare s v) = Declare s (node_of v)
  action_of (form.Label n) = Label n
  action_of (declared.If' t p a) = If (node_of t) (action_of a)
  action_of (declared.IfElse' t p a q b) = IfElse (node_of t) (action_of a) (action_of b)
  action_of (declared.Loop' l t v p a) = Loop l (node_of t) (map effect.effect_of v.items) (action_of a)
  action_of (declared.Do' l p a t) = Do l (action_of a) (node_of t)
  action_of (form.Jump l n) = Jump l n
  action_of form.Return = Return
  action_of (form.ReturnValue v) = ReturnValue (node_of v)
  action_of (form.State n) = State n

  -- these after others
  pub row_actions : {m : _} → declared.Row_of-Action m → Actions → Actions
  row_actions declared.end_of-Action es = es
  row_actions (declared.more_of-Action e rest) es = row_actions rest (AndAction es (action_of e))

abbrev pub actions_behind : List declared.Action → Actions → Actions
actions_behind [] es = es
actions_behind (x ∷ xs) es = actions_behind xs (AndAction es (action_of x))

abbrev pub actions_of : List declared.Action → Actions
actions_of xs = actions_behind xs NoAction
