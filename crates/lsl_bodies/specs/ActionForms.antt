-- Forms of checked statements.
use Rattle.std.specs.Prelude.{Option, Some, None, List, [], ◌∷◌}
use Rattle.lsl_value.specs.declared.tagged.Kind.{Kind}
use Rattle.lsl_tree.specs.Effects.{Effect}
use Rattle.lsl_tree.specs.Actions as action
use Rattle.lsl_tree.specs.Actions.{Action, Actions, NoAction, AndAction}
use Rattle.lsl_bodies.specs.declared.frame.Home.{Home}
use Rattle.lsl_bodies.specs.declared.frame.Home.TheVariants.{Handler, Function}
use Rattle.lsl_bodies.specs.Conversions.{empty_node}

-- the kind of the returned value, if there is one
abbrev pub home_kind : Home → Option Kind
home_kind Handler = None
home_kind (Function kind) = kind

-- these effects after other statements
abbrev pub effects_after : Actions → List Effect → Actions
effects_after acts [] = acts
effects_after acts (x ∷ xs) = effects_after (AndAction acts (action.Effect x)) xs

-- a `for` is a block of its first list and its loop
abbrev pub for_of : List Effect → Action → Action
for_of start loop = action.Block (AndAction (effects_after NoAction start) loop)

-- a function with a kind that runs off its end returns the kind's empty value
abbrev pub ended : Option Kind → Actions → Actions
ended None acts = acts
ended (Some kind) acts = AndAction acts (action.ReturnValue (empty_node kind))
