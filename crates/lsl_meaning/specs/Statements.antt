-- What a statement does. Conditions, dropped values, declarations and jumps test no charge of their own.
use Rattle.std.specs.Prelude.{ℕ, nat_eq, Bool, List, [], ◌∷◌, reverse, Option, Some, None, cond}
use Rattle.std.specs.List.{list_any}
use Rattle.lsl_value.specs.Values.{truth_of}
use Rattle.lsl_value.specs.declared.tagged.Value.{Value}
use Rattle.lsl_tree.specs.declared.program_node.Place.TheVariants.{Slot}
use Rattle.lsl_tree.specs.Effects as effect
use Rattle.lsl_tree.specs.Actions.{Action, Actions, Block, Effect, Declare, Label, If, IfElse, Loop, Do, Jump, Return, ReturnValue, State as GoToState, NoAction, AndAction}
use Rattle.lsl_tree.specs.Program.{Routine}
use Rattle.lsl_tree.specs.Shape.{labels_in}
use Rattle.lsl_running.specs.declared.ends.Outcome.TheVariants.{StateTo}
use Rattle.lsl_running.specs.Results.{Ends, Lost}
use Rattle.lsl_meaning.specs.State.{State, Site, Evaluation, Gives, Stops, bind, Flow, Normal, Returned, Jumped, tick}
use Rattle.lsl_meaning.specs.Calls.{Lower, call}
use Rattle.lsl_meaning.specs.Expressions.{storing, value_of, values_of}

-- a statement that ended normally is followed by what is done next
abbrev pub on_normal : (State → Evaluation Flow) → Flow → State → Evaluation Flow
on_normal next Normal s = next s
on_normal next (Returned result) s = Gives (Returned result) s
on_normal next (Jumped label) s = Gives (Jumped label) s

abbrev pub has_label : List ℕ → ℕ → Bool
has_label labels label = list_any (nat_eq label) labels

-- the result of a call in a place that needs no value
abbrev pub no_result : Option Value → State → Evaluation (Unit {0})
no_result None s = Gives tt s
no_result (Some v) s = Stops Lost

-- with these routines in the script
module _ (routines : List Routine) (low : Lower) where
  abbrev pub perform : effect.Effect → Site → State → Evaluation (Unit {0})
  perform (effect.Value node) site s = bind (value_of routines low node site s) (λ v t. Gives tt t)
  perform (effect.Call callee line arguments) site s =
      bind (values_of routines low arguments site s) (λ vs t.
      bind (call routines low callee line (reverse vs) site t) no_result)

  abbrev pub perform_all : List effect.Effect → Site → State → Evaluation (Unit {0})
  perform_all [] site s = Gives tt s
  perform_all (x ∷ xs) site s = bind (perform x site s) (λ _ t. perform_all xs site t)

  -- a jump out of a block's statements continues in the block, after the label, if it is directly in it
  abbrev pub caught : Actions → Site → Flow → State → Evaluation Flow
  caught xs site Normal s = Gives Normal s
  caught xs site (Returned result) s = Gives (Returned result) s
  caught xs site (Jumped label) s =
      cond (has_label (labels_in xs) label) (low (Block xs) (Some label) site s) (Gives (Jumped label) s)

  abbrev mutual
    -- a block may begin after a label directly in it
    pub execute : Action → Option ℕ → Site → State → Evaluation Flow
    execute (Block xs) from site s = bind (execute_all xs from site s) (caught xs site)
    execute (Effect x) from site s = bind (perform x site s) (λ _ t. Gives Normal t)
    execute (Declare slot node) from site s =
        bind (value_of routines low node site s) (λ v t. Gives Normal (storing (Slot slot) v t))
    execute (Label label) from site s = Gives Normal s
    execute (If test a) from site s =
        bind (value_of routines low test site s) (λ v t. cond (truth_of v) (execute a None site t) (Gives Normal t))
    execute (IfElse test a b) from site s =
        bind (value_of routines low test site s) (λ v t.
        cond (truth_of v) (execute a None site t) (execute b None site t))
    execute (Loop line test steps a) from site s =
        bind (value_of routines low test site s) (λ v t. cond (truth_of v)
        (bind (execute a None site t) (on_normal (λ u.
        bind (perform_all steps site u) (λ _ w.
        tick w.ticks line site w (low (Loop line test steps a) None site)))))
        (Gives Normal t))
    execute (Do line a test) from site s =
        bind (execute a None site s) (on_normal (λ t.
        bind (value_of routines low test site t) (λ v u.
        cond (truth_of v) (tick u.ticks line site u (low (Do line a test) None site)) (Gives Normal u))))
    execute (Jump line label) from site s = tick s.ticks line site s (Gives (Jumped label))
    execute Return from site s = Gives (Returned None) s
    execute (ReturnValue node) from site s =
        bind (value_of routines low node site s) (λ v t. Gives (Returned (Some v)) t)
    execute (GoToState n) from site s = Stops (Ends (StateTo n) s.kept)

    -- the statements of a block, from the first one or from after a label
    pub execute_all : Actions → Option ℕ → Site → State → Evaluation Flow
    execute_all NoAction from site s = Gives Normal s
    execute_all (AndAction xs a) None site s =
        bind (execute_all xs None site s) (on_normal (execute a None site))
    execute_all (AndAction xs a) (Some label) site s =
        cond (has_label (labels_in xs) label)
        (bind (execute_all xs (Some label) site s) (on_normal (execute a None site)))
        (Gives Normal s)
