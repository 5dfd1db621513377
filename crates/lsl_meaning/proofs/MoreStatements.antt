-- Statements with more ticks and more answers.
use Rattle.std.proofs.Common.{ℕ, List, [], ◌∷◌, Option, Some, None, refl, inr, reverse}
use Rattle.lsl_value.specs.Values.{truth_of}
use Rattle.lsl_value.specs.declared.tagged.Value.{Value}
use Rattle.lsl_tree.specs.Effects as effect
use Rattle.lsl_tree.specs.Actions.{Action, Actions, Block, Effect, Declare, Label, If, IfElse, Loop, Do, Jump, Return, ReturnValue, State as GoToState, NoAction, AndAction}
use Rattle.lsl_tree.specs.Program.{Routine}
use Rattle.lsl_tree.specs.Shape.{labels_in}
use Rattle.lsl_meaning.specs.State.{State, Site, Evaluation, Gives, Flow, Normal, Returned, Jumped}
use Rattle.lsl_meaning.specs.Calls.{Lower, call}
use Rattle.lsl_meaning.specs.Expressions.{value_of, values_of}
use Rattle.lsl_meaning.specs.Statements.{on_normal, has_label, no_result, perform, perform_all, caught, execute, execute_all}
use Rattle.lsl_meaning.proofs.More.{Surplus, more, Extends, bind_more, cond_more, tick_more}
use Rattle.lsl_meaning.proofs.MoreExpressions.{LowerExtends, call_more, value_more, values_more}

module _ (x : Surplus) where
  normal_more : (next next' : State → Evaluation Flow) → ((s : State) → Extends x (next s) (next' (more x s)))
      → (flow : Flow) (s : State) → Extends x (on_normal next flow s) (on_normal next' flow (more x s))
  normal_more next next' h Normal s = h s
  normal_more next next' h (Returned result) s = refl
  normal_more next next' h (Jumped label) s = refl

  no_result_more : (result : Option Value) (s : State) → Extends x (no_result result s) (no_result result (more x s))
  no_result_more None s = refl
  no_result_more (Some v) s = inr refl

  module _ (low low' : Lower) (lower : LowerExtends x low low') (routines : List Routine) where
    perform_more : (e : effect.Effect) (site : Site) (s : State)
        → Extends x (perform routines low e site s) (perform routines low' e site (more x s))
    perform_more (effect.Value node) site s =
        bind_more x (value_of routines low node site s) _ _ _
        (value_more x low low' lower routines node site s) (λ v t. refl)
    perform_more (effect.Call callee line args) site s =
        bind_more x (values_of routines low args site s) _ _ _
        (values_more x low low' lower routines args site s)
        (λ vs t. bind_more x (call routines low callee line (reverse vs) site t) _ no_result no_result
        (call_more x low low' lower routines callee line (reverse vs) site t) no_result_more)

    perform_all_more : (es : List effect.Effect) (site : Site) (s : State)
        → Extends x (perform_all routines low es site s) (perform_all routines low' es site (more x s))
    perform_all_more [] site s = refl
    perform_all_more (e ∷ es) site s =
        bind_more x (perform routines low e site s) _ _ _
        (perform_more e site s) (λ _ t. perform_all_more es site t)

    caught_more : (xs : Actions) (site : Site) (flow : Flow) (s : State)
        → Extends x (caught routines low xs site flow s) (caught routines low' xs site flow (more x s))
    caught_more xs site Normal s = refl
    caught_more xs site (Returned result) s = refl
    caught_more xs site (Jumped label) s =
        cond_more x (has_label (labels_in xs) label) _ _ (Gives (Jumped label) s) _
        (lower (Block xs) (Some label) site s) refl

    mutual
      pub execute_more : (a : Action) (from : Option ℕ) (site : Site) (s : State)
          → Extends x (execute routines low a from site s) (execute routines low' a from site (more x s))
      execute_more (Block xs) from site s =
          bind_more x (execute_all routines low xs from site s) _ _ _
          (execute_all_more xs from site s) (caught_more xs site)
      execute_more (Effect e) from site s =
          bind_more x (perform routines low e site s) _ _ _
          (perform_more e site s) (λ _ t. refl)
      execute_more (Declare slot node) from site s =
          bind_more x (value_of routines low node site s) _ _ _
          (value_more x low low' lower routines node site s) (λ v t. refl)
      execute_more (Label label) from site s = refl
      execute_more (If test a) from site s =
          bind_more x (value_of routines low test site s) _ _ _
          (value_more x low low' lower routines test site s)
          (λ v t. cond_more x (truth_of v)
          (execute routines low a None site t) (execute routines low' a None site (more x t))
          (Gives Normal t) (Gives Normal (more x t))
          (execute_more a None site t) refl)
      execute_more (IfElse test a b) from site s =
          bind_more x (value_of routines low test site s) _ _ _
          (value_more x low low' lower routines test site s)
          (λ v t. cond_more x (truth_of v)
          (execute routines low a None site t) (execute routines low' a None site (more x t))
          (execute routines low b None site t) (execute routines low' b None site (more x t))
          (execute_more a None site t) (execute_more b None site t))
      execute_more (Loop line test steps a) from site s =
          bind_more x (value_of routines low test site s) _ _ _
          (value_more x low low' lower routines test site s)
          (λ v t. cond_more x (truth_of v) _ _ (Gives Normal t) (Gives Normal (more x t))
          (bind_more x (execute routines low a None site t) _ _ _
          (execute_more a None site t)
          (normal_more _ _ (λ u. bind_more x (perform_all routines low steps site u) _ _ _
          (perform_all_more steps site u)
          (λ _ w. tick_more x w.ticks line site w
          (low (Loop line test steps a) None site) (low' (Loop line test steps a) None site)
          (lower (Loop line test steps a) None site)))))
          refl)
      execute_more (Do line a test) from site s =
          bind_more x (execute routines low a None site s) _ _ _
          (execute_more a None site s)
          (normal_more _ _ (λ t. bind_more x (value_of routines low test site t) _ _ _
          (value_more x low low' lower routines test site t)
          (λ v u. cond_more x (truth_of v) _ _ (Gives Normal u) (Gives Normal (more x u))
          (tick_more x u.ticks line site u (low (Do line a test) None site) (low' (Do line a test) None site)
          (lower (Do line a test) None site))
          refl)))
      execute_more (Jump line label) from site s =
          tick_more x s.ticks line site s (Gives (Jumped label)) (Gives (Jumped label)) (λ t. refl)
      execute_more Return from site s = refl
      execute_more (ReturnValue node) from site s =
          bind_more x (value_of routines low node site s) _ _ _
          (value_more x low low' lower routines node site s) (λ v t. refl)
      execute_more (GoToState n) from site s = inr refl

      pub execute_all_more : (xs : Actions) (from : Option ℕ) (site : Site) (s : State)
          → Extends x (execute_all routines low xs from site s) (execute_all routines low' xs from site (more x s))
      execute_all_more NoAction from site s = refl
      execute_all_more (AndAction xs a) None site s =
          bind_more x (execute_all routines low xs None site s) _ _ _
          (execute_all_more xs None site s) (normal_more _ _ (execute_more a None site))
      execute_all_more (AndAction xs a) (Some label) site s =
          cond_more x (has_label (labels_in xs) label) _ _ (Gives Normal s) (Gives Normal (more x s))
          (bind_more x (execute_all routines low xs (Some label) site s) _ _ _
          (execute_all_more xs (Some label) site s) (normal_more _ _ (execute_more a None site)))
          refl
