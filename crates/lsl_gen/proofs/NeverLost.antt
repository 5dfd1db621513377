-- Statements and handlers that are lost only by an answer that its call never has.
use Rattle.std.proofs.Common.{◌≡◌, ℕ, zero, suc, ◌<◌, List, [], ◌∷◌, ◌++◌, Bool, true, false, Option, Some, None, refl, sym, ap, ◌∙◌, arith, length, reverse, slice_get}
use Rattle.std.specs.Prelude.{All, is_some}
use Rattle.std.proofs.lemmas.List.Elements.{All-tail}
use Rattle.lsl_value.specs.Values.{truth_of}
use Rattle.lsl_value.specs.declared.tagged.Value.{Value}
use Rattle.lsl_tree.specs.declared.program_node.Place.TheVariants.{Slot}
use Rattle.lsl_tree.specs.Actions as action
use Rattle.lsl_tree.specs.Actions.{Action, Actions, NoAction, AndAction}
use Rattle.lsl_tree.specs.Effects as effect
use Rattle.lsl_tree.specs.Effects.{Effect}
use Rattle.lsl_tree.specs.Program.{Routine, Program}
use Rattle.lsl_tree.specs.Shape.{argument_count, ends_with_value, labels_in, AreShapedActions, IsShaped, IsShapedAction, IsShapedEffect}
use Rattle.lsl_tree.specs.Signatures.{routines_of}
use Rattle.lsl_running.specs.declared.host.Reply.{Reply}
use Rattle.lsl_running.specs.declared.kept.Kept.{Kept}
use Rattle.lsl_running.specs.Results.{Whole, Lost}
use Rattle.lsl_meaning.specs.Calls.{Lower, call, first_slots, run_routine}
use Rattle.lsl_meaning.specs.Expressions.{storing, value_of, values_of}
use Rattle.lsl_meaning.specs.Handlers.{level, ended, outermost, whole_of, whole}
use Rattle.lsl_meaning.specs.State.{State, Site, Evaluation, Gives, Stops, Flow, Normal, Returned, Jumped, tick}
use Rattle.lsl_meaning.specs.Statements.{on_normal, has_label, no_result, perform, perform_all, caught, execute, execute_all}
use Rattle.lsl_gen.specs.LossLaws.{AnswerTheirCalls, IsNeverLost}
use Rattle.lsl_gen.proofs.Answered.{with_answers, IsAnsweredWrong, Comes, Sound, Any, Has, bind_sound, gives_sound, cond_sound, tick_sound, weaker_sound}
use Rattle.lsl_gen.proofs.AnsweredCalls.{Flows, is_closed, LowerSound, call_sound, routine_sound}
use Rattle.lsl_gen.proofs.AnsweredValues.{value_sound, values_sound}
use Rattle.lsl_gen.proofs.Bodies.{All-at}
use Rattle.lsl_gen.proofs.LabelScopes.{CanEnter, CanEnterIn, has_outer, has_contained}
use Rattle.lsl_gen.proofs.Routines.{outline}

no_result_sound : (o : Option Value) (s : State) → Has false o
    → Sound Any s.answers (λ x. no_result o (with_answers s x))
no_result_sound None s none = gives_sound Any tt s.answers s tt
no_result_sound (Some v) s none = absurd cc

-- what isn't asked to be closed
open_flow : (has : Bool) (labels : List ℕ) (closed : Bool) (flow : Flow) → Flows has labels closed flow
    → Flows has labels false flow
open_flow has labels closed Normal post = refl
open_flow has labels closed (Returned o) post = post
open_flow has labels closed (Jumped label) post = post

-- the end of the last statement is that of the block
last_flow : (has : Bool) (labels : List ℕ) (xs : Actions) (a : Action) (flow : Flow)
    → Flows has labels (is_closed a) flow
    → Flows has labels (ends_with_value (AndAction xs a)) flow
last_flow has labels xs (action.ReturnValue t) flow post = post
last_flow has labels xs a flow post = open_flow has labels (is_closed a) flow post

-- a label that isn't before the last statement is the last statement, which gives no value
skipped_open : (xs : Actions) (a : Action) (label : ℕ) → has_label (labels_in xs) label ≡ false
    → has_label (labels_in (AndAction xs a)) label ≡ true → ends_with_value (AndAction xs a) ≡ false
skipped_open xs (action.ReturnValue t) label out there = let never : false ≡ true = sym out ∙ there in absurd cc
skipped_open xs a label out there = refl

can_enter : (xs : Actions) (from : Option ℕ) → CanEnter (action.Block xs) from → CanEnterIn xs from
can_enter xs None enters = tt
can_enter xs (Some label) enters = enters

module _ (p : Program) (shaped : IsShaped p) (low : Lower) (lower : LowerSound p shaped low) (has : Bool) where
  effect_sound : (x : Effect) (site : Site) (s : State) → IsShapedEffect (outline p has) x
      → Sound Any s.answers (λ l. perform (routines_of p) low x site (with_answers s l))
  effect_sound (effect.Value t) site s sh =
      bind_sound Any Any s.answers (λ l. value_of (routines_of p) low t site (with_answers s l)) _
      (value_sound p shaped low lower has t site s sh) (λ v u _. gives_sound Any tt u.answers u tt)
  effect_sound (effect.Call callee line arguments) site s sh =
      bind_sound Any Any s.answers (λ l. values_of (routines_of p) low arguments site (with_answers s l)) _
      (values_sound p shaped low lower has arguments site s sh.1)
      (λ vs t _. bind_sound (Has false) Any t.answers
      (λ l. call (routines_of p) low callee line (reverse vs) site (with_answers t l)) no_result
      (call_sound p shaped low lower callee line has false (argument_count arguments) (reverse vs) site t sh.0)
      no_result_sound)

  effects_sound : (xs : List Effect) (site : Site) (s : State) → All (IsShapedEffect (outline p has)) xs
      → Sound Any s.answers (λ l. perform_all (routines_of p) low xs site (with_answers s l))
  effects_sound [] site s sh = gives_sound Any tt s.answers s tt
  effects_sound (x ∷ xs) site s sh =
      bind_sound Any Any s.answers (λ l. perform (routines_of p) low x site (with_answers s l)) _
      (effect_sound x site s (All-at (IsShapedEffect (outline p has)) (x ∷ xs) 0 x sh refl))
      (λ _ t _. effects_sound xs site t (All-tail (IsShapedEffect (outline p has)) x xs sh))

  normal_sound : (labels : List ℕ) (before closed : Bool) (next : State → Evaluation Flow)
      → ((t : State) → Sound (Flows has labels closed) t.answers (λ l. next (with_answers t l)))
      → (flow : Flow) (t : State) → Flows has labels before flow
      → Sound (Flows has labels closed) t.answers (λ l. on_normal next flow (with_answers t l))
  normal_sound labels before closed next h Normal t post = h t
  normal_sound labels before closed next h (Returned o) t post =
      gives_sound (Flows has labels closed) (Returned o) t.answers t post
  normal_sound labels before closed next h (Jumped label) t post =
      gives_sound (Flows has labels closed) (Jumped label) t.answers t post

  -- a jump to a label of this block, or out of it
  caught_sound : (labels : List ℕ) (xs : Actions) (site : Site)
      → IsShapedAction (outline p has) labels (action.Block xs)
      → (flow : Flow) (s : State) → Flows has (labels_in xs ++ labels) (ends_with_value xs) flow
      → Sound (Flows has labels (ends_with_value xs)) s.answers
      (λ l. caught (routines_of p) low xs site flow (with_answers s l))
  caught_sound labels xs site sh Normal s post =
      gives_sound (Flows has labels (ends_with_value xs)) Normal s.answers s post
  caught_sound labels xs site sh (Returned o) s post =
      gives_sound (Flows has labels (ends_with_value xs)) (Returned o) s.answers s post
  caught_sound labels xs site sh (Jumped label) s post =
      cond_sound (Flows has labels (ends_with_value xs)) (has_label (labels_in xs) label) s.answers _ _
      (λ there. lower (action.Block xs) (Some label) has labels site s sh there)
      (λ out. gives_sound (Flows has labels (ends_with_value xs)) (Jumped label) s.answers s
      (has_outer label (labels_in xs) labels out post))

  again_sound : (labels : List ℕ) (a : Action) (line : ℕ) (site : Site) (s : State)
      → IsShapedAction (outline p has) labels a → is_closed a ≡ false
      → Sound (Flows has labels false) s.answers
      (λ l. tick s.ticks line site (with_answers s l) (low a None site))
  again_sound labels a line site s sh loose =
      tick_sound (Flows has labels false) s.ticks line site s (low a None site)
      (λ left. weaker_sound (Flows has labels (is_closed a)) (Flows has labels false) s.answers
      (λ l. low a None site (with_answers (record s { ticks = left }) l)) (open_flow has labels (is_closed a))
      (lower a None has labels site (record s { ticks = left }) sh tt))

  -- one within another statement
  open_sound : (a : Action) (labels : List ℕ) (site : Site) (s : State)
      → Sound (Flows has labels (is_closed a)) s.answers
      (λ l. execute (routines_of p) low a None site (with_answers s l))
      → Sound (Flows has labels false) s.answers (λ l. execute (routines_of p) low a None site (with_answers s l))
  open_sound a labels site s m =
      weaker_sound (Flows has labels (is_closed a)) (Flows has labels false) s.answers
      (λ l. execute (routines_of p) low a None site (with_answers s l)) (open_flow has labels (is_closed a)) m

  last_sound : (xs : Actions) (a : Action) (labels : List ℕ) (site : Site) (s : State)
      → Sound (Flows has labels (is_closed a)) s.answers
      (λ l. execute (routines_of p) low a None site (with_answers s l))
      → Sound (Flows has labels (ends_with_value (AndAction xs a))) s.answers
      (λ l. execute (routines_of p) low a None site (with_answers s l))
  last_sound xs a labels site s m =
      weaker_sound (Flows has labels (is_closed a)) (Flows has labels (ends_with_value (AndAction xs a))) s.answers
      (λ l. execute (routines_of p) low a None site (with_answers s l)) (last_flow has labels xs a) m

  mutual
    -- a statement from its start, or from after a label of its own
    execute_sound : (a : Action) (from : Option ℕ) (labels : List ℕ) (site : Site) (s : State)
        → IsShapedAction (outline p has) labels a → CanEnter a from
        → Sound (Flows has labels (is_closed a)) s.answers
        (λ l. execute (routines_of p) low a from site (with_answers s l))
    execute_sound (action.Block xs) from labels site s sh enters =
        bind_sound (Flows has (labels_in xs ++ labels) (ends_with_value xs)) (Flows has labels (ends_with_value xs))
        s.answers (λ l. execute_all (routines_of p) low xs from site (with_answers s l)) _
        (execute_all_sound xs from (labels_in xs ++ labels) site s sh.1 (can_enter xs from enters))
        (caught_sound labels xs site sh)
    execute_sound (action.Effect x) from labels site s sh enters =
        bind_sound Any (Flows has labels false) s.answers
        (λ l. perform (routines_of p) low x site (with_answers s l)) _
        (effect_sound x site s sh) (λ _ t _. gives_sound (Flows has labels false) Normal t.answers t refl)
    execute_sound (action.Declare slot t) from labels site s sh enters =
        bind_sound Any (Flows has labels false) s.answers
        (λ l. value_of (routines_of p) low t site (with_answers s l)) _
        (value_sound p shaped low lower has t site s sh)
        (λ v u _. gives_sound (Flows has labels false) Normal u.answers (storing (Slot slot) v u) refl)
    execute_sound (action.Label label) from labels site s sh enters =
        gives_sound (Flows has labels false) Normal s.answers s refl
    execute_sound (action.If t a) from labels site s sh enters =
        bind_sound Any (Flows has labels false) s.answers
        (λ l. value_of (routines_of p) low t site (with_answers s l)) _
        (value_sound p shaped low lower has t site s sh.0)
        (λ v u _. cond_sound (Flows has labels false) (truth_of v) u.answers _ _
        (λ _. open_sound a labels site u (execute_sound a None labels site u sh.1 tt))
        (λ _. gives_sound (Flows has labels false) Normal u.answers u refl))
    execute_sound (action.IfElse t a b) from labels site s sh enters =
        bind_sound Any (Flows has labels false) s.answers
        (λ l. value_of (routines_of p) low t site (with_answers s l)) _
        (value_sound p shaped low lower has t site s sh.0)
        (λ v u _. cond_sound (Flows has labels false) (truth_of v) u.answers _ _
        (λ _. open_sound a labels site u (execute_sound a None labels site u sh.1 tt))
        (λ _. open_sound b labels site u (execute_sound b None labels site u sh.2 tt)))
    execute_sound (action.Loop line t steps a) from labels site s sh enters =
        bind_sound Any (Flows has labels false) s.answers
        (λ l. value_of (routines_of p) low t site (with_answers s l)) _
        (value_sound p shaped low lower has t site s sh.0)
        (λ v u _. cond_sound (Flows has labels false) (truth_of v) u.answers _ _
        (λ _. bind_sound (Flows has labels false) (Flows has labels false) u.answers
        (λ l. execute (routines_of p) low a None site (with_answers u l)) _
        (open_sound a labels site u (execute_sound a None labels site u sh.2 tt))
        (normal_sound labels false false _
        (λ w. bind_sound Any (Flows has labels false) w.answers
        (λ l. perform_all (routines_of p) low steps site (with_answers w l)) _
        (effects_sound steps site w sh.1)
        (λ _ y _. again_sound labels (action.Loop line t steps a) line site y sh refl))))
        (λ _. gives_sound (Flows has labels false) Normal u.answers u refl))
    execute_sound (action.Do line a t) from labels site s sh enters =
        bind_sound (Flows has labels false) (Flows has labels false) s.answers
        (λ l. execute (routines_of p) low a None site (with_answers s l)) _
        (open_sound a labels site s (execute_sound a None labels site s sh.0 tt))
        (normal_sound labels false false _
        (λ u. bind_sound Any (Flows has labels false) u.answers
        (λ l. value_of (routines_of p) low t site (with_answers u l)) _
        (value_sound p shaped low lower has t site u sh.1)
        (λ v w _. cond_sound (Flows has labels false) (truth_of v) w.answers _ _
        (λ _. again_sound labels (action.Do line a t) line site w sh refl)
        (λ _. gives_sound (Flows has labels false) Normal w.answers w refl))))
    execute_sound (action.Jump line label) from labels site s sh enters =
        tick_sound (Flows has labels false) s.ticks line site s (Gives (Jumped label))
        (λ left. gives_sound (Flows has labels false) (Jumped label) s.answers (record s { ticks = left })
        (has_contained labels label sh))
    execute_sound action.Return from labels site s sh enters =
        gives_sound (Flows has labels false) (Returned None) s.answers s (sym sh)
    execute_sound (action.ReturnValue t) from labels site s sh enters =
        bind_sound Any (Flows has labels true) s.answers
        (λ l. value_of (routines_of p) low t site (with_answers s l)) _
        (value_sound p shaped low lower has t site s sh.1)
        (λ v u _. gives_sound (Flows has labels true) (Returned (Some v)) u.answers u (sym sh.0))
    execute_sound (action.State n) from labels site s sh enters = record { comes = tt }

    execute_all_sound : (xs : Actions) (from : Option ℕ) (labels : List ℕ) (site : Site) (s : State)
        → AreShapedActions (outline p has) labels xs → CanEnterIn xs from
        → Sound (Flows has labels (ends_with_value xs)) s.answers
        (λ l. execute_all (routines_of p) low xs from site (with_answers s l))
    execute_all_sound NoAction from labels site s sh enters =
        gives_sound (Flows has labels false) Normal s.answers s refl
    execute_all_sound (AndAction xs a) None labels site s sh enters =
        bind_sound (Flows has labels (ends_with_value xs)) (Flows has labels (ends_with_value (AndAction xs a)))
        s.answers
        (λ l. execute_all (routines_of p) low xs None site (with_answers s l)) _
        (execute_all_sound xs None labels site s sh.0 tt)
        (normal_sound labels (ends_with_value xs) (ends_with_value (AndAction xs a)) _
        (λ t. last_sound xs a labels site t (execute_sound a None labels site t sh.1 tt)))
    execute_all_sound (AndAction xs a) (Some label) labels site s sh enters =
        cond_sound (Flows has labels (ends_with_value (AndAction xs a))) (has_label (labels_in xs) label) s.answers _ _
        (λ there. bind_sound (Flows has labels (ends_with_value xs))
        (Flows has labels (ends_with_value (AndAction xs a))) s.answers
        (λ l. execute_all (routines_of p) low xs (Some label) site (with_answers s l)) _
        (execute_all_sound xs (Some label) labels site s sh.0 there)
        (normal_sound labels (ends_with_value xs) (ends_with_value (AndAction xs a)) _
        (λ t. last_sound xs a labels site t (execute_sound a None labels site t sh.1 tt))))
        (λ out. gives_sound (Flows has labels (ends_with_value (AndAction xs a))) Normal s.answers s
        (skipped_open xs a label out enters))

-- by induction on the ticks
level_sound : (p : Program) (shaped : IsShaped p) (n : ℕ) → LowerSound p shaped (level (routines_of p) n)
level_sound p shaped zero a from has labels site s sh enters = record { comes = tt }
level_sound p shaped (suc n) a from has labels site s sh enters =
    execute_sound p shaped (level (routines_of p) n) (level_sound p shaped n) has a from labels site s sh enters

wrong_answer : (P : Option Value → Type 0) (answers : List Reply) (f : List Reply → Evaluation (Option Value))
    (r : Evaluation (Option Value)) → Comes P answers f r → ended r ≡ Lost → IsAnsweredWrong answers f
wrong_answer P answers f (Gives o s) h e = absurd cc
wrong_answer P answers f (Stops Lost) h e = h
wrong_answer P answers f (Stops w) h e = absurd cc

some_routine : (rs : List Routine) (k : ℕ) → k < length rs → (r : Routine) × (slice_get rs k ≡ Some r)
some_routine [] k lt = absurd (omega arith)
some_routine (r ∷ rs) zero lt = (r, refl)
some_routine (r ∷ rs) (suc k) lt = some_routine rs k (omega arith)

-- an evaluation that was lost has such an answer
given_wrong : (comes : List Reply → Whole) (answers : List Reply) (f : List Reply → Evaluation (Option Value))
    → ((x : List Reply) → comes x ≡ ended (f x)) → AnswerTheirCalls comes answers → IsAnsweredWrong answers f → ⊥
given_wrong comes answers f same fits w =
    let never : false ≡ true = sym w.wrong
    ∙ fits w.before w.more w.given w.id w.asked w.split (same w.before ∙ ap ended w.asks) in
    absurd cc

module _ (p : Program) (shaped : IsShaped p) (number : ℕ) (kept : Kept) (arguments : List Value) (ticks : ℕ) where
  abbrev begin : Routine → List Reply → State
  begin r answers = record { kept = kept; slots = first_slots r arguments; ticks = ticks; answers = answers }

  abbrev evaluated : Routine → List Reply → Evaluation (Option Value)
  evaluated r answers = run_routine (level (routines_of p) ticks) r (outermost number) (begin r answers)

  whole_is : (r : Routine) → slice_get (routines_of p) number ≡ Some r → (answers : List Reply)
      → whole p number kept arguments ticks answers ≡ ended (evaluated r answers)
  whole_is r e answers = ap (λ o. whole_of (routines_of p) o number kept arguments ticks answers) e

  never_lost : (r : Routine) → slice_get (routines_of p) number ≡ Some r → (answers : List Reply)
      → AnswerTheirCalls (whole p number kept arguments ticks) answers
      → whole p number kept arguments ticks answers ≡ Lost → ⊥
  never_lost r e answers fits lost =
      let m = routine_sound p shaped (level (routines_of p) ticks) (level_sound p shaped ticks) r number
      (outermost number) (begin r answers) e in
      given_wrong (whole p number kept arguments ticks) answers (evaluated r) (whole_is r e) fits
      (wrong_answer (Has (is_some r.kind)) answers (evaluated r) (evaluated r answers) m.comes
      (sym (whole_is r e answers) ∙ lost))

pub is_never_lost : IsNeverLost
is_never_lost p shaped number there kept arguments ticks answers fits lost =
    let found = some_routine (routines_of p) number there in
    never_lost p shaped number kept arguments ticks found.0 found.1 answers fits lost
