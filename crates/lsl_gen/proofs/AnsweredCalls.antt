-- Calls that are lost only by an answer that its call never has.
use Rattle.std.proofs.Common.{◌≡◌, ℕ, ◌-◌, pos, List, [], ◌∷◌, Bool, true, false, cond, Option, Some, None, refl, sym, ap, ◌∙◌, subst, length, get_or, slice_get}
use Rattle.std.specs.Prelude.{is_some}
use Rattle.lsl_value.specs.declared.names.BuiltinId.{BuiltinId}
use Rattle.lsl_value.specs.declared.tagged.Kind.{Kind}
use Rattle.lsl_value.specs.declared.tagged.Value.{Value}
use Rattle.lsl_value.specs.declared.tagged.Value.TheVariants as value
use Rattle.lsl_table.specs.Calls.{row_of}
use Rattle.lsl_ops.specs.Operations.{integer_of}
use Rattle.lsl_pure.specs.Pure.{pure_of}
use Rattle.lsl_tree.specs.declared.program_node.Callee.{Callee}
use Rattle.lsl_tree.specs.declared.program_node.Callee.TheVariants.{Function, Builtin}
use Rattle.lsl_tree.specs.Actions as action
use Rattle.lsl_tree.specs.Actions.{Action, Actions, Block}
use Rattle.lsl_tree.specs.Program.{Routine, Program}
use Rattle.lsl_tree.specs.Shape.{FitsCallee, IsShaped, IsShapedAction, ends_with_value}
use Rattle.lsl_tree.specs.Signatures.{routines_of}
use Rattle.lsl_running.specs.declared.host.Reply.{Reply}
use Rattle.lsl_running.specs.declared.host.Reply.TheVariants as reply
use Rattle.lsl_running.specs.Calling as form
use Rattle.lsl_running.specs.Calling.{CallForm, call_form, is_answered_by}
use Rattle.lsl_running.specs.Charging.{used, is_within}
use Rattle.lsl_running.specs.Limits.{granted, grant_value, with_limit}
use Rattle.lsl_running.specs.Results.{Lost}
use Rattle.lsl_running.specs.Values.{absent}
use Rattle.lsl_meaning.specs.Calls.{Lower, first_slots, result_behind, run_routine, enter, reply_given, ask, call_builtin, call}
use Rattle.lsl_meaning.specs.State.{State, Site, within_call, Gives, Stops, bind, Flow, Normal, Returned, Jumped, tick}
use Rattle.lsl_meaning.specs.Statements.{has_label}
use Rattle.lsl_gen.proofs.Answered.{with_answers, Comes, Sound, Has, bind_sound, gives_sound, fails_sound, cond_sound, give_result_sound, tick_sound, taken_sound}
use Rattle.lsl_gen.proofs.Bodies.{routine_at, shaped_at}
use Rattle.lsl_gen.proofs.Calls.{answer_fits, both_true, empty_and}
use Rattle.lsl_gen.proofs.Forms.{gives_integer, takes_integer, fits_form, form_fits, integer_given}
use Rattle.lsl_gen.proofs.LabelScopes.{CanEnter}
use Rattle.lsl_gen.proofs.Routines.{outline}

-- how a statement ends in a routine that has a result or none, in blocks with these labels; one that is closed
-- never ends normally
abbrev pub Flows : Bool → List ℕ → Bool → Flow → Type 0
Flows has labels closed Normal = closed ≡ false
Flows has labels closed (Returned o) = is_some o ≡ has
Flows has labels closed (Jumped label) = has_label labels label ≡ true

-- a block that ends with its value, and the statement that gives it
abbrev pub is_closed : Action → Bool
is_closed (action.Block xs) = ends_with_value xs
is_closed (action.ReturnValue node) = true
is_closed a = false

reply_sound : (id : BuiltinId) (r : Reply) (site : Site) (s : State) → is_answered_by id r ≡ true
    → Sound (Has (is_some (row_of id).result)) s.answers (λ x. reply_given r site (with_answers s x))
reply_sound id (reply.Value o) site s fits =
    give_result_sound (is_some (row_of id).result) o site s (answer_fits (row_of id).result o fits)
reply_sound id (reply.Stop fault) site s fits = record { comes = tt }

ask_sound : (id : BuiltinId) (args : List Value) (site : Site) (answers : List Reply) (s : State)
    → Sound (Has (is_some (row_of id).result)) answers (λ x. ask id args site x (with_answers s x))
ask_sound id args site [] s = record { comes = tt }
ask_sound id args site (r ∷ more) s = fitting (is_answered_by id r) refl
  where
    fitting : (b : Bool) → is_answered_by id r ≡ b
        → Sound (Has (is_some (row_of id).result)) (r ∷ more) (λ x. ask id args site x (with_answers s x))
    fitting true fits =
        taken_sound (Has (is_some (row_of id).result)) r more (λ x. ask id args site x (with_answers s x))
        (λ x. reply_given r site (with_answers s x))
        (λ x. ap (λ b. cond b (reply_given r site (with_answers s x)) (Stops Lost)) fits)
        (reply_sound id r site (with_answers s more) fits)
    fitting false fits = record {
      comes = subst
          (λ b. Comes (Has (is_some (row_of id).result)) (r ∷ more)
          (λ x. ask id args site x (with_answers s x))
          (cond b (reply_given r site (with_answers s more)) (Stops Lost)))
          (sym fits)
          (record {
            before = [];
            given = r;
            more = more;
            id = id;
            asked = args;
            split = refl;
            asks = refl;
            wrong = fits;
          });
    }

value_there : (result : Option Kind) → gives_integer result ≡ true → true ≡ is_some result
value_there result e = sym (ap is_some (integer_given result e))

-- a built-in call
builtin_sound : (call : CallForm) (id : BuiltinId) (line : ℕ) (args : List Value) (site : Site) (s : State)
    → fits_form call (row_of id) ≡ true
    → Sound (Has (is_some (row_of id).result)) s.answers (λ x. call_builtin call id line args site (with_answers s x))
builtin_sound form.Pure id line args site s fits =
    give_result_sound (is_some (row_of id).result) (Some (pure_of id args)) site s (sym fits)
builtin_sound form.UsedMemory id line args site s fits =
    give_result_sound (is_some (row_of id).result) (Some (value.Int (pos (used site.held s.slots s.kept)))) site s
    (value_there (row_of id).result (empty_and (length (row_of id).params) (gives_integer (row_of id).result) fits).1)
builtin_sound form.FreeMemory id line args site s fits =
    give_result_sound (is_some (row_of id).result)
    (Some (value.Int (pos (s.kept.limit - used site.held s.slots s.kept)))) site s
    (value_there (row_of id).result (empty_and (length (row_of id).params) (gives_integer (row_of id).result) fits).1)
builtin_sound form.SetLimit id line args site s fits =
    let limit = granted (integer_of (get_or args 0 absent)) (used site.held s.slots s.kept) in
    give_result_sound (is_some (row_of id).result) (Some (grant_value limit)) site
    (record s { kept = with_limit limit s.kept })
    (value_there (row_of id).result
    (both_true (takes_integer (row_of id).params) (gives_integer (row_of id).result) fits).1)
builtin_sound form.GetLimit id line args site s fits =
    give_result_sound (is_some (row_of id).result) (Some (value.Int (pos s.kept.limit))) site s
    (value_there (row_of id).result (empty_and (length (row_of id).params) (gives_integer (row_of id).result) fits).1)
builtin_sound form.Asked id line args site s fits = ask_sound id args site s.answers s
builtin_sound form.AskedAndWaits id line args site s fits =
    bind_sound (Has (is_some (row_of id).result)) (Has (is_some (row_of id).result)) s.answers
    (λ x. ask id args site x (with_answers s x)) (λ result t. tick t.ticks line site t (Gives result))
    (ask_sound id args site s.answers s)
    (λ result t there. tick_sound (Has (is_some (row_of id).result)) t.ticks line site t (Gives result)
    (λ left. gives_sound (Has (is_some (row_of id).result)) result t.answers (record t { ticks = left }) there))
builtin_sound form.Resets id line args site s fits = record { comes = tt }

module _ (p : Program) (shaped : IsShaped p) where
  -- after a tick nothing is lost but by such an answer
  abbrev pub LowerSound : Lower → Type 0
  LowerSound low =
      (a : Action) (from : Option ℕ) (has : Bool) (labels : List ℕ) (site : Site) (s : State)
      → IsShapedAction (outline p has) labels a → CanEnter a from
      → Sound (Flows has labels (is_closed a)) s.answers (λ x. low a from site (with_answers s x))

  module _ (low : Lower) (lower : LowerSound low) where
    -- the end of a routine's statements
    end_sound : (kind : Option Kind) (closed : Bool) → (is_some kind ≡ true → closed ≡ true) → (flow : Flow) (s : State)
        → Flows (is_some kind) [] closed flow
        → Sound (Has (is_some kind)) s.answers (λ x. result_behind kind flow (with_answers s x))
    end_sound None closed ends Normal s post = gives_sound (Has false) None s.answers s refl
    end_sound (Some kind) closed ends Normal s post =
        let never : true ≡ false = sym (ends refl) ∙ post in absurd cc
    end_sound kind closed ends (Returned o) s post = gives_sound (Has (is_some kind)) o s.answers s post
    end_sound kind closed ends (Jumped label) s post = let never : false ≡ true = post in absurd cc

    pub routine_sound : (r : Routine) (k : ℕ) (site : Site) (s : State) → slice_get (routines_of p) k ≡ Some r
        → Sound (Has (is_some r.kind)) s.answers (λ x. run_routine low r site (with_answers s x))
    routine_sound r k site s e =
        let fine = shaped_at p shaped k r e in
        cond_sound (Has (is_some r.kind)) (is_within s.kept (used site.held s.slots s.kept)) s.answers _ _
        (λ _. tick_sound (Has (is_some r.kind)) s.ticks r.line site s
        (λ t. bind (low (Block r.body) None site t) (result_behind r.kind))
        (λ left. bind_sound (Flows (is_some r.kind) [] (ends_with_value r.body)) (Has (is_some r.kind)) s.answers
        (λ x. low (Block r.body) None site (with_answers (record s { ticks = left }) x)) (result_behind r.kind)
        (lower (Block r.body) None (is_some r.kind) [] site (record s { ticks = left }) fine.body tt)
        (end_sound r.kind (ends_with_value r.body) fine.ending)))
        (λ _. fails_sound (Has (is_some r.kind)) s.answers)

    enter_sound : (r : Routine) (k line : ℕ) (args : List Value) (site : Site) (s : State)
        → slice_get (routines_of p) k ≡ Some r
        → Sound (Has (is_some r.kind)) s.answers (λ x. enter low (Some r) k line args site (with_answers s x))
    enter_sound r k line args site s e =
        bind_sound (Has (is_some r.kind)) (Has (is_some r.kind)) s.answers
        (λ x. run_routine low r (within_call k line site s.slots)
        (with_answers (record s { slots = first_slots r args }) x)) _
        (routine_sound r k (within_call k line site s.slots) (record s { slots = first_slots r args }) e)
        (λ o t there. give_result_sound (is_some r.kind) o site (record t { slots = s.slots }) there)

    pub call_sound : (callee : Callee) (line : ℕ) (other has : Bool) (count : ℕ) (args : List Value) (site : Site)
        (s : State) → FitsCallee (outline p other) callee count has
        → Sound (Has has) s.answers (λ x. call (routines_of p) low callee line args site (with_answers s x))
    call_sound (Function k) line other has count args site s fits =
        let found = routine_at p k fits.0 fits.1 in
        let r = found.0 in
        let same : is_some r.kind ≡ has = ap (λ g. is_some g.result) found.2 ∙ fits.3 in
        subst (λ b. Sound (Has b) s.answers (λ x. call (routines_of p) low (Function k) line args site
        (with_answers s x))) same
        (subst (λ o. Sound (Has (is_some r.kind)) s.answers (λ x. enter low o k line args site (with_answers s x)))
        (sym found.1) (enter_sound r k line args site s found.1))
    call_sound (Builtin id) line other has count args site s fits =
        let same : is_some (row_of id).result ≡ has =
        (let e : is_some (row_of id).result ≡ is_some fits.0.result = cc in e ∙ fits.3) in
        subst (λ b. Sound (Has b) s.answers (λ x. call (routines_of p) low (Builtin id) line args site
        (with_answers s x))) same (builtin_sound (call_form id) id line args site s (form_fits id))
