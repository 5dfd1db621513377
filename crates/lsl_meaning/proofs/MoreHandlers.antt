-- Handlers with more ticks and more answers.
use Rattle.std.proofs.Common.{◌≡◌, ℕ, zero, suc, ◌+◌, ◌⊎◌, inl, inr, ⊎_elim, List, [], ◌++◌, Option, Some, None, refl, sym, ap, ◌∙◌, arith, add-zero, append-nil, slice_get}
use Rattle.lsl_value.specs.declared.names.BuiltinId.{BuiltinId}
use Rattle.lsl_value.specs.declared.tagged.Value.{Value}
use Rattle.lsl_tree.specs.Actions.{Action}
use Rattle.lsl_tree.specs.Program.{Routine, Program}
use Rattle.lsl_tree.specs.Signatures.{routines_of}
use Rattle.lsl_running.specs.declared.host.Reply.{Reply}
use Rattle.lsl_running.specs.declared.kept.Kept.{Kept}
use Rattle.lsl_running.specs.Results.{ActiveCall, Whole, Asks, Cut}
use Rattle.lsl_meaning.specs.State.{State, Site, Evaluation, Gives, Stops}
use Rattle.lsl_meaning.specs.Calls.{first_slots}
use Rattle.lsl_meaning.specs.Handlers.{level, ended, outermost, whole_of, whole}
use Rattle.lsl_meaning.specs.Laws.{MoreTicksChangeNothing, MoreAnswersChangeNothing}
use Rattle.lsl_meaning.proofs.More.{Surplus, more, Extends}
use Rattle.lsl_meaning.proofs.MoreExpressions.{run_more}
use Rattle.lsl_meaning.proofs.MoreStatements.{execute_more}

module _ (x : Surplus) where
  level_more : (routines : List Routine) (n m : ℕ) → m ≡ n + x.ticks
      → (a : Action) (from : Option ℕ) (site : Site) (s : State)
      → Extends x (level routines n a from site s) (level routines m a from site (more x s))
  level_more routines zero m e a from site s =
      ⊎_elim (λ l. inl l)
      (λ none. let zero_too : m ≡ 0 = omega arith in inr (ap (λ n. level routines n a from site (more x s)) zero_too))
      (x.cut [])
  level_more routines (suc n) zero e a from site s = absurd (omega arith)
  level_more routines (suc n) (suc m) e a from site s =
      let lower = level_more routines n m (omega arith) in
      execute_more x (level routines n) (level routines m) lower routines a from site s

  -- the result of the handler is the same, or may change
  ended_more : (r r' : Evaluation (Option Value)) → Extends x r r' → x.IsLoose (ended r) ⊎ (ended r' ≡ ended r)
  ended_more (Gives result s) r' e = inr (ap ended e)
  ended_more (Stops w) r' e = ⊎_elim (λ l. inl l) (λ q. inr (ap ended q)) e

  whole_of_more : (routines : List Routine) (o : Option Routine) (number : ℕ) (kept : Kept) (args : List Value)
      → (ticks : ℕ) (answers : List Reply)
      → x.IsLoose (whole_of routines o number kept args ticks answers)
      ⊎ (whole_of routines o number kept args (ticks + x.ticks) (answers ++ x.answers)
      ≡ whole_of routines o number kept args ticks answers)
  whole_of_more routines None number kept args ticks answers = inr refl
  whole_of_more routines (Some r) number kept args ticks answers =
      let s : State = record { kept = kept; slots = first_slots r args; ticks = ticks; answers = answers } in
      ended_more _ _ (run_more x (level routines ticks) (level routines (ticks + x.ticks))
      (level_more routines ticks (ticks + x.ticks) refl) r (outermost number) s)

  whole_more : (p : Program) (number : ℕ) (kept : Kept) (args : List Value) (ticks : ℕ) (answers : List Reply)
      → x.IsLoose (whole p number kept args ticks answers)
      ⊎ (whole p number kept args (ticks + x.ticks) (answers ++ x.answers) ≡ whole p number kept args ticks answers)
  whole_more p number kept args ticks answers =
      whole_of_more (routines_of p) (slice_get (routines_of p) number) number kept args ticks answers

-- more ticks alone
abbrev IsCut : Whole → Type 0
IsCut w = (calls : List ActiveCall) × (w ≡ Cut calls)

abbrev more_ticks_alone : ℕ → Surplus
more_ticks_alone k = record {
  ticks = k;
  answers = [];
  IsLoose = IsCut;
  cut = λ calls. inl (calls, refl);
  asks = λ id args. inr refl;
}

pub more_ticks : MoreTicksChangeNothing
more_ticks p number kept args ticks k answers uncut =
    ap (λ a. whole p number kept args (ticks + k) a) (sym (append-nil answers))
    ∙ ⊎_elim (λ l. absurd (uncut l.0 l.1)) (λ e. e) (whole_more (more_ticks_alone k) p number kept args ticks answers)

-- more answers alone
abbrev IsAsking : Whole → Type 0
IsAsking w = (id : BuiltinId) × (args : List Value) × (w ≡ Asks id args)

abbrev more_answers_alone : List Reply → Surplus
more_answers_alone further = record {
  ticks = 0;
  answers = further;
  IsLoose = IsAsking;
  cut = λ calls. inr refl;
  asks = λ id args. inl (id, args, refl);
}

pub more_answers : MoreAnswersChangeNothing
more_answers p number kept args ticks answers further unasked =
    ap (λ t. whole p number kept args t (answers ++ further)) (sym (add-zero ticks))
    ∙ ⊎_elim (λ l. absurd (unasked l.0 l.1 l.2)) (λ e. e)
    (whole_more (more_answers_alone further) p number kept args ticks answers)
