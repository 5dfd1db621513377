-- From the facts of a program to those of its functions, and back.
use Rattle.std.proofs.Common.{◌≡◌, ◌≤◌, List, [], ◌∷◌, ◌++◌, length, true, sym, ap, ap₂, ◌∙◌, subst, arith, map}
use Rattle.std.specs.Prelude.{All, is_some}
use Rattle.std.proofs.lemmas.List.{map-append}
use Rattle.std.proofs.lemmas.List.Elements.{All-head, All-tail, All-append, All-cons, All-nil, All-map, All-weaker}
use Rattle.lsl_value.specs.Values.{kind_of}
use Rattle.lsl_value.specs.declared.tagged.Value.{Value}
use Rattle.lsl_table.specs.Events.{event_name_of}
use Rattle.lsl_tree.specs.declared.program.EventRoutine as declared_handler
use Rattle.lsl_tree.specs.declared.program.NamedRoutine as declared_function
use Rattle.lsl_tree.specs.declared.program.Program as declared_program
use Rattle.lsl_tree.specs.declared.program.ProgramState as declared_state
use Rattle.lsl_tree.specs.Kinded.{IsKindedRoutine, IsKinded}
use Rattle.lsl_tree.specs.Program.{Routine, routine_of, function_of, handler_of, state_of, Program, program_of}
use Rattle.lsl_tree.specs.Shape.{IsShaped}
use Rattle.lsl_tree.specs.Signatures.{routines_of, handlers_of}
use Rattle.lsl_meaning.specs.Globals.{initial_globals}
use Rattle.lsl_meaning.proofs.GlobalLemmas as lemmas
use Rattle.lsl_code.specs.declared.functions.FunctionCode.{FunctionCode}
use Rattle.lsl_code.specs.declared.functions.StateCode.{StateCode}
use Rattle.lsl_code.specs.declared.signatures.Names.{Names}
use Rattle.lsl_code.specs.Bodies.{plain_body}
use Rattle.lsl_code.specs.Units.{fits_unit}
use Rattle.lsl_gen.specs.Laws.{Agrees, HasShortCode}
use Rattle.lsl_gen.specs.Programs.{made_by, IsReady, IsShort, names_with, names_of, generated_functions, numbered_states, generated_states}
use Rattle.lsl_gen.proofs.Fitting.{unit_fits}
use Rattle.lsl_gen.proofs.FunctionSteps.{map_length}
use Rattle.lsl_gen.proofs.Generated.{generated_agrees}
use Rattle.lsl_gen.proofs.Routes.{draft_runs}

front : {X : Type 0} (P : X → Type 0) (a b : List X) → All P (a ++ b) → All P a
front P [] b all = All-nil P
front P (x ∷ a) b all = All-cons P x a (All-head P x (a ++ b) all) (front P a b (All-tail P x (a ++ b) all))

back : {X : Type 0} (P : X → Type 0) (a b : List X) → All P (a ++ b) → All P b
back P [] b all = all
back P (x ∷ a) b all = back P a b (All-tail P x (a ++ b) all)

unmap : {X Y : Type 0} (P : Y → Type 0) (f : X → Y) (xs : List X) → All P (map f xs) → All (λ x. P (f x)) xs
unmap P f [] all = All-nil (λ x. P (f x))
unmap P f (x ∷ xs) all = All-cons (λ x. P (f x)) x xs (All-head P (f x) (map f xs) all)
    (unmap P f xs (All-tail P (f x) (map f xs) all))

module _ (Q : Routine → Type 0) where
  abbrev OfFunction : declared_function.NamedRoutine → Type 0
  OfFunction f = Q (routine_of f.routine)

  abbrev OfHandler : declared_handler.EventRoutine → Type 0
  OfHandler h = Q (routine_of h.routine)

  abbrev OfState : declared_state.ProgramState → Type 0
  OfState s = All OfHandler s.handlers.items

  handlers_front : (hs : List declared_handler.EventRoutine) → All Q (map (λ h. h.routine) (map handler_of hs))
      → All OfHandler hs
  handlers_front hs all = unmap (λ h. Q h.routine) handler_of hs (unmap Q (λ h. h.routine) (map handler_of hs) all)

  handlers_all : (hs : List declared_handler.EventRoutine) → All OfHandler hs
      → All Q (map (λ h. h.routine) (map handler_of hs))
  handlers_all hs all = All-map Q (λ h. h.routine) (map handler_of hs) (All-map (λ h. Q h.routine) handler_of hs all)

  states_front : (states : List declared_state.ProgramState)
      → All Q (map (λ h. h.routine) (handlers_of (map state_of states))) → All OfState states
  states_front [] all = All-nil OfState
  states_front (s ∷ states) all =
      let hs = map handler_of s.handlers.items in
      let rest = handlers_of (map state_of states) in
      let both = subst (All Q) (map-append (λ h. h.routine) hs rest) all in
      All-cons OfState s states (handlers_front s.handlers.items
      (front Q (map (λ h. h.routine) hs) (map (λ h. h.routine) rest) both))
      (states_front states (back Q (map (λ h. h.routine) hs) (map (λ h. h.routine) rest) both))

  states_all : (states : List declared_state.ProgramState) → All OfState states
      → All Q (map (λ h. h.routine) (handlers_of (map state_of states)))
  states_all [] all = All-nil Q
  states_all (s ∷ states) all =
      let hs = map handler_of s.handlers.items in
      let rest = handlers_of (map state_of states) in
      subst (All Q) (sym (map-append (λ h. h.routine) hs rest))
      (All-append Q (map (λ h. h.routine) hs) (map (λ h. h.routine) rest)
      (handlers_all s.handlers.items (All-head OfState s states all))
      (states_all states (All-tail OfState s states all)))

  functions_front : (fs : List declared_function.NamedRoutine)
      → All Q (map (λ f. f.routine) (map function_of fs)) → All OfFunction fs
  functions_front fs all = unmap (λ f. Q f.routine) function_of fs (unmap Q (λ f. f.routine) (map function_of fs) all)

  functions_all : (fs : List declared_function.NamedRoutine) → All OfFunction fs
      → All Q (map (λ f. f.routine) (map function_of fs))
  functions_all fs all = All-map Q (λ f. f.routine) (map function_of fs) (All-map (λ f. Q f.routine) function_of fs all)

module _ (program : declared_program.Program) where
  abbrev p : Program
  p = program_of program

  module _ (kinded : IsKinded p) where
    pub names_are : (values : List Value) (names : Names) → values ≡ initial_globals p
        → names ≡ names_with (map kind_of values) p → names ≡ names_of p
    names_are values names e same = same ∙ ap (λ vs. names_with (map kind_of vs) p) e
        ∙ ap (λ ks. names_with ks p) (lemmas.globals p kinded)

    ready : (r : Routine) → IsKindedRoutine p r → IsReady (names_of p) r
    ready r k = ap is_some (draft_runs p r k)

    all_ready : (names : Names) → names ≡ names_of p → All (IsReady names) (routines_of p)
    all_ready names e = subst (λ names. All (IsReady names) (routines_of p)) (sym e)
        (All-weaker (IsKindedRoutine p) (IsReady (names_of p)) ready (routines_of p) kinded.routines)

    pub functions_ready : (names : Names) (fs : List declared_function.NamedRoutine) → names ≡ names_of p
        → fs ≡ program.functions.items → All (OfFunction (IsReady names)) fs
    functions_ready names fs e same =
        subst (All (OfFunction (IsReady names))) (sym same)
        (functions_front (IsReady names) program.functions.items
        (front (IsReady names) (map (λ f. f.routine) p.functions)
        (map (λ h. h.routine) (handlers_of p.states)) (all_ready names e)))

    pub states_ready : (names : Names) (states : List declared_state.ProgramState) → names ≡ names_of p
        → states ≡ program.states.items → All (OfState (IsReady names)) states
    states_ready names states e same =
        subst (All (OfState (IsReady names))) (sym same)
        (states_front (IsReady names) program.states.items
        (back (IsReady names) (map (λ f. f.routine) p.functions)
        (map (λ h. h.routine) (handlers_of p.states)) (all_ready names e)))

  -- the functions, and after them the handlers
  pub functions_are : (names : Names) (functions all : List FunctionCode)
      (fs : List declared_function.NamedRoutine) (states : List declared_state.ProgramState)
      → names ≡ names_of p → fs ≡ program.functions.items → states ≡ program.states.items
      → functions ≡ [] ++ map (λ f. made_by names f.name f.routine) (map function_of fs)
      → all ≡ functions ++ map (λ h. made_by names (event_name_of h.event) h.routine)
      (handlers_of (map state_of states))
      → all ≡ generated_functions p
  functions_are names functions all fs states en ef es first second =
      second ∙ ap (λ l. l ++ map (λ h. made_by names (event_name_of h.event) h.routine)
      (handlers_of (map state_of states))) first
      ∙ ap₂ (λ fs states. map (λ f. made_by names f.name f.routine) (map function_of fs) ++ map
      (λ h. made_by names (event_name_of h.event) h.routine) (handlers_of (map state_of states))) ef es
      ∙ ap (λ names. map (λ f. made_by names f.name f.routine) p.functions ++ map
      (λ h. made_by names (event_name_of h.event) h.routine) (handlers_of p.states)) en

  pub states_are : (names : Names) (functions : List FunctionCode) (listed : List StateCode)
      (fs : List declared_function.NamedRoutine) (states : List declared_state.ProgramState)
      → fs ≡ program.functions.items → states ≡ program.states.items
      → functions ≡ [] ++ map (λ f. made_by names f.name f.routine) (map function_of fs)
      → listed ≡ numbered_states (length functions) (map state_of states) → listed ≡ generated_states p
  states_are names functions listed fs states ef es first second =
      second ∙ ap₂ (λ n states. numbered_states n (map state_of states))
      (ap length first ∙ map_length (λ f. made_by names f.name f.routine) (map function_of fs)
      ∙ ap (λ fs. length (map function_of fs)) ef) es

  pub is_short : (fs : List declared_function.NamedRoutine) (states : List declared_state.ProgramState)
      → fs ≡ program.functions.items → states ≡ program.states.items
      → All (OfFunction IsShort) fs → All (OfState IsShort) states → length program.states.items ≤ 65535
      → HasShortCode p
  is_short fs states ef es first second few = record {
    routines = All-append IsShort (map (λ f. f.routine) p.functions) (map (λ h. h.routine) (handlers_of p.states))
        (functions_all IsShort program.functions.items (subst (All (OfFunction IsShort)) ef first))
        (states_all IsShort program.states.items (subst (All (OfState IsShort)) es second));
    states = omega (arith, few, map_length state_of program.states.items);
  }

  pub fits : (globals : List Value) (states : List StateCode) (functions : List FunctionCode)
      → globals ≡ initial_globals p → states ≡ generated_states p → functions ≡ generated_functions p
      → IsKinded p → IsShaped p → HasShortCode p → fits_unit globals states (map plain_body functions) ≡ true
  fits globals states functions eg es ef kinded shaped short =
      ap₂ (λ g l. fits_unit g l (map plain_body functions)) eg es
      ∙ ap (λ l. fits_unit (initial_globals p) (generated_states p) (map plain_body l)) ef
      ∙ unit_fits p kinded shaped short

  pub agrees_as : (functions : List FunctionCode) → functions ≡ generated_functions p → IsKinded p → IsShaped p
      → Agrees (map plain_body functions) p
  agrees_as functions e kinded shaped =
      subst (λ l. Agrees (map plain_body l) p) (sym e) (generated_agrees p kinded shaped)
