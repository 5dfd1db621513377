-- A checked program has its kinds and its shape.
use Rattle.std.proofs.Common.{◌≡◌, ℕ, ◌+◌, None, List, [], ◌∷◌, map, length, sym, ◌∙◌, subst, arith, not}
use Rattle.std.specs.Prelude.{is_some, All}
use Rattle.std.proofs.lemmas.List.{length_push}
use Rattle.std.proofs.lemmas.List.Elements.{All-nil, All-append, All-push, All-map, All-head, All-tail, All-weaker}
use Rattle.lsl_value.specs.declared.tagged.Kind.{Kind}
use Rattle.lsl_tree.specs.Scripts.{State, Tree}
use Rattle.lsl_tree.specs.Program.{Routine, NamedRoutine, EventRoutine, ProgramState, Program}
use Rattle.lsl_tree.specs.Signatures.{Signature, signature_of_routine, function_signatures, handlers_of, routines_of}
use Rattle.lsl_tree.specs.Initials.{initial_kind_of}
use Rattle.lsl_tree.specs.Shape.{IsShapedRoutine, IsShaped}
use Rattle.lsl_tree.specs.Kinded.{Scope, AreKindedActions, IsKindedRoutine, IsHandler, EventsDiffer, IsKinded}
use Rattle.lsl_bodies.specs.declared.faults.TypeKind.TheVariants.{DoubleName}
use Rattle.lsl_bodies.specs.Names.{nearest}
use Rattle.lsl_bodies.specs.Scope.{ScopeView, spelled}
use Rattle.lsl_bodies.specs.Known.{KnownView}
use Rattle.lsl_type.specs.Headers.{HeadersView, no_headers, known_from}
use Rattle.lsl_bodies.specs.Judgement.{at}
use Rattle.lsl_bodies.specs.Verdict.{must_verdict, each_verdict}
use Rattle.lsl_type.specs.HeaderVerdicts.{header_verdict, handler_verdict, state_verdict}
use Rattle.lsl_type.specs.ScriptVerdicts.{program_state_verdict, state_body_verdict}
use Rattle.lsl_type.specs.ScriptVerdicts.{script_verdict}
use Rattle.lsl_type.specs.ScriptRules.{default_name}
use Rattle.lsl_bodies.proofs.Yielding.{Yields, gives_yields, then_yields, rest_yields, both_yield, each_keeps}
use Rattle.lsl_bodies.proofs.Yielding.{each_shows, each_gathers, each_counts}
use Rattle.lsl_bodies.proofs.KindSettings.{setting}
use Rattle.lsl_type.proofs.InitialKinds.{globals_have}
use Rattle.lsl_type.proofs.GlobalKinds.{GlobalsIn, headers_yield}
use Rattle.lsl_bodies.proofs.RoutineKinds.{RoutineIn, GlobalsHave}
use Rattle.lsl_type.proofs.HandlerKinds.{AreStateHandlers, handlers_agree, state_agrees, HandlerIn, StateIn}
use Rattle.lsl_type.proofs.HandlerKinds.{handlers_made, state_made}
use Rattle.lsl_type.proofs.FunctionKinds.{signatures_in, header_declares, functions_yield}

state_named : (names : List (List ℕ)) (s : State) → Yields (λ n. length n ≡ length names + 1) (state_verdict names s)
state_named names s =
    rest_yields (must_verdict (not (is_some (nearest (spelled s.name) names))) (at DoubleName s.name.span)) (λ u.
    rest_yields (each_verdict handler_verdict [] s.handlers) (λ events.
    gives_yields (omega arith)))

-- bodies, in a program that declares this
module _ (known : KnownView) (globals : List Kind) (s : ScopeView) (have : GlobalsHave known globals s) where
  abbrev States : List ProgramState → Type 0
  States sts = All (StateIn known globals) sts

  state_next : (before : List ProgramState) (st : State) → AreStateHandlers st.handlers → States before
      → Yields States (state_body_verdict known s before st)
  state_next before st fit b =
      then_yields (state_made known globals s have st fit) (λ state p.
      gives_yields (All-push (StateIn known globals) before state b p))

  state_counts : (before : List ProgramState) (st : State)
      → Yields (λ sts. length sts ≡ length before + 1) (state_body_verdict known s before st)
  state_counts before st =
      rest_yields (program_state_verdict known s st) (λ state. gives_yields (length_push before state))

  states_yield : (first : ProgramState) (sts : List State) → StateIn known globals first
      → All (λ st. AreStateHandlers st.handlers) sts
      → Yields (λ all. States all × (length all ≡ 1 + length sts))
      (each_verdict (state_body_verdict known s) (first ∷ []) sts)
  states_yield first sts h fit =
      let step = state_body_verdict known s in
      both_yield
      (each_keeps (λ st. AreStateHandlers st.handlers) States step state_next (first ∷ []) sts fit
      (All-push (StateIn known globals) [] first (All-nil (StateIn known globals)) h))
      (each_counts length step state_counts (first ∷ []) sts)

-- what holds of each handler of each state
handlers_all : (P : EventRoutine → Type 0) (states : List ProgramState) → All (λ s. All P s.handlers) states
    → All P (handlers_of states)
handlers_all P [] h = All-nil P
handlers_all P (s ∷ states) h =
    All-append P s.handlers (handlers_of states) (All-head (λ s. All P s.handlers) s states h)
    (handlers_all P states (All-tail (λ s. All P s.handlers) s states h))

-- the whole
abbrev pub IsSound : Program → Type 0
IsSound p = IsShaped p × IsKinded p

-- a routine that has its kinds in a program with such globals, functions and states
abbrev KindedBy : List Kind → List Signature → ℕ → Routine → Type 0
KindedBy globals functions states r =
    let s : Scope =
    record { globals = globals; functions = functions; states = states; slots = r.slots; result = r.kind } in
    AreKindedActions s r.body

sound : (headers : HeadersView) (states : List (List ℕ)) (functions : List NamedRoutine) (all : List ProgramState)
    → GlobalsIn headers
    → map (λ f. signature_of_routine f.routine) functions ≡ headers.signatures → length all ≡ length states + 1
    → All (λ f. RoutineIn (known_from headers states) (map initial_kind_of headers.globals) f.routine) functions
    → All (StateIn (known_from headers states) (map initial_kind_of headers.globals)) all
    → IsSound (record { globals = headers.globals; functions = functions; states = all })
sound headers states functions all globals signatures count fs sts =
    let p : Program = record { globals = headers.globals; functions = functions; states = all } in
    let known = known_from headers states in
    let kinds = map initial_kind_of headers.globals in
    let In = RoutineIn known kinds in
    let HandlerHere = HandlerIn known kinds in
    let StateHere = StateIn known kinds in
    let handlers : All HandlerHere (handlers_of all) =
    handlers_all HandlerHere all (All-weaker StateHere (λ s. All HandlerHere s.handlers) (λ s h. h.handlers) all sts) in
    let routines : All In (routines_of p) =
    All-append In (map (λ f. f.routine) functions) (map (λ h. h.routine) (handlers_of all))
    (All-map In (λ (f : NamedRoutine). f.routine) functions fs)
    (All-map In (λ (h : EventRoutine). h.routine) (handlers_of all)
    (All-weaker HandlerHere (λ h. In h.routine) (λ h i. i.routine) (handlers_of all) handlers)) in
    let events : All IsHandler (handlers_of all) =
    All-weaker HandlerHere IsHandler (λ h i. i.handler) (handlers_of all) handlers in (
      record {
        routines = All-weaker In (IsShapedRoutine (function_signatures p) (length all))
            (λ r i.
            subst (λ g. IsShapedRoutine g (length all) r) (sym signatures)
            (subst (λ n. IsShapedRoutine headers.signatures n r) (sym count) i.shaped))
            (routines_of p) routines;
        handlers = All-weaker IsHandler (λ h. h.routine.kind ≡ None) (λ h i. i.result) (handlers_of all) events;
        states = omega (arith, count);
      },
      record {
        globals = globals.0;
        routines = All-weaker In (IsKindedRoutine p)
            (λ r i.
            subst (λ g. KindedBy kinds g (length all) r) (sym signatures)
            (subst (λ n. KindedBy kinds headers.signatures n r) (sym count) i.kinded))
            (routines_of p) routines;
        handlers = events;
        events = All-weaker StateHere EventsDiffer (λ s h. h.events) all sts;
      },
    )

pub script_sound : (tree : Tree) → Yields IsSound (script_verdict tree)
script_sound tree =
    then_yields
    (both_yield
    (headers_yield tree.headers)
    (each_gathers (λ h. h.signatures) signatures_in header_verdict header_declares no_headers tree.headers))
    (λ headers declared.
    then_yields (handlers_agree tree.default) (λ events fit.
    then_yields
    (both_yield
    (each_shows (λ st. AreStateHandlers st.handlers) state_verdict state_agrees [] tree.states)
    (each_counts length state_verdict state_named [] tree.states)) (λ states named.
    let known = known_from headers states in
    let kinds = map initial_kind_of headers.globals in
    let s = headers.scope in
    let have : GlobalsHave known kinds s =
    λ slots home. globals_have (setting known kinds slots home) s.variables declared.0.1 in
    then_yields (functions_yield known kinds s have tree.headers) (λ functions f.
    then_yields
    (handlers_made known kinds s have tree.default fit) (λ start h.
    let first : ProgramState = record { name = default_name; handlers = start } in
    then_yields
    (states_yield known kinds s have first tree.states (record { handlers = h.0; events = h.1 default_name })
    named.0) (λ all a.
    gives_yields
    (sound headers states functions all declared.0 (f.1 ∙ sym declared.1) (omega (arith, a.1, named.1)) f.0 a.0)))))))
