-- A state's handlers have the parameters of their events, and a state has an event once.
use Rattle.std.proofs.Common.{◌≡◌, ℕ, true, Option, Some, List, [], ◌∷◌, ◌++◌, map, refl, sym, ap, ◌∙◌, subst, inl}
use Rattle.std.proofs.Common.{inr, not}
use Rattle.std.specs.Prelude.{is_some, Contains, All}
use Rattle.std.proofs.lemmas.List.{map-append}
use Rattle.std.proofs.lemmas.List.Elements.{All-nil, All-push}
use Rattle.lsl_value.specs.declared.tagged.Kind.{Kind}
use Rattle.lsl_value.specs.declared.names.EventId.{EventId}
use Rattle.lsl_table.specs.Events.{signature_of}
use Rattle.lsl_tree.specs.Scripts.{Handler, State}
use Rattle.lsl_tree.specs.Program.{EventRoutine, ProgramState}
use Rattle.lsl_tree.specs.Kinded.{IsHandler, EventsDiffer}
use Rattle.lsl_bodies.specs.declared.faults.TypeKind.TheVariants.{DoubleName, WrongHandler}
use Rattle.lsl_bodies.specs.declared.frame.Home.TheVariants as home
use Rattle.lsl_bodies.specs.Names.{nearest}
use Rattle.lsl_bodies.specs.Scope.{ScopeView, spelled}
use Rattle.lsl_bodies.specs.Known.{KnownView, kinds_of}
use Rattle.lsl_bodies.specs.Table.{event_of, event_params_of}
use Rattle.lsl_bodies.specs.Sameness.{same_kinds}
use Rattle.lsl_bodies.specs.Judgement.{at}
use Rattle.lsl_bodies.specs.Verdict.{must_verdict, each_verdict}
use Rattle.lsl_type.specs.HeaderVerdicts.{param_verdict, has_event, handler_verdict, state_verdict}
use Rattle.lsl_type.specs.ScriptVerdicts.{handler_routine_verdict, handler_body_verdict, program_state_verdict}
use Rattle.lsl_bodies.proofs.Yielding.{Yields, gives_yields, then_yields, rest_yields, weaker_yields, entry_yields}
use Rattle.lsl_bodies.proofs.Yielding.{must_yields, each_yields, each_keeps, each_shows, gathered, each_gathers}
use Rattle.lsl_bodies.proofs.NameLemmas.{Contains-none, Contains-cases}
use Rattle.lsl_type.proofs.ScriptLemmas.{kinds_is, is_has}
use Rattle.lsl_bodies.proofs.ListLemmas.{AreApart, apart_append, apart_pairs_by}
use Rattle.lsl_bodies.proofs.RoutineKinds.{RoutineIn, GlobalsHave, body_yields}

-- the events of handlers, in their order
abbrev event_in : Handler → List (Option EventId)
event_in h = event_of (spelled h.name) ∷ []

abbrev IsMatched : Handler → Type 0
IsMatched h = (event : EventId) → event_of (spelled h.name) ≡ Some event → kinds_of h.params ≡ signature_of event

-- handlers that a state may have
pub record AreStateHandlers (hs : List Handler) : Type 0 where
  pub matched : All IsMatched hs
  pub apart : (events : List EventId) → map Some events ≡ gathered event_in hs → AreApart events

some_same : {T : Type 0} (a b : T) → Some a ≡ Some b → a ≡ b
some_same a b e = cc

somes_same : (xs ys : List EventId) → map Some xs ≡ map Some ys → xs ≡ ys
somes_same [] [] e = refl
somes_same [] (y ∷ ys) e = absurd (cc)
somes_same (x ∷ xs) [] e = absurd (cc)
somes_same (x ∷ xs) (y ∷ ys) e =
    let head : x ≡ y = cc in
    let tail : map Some xs ≡ map Some ys = cc in
    ap (λ z. z ∷ xs) head ∙ ap (λ l. y ∷ l) (somes_same xs ys tail)

apart_push : (events : List EventId) (event : EventId) → AreApart events → (Contains events event → ⊥)
    → AreApart (events ++ event ∷ [])
apart_push events event a never =
    apart_append events (event ∷ []) a (Contains-none event, tt) (λ x i j. elim (Contains-cases event x [] j) [
      | inl s ↦ never (subst (Contains events) (sym s) i)
      | inr n ↦ Contains-none x n
    ])

fresh_event : (events : List EventId) (event : EventId) → not (has_event events event) ≡ true
    → Contains events event → ⊥
fresh_event events event fresh c =
    let no : not true ≡ true = sym (ap not (is_has events event c)) ∙ fresh in
    absurd (cc)

-- what the look at a handler's header shows
abbrev SeesHandler : List EventId → Handler → List EventId → Type 0
SeesHandler events h next =
    IsMatched h × (AreApart events → AreApart next) × (map Some next ≡ map Some events ++ event_in h)

sees : (events : List EventId) (h : Handler) (event : EventId) → event_of (spelled h.name) ≡ Some event
    → not (has_event events event) ≡ true
    → same_kinds (kinds_of h.params) (event_params_of event) ≡ true → SeesHandler events h (events ++ event ∷ [])
unfolding event_params_of
sees events h event e fresh kinds = (
  λ other f.
      let same : event ≡ other = some_same event other (sym e ∙ f) in
      kinds_is (kinds_of h.params) (event_params_of event) kinds ∙ ap signature_of same,
  (λ a. apart_push events event a (fresh_event events event fresh)),
  map-append Some events (event ∷ []) ∙ ap (λ o. map Some events ++ o ∷ []) (sym e),
)

handler_sees : (events : List EventId) (h : Handler) → Yields (SeesHandler events h) (handler_verdict events h)
handler_sees events h =
    let name = event_of (spelled h.name) in
    then_yields (entry_yields name (at WrongHandler h.name.span)) (λ event e.
    let fresh = not (has_event events event) in
    let kinds = same_kinds (kinds_of h.params) (event_params_of event) in
    then_yields (must_yields fresh (at DoubleName h.name.span)) (λ u f.
    then_yields (must_yields kinds (at WrongHandler h.name.span)) (λ u k.
    rest_yields (each_verdict param_verdict [] h.params) (λ names.
    gives_yields (sees events h event e f k)))))

pub handlers_agree : (hs : List Handler) → Yields (λ events. AreStateHandlers hs) (each_verdict handler_verdict [] hs)
handlers_agree hs =
    let matched =
    each_shows IsMatched handler_verdict (λ events h. weaker_yields (handler_sees events h) (λ next s. s.0)) []
    hs in
    let apart =
    each_yields AreApart handler_verdict (λ events h a. weaker_yields (handler_sees events h) (λ next s. s.1 a)) []
    hs tt in
    let order = each_gathers (map Some) event_in handler_verdict
    (λ events h. weaker_yields (handler_sees events h) (λ next s. s.2)) [] hs in
    record {
      ok = λ found e. record {
        matched = matched.ok found e;
        apart = λ events g. subst AreApart (somes_same found events (order.ok found e ∙ sym g)) (apart.ok found e);
      };
    }

pub state_agrees : (names : List (List ℕ)) (s : State)
    → Yields (λ n. AreStateHandlers s.handlers) (state_verdict names s)
state_agrees names s =
    rest_yields (must_verdict (not (is_some (nearest (spelled s.name) names))) (at DoubleName s.name.span)) (λ u.
    then_yields (handlers_agree s.handlers) (λ events f.
    gives_yields f))

abbrev pub state_with : List EventRoutine → List ℕ → ProgramState
state_with rs name = record { name = name; handlers = rs }

-- a handler, and the handlers of a state, in a program that declares this
pub record HandlerIn (known : KnownView) (globals : List Kind) (h : EventRoutine) : Type 0 where
  pub routine : RoutineIn known globals h.routine
  pub handler : IsHandler h

pub record StateIn (known : KnownView) (globals : List Kind) (s : ProgramState) : Type 0 where
  pub handlers : All (HandlerIn known globals) s.handlers
  pub events : EventsDiffer s

module _ (known : KnownView) (globals : List Kind) (s : ScopeView) (have : GlobalsHave known globals s) where
  abbrev HandlersIn : List EventRoutine → Type 0
  HandlersIn rs = All (HandlerIn known globals) rs

  abbrev MakesHandler : Handler → EventRoutine → Type 0
  MakesHandler h r = (event_of (spelled h.name) ≡ Some r.event) × (IsMatched h → HandlerIn known globals r)

  handler_made : (h : Handler) → Yields (MakesHandler h) (handler_routine_verdict known s h)
  handler_made h =
      let name = event_of (spelled h.name) in
      then_yields (entry_yields name (at WrongHandler h.name.span)) (λ event e.
      then_yields (body_yields known globals s have home.Handler h.name h.params h.body) (λ r p.
      gives_yields (
        e,
        λ matched. record {
          routine = p.0;
          handler = record { params = ap (λ g. g.params) p.1 ∙ matched event e; result = ap (λ g. g.result) p.1 };
        },
      )))

  abbrev events_in : List EventRoutine → List (Option EventId)
  events_in rs = map (λ r. Some r.event) rs

  -- one more handler
  abbrev Next : List EventRoutine → Handler → List EventRoutine → Type 0
  Next before h rs = (IsMatched h → HandlersIn before → HandlersIn rs) × (events_in rs ≡ events_in before ++ event_in h)

  next_made : (before : List EventRoutine) (h : Handler)
      → Yields (Next before h) (handler_body_verdict known s before h)
  next_made before h =
      then_yields (handler_made h) (λ r m.
      gives_yields (
        (λ matched b. All-push (HandlerIn known globals) before r b (m.1 matched)),
        map-append (λ (r : EventRoutine). Some r.event) before (r ∷ [])
            ∙ ap (λ o. events_in before ++ o ∷ []) (sym m.0),
      ))

  two_maps : (rs : List EventRoutine) → map Some (map (λ r. r.event) rs) ≡ events_in rs
  two_maps [] = refl
  two_maps (r ∷ rs) = ap (λ l. Some r.event ∷ l) (two_maps rs)

  pub handlers_made : (hs : List Handler) → AreStateHandlers hs
      → Yields (λ rs. HandlersIn rs × ((name : List ℕ) → EventsDiffer (state_with rs name)))
      (each_verdict (handler_body_verdict known s) [] hs)
  handlers_made hs fit =
      let kept = each_keeps IsMatched HandlersIn (handler_body_verdict known s)
      (λ before h matched b. weaker_yields (next_made before h) (λ rs n. n.0 matched b)) [] hs fit.matched
      (All-nil (HandlerIn known globals)) in
      let order = each_gathers events_in event_in (handler_body_verdict known s)
      (λ before h. weaker_yields (next_made before h) (λ rs n. n.1)) [] hs in
      record {
        ok = λ rs e. (
          kept.ok rs e,
          λ name.
              apart_pairs_by (λ (r : EventRoutine). r.event) rs
              (fit.apart (map (λ r. r.event) rs) (two_maps rs ∙ order.ok rs e)),
        );
      }

  pub state_made : (st : State) → AreStateHandlers st.handlers
      → Yields (StateIn known globals) (program_state_verdict known s st)
  state_made st fit =
      then_yields (handlers_made st.handlers fit) (λ rs h.
      gives_yields (record { handlers = h.0; events = h.1 st.name.text }))
