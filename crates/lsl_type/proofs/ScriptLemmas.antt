-- The verdicts on scripts are those of the rules.
use Rattle.std.proofs.Common.{◌≡◌, ℕ, Bool, true, false, Option, Some, None, List, [], ◌∷◌, ◌++◌, length, refl, sym, ap}
use Rattle.std.proofs.Common.{◌∙◌, subst, ◌⊎◌, inl, inr, arith, not, nat_eq, eq-eqb}
use Rattle.std.specs.Prelude.{Ok, ◌||◌, is_some, Contains, if◌then◌else◌, ◌&&◌}
use Rattle.std.proofs.lemmas.Bool.Decides.{nat_tests}
use Rattle.lsl_text.specs.declared.Span.{Span}
use Rattle.lsl_value.specs.declared.tagged.Kind.{Kind}
use Rattle.lsl_value.specs.declared.tagged.Kind.TheVariants.{List as ListKind}
use Rattle.lsl_value.specs.declared.names.EventId.{EventId}
use Rattle.lsl_value.specs.declared.names.EventId.TheVariants as event
use Rattle.lsl_value.specs.declared.names.ConstantId.{ConstantId}
use Rattle.lsl_tree.specs.declared.expression.Name.{Name}
use Rattle.lsl_tree.specs.declared.script.Atom.{Atom}
use Rattle.lsl_tree.specs.declared.script.Atom.TheVariants as atom
use Rattle.lsl_tree.specs.declared.script.Param.{Param}
use Rattle.lsl_tree.specs.declared.program.Part.{Part}
use Rattle.lsl_tree.specs.declared.program.Part.TheVariants as part
use Rattle.lsl_tree.specs.declared.program_node.Place.{Place}
use Rattle.lsl_tree.specs.declared.program_node.Place.TheVariants.{Global, Slot}
use Rattle.lsl_tree.specs.Statements.{Items}
use Rattle.lsl_tree.specs.Scripts as source
use Rattle.lsl_tree.specs.Scripts.{Simple, Header, State, Tree}
use Rattle.lsl_tree.specs.Program as program
use Rattle.lsl_tree.specs.Program.{Initial, NamedRoutine, EventRoutine, ProgramState}
use Rattle.lsl_bodies.specs.declared.faults.TypeKind.TheVariants.{DoubleName, WrongKind, NotConstant, WrongHandler}
use Rattle.lsl_bodies.specs.declared.frame.Variable.{Variable}
use Rattle.lsl_bodies.specs.declared.frame.Home.{Home}
use Rattle.lsl_bodies.specs.declared.frame.Home.TheVariants.{Handler, Function}
use Rattle.lsl_bodies.specs.Names.{nearest}
use Rattle.lsl_bodies.specs.Scope.{ScopeView, spelled, entered, opened, IsVariable, variable_of}
use Rattle.lsl_bodies.specs.Known.{KnownView, kinds_of}
use Rattle.lsl_type.specs.Headers.{HeadersView, with_global, with_function, no_headers, known_from}
use Rattle.lsl_bodies.specs.Table.{IsReserved, is_reserved, constant_of, IsEvent, event_of, event_params_of}
use Rattle.lsl_bodies.specs.Table.{constant_kind_of}
use Rattle.lsl_tree.specs.Initials.{initial_kind_of, part_kind_of}
use Rattle.lsl_bodies.specs.Conversions.{initial_as_kind, empty_initial, is_no_list}
use Rattle.lsl_bodies.specs.Sameness.{same_kind, same_kinds, event_code, same_event}
use Rattle.lsl_bodies.specs.Spans.{atom_span, initial_span}
use Rattle.lsl_bodies.specs.ActionForms.{ended}
use Rattle.lsl_bodies.specs.Judgement.{at, the_one, must, each}
use Rattle.lsl_bodies.specs.Verdict.{the_one_verdict, must_verdict, each_verdict}
use Rattle.lsl_bodies.specs.ActionRules.{items}
use Rattle.lsl_bodies.specs.ActionVerdicts.{items_verdict}
use Rattle.lsl_type.specs.HeaderRules.{IsInitial, initial_part, next_part, flat_parts, initial, IsUnused, param}
use Rattle.lsl_type.specs.HeaderRules.{initial_become, header, handler, state}
use Rattle.lsl_bodies.specs.BodyRules.{body}
use Rattle.lsl_type.specs.ScriptRules.{function_routine, function_body, handler_routine, handler_body}
use Rattle.lsl_type.specs.ScriptRules.{program_state, state_body, default_name, script}
use Rattle.lsl_type.specs.HeaderVerdicts.{constant_part, part_of, part_by, initial_part_verdict, next_part_verdict}
use Rattle.lsl_type.specs.HeaderVerdicts.{flat_parts_verdict, initial_verdict, is_unused, param_verdict}
use Rattle.lsl_type.specs.HeaderVerdicts.{initial_become_verdict, header_verdict, has_event, handler_verdict}
use Rattle.lsl_type.specs.HeaderVerdicts.{state_verdict}
use Rattle.lsl_bodies.specs.BodyVerdicts.{body_verdict}
use Rattle.lsl_type.specs.ScriptVerdicts.{function_routine_verdict, function_body_verdict}
use Rattle.lsl_type.specs.ScriptVerdicts.{handler_routine_verdict, handler_body_verdict, program_state_verdict}
use Rattle.lsl_type.specs.ScriptVerdicts.{state_body_verdict, script_verdict}
use Rattle.lsl_bodies.proofs.Deciding.{Decides, gives_decides, then_decides, the_one_decides, must_decides}
use Rattle.lsl_bodies.proofs.Deciding.{must_not_decides, test_decides, entry_decides, each_decides, decides_as}
use Rattle.lsl_bodies.proofs.NameLemmas.{nearest_contains, contains_nearest, Contains-none, Contains-head, Contains-tail}
use Rattle.lsl_bodies.proofs.NameLemmas.{Contains-cases}
use Rattle.lsl_bodies.proofs.TableLemmas.{constant_of-some, constant_of-named, event_of-some, event_of-named}
use Rattle.lsl_bodies.proofs.RuleLemmas.{variable_of-some, is_variable-of, is_kind_true, is_kind_same}
use Rattle.lsl_bodies.proofs.ActionLemmas.{or_left, or_right, or_cases, reserved_is, is_reserved-of, neither}
use Rattle.lsl_bodies.proofs.ActionLemmas.{items_decides}

-- what a name in a global's value refers to
abbrev part_option : Option Variable → Option ConstantId → Option Part
part_option (Some v) k = part_of v
part_option None k = constant_part k

part_same : (o : Option Variable) (x : Name)
    → part_by o x ≡ the_one_verdict (part_option o (constant_of (spelled x))) (at NotConstant x.span)
part_same (Some v) x = refl
part_same None x = refl

abbrev global_at : ℕ → Kind → Variable
global_at n k = record { place = Global n; kind = k }

variable_part : (s : ScopeView) (x : Name) (place : Place) (k : Kind)
    → IsVariable s (spelled x) (record { place = place; kind = k })
    → (p : Part) → part_of (record { place = place; kind = k }) ≡ Some p → IsInitial s x p
variable_part s x (Global n) k iv p h = let same : part.Global n k ≡ p = cc in subst (IsInitial s x) same iv
variable_part s x (Slot n) k iv p h = absurd (cc)

part_some : (s : ScopeView) (x : Name) (o : Option Variable) (k : Option ConstantId)
    → variable_of s (spelled x) ≡ o → constant_of (spelled x) ≡ k
    → (p : Part) → part_option o k ≡ Some p → IsInitial s x p
part_some s x (Some v) k ev ek p h = variable_part s x v.place v.kind (variable_of-some s (spelled x) v ev) p h
part_some s x None None ev ek p h = absurd (cc)
part_some s x None (Some id) ev ek p h =
    let same : part.Constant id (constant_kind_of id) ≡ p = cc in
    subst (IsInitial s x) same (
      (λ v iv. let e : None ≡ Some v = sym ev ∙ is_variable-of s (spelled x) v iv in
          cc),
      constant_of-some (spelled x) id ek,
      refl,
    )

part_found : (s : ScopeView) (x : Name) (o : Option Variable) (k : Option ConstantId)
    → variable_of s (spelled x) ≡ o → constant_of (spelled x) ≡ k
    → (p : Part) → IsInitial s x p → part_option o k ≡ Some p
part_found s x o k ev ek (part.Int n) h = absurd h
part_found s x o k ev ek (part.Negative n) h = absurd h
part_found s x o k ev ek (part.Str t) h = absurd h
part_found s x None k ev ek (part.Constant id kind) h =
    ap constant_part (sym ek ∙ constant_of-named (spelled x) id h.1)
    ∙ ap (λ z. Some (part.Constant id z)) (sym h.2)
part_found s x (Some v) k ev ek (part.Constant id kind) h = absurd (h.0 v (variable_of-some s (spelled x) v ev))
part_found s x o k ev ek (part.Global n kind) h =
    ap (λ (z : Option Variable). part_option z k) (sym ev ∙ is_variable-of s (spelled x) (global_at n kind) h)

initial_part_decides : (s : ScopeView) (a : Atom) → Decides (initial_part s a) (initial_part_verdict s a)
initial_part_decides s (atom.Int n span) = gives_decides (part.Int n)
initial_part_decides s (atom.Negative n span) = gives_decides (part.Negative n)
initial_part_decides s (atom.Str t span) = gives_decides (part.Str t)
initial_part_decides s (atom.Constant x) =
    let o = variable_of s (spelled x) in
    let k = constant_of (spelled x) in
    decides_as _ (part_by o x) (the_one_verdict (part_option o k) (at NotConstant x.span)) (part_same o x)
    (the_one_decides (IsInitial s x) (at NotConstant x.span) (part_option o k) (part_some s x o k refl refl)
    (part_found s x o k refl refl))

next_part_decides : (s : ScopeView) (before : List Part) (a : Atom)
    → Decides (next_part s before a) (next_part_verdict s before a)
next_part_decides s before a = then_decides (initial_part s a) _ (initial_part_verdict s a) _
    (initial_part_decides s a) (λ p. gives_decides (before ++ p ∷ []))

flat_parts_decides : (atoms : List Atom) (ps : List Part) → Decides (flat_parts atoms ps) (flat_parts_verdict atoms ps)
flat_parts_decides [] ps = gives_decides tt
flat_parts_decides (a ∷ rest) [] = gives_decides tt
flat_parts_decides (a ∷ rest) (p ∷ ps) =
    then_decides _ _ (must_verdict (is_no_list (part_kind_of p))
    (at (WrongKind None (Some ListKind)) (atom_span a))) _
    (test_decides (at (WrongKind None (Some ListKind)) (atom_span a)) (is_no_list (part_kind_of p)))
    (λ u. flat_parts_decides rest ps)

initial_decides : (s : ScopeView) (v : Simple) → Decides (initial s v) (initial_verdict s v)
initial_decides s (source.Atom a) = then_decides (initial_part s a) _ (initial_part_verdict s a) _
    (initial_part_decides s a) (λ p. gives_decides (program.Single p))
initial_decides s (source.Atoms span atoms) =
    then_decides (each (next_part s) [] atoms) _ (each_verdict (next_part_verdict s) [] atoms) _
    (each_decides (next_part s) (next_part_verdict s) (next_part_decides s) [] atoms) (λ ps.
    then_decides (flat_parts atoms ps) _ (flat_parts_verdict atoms ps) _ (flat_parts_decides atoms ps)
    (λ u. gives_decides (program.ListLiteral ps)))

abbrev Either_has : List (List ℕ) → List (List ℕ) → List ℕ → Type 0
Either_has xs ys name = Contains xs name ⊎ Contains ys name

either_is : (xs ys : List (List ℕ)) (name : List ℕ)
    → (is_some (nearest name xs) || is_some (nearest name ys)) ≡ true → Either_has xs ys name
either_is xs ys name h = elim (or_cases (is_some (nearest name xs)) (is_some (nearest name ys)) h)
    [ inl a ↦ inl (nearest_contains name xs a) | inr b ↦ inr (nearest_contains name ys b) ]

is_either : (xs ys : List (List ℕ)) (name : List ℕ) → Either_has xs ys name
    → (is_some (nearest name xs) || is_some (nearest name ys)) ≡ true
is_either xs ys name (inl a) = or_left (is_some (nearest name xs)) (is_some (nearest name ys))
    (contains_nearest name xs a)
is_either xs ys name (inr b) = or_right (is_some (nearest name xs)) (is_some (nearest name ys))
    (contains_nearest name ys b)

unused_decides : (h : HeadersView) (x : Name)
    → Decides (must (IsUnused h x) (at DoubleName x.span)) (must_verdict (is_unused h x) (at DoubleName x.span))
unused_decides h x =
    let d = neither (IsReserved (spelled x)) (Either_has h.scope.names h.functions (spelled x))
    (is_reserved (spelled x)) (is_some (nearest (spelled x) h.scope.names) || is_some
    (nearest (spelled x) h.functions))
    (reserved_is (spelled x)) (is_reserved-of (spelled x)) (either_is h.scope.names h.functions (spelled x))
    (is_either h.scope.names h.functions (spelled x)) (at DoubleName x.span) in
    must_by (is_unused h x) d
  where
    must_by : (b : Bool) → Decides (must ((IsReserved (spelled x) → ⊥)
        × (Either_has h.scope.names h.functions (spelled x) → ⊥)) (at DoubleName x.span))
        (must_verdict b (at DoubleName x.span))
        → Decides (must (IsUnused h x) (at DoubleName x.span)) (must_verdict b (at DoubleName x.span))
    must_by b d = must_decides (IsUnused h x) (at DoubleName x.span) b
        (λ e. let p = d.ok tt (ap (λ z. must_verdict z (at DoubleName x.span)) e) in
        (p.0, (λ c. p.1 (inl c)), (λ c. p.1 (inr c))))
        (λ u. yes_of b (d.types tt (u.0, (λ s. elim s [ inl c ↦ u.1 c | inr c ↦ u.2 c ]))))
      where
        yes_of : (b : Bool) → must_verdict b (at DoubleName x.span) ≡ Ok tt → b ≡ true
        yes_of true e = refl
        yes_of false e = absurd (cc)

param_decides : (names : List (List ℕ)) (p : Param) → Decides (param names p) (param_verdict names p)
param_decides names p =
    then_decides _ _ (must_verdict (not (is_reserved (spelled p.name) || is_some
    (nearest (spelled p.name) names))) (at DoubleName p.name.span)) _
    (neither (IsReserved (spelled p.name)) (Contains names (spelled p.name)) (is_reserved (spelled p.name))
    (is_some (nearest (spelled p.name) names))
    (reserved_is (spelled p.name)) (is_reserved-of (spelled p.name)) (nearest_contains (spelled p.name) names)
    (contains_nearest (spelled p.name) names) (at DoubleName p.name.span))
    (λ u. gives_decides (spelled p.name ∷ names))

first_become_decides : (k : Kind) (found : Initial) (span : Span)
    → Decides (initial_become k found span) (initial_become_verdict k found span)
first_become_decides k found span = entry_decides (initial_as_kind k found)
    (at (WrongKind (Some k) (Some (initial_kind_of found))) span)

header_decides : (h : HeadersView) (g : Header) → Decides (header h g) (header_verdict h g)
header_decides h (source.Global k x None) =
    then_decides _ _ (must_verdict (is_unused h x) (at DoubleName x.span)) _ (unused_decides h x)
    (λ u. gives_decides (with_global h (spelled x) k (empty_initial k)))
header_decides h (source.Global k x (Some v)) =
    then_decides (initial h.scope v) _ (initial_verdict h.scope v) _ (initial_decides h.scope v) (λ found.
    then_decides _ _ (must_verdict (is_unused h x) (at DoubleName x.span)) _ (unused_decides h x) (λ u.
    then_decides (initial_become k found (initial_span v)) _ (initial_become_verdict k found (initial_span v)) _
    (first_become_decides k found (initial_span v)) (λ w. gives_decides (with_global h (spelled x) k w))))
header_decides h (source.Function k x params es) =
    then_decides _ _ (must_verdict (is_unused h x) (at DoubleName x.span)) _ (unused_decides h x) (λ u.
    then_decides (each param [] params) _ (each_verdict param_verdict [] params) _
    (each_decides param param_verdict param_decides [] params)
    (λ names. gives_decides (with_function h (spelled x) k params)))

event_decides : (x : Name) → Decides (the_one (IsEvent (spelled x)) (at WrongHandler x.span))
    (the_one_verdict (event_of (spelled x)) (at WrongHandler x.span))
event_decides x = the_one_decides (IsEvent (spelled x)) (at WrongHandler x.span) (event_of (spelled x))
    (event_of-some (spelled x)) (event_of-named (spelled x))

event_at : ℕ → EventId
event_at n = if nat_eq n 1 then event.StateEntry else if nat_eq n 2 then event.StateExit else if nat_eq n 3
    then event.TouchStart else if nat_eq n 4 then event.Touch else if nat_eq n 5 then event.TouchEnd
    else if nat_eq n 6 then event.Listen else if nat_eq n 7 then event.Timer else if nat_eq n 8
    then event.LinkMessage else if nat_eq n 9 then event.Changed else if nat_eq n 10 then event.OnRez
    else if nat_eq n 11 then event.Dataserver else event.LinksetData

event_at-code : (e : EventId) → event_at (event_code e) ≡ e
unfolding event_at
event_at-code event.StateEntry = refl
event_at-code event.StateExit = refl
event_at-code event.TouchStart = refl
event_at-code event.Touch = refl
event_at-code event.TouchEnd = refl
event_at-code event.Listen = refl
event_at-code event.Timer = refl
event_at-code event.LinkMessage = refl
event_at-code event.Changed = refl
event_at-code event.OnRez = refl
event_at-code event.Dataserver = refl
event_at-code event.LinksetData = refl

eqb_same : (m n : ℕ) → nat_eq m n ≡ true → m ≡ n
eqb_same m n h = grind (arith, nat_tests)

pub event_same : (a b : EventId) → same_event a b ≡ true → a ≡ b
event_same a b h = sym (event_at-code a) ∙ (ap event_at (eqb_same (event_code a) (event_code b) h) ∙ event_at-code b)

pub same_event-same : (a b : EventId) → a ≡ b → same_event a b ≡ true
same_event-same a b h = eq-eqb (event_code a) (event_code b) (ap event_code h)

has_is : (events : List EventId) (e : EventId) → has_event events e ≡ true → Contains events e
has_is [] e h = absurd (cc)
has_is (x ∷ xs) e h = elim (or_cases (same_event x e) (has_event xs e) h) [
  | inl s ↦ subst (λ y. Contains (x ∷ xs) y) (event_same x e s) (Contains-head x xs)
  | inr t ↦ Contains-tail x e xs (has_is xs e t)
]

pub is_has : (events : List EventId) (e : EventId) → Contains events e → has_event events e ≡ true
is_has [] e h = absurd (Contains-none e h)
is_has (x ∷ xs) e h = elim (Contains-cases x e xs h) [
  | inl s ↦ or_left (same_event x e) (has_event xs e) (same_event-same x e s)
  | inr t ↦ or_right (same_event x e) (has_event xs e) (is_has xs e t)
]

kind_is : (a b : Kind) → same_kind a b ≡ true → a ≡ b
kind_is a b h = let e = is_kind_true (Some a) b h in cc

and_parts : (a b : Bool) → (a && b) ≡ true → (a ≡ true) × (b ≡ true)
and_parts true b h = (refl, h)
and_parts false b h = absurd (cc)

pub kinds_is : (a b : List Kind) → same_kinds a b ≡ true → a ≡ b
kinds_is [] [] h = refl
kinds_is [] (y ∷ b) h = absurd (cc)
kinds_is (x ∷ a) [] h = absurd (cc)
kinds_is (x ∷ a) (y ∷ b) h =
    let p = and_parts (same_kind x y) (same_kinds a b) h in
    ap (λ z. z ∷ a) (kind_is x y p.0) ∙ ap (λ z. y ∷ z) (kinds_is a b p.1)

kinds_same : (a : List Kind) → same_kinds a a ≡ true
kinds_same [] = refl
kinds_same (x ∷ a) = ap (λ z. z && same_kinds a a) (is_kind_same x) ∙ kinds_same a

is_kinds : (a b : List Kind) → a ≡ b → same_kinds a b ≡ true
is_kinds a b h = subst (λ z. same_kinds a z ≡ true) h (kinds_same a)

handler_decides : (events : List EventId) (h : source.Handler) → Decides (handler events h) (handler_verdict events h)
handler_decides events h =
    then_decides _ _ (the_one_verdict (event_of (spelled h.name)) (at WrongHandler h.name.span)) _
    (event_decides h.name) (λ e.
    then_decides _ _ (must_verdict (not (has_event events e)) (at DoubleName h.name.span)) _
    (must_not_decides (Contains events e) (at DoubleName h.name.span) (has_event events e) (has_is events e)
    (is_has events e)) (λ u.
    then_decides _ _ (must_verdict (same_kinds (kinds_of h.params) (event_params_of e)) (at WrongHandler h.name.span)) _
    (must_decides (kinds_of h.params ≡ event_params_of e) (at WrongHandler h.name.span)
    (same_kinds (kinds_of h.params) (event_params_of e)) (kinds_is (kinds_of h.params) (event_params_of e))
    (is_kinds (kinds_of h.params) (event_params_of e))) (λ v.
    then_decides (each param [] h.params) _ (each_verdict param_verdict [] h.params) _
    (each_decides param param_verdict param_decides [] h.params)
    (λ names. gives_decides (events ++ e ∷ [])))))

state_decides : (names : List (List ℕ)) (s : State) → Decides (state names s) (state_verdict names s)
state_decides names s =
    then_decides _ _ (must_verdict (not (is_some (nearest (spelled s.name) names))) (at DoubleName s.name.span)) _
    (must_not_decides (Contains names (spelled s.name)) (at DoubleName s.name.span)
    (is_some (nearest (spelled s.name) names)) (nearest_contains (spelled s.name) names)
    (contains_nearest (spelled s.name) names)) (λ u.
    then_decides (each handler [] s.handlers) _ (each_verdict handler_verdict [] s.handlers) _
    (each_decides handler handler_verdict handler_decides [] s.handlers)
    (λ events. gives_decides (spelled s.name ∷ names)))

body_decides : (known : KnownView) (s : ScopeView) (home : Home) (x : Name) (kind : Option Kind)
    (params : List Param) (es : Items)
    → Decides (body known s home x kind params es) (body_verdict known s home x kind params es)
body_decides known s home x kind params es =
    then_decides (items known home (opened (entered s params) es) es) _
    (items_verdict known home (opened (entered s params) es) es) _
    (items_decides known home (opened (entered s params) es) es) (λ inner.
    gives_decides (record {
      line = x.span.line;
      kind = kind;
      params = length params;
      slots =
          inner.1.slots;
      body = ended kind inner.0;
    }))

function_body_decides : (known : KnownView) (s : ScopeView) (before : List NamedRoutine) (h : Header)
    → Decides (function_body known s before h) (function_body_verdict known s before h)
function_body_decides known s before (source.Global k x v) = gives_decides before
function_body_decides known s before (source.Function k x params es) =
    then_decides (function_routine known s k x params es) _ (function_routine_verdict known s k x params es) _
    (then_decides (body known s (Function k) x k params es) _ (body_verdict known s (Function k) x k params es)
    _ (body_decides known s (Function k) x k params es)
    (λ routine. gives_decides (record { name = x.text; routine = routine })))
    (λ routine. gives_decides (before ++ routine ∷ []))

handler_routine_decides : (known : KnownView) (s : ScopeView) (h : source.Handler)
    → Decides (handler_routine known s h) (handler_routine_verdict known s h)
handler_routine_decides known s h =
    then_decides _ _ (the_one_verdict (event_of (spelled h.name)) (at WrongHandler h.name.span)) _
    (event_decides h.name) (λ e.
    then_decides (body known s Handler h.name None h.params h.body) _
    (body_verdict known s Handler h.name None h.params h.body) _
    (body_decides known s Handler h.name None h.params h.body) (λ routine.
    gives_decides (record { event = e; routine = routine })))

handler_body_decides : (known : KnownView) (s : ScopeView) (before : List EventRoutine) (h : source.Handler)
    → Decides (handler_body known s before h) (handler_body_verdict known s before h)
handler_body_decides known s before h =
    then_decides (handler_routine known s h) _ (handler_routine_verdict known s h) _
    (handler_routine_decides known s h) (λ routine. gives_decides (before ++ routine ∷ []))

program_state_decides : (known : KnownView) (s : ScopeView) (st : State)
    → Decides (program_state known s st) (program_state_verdict known s st)
program_state_decides known s st =
    then_decides (each (handler_body known s) [] st.handlers) _
    (each_verdict (handler_body_verdict known s) [] st.handlers) _
    (each_decides (handler_body known s) (handler_body_verdict known s) (handler_body_decides known s) []
    st.handlers) (λ handlers.
    gives_decides (record { name = st.name.text; handlers = handlers }))

state_body_decides : (known : KnownView) (s : ScopeView) (before : List ProgramState) (st : State)
    → Decides (state_body known s before st) (state_body_verdict known s before st)
state_body_decides known s before st =
    then_decides (program_state known s st) _ (program_state_verdict known s st) _
    (program_state_decides known s st) (λ routine. gives_decides (before ++ routine ∷ []))

pub script_decides : (tree : Tree) → Decides (script tree) (script_verdict tree)
script_decides tree =
    then_decides (each header no_headers tree.headers) _ (each_verdict header_verdict no_headers tree.headers) _
    (each_decides header header_verdict header_decides no_headers tree.headers) (λ headers.
    then_decides (each handler [] tree.default) _ (each_verdict handler_verdict [] tree.default) _
    (each_decides handler handler_verdict handler_decides [] tree.default) (λ events.
    then_decides (each state [] tree.states) _ (each_verdict state_verdict [] tree.states) _
    (each_decides state state_verdict state_decides [] tree.states) (λ states.
    let k = known_from headers states in
    let s = headers.scope in
    then_decides (each (function_body k s) [] tree.headers) _
    (each_verdict (function_body_verdict k s) [] tree.headers) _
    (each_decides (function_body k s) (function_body_verdict k s) (function_body_decides k s) []
    tree.headers) (λ functions.
    then_decides (each (handler_body k s) [] tree.default) _
    (each_verdict (handler_body_verdict k s) [] tree.default) _
    (each_decides (handler_body k s) (handler_body_verdict k s) (handler_body_decides k s) [] tree.default)
    (λ start.
    then_decides (each (state_body k s) (record { name = default_name; handlers = start } ∷ []) tree.states) _
    (each_verdict (state_body_verdict k s) (record { name = default_name; handlers = start } ∷ [])
    tree.states) _
    (each_decides (state_body k s) (state_body_verdict k s) (state_body_decides k s)
    (record { name = default_name; handlers = start } ∷ []) tree.states) (λ all.
    gives_decides (record { globals = headers.globals; functions = functions; states = all })))))))
