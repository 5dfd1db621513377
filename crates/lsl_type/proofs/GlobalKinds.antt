-- Globals begin with values of their kinds.
use Rattle.std.proofs.Common.{◌≡◌, ℕ, zero, suc, Some, None, List, [], ◌∷◌, ◌++◌, map, length, sym, ap, ◌∙◌, subst}
use Rattle.std.proofs.Common.{slice_get, append-nil, append_assoc}
use Rattle.std.proofs.lemmas.List.{length-map, map-append}
use Rattle.lsl_value.specs.declared.tagged.Kind.{Kind}
use Rattle.lsl_tree.specs.declared.program_node.Place.{Place}
use Rattle.lsl_tree.specs.declared.program_node.Place.TheVariants.{Global, Slot}
use Rattle.lsl_tree.specs.Scripts as source
use Rattle.lsl_tree.specs.Scripts.{Simple, Header}
use Rattle.lsl_tree.specs.Program.{Initial}
use Rattle.lsl_tree.specs.Initials.{initial_kind_of, IsKindedInitial, AreKindedInitials}
use Rattle.lsl_bodies.specs.declared.faults.TypeKind.TheVariants.{DoubleName}
use Rattle.lsl_bodies.specs.declared.frame.Variable.{Variable}
use Rattle.lsl_bodies.specs.Scope.{spelled}
use Rattle.lsl_type.specs.Headers.{HeadersView, with_global, no_headers}
use Rattle.lsl_bodies.specs.Conversions.{empty_initial}
use Rattle.lsl_bodies.specs.Spans.{initial_span}
use Rattle.lsl_bodies.specs.Judgement.{at}
use Rattle.lsl_bodies.specs.Verdict.{must_verdict, each_verdict}
use Rattle.lsl_type.specs.HeaderVerdicts.{is_unused, param_verdict, header_verdict}
use Rattle.lsl_bodies.proofs.Yielding.{Yields, gives_yields, then_yields, rest_yields, each_yields}
use Rattle.lsl_bodies.proofs.Prefixes.{prefix_push, prefix_get, get_last}
use Rattle.lsl_type.proofs.InitialKinds.{GlobalAt, AreGlobals, initial_yields, become_yields, empty_kind}

-- the globals so far
abbrev kinds_so_far : HeadersView → List Kind
kinds_so_far h = map initial_kind_of h.globals

abbrev pub GlobalsIn : HeadersView → Type 0
GlobalsIn h = AreKindedInitials [] h.globals × AreGlobals (kinds_so_far h) h.scope.variables

initials_push : (before : List Kind) (gs : List Initial) (g : Initial) → AreKindedInitials before gs
    → IsKindedInitial (before ++ map initial_kind_of gs) g → AreKindedInitials before (gs ++ g ∷ [])
initials_push before [] g h k = (subst (λ l. IsKindedInitial l g) (append-nil before) k, tt)
initials_push before (x ∷ gs) g h k =
    let x' = initial_kind_of x ∷ [] in
    let all : IsKindedInitial ((before ++ x') ++ map initial_kind_of gs) g =
    subst (λ l. IsKindedInitial l g) (sym (append_assoc before x' (map initial_kind_of gs))) k in
    (h.0, initials_push (before ++ x') gs g h.1 all)

at_push : (globals : List Kind) (j : Kind) (p : Place) (k : Kind) → GlobalAt globals p k
    → GlobalAt (globals ++ j ∷ []) p k
at_push globals j (Global i) k h = prefix_get globals (globals ++ j ∷ []) i k (prefix_push globals j) h
at_push globals j (Slot i) k h = absurd h

globals_push : (globals more : List Kind) (vs : List Variable) (v : Variable)
    → ((p : Place) (k : Kind) → GlobalAt globals p k → GlobalAt more p k) → AreGlobals globals vs
    → GlobalAt more v.place v.kind
    → AreGlobals more (vs ++ v ∷ [])
globals_push globals more [] v up h k zero w e = let same : v ≡ w =
    cc in subst (λ (u : Variable). GlobalAt more u.place u.kind) same k
globals_push globals more [] v up h k (suc n) w e = absurd (cc)
globals_push globals more (x ∷ vs) v up h k zero w e = up w.place w.kind (h zero w e)
globals_push globals more (x ∷ vs) v up h k (suc n) w e =
    globals_push globals more vs v up (λ m u g. h (suc m) u g) k n w e

global_made : (h : HeadersView) (name : List ℕ) (k : Kind) (v : Initial) → GlobalsIn h
    → (initial_kind_of v ≡ k) × IsKindedInitial (kinds_so_far h) v → GlobalsIn (with_global h name k v)
global_made h name k v g i =
    let before = kinds_so_far h in
    let all : map initial_kind_of (h.globals ++ v ∷ []) ≡ before ++ k ∷ [] =
    map-append initial_kind_of h.globals (v ∷ []) ∙ ap (λ j. before ++ j ∷ []) i.0 in
    let here : slice_get (before ++ k ∷ []) (length h.globals) ≡ Some k =
    ap (slice_get (before ++ k ∷ [])) (sym (length-map h.globals initial_kind_of)) ∙ get_last before k in (
      initials_push [] h.globals v g.0 i.1,
      subst (λ l. AreGlobals l (with_global h name k v).scope.variables) (sym all)
          (globals_push before (before ++ k ∷ []) h.scope.variables
          (record { place = Global (length h.globals); kind = k })
          (at_push before k) g.1 here),
    )

header_yields : (h : HeadersView) (g : Header) → GlobalsIn h → Yields GlobalsIn (header_verdict h g)
header_yields h (source.Global k x None) p =
    rest_yields (must_verdict (is_unused h x) (at DoubleName x.span)) (λ u.
    gives_yields (global_made h (spelled x) k (empty_initial k) p (empty_kind (kinds_so_far h) h.scope p.1 k)))
header_yields h (source.Global k x (Some v)) p =
    then_yields (initial_yields (kinds_so_far h) h.scope p.1 v) (λ found w.
    rest_yields (must_verdict (is_unused h x) (at DoubleName x.span)) (λ u.
    then_yields (become_yields (kinds_so_far h) h.scope p.1 k found (initial_span v) w) (λ value i.
    gives_yields (global_made h (spelled x) k value p i))))
header_yields h (source.Function k x params es) p =
    rest_yields (must_verdict (is_unused h x) (at DoubleName x.span)) (λ u.
    rest_yields (each_verdict param_verdict [] params) (λ names.
    gives_yields p))

pub headers_yield : (hs : List Header) → Yields GlobalsIn (each_verdict header_verdict no_headers hs)
headers_yield hs = each_yields GlobalsIn header_verdict header_yields no_headers hs (tt, λ n v e. absurd (cc))
