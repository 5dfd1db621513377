-- Functions have their kinds and their shape, and are called as their headers say.
use Rattle.std.proofs.Common.{◌≡◌, Option, Some, None, List, [], ◌∷◌, ◌++◌, map, refl, sym, ap, ◌∙◌, append-nil}
use Rattle.std.specs.Prelude.{All}
use Rattle.std.proofs.lemmas.List.{map-append}
use Rattle.std.proofs.lemmas.List.Elements.{All-nil, All-push}
use Rattle.lsl_value.specs.declared.tagged.Kind.{Kind}
use Rattle.lsl_tree.specs.declared.expression.Name.{Name}
use Rattle.lsl_tree.specs.declared.script.Param.{Param}
use Rattle.lsl_tree.specs.Statements.{Items}
use Rattle.lsl_tree.specs.Scripts as source
use Rattle.lsl_tree.specs.Scripts.{Header, State, Tree}
use Rattle.lsl_tree.specs.Program.{NamedRoutine}
use Rattle.lsl_tree.specs.Signatures.{Signature, signature_of_routine}
use Rattle.lsl_bodies.specs.declared.faults.TypeKind.TheVariants.{DoubleName}
use Rattle.lsl_bodies.specs.declared.frame.Home.TheVariants as home
use Rattle.lsl_bodies.specs.Scope.{ScopeView}
use Rattle.lsl_bodies.specs.Known.{KnownView, kinds_of}
use Rattle.lsl_type.specs.Headers.{HeadersView}
use Rattle.lsl_bodies.specs.Spans.{initial_span}
use Rattle.lsl_bodies.specs.Judgement.{at}
use Rattle.lsl_bodies.specs.Verdict.{must_verdict, each_verdict}
use Rattle.lsl_type.specs.HeaderVerdicts.{header_verdict, is_unused, initial_verdict, initial_become_verdict}
use Rattle.lsl_type.specs.HeaderVerdicts.{param_verdict}
use Rattle.lsl_type.specs.ScriptVerdicts.{function_routine_verdict, function_body_verdict}
use Rattle.lsl_bodies.proofs.Yielding.{Yields, gives_yields, then_yields, rest_yields, both_yield, weaker_yields}
use Rattle.lsl_bodies.proofs.Yielding.{each_yields, gathered, each_gathers}
use Rattle.lsl_bodies.proofs.RoutineKinds.{RoutineIn, RoutineOf, GlobalsHave, body_yields}

-- what functions are called with
abbrev pub signatures_in : Header → List Signature
signatures_in (source.Global k x v) = []
signatures_in (source.Function k x params es) = record { params = kinds_of params; result = k } ∷ []

pub header_declares : (h : HeadersView) (g : Header)
    → Yields (λ n. n.signatures ≡ h.signatures ++ signatures_in g) (header_verdict h g)
header_declares h (source.Global k x None) =
    rest_yields (must_verdict (is_unused h x) (at DoubleName x.span)) (λ u.
    gives_yields (sym (append-nil h.signatures)))
header_declares h (source.Global k x (Some v)) =
    rest_yields (initial_verdict h.scope v) (λ found.
    rest_yields (must_verdict (is_unused h x) (at DoubleName x.span)) (λ u.
    rest_yields (initial_become_verdict k found (initial_span v)) (λ value.
    gives_yields (sym (append-nil h.signatures)))))
header_declares h (source.Function k x params es) =
    rest_yields (must_verdict (is_unused h x) (at DoubleName x.span)) (λ u.
    rest_yields (each_verdict param_verdict [] params) (λ names.
    gives_yields refl))

-- bodies, in a program that declares this
module _ (known : KnownView) (globals : List Kind) (s : ScopeView) (have : GlobalsHave known globals s) where
  abbrev Functions : List NamedRoutine → Type 0
  Functions fs = All (λ f. RoutineIn known globals f.routine) fs

  abbrev signatures_of : List NamedRoutine → List Signature
  signatures_of fs = map (λ f. signature_of_routine f.routine) fs

  function_yields : (k : Option Kind) (x : Name) (params : List Param) (es : Items)
      → Yields (λ f. RoutineOf known globals params k f.routine) (function_routine_verdict known s k x params es)
  function_yields k x params es =
      then_yields (body_yields known globals s have (home.Function k) x params es) (λ r p. gives_yields p)

  -- what a header adds to the functions
  abbrev Next : List NamedRoutine → Header → List NamedRoutine → Type 0
  Next before h fs = (Functions before → Functions fs) × (signatures_of fs ≡ signatures_of before ++ signatures_in h)

  function_next : (before : List NamedRoutine) (h : Header)
      → Yields (Next before h) (function_body_verdict known s before h)
  function_next before (source.Global k x v) =
      gives_yields ((λ b. b), sym (append-nil (signatures_of before)))
  function_next before (source.Function k x params es) =
      then_yields (function_yields k x params es) (λ f p.
      gives_yields (
        (λ b. All-push (λ f. RoutineIn known globals f.routine) before f b p.0),
        map-append (λ (f : NamedRoutine). signature_of_routine f.routine) before (f ∷ [])
            ∙ ap (λ g. signatures_of before ++ g ∷ []) p.1,
      ))

  pub functions_yield : (hs : List Header)
      → Yields (λ fs. Functions fs × (signatures_of fs ≡ gathered signatures_in hs))
      (each_verdict (function_body_verdict known s) [] hs)
  functions_yield hs =
      let step = function_body_verdict known s in
      both_yield
      (each_yields Functions step (λ before h b. weaker_yields (function_next before h) (λ fs p. p.0 b)) [] hs
      (All-nil (λ f. RoutineIn known globals f.routine)))
      (each_gathers signatures_of signatures_in step
      (λ before h. weaker_yields (function_next before h) (λ fs p. p.1)) [] hs)
