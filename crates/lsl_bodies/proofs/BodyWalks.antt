-- A body's parameters and block, and what is left of them after it.
use Rattle.std.proofs.Common.{◌≡◌, ℕ, ◌-◌, List, [], ◌∷◌, ◌++◌, length, take, drop, refl, sym, ap, ◌∙◌, subst, arith}
use Rattle.std.proofs.Common.{append_assoc, append-nil}
use Rattle.std.specs.Prelude.{Ok, Option}
use Rattle.std.proofs.lemmas.Grind.{common_steps}
use Rattle.lsl_value.specs.declared.tagged.Kind.{Kind}
use Rattle.lsl_tree.specs.declared.script.Param.{Param}
use Rattle.lsl_tree.specs.Statements.{Items}
use Rattle.lsl_tree.specs.Actions.{Actions}
use Rattle.lsl_tree.specs.Program.{Routine}
use Rattle.lsl_tree.specs.declared.expression.Name.{Name}
use Rattle.lsl_text.specs.declared.Refusal.{Refusal}
use Rattle.lsl_bodies.specs.declared.faults.TypeFault.{TypeFault}
use Rattle.lsl_bodies.specs.Known.{KnownView}
use Rattle.lsl_bodies.specs.declared.blocks.Outer.{Outer}
use Rattle.lsl_bodies.specs.declared.frame.Home.{Home}
use Rattle.lsl_bodies.specs.declared.frame.Variable.{Variable}
use Rattle.lsl_bodies.specs.Blocks.{IsOuter, closed, IsResting}
use Rattle.lsl_bodies.specs.Scope.{FrameView, spelled, with_local, with_locals, with_slots, opened, entered}
use Rattle.lsl_bodies.specs.ActionVerdicts.{items_verdict}
use Rattle.lsl_bodies.proofs.BlockLemmas.{closed-opened, items_extend}
use Rattle.lsl_bodies.specs.Verdict.{Verdict, Refuses}
use Rattle.lsl_bodies.specs.ActionForms.{ended}
use Rattle.lsl_bodies.specs.BodyVerdicts.{body_verdict}
use Rattle.lsl_bodies.proofs.Steps.{fails_first, ok_behind}

-- more variables, and nothing else but slots
record Grows (f g : FrameView) : Type 0 where
  more_names : List (List ℕ)
  more_variables : List Variable
  names : g.scope.names ≡ more_names ++ f.scope.names
  variables : g.scope.variables ≡ f.scope.variables ++ more_variables
  labels : g.labels ≡ f.labels
  passed : g.passed ≡ f.passed
  first_variable : g.first_variable ≡ f.first_variable
  first_label : g.first_label ≡ f.first_label

locals_grow : (f : FrameView) (ps : List Param) → Grows f (with_locals f ps)
locals_grow f [] = record {
  more_names = [];
  more_variables = [];
  names = refl;
  variables =
      sym (append-nil f.scope.variables);
  labels = refl;
  passed = refl;
  first_variable = refl;
  first_label =
      refl;
}
locals_grow f (p ∷ ps) =
    let one = with_local f (spelled p.name) p.kind in
    let rest = locals_grow one ps in
    record {
      more_names = rest.more_names ++ spelled p.name ∷ [];
      more_variables = _ ∷ rest.more_variables;
      names = rest.names ∙ sym (append_assoc rest.more_names (spelled p.name ∷ []) f.scope.names);
      variables = rest.variables ∙ append_assoc f.scope.variables (_ ∷ []) rest.more_variables;
      labels = rest.labels;
      passed = rest.passed;
      first_variable = rest.first_variable;
      first_label = rest.first_label;
    }

drop_front : {X : Type 0} (xs ys : List X) → drop (length (xs ++ ys) - length ys) (xs ++ ys) ≡ ys
drop_front xs ys = grind (arith, common_steps)

take_front : {X : Type 0} (xs ys : List X) → take (length xs) (xs ++ ys) ≡ xs
take_front xs ys = grind (arith, common_steps)

names_left : (n : ℕ) (all more xs : List (List ℕ)) → n ≡ length xs → all ≡ more ++ xs → drop (length all - n) all ≡ xs
names_left n all more xs count split = ap (λ k. drop (length all - k) all) count
    ∙ (ap (λ l. drop (length l - length xs) l) split ∙ drop_front more xs)

variables_left : (n : ℕ) (all more xs : List Variable) → n ≡ length xs → all ≡ xs ++ more → take n all ≡ xs
variables_left n all more xs count split =
    ap (λ k. take k all) count ∙ (ap (λ l. take (length xs) l) split ∙ take_front xs more)

abbrev framed : List (List ℕ) → List Variable → List Kind → List (List ℕ) → List (List ℕ) → ℕ → ℕ → FrameView
framed names variables slots labels passed v l = record {
  scope = record { names = names; variables = variables };
  slots = slots;
  labels = labels;
  passed = passed;
  first_variable = v;
  first_label = l;
}

same_frame : (names names' : List (List ℕ)) (variables variables' : List Variable) (slots slots' : List Kind)
    (labels labels' passed passed' : List (List ℕ)) (v v' l l' : ℕ)
    → names ≡ names' → variables ≡ variables' → slots ≡ slots' → labels ≡ labels' → passed ≡ passed' → v ≡ v' → l ≡ l'
    → framed names variables slots labels passed v l ≡ framed names' variables' slots' labels' passed' v' l'
same_frame names names' variables variables' slots slots' labels labels' passed passed' v v' l l' a b c d e f g =
    ap (λ z. framed z variables slots labels passed v l) a
    ∙ (ap (λ z. framed names' z slots labels passed v l) b
    ∙ (ap (λ z. framed names' variables' z labels passed v l) c
    ∙ (ap (λ z. framed names' variables' slots' z passed v l) d
    ∙ (ap (λ z. framed names' variables' slots' labels' z v l) e
    ∙ (ap (λ z. framed names' variables' slots' labels' passed' z l) f
    ∙ ap (λ z. framed names' variables' slots' labels' passed' v' z) g)))))

-- what is left of a frame's inner block and parameters is the frame
pub body_leaves : (known : KnownView) (home : Home) (f begun inner g after : FrameView) (ps : List Param)
    (es : Items) (acts : Actions) (o : Outer)
    (names : List (List ℕ)) (variables : List Variable) (slots : List Kind) (n m : ℕ)
    → IsResting f → begun ≡ with_locals f ps → inner ≡ opened begun es → IsOuter o begun
    → items_verdict known home inner es ≡ Ok (acts, g) → after ≡ closed g o
    → n ≡ length f.scope.names → m ≡ length f.scope.variables
    → names ≡ drop (length after.scope.names - n) after.scope.names
    → variables ≡ take m after.scope.variables → slots ≡ []
    → framed names variables slots after.labels after.passed after.first_variable after.first_label ≡ f
body_leaves known home f begun inner g after ps es acts o names variables slots n m resting begins opens was
    runs ends counted numbered left kept none =
    let more = items_extend known home (opened begun es) es (acts, g)
    (subst (λ z. items_verdict known home z es ≡ Ok (acts, g)) opens runs) in
    let back : after ≡ with_slots begun g.slots = ends ∙ closed-opened begun g es o was more in
    let grown : Grows f begun = subst (Grows f) (sym begins) (locals_grow f ps) in
    same_frame names f.scope.names variables f.scope.variables slots f.slots after.labels f.labels after.passed
    f.passed after.first_variable f.first_variable after.first_label f.first_label
    (left ∙ names_left n after.scope.names grown.more_names f.scope.names counted
    (ap (λ z. z.scope.names) back ∙ grown.names))
    (kept ∙ variables_left m after.scope.variables grown.more_variables f.scope.variables numbered
    (ap (λ z. z.scope.variables) back ∙ grown.variables))
    (none ∙ sym (ap (λ z. z.slots) resting))
    (ap (λ z. z.labels) back ∙ grown.labels)
    (ap (λ z. z.passed) back ∙ grown.passed)
    (ap (λ z. z.first_variable) back ∙ grown.first_variable)
    (ap (λ z. z.first_label) back ∙ grown.first_label)

-- where its items begin is where the rules have them begin
begins_as : (f begun inner : FrameView) (ps : List Param) (es : Items) → IsResting f → begun ≡ with_locals f ps
    → inner ≡ opened begun es → inner ≡ opened (entered f.scope ps) es
begins_as f begun inner ps es resting begins opens =
    opens ∙ ap (λ z. opened z es) (begins ∙ ap (λ z. with_locals z ps) resting)

pub body_fails : (known : KnownView) (home : Home) (f begun inner : FrameView) (x : Name) (kind : Option Kind)
    (ps : List Param) (es : Items) (e : Refusal TypeFault) → IsResting f → begun ≡ with_locals f ps
    → inner ≡ opened begun es → Refuses e (items_verdict known home inner es)
    → Refuses e (body_verdict known f.scope home x kind ps es)
body_fails known home f begun inner x kind ps es e resting begins opens h =
    fails_first e (items_verdict known home (opened (entered f.scope ps) es) es) _
    (subst (λ z. Refuses e (items_verdict known home z es)) (begins_as f begun inner ps es resting begins opens) h)

abbrev routine_with : ℕ → Option Kind → ℕ → List Kind → Actions → Verdict Routine
routine_with line kind params slots body =
    Ok (record { line = line; kind = kind; params = params; slots = slots; body = body })

pub body_ok : (known : KnownView) (home : Home) (f begun inner g : FrameView) (x : Name) (kind kind' : Option Kind)
    (ps : List Param) (es : Items) (acts body : Actions) (n : ℕ) (slots : List Kind) → IsResting f
    → begun ≡ with_locals f ps → inner ≡ opened begun es → items_verdict known home inner es ≡ Ok (acts, g)
    → kind' ≡ kind → n ≡ length ps → slots ≡ g.slots → body ≡ ended kind' acts
    → body_verdict known f.scope home x kind ps es ≡ routine_with x.span.line kind' n slots body
body_ok known home f begun inner g x kind kind' ps es acts body n slots resting begins opens h k count left ends =
    ok_behind (items_verdict known home (opened (entered f.scope ps) es) es) (acts, g) _ _
    (subst (λ z. items_verdict known home z es ≡ Ok (acts, g)) (begins_as f begun inner ps es resting begins opens) h)
    (sym (ap (λ z. routine_with x.span.line kind' n slots z) (ends ∙ ap (λ z. ended z acts) k)
    ∙ (ap (λ z. routine_with x.span.line z n slots (ended kind acts)) k
    ∙ (ap (λ z. routine_with x.span.line kind z slots (ended kind acts)) count
    ∙ ap (λ z. routine_with x.span.line kind (length ps) z (ended kind acts)) left))))
