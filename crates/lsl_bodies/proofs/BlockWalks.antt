-- What is declared by a list, from the first to the last.
use Rattle.std.proofs.Common.{◌≡◌, ℕ, ◌+◌, ◌<◌, ◌≤◌, List, [], ◌∷◌, ◌++◌, length, drop, get_or, refl, sym, ap, ◌∙◌}
use Rattle.std.proofs.Common.{Vec, Global}
use Rattle.std.specs.Prelude.{map}
use Rattle.lsl_tree.specs.declared.script.Param.{Param}
use Rattle.lsl_tree.specs.declared.statement.Item.{Item}
use Rattle.lsl_tree.specs.declared.program_action.Effect.{Effect}
use Rattle.lsl_tree.specs.declared.program_action.Action as declared
use Rattle.lsl_tree.specs.declared.program_action.Action.TheVariants as variant
use Rattle.lsl_tree.specs.Statements as stmt
use Rattle.lsl_tree.specs.Statements.{Items, NoItem, AndItem, item_of, items_behind, items_of}
use Rattle.lsl_tree.specs.Actions as action
use Rattle.lsl_tree.specs.Actions.{Actions, AndAction, NoAction, action_of, actions_of}
use Rattle.lsl_tree.specs.Effects as effect
use Rattle.lsl_tree.specs.Effects.{effect_of}
use Rattle.lsl_bodies.specs.Scope.{FrameView, with_local, with_locals, spelled, labels_with, labels_of}
use Rattle.lsl_bodies.specs.ActionForms.{effects_after, for_of}
use Rattle.lsl_tree.proofs.ProgramRows.{action_of-Block, actions_of-append}
use Rattle.lsl_bodies.proofs.Walks.{left, drop_all}

-- the labels of some entries, after other names
pub locals_next : (f : FrameView) (ps : List Param) (i : ℕ) (p : Param) (whole : FrameView) → i < length ps
    → p ≡ get_or ps i p
    → with_locals f (drop i ps) ≡ whole → with_locals (with_local f (spelled p.name) p.kind) (drop (i + 1) ps) ≡ whole
locals_next f ps i p whole h e inv = sym (ap (with_locals f) (left ps i p h e)) ∙ inv

pub locals_end : (f : FrameView) (ps : List Param) (i : ℕ) (whole : FrameView) → length ps ≤ i
    → with_locals f (drop i ps) ≡ whole → f ≡ whole
locals_end f ps i whole h inv = sym (ap (with_locals f) (drop_all ps i h)) ∙ inv

abbrev pub labels_behind : List Item → List (List ℕ) → List (List ℕ)
labels_behind [] names = names
labels_behind (x ∷ xs) names = labels_behind xs (labels_with (item_of x) names)

with-append : (e : stmt.Item) (xs ys : List (List ℕ)) → labels_with e (xs ++ ys) ≡ labels_with e xs ++ ys
with-append (stmt.Declaration k x v) xs ys = refl
with-append (stmt.Label x) xs ys = refl
with-append (stmt.Statement s) xs ys = refl

behind_walk : (xs : List Item) (es : Items) (names : List (List ℕ))
    → labels_behind xs (labels_of es ++ names) ≡ labels_of (items_behind xs es) ++ names
behind_walk [] es names = refl
behind_walk (x ∷ xs) es names = ap (labels_behind xs) (with-append (item_of x) (labels_of es) names)
    ∙ behind_walk xs (AndItem es (item_of x)) names

pub labels_walk : (xs : List Item) (names : List (List ℕ)) → labels_behind xs names ≡ labels_of (items_of xs) ++ names
labels_walk xs names = behind_walk xs NoItem names

pub labels_next : (names : List (List ℕ)) (xs : List Item) (i : ℕ) (x : Item) (whole : List (List ℕ))
    → i < length xs → x ≡ get_or xs i x
    → labels_behind (drop i xs) names ≡ whole → labels_behind (drop (i + 1) xs) (labels_with (item_of x) names) ≡ whole
labels_next names xs i x whole h e inv = sym (ap (λ l. labels_behind l names) (left xs i x h e)) ∙ inv

pub labels_end : (names : List (List ℕ)) (xs : List Item) (i : ℕ) (whole : List (List ℕ)) → length xs ≤ i
    → labels_behind (drop i xs) names ≡ whole → names ≡ whole
labels_end names xs i whole h inv = sym (ap (λ l. labels_behind l names) (drop_all xs i h)) ∙ inv

pub effects_after-push : (acts : Actions) (xs : List Effect) (x : Effect)
    → effects_after acts (map effect_of (xs ++ x ∷ []))
    ≡ AndAction (effects_after acts (map effect_of xs)) (action.Effect (effect_of x))
effects_after-push acts [] x = refl
effects_after-push acts (y ∷ xs) x = effects_after-push (AndAction acts (action.Effect (effect_of y))) xs x

-- a `for` is its first effects, and then its loop
pub for_is : (v : Vec declared.Action Global) (acts : List declared.Action) (a : declared.Action)
    (xs : List effect.Effect) (loop : action.Action) → v.items ≡ acts ++ a ∷ []
    → actions_of acts ≡ effects_after NoAction xs → action_of a ≡ loop → action_of (variant.Block v) ≡ for_of xs loop
for_is v acts a xs loop items begun is =
    action_of-Block v ∙ ap action.Block (ap actions_of items ∙ (actions_of-append acts a
    ∙ (ap (λ z. AndAction z (action_of a)) begun ∙ ap (λ z. AndAction (effects_after NoAction xs) z) is)))
