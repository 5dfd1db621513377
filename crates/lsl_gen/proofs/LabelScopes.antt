-- Labels and their places.
use Rattle.std.proofs.Common.{◌≡◌, ℕ, ◌+◌, List, [], ◌∷◌, ◌++◌, Bool, true, false, cond, ◌||◌, nat_eq, Option, Some, None, refl, sym, ap, ◌∙◌, arith}
use Rattle.std.specs.Prelude.{Contains}
use Rattle.std.specs.List.{list_any}
use Rattle.std.proofs.lemmas.Bool.Decides.{nat_tests}
use Rattle.std.proofs.lemmas.List.Folds.{list_any-append, list_any_at}
use Rattle.lsl_tree.specs.Actions as action
use Rattle.lsl_tree.specs.Actions.{Action, Actions, NoAction, AndAction}
use Rattle.lsl_tree.specs.Shape.{label_of, labels_in}
use Rattle.lsl_meaning.specs.Statements.{has_label}
use Rattle.lsl_gen.specs.declared.label_places.LabelPlace.{LabelPlace}
use Rattle.lsl_gen.specs.Statements.{size, sizes, place_of, place_if_label, places_in}

-- where a statement begins: at its start, or after a label that is directly in it
abbrev entry_at : Action → ℕ → ℕ → ℕ
entry_at (action.Block xs) label place = place_of label (places_in xs place)
entry_at a label place = place

abbrev pub entry : Action → Option ℕ → ℕ → ℕ
entry a None place = place
entry a (Some label) place = entry_at a label place

abbrev HasOwn : Action → ℕ → Type 0
HasOwn (action.Block xs) label = has_label (labels_in xs) label ≡ true
HasOwn a label = Unit {0}

abbrev pub CanEnter : Action → Option ℕ → Type 0
CanEnter a None = Unit {0}
CanEnter a (Some label) = HasOwn a label

abbrev pub entry_in : Actions → Option ℕ → ℕ → ℕ
entry_in xs None place = place
entry_in xs (Some label) place = place_of label (places_in xs place)

abbrev pub CanEnterIn : Actions → Option ℕ → Type 0
CanEnterIn xs None = Unit {0}
CanEnterIn xs (Some label) = has_label (labels_in xs) label ≡ true

is_placed : ℕ → List LabelPlace → Bool
is_placed label places = list_any (λ x. nat_eq label x.label) places

behind_first : (b c : Bool) (n m k d : ℕ) → d ≡ cond c m k → cond b n d ≡ cond (b || c) (cond b n m) k
behind_first true c n m k d e = refl
behind_first false c n m k d e = e

place_of-append : (label : ℕ) (a b : List LabelPlace)
    → place_of label (a ++ b) ≡ cond (list_any (λ x. nat_eq label x.label) a) (place_of label a) (place_of label b)
place_of-append label [] b = refl
place_of-append label (x ∷ a) b =
    behind_first (nat_eq label x.label) (list_any (λ x. nat_eq label x.label) a) x.place (place_of label a)
    (place_of label b) (place_of label (a ++ b)) (place_of-append label a b)

either_way : (b c : Bool) → (b || (c || false)) ≡ (c || b)
either_way true true = refl
either_way true false = refl
either_way false true = refl
either_way false false = refl

or_nothing : (b : Bool) → (b || false) ≡ b
or_nothing true = refl
or_nothing false = refl

one_placed : (label : ℕ) (a : Action) (place : ℕ) (b : Bool) (more : List ℕ) → b ≡ has_label more label
    → (b || list_any (λ x. nat_eq label x.label) (place_if_label a place)) ≡ has_label (label_of a more) label
one_placed label (action.Label n) place b more e = either_way b (nat_eq label n) ∙ ap (λ c. nat_eq label n || c) e
one_placed label a place b more e = or_nothing b ∙ e

-- the labels with places are those in the block
pub placed_in : (xs : Actions) (label place : ℕ)
    → list_any (λ x. nat_eq label x.label) (places_in xs place) ≡ has_label (labels_in xs) label
placed_in NoAction label place = refl
placed_in (AndAction xs a) label place =
    list_any-append (λ (x : LabelPlace). nat_eq label x.label) (places_in xs place)
    (place_if_label a (place + sizes xs))
    ∙ one_placed label a (place + sizes xs) (list_any (λ x. nat_eq label x.label) (places_in xs place))
    (labels_in xs) (placed_in xs label place)

-- the labels of a block hide those around it
pub place_within : (xs : Actions) (label place : ℕ) (around : List LabelPlace)
    → place_of label (places_in xs place ++ around)
    ≡ cond (has_label (labels_in xs) label) (place_of label (places_in xs place)) (place_of label around)
place_within xs label place around =
    place_of-append label (places_in xs place) around
    ∙ ap (λ b. cond b (place_of label (places_in xs place)) (place_of label around)) (placed_in xs label place)

-- a label that is before the last statement, or is it
pub place_last : (xs : Actions) (a : Action) (label place : ℕ)
    → place_of label (places_in (AndAction xs a) place)
    ≡ cond (has_label (labels_in xs) label) (place_of label (places_in xs place))
    (place_of label (place_if_label a (place + sizes xs)))
place_last xs a label place = place_within xs label place (place_if_label a (place + sizes xs))

-- a label that isn't before the last statement is the last statement, which emits nothing
pub last_label : (a : Action) (label place : ℕ) (more : List ℕ) → has_label more label ≡ false
    → has_label (label_of a more) label ≡ true
    → place_of label (place_if_label a place) ≡ place + size a
last_label (action.Label n) label place more out there =
    let e : nat_eq label n ≡ true = sym (or_nothing (nat_eq label n)) ∙ sym (ap (λ b. nat_eq label n || b) out)
    ∙ there in
    let z : place ≡ place + 0 = omega arith in
    ap (λ b. cond b place 0) e ∙ z
last_label a label place more out there = let never : false ≡ true = sym out ∙ there in absurd cc

pub has_label-append : (label : ℕ) (a b : List ℕ) → has_label (a ++ b) label ≡ (has_label a label || has_label b label)
has_label-append label a b = list_any-append (nat_eq label) a b

-- a label that is around the block where it isn't in it
pub has_outer : (label : ℕ) (a b : List ℕ) → has_label a label ≡ false → has_label (a ++ b) label ≡ true
    → has_label b label ≡ true
has_outer label a b out there = sym (ap (λ c. c || has_label b label) out) ∙ sym (has_label-append label a b) ∙ there

pub has_contained : (labels : List ℕ) (label : ℕ) → Contains labels label → has_label labels label ≡ true
has_contained labels label h =
    let same : nat_eq label label ≡ true = grind (arith, nat_tests) in
    list_any_at (nat_eq label) labels h.0 label h.1 (ap (nat_eq label) h.2 ∙ same)
