-- Rules for trees in a row, from the first to the last.
use Rattle.std.proofs.Common.{◌≡◌, ℕ, ◌+◌, ◌<◌, ◌≤◌, false, List, [], ◌∷◌, ◌++◌, length, drop, get_or, refl, sym, ap}
use Rattle.std.proofs.Common.{◌∙◌, arith, suc, add-one, drop-cons, nat_eq}
use Rattle.std.proofs.lemmas.Bool.Decides.{nat_tests}
use Rattle.std.specs.Prelude.{Some, None, Ok, Err, slice_get, map}
use Rattle.std.proofs.lemmas.Grind.{common_steps}
use Rattle.lsl_tree.specs.declared.statement.Item.{Item}
use Rattle.lsl_tree.specs.Statements.{Items, NoItem, AndItem, item_of, items_behind, items_of}
use Rattle.lsl_tree.specs.Effects.{Effect}
use Rattle.lsl_tree.specs.Actions.{Actions, NoAction, AndAction}
use Rattle.lsl_bodies.specs.declared.frame.Home.{Home}
use Rattle.lsl_bodies.specs.ActionVerdicts.{item_verdict, items_verdict}
use Rattle.lsl_value.specs.declared.tagged.Kind.{Kind}
use Rattle.lsl_tree.specs.declared.expression.Expr.{Expr}
use Rattle.lsl_tree.specs.declared.program_node.Node.{Node}
use Rattle.lsl_tree.specs.Expressions.{Exprs, NoExpr, AndExpr, expr_of, exprs_behind, exprs_of}
use Rattle.lsl_tree.specs.Nodes as node
use Rattle.lsl_tree.specs.Nodes.{Nodes, NoNode, AndNode, node_of, nodes_behind, nodes_of, node_kind_of}
use Rattle.lsl_bodies.specs.declared.faults.TypeFault.{TypeFault}
use Rattle.lsl_bodies.specs.Known.{KnownView}
use Rattle.lsl_bodies.specs.Scope.{ScopeView, FrameView}
use Rattle.lsl_bodies.specs.Spans.{first_span}
use Rattle.lsl_tree.specs.Shape.{argument_count}
use Rattle.lsl_bodies.specs.Conversions.{is_no_list}
use Rattle.lsl_bodies.specs.Judgement.{at}
use Rattle.lsl_bodies.specs.declared.faults.TypeKind.TheVariants.{WrongKind}
use Rattle.lsl_value.specs.declared.tagged.Kind.TheVariants.{List as ListKind}
use Rattle.lsl_text.specs.declared.Refusal.{Refusal}
use Rattle.lsl_text.specs.declared.Refusal.TheVariants.{NoMemory, Fault}
use Rattle.lsl_bodies.specs.Verdict.{Verdict, ◌>>=◌, each_verdict, must_verdict, Refuses}
use Rattle.lsl_bodies.specs.CallVerdicts.{arguments_verdict, argument_verdict}
use Rattle.lsl_bodies.specs.ValueVerdicts.{value_verdict, values_verdict, effect_verdict, effects_verdict, flat_verdict}

-- what is left of a list begins with the element there
pub left : {X : Type 0} (xs : List X) (i : ℕ) (x : X) → i < length xs → x ≡ get_or xs i x
    → drop i xs ≡ x ∷ drop (i + 1) xs
left xs i x h e = drop-cons xs i x h ∙ (ap (λ y. y ∷ drop (suc i) xs) (sym e)
    ∙ ap (λ n. x ∷ drop n xs) (sym (add-one i)))

-- a walk in the middle
pub each_next : {X S : Type 0} (q : S → X → Verdict S) (s n : S) (xs : List X) (i : ℕ) (x : X) (whole : Verdict S)
    → i < length xs → x ≡ get_or xs i x → q s x ≡ Ok n → each_verdict q s (drop i xs) ≡ whole
    → each_verdict q n (drop (i + 1) xs) ≡ whole
each_next q s n xs i x whole h e step inv =
    sym (ap (λ v. v >>= λ m. each_verdict q m (drop (i + 1) xs)) step)
    ∙ (sym (ap (λ l. each_verdict q s l) (left xs i x h e)) ∙ inv)

pub each_stop : {X S : Type 0} (q : S → X → Verdict S) (s : S) (f : TypeFault) (xs : List X) (i : ℕ) (x : X)
    (whole : Verdict S)
    → i < length xs → x ≡ get_or xs i x → q s x ≡ Err f → each_verdict q s (drop i xs) ≡ whole → whole ≡ Err f
each_stop q s f xs i x whole h e step inv =
    sym inv ∙ (ap (λ l. each_verdict q s l) (left xs i x h e)
    ∙ ap (λ v. v >>= λ m. each_verdict q m (drop (i + 1) xs)) step)

pub drop_all : {X : Type 0} (xs : List X) (i : ℕ) → length xs ≤ i → drop i xs ≡ []
drop_all xs i h = grind (arith, common_steps)

pub each_end : {X S : Type 0} (q : S → X → Verdict S) (s : S) (xs : List X) (i : ℕ) (whole : Verdict S)
    → length xs ≤ i → each_verdict q s (drop i xs) ≡ whole → whole ≡ Ok s
each_end q s xs i whole h inv = sym inv ∙ ap (λ l. each_verdict q s l) (drop_all xs i h)

pub each_map : {X Y S : Type 0} (q : S → Y → Verdict S) (f : X → Y) (s : S) (xs : List X)
    → each_verdict q s (map f xs) ≡ each_verdict (λ t x. q t (f x)) s xs
each_map q f s [] = refl
each_map {X} {Y} {S} q f s (x ∷ xs) = go (q s (f x)) (λ n. each_map q f n xs)
  where
    go : (v : Verdict S) → ((n : S) → each_verdict q n (map f xs) ≡ each_verdict (λ t y. q t (f y)) n xs)
        → (v >>= λ n. each_verdict q n (map f xs)) ≡ (v >>= λ n. each_verdict (λ t y. q t (f y)) n xs)
    go (Ok n) rest = rest n
    go (Err g) rest = refl

-- trees in a row are a walk
unit : {S : Type 0} (r : Verdict S) → r ≡ (r >>= λ s. Ok s)
unit (Ok s) = refl
unit (Err f) = refl

assoc : {A B C : Type 0} (r : Verdict A) (p : A → Verdict B) (q : B → Verdict C)
    → ((r >>= p) >>= q) ≡ (r >>= λ a. p a >>= q)
assoc (Ok a) p q = refl
assoc (Err f) p q = refl

abbrev pub value_next : KnownView → ScopeView → Nodes → Expr → Verdict Nodes
value_next known s ts x = value_verdict known s (expr_of x) >>= λ t. Ok (AndNode ts t)

values_behind : (known : KnownView) (s : ScopeView) (es : Exprs) (xs : List Expr)
    → values_verdict known s (exprs_behind xs es)
    ≡ (values_verdict known s es >>= λ ts. each_verdict (value_next known s) ts xs)
values_behind known s es [] = unit (values_verdict known s es)
values_behind known s es (x ∷ xs) =
    values_behind known s (AndExpr es (expr_of x)) xs
    ∙ assoc (values_verdict known s es) (λ ts. value_next known s ts x) (λ ts. each_verdict (value_next known s) ts xs)

pub values_of : (known : KnownView) (s : ScopeView) (xs : List Expr)
    → values_verdict known s (exprs_of xs) ≡ each_verdict (value_next known s) NoNode xs
values_of known s xs = values_behind known s NoExpr xs

abbrev pub effect_next : KnownView → ScopeView → List Effect → Expr → Verdict (List Effect)
effect_next known s before x = effect_verdict known s (expr_of x) >>= λ t. Ok (before ++ t ∷ [])

effects_behind : (known : KnownView) (s : ScopeView) (es : Exprs) (xs : List Expr)
    → effects_verdict known s (exprs_behind xs es)
    ≡ (effects_verdict known s es >>= λ ts. each_verdict (effect_next known s) ts xs)
effects_behind known s es [] = unit (effects_verdict known s es)
effects_behind known s es (x ∷ xs) =
    effects_behind known s (AndExpr es (expr_of x)) xs
    ∙ assoc (effects_verdict known s es) (λ ts. effect_next known s ts x)
    (λ ts. each_verdict (effect_next known s) ts xs)

pub effects_of : (known : KnownView) (s : ScopeView) (xs : List Expr)
    → effects_verdict known s (exprs_of xs) ≡ each_verdict (effect_next known s) [] xs
effects_of known s xs = effects_behind known s NoExpr xs

abbrev pub item_next : KnownView → Home → Actions × FrameView → Item → Verdict (Actions × FrameView)
item_next known home before x = item_verdict known home before.1 (item_of x) >>= λ last.
    Ok (AndAction before.0 last.0, last.1)

items_after : (known : KnownView) (home : Home) (f : FrameView) (es : Items) (xs : List Item)
    → items_verdict known home f (items_behind xs es)
    ≡ (items_verdict known home f es >>= λ b. each_verdict (item_next known home) b xs)
items_after known home f es [] = unit (items_verdict known home f es)
items_after known home f es (x ∷ xs) =
    items_after known home f (AndItem es (item_of x)) xs
    ∙ assoc (items_verdict known home f es) (λ b. item_next known home b x)
    (λ b. each_verdict (item_next known home) b xs)

pub items_walk : (known : KnownView) (home : Home) (f : FrameView) (xs : List Item)
    → items_verdict known home f (items_of xs) ≡ each_verdict (item_next known home) (NoAction, f) xs
items_walk known home f xs = items_after known home f NoItem xs

abbrev pub walked : Actions → FrameView → Verdict (Actions × FrameView)
walked acts f = Ok (acts, f)

abbrev pub arguments_from : List Kind → ℕ → Nodes → List Expr → List Node → Verdict Nodes
arguments_from params n done [] ms = Ok done
arguments_from params n done (x ∷ xs) [] = Ok done
arguments_from params n done (x ∷ xs) (m ∷ ms) =
    argument_verdict (slice_get params n) (node_of m) (first_span (expr_of x)) >>= λ t.
    arguments_from params (n + 1) (AndNode done t) xs ms

arguments_behind : (params : List Kind) (es : Exprs) (ts : Nodes) (xs : List Expr) (ms : List Node)
    → length xs ≡ length ms
    → arguments_verdict params (exprs_behind xs es) (nodes_behind ms ts)
    ≡ (arguments_verdict params es ts >>= λ done. arguments_from params (argument_count ts) done xs ms)
arguments_behind params es ts [] [] h = unit (arguments_verdict params es ts)
  where
    unit : (r : Verdict Nodes) → r ≡ (r >>= λ us. Ok us)
    unit (Ok us) = refl
    unit (Err f) = refl
arguments_behind params es ts [] (m ∷ ms) h = absurd (omega arith)
arguments_behind params es ts (x ∷ xs) [] h = absurd (omega arith)
arguments_behind params es ts (x ∷ xs) (m ∷ ms) h =
    let rest : length xs ≡ length ms = omega arith in
    arguments_behind params (AndExpr es (expr_of x)) (AndNode ts (node_of m)) xs ms rest
    ∙ shift (arguments_verdict params es ts)
    (argument_verdict (slice_get params (argument_count ts)) (node_of m) (first_span (expr_of x)))
  where
    inner : (done : Nodes) (v : Verdict node.Node)
        → ((v >>= λ t. Ok (AndNode done t)) >>= λ us. arguments_from params (argument_count ts + 1) us xs ms)
        ≡ (v >>= λ t. arguments_from params (argument_count ts + 1) (AndNode done t) xs ms)
    inner done (Ok t) = refl
    inner done (Err f) = refl

    shift : (r : Verdict Nodes) (v : Verdict node.Node)
        → ((r >>= λ done. v >>= λ t. Ok (AndNode done t)) >>= λ us.
        arguments_from params (argument_count ts + 1) us xs ms)
        ≡ (r >>= λ done. v >>= λ t. arguments_from params (argument_count ts + 1) (AndNode done t) xs ms)
    shift (Ok done) v = inner done v
    shift (Err f) v = refl

pub arguments_of : (params : List Kind) (xs : List Expr) (ms : List Node) → length xs ≡ length ms
    → arguments_verdict params (exprs_of xs) (nodes_of ms) ≡ arguments_from params 0 NoNode xs ms
arguments_of params xs ms h = arguments_behind params NoExpr NoNode xs ms h

-- numbers that differ fail the test
pub eqb_false : (m n : ℕ) → (m ≡ n → ⊥) → nat_eq m n ≡ false
eqb_false m n h = grind (arith, nat_tests)

pub arguments_next : (params : List Kind) (i : ℕ) (done done' : Nodes) (t : node.Node) (xs : List Expr)
    (x : Expr) (m : Node) (ms rest : List Node) (whole : Verdict Nodes)
    → i < length xs → x ≡ get_or xs i x → ms ≡ m ∷ rest
    → argument_verdict (slice_get params i) (node_of m) (first_span (expr_of x)) ≡ Ok t
    → done' ≡ AndNode done t
    → arguments_from params i done (drop i xs) ms ≡ whole
    → arguments_from params (i + 1) done' (drop (i + 1) xs) rest ≡ whole
arguments_next params i done done' t xs x m ms rest whole h e split step after inv =
    ap (λ d. arguments_from params (i + 1) d (drop (i + 1) xs) rest) after
    ∙ (sym (ap (λ v. v >>= λ u. arguments_from params (i + 1) (AndNode done u) (drop (i + 1) xs) rest) step)
    ∙ (sym (ap (λ l. arguments_from params i done l (m ∷ rest)) (left xs i x h e))
    ∙ (sym (ap (λ l. arguments_from params i done (drop i xs) l) split) ∙ inv)))

pub arguments_stop : (params : List Kind) (i : ℕ) (done : Nodes) (f : TypeFault) (xs : List Expr) (x : Expr)
    (m : Node) (ms rest : List Node) (whole : Verdict Nodes)
    → i < length xs → x ≡ get_or xs i x → ms ≡ m ∷ rest
    → argument_verdict (slice_get params i) (node_of m) (first_span (expr_of x)) ≡ Err f
    → arguments_from params i done (drop i xs) ms ≡ whole → whole ≡ Err f
arguments_stop params i done f xs x m ms rest whole h e split step inv =
    sym inv ∙ (ap (λ l. arguments_from params i done (drop i xs) l) split
    ∙ (ap (λ l. arguments_from params i done l (m ∷ rest)) (left xs i x h e)
    ∙ ap (λ v. v >>= λ u. arguments_from params (i + 1) (AndNode done u) (drop (i + 1) xs) rest) step))

pub arguments_end : (params : List Kind) (i : ℕ) (done : Nodes) (xs : List Expr) (ms : List Node)
    (whole : Verdict Nodes)
    → length xs ≤ i → arguments_from params i done (drop i xs) ms ≡ whole → whole ≡ Ok done
arguments_end params i done xs ms whole h inv = sym inv ∙ ap (λ l. arguments_from params i done l ms) (drop_all xs i h)

-- a fault of a part is one of the whole
pub fails_as : {A B : Type 0} (e : Refusal TypeFault) (v : Verdict A) (w : Verdict B) → Refuses e v
    → ((f : TypeFault) → v ≡ Err f → w ≡ Err f) → Refuses e w
fails_as NoMemory v w h step = tt
fails_as (Fault f) v w h step = step f h

abbrev pub element_r : Node → Expr → Verdict (Unit {0})
element_r m x = must_verdict (is_no_list (node_kind_of (node_of m)))
    (at (WrongKind None (Some ListKind)) (first_span (expr_of x)))

abbrev pub flat_from : List Expr → List Node → Verdict (Unit {0})
flat_from [] ms = Ok tt
flat_from (x ∷ xs) [] = Ok tt
flat_from (x ∷ xs) (m ∷ ms) = must_verdict (is_no_list (node_kind_of (node_of m)))
    (at (WrongKind None (Some ListKind)) (first_span (expr_of x))) >>= λ u. flat_from xs ms

flat_behind : (es : Exprs) (ts : Nodes) (xs : List Expr) (ms : List Node) → length xs ≡ length ms
    → flat_verdict (exprs_behind xs es) (nodes_behind ms ts) ≡ (flat_verdict es ts >>= λ u. flat_from xs ms)
flat_behind es ts [] [] h = unit (flat_verdict es ts)
flat_behind es ts [] (m ∷ ms) h = absurd (omega arith)
flat_behind es ts (x ∷ xs) [] h = absurd (omega arith)
flat_behind es ts (x ∷ xs) (m ∷ ms) h =
    let rest : length xs ≡ length ms = omega arith in
    flat_behind (AndExpr es (expr_of x)) (AndNode ts (node_of m)) xs ms rest
    ∙ assoc (flat_verdict es ts) (λ u. must_verdict (is_no_list (node_kind_of (node_of m)))
    (at (WrongKind None (Some ListKind)) (first_span (expr_of x)))) (λ u. flat_from xs ms)

pub flat_of : (xs : List Expr) (ms : List Node) → length xs ≡ length ms
    → flat_verdict (exprs_of xs) (nodes_of ms) ≡ flat_from xs ms
flat_of xs ms h = flat_behind NoExpr NoNode xs ms h

pub flat_next : (i : ℕ) (xs : List Expr) (x : Expr) (ms : List Node) (m : Node) (whole : Verdict (Unit {0}))
    → i < length xs → x ≡ get_or xs i x → i < length ms → m ≡ get_or ms i m
    → flat_from (drop i xs) (drop i ms) ≡ whole
    → (must_verdict (is_no_list (node_kind_of (node_of m)))
    (at (WrongKind None (Some ListKind)) (first_span (expr_of x))) >>= λ u.
    flat_from (drop (i + 1) xs) (drop (i + 1) ms)) ≡ whole
flat_next i xs x ms m whole hx ex hm em inv =
    sym (ap (λ l. flat_from l (m ∷ drop (i + 1) ms)) (left xs i x hx ex))
    ∙ (sym (ap (λ l. flat_from (drop i xs) l) (left ms i m hm em)) ∙ inv)

pub flat_end : (i : ℕ) (xs : List Expr) (ms : List Node) (whole : Verdict (Unit {0})) → length xs ≤ i
    → flat_from (drop i xs) (drop i ms) ≡ whole → whole ≡ Ok tt
flat_end i xs ms whole h inv = sym inv ∙ ap (λ l. flat_from l (drop i ms)) (drop_all xs i h)

pub map_push : {X Y : Type 0} (f : X → Y) (xs : List X) (x : X) → map f (xs ++ x ∷ []) ≡ map f xs ++ f x ∷ []
map_push f [] x = refl
map_push f (y ∷ xs) x = ap (λ l. f y ∷ l) (map_push f xs x)
