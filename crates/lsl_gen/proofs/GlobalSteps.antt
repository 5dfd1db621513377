-- One more global.
use Rattle.std.proofs.Common.{◌≡◌, ℕ, suc, ◌+◌, ◌<◌, List, [], ◌∷◌, ◌++◌, length, sym, ap, ap₂, ◌∙◌, subst, arith, map, drop, get_or, drop-cons}
use Rattle.std.proofs.lemmas.List.{map-append}
use Rattle.lsl_value.specs.Values.{kind_of}
use Rattle.lsl_value.specs.declared.tagged.Value.{Value}
use Rattle.lsl_tree.specs.declared.program.Initial as declared
use Rattle.lsl_tree.specs.Initials.{initial_kind_of, AreKindedInitials}
use Rattle.lsl_tree.specs.Program.{Initial, initial_of}
use Rattle.lsl_meaning.specs.Globals.{initial_value_of, globals_behind}
use Rattle.lsl_meaning.proofs.GlobalLemmas.{kind_of-initial_value_of}

-- what is left after the element of this number
pub rest_of : {X : Type 0} (xs : List X) (i : ℕ) (x : X) → i < length xs → x ≡ get_or xs i x
    → drop i xs ≡ x ∷ drop (i + 1) xs
rest_of xs i x lt is =
    let next : suc i ≡ i + 1 = omega arith in
    drop-cons xs i x lt ∙ ap₂ (λ y n. y ∷ drop n xs) (sym is) next

next_global : (before : List Value) (g : Initial) (gs : List Initial) (w : List Value)
    → (globals_behind before (g ∷ gs) ≡ w) × AreKindedInitials (map kind_of before) (g ∷ gs)
    → (globals_behind (before ++ initial_value_of before g ∷ []) gs ≡ w)
    × AreKindedInitials (map kind_of (before ++ initial_value_of before g ∷ [])) gs
next_global before g gs w h =
    let v : Value = initial_value_of before g in
    let kinds : map kind_of (before ++ v ∷ []) ≡ map kind_of before ++ initial_kind_of g ∷ [] =
    map-append kind_of before (v ∷ []) ∙ ap (λ k. map kind_of before ++ k ∷ [])
    (kind_of-initial_value_of before g h.1.0) in
    (h.0, subst (λ ks. AreKindedInitials ks gs) (sym kinds) h.1.1)

pub global_step : (new before : List Value) (value : Value) (w : List Value) (gs : List declared.Initial)
    (i : ℕ) (g : declared.Initial) → i < length gs → g ≡ get_or gs i g
    → (globals_behind before (map initial_of (drop i gs)) ≡ w)
    × AreKindedInitials (map kind_of before) (map initial_of (drop i gs))
    → value ≡ initial_value_of before (initial_of g) → new ≡ before ++ value ∷ []
    → (globals_behind new (map initial_of (drop (i + 1) gs)) ≡ w)
    × AreKindedInitials (map kind_of new) (map initial_of (drop (i + 1) gs))
global_step new before value w gs i g lt is h v e =
    let rest = map initial_of (drop (i + 1) gs) in
    let split = ap (map initial_of) (rest_of gs i g lt is) in
    let all = subst (λ l. (globals_behind before l ≡ w) × AreKindedInitials (map kind_of before) l) split h in
    subst (λ vs. (globals_behind vs rest ≡ w) × AreKindedInitials (map kind_of vs) rest)
    (sym (e ∙ ap (λ x. before ++ x ∷ []) v)) (next_global before (initial_of g) rest w all)
