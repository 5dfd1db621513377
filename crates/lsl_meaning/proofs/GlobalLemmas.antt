-- Kinds of initial globals.
use Rattle.std.proofs.Common.{◌≡◌, ℕ, zero, suc, List, [], ◌∷◌, ◌++◌, map, Some, refl, sym, ap, ◌∙◌, subst, append_assoc, append-nil, get_or, slice_get}
use Rattle.std.proofs.lemmas.Option.{none-some}
use Rattle.lsl_value.specs.Values.{kind_of}
use Rattle.lsl_value.specs.declared.tagged.Kind.{Kind}
use Rattle.lsl_value.specs.declared.tagged.Value.{Value}
use Rattle.lsl_tree.specs.declared.program.Part.{Part}
use Rattle.lsl_tree.specs.declared.program.Part.TheVariants.{Int, Negative, Str, Constant, Global}
use Rattle.lsl_tree.specs.Initials.{part_kind_of, initial_kind_of, IsKindedPart, IsKindedInitial, AreKindedInitials}
use Rattle.lsl_tree.specs.Program.{Initial, Single, Cast, ListLiteral}
use Rattle.lsl_running.specs.Values.{absent}
use Rattle.lsl_meaning.specs.Globals.{part_value_of, initial_value_of, globals_behind}
use Rattle.lsl_meaning.specs.KindLaws.{GlobalsKeepKinds}
use Rattle.lsl_meaning.proofs.KindLemmas.{some-same, casts}

kind_of-get_or : (before : List Value) (n : ℕ) (k : Kind)
    → slice_get (map kind_of before) n ≡ Some k → kind_of (get_or before n absent) ≡ k
kind_of-get_or [] n k there = absurd (none-some k there)
kind_of-get_or (v ∷ vs) zero k there = some-same (kind_of v) k there
kind_of-get_or (v ∷ vs) (suc n) k there = kind_of-get_or vs n k there

pub kind_of-part_value_of : (before : List Value) (p : Part)
    → IsKindedPart (map kind_of before) p → kind_of (part_value_of before p) ≡ part_kind_of p
kind_of-part_value_of before (Int n) kinded = refl
kind_of-part_value_of before (Negative n) kinded = refl
kind_of-part_value_of before (Str text) kinded = refl
kind_of-part_value_of before (Constant id k) kinded = kinded
kind_of-part_value_of before (Global n k) kinded = kind_of-get_or before n k kinded

pub kind_of-initial_value_of : (before : List Value) (g : Initial)
    → IsKindedInitial (map kind_of before) g → kind_of (initial_value_of before g) ≡ initial_kind_of g
kind_of-initial_value_of before (Single p) kinded = kind_of-part_value_of before p kinded
kind_of-initial_value_of before (Cast k p) kinded = casts (part_value_of before p) k
kind_of-initial_value_of before (ListLiteral ps) kinded = refl

map-append : {A B : Type 0} (f : A → B) (xs : List A) (y : A) → map f (xs ++ y ∷ []) ≡ map f xs ++ f y ∷ []
map-append f [] y = refl
map-append f (x ∷ xs) y = ap (λ zs. f x ∷ zs) (map-append f xs y)

kinds_of-globals_behind : (before : List Value) (gs : List Initial)
    → AreKindedInitials (map kind_of before) gs
    → map kind_of (globals_behind before gs) ≡ map kind_of before ++ map initial_kind_of gs
kinds_of-globals_behind before [] kinded = sym (append-nil (map kind_of before))
kinds_of-globals_behind before (g ∷ gs) kinded =
    let v : Value = initial_value_of before g in
    let same : map kind_of (before ++ v ∷ []) ≡ map kind_of before ++ initial_kind_of g ∷ [] =
    map-append kind_of before v ∙ ap (λ k. map kind_of before ++ k ∷ []) (kind_of-initial_value_of before g kinded.0) in
    kinds_of-globals_behind (before ++ v ∷ []) gs (subst (λ ks. AreKindedInitials ks gs) (sym same) kinded.1)
    ∙ ap (λ ks. ks ++ map initial_kind_of gs) same
    ∙ append_assoc (map kind_of before) (initial_kind_of g ∷ []) (map initial_kind_of gs)

pub globals : GlobalsKeepKinds
globals p kinded = kinds_of-globals_behind [] p.globals kinded.globals
