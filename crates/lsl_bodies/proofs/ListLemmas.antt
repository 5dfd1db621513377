-- Lists without repetition.
use Rattle.std.proofs.Common.{List, [], ◌∷◌, ◌++◌, map, sym, inl, inr, subst, arith}
use Rattle.std.specs.Prelude.{◌≢◌, Contains, All}
use Rattle.std.specs.List.{AllPairs}
use Rattle.std.proofs.lemmas.List.Elements.{All-nil, All-cons, Contains-append_cases}
use Rattle.std.proofs.lemmas.List.Kept.{AllPairs-cons}
use Rattle.lsl_bodies.proofs.NameLemmas.{Contains-none, Contains-head, Contains-tail, Contains-cases}

abbrev pub AreApart : {X : Type 0} → List X → Type 0
AreApart [] = Unit {0}
AreApart (x ∷ xs) = (Contains xs x → ⊥) × AreApart xs

pub all_contained : {X : Type 0} (P : X → Type 0) (xs : List X) → ((x : X) → Contains xs x → P x) → All P xs
all_contained P [] h = All-nil P
all_contained P (x ∷ xs) h =
    All-cons P x xs (h x (Contains-head x xs)) (all_contained P xs (λ y c. h y (Contains-tail x y xs c)))

pub apart_pairs : {X : Type 0} (xs : List X) → AreApart xs → AllPairs (λ a b. a ≢ b) xs
apart_pairs [] h = λ i j d lt below. absurd (omega (arith, below))
apart_pairs (x ∷ xs) h =
    AllPairs-cons (λ a b. a ≢ b) x xs (all_contained (λ y. x ≢ y) xs (λ y c e. h.0 (subst (Contains xs) (sym e) c)))
    (apart_pairs xs h.1)

pub apart_append : {X : Type 0} (xs ys : List X) → AreApart xs → AreApart ys
    → ((x : X) → Contains xs x → Contains ys x → ⊥) → AreApart (xs ++ ys)
apart_append [] ys a b h = b
apart_append (x ∷ xs) ys a b h = (
  λ c. elim (Contains-append_cases xs ys x c) [ inl i ↦ a.0 i | inr j ↦ h x (Contains-head x xs) j ],
  apart_append xs ys a.1 b (λ y i j. h y (Contains-tail x y xs i) j),
)

contains_map : {X Y : Type 0} (f : X → Y) (xs : List X) (x : X) → Contains xs x → Contains (map f xs) (f x)
contains_map f [] x c = absurd (Contains-none x c)
contains_map f (y ∷ xs) x c = elim (Contains-cases y x xs c) [
  | inl s ↦ subst (λ z. Contains (f y ∷ map f xs) (f z)) s (Contains-head (f y) (map f xs))
  | inr d ↦ Contains-tail (f y) (f x) (map f xs) (contains_map f xs x d)
]

pub apart_pairs_by : {X Y : Type 0} (f : X → Y) (xs : List X) → AreApart (map f xs) → AllPairs (λ a b. f a ≢ f b) xs
apart_pairs_by f [] h = λ i j d lt below. absurd (omega (arith, below))
apart_pairs_by f (x ∷ xs) h =
    AllPairs-cons (λ a b. f a ≢ f b) x xs
    (all_contained (λ y. f x ≢ f y) xs (λ y c e. h.0 (subst (Contains (map f xs)) (sym e) (contains_map f xs y c))))
    (apart_pairs_by f xs h.1)
