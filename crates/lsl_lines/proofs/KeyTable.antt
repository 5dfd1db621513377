-- Keys in a table, and the list of their bytes.
use Rattle.std.proofs.Common.{◌≡◌, ℕ, Bool, true, false, ◌||◌, List, [], ◌∷◌, ◌++◌, map, refl, ap, ◌∙◌, if◌then◌else◌}
use Rattle.std.specs.List.{list_any}
use Rattle.std.specs.Str.{bytes_eq}
use Rattle.indexmap.specs.IndexSet.{insert_key}

pub list_any-map : {X : Type 0} (f : X → List ℕ) (p : List ℕ → Bool) (xs : List X)
    → list_any (λ x. p (f x)) xs ≡ list_any p (map f xs)
list_any-map f p [] = refl
list_any-map f p (x ∷ xs) = ap (λ b. p (f x) || b) (list_any-map f p xs)

map-end : {X : Type 0} (f : X → List ℕ) (xs : List X) (x : X) → map f (xs ++ x ∷ []) ≡ map f xs ++ f x ∷ []
map-end f [] x = refl
map-end f (y ∷ ys) x = ap (λ l. f y ∷ l) (map-end f ys x)

-- a key that isn't in the table comes last
pub key_added : {X : Type 0} (f : X → List ℕ) (keys : List X) (s : X) (b : List ℕ) → f s ≡ b
    → list_any (bytes_eq b) (map f keys) ≡ false
    → map f (insert_key (λ x y. bytes_eq (f x) (f y)) keys s) ≡ map f keys ++ b ∷ []
key_added {X} f keys s b e h =
    let absent : list_any (λ y. bytes_eq (f s) (f y)) keys ≡ false =
    list_any-map f (bytes_eq (f s)) keys ∙ ap (λ l. list_any (bytes_eq l) (map f keys)) e ∙ h in
    go (list_any (λ y. bytes_eq (f s) (f y)) keys) absent
  where
    go : (t : Bool) → t ≡ false → map f (if t then keys else keys ++ s ∷ []) ≡ map f keys ++ b ∷ []
    go true h = absurd (cc)
    go false h = map-end f keys s ∙ ap (λ l. map f keys ++ l ∷ []) e
