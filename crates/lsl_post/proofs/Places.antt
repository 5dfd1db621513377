-- What is at a place of a list, and from there on.
use Rattle.std.proofs.Common.{◌≡◌, ℕ, ◌+◌, ◌≤◌, Bool, true, false, not, ◌||◌, cond, List, [], ◌∷◌, ◌++◌, length, drop, take, map, get_or, slice_get, Option, Some, None, is_some, refl, ap, sym, ◌∙◌}
use Rattle.std.proofs.lemmas.List.{drop_more, drop_all, take_more}
use Rattle.std.proofs.lemmas.Option.{slice_get_within, unwrap_or-slice_get}
use Rattle.std.specs.List.{list_any, position, position_from}
use Rattle.std.proofs.lemmas.Iterator.Adapters.{position_from-zero}
use Rattle.std.specs.Option.{unwrap_or}

pub not-not : (b : Bool) → not (not b) ≡ b
not-not true = refl
not-not false = refl

pub drop-at : {X : Type 0} (xs : List X) (i : ℕ) (x : X) → Some x ≡ slice_get xs i
    → drop i xs ≡ x ∷ drop (i + 1) xs
drop-at {X = X} xs i x e =
    let item : get_or xs i x ≡ x = sym (unwrap_or-slice_get xs i x)
    ∙ ap (λ (o : Option X). unwrap_or o x) (sym e) in
    drop_more xs i x (slice_get_within xs i x (sym e)) ∙ ap (λ (y : X). y ∷ drop (i + 1) xs) item

pub take-at : {X : Type 0} (xs : List X) (i : ℕ) (x : X) → Some x ≡ slice_get xs i
    → take (i + 1) xs ≡ take i xs ++ x ∷ []
take-at {X = X} xs i x e =
    let item : get_or xs i x ≡ x = sym (unwrap_or-slice_get xs i x)
    ∙ ap (λ (o : Option X). unwrap_or o x) (sym e) in
    take_more xs i x (slice_get_within xs i x (sym e)) ∙ ap (λ (y : X). take i xs ++ y ∷ []) item

-- a test at the places one after another
pub any-at : {X : Type 0} (p : X → Bool) (xs : List X) (i : ℕ) (x : X) (b : Bool) → Some x ≡ slice_get xs i
    → p x ≡ b
    → list_any p (drop i xs) ≡ (b || list_any p (drop (i + 1) xs))
any-at p xs i x b e h = ap (list_any p) (drop-at xs i x e)
    ∙ ap (λ (c : Bool). c || list_any p (drop (i + 1) xs)) h

pub any-none : {X : Type 0} (p : X → Bool) (xs : List X) (i : ℕ) → length xs ≤ i
    → list_any p (drop i xs) ≡ false
any-none p xs i h = ap (list_any p) (drop_all i xs h)

-- the first place at which a test passes, at the places one after another
pub position-at : {X K : Type 0} (t : K → Bool) (f : X → K) (xs : List X) (i : ℕ) (x : X) (b : Bool)
    → Some x ≡ slice_get xs i → t (f x) ≡ b
    → position_from t i (map f (drop i xs))
    ≡ cond b (Some i) (position_from t (i + 1) (map f (drop (i + 1) xs)))
position-at t f xs i x b e h =
    ap (λ l. position_from t i (map f l)) (drop-at xs i x e)
    ∙ ap (λ (c : Bool). cond c (Some i) (position_from t (i + 1) (map f (drop (i + 1) xs)))) h

pub position-none : {X K : Type 0} (t : K → Bool) (f : X → K) (xs : List X) (i : ℕ) → length xs ≤ i
    → position_from t i (map f (drop i xs)) ≡ None
position-none t f xs i h = ap (λ l. position_from t i (map f l)) (drop_all i xs h)

-- a test passes somewhere exactly where there is a first place
found-from : {K : Type 0} (t : K → Bool) (xs : List K) (i : ℕ)
    → list_any t xs ≡ is_some (position_from t i xs)
found-from t [] i = refl
found-from t (x ∷ xs) i =
    ap (λ b. t x || b) (found-from t xs (i + 1)) ∙ either (t x) (position_from t (i + 1) xs)
  where
    either : (b : Bool) (o : Option ℕ) → (b || is_some o) ≡ is_some (cond b (Some i) o)
    either true o = refl
    either false o = refl

pub found : {K : Type 0} (t : K → Bool) (xs : List K) → list_any t xs ≡ is_some (position t xs)
found {K = K} t xs = found-from t xs 0 ∙ ap is_some (sym (position_from-zero {B = K} t xs))
