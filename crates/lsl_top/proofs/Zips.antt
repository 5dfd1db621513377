-- Two lists of things that belong together, place by place.
use Rattle.std.proofs.Common.{◌≡◌, ℕ, zero, suc, ◌+◌, ◌<◌, List, [], ◌∷◌, ◌++◌, length, map, take, get_or, Some, refl, sym, ap, ◌∙◌, subst, arith}
use Rattle.std.specs.Prelude.{slice_get}
use Rattle.std.specs.List.{AllByRecursion, AllZip}
use Rattle.std.proofs.lemmas.List.{take_more, map-append, length-map}

pub zip-push : {A B : Type 0} (R : A → B → Type 0) (xs : List A) (ys : List B) (x : A) (y : B) → AllZip R xs ys → R x y
    → AllZip R (xs ++ x ∷ []) (ys ++ y ∷ [])
zip-push R [] [] x y h r = (r, tt)
zip-push R (a ∷ xs) (b ∷ ys) x y h r = (h.0, zip-push R xs ys x y h.1 r)
zip-push R [] (b ∷ ys) x y h r = absurd h
zip-push R (a ∷ xs) [] x y h r = absurd h

get-map : {A B : Type 0} (f : A → B) (xs : List A) (i : ℕ) (d : A) → i < length xs
    → get_or (map f xs) i (f d) ≡ f (get_or xs i d)
get-map f [] i d lt = absurd (omega arith)
get-map f (x ∷ xs) zero d lt = refl
get-map f (x ∷ xs) (suc i) d lt = get-map f xs i d (omega arith)

-- the element at a place is the next of those that are taken
pub take-map-more : {A B : Type 0} (f : A → B) (xs : List A) (i : ℕ) (d x : A) → i < length xs → x ≡ get_or xs i d
    → take (i + 1) (map f xs) ≡ take i (map f xs) ++ f x ∷ []
take-map-more f xs i d x lt is =
    take_more (map f xs) i (f d) (omega (arith, lt, length-map xs f))
    ∙ ap (λ z. take i (map f xs) ++ z ∷ []) (get-map f xs i d lt ∙ sym (ap f is))

-- two elements more
pub zip-more : {A B C D : Type 0} (R : B → D → Type 0) (f : A → B) (g : C → D) (xs : List A) (ys : List C) (i : ℕ)
    (d x : A) (y : C) → i < length xs → x ≡ get_or xs i d → AllZip R (take i (map f xs)) (map g ys) → R (f x) (g y)
    → AllZip R (take (i + 1) (map f xs)) (map g (ys ++ y ∷ []))
zip-more R f g xs ys i d x y lt is h r =
    subst (λ z. AllZip R (take (i + 1) (map f xs)) z) (sym (map-append g ys (y ∷ [])))
    (subst (λ z. AllZip R z (map g ys ++ g y ∷ [])) (sym (take-map-more f xs i d x lt is))
    (zip-push R (take i (map f xs)) (map g ys) (f x) (g y) h r))

pub get-at : {A B : Type 0} (f : A → B) (xs : List A) (i : ℕ) (d : A) → i < length xs
    → slice_get (map f xs) i ≡ Some (f (get_or xs i d))
get-at f [] i d lt = absurd (omega arith)
get-at f (x ∷ xs) zero d lt = refl
get-at f (x ∷ xs) (suc i) d lt = get-at f xs i d (omega arith)

-- there is an element at a place below the length alone
pub get-below : {A : Type 0} (xs : List A) (i : ℕ) (x : A) → slice_get xs i ≡ Some x → i < length xs
get-below [] i x e = absurd (cc)
get-below (y ∷ xs) zero x e = omega arith
get-below (y ∷ xs) (suc i) x e = let lt = get-below xs i x e in omega arith

-- what each of the images keeps, the image of one at a place does
pub each-map : {A B : Type 0} (P : B → Type 0) (f : A → B) (xs : List A) (i : ℕ) (x : A) → i < length xs
    → x ≡ get_or xs i x → AllByRecursion P (map f xs) → P (f x)
each-map P f [] i x lt is each = absurd (omega (arith, lt))
each-map P f (y ∷ xs) zero x lt is each = subst (λ z. P (f z)) (sym is) each.0
each-map P f (y ∷ xs) (suc i) x lt is each = each-map P f xs i x (omega (arith, lt)) is each.1
