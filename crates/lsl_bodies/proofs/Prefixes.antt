-- Lists that begin with another, in which it stays where it is.
use Rattle.std.proofs.Common.{◌≡◌, ℕ, zero, suc, List, [], ◌∷◌, ◌++◌, length, take, Some, refl, sym, ap, ◌∙◌}
use Rattle.std.proofs.Common.{append_assoc, append-nil, slice_get}

pub record IsPrefix {X : Type 0} (xs all : List X) : Type 0 where
  pub rest : List X
  pub split : all ≡ xs ++ rest

pub prefix_itself : {X : Type 0} (xs : List X) → IsPrefix xs xs
prefix_itself xs = record { rest = []; split = sym (append-nil xs) }

pub prefix_longer : {X : Type 0} (xs ys zs : List X) → IsPrefix xs ys → IsPrefix ys zs → IsPrefix xs zs
prefix_longer xs ys zs a b = record {
  rest = a.rest ++ b.rest;
  split = b.split ∙ (ap (λ l. l ++ b.rest) a.split ∙ append_assoc xs a.rest b.rest);
}

pub prefix_push : {X : Type 0} (xs : List X) (x : X) → IsPrefix xs (xs ++ x ∷ [])
prefix_push xs x = record { rest = x ∷ []; split = refl }

get_before : {X : Type 0} (xs ys : List X) (i : ℕ) (x : X) → slice_get xs i ≡ Some x → slice_get (xs ++ ys) i ≡ Some x
get_before [] ys i x h = absurd (cc)
get_before (y ∷ xs) ys zero x h = h
get_before (y ∷ xs) ys (suc i) x h = get_before xs ys i x h

get_between : {X : Type 0} (xs : List X) (x : X) (ys : List X) → slice_get (xs ++ x ∷ ys) (length xs) ≡ Some x
get_between [] x ys = refl
get_between (y ∷ xs) x ys = get_between xs x ys

pub prefix_get : {X : Type 0} (xs all : List X) (i : ℕ) (x : X) → IsPrefix xs all → slice_get xs i ≡ Some x
    → slice_get all i ≡ Some x
prefix_get xs all i x b h = ap (λ l. slice_get l i) b.split ∙ get_before xs b.rest i x h

pub get_last : {X : Type 0} (xs : List X) (x : X) → slice_get (xs ++ x ∷ []) (length xs) ≡ Some x
get_last xs x = get_between xs x []

take_before : {X : Type 0} (xs ys : List X) → take (length xs) (xs ++ ys) ≡ xs
take_before [] ys = refl
take_before (x ∷ xs) ys = ap (λ l. x ∷ l) (take_before xs ys)

pub prefix_take : {X : Type 0} (xs all : List X) (n : ℕ) → IsPrefix xs all → n ≡ length xs → take n all ≡ xs
prefix_take xs all n b e = ap (λ m. take m all) e ∙ (ap (take (length xs)) b.split ∙ take_before xs b.rest)

-- one more of a list
pub take_next : {X : Type 0} (xs : List X) (n : ℕ) (x : X) → slice_get xs n ≡ Some x
    → take (suc n) xs ≡ take n xs ++ x ∷ []
take_next [] n x h = absurd (cc)
take_next (y ∷ xs) zero x h = let same : y ≡ x = cc in ap (λ z. z ∷ []) same
take_next (y ∷ xs) (suc n) x h = ap (λ l. y ∷ l) (take_next xs n x h)
