-- A list is walked: what is done and what is left make the whole.
use Rattle.std.proofs.Common.{◌≡◌, ℕ, suc, ◌+◌, ◌<◌, ◌≤◌, List, [], ◌∷◌, ◌++◌, length, get_or, drop, ap, sym, ◌∙◌, append_assoc, append-nil, arith, length-append}
use Rattle.std.proofs.Math.Seq.{drop-cons}
use Rattle.std.proofs.Math.ListN.{drop_of_length-le}

module _ {A B : Type 0} (f : ℕ → List A → List B) (one : ℕ → A → List B)
    (law : (n : ℕ) (x : A) (xs : List A) → f n (x ∷ xs) ≡ one n x ++ f (suc n) xs)
    (none : (n : ℕ) → f n [] ≡ []) where
  -- an item, and what is left after it
  seam-left : (i : ℕ) (xs : List A) (x : A) → i < length xs → x ≡ get_or xs i x
      → f i (drop i xs) ≡ one i x ++ f (i + 1) (drop (i + 1) xs)
  seam-left i xs x h e =
      let s : i + 1 ≡ suc i = omega arith in
      ap (f i) (drop-cons xs i x h) ∙ law i (get_or xs i x) (drop (suc i) xs)
      ∙ ap (λ (y : A). one i y ++ f (suc i) (drop (suc i) xs)) (sym e)
      ∙ ap (λ (k : ℕ). one i x ++ f k (drop k xs)) (sym s)

  pub seam-on : (done new total : List B) (i : ℕ) (xs : List A) (x : A) → i < length xs → x ≡ get_or xs i x
      → done ++ f i (drop i xs) ≡ total → new ≡ done ++ one i x → new ++ f (i + 1) (drop (i + 1) xs) ≡ total
  seam-on done new total i xs x h e k n =
      let rest : List B = f (i + 1) (drop (i + 1) xs) in
      ap (λ (z : List B). z ++ rest) n ∙ append_assoc done (one i x) rest
      ∙ ap (λ (z : List B). done ++ z) (sym (seam-left i xs x h e)) ∙ k

  pub seam-room : (done total : List B) (most i : ℕ) (xs : List A) (x : A) → i < length xs → x ≡ get_or xs i x
      → done ++ f i (drop i xs) ≡ total → length total ≤ most → length (done ++ one i x) ≤ most
  seam-room done total most i xs x h e k room =
      let rest : List B = f (i + 1) (drop (i + 1) xs) in
      let whole : (done ++ one i x) ++ rest ≡ total =
      append_assoc done (one i x) rest ∙ ap (λ (z : List B). done ++ z) (sym (seam-left i xs x h e)) ∙ k in
      omega (arith, ap length whole, length-append (done ++ one i x) rest)

  pub seam-end : (done total : List B) (i : ℕ) (xs : List A) → length xs ≤ i → done ++ f i (drop i xs) ≡ total
      → done ≡ total
  seam-end done total i xs h k =
      sym (ap (λ (ys : List A). done ++ f i ys) (drop_of_length-le xs h) ∙ ap (λ (z : List B). done ++ z) (none i)
      ∙ append-nil done) ∙ k
