-- The last element of a list is changed; the place of a file.
use Rattle.std.proofs.Common.{◌≡◌, ℕ, ◌<◌, ◌≤◌, Bool, not, cond, List, [], ◌∷◌, ◌++◌, length, Some, None, Result, Ok, Err, refl, sym, ap, ◌∙◌, ⊎_elim, arith}
use Rattle.std.proofs.lemmas.Bool.{cases_lt, lt-ltb, le-ltb}
use Rattle.std.proofs.lemmas.List.Sums.{prefix_len-le-length}
use Rattle.std.specs.Prelude.{unwrap_or, position}
use Rattle.std.specs.List.{position_or_len}
use Rattle.std.specs.Str.{bytes_eq}
use Rattle.lsl_lines.specs.Checks.{◌>>=◌}
use Rattle.lsl_lines.specs.Reading.{at_last, place_of, file_added}
use Rattle.lsl_lines.specs.Reads.{Makes}
use Rattle.lsl_text.specs.declared.Refusal.{Refusal}
use Rattle.lsl_text.specs.declared.Refusal.TheVariants.{Fault, NoMemory}
use Rattle.lsl_lines.specs.declared.faults.FileKind.{FileKind}

at_last-end : {A : Type 0} (f : A → Result A FileKind) (xs : List A) (x : A)
    → at_last f (xs ++ x ∷ []) ≡ (f x >>= λ y. Ok (xs ++ y ∷ []))
at_last-end f [] x = refl
at_last-end f (a ∷ []) x = both (f x)
  where
    both : (r : Result _ FileKind) → ((r >>= λ y. Ok (y ∷ [])) >>= λ zs. Ok (a ∷ zs)) ≡ (r >>= λ y. Ok (a ∷ y ∷ []))
    both (Ok y) = refl
    both (Err k) = refl
at_last-end f (a ∷ b ∷ xs) x = ap (λ r. r >>= λ zs. Ok (a ∷ zs)) (at_last-end f (b ∷ xs) x) ∙ both (f x)
  where
    both : (r : Result _ FileKind) → ((r >>= λ y. Ok (b ∷ (xs ++ y ∷ []))) >>= λ zs. Ok (a ∷ zs))
        ≡ (r >>= λ y. Ok (a ∷ b ∷ (xs ++ y ∷ [])))
    both (Ok y) = refl
    both (Err k) = refl

pub at_last-ok : {A : Type 0} (f : A → Result A FileKind) (xs ys : List A) (x y : A) → xs ≡ ys ++ x ∷ []
    → f x ≡ Ok y → at_last f xs ≡ Ok (ys ++ y ∷ [])
at_last-ok f xs ys x y e h = ap (at_last f) e ∙ at_last-end f ys x ∙ ap (λ r. r >>= λ z. Ok (ys ++ z ∷ [])) h

-- a refusal of the last one is that of the list
pub at_last-refused : {A : Type 0} (B : Type 0) (f : A → Result A FileKind) (xs ys : List A) (x y : A)
    (new : List A) (r : Refusal FileKind) → xs ≡ ys ++ x ∷ [] → Makes {A = B} (Err r) y (f x)
    → Makes {A = B} (Err r) new (at_last f xs)
at_last-refused B f xs ys x y new (Fault k) e h =
    ap (at_last f) e ∙ at_last-end f ys x ∙ ap (λ r. r >>= λ z. Ok (ys ++ z ∷ [])) h
at_last-refused B f xs ys x y new NoMemory e h = tt

pub file_added-known : (files : List (List ℕ)) (file : List ℕ) → (place_of files file ≡ length files → ⊥)
    → files ≡ file_added files file
file_added-known files file h =
    let le = prefix_len-le-length (λ x. not (bytes_eq file x)) files in
    let lt : place_of files file < length files = omega (arith, le, h) in
    sym (ap (λ b. cond b files (files ++ file ∷ [])) (lt-ltb (place_of files file) (length files) lt))

-- the place of the first that passes, or the length
pub position-or_len : {X : Type 0} (p : X → Bool) (xs : List X)
    → unwrap_or (position p xs) (length xs) ≡ position_or_len p xs
position-or_len p xs = ⊎_elim found none (cases_lt (position_or_len p xs) (length xs))
  where
    found : position_or_len p xs < length xs → unwrap_or (position p xs) (length xs) ≡ position_or_len p xs
    found lt = ap (λ b. unwrap_or (cond b (Some (position_or_len p xs)) None) (length xs))
        (lt-ltb (position_or_len p xs) (length xs) lt)

    none : length xs ≤ position_or_len p xs → unwrap_or (position p xs) (length xs) ≡ position_or_len p xs
    none le =
        let most = prefix_len-le-length (λ x. not (p x)) xs in
        let same : length xs ≡ position_or_len p xs = omega (arith, le, most) in
        ap (λ b. unwrap_or (cond b (Some (position_or_len p xs)) None) (length xs))
        (le-ltb (position_or_len p xs) (length xs) le) ∙ same
