-- The nearest of a name.
use Rattle.std.proofs.Common.{◌≡◌, ℕ, ◌<◌, ◌≤◌, Bool, true, false, cond, Option, Some, None, List, [], ◌∷◌, ◌++◌}
use Rattle.std.proofs.Common.{length, refl, sym, ap, ◌∙◌, subst, ◌⊎◌, inl, inr, arith, zero, suc, length-append}
use Rattle.std.specs.Prelude.{is_some, IfSome}
use Rattle.std.specs.Prelude.{Contains}
use Rattle.std.specs.Str.{bytes_eq}
use Rattle.std.proofs.lemmas.Slice.Eq.{bytes_eq-Decides}
use Rattle.std.proofs.lemmas.List.Elements.{Contains-append_cases, Contains-append_right}
use Rattle.lsl_bodies.specs.Names.{nearest, IsNearest}

pub Contains-none : {X : Type 0} (x : X) → Contains [] x → ⊥
Contains-none x h = omega (arith, h.1)

pub Contains-head : {X : Type 0} (x : X) (xs : List X) → Contains (x ∷ xs) x
Contains-head x xs = (0, omega arith, refl)

pub Contains-tail : {X : Type 0} (y x : X) (xs : List X) → Contains xs x → Contains (y ∷ xs) x
Contains-tail y x xs h = Contains-append_right (y ∷ []) xs x h

Contains-single : {X : Type 0} (y x : X) → Contains (y ∷ []) x → y ≡ x
Contains-single y x (zero, h, e) = e
Contains-single y x (suc k, h, e) = absurd (omega (arith, h))

pub Contains-cases : {X : Type 0} (y x : X) (xs : List X) → Contains (y ∷ xs) x → (y ≡ x) ⊎ Contains xs x
Contains-cases y x xs h = elim (Contains-append_cases (y ∷ []) xs x h)
    [ inl s ↦ inl (Contains-single y x s) | inr t ↦ inr t ]

nearest_here : (name x : List ℕ) (xs : List (List ℕ)) → bytes_eq x name ≡ true
    → nearest name (x ∷ xs) ≡ Some (length xs)
nearest_here name x xs h = ap (λ b. cond b (Some (length xs)) (nearest name xs)) h

nearest_behind : (name x : List ℕ) (xs : List (List ℕ)) → bytes_eq x name ≡ false
    → nearest name (x ∷ xs) ≡ nearest name xs
nearest_behind name x xs h = ap (λ b. cond b (Some (length xs)) (nearest name xs)) h

pub nearest_is : (name : List ℕ) (names : List (List ℕ)) (n : ℕ) → nearest name names ≡ Some n → IsNearest name names n
nearest_is name [] n h = absurd (cc)
nearest_is name (x ∷ xs) n h = go (bytes_eq x name) refl (nearest_is name xs n)
  where
    go : (b : Bool) → bytes_eq x name ≡ b → (nearest name xs ≡ Some n → IsNearest name xs n) → IsNearest name (x ∷ xs) n
    go true e rest =
        let same : Some (length xs) ≡ Some n = sym (nearest_here name x xs e) ∙ h in
        record {
          later = [];
          earlier = xs;
          split = ap (λ y. y ∷ xs) ((bytes_eq-Decides x name).0 e);
          first = Contains-none name;
          numbered = cc;
        }
    go false e rest =
        let r = rest (sym (nearest_behind name x xs e) ∙ h) in
        record {
          later = x ∷ r.later;
          earlier = r.earlier;
          split = ap (λ l. x ∷ l) r.split;
          first = λ c. elim (Contains-cases x name r.later c) [
            | inl s ↦ let t : bytes_eq x name ≡ true =
                (bytes_eq-Decides x name).1 s in let f : false ≡ true = sym e ∙ t in cc
            | inr d ↦ r.first d
          ];
          numbered = r.numbered;
        }

nearest_split : (name : List ℕ) (later earlier : List (List ℕ)) → (Contains later name → ⊥)
    → nearest name (later ++ name ∷ earlier) ≡ Some (length earlier)
nearest_split name [] earlier never = nearest_here name name earlier ((bytes_eq-Decides name name).1 refl)
nearest_split name (x ∷ later) earlier never =
    go (bytes_eq x name) refl (nearest_split name later earlier (λ c. never (Contains-tail x name later c)))
  where
    go : (b : Bool) → bytes_eq x name ≡ b → nearest name (later ++ name ∷ earlier) ≡ Some (length earlier)
        → nearest name (x ∷ (later ++ name ∷ earlier)) ≡ Some (length earlier)
    go true e rest = absurd (never (subst (λ y. Contains (x ∷ later) y) ((bytes_eq-Decides x name).0 e)
        (Contains-head x later)))
    go false e rest = nearest_behind name x (later ++ name ∷ earlier) e ∙ rest

pub is_nearest : (name : List ℕ) (names : List (List ℕ)) (n : ℕ) → IsNearest name names n → nearest name names ≡ Some n
is_nearest name names n h = ap (nearest name) h.split
    ∙ (nearest_split name h.later h.earlier h.first ∙ ap Some (sym h.numbered))

pub nearest_contains : (name : List ℕ) (names : List (List ℕ)) → is_some (nearest name names) ≡ true
    → Contains names name
nearest_contains name names h = go (nearest name names) refl h
  where
    go : (o : Option ℕ) → nearest name names ≡ o → is_some o ≡ true → Contains names name
    go None e f = absurd (cc)
    go (Some n) e f =
        let r = nearest_is name names n e in
        subst (λ l. Contains l name) (sym r.split)
        (Contains-append_right r.later (name ∷ r.earlier) name (Contains-head name r.earlier))

pub contains_nearest : (name : List ℕ) (names : List (List ℕ)) → Contains names name
    → is_some (nearest name names) ≡ true
contains_nearest name [] h = absurd (Contains-none name h)
contains_nearest name (x ∷ xs) h = go (bytes_eq x name) refl (contains_nearest name xs)
  where
    go : (b : Bool) → bytes_eq x name ≡ b → (Contains xs name → is_some (nearest name xs) ≡ true)
        → is_some (nearest name (x ∷ xs)) ≡ true
    go true e rest = ap is_some (nearest_here name x xs e)
    go false e rest = ap is_some (nearest_behind name x xs e)
        ∙ rest (elim (Contains-cases x name xs h) [
          | inl s ↦ let t : bytes_eq x name ≡ true =
              (bytes_eq-Decides x name).1 s in let f : false ≡ true = sym e ∙ t in absurd (cc)
          | inr d ↦ d
        ])

-- the number of a name is below the count of names
pub nearest-within : (name : List ℕ) (names : List (List ℕ)) (n : ℕ) → nearest name names ≡ Some n → n < length names
nearest-within name names n h =
    let r = nearest_is name names n h in
    omega (arith, r.numbered, ap length r.split, length-append r.later (name ∷ r.earlier))

pub IfSome-nearest : (o : Option ℕ) (name : List ℕ) (names : List (List ℕ)) (m : ℕ) → o ≡ nearest name names
    → length names ≤ m → IfSome o (λ n. n < m)
IfSome-nearest None name names m h le = tt
IfSome-nearest (Some n) name names m h le = omega (arith, nearest-within name names n (sym h))
