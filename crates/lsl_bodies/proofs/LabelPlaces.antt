-- The numbers of a block's labels: each has one of its own, which no block around has.
use Rattle.std.proofs.Common.{◌≡◌, ℕ, ◌<◌, ◌≤◌, Bool, true, false, cond, Option, Some, None, List, [], ◌∷◌, ◌++◌}
use Rattle.std.proofs.Common.{length, refl, sym, ap, ◌∙◌, subst, ◌⊎◌, inl, inr, arith, length-append, not}
use Rattle.std.specs.Prelude.{Contains, is_some}
use Rattle.std.specs.Str.{bytes_eq}
use Rattle.std.proofs.lemmas.Slice.Eq.{bytes_eq-Decides}
use Rattle.std.proofs.lemmas.List.Elements.{Contains-append_left, Contains-append_right, Contains-append_cases}
use Rattle.lsl_bodies.specs.Names.{nearest}
use Rattle.lsl_bodies.specs.Scope.{FrameView, is_since, with_passed}
use Rattle.lsl_bodies.proofs.NameLemmas.{nearest_is, nearest-within, contains_nearest, Contains-none, Contains-head}
use Rattle.lsl_bodies.proofs.NameLemmas.{Contains-tail, Contains-cases}
use Rattle.lsl_bodies.proofs.ActionLemmas.{is_since-of}
use Rattle.lsl_bodies.proofs.ListLemmas.{AreApart, apart_append}

-- the nearest of a name is the first, or one after it
here : (name x : List ℕ) (xs : List (List ℕ)) → bytes_eq x name ≡ true → nearest name (x ∷ xs) ≡ Some (length xs)
here name x xs h = ap (λ b. cond b (Some (length xs)) (nearest name xs)) h

behind : (name x : List ℕ) (xs : List (List ℕ)) → bytes_eq x name ≡ false → nearest name (x ∷ xs) ≡ nearest name xs
behind name x xs h = ap (λ b. cond b (Some (length xs)) (nearest name xs)) h

-- the nearest of a name is in the one list or in the other
nearest_append : (name : List ℕ) (xs ys : List (List ℕ)) (n : ℕ) → nearest name (xs ++ ys) ≡ Some n
    → Contains xs name ⊎ (nearest name ys ≡ Some n)
nearest_append name [] ys n h = inr h
nearest_append name (x ∷ xs) ys n h = go (bytes_eq x name) refl (nearest_append name xs ys n)
  where
    go : (b : Bool) → bytes_eq x name ≡ b
        → (nearest name (xs ++ ys) ≡ Some n → Contains xs name ⊎ (nearest name ys ≡ Some n))
        → Contains (x ∷ xs) name ⊎ (nearest name ys ≡ Some n)
    go true e rest = inl (subst (λ y. Contains (x ∷ xs) y) ((bytes_eq-Decides x name).0 e) (Contains-head x xs))
    go false e rest = elim (rest (sym (behind name x (xs ++ ys) e) ∙ h)) [
      | inl c ↦ inl (Contains-tail x name xs c)
      | inr k ↦ inr k
    ]

-- a name of the first list has a number after those of the second
nearest_above : (name : List ℕ) (xs ys : List (List ℕ)) (n : ℕ) → Contains xs name
    → nearest name (xs ++ ys) ≡ Some n → length ys ≤ n
nearest_above name [] ys n c h = absurd (Contains-none name c)
nearest_above name (x ∷ xs) ys n c h = go (bytes_eq x name) refl (nearest_above name xs ys n)
  where
    go : (b : Bool) → bytes_eq x name ≡ b → (Contains xs name → nearest name (xs ++ ys) ≡ Some n → length ys ≤ n)
        → length ys ≤ n
    go true e rest =
        let same : Some (length (xs ++ ys)) ≡ Some n = sym (here name x (xs ++ ys) e) ∙ h in
        let number : length (xs ++ ys) ≡ n = cc in
        omega (arith, number, length-append xs ys)
    go false e rest =
        elim (Contains-cases x name xs c) [
          | inl s ↦ let t : false ≡ true = sym e ∙ (bytes_eq-Decides x name).1 s in absurd (cc)
          | inr d ↦ rest d (sym (behind name x (xs ++ ys) e) ∙ h)
        ]

-- two names with one number are the same
one_name : (a b : List ℕ) (names : List (List ℕ)) (n : ℕ) → nearest a names ≡ Some n → nearest b names ≡ Some n
    → a ≡ b
one_name a b [] n h k = absurd (cc)
one_name a b (x ∷ xs) n h k = go (bytes_eq x a) (bytes_eq x b) refl refl (one_name a b xs n)
  where
    number : (name : List ℕ) → bytes_eq x name ≡ true → nearest name (x ∷ xs) ≡ Some n → length xs ≡ n
    number name e g = let same : Some (length xs) ≡ Some n = sym (here name x xs e) ∙ g in cc

    below : (name : List ℕ) → bytes_eq x name ≡ false → nearest name (x ∷ xs) ≡ Some n → nearest name xs ≡ Some n
    below name e g = sym (behind name x xs e) ∙ g

    apart : (name other : List ℕ) → bytes_eq x name ≡ true → bytes_eq x other ≡ false
        → nearest name (x ∷ xs) ≡ Some n → nearest other (x ∷ xs) ≡ Some n → ⊥
    apart name other e f g i = omega (arith, number name e g, nearest-within other xs n (below other f i))

    go : (s t : Bool) → bytes_eq x a ≡ s → bytes_eq x b ≡ t
        → (nearest a xs ≡ Some n → nearest b xs ≡ Some n → a ≡ b) → a ≡ b
    go true true e f rest = sym ((bytes_eq-Decides x a).0 e) ∙ (bytes_eq-Decides x b).0 f
    go true false e f rest = absurd (apart a b e f h k)
    go false true e f rest = absurd (apart b a f e k h)
    go false false e f rest = rest (below a e h) (below b f k)

-- a label that wasn't passed in its block isn't one of those before it
not_passed : (name : List ℕ) (xs older passed : List (List ℕ)) (first : ℕ) → passed ≡ xs ++ older
    → first ≡ length older → not (is_since passed first name) ≡ true → Contains xs name → ⊥
not_passed name xs older passed first split start fresh c = go (nearest name (xs ++ older)) refl
  where
    go : (o : Option ℕ) → nearest name (xs ++ older) ≡ o → ⊥
    go None e =
        let some = contains_nearest name (xs ++ older) (Contains-append_left xs older name c) in
        let none : false ≡ true = sym (ap is_some e) ∙ some in
        absurd (cc)
    go (Some n) e =
        let near : nearest name passed ≡ Some n = ap (nearest name) split ∙ e in
        let above : first ≤ n = omega (arith, start, nearest_above name xs older n c e) in
        let since = is_since-of passed first name (n, nearest_is name passed n near, above) in
        let no : not true ≡ true = sym (ap not since) ∙ fresh in
        absurd (cc)

-- after a part of a block with labels of these names and numbers
pub record HasLabels (f : FrameView) (own : List (List ℕ)) (numbers : List ℕ) (g : FrameView) : Type 0 where
  pub labels : g.labels ≡ f.labels
  pub passed : g.passed ≡ own ++ f.passed
  pub first : g.first_label ≡ f.first_label
  pub numbered : (name : List ℕ) (n : ℕ) → Contains own name → nearest name f.labels ≡ Some n → Contains numbers n
  pub named : (n : ℕ) → Contains numbers n → (name : List ℕ) × Contains own name × (nearest name f.labels ≡ Some n)
  pub apart : AreApart numbers

pub labels_none : (f : FrameView) → HasLabels f [] [] f
labels_none f = record {
  labels = refl;
  passed = refl;
  first = refl;
  numbered = λ name n c h. absurd (Contains-none name c);
  named = λ n c. absurd (Contains-none n c);
  apart = tt;
}

-- and after what has no label
pub labels_kept : (f : FrameView) (own : List (List ℕ)) (numbers : List ℕ) (g h : FrameView) → HasLabels f own numbers g
    → h.labels ≡ g.labels → h.passed ≡ g.passed → h.first_label ≡ g.first_label
    → HasLabels f own numbers h
labels_kept f own numbers g h p labels passed first = record {
  labels = labels ∙ p.labels;
  passed = passed ∙ p.passed;
  first = first ∙ p.first;
  numbered = p.numbered;
  named = p.named;
  apart = p.apart;
}

pub labels_more : (f : FrameView) (own : List (List ℕ)) (numbers : List ℕ) (g : FrameView) (x : List ℕ) (m : ℕ)
    → f.first_label ≡ length f.passed → HasLabels f own numbers g
    → not (is_since g.passed g.first_label x) ≡ true → nearest x g.labels ≡ Some m
    → HasLabels f (x ∷ own) (m ∷ numbers) (with_passed g x)
labels_more f own numbers g x m start p fresh near =
    let found : nearest x f.labels ≡ Some m = sym (ap (nearest x) p.labels) ∙ near in
    let never = not_passed x own f.passed g.passed g.first_label p.passed (p.first ∙ start) fresh in
    record {
      labels = p.labels;
      passed = ap (λ l. x ∷ l) p.passed;
      first = p.first;
      numbered = λ name n c h. elim (Contains-cases x name own c) [
        | inl same ↦
            let number : Some m ≡ Some n = sym found ∙ (ap (λ y. nearest y f.labels) same ∙ h) in
            let e : m ≡ n = cc in
            subst (Contains (m ∷ numbers)) e (Contains-head m numbers)
        | inr d ↦ Contains-tail m n numbers (p.numbered name n d h)
      ];
      named = λ n c. elim (Contains-cases m n numbers c) [
        | inl same ↦ (x, Contains-head x own, found ∙ ap Some same)
        | inr d ↦ let w = p.named n d in (w.0, Contains-tail x w.0 own w.1, w.2)
      ];
      apart = (
        λ c. let w = p.named m c in never (subst (Contains own) (one_name w.0 x f.labels m w.2 found) w.1),
        p.apart,
      );
    }

-- the numbers of the labels in the blocks around
pub record IsAround (numbers : List ℕ) (names : List (List ℕ)) : Type 0 where
  pub numbered : (name : List ℕ) (n : ℕ) → nearest name names ≡ Some n → Contains numbers n
  pub below : (n : ℕ) → Contains numbers n → n < length names
  pub apart : AreApart numbers

pub around_none : IsAround [] []
around_none = record { numbered = λ name n h. absurd (cc); below = λ n c. absurd (Contains-none n c); apart = tt }

pub around_block : (f g h : FrameView) (own : List (List ℕ)) (numbers outer : List ℕ) → f.labels ≡ own ++ g.labels
    → IsAround outer g.labels → HasLabels f own numbers h → IsAround (numbers ++ outer) f.labels
around_block f g h own numbers outer labels a p =
    let number : (n : ℕ) → Contains numbers n → (n < length f.labels) × (length g.labels ≤ n) = λ n c.
    let w = p.named n c in (
      nearest-within w.0 f.labels n w.2,
      nearest_above w.0 own g.labels n w.1
          (ap (nearest w.0) (sym labels) ∙ w.2),
    ) in
    record {
      numbered = λ name n e. elim (nearest_append name own g.labels n (ap (nearest name) (sym labels) ∙ e)) [
        | inl c ↦ Contains-append_left numbers outer n (p.numbered name n c e)
        | inr k ↦ Contains-append_right numbers outer n (a.numbered name n k)
      ];
      below = λ n c. elim (Contains-append_cases numbers outer n c) [
        | inl i ↦ (number n i).0
        | inr j ↦ omega (arith, a.below n j, ap length labels, length-append own g.labels)
      ];
      apart = apart_append numbers outer p.apart a.apart (λ n i j. omega (arith, (number n i).1, a.below n j));
    }
