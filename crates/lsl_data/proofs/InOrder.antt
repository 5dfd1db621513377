-- Lists in rising order of a key: an element that is put in its place, and those that a test leaves.
use Rattle.std.proofs.Common.{◌≡◌, ◌∙◌, refl, sym, ap, subst, cond, Bool, true, false, List, [], ◌∷◌, ◌++◌, filter, find, Some, None, unwrap_or, ℕ, ◌+◌, arith}
use Rattle.std.specs.Prelude.{not, sum_by}
use Rattle.std.specs.Option.{option_map}
use Rattle.std.specs.List.{AllByRecursion}
use Rattle.std.specs.declared.cmp.Ordering.{Ordering}
use Rattle.std.specs.declared.cmp.Ordering.TheVariants.{Less, Equal, Greater}
use Rattle.std.specs.Ordering.{is_lt, is_eq, ordering_reverse, match_ordering}
use Rattle.std.specs.Cmp.{IsTotalOrder, Equal-is}
use Rattle.std.specs.Map.{values_of, remove_entry, lookup}
use Rattle.std.specs.BTreeMap.{insert_entry}
use Rattle.std.proofs.lemmas.Cmp.{alike_right}
use Rattle.std.proofs.lemmas.List.Sums.{sum_by-append}

module _ {X : Type 0} (p : X → Bool) where
  filter-keep : (x : X) (xs : List X) → p x ≡ true → filter p (x ∷ xs) ≡ x ∷ filter p xs
  filter-keep x xs e = ap (λ (b : Bool). cond b (x ∷ filter p xs) (filter p xs)) e

  filter-leave : (x : X) (xs : List X) → p x ≡ false → filter p (x ∷ xs) ≡ filter p xs
  filter-leave x xs e = ap (λ (b : Bool). cond b (x ∷ filter p xs) (filter p xs)) e

  filter-all : (xs : List X) → AllByRecursion (λ x. p x ≡ true) xs → filter p xs ≡ xs
  filter-all [] h = refl
  filter-all (x ∷ xs) h = filter-keep x xs h.0 ∙ ap (λ ys. x ∷ ys) (filter-all xs h.1)

  filter-none : (xs : List X) → AllByRecursion (λ x. p x ≡ false) xs → filter p xs ≡ []
  filter-none [] h = refl
  filter-none (x ∷ xs) h = filter-leave x xs h.0 ∙ filter-none xs h.1

module _ {X : Type 0} (P : X → Type 0) where
  pub each-append : (xs ys : List X) → AllByRecursion P xs → AllByRecursion P ys → AllByRecursion P (xs ++ ys)
  each-append [] ys h k = k
  each-append (x ∷ xs) ys h k = (h.0, each-append xs ys h.1 k)

  each-cond : (b : Bool) (xs ys : List X) → AllByRecursion P xs → AllByRecursion P ys
      → AllByRecursion P (cond b xs ys)
  each-cond true xs ys h k = h
  each-cond false xs ys h k = k

  pub each-filter : (p : X → Bool) (xs : List X) → AllByRecursion P xs → AllByRecursion P (filter p xs)
  each-filter p [] h = tt
  each-filter p (x ∷ xs) h =
      each-cond (p x) (x ∷ filter p xs) (filter p xs) (h.0, each-filter p xs h.1) (each-filter p xs h.1)

  pub each-map : (Q : X → Type 0) → ((x : X) → P x → Q x) → (xs : List X) → AllByRecursion P xs
      → AllByRecursion Q xs
  each-map Q f [] h = tt
  each-map Q f (x ∷ xs) h = (f x h.0, each-map Q f xs h.1)

module _ {X K : Type 0} {R : K → K → Ordering} (o : IsTotalOrder R) (key : X → K) where
  abbrev pub below : K → X → Bool
  below k y = is_lt (R (key y) k)

  abbrev pub above : K → X → Bool
  above k y = is_lt (R k (key y))

  -- the element after those with lower keys, and before those with higher ones
  abbrev pub put : List X → X → List X
  put xs x = filter (below (key x)) xs ++ x ∷ filter (above (key x)) xs

  -- all keys are above this one
  abbrev pub AllAbove : K → List X → Type 0
  AllAbove k = AllByRecursion (λ y. R k (key y) ≡ Less)

  abbrev pub Rises : List X → Type 0
  Rises [] = Unit {0}
  Rises (x ∷ xs) = AllAbove (key x) xs × Rises xs

  less-back : (a b : K) → R a b ≡ Less → R b a ≡ Greater
  less-back a b e = o.antisymm b a ∙ ap ordering_reverse e

  greater-back : (a b : K) → R a b ≡ Greater → R b a ≡ Less
  greater-back a b e = o.antisymm b a ∙ ap ordering_reverse e

  equal-back : (a b : K) → R a b ≡ Equal → R b a ≡ Equal
  equal-back a b e = o.antisymm b a ∙ ap ordering_reverse e

  pub above-all : (k : K) (ys : List X) → AllAbove k ys → filter (above k) ys ≡ ys
  above-all k ys h =
      filter-all (above k) ys
      (each-map (λ y. R k (key y) ≡ Less) (λ y. above k y ≡ true) (λ y e. ap is_lt e) ys h)

  pub below-none : (k : K) (ys : List X) → AllAbove k ys → filter (below k) ys ≡ []
  below-none k ys h =
      filter-none (below k) ys
      (each-map (λ y. R k (key y) ≡ Less) (λ y. below k y ≡ false) (λ y e. ap is_lt (less-back k (key y) e)) ys h)

  pub above-trans : (a b : K) (ys : List X) → R a b ≡ Less → AllAbove b ys → AllAbove a ys
  above-trans a b ys e =
      each-map (λ y. R b (key y) ≡ Less) (λ y. R a (key y) ≡ Less) (λ y. o.trans a b (key y) e) ys

  above-same : (a b : K) (ys : List X) → R a b ≡ Equal → AllAbove b ys → AllAbove a ys
  above-same a b ys e =
      each-map (λ y. R b (key y) ≡ Less) (λ y. R a (key y) ≡ Less) (λ y less. o.congr a b (key y) e ∙ less) ys

  put-empty : (x : X) (ys : List X) → AllAbove (key x) ys → put ys x ≡ x ∷ ys
  put-empty x ys h =
      ap (λ zs. zs ++ x ∷ filter (above (key x)) ys) (below-none (key x) ys h)
      ∙ ap (λ zs. x ∷ zs) (above-all (key x) ys h)

  put-first : (x y : X) (ys : List X) → R (key x) (key y) ≡ Less → AllAbove (key y) ys
      → put (y ∷ ys) x ≡ x ∷ y ∷ ys
  put-first x y ys e h = put-empty x (y ∷ ys) (e, above-trans (key x) (key y) ys e h)

  put-here : (x y : X) (ys : List X) → R (key x) (key y) ≡ Equal → AllAbove (key y) ys → put (y ∷ ys) x ≡ x ∷ ys
  put-here x y ys e h =
      ap (λ zs. zs ++ x ∷ filter (above (key x)) (y ∷ ys))
      (filter-leave (below (key x)) y ys (ap is_lt (equal-back (key x) (key y) e)))
      ∙ ap (λ zs. filter (below (key x)) ys ++ x ∷ zs) (filter-leave (above (key x)) y ys (ap is_lt e))
      ∙ put-empty x ys (above-same (key x) (key y) ys e h)

  put-later : (x y : X) (ys : List X) → R (key x) (key y) ≡ Greater → put (y ∷ ys) x ≡ y ∷ put ys x
  put-later x y ys e =
      ap (λ zs. zs ++ x ∷ filter (above (key x)) (y ∷ ys))
      (filter-keep (below (key x)) y ys (ap is_lt (greater-back (key x) (key y) e)))
      ∙ ap (λ zs. y ∷ filter (below (key x)) ys ++ x ∷ zs) (filter-leave (above (key x)) y ys (ap is_lt e))

  -- what holds of all and of the element holds of all with it
  pub each-put : (P : X → Type 0) (xs : List X) (x : X) → AllByRecursion P xs → P x → AllByRecursion P (put xs x)
  each-put P xs x h p =
      each-append P (filter (below (key x)) xs) (x ∷ filter (above (key x)) xs)
      (each-filter P (below (key x)) xs h)
      (p, each-filter P (above (key x)) xs h)

  pub Rises-put : (xs : List X) (x : X) → Rises xs → Rises (put xs x)
  Rises-put [] x h = (tt, tt)
  Rises-put (y ∷ ys) x h = at (Rises-put ys x h.1) (R (key x) (key y)) refl
    where
      at : Rises (put ys x) → (r : Ordering) → R (key x) (key y) ≡ r → Rises (put (y ∷ ys) x)
      at rest Less e =
          subst Rises (sym (put-first x y ys e h.0)) ((e, above-trans (key x) (key y) ys e h.0), h)
      at rest Equal e =
          subst Rises (sym (put-here x y ys e h.0)) (above-same (key x) (key y) ys e h.0, h.1)
      at rest Greater e =
          subst Rises (sym (put-later x y ys e))
          (each-put (λ z. R (key y) (key z) ≡ Less) ys x h.0 (greater-back (key x) (key y) e), rest)

  pub Rises-filter : (p : X → Bool) (xs : List X) → Rises xs → Rises (filter p xs)
  Rises-filter p [] h = tt
  Rises-filter p (x ∷ xs) h = at (Rises-filter p xs h.1) (p x)
    where
      at : Rises (filter p xs) → (b : Bool) → Rises (cond b (x ∷ filter p xs) (filter p xs))
      at rest true = (each-filter (λ y. R (key x) (key y) ≡ Less) p xs h.0, rest)
      at rest false = rest

  -- an element above all others comes last
  pub put-last : (xs : List X) (x : X) → Rises (xs ++ x ∷ []) → put xs x ≡ xs ++ x ∷ []
  put-last [] x h = refl
  put-last (y ∷ ys) x h =
      put-later x y ys (less-back (key y) (key x) (last-above ys h.0)) ∙ ap (λ zs. y ∷ zs) (put-last ys x h.1)
    where
      last-above : (zs : List X) → AllAbove (key y) (zs ++ x ∷ []) → R (key y) (key x) ≡ Less
      last-above [] k = k.0
      last-above (z ∷ zs) k = last-above zs k.1

  module _ {E : Type 0} (code : E → K) where
    -- each entry's key is its value's
    abbrev pub AreCoded : List (E × X) → Type 0
    AreCoded = AllByRecursion (λ e. code e.0 ≡ key e.1)

    pub values-insert_entry : (es : List (E × X)) (k : E) (x : X) → code k ≡ key x → AreCoded es
        → Rises (values_of es)
        → values_of (insert_entry (λ a b. R (code a) (code b)) es k x) ≡ put (values_of es) x
    values-insert_entry [] k x c h r = refl
    values-insert_entry (e ∷ es) k x c h r =
        at (values-insert_entry es k x c h.1 r.1) (R (code k) (code e.0)) refl
      where
        same : R (key x) (key e.1) ≡ R (code k) (code e.0)
        same = ap (λ a. R a (key e.1)) (sym c) ∙ ap (λ b. R (code k) b) (sym h.0)

        at : values_of (insert_entry (λ a b. R (code a) (code b)) es k x) ≡ put (values_of es) x
            → (q : Ordering) → R (code k) (code e.0) ≡ q
            → values_of (match_ordering q ((k, x) ∷ e ∷ es) ((e.0, x) ∷ es)
            (e ∷ insert_entry (λ a b. R (code a) (code b)) es k x))
            ≡ put (e.1 ∷ values_of es) x
        at rest Less q = sym (put-first x e.1 (values_of es) (same ∙ q) r.0)
        at rest Equal q = sym (put-here x e.1 (values_of es) (same ∙ q) r.0)
        at rest Greater q =
            ap (λ zs. e.1 ∷ zs) rest ∙ sym (put-later x e.1 (values_of es) (same ∙ q))

    pub coded-insert_entry : (es : List (E × X)) (k : E) (x : X) → code k ≡ key x → AreCoded es
        → ((a b : E) → R (code a) (code b) ≡ Equal → code a ≡ code b)
        → AreCoded (insert_entry (λ a b. R (code a) (code b)) es k x)
    coded-insert_entry [] k x c h exact = (c, tt)
    coded-insert_entry (e ∷ es) k x c h exact =
        at (coded-insert_entry es k x c h.1 exact) (R (code k) (code e.0)) refl
      where
        at : AreCoded (insert_entry (λ a b. R (code a) (code b)) es k x) → (q : Ordering)
            → R (code k) (code e.0) ≡ q
            → AreCoded (match_ordering q ((k, x) ∷ e ∷ es) ((e.0, x) ∷ es)
            (e ∷ insert_entry (λ a b. R (code a) (code b)) es k x))
        at rest Less q = (c, h)
        at rest Equal q = (sym (exact k e.0 q) ∙ c, h.1)
        at rest Greater q = (h.0, rest)

  module _ (same : K → K → Bool) (agrees : (a b : K) → same a b ≡ is_eq (R a b)) where
    -- those with another key
    abbrev pub others : List X → K → List X
    others xs k = filter (λ y. not (same k (key y))) xs

    apart : (k : K) (ys : List X) → AllAbove k ys → filter (λ y. not (same k (key y))) ys ≡ ys
    apart k ys h =
        filter-all (λ y. not (same k (key y))) ys
        (each-map (λ y. R k (key y) ≡ Less) (λ y. not (same k (key y)) ≡ true)
        (λ y e. ap not (agrees k (key y) ∙ ap is_eq e)) ys h)

    module _ {E : Type 0} (code : E → K) where
      pub values-remove_entry : (es : List (E × X)) (k : K) → AreCoded code es → Rises (values_of es)
          → values_of (remove_entry (λ a. is_eq (R k (code a))) es) ≡ others (values_of es) k
      values-remove_entry [] k h r = refl
      values-remove_entry (e ∷ es) k h r = at (values-remove_entry es k h.1 r.1) (R k (code e.0)) refl
        where
          here : same k (key e.1) ≡ is_eq (R k (code e.0))
          here = agrees k (key e.1) ∙ ap (λ b. is_eq (R k b)) (sym h.0)

          kept : values_of (remove_entry (λ a. is_eq (R k (code a))) es) ≡ others (values_of es) k
              → (q : Ordering) → R k (code e.0) ≡ q → is_eq q ≡ false
              → e.1 ∷ values_of (remove_entry (λ a. is_eq (R k (code a))) es) ≡ others (e.1 ∷ values_of es) k
          kept rest q is other =
              ap (λ zs. e.1 ∷ zs) rest
              ∙ sym (filter-keep (λ y. not (same k (key y))) e.1 (values_of es)
              (ap not (here ∙ ap is_eq is ∙ other)))

          at : values_of (remove_entry (λ a. is_eq (R k (code a))) es) ≡ others (values_of es) k
              → (q : Ordering) → R k (code e.0) ≡ q
              → values_of (cond (is_eq q) es (e ∷ remove_entry (λ a. is_eq (R k (code a))) es))
              ≡ others (e.1 ∷ values_of es) k
          at rest Less q = kept rest Less q refl
          at rest Equal q =
              sym (apart k (values_of es) (above-same k (key e.1) (values_of es) (ap (R k) (sym h.0) ∙ q) r.0))
              ∙ sym (filter-leave (λ y. not (same k (key y))) e.1 (values_of es) (ap not (here ∙ ap is_eq q)))
          at rest Greater q = kept rest Greater q refl

      pub coded-remove_entry : (es : List (E × X)) (test : E → Bool) → AreCoded code es
          → AreCoded code (remove_entry test es)
      coded-remove_entry [] test h = tt
      coded-remove_entry (e ∷ es) test h =
          each-cond (λ d. code d.0 ≡ key d.1) (test e.0) es (e ∷ remove_entry test es) h.1
          (h.0, coded-remove_entry es test h.1)

      pub lookup-find : (es : List (E × X)) (k : K) → AreCoded code es
          → lookup (λ a. is_eq (R k (code a))) es ≡ find (λ y. same k (key y)) (values_of es)
      lookup-find [] k h = refl
      lookup-find (e ∷ es) k h =
          ap (λ (b : Bool). cond b (Some e.1) (lookup (λ a. is_eq (R k (code a))) es))
          (sym (agrees k (key e.1) ∙ ap (λ b. is_eq (R k b)) (sym h.0)))
          ∙ ap (λ rest. cond (same k (key e.1)) (Some e.1) rest) (lookup-find es k h.1)

module _ {X : Type 0} (p : X → Bool) where
  -- where the first part has none, the second is searched
  find-behind : (xs ys : List X) → find p xs ≡ None → find p (xs ++ ys) ≡ find p ys
  find-behind [] ys h = refl
  find-behind (x ∷ xs) ys h = at (find-behind xs ys) (p x) refl h
    where
      at : (find p xs ≡ None → find p (xs ++ ys) ≡ find p ys) → (b : Bool) → p x ≡ b
          → cond b (Some x) (find p xs) ≡ None → cond b (Some x) (find p (xs ++ ys)) ≡ find p ys
      at rest true is h = cc
      at rest false is h = rest h

  -- where the second part has none, the first is searched
  find-before : (xs ys : List X) → find p ys ≡ None → find p (xs ++ ys) ≡ find p xs
  find-before [] ys h = h
  find-before (x ∷ xs) ys h = ap (λ rest. cond (p x) (Some x) rest) (find-before xs ys h)

  -- of a filter that answers the same at each that is sought
  pub find-filter : (q : X → Bool) (b : Bool) → ((x : X) → p x ≡ true → q x ≡ b) → (xs : List X)
      → find p (filter q xs) ≡ cond b (find p xs) None
  find-filter q true h [] = refl
  find-filter q false h [] = refl
  find-filter q b h (x ∷ xs) = at (find-filter q b h xs) (p x) refl (q x) refl
    where
      at : find p (filter q xs) ≡ cond b (find p xs) None → (s : Bool) → p x ≡ s → (t : Bool) → q x ≡ t
          → find p (cond t (x ∷ filter q xs) (filter q xs)) ≡ cond b (cond s (Some x) (find p xs)) None
      at rest true is true also =
          ap (λ (s : Bool). cond s (Some x) (find p (filter q xs))) is
          ∙ ap (λ (c : Bool). cond c (Some x) None) (sym also ∙ h x is)
      at rest true is false also =
          subst (λ (c : Bool). find p (filter q xs) ≡ cond c (Some x) None) (sym also ∙ h x is)
          (rest ∙ ap (λ (c : Bool). cond c (find p xs) None) (sym (h x is) ∙ also))
      at rest false is true also = ap (λ (s : Bool). cond s (Some x) (find p (filter q xs))) is ∙ rest
      at rest false is false also = rest

module _ {X K : Type 0} {R : K → K → Ordering} (o : IsTotalOrder R) (key : X → K)
    (same : K → K → Bool) (agrees : (a b : K) → same a b ≡ is_eq (R a b)) where
  equal-of : (a b : K) → same a b ≡ true → R a b ≡ Equal
  equal-of a b e = (Equal-is (R a b)).0 (sym (agrees a b) ∙ e)

  -- what is at a key after an element is put in its place
  pub find-put : (k : K) (xs : List X) (x : X)
      → find (λ y. same k (key y)) (put o key xs x)
      ≡ cond (same k (key x)) (Some x) (find (λ y. same k (key y)) xs)
  find-put k xs x = at (R k (key x)) refl
    where
      named : X → Bool
      named y = same k (key y)

      lows : (q : Ordering) → R k (key x) ≡ q
          → find named (filter (below o key (key x)) xs) ≡ cond (is_lt q) (find named xs) None
      lows q is =
          find-filter named (below o key (key x)) (is_lt q)
          (λ y e. ap is_lt (sym (o.congr k (key y) (key x) (equal-of k (key y) e)) ∙ is)) xs

      highs : (q : Ordering) → R k (key x) ≡ q
          → find named (filter (above o key (key x)) xs) ≡ cond (is_lt (ordering_reverse q)) (find named xs) None
      highs q is =
          find-filter named (above o key (key x)) (is_lt (ordering_reverse q))
          (λ y e. ap is_lt (o.antisymm (key x) (key y)
          ∙ ap ordering_reverse (sym (o.congr k (key y) (key x) (equal-of k (key y) e)) ∙ is))) xs

      here : (q : Ordering) → R k (key x) ≡ q → same k (key x) ≡ is_eq q
      here q is = agrees k (key x) ∙ ap is_eq is

      at : (q : Ordering) → R k (key x) ≡ q
          → find named (put o key xs x) ≡ cond (same k (key x)) (Some x) (find named xs)
      at Less is =
          find-before named (filter (below o key (key x)) xs) (x ∷ filter (above o key (key x)) xs)
          (ap (λ (b : Bool). cond b (Some x) (find named (filter (above o key (key x)) xs))) (here Less is)
          ∙ highs Less is)
          ∙ lows Less is ∙ sym (ap (λ (b : Bool). cond b (Some x) (find named xs)) (here Less is))
      at Equal is =
          find-behind named (filter (below o key (key x)) xs) (x ∷ filter (above o key (key x)) xs)
          (lows Equal is)
          ∙ ap (λ (b : Bool). cond b (Some x) (find named (filter (above o key (key x)) xs))) (here Equal is)
          ∙ sym (ap (λ (b : Bool). cond b (Some x) (find named xs)) (here Equal is))
      at Greater is =
          find-behind named (filter (below o key (key x)) xs) (x ∷ filter (above o key (key x)) xs)
          (lows Greater is)
          ∙ ap (λ (b : Bool). cond b (Some x) (find named (filter (above o key (key x)) xs))) (here Greater is)
          ∙ highs Greater is ∙ sym (ap (λ (b : Bool). cond b (Some x) (find named xs)) (here Greater is))

  -- what is at a key after those of another, or of this one, are gone
  pub find-others : (k gone : K) (xs : List X)
      → find (λ y. same k (key y)) (others o key same agrees xs gone)
      ≡ cond (same gone k) None (find (λ y. same k (key y)) xs)
  find-others k gone xs =
      find-filter (λ y. same k (key y)) (λ y. not (same gone (key y))) (not (same gone k))
      (λ y e. ap not (agrees gone (key y)
      ∙ ap is_eq (sym (alike_right o k (key y) gone (equal-of k (key y) e))) ∙ sym (agrees gone k))) xs
      ∙ turned (same gone k)
    where
      turned : (b : Bool) → cond (not b) (find (λ y. same k (key y)) xs) None
          ≡ cond b None (find (λ y. same k (key y)) xs)
      turned true = refl
      turned false = refl

module _ {X : Type 0} (f : X → ℕ) where
  pub sum-cons : (x : X) (xs : List X) → sum_by f (x ∷ xs) ≡ f x + sum_by f xs
  sum-cons x xs = omega (arith, sum_by-append f (x ∷ []) xs)

module _ {X K : Type 0} {R : K → K → Ordering} (o : IsTotalOrder R) (key : X → K)
    (same : K → K → Bool) (agrees : (a b : K) → same a b ≡ is_eq (R a b)) (f : X → ℕ) where
  -- how much is at a key
  abbrev pub worth : K → List X → ℕ
  worth k xs = unwrap_or (option_map f (find (λ y. same k (key y)) xs)) 0

  worth-head : (k : K) (y : X) (ys : List X) → R k (key y) ≡ Equal → worth k (y ∷ ys) ≡ f y
  worth-head k y ys e =
      ap (λ (b : Bool). unwrap_or (option_map f (cond b (Some y) (find (λ z. same k (key z)) ys))) 0)
      (agrees k (key y) ∙ ap is_eq e)

  worth-tail : (k : K) (y : X) (ys : List X) → is_eq (R k (key y)) ≡ false → worth k (y ∷ ys) ≡ worth k ys
  worth-tail k y ys e =
      ap (λ (b : Bool). unwrap_or (option_map f (cond b (Some y) (find (λ z. same k (key z)) ys))) 0)
      (agrees k (key y) ∙ e)

  worth-none : (k : K) (ys : List X) → AllAbove o key k ys → worth k ys ≡ 0
  worth-none k [] h = refl
  worth-none k (y ∷ ys) h = worth-tail k y ys (ap is_eq h.0) ∙ worth-none k ys h.1

  -- what is put takes the place of what was at its key
  pub sum-put : (xs : List X) (x : X) → Rises o key xs
      → sum_by f (put o key xs x) + worth (key x) xs ≡ sum_by f xs + f x
  sum-put [] x h = omega arith
  sum-put (y ∷ ys) x h = at (sum-put ys x h.1) (R (key x) (key y)) refl
    where
      at : sum_by f (put o key ys x) + worth (key x) ys ≡ sum_by f ys + f x → (q : Ordering)
          → R (key x) (key y) ≡ q
          → sum_by f (put o key (y ∷ ys) x) + worth (key x) (y ∷ ys) ≡ sum_by f (y ∷ ys) + f x
      at rest Less e =
          let none = worth-none (key x) (y ∷ ys) (e, above-trans o key (key x) (key y) ys e h.0) in
          omega (arith, ap (sum_by f) (put-first o key x y ys e h.0), sum-cons f x (y ∷ ys), none)
      at rest Equal e =
          omega (
            arith,
            ap (sum_by f) (put-here o key x y ys e h.0),
            sum-cons f x ys,
            sum-cons f y ys,
            worth-head (key x) y ys e,
          )
      at rest Greater e =
          omega (
            arith,
            ap (sum_by f) (put-later o key x y ys e),
            sum-cons f y (put o key ys x),
            sum-cons f y ys,
            worth-tail (key x) y ys (ap is_eq e),
            rest,
          )

  -- what is left, with what was at the key
  pub sum-others : (xs : List X) (k : K) → Rises o key xs
      → sum_by f (others o key same agrees xs k) + worth k xs ≡ sum_by f xs
  sum-others [] k h = refl
  sum-others (y ∷ ys) k h = at (sum-others ys k h.1) (R k (key y)) refl
    where
      here : same k (key y) ≡ is_eq (R k (key y))
      here = agrees k (key y)

      stays : sum_by f (others o key same agrees ys k) + worth k ys ≡ sum_by f ys → is_eq (R k (key y)) ≡ false
          → sum_by f (others o key same agrees (y ∷ ys) k) + worth k (y ∷ ys) ≡ sum_by f (y ∷ ys)
      stays rest differs =
          let kept = filter-keep (λ z. not (same k (key z))) y ys (ap not (here ∙ differs)) in
          omega (
            arith,
            ap (sum_by f) kept,
            sum-cons f y (others o key same agrees ys k),
            sum-cons f y ys,
            worth-tail k y ys differs,
            rest,
          )

      at : sum_by f (others o key same agrees ys k) + worth k ys ≡ sum_by f ys → (q : Ordering) → R k (key y) ≡ q
          → sum_by f (others o key same agrees (y ∷ ys) k) + worth k (y ∷ ys) ≡ sum_by f (y ∷ ys)
      at rest Equal e =
          let gone = filter-leave (λ z. not (same k (key z))) y ys (ap not (here ∙ ap is_eq e)) in
          let all = apart o key same agrees k ys (above-same o key k (key y) ys e h.0) in
          omega (arith, ap (sum_by f) (gone ∙ all), sum-cons f y ys, worth-head k y ys e)
      at rest Less e = stays rest (ap is_eq e)
      at rest Greater e = stays rest (ap is_eq e)
