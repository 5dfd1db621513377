-- The common prefix of two texts, and how many bytes from a place on are those of a mark's prefix.
use Rattle.std.proofs.Common.{◌≡◌, ◌∙◌, ℕ, zero, suc, ◌+◌, ◌-◌, ◌<◌, ◌≤◌, List, [], ◌∷◌, ◌++◌, length, drop, get_or, sym, ap, refl, subst, inl, inr, arith, length-drop, nat_eq}
use Rattle.std.specs.List.{common_prefix_len, starts_with}
use Rattle.std.proofs.lemmas.Bool.{cases_Bool, cond-true, cond-false}
use Rattle.std.proofs.lemmas.Bool.Decides.{same_from_decides, Decides-like, Decides-eqb}
use Rattle.std.proofs.lemmas.List.{drop-drop}
use Rattle.std.proofs.lemmas.List.Sums.{common_prefix_len-le}
use Rattle.lsl_pure.specs.Firsts.{AreOwn}
use Rattle.lsl_pure.proofs.SpellingLemmas.{Begins, starts_with-Decides}

-- the common prefix goes on after a part of it
pub common-drop : (xs ys : List ℕ) (d : ℕ) → d ≤ common_prefix_len nat_eq xs ys
    → common_prefix_len nat_eq xs ys ≡ d + common_prefix_len nat_eq (drop d xs) (drop d ys)
common-drop xs ys zero fits = omega arith
common-drop [] ys (suc d) fits = absurd (omega arith)
common-drop (x ∷ xs) [] (suc d) fits = absurd (omega arith)
common-drop (x ∷ xs) (y ∷ ys) (suc d) fits = elim (cases_Bool (nat_eq x y)) [
  | inl same ↦
      let here : common_prefix_len nat_eq (x ∷ xs) (y ∷ ys) ≡ 1 + common_prefix_len nat_eq xs ys =
      cond-true _ _ _ same in
      let there = common-drop xs ys d (omega (arith, here, fits)) in
      omega (arith, here, there)
  | inr apart ↦
      let none : common_prefix_len nat_eq (x ∷ xs) (y ∷ ys) ≡ 0 = cond-false _ _ _ apart in
      absurd (omega (arith, none, fits))
]

-- what a text has in common with another one, and that one with a third
common-through : (xs ys zs : List ℕ) (n : ℕ) → n ≤ common_prefix_len nat_eq xs ys
    → n ≤ common_prefix_len nat_eq ys zs → n ≤ common_prefix_len nat_eq xs zs
common-through xs ys zs zero first second = omega arith
common-through [] ys zs (suc n) first second = absurd (omega arith)
common-through (x ∷ xs) [] zs (suc n) first second = absurd (omega arith)
common-through (x ∷ xs) (y ∷ ys) [] (suc n) first second = absurd (omega arith)
common-through (x ∷ xs) (y ∷ ys) (z ∷ zs) (suc n) first second = elim (cases_Bool (nat_eq x y)) [
  | inl same ↦ elim (cases_Bool (nat_eq y z)) [
    | inl like ↦
        let is : x ≡ y = (Decides-eqb x y).0 same in
        let one : common_prefix_len nat_eq (x ∷ xs) (y ∷ ys) ≡ 1 + common_prefix_len nat_eq xs ys =
        cond-true _ _ _ same in
        let two : common_prefix_len nat_eq (y ∷ ys) (z ∷ zs) ≡ 1 + common_prefix_len nat_eq ys zs =
        cond-true _ _ _ like in
        let both : common_prefix_len nat_eq (x ∷ xs) (z ∷ zs) ≡ 1 + common_prefix_len nat_eq xs zs =
        cond-true _ _ _ (ap (λ a. nat_eq a z) is ∙ like) in
        let there = common-through xs ys zs n (omega (arith, one, first)) (omega (arith, two, second)) in
        omega (arith, both, there)
    | inr apart ↦
        let none : common_prefix_len nat_eq (y ∷ ys) (z ∷ zs) ≡ 0 = cond-false _ _ _ apart in
        absurd (omega (arith, none, second))
  ]
  | inr apart ↦
      let none : common_prefix_len nat_eq (x ∷ xs) (y ∷ ys) ≡ 0 = cond-false _ _ _ apart in
      absurd (omega (arith, none, first))
]

-- less than two texts have in common, one of them has in common with a third: so has the other
common-less : (xs ys zs : List ℕ) (n : ℕ) → n ≤ common_prefix_len nat_eq xs ys
    → common_prefix_len nat_eq ys zs < n
    → common_prefix_len nat_eq ys zs ≡ common_prefix_len nat_eq xs zs
common-less xs ys zs zero first less = absurd (omega arith)
common-less [] ys zs (suc n) first less = absurd (omega arith)
common-less (x ∷ xs) [] zs (suc n) first less = absurd (omega arith)
common-less (x ∷ xs) (y ∷ ys) [] (suc n) first less = refl
common-less (x ∷ xs) (y ∷ ys) (z ∷ zs) (suc n) first less = elim (cases_Bool (nat_eq x y)) [
  | inl same ↦
      let is : x ≡ y = (Decides-eqb x y).0 same in
      let one : common_prefix_len nat_eq (x ∷ xs) (y ∷ ys) ≡ 1 + common_prefix_len nat_eq xs ys =
      cond-true _ _ _ same in
      elim (cases_Bool (nat_eq y z)) [
        | inl like ↦
            let two : common_prefix_len nat_eq (y ∷ ys) (z ∷ zs) ≡ 1 + common_prefix_len nat_eq ys zs =
            cond-true _ _ _ like in
            let both : common_prefix_len nat_eq (x ∷ xs) (z ∷ zs) ≡ 1 + common_prefix_len nat_eq xs zs =
            cond-true _ _ _ (ap (λ a. nat_eq a z) is ∙ like) in
            let there = common-less xs ys zs n (omega (arith, one, first)) (omega (arith, two, less)) in
            omega (arith, two, both, there)
        | inr apart ↦
            let two : common_prefix_len nat_eq (y ∷ ys) (z ∷ zs) ≡ 0 = cond-false _ _ _ apart in
            let both : common_prefix_len nat_eq (x ∷ xs) (z ∷ zs) ≡ 0 =
            cond-false _ _ _ (ap (λ a. nat_eq a z) is ∙ apart) in
            omega (arith, two, both)
      ]
  | inr apart ↦
      let none : common_prefix_len nat_eq (x ∷ xs) (y ∷ ys) ≡ 0 = cond-false _ _ _ apart in
      absurd (omega (arith, none, first))
]

-- what is known of a place after another one of which the reach is known
pub record IsBehind (text mark own : List ℕ) (place at len : ℕ) : Type 0 where
  pub ordered : place ≤ at
  pub reached : len ≡ common_prefix_len nat_eq (drop place text) mark
  pub are_own : AreOwn mark own
  pub past : at - place < len
  pub covered : at - place < length own

-- as many bytes of the text match those of the mark
behind-common : (text mark own : List ℕ) (place at len : ℕ) → IsBehind text mark own place at len
    → len - (at - place) ≤ common_prefix_len nat_eq (drop at text) (drop (at - place) mark)
behind-common text mark own place at len is =
    let fits : at - place ≤ common_prefix_len nat_eq (drop place text) mark = omega (arith, is.past, is.reached) in
    let whole = common-drop (drop place text) mark (at - place) fits in
    let sum : place + (at - place) ≡ at = omega (arith, is.ordered) in
    let behind : drop (at - place) (drop place text) ≡ drop at text =
    drop-drop (at - place) place text ∙ ap (λ n. drop n text) sum in
    let same = ap (λ t. common_prefix_len nat_eq t (drop (at - place) mark)) behind in
    omega (arith, whole, is.reached, same)

-- where the mark matches its own prefix in fewer bytes than the text is known to, the text matches in as many
pub reach-less : (text mark own : List ℕ) (place at len : ℕ) → IsBehind text mark own place at len
    → get_or own (at - place) 0 < len - (at - place)
    → get_or own (at - place) 0 ≡ common_prefix_len nat_eq (drop at text) mark
reach-less text mark own place at len is less =
    let own_is : get_or own (at - place) 0 ≡ common_prefix_len nat_eq (drop (at - place) mark) mark =
    is.are_own (at - place) is.covered in
    own_is ∙ common-less (drop at text) (drop (at - place) mark) mark (len - (at - place))
    (behind-common text mark own place at len is) (omega (arith, less, own_is))

-- and where it matches in all those that are known, the rest is to be compared
pub reach-more : (text mark own : List ℕ) (place at len : ℕ) → IsBehind text mark own place at len
    → len - (at - place) ≤ get_or own (at - place) 0
    → len - (at - place) + common_prefix_len nat_eq (drop (at + (len - (at - place))) text)
    (drop (len - (at - place)) mark) ≡ common_prefix_len nat_eq (drop at text) mark
reach-more text mark own place at len is more =
    let known = len - (at - place) in
    let own_is : get_or own (at - place) 0 ≡ common_prefix_len nat_eq (drop (at - place) mark) mark =
    is.are_own (at - place) is.covered in
    let fits : known ≤ common_prefix_len nat_eq (drop at text) mark =
    common-through (drop at text) (drop (at - place) mark) mark known
    (behind-common text mark own place at len is) (omega (arith, more, own_is)) in
    ap (λ t. known + common_prefix_len nat_eq t (drop known mark)) (sym (drop-drop known at text))
    ∙ sym (common-drop (drop at text) mark known fits)

-- what is known lies within the text and within the mark
pub reach-within : (text mark own : List ℕ) (place at len : ℕ) → IsBehind text mark own place at len
    → (at + (len - (at - place)) ≤ length text) × (len - (at - place) ≤ length mark)
reach-within text mark own place at len is =
    let short = common_prefix_len-le nat_eq (drop place text) mark in
    let first : len ≤ length (drop place text) = omega (arith, short.0, is.reached) in
    let second : len ≤ length mark = omega (arith, short.1, is.reached) in
    (omega (arith, first, is.ordered, is.past, length-drop place text), omega (arith, second))

-- a mark is a prefix where its whole length matches
common-whole : (text mark : List ℕ) → common_prefix_len nat_eq text mark ≡ length mark → Begins text mark
common-whole text [] whole = (text, refl)
common-whole [] (m ∷ ms) whole = absurd (omega arith)
common-whole (x ∷ xs) (m ∷ ms) whole = elim (cases_Bool (nat_eq x m)) [
  | inl same ↦
      let is : x ≡ m = (Decides-eqb x m).0 same in
      let one : common_prefix_len nat_eq (x ∷ xs) (m ∷ ms) ≡ 1 + common_prefix_len nat_eq xs ms =
      cond-true _ _ _ same in
      let there = common-whole xs ms (omega (arith, one, whole)) in
      (there.0, ap (λ t. x ∷ t) there.1 ∙ ap (λ a. a ∷ (ms ++ there.0)) is)
  | inr apart ↦
      let none : common_prefix_len nat_eq (x ∷ xs) (m ∷ ms) ≡ 0 = cond-false _ _ _ apart in
      absurd (omega (arith, none, whole))
]

whole-common : (mark rest : List ℕ) → common_prefix_len nat_eq (mark ++ rest) mark ≡ length mark
whole-common [] [] = refl
whole-common [] (x ∷ xs) = refl
whole-common (m ∷ ms) rest =
    let one : common_prefix_len nat_eq (m ∷ (ms ++ rest)) (m ∷ ms) ≡ 1 + common_prefix_len nat_eq (ms ++ rest) ms =
    cond-true _ _ _ ((Decides-eqb m m).1 refl) in
    let there = whole-common ms rest in omega (arith, one, there)

pub reach-stands : (text mark : List ℕ)
    → nat_eq (common_prefix_len nat_eq text mark) (length mark) ≡ starts_with nat_eq text mark
reach-stands text mark =
    same_from_decides _ _
    (Decides-like _ (common-whole text mark)
    (λ begins. ap (λ t. common_prefix_len nat_eq t mark) begins.1 ∙ whole-common mark begins.0)
    (Decides-eqb (common_prefix_len nat_eq text mark) (length mark))) (starts_with-Decides text mark)

-- a mark's reach in itself
pub own-first : (mark : List ℕ) → common_prefix_len nat_eq mark mark ≡ length mark
own-first [] = refl
own-first (m ∷ ms) =
    let one : common_prefix_len nat_eq (m ∷ ms) (m ∷ ms) ≡ 1 + common_prefix_len nat_eq ms ms =
    cond-true _ _ _ ((Decides-eqb m m).1 refl) in
    let there = own-first ms in omega (arith, one, there)

own-one : (mark : List ℕ) (k : ℕ) → k < 1
    → get_or (length mark ∷ []) k 0 ≡ common_prefix_len nat_eq (drop k mark) mark
own-one mark zero low = sym (own-first mark)
own-one mark (suc k) low = absurd (omega arith)

pub own-start : (mark own : List ℕ) → own ≡ length mark ∷ [] → (length own ≡ 1) × AreOwn mark own
own-start mark own is =
    let P : List ℕ → Type 0 = λ xs. (length xs ≡ 1) × AreOwn mark xs in
    subst P (sym is) (refl, λ k low. own-one mark k low)

-- nothing is in common with the empty text
pub common-end : (xs : List ℕ) → common_prefix_len nat_eq xs [] ≡ 0
common-end [] = refl
common-end (x ∷ xs) = refl
