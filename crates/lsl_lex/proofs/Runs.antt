-- How far a front goes whose bytes all pass, up to the end of a comment, up to the end of a string.
use Rattle.std.proofs.Common.{◌≡◌, ℕ, suc, ◌+◌, ◌≤◌, ◌==◌, Bool, true, false, cond, ◌&&◌, ◌⊎◌, inl, inr, List, [], ◌∷◌, ◌++◌, length, take, drop, Option, Some, None, refl, sym, ap, ◌∙◌, arith}
use Rattle.std.proofs.lemmas.Bool.{eqb-true}
use Rattle.std.specs.List.{prefix_len, list_all}
use Rattle.lsl_lex.specs.Fault.{NoClose}
use Rattle.lsl_lex.specs.Strings.{IsPlain, IsStringBody}
use Rattle.lsl_lex.specs.Reading.{counted, close_of, quote_of}
use Rattle.lsl_lex.proofs.ByteKinds.{eq_true, not_eq, eq_false}

pub and_both : (a b : Bool) → (a && b) ≡ true → (a ≡ true) × (b ≡ true)
and_both true b e = (refl, e)
and_both false b e = absurd (cc)

-- ---- a front that passes

pub prefix_len-most : (p : ℕ → Bool) (v w : List ℕ) → list_all p v ≡ true → length v ≤ prefix_len p (v ++ w)
prefix_len-most p [] w h = omega arith
prefix_len-most p (b ∷ v) w h = go (p b) (and_both (p b) (list_all p v) h).0
    (prefix_len-most p v w (and_both (p b) (list_all p v) h).1)
  where
    go : (t : Bool) → t ≡ true → length v ≤ prefix_len p (v ++ w)
        → suc (length v) ≤ cond t (1 + prefix_len p (v ++ w)) 0
    go true e ih = omega arith
    go false e ih = absurd (cc)

pub list_all-prefix : (p : ℕ → Bool) (l : List ℕ) → list_all p (take (prefix_len p l) l) ≡ true
list_all-prefix p [] = refl
list_all-prefix p (b ∷ l) = go (p b) refl (list_all-prefix p l)
  where
    go : (t : Bool) → p b ≡ t → list_all p (take (prefix_len p l) l) ≡ true
        → list_all p (take (cond t (1 + prefix_len p l) 0) (b ∷ l)) ≡ true
    go true e ih =
        let one : 1 + prefix_len p l ≡ suc (prefix_len p l) = omega arith in
        ap (λ n. list_all p (take n (b ∷ l))) one ∙ ap (λ t. t && list_all p (take (prefix_len p l) l)) e ∙ ih
    go false e ih = refl

-- what follows that front
abbrev pub Stops : (ℕ → Bool) → List ℕ → Type 0
Stops p l = (l ≡ []) ⊎ ((b : ℕ) × (more : List ℕ) × (l ≡ b ∷ more) × (p b ≡ false))

pub prefix_len-stops : (p : ℕ → Bool) (l : List ℕ) → Stops p (drop (prefix_len p l) l)
prefix_len-stops p [] = inl refl
prefix_len-stops p (b ∷ l) = go (p b) refl (prefix_len-stops p l)
  where
    go : (t : Bool) → p b ≡ t → Stops p (drop (prefix_len p l) l)
        → Stops p (drop (cond t (1 + prefix_len p l) 0) (b ∷ l))
    go true e ih = let one : 1 + prefix_len p l ≡ suc (prefix_len p l) = omega arith in let Q : ℕ → Type 0 =
        λ n. Stops p (drop n (b ∷ l)) in rw one ih
    go false e ih = inr (b, l, refl, e)

pub prefix_len-exact : (p : ℕ → Bool) (v w : List ℕ) → list_all p v ≡ true → Stops p w
    → prefix_len p (v ++ w) ≡ length v
prefix_len-exact p [] w h (inl e) = ap (prefix_len p) e
prefix_len-exact p [] w h (inr (b, more, e, f)) = ap (prefix_len p) e ∙ ap (λ t. cond t (1 + prefix_len p more) 0) f
prefix_len-exact p (b ∷ v) w h s =
    let both = and_both (p b) (list_all p v) h in
    let ih = prefix_len-exact p v w both.1 s in
    ap (λ t. cond t (1 + prefix_len p (v ++ w)) 0) both.0 ∙ omega (arith, ih)

-- ---- the end of a block comment

abbrev ends : ℕ → ℕ → Bool
ends b c = b == 42 && c == 47

ends_true : (b c : ℕ) → b ≡ 42 → c ≡ 47 → ends b c ≡ true
ends_true b c e f = ap (λ z. ends z c) e ∙ ap (λ z. ends 42 z) f

not_ends : (b c : ℕ) → ends b c ≡ false → b ≡ 42 → c ≡ 47 → ⊥
not_ends b c t e f = let u = ends_true b c e f in cc

close_skip : (b c : ℕ) (bs : List ℕ) → ends b c ≡ false → close_of (b ∷ c ∷ bs) ≡ counted 1 (close_of (c ∷ bs))
close_skip b c bs t = ap (λ z. cond z (Some 2) (counted 1 (close_of (c ∷ bs)))) t

close_here : (b c : ℕ) (bs : List ℕ) → ends b c ≡ true → close_of (b ∷ c ∷ bs) ≡ Some 2
close_here b c bs t = ap (λ z. cond z (Some 2) (counted 1 (close_of (c ∷ bs)))) t

abbrev pub head : List ℕ → ℕ
head [] = 0
head (b ∷ bs) = b

first_same : (body rest bs q : List ℕ) (c : ℕ) → c ∷ bs ≡ body ++ 42 ∷ 47 ∷ rest → body ++ 42 ∷ [] ≡ 47 ∷ q → c ≡ 47
first_same [] rest bs q c e f = let h : 42 ≡ 47 = ap head f in absurd (omega (arith, h))
first_same (x ∷ body) rest bs q c e f = ap head e ∙ ap head f

no_later : (b c : ℕ) (bs body rest : List ℕ) → ends b c ≡ false → c ∷ bs ≡ body ++ 42 ∷ 47 ∷ rest
    → NoClose (body ++ 42 ∷ []) → NoClose (b ∷ body ++ 42 ∷ [])
no_later b c bs body rest t e none [] q f = not_ends b c t (ap head f) (first_same body rest bs q c e (ap (drop 1) f))
no_later b c bs body rest t e none (x ∷ p) q f = none p q (ap (drop 1) f)

abbrev pub Closed : List ℕ → ℕ → Type 0
Closed l n = (body : List ℕ) × (rest : List ℕ) × (l ≡ body ++ 42 ∷ 47 ∷ rest) × (n ≡ length body + 2)
    × NoClose (body ++ 42 ∷ [])

-- a comment's end that is found is the first one
pub close_some : (l : List ℕ) (n : ℕ) → close_of l ≡ Some n → Closed l n
close_some [] n e = absurd (cc)
close_some (b ∷ []) n e = absurd (cc)
close_some (b ∷ c ∷ bs) n e = go (ends b c) refl (close_some (c ∷ bs))
  where
    on : ends b c ≡ false → (o : Option ℕ) → close_of (c ∷ bs) ≡ o → counted 1 o ≡ Some n
        → ((m : ℕ) → close_of (c ∷ bs) ≡ Some m → Closed (c ∷ bs) m) → Closed (b ∷ c ∷ bs) n
    on t None f g ih = absurd (cc)
    on t (Some m) f g ih =
        let (body, rest, e1, e2, none) = ih m f in
        let same : 1 + m ≡ n = cc in
        (b ∷ body, rest, ap (λ l. b ∷ l) e1, omega (arith, e2, same), no_later b c bs body rest t e1 none)

    go : (t : Bool) → ends b c ≡ t → ((m : ℕ) → close_of (c ∷ bs) ≡ Some m → Closed (c ∷ bs) m) → Closed (b ∷ c ∷ bs) n
    go true t ih =
        let two : ◌≡◌ {A = Option ℕ} (Some 2) (Some n) = sym (close_here b c bs t) ∙ e in
        let same : 2 ≡ n = cc in
        let parts = and_both (b == 42) (c == 47) t in (
          [],
          bs,
          ap (λ z. z ∷ c ∷ bs) (eqb-true b 42 parts.0)
              ∙ ap (λ z. 42 ∷ z ∷ bs) (eqb-true c 47 parts.1),
          omega (arith, same),
          alone,
        )
      where
        alone : NoClose (42 ∷ [])
        alone [] q f = cc
        alone (x ∷ []) q f = cc
        alone (x ∷ y ∷ p) q f = cc
    go false t ih = on t (close_of (c ∷ bs)) refl (sym (close_skip b c bs t) ∙ e) ih

pub close_none : (l : List ℕ) → close_of l ≡ None → NoClose l
close_none [] e [] q f = cc
close_none [] e (x ∷ p) q f = cc
close_none (b ∷ []) e [] q f = cc
close_none (b ∷ []) e (x ∷ []) q f = cc
close_none (b ∷ []) e (x ∷ y ∷ p) q f = cc
close_none (b ∷ c ∷ bs) e p q f = go (ends b c) refl p f (close_none (c ∷ bs))
  where
    none_of : (o : Option ℕ) → counted 1 o ≡ None → o ≡ None
    none_of None g = refl
    none_of (Some n) g = absurd (cc)

    go : (t : Bool) → ends b c ≡ t → (p : List ℕ) → b ∷ c ∷ bs ≡ p ++ 42 ∷ 47 ∷ q
        → (close_of (c ∷ bs) ≡ None → NoClose (c ∷ bs)) → ⊥
    go true t p f ih = let two : ◌≡◌ {A = Option ℕ} (Some 2) None = sym (close_here b c bs t) ∙ e in cc
    go false t [] f ih = not_ends b c t (ap head f) (ap (λ l. head (drop 1 l)) f)
    go false t (x ∷ p) f ih = ih (none_of (close_of (c ∷ bs)) (sym (close_skip b c bs t) ∙ e)) p q (ap (drop 1) f)

pub close_only : (body rest : List ℕ) → NoClose (body ++ 42 ∷ [])
    → close_of (body ++ 42 ∷ 47 ∷ rest) ≡ Some (length body + 2)
close_only [] rest h = refl
close_only (b ∷ []) rest h = close_skip b 42 (47 ∷ rest) (and_false (b == 42))
  where
    and_false : (x : Bool) → (x && false) ≡ false
    and_false true = refl
    and_false false = refl
close_only (b ∷ c ∷ bs) rest h = go (ends b c) refl
    (close_only (c ∷ bs) rest (λ p q f. h (b ∷ p) q (ap (λ l. b ∷ l) f)))
  where
    go : (t : Bool) → ends b c ≡ t → close_of (c ∷ bs ++ 42 ∷ 47 ∷ rest) ≡ Some (length (c ∷ bs) + 2)
        → close_of (b ∷ c ∷ bs ++ 42 ∷ 47 ∷ rest) ≡ Some (length (b ∷ c ∷ bs) + 2)
    go true t ih = let parts = and_both (b == 42) (c == 47) t in
        absurd (h [] (bs ++ 42 ∷ []) (ap (λ z. z ∷ c ∷ bs ++ 42 ∷ []) (eqb-true b 42 parts.0)
        ∙ ap (λ z. 42 ∷ z ∷ bs ++ 42 ∷ []) (eqb-true c 47 parts.1)))
    go false t ih = let n : 1 + (length (c ∷ bs) + 2) ≡ length (b ∷ c ∷ bs) + 2 = omega arith in
        close_skip b c (bs ++ 42 ∷ 47 ∷ rest) t ∙ ap (counted 1) ih ∙ ap (λ m. Some m) n

-- ---- the end of a string

quote_skip : (b c : ℕ) (bs : List ℕ) → IsPlain b → quote_of (b ∷ c ∷ bs) ≡ counted 1 (quote_of (c ∷ bs))
quote_skip b c bs (no_quote, no_slash) =
    let rest = counted 1 (quote_of (c ∷ bs)) in
    ap (λ t. cond t (Some 0) (cond (b == 92) (counted 2 (quote_of bs)) rest)) (eq_false b 34 no_quote)
    ∙ ap (λ t. cond t (counted 2 (quote_of bs)) rest) (eq_false b 92 no_slash)

quote_escape : (b c : ℕ) (bs : List ℕ) → b ≡ 92 → quote_of (b ∷ c ∷ bs) ≡ counted 2 (quote_of bs)
quote_escape b c bs e = ap (λ z. quote_of (z ∷ c ∷ bs)) e

-- the body of a string ends at the first quote that isn't escaped
pub quote_only : (body rest : List ℕ) → IsStringBody body → quote_of (body ++ 34 ∷ rest) ≡ Some (length body)
quote_only [] [] h = refl
quote_only [] (c ∷ rest) h = refl
quote_only (b ∷ []) [] h = quote_skip b 34 [] h
quote_only (b ∷ []) (c ∷ rest) h = quote_skip b 34 (c ∷ rest) h
quote_only (b ∷ c ∷ bs) rest (inl (plain, h)) =
    let one : 1 + length (c ∷ bs) ≡ length (b ∷ c ∷ bs) = omega arith in
    quote_skip b c (bs ++ 34 ∷ rest) plain ∙ ap (counted 1) (quote_only (c ∷ bs) rest h) ∙ ap (λ m. Some m) one
quote_only (b ∷ c ∷ bs) rest (inr (e, h)) =
    let two : 2 + length bs ≡ length (b ∷ c ∷ bs) = omega arith in
    quote_escape b c (bs ++ 34 ∷ rest) e ∙ ap (counted 2) (quote_only bs rest h) ∙ ap (λ m. Some m) two

abbrev pub Quoted : List ℕ → ℕ → Type 0
Quoted l n = (body : List ℕ) × (rest : List ℕ) × (l ≡ body ++ 34 ∷ rest) × (n ≡ length body) × IsStringBody body

plain_cons : (b : ℕ) (body : List ℕ) → IsPlain b → IsStringBody body → IsStringBody (b ∷ body)
plain_cons b [] plain h = plain
plain_cons b (c ∷ body) plain h = inl (plain, h)

pub quote_some : (l : List ℕ) (n : ℕ) → quote_of l ≡ Some n → Quoted l n
quote_some [] n e = absurd (cc)
quote_some (b ∷ []) n e = go (b == 34) refl e
  where
    go : (t : Bool) → (b == 34) ≡ t → cond t (Some 0) None ≡ Some n → Quoted (b ∷ []) n
    go true t e = let zero : 0 ≡ n = cc in ([], [], ap (λ z. z ∷ []) (eq_true b 34 t), sym zero, tt)
    go false t e = absurd (cc)
quote_some (b ∷ c ∷ bs) n e = go (b == 34) refl e (quote_some bs) (quote_some (c ∷ bs))
  where
    plain : (b == 34) ≡ false → (b == 92) ≡ false → (o : Option ℕ) → quote_of (c ∷ bs) ≡ o
        → counted 1 o ≡ Some n → ((m : ℕ) → quote_of (c ∷ bs) ≡ Some m → Quoted (c ∷ bs) m)
        → Quoted (b ∷ c ∷ bs) n
    plain s t None f g ih = absurd (cc)
    plain s t (Some m) f g ih =
        let (body, rest, e1, e2, h) = ih m f in
        let same : 1 + m ≡ n = cc in (
          b ∷ body,
          rest,
          ap (λ l. b ∷ l) e1,
          omega (arith, e2, same),
          plain_cons b body
              (not_eq b 34 s, not_eq b 92 t) h,
        )

    escaped : b ≡ 92 → (o : Option ℕ) → quote_of bs ≡ o → counted 2 o ≡ Some n
        → ((m : ℕ) → quote_of bs ≡ Some m → Quoted bs m) → Quoted (b ∷ c ∷ bs) n
    escaped s None f g ih = absurd (cc)
    escaped s (Some m) f g ih =
        let (body, rest, e1, e2, h) = ih m f in
        let same : 2 + m ≡ n = cc in
        (b ∷ c ∷ body, rest, ap (λ l. b ∷ c ∷ l) e1, omega (arith, e2, same), inr (s, h))

    second : (t : Bool) → (b == 34) ≡ false → (b == 92) ≡ t
        → cond t (counted 2 (quote_of bs)) (counted 1 (quote_of (c ∷ bs))) ≡ Some n
        → ((m : ℕ) → quote_of bs ≡ Some m → Quoted bs m)
        → ((m : ℕ) → quote_of (c ∷ bs) ≡ Some m → Quoted (c ∷ bs) m) → Quoted (b ∷ c ∷ bs) n
    second true s t g ih2 ih1 = escaped (eq_true b 92 t) (quote_of bs) refl g ih2
    second false s t g ih2 ih1 = plain s t (quote_of (c ∷ bs)) refl g ih1

    go : (t : Bool) → (b == 34) ≡ t → cond t (Some 0)
        (cond (b == 92) (counted 2 (quote_of bs)) (counted 1 (quote_of (c ∷ bs)))) ≡ Some n
        → ((m : ℕ) → quote_of bs ≡ Some m → Quoted bs m)
        → ((m : ℕ) → quote_of (c ∷ bs) ≡ Some m → Quoted (c ∷ bs) m) → Quoted (b ∷ c ∷ bs) n
    go true t g ih2 ih1 = let zero : 0 ≡ n = cc in ([], c ∷ bs, ap (λ z. z ∷ c ∷ bs) (eq_true b 34 t), sym zero, tt)
    go false t g ih2 ih1 = second (b == 92) t refl g ih2 ih1
