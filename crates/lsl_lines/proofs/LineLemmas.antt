-- The first line of a text.
use Rattle.std.proofs.Common.{◌≡◌, ℕ, zero, suc, get_or, ◌+◌, ◌<◌, ◌==◌, Bool, true, false, not, cond, ◌&&◌, ◌⊎◌, inl, inr, List, [], ◌∷◌, ◌++◌, length, take, drop, refl, sym, ap, ◌∙◌, subst, arith, length-drop}
use Rattle.std.proofs.lemmas.Bool.{eqb-true}
use Rattle.std.proofs.lemmas.List.{take-append-drop, take_all, drop-drop}
use Rattle.std.specs.List.{prefix_len, list_all}
use Rattle.lsl_lines.specs.Lines.{longer, lines_of}
use Rattle.lsl_lines.specs.Reads.{is_in_line, without_return}

and_both : (a b : Bool) → (a && b) ≡ true → (a ≡ true) × (b ≡ true)
and_both true b e = (refl, e)
and_both false b e = absurd (cc)

not_feed : (b : Bool) → not b ≡ true → b ≡ false
not_feed true e = absurd (cc)
not_feed false e = refl

list_all-prefix : (p : ℕ → Bool) (l : List ℕ) → list_all p (take (prefix_len p l) l) ≡ true
list_all-prefix p [] = refl
list_all-prefix p (b ∷ l) = go (p b) refl (list_all-prefix p l)
  where
    go : (t : Bool) → p b ≡ t → list_all p (take (prefix_len p l) l) ≡ true
        → list_all p (take (cond t (1 + prefix_len p l) 0) (b ∷ l)) ≡ true
    go true e ih =
        let one : 1 + prefix_len p l ≡ suc (prefix_len p l) = omega arith in
        ap (λ n. list_all p (take n (b ∷ l))) one ∙ ap (λ t. t && list_all p (take (prefix_len p l) l)) e ∙ ih
    go false e ih = refl

-- what follows that front
abbrev Stops : (ℕ → Bool) → List ℕ → Type 0
Stops p l = (l ≡ []) ⊎ ((b : ℕ) × (more : List ℕ) × (l ≡ b ∷ more) × (p b ≡ false))

prefix_len-stops : (p : ℕ → Bool) (l : List ℕ) → Stops p (drop (prefix_len p l) l)
prefix_len-stops p [] = inl refl
prefix_len-stops p (b ∷ l) = go (p b) refl (prefix_len-stops p l)
  where
    go : (t : Bool) → p b ≡ t → Stops p (drop (prefix_len p l) l)
        → Stops p (drop (cond t (1 + prefix_len p l) 0) (b ∷ l))
    go true e ih = let one : 1 + prefix_len p l ≡ suc (prefix_len p l) = omega arith in let Q : ℕ → Type 0 =
        λ n. Stops p (drop n (b ∷ l)) in rw one ih
    go false e ih = inr (b, l, refl, e)

-- ---- a line that ends with a line feed

pub line_cut : (front more : List ℕ) → list_all is_in_line front ≡ true
    → lines_of (front ++ 10 ∷ more) ≡ without_return front ∷ lines_of more
line_cut [] more h = refl
line_cut (b ∷ []) more h = go (b == 10) (b == 13) (not_feed (b == 10) (and_both (not (b == 10)) true h).0)
  where
    go : (feed return : Bool) → feed ≡ false
        → cond feed ([] ∷ lines_of (10 ∷ more))
        (cond (return && true) (lines_of (10 ∷ more)) (longer b (lines_of (10 ∷ more))))
        ≡ cond return [] (b ∷ []) ∷ lines_of more
    go true return e = absurd (cc)
    go false true e = refl
    go false false e = refl
line_cut (b ∷ c ∷ front) more h = go (b == 10) (b == 13) (c == 10) (not_feed (b == 10) parts.0)
    (not_feed (c == 10) (and_both (not (c == 10)) (list_all is_in_line front) parts.1).0)
    (line_cut (c ∷ front) more parts.1)
  where
    parts : (not (b == 10) ≡ true) × (list_all is_in_line (c ∷ front) ≡ true)
    parts = and_both (not (b == 10)) (list_all is_in_line (c ∷ front)) h

    go : (feed return next : Bool) → feed ≡ false → next ≡ false
        → lines_of ((c ∷ front) ++ 10 ∷ more) ≡ without_return (c ∷ front) ∷ lines_of more
        → cond feed ([] ∷ lines_of ((c ∷ front) ++ 10 ∷ more))
        (cond (return && next) (lines_of ((c ∷ front) ++ 10 ∷ more))
        (longer b (lines_of ((c ∷ front) ++ 10 ∷ more)))) ≡ (b ∷ without_return (c ∷ front)) ∷ lines_of more
    go true return next e f ih = absurd (cc)
    go false return true e f ih = absurd (cc)
    go false true false e f ih = ap (longer b) ih
    go false false false e f ih = ap (longer b) ih

-- ---- a last line without one

line_last : (b : ℕ) (front : List ℕ) → list_all is_in_line (b ∷ front) ≡ true → lines_of (b ∷ front) ≡ (b ∷ front) ∷ []
line_last b [] h = go (b == 10) (b == 13) (not_feed (b == 10) (and_both (not (b == 10)) true h).0)
  where
    go : (feed return : Bool) → feed ≡ false
        → cond feed ([] ∷ []) (cond (return && false) [] ((b ∷ []) ∷ [])) ≡ (b ∷ []) ∷ []
    go true return e = absurd (cc)
    go false true e = refl
    go false false e = refl
line_last b (c ∷ front) h = go (b == 10) (b == 13) (c == 10) (not_feed (b == 10) parts.0)
    (not_feed (c == 10) (and_both (not (c == 10)) (list_all is_in_line front) parts.1).0)
    (line_last c front parts.1)
  where
    parts : (not (b == 10) ≡ true) × (list_all is_in_line (c ∷ front) ≡ true)
    parts = and_both (not (b == 10)) (list_all is_in_line (c ∷ front)) h

    go : (feed return next : Bool) → feed ≡ false → next ≡ false → lines_of (c ∷ front) ≡ (c ∷ front) ∷ []
        → cond feed ([] ∷ lines_of (c ∷ front))
        (cond (return && next) (lines_of (c ∷ front)) (longer b (lines_of (c ∷ front)))) ≡ (b ∷ c ∷ front) ∷ []
    go true return next e f ih = absurd (cc)
    go false return true e f ih = absurd (cc)
    go false true false e f ih = ap (longer b) ih
    go false false false e f ih = ap (longer b) ih

-- ---- the code's cut

pub first-line : (text : List ℕ) (n : ℕ) → n ≡ prefix_len is_in_line text → n < length text
    → lines_of text ≡ without_return (take n text) ∷ lines_of (drop (n + 1) text)
first-line text n e lt = go (subst (λ k. Stops is_in_line (drop k text)) (sym e) (prefix_len-stops is_in_line text))
  where
    passes : list_all is_in_line (take n text) ≡ true
    passes = subst (λ k. list_all is_in_line (take k text) ≡ true) (sym e) (list_all-prefix is_in_line text)

    go : Stops is_in_line (drop n text) → lines_of text ≡ without_return (take n text) ∷ lines_of (drop (n + 1) text)
    go (inl f) = absurd (omega (arith, ap length f, length-drop n text))
    go (inr (b, more, f, stop)) =
        let ten : b ≡ 10 = feed b stop in
        let split : text ≡ take n text ++ 10 ∷ more =
        sym (take-append-drop n text) ∙ ap (λ l. take n text ++ l) f
        ∙ ap (λ c. take n text ++ c ∷ more) ten in
        let behind : more ≡ drop (n + 1) text =
        ap (drop 1) (sym f) ∙ drop-drop 1 n text ∙ ap (λ k. drop k text) (omega arith) in
        ap lines_of split ∙ line_cut (take n text) more passes
        ∙ ap (λ l. without_return (take n text) ∷ lines_of l) behind
      where
        feed : (b : ℕ) → not (b == 10) ≡ false → b ≡ 10
        feed b stop = grind arith

pub last-line : (text : List ℕ) (n : ℕ) → n ≡ prefix_len is_in_line text → n ≡ length text → 0 < length text
    → lines_of text ≡ text ∷ []
last-line [] n e whole some = absurd (omega arith)
last-line (b ∷ text) n e whole some = line_last b text
    (subst (λ l. list_all is_in_line l ≡ true) (take_all n (b ∷ text) (omega (arith, whole)))
    (subst (λ k. list_all is_in_line (take k (b ∷ text)) ≡ true) (sym e)
    (list_all-prefix is_in_line (b ∷ text))))

-- ---- the carriage return at a line's end

pub last_return : (line : List ℕ) (n : ℕ) → suc n ≡ length line → get_or line n 0 ≡ 13
    → take n line ≡ without_return line
last_return [] n e h = absurd (omega arith)
last_return (b ∷ []) zero e h = sym (ap (λ c. cond (c == 13) [] (c ∷ [])) h)
last_return (b ∷ []) (suc n) e h = absurd (omega arith)
last_return (b ∷ c ∷ line) zero e h = absurd (omega arith)
last_return (b ∷ c ∷ line) (suc n) e h = ap (λ l. b ∷ l) (last_return (c ∷ line) n (omega arith) h)

pub no_return : (line : List ℕ) (n : ℕ) → suc n ≡ length line → (get_or line n 0 ≡ 13 → ⊥) → line ≡ without_return line
no_return [] n e h = absurd (omega arith)
no_return (b ∷ []) zero e h = go (b == 13) refl
  where
    go : (t : Bool) → (b == 13) ≡ t → (b ∷ []) ≡ cond t [] (b ∷ [])
    go true f = absurd (h (eqb-true b 13 f))
    go false f = refl
no_return (b ∷ []) (suc n) e h = absurd (omega arith)
no_return (b ∷ c ∷ line) zero e h = absurd (omega arith)
no_return (b ∷ c ∷ line) (suc n) e h = ap (λ l. b ∷ l) (no_return (c ∷ line) n (omega arith) h)

pub no_byte : (line : List ℕ) → length line ≡ 0 → line ≡ without_return line
no_byte [] e = refl
no_byte (b ∷ line) e = absurd (omega arith)
