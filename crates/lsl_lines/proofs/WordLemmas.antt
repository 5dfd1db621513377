-- Words that are cut from a line at once.
use Rattle.std.proofs.Common.{◌≡◌, ℕ, suc, get_or, ◌+◌, ◌<◌, ◌==◌, Bool, true, false, not, cond, ◌||◌, List, [], ◌∷◌, ◌++◌, length, take, drop, refl, sym, ap, ◌∙◌, arith, append_assoc, append-nil, drop-cons, Ok}
use Rattle.std.proofs.lemmas.Bool.{cond-true}
use Rattle.std.specs.List.{prefix_len}
use Rattle.lsl_lines.specs.Checks.{◌>>=◌}
use Rattle.lsl_lines.specs.Reads.{ahead, closed_words, is_in_word, is_verbatim}
use Rattle.lsl_lines.specs.Words.{Plain, is_blank, plain_words, quoted_words, words_of}

plain_rest : (front line : List ℕ) → plain_words front line
    ≡ ahead (Plain (front ++ take (prefix_len is_in_word line) line)) (drop (prefix_len is_in_word line) line)
plain_rest front [] = ap (λ l. Ok (Plain l ∷ [])) (sym (append-nil front))
plain_rest front (b ∷ line) = go (is_blank b) refl (plain_rest (front ++ b ∷ []) line)
  where
    go : (t : Bool) → is_blank b ≡ t
        → plain_words (front ++ b ∷ []) line ≡ ahead (Plain ((front ++ b ∷ [])
        ++ take (prefix_len is_in_word line) line)) (drop (prefix_len is_in_word line) line)
        → cond t (words_of line >>= λ words. Ok (Plain front ∷ words)) (plain_words (front ++ b ∷ []) line)
        ≡ ahead (Plain (front ++ take (cond (not t) (1 + prefix_len is_in_word line) 0) (b ∷ line)))
        (drop (cond (not t) (1 + prefix_len is_in_word line) 0) (b ∷ line))
    go true e ih =
        ap (λ l. words_of line >>= λ words. Ok (Plain l ∷ words)) (sym (append-nil front))
        ∙ ap (λ r. r >>= λ words. Ok (Plain (front ++ []) ∷ words)) (sym (cond-true (is_blank b) (words_of line) _ e))
    go false e ih =
        let n = prefix_len is_in_word line in
        let one : 1 + n ≡ suc n = omega arith in
        ih
        ∙ ap (λ l. ahead (Plain l) (drop n line)) (append_assoc front (b ∷ []) (take n line))
        ∙ ap (λ k. ahead (Plain (front ++ take k (b ∷ line))) (drop k (b ∷ line))) (sym one)

pub plain_cut : (line : List ℕ) (n : ℕ) → 0 < length line → n ≡ prefix_len is_in_word (drop 1 line)
    → plain_words (take 1 line) (drop 1 line) ≡ ahead (Plain (take (1 + n) line)) (drop (1 + n) line)
plain_cut [] n some e = absurd (omega arith)
plain_cut (b ∷ line) n some e =
    let one : suc (prefix_len is_in_word line) ≡ 1 + n = omega (arith, e) in
    plain_rest (b ∷ []) line
    ∙ ap (λ k. ahead (Plain (take k (b ∷ line))) (drop k (b ∷ line))) one

verbatim_rest : (front line : List ℕ) → quoted_words front line
    ≡ quoted_words (front ++ take (prefix_len is_verbatim line) line) (drop (prefix_len is_verbatim line) line)
verbatim_rest front [] = refl
verbatim_rest front (b ∷ line) = go (b == 34) (b == 92) refl refl (verbatim_rest (front ++ b ∷ []) line)
  where
    go : (quote backslash : Bool) → (b == 34) ≡ quote → (b == 92) ≡ backslash
        → quoted_words (front ++ b ∷ []) line ≡ quoted_words ((front ++ b ∷ [])
        ++ take (prefix_len is_verbatim line) line) (drop (prefix_len is_verbatim line) line)
        → quoted_words front (b ∷ line)
        ≡ quoted_words (front ++ take (cond (not (quote || backslash)) (1 + prefix_len is_verbatim line) 0) (b ∷ line))
        (drop (cond (not (quote || backslash)) (1 + prefix_len is_verbatim line) 0) (b ∷ line))
    go true backslash e f ih = ap (λ l. quoted_words l (b ∷ line)) (sym (append-nil front))
    go false true e f ih = ap (λ l. quoted_words l (b ∷ line)) (sym (append-nil front))
    go false false e f ih =
        let n = prefix_len is_verbatim line in
        let one : 1 + n ≡ suc n = omega arith in
        let next : quoted_words front (b ∷ line) ≡ quoted_words (front ++ b ∷ []) line = rw (e, f) refl in
        next ∙ ih
        ∙ ap (λ l. quoted_words l (drop n line)) (append_assoc front (b ∷ []) (take n line))
        ∙ ap (λ k. quoted_words (front ++ take k (b ∷ line)) (drop k (b ∷ line))) (sym one)

pub verbatim_cut : (line : List ℕ) (n : ℕ) → n ≡ prefix_len is_verbatim line → n < length line → get_or line n 0 ≡ 34
    → quoted_words [] line ≡ closed_words (take n line) (drop (n + 1) line)
verbatim_cut line n e lt quote =
    let one : suc n ≡ n + 1 = omega arith in
    let split : drop n line ≡ 34 ∷ drop (n + 1) line =
    drop-cons line n 0 lt ∙ ap (λ b. b ∷ drop (suc n) line) quote ∙ ap (λ k. 34 ∷ drop k line) one in
    verbatim_rest [] line
    ∙ ap (λ k. quoted_words (take k line) (drop k line)) (sym e)
    ∙ ap (quoted_words (take n line)) split
