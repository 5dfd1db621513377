-- What the code's steps read, over plain lists.
use Rattle.std.proofs.Common.{◌≡◌, ℕ, ◌+◌, ◌<◌, ◌==◌, Bool, true, false, cond, ◌||◌, List, [], ◌∷◌, length, take, drop, Option, Some, None, refl, sym, ap, ◌∙◌, arith}
use Rattle.std.proofs.lemmas.List.Elements.{All-weaker}
use Rattle.std.proofs.lemmas.List.Sums.{AllPass-from_list_all}
use Rattle.std.proofs.lemmas.Str.{chars_from_encodes, chars-IsAscii, IsUtf8-from_ascii}
use Rattle.std.proofs.lemmas.Str.Ascii.{IsAscii-from_all}
use Rattle.std.specs.Prelude.{slice_index}
use Rattle.std.specs.List.{AllPass, prefix_len}
use Rattle.std.specs.Str.{IsAscii, encode_utf8_all}
use Rattle.lsl_lex.specs.Bytes.{is_letter, is_decimal, is_name_byte}
use Rattle.lsl_lex.specs.Reading.{counted, close_of, quote_of, part_of}
use Rattle.lsl_lex.proofs.ByteKinds.{letter_range, decimal_range, eq_false}
use Rattle.lsl_lex.proofs.Runs.{list_all-prefix}

pub counted_zero : (o : Option ℕ) → counted 0 o ≡ o
counted_zero None = refl
counted_zero (Some n) = let zero : 0 + n ≡ n = omega arith in ap (λ m. Some m) zero

counted_more : (n m : ℕ) (o : Option ℕ) → counted (n + m) o ≡ counted n (counted m o)
counted_more n m None = refl
counted_more n m (Some k) = let same : n + m + k ≡ n + (m + k) = omega arith in ap (λ z. Some z) same

pub close_short : (l : List ℕ) → length l < 2 → close_of l ≡ None
close_short [] h = refl
close_short (b ∷ []) h = refl
close_short (b ∷ c ∷ bs) h = absurd (omega arith)

-- a body's length, part by part
quote_part : (rest : List ℕ) → (slice_index rest 0 ≡ 34 → ⊥)
    → counted (part_of rest) (quote_of (drop (part_of rest) rest)) ≡ quote_of rest
quote_part [] h = refl
quote_part (b ∷ []) h = sym (ap (λ t. cond t (Some 0) None) (eq_false b 34 h))
quote_part (b ∷ c ∷ rest) h = go (b == 92) refl
  where
    go : (t : Bool) → (b == 92) ≡ t → counted (cond t 2 1) (quote_of (drop (cond t 2 1) (b ∷ c ∷ rest)))
        ≡ cond (b == 34) (Some 0) (cond (b == 92) (counted 2 (quote_of rest)) (counted 1 (quote_of (c ∷ rest))))
    go true e =
        sym (ap (λ t. cond t (Some 0) (cond (b == 92) (counted 2 (quote_of rest))
        (counted 1 (quote_of (c ∷ rest))))) (eq_false b 34 h)
        ∙ ap (λ t. cond t (counted 2 (quote_of rest)) (counted 1 (quote_of (c ∷ rest)))) e)
    go false e =
        sym (ap (λ t. cond t (Some 0) (cond (b == 92) (counted 2 (quote_of rest))
        (counted 1 (quote_of (c ∷ rest))))) (eq_false b 34 h)
        ∙ ap (λ t. cond t (counted 2 (quote_of rest)) (counted 1 (quote_of (c ∷ rest)))) e)

pub one_part : (rest more : List ℕ) (n part : ℕ) (whole : Option ℕ) → (slice_index rest 0 ≡ 34 → ⊥)
    → part ≡ part_of rest → more ≡ drop part rest → counted n (quote_of rest) ≡ whole
    → counted (n + part) (quote_of more) ≡ whole
one_part rest more n part whole h p e w =
    ap (λ l. counted (n + part) (quote_of l)) e
    ∙ counted_more n part (quote_of (drop part rest))
    ∙ ap (λ k. counted n (counted k (quote_of (drop k rest)))) p
    ∙ ap (counted n) (quote_part rest h)
    ∙ w

-- ---- names

name_byte_low : (b : ℕ) → is_name_byte b ≡ true → b < 128
name_byte_low b h = go (is_letter b) refl h
  where
    go : (t : Bool) → is_letter b ≡ t → (t || is_decimal b) ≡ true → b < 128
    go true e f = let r = letter_range b e in omega (arith, r.1)
    go false e f = let r = decimal_range b f in omega (arith, r.1)

pub name_ascii : (bytes : List ℕ) → AllPass is_name_byte bytes → IsAscii bytes
name_ascii bytes h = IsAscii-from_all bytes
    (All-weaker (λ b. is_name_byte b ≡ true) (λ b. b < 128) name_byte_low bytes h)

pub name_bytes : (text : List ℕ) (n : ℕ) → n ≡ prefix_len is_name_byte text → AllPass is_name_byte (take n text)
name_bytes text n e = rw e (AllPass-from_list_all is_name_byte (take (prefix_len is_name_byte text) text)
    (list_all-prefix is_name_byte text))

-- a name that was held is this name
pub name_held : (bytes characters : List ℕ) → AllPass is_name_byte bytes → encode_utf8_all characters ≡ bytes
    → characters ≡ bytes
name_held bytes characters h e =
    let ascii = name_ascii bytes h in
    chars_from_encodes characters bytes (IsUtf8-from_ascii bytes ascii) e ∙ chars-IsAscii bytes ascii
