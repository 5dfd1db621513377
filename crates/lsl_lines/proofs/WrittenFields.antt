-- Fields that were written are read back.
use Rattle.std.proofs.Common.{◌≡◌, ℕ, suc, ◌<◌, ◌≤◌, ◌^◌, ◌==◌, nat_le, nat_lt, Bool, true, false, cond, ◌&&◌, ℤ, pos, negsuc, List, [], ◌∷◌, length, get_or, decimal, Result, Ok, refl, sym, ap, ◌∙◌, subst, arith, inl, inr, lit<, encode_utf8_all}
use Rattle.std.proofs.lemmas.Bool.{and_parts, and_from, cases_Bool, cond-false, cond-true, eqb-true, le-leb, lt-ltb, ne_eqb}
use Rattle.std.proofs.lemmas.Bool.Decides.{nat_tests}
use Rattle.std.proofs.lemmas.Fmt.{decimal_is_IsNumeral}
use Rattle.std.proofs.lemmas.List.Elements.{All-from_get_or}
use Rattle.std.proofs.lemmas.List.Sums.{list_all-from_AllPass}
use Rattle.std.proofs.lemmas.Str.{chars-IsAscii, encodes-IsAscii, scalars-chars, IsUtf8-from_ascii}
use Rattle.std.proofs.lemmas.Str.Parse.{digit_at}
use Rattle.std.specs.Char.{digit_value}
use Rattle.std.specs.List.{list_all, range_with_len}
use Rattle.std.specs.Str.{all_scalars}
use Rattle.std.specs.Str.Parse.{AllDigits, IsNumeral, digits_value}
use Rattle.lsl_text.specs.Number.{decimal_of}
use Rattle.lsl_value.specs.Key.{fits_place, is_hex_digit, is_hyphen_place, is_valid_key}
use Rattle.lsl_value.specs.Limits.{most_text_bytes}
use Rattle.lsl_value.proofs.KeyLemmas.{passes-in_range}
use Rattle.lsl_lines.specs.Checks.{◌>>=◌, fault_unless}
use Rattle.lsl_lines.specs.Fields.{digits_of, integer_of, is_decimal, is_negative, key_of, magnitude_of, name_of, natural_of, signed_of}
use Rattle.lsl_lines.specs.Words.{Plain, Quoted, text_of}
use Rattle.lsl_lines.specs.Writable.{IsInteger, IsLowerKey, IsName}
use Rattle.lsl_lines.specs.Written.{integer, number}
use Rattle.lsl_lines.specs.declared.faults.FileKind.{FileKind}
use Rattle.lsl_lines.specs.declared.faults.FileKind.TheVariants.{BadLine}
use Rattle.lsl_lines.proofs.Texts.{text_of-text}
use Rattle.lsl_lines.proofs.WrittenWords.{IsPlain, is_word_byte, plain_ascii}

-- ---- digits

digit_bounds : (c : ℕ) → digit_value c < 10 → (48 ≤ c) × (c ≤ 57)
digit_bounds c h = digit_at (c ∷ []) 0 (h, tt) (lit< tt)

word_byte : (c : ℕ) → 35 < c → c < 127 → is_word_byte c ≡ true
word_byte c l r = and_from (nat_lt 35 c) (nat_lt c 127) (lt-ltb 35 c l) (lt-ltb c 127 r)

digits_plain : (ds : List ℕ) → AllDigits 10 ds → list_all is_word_byte ds ≡ true
digits_plain [] h = refl
digits_plain (c ∷ ds) (one, more) =
    let (l, r) = digit_bounds c one in
    and_from (is_word_byte c) (list_all is_word_byte ds) (word_byte c (omega arith) (omega arith))
    (digits_plain ds more)

digits_decimal : (ds : List ℕ) → AllDigits 10 ds → list_all is_decimal ds ≡ true
digits_decimal [] h = refl
digits_decimal (c ∷ ds) (one, more) =
    and_from (is_decimal c) (list_all is_decimal ds) (lt-ltb (digit_value c) 10 one) (digits_decimal ds more)

digits_back : (ds : List ℕ) → IsNumeral 10 ds → digits_of ds ≡ Ok (digits_value 10 ds)
digits_back ds (some, h) =
    cond-true (nat_lt 0 (length ds) && list_all is_decimal ds) _ _
    (and_from (nat_lt 0 (length ds)) (list_all is_decimal ds) (lt-ltb 0 (length ds) some) (digits_decimal ds h))

no_sign : (ds : List ℕ) → IsNumeral 10 ds → is_negative ds ≡ false
no_sign [] (some, h) = absurd (omega arith)
no_sign (c ∷ ds) (some, (one, more)) =
    let (l, r) = digit_bounds c one in ne_eqb c 45 (λ e. omega (arith, e, l))

magnitude_back : (ds : List ℕ) → IsNumeral 10 ds → magnitude_of ds ≡ Ok (digits_value 10 ds)
magnitude_back [] (some, h) = absurd (omega arith)
magnitude_back (c ∷ ds) h = cond-false (c == 45) (digits_of ds) (digits_of (c ∷ ds)) (no_sign (c ∷ ds) h)
    ∙ digits_back (c ∷ ds) h

-- ---- numbers

abbrev Number : Type 0
Number = Result ℕ FileKind

abbrev given : ℕ → Number
given n = Ok n

read_decimal : (n : ℕ) → n < 2 ^ 64 → magnitude_of (decimal n) ≡ given n
read_decimal n small =
    let (numeral, value) = decimal_is_IsNumeral n small in magnitude_back (decimal n) numeral ∙ ap given value

pub number_plain : (n : ℕ) → n < 2 ^ 64 → IsPlain (decimal n)
number_plain n small =
    let (numeral, value) = decimal_is_IsNumeral n small in (numeral.0, digits_plain (decimal n) numeral.1)

pub number_back : (most n : ℕ) → n ≤ most → n < 2 ^ 64 → natural_of most (number n) ≡ Ok n
number_back most n le small =
    let (numeral, value) = decimal_is_IsNumeral n small in
    ap (λ (r : Number). r >>= λ m. fault_unless (nat_le m (cond (is_negative (decimal n)) 0 most)) BadLine (given m))
    (read_decimal n small)
    ∙ ap (λ (t : Bool). fault_unless (nat_le n (cond t 0 most)) BadLine (given n)) (no_sign (decimal n) numeral)
    ∙ cond-true (nat_le n most) _ _ (le-leb n most le)

small_from : (n most : ℕ) → n ≤ most → most < 2 ^ 64 → n < 2 ^ 64
small_from n most le lt = omega (arith, le, lt)

pub integer_plain : (z : ℤ) → IsInteger z → IsPlain (decimal_of z)
integer_plain (pos n) h = number_plain n (small_from n 2147483647 h (lit< tt))
integer_plain (negsuc n) h =
    let (some, plain) = number_plain (suc n) (small_from (suc n) 2147483648 h (lit< tt)) in (omega arith, plain)

pub integer_back : (z : ℤ) → IsInteger z → integer_of (integer z) ≡ Ok z
integer_back (pos n) h =
    let small = small_from n 2147483647 h (lit< tt) in
    let (numeral, value) = decimal_is_IsNumeral n small in
    ap (λ (r : Number). r >>= λ m. signed_of (is_negative (decimal n)) m) (read_decimal n small)
    ∙ ap (λ (t : Bool). signed_of t n) (no_sign (decimal n) numeral)
    ∙ cond-true (nat_le n 2147483647) _ _ (le-leb n 2147483647 h)
integer_back (negsuc n) h =
    let small = small_from (suc n) 2147483648 h (lit< tt) in
    let (numeral, value) = decimal_is_IsNumeral (suc n) small in
    ap (λ (r : Number). r >>= λ m. signed_of true m) (digits_back (decimal (suc n)) numeral ∙ ap given value)
    ∙ cond-true (nat_le (suc n) 2147483648) _ _ (le-leb (suc n) 2147483648 h)

-- ---- names

pub name_back : (name : List ℕ) → IsName name → name_of (Quoted name) ≡ Ok name
name_back name h =
    cond-true (nat_le (length (encode_utf8_all name)) 255) _ _ (le-leb (length (encode_utf8_all name)) 255 h.short)

-- ---- keys

key_byte : (k c : ℕ) → fits_place k c ≡ true → is_word_byte c ≡ true
key_byte k c fits = elim (cases_Bool (is_hyphen_place k)) [
  | inl hyphen ↦
      let dash : c ≡ 45 = eqb-true c 45 (sym (cond-true _ _ _ hyphen) ∙ fits) in
      word_byte c (omega (arith, dash)) (omega (arith, dash))
  | inr other ↦
      let digit : is_hex_digit c ≡ true = sym (cond-false _ _ _ other) ∙ fits in
      word_byte c (low c digit) (high c digit)
]
  where
    low : (c : ℕ) → is_hex_digit c ≡ true → 35 < c
    low c digit = grind (arith, nat_tests)

    high : (c : ℕ) → is_hex_digit c ≡ true → c < 127
    high c digit = grind (arith, nat_tests)

key_length : (key : List ℕ) → is_valid_key key ≡ true → length key ≡ 36
unfolding is_valid_key
key_length key valid =
    let parts = and_parts (length key == 36)
    (list_all (λ k. fits_place k (get_or key k 0)) (range_with_len 0 36)) valid in
    eqb-true (length key) 36 parts.0

key_bytes : (key : List ℕ) → is_valid_key key ≡ true → list_all is_word_byte key ≡ true
unfolding is_valid_key
key_bytes key valid =
    let parts = and_parts (length key == 36)
    (list_all (λ k. fits_place k (get_or key k 0)) (range_with_len 0 36)) valid in
    let long = eqb-true (length key) 36 parts.0 in
    list_all-from_AllPass is_word_byte key (All-from_get_or (λ c. is_word_byte c ≡ true) key 0 (λ k lt.
    key_byte k (get_or key k 0) (passes-in_range (λ k. fits_place k (get_or key k 0)) 0 36 parts.1 k
    (omega arith) (omega (arith, long, lt)))))

pub key_plain : (key : List ℕ) → IsLowerKey key → IsPlain key
key_plain key h = (omega (arith, key_length key h.valid), key_bytes key h.valid)

key_text : (key : List ℕ) → IsLowerKey key → text_of key ≡ Ok key
key_text key h =
    let ascii = plain_ascii key (key_bytes key h.valid) in
    let same = encodes-IsAscii key ascii in
    let scalars : all_scalars key ≡ true =
    subst (λ (l : List ℕ). all_scalars l ≡ true) (chars-IsAscii key ascii)
    (scalars-chars key (IsUtf8-from_ascii key ascii)) in
    let within : length (encode_utf8_all key) ≤ most_text_bytes =
    omega (arith, ap length same, key_length key h.valid) in
    text_of-text key key (record { spelled = same; text = record { scalars = scalars; within = within } })

pub key_back : (key : List ℕ) → IsLowerKey key → key_of (Plain key) ≡ Ok key
key_back key h =
    let checked : List ℕ → Result (List ℕ) FileKind = λ k. fault_unless (is_valid_key k) BadLine (Ok k) in
    ap (λ (l : List ℕ). text_of l >>= checked) h.lower
    ∙ ap (λ (r : Result (List ℕ) FileKind). r >>= checked) (key_text key h)
    ∙ cond-true (is_valid_key key) _ _ h.valid
