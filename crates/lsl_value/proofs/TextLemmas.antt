-- What a text's characters are, from its bytes.
use Rattle.std.proofs.Common.{◌≡◌, ℤ, FitsSigned, ◌∙◌, ℕ, ◌+◌, ◌≤◌, ◌<◌, true, not, ◌==◌, nat_lt, List, [], ◌∷◌, ◌++◌, length, sym, ap, refl, subst, arith, nat_eq, length-append}
use Rattle.std.specs.Char.{encode_utf8, len_utf8}
use Rattle.std.specs.Int.{w32}
use Rattle.std.specs.Cmp.Lexicographic.{pointwise}
use Rattle.std.specs.Str.{chars, encode_utf8_all, all_scalars, IsUtf8, IsAscii}
use Rattle.std.proofs.lemmas.Bool.{eqb-true}
use Rattle.std.proofs.lemmas.Str.{chars-append, chars-encodes, encodes-chars, encodes_same, encodes-IsAscii, length-encode, length-le-encodes, len_utf8_bounds, scalars-chars}
use Rattle.std.proofs.lemmas.Str.Ascii.{IsAscii-cons, IsAscii-nil}
use Rattle.std.proofs.lemmas.Slice.Eq.{bytes_eq-Decides}
use Rattle.std.proofs.lemmas.Bool.Decides.{nat_tests, same_from_decides, Decides-like}
use Rattle.std.proofs.lemmas.Fmt.{IsAscii-signed, length_signed_le}
use Rattle.lsl_text.specs.Number.{decimal_of}
use Rattle.lsl_value.specs.Text.{IsText, IsTextOf}

pub IsText-chars : (bytes : List ℕ) → IsUtf8 bytes → length bytes ≤ 1048576 → IsText (chars bytes)
IsText-chars bytes valid short =
    let P : List ℕ → Type 0 = λ text. length text ≤ 1048576 in
    record { scalars = scalars-chars bytes valid; within = subst P (sym (encodes-chars bytes valid)) short }

pub IsTextOf-chars : (bytes : List ℕ) → IsUtf8 bytes → length bytes ≤ 1048576 → IsTextOf bytes (chars bytes)
IsTextOf-chars bytes valid short = record { spelled = encodes-chars bytes valid; text = IsText-chars bytes valid short }

-- texts are equal exactly where their bytes are
pub pointwise-encodes : (a b : List ℕ) → pointwise nat_eq (encode_utf8_all a) (encode_utf8_all b) ≡ pointwise nat_eq a b
pointwise-encodes a b =
    same_from_decides _ _
    (Decides-like _ (encodes_same a b) (ap encode_utf8_all) (bytes_eq-Decides (encode_utf8_all a) (encode_utf8_all b)))
    (bytes_eq-Decides a b)

-- one text's characters behind another's
pub chars-join : (bytes self other : List ℕ) → IsUtf8 bytes → chars bytes ≡ self → all_scalars other ≡ true
    → chars (bytes ++ encode_utf8_all other) ≡ self ++ other
chars-join bytes self other valid same scalars =
    chars-append bytes (encode_utf8_all other) valid ∙ ap (λ c. c ++ chars (encode_utf8_all other)) same
    ∙ ap (λ c. self ++ c) (chars-encodes other scalars)

pub chars-joined : (whole bytes self other : List ℕ) → whole ≡ bytes ++ encode_utf8_all other → IsUtf8 bytes
    → chars bytes ≡ self → all_scalars other ≡ true → chars whole ≡ self ++ other
chars-joined whole bytes self other joined valid same scalars =
    ap chars joined ∙ chars-join bytes self other valid same scalars

-- what is kept of both, where the two are short
pub counted-join : (whole bytes self other : List ℕ) (n m : ℕ) → whole ≡ bytes ++ encode_utf8_all other → IsUtf8 bytes
    → chars bytes ≡ self → all_scalars other ≡ true → n ≡ length self → m ≡ length other
    → length (encode_utf8_all self) + length (encode_utf8_all other) ≤ 1048576
    → (length whole ≤ 1048576) × (n + m ≡ length (chars whole))
counted-join whole bytes self other n m joined valid same scalars first second short =
    let size : length bytes ≡ length (encode_utf8_all self) =
    ap length (sym (encodes-chars bytes valid) ∙ ap encode_utf8_all same) in
    let spelled = chars-joined whole bytes self other joined valid same scalars in (
      omega (arith, ap length joined, length-append bytes (encode_utf8_all other), size, short),
      omega (arith, first, second, ap length spelled, length-append self other),
    )

-- there are no more characters than bytes
pub few-characters : (bytes : List ℕ) (n : ℕ) → IsUtf8 bytes → length bytes ≤ 1048576 → n ≡ length (chars bytes)
    → n ≤ 1048576
few-characters bytes n valid short count =
    let spelled = ap length (encodes-chars bytes valid) in
    let few = length-le-encodes (chars bytes) in
    omega (arith, spelled, few, short, count)

-- a character of one byte is ASCII, and so is a text that has as many characters as bytes
one_byte : (c : ℕ) → length (encode_utf8 c) ≡ 1 → c < 128
one_byte c one = let size : len_utf8 c ≡ 1 = sym (length-encode c) ∙ one in grind (arith, nat_tests)

pub IsAscii-from_length : (cs : List ℕ) → length cs ≡ length (encode_utf8_all cs) → IsAscii cs
IsAscii-from_length [] same = IsAscii-nil
IsAscii-from_length (c ∷ cs) same =
    let parts = length-append (encode_utf8 c) (encode_utf8_all cs) in
    let least = (len_utf8_bounds c).0 in
    let size = length-encode c in
    let others = length-le-encodes cs in
    IsAscii-cons c cs (one_byte c (omega (arith, same, parts, least, size, others)))
    (IsAscii-from_length cs (omega (arith, same, parts, least, size, others)))

-- a text is empty exactly where its bytes are
pub nonempty-encodes : (text : List ℕ) → not (length (encode_utf8_all text) == 0) ≡ nat_lt 0 (length text)
nonempty-encodes [] = refl
nonempty-encodes (c ∷ cs) = let bytes = length-le-encodes (c ∷ cs) in grind (arith, nat_tests)

-- an integer's text is ASCII, and at most 11 characters
pub decimal-ascii : (n : ℤ) (text : List ℕ) → FitsSigned w32 n → text ≡ decimal_of n → IsAscii text
decimal-ascii n text fits same = subst IsAscii (sym same) (IsAscii-signed n (omega (arith, fits.sfits)))

pub decimal-short : (n : ℤ) (text : List ℕ) → FitsSigned w32 n → text ≡ decimal_of n → length text ≤ 11
decimal-short n text fits same = rw same (length_signed_le 10 n (omega (arith, fits.sfits)) (omega (arith, fits.sfits)))

pub decimal-encodes_short : (n : ℤ) (text : List ℕ) → FitsSigned w32 n → text ≡ decimal_of n
    → length (encode_utf8_all text) ≤ 11
decimal-encodes_short n text fits same = rw (encodes-IsAscii text (decimal-ascii n text fits same))
    (decimal-short n text fits same)

-- a list without an element is the empty one
pub empty-list : (text : List ℕ) → (length text == 0) ≡ true → text ≡ []
empty-list [] same = refl
empty-list (c ∷ cs) same = absurd (omega (arith, eqb-true _ _ same))
