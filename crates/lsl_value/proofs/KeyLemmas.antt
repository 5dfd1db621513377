-- A valid key is what uuid reads of 36 bytes.
use Rattle.std.proofs.Common.{◌≡◌, ◌↔◌, not, Result, IsOk, ◌∙◌, ℕ, zero, suc, ◌+◌, ◌<◌, ◌≤◌, Bool, true, false, cond, ◌&&◌, ◌||◌, nat_lt, ◌==◌, List, length, get_or, Option, Some, None, sym, ap, refl, subst, inl, inr, arith}
use Rattle.std.specs.List.{All, list_all, range_with_len}
use Rattle.std.specs.Str.{encode_utf8_all, all_scalars, IsAscii}
use Rattle.std.proofs.lemmas.Bool.{and_parts, and_from, cases_eq, cases_Bool, cond-false, cond-true, eq-eqb, eqb-true, false_from_ne_true, false≢true, ltb-true, ne_eqb, not-true, or_cases}
use Rattle.std.specs.Result.{is_ok}
use Rattle.std.proofs.lemmas.Bool.Decides.{nat_tests, same_from_decides}
use Rattle.std.proofs.lemmas.List.Elements.{All-from_get_or, All-get_or}
use Rattle.std.proofs.lemmas.List.Sums.{AllPass-from_list_all, list_all-from_AllPass}
use Rattle.std.proofs.lemmas.Str.{chars-IsAscii, chars-encodes, encodes-IsAscii}
use Rattle.std.proofs.lemmas.Str.Ascii.{IsAscii-from_reads}
use Rattle.uuid.specs.Text.{by_index, parsed, parsed_hyphenated, parsed_simple, has_hyphens, digits_of, digit_place, hyphen_place, byte_of_digits}
use Rattle.uuid.specs.declared.error.Error.{Error as UuidError}
use Rattle.uuid.proofs.TextLemmas.{by_index_at, by_index_length}
use Rattle.lsl_value.specs.Key.{is_hex_digit, is_hyphen_place, fits_place, is_valid_key}

-- a test of each number of a range
pub passes-in_range : (p : ℕ → Bool) (a n : ℕ) → list_all p (range_with_len a n) ≡ true → (k : ℕ) → a ≤ k
    → k < a + n → p k ≡ true
passes-in_range p a zero all k low high = absurd (omega arith)
passes-in_range p a (suc n) all k low high =
    let parts = and_parts _ _ all in
    let P : ℕ → Type 0 = λ x. p x ≡ true in
    elim (cases_eq a k) [
      | inl same ↦ subst P same parts.0
      | inr other ↦ passes-in_range p (a + 1) n parts.1 k
          (omega arith) (omega arith)
    ]

pub list_all-range : (p : ℕ → Bool) (a n : ℕ) → ((k : ℕ) → a ≤ k → k < a + n → p k ≡ true)
    → list_all p (range_with_len a n) ≡ true
list_all-range p a zero each = refl
list_all-range p a (suc n) each =
    and_from _ _ (each a (omega arith) (omega arith))
    (list_all-range p (a + 1) n (λ k low high. each k (omega arith) (omega arith)))

-- 36 characters that fit their places
record FitsPlaces (text : List ℕ) : Type 0 where
  size : length text ≡ 36
  each : (k : ℕ) → k < 36 → fits_place k (get_or text k 0) ≡ true

FitsPlaces-key : (text : List ℕ) → is_valid_key text ≡ true → FitsPlaces text
unfolding is_valid_key
FitsPlaces-key text valid =
    let parts = and_parts (length text == 36)
    (list_all (λ k. fits_place k (get_or text k 0)) (range_with_len 0 36)) valid in
    record {
      size = eqb-true _ _ parts.0;
      each = λ k high. passes-in_range (λ k. fits_place k (get_or text k 0)) 0 36 parts.1 k (omega arith) (omega arith);
    }

key-FitsPlaces : (text : List ℕ) → FitsPlaces text → is_valid_key text ≡ true
unfolding is_valid_key
key-FitsPlaces text fits =
    and_from (length text == 36) (list_all (λ k. fits_place k (get_or text k 0)) (range_with_len 0 36))
    (eq-eqb _ _ fits.size)
    (list_all-range (λ k. fits_place k (get_or text k 0)) 0 36 (λ k low high. fits.each k (omega arith)))

-- each place that isn't a hyphen's is a digit's, and each digit stands at such a place
is_digit_at : ℕ → Bool
is_digit_at k = is_hyphen_place k || (nat_lt (digit_place k) 32 && (hyphen_place (digit_place k) == k))

digits-at : list_all is_digit_at (range_with_len 0 36) ≡ true
unfolding is_digit_at
digits-at = refl

digit-at : (k : ℕ) → k < 36 → is_hyphen_place k ≡ false → (digit_place k < 32) × (hyphen_place (digit_place k) ≡ k)
unfolding is_digit_at
digit-at k high other =
    elim (or_cases _ _ (passes-in_range is_digit_at 0 36 digits-at k (omega arith) (omega arith))) [
      | inl hyphen ↦ absurd (false≢true (sym other ∙ hyphen))
      | inr digit ↦ let parts = and_parts _ _ digit in (ltb-true _ _ parts.0, eqb-true _ _ parts.1)
    ]

stands_at_digit : ℕ → Bool
stands_at_digit i = nat_lt (hyphen_place i) 36 && not (is_hyphen_place (hyphen_place i))

digits-stand : list_all stands_at_digit (range_with_len 0 32) ≡ true
unfolding stands_at_digit
digits-stand = refl

place-of_digit : (i : ℕ) → i < 32 → (hyphen_place i < 36) × (is_hyphen_place (hyphen_place i) ≡ false)
unfolding stands_at_digit
place-of_digit i high =
    let parts = and_parts _ _ (passes-in_range stands_at_digit 0 32 digits-stand i (omega arith) (omega arith)) in
    (ltb-true _ _ parts.0, not-true _ parts.1)

-- what stands at a place that isn't a hyphen's, and at one that is
fits-digit : (k c : ℕ) → is_hyphen_place k ≡ false → fits_place k c ≡ is_hex_digit c
fits-digit k c other = cond-false _ _ _ other

-- uuid reads these 36 bytes exactly where they fit their places
cond-some : {A : Type 0} (b : Bool) (x : Option A) (u : A) → cond b x None ≡ Some u → (b ≡ true) × (x ≡ Some u)
cond-some true x u same = (refl, same)
cond-some false x u same = absurd (cc)

parsed-hyphenated : (text : List ℕ) → length text ≡ 36 → parsed text ≡ parsed_hyphenated text
parsed-hyphenated text size = rw size

hyphen-at : (text : List ℕ) → (get_or text 8 0 == 45) ≡ true → (get_or text 13 0 == 45) ≡ true
    → (get_or text 18 0 == 45) ≡ true → (get_or text 23 0 == 45) ≡ true
    → (k : ℕ) → is_hyphen_place k ≡ true → (get_or text k 0 == 45) ≡ true
hyphen-at text at8 at13 at18 at23 k hyphen =
    let P : ℕ → Type 0 = λ j. (get_or text j 0 == 45) ≡ true in
    elim (or_cases _ _ hyphen) [
      | inr last ↦ subst P (sym (eqb-true _ _ last)) at23
      | inl front ↦ elim (or_cases _ _ front) [
        | inr third ↦ subst P (sym (eqb-true _ _ third)) at18
        | inl head ↦ elim (or_cases _ _ head) [
          | inr second ↦ subst P (sym (eqb-true _ _ second)) at13
          | inl first ↦ subst P (sym (eqb-true _ _ first)) at8
        ]
      ]
    ]

FitsPlaces-parsed : (text u : List ℕ) → length text ≡ 36 → parsed_hyphenated text ≡ Some u → FitsPlaces text
FitsPlaces-parsed text u size read =
    let outer = cond-some ((length text == 36) && has_hyphens text) (parsed_simple (digits_of text)) u read in
    let hyphens = (and_parts (length text == 36) (has_hyphens text) outer.0).1 in
    let inner = cond-some ((length (digits_of text) == 32) && list_all is_hex_digit (digits_of text))
    (Some (by_index 16 (byte_of_digits (digits_of text)))) u outer.1 in
    let digits = AllPass-from_list_all is_hex_digit (digits_of text)
    (and_parts (length (digits_of text) == 32) (list_all is_hex_digit (digits_of text)) inner.0).1 in
    let three = and_parts ((get_or text 8 0 == 45) && (get_or text 13 0 == 45) && (get_or text 18 0 == 45))
    (get_or text 23 0 == 45) hyphens in
    let two = and_parts ((get_or text 8 0 == 45) && (get_or text 13 0 == 45)) (get_or text 18 0 == 45) three.0 in
    let one = and_parts (get_or text 8 0 == 45) (get_or text 13 0 == 45) two.0 in
    record {
      size = size;
      each = λ k high. elim (cases_Bool (is_hyphen_place k)) [
        | inl hyphen ↦ cond-true _ _ _ hyphen ∙ hyphen-at text one.0 one.1 two.1 three.1 k hyphen
        | inr other ↦
            let place = digit-at k high other in
            let P : ℕ → Type 0 = λ c. is_hex_digit c ≡ true in
            let Q : ℕ → Type 0 = λ j. is_hex_digit (get_or text j 0) ≡ true in
            let at : is_hex_digit (get_or (digits_of text) (digit_place k) 0) ≡ true =
            All-get_or P (digits_of text) (digit_place k) 0
            (rw (by_index_length 32 (λ i. get_or text (hyphen_place i) 0)) place.0) digits in
            fits-digit k (get_or text k 0) other
            ∙ subst Q place.1 (subst P
            (by_index_at 32 (λ i. get_or text (hyphen_place i) 0) (digit_place k) 0 place.0) at)
      ];
    }

parsed-FitsPlaces : (text : List ℕ) → FitsPlaces text
    → parsed_hyphenated text ≡ Some (by_index 16 (byte_of_digits (digits_of text)))
parsed-FitsPlaces text fits =
    let hyphens : has_hyphens text ≡ true =
    and_from _ _ (and_from _ _ (and_from _ _ (fits.each 8 (omega arith)) (fits.each 13 (omega arith)))
    (fits.each 18 (omega arith))) (fits.each 23 (omega arith)) in
    let P : ℕ → Type 0 = λ c. is_hex_digit c ≡ true in
    let size = by_index_length 32 (λ i. get_or text (hyphen_place i) 0) in
    let digits : All P (digits_of text) = All-from_get_or P (digits_of text) 0 (λ i high.
    let low : i < 32 = rw size at high in
    let place = place-of_digit i low in
    subst P (sym (by_index_at 32 (λ i. get_or text (hyphen_place i) 0) i 0 low))
    (sym (fits-digit (hyphen_place i) (get_or text (hyphen_place i) 0) place.1)
    ∙ fits.each (hyphen_place i) place.0)) in
    cond-true ((length text == 36) && has_hyphens text) _ _ (and_from _ _ (eq-eqb _ _ fits.size) hyphens)
    ∙ cond-true ((length (digits_of text) == 32) && list_all is_hex_digit (digits_of text)) _ _
    (and_from _ _ (eq-eqb _ _ size) (list_all-from_AllPass is_hex_digit (digits_of text) digits))

ascii-digit : (c : ℕ) → is_hex_digit c ≡ true → c < 128
ascii-digit c digit = grind (arith, nat_tests)

ascii-fits : (k c : ℕ) → fits_place k c ≡ true → c < 128
ascii-fits k c fits = elim (cases_Bool (is_hyphen_place k)) [
  | inl hyphen ↦ let dash : c ≡ 45 = eqb-true _ _ (sym (cond-true _ _ _ hyphen) ∙ fits) in omega arith
  | inr other ↦ ascii-digit c (sym (fits-digit k c other) ∙ fits)
]

-- a text that fits its places is ASCII
ascii-places : (text : List ℕ) → FitsPlaces text → IsAscii text
ascii-places text fits = IsAscii-from_reads text 36 (omega (arith, fits.size))
    (λ k high. ascii-fits k (get_or text k 0) (fits.each k high))

-- and is its own UTF-8
key-there : (text : List ℕ) → is_valid_key text ≡ true → is_valid_key (encode_utf8_all text) ≡ true
key-there text valid =
    let P : List ℕ → Type 0 = λ t. is_valid_key t ≡ true in
    subst P (sym (encodes-IsAscii text (ascii-places text (FitsPlaces-key text valid)))) valid

key-back : (text : List ℕ) → all_scalars text ≡ true → is_valid_key (encode_utf8_all text) ≡ true
    → is_valid_key text ≡ true
key-back text scalars valid =
    let P : List ℕ → Type 0 = λ t. is_valid_key t ≡ true in
    let bytes = encode_utf8_all text in
    subst P (sym (chars-IsAscii bytes (ascii-places bytes (FitsPlaces-key bytes valid)))
    ∙ chars-encodes text scalars) valid

-- what the two tests say
pub valid-read : (text bytes : List ℕ) (read : Result (List ℕ) UuidError) → all_scalars text ≡ true
    → bytes ≡ encode_utf8_all text → length bytes ≡ 36
    → IsOk read ↔ ((u : List ℕ) × (parsed bytes ≡ Some u)) → is_ok read ≡ is_valid_key text
valid-read text bytes read scalars same size answers =
    let P : List ℕ → Type 0 = λ t. is_valid_key t ≡ true in
    same_from_decides (is_ok read) (is_valid_key text) answers (
      λ valid.
          let fits = FitsPlaces-key bytes (subst P (sym same) (key-there text valid)) in
          (by_index 16 (byte_of_digits (digits_of bytes)), parsed-hyphenated bytes size ∙ parsed-FitsPlaces bytes fits),
      λ found. key-back text scalars (subst P same
          (key-FitsPlaces bytes (FitsPlaces-parsed bytes found.0 size
          (sym (parsed-hyphenated bytes size) ∙ found.1)))),
    )

pub valid-other : (text bytes : List ℕ) → bytes ≡ encode_utf8_all text → (length bytes ≡ 36 → ⊥)
    → (length bytes == 36) ≡ is_valid_key text
valid-other text bytes same other =
    ne_eqb _ _ other ∙ sym (false_from_ne_true _
    (λ valid. other (ap length same ∙ (FitsPlaces-key _ (key-there text valid)).size)))
