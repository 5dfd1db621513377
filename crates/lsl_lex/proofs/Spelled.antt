-- A token's sort and length are decided by its bytes: how it begins, what its sort is, how far it goes.
use Rattle.std.proofs.Common.{◌≡◌, ℕ, ◌+◌, ◌<◌, ◌≤◌, ◌==◌, Bool, true, false, cond, not, ◌&&◌, ◌||◌, ◌⊎◌, inl, inr, List, [], ◌∷◌, ◌++◌, length, take, drop, Option, Some, None, unwrap_or, refl, sym, ap, ◌∙◌, arith, append_assoc, length-append}
use Rattle.std.proofs.lemmas.List.Sums.{list_all-from_AllPass}
use Rattle.std.proofs.Math.Seq.{take-append_seam}
use Rattle.std.specs.Prelude.{Contains, slice_index}
use Rattle.std.specs.List.{prefix_len, list_all}
use Rattle.std.specs.Str.{chars}
use Rattle.std.specs.Str.Parse.{digits_value}
use Rattle.lsl_text.specs.Number.{is_blank, wrapped, begins_hexadecimal}
use Rattle.lsl_lex.specs.Bytes.{is_letter, is_decimal, is_hexadecimal, is_name_byte}
use Rattle.lsl_lex.specs.Strings.{escapes_read}
use Rattle.lsl_lex.specs.Tokens.{words, pair_signs, single_signs, IsDigits, Spells, a_name, a_word, decimal, hexadecimal, a_string, a_pair_sign, a_single_sign}
use Rattle.lsl_lex.specs.Reading.{row_of, quote_of}
use Rattle.lsl_lex.specs.declared.token_types.Sort.{Sort}
use Rattle.lsl_lex.specs.declared.token_types.Sort.TheVariants.{Name, Int, Str, At}
use Rattle.lsl_lex.proofs.ByteKinds.{false_by, letter_range, decimal_range, no_blank, no_letter, eq_true}
use Rattle.lsl_lex.proofs.Rows.{row_from_contains, contains_from_row, row_from_row_of, row_of-row, key_passes}
use Rattle.lsl_lex.proofs.Runs.{and_both, prefix_len-most, head, quote_only}

abbrev pub lead : List ℕ → ℕ
lead text = slice_index text 0

-- ---- the tables

abbrev word_key : List ℕ → Bool
word_key u = is_letter (lead u) && list_all is_name_byte u

-- a byte that begins nothing but a sign, and isn't the point
abbrev pub is_sign_byte : ℕ → Bool
is_sign_byte b = not (is_blank b) && (not (is_letter b) && (not (is_decimal b) && (not (b == 34) && not (b == 46))))

abbrev pair_key : List ℕ → Bool
pair_key u = (length u == 2) && is_sign_byte (lead u)

abbrev single_key : List ℕ → Bool
single_key u = (length u == 1) && is_sign_byte (lead u)

pub word_passes : (u : List ℕ) (s : Sort) → Contains words (u, s) → (is_letter (lead u) ≡ true)
    × (list_all is_name_byte u ≡ true)
word_passes u s h = and_both (is_letter (lead u)) (list_all is_name_byte u)
    (key_passes word_key words u s refl (row_from_contains words u s h))

pub pair_passes : (u : List ℕ) (s : Sort) → Contains pair_signs (u, s) → (length u ≡ 2) × (is_sign_byte (lead u) ≡ true)
pair_passes u s h =
    let both = and_both (length u == 2) (is_sign_byte (lead u))
    (key_passes pair_key pair_signs u s refl (row_from_contains pair_signs u s h)) in
    (eq_true (length u) 2 both.0, both.1)

pub single_passes : (u : List ℕ) (s : Sort) → Contains single_signs (u, s) → (length u ≡ 1)
    × (is_sign_byte (lead u) ≡ true)
single_passes u s h =
    let both = and_both (length u == 1) (is_sign_byte (lead u))
    (key_passes single_key single_signs u s refl (row_from_contains single_signs u s h)) in
    (eq_true (length u) 1 both.0, both.1)

pub word_found : (u : List ℕ) (s : Sort) → Contains words (u, s) → row_of words u ≡ Some s
word_found u s h = row_of-row words u s refl (row_from_contains words u s h)

pub pair_found : (u : List ℕ) (s : Sort) → Contains pair_signs (u, s) → row_of pair_signs u ≡ Some s
pair_found u s h = row_of-row pair_signs u s refl (row_from_contains pair_signs u s h)

pub single_found : (u : List ℕ) (s : Sort) → Contains single_signs (u, s) → row_of single_signs u ≡ Some s
single_found u s h = row_of-row single_signs u s refl (row_from_contains single_signs u s h)

-- a spelling that no row has
pub row_missing : (rows : List (List ℕ × Sort)) (u : List ℕ) → ((s : Sort) → Contains rows (u, s) → ⊥)
    → row_of rows u ≡ None
row_missing rows u none = go (row_of rows u) refl
  where
    go : (o : Option Sort) → row_of rows u ≡ o → row_of rows u ≡ None
    go None e = e
    go (Some s) e = absurd (none s (contains_from_row rows u s (row_from_row_of rows u s e)))

-- ---- how a token begins

pub data Begins (b : ℕ) : Type 0 where
  with_letter : is_letter b ≡ true → Begins b
  with_digit : is_decimal b ≡ true → Begins b
  with_quote : b ≡ 34 → Begins b
  with_sign : is_sign_byte b ≡ true → Begins b

pub digits_lead : (u : List ℕ) → IsDigits is_decimal u → is_decimal (lead u) ≡ true
digits_lead [] h = absurd (let some = h.some in omega arith)
digits_lead (b ∷ u) h = (and_both (is_decimal b) (list_all is_decimal u)
    (list_all-from_AllPass is_decimal (b ∷ u) h.each)).0

pub begins : (u : List ℕ) (s : Sort) → Spells u s → Begins (lead u)
begins u s (a_name id none e) = with_letter id.first
begins u s (a_word h) = with_letter (word_passes u s h).0
begins u s (decimal d e) = with_digit (digits_lead u d)
begins u s (hexadecimal x digits f o d e) = with_digit (ap (λ l. is_decimal (lead l)) f)
begins u s (a_string body f h e) = with_quote (ap lead f)
begins u s (a_pair_sign h) = with_sign (pair_passes u s h).1
begins u s (a_single_sign h) = with_sign (single_passes u s h).1

-- and that it has a byte
pub not_empty : (u : List ℕ) (s : Sort) → Spells u s → 0 < length u
not_empty (b ∷ u) s h = omega arith
not_empty [] s (a_name id none e) = absurd (let f = id.first in cc)
not_empty [] s (a_word h) = absurd (let f = (word_passes [] s h).0 in cc)
not_empty [] s (decimal d e) = d.some
not_empty [] s (hexadecimal x digits f o d e) = absurd (cc)
not_empty [] s (a_string body f h e) = absurd (cc)
not_empty [] s (a_pair_sign h) = let f = (pair_passes [] s h).0 in omega (arith, f)
not_empty [] s (a_single_sign h) = let f = (single_passes [] s h).0 in omega (arith, f)

pub lead-append : (u w : List ℕ) → 0 < length u → lead (u ++ w) ≡ lead u
lead-append [] w h = absurd (omega arith)
lead-append (b ∷ u) w h = refl

pub begins_no_blank : (b : ℕ) → Begins b → is_blank b ≡ false
begins_no_blank b (with_letter e) = no_blank b (let r = letter_range b e in omega (arith, r.0))
begins_no_blank b (with_digit e) = no_blank b (let r = decimal_range b e in omega (arith, r.0))
begins_no_blank b (with_quote e) = no_blank b (omega (arith, e))
begins_no_blank b (with_sign e) = not_true (is_blank b)
    (and_both (not (is_blank b)) (not (is_letter b) && (not (is_decimal b) && (not (b == 34) && not (b == 46))))
    e).0
  where
    not_true : (t : Bool) → not t ≡ true → t ≡ false
    not_true true h = absurd (cc)
    not_true false h = refl

-- ---- a choice by the first byte

abbrev pub choose : {A : Type 0} → ℕ → A → A → A → A → A
choose b w x y z = cond (is_letter b) w (cond (is_decimal b) x (cond (b == 34) y z))

pub choose_letter : {A : Type 0} (b : ℕ) (w x y z : A) → is_letter b ≡ true → choose b w x y z ≡ w
choose_letter b w x y z e = ap (λ t. cond t w (cond (is_decimal b) x (cond (b == 34) y z))) e

pub digit_no_letter : (b : ℕ) → is_decimal b ≡ true → is_letter b ≡ false
digit_no_letter b e = no_letter b (let r = decimal_range b e in omega (arith, r.1))

pub choose_digit : {A : Type 0} (b : ℕ) (w x y z : A) → is_decimal b ≡ true → choose b w x y z ≡ x
choose_digit b w x y z e =
    ap (λ t. cond t w (cond (is_decimal b) x (cond (b == 34) y z))) (digit_no_letter b e)
    ∙ ap (λ t. cond t x (cond (b == 34) y z)) e

pub choose_quote : {A : Type 0} (b : ℕ) (w x y z : A) → b ≡ 34 → choose b w x y z ≡ y
choose_quote b w x y z e = ap (λ b. choose b w x y z) e

not_true : (t : Bool) → not t ≡ true → t ≡ false
not_true true h = absurd (cc)
not_true false h = refl

pub record Sign (b : ℕ) : Type 0 where
  pub blank : is_blank b ≡ false
  pub letter : is_letter b ≡ false
  pub digit : is_decimal b ≡ false
  pub quote : (b == 34) ≡ false
  pub point : (b == 46) ≡ false

pub sign_parts : (b : ℕ) → is_sign_byte b ≡ true → Sign b
sign_parts b e =
    let h1 = and_both (not (is_blank b)) (not
    (is_letter b) && (not (is_decimal b) && (not (b == 34) && not (b == 46)))) e in
    let h2 = and_both (not (is_letter b)) (not (is_decimal b) && (not (b == 34) && not (b == 46))) h1.1 in
    let h3 = and_both (not (is_decimal b)) (not (b == 34) && not (b == 46)) h2.1 in
    let h4 = and_both (not (b == 34)) (not (b == 46)) h3.1 in
    record {
      blank = not_true (is_blank b) h1.0;
      letter = not_true (is_letter b) h2.0;
      digit = not_true (is_decimal b) h3.0;
      quote = not_true (b == 34) h4.0;
      point = not_true (b == 46) h4.1;
    }

pub choose_sign : {A : Type 0} (b : ℕ) (w x y z : A) → Sign b → choose b w x y z ≡ z
choose_sign b w x y z s =
    ap (λ t. cond t w (cond (is_decimal b) x (cond (b == 34) y z))) s.letter
    ∙ ap (λ t. cond t x (cond (b == 34) y z)) s.digit
    ∙ ap (λ t. cond t y z) s.quote

-- ---- hexadecimal digits

abbrev pub Hexadecimal : List ℕ → Type 0
Hexadecimal text = (x : ℕ) × (d : ℕ) × (rest : List ℕ) × (text ≡ 48 ∷ x ∷ d ∷ rest) × ((x ≡ 120) ⊎ (x ≡ 88))
    × (is_hexadecimal d ≡ true)

or_either : (a b : Bool) → (a || b) ≡ true → (a ≡ true) ⊎ (b ≡ true)
or_either true b e = inl refl
or_either false b e = inr e

pub hexadecimal_parts : (text : List ℕ) → begins_hexadecimal text ≡ true → Hexadecimal text
hexadecimal_parts [] e = absurd (cc)
hexadecimal_parts (a ∷ []) e = absurd (cc)
hexadecimal_parts (a ∷ b ∷ []) e = absurd (cc)
hexadecimal_parts (a ∷ b ∷ c ∷ rest) e =
    let one = and_both (a == 48) ((b == 120 || b == 88) && is_hexadecimal c) e in
    let two = and_both (b == 120 || b == 88) (is_hexadecimal c) one.1 in
    (b, c, rest, ap (λ z. z ∷ b ∷ c ∷ rest) (eq_true a 48 one.0), which (or_either (b == 120) (b == 88) two.0), two.1)
  where
    which : ((b == 120) ≡ true) ⊎ ((b == 88) ≡ true) → (b ≡ 120) ⊎ (b ≡ 88)
    which (inl e) = inl (eq_true b 120 e)
    which (inr e) = inr (eq_true b 88 e)

pub hexadecimal_true : (x d : ℕ) (rest : List ℕ) → (x ≡ 120) ⊎ (x ≡ 88) → is_hexadecimal d ≡ true
    → begins_hexadecimal (48 ∷ x ∷ d ∷ rest) ≡ true
hexadecimal_true x d rest (inl e) h = ap (λ x. begins_hexadecimal (48 ∷ x ∷ d ∷ rest)) e ∙ h
hexadecimal_true x d rest (inr e) h = ap (λ x. begins_hexadecimal (48 ∷ x ∷ d ∷ rest)) e ∙ h

-- after a decimal digit, decimal digits begin no hexadecimal ones
pub second_digit : (a b : ℕ) (rest : List ℕ) → is_decimal b ≡ true → begins_hexadecimal (a ∷ b ∷ rest) ≡ false
second_digit a b rest d = false_by (begins_hexadecimal (a ∷ b ∷ rest)) (λ e. no (hexadecimal_parts (a ∷ b ∷ rest) e))
  where
    no : Hexadecimal (a ∷ b ∷ rest) → ⊥
    no (x, c, more, e, inl f, h) = let r = decimal_range b d in let s : b ≡ x = ap (λ l. head (drop 1 l)) e in
        omega (arith, r.1, s, f)
    no (x, c, more, e, inr f, h) = let r = decimal_range b d in let s : b ≡ x = ap (λ l. head (drop 1 l)) e in
        omega (arith, r.1, s, f)

-- ---- the sort

abbrev pub word_sort : List ℕ → Sort
word_sort u = unwrap_or (row_of words u) (Name u)

abbrev pub number_sort : List ℕ → Sort
number_sort u = cond (begins_hexadecimal u) (Int (wrapped (digits_value 16 (drop 2 u))))
    (Int (wrapped (digits_value 10 u)))

abbrev pub string_sort : List ℕ → Sort
string_sort u = elim (quote_of (drop 1 u)) [ None ↦ At | Some n ↦ Str (escapes_read (chars (take n (drop 1 u)))) ]

abbrev pub sign_sort : List ℕ → Sort
sign_sort u = unwrap_or (row_of pair_signs u) (unwrap_or (row_of single_signs u) At)

abbrev pub sort_of : List ℕ → Sort
sort_of u = choose (lead u) (word_sort u) (number_sort u) (string_sort u) (sign_sort u)

by_letter : (u : List ℕ) (s : Sort) → is_letter (lead u) ≡ true → s ≡ word_sort u → s ≡ sort_of u
by_letter u s l e = e ∙ sym (choose_letter (lead u) (word_sort u) (number_sort u) (string_sort u) (sign_sort u) l)

by_digit : (u : List ℕ) (s : Sort) → is_decimal (lead u) ≡ true → s ≡ number_sort u → s ≡ sort_of u
by_digit u s l e = e ∙ sym (choose_digit (lead u) (word_sort u) (number_sort u) (string_sort u) (sign_sort u) l)

by_quote : (u : List ℕ) (s : Sort) → lead u ≡ 34 → s ≡ string_sort u → s ≡ sort_of u
by_quote u s l e = e ∙ sym (choose_quote (lead u) (word_sort u) (number_sort u) (string_sort u) (sign_sort u) l)

by_sign : (u : List ℕ) (s : Sort) → is_sign_byte (lead u) ≡ true → s ≡ sign_sort u → s ≡ sort_of u
by_sign u s l e = e ∙ sym (choose_sign (lead u) (word_sort u) (number_sort u) (string_sort u) (sign_sort u)
    (sign_parts (lead u) l))

decimal_no_hexadecimal : (u : List ℕ) → IsDigits is_decimal u → begins_hexadecimal u ≡ false
decimal_no_hexadecimal [] d = refl
decimal_no_hexadecimal (a ∷ []) d = refl
decimal_no_hexadecimal (a ∷ b ∷ u) d =
    let all = and_both (is_decimal a) (list_all is_decimal (b ∷ u))
    (list_all-from_AllPass is_decimal (a ∷ b ∷ u) d.each) in
    second_digit a b u (and_both (is_decimal b) (list_all is_decimal u) all.1).0

digits_parts : (digits : List ℕ) → IsDigits is_hexadecimal digits → (d : ℕ) × (more : List ℕ)
    × (digits ≡ d ∷ more) × (is_hexadecimal d ≡ true)
digits_parts [] h = absurd (let some = h.some in omega arith)
digits_parts (d ∷ more) h = (
  d,
  more,
  refl,
  (and_both (is_hexadecimal d) (list_all is_hexadecimal more)
      (list_all-from_AllPass is_hexadecimal (d ∷ more) h.each)).0,
)

hexadecimal_begins : (x : ℕ) (digits w : List ℕ) → (x ≡ 120) ⊎ (x ≡ 88) → IsDigits is_hexadecimal digits
    → begins_hexadecimal (48 ∷ x ∷ (digits ++ w)) ≡ true
hexadecimal_begins x digits w o h =
    let (d, more, e, f) = digits_parts digits h in
    ap (λ l. begins_hexadecimal (48 ∷ x ∷ (l ++ w))) e ∙ hexadecimal_true x d (more ++ w) o f

append_nil : (l : List ℕ) → l ++ [] ≡ l
append_nil [] = refl
append_nil (b ∷ l) = ap (λ m. b ∷ m) (append_nil l)

pub sort_decided : (u : List ℕ) (s : Sort) → Spells u s → s ≡ sort_of u
sort_decided u s (a_name id none e) = by_letter u s id.first
    (e ∙ sym (ap (λ o. unwrap_or o (Name u)) (row_missing words u none)))
sort_decided u s (a_word h) = by_letter u s (word_passes u s h).0
    (sym (ap (λ o. unwrap_or o (Name u)) (word_found u s h)))
sort_decided u s (decimal d e) = by_digit u s (digits_lead u d)
    (e ∙ sym (ap (λ t. cond t (Int (wrapped (digits_value 16 (drop 2 u)))) (Int (wrapped (digits_value 10 u))))
    (decimal_no_hexadecimal u d)))
sort_decided u s (hexadecimal x digits f o d e) =
    let hex : begins_hexadecimal u ≡ true =
    ap begins_hexadecimal f ∙ ap (λ l. begins_hexadecimal (48 ∷ x ∷ l)) (sym (append_nil digits))
    ∙ hexadecimal_begins x digits [] o d in
    by_digit u s (ap (λ l. is_decimal (lead l)) f)
    (e ∙ ap (λ l. Int (wrapped (digits_value 16 l))) (sym (ap (drop 2) f))
    ∙ sym (ap (λ t. cond t (Int (wrapped (digits_value 16 (drop 2 u)))) (Int (wrapped (digits_value 10 u))))
    hex))
sort_decided u s (a_string body f h e) =
    let rest : drop 1 u ≡ body ++ 34 ∷ [] = ap (drop 1) f in
    let found : quote_of (drop 1 u) ≡ Some (length body) = ap quote_of rest ∙ quote_only body [] h in
    let same : take (length body) (drop 1 u) ≡ body = ap (take (length body)) rest ∙ take-append_seam body (34 ∷ []) in
    by_quote u s (ap lead f)
    (e ∙ ap (λ l. Str (escapes_read (chars l))) (sym same)
    ∙ sym (ap (λ (o : Option ℕ). elim o as (λ _. Sort)
    [ None ↦ At | Some n ↦ Str (escapes_read (chars (take n (drop 1 u)))) ]) found))
sort_decided u s (a_pair_sign h) = by_sign u s (pair_passes u s h).1
    (sym (ap (λ o. unwrap_or o (unwrap_or (row_of single_signs u) At)) (pair_found u s h)))
sort_decided u s (a_single_sign h) =
    let none : row_of pair_signs u ≡ None =
    row_missing pair_signs u (λ t g. let two = (pair_passes u t g).0 in let one = (single_passes u s h).0 in
    omega (arith, two, one)) in
    by_sign u s (single_passes u s h).1
    (sym (ap (λ o. unwrap_or o (unwrap_or (row_of single_signs u) At)) none
    ∙ ap (λ o. unwrap_or o At) (single_found u s h)))

-- ---- how far a token at the front of a text goes at most

abbrev pub number_reach : List ℕ → ℕ
number_reach text = cond (begins_hexadecimal text) (prefix_len is_hexadecimal (drop 2 text) + 2)
    (prefix_len is_decimal text)

abbrev pub string_reach : List ℕ → ℕ
string_reach text = elim (quote_of (drop 1 text)) [ None ↦ 0 | Some n ↦ n + 2 ]

abbrev pub sign_reach : List ℕ → ℕ
sign_reach text = elim (row_of pair_signs (take 2 text)) [ None ↦ 1 | Some pair ↦ 2 ]

abbrev pub reach : List ℕ → ℕ
reach text = choose (lead text) (prefix_len is_name_byte text) (number_reach text) (string_reach text) (sign_reach text)

le_along : (a b c : ℕ) → a ≤ b → c ≡ b → a ≤ c
le_along a b c h e = omega (arith, h, e)

reach_letter : (u w : List ℕ) (n : ℕ) → 0 < length u → is_letter (lead u) ≡ true
    → n ≤ prefix_len is_name_byte (u ++ w) → n ≤ reach (u ++ w)
reach_letter u w n some l h =
    let text = u ++ w in
    le_along n (prefix_len is_name_byte text) (reach text) h
    (choose_letter (lead text) (prefix_len is_name_byte text) (number_reach text) (string_reach text)
    (sign_reach text) (ap is_letter (lead-append u w some) ∙ l))

reach_digit : (u w : List ℕ) (n : ℕ) → 0 < length u → is_decimal (lead u) ≡ true → n ≤ number_reach (u ++ w)
    → n ≤ reach (u ++ w)
reach_digit u w n some l h =
    let text = u ++ w in
    le_along n (number_reach text) (reach text) h
    (choose_digit (lead text) (prefix_len is_name_byte text) (number_reach text) (string_reach text)
    (sign_reach text) (ap is_decimal (lead-append u w some) ∙ l))

reach_quote : (u w : List ℕ) (n : ℕ) → 0 < length u → lead u ≡ 34 → n ≤ string_reach (u ++ w) → n ≤ reach (u ++ w)
reach_quote u w n some l h =
    let text = u ++ w in
    le_along n (string_reach text) (reach text) h
    (choose_quote (lead text) (prefix_len is_name_byte text) (number_reach text) (string_reach text)
    (sign_reach text) (lead-append u w some ∙ l))

reach_sign : (u w : List ℕ) (n : ℕ) → 0 < length u → is_sign_byte (lead u) ≡ true → n ≤ sign_reach (u ++ w)
    → n ≤ reach (u ++ w)
reach_sign u w n some l h =
    let text = u ++ w in
    le_along n (sign_reach text) (reach text) h
    (choose_sign (lead text) (prefix_len is_name_byte text) (number_reach text) (string_reach text)
    (sign_reach text) (sign_parts (lead text) (ap is_sign_byte (lead-append u w some) ∙ l)))

sign_reach_low : (text : List ℕ) → 1 ≤ sign_reach text
sign_reach_low text = go (row_of pair_signs (take 2 text))
  where
    go : (o : Option Sort) → 1 ≤ elim o as (λ _. ℕ) [ None ↦ 1 | Some pair ↦ 2 ]
    go None = omega arith
    go (Some s) = omega arith

sign_reach_pair : (text : List ℕ) (s : Sort) → row_of pair_signs (take 2 text) ≡ Some s → sign_reach text ≡ 2
sign_reach_pair text s e = ap (λ (o : Option Sort). elim o as (λ _. ℕ) [ None ↦ 1 | Some pair ↦ 2 ]) e

string_reach_some : (text : List ℕ) (n : ℕ) → quote_of (drop 1 text) ≡ Some n → string_reach text ≡ n + 2
string_reach_some text n e = ap (λ (o : Option ℕ). elim o as (λ _. ℕ) [ None ↦ 0 | Some n ↦ n + 2 ]) e

decimal_reach : (u w : List ℕ) → IsDigits is_decimal u → length u ≤ number_reach (u ++ w)
decimal_reach u w d = go u (list_all-from_AllPass is_decimal u d.each) (begins_hexadecimal (u ++ w)) refl
  where
    go : (u : List ℕ) → list_all is_decimal u ≡ true → (t : Bool) → begins_hexadecimal (u ++ w) ≡ t
        → length u ≤ cond t (prefix_len is_hexadecimal (drop 2 (u ++ w)) + 2) (prefix_len is_decimal (u ++ w))
    go u all false e = prefix_len-most is_decimal u w all
    go [] all true e = omega arith
    go (a ∷ []) all true e = omega arith
    go (a ∷ b ∷ u) all true e =
        let more = and_both (is_decimal a) (list_all is_decimal (b ∷ u)) all in
        let digit = (and_both (is_decimal b) (list_all is_decimal u) more.1).0 in
        absurd (let no = second_digit a b (u ++ w) digit in let both = sym e ∙ no in cc)

take_two : (u w : List ℕ) → length u ≡ 2 → take 2 (u ++ w) ≡ u
take_two u w e = ap (λ n. take n (u ++ w)) (sym e) ∙ take-append_seam u w

-- no token at the front of a text is longer
pub within_reach : (u w : List ℕ) (s : Sort) → Spells u s → length u ≤ reach (u ++ w)
within_reach u w s (a_name id none e) = reach_letter u w (length u) (not_empty u s (a_name id none e)) id.first
    (prefix_len-most is_name_byte u w (list_all-from_AllPass is_name_byte u id.each))
within_reach u w s (a_word h) = reach_letter u w (length u) (not_empty u s (a_word h)) (word_passes u s h).0
    (prefix_len-most is_name_byte u w (word_passes u s h).1)
within_reach u w s (decimal d e) = reach_digit u w (length u) d.some (digits_lead u d) (decimal_reach u w d)
within_reach u w s (hexadecimal x digits f o d e) =
    reach_digit u w (length u) (not_empty u s (hexadecimal x digits f o d e)) (ap (λ l. is_decimal (lead l)) f)
    far
  where
    far : length u ≤ number_reach (u ++ w)
    far =
        let hex : begins_hexadecimal (u ++ w) ≡ true =
        ap (λ l. begins_hexadecimal (l ++ w)) f ∙ hexadecimal_begins x digits w o d in
        let most = prefix_len-most is_hexadecimal digits w (list_all-from_AllPass is_hexadecimal digits d.each) in
        let rest : drop 2 (u ++ w) ≡ digits ++ w = ap (λ l. drop 2 (l ++ w)) f in
        le_along (length u) (prefix_len is_hexadecimal (drop 2 (u ++ w)) + 2) (number_reach (u ++ w))
        (omega (arith, most, ap (prefix_len is_hexadecimal) rest, ap length f))
        (ap (λ t. cond t (prefix_len is_hexadecimal (drop 2 (u ++ w)) + 2) (prefix_len is_decimal (u ++ w)))
        hex)
within_reach u w s (a_string body f h e) =
    reach_quote u w (length u) (not_empty u s (a_string body f h e)) (ap lead f) far
  where
    far : length u ≤ string_reach (u ++ w)
    far =
        let rest : drop 1 (u ++ w) ≡ body ++ 34 ∷ w = ap (λ l. drop 1 (l ++ w)) f ∙ append_assoc body (34 ∷ []) w in
        let found : quote_of (drop 1 (u ++ w)) ≡ Some (length body) = ap quote_of rest ∙ quote_only body w h in
        omega (arith, string_reach_some (u ++ w) (length body) found, ap length f, length-append body (34 ∷ []))
within_reach u w s (a_pair_sign h) = reach_sign u w (length u) (not_empty u s (a_pair_sign h)) (pair_passes u s h).1 far
  where
    far : length u ≤ sign_reach (u ++ w)
    far =
        let two = (pair_passes u s h).0 in
        let found : row_of pair_signs (take 2 (u ++ w)) ≡ Some s =
        ap (row_of pair_signs) (take_two u w two) ∙ pair_found u s h in
        omega (arith, sign_reach_pair (u ++ w) s found, two)
within_reach u w s (a_single_sign h) = reach_sign u w (length u) (not_empty u s (a_single_sign h))
    (single_passes u s h).1 (let one = (single_passes u s h).0 in let low = sign_reach_low (u ++ w) in
    omega (arith, one, low))
