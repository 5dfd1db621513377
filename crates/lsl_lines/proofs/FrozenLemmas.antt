-- Digits in lower case, and the last line of a text.
use Rattle.std.proofs.Common.{◌≡◌, ℕ, zero, suc, ◌+◌, ◌-◌, ◌*◌, ◌/◌, ◌%◌, ◌<◌, ◌==◌, Bool, true, false, not, ◌&&◌, ◌||◌, ◌⊎◌, inl, inr, List, [], ◌∷◌, length, drop, slice_index, Option, Some, None, Result, Ok, Err, refl, sym, ap, ◌∙◌, arith}
use Rattle.std.specs.Prelude.{◌++◌, codes, IfErr, MatchResult}
use Rattle.std.proofs.lemmas.Bool.{and_parts, cases_lt, eqb-true}
use Rattle.std.proofs.lemmas.List.Elements.{All-cons, All-nil}
use Rattle.std.proofs.lemmas.List.Sums.{suffix_len_is}
use Rattle.std.specs.Char.{is_ascii_uppercase}
use Rattle.std.specs.List.{AllPass, after_last, list_all, list_any, suffix_len}
use Rattle.std.specs.Result.{result_unwrap_or}
use Rattle.memchr.specs.Find.{IsLastByte, is_byte}
use Rattle.hex.proofs.HexLemmas.{decode_of-digits, decode_of-even, decode_of-ok}
use Rattle.hex.specs.Hex.{is_hex_digit, decode_of, decode_pairs, digit_or_error, encode_lower, encode_with, hex_digit_value, lower_digits, pair_value, value_at, ◌>>=◌}
use Rattle.hex.specs.declared.error.FromHexError.{FromHexError}
use Rattle.hex.specs.declared.error.FromHexError.TheVariants.{OutOfMemory}
use Rattle.lsl_text.specs.declared.Refusal.{Refusal}
use Rattle.lsl_text.specs.declared.Refusal.TheVariants.{Fault, NoMemory}
use Rattle.lsl_image.specs.declared.faults.ImageFault.{ImageFault}
use Rattle.lsl_image.specs.declared.faults.ImageFault.TheVariants.{NotFrozen}
use Rattle.lsl_lines.specs.Frozen.{HasFrozenLine, IsFrozen, IsNotFrozen, is_lower_digit}
use Rattle.lsl_text.specs.Place.{is_line_feed}

abbrev pub upper : List ℕ → Bool
upper digits = list_any is_ascii_uppercase digits

-- ---- digits that are read

neither : (a b : Bool) → (a || b) ≡ false → (a ≡ false) × (b ≡ false)
neither false b e = (refl, e)
neither true b e = absurd (cc)

-- a digit in lower case is the one of its value
abbrev reads : ℕ → Option ℕ → Bool
reads c None = true
reads c (Some v) = is_ascii_uppercase c || slice_index lower_digits v == c

abbrev all_read : ℕ → Bool
all_read zero = true
all_read (suc n) = reads n (hex_digit_value n) && all_read n

all_read-at : (n c : ℕ) → all_read n ≡ true → c < n → reads c (hex_digit_value c) ≡ true
all_read-at zero c h lt = absurd (omega arith)
all_read-at (suc n) c h lt =
    let parts = and_parts (reads n (hex_digit_value n)) (all_read n) h in
    elim (cases_lt c n) [
      | inl below ↦ all_read-at n c parts.1 below
      | inr top ↦ let e : c ≡ n = omega arith in rw e parts.0
    ]

digit-small : (c v : ℕ) → hex_digit_value c ≡ Some v → c < 103
digit-small c v h = grind arith

lower_digit : (c v : ℕ) → hex_digit_value c ≡ Some v → is_ascii_uppercase c ≡ false → slice_index lower_digits v ≡ c
lower_digit c v h low =
    let read = sym (ap (reads c) h) ∙ all_read-at 103 c refl (digit-small c v h) in
    eqb-true (slice_index lower_digits v) c (sym (ap (λ u. u || slice_index lower_digits v == c) low) ∙ read)

bind_ok : {A B : Type 0} (r : Result A FromHexError) (f : A → Result B FromHexError) (y : B)
    → (r >>= f) ≡ Ok y → (x : A) × (r ≡ Ok x) × (f x ≡ Ok y)
bind_ok (Ok x) f y h = (x, refl, h)
bind_ok (Err e) f y h = absurd (cc)

digit_read : (c i : ℕ) (o : Option ℕ) (v : ℕ) → digit_or_error c i o ≡ Ok v → o ≡ Some v
digit_read c i (Some w) v h = ap Some (ap (λ r. result_unwrap_or r 0) h)
digit_read c i None v h = absurd (cc)

small_digit : (c v : ℕ) → hex_digit_value c ≡ Some v → v < 16
small_digit c v h = grind arith

-- what was read from digits in lower case gives them again
encoded : (i : ℕ) (s bytes : List ℕ) → decode_pairs i s ≡ Ok bytes → upper s ≡ false → encode_lower bytes ≡ s
unfolding decode_pairs encode_with
encoded i [] bytes h low = let e : [] ≡ bytes = ap (λ r. result_unwrap_or r []) h in ap encode_lower (sym e)
encoded i (a ∷ []) bytes h low = absurd (cc)
encoded i (a ∷ b ∷ rest) bytes h low =
    let p0 = bind_ok (pair_value a b i) _ bytes h in
    let p1 = bind_ok (value_at a i) _ p0.0 p0.1 in
    let p2 = bind_ok (value_at b (i + 1)) _ p0.0 p1.2 in
    let p3 = bind_ok (decode_pairs (i + 2) rest) _ bytes p0.2 in
    let l0 = neither (is_ascii_uppercase a) (upper (b ∷ rest)) low in
    let l1 = neither (is_ascii_uppercase b) (upper rest) l0.1 in
    let ih = encoded (i + 2) rest p3.0 p3.1 l1.1 in
    let e : p0.0 ∷ p3.0 ≡ bytes = ap (λ r. result_unwrap_or r []) p3.2 in
    let va = digit_read a i (hex_digit_value a) p1.0 p1.1 in
    let vb = digit_read b (i + 1) (hex_digit_value b) p2.0 p2.1 in
    let byte : p1.0 * 16 + p2.0 ≡ p0.0 = ap (λ r. result_unwrap_or r 0) p2.2 in
    let high : p0.0 / 16 ≡ p1.0 = omega (arith, byte, small_digit b p2.0 vb) in
    let down : p0.0 % 16 ≡ p2.0 = omega (arith, byte, small_digit b p2.0 vb) in
    let first : slice_index lower_digits (p0.0 / 16) ≡ a =
    ap (slice_index lower_digits) high ∙ lower_digit a p1.0 va l0.0 in
    let second : slice_index lower_digits (p0.0 % 16) ≡ b =
    ap (slice_index lower_digits) down ∙ lower_digit b p2.0 vb l1.0 in
    ap encode_lower (sym e)
    ∙ ap (λ c. c ∷ slice_index lower_digits (p0.0 % 16) ∷ encode_lower p3.0) first
    ∙ ap (λ c. a ∷ c ∷ encode_lower p3.0) second
    ∙ ap (λ l. a ∷ b ∷ l) ih

pub decoded : (s bytes : List ℕ) → decode_of s ≡ Ok bytes → upper s ≡ false → encode_lower bytes ≡ s
decoded s bytes h low = encoded 0 s bytes (sym (decode_of-even s (decode_of-ok s bytes h).0) ∙ h) low

-- ---- digits that are written

lower_table : (k : ℕ) → is_ascii_uppercase (slice_index lower_digits k) ≡ false
lower_table k = table lower_digits refl k
  where
    table : (t : List ℕ) → upper t ≡ false → (k : ℕ) → is_ascii_uppercase (slice_index t k) ≡ false
    table [] e k = refl
    table (c ∷ t) e zero = (neither (is_ascii_uppercase c) (upper t) e).0
    table (c ∷ t) e (suc k) = table t (neither (is_ascii_uppercase c) (upper t) e).1 k

pub encode_lower-lower : (bytes : List ℕ) → upper (encode_lower bytes) ≡ false
unfolding encode_with
encode_lower-lower [] = refl
encode_lower-lower (b ∷ bytes) =
    ap (λ u. u || (is_ascii_uppercase (slice_index lower_digits (b % 16)) || upper (encode_lower bytes)))
    (lower_table (b / 16))
    ∙ ap (λ u. u || upper (encode_lower bytes)) (lower_table (b % 16))
    ∙ encode_lower-lower bytes

-- ---- refusals

-- digits of bytes are refused only when out of memory
pub wants_memory : (s bytes : List ℕ) (fault : FromHexError) → (fault ≡ OutOfMemory) ⊎ (decode_of s ≡ Err fault)
    → decode_of s ≡ Ok bytes → fault ≡ OutOfMemory
wants_memory s bytes fault (inl e) h = e
wants_memory s bytes fault (inr e) h = absurd (cc (e, h))

-- digits that aren't letters in upper case are bytes in hexadecimal
lower_is_digit : (c : ℕ) → is_lower_digit c ≡ true → (is_hex_digit c ≡ true) × (is_ascii_uppercase c ≡ false)
lower_is_digit c h = (grind arith, grind arith)

lower_digits_are : (s : List ℕ) → list_all is_lower_digit s ≡ true → AllPass is_hex_digit s × (upper s ≡ false)
lower_digits_are [] h = (All-nil (λ c. is_hex_digit c ≡ true), refl)
lower_digits_are (c ∷ s) h =
    let parts = and_parts (is_lower_digit c) (list_all is_lower_digit s) h in
    let first = lower_is_digit c parts.0 in
    let rest = lower_digits_are s parts.1 in
    (All-cons (λ c. is_hex_digit c ≡ true) c s first.0 rest.0, ap (λ u. u || upper s) first.1 ∙ rest.1)

pub frozen_line_is : (text : List ℕ) → HasFrozenLine text → (bytes : List ℕ) × IsFrozen text bytes
frozen_line_is text h =
    let tests = lower_digits_are h.digits h.lower in
    let read = decode_of-digits h.digits h.even tests.0 in
    let same = decoded h.digits read.0 read.1 tests.1 in
    let fits = (decode_of-ok h.digits read.0 read.1).3 in
    (read.0, record { short = h.short; line = h.line ∙ ap (λ d. codes "frozen " ++ d) (sym same); fits = fits })

-- what would give a value if it had any is refused when out of memory, or has none
pub refused_of : {V H : Type 0} (P : List ℕ → V → Type 0) (r : Result V (Refusal ImageFault)) (E : List ℕ → Type 0)
    → ((bytes : List ℕ) → E bytes → MatchResult r (P bytes) (λ refusal. refusal ≡ NoMemory))
    → (H → (bytes : List ℕ) × E bytes) → IfErr r IsNotFrozen
    → IfErr r (λ refusal. (refusal ≡ NoMemory) ⊎ ((refusal ≡ Fault NotFrozen) × (¬ H)))
refused_of P (Ok v) E h has kind = tt
refused_of P (Err NoMemory) E h has kind = inl refl
refused_of P (Err (Fault fault)) E h has (inl e) = absurd (cc e)
refused_of P (Err (Fault fault)) E h has (inr e) =
    inr (e, λ holds. let found = has holds in absurd (cc (h found.0 found.1)))

-- ---- what follows the last line feed

no_feed : (b : ℕ) → (((b == 10) ≡ true) → ⊥) → not (is_line_feed b) ≡ true
no_feed b h = go (b == 10) refl
  where
    go : (t : Bool) → (b == 10) ≡ t → not t ≡ true
    go true e = absurd (h e)
    go false e = refl

pub behind_none : (text : List ℕ) → IsLastByte (is_byte 10) text None → after_last is_line_feed text ≡ text
behind_none text h =
    let size : suffix_len (λ b. not (is_line_feed b)) text ≡ length text - 0 =
    suffix_len_is (λ b. not (is_line_feed b)) text 0 0 (omega arith)
    (λ k low within. no_feed (slice_index text k) (h k low within)) (λ some. absurd (omega (arith, some)))
    in
    let whole : length text - suffix_len (λ b. not (is_line_feed b)) text ≡ 0 = omega (arith, size) in
    ap (λ n. drop n text) whole

pub behind_some : (text : List ℕ) (k : ℕ) → IsLastByte (is_byte 10) text (Some k)
    → after_last is_line_feed text ≡ drop (k + 1) text
behind_some text k h =
    let size : suffix_len (λ b. not (is_line_feed b)) text ≡ length text - (k + 1) =
    suffix_len_is (λ b. not (is_line_feed b)) text (k + 1) 0 (omega (arith, h.0.high))
    (λ j low within. no_feed (slice_index text j) (h.0.after j low within)) (λ some. stops) in
    let next : length text - suffix_len (λ b. not (is_line_feed b)) text ≡ k + 1 = omega (arith, size, h.0.high) in
    ap (λ n. drop n text) next
  where
    stops : not (is_line_feed (slice_index text (k + 1 - 1))) ≡ false
    stops = let same : k + 1 - 1 ≡ k = omega arith in
        ap (λ j. not (is_line_feed (slice_index text j))) same ∙ ap not h.1
