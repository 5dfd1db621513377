-- A text has one frozen world, and a line that was written after whole lines gives its bytes.
use Rattle.std.proofs.Common.{◌≡◌, ℕ, zero, suc, ◌+◌, ◌-◌, ◌/◌, ◌%◌, ◌<◌, ◌≤◌, ◌==◌, Bool, true, false, not, ◌&&◌, ◌⊎◌, List, [], ◌∷◌, ◌++◌, length, take, drop, get_or, slice_index, Result, Ok, Err, inl, inr, refl, sym, ap, ◌∙◌, arith, append_assoc, length-append}
use Rattle.std.specs.Prelude.{codes, nat_lt, if◌then◌else◌}
use Rattle.std.specs.Io.BufRead.{ends_with_byte, strip_last}
use Rattle.std.specs.List.{after_last, list_all, suffix_len}
use Rattle.std.proofs.lemmas.Bool.{and_parts, lt-ltb}
use Rattle.std.proofs.lemmas.List.{append_cancel_left}
use Rattle.std.proofs.lemmas.List.Sums.{suffix_len_is}
use Rattle.hex.specs.Hex.{IsBytes, decode_of, encode_lower, encode_with, lower_digits}
use Rattle.hex.specs.declared.error.FromHexError.{FromHexError}
use Rattle.hex.proofs.HexLemmas.{decode_of-encode_lower, length-encode_with}
use Rattle.lsl_text.specs.Place.{is_line_feed}
use Rattle.lsl_lines.specs.Frozen.{HasFrozenLine, IsFrozen, frozen_line, frozen_text, is_lower_digit}

hex-one : (a b : List ℕ) → IsBytes a → IsBytes b → encode_lower a ≡ encode_lower b → a ≡ b
hex-one a b fits others e =
    ap value (sym (decode_of-encode_lower a fits) ∙ ap decode_of e ∙ decode_of-encode_lower b others)
  where
    value : Result (List ℕ) FromHexError → List ℕ
    value (Ok x) = x
    value (Err f) = a

pub frozen-one : (text a b : List ℕ) → IsFrozen text a → IsFrozen text b → a ≡ b
frozen-one text a b h k =
    hex-one a b h.fits k.fits
    (append_cancel_left (codes "frozen ") (encode_lower a) (encode_lower b) (sym h.line ∙ k.line))

-- each digit of the table is one in lower case
low-at : (t : List ℕ) (k : ℕ) → list_all is_lower_digit t ≡ true → k < length t
    → is_lower_digit (slice_index t k) ≡ true
low-at [] k all lt = absurd (omega arith)
low-at (c ∷ t) zero all lt = (and_parts (is_lower_digit c) (list_all is_lower_digit t) all).0
low-at (c ∷ t) (suc k) all lt =
    low-at t k (and_parts (is_lower_digit c) (list_all is_lower_digit t) all).1 (omega arith)

low-digit : (k : ℕ) → k < 16 → is_lower_digit (slice_index lower_digits k) ≡ true
low-digit k lt = low-at lower_digits k refl lt

both-true : (a b c : Bool) → a ≡ true → b ≡ true → c ≡ true → (a && (b && c)) ≡ true
both-true true true true e f g = refl
both-true false b c e f g = absurd cc
both-true true false c e f g = absurd cc
both-true true true false e f g = absurd cc

low-digits : (bytes : List ℕ) → IsBytes bytes → list_all is_lower_digit (encode_lower bytes) ≡ true
unfolding encode_with
low-digits [] fits = refl
low-digits (b ∷ bytes) fits =
    let small : b < 256 = fits 0 in
    both-true (is_lower_digit (slice_index lower_digits (b / 16))) (is_lower_digit (slice_index lower_digits (b % 16)))
    (list_all is_lower_digit (encode_lower bytes)) (low-digit (b / 16) (omega arith)) (low-digit (b % 16) (omega arith))
    (low-digits bytes (λ i. fits (suc i)))

pub has-line : (text bytes : List ℕ) → IsFrozen text bytes → HasFrozenLine text
has-line text bytes h = record {
  short = h.short;
  digits = encode_lower bytes;
  line = h.line;
  even = omega (arith, length-encode_with lower_digits bytes);
  lower = low-digits bytes h.fits;
}

-- ---- the last line of whole lines and one more

-- the lines end with a line feed, or there are none
abbrev pub AreLines : List ℕ → Type 0
AreLines lines = (lines ≡ []) ⊎ ((front : List ℕ) × (lines ≡ front ++ 10 ∷ []))

-- no line feed is among these
abbrev pub NoFeed : List ℕ → Type 0
NoFeed line = list_all (λ c. not (is_line_feed c)) line ≡ true

last-at : (xs : List ℕ) (x : ℕ) → slice_index (xs ++ x ∷ []) (length xs) ≡ x
last-at [] x = refl
last-at (y ∷ xs) x = last-at xs x

take-front : (xs : List ℕ) (x : ℕ) → take (length xs) (xs ++ x ∷ []) ≡ xs
take-front [] x = refl
take-front (y ∷ xs) x = ap (λ zs. y ∷ zs) (take-front xs x)

and-true : (a b : Bool) → a ≡ true → b ≡ true → (a && b) ≡ true
and-true true true e f = refl
and-true false b e f = absurd cc
and-true true false e f = absurd cc

stripped : (xs : List ℕ) → strip_last 10 (xs ++ 10 ∷ []) ≡ xs
stripped xs =
    let ys = xs ++ 10 ∷ [] in
    let count : length ys ≡ length xs + 1 = length-append xs (10 ∷ []) in
    let front : length ys - 1 ≡ length xs = omega (arith, count) in
    let some : nat_lt 0 (length ys) ≡ true = lt-ltb 0 (length ys) (omega (arith, count)) in
    let feed : (slice_index ys (length ys - 1) == 10) ≡ true =
    ap (λ (n : ℕ). slice_index ys n == 10) front ∙ ap (λ (c : ℕ). c == 10) (last-at xs 10) in
    let ends : ends_with_byte 10 ys ≡ true =
    and-true (nat_lt 0 (length ys)) (slice_index ys (length ys - 1) == 10) some feed in
    ap (λ (b : Bool). if b then take (length ys - 1) ys else ys) ends
    ∙ ap (λ (n : ℕ). take n ys) front ∙ take-front xs 10

all-at : (p : ℕ → Bool) (xs : List ℕ) (k : ℕ) → list_all p xs ≡ true → k < length xs → p (get_or xs k 0) ≡ true
all-at p [] k all lt = absurd (omega arith)
all-at p (x ∷ xs) zero all lt = (and_parts (p x) (list_all p xs) all).0
all-at p (x ∷ xs) (suc k) all lt = all-at p xs k (and_parts (p x) (list_all p xs) all).1 (omega arith)

get-behind : (xs ys : List ℕ) (k : ℕ) → length xs ≤ k → get_or (xs ++ ys) k 0 ≡ get_or ys (k - length xs) 0
get-behind [] ys k le = let e : k ≡ k - 0 = omega arith in ap (λ (n : ℕ). get_or ys n 0) e
get-behind (x ∷ xs) ys zero le = absurd (omega arith)
get-behind (x ∷ xs) ys (suc k) le =
    let e : k - length xs ≡ suc k - suc (length xs) = omega arith in
    get-behind xs ys k (omega arith) ∙ ap (λ (n : ℕ). get_or ys n 0) e

get-last : (xs ys : List ℕ) (x : ℕ) → get_or ((xs ++ x ∷ []) ++ ys) (length xs) 0 ≡ x
get-last [] ys x = refl
get-last (y ∷ xs) ys x = get-last xs ys x

drop-front : (xs ys : List ℕ) → drop (length xs) (xs ++ ys) ≡ ys
drop-front [] ys = refl
drop-front (x ∷ xs) ys = drop-front xs ys

module _ (lines line : List ℕ) (clean : NoFeed line) where
  behind-at : (k : ℕ) → length lines ≤ k → k < length (lines ++ line)
      → not (is_line_feed (get_or (lines ++ line) k 0)) ≡ true
  behind-at k low within =
      let inside : k - length lines < length line = omega (arith, low, within, length-append lines line) in
      ap (λ (c : ℕ). not (is_line_feed c)) (get-behind lines line k low)
      ∙ all-at (λ c. not (is_line_feed c)) line (k - length lines) clean inside

  behind-lines : AreLines lines → after_last is_line_feed (lines ++ line) ≡ line
  behind-lines are =
      let size : suffix_len (λ c. not (is_line_feed c)) (lines ++ line) ≡ length (lines ++ line) - length lines =
      suffix_len_is (λ c. not (is_line_feed c)) (lines ++ line) (length lines) 0
      (omega (arith, length-append lines line)) behind-at (stops lines are) in
      let at : length (lines ++ line) - suffix_len (λ c. not (is_line_feed c)) (lines ++ line) ≡ length lines =
      omega (arith, size, length-append lines line) in
      ap (λ (n : ℕ). drop n (lines ++ line)) at ∙ drop-front lines line
    where
      stops : (ls : List ℕ) → AreLines ls → 0 < length ls
          → not (is_line_feed (get_or (ls ++ line) (length ls - 1) 0)) ≡ false
      stops ls (inl e) some = absurd (omega (arith, some, ap length e))
      stops ls (inr (front, e)) some =
          let last : length ls - 1 ≡ length front = omega (arith, ap length e, length-append front (10 ∷ [])) in
          ap (λ (n : ℕ). not (is_line_feed (get_or (ls ++ line) n 0))) last
          ∙ ap (λ (z : List ℕ). not (is_line_feed (get_or (z ++ line) (length front) 0))) e
          ∙ ap (λ (c : ℕ). not (is_line_feed c)) (get-last front line 10)

-- no digit is a line feed
digit-clean : (c : ℕ) → is_lower_digit c ≡ true → not (is_line_feed c) ≡ true
digit-clean c h = grind arith

digits-clean : (cs : List ℕ) → list_all is_lower_digit cs ≡ true → NoFeed cs
digits-clean [] h = refl
digits-clean (c ∷ cs) h =
    let (first, rest) = and_parts (is_lower_digit c) (list_all is_lower_digit cs) h in
    ap (λ (b : Bool). b && list_all (λ d. not (is_line_feed d)) cs) (digit-clean c first) ∙ digits-clean cs rest

-- the line of these bytes follows whole lines
pub line-frozen : (lines bytes : List ℕ) → AreLines lines → IsBytes bytes
    → length (lines ++ frozen_line bytes) ≤ 2147483647 → IsFrozen (lines ++ frozen_line bytes) bytes
line-frozen lines bytes are fits short = record {
  short = short;
  line = ap (λ (z : List ℕ). after_last is_line_feed (strip_last 10 z))
      (sym (append_assoc lines (frozen_text bytes) (10 ∷ [])))
      ∙ ap (λ (z : List ℕ). after_last is_line_feed z) (stripped (lines ++ frozen_text bytes))
      ∙ behind-lines lines (frozen_text bytes) (digits-clean (encode_lower bytes) (low-digits bytes fits)) are;
  fits = fits;
}
