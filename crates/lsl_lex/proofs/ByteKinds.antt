-- Kinds of bytes exclude each other.
use Rattle.std.proofs.Common.{◌≡◌, ℕ, ◌≤◌, ◌==◌, Bool, true, false, refl, arith}
use Rattle.std.specs.Char.{digit_value}
use Rattle.std.proofs.lemmas.Bool.{ltb-true}
use Rattle.std.proofs.lemmas.Bool.Decides.{nat_tests}
use Rattle.std.proofs.lemmas.Str.Parse.{digit_from_value}
use Rattle.lsl_text.specs.Number.{is_blank}
use Rattle.lsl_lex.specs.Bytes.{is_letter, is_decimal}

pub false_by : (t : Bool) → (t ≡ true → ⊥) → t ≡ false
false_by true h = absurd (h refl)
false_by false h = refl

pub letter_range : (b : ℕ) → is_letter b ≡ true → (65 ≤ b) × (b ≤ 122)
letter_range b e = (low b e, high b e)
  where
    low : (b : ℕ) → is_letter b ≡ true → 65 ≤ b
    low b e = grind (arith, nat_tests)

    high : (b : ℕ) → is_letter b ≡ true → b ≤ 122
    high b e = grind (arith, nat_tests)

pub blank_range : (b : ℕ) → is_blank b ≡ true → (9 ≤ b) × (b ≤ 32)
blank_range b e = (low b e, high b e)
  where
    low : (b : ℕ) → is_blank b ≡ true → 9 ≤ b
    low b e = grind (arith, nat_tests)

    high : (b : ℕ) → is_blank b ≡ true → b ≤ 32
    high b e = grind (arith, nat_tests)

pub decimal_range : (b : ℕ) → is_decimal b ≡ true → (48 ≤ b) × (b ≤ 57)
decimal_range b e = digit_from_value b (ltb-true (digit_value b) 10 e)

pub no_blank : (b : ℕ) → 33 ≤ b → is_blank b ≡ false
no_blank b h = false_by (is_blank b) (λ e. let r = blank_range b e in omega (arith, r.1))

pub no_letter : (b : ℕ) → b ≤ 64 → is_letter b ≡ false
no_letter b h = false_by (is_letter b) (λ e. let r = letter_range b e in omega (arith, r.0))

pub no_decimal_low : (b : ℕ) → b ≤ 47 → is_decimal b ≡ false
no_decimal_low b h = false_by (is_decimal b) (λ e. let r = decimal_range b e in omega (arith, r.0))

pub no_decimal_high : (b : ℕ) → 58 ≤ b → is_decimal b ≡ false
no_decimal_high b h = false_by (is_decimal b) (λ e. let r = decimal_range b e in omega (arith, r.1))

pub eq_true : (a b : ℕ) → (a == b) ≡ true → a ≡ b
eq_true a b e = grind (arith, nat_tests)

pub eq_false : (a b : ℕ) → (a ≡ b → ⊥) → (a == b) ≡ false
eq_false a b h = false_by (a == b) (λ e. h (eq_true a b e))

pub not_eq : (a b : ℕ) → (a == b) ≡ false → a ≡ b → ⊥
not_eq a b e f = grind (arith, nat_tests)
