-- What std's calls give is the value modulo 2^32.
use Rattle.std.proofs.Common.{◌≡◌, ◌∙◌, ℕ, zero, suc, neg_ℤ, refl, ◌/◌, ◌%◌, ◌^◌, ◌<◌, ◌≤◌, ℤ, pos, negsuc, ◌*ℤ◌, int_div, FitsSigned, unsigned_abs, ap, arith}
use Rattle.std.specs.Int.{w32, cast_signed, cast_unsigned, int_shl, int_wrap}
use Rattle.std.proofs.Math.Nat.{div-le_self}
use Rattle.std.proofs.Math.Pow.{pow-lt}
use Rattle.std.proofs.lemmas.Int.{to_z-of_z, int_wrap-mul_right, wrapping_mul-bits}
use Rattle.lsl_ops.specs.Integers.{shift_of, wrapped}

-- a number of at most 2^31, above or below 0, is wrapped by its bits
pub cast-wrapped : (n : ℤ) → unsigned_abs n ≤ 2147483648 → cast_signed w32 (cast_unsigned w32 n) ≡ wrapped n
unfolding int_wrap
cast-wrapped (pos n) small = ap (cast_signed w32) (omega arith)
cast-wrapped (negsuc n) small = ap (cast_signed w32) (omega arith)

unsigned_abs-neg : (n : ℕ) → unsigned_abs (neg_ℤ (pos n)) ≡ n
unsigned_abs-neg zero = refl
unsigned_abs-neg (suc n) = refl

-- a quotient is no greater than the dividend
pub unsigned_abs-div : (a b : ℤ) → unsigned_abs (int_div a b) ≤ unsigned_abs a
unsigned_abs-div (pos a) (pos b) = div-le_self a b
unsigned_abs-div (pos a) (negsuc b) = rw (unsigned_abs-neg (a / suc b)) (div-le_self a (suc b))
unsigned_abs-div (negsuc a) (pos b) = rw (unsigned_abs-neg (suc a / b)) (div-le_self (suc a) b)
unsigned_abs-div (negsuc a) (negsuc b) = div-le_self (suc a) (suc b)

-- the low five bits
pub shift-low : (by : ℤ) → FitsSigned w32 by → cast_unsigned w32 by % 32 ≡ shift_of by
shift-low (pos n) fits = omega arith
shift-low (negsuc n) fits = omega (arith, fits.sfits)

pub shift-small : (by : ℤ) → shift_of by < 32
shift-small (pos n) = omega arith
shift-small (negsuc n) = omega arith

pow-small : (k : ℕ) → k < 32 → 2 ^ k < 4294967296
pow-small k small = pow-lt small

pow-wrapped : (k : ℕ) → k < 32 → cast_signed w32 (2 ^ k) ≡ wrapped (pos (2 ^ k))
unfolding int_wrap
pow-wrapped k small = let fits = pow-small k small in ap (cast_signed w32) (omega arith)

cast-small : (n : ℤ) → FitsSigned w32 n → cast_unsigned w32 n < 4294967296
cast-small (pos n) fits = omega (arith, fits.sfits)
cast-small (negsuc n) fits = omega (arith, fits.sfits)

-- a shift to the left multiplies by a power of two
pub shl-wrapped : (n : ℤ) (k : ℕ) → FitsSigned w32 n → k < 32 → int_shl w32 n k ≡ wrapped (n *ℤ pos (2 ^ k))
shl-wrapped n k fits small =
    wrapping_mul-bits w32 (cast_unsigned w32 n) (2 ^ k) (cast-small n fits) (pow-small k small)
    ∙ ap (λ m. int_wrap w32 (m *ℤ cast_signed w32 (2 ^ k))) (to_z-of_z w32 n fits)
    ∙ ap (λ m. int_wrap w32 (n *ℤ m)) (pow-wrapped k small)
    ∙ int_wrap-mul_right w32 n (pos (2 ^ k))

abs-fits : (n : ℤ) → FitsSigned w32 n → unsigned_abs n ≤ 2147483648
abs-fits (pos n) fits = omega (arith, fits.sfits)
abs-fits (negsuc n) fits = omega (arith, fits.sfits)

-- the two calls on the bits that a number has
pub quotient-wrapped : (a b c : ℤ) → FitsSigned w32 a → FitsSigned w32 b
    → c ≡ cast_signed w32 (cast_unsigned w32
    (int_div (cast_signed w32 (cast_unsigned w32 a)) (cast_signed w32 (cast_unsigned w32 b))))
    → c ≡ wrapped (int_div a b)
quotient-wrapped a b c fits fits' same =
    let small = unsigned_abs-div a b in
    let bound = abs-fits a fits in
    same ∙ ap (λ m. cast_signed w32 (cast_unsigned w32 (int_div m (cast_signed w32 (cast_unsigned w32 b)))))
    (to_z-of_z w32 a fits)
    ∙ ap (λ m. cast_signed w32 (cast_unsigned w32 (int_div a m))) (to_z-of_z w32 b fits')
    ∙ cast-wrapped (int_div a b) (omega arith)

pub shift-wrapped : (n by c : ℤ) (bits : ℕ) → FitsSigned w32 n → FitsSigned w32 by
    → bits ≡ cast_unsigned w32 (cast_signed w32 (cast_unsigned w32 by))
    → c ≡ int_shl w32 (cast_signed w32 (cast_unsigned w32 n)) (bits % 32)
    → c ≡ wrapped (n *ℤ pos (2 ^ shift_of by))
shift-wrapped n by c bits fits fits' same shifted =
    let low : bits % 32 ≡ shift_of by = ap (λ m. m % 32)
    (same ∙ ap (cast_unsigned w32) (to_z-of_z w32 by fits')) ∙ shift-low by fits' in
    shifted ∙ ap (λ m. int_shl w32 m (bits % 32)) (to_z-of_z w32 n fits) ∙ ap (int_shl w32 n) low
    ∙ shl-wrapped n (shift_of by) fits (shift-small by)
