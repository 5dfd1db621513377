-- Integers as text, and the integer that a text begins with.
use Rattle.std.specs.Prelude.{ℕ, suc, ◌==◌, nat_le, Bool, false, ◌&&◌, ◌||◌, if◌then◌else◌, ℤ, pos, negsuc, List, ◌∷◌, drop, slice_index, decimal}
use Rattle.std.specs.Char.{is_digit}
use Rattle.std.specs.Int.{w32, cast_signed, int_wrapping_neg}
use Rattle.std.specs.List.{prefix_len, take_while}
use Rattle.std.specs.Str.Parse.{digits_value}

-- a number in decimal, with a minus sign before the decimal of a negative one's magnitude
abbrev pub decimal_of : ℤ → List ℕ
decimal_of (pos n) = decimal n
decimal_of (negsuc n) = 45 ∷ decimal (suc n)

-- tab, line feed, vertical tab, form feed, carriage return and space
abbrev pub is_blank : ℕ → Bool
is_blank b = (nat_le 9 b && nat_le b 13) || b == 32

-- the integer that a number means: one that fits 32 bits wraps, and a greater one is -1
abbrev pub wrapped : ℕ → ℤ
wrapped n = if nat_le n 4294967295 then cast_signed w32 n else negsuc 0

-- the integer of the digits in this base that the text begins with
abbrev pub digits_integer : ℕ → List ℕ → ℤ
digits_integer base text = wrapped (digits_value base (take_while (λ c. is_digit c base) text))

-- the text begins with `0x` or `0X` and a hexadecimal digit
abbrev pub begins_hexadecimal : List ℕ → Bool
begins_hexadecimal (a ∷ b ∷ c ∷ rest) = a == 48 && ((b == 120 || b == 88) && is_digit c 16)
begins_hexadecimal _ = false

unfoldable pub unsigned_integer : List ℕ → ℤ
unsigned_integer text = if begins_hexadecimal text then digits_integer 16 (drop 2 text) else digits_integer 10 text

-- the integer after an optional sign; a minus sign negates it, and -2147483648 to itself
abbrev pub signed_integer : List ℕ → ℤ
signed_integer text = if slice_index text 0 == 45 then int_wrapping_neg w32 (unsigned_integer (drop 1 text))
    else (if slice_index text 0 == 43 then unsigned_integer (drop 1 text) else unsigned_integer text)

-- the integer that a text begins with, after blanks
abbrev pub leading_integer_of : List ℕ → ℤ
leading_integer_of text = signed_integer (drop (prefix_len is_blank text) text)
