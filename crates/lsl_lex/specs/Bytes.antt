-- Kinds of bytes.
use Rattle.std.specs.Prelude.{ℕ, ◌==◌, nat_le, Bool, ◌&&◌, ◌||◌, not}
use Rattle.std.specs.Char.{is_digit}

-- an ASCII letter or an underscore
abbrev pub is_letter : ℕ → Bool
is_letter b = ((nat_le 65 b && nat_le b 90) || (nat_le 97 b && nat_le b 122)) || b == 95

abbrev pub is_decimal : ℕ → Bool
is_decimal b = is_digit b 10

abbrev pub is_hexadecimal : ℕ → Bool
is_hexadecimal b = is_digit b 16

-- what a name may continue with
abbrev pub is_name_byte : ℕ → Bool
is_name_byte b = is_letter b || is_decimal b

-- what a line comment may continue with
abbrev pub is_in_line : ℕ → Bool
is_in_line b = not (b == 10)
