-- What a word of a line means: a number, a key, a name or a text.
use Rattle.std.specs.Prelude.{ℕ, ◌==◌, nat_le, nat_lt, Bool, true, false, cond, ◌&&◌, List, [], ◌∷◌, length, map, Result, Ok, Err, ℤ, pos, neg_ℤ}
use Rattle.std.specs.Char.{is_digit, to_ascii_lowercase}
use Rattle.std.specs.List.{list_all}
use Rattle.std.specs.Str.{encode_utf8_all}
use Rattle.std.specs.Str.Parse.{digits_value}
use Rattle.lsl_value.specs.Key.{is_valid_key}
use Rattle.lsl_lines.specs.Checks.{◌>>=◌, fault_unless}
use Rattle.lsl_lines.specs.Words.{Plain, Quoted, Word, text_of}
use Rattle.lsl_lines.specs.declared.faults.FileKind.{FileKind}
use Rattle.lsl_lines.specs.declared.faults.FileKind.TheVariants.{BadLine}

-- a word without quotes
abbrev pub plain_of : Word → Result (List ℕ) FileKind
plain_of (Plain bytes) = Ok bytes
plain_of (Quoted text) = Err BadLine

abbrev pub quoted_of : Word → Result (List ℕ) FileKind
quoted_of (Plain bytes) = Err BadLine
quoted_of (Quoted text) = Ok text

abbrev pub is_decimal : ℕ → Bool
is_decimal b = is_digit b 10

-- the number of one decimal digit or more
abbrev pub digits_of : List ℕ → Result ℕ FileKind
digits_of digits =
    fault_unless (nat_lt 0 (length digits) && list_all is_decimal digits) BadLine (Ok (digits_value 10 digits))

-- a minus sign comes before the digits
abbrev pub is_negative : List ℕ → Bool
is_negative [] = false
is_negative (b ∷ digits) = b == 45

-- the digits after an optional sign
abbrev pub magnitude_of : List ℕ → Result ℕ FileKind
magnitude_of [] = Err BadLine
magnitude_of (b ∷ digits) = cond (b == 45) (digits_of digits) (digits_of (b ∷ digits))

-- a number from 0 to this one; 0 may have a minus sign
abbrev pub natural_of : ℕ → Word → Result ℕ FileKind
natural_of most word =
    plain_of word >>= λ bytes. magnitude_of bytes >>= λ n.
    fault_unless (nat_le n (cond (is_negative bytes) 0 most)) BadLine (Ok n)

-- the integer of 32 bits of a sign and a magnitude
abbrev pub signed_of : Bool → ℕ → Result ℤ FileKind
signed_of true n = fault_unless (nat_le n 2147483648) BadLine (Ok (neg_ℤ (pos n)))
signed_of false n = fault_unless (nat_le n 2147483647) BadLine (Ok (pos n))

-- a number of 32 bits with its sign
abbrev pub integer_of : Word → Result ℤ FileKind
integer_of word = plain_of word >>= λ bytes. magnitude_of bytes >>= λ n. signed_of (is_negative bytes) n

-- a key in the hyphenated form, in lower case
abbrev pub key_of : Word → Result (List ℕ) FileKind
key_of word =
    plain_of word >>= λ bytes. text_of (map to_ascii_lowercase bytes) >>= λ key.
    fault_unless (is_valid_key key) BadLine (Ok key)

-- a quoted text of at most 255 bytes, counted with the escapes read
abbrev pub name_of : Word → Result (List ℕ) FileKind
name_of word =
    quoted_of word >>= λ name.
    fault_unless (nat_le (length (encode_utf8_all name)) 255) BadLine (Ok name)
