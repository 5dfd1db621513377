-- Keys: a valid one is a UUID in the hyphenated form, with digits of either case.
use Rattle.std.specs.Prelude.{ℕ, Bool, ◌&&◌, ◌||◌, ◌==◌, nat_le, if◌then◌else◌, List, length, slice_index, codes}
use Rattle.std.specs.List.{list_all, range_with_len}
use Rattle.std.specs.Str.{bytes_eq}

-- a digit of sixteen, in either case
abbrev pub is_hex_digit : ℕ → Bool
is_hex_digit c = (nat_le 48 c && nat_le c 57) || (nat_le 97 c && nat_le c 102) || (nat_le 65 c && nat_le c 70)

-- the four places that hold a hyphen
abbrev pub is_hyphen_place : ℕ → Bool
is_hyphen_place k = (k == 8) || (k == 13) || (k == 18) || (k == 23)

-- the character may stand at this place of a key
abbrev pub fits_place : ℕ → ℕ → Bool
fits_place k c = if is_hyphen_place k then c == 45 else is_hex_digit c

-- the text is 36 characters, each of which fits its place
unfoldable pub is_valid_key : List ℕ → Bool
is_valid_key text = (length text == 36) && list_all (λ k. fits_place k (slice_index text k)) (range_with_len 0 36)

-- the key of zeros
abbrev pub null_key : List ℕ
null_key = codes "00000000-0000-0000-0000-000000000000"

abbrev pub is_null_key : List ℕ → Bool
is_null_key text = bytes_eq text null_key
