-- The keys of objects and prims, each in UTF-8.
use Rattle.std.specs.Prelude.{ℕ, Bool, List}
use Rattle.std.specs.List.{list_any}
use Rattle.std.specs.Str.{bytes_eq, encode_utf8_all}

abbrev pub has_key : List (List ℕ) → List ℕ → Bool
has_key keys key = list_any (bytes_eq (encode_utf8_all key)) keys
