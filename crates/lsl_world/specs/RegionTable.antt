-- How the names of regions are kept: in a table, each under its bytes in UTF-8.
use Rattle.std.specs.Prelude.{◌≡◌, ◌<◌, ◌^◌, ℕ, List, String, length, map}
use Rattle.std.specs.Str.{encode_utf8_all}
use Rattle.std.specs.String.{string_bytes}
use Rattle.std.specs.declared.alloc.Global.{Global}

abbrev pub keys_of : List (String Global × List ℕ) → List (List ℕ)
keys_of entries = map (λ e. string_bytes e.0) entries

abbrev pub names_of : List (String Global × List ℕ) → List (List ℕ)
names_of entries = map (λ e. e.1) entries

pub record IsTable (entries : List (String Global × List ℕ)) : Type 0 where
  pub keyed : keys_of entries ≡ map encode_utf8_all (names_of entries)
  pub few : length (names_of entries) < 2 ^ 32
