-- What a table of the latest of each name keeps, and what a new latest of a name changes.
use Rattle.std.specs.Prelude.{◌≡◌, ℕ, Option, Some, List, [], ◌++◌, map, get_or, slice_get, String}
use Rattle.std.specs.Option.{option_flatten}
use Rattle.std.specs.HashMap.{get_by_text, keys, HashMap, UpdatesBy}
use Rattle.std.specs.String.{string_bytes, string_eq}
use Rattle.std.specs.Str.{bytes_eq}
use Rattle.std.specs.declared.alloc.Global.{Global}

-- the name at a place
abbrev pub text_at : List (List ℕ) → ℕ → List ℕ
text_at texts place = get_or texts place []

module _ {S : Type 0} where
  -- the names by their places
  abbrev pub texts_of : HashMap (String Global) (Option ℕ) S → List (List ℕ)
  texts_of table = map string_bytes (keys table)

  -- the name has this number now, and had another or none before; the names that were there keep their places
  pub record IsNoted (old new : HashMap (String Global) (Option ℕ) S) (name : List ℕ) (number place : ℕ)
      (before : Option ℕ) : Type 0 where
    pub hidden : before ≡ option_flatten (get_by_text old name)
    pub updates : UpdatesBy string_eq (λ k. bytes_eq name (string_bytes k)) old new (Some (Some number))
    pub stands : slice_get (texts_of new) place ≡ Some name
    pub more : List (List ℕ)
    pub grows : texts_of new ≡ texts_of old ++ more
