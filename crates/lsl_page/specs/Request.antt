-- The files of a request, by their places among its bytes.
use Rattle.std.specs.Prelude.{ℕ, ◌&&◌, Bool, nat_le, List, length, slice_range, option_map, IsTrue, All}
use Rattle.std.specs.List.{find}
use Rattle.std.specs.Str.{IsUtf8, bytes_eq}
use Rattle.lsl_ports.specs.Shelf.{Files}
use Rattle.lsl_page.specs.declared.place.Place.{Place}

-- the place lies within the bytes: its name, and then its text
abbrev pub is_in : List ℕ → Place → Bool
is_in bytes place = nat_le place.name place.text && nat_le place.text place.end && nat_le place.end (length bytes)

abbrev pub name_in : List ℕ → Place → List ℕ
name_in bytes place = slice_range bytes place.name place.text

abbrev pub text_in : List ℕ → Place → List ℕ
text_in bytes place = slice_range bytes place.text place.end

abbrev pub is_named : List ℕ → List ℕ → Place → Bool
is_named bytes name place = is_in bytes place && bytes_eq (name_in bytes place) name

-- a name's file is the first one of that name
abbrev pub files_in : List ℕ → List Place → Files
files_in bytes places name = option_map (text_in bytes) (find (is_named bytes name) places)

-- a request in its form: both words are texts, and all places lie within the bytes
pub record IsRequest (word file bytes : List ℕ) (places : List Place) : Type 0 where
  pub is_word : IsUtf8 word
  pub is_file : IsUtf8 file
  pub are_places : All (λ (p : Place). IsTrue (is_in bytes p)) places

-- a request for a file in its form: the file's name is a text, and all places lie within the bytes
pub record IsAsked (file bytes : List ℕ) (places : List Place) : Type 0 where
  pub is_file : IsUtf8 file
  pub are_places : All (λ (p : Place). IsTrue (is_in bytes p)) places
