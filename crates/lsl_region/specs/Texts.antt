-- Texts that are cut to a number of bytes, before a character that would be split.
use Rattle.std.specs.Prelude.{ℕ, ◌-◌, nat_le, if◌then◌else◌, List, [], ◌∷◌, length}
use Rattle.std.specs.Char.{encode_utf8}

-- the longest run of first characters that has no more bytes
unfoldable pub cut_to : ℕ → List ℕ → List ℕ
cut_to room [] = []
cut_to room (c ∷ text) =
    if nat_le (length (encode_utf8 c)) room then c ∷ cut_to (room - length (encode_utf8 c)) text else []

-- what is said has at most 1,024 bytes
abbrev pub cut_speech : List ℕ → List ℕ
cut_speech text = cut_to 1024 text

-- a prim's name has at most 63
abbrev pub cut_name : List ℕ → List ℕ
cut_name text = cut_to 63 text
