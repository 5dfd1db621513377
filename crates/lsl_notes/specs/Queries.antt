-- The keys of queries.
use Rattle.std.specs.Prelude.{ℕ, List, [], ◌∷◌, ◌++◌, Option, Some, None}
use Rattle.std.specs.Int.{to_be_bytes, w16, w32}
use Rattle.uuid.specs.Text.{hyphenated_text, lower}

-- a query for a line, or for the count of lines
abbrev pub kind_bytes : Option ℕ → List ℕ
kind_bytes (Some line) = 128 ∷ 0 ∷ []
kind_bytes None = 143 ∷ 255 ∷ []

-- the line that is asked for, 0 for a count
abbrev pub line_asked : Option ℕ → ℕ
line_asked (Some line) = line
line_asked None = 0

-- the sixteen bytes of a query's key: the script's number, 0000 4000, the kind, the card's number, and the
-- line
abbrev pub query_bytes : ℕ → ℕ → Option ℕ → List ℕ
query_bytes script card line =
    to_be_bytes w32 script ++ (0 ∷ 0 ∷ 64 ∷ 0 ∷ [])
    ++ kind_bytes line ++ to_be_bytes w16 card ++ to_be_bytes w32 (line_asked line)

-- its text: 8, 4, 4, 4 and 12 digits of sixteen, in lower case
abbrev pub query_of : ℕ → ℕ → Option ℕ → List ℕ
query_of script card line = hyphenated_text lower (query_bytes script card line)
