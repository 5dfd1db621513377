-- The lines of a file.
use Rattle.std.specs.Prelude.{ℕ, ◌==◌, Bool, false, cond, ◌&&◌, List, [], ◌∷◌}

-- a line feed is next
abbrev pub at_feed : List ℕ → Bool
at_feed [] = false
at_feed (b ∷ text) = b == 10

-- this byte is at the front of the first line
abbrev pub longer : ℕ → List (List ℕ) → List (List ℕ)
longer b [] = (b ∷ []) ∷ []
longer b (line ∷ lines) = (b ∷ line) ∷ lines

-- each line ends with a line feed, and a carriage return directly before that is dropped; the last line may have no
-- feed
abbrev pub lines_of : List ℕ → List (List ℕ)
lines_of [] = []
lines_of (b ∷ text) =
    cond (b == 10) ([] ∷ lines_of text)
    (cond (b == 13 && at_feed text) (lines_of text) (longer b (lines_of text)))
