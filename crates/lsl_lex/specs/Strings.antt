-- What is between the quotes of a string, and the text that it means.
use Rattle.std.specs.Prelude.{◌≡◌, ◌≢◌, ℕ, ◌==◌, if◌then◌else◌, ◌⊎◌, List, [], ◌∷◌, ◌++◌}

-- a byte that is neither a quote nor a backslash
abbrev pub IsPlain : ℕ → Type 0
IsPlain b = (b ≢ 34) × (b ≢ 92)

-- each byte is plain, or follows a backslash, or is such a backslash
abbrev pub IsStringBody : List ℕ → Type 0
IsStringBody [] = Unit {0}
IsStringBody (b ∷ []) = IsPlain b
IsStringBody (b ∷ c ∷ bytes) = (IsPlain b × IsStringBody (c ∷ bytes)) ⊎ ((b ≡ 92) × IsStringBody bytes)

-- what a backslash and this character mean: a line feed, four spaces, or the character
abbrev pub escape_of : ℕ → List ℕ
escape_of c = if c == 110 then 10 ∷ [] else (if c == 116 then 32 ∷ 32 ∷ 32 ∷ 32 ∷ [] else c ∷ [])

-- the characters with the escapes read
abbrev pub escapes_read : List ℕ → List ℕ
escapes_read [] = []
escapes_read (c ∷ []) = c ∷ []
escapes_read (c ∷ d ∷ characters) = if c == 92 then escape_of d ++ escapes_read characters else c ∷ escapes_read
    (d ∷ characters)
