-- Lines between line feeds, and the first that isn't text.
use Rattle.std.specs.Prelude.{◌≡◌, ℕ, ◌+◌, ◌==◌, ◌⊎◌, Bool, false, List, [], ◌∷◌, ◌++◌, take, count_by}
use Rattle.std.specs.List.{AllByRecursion}
use Rattle.std.specs.Str.{IsUtf8}
use Rattle.std.specs.Str.Lossy.{utf8_valid_len}

abbrev pub is_feed : ℕ → Bool
is_feed b = b == 10

-- no line feed
abbrev pub HasNoFeed : List ℕ → Type 0
HasNoFeed = AllByRecursion (λ b. is_feed b ≡ false)

-- nothing, or what ends with a line feed
abbrev pub EndsWithFeed : List ℕ → Type 0
EndsWithFeed before = (before ≡ []) ⊎ ((front : List ℕ) × (before ≡ front ++ 10 ∷ []))

-- nothing, or what begins with a line feed
abbrev pub BeginsWithFeed : List ℕ → Type 0
BeginsWithFeed behind = (behind ≡ []) ⊎ ((back : List ℕ) × (behind ≡ 10 ∷ back))

-- the line of this number isn't text, and all lines before it are
pub record IsFirstBad (bytes : List ℕ) (number : ℕ) : Type 0 where
  pub before : List ℕ
  pub line : List ℕ
  pub behind : List ℕ
  pub whole : bytes ≡ before ++ (line ++ behind)
  pub begins : EndsWithFeed before
  pub alone : HasNoFeed line
  pub ends : BeginsWithFeed behind
  pub counted : number ≡ 1 + count_by is_feed before
  pub text : IsUtf8 before
  pub other : ¬ (IsUtf8 line)

-- the number of the line in which the longest prefix that is UTF-8 ends
abbrev pub bad_line : List ℕ → ℕ
bad_line bytes = 1 + count_by is_feed (take (utf8_valid_len bytes) bytes)
