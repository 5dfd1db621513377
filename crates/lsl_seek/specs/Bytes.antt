-- Lines, words and numbers in bytes.
use Rattle.std.specs.Prelude.{◌≡◌, ℕ, ◌+◌, ◌==◌, nat_lt, Bool, not, cond, ◌&&◌, List, [], ◌∷◌, take, drop, length, Option, Some, None}
use Rattle.std.specs.Char.{digit_value}
use Rattle.std.specs.List.{list_all, prefix_len}
use Rattle.std.specs.Str.Parse.{digits_value}

-- the first, and then what it leads to
infixl 10 ◌>>=◌
abbrev pub ◌>>=◌ : {A B : Type 0} → Option A → (A → Option B) → Option B
None >>= f = None
(Some x) >>= f = f x

abbrev pub is_not : ℕ → ℕ → Bool
is_not by b = not (b == by)

-- what comes before the first such byte
abbrev pub before : ℕ → List ℕ → List ℕ
before by text = take (prefix_len (is_not by) text) text

-- what comes after it
abbrev pub after : ℕ → List ℕ → List ℕ
after by text = drop (prefix_len (is_not by) text + 1) text

-- a text that isn't empty and has no space
abbrev pub is_word : List ℕ → Bool
is_word text = nat_lt 0 (length text) && prefix_len (is_not 32) text == length text

-- the word before the first space, and what comes after it
abbrev pub word_at : List ℕ → Option (List ℕ × List ℕ)
word_at text = cond (length (before 32 text) == 0) None (Some (before 32 text, after 32 text))

abbrev pub is_digit : ℕ → Bool
is_digit b = nat_lt (digit_value b) 10

-- what decimal digits write, if there is one and it is below 2^32
unfoldable pub number_of : List ℕ → Option ℕ
number_of digits = cond (nat_lt 0 (length digits) && (list_all is_digit digits && nat_lt (digits_value 10 digits) 4294967296))
    (Some (digits_value 10 digits)) None

-- the number before the first space, and what comes after it
abbrev pub number_at : List ℕ → Option (ℕ × List ℕ)
number_at text = number_of (before 32 text) >>= λ n. Some (n, after 32 text)

-- the suffixes at which a line after the first one begins
abbrev pub later_lines : List ℕ → List (List ℕ)
later_lines [] = []
later_lines (b ∷ text) = cond (b == 10 && nat_lt 0 (length text)) (text ∷ later_lines text) (later_lines text)

-- the suffixes at which a line begins
abbrev pub line_starts : List ℕ → List (List ℕ)
line_starts [] = []
line_starts (b ∷ text) = (b ∷ text) ∷ later_lines (b ∷ text)

-- the code's answer, seen so, is this one
abbrev pub Sees : {A B : Type 0} → (A → B) → Option A → Option B → Type 0
Sees view None wanted = wanted ≡ None
Sees view (Some x) wanted = wanted ≡ Some (view x)
