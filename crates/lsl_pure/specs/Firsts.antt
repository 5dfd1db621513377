-- The first mark at each place of a text.
use Rattle.std.specs.Prelude.{◌≡◌, ℕ, ◌<◌, Bool, if◌then◌else◌, List, length, drop, nat_eq, slice_get, slice_index, slice_index_or, Option, Some, None, IfSome}
use Rattle.std.specs.List.{common_prefix_len, starts_with}
use Rattle.lsl_pure.specs.Parsing.{first_mark}
use Rattle.lsl_pure.specs.declared.marks.Mark.{Mark}

-- the mark of a number, and none of no number
abbrev pub mark_of : List Mark → Option ℕ → Option Mark
mark_of marks None = None
mark_of marks (Some number) = slice_get marks number

-- the number is that of the first mark that is a prefix of the text, or no mark is one and there is no number
pub record IsFirst (marks : List Mark) (text : List ℕ) (number : Option ℕ) : Type 0 where
  pub within : IfSome number (λ n. n < length marks)
  pub is : first_mark marks text ≡ mark_of marks number

-- these are the numbers of the first marks at each place of the text
pub record AreFirst (marks : List Mark) (text : List ℕ) (numbers : List (Option ℕ)) : Type 0 where
  pub size : length numbers ≡ length text
  pub each : (k : ℕ) → k < length text → IsFirst marks (drop k text) (slice_index_or numbers k None)

-- what is noted once a mark was looked for at a place: its number, if the mark is there and no other was noted
abbrev pub noted : Option ℕ → Bool → ℕ → Option ℕ
noted (Some first) stands number = Some first
noted None stands number = if stands then Some number else None

-- the mark's number is noted at each place of the text where the mark is, if no other was
abbrev pub IsNoted : List ℕ → ℕ → List ℕ → List (Option ℕ) → List (Option ℕ) → Type 0
IsNoted mark number text old new =
    (k : ℕ) → k < length text
    → slice_index_or new k None ≡ noted (slice_index_or old k None) (starts_with nat_eq (drop k text) mark) number

-- these are how many bytes from the places of the mark on are those of its own prefix
abbrev pub AreOwn : List ℕ → List ℕ → Type 0
AreOwn mark own = (k : ℕ) → k < length own → slice_index own k ≡ common_prefix_len nat_eq (drop k mark) mark
