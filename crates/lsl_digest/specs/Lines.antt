-- How many lines there are.
use Rattle.std.specs.Prelude.{ℕ, ◌==◌, List, count_by, Option, Some, None, nat_lt, if◌then◌else◌}

-- each line ends with a line feed, and has no other
abbrev pub count_lines : List ℕ → ℕ
count_lines bytes = count_by (λ byte. byte == 10) bytes

-- above this lines aren't counted any more
abbrev pub most_lines : ℕ
most_lines = 18446744073709551615

-- a count, where it is one below that
abbrev pub counted : ℕ → Option ℕ
counted count = if nat_lt count most_lines then Some count else None
