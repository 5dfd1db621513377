-- The sequence of numbers that the steps come from. Numbers have no bound here, and nothing wraps.
use Rattle.std.specs.Prelude.{ℕ, zero, suc, ◌+◌, ◌*◌, ◌/◌, ◌%◌}

-- the number after a number
unfoldable pub number_after : ℕ → ℕ
number_after x = (x * 1103515245 + 12345) % 2147483648

-- the sequence from a number on: that number is at place 0, and each further one follows the one before it
unfoldable pub number_at : ℕ → ℕ → ℕ
number_at first zero = first
number_at first (suc place) = number_after (number_at first place)

-- what is drawn at a place: the upper part of the number there
abbrev pub drawn_at : ℕ → ℕ → ℕ
drawn_at first place = number_at first place / 65536
