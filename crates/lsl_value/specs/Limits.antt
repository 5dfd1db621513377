-- Limits of values.
use Rattle.std.specs.Prelude.{ℕ}

-- how many bytes of UTF-8 a text has at most
abbrev pub most_text_bytes : ℕ
most_text_bytes = 1048576

-- how many elements a list has at most
abbrev pub most_items : ℕ
most_items = 65536

-- what a script is charged at most, and so each of its values
abbrev pub most_charge : ℕ
most_charge = 65536
