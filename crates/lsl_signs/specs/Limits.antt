-- The limits of a script.
use Rattle.std.specs.Prelude.{ℕ}

-- the greatest depth of nested constructs
abbrev pub most_constructs : ℕ
most_constructs = 200

-- an operand of at least this height can't be to the left of an operator
abbrev pub height_limit : ℕ
height_limit = 200

-- the greatest number of tokens of a script
abbrev pub most_tokens : ℕ
most_tokens = 32768
