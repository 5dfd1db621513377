-- The pieces of a text between its parting commas, found from left to right: how many brackets are open is counted.
use Rattle.std.specs.Prelude.{ℕ, ◌+◌, ◌-◌, Bool, ◌==◌, ◌&&◌, if◌then◌else◌, List, [], ◌∷◌}
use Rattle.lsl_pure.specs.Csv.{into_first}

-- how many angle brackets are open behind a character; one that closes none counts nothing
abbrev pub depth_behind : ℕ → ℕ → ℕ
depth_behind depth c = if c == 60 then depth + 1 else (if c == 62 then depth - 1 else depth)

-- a comma with no angle bracket open
abbrev pub is_outer_comma : ℕ → ℕ → Bool
is_outer_comma depth c = (c == 44) && (depth == 0)

-- the pieces between outer commas, where so many brackets are open at the start
abbrev pub pieces_from : ℕ → List ℕ → List (List ℕ)
pieces_from depth [] = [] ∷ []
pieces_from depth (c ∷ cs) =
    if is_outer_comma depth c then [] ∷ pieces_from depth cs else into_first c (pieces_from (depth_behind depth c) cs)
