-- The pieces of a text between the commas that part it: those that stand inside no angle brackets.
use Rattle.std.specs.Prelude.{ℕ, zero, suc, Bool, false, not, ◌==◌, ◌&&◌, ◌||◌, nat_lt, if◌then◌else◌, List, [], ◌∷◌, map, length, take, drop, count_by, slice_index}
use Rattle.std.specs.List.{prefix_len}
use Rattle.lsl_value.specs.declared.list.Atom.{Atom}
use Rattle.lsl_value.specs.declared.list.Atom.TheVariants.{Str}

abbrev pub is_opening : ℕ → Bool
is_opening c = c == 60

abbrev pub is_closing : ℕ → Bool
is_closing c = c == 62

-- more brackets are opened in the part than closed
abbrev pub opens_more : List ℕ → Bool
opens_more part = nat_lt (count_by is_closing part) (count_by is_opening part)

-- some bracket of these characters isn't closed behind them: from some place on, more are opened than closed
abbrev pub is_open_behind : List ℕ → Bool
is_open_behind [] = false
is_open_behind (c ∷ cs) = opens_more (c ∷ cs) || is_open_behind cs

-- a comma stands at this place of the text, and no bracket is open before it
abbrev pub parts_at : List ℕ → ℕ → Bool
parts_at text k = (slice_index text k == 44) && not (is_open_behind (take k text))

-- the character before the first piece's
abbrev pub into_first : ℕ → List (List ℕ) → List (List ℕ)
into_first c [] = (c ∷ []) ∷ []
into_first c (piece ∷ pieces) = (c ∷ piece) ∷ pieces

-- the pieces between the places that pass the test
abbrev pub pieces_between : (ℕ → Bool) → List ℕ → List (List ℕ)
pieces_between parts [] = [] ∷ []
pieces_between parts (c ∷ cs) =
    if parts zero then [] ∷ pieces_between (λ k. parts (suc k)) cs else into_first c
    (pieces_between (λ k. parts (suc k)) cs)

abbrev pub csv_pieces : List ℕ → List (List ℕ)
csv_pieces text = pieces_between (parts_at text) text

abbrev pub without_leading_spaces : List ℕ → List ℕ
without_leading_spaces text = drop (prefix_len (λ c. c == 32) text) text

-- the pieces without their leading spaces; no element for the empty text
abbrev pub csv_elements : List ℕ → List Atom
csv_elements text = if length text == 0 then [] else map (λ piece. Str (without_leading_spaces piece)) (csv_pieces text)
