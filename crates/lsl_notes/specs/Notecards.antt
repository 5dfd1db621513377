-- The notecards of a world, and what a script receives of them.
use Rattle.std.specs.Prelude.{ℕ, ◌+◌, ◌-◌, ◌≤◌, ◌==◌, ◌&&◌, Bool, List, [], ◌∷◌, length, Option, Some, None, position, slice_get}
use Rattle.std.specs.Option.{option_map}
use Rattle.std.specs.Str.{bytes_eq}
use Rattle.lsl_notes.specs.declared.cards.Notecard.{Notecard}
use Rattle.lsl_notes.specs.Cutting.{cut_line}

-- how many notecards a world has at most
abbrev pub most_cards : ℕ
most_cards = 256

-- the notecard lies in this prim, under this name
abbrev pub lies_at : ℕ → List ℕ → Notecard → Bool
lies_at prim name n = (n.prim == prim) && bytes_eq n.name name

-- the number of the first notecard of a prim with a name: notecards are numbered from 1 on
abbrev pub number_of : List Notecard → ℕ → List ℕ → Option ℕ
number_of cards prim name = option_map (λ place. place + 1) (position (lies_at prim name) cards)

-- a notecard of the list has this number
pub record IsListed (cards : List Notecard) (number : ℕ) : Type 0 where
  pub low : 1 ≤ number
  pub high : number ≤ length cards

-- the lines of the notecard that is there
abbrev pub lines_of : Option Notecard → List (List ℕ)
lines_of None = []
lines_of (Some n) = n.card

-- the lines of the notecard of a number
abbrev pub card_at : List Notecard → ℕ → List (List ℕ)
card_at cards number = lines_of (slice_get cards (number - 1))

-- three line feeds, for a line after the last
abbrev pub end_of_card : List ℕ
end_of_card = 10 ∷ 10 ∷ 10 ∷ []

abbrev pub told : Option (List ℕ) → List ℕ
told None = end_of_card
told (Some line) = cut_line line

-- what a script receives that asks for a line, counted from 0
abbrev pub data_of : List (List ℕ) → ℕ → List ℕ
data_of card line = told (slice_get card line)
