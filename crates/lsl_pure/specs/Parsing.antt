-- A text cut into pieces and marks: separators and spacers.
use Rattle.std.specs.Prelude.{ℕ, zero, suc, ◌-◌, Bool, true, false, ◌||◌, nat_lt, nat_eq, if◌then◌else◌, List, [], ◌∷◌, ◌++◌, map, filter, length, take, Option}
use Rattle.std.specs.List.{find, flat_map, starts_with}
use Rattle.std.specs.Option.{option_map_or}
use Rattle.lsl_value.specs.declared.list.Atom.{Atom}
use Rattle.lsl_value.specs.declared.list.Atom.TheVariants.{Str}
use Rattle.lsl_value.specs.Atoms.{text_of_atom}
use Rattle.lsl_pure.specs.declared.marks.Mark.{Mark}

-- a text's first piece, and the marks behind it, each with the piece that follows it
pub record Cut : Type 0 where
  pub first : List ℕ
  pub rest : List (Mark × List ℕ)

-- the marks of the elements, without the empty ones
abbrev pub marks_among : Bool → List Atom → List Mark
marks_among spacer atoms =
    filter (λ (m : Mark). nat_lt 0 (length m.text)) (map (λ a. record { text = text_of_atom a; spacer = spacer }) atoms)

-- those of the first eight
abbrev pub marks_from : Bool → List Atom → List Mark
marks_from spacer atoms = marks_among spacer (take 8 atoms)

-- the separators, and behind them the spacers
abbrev pub marks_of : List Atom → List Atom → List Mark
marks_of separators spacers = marks_from false separators ++ marks_from true spacers

-- the first mark that stands at the head of the text
abbrev pub first_mark : List Mark → List ℕ → Option Mark
first_mark marks text = find (λ (m : Mark). starts_with nat_eq text m.text) marks

-- the character before the first piece's
abbrev pub behind_character : ℕ → Cut → Cut
behind_character c cut = record { first = c ∷ cut.first; rest = cut.rest }

-- the mark behind an empty first piece
abbrev pub behind_mark : Mark → Cut → Cut
behind_mark m cut = record { first = []; rest = (m, cut.first) ∷ cut.rest }

-- the cut of what stands behind some characters, which are passed over
abbrev pub cut_behind : List Mark → ℕ → List ℕ → Cut
cut_behind marks n [] = record { first = []; rest = [] }
cut_behind marks (suc n) (c ∷ cs) = cut_behind marks n cs
cut_behind marks zero (c ∷ cs) =
    option_map_or (λ (m : Mark). behind_mark m (cut_behind marks (length m.text - 1) cs))
    (first_mark marks (c ∷ cs)) (behind_character c (cut_behind marks 0 cs))

-- the cut of a text: the first mark that stands at a place ends the piece and is passed over
abbrev pub cut_of : List Mark → List ℕ → Cut
cut_of marks text = cut_behind marks 0 text

-- a piece is an element, an empty one where such pieces are kept
abbrev pub piece_elements : Bool → List ℕ → List Atom
piece_elements keep piece = if keep || nat_lt 0 (length piece) then Str piece ∷ [] else []

-- a spacer is an element
abbrev pub mark_elements : Mark → List Atom
mark_elements m = if m.spacer then Str m.text ∷ [] else []

abbrev pub cut_elements : Bool → Cut → List Atom
cut_elements keep cut =
    piece_elements keep cut.first ++ flat_map
    (λ (e : Mark × List ℕ). mark_elements e.0 ++ piece_elements keep e.1) cut.rest

-- the elements that a text is parsed into
abbrev pub parsed : Bool → List ℕ → List Atom → List Atom → List Atom
parsed keep text separators spacers = cut_elements keep (cut_of (marks_of separators spacers) text)
