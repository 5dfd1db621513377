-- Words of the laws above the calls' definitions.
use Rattle.std.specs.Prelude.{◌≡◌, ◌≢◌, ℕ, ℤ, pos, int_lt, Bool, ◌<◌, List, [], ◌∷◌, ◌++◌, length, drop, slice_index, Some, None}
use Rattle.std.specs.List.{All}
use Rattle.lsl_value.specs.declared.list.Atom.{Atom}
use Rattle.lsl_value.specs.declared.list.Atom.TheVariants.{Str}
use Rattle.lsl_value.specs.Atoms.{text_of_atom}
use Rattle.lsl_value.specs.Values.{kind_of}
use Rattle.lsl_value.specs.declared.names.BuiltinId.{BuiltinId}
use Rattle.lsl_value.specs.declared.tagged.Value.{Value}
use Rattle.lsl_table.specs.Calls.{row_of}
use Rattle.lsl_pure.specs.Arguments.{IsArguments}
use Rattle.lsl_pure.specs.Pure.{pure_of}
use Rattle.lsl_pure.specs.Parsing.{Cut, first_mark}
use Rattle.lsl_pure.specs.Places.{pick, place_of}
use Rattle.lsl_pure.specs.declared.marks.Mark.{Mark}

-- the place stands before a range that begins at `first`, among n places
abbrev pub place_before : ℕ → ℤ → ℕ → Bool
place_before n first k = int_lt (pos k) (place_of n first)

-- the place stands behind a range that ends at `last`, among n places
abbrev pub place_behind : ℕ → ℤ → ℕ → Bool
place_behind n last k = int_lt (place_of n last) (pos k)

-- what stands before a range that begins at `first`, and behind one that ends at `last`
abbrev pub part_before : {X : Type 0} → List X → ℤ → List X
part_before xs first = pick (place_before (length xs) first) xs

abbrev pub part_behind : {X : Type 0} → List X → ℤ → List X
part_behind xs last = pick (place_behind (length xs) last) xs

-- an element's text as a string element
abbrev pub string_element : Atom → Atom
string_element a = Str (text_of_atom a)

-- the character is no comma and no angle bracket
pub record IsPlainCharacter (c : ℕ) : Type 0 where
  pub comma : c ≢ 44
  pub open_bracket : c ≢ 60
  pub close_bracket : c ≢ 62

-- the text has no comma, no angle bracket and no leading space
pub record IsPlainText (text : List ℕ) : Type 0 where
  pub characters : All IsPlainCharacter text
  pub start : slice_index text 0 ≢ 32

-- the elements' texts are plain, and they aren't a single empty one
pub record IsPlainList (atoms : List Atom) : Type 0 where
  pub texts : All (λ a. IsPlainText (text_of_atom a)) atoms
  pub several : (a : Atom) → atoms ≡ a ∷ [] → text_of_atom a ≢ []

-- the character stands in no element's text
abbrev pub StandsInNone : ℕ → List Atom → Type 0
StandsInNone c atoms = All (λ a. All (λ x. x ≢ c) (text_of_atom a)) atoms

-- no mark stands in the whole text at a place of the piece, also where it would run past the piece's end
abbrev pub IsFree : List Mark → List ℕ → List ℕ → Type 0
IsFree marks piece rest = (k : ℕ) → k < length piece → first_mark marks (drop k (piece ++ rest)) ≡ None

-- the text is a piece and, behind it, marks, each with the piece that follows it; each mark is the first one that
-- stands at its place, and none stands at a place of a piece
abbrev pub IsCutFrom : List Mark → List ℕ → List ℕ → List (Mark × List ℕ) → Type 0
IsCutFrom marks text piece [] = (text ≡ piece) × IsFree marks piece []
IsCutFrom marks text piece (e ∷ es) =
    (rest : List ℕ) × (text ≡ piece ++ rest) × IsFree marks piece rest × (first_mark marks rest ≡ Some e.0)
    × IsCutFrom marks (drop (length e.0.text) rest) e.1 es

abbrev pub IsCutAt : List Mark → List ℕ → Cut → Type 0
IsCutAt marks text cut = IsCutFrom marks text cut.first cut.rest

-- the arguments are of the row's kinds, the call's value is this one, and it has the row's kind
pub record HasValueOfRow (id : BuiltinId) (args : List Value) (value : Value) : Type 0 where
  pub arguments : IsArguments id args
  pub same : pure_of id args ≡ value
  pub kind : (row_of id).result ≡ Some (kind_of value)
