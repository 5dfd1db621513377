-- A text is cut from left to right into blanks, comments and tokens.
use Rattle.std.specs.Prelude.{◌≡◌, ℕ, zero, suc, ◌≤◌, ◌⊎◌, List, [], ◌∷◌, ◌++◌, length, true, Option, Some, None}
use Rattle.std.specs.List.{AllPass}
use Rattle.lsl_text.specs.Number.{is_blank}
use Rattle.lsl_text.specs.Place.{span_of}
use Rattle.lsl_text.specs.declared.Span.{Span}
use Rattle.lsl_lex.specs.Bytes.{is_in_line}
use Rattle.lsl_lex.specs.Fault.{NoClose, OpensComment}
use Rattle.lsl_lex.specs.Tokens.{Spells}
use Rattle.lsl_lex.specs.declared.token_types.Sort.{Sort}
use Rattle.lsl_lex.specs.declared.token_types.Token.{Token}

abbrev pub IsBlank : List ℕ → Type 0
IsBlank part = (b : ℕ) × (part ≡ b ∷ []) × (is_blank b ≡ true)

-- from `/*` to the first `*/` after it
abbrev pub IsBlockComment : List ℕ → Type 0
IsBlockComment part = (body : List ℕ) × (part ≡ 47 ∷ 42 ∷ (body ++ 42 ∷ 47 ∷ [])) × NoClose (body ++ 42 ∷ [])

-- from `//` up to the next line feed or the end
abbrev pub IsLineComment : List ℕ → List ℕ → Type 0
IsLineComment part rest = (body : List ℕ) × (part ≡ 47 ∷ 47 ∷ body) × AllPass is_in_line body
    × ((rest ≡ []) ⊎ ((more : List ℕ) × (rest ≡ 10 ∷ more)))

-- the longest token at the front of the text, where no comment begins
pub record IsToken (text part : List ℕ) (sort : Sort) : Type 0 where
  pub spells : Spells part sort
  pub longest : (other rest : List ℕ) (any : Sort) → text ≡ other ++ rest → Spells other any
      → length other ≤ length part
  pub no_comment : OpensComment text → ⊥

-- what the part at the front of the text gives: a blank or a comment nothing, a token its sort
abbrev pub Gives : List ℕ → Option Sort → List ℕ → List ℕ → Type 0
Gives text None part rest = IsBlank part ⊎ (IsBlockComment part ⊎ IsLineComment part rest)
Gives text (Some sort) part rest = IsToken text part sort

-- the text is this piece and a rest
pub record IsPiece (text : List ℕ) (gives : Option Sort) (part rest : List ℕ) : Type 0 where
  pub split : text ≡ part ++ rest
  pub kind : Gives text gives part rest

abbrev pub token_of : Option Sort → Span → List Token
token_of None span = []
token_of (Some sort) span = record { sort = sort; span = span } ∷ []

-- after the front, n pieces of the text are cut: they have these tokens, end after `done`, and leave this rest
abbrev pub Cuts : ℕ → List ℕ → List ℕ → List Token → List ℕ → List ℕ → Type 0
Cuts zero front text tokens done rest = (tokens ≡ []) × (done ≡ front) × (rest ≡ text)
Cuts (suc n) front text tokens done rest =
    (gives : Option Sort) × (part after : List ℕ) × (more : List Token) × IsPiece text gives part after
    × (tokens ≡ token_of gives (span_of front part) ++ more) × Cuts n (front ++ part) after more done rest
