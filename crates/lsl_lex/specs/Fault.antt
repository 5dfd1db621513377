-- Where a text has no piece: an open string, an open comment, a number with a point, a stray character.
use Rattle.std.specs.Prelude.{◌≡◌, ℕ, ◌⊎◌, List, ◌∷◌, ◌++◌, true, false}
use Rattle.lsl_text.specs.Number.{is_blank}
use Rattle.lsl_lex.specs.Bytes.{is_decimal}
use Rattle.lsl_lex.specs.Strings.{IsStringBody}
use Rattle.lsl_lex.specs.Tokens.{IsDigits, Spells}
use Rattle.lsl_lex.specs.declared.faults.LexKind.{LexKind}
use Rattle.lsl_lex.specs.declared.faults.LexKind.TheVariants.{StringEnd, CommentEnd, FloatLiteral, StrayCharacter}
use Rattle.lsl_lex.specs.declared.token_types.Sort.{Sort}

-- the bytes hold no end of a block comment
abbrev pub NoClose : List ℕ → Type 0
NoClose bytes = (front rest : List ℕ) → bytes ≡ front ++ 42 ∷ 47 ∷ rest → ⊥

-- a comment begins here
abbrev pub OpensComment : List ℕ → Type 0
OpensComment text = (b : ℕ) × (rest : List ℕ) × (text ≡ 47 ∷ b ∷ rest) × ((b ≡ 42) ⊎ (b ≡ 47))

abbrev pub IsOpenString : List ℕ → Type 0
IsOpenString text = (more : List ℕ) × (text ≡ 34 ∷ more)
    × ((body rest : List ℕ) → more ≡ body ++ 34 ∷ rest → IsStringBody body → ⊥)

abbrev pub IsOpenComment : List ℕ → Type 0
IsOpenComment text = (more : List ℕ) × (text ≡ 47 ∷ 42 ∷ more) × NoClose more

-- decimal digits before a point, or a point before a decimal digit
abbrev pub IsFloat : List ℕ → Type 0
IsFloat text =
    ((digits rest : List ℕ) × (text ≡ digits ++ 46 ∷ rest) × IsDigits is_decimal digits)
    ⊎ ((digit : ℕ) × (rest : List ℕ) × (text ≡ 46 ∷ digit ∷ rest) × (is_decimal digit ≡ true))

-- nothing else that a text can begin with is here
pub record IsStray (text : List ℕ) : Type 0 where
  pub some : (b : ℕ) × (rest : List ℕ) × (text ≡ b ∷ rest) × (is_blank b ≡ false)
  pub no_comment : OpensComment text → ⊥
  pub no_token : (part rest : List ℕ) (sort : Sort) → text ≡ part ++ rest → Spells part sort → ⊥
  pub no_string : IsOpenString text → ⊥
  pub no_float : IsFloat text → ⊥

-- the fault of this kind is at the front of the text
abbrev pub Case : List ℕ → LexKind → Type 0
Case text StringEnd = IsOpenString text
Case text CommentEnd = IsOpenComment text
Case text FloatLiteral = IsFloat text
Case text StrayCharacter = IsStray text
Case text _ = ⊥
