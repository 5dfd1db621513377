-- Which tokens are a script, and the first fault of those that aren't.
use Rattle.std.specs.Prelude.{◌≡◌, ℕ, ℤ, zero, suc, ◌+◌, ◌<◌, ◌≤◌, true, None, Some, List, [], ◌∷◌, ◌++◌, ◌⊎◌, length, take, slice_get}
use Rattle.lsl_text.specs.declared.Span.{Span}
use Rattle.lsl_text.specs.declared.Refusal.{Refusal}
use Rattle.lsl_text.specs.declared.Refusal.TheVariants as refusal
use Rattle.lsl_lex.specs.declared.token_types.Token.{Token}
use Rattle.lsl_tree.specs.Scripts.{Tree}
use Rattle.lsl_grammar.specs.Language.{among}
use Rattle.lsl_signs.specs.Limits.{most_constructs, height_limit, most_tokens}
use Rattle.lsl_lex.specs.declared.token_types.Sort.{Sort}
use Rattle.lsl_lex.specs.declared.token_types.Sort.TheVariants.{Int, FloatWord, VectorWord, RotationWord, QuaternionWord, Less}
use Rattle.lsl_parse.specs.declared.fault.ParseKind.{ParseKind}
use Rattle.lsl_parse.specs.declared.fault.ParseKind.TheVariants.{Unexpected, EndOfText, FloatType, TooDeep, TooLarge}
use Rattle.lsl_parse.specs.declared.fault.ParseFault.{ParseFault}
use Rattle.lsl_signs.specs.Kinds.{codes, token_code}
use Rattle.lsl_read.specs.ScriptGrammar.{script}

-- the tokens are a script with this tree, within the limits
pub record Derives (tokens : List Token) (tree : Tree) : Type 0 where
  pub derived : (script (Some height_limit) most_constructs).whole tokens tree
  pub counted : length tokens ≤ most_tokens

-- the tokens begin a script within the limits of depth and height
abbrev pub Shallow : List Token → Type 0
Shallow tokens = (script (Some height_limit) most_constructs).opens tokens

-- the tokens begin a script within all limits
pub record Within (tokens : List Token) : Type 0 where
  pub shallow : Shallow tokens
  pub counted : length tokens ≤ most_tokens

-- the tokens begin a script, however deep and high
abbrev pub Open : List Token → Type 0
Open tokens = (depth : ℕ) × (script None depth).opens tokens

-- after these tokens an operand may begin: an INT would continue them
pub record WantsOperand (tokens : List Token) : Type 0 where
  pub operand : Token
  pub value : ℤ
  pub integer : operand.sort ≡ Int value
  pub goes_on : Open (tokens ++ operand ∷ [])

-- the words of types that aren't in the language
abbrev pub refused_words : List Sort
refused_words = FloatWord ∷ VectorWord ∷ RotationWord ∷ QuaternionWord ∷ []

-- after these tokens the next one asks for what isn't in the language
abbrev pub IsFloatType : List Token → Token → Type 0
IsFloatType before t = (among (token_code t) (codes refused_words) ≡ true) ⊎ ((t.sort ≡ Less) × WantsOperand before)

pub record IsFloatTypeAt (tokens : List Token) (place : ℕ) : Type 0 where
  pub token : Token
  pub there : slice_get tokens place ≡ Some token
  pub refused : IsFloatType (take place tokens) token

-- what is wrong with the token at this place, or with the end
abbrev pub Breaks : List Token → ℕ → ParseKind → Type 0
Breaks tokens place EndOfText = (place ≡ length tokens) × ((tree : Tree) → Derives tokens tree → ⊥)
Breaks tokens place Unexpected = (place < length tokens) × (Open (take (place + 1) tokens) → ⊥)
    × (IsFloatTypeAt tokens place → ⊥)
Breaks tokens place FloatType = (place < length tokens) × (Open (take (place + 1) tokens) → ⊥)
    × IsFloatTypeAt tokens place
Breaks tokens place TooDeep = (place < length tokens) × Open (take (place + 1) tokens)
    × (Shallow (take (place + 1) tokens) → ⊥)
Breaks tokens place TooLarge = (place < length tokens) × Shallow (take (place + 1) tokens) × (most_tokens ≤ place)

-- the earliest place up to which the tokens begin no script within the limits; or the end, if they aren't one
pub record ParseFirst (tokens : List Token) (place : ℕ) (kind : ParseKind) : Type 0 where
  pub before : (n : ℕ) → n ≤ place → Within (take n tokens)
  pub here : Breaks tokens place kind

-- the place of the token here, or the end
abbrev pub span_at : List Token → Span → ℕ → Span
span_at [] end place = end
span_at (t ∷ ts) end zero = t.span
span_at (t ∷ ts) end (suc place) = span_at ts end place

-- the fault is the first, and its span that of its token
abbrev pub IsFirst : List Token → Span → ParseFault → Type 0
IsFirst tokens end fault = (place : ℕ) × ParseFirst tokens place fault.kind × (fault.span ≡ span_at tokens end place)

-- the refusal is a fault of which this holds, or out of memory
abbrev pub IfFault : {F : Type 0} → Refusal F → (F → Type 0) → Type 0
IfFault refusal.NoMemory P = Unit {0}
IfFault (refusal.Fault f) P = P f

-- the fault is of this kind, and its span that of the token at this place
abbrev pub IsFaultAt : List Token → Span → ℕ → ParseKind → ParseFault → Type 0
IsFaultAt tokens end place kind fault = (fault.kind ≡ kind) × (fault.span ≡ span_at tokens end place)
