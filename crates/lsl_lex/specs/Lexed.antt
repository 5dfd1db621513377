-- The tokens of a text, and its first fault.
use Rattle.std.specs.Prelude.{◌≡◌, ℕ, ◌<◌, ◌≤◌, List, [], ◌++◌, length, take}
use Rattle.std.specs.Str.{IsUtf8, IsValidUpTo}
use Rattle.lsl_text.specs.Place.{span_of}
use Rattle.lsl_text.specs.declared.Refusal.{Refusal}
use Rattle.lsl_text.specs.declared.Refusal.TheVariants.{Fault, NoMemory}
use Rattle.lsl_lex.specs.Fault.{Case}
use Rattle.lsl_lex.specs.Limits.{source_bytes}
use Rattle.lsl_lex.specs.Pieces.{Cuts}
use Rattle.lsl_lex.specs.declared.faults.LexFault.{LexFault}
use Rattle.lsl_lex.specs.declared.faults.LexKind.{LexKind}
use Rattle.lsl_lex.specs.declared.faults.LexKind.TheVariants.{TextTooLong, NotText}
use Rattle.lsl_lex.specs.declared.token_types.Token.{Token}
use Rattle.lsl_lex.specs.declared.token_types.Tokens.{Tokens}

-- a text of at most 65,536 bytes of UTF-8
pub record IsSource (text : List ℕ) : Type 0 where
  pub short : length text ≤ source_bytes
  pub valid : IsUtf8 text

-- a text of UTF-8 ends with these bytes
abbrev pub EndsText : List ℕ → Type 0
EndsText bytes = (front : List ℕ) × IsUtf8 (front ++ bytes)

-- the text is cut into these tokens to its end
pub record Lexes (text : List ℕ) (tokens : Tokens) : Type 0 where
  pub source : IsSource text
  pub cut : (n : ℕ) × (done : List ℕ) × Cuts n [] text tokens.list done []
  pub end : tokens.end ≡ span_of text []

-- no cut of fewer pieces ends at a fault
abbrev pub NoneBefore : ℕ → List ℕ → Type 0
NoneBefore n text = (m : ℕ) (tokens : List Token) (front rest : List ℕ) (kind : LexKind) → m < n
    → Cuts m [] text tokens front rest → Case rest kind → ⊥

-- the front of the text is cut, the fault follows it, and there is none before
pub record StopsAt (text : List ℕ) (kind : LexKind) (front : List ℕ) : Type 0 where
  pub source : IsSource text
  pub cut : (n : ℕ) × (tokens : List Token) × (rest : List ℕ) × Cuts n [] text tokens front rest
      × Case rest kind × NoneBefore n text

-- right after this front of the text is its first fault, of this kind
abbrev pub IsFirstFault : List ℕ → LexKind → List ℕ → Type 0
IsFirstFault text TextTooLong front = (source_bytes < length text) × (front ≡ [])
IsFirstFault text NotText front = (length text ≤ source_bytes) × (n : ℕ) × IsValidUpTo text n × (front ≡ take n text)
IsFirstFault text kind front = StopsAt text kind front

-- the first fault of the text; its span is empty, and is where the fault is
abbrev pub LexFirst : List ℕ → LexFault → Type 0
LexFirst text fault = (front : List ℕ) × IsFirstFault text fault.kind front × (fault.span ≡ span_of front [])

-- the text is refused for its first fault, or because memory ran out
abbrev pub IsRefused : List ℕ → Refusal LexFault → Type 0
IsRefused text (Fault fault) = LexFirst text fault
IsRefused text NoMemory = Unit {0}
