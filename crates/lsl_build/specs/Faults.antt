-- The first fault of a text: a lexical one, otherwise a syntax fault, otherwise one of names and kinds.
use Rattle.std.specs.Prelude.{◌≡◌, ℕ, List, ◌⊎◌}
use Rattle.lsl_text.specs.declared.Refusal.{Refusal}
use Rattle.lsl_text.specs.declared.Refusal.TheVariants as refusals
use Rattle.lsl_lex.specs.Lexed.{Lexes, LexFirst}
use Rattle.lsl_lex.specs.declared.faults.LexFault.{LexFault}
use Rattle.lsl_lex.specs.declared.faults.LexKind.{LexKind}
use Rattle.lsl_lex.specs.declared.faults.LexKind.TheVariants.{NotText, StringEnd, CommentEnd, FloatLiteral, StrayCharacter, TextTooLong}
use Rattle.lsl_lex.specs.declared.token_types.Tokens.{Tokens}
use Rattle.lsl_tree.specs.Scripts.{Tree}
use Rattle.lsl_parse.specs.Faults.{Derives, IsFirst}
use Rattle.lsl_parse.specs.FaultNumbers.{number_of}
use Rattle.lsl_parse.specs.declared.fault.ParseFault.{ParseFault}
use Rattle.lsl_type.specs.Typed.{TypeFirst}
use Rattle.lsl_bodies.specs.FaultNumbers.{number_of as semantic_number_of}
use Rattle.lsl_bodies.specs.declared.faults.TypeFault.{TypeFault}
use Rattle.lsl_build.specs.declared.faults.BuildFault.{BuildFault}

abbrev pub lexical_number_of : LexKind → ℕ
lexical_number_of NotText = 1
lexical_number_of StringEnd = 2
lexical_number_of CommentEnd = 3
lexical_number_of FloatLiteral = 4
lexical_number_of StrayCharacter = 5
lexical_number_of TextTooLong = 6

abbrev pub lexical_fault_of : LexFault → BuildFault
lexical_fault_of fault = record { number = lexical_number_of fault.kind; span = fault.span }

abbrev pub syntax_fault_of : ParseFault → BuildFault
syntax_fault_of fault = record { number = number_of fault.kind; span = fault.span }

abbrev pub semantic_fault_of : TypeFault → BuildFault
semantic_fault_of fault = record { number = semantic_number_of fault.kind; span = fault.span }

-- a refusal with another fault in it
abbrev pub refused_with : {F : Type 0} → (F → BuildFault) → Refusal F → Refusal BuildFault
refused_with seen (refusals.Fault fault) = refusals.Fault (seen fault)
refused_with seen refusals.NoMemory = refusals.NoMemory

-- the text's first lexical fault
pub record IsLexical (text : List ℕ) (fault : BuildFault) : Type 0 where
  pub lexical : LexFault
  pub first : LexFirst text lexical
  pub fault_is : fault ≡ lexical_fault_of lexical

-- the first syntax fault of the text's tokens
pub record IsSyntactic (text : List ℕ) (fault : BuildFault) : Type 0 where
  pub tokens : Tokens
  pub lexed : Lexes text tokens
  pub syntactic : ParseFault
  pub first : IsFirst tokens.list tokens.end syntactic
  pub fault_is : fault ≡ syntax_fault_of syntactic

-- the first fault of names and kinds of the text's script
pub record IsSemantic (text : List ℕ) (fault : BuildFault) : Type 0 where
  pub tokens : Tokens
  pub lexed : Lexes text tokens
  pub script : Tree
  pub derived : Derives tokens.list script
  pub semantic : TypeFault
  pub first : TypeFirst script semantic
  pub fault_is : fault ≡ semantic_fault_of semantic

abbrev pub FirstFault : List ℕ → BuildFault → Type 0
FirstFault text fault = IsLexical text fault ⊎ (IsSyntactic text fault ⊎ IsSemantic text fault)

-- this fault, or out of memory
abbrev pub IsThat : BuildFault → Refusal BuildFault → Type 0
IsThat fault (refusals.Fault other) = other ≡ fault
IsThat fault refusals.NoMemory = Unit {0}
