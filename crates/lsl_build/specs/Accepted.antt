-- The texts that are accepted, and their programs.
use Rattle.std.specs.Prelude.{ℕ, List}
use Rattle.lsl_lex.specs.Lexed.{Lexes}
use Rattle.lsl_lex.specs.declared.token_types.Tokens.{Tokens}
use Rattle.lsl_tree.specs.Scripts.{Tree}
use Rattle.lsl_tree.specs.Program.{Program}
use Rattle.lsl_parse.specs.Faults.{Derives}
use Rattle.lsl_type.specs.Typed.{Typed}

-- the text's tokens are derived as this script, which the rules of names and kinds make this program
pub record IsAccepted (text : List ℕ) (script : Tree) (program : Program) : Type 0 where
  pub tokens : Tokens
  pub lexed : Lexes text tokens
  pub derived : Derives tokens.list script
  pub typed : Typed script program

-- the text is accepted as this program
abbrev pub Accepted : List ℕ → Program → Type 0
Accepted text program = (script : Tree) × IsAccepted text script program
