-- The names of the globals of a script's text.
use Rattle.std.specs.Prelude.{◌≡◌, ℕ, List, [], ◌∷◌}
use Rattle.std.specs.List.{AllZip, flat_map}
use Rattle.lsl_lex.specs.Lexed.{Lexes}
use Rattle.lsl_lex.specs.declared.token_types.Tokens.{Tokens}
use Rattle.lsl_parse.specs.Faults.{Derives}
use Rattle.lsl_tree.specs.Scripts.{Global, Function, Header, Tree}

-- of a declaration, if it is a global's
abbrev pub names_in_header : Header → List (List ℕ)
names_in_header (Global kind name value) = name.text ∷ []
names_in_header (Function kind name params body) = []

-- in the order of declaration
abbrev pub global_names : Tree → List (List ℕ)
global_names script = flat_map names_in_header script.headers

-- the tokens of the text are derived as this script
pub record IsScriptOf (text : List ℕ) (script : Tree) : Type 0 where
  pub tokens : Tokens
  pub lexed : Lexes text tokens
  pub derived : Derives tokens.list script

-- the text is a script
abbrev pub IsScript : List ℕ → Type 0
IsScript text = (script : Tree) × IsScriptOf text script

-- these are the names of the text's globals
abbrev pub HasGlobals : List ℕ → List (List ℕ) → Type 0
HasGlobals text names = (script : Tree) × IsScriptOf text script × (names ≡ global_names script)

-- text by text
abbrev pub HaveGlobals : (texts : List (List ℕ)) → List (List (List ℕ)) → Type 0
HaveGlobals texts names = AllZip HasGlobals texts names
