-- The grammar of whole scripts.
use Rattle.std.specs.Prelude.{ℕ, Option, None, Some, List, [], ◌∷◌, ◌++◌}
use Rattle.lsl_value.specs.declared.tagged.Kind.{Kind}
use Rattle.lsl_tree.specs.declared.expression.Name.{Name as Named}
use Rattle.lsl_tree.specs.declared.script.Atom.{Atom}
use Rattle.lsl_tree.specs.declared.script.Atom.TheVariants as part
use Rattle.lsl_tree.specs.declared.script.Param.{Param}
use Rattle.lsl_tree.specs.Scripts as tree
use Rattle.lsl_tree.specs.Scripts.{Simple, Header, Handler, State, Tree}
use Rattle.lsl_grammar.specs.Language.{ret, ◌>>=◌, ◌∣◌, rounds}
use Rattle.lsl_lex.specs.declared.token_types.Sort.TheVariants.{DefaultWord, StateWord, Minus, Assign, ParenOpen, ParenClose, BracketOpen, BracketClose, BraceOpen, BraceClose, Semicolon}
use Rattle.lsl_signs.specs.Kinds.{Name, Int, Str, types, type_of, name_of, text_of, integer_of}
use Rattle.lsl_read.specs.ExpressionGrammar.{Language, any, sign, listing}
use Rattle.lsl_read.specs.StatementGrammar.{StmtRoom, block, stmt_room_of}

-- one more at the end
abbrev pub added : {A : Type 0} → List A → A → List A
added before next = before ++ next ∷ []

-- each as often as it occurs, in order
abbrev pub many : {A : Type 0} → Language A → List A → Language (List A)
many element before = rounds (λ before. do
  next ← element
  ret (added before next)) before

-- '-' INT
abbrev pub negative : Language Atom
negative = do
  minus ← sign Minus
  n ← sign Int
  ret (part.Negative (integer_of n.sort) minus.span)

abbrev pub text : Language Atom
text = do
  t ← sign Str
  ret (part.Str (text_of t.sort) t.span)

abbrev pub constant : Language Atom
constant = do
  name ← sign Name
  ret (part.Constant (name_of name))

abbrev pub whole_number : Language Atom
whole_number = do
  n ← sign Int
  ret (part.Int (integer_of n.sort) n.span)

-- [ '-' ] INT | STRING | NAME
abbrev pub atom : Language Atom
atom = negative ∣ text ∣ constant ∣ whole_number

-- atom | '[' [ atom { ',' atom } ] ']'
abbrev pub initial : Language Simple
initial =
    (do
      start ← sign BracketOpen
      all ← listing BracketClose added [] atom
      ret (tree.Atoms start.span all))
    ∣ (do
      one ← atom
      ret (tree.Atom one))

-- TYPE NAME
abbrev pub param : Language Param
param = do
  kind ← any types
  name ← sign Name
  ret (record { kind = type_of kind.sort; name = name_of name })

-- '(' [ params ] ')'
abbrev pub params : Language (List Param)
params = do
  start ← sign ParenOpen
  listing ParenClose added [] param

-- [ '=' simple ] ';' after a global's name
abbrev pub global_behind : Kind → Named → Language Header
global_behind kind name =
    (do
      equals ← sign Assign
      value ← initial
      end ← sign Semicolon
      ret (tree.Global kind name (Some value)))
    ∣ (do
      end ← sign Semicolon
      ret (tree.Global kind name None))

-- '(' [ params ] ')' block after a function's name
abbrev pub function_behind : StmtRoom → Option Kind → Named → Language Header
function_behind room kind name = do
  all ← params
  inner ← block room
  ret (tree.Function kind name all inner)

-- global | function
abbrev pub header : StmtRoom → Language Header
header room =
    (do
      kind ← any types
      name ← sign Name
      function_behind room (Some (type_of kind.sort)) (name_of name) ∣ global_behind (type_of kind.sort) (name_of name))
    ∣ (do
      name ← sign Name
      function_behind room None (name_of name))

-- NAME '(' [ params ] ')' block
abbrev pub handler : StmtRoom → Language Handler
handler room = do
  name ← sign Name
  all ← params
  inner ← block room
  ret (record { name = name_of name; params = all; body = inner })

-- '{' handler { handler } '}'
abbrev pub handlers : StmtRoom → Language (List Handler)
handlers room = do
  start ← sign BraceOpen
  first ← handler room
  all ← many (handler room) (first ∷ [])
  end ← sign BraceClose
  ret all

-- 'state' NAME body
abbrev pub state : StmtRoom → Language State
state room = do
  word ← sign StateWord
  name ← sign Name
  all ← handlers room
  ret (record { name = name_of name; handlers = all })

-- { global | function } 'default' body { 'state' NAME body }
abbrev pub script_rule : StmtRoom → Language Tree
script_rule room = do
  headers ← many (header room) []
  word ← sign DefaultWord
  start ← handlers room
  states ← many (state room) []
  ret (record { headers = headers; default = start; states = states })

-- a script, with constructs nested at most this deep, and heights below the limit
unfoldable pub script : Option ℕ → ℕ → Language Tree
script limit d = script_rule (stmt_room_of limit d)
