-- Reading whole scripts by the next token, one reader for each rule of the grammar.
use Rattle.std.specs.Prelude.{ℕ, Option, None, Some, List, [], ◌∷◌, Ok, Err}
use Rattle.lsl_value.specs.declared.tagged.Kind.{Kind}
use Rattle.lsl_tree.specs.declared.expression.Name.{Name as Named}
use Rattle.lsl_tree.specs.declared.script.Atom.{Atom}
use Rattle.lsl_tree.specs.declared.script.Atom.TheVariants as part
use Rattle.lsl_tree.specs.declared.script.Param.{Param}
use Rattle.lsl_tree.specs.Scripts as tree
use Rattle.lsl_tree.specs.Scripts.{Simple, Header, Handler, State, Tree}
use Rattle.lsl_grammar.specs.declared.Why.TheVariants.{Unexpected}
use Rattle.lsl_grammar.specs.Reading.{ret_r}
use Rattle.lsl_lex.specs.declared.token_types.Sort.{Sort}
use Rattle.lsl_lex.specs.declared.token_types.Sort.TheVariants.{IntegerWord, StringWord, KeyWord, ListWord, DefaultWord, StateWord, Minus, Assign, ParenOpen, ParenClose, BracketOpen, BracketClose, BraceOpen, BraceClose, Semicolon}
use Rattle.lsl_signs.specs.Kinds.{Name, Str, types, type_of, name_of, text_of, integer_of}
use Rattle.lsl_read.specs.ExpressionReading.{TokenReader, ◌>>=◌, any_r, sign_r, int_r, where_r, while_r, listing_r}
use Rattle.lsl_read.specs.StatementReading.{StmtRoom_r, block_r, stmt_room_r}
use Rattle.lsl_read.specs.ScriptGrammar.{added}

abbrev pub next_r : {A : Type 0} → TokenReader A → List A → TokenReader (List A)
next_r element before = do
  next ← element
  ret_r (added before next)

-- elements as long as the next token is of these kinds
abbrev pub many_r : {A : Type 0} → List Sort → TokenReader A → List A → TokenReader (List A)
many_r ks element before = while_r ks (next_r element) before

abbrev pub negative_r : TokenReader Atom
negative_r = do
  minus ← sign_r Minus
  n ← int_r
  ret_r (part.Negative (integer_of n.sort) minus.span)

abbrev pub text_r : TokenReader Atom
text_r = do
  t ← sign_r Str
  ret_r (part.Str (text_of t.sort) t.span)

abbrev pub constant_r : TokenReader Atom
constant_r = do
  name ← sign_r Name
  ret_r (part.Constant (name_of name))

abbrev pub whole_number_r : TokenReader Atom
whole_number_r = do
  n ← int_r
  ret_r (part.Int (integer_of n.sort) n.span)

abbrev pub atom_r : TokenReader Atom
atom_r = where_r (Minus ∷ []) negative_r (where_r (Str ∷ []) text_r (where_r (Name ∷ []) constant_r whole_number_r))

abbrev pub initial_r : TokenReader Simple
initial_r = where_r (BracketOpen ∷ [])
    (do
      start ← sign_r BracketOpen
      all ← listing_r BracketClose added [] atom_r
      ret_r (tree.Atoms start.span all))
    (do
      one ← atom_r
      ret_r (tree.Atom one))

abbrev pub param_r : TokenReader Param
param_r = do
  kind ← any_r types
  name ← sign_r Name
  ret_r (record { kind = type_of kind.sort; name = name_of name })

abbrev pub params_r : TokenReader (List Param)
params_r = do
  start ← sign_r ParenOpen
  listing_r ParenClose added [] param_r

abbrev pub global_behind_r : Kind → Named → TokenReader Header
global_behind_r kind name = where_r (Assign ∷ [])
    (do
      equals ← sign_r Assign
      value ← initial_r
      end ← sign_r Semicolon
      ret_r (tree.Global kind name (Some value)))
    (do
      end ← sign_r Semicolon
      ret_r (tree.Global kind name None))

abbrev pub function_behind_r : StmtRoom_r → Option Kind → Named → TokenReader Header
function_behind_r room kind name = do
  all ← params_r
  inner ← block_r room
  ret_r (tree.Function kind name all inner)

abbrev pub typed_r : StmtRoom_r → TokenReader Header
typed_r room = do
  kind ← any_r types
  name ← sign_r Name
  where_r (ParenOpen ∷ []) (function_behind_r room (Some (type_of kind.sort)) (name_of name))
      (global_behind_r (type_of kind.sort) (name_of name))

abbrev pub untyped_r : StmtRoom_r → TokenReader Header
untyped_r room = do
  name ← sign_r Name
  function_behind_r room None (name_of name)

abbrev pub header_r : StmtRoom_r → TokenReader Header
header_r room = where_r types (typed_r room) (untyped_r room)

abbrev pub handler_r : StmtRoom_r → TokenReader Handler
handler_r room = do
  name ← sign_r Name
  all ← params_r
  inner ← block_r room
  ret_r (record { name = name_of name; params = all; body = inner })

abbrev pub handlers_r : StmtRoom_r → TokenReader (List Handler)
handlers_r room = do
  start ← sign_r BraceOpen
  first ← handler_r room
  all ← many_r (Name ∷ []) (handler_r room) (first ∷ [])
  end ← sign_r BraceClose
  ret_r all

abbrev pub state_r : StmtRoom_r → TokenReader State
state_r room = do
  word ← sign_r StateWord
  name ← sign_r Name
  all ← handlers_r room
  ret_r (record { name = name_of name; handlers = all })

-- the first tokens of a global or a function
abbrev pub header_heads : List Sort
header_heads = IntegerWord ∷ StringWord ∷ KeyWord ∷ ListWord ∷ Name ∷ []

abbrev pub script_rule_r : StmtRoom_r → TokenReader Tree
script_rule_r room = do
  headers ← many_r header_heads (header_r room) []
  word ← sign_r DefaultWord
  start ← handlers_r room
  states ← many_r (StateWord ∷ []) (state_r room) []
  ret_r (record { headers = headers; default = start; states = states })

unfoldable pub script_r : Option ℕ → ℕ → TokenReader Tree
script_r limit d = script_rule_r (stmt_room_r limit d)

-- nothing follows a script
abbrev pub end_r : Tree → TokenReader Tree
end_r a [] = Ok (a, [])
end_r a (t ∷ ts) = Err (Unexpected, t ∷ ts)

unfoldable pub all_r : Option ℕ → ℕ → TokenReader Tree
all_r limit d = do
  text ← script_r limit d
  end_r text
