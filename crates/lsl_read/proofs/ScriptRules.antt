-- Each rule of whole scripts is read.
use Rattle.std.proofs.Common.{◌≡◌, ℕ, suc, ◌<◌, true, false, Option, None, Some, List, [], ◌∷◌, ◌++◌, inr, refl}
use Rattle.lsl_value.specs.declared.tagged.Kind.{Kind}
use Rattle.lsl_tree.specs.declared.expression.Name.{Name as Named}
use Rattle.lsl_tree.specs.declared.script.Atom.TheVariants as part
use Rattle.lsl_tree.specs.Scripts as tree
use Rattle.lsl_tree.specs.Scripts.{Header, Handler, State, Tree}
use Rattle.lsl_grammar.specs.declared.Why.TheVariants.{Unexpected, OperandDue}
use Rattle.lsl_grammar.specs.Language.{among, ret, ◌>>=◌ as ◌>=>◌}
use Rattle.lsl_grammar.specs.Reading.{ret_r, then_r}
use Rattle.lsl_grammar.proofs.Rule.{disjoint, apart_by, sub_left, sub_right, Filled, Rule, Solid, then_rule, rounds_rule, ret_rule, sign_rule, sign_full, solid_sign, solid_then, solid_ret, solid_or}
use Rattle.lsl_lex.specs.declared.token_types.Sort.{Sort}
use Rattle.lsl_lex.specs.declared.token_types.Sort.TheVariants.{DefaultWord, StateWord, Minus, Assign, ParenOpen, ParenClose, BracketOpen, BracketClose, BraceOpen, BraceClose, Semicolon}
use Rattle.lsl_signs.specs.Kinds.{Name, Int, Str, codes, token_code, types, type_of, name_of, text_of, integer_of}
use Rattle.lsl_read.specs.ExpressionGrammar.{Language}
use Rattle.lsl_read.specs.ExpressionReading.{TokenReader}
use Rattle.lsl_read.specs.StatementGrammar.{block, stmt_room_of}
use Rattle.lsl_read.specs.StatementReading.{block_r, stmt_room_r}
use Rattle.lsl_read.specs.ScriptGrammar.{added, many, atom, initial, param, params, global_behind, function_behind, header, handler, handlers, state, script_rule, script}
use Rattle.lsl_read.specs.ScriptReading.{next_r, many_r, atom_r, initial_r, param_r, params_r, global_behind_r, function_behind_r, header_r, handler_r, handlers_r, state_r, header_heads, script_rule_r, script_r}
use Rattle.lsl_read.proofs.ExpressionRules.{probe, listing_solid}
use Rattle.lsl_read.proofs.StatementRules.{block_is_read}

abbrev made : List Header → List Handler → List State → Tree
made headers start states = record { headers = headers; default = start; states = states }

pub atom_heads : List ℕ
atom_heads = codes (Minus ∷ []) ++ (codes (Str ∷ []) ++ (codes (Name ∷ []) ++ codes (Int ∷ [])))

pub atom_solid : Solid token_code probe atom atom atom_r atom_r atom_heads []
unfolding atom_heads
atom_solid = solid_or token_code probe
    (solid_sign token_code probe Unexpected (codes (Minus ∷ [])) (codes (Int ∷ [])) [] _ _ _ _ refl refl
    (λ minus. sign_rule token_code probe OperandDue (codes (Int ∷ [])) [] (λ _. []) _ _ _ _ refl
    (λ n. ret_rule token_code probe (part.Negative (integer_of n.sort) minus.span) [] _)))
    (solid_or token_code probe
    (solid_sign token_code probe Unexpected (codes (Str ∷ [])) [] [] _ _ _ _ refl refl
    (λ t. ret_rule token_code probe (part.Str (text_of t.sort) t.span) [] _))
    (solid_or token_code probe
    (solid_sign token_code probe Unexpected (codes (Name ∷ [])) [] [] _ _ _ _ refl refl
    (λ name. ret_rule token_code probe (part.Constant (name_of name)) [] _))
    (solid_sign token_code probe OperandDue (codes (Int ∷ [])) [] [] _ _ _ _ refl refl
    (λ n. ret_rule token_code probe (part.Int (integer_of n.sort) n.span) [] _))
    refl) refl) refl

initial_heads : List ℕ
initial_heads = codes (BracketOpen ∷ []) ++ atom_heads

initial_solid : Solid token_code probe initial initial initial_r initial_r initial_heads []
unfolding initial_heads atom_heads
initial_solid = solid_or token_code probe
    (solid_sign token_code probe Unexpected (codes (BracketOpen ∷ [])) (codes (BracketClose ∷ []) ++ atom_heads)
    [] _ _ _ _ refl refl (λ start. (solid_ret token_code probe (λ all. tree.Atoms start.span all)
    (listing_solid added [] atom atom atom_r atom_r atom_heads [] atom_solid refl refl BracketClose [] refl
    refl refl refl)).rule))
    (solid_ret token_code probe tree.Atom atom_solid)
    refl

pub param_solid : Solid token_code probe param param param_r param_r (codes types) []
param_solid = solid_sign token_code probe Unexpected (codes types) (codes (Name ∷ [])) [] _ _ _ _ refl refl
    (λ kind. sign_rule token_code probe Unexpected (codes (Name ∷ [])) [] (λ _. []) _ _ _ _ refl
    (λ name. ret_rule token_code probe (record { kind = type_of kind.sort; name = name_of name }) [] _))

params_solid : Solid token_code probe params params params_r params_r (codes (ParenOpen ∷ [])) []
params_solid = solid_sign token_code probe Unexpected (codes (ParenOpen ∷ []))
    (codes (ParenClose ∷ []) ++ codes types) [] _ _ _ _ refl refl
    (λ start. (listing_solid added [] param param param_r param_r (codes types) [] param_solid refl refl
    ParenClose [] refl refl refl refl).rule)

-- elements, each of which begins with these kinds
module _ {A : Type 0} (ks : List Sort) (L M : Language A) (p q : TokenReader A)
    (s : Solid token_code probe L M p q (codes ks) []) (lone : among probe (codes ks) ≡ false) where
  pub each_solid : (before : List A) → Solid token_code probe (L >=> λ next. ret (added before next))
      (M >=> λ next. ret (added before next)) (next_r p before) (next_r q before) (codes ks) []
  each_solid before = solid_ret token_code probe (added before) s

  many_rule : (before : List A) → Rule token_code probe (many L before) (many M before) (many_r ks p before)
      (many_r ks q before) (codes ks) (λ _. codes ks)
  many_rule before = rounds_rule token_code probe _ _ (next_r p) (next_r q) (codes ks) (codes ks) []
      (λ _. codes ks) (λ b. (each_solid b).rule) (λ k h. h) (λ k h m. cc) (λ b. (each_solid b).full) refl
      (inr (λ b. (each_solid b).eats)) (λ _ k h. h) (λ _ k h. absurd (cc)) before

  -- elements, and after them what may not be empty
  many_then : {B : Type 0} (g : List ℕ) (N : B → List ℕ) (K J : List A → Language B)
      (k k' : List A → TokenReader B) → ((x : List A) → Rule token_code probe (K x) (J x) (k x) (k' x) g N)
      → ((x : List A) → Filled (K x)) → disjoint g (codes ks) ≡ true →
      (before : List A) → Rule token_code probe (many L before >=> K) (many M before >=> J)
      (then_r (many_r ks p before) k) (then_r (many_r ks q before) k') (codes ks ++ g) N
  many_then g N K J k k' r full e before =
      then_rule token_code probe (many L before) (many M before) K J (many_r ks p before) (many_r ks q before) k
      k' (codes ks) (λ _. codes ks) (λ _. g) (codes ks ++ g) N
      (many_rule before) r (λ x. apart_by g (codes ks) e) (λ x. lone) (λ x y w. absurd ((full x).none y w))
      (sub_left (codes ks) g) (λ x w. sub_right (codes ks) g)

-- a part that any token may follow, and after it what may be empty
part_then : {A B : Type 0} {L M : Language A} {p p' : TokenReader A} {f : List ℕ} (g : List ℕ) (N : B → List ℕ)
    (K J : A → Language B) (k k' : A → TokenReader B) → Solid token_code probe L M p p' f []
    → ((x : A) → Rule token_code probe (K x) (J x) (k x) (k' x) g N)
    → Rule token_code probe (L >=> K) (M >=> J) (then_r p k) (then_r p' k') f N
part_then {L = L} {M = M} {p = p} {p' = p'} {f = f} g N K J k k' s r =
    then_rule token_code probe L M K J p p' k k' f (λ _. []) (λ _. g) f N s.rule r (λ x k h m. cc) (λ x. refl)
    (λ x y w k h. absurd (cc)) (λ k h. h) (λ x w. absurd (s.full.none x w))

module _ (limit : Option ℕ) (d D : ℕ) (lt : suc d < D) where
  block_s : Solid token_code probe (block (stmt_room_of limit d)) (block (stmt_room_of None D))
      (block_r (stmt_room_r limit d)) (block_r (stmt_room_r None D)) (codes (BraceOpen ∷ [])) []
  block_s = block_is_read limit d D lt

  global_solid : (kind : Kind) (name : Named)
      → Solid token_code probe (global_behind kind name) (global_behind kind name) (global_behind_r kind name)
      (global_behind_r kind name) (codes (Assign ∷ []) ++ codes (Semicolon ∷ [])) []
  global_solid kind name = solid_or token_code probe
      (solid_sign token_code probe Unexpected (codes (Assign ∷ [])) initial_heads [] _ _ _ _ refl refl
      (λ equals. (solid_then token_code probe (codes (Semicolon ∷ [])) [] _ _ _ _ initial_solid
      (λ value. solid_sign token_code probe Unexpected (codes (Semicolon ∷ [])) [] [] _ _ _ _ refl refl
      (λ end. ret_rule token_code probe (tree.Global kind name (Some value)) [] _)) refl refl).rule))
      (solid_sign token_code probe Unexpected (codes (Semicolon ∷ [])) [] [] _ _ _ _ refl refl
      (λ end. ret_rule token_code probe (tree.Global kind name None) [] _))
      refl

  function_solid : (kind : Option Kind) (name : Named)
      → Solid token_code probe (function_behind (stmt_room_of limit d) kind name)
      (function_behind (stmt_room_of None D) kind name) (function_behind_r (stmt_room_r limit d) kind name)
      (function_behind_r (stmt_room_r None D) kind name) (codes (ParenOpen ∷ [])) []
  function_solid kind name = solid_then token_code probe (codes (BraceOpen ∷ [])) [] _ _ _ _ params_solid
      (λ all. solid_ret token_code probe (λ inner. tree.Function kind name all inner) block_s) refl refl

  pub header_solid : Solid token_code probe (header (stmt_room_of limit d)) (header (stmt_room_of None D))
      (header_r (stmt_room_r limit d)) (header_r (stmt_room_r None D)) (codes types ++ codes (Name ∷ [])) []
  header_solid = solid_or token_code probe
      (solid_sign token_code probe Unexpected (codes types) (codes (Name ∷ [])) [] _ _ _ _ refl refl
      (λ kind. sign_rule token_code probe Unexpected (codes (Name ∷ []))
      (codes (ParenOpen ∷ []) ++ (codes (Assign ∷ []) ++ codes (Semicolon ∷ []))) (λ _. []) _ _ _ _ refl
      (λ name.
      (solid_or token_code probe (function_solid (Some (type_of kind.sort)) (name_of name))
      (global_solid (type_of kind.sort) (name_of name)) refl).rule)))
      (solid_sign token_code probe Unexpected (codes (Name ∷ [])) (codes (ParenOpen ∷ [])) [] _ _ _ _ refl refl
      (λ name. (function_solid None (name_of name)).rule))
      refl

  pub handler_solid : Solid token_code probe (handler (stmt_room_of limit d)) (handler (stmt_room_of None D))
      (handler_r (stmt_room_r limit d)) (handler_r (stmt_room_r None D)) (codes (Name ∷ [])) []
  handler_solid = solid_sign token_code probe Unexpected (codes (Name ∷ [])) (codes (ParenOpen ∷ [])) [] _ _ _ _
      refl refl (λ name. (solid_then token_code probe (codes (BraceOpen ∷ [])) [] _ _ _ _ params_solid
      (λ all. solid_ret token_code probe (λ inner. record { name = name_of name; params = all; body = inner })
      block_s) refl refl).rule)

  handlers_solid : Solid token_code probe (handlers (stmt_room_of limit d)) (handlers (stmt_room_of None D))
      (handlers_r (stmt_room_r limit d)) (handlers_r (stmt_room_r None D)) (codes (BraceOpen ∷ [])) []
  handlers_solid = solid_sign token_code probe Unexpected (codes (BraceOpen ∷ [])) (codes (Name ∷ [])) [] _ _ _
      _ refl refl (λ start. part_then (codes (Name ∷ []) ++ codes (BraceClose ∷ [])) (λ _. []) _ _ _ _
      handler_solid (λ first.
      many_then (Name ∷ []) (handler (stmt_room_of limit d)) (handler (stmt_room_of None D))
      (handler_r (stmt_room_r limit d)) (handler_r (stmt_room_r None D)) handler_solid refl
      (codes (BraceClose ∷ [])) (λ _. []) _ _ _ _
      (λ all. sign_rule token_code probe Unexpected (codes (BraceClose ∷ [])) [] (λ _. []) _ _ _ _ refl
      (λ end. ret_rule token_code probe all [] _))
      (λ all. sign_full token_code probe (codes (BraceClose ∷ [])) _) refl (first ∷ [])))

  pub state_solid : Solid token_code probe (state (stmt_room_of limit d)) (state (stmt_room_of None D))
      (state_r (stmt_room_r limit d)) (state_r (stmt_room_r None D)) (codes (StateWord ∷ [])) []
  state_solid = solid_sign token_code probe Unexpected (codes (StateWord ∷ [])) (codes (Name ∷ [])) [] _ _ _ _
      refl refl (λ word. sign_rule token_code probe Unexpected (codes (Name ∷ [])) (codes (BraceOpen ∷ []))
      (λ _. []) _ _ _ _ refl (λ name. (solid_ret token_code probe
      (λ all. record { name = name_of name; handlers = all }) handlers_solid).rule))

  -- states, and the script that is built from them
  states_rule : (headers : List Header) (start : List Handler)
      → Rule token_code probe (many (state (stmt_room_of limit d)) [] >=> λ states.
      ret (made headers start states)) (many (state (stmt_room_of None D)) [] >=> λ states.
      ret (made headers start states))
      (then_r (many_r (StateWord ∷ []) (state_r (stmt_room_r limit d)) [])
      (λ states. ret_r (made headers start states)))
      (then_r (many_r (StateWord ∷ []) (state_r (stmt_room_r None D)) [])
      (λ states. ret_r (made headers start states))) (codes (StateWord ∷ [])) (λ _. codes (StateWord ∷ []))
  states_rule headers start = then_rule token_code probe _ _ _ _ _ _ _ _ (codes (StateWord ∷ []))
      (λ _. codes (StateWord ∷ [])) (λ _. []) (codes (StateWord ∷ [])) (λ _. codes (StateWord ∷ []))
      (many_rule (StateWord ∷ []) (state (stmt_room_of limit d)) (state (stmt_room_of None D))
      (state_r (stmt_room_r limit d)) (state_r (stmt_room_r None D)) state_solid refl [])
      (λ states. ret_rule token_code probe (made headers start states) [] _) (λ x k h m. cc) (λ x. refl)
      (λ x y w k h. h) (λ k h. h) (λ x w k h. absurd (cc))

  script_rule_rule : Rule token_code probe (script_rule (stmt_room_of limit d))
      (script_rule (stmt_room_of None D)) (script_rule_r (stmt_room_r limit d))
      (script_rule_r (stmt_room_r None D)) (codes header_heads ++ codes (DefaultWord ∷ []))
      (λ _. codes (StateWord ∷ []))
  script_rule_rule = many_then header_heads (header (stmt_room_of limit d)) (header (stmt_room_of None D))
      (header_r (stmt_room_r limit d)) (header_r (stmt_room_r None D)) header_solid refl
      (codes (DefaultWord ∷ [])) (λ _. codes (StateWord ∷ [])) _ _ _ _
      (λ headers. sign_rule token_code probe Unexpected (codes (DefaultWord ∷ [])) (codes (BraceOpen ∷ []))
      (λ _. codes (StateWord ∷ [])) _ _ _ _ refl
      (λ word. part_then (codes (StateWord ∷ [])) (λ _. codes (StateWord ∷ [])) _ _ _ _ handlers_solid
      (λ start. states_rule headers start)))
      (λ headers. sign_full token_code probe (codes (DefaultWord ∷ [])) _) refl []

-- what is read as a script is one, and each is read
pub script_is_read : (limit : Option ℕ) (d D : ℕ) → suc d < D
    → Rule token_code probe (script limit d) (script None D) (script_r limit d) (script_r None D)
    (codes header_heads ++ codes (DefaultWord ∷ [])) (λ _. codes (StateWord ∷ []))
unfolding script script_r
script_is_read limit d D lt = script_rule_rule limit d D lt
