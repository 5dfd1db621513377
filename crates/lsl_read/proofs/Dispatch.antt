-- The rule that the next token begins is the one that is read.
use Rattle.std.proofs.Common.{◌≡◌, ℕ, ◌<◌, Bool, true, false, Option, List, [], ◌∷◌, length, drop, get_or, refl, sym, ap, ◌∙◌, arith}
use Rattle.lsl_lex.specs.declared.token_types.Sort.{Sort}
use Rattle.lsl_lex.specs.declared.token_types.Sort.TheVariants.{StateWord, IfWord, ForWord, DoWord, WhileWord, JumpWord, ReturnWord, PlusPlus, MinusMinus, Minus, Bang, Tilde, ParenOpen, BracketOpen, BraceOpen}
use Rattle.lsl_lex.specs.declared.token_types.Token.{Token}
use Rattle.lsl_grammar.specs.Language.{among}
use Rattle.lsl_grammar.specs.Reading.{begins}
use Rattle.lsl_grammar.proofs.ReadsLanguage.{cond_true, cond_false, stops_sub}
use Rattle.lsl_grammar.proofs.Rule.{subset, disjoint, sub_by, apart_by}
use Rattle.lsl_signs.specs.Kinds.{Name, Str, codes, token_code}
use Rattle.lsl_signs.specs.Operators.{prefix_signs, step_signs}
use Rattle.lsl_read.specs.ExpressionReading.{prefix_r, step_before_r, group_r, list_r, string_r, named_r, integer_r, room_r, unary_r, expr_r}
use Rattle.lsl_read.specs.StatementReading.{stmt_room_r, braces_r, if_r, while_rule_r, do_r, for_r, jump_r, return_r, state_rule_r, simple_r, statement_r}

-- the first of some tokens, and the others
pub first_of : (ts : List Token) (t : Token) → 0 < length ts → t ≡ get_or ts 0 t → ts ≡ t ∷ drop 1 ts
first_of [] t lt e = absurd (omega arith)
first_of (s ∷ ts) t lt e = ap (λ z. z ∷ ts) (sym e)

none_of : (ks js : List Sort) (ts : List Token) → disjoint (codes ks) (codes js) ≡ true
    → begins token_code (codes js) ts ≡ true → begins token_code (codes ks) ts ≡ false
none_of ks js [] d e = refl
none_of ks js (t ∷ ts) d e = go (among (token_code t) (codes ks)) refl
  where
    go : (b : Bool) → among (token_code t) (codes ks) ≡ b → b ≡ false
    go true h = absurd (apart_by (codes ks) (codes js) d (token_code t) h e)
    go false h = refl

fewer : (ks all : List Sort) (ts : List Token) → subset (codes ks) (codes all) ≡ true
    → begins token_code (codes all) ts ≡ false → begins token_code (codes ks) ts ≡ false
fewer ks all ts s e = stops_sub token_code (codes ks) (codes all) ts (sub_by (codes ks) (codes all) s) e

pub begins_more : (ks all : List Sort) (ts : List Token) → subset (codes ks) (codes all) ≡ true
    → begins token_code (codes ks) ts ≡ true → begins token_code (codes all) ts ≡ true
begins_more ks all [] s e = absurd (cc)
begins_more ks all (t ∷ ts) s e = sub_by (codes ks) (codes all) s (token_code t) e

-- the first tokens of an operand other than an INT
abbrev pub operand_heads : List Sort
operand_heads = Minus ∷ Bang ∷ Tilde ∷ PlusPlus ∷ MinusMinus ∷ ParenOpen ∷ BracketOpen ∷ Str ∷ Name ∷ []

module _ (limit : Option ℕ) (d : ℕ) (ts : List Token) where
  pub unary_prefix : begins token_code (codes prefix_signs) ts ≡ true
      → unary_r limit d ts ≡ prefix_r (room_r limit d) ts
  unfolding unary_r
  unary_prefix e = cond_true _ _ _ e

  pub unary_step : begins token_code (codes step_signs) ts ≡ true
      → unary_r limit d ts ≡ step_before_r (room_r limit d) ts
  unfolding unary_r
  unary_step e = cond_false _ _ _ (none_of prefix_signs step_signs ts refl e) ∙ cond_true _ _ _ e

  pub unary_group : begins token_code (codes (ParenOpen ∷ [])) ts ≡ true
      → unary_r limit d ts ≡ group_r (room_r limit d) ts
  unfolding unary_r
  unary_group e = cond_false _ _ _ (none_of prefix_signs (ParenOpen ∷ []) ts refl e)
      ∙ cond_false _ _ _ (none_of step_signs (ParenOpen ∷ []) ts refl e) ∙ cond_true _ _ _ e

  pub unary_list : begins token_code (codes (BracketOpen ∷ [])) ts ≡ true
      → unary_r limit d ts ≡ list_r (room_r limit d) ts
  unfolding unary_r
  unary_list e =
      cond_false _ _ _ (none_of prefix_signs (BracketOpen ∷ []) ts refl e)
      ∙ cond_false _ _ _ (none_of step_signs (BracketOpen ∷ []) ts refl e)
      ∙ cond_false _ _ _ (none_of (ParenOpen ∷ []) (BracketOpen ∷ []) ts refl e) ∙ cond_true _ _ _ e

  pub unary_string : begins token_code (codes (Str ∷ [])) ts ≡ true → unary_r limit d ts ≡ string_r ts
  unfolding unary_r
  unary_string e =
      cond_false _ _ _ (none_of prefix_signs (Str ∷ []) ts refl e)
      ∙ cond_false _ _ _ (none_of step_signs (Str ∷ []) ts refl e)
      ∙ cond_false _ _ _ (none_of (ParenOpen ∷ []) (Str ∷ []) ts refl e)
      ∙ cond_false _ _ _ (none_of (BracketOpen ∷ []) (Str ∷ []) ts refl e) ∙ cond_true _ _ _ e

  pub unary_named : begins token_code (codes (Name ∷ [])) ts ≡ true → unary_r limit d ts ≡ named_r (room_r limit d) ts
  unfolding unary_r
  unary_named e =
      cond_false _ _ _ (none_of prefix_signs (Name ∷ []) ts refl e)
      ∙ cond_false _ _ _ (none_of step_signs (Name ∷ []) ts refl e)
      ∙ cond_false _ _ _ (none_of (ParenOpen ∷ []) (Name ∷ []) ts refl e)
      ∙ cond_false _ _ _ (none_of (BracketOpen ∷ []) (Name ∷ []) ts refl e)
      ∙ cond_false _ _ _ (none_of (Str ∷ []) (Name ∷ []) ts refl e) ∙ cond_true _ _ _ e

  pub unary_integer : begins token_code (codes operand_heads) ts ≡ false → unary_r limit d ts ≡ integer_r ts
  unfolding unary_r
  unary_integer e =
      cond_false _ _ _ (fewer prefix_signs operand_heads ts refl e)
      ∙ cond_false _ _ _ (fewer step_signs operand_heads ts refl e)
      ∙ cond_false _ _ _ (fewer (ParenOpen ∷ []) operand_heads ts refl e)
      ∙ cond_false _ _ _ (fewer (BracketOpen ∷ []) operand_heads ts refl e)
      ∙ cond_false _ _ _ (fewer (Str ∷ []) operand_heads ts refl e)
      ∙ cond_false _ _ _ (fewer (Name ∷ []) operand_heads ts refl e)

-- the first tokens of a statement that isn't an expression, other than `;`
abbrev pub statement_words : List Sort
statement_words = BraceOpen ∷ IfWord ∷ WhileWord ∷ DoWord ∷ ForWord ∷ JumpWord ∷ ReturnWord ∷ StateWord ∷ []

module _ (limit : Option ℕ) (d : ℕ) (ts : List Token) where
  no : (k j : Sort) → disjoint (codes (k ∷ [])) (codes (j ∷ [])) ≡ true
      → begins token_code (codes (j ∷ [])) ts ≡ true → begins token_code (codes (k ∷ [])) ts ≡ false
  no k j s e = none_of (k ∷ []) (j ∷ []) ts s e

  pub statement_braces : begins token_code (codes (BraceOpen ∷ [])) ts ≡ true
      → statement_r limit d ts ≡ braces_r (stmt_room_r limit d) ts
  unfolding statement_r
  statement_braces e = cond_true _ _ _ e

  pub statement_if : begins token_code (codes (IfWord ∷ [])) ts ≡ true
      → statement_r limit d ts ≡ if_r (expr_r limit d) (stmt_room_r limit d) ts
  unfolding statement_r
  statement_if e = cond_false _ _ _ (no BraceOpen IfWord refl e) ∙ cond_true _ _ _ e

  pub statement_while : begins token_code (codes (WhileWord ∷ [])) ts ≡ true
      → statement_r limit d ts ≡ while_rule_r (expr_r limit d) (stmt_room_r limit d) ts
  unfolding statement_r
  statement_while e = cond_false _ _ _ (no BraceOpen WhileWord refl e)
      ∙ cond_false _ _ _ (no IfWord WhileWord refl e) ∙ cond_true _ _ _ e

  pub statement_do : begins token_code (codes (DoWord ∷ [])) ts ≡ true
      → statement_r limit d ts ≡ do_r (expr_r limit d) (stmt_room_r limit d) ts
  unfolding statement_r
  statement_do e = cond_false _ _ _ (no BraceOpen DoWord refl e) ∙ cond_false _ _ _ (no IfWord DoWord refl e)
      ∙ cond_false _ _ _ (no WhileWord DoWord refl e) ∙ cond_true _ _ _ e

  pub statement_for : begins token_code (codes (ForWord ∷ [])) ts ≡ true
      → statement_r limit d ts ≡ for_r (expr_r limit d) (stmt_room_r limit d) ts
  unfolding statement_r
  statement_for e =
      cond_false _ _ _ (no BraceOpen ForWord refl e) ∙ cond_false _ _ _ (no IfWord ForWord refl e)
      ∙ cond_false _ _ _ (no WhileWord ForWord refl e)
      ∙ cond_false _ _ _ (no DoWord ForWord refl e) ∙ cond_true _ _ _ e

  pub statement_jump : begins token_code (codes (JumpWord ∷ [])) ts ≡ true → statement_r limit d ts ≡ jump_r ts
  unfolding statement_r
  statement_jump e =
      cond_false _ _ _ (no BraceOpen JumpWord refl e) ∙ cond_false _ _ _ (no IfWord JumpWord refl e)
      ∙ cond_false _ _ _ (no WhileWord JumpWord refl e)
      ∙ cond_false _ _ _ (no DoWord JumpWord refl e) ∙ cond_false _ _ _ (no ForWord JumpWord refl e) ∙ cond_true _ _ _ e

  pub statement_return : begins token_code (codes (ReturnWord ∷ [])) ts ≡ true
      → statement_r limit d ts ≡ return_r (expr_r limit d) ts
  unfolding statement_r
  statement_return e =
      cond_false _ _ _ (no BraceOpen ReturnWord refl e) ∙ cond_false _ _ _ (no IfWord ReturnWord refl e)
      ∙ cond_false _ _ _ (no WhileWord ReturnWord refl e)
      ∙ cond_false _ _ _ (no DoWord ReturnWord refl e) ∙ cond_false _ _ _ (no ForWord ReturnWord refl e)
      ∙ cond_false _ _ _ (no JumpWord ReturnWord refl e) ∙ cond_true _ _ _ e

  pub statement_state : begins token_code (codes (StateWord ∷ [])) ts ≡ true → statement_r limit d ts ≡ state_rule_r ts
  unfolding statement_r
  statement_state e =
      cond_false _ _ _ (no BraceOpen StateWord refl e) ∙ cond_false _ _ _ (no IfWord StateWord refl e)
      ∙ cond_false _ _ _ (no WhileWord StateWord refl e)
      ∙ cond_false _ _ _ (no DoWord StateWord refl e) ∙ cond_false _ _ _ (no ForWord StateWord refl e)
      ∙ cond_false _ _ _ (no JumpWord StateWord refl e)
      ∙ cond_false _ _ _ (no ReturnWord StateWord refl e) ∙ cond_true _ _ _ e

  pub statement_simple : begins token_code (codes statement_words) ts ≡ false
      → statement_r limit d ts ≡ simple_r (expr_r limit d) ts
  unfolding statement_r
  statement_simple e =
      cond_false _ _ _ (fewer (BraceOpen ∷ []) statement_words ts refl e)
      ∙ cond_false _ _ _ (fewer (IfWord ∷ []) statement_words ts refl e)
      ∙ cond_false _ _ _ (fewer (WhileWord ∷ []) statement_words ts refl e)
      ∙ cond_false _ _ _ (fewer (DoWord ∷ []) statement_words ts refl e)
      ∙ cond_false _ _ _ (fewer (ForWord ∷ []) statement_words ts refl e)
      ∙ cond_false _ _ _ (fewer (JumpWord ∷ []) statement_words ts refl e)
      ∙ cond_false _ _ _ (fewer (ReturnWord ∷ []) statement_words ts refl e)
      ∙ cond_false _ _ _ (fewer (StateWord ∷ []) statement_words ts refl e)
