-- Each rule of expressions is read.
use Rattle.std.proofs.Common.{◌≡◌, ℕ, zero, suc, ◌<◌, Bool, true, false, Option, None, List, [], ◌∷◌, ◌++◌, inl, inr, refl, arith}
use Rattle.lsl_lex.specs.Kinds.{kind_of}
use Rattle.lsl_lex.specs.declared.token_types.Token.{Token}
use Rattle.lsl_tree.specs.Expressions as tree
use Rattle.lsl_tree.specs.Expressions.{Expr, NoExpr, AndExpr}
use Rattle.lsl_grammar.specs.declared.Why.TheVariants.{Unexpected, OperandDue}
use Rattle.lsl_grammar.specs.Language.{among, ret, ◌>>=◌ as ◌>=>◌}
use Rattle.lsl_grammar.specs.Reading.{then_r}
use Rattle.lsl_grammar.proofs.ReadsLanguage.{Apart}
use Rattle.lsl_grammar.proofs.Rule.{disjoint, sub_by, apart_by, sub_left, sub_right, append_none, Rule, Solid, ret_rule, sign_rule, solid_sign, solid_then, solid_ret, solid_rounds, solid_or, or_more, solid_shut}
use Rattle.lsl_grammar.proofs.Pair.{pair_solid}
use Rattle.lsl_lex.specs.declared.token_types.Sort.{Sort}
use Rattle.lsl_lex.specs.declared.token_types.Sort.TheVariants.{PlusPlus, MinusMinus, Minus, Bang, Tilde, ParenOpen, ParenClose, BracketOpen, BracketClose, Comma}
use Rattle.lsl_signs.specs.Kinds.{Name, Int, Str, codes, token_code, types, type_of, name_of, text_of, integer_of}
use Rattle.lsl_signs.specs.Operators.{prefix_signs, prefix_of, step_signs, step_of, assign_signs, assign_of, levels, signs, operator_of}
use Rattle.lsl_read.specs.ExpressionGrammar.{Language, any, sign, series, listing, expressions, construct, prefix, step_before, group, list, string, integer, arguments, named, unary_rule, fits, gate, operation, level, expr_rule, room_of, expr}
use Rattle.lsl_read.specs.ExpressionReading.{TokenReader, any_r, comma_r, series_r, listing_r, expressions_r, construct_r, prefix_r, step_before_r, group_r, list_r, string_r, integer_r, arguments_r, named_r, unary_rule_r, gate_r, next_operand_r, level_rule_r, expr_rule_r, room_r, expr_r}

-- an operand begins with an INT
abbrev pub probe : ℕ
probe = kind_of Int

-- the first tokens of an expression
abbrev pub heads : List Sort
heads = Minus ∷ Bang ∷ Tilde ∷ PlusPlus ∷ MinusMinus ∷ ParenOpen ∷ BracketOpen ∷ Str ∷ Name ∷ Int ∷ []

-- the tokens that continue an operand, a level and an expression
abbrev pub tails : ℕ → List ℕ
tails zero = codes (PlusPlus ∷ MinusMinus ∷ ParenOpen ∷ [])
tails (suc n) = codes (signs n) ++ tails n

abbrev pub expr_tails : List ℕ
expr_tails = codes assign_signs ++ tails levels

-- element { ',' element }, and with the closing sign
module _ {A B : Type 0} (add : A → B → A) (none : A) (L M : Language B) (p q : TokenReader B) (f c : List ℕ)
    (s : Solid token_code probe L M p q f c)
    (comma : disjoint (codes (Comma ∷ [])) c ≡ true) (aside : among probe (codes (Comma ∷ []) ++ c) ≡ false) where
  pub next_solid : (before : A) → Solid token_code probe
      (sign Comma >=> λ comma. L >=> λ next. ret (add before next))
      (sign Comma >=> λ comma. M >=> λ next. ret (add before next)) (comma_r add p before)
      (comma_r add q before) (codes (Comma ∷ [])) c
  next_solid before = solid_sign token_code probe Unexpected (codes (Comma ∷ [])) f c _ _ _ _ refl s.aside
      (λ comma. (solid_ret token_code probe (add before) s).rule)

  pub series_solid : Solid token_code probe (series add none L) (series add none M) (series_r add none p)
      (series_r add none q) f (codes (Comma ∷ []) ++ c)
  series_solid = solid_rounds token_code probe (codes (Comma ∷ [])) c (codes (Comma ∷ []) ++ c) (add none) _ _ _
      _ s next_solid
      (apart_by (codes (Comma ∷ [])) c comma) (apart_by (codes (Comma ∷ [])) c comma)
      (sub_left (codes (Comma ∷ [])) c) (sub_right (codes (Comma ∷ [])) c)
      (sub_right (codes (Comma ∷ [])) c) s.aside aside

  pub listing_solid : (close : Sort) (d : List ℕ) → disjoint (codes (close ∷ [])) (probe ∷ f) ≡ true
      → disjoint (codes (close ∷ [])) (codes (Comma ∷ []) ++ c) ≡ true
      → among probe (codes (close ∷ [])) ≡ false → among probe d ≡ false →
      Solid token_code probe (listing close add none L) (listing close add none M) (listing_r close add none p)
      (listing_r close add none q) (codes (close ∷ []) ++ f) d
  listing_solid close d e1 e2 e3 e4 = solid_or token_code probe
      (solid_sign token_code probe Unexpected (codes (close ∷ [])) [] d _ _ _ _ e3 e4
      (λ end. ret_rule token_code probe none [] _))
      (solid_then token_code probe (codes (close ∷ [])) d _ _ _ _ series_solid
      (λ all. solid_sign token_code probe Unexpected (codes (close ∷ [])) [] d _ _ _ _ e3 e4
      (λ end. ret_rule token_code probe all [] _)) e2 e4)
      e1

abbrev pub U : Option ℕ → ℕ → Language Expr
U limit d = unary_rule (room_of limit d)

abbrev pub E : Option ℕ → ℕ → Language Expr
E limit d = expr_rule limit (room_of limit d)

abbrev pub Ur : Option ℕ → ℕ → TokenReader Expr
Ur limit d = unary_rule_r (room_r limit d)

abbrev pub Er : Option ℕ → ℕ → TokenReader Expr
Er limit d = expr_rule_r limit (room_r limit d)

abbrev pub ExprSolid : Option ℕ → ℕ → ℕ → Type 0
ExprSolid limit d D = Solid token_code probe (E limit d) (E None D) (Er limit d) (Er None D) (codes heads) expr_tails

abbrev pub UnarySolid : Option ℕ → ℕ → ℕ → Type 0
UnarySolid limit d D = Solid token_code probe (U limit d) (U None D) (Ur limit d) (Ur None D) (codes heads) (tails 0)

-- what a room holds is read, where the wide limits have more room
abbrev pub Below : Option ℕ → ℕ → ℕ → Type 0
Below limit zero zero = ⊥
Below limit zero (suc D) = Unit {0}
Below limit (suc d) zero = ⊥
Below limit (suc d) (suc D) = ExprSolid limit d D × UnarySolid limit d D

-- a construct that a sign begins
module _ {T : Type 0} (ks : List Sort) (g c : List ℕ) (K : Language Expr → Language Expr → Token → Language T)
    (k : TokenReader Expr → TokenReader Expr → Token → TokenReader T)
    (lone : among probe (codes ks) ≡ false) (aside : among probe c ≡ false)
    (inside : (limit : Option ℕ) (d D : ℕ) → ExprSolid limit d D → UnarySolid limit d D → (t : Token)
    → Rule token_code probe (K (E limit d) (U limit d) t) (K (E None D) (U None D) t)
    (k (Er limit d) (Ur limit d) t) (k (Er None D) (Ur None D) t) g (λ _. c)) where
  construct_solid : (limit : Option ℕ) (d D : ℕ) → Below limit d D →
      Solid token_code probe (construct (room_of limit d) (λ e u. any ks >=> K e u))
      (construct (room_of None D) (λ e u. any ks >=> K e u))
      (construct_r ks (room_r limit d) (λ e u. then_r (any_r ks) (k e u)))
      (construct_r ks (room_r None D) (λ e u. then_r (any_r ks) (k e u))) (codes ks) c
  construct_solid limit zero zero b = absurd b
  construct_solid limit zero (suc D) b = solid_shut token_code probe (codes ks) c (K (E None D) (U None D))
      (k (Er None D) (Ur None D)) lone aside
  construct_solid limit (suc d) zero b = absurd b
  construct_solid limit (suc d) (suc D) b =
      solid_sign token_code probe Unexpected (codes ks) g c (K (E limit d) (U limit d))
      (K (E None D) (U None D)) (k (Er limit d) (Ur limit d)) (k (Er None D) (Ur None D)) lone aside
      (inside limit d D b.0 b.1)

exprs_solid : (limit : Option ℕ) (d D : ℕ) → ExprSolid limit d D → (close : Sort) (c : List ℕ)
    → disjoint (codes (close ∷ [])) (probe ∷ codes heads) ≡ true
    → disjoint (codes (close ∷ [])) (codes (Comma ∷ []) ++ expr_tails) ≡ true
    → among probe (codes (close ∷ [])) ≡ false → among probe c ≡ false →
    Solid token_code probe (expressions close (E limit d)) (expressions close (E None D))
    (expressions_r close (Er limit d)) (expressions_r close (Er None D)) (codes (close ∷ []) ++ codes heads)
    c
exprs_solid limit d D s close c e1 e2 e3 e4 =
    listing_solid AndExpr NoExpr (E limit d) (E None D) (Er limit d) (Er None D) (codes heads) expr_tails s refl
    refl close c e1 e2 e3 e4

signs_lone : (n : ℕ) → among probe (codes (signs n)) ≡ false
signs_lone zero = refl
signs_lone (suc zero) = refl
signs_lone (suc (suc zero)) = refl
signs_lone (suc (suc (suc zero))) = refl
signs_lone (suc (suc (suc (suc zero)))) = refl
signs_lone (suc (suc (suc (suc (suc zero))))) = refl
signs_lone (suc (suc (suc (suc (suc (suc zero)))))) = refl
signs_lone (suc (suc (suc (suc (suc (suc (suc zero))))))) = refl
signs_lone (suc (suc (suc (suc (suc (suc (suc (suc zero)))))))) = refl
signs_lone (suc (suc (suc (suc (suc (suc (suc (suc (suc n))))))))) = refl

tails_lone : (n : ℕ) → among probe (tails n) ≡ false
tails_lone zero = refl
tails_lone (suc n) = append_none probe (codes (signs n)) (tails n) (signs_lone n) (tails_lone n)

pub signs_apart : (n : ℕ) → Apart (codes (signs n)) (tails n)
signs_apart zero = apart_by (codes (signs 0)) (tails 0) refl
signs_apart (suc zero) = apart_by (codes (signs 1)) (tails 1) refl
signs_apart (suc (suc zero)) = apart_by (codes (signs 2)) (tails 2) refl
signs_apart (suc (suc (suc zero))) = apart_by (codes (signs 3)) (tails 3) refl
signs_apart (suc (suc (suc (suc zero)))) = apart_by (codes (signs 4)) (tails 4) refl
signs_apart (suc (suc (suc (suc (suc zero))))) = apart_by (codes (signs 5)) (tails 5) refl
signs_apart (suc (suc (suc (suc (suc (suc zero)))))) = apart_by (codes (signs 6)) (tails 6) refl
signs_apart (suc (suc (suc (suc (suc (suc (suc zero))))))) = apart_by (codes (signs 7)) (tails 7) refl
signs_apart (suc (suc (suc (suc (suc (suc (suc (suc zero)))))))) = apart_by (codes (signs 8)) (tails 8) refl
signs_apart (suc (suc (suc (suc (suc (suc (suc (suc (suc n))))))))) = λ k h m. cc

-- an operator with a left operand that is too high, but isn't within wider limits
gate_solid : (b : Bool) (ks : List Sort) (c : List ℕ) (R : Language Expr) (J : Token → Language Expr)
    (r : TokenReader Expr) (k : Token → TokenReader Expr) → among probe (codes ks) ≡ false →
    Solid token_code probe R (any ks >=> J) r (then_r (any_r ks) k) (codes ks) c
    → Solid token_code probe (gate b R) (any ks >=> J) (gate_r ks b r) (then_r (any_r ks) k) (codes ks) c
gate_solid true ks c R J r k lone s = s
gate_solid false ks c R J r k lone s = solid_shut token_code probe (codes ks) c J k lone s.aside

-- an operator of a level and its right operand, after this left one
pub operation_solid : (limit : Option ℕ) (v v' : Language Expr) (q q' : TokenReader Expr) (n : ℕ)
    → Solid token_code probe v v' q q' (codes heads) (tails n) → (left : Expr) →
    Solid token_code probe (gate (fits limit left) (operation v (signs n) left))
    (gate (fits None left) (operation v' (signs n) left)) (next_operand_r limit q (signs n) left)
    (next_operand_r None q' (signs n) left) (codes (signs n)) (tails n)
operation_solid limit v v' q q' n s left = gate_solid (fits limit left) (signs n) (tails n) _ _ _ _ (signs_lone n)
    (solid_sign token_code probe Unexpected (codes (signs n)) (codes heads) (tails n) _ _ _ _ (signs_lone n)
    (tails_lone n) (λ o. (solid_ret token_code probe
    (λ right. tree.Binary (operator_of o.sort) o.span left right) s).rule))

pub level_solid : (limit : Option ℕ) (u u' : Language Expr) (r r' : TokenReader Expr)
    → Solid token_code probe u u' r r' (codes heads) (tails 0) → (n : ℕ)
    → Solid token_code probe (level limit u n) (level None u' n) (level_rule_r limit r n)
    (level_rule_r None r' n) (codes heads) (tails n)
level_solid limit u u' r r' s zero = s
level_solid limit u u' r r' s (suc n) = solid_rounds token_code probe (codes (signs n)) (tails n)
    (tails (suc n)) (λ x. x) _ _ _ _ (level_solid limit u u' r r' s n)
    (λ left. operation_solid limit _ _ _ _ n (level_solid limit u u' r r' s n) left)
    (signs_apart n) (signs_apart n) (sub_left (codes (signs n)) (tails n))
    (sub_right (codes (signs n)) (tails n)) (sub_right (codes (signs n)) (tails n)) (tails_lone n)
    (tails_lone (suc n))

string_solid : Solid token_code probe string string string_r string_r (codes (Str ∷ [])) (tails 0)
string_solid = solid_sign token_code probe Unexpected (codes (Str ∷ [])) [] (tails 0) _ _ _ _ refl refl
    (λ t. ret_rule token_code probe (tree.Str (text_of t.sort) t.span) [] _)

integer_solid : Solid token_code probe integer integer integer_r integer_r (codes (Int ∷ [])) (tails 0)
integer_solid = solid_sign token_code probe OperandDue (codes (Int ∷ [])) [] (tails 0) _ _ _ _ refl refl
    (λ t. ret_rule token_code probe (tree.Int (integer_of t.sort) t.span) [] _)

module _ (limit : Option ℕ) (d D : ℕ) (b : Below limit d D) where
  prefix_solid : Solid token_code probe (prefix (room_of limit d)) (prefix (room_of None D))
      (prefix_r (room_r limit d)) (prefix_r (room_r None D)) (codes prefix_signs) (tails 0)
  prefix_solid = construct_solid prefix_signs (codes heads) (tails 0) _ _ refl refl
      (λ l n N se su op. (solid_ret token_code probe (λ x. tree.Unary (prefix_of op.sort) op.span x) su).rule)
      limit d D b

  step_before_solid : Solid token_code probe (step_before (room_of limit d)) (step_before (room_of None D))
      (step_before_r (room_r limit d)) (step_before_r (room_r None D)) (codes step_signs) (tails 0)
  step_before_solid = construct_solid step_signs (codes (Name ∷ [])) (tails 0) _ _ refl refl
      (λ l n N se su op. sign_rule token_code probe Unexpected (codes (Name ∷ [])) [] (λ _. tails 0) _ _ _ _
      refl (λ name. ret_rule token_code probe (tree.StepBefore (step_of op.sort) op.span (name_of name)) [] _))
      limit d D b

  group_solid : Solid token_code probe (group (room_of limit d)) (group (room_of None D))
      (group_r (room_r limit d)) (group_r (room_r None D)) (codes (ParenOpen ∷ [])) (tails 0)
  group_solid = construct_solid (ParenOpen ∷ []) (codes types ++ codes heads) (tails 0) _ _ refl refl
      (λ l n N se su start. (solid_or token_code probe
      (solid_sign token_code probe Unexpected (codes types) (codes (ParenClose ∷ [])) (tails 0) _ _ _ _ refl
      refl (λ kind. sign_rule token_code probe Unexpected (codes (ParenClose ∷ [])) (codes heads)
      (λ _. tails 0) _ _ _ _ refl (λ end.
      (solid_ret token_code probe (λ x. tree.Cast start.span (type_of kind.sort) x) su).rule)))
      (solid_then token_code probe (codes (ParenClose ∷ [])) (tails 0) _ _ _ _ se
      (λ x. solid_sign token_code probe Unexpected (codes (ParenClose ∷ [])) [] (tails 0) _ _ _ _ refl refl
      (λ end. ret_rule token_code probe (tree.Parens start.span x) [] _)) refl refl)
      refl).rule) limit d D b

  list_solid : Solid token_code probe (list (room_of limit d)) (list (room_of None D)) (list_r (room_r limit d))
      (list_r (room_r None D)) (codes (BracketOpen ∷ [])) (tails 0)
  list_solid = construct_solid (BracketOpen ∷ []) (codes (BracketClose ∷ []) ++ codes heads) (tails 0) _ _ refl
      refl (λ l n N se su start. (solid_ret token_code probe (λ all. tree.ListLiteral start.span all)
      (exprs_solid l n N se BracketClose (tails 0) refl refl refl refl)).rule) limit d D b

  arguments_solid : Solid token_code probe (arguments (room_of limit d)) (arguments (room_of None D))
      (arguments_r (room_r limit d)) (arguments_r (room_r None D)) (codes (ParenOpen ∷ [])) (tails 0)
  arguments_solid = construct_solid (ParenOpen ∷ []) (codes (ParenClose ∷ []) ++ codes heads) (tails 0) _ _ refl
      refl (λ l n N se su start. (exprs_solid l n N se ParenClose (tails 0) refl refl refl refl).rule) limit d D
      b

  named_solid : Solid token_code probe (named (room_of limit d)) (named (room_of None D))
      (named_r (room_r limit d)) (named_r (room_r None D)) (codes (Name ∷ [])) (tails 0)
  named_solid = solid_sign token_code probe Unexpected (codes (Name ∷ []))
      (codes step_signs ++ (codes (ParenOpen ∷ []) ++ [])) (tails 0) _ _ _ _ refl refl (λ name.
      or_more token_code probe
      (solid_sign token_code probe Unexpected (codes step_signs) [] (tails 0) _ _ _ _ refl refl
      (λ op. ret_rule token_code probe (tree.StepBehind (name_of name) (step_of op.sort)) [] _))
      (or_more token_code probe
      (solid_ret token_code probe (λ all. tree.Call (name_of name) all) arguments_solid)
      (ret_rule token_code probe (tree.Variable (name_of name)) [] _) refl refl)
      refl refl)

  pub unary_solid : UnarySolid limit d D
  unary_solid = solid_or token_code probe prefix_solid
      (solid_or token_code probe step_before_solid
      (solid_or token_code probe group_solid
      (solid_or token_code probe list_solid
      (solid_or token_code probe string_solid (solid_or token_code probe named_solid integer_solid refl) refl)
      refl) refl) refl) refl

  -- a name alone is an operand, and a level
  variable_whole : (t : Token) → among (token_code t) (codes (Name ∷ [])) ≡ true → (n : ℕ)
      → (level limit (U limit d) n).whole (t ∷ []) (tree.Variable (name_of t))
  variable_whole t m zero = inr (inr (inr (inr (inr (inl (t, t ∷ [], [], refl, (refl, m), inr (inr (refl, refl))))))))
  variable_whole t m (suc n) = (tree.Variable (name_of t), t ∷ [], [], refl, variable_whole t m n, (0, (refl, refl)))

  pub expr_solid : ExprSolid limit d D
  expr_solid = pair_solid token_code probe _ _ _ _ _ _ _ _ (codes (Name ∷ [])) (codes assign_signs)
      (codes heads) (tails levels)
      (λ name. construct_solid assign_signs (codes heads) expr_tails _ _ refl refl
      (λ l n N se su op. (solid_ret token_code probe
      (λ x. tree.Assign (name_of name) (assign_of op.sort) op.span x) se).rule) limit d D b)
      (level_solid limit (U limit d) (U None D) (Ur limit d) (Ur None D) unary_solid levels)
      (λ t m. (tree.Variable (name_of t), variable_whole t m levels))
      (sub_by (codes (Name ∷ [])) (codes heads) refl) (apart_by (codes assign_signs) (tails levels) refl) refl refl refl

pub below_all : (limit : Option ℕ) (d D : ℕ) → d < D → Below limit d D
below_all limit zero zero lt = absurd (omega arith)
below_all limit zero (suc D) lt = tt
below_all limit (suc d) zero lt = absurd (omega arith)
below_all limit (suc d) (suc D) lt = let b = below_all limit d D (omega arith) in
    (expr_solid limit d D b, unary_solid limit d D b)

-- what is read as an expression is one, and each is read
pub expr_is_read : (limit : Option ℕ) (d D : ℕ) → d < D
    → Solid token_code probe (expr limit d) (expr None D) (expr_r limit d) (expr_r None D) (codes heads)
    expr_tails
unfolding expr expr_r
expr_is_read limit d D lt = expr_solid limit d D (below_all limit d D lt)
