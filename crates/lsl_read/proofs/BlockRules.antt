-- The items of a block are read, and the body of a statement.
use Rattle.std.proofs.Common.{◌≡◌, ℕ, zero, suc, ◌<◌, true, false, not, Option, None, Some, List, [], ◌∷◌, ◌++◌, inl, refl, ap, ◌∙◌, arith}
use Rattle.lsl_lex.specs.Kinds.{kind_of}
use Rattle.lsl_tree.specs.Expressions.{Expr}
use Rattle.lsl_tree.specs.Statements as tree
use Rattle.lsl_tree.specs.Statements.{Stmt, Items, NoItem, AndItem}
use Rattle.lsl_grammar.specs.declared.Why.TheVariants.{Unexpected, OperandDue}
use Rattle.lsl_grammar.specs.Language.{among, ret, ◌>>=◌ as ◌>=>◌}
use Rattle.lsl_grammar.proofs.Rule.{subset, disjoint, sub_by, apart_by, sub_left, sub_right, never_full, Solid, deep_rule, ret_rule, sign_rule, deep_eats, solid_sign, solid_then, solid_ret, solid_or, solid_shut}
use Rattle.lsl_grammar.proofs.Until.{until_rule}
use Rattle.lsl_lex.specs.declared.token_types.Sort.{Sort}
use Rattle.lsl_lex.specs.declared.token_types.Sort.TheVariants.{Assign, BraceOpen, BraceClose, Semicolon, At}
use Rattle.lsl_signs.specs.Kinds.{Name, codes, token_code, not_end, types, type_of, name_of}
use Rattle.lsl_read.specs.ExpressionGrammar.{Language, expr}
use Rattle.lsl_read.specs.ExpressionReading.{TokenReader, expr_r}
use Rattle.lsl_read.specs.StatementGrammar.{block, body, declaration, label, item_rule, stmt_room_of}
use Rattle.lsl_read.specs.StatementReading.{statement_heads, next_item_r, block_r, body_r, declaration_r, label_r, item_rule_r, stmt_room_r}
use Rattle.lsl_read.proofs.ExpressionRules.{probe, heads, expr_tails, expr_is_read}
use Rattle.lsl_read.proofs.Wholes.{else_tail, tail_of, Whole, whole_solid}
use Rattle.lsl_read.proofs.StatementStarts.{S, Sr, statement_misses, statement_covers}

abbrev pub StatementWhole : Option ℕ → ℕ → ℕ → Type 0
StatementWhole limit d D = Whole (S limit d) (S None D) (Sr limit d) (Sr None D) (codes statement_heads)

-- what a room holds is read, where the wide limits have two constructs more
abbrev pub Below : Option ℕ → ℕ → ℕ → Type 0
Below limit zero zero = ⊥
Below limit zero (suc zero) = ⊥
Below limit zero (suc (suc D)) = Unit {0}
Below limit (suc d) zero = ⊥
Below limit (suc d) (suc D) = (suc d < D) × StatementWhole limit d D

-- the body of a statement
pub body_whole : (limit : Option ℕ) (d D : ℕ) → Below limit d D
    → Whole (body (stmt_room_of limit d)) (body (stmt_room_of None D)) (body_r (stmt_room_r limit d))
    (body_r (stmt_room_r None D)) (codes statement_heads)
body_whole limit zero zero b = absurd b
body_whole limit zero (suc zero) b = absurd b
body_whole limit zero (suc (suc D)) b = record {
  rule = deep_rule token_code probe (S None (suc D)) (Sr None (suc D)) OperandDue (codes statement_heads)
      (codes statement_heads) tail_of refl (inl (inl (inl (inl refl)))) (statement_misses None (suc D))
      (statement_covers None D);
  full = never_full;
  eats = deep_eats token_code probe OperandDue (codes statement_heads);
}
body_whole limit (suc d) zero b = absurd b
body_whole limit (suc d) (suc D) b = b.1

-- The items of a block

pub item_heads : List ℕ
item_heads = codes types ++ (codes (At ∷ []) ++ codes statement_heads)

-- each kind but the end of a block is among them
end_is : (k : Sort) → among (kind_of k) (codes (BraceClose ∷ [])) ≡ not (among (kind_of k) not_end)
end_is BraceClose = refl
end_is _ = refl

end_only : (k : Sort) → among (kind_of k) not_end ≡ false → among (kind_of k) (codes (BraceClose ∷ [])) ≡ true
end_only k h = end_is k ∙ ap not h

module _ (limit : Option ℕ) (d D : ℕ) (lt : d < D) where
  abbrev E : Language Expr
  E = expr limit d

  abbrev EE : Language Expr
  EE = expr None D

  abbrev er : TokenReader Expr
  er = expr_r limit d

  abbrev EEr : TokenReader Expr
  EEr = expr_r None D

  se : Solid token_code probe E EE er EEr (codes heads) expr_tails
  se = expr_is_read limit d D lt

  declaration_solid : Solid token_code probe (declaration E) (declaration EE) (declaration_r er)
      (declaration_r EEr) (codes types) else_tail
  declaration_solid = solid_sign token_code probe Unexpected (codes types) (codes (Name ∷ [])) else_tail _ _ _ _
      refl refl (λ kind. sign_rule token_code probe Unexpected (codes (Name ∷ []))
      (codes (Assign ∷ []) ++ codes (Semicolon ∷ [])) (λ _. else_tail) _ _ _ _ refl
      (λ name. (solid_or token_code probe
      (solid_sign token_code probe Unexpected (codes (Assign ∷ [])) (codes heads) else_tail _ _ _ _ refl refl
      (λ equals. (solid_then token_code probe (codes (Semicolon ∷ [])) else_tail _ _ _ _ se
      (λ value. solid_sign token_code probe Unexpected (codes (Semicolon ∷ [])) [] else_tail _ _ _ _ refl
      refl (λ end. ret_rule token_code probe
      (tree.Declaration (type_of kind.sort) (name_of name) (Some value)) [] _)) refl refl).rule))
      (solid_sign token_code probe Unexpected (codes (Semicolon ∷ [])) [] else_tail _ _ _ _ refl refl
      (λ end. ret_rule token_code probe (tree.Declaration (type_of kind.sort) (name_of name) None) [] _))
      refl).rule))

  label_solid : Solid token_code probe label label label_r label_r (codes (At ∷ [])) else_tail
  label_solid = solid_sign token_code probe Unexpected (codes (At ∷ [])) (codes (Name ∷ [])) else_tail _ _ _ _
      refl refl (λ start. sign_rule token_code probe Unexpected (codes (Name ∷ [])) (codes (Semicolon ∷ []))
      (λ _. else_tail) _ _ _ _ refl (λ name.
      sign_rule token_code probe Unexpected (codes (Semicolon ∷ [])) [] (λ _. else_tail) _ _ _ _ refl
      (λ end. ret_rule token_code probe (tree.Label (name_of name)) [] _)))

  item_solid : (s s' : Language Stmt) (r r' : TokenReader Stmt) → Whole s s' r r' (codes statement_heads)
      → Solid token_code probe (item_rule E s) (item_rule EE s') (item_rule_r er r) (item_rule_r EEr r')
      item_heads else_tail
  unfolding item_heads
  item_solid s s' r r' w = solid_or token_code probe declaration_solid
      (solid_or token_code probe label_solid (solid_ret token_code probe tree.Statement (whole_solid w)) refl)
      refl

  pub next_solid : (s s' : Language Stmt) (r r' : TokenReader Stmt) → Whole s s' r r' (codes statement_heads)
      → (before : Items) →
      Solid token_code probe (item_rule E s >=> λ next. ret (AndItem before next))
      (item_rule EE s' >=> λ next. ret (AndItem before next)) (next_item_r (item_rule_r er r) before)
      (next_item_r (item_rule_r EEr r') before) item_heads else_tail
  next_solid s s' r r' w before = solid_ret token_code probe (AndItem before) (item_solid s s' r r' w)

item_heads_in : subset item_heads not_end ≡ true
unfolding item_heads
item_heads_in = refl

item_heads_apart : disjoint item_heads else_tail ≡ true
unfolding item_heads
item_heads_apart = refl

pub block_solid : (limit : Option ℕ) (d D : ℕ) → Below limit d D
    → Solid token_code probe (block (stmt_room_of limit d)) (block (stmt_room_of None D))
    (block_r (stmt_room_r limit d)) (block_r (stmt_room_r None D)) (codes (BraceOpen ∷ [])) []
block_solid limit zero zero b = absurd b
block_solid limit zero (suc zero) b = absurd b
block_solid limit zero (suc (suc D)) b = solid_shut token_code probe (codes (BraceOpen ∷ [])) [] _ _ refl refl
block_solid limit (suc d) zero b = absurd b
block_solid limit (suc d) (suc D) b = solid_sign token_code probe Unexpected (codes (BraceOpen ∷ []))
    (item_heads ++ codes (BraceClose ∷ [])) [] _ _ _ _ refl refl (λ start.
    until_rule token_code probe (λ before. item_rule (expr limit d) (S limit d) >=> λ next.
    ret (AndItem before next)) (λ before. item_rule (expr None D) (S None D) >=> λ next.
    ret (AndItem before next)) (next_item_r (item_rule_r (expr_r limit d) (Sr limit d)))
    (next_item_r (item_rule_r (expr_r None D) (Sr None D)))
    item_heads not_end else_tail (codes (BraceClose ∷ [])) (item_heads ++ codes (BraceClose ∷ [])) (λ _. [])
    (λ all end. all)
    (λ before. (each before).rule) (sub_by item_heads not_end item_heads_in)
    (apart_by item_heads else_tail item_heads_apart) (λ before. (each before).full) refl refl
    (sub_by else_tail not_end refl) (apart_by (codes (BraceClose ∷ [])) not_end refl) refl (λ t h. end_only t.sort h)
    (sub_left item_heads (codes (BraceClose ∷ []))) (sub_right item_heads (codes (BraceClose ∷ []))) NoItem)
  where
    inner : suc d < D → d < D
    inner h = omega arith

    each : (before : Items) → Solid token_code probe
        (item_rule (expr limit d) (S limit d) >=> λ next. ret (AndItem before next))
        (item_rule (expr None D) (S None D) >=> λ next. ret (AndItem before next))
        (next_item_r (item_rule_r (expr_r limit d) (Sr limit d)) before)
        (next_item_r (item_rule_r (expr_r None D) (Sr None D)) before) item_heads else_tail
    each before = next_solid limit d D (inner b.0) (S limit d) (S None D) (Sr limit d) (Sr None D) b.1 before
