-- Each rule of statements is read.
use Rattle.std.proofs.Common.{◌≡◌, ℕ, zero, suc, ◌<◌, Bool, true, false, cond, Option, None, Some, List, [], ◌∷◌, ◌++◌, Ok, Err, refl, sym, ap, ◌∙◌, subst, arith}
use Rattle.lsl_text.specs.declared.Span.{Span}
use Rattle.lsl_lex.specs.declared.token_types.Token.{Token}
use Rattle.lsl_tree.specs.declared.statement.StateName.TheVariants as state
use Rattle.lsl_tree.specs.Expressions.{Expr, NoExpr, AndExpr}
use Rattle.lsl_tree.specs.Statements as tree
use Rattle.lsl_tree.specs.Statements.{Stmt, ends_open}
use Rattle.lsl_grammar.specs.declared.Why.TheVariants.{Unexpected}
use Rattle.lsl_grammar.specs.Language.{among, ret, ◌>>=◌ as ◌>=>◌}
use Rattle.lsl_grammar.specs.Reading.{Read, ◌>>=◌, ret_r, then_r}
use Rattle.lsl_grammar.proofs.ReadsLanguage.{Sub, Apart, cond_false}
use Rattle.lsl_grammar.proofs.Rule.{disjoint, then_full, Rule, Solid, rule_as, then_rule, or_rule, ret_rule, sign_rule, sign_full, part_rule, solid_sign, solid_then, solid_ret, solid_or}
use Rattle.lsl_lex.specs.declared.token_types.Sort.{Sort}
use Rattle.lsl_lex.specs.declared.token_types.Sort.TheVariants.{DefaultWord, StateWord, IfWord, ElseWord, ForWord, DoWord, WhileWord, JumpWord, ReturnWord, Comma, ParenOpen, ParenClose, BraceOpen, Semicolon}
use Rattle.lsl_signs.specs.Kinds.{Name, codes, token_code, name_of}
use Rattle.lsl_read.specs.ExpressionGrammar.{sign, expressions, expr}
use Rattle.lsl_read.specs.ExpressionReading.{TokenReader, sign_r, expressions_r, expr_r}
use Rattle.lsl_read.specs.StatementGrammar.{block, body, braces, else_behind, else_part, if_rule, while_rule, do_rule, for_rule, jump_rule, return_rule, state_name, state_rule, simple, statement_rule, stmt_room_of}
use Rattle.lsl_read.specs.StatementReading.{statement_heads, StmtRoom_r, block_r, body_r, braces_r, else_r, if_r, while_rule_r, do_r, for_r, jump_r, return_r, state_name_r, state_rule_r, simple_r, statement_rule_r, stmt_room_r}
use Rattle.lsl_read.proofs.ExpressionRules.{probe, heads, expr_tails, listing_solid, expr_is_read}
use Rattle.lsl_read.proofs.Munches.{else_next, body_munches}
use Rattle.lsl_read.proofs.Wholes.{else_tail, tail_of, tail_lone, tail_same, Whole, closed_whole, whole_solid, whole_or, sign_whole}
use Rattle.lsl_read.proofs.BlockRules.{StatementWhole, Below, body_whole, block_solid}

-- an `else` if the statement before it allows one
abbrev checked_r : Bool → StmtRoom_r → Span → Expr → Stmt → TokenReader Stmt
checked_r true h start test first ts = Ok (tree.If start test first, ts)
checked_r false h start test first ts = else_r h start test first ts

abbrev else_heads : Bool → List ℕ
else_heads true = []
else_heads false = else_tail

-- after such a statement no `else` is next, so the check does nothing
else_same : (limit : Option ℕ) (d : ℕ) (start : Span) (test : Expr) (ts : List Token)
    → then_r (body_r (stmt_room_r limit d))
    (λ first. checked_r (ends_open first) (stmt_room_r limit d) start test first) ts
    ≡ then_r (body_r (stmt_room_r limit d)) (λ first. else_r (stmt_room_r limit d) start test first) ts
else_same limit d start test ts = go (body_r (stmt_room_r limit d) ts) refl
  where
    by_end : (b : Bool) (x : Stmt) (rest : List Token) → (b ≡ true → else_next rest ≡ false)
        → checked_r b (stmt_room_r limit d) start test x rest ≡ else_r (stmt_room_r limit d) start test x rest
    by_end true x rest m = sym (cond_false (else_next rest) _ _ (m refl))
    by_end false x rest m = refl

    go : (o : Read Token Stmt) → body_r (stmt_room_r limit d) ts ≡ o
        → (o >>= λ x. checked_r (ends_open x.0) (stmt_room_r limit d) start test x.0 x.1)
        ≡ (o >>= λ x. else_r (stmt_room_r limit d) start test x.0 x.1)
    go (Ok x) e = by_end (ends_open x.0) x.0 x.1 ((body_munches limit d).munched ts x.1 x.0 e)
    go (Err x) e = refl

module _ (limit : Option ℕ) (d D : ℕ) (lt : d < D) (b : Below limit d D) where
  abbrev the_body : Whole (body (stmt_room_of limit d)) (body (stmt_room_of None D))
      (body_r (stmt_room_r limit d)) (body_r (stmt_room_r None D)) (codes statement_heads)
  the_body = body_whole limit d D b

  -- a body, and what is built from it, which ends as it does
  made_rule : (g : Stmt → Stmt) → ((x : Stmt) → ends_open x ≡ ends_open (g x)) →
      Rule token_code probe (body (stmt_room_of limit d) >=> λ x. ret (g x))
      (body (stmt_room_of None D) >=> λ x. ret (g x))
      (then_r (body_r (stmt_room_r limit d)) (λ x. ret_r (g x)))
      (then_r (body_r (stmt_room_r None D)) (λ x. ret_r (g x))) (codes statement_heads) tail_of
  made_rule g same = then_rule token_code probe (body (stmt_room_of limit d)) (body (stmt_room_of None D))
      (λ x. ret (g x)) (λ x. ret (g x)) (body_r (stmt_room_r limit d)) (body_r (stmt_room_r None D))
      (λ x. ret_r (g x)) (λ x. ret_r (g x)) (codes statement_heads) tail_of (λ _. []) (codes statement_heads)
      tail_of
      the_body.rule (λ x. ret_rule token_code probe (g x) [] tail_of) (λ x k h m. cc) tail_lone
      (λ x y v. tail_same x y (same x ∙ ap ends_open (sym v.1))) (λ k h. h)
      (λ x v. absurd (the_body.full.none x v))

  else_rule : (z : Bool) (start : Span) (test : Expr) (first : Stmt)
      → Rule token_code probe (else_behind z (stmt_room_of limit d) start test first)
      (else_behind z (stmt_room_of None D) start test first)
      (checked_r z (stmt_room_r limit d) start test first) (checked_r z (stmt_room_r None D) start test first)
      (else_heads z) tail_of
  else_rule true start test first = ret_rule token_code probe (tree.If start test first) [] tail_of
  else_rule false start test first =
      or_rule token_code probe (sign ElseWord >=> λ other. body (stmt_room_of limit d) >=> λ second.
      ret (tree.IfElse start test first second))
      (sign ElseWord >=> λ other. body (stmt_room_of None D) >=> λ second.
      ret (tree.IfElse start test first second)) (ret (tree.If start test first))
      (ret (tree.If start test first))
      (then_r (sign_r ElseWord) (λ other.
      then_r (body_r (stmt_room_r limit d)) (λ second. ret_r (tree.IfElse start test first second))))
      (then_r (sign_r ElseWord) (λ other.
      then_r (body_r (stmt_room_r None D)) (λ second. ret_r (tree.IfElse start test first second))))
      (ret_r (tree.If start test first)) (ret_r (tree.If start test first))
      else_tail [] else_tail tail_of second.rule
      (ret_rule token_code probe (tree.If start test first) [] tail_of) (λ k h m. cc) refl second.full
      second.eats (λ x v k m. subst (λ y. among k (tail_of y) ≡ true) (sym v.1) m) (λ k h. h)
      (λ k h. absurd (cc))
    where
      second : Whole (sign ElseWord >=> λ other. body (stmt_room_of limit d) >=> λ second.
          ret (tree.IfElse start test first second))
          (sign ElseWord >=> λ other. body (stmt_room_of None D) >=> λ second.
          ret (tree.IfElse start test first second))
          (then_r (sign_r ElseWord) (λ other.
          then_r (body_r (stmt_room_r limit d)) (λ second. ret_r (tree.IfElse start test first second))))
          (then_r (sign_r ElseWord) (λ other.
          then_r (body_r (stmt_room_r None D)) (λ second. ret_r (tree.IfElse start test first second))))
          else_tail
      second = sign_whole (ElseWord ∷ []) (codes statement_heads) _ _ _ _ refl
          (λ other. made_rule (λ second. tree.IfElse start test first second) (λ x. refl))

  else_apart : (x : Stmt) → Apart (else_heads (ends_open x)) (tail_of x)
  else_apart x = go (ends_open x)
    where
      go : (z : Bool) → Apart (else_heads z) (cond z else_tail [])
      go true k h m = cc
      go false k h m = cc

  else_after : (start : Span) (test : Expr) (x y : Stmt)
      → (else_part (stmt_room_of limit d) start test x).whole [] y → Sub (tail_of x) (tail_of y)
  else_after start test x y v = go (ends_open x) v
    where
      go : (z : Bool) → (else_behind z (stmt_room_of limit d) start test x).whole [] y
          → Sub (cond z else_tail []) (tail_of y)
      go true v k m = subst (λ z. among k (tail_of z) ≡ true) (sym v.1) m
      go false v k m = absurd (cc)

  body_else : (start : Span) (test : Expr)
      → Rule token_code probe (body (stmt_room_of limit d) >=> λ first.
      else_part (stmt_room_of limit d) start test first)
      (body (stmt_room_of None D) >=> λ first. else_part (stmt_room_of None D) start test first)
      (then_r (body_r (stmt_room_r limit d)) (λ first. else_r (stmt_room_r limit d) start test first))
      (then_r (body_r (stmt_room_r None D)) (λ first. else_r (stmt_room_r None D) start test first))
      (codes statement_heads) tail_of
  body_else start test = rule_as token_code probe _ _ _ _ _ _ (codes statement_heads) tail_of
      (else_same limit d start test) (else_same None D start test)
      (then_rule token_code probe (body (stmt_room_of limit d)) (body (stmt_room_of None D))
      (λ first. else_part (stmt_room_of limit d) start test first)
      (λ first. else_part (stmt_room_of None D) start test first) (body_r (stmt_room_r limit d))
      (body_r (stmt_room_r None D)) (λ first.
      checked_r (ends_open first) (stmt_room_r limit d) start test first)
      (λ first. checked_r (ends_open first) (stmt_room_r None D) start test first)
      (codes statement_heads) tail_of (λ x. else_heads (ends_open x)) (codes statement_heads) tail_of
      the_body.rule (λ x. else_rule (ends_open x) start test x) else_apart tail_lone (else_after start test)
      (λ k h. h) (λ x v. absurd (the_body.full.none x v)))

  abbrev e : Solid token_code probe (expr limit d) (expr None D) (expr_r limit d) (expr_r None D) (codes heads)
      expr_tails
  e = expr_is_read limit d D lt

  list_up_to : (close : Sort) → disjoint (codes (close ∷ [])) (probe ∷ codes heads) ≡ true
      → disjoint (codes (close ∷ [])) (codes (Comma ∷ []) ++ expr_tails) ≡ true
      → among probe (codes (close ∷ [])) ≡ false →
      Solid token_code probe (expressions close (expr limit d)) (expressions close (expr None D))
      (expressions_r close (expr_r limit d)) (expressions_r close (expr_r None D))
      (codes (close ∷ []) ++ codes heads) []
  list_up_to close e1 e2 e3 = listing_solid AndExpr NoExpr (expr limit d) (expr None D) (expr_r limit d)
      (expr_r None D) (codes heads) expr_tails e refl refl close [] e1 e2 e3 refl

  if_whole : Whole (if_rule (expr limit d) (stmt_room_of limit d)) (if_rule (expr None D) (stmt_room_of None D))
      (if_r (expr_r limit d) (stmt_room_r limit d)) (if_r (expr_r None D) (stmt_room_r None D))
      (codes (IfWord ∷ []))
  if_whole = sign_whole (IfWord ∷ []) (codes (ParenOpen ∷ [])) _ _ _ _ refl
      (λ start. sign_rule token_code probe Unexpected (codes (ParenOpen ∷ [])) (codes heads) tail_of _ _ _ _
      refl (λ left.
      part_rule token_code probe (codes (ParenClose ∷ [])) tail_of _ _ _ _ e
      (λ test. sign_rule token_code probe Unexpected (codes (ParenClose ∷ [])) (codes statement_heads)
      tail_of _ _ _ _ refl (λ right. body_else start.span test))
      (λ test. sign_full token_code probe (codes (ParenClose ∷ [])) _) refl))

  while_whole : Whole (while_rule (expr limit d) (stmt_room_of limit d))
      (while_rule (expr None D) (stmt_room_of None D)) (while_rule_r (expr_r limit d) (stmt_room_r limit d))
      (while_rule_r (expr_r None D) (stmt_room_r None D)) (codes (WhileWord ∷ []))
  while_whole = sign_whole (WhileWord ∷ []) (codes (ParenOpen ∷ [])) _ _ _ _ refl
      (λ start. sign_rule token_code probe Unexpected (codes (ParenOpen ∷ [])) (codes heads) tail_of _ _ _ _
      refl (λ left.
      part_rule token_code probe (codes (ParenClose ∷ [])) tail_of _ _ _ _ e
      (λ test. sign_rule token_code probe Unexpected (codes (ParenClose ∷ [])) (codes statement_heads)
      tail_of _ _ _ _ refl (λ right. made_rule (λ inner. tree.While start.span test inner) (λ x. refl)))
      (λ test. sign_full token_code probe (codes (ParenClose ∷ [])) _) refl))

  do_whole : Whole (do_rule (expr limit d) (stmt_room_of limit d)) (do_rule (expr None D) (stmt_room_of None D))
      (do_r (expr_r limit d) (stmt_room_r limit d)) (do_r (expr_r None D) (stmt_room_r None D))
      (codes (DoWord ∷ []))
  do_whole = closed_whole (solid_sign token_code probe Unexpected (codes (DoWord ∷ [])) (codes statement_heads)
      [] _ _ _ _ refl refl (λ start. (solid_then token_code probe (codes (WhileWord ∷ [])) [] _ _ _ _
      (whole_solid the_body) (λ inner.
      solid_sign token_code probe Unexpected (codes (WhileWord ∷ [])) (codes (ParenOpen ∷ [])) [] _ _ _ _ refl
      refl (λ word. sign_rule token_code probe Unexpected (codes (ParenOpen ∷ [])) (codes heads) (λ _. []) _
      _ _ _ refl (λ left.
      (solid_then token_code probe (codes (ParenClose ∷ [])) [] _ _ _ _ e
      (λ test. solid_sign token_code probe Unexpected (codes (ParenClose ∷ [])) (codes (Semicolon ∷ [])) []
      _ _ _ _ refl refl (λ right.
      sign_rule token_code probe Unexpected (codes (Semicolon ∷ [])) [] (λ _. []) _ _ _ _ refl
      (λ end. ret_rule token_code probe (tree.Do start.span inner test) [] _))) refl refl).rule)))
      refl refl).rule))

  for_whole : Whole (for_rule (expr limit d) (stmt_room_of limit d))
      (for_rule (expr None D) (stmt_room_of None D)) (for_r (expr_r limit d) (stmt_room_r limit d))
      (for_r (expr_r None D) (stmt_room_r None D)) (codes (ForWord ∷ []))
  for_whole = sign_whole (ForWord ∷ []) (codes (ParenOpen ∷ [])) _ _ _ _ refl
      (λ start. sign_rule token_code probe Unexpected (codes (ParenOpen ∷ []))
      (codes (Semicolon ∷ []) ++ codes heads) tail_of _ _ _ _ refl (λ left.
      part_rule token_code probe (codes heads) tail_of _ _ _ _ (list_up_to Semicolon refl refl refl)
      (λ before. part_rule token_code probe (codes (Semicolon ∷ [])) tail_of _ _ _ _ e
      (λ test. sign_rule token_code probe Unexpected (codes (Semicolon ∷ []))
      (codes (ParenClose ∷ []) ++ codes heads) tail_of _ _ _ _ refl (λ middle.
      part_rule token_code probe (codes statement_heads) tail_of _ _ _ _ (list_up_to ParenClose refl refl refl)
      (λ step. made_rule (λ inner. tree.For start.span before test step inner) (λ x. refl))
      (λ step. then_full _ _ the_body.full) refl))
      (λ test. sign_full token_code probe (codes (Semicolon ∷ [])) _) refl)
      (λ before. then_full _ _ e.full) refl))

  jump_whole : Whole jump_rule jump_rule jump_r jump_r (codes (JumpWord ∷ []))
  jump_whole = closed_whole (solid_sign token_code probe Unexpected (codes (JumpWord ∷ [])) (codes (Name ∷ []))
      [] _ _ _ _ refl refl (λ start. sign_rule token_code probe Unexpected (codes (Name ∷ []))
      (codes (Semicolon ∷ [])) (λ _. []) _ _ _ _ refl
      (λ name. sign_rule token_code probe Unexpected (codes (Semicolon ∷ [])) [] (λ _. []) _ _ _ _ refl
      (λ end. ret_rule token_code probe (tree.Jump start.span (name_of name)) [] _))))

  return_whole : Whole (return_rule (expr limit d)) (return_rule (expr None D)) (return_r (expr_r limit d))
      (return_r (expr_r None D)) (codes (ReturnWord ∷ []))
  return_whole = closed_whole (solid_sign token_code probe Unexpected (codes (ReturnWord ∷ []))
      (codes (Semicolon ∷ []) ++ codes heads) [] _ _ _ _ refl refl (λ start. (solid_or token_code probe
      (solid_sign token_code probe Unexpected (codes (Semicolon ∷ [])) [] [] _ _ _ _ refl refl
      (λ end. ret_rule token_code probe (tree.Return start.span None) [] _))
      (solid_then token_code probe (codes (Semicolon ∷ [])) [] _ _ _ _ e
      (λ value. solid_sign token_code probe Unexpected (codes (Semicolon ∷ [])) [] [] _ _ _ _ refl refl
      (λ end. ret_rule token_code probe (tree.Return start.span (Some value)) [] _)) refl refl)
      refl).rule))

  state_name_solid : Solid token_code probe state_name state_name state_name_r state_name_r
      (codes (Name ∷ []) ++ codes (DefaultWord ∷ [])) []
  state_name_solid = solid_or token_code probe
      (solid_sign token_code probe Unexpected (codes (Name ∷ [])) [] [] _ _ _ _ refl refl
      (λ name. ret_rule token_code probe (state.Named (name_of name)) [] _))
      (solid_sign token_code probe Unexpected (codes (DefaultWord ∷ [])) [] [] _ _ _ _ refl refl
      (λ word. ret_rule token_code probe state.Default [] _)) refl

  state_whole : Whole state_rule state_rule state_rule_r state_rule_r (codes (StateWord ∷ []))
  state_whole = closed_whole (solid_sign token_code probe Unexpected (codes (StateWord ∷ []))
      (codes (Name ∷ []) ++ codes (DefaultWord ∷ [])) [] _ _ _ _ refl refl (λ start.
      (solid_then token_code probe (codes (Semicolon ∷ [])) [] _ _ _ _ state_name_solid
      (λ name. solid_sign token_code probe Unexpected (codes (Semicolon ∷ [])) [] [] _ _ _ _ refl refl
      (λ end. ret_rule token_code probe (tree.State start.span name) [] _)) refl refl).rule))

  simple_whole : Whole (simple (expr limit d)) (simple (expr None D)) (simple_r (expr_r limit d))
      (simple_r (expr_r None D)) (codes (Semicolon ∷ []) ++ codes heads)
  simple_whole = closed_whole (solid_or token_code probe
      (solid_sign token_code probe Unexpected (codes (Semicolon ∷ [])) [] [] _ _ _ _ refl refl
      (λ end. ret_rule token_code probe tree.Empty [] _))
      (solid_then token_code probe (codes (Semicolon ∷ [])) [] _ _ _ _ e
      (λ value. solid_sign token_code probe Unexpected (codes (Semicolon ∷ [])) [] [] _ _ _ _ refl refl
      (λ end. ret_rule token_code probe (tree.Expression value) [] _)) refl refl)
      refl)

  braces_whole : Whole (braces (stmt_room_of limit d)) (braces (stmt_room_of None D))
      (braces_r (stmt_room_r limit d)) (braces_r (stmt_room_r None D)) (codes (BraceOpen ∷ []))
  braces_whole = closed_whole (solid_ret token_code probe tree.Block (block_solid limit d D b))

  statement_whole : StatementWhole limit d D
  statement_whole = whole_or braces_whole
      (whole_or if_whole (whole_or while_whole
      (whole_or do_whole (whole_or for_whole
      (whole_or jump_whole (whole_or return_whole (whole_or state_whole simple_whole refl) refl) refl) refl)
      refl) refl) refl) refl

pub below_all : (limit : Option ℕ) (d D : ℕ) → suc d < D → Below limit d D
below_all limit zero zero lt = absurd (omega arith)
below_all limit zero (suc zero) lt = absurd (omega arith)
below_all limit zero (suc (suc D)) lt = tt
below_all limit (suc d) zero lt = absurd (omega arith)
below_all limit (suc d) (suc D) lt = (
  omega arith,
  statement_whole limit d D (omega arith)
      (below_all limit d D (omega arith)),
)

pub block_is_read : (limit : Option ℕ) (d D : ℕ) → suc d < D
    → Solid token_code probe (block (stmt_room_of limit d)) (block (stmt_room_of None D))
    (block_r (stmt_room_r limit d)) (block_r (stmt_room_r None D)) (codes (BraceOpen ∷ [])) []
block_is_read limit d D lt = block_solid limit d D (below_all limit d D lt)

pub statement_is_read : (limit : Option ℕ) (d D : ℕ) → suc d < D
    → Whole (statement_rule (expr limit d) (stmt_room_of limit d))
    (statement_rule (expr None D) (stmt_room_of None D))
    (statement_rule_r (expr_r limit d) (stmt_room_r limit d))
    (statement_rule_r (expr_r None D) (stmt_room_r None D)) (codes statement_heads)
statement_is_read limit d D lt = statement_whole limit d D (omega arith) (below_all limit d D lt)
