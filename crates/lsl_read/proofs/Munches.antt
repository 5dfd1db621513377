-- After a statement that ends in an `if` without an `else`, no `else` is left.
use Rattle.std.proofs.Common.{◌≡◌, ℕ, zero, suc, Bool, true, false, cond, Option, None, Some, List, [], ◌∷◌, Ok, Err, refl, sym, ap, ◌∙◌}
use Rattle.lsl_text.specs.declared.Span.{Span}
use Rattle.lsl_lex.specs.declared.token_types.Token.{Token}
use Rattle.lsl_tree.specs.Expressions.{Expr}
use Rattle.lsl_tree.specs.Statements as tree
use Rattle.lsl_tree.specs.Statements.{Stmt, ends_open}
use Rattle.lsl_grammar.specs.declared.Why.{Why}
use Rattle.lsl_grammar.specs.Reading.{Read, ◌>>=◌, begins, ret_r, then_r, deep_r}
use Rattle.lsl_grammar.proofs.ReadsLanguage.{ok_value, ok_rest, not_both}
use Rattle.lsl_lex.specs.declared.token_types.Sort.{Sort}
use Rattle.lsl_lex.specs.declared.token_types.Sort.TheVariants.{StateWord, IfWord, ElseWord, ForWord, DoWord, WhileWord, JumpWord, ReturnWord, ParenOpen, ParenClose, BraceOpen, Semicolon}
use Rattle.lsl_signs.specs.Kinds.{Name, codes, token_code, name_of}
use Rattle.lsl_read.specs.ExpressionReading.{TokenReader, sign_r, where_r, expressions_r, expr_r}
use Rattle.lsl_read.specs.StatementReading.{statement_heads, StmtRoom_r, body_r, block_r, braces_r, else_r, if_r, while_rule_r, do_r, for_r, jump_r, return_r, state_name_r, state_rule_r, simple_r, statement_rule_r, stmt_room_r}

-- an `else` is next
abbrev pub else_next : List Token → Bool
else_next ts = begins token_code (codes (ElseWord ∷ [])) ts

pub record Munches (p : TokenReader Stmt) : Type 0 where
  pub munched : (ts rest : List Token) (x : Stmt) → p ts ≡ Ok (x, rest) → ends_open x ≡ true → else_next rest ≡ false

-- each statement that is read ends otherwise
record Closes (p : TokenReader Stmt) : Type 0 where
  pub closed : (ts rest : List Token) (x : Stmt) → p ts ≡ Ok (x, rest) → ends_open x ≡ false

-- the parts of what a chain gave
pub chain : {A B : Type 0} (o : Read Token A) (k : A × List Token → Read Token B) (y : B × List Token)
    → (o >>= k) ≡ Ok y → (x : A × List Token) × (o ≡ Ok x) × (k x ≡ Ok y)
chain (Ok x) k y e = (x, refl, e)
chain (Err x) k y e = absurd (cc)

closes_munches : (p : TokenReader Stmt) → Closes p → Munches p
closes_munches p c = record { munched = λ ts rest x e o. absurd (not_both (ends_open x) o (c.closed ts rest x e)) }

ret_closes : (x : Stmt) → ends_open x ≡ false → Closes (ret_r x)
ret_closes x o = record { closed = λ ts rest y e. ap ends_open (sym (ok_value x y ts rest e)) ∙ o }

then_closes : {A : Type 0} (p : TokenReader A) (q : A → TokenReader Stmt) → ((x : A) → Closes (q x))
    → Closes (then_r p q)
then_closes p q c = record {
  closed = λ ts rest y e. let (x, e1, e2) =
      chain (p ts) (λ x. q x.0 x.1) (y, rest) e in (c x.0).closed x.1 rest y e2;
}

or_closes : (ks : List Sort) (p q : TokenReader Stmt) → Closes p → Closes q → Closes (where_r ks p q)
or_closes ks p q c d = record { closed = λ ts rest x e. go ts rest x (begins token_code (codes ks) ts) e }
  where
    go : (ts rest : List Token) (x : Stmt) (b : Bool) → cond b (p ts) (q ts) ≡ Ok (x, rest) → ends_open x ≡ false
    go ts rest x true e = c.closed ts rest x e
    go ts rest x false e = d.closed ts rest x e

deep_munches : (why : Why) (ks : List Sort) → Munches (deep_r token_code why (codes ks))
deep_munches why ks = record { munched = λ ts rest x e o. absurd (cc) }

then_munches : {A : Type 0} (p : TokenReader A) (q : A → TokenReader Stmt) → ((x : A) → Munches (q x))
    → Munches (then_r p q)
then_munches p q m = record {
  munched = λ ts rest y e o. let (x, e1, e2) =
      chain (p ts) (λ x. q x.0 x.1) (y, rest) e in (m x.0).munched x.1 rest y e2 o;
}

-- what is built from a statement ends as it does
made_munches : (p : TokenReader Stmt) (g : Stmt → Stmt) → ((x : Stmt) → ends_open (g x) ≡ ends_open x)
    → Munches p → Munches (then_r p (λ x. ret_r (g x)))
made_munches p g same m = record {
  munched = λ ts rest y e o.
      let (x, e1, e2) = chain (p ts) (λ x. ret_r (g x.0) x.1) (y, rest) e in
      ap else_next (sym (ok_rest (g x.0) y x.1 rest e2))
      ∙ m.munched ts x.1 x.0 e1 (sym (same x.0) ∙ ap ends_open (ok_value (g x.0) y x.1 rest e2) ∙ o);
}

or_munches : (ks : List Sort) (p q : TokenReader Stmt) → Munches p → Munches q → Munches (where_r ks p q)
or_munches ks p q m n = record { munched = λ ts rest x e o. go ts rest x (begins token_code (codes ks) ts) e o }
  where
    go : (ts rest : List Token) (x : Stmt) (b : Bool) → cond b (p ts) (q ts) ≡ Ok (x, rest) → ends_open x ≡ true
        → else_next rest ≡ false
    go ts rest x true e o = m.munched ts rest x e o
    go ts rest x false e o = n.munched ts rest x e o

module _ (h : StmtRoom_r) (m : Munches (body_r h)) (expr : TokenReader Expr) where
  else_munches : (start : Span) (test : Expr) (first : Stmt) → Munches (else_r h start test first)
  else_munches start test first = record { munched = λ ts rest x e o. go ts rest x (else_next ts) refl e o }
    where
      second : Munches (then_r (sign_r ElseWord)
          (λ other. then_r (body_r h) (λ second. ret_r (tree.IfElse start test first second))))
      second = then_munches (sign_r ElseWord)
          (λ other. then_r (body_r h) (λ second. ret_r (tree.IfElse start test first second)))
          (λ other. made_munches (body_r h) (λ second. tree.IfElse start test first second) (λ x. refl) m)

      go : (ts rest : List Token) (x : Stmt) (b : Bool) → else_next ts ≡ b
          → cond b (then_r (sign_r ElseWord)
          (λ other. then_r (body_r h) (λ second. ret_r (tree.IfElse start test first second))) ts)
          (ret_r (tree.If start test first) ts) ≡ Ok (x, rest) → ends_open x ≡ true → else_next rest ≡ false
      go ts rest x true t e o = second.munched ts rest x e o
      go ts rest x false t e o = ap else_next (sym (ok_rest (tree.If start test first) x ts rest e)) ∙ t

  if_munches : Munches (if_r expr h)
  if_munches = then_munches (sign_r IfWord) _
      (λ start. then_munches (sign_r ParenOpen) _
      (λ left. then_munches expr _ (λ test.
      then_munches (sign_r ParenClose) _ (λ right.
      then_munches (body_r h) _ (λ first. else_munches start.span test first)))))

  while_munches : Munches (while_rule_r expr h)
  while_munches = then_munches (sign_r WhileWord) _
      (λ start. then_munches (sign_r ParenOpen) _
      (λ left. then_munches expr _ (λ test.
      then_munches (sign_r ParenClose) _ (λ right.
      made_munches (body_r h) (λ inner. tree.While start.span test inner) (λ x. refl) m))))

  for_munches : Munches (for_r expr h)
  for_munches = then_munches (sign_r ForWord) _
      (λ start. then_munches (sign_r ParenOpen) _
      (λ left. then_munches (expressions_r Semicolon expr) _
      (λ before. then_munches expr _ (λ test.
      then_munches (sign_r Semicolon) _ (λ middle. then_munches (expressions_r ParenClose expr) _ (λ step.
      made_munches (body_r h) (λ inner. tree.For start.span before test step inner) (λ x. refl) m))))))

  do_munches : Munches (do_r expr h)
  do_munches = closes_munches _ (then_closes (sign_r DoWord) _
      (λ start. then_closes (body_r h) _ (λ inner.
      then_closes (sign_r WhileWord) _ (λ word.
      then_closes (sign_r ParenOpen) _ (λ left.
      then_closes expr _ (λ test. then_closes (sign_r ParenClose) _
      (λ right. then_closes (sign_r Semicolon) _ (λ end.
      ret_closes (tree.Do start.span inner test) refl))))))))

  braces_munches : Munches (braces_r h)
  braces_munches = closes_munches _ (then_closes (block_r h) _ (λ all. ret_closes (tree.Block all) refl))

  jump_munches : Munches jump_r
  jump_munches = closes_munches _ (then_closes (sign_r JumpWord) _
      (λ start. then_closes (sign_r Name) _
      (λ name. then_closes (sign_r Semicolon) _
      (λ end. ret_closes (tree.Jump start.span (name_of name)) refl))))

  return_munches : Munches (return_r expr)
  return_munches = closes_munches _ (then_closes (sign_r ReturnWord) _
      (λ start. or_closes (Semicolon ∷ []) _ _
      (then_closes (sign_r Semicolon) _ (λ end. ret_closes (tree.Return start.span None) refl))
      (then_closes expr _ (λ value. then_closes (sign_r Semicolon) _
      (λ end. ret_closes (tree.Return start.span (Some value)) refl)))))

  state_munches : Munches state_rule_r
  state_munches = closes_munches _ (then_closes (sign_r StateWord) _
      (λ start. then_closes state_name_r _
      (λ name. then_closes (sign_r Semicolon) _ (λ end. ret_closes (tree.State start.span name) refl))))

  simple_munches : Munches (simple_r expr)
  simple_munches = closes_munches _ (or_closes (Semicolon ∷ []) _ _
      (then_closes (sign_r Semicolon) _ (λ end. ret_closes tree.Empty refl))
      (then_closes expr _ (λ value. then_closes (sign_r Semicolon) _
      (λ end. ret_closes (tree.Expression value) refl))))

  statement_munches : Munches (statement_rule_r expr h)
  statement_munches = or_munches (BraceOpen ∷ []) _ _ braces_munches
      (or_munches (IfWord ∷ []) _ _ if_munches
      (or_munches (WhileWord ∷ []) _ _ while_munches
      (or_munches (DoWord ∷ []) _ _ do_munches (or_munches (ForWord ∷ []) _ _ for_munches
      (or_munches (JumpWord ∷ []) _ _ jump_munches
      (or_munches (ReturnWord ∷ []) _ _ return_munches
      (or_munches (StateWord ∷ []) _ _ state_munches simple_munches)))))))

pub body_munches : (limit : Option ℕ) (d : ℕ) → Munches (body_r (stmt_room_r limit d))
body_munches limit zero = deep_munches _ statement_heads
body_munches limit (suc d) = statement_munches (stmt_room_r limit d) (body_munches limit d) (expr_r limit d)
