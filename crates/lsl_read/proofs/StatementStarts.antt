-- What begins no statement is refused at once, and each of the first tokens begins one.
use Rattle.std.proofs.Common.{◌≡◌, ℕ, suc, true, false, Option, List, [], ◌∷◌, ◌++◌, Err, inl, inr, ⊎_elim, refl, ap, ◌∙◌}
use Rattle.lsl_lex.specs.declared.token_types.Token.{Token}
use Rattle.lsl_tree.specs.Statements as tree
use Rattle.lsl_tree.specs.Statements.{Stmt}
use Rattle.lsl_grammar.specs.declared.Why.TheVariants.{OperandDue}
use Rattle.lsl_grammar.specs.Language.{among}
use Rattle.lsl_grammar.specs.Reading.{◌>>=◌, begins, ret_r, then_r}
use Rattle.lsl_grammar.proofs.ReadsLanguage.{cond_false}
use Rattle.lsl_grammar.proofs.Rule.{append_cases}
use Rattle.lsl_lex.specs.declared.token_types.Sort.TheVariants.{StateWord, IfWord, ForWord, DoWord, WhileWord, JumpWord, ReturnWord, BraceOpen, Semicolon}
use Rattle.lsl_signs.specs.Kinds.{codes, token_code}
use Rattle.lsl_read.specs.ExpressionGrammar.{Language, expr}
use Rattle.lsl_read.specs.ExpressionReading.{TokenReader, sign_r, expr_r}
use Rattle.lsl_read.specs.StatementGrammar.{statement_rule, stmt_room_of}
use Rattle.lsl_read.specs.StatementReading.{statement_heads, statement_rule_r, stmt_room_r}
use Rattle.lsl_read.proofs.ExpressionRules.{heads}
use Rattle.lsl_read.proofs.ExpressionStarts.{no_test, expr_misses, expr_covers}

abbrev pub S : Option ℕ → ℕ → Language Stmt
S limit d = statement_rule (expr limit d) (stmt_room_of limit d)

abbrev pub Sr : Option ℕ → ℕ → TokenReader Stmt
Sr limit d = statement_rule_r (expr_r limit d) (stmt_room_r limit d)

simple_misses : (limit : Option ℕ) (d : ℕ) (ts : List Token) → begins token_code (codes heads) ts ≡ false
    → (expr_r limit d ts >>= λ x. then_r (sign_r Semicolon) (λ end. ret_r (tree.Expression x.0)) x.1)
    ≡ Err (OperandDue, ts)
simple_misses limit d ts e = ap (λ o. o >>= λ x.
    then_r (sign_r Semicolon) (λ end. ret_r (tree.Expression x.0)) x.1) (expr_misses limit d ts e)

pub statement_misses : (limit : Option ℕ) (d : ℕ) (ts : List Token)
    → begins token_code (codes statement_heads) ts ≡ false → Sr limit d ts ≡ Err (OperandDue, ts)
statement_misses limit d [] e = simple_misses limit d [] refl
statement_misses limit d (t ∷ ts) e =
    cond_false (among (token_code t) (codes (BraceOpen ∷ []))) _ _ (no_test statement_heads (BraceOpen ∷ []) t refl e)
    ∙ cond_false (among (token_code t) (codes (IfWord ∷ []))) _ _ (no_test statement_heads (IfWord ∷ []) t refl e)
    ∙ cond_false (among (token_code t) (codes (WhileWord ∷ []))) _ _ (no_test statement_heads (WhileWord ∷ []) t refl e)
    ∙ cond_false (among (token_code t) (codes (DoWord ∷ []))) _ _ (no_test statement_heads (DoWord ∷ []) t refl e)
    ∙ cond_false (among (token_code t) (codes (ForWord ∷ []))) _ _ (no_test statement_heads (ForWord ∷ []) t refl e)
    ∙ cond_false (among (token_code t) (codes (JumpWord ∷ []))) _ _ (no_test statement_heads (JumpWord ∷ []) t refl e)
    ∙ cond_false (among (token_code t) (codes (ReturnWord ∷ []))) _ _
    (no_test statement_heads (ReturnWord ∷ []) t refl e)
    ∙ cond_false (among (token_code t) (codes (StateWord ∷ []))) _ _ (no_test statement_heads (StateWord ∷ []) t refl e)
    ∙ cond_false (among (token_code t) (codes (Semicolon ∷ []))) _ _ (no_test statement_heads (Semicolon ∷ []) t refl e)
    ∙ simple_misses limit d (t ∷ ts) (no_test statement_heads heads t refl e)

pub statement_covers : (limit : Option ℕ) (d : ℕ) (t : Token) → among (token_code t) (codes statement_heads) ≡ true
    → (S limit (suc d)).opens (t ∷ [])
statement_covers limit d t m =
    ⊎_elim (λ e. inl (inl (inl (inr (t, refl, e))))) (λ m.
    ⊎_elim (λ e. inr (inl (inl (inr (t, refl, e))))) (λ m.
    ⊎_elim (λ e. inr (inr (inl (inl (inr (t, refl, e)))))) (λ m.
    ⊎_elim (λ e. inr (inr (inr (inl (inl (inr (t, refl, e))))))) (λ m.
    ⊎_elim (λ e. inr (inr (inr (inr (inl (inl (inr (t, refl, e)))))))) (λ m.
    ⊎_elim (λ e. inr (inr (inr (inr (inr (inl (inl (inr (t, refl, e))))))))) (λ m.
    ⊎_elim (λ e. inr (inr (inr (inr (inr (inr (inl (inl (inr (t, refl, e)))))))))) (λ m.
    ⊎_elim (λ e. inr (inr (inr (inr (inr (inr (inr (inl (inl (inr (t, refl, e))))))))))) (λ m.
    ⊎_elim (λ e. inr (inr (inr (inr (inr (inr (inr (inr (inl (inl (inr (t, refl, e))))))))))))
    (λ m. inr (inr (inr (inr (inr (inr (inr (inr (inr (inl (expr_covers limit d t m)))))))))))
    (append_cases (token_code t) (codes (Semicolon ∷ [])) (codes heads) m))
    (append_cases (token_code t) (codes (StateWord ∷ [])) (codes (Semicolon ∷ []) ++ codes heads) m))
    (append_cases (token_code t) (codes (ReturnWord ∷ [])) (codes (StateWord ∷ Semicolon ∷ []) ++ codes heads) m))
    (append_cases (token_code t) (codes (JumpWord ∷ []))
    (codes (ReturnWord ∷ StateWord ∷ Semicolon ∷ []) ++ codes heads) m))
    (append_cases (token_code t) (codes (ForWord ∷ []))
    (codes (JumpWord ∷ ReturnWord ∷ StateWord ∷ Semicolon ∷ []) ++ codes heads) m))
    (append_cases (token_code t) (codes (DoWord ∷ []))
    (codes (ForWord ∷ JumpWord ∷ ReturnWord ∷ StateWord ∷ Semicolon ∷ []) ++ codes heads) m))
    (append_cases (token_code t) (codes (WhileWord ∷ []))
    (codes (DoWord ∷ ForWord ∷ JumpWord ∷ ReturnWord ∷ StateWord ∷ Semicolon ∷ []) ++ codes heads) m))
    (append_cases (token_code t) (codes (IfWord ∷ []))
    (codes (WhileWord ∷ DoWord ∷ ForWord ∷ JumpWord ∷ ReturnWord ∷ StateWord ∷ Semicolon ∷ []) ++ codes
    heads) m))
    (append_cases (token_code t) (codes (BraceOpen ∷ []))
    (codes (IfWord ∷ WhileWord ∷ DoWord ∷ ForWord ∷ JumpWord ∷ ReturnWord ∷ StateWord ∷ Semicolon
    ∷ []) ++ codes heads) m)
