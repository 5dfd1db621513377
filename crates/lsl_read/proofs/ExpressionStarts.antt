-- What begins no expression is refused at once, as an operand that is due, and each of the first tokens begins one.
use Rattle.std.proofs.Common.{◌≡◌, ℕ, zero, suc, true, false, Option, List, [], ◌∷◌, ◌++◌, Err, inl, inr, ⊎_elim, refl, ap, ◌∙◌}
use Rattle.lsl_lex.specs.declared.token_types.Token.{Token}
use Rattle.lsl_tree.specs.Expressions as tree
use Rattle.lsl_tree.specs.Expressions.{Expr}
use Rattle.lsl_grammar.specs.declared.Why.{Why}
use Rattle.lsl_grammar.specs.declared.Why.TheVariants.{OperandDue}
use Rattle.lsl_grammar.specs.Language.{among}
use Rattle.lsl_grammar.specs.Reading.{◌>>=◌, begins, ret_r, pair_next}
use Rattle.lsl_grammar.proofs.ReadsLanguage.{stops_sub, cond_false}
use Rattle.lsl_grammar.proofs.Rule.{subset, sub_by, append_cases}
use Rattle.lsl_lex.specs.declared.token_types.Sort.{Sort}
use Rattle.lsl_lex.specs.declared.token_types.Sort.TheVariants.{ParenOpen, BracketOpen}
use Rattle.lsl_signs.specs.Kinds.{Name, Int, Str, codes, token_code, integer_of}
use Rattle.lsl_signs.specs.Operators.{prefix_signs, step_signs, assign_signs, levels, signs}
use Rattle.lsl_read.specs.ExpressionGrammar.{Language, level, expr}
use Rattle.lsl_read.specs.ExpressionReading.{TokenReader, while_r, next_operand_r, unary_rule_r, level_rule_r, Room_r, room_r, expr_r}
use Rattle.lsl_read.proofs.ExpressionRules.{heads, U}

pub no_test : (all ks : List Sort) (t : Token) → subset (codes ks) (codes all) ≡ true
    → among (token_code t) (codes all) ≡ false → among (token_code t) (codes ks) ≡ false
no_test all ks t s e = stops_sub token_code (codes ks) (codes all) (t ∷ []) (sub_by (codes ks) (codes all) s) e

unary_misses : (room : Room_r) (t : Token) (ts : List Token) → among (token_code t) (codes heads) ≡ false
    → unary_rule_r room (t ∷ ts) ≡ Err (OperandDue, t ∷ ts)
unary_misses room t ts e =
    cond_false (among (token_code t) (codes prefix_signs)) _ _ (no_test heads prefix_signs t refl e)
    ∙ cond_false (among (token_code t) (codes step_signs)) _ _ (no_test heads step_signs t refl e)
    ∙ cond_false (among (token_code t) (codes (ParenOpen ∷ []))) _ _ (no_test heads (ParenOpen ∷ []) t refl e)
    ∙ cond_false (among (token_code t) (codes (BracketOpen ∷ []))) _ _ (no_test heads (BracketOpen ∷ []) t refl e)
    ∙ cond_false (among (token_code t) (codes (Str ∷ []))) _ _ (no_test heads (Str ∷ []) t refl e)
    ∙ cond_false (among (token_code t) (codes (Name ∷ []))) _ _ (no_test heads (Name ∷ []) t refl e)
    ∙ ap (λ o. o >>= λ x. ret_r (tree.Int (integer_of x.0.sort) x.0.span) x.1)
    (cond_false (among (token_code t) (codes (Int ∷ []))) _ _ (no_test heads (Int ∷ []) t refl e))

level_misses : (limit : Option ℕ) (u : TokenReader Expr) (ts : List Token) (x : Why × List Token) → u ts ≡ Err x
    → (n : ℕ) → level_rule_r limit u n ts ≡ Err x
level_misses limit u ts x e zero = e
level_misses limit u ts x e (suc n) = ap (λ o. o >>= λ y.
    while_r (signs n) (next_operand_r limit (level_rule_r limit u n) (signs n)) y.0 y.1)
    (level_misses limit u ts x e n)

pub expr_misses : (limit : Option ℕ) (d : ℕ) (ts : List Token) → begins token_code (codes heads) ts ≡ false
    → expr_r limit d ts ≡ Err (OperandDue, ts)
unfolding expr_r
expr_misses limit d [] e = level_misses limit (unary_rule_r (room_r limit d)) [] (OperandDue, []) refl levels
expr_misses limit d (t ∷ ts) e =
    cond_false (pair_next token_code (codes (Name ∷ [])) (codes assign_signs) (t ∷ ts)) _ _
    (cond_false (among (token_code t) (codes (Name ∷ []))) _ _ (no_test heads (Name ∷ []) t refl e))
    ∙ level_misses limit (unary_rule_r (room_r limit d)) (t ∷ ts) (OperandDue, t ∷ ts)
    (unary_misses (room_r limit d) t ts e) levels

level_opens : (limit : Option ℕ) (u : Language Expr) (ts : List Token) → u.opens ts → (n : ℕ)
    → (level limit u n).opens ts
level_opens limit u ts o zero = o
level_opens limit u ts o (suc n) = inl (level_opens limit u ts o n)

unary_covers : (limit : Option ℕ) (d : ℕ) (t : Token) → among (token_code t) (codes heads) ≡ true
    → (U limit (suc d)).opens (t ∷ [])
unary_covers limit d t m =
    ⊎_elim (λ e. inl (inl (inr (t, refl, e)))) (λ m.
    ⊎_elim (λ e. inr (inl (inl (inr (t, refl, e))))) (λ m.
    ⊎_elim (λ e. inr (inr (inl (inl (inr (t, refl, e)))))) (λ m.
    ⊎_elim (λ e. inr (inr (inr (inl (inl (inr (t, refl, e))))))) (λ m.
    ⊎_elim (λ e. inr (inr (inr (inr (inl (inl (inr (t, refl, e)))))))) (λ m.
    ⊎_elim (λ e. inr (inr (inr (inr (inr (inl (inl (inr (t, refl, e)))))))))
    (λ e. inr (inr (inr (inr (inr (inr (inl (inr (t, refl, e)))))))))
    (append_cases (token_code t) (codes (Name ∷ [])) (codes (Int ∷ [])) m))
    (append_cases (token_code t) (codes (Str ∷ [])) (codes (Name ∷ Int ∷ [])) m))
    (append_cases (token_code t) (codes (BracketOpen ∷ [])) (codes (Str ∷ Name ∷ Int ∷ [])) m))
    (append_cases (token_code t) (codes (ParenOpen ∷ [])) (codes (BracketOpen ∷ Str ∷ Name ∷ Int ∷ [])) m))
    (append_cases (token_code t) (codes step_signs) (codes (ParenOpen ∷ BracketOpen ∷ Str ∷ Name ∷ Int ∷ [])) m))
    (append_cases (token_code t) (codes prefix_signs)
    (codes step_signs ++ codes (ParenOpen ∷ BracketOpen ∷ Str ∷ Name ∷ Int ∷ [])) m)

pub expr_covers : (limit : Option ℕ) (d : ℕ) (t : Token) → among (token_code t) (codes heads) ≡ true
    → (expr limit (suc d)).opens (t ∷ [])
unfolding expr
expr_covers limit d t m = inr (level_opens limit (U limit (suc d)) (t ∷ []) (unary_covers limit d t m) levels)
