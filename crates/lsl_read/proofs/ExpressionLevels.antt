-- Operands with operators between them, read in one loop: the level of the next sign decides.
use Rattle.std.proofs.Common.{◌≡◌, ℕ, zero, suc, ◌<◌, ◌≤◌, Bool, true, false, cond, Option, None, Some, List, [], ◌∷◌, length, Ok, Err, ◌⊎◌, inl, inr, refl, sym, ap, ◌∙◌, subst, arith}
use Rattle.std.proofs.lemmas.Bool.{cases_lt}
use Rattle.lsl_lex.specs.Kinds.{kind_of}
use Rattle.lsl_lex.specs.declared.token_types.Sort.{Sort}
use Rattle.lsl_lex.specs.declared.token_types.Token.{Token}
use Rattle.lsl_tree.specs.Expressions.{Expr, Binary}
use Rattle.lsl_grammar.specs.Language.{among}
use Rattle.lsl_grammar.specs.Reading.{Read, ◌>>=◌, begins, ret_r, then_r, turns_r, rounds_r}
use Rattle.lsl_grammar.proofs.ReadsLanguage.{cond_true, cond_false, ok_rest}
use Rattle.lsl_grammar.proofs.Rule.{sub_left, sub_right}
use Rattle.lsl_grammar.proofs.Until.{rounds_stop}
use Rattle.lsl_grammar.proofs.Loops.{rounds_step}
use Rattle.lsl_signs.specs.Kinds.{codes, token_code}
use Rattle.lsl_signs.specs.Operators.{levels, signs, level_of, operator_of}
use Rattle.lsl_read.specs.ExpressionGrammar.{fits}
use Rattle.lsl_read.specs.ExpressionReading.{TokenReader, any_r, while_r, gate_r, operation_r, next_operand_r, level_rule_r, behind_r, unary_rule_r, room_r, unary_r, level_r, operators_r}
use Rattle.lsl_read.proofs.ExpressionRules.{tails, signs_apart}
use Rattle.lsl_read.proofs.ExpressionLoops.{operand_less}
use Rattle.lsl_read.proofs.Munches.{chain}

-- The level of a sign

pub level_some : (n : ℕ) (s : Sort) (k : ℕ) → level_of n s ≡ Some k → (k < n)
    × (among (kind_of s) (codes (signs k)) ≡ true)
level_some zero s k e = absurd (cc)
level_some (suc n) s k e = go (among (kind_of s) (codes (signs n))) refl e (level_some n s k)
  where
    go : (b : Bool) → among (kind_of s) (codes (signs n)) ≡ b → cond b (Some n) (level_of n s) ≡ Some k
        → (level_of n s ≡ Some k → (k < n) × (among (kind_of s) (codes (signs k)) ≡ true)) → (k < suc n)
        × (among (kind_of s) (codes (signs k)) ≡ true)
    go true t f ih = let same : n ≡ k = cc in
        (omega (arith, same), subst (λ m. among (kind_of s) (codes (signs m)) ≡ true) same t)
    go false t f ih = let h = ih f in (omega (arith, h.0), h.1)

level_none : (n : ℕ) (s : Sort) (k : ℕ) → level_of n s ≡ None → k < n → among (kind_of s) (codes (signs k)) ≡ false
level_none zero s k e lt = absurd (omega arith)
level_none (suc n) s k e lt = go (among (kind_of s) (codes (signs n))) refl e (level_none n s k)
  where
    go : (b : Bool) → among (kind_of s) (codes (signs n)) ≡ b → cond b (Some n) (level_of n s) ≡ None
        → (level_of n s ≡ None → k < n → among (kind_of s) (codes (signs k)) ≡ false)
        → among (kind_of s) (codes (signs k)) ≡ false
    go true t f ih = absurd (cc)
    go false t f ih = by (cases_lt k n)
      where
        by : (k < n) ⊎ (n ≤ k) → among (kind_of s) (codes (signs k)) ≡ false
        by (inl h) = ih f h
        by (inr h) = let same : n ≡ k = omega arith in subst (λ m. among (kind_of s) (codes (signs m)) ≡ false) same t

in_tails : (k j c : ℕ) → j < k → among c (codes (signs j)) ≡ true → among c (tails k) ≡ true
in_tails zero j c lt e = absurd (omega arith)
in_tails (suc k) j c lt e = by (cases_lt j k) (λ h. in_tails k j c h e)
  where
    by : (j < k) ⊎ (k ≤ j) → (j < k → among c (tails k) ≡ true) → among c (tails (suc k)) ≡ true
    by (inl h) ih = sub_right (codes (signs k)) (tails k) c (ih h)
    by (inr h) ih = let same : j ≡ k = omega arith in
        sub_left (codes (signs k)) (tails k) c (subst (λ m. among c (codes (signs m)) ≡ true) same e)

-- a sign of one level isn't one of a tighter one
tighter : (k j c : ℕ) → j < k → among c (codes (signs k)) ≡ true → among c (codes (signs j)) ≡ false
tighter k j c lt e = go (among c (codes (signs j))) refl
  where
    go : (b : Bool) → among c (codes (signs j)) ≡ b → b ≡ false
    go true t = absurd (signs_apart k c e (in_tails k j c lt t))
    go false t = refl

no_level : (j c : ℕ) → levels ≤ j → among c (codes (signs j)) ≡ false
no_level zero c h = absurd (omega arith)
no_level (suc zero) c h = absurd (omega arith)
no_level (suc (suc zero)) c h = absurd (omega arith)
no_level (suc (suc (suc zero))) c h = absurd (omega arith)
no_level (suc (suc (suc (suc zero)))) c h = absurd (omega arith)
no_level (suc (suc (suc (suc (suc zero))))) c h = absurd (omega arith)
no_level (suc (suc (suc (suc (suc (suc zero)))))) c h = absurd (omega arith)
no_level (suc (suc (suc (suc (suc (suc (suc zero))))))) c h = absurd (omega arith)
no_level (suc (suc (suc (suc (suc (suc (suc (suc zero)))))))) c h = absurd (omega arith)
no_level (suc (suc (suc (suc (suc (suc (suc (suc (suc j))))))))) c h = refl

-- no sign of the n tightest levels is next
abbrev pub Clear : ℕ → List Token → Type 0
Clear n ts = (j : ℕ) → j < n → begins token_code (codes (signs j)) ts ≡ false

pub clear_none : (n : ℕ) (t : Token) (ts : List Token) → level_of levels t.sort ≡ None → Clear n (t ∷ ts)
clear_none n t ts e j lt = by (cases_lt j levels)
  where
    by : (j < levels) ⊎ (levels ≤ j) → among (token_code t) (codes (signs j)) ≡ false
    by (inl h) = level_none levels t.sort j e h
    by (inr h) = no_level j (token_code t) h

pub clear_below : (n k : ℕ) (t : Token) (ts : List Token) → n ≤ k → level_of levels t.sort ≡ Some k → Clear n (t ∷ ts)
clear_below n k t ts le e j lt = let h = level_some levels t.sort k e in tighter k j (token_code t) (omega arith) h.1

clear_sign : (k : ℕ) (ts : List Token) → begins token_code (codes (signs k)) ts ≡ true → Clear k ts
clear_sign k [] e j lt = absurd (cc)
clear_sign k (t ∷ ts) e j lt = tighter k j (token_code t) lt e

clear_more : (n : ℕ) (ts : List Token) → Clear n ts → begins token_code (codes (signs n)) ts ≡ false → Clear (suc n) ts
clear_more n ts c e j lt = by (cases_lt j n)
  where
    by : (j < n) ⊎ (n ≤ j) → begins token_code (codes (signs j)) ts ≡ false
    by (inl h) = c j h
    by (inr h) = let same : n ≡ j = omega arith in subst (λ m. begins token_code (codes (signs m)) ts ≡ false) same e

-- Rounds

module _ {A : Type 0} (ks : List ℕ) (p : A → TokenReader A) where
  no_round : (a : A) (ts : List Token) → begins token_code ks ts ≡ false → rounds_r token_code ks p a ts ≡ Ok (a, ts)
  no_round a [] e = refl
  no_round a (t ∷ ts) e = cond_false (among (token_code t) ks) _ _ e

  bad_round : {x : _} (a : A) (ts : List Token) → begins token_code ks ts ≡ true → p a ts ≡ Err x
      → rounds_r token_code ks p a ts ≡ Err x
  bad_round a [] t e = absurd (cc)
  bad_round a (s ∷ ts) t e = cond_true (among (token_code s) ks) _ _ t
      ∙ ap (λ o. o >>= λ x. turns_r token_code ks p (length ts) x.0 x.1) e

  -- what holds after each round holds after all of them
  rounds_keep : (P : List Token → Type 0) → ((a b : A) (ts rest : List Token) → p a ts ≡ Ok (b, rest) → P rest)
      → (n : ℕ) (a b : A) (ts rest : List Token) → P ts → turns_r token_code ks p n a ts ≡ Ok (b, rest) → P rest
  rounds_keep P each zero a b ts rest h e = subst P (ok_rest a b ts rest e) h
  rounds_keep P each (suc n) a b ts rest h e = go (begins token_code ks ts) e (rounds_keep P each n)
    where
      on : (o : Read Token A) → p a ts ≡ o → (o >>= λ x. turns_r token_code ks p n x.0 x.1) ≡ Ok (b, rest)
          → ((a b : A) (ts rest : List Token) → P ts → turns_r token_code ks p n a ts ≡ Ok (b, rest) → P rest)
          → P rest
      on (Ok x) e1 e2 ih = ih x.0 b x.1 rest (each a x.0 ts x.1 e1) e2
      on (Err x) e1 e2 ih = absurd (cc)

      go : (c : Bool) → cond c (p a ts >>= λ x. turns_r token_code ks p n x.0 x.1) (Ok (a, ts)) ≡ Ok (b, rest)
          → ((a b : A) (ts rest : List Token) → P ts → turns_r token_code ks p n a ts ≡ Ok (b, rest) → P rest)
          → P rest
      go true f ih = on (p a ts) refl f ih
      go false f ih = subst P (ok_rest a b ts rest f) h

-- Levels

module _ (limit : Option ℕ) (d : ℕ) where
  abbrev U : TokenReader Expr
  U = unary_rule_r (room_r limit d)

  abbrev round : ℕ → Expr → TokenReader Expr
  round n = next_operand_r limit (level_rule_r limit U n) (signs n)

  abbrev more : ℕ → Expr → TokenReader Expr
  more n = while_r (signs n) (round n)

  less : (n : ℕ) (a b : Expr) (ts rest : List Token) → round n a ts ≡ Ok (b, rest) → length rest < length ts
  unfolding level_r
  less n a b ts rest e = operand_less limit d n a b ts rest e

  -- after an operand that was read there is no sign of its levels
  round_clear : (n : ℕ) → ((ts rest : List Token) (x : Expr) → level_rule_r limit U n ts ≡ Ok (x, rest)
      → Clear n rest) → (a b : Expr) (ts rest : List Token) → round n a ts ≡ Ok (b, rest) → Clear n rest
  round_clear n ih a b ts rest e = go (fits limit a) e
    where
      made : Token → Expr → Expr
      made op right = Binary (operator_of op.sort) op.span a right

      go : (g : Bool) → gate_r (signs n) g (operation_r (level_rule_r limit U n) (signs n) a) ts ≡ Ok (b, rest)
          → Clear n rest
      go true f =
          let (op, e1, e2) = chain (any_r (signs n) ts)
          (λ x. then_r (level_rule_r limit U n) (λ right. ret_r (made x.0 right)) x.1) (b, rest) f in
          let (right, e3, e4) = chain (level_rule_r limit U n op.1) (λ x. ret_r (made op.0 x.0) x.1) (b, rest) e2 in
          subst (Clear n) (ok_rest (made op.0 right.0) b right.1 rest e4) (ih op.1 right.1 right.0 e3)
      go false f = absurd (cc)

  level_clear : (n : ℕ) (ts rest : List Token) (x : Expr) → level_rule_r limit U n ts ≡ Ok (x, rest) → Clear n rest
  level_clear zero ts rest x e j lt = absurd (omega arith)
  level_clear (suc n) ts rest x e j lt =
      let (first, e1, e2) = chain (level_rule_r limit U n ts) (λ x. more n x.0 x.1) (x, rest) e in
      clear_more n rest
      (rounds_keep (codes (signs n)) (round n) (Clear n) (round_clear n (level_clear n)) (length first.1)
      first.0 x first.1 rest (level_clear n ts first.1 first.0 e1) e2)
      (rounds_stop token_code (codes (signs n)) (round n) (less n) first.0 x first.1 rest e2) j lt

  -- where no sign is next, nothing is read
  still : (n : ℕ) (left : Expr) (ts : List Token) → Clear n ts → behind_r limit U n left ts ≡ Ok (left, ts)
  still zero left ts c = refl
  still (suc n) left ts c =
      ap (λ o. o >>= λ x. more n x.0 x.1) (still n left ts (λ j lt. c j (omega arith)))
      ∙ no_round (codes (signs n)) (round n) left ts (c n (omega arith))

  same_level : (n : ℕ) (left : Expr) (ts : List Token) → begins token_code (codes (signs n)) ts ≡ true
      → behind_r limit U (suc n) left ts ≡ (round n left ts >>= λ x. behind_r limit U (suc n) x.0 x.1)
  same_level n left ts t = ap (λ o. o >>= λ x. more n x.0 x.1) (still n left ts (clear_sign n ts t))
      ∙ go (round n left ts) refl
    where
      go : (o : Read Token Expr) → round n left ts ≡ o → more n left ts ≡ (o >>= λ x. behind_r limit U (suc n) x.0 x.1)
      go (Ok x) e =
          rounds_step token_code (codes (signs n)) (round n) (less n) left x.0 ts x.1 t e
          ∙ sym (ap (λ o. o >>= λ y. more n y.0 y.1)
          (still n x.0 x.1 (round_clear n (level_clear n) left x.0 ts x.1 e)))
      go (Err x) e = bad_round (codes (signs n)) (round n) left ts t e

  -- a sign of one of the levels takes its right operand, and then the same levels continue
  step : (n k : ℕ) (left : Expr) (ts : List Token) → k < n → begins token_code (codes (signs k)) ts ≡ true
      → behind_r limit U n left ts ≡ (round k left ts >>= λ x. behind_r limit U n x.0 x.1)
  step zero k left ts lt t = absurd (omega arith)
  step (suc n) k left ts lt t = by (cases_lt k n) (λ h. step n k left ts h t)
    where
      go : (o : Read Token Expr) → ((o >>= λ x. behind_r limit U n x.0 x.1) >>= λ x. more n x.0 x.1)
          ≡ (o >>= λ x. behind_r limit U (suc n) x.0 x.1)
      go (Ok x) = refl
      go (Err x) = refl

      by : (k < n) ⊎ (n ≤ k) → (k < n → behind_r limit U n left ts
          ≡ (round k left ts >>= λ x. behind_r limit U n x.0 x.1))
          → behind_r limit U (suc n) left ts ≡ (round k left ts >>= λ x. behind_r limit U (suc n) x.0 x.1)
      by (inl h) ih = ap (λ o. o >>= λ x. more n x.0 x.1) (ih h) ∙ go (round k left ts)
      by (inr h) ih =
          let same : n ≡ k = omega arith in
          subst (λ m. behind_r limit U (suc n) left ts
          ≡ (round m left ts >>= λ x. behind_r limit U (suc n) x.0 x.1)) same
          (same_level n left ts (subst (λ m. begins token_code (codes (signs m)) ts ≡ true) (sym same) t))

  first_then : (n : ℕ) (ts : List Token) → level_rule_r limit U n ts ≡ (U ts >>= λ x. behind_r limit U n x.0 x.1)
  first_then zero ts = go (U ts)
    where
      go : (o : Read Token Expr) → o ≡ (o >>= λ x. Ok x)
      go (Ok x) = refl
      go (Err x) = refl
  first_then (suc n) ts = ap (λ o. o >>= λ x. more n x.0 x.1) (first_then n ts) ∙ go (U ts)
    where
      go : (o : Read Token Expr) → ((o >>= λ x. behind_r limit U n x.0 x.1) >>= λ x. more n x.0 x.1)
          ≡ (o >>= λ x. behind_r limit U (suc n) x.0 x.1)
      go (Ok x) = refl
      go (Err x) = refl

-- a level is an operand, and what follows it
pub level_operators : (limit : Option ℕ) (d n : ℕ) (ts : List Token)
    → level_r limit d n ts ≡ (unary_r limit d ts >>= λ x. operators_r limit d n x.0 x.1)
unfolding level_r unary_r operators_r
level_operators limit d n ts = first_then limit d n ts

pub operators_still : (limit : Option ℕ) (d n : ℕ) (left : Expr) (ts : List Token) → Clear n ts
    → operators_r limit d n left ts ≡ Ok (left, ts)
unfolding operators_r
operators_still limit d n left ts c = still limit d n left ts c

pub operators_step : (limit : Option ℕ) (d n k : ℕ) (left : Expr) (ts : List Token) → k < n
    → begins token_code (codes (signs k)) ts ≡ true
    → operators_r limit d n left ts ≡ (next_operand_r limit (level_r limit d k) (signs k) left ts >>= λ x.
    operators_r limit d n x.0 x.1)
unfolding operators_r level_r
operators_step limit d n k left ts lt t = step limit d n k left ts lt t
