-- A loop over tokens reads rounds: one round, and then the rounds that are left.
use Rattle.std.proofs.Common.{◌≡◌, ℕ, zero, suc, ◌<◌, ◌≤◌, true, cond, List, [], ◌∷◌, length, Ok, Err, refl, ap, ◌∙◌, arith}
use Rattle.lsl_grammar.specs.Language.{among}
use Rattle.lsl_grammar.specs.Reading.{Read, Reader, ◌>>=◌, begins, turns_r, rounds_r}
use Rattle.lsl_grammar.proofs.ReadsLanguage.{cond_true}

module _ {Tok A : Type 0} (kind : Tok → ℕ) (ks : List ℕ) (p : A → Reader Tok A)
    (less : (a b : A) (ts rest : List Tok) → p a ts ≡ Ok (b, rest) → length rest < length ts) where
  -- more turns than tokens change nothing
  enough : (k m : ℕ) (a : A) (ts : List Tok) → length ts ≤ k → length ts ≤ m
      → turns_r kind ks p k a ts ≡ turns_r kind ks p m a ts
  enough zero zero a ts h g = refl
  enough zero (suc m) a [] h g = refl
  enough zero (suc m) a (t ∷ ts) h g = absurd (omega arith)
  enough (suc k) zero a [] h g = refl
  enough (suc k) zero a (t ∷ ts) h g = absurd (omega arith)
  enough (suc k) (suc m) a ts h g = ap (λ o. cond (begins kind ks ts) o (Ok (a, ts)))
      (go (p a ts) refl (λ x. enough k m x.0 x.1))
    where
      go : (o : Read Tok A) → p a ts ≡ o → ((x : A × List Tok) → length x.1 ≤ k → length x.1 ≤ m
          → turns_r kind ks p k x.0 x.1 ≡ turns_r kind ks p m x.0 x.1)
          → (o >>= λ x. turns_r kind ks p k x.0 x.1) ≡ (o >>= λ x. turns_r kind ks p m x.0 x.1)
      go (Ok x) e ih = let lt = less a x.0 ts x.1 e in ih x (omega arith) (omega arith)
      go (Err x) e ih = refl

  pub rounds_step : (a b : A) (ts rest : List Tok) → begins kind ks ts ≡ true → p a ts ≡ Ok (b, rest)
      → rounds_r kind ks p a ts ≡ rounds_r kind ks p b rest
  rounds_step a b [] rest t e = absurd (cc)
  rounds_step a b (s ∷ ts) rest t e =
      let lt = less a b (s ∷ ts) rest e in
      cond_true (among (kind s) ks) _ (Ok (a, s ∷ ts)) t
      ∙ ap (λ o. o >>= λ x. turns_r kind ks p (length ts) x.0 x.1) e
      ∙ enough (length ts) (length rest) b rest (omega arith) (omega arith)
