-- Rounds up to a closing sign, where each token but that sign begins a round: the round itself refuses what isn't a
-- round.
use Rattle.std.proofs.Common.{◌≡◌, ℕ, zero, suc, ◌<◌, ◌≤◌, Bool, true, false, cond, List, [], ◌∷◌, ◌++◌, length, Ok, Err, inl, refl, sym, ap, ◌∙◌, subst, arith, length-append}
use Rattle.lsl_grammar.specs.declared.Why.{Why}
use Rattle.lsl_grammar.specs.declared.Why.TheVariants.{Unexpected}
use Rattle.lsl_grammar.specs.Language.{among, Lang, ret, one_of, ◌>>=◌ as ◌>=>◌, rounds}
use Rattle.lsl_grammar.specs.Reading.{Read, Reader, ◌>>=◌, begins, ret_r, one_r, then_r, turns_r, rounds_r}
use Rattle.lsl_grammar.proofs.ReadsLanguage.{Sub, Apart, Reads, cond_true, ok_rest, err_parts}
use Rattle.lsl_grammar.proofs.Hints.{Hint, Tells, front_hint}
use Rattle.lsl_grammar.proofs.Rule.{Filled, Rule, sign_full, sign_rule, ret_rule, rounds_rule}
use Rattle.lsl_grammar.proofs.ReadsLanguage.{then_reads}
use Rattle.lsl_grammar.proofs.Fronts.{then_fronts}
use Rattle.lsl_grammar.proofs.Widening.{then_mono, then_refines}

module _ {Tok : Type 0} (kind : Tok → ℕ) where
  -- a reader whose language has no empty text takes a token
  pub shrinks : {T : Type 0} (L : Lang Tok T) (p : Reader Tok T) (f : List ℕ) (n : T → List ℕ)
      → Reads kind L p f n → Filled L → (ts rest : List Tok) (x : T) → p ts ≡ Ok (x, rest)
      → length rest < length ts
  shrinks L p f n r full ts rest x e = go (r.sound ts rest x e)
    where
      go : ((u : List Tok) × (ts ≡ u ++ rest) × L.whole u x) → length rest < length ts
      go ([], s, w) = absurd (full.none x w)
      go (t ∷ u, s, w) = omega (arith, ap length s, length-append (t ∷ u) rest)

  module _ {A : Type 0} (ks : List ℕ) (p : A → Reader Tok A)
      (less : (a b : A) (ts rest : List Tok) → p a ts ≡ Ok (b, rest) → length rest < length ts) where
    -- rounds continue as long as their test holds
    turns_stop : (k : ℕ) (a b : A) (ts rest : List Tok) → length ts ≤ k
        → turns_r kind ks p k a ts ≡ Ok (b, rest) → begins kind ks rest ≡ false
    turns_stop zero a b [] rest le e = ap (begins kind ks) (sym (ok_rest a b [] rest e))
    turns_stop zero a b (t ∷ ts) rest le e = absurd (omega arith)
    turns_stop (suc k) a b ts rest le e = by_test (begins kind ks ts) refl e (λ x. turns_stop k x.0 b x.1 rest)
      where
        go : (o : Read Tok A) → p a ts ≡ o → (o >>= λ x. turns_r kind ks p k x.0 x.1) ≡ Ok (b, rest)
            → ((x : A × List Tok) → length x.1 ≤ k → turns_r kind ks p k x.0 x.1 ≡ Ok (b, rest)
            → begins kind ks rest ≡ false) → begins kind ks rest ≡ false
        go (Ok x) e1 e2 ih = let lt = less a x.0 ts x.1 e1 in ih x (omega arith) e2
        go (Err x) e1 e2 ih = absurd (cc)

        by_test : (c : Bool) → begins kind ks ts ≡ c
            → cond c (p a ts >>= λ x. turns_r kind ks p k x.0 x.1) (Ok (a, ts)) ≡ Ok (b, rest)
            → ((x : A × List Tok) → length x.1 ≤ k → turns_r kind ks p k x.0 x.1 ≡ Ok (b, rest)
            → begins kind ks rest ≡ false) → begins kind ks rest ≡ false
        by_test true t e ih = go (p a ts) refl e ih
        by_test false t e ih = ap (begins kind ks) (sym (ok_rest a b ts rest e)) ∙ t

    pub rounds_stop : (a b : A) (ts rest : List Tok) → rounds_r kind ks p a ts ≡ Ok (b, rest)
        → begins kind ks rest ≡ false
    rounds_stop a b ts rest e = turns_stop (length ts) a b ts rest (omega arith) e

module _ {Tok A B : Type 0} (kind : Tok → ℕ) (probe : ℕ) (round round' : A → Lang Tok A)
    (p p' : A → Reader Tok A) (f ks c close F : List ℕ) (N : B → List ℕ) (g : A → Tok → B)
    (r : (a : A) → Rule kind probe (round a) (round' a) (p a) (p' a) f (λ _. c))
    (tested : Sub f ks) (apart : Apart f c) (full : (a : A) → Filled (round a)) (aside : among probe c ≡ false)
    (due : among probe ks ≡ true)
    (last : Sub c ks) (closes : Apart close ks) (alone : among probe close ≡ false)
    (ends : (t : Tok) → among (kind t) ks ≡ false → among (kind t) close ≡ true)
    (heads : Sub f F) (ended : Sub close F) where
  abbrev Close : A → Lang Tok B
  Close x = one_of kind close >=> λ e. ret (g x e)

  abbrev close_r : A → Reader Tok B
  close_r x = then_r (one_r kind Unexpected close) (λ e. ret_r (g x e))

  close_rule : (x : A) → Rule kind probe (Close x) (Close x) (close_r x) (close_r x) close N
  close_rule x = sign_rule kind probe Unexpected close [] N (λ e. ret (g x e)) (λ e. ret (g x e))
      (λ e. ret_r (g x e)) (λ e. ret_r (g x e)) alone (λ e. ret_rule kind probe (g x e) [] N)

  all_rule : (a : A) → Rule kind probe (rounds round a) (rounds round' a) (rounds_r kind ks p a)
      (rounds_r kind ks p' a) f (λ _. ks)
  all_rule a = rounds_rule kind probe round round' p p' f ks c (λ _. ks) r tested apart full aside (inl due)
      (λ _ k h. h) (λ _. last) a

  less : (a b : A) (ts rest : List Tok) → p a ts ≡ Ok (b, rest) → length rest < length ts
  less a b ts rest e = shrinks kind (round a) (p a) f (λ _. c) (r a).reads (full a) ts rest b e

  tells : (a : A) → Tells kind probe (rounds round' a >=> Close) (then_r (rounds_r kind ks p a) close_r)
  tells a = record { tell = λ ts rest w e. go ts rest w (rounds_r kind ks p a ts) refl e }
    where
      closed : (x : A) (u r1 rest : List Tok) (w : Why) → begins kind ks r1 ≡ false
          → close_r x r1 ≡ Err (w, rest) → (v : List Tok) × (u ++ r1 ≡ v ++ rest)
          × Hint kind probe (rounds round' a >=> Close) (then_r (rounds_r kind ks p a) close_r) w v rest
      closed x u [] rest w b e =
          subst (λ (y : Why × List Tok). (v : List Tok) × (u ++ [] ≡ v ++ y.1)
          × Hint kind probe (rounds round' a >=> Close) (then_r (rounds_r kind ks p a) close_r) y.0 v y.1)
          (err_parts {T = B} (Unexpected, []) (w, rest) e) (u, refl, tt)
      closed x u (t ∷ r1) rest w b e =
          let is : close_r x (t ∷ r1) ≡ Ok (g x t, r1) =
          ap (λ o. o >>= λ y. ret_r (g x y.0) y.1)
          (cond_true (among (kind t) close) (Ok (t, r1)) (Err (Unexpected, t ∷ r1)) (ends t b)) in
          absurd (let both = sym is ∙ e in cc)

      go : (ts rest : List Tok) (w : Why) (o : Read Tok A) → rounds_r kind ks p a ts ≡ o
          → (o >>= λ x. close_r x.0 x.1) ≡ Err (w, rest) → (u : List Tok) × (ts ≡ u ++ rest)
          × Hint kind probe (rounds round' a >=> Close) (then_r (rounds_r kind ks p a) close_r) w u rest
      go ts rest w (Ok x) e1 e2 =
          let (u, s, o) = (all_rule a).reads.sound ts x.1 x.0 e1 in
          let (v, s2, h) = closed x.0 u x.1 rest w (rounds_stop kind ks p less a x.0 ts x.1 e1) e2 in
          (v, s ∙ s2, h)
      go ts rest w (Err x) e1 e2 =
          let same : x ≡ (w, rest) = err_parts {T = B} x (w, rest) e2 in
          let (u, s, h) = (all_rule a).tells.tell ts rest w (e1 ∙ ap (λ z. Err z) same) in
          (u, s, front_hint kind probe (rounds round' a) Close (rounds_r kind ks p a) close_r w u rest h)

  pub until_rule : (a : A) → Rule kind probe (rounds round a >=> Close) (rounds round' a >=> Close)
      (then_r (rounds_r kind ks p a) close_r) (then_r (rounds_r kind ks p' a) close_r) F N
  until_rule a = record {
    reads = then_reads kind (rounds round a) Close (rounds_r kind ks p a) close_r f (λ _. ks) (λ _. close) F N
        (all_rule a).reads (λ x. (close_rule x).reads) (λ x. closes)
        (λ x y w. absurd ((sign_full kind probe close (λ e. ret (g x e))).none y w)) heads (λ x w. ended);
    fronts = then_fronts (all_rule a).fronts (λ x. (close_rule x).fronts);
    mono = then_mono (all_rule a).mono (λ x. (close_rule x).mono);
    refines = then_refines (rounds_r kind ks p a) (rounds_r kind ks p' a) close_r close_r (all_rule a).refines
        (λ x. (close_rule x).refines);
    tells = tells a;
  }
