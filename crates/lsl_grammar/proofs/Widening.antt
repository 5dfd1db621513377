-- Wider limits: what was a text still is one, and what was read is read again, unless a token was too deep.
use Rattle.std.proofs.Common.{◌≡◌, ℕ, zero, suc, Bool, true, false, cond, List, [], length, Ok, Err, ◌⊎◌, inl, inr, ⊎_elim, refl, sym, ap, ◌∙◌, subst}
use Rattle.lsl_grammar.specs.declared.Why.{Why}
use Rattle.lsl_grammar.specs.declared.Why.TheVariants.{TooDeep}
use Rattle.lsl_grammar.specs.Language.{Lang, ◌>>=◌ as ◌>=>◌, ◌∣◌, never, Rounds, rounds}
use Rattle.lsl_grammar.specs.Reading.{Read, Reader, ◌>>=◌, begins, then_r, or_r, deep_r, turns_r, rounds_r}
use Rattle.lsl_grammar.proofs.ReadsLanguage.{cond_true, cond_false}

-- what the first has, the second has
pub record Mono {Tok T : Type 0} (L M : Lang Tok T) : Type 0 where
  pub whole : (u : List Tok) (x : T) → L.whole u x → M.whole u x
  pub opens : (u : List Tok) → L.opens u → M.opens u

pub same_mono : {Tok T : Type 0} (L : Lang Tok T) → Mono L L
same_mono L = record { whole = λ u x w. w; opens = λ u o. o }

pub never_mono : {Tok T : Type 0} (L : Lang Tok T) → L.opens [] → Mono never L
never_mono L o = record { whole = λ u x w. absurd w; opens = λ u e. subst L.opens (sym e) o }

pub then_mono : {Tok A B : Type 0} {L M : Lang Tok A} {K J : A → Lang Tok B} → Mono L M
    → ((x : A) → Mono (K x) (J x)) → Mono (L >=> K) (M >=> J)
then_mono m n = record {
  whole = λ u y (x, p, q, e, w, v). (x, p, q, e, m.whole p x w, (n x).whole q y v);
  opens = λ u h. ⊎_elim (λ o. inl (m.opens u o))
      (λ (x, p, q, e, w, o). inr (x, p, q, e, m.whole p x w, (n x).opens q o)) h;
}

pub or_mono : {Tok T : Type 0} {L M L' M' : Lang Tok T} → Mono L L' → Mono M M' → Mono (L ∣ M) (L' ∣ M')
or_mono m n = record {
  whole = λ u x h. ⊎_elim (λ w. inl (m.whole u x w)) (λ w. inr (n.whole u x w)) h;
  opens = λ u h. ⊎_elim (λ o. inl (m.opens u o)) (λ o. inr (n.opens u o)) h;
}

rounds_more : {Tok A : Type 0} (r s : A → Lang Tok A) → ((a : A) → Mono (r a) (s a))
    → (n : ℕ) (a : A) (u : List Tok) (c : A) → Rounds r n a u c → Rounds s n a u c
rounds_more r s m zero a u c h = h
rounds_more r s m (suc n) a u c (b, p, q, e, w, h) = (b, p, q, e, (m a).whole p b w, rounds_more r s m n b q c h)

pub rounds_mono : {Tok A : Type 0} {r s : A → Lang Tok A} → ((a : A) → Mono (r a) (s a)) → (a : A)
    → Mono (rounds r a) (rounds s a)
rounds_mono {r = r} {s = s} m a = record {
  whole = λ u c (n, h). (n, rounds_more r s m n a u c h);
  opens = λ u (n, b, p, q, e, h, o). (
    n,
    b,
    p,
    q,
    e,
    rounds_more r s m n a p b h,
    ⊎_elim (λ z. inl z)
        (λ z. inr ((m b).opens q z)) o,
  );
}

-- the result says that a token is too deep
abbrev pub Sinks : {Tok T : Type 0} → Read Tok T → Type 0
Sinks (Ok x) = ⊥
Sinks (Err e) = e.0 ≡ TooDeep

-- with wider limits the same is read, unless a token was too deep
pub record Refines {Tok T : Type 0} (p q : Reader Tok T) : Type 0 where
  pub agrees : (ts : List Tok) → (q ts ≡ p ts) ⊎ Sinks (p ts)

pub same_refines : {Tok T : Type 0} (p : Reader Tok T) → Refines p p
same_refines p = record { agrees = λ ts. inl refl }

-- readers that do the same
pub refines_as : {Tok T : Type 0} (p p' q q' : Reader Tok T) → ((ts : List Tok) → p ts ≡ p' ts)
    → ((ts : List Tok) → q ts ≡ q' ts) → Refines p q → Refines p' q'
refines_as p p' q q' same same' r = record {
  agrees =
      λ ts. ⊎_elim (λ e. inl (sym (same' ts) ∙ e ∙ same ts)) (λ s. inr (subst Sinks (same ts) s)) (r.agrees ts);
}

pub then_refines : {Tok A B : Type 0} (p p' : Reader Tok A) (q q' : A → Reader Tok B) → Refines p p'
    → ((x : A) → Refines (q x) (q' x)) → Refines (then_r p q) (then_r p' q')
then_refines {Tok} {A} {B} p p' q q' r s = record { agrees = λ ts. go ts (p ts) refl (r.agrees ts) }
  where
    go : (ts : List Tok) (o : Read Tok A) → p ts ≡ o → (p' ts ≡ p ts) ⊎ Sinks (p ts)
        → (then_r p' q' ts ≡ then_r p q ts) ⊎ Sinks (then_r p q ts)
    go ts (Ok x) e (inl same) = ⊎_elim
        (λ next. inl (ap (λ o. o >>= λ y. q' y.0 y.1) (same ∙ e) ∙ next ∙ sym (ap (λ o. o >>= λ y. q y.0 y.1) e)))
        (λ sinks. inr (subst Sinks (sym (ap (λ o. o >>= λ y. q y.0 y.1) e)) sinks))
        ((s x.0).agrees x.1)
    go ts (Ok x) e (inr sinks) = absurd (subst Sinks e sinks)
    go ts (Err x) e (inl same) = inl (ap (λ o. o >>= λ y. q' y.0 y.1) (same ∙ e)
        ∙ sym (ap (λ o. o >>= λ y. q y.0 y.1) e))
    go ts (Err x) e (inr sinks) = inr (subst Sinks (sym (ap (λ o. o >>= λ y. q y.0 y.1) e)) (subst Sinks e sinks))

-- a test that reads tokens alone
pub test_refines : {Tok T : Type 0} (test : List Tok → Bool) (p p' q q' : Reader Tok T) → Refines p p'
    → Refines q q' → Refines (λ ts. cond (test ts) (p ts) (q ts)) (λ ts. cond (test ts) (p' ts) (q' ts))
test_refines {Tok} {T} test p p' q q' r s = record { agrees = λ ts. go ts (test ts) }
  where
    go : (ts : List Tok) (b : Bool) → (cond b (p' ts) (q' ts) ≡ cond b (p ts) (q ts)) ⊎ Sinks (cond b (p ts) (q ts))
    go ts true = r.agrees ts
    go ts false = s.agrees ts

pub or_refines : {Tok T : Type 0} (kind : Tok → ℕ) (ks : List ℕ) (p p' q q' : Reader Tok T) → Refines p p'
    → Refines q q' → Refines (or_r kind ks p q) (or_r kind ks p' q')
or_refines kind ks p p' q q' r s = test_refines (begins kind ks) p p' q q' r s

module _ {Tok A : Type 0} (kind : Tok → ℕ) (ks : List ℕ) (p p' : A → Reader Tok A)
    (each : (a : A) → Refines (p a) (p' a)) where
  abbrev Agrees : ℕ → A → List Tok → Type 0
  Agrees k a ts = (turns_r kind ks p' k a ts ≡ turns_r kind ks p k a ts) ⊎ Sinks (turns_r kind ks p k a ts)

  turns_agree : (k : ℕ) (a : A) (ts : List Tok) → Agrees k a ts
  turns_agree zero a ts = inl refl
  turns_agree (suc k) a ts = by_test (begins kind ks ts) (λ x. turns_agree k x.0 x.1)
    where
      go : (o : Read Tok A) → p a ts ≡ o → (p' a ts ≡ p a ts) ⊎ Sinks (p a ts)
          → ((x : A × List Tok) → Agrees k x.0 x.1) →
          ((p' a ts >>= λ x. turns_r kind ks p' k x.0 x.1) ≡ (p a ts >>= λ x. turns_r kind ks p k x.0 x.1))
          ⊎ Sinks (p a ts >>= λ x. turns_r kind ks p k x.0 x.1)
      go (Ok x) e (inl same) ih = ⊎_elim
          (λ next. inl (ap (λ o. o >>= λ y. turns_r kind ks p' k y.0 y.1) (same ∙ e) ∙ next
          ∙ sym (ap (λ o. o >>= λ y. turns_r kind ks p k y.0 y.1) e)))
          (λ sinks. inr (subst Sinks (sym (ap (λ o. o >>= λ y. turns_r kind ks p k y.0 y.1) e)) sinks))
          (ih x)
      go (Ok x) e (inr sinks) ih = absurd (subst Sinks e sinks)
      go (Err x) e (inl same) ih = inl (ap (λ o. o >>= λ y. turns_r kind ks p' k y.0 y.1) (same ∙ e)
          ∙ sym (ap (λ o. o >>= λ y. turns_r kind ks p k y.0 y.1) e))
      go (Err x) e (inr sinks) ih = inr (subst Sinks (sym (ap (λ o. o >>= λ y. turns_r kind ks p k y.0 y.1) e))
          (subst Sinks e sinks))

      by_test : (b : Bool) → ((x : A × List Tok) → Agrees k x.0 x.1)
          → (cond b (p' a ts >>= λ x. turns_r kind ks p' k x.0 x.1) (Ok (a, ts))
          ≡ cond b (p a ts >>= λ x. turns_r kind ks p k x.0 x.1) (Ok (a, ts)))
          ⊎ Sinks (cond b (p a ts >>= λ x. turns_r kind ks p k x.0 x.1) (Ok (a, ts)))
      by_test true ih = go (p a ts) refl ((each a).agrees ts) ih
      by_test false ih = inl refl

  pub rounds_refines : (a : A) → Refines (rounds_r kind ks p a) (rounds_r kind ks p' a)
  rounds_refines a = record { agrees = λ ts. turns_agree (length ts) a ts }

-- what may not be begun, where it may
pub deep_refines : {Tok T : Type 0} (kind : Tok → ℕ) (why : Why) (ks : List ℕ) (r : Reader Tok T)
    → ((ts : List Tok) → begins kind ks ts ≡ false → r ts ≡ Err (why, ts)) → Refines (deep_r kind why ks) r
deep_refines {Tok} {T} kind why ks r misses = record { agrees = λ ts. go ts (begins kind ks ts) refl }
  where
    go : (ts : List Tok) (b : Bool) → begins kind ks ts ≡ b → (r ts ≡ deep_r kind why ks ts)
        ⊎ Sinks (deep_r {T = T} kind why ks ts)
    go ts true e = inr (ap (λ (z : Why × List Tok). z.0) (cond_true (begins kind ks ts) (TooDeep, ts) (why, ts) e))
    go ts false e = inl (misses ts e ∙ ap (λ z. Err z) (sym (cond_false (begins kind ks ts) (TooDeep, ts) (why, ts) e)))
