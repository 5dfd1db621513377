-- A prefix of a prefix of a text is a prefix too.
use Rattle.std.proofs.Common.{◌≡◌, ℕ, zero, suc, List, [], ◌∷◌, ◌++◌, ◌⊎◌, inl, inr, ⊎_elim, refl, sym, ap, ◌∙◌, subst, append_assoc}
use Rattle.lsl_grammar.specs.Language.{Lang, ret, one_of, ◌>>=◌ as ◌>=>◌, ◌∣◌, never, Rounds, rounds}

pub record Fronts {Tok T : Type 0} (L : Lang Tok T) : Type 0 where
  pub within : (u : List Tok) (x : T) → L.whole u x → L.opens u
  pub closed : (u v : List Tok) → L.opens (u ++ v) → L.opens u

none_front : {Tok : Type 0} (u v : List Tok) → u ++ v ≡ [] → u ≡ []
none_front [] v e = refl
none_front (t ∷ u) v e = absurd (cc)

-- one of two fronts of a list begins the other
split : {Tok : Type 0} (u v p q : List Tok) → u ++ v ≡ p ++ q → ((r : List Tok) × (u ≡ p ++ r) × (q ≡ r ++ v))
    ⊎ ((r : List Tok) × (p ≡ u ++ r))
split u v [] q e = inl (u, refl, sym e)
split [] v (t ∷ p) q e = inr (t ∷ p, refl)
split (s ∷ u) v (t ∷ p) q e =
    let same : s ≡ t = cc in
    ⊎_elim
    (λ (r, f, g). inl (r, ap (λ z. z ∷ u) same ∙ ap (λ l. t ∷ l) f, g))
    (λ (r, f). inr (r, ap (λ z. z ∷ p) (sym same) ∙ ap (λ l. s ∷ l) f))
    (split u v p q (cc))

pub ret_fronts : {Tok T : Type 0} (x : T) → Fronts (ret {Tok = Tok} x)
ret_fronts x = record { within = λ u y h. h.0; closed = λ u v e. none_front u v e }

pub one_fronts : {Tok : Type 0} (kind : Tok → ℕ) (ks : List ℕ) → Fronts (one_of kind ks)
one_fronts {Tok} kind ks = record { within = λ u t h. inr (t, h.0, h.1); closed = closed }
  where
    closed : (u v : List Tok) → (one_of kind ks).opens (u ++ v) → (one_of kind ks).opens u
    closed u v (inl e) = inl (none_front u v e)
    closed [] v (inr h) = inl refl
    closed (s ∷ u) v (inr (t, e, m)) = inr (t, ap (λ z. z ∷ u) (cc) ∙ ap (λ l. t ∷ l) (none_front u v (cc)), m)

pub then_fronts : {Tok A B : Type 0} {L : Lang Tok A} {K : A → Lang Tok B} → Fronts L → ((x : A) → Fronts (K x))
    → Fronts (L >=> K)
then_fronts {Tok = Tok} {L = L} {K = K} l k = record {
  within = λ u y (x, p, q, e, w, v). inr (x, p, q, e, w, (k x).within q y v);
  closed = closed;
}
  where
    closed : (u v : List Tok) → (L >=> K).opens (u ++ v) → (L >=> K).opens u
    closed u v (inl o) = inl (l.closed u v o)
    closed u v (inr (x, p, q, e, w, o)) = ⊎_elim
        (λ (r, f, g). inr (x, p, r, f, w, (k x).closed r v (subst (K x).opens g o)))
        (λ (r, f). inl (l.closed u r (subst L.opens f (l.within p x w))))
        (split u v p q e)

pub or_fronts : {Tok T : Type 0} {L M : Lang Tok T} → Fronts L → Fronts M → Fronts (L ∣ M)
or_fronts l m = record {
  within = λ u x h. ⊎_elim (λ w. inl (l.within u x w)) (λ w. inr (m.within u x w)) h;
  closed = λ u v h. ⊎_elim (λ o. inl (l.closed u v o)) (λ o. inr (m.closed u v o)) h;
}

pub never_fronts : {Tok T : Type 0} → Fronts (never {Tok = Tok} {T = T})
never_fronts = record { within = λ u x h. absurd h; closed = λ u v e. none_front u v e }

module _ {Tok A : Type 0} (round : A → Lang Tok A) (f : (a : A) → Fronts (round a)) where
  whole_rounds : (n : ℕ) (a b : A) (u r : List Tok) → Rounds round n a (u ++ r) b → (rounds round a).opens u
  whole_rounds zero a b u r h = (0, a, [], u, refl, (refl, refl), inl (none_front u r h.0))
  whole_rounds (suc n) a b u r (x, p, q, e, w, h) = ⊎_elim
      (λ (s, g, i).
      let (m, c, p2, q2, e2, h2, o) = whole_rounds n x b s r (subst (λ l. Rounds round n x l b) i h) in
      (suc m, c, p ++ p2, q2, g ∙ ap (λ l. p ++ l) e2 ∙ sym (append_assoc p p2 q2), (x, p, p2, refl, w, h2), o))
      (λ (s, g). (
        0,
        a,
        [],
        u,
        refl,
        (refl, refl),
        inr
            ((f a).closed u s (subst (round a).opens g ((f a).within p x w))),
      ))
      (split u r p q e)

  pub rounds_fronts : (a : A) → Fronts (rounds round a)
  rounds_fronts a = record {
    within = λ u b (n, h). (n, b, u, [], nil u, h, inl refl);
    closed = closed;
  }
    where
      nil : (u : List Tok) → u ≡ u ++ []
      nil [] = refl
      nil (t ∷ u) = ap (λ l. t ∷ l) (nil u)

      closed : (u v : List Tok) → (rounds round a).opens (u ++ v) → (rounds round a).opens u
      closed u v (n, b, p, q, e, h, o) = ⊎_elim
          (λ (r, g, i). (
            n,
            b,
            p,
            r,
            g,
            h,
            ⊎_elim (λ z. inl (none_front r v (sym i ∙ z)))
                (λ z. inr ((f b).closed r v (subst (round b).opens i z))) o,
          ))
          (λ (r, g). whole_rounds n a b u r (subst (λ l. Rounds round n a l b) g h))
          (split u v p q e)
