-- What a stop reports: a token that was too deep continues within wider limits; where an operand was due, one could
-- begin; where none was, the reader stops at an operand too. Operands begin with the tokens of one kind, the probe.
use Rattle.std.proofs.Common.{◌≡◌, ℕ, zero, suc, ◌≤◌, Bool, true, false, cond, List, [], ◌∷◌, ◌++◌, length, Ok, Err, ◌⊎◌, inl, inr, refl, sym, ap, ◌∙◌, subst, arith, append_assoc, length-append}
use Rattle.std.proofs.lemmas.List.{append_cancel_right}
use Rattle.lsl_grammar.specs.declared.Why.{Why}
use Rattle.lsl_grammar.specs.declared.Why.TheVariants.{Unexpected, OperandDue, TooDeep}
use Rattle.lsl_grammar.specs.Language.{among, Lang, one_of, ◌>>=◌ as ◌>=>◌, ◌∣◌, rounds}
use Rattle.lsl_grammar.specs.Reading.{Read, Reader, ◌>>=◌, begins, ret_r, one_r, then_r, or_r, deep_stop, deep_r, turns_r, rounds_r}
use Rattle.lsl_grammar.proofs.ReadsLanguage.{Apart, Stops, Reads, stops_by, cond_true, cond_false, err_rest, err_parts}
use Rattle.lsl_grammar.proofs.Widening.{Mono}

module _ {Tok : Type 0} (kind : Tok → ℕ) (probe : ℕ) where
  -- what a stop after these tokens and before the rest reports
  abbrev pub Hint : {T : Type 0} → Lang Tok T → Reader Tok T → Why → List Tok → List Tok → Type 0
  Hint M p TooDeep u [] = ⊥
  Hint M p TooDeep u (t ∷ r) = M.opens (u ++ t ∷ [])
  Hint M p OperandDue u rest = (i : Tok) → kind i ≡ probe → M.opens (u ++ i ∷ [])
  Hint M p Unexpected u [] = Unit {0}
  Hint M p Unexpected u (t ∷ r) = (i : Tok) (more : List Tok) → kind i ≡ probe
      → p (u ++ i ∷ more) ≡ Err (Unexpected, i ∷ more)

  -- each stop reports this
  pub record Tells {T : Type 0} (M : Lang Tok T) (p : Reader Tok T) : Type 0 where
    pub tell : (ts rest : List Tok) (w : Why) → p ts ≡ Err (w, rest) → (u : List Tok) × (ts ≡ u ++ rest)
        × Hint M p w u rest

  -- the reader doesn't stop as at a foreign token before its own first tokens
  pub record Eats {T : Type 0} (ks : List ℕ) (p : Reader Tok T) : Type 0 where
    pub eaten : (t : Tok) (ts : List Tok) → among (kind t) ks ≡ true → p (t ∷ ts) ≡ Err (Unexpected, t ∷ ts) → ⊥

  pub ret_tells : {T : Type 0} (M : Lang Tok T) (x : T) → Tells M (ret_r x)
  ret_tells M x = record { tell = λ ts rest w e. absurd (cc) }

  -- a reader that does the same
  pub tells_as : {T : Type 0} (M : Lang Tok T) (p q : Reader Tok T) → ((ts : List Tok) → p ts ≡ q ts)
      → Tells M p → Tells M q
  tells_as M p q same t = record {
    tell = λ ts rest w e. let (u, s, h) = t.tell ts rest w (same ts ∙ e) in
        (u, s, hint w u rest h);
  }
    where
      hint : (w : Why) (u rest : List Tok) → Hint M p w u rest → Hint M q w u rest
      hint TooDeep u [] h = h
      hint TooDeep u (x ∷ r) h = h
      hint OperandDue u rest h = h
      hint Unexpected u [] h = h
      hint Unexpected u (x ∷ r) h = λ i more e. sym (same (u ++ i ∷ more)) ∙ h i more e

  among_probe : (ks : List ℕ) (i : Tok) (b : Bool) → kind i ≡ probe → among probe ks ≡ b → among (kind i) ks ≡ b
  among_probe ks i b e f = ap (λ k. among k ks) e ∙ f

  -- a foreign token is none of these, or an operand is
  abbrev pub Suits : Why → List ℕ → Type 0
  Suits Unexpected ks = among probe ks ≡ false
  Suits OperandDue ks = among probe ks ≡ true
  Suits TooDeep ks = ⊥

  pub one_tells : (why : Why) (ks : List ℕ) → Suits why ks → Tells (one_of kind ks) (one_r kind why ks)
  one_tells why ks suits = record { tell = tell }
    where
      hint : (w : Why) (rest : List Tok) → Suits w ks → Hint (one_of kind ks) (one_r kind w ks) w [] rest
      hint TooDeep rest h = absurd h
      hint OperandDue rest h = λ i e. inr (i, refl, among_probe ks i true e h)
      hint Unexpected [] h = tt
      hint Unexpected (t ∷ r) h = λ i more e.
          cond_false (among (kind i) ks) (Ok (i, more)) _ (among_probe ks i false e h)

      why_of : (w v : Why) (a b : List Tok) → (let o : Read Tok Tok = Err (w, a) in o) ≡ Err (v, b) → w ≡ v
      why_of w v a b e = ap (λ (z : Why × List Tok). z.0) (err_parts {T = Tok} (w, a) (v, b) e)

      stop : (ts rest : List Tok) (w : Why) → (let o : Read Tok Tok = Err (why, ts) in o) ≡ Err (w, rest)
          → (u : List Tok) × (ts ≡ u ++ rest) × Hint (one_of kind ks) (one_r kind why ks) w u rest
      stop ts rest w e = (
        [],
        err_rest {T = Tok} why w ts rest e,
        subst
            (λ v. Hint (one_of kind ks) (one_r kind why ks) v [] rest) (why_of why w ts rest e)
            (hint why rest suits),
      )

      tell : (ts rest : List Tok) (w : Why) → one_r kind why ks ts ≡ Err (w, rest) → (u : List Tok)
          × (ts ≡ u ++ rest) × Hint (one_of kind ks) (one_r kind why ks) w u rest
      tell [] rest w e = stop [] rest w e
      tell (t ∷ ts) rest w e = go (among (kind t) ks) e
        where
          go : (b : Bool) → cond {A = Read Tok Tok} b (Ok (t, ts)) (Err (why, t ∷ ts)) ≡ Err (w, rest)
              → (u : List Tok) × (t ∷ ts ≡ u ++ rest) × Hint (one_of kind ks) (one_r kind why ks) w u rest
          go true f = absurd (cc)
          go false f = stop (t ∷ ts) rest w f

  -- what may not be begun, where it may be begun within wider limits
  pub deep_tells : {T : Type 0} (M : Lang Tok T) (why : Why) (ks : List ℕ) → Suits why ks
      → ((t : Tok) → among (kind t) ks ≡ true → M.opens (t ∷ [])) → Tells M (deep_r kind why ks)
  deep_tells {T} M why ks suits covers = record {
    tell =
        λ ts rest w e. go ts rest w (begins kind ks ts) refl
        (err_parts {T = T} (deep_stop kind why ks ts) (w, rest) e);
  }
    where
      hint : (w : Why) (rest : List Tok) → Suits w ks → Hint M (deep_r kind w ks) w [] rest
      hint TooDeep rest h = absurd h
      hint OperandDue rest h = λ i e. covers i (among_probe ks i true e h)
      hint Unexpected [] h = tt
      hint Unexpected (t ∷ r) h = λ i more e.
          ap (λ z. Err z) (cond_false (among (kind i) ks) (TooDeep, i ∷ more) (Unexpected, i ∷ more)
          (among_probe ks i false e h))

      go : (ts rest : List Tok) (w : Why) (b : Bool) → begins kind ks ts ≡ b
          → deep_stop kind why ks ts ≡ (w, rest) → (u : List Tok) × (ts ≡ u ++ rest)
          × Hint M (deep_r kind why ks) w u rest
      go [] rest w true t e = absurd (cc)
      go (x ∷ ts) rest w true t e =
          let is : ◌≡◌ {A = Why × List Tok} (TooDeep, x ∷ ts) (w, rest) =
          sym (cond_true (among (kind x) ks) (TooDeep, x ∷ ts) (why, x ∷ ts) t) ∙ e in
          let z : (v : Why × List Tok) → ◌≡◌ {A = Why × List Tok} (TooDeep, x ∷ ts) v → (u : List Tok)
          × (x ∷ ts ≡ u ++ v.1) × Hint M (deep_r kind why ks) v.0 u v.1 =
          λ v f. subst (λ (y : Why × List Tok). (u : List Tok) × (x ∷ ts ≡ u ++ y.1)
          × Hint M (deep_r kind why ks) y.0 u y.1) f ([], refl, covers x t) in
          z (w, rest) is
      go ts rest w false t e =
          let is : ◌≡◌ {A = Why × List Tok} (why, ts) (w, rest) =
          sym (cond_false (begins kind ks ts) (TooDeep, ts) (why, ts) t) ∙ e in
          subst (λ (y : Why × List Tok). (u : List Tok) × (ts ≡ u ++ y.1)
          × Hint M (deep_r kind why ks) y.0 u y.1) is ([], refl, hint why ts suits)

  -- the tokens before a stop begin a text
  pub stop_opens : {T : Type 0} (L : Lang Tok T) (p : Reader Tok T) (f : List ℕ) (n : T → List ℕ)
      → Reads kind L p f n → (ts u rest : List Tok) (w : Why) → p ts ≡ Err (w, rest) → ts ≡ u ++ rest
      → L.opens u
  stop_opens L p f n r ts u rest w e s = let (v, s', o) = r.fault ts rest w e in
      subst L.opens (append_cancel_right v u rest (sym s' ∙ s)) o

  -- a stop in the first part is one of the whole
  pub front_hint : {A B : Type 0} (M : Lang Tok A) (J : A → Lang Tok B) (p : Reader Tok A)
      (q : A → Reader Tok B) (w : Why) (u rest : List Tok) → Hint M p w u rest
      → Hint (M >=> J) (then_r p q) w u rest
  front_hint M J p q TooDeep u [] h = h
  front_hint M J p q TooDeep u (x ∷ r) h = inl h
  front_hint M J p q OperandDue u rest h = λ i e. inl (h i e)
  front_hint M J p q Unexpected u [] h = tt
  front_hint M J p q Unexpected u (x ∷ r) h = λ i more e. ap (λ o. o >>= λ y. q y.0 y.1) (h i more e)

  module _ {A B : Type 0} (L M : Lang Tok A) (K J : A → Lang Tok B) (p : Reader Tok A) (q : A → Reader Tok B)
      (f : List ℕ) (n : A → List ℕ) (fK : A → List ℕ) (N : B → List ℕ)
      (r : Reads kind L p f n) (rK : (x : A) → Reads kind (K x) (q x) (fK x) N)
      (apart : (x : A) → Apart (fK x) (n x))
      (aside : (x : A) → among probe (n x) ≡ false)
      (m : Mono L M) (t : Tells M p) (tK : (x : A) → Tells (J x) (q x)) where
    stop : (x : A) (u2 : List Tok) (i : Tok) (more : List Tok) → kind i ≡ probe → (K x).opens u2
        → Stops kind (n x) (u2 ++ i ∷ more)
    stop x [] i more e o = among_probe (n x) i false e (aside x)
    stop x (y ∷ v) i more e o = stops_by kind (n x) y (v ++ i ∷ more) (apart x (kind y) ((rK x).starts y v o))

    behind : (x : A) (u1 u2 : List Tok) (w : Why) (rest : List Tok) → L.whole u1 x → (K x).opens u2
        → Hint (J x) (q x) w u2 rest → Hint (M >=> J) (then_r p q) w (u1 ++ u2) rest
    behind x u1 u2 TooDeep [] w1 o h = h
    behind x u1 u2 TooDeep (y ∷ r) w1 o h = inr (x, u1, u2 ++ y ∷ [], append_assoc u1 u2 (y ∷ []), m.whole u1 x w1, h)
    behind x u1 u2 OperandDue rest w1 o h =
        λ i e. inr (x, u1, u2 ++ i ∷ [], append_assoc u1 u2 (i ∷ []), m.whole u1 x w1, h i e)
    behind x u1 u2 Unexpected [] w1 o h = tt
    behind x u1 u2 Unexpected (y ∷ r') w1 o h = λ i more e.
        ap (then_r p q) (append_assoc u1 u2 (i ∷ more))
        ∙ ap (λ o. o >>= λ z. q z.0 z.1) (r.complete u1 (u2 ++ i ∷ more) x w1 (stop x u2 i more e o))
        ∙ h i more e

    pub then_tells : Tells (M >=> J) (then_r p q)
    then_tells = record { tell = λ ts rest w e. go ts rest w (p ts) refl e }
      where
        go : (ts rest : List Tok) (w : Why) (o : Read Tok A) → p ts ≡ o → (o >>= λ z. q z.0 z.1) ≡ Err (w, rest)
            → (u : List Tok) × (ts ≡ u ++ rest) × Hint (M >=> J) (then_r p q) w u rest
        go ts rest w (Ok x) e1 e2 =
            let (u1, s1, w1) = r.sound ts x.1 x.0 e1 in
            let (u2, s2, h) = (tK x.0).tell x.1 rest w e2 in (
              u1 ++ u2,
              s1 ∙ ap (λ l. u1 ++ l) s2
                  ∙ sym (append_assoc u1 u2 rest),
              behind x.0 u1 u2 w rest w1
                  (stop_opens (K x.0) (q x.0) (fK x.0) N (rK x.0) x.1 u2 rest w e2 s2) h,
            )
        go ts rest w (Err x) e1 e2 =
            let same : x ≡ (w, rest) = err_parts {T = B} x (w, rest) e2 in
            let (u, s, h) = t.tell ts rest w (e1 ∙ ap (λ z. Err z) same) in
            (u, s, front_hint M J p q w u rest h)

  module _ {T : Type 0} (M M' : Lang Tok T) (p q : Reader Tok T) (ks : List ℕ)
      (aside : among probe ks ≡ false) (eats : Eats ks p) (t : Tells M p) (t' : Tells M' q) where
    left : (ts : List Tok) → begins kind ks ts ≡ true → (w : Why) (u rest : List Tok) → p ts ≡ Err (w, rest)
        → ts ≡ u ++ rest → Hint M p w u rest → Hint (M ∣ M') (or_r kind ks p q) w u rest
    left ts b TooDeep u [] e s h = h
    left ts b TooDeep u (x ∷ r) e s h = inl h
    left ts b OperandDue u rest e s h = λ i k. inl (h i k)
    left ts b Unexpected u [] e s h = tt
    left ts b Unexpected [] (x ∷ r) e s h =
        absurd (eats.eaten x r (subst (λ l. begins kind ks l ≡ true) s b) (sym (ap p s) ∙ e))
    left ts b Unexpected (y ∷ u) (x ∷ r) e s h = λ i more k.
        cond_true (among (kind y) ks) (p (y ∷ u ++ i ∷ more)) (q (y ∷ u ++ i ∷ more))
        (subst (λ l. begins kind ks l ≡ true) s b) ∙ h i more k

    right : (ts : List Tok) → begins kind ks ts ≡ false → (w : Why) (u rest : List Tok) → ts ≡ u ++ rest
        → Hint M' q w u rest → Hint (M ∣ M') (or_r kind ks p q) w u rest
    right ts b TooDeep u [] s h = h
    right ts b TooDeep u (x ∷ r) s h = inr h
    right ts b OperandDue u rest s h = λ i k. inr (h i k)
    right ts b Unexpected u [] s h = tt
    right ts b Unexpected [] (x ∷ r) s h = λ i more k.
        cond_false (among (kind i) ks) (p (i ∷ more)) (q (i ∷ more)) (among_probe ks i false k aside) ∙ h i more k
    right ts b Unexpected (y ∷ u) (x ∷ r) s h = λ i more k.
        cond_false (among (kind y) ks) (p (y ∷ u ++ i ∷ more)) (q (y ∷ u ++ i ∷ more))
        (subst (λ l. begins kind ks l ≡ false) s b) ∙ h i more k

    pub or_tells : Tells (M ∣ M') (or_r kind ks p q)
    or_tells = record { tell = λ ts rest w e. go ts rest w (begins kind ks ts) refl e }
      where
        go : (ts rest : List Tok) (w : Why) (b : Bool) → begins kind ks ts ≡ b
            → cond b (p ts) (q ts) ≡ Err (w, rest) → (u : List Tok) × (ts ≡ u ++ rest)
            × Hint (M ∣ M') (or_r kind ks p q) w u rest
        go ts rest w true b e = let (u, s, h) = t.tell ts rest w e in (u, s, left ts b w u rest e s h)
        go ts rest w false b e = let (u, s, h) = t'.tell ts rest w e in (u, s, right ts b w u rest s h)

  -- rounds: an operand begins no round, and rounds eat their first tokens; or each token that isn't the end begins one
  module _ {A : Type 0} (round round' : A → Lang Tok A) (p : A → Reader Tok A) (f ks c : List ℕ)
      (r : (a : A) → Reads kind (round a) (p a) f (λ _. c))
      (apart : Apart f c)
      (full : (a b : A) → (round a).whole [] b → ⊥)
      (aside : among probe c ≡ false)
      (eats : (among probe ks ≡ true) ⊎ ((a : A) → Eats ks (p a)))
      (m : (a : A) → Mono (round a) (round' a)) (t : (a : A) → Tells (round' a) (p a)) where
    abbrev Turn : A → Why → List Tok → List Tok → Type 0
    Turn a TooDeep u [] = ⊥
    Turn a TooDeep u (x ∷ r) = (rounds round' a).opens (u ++ x ∷ [])
    Turn a OperandDue u rest = (i : Tok) → kind i ≡ probe → (rounds round' a).opens (u ++ i ∷ [])
    Turn a Unexpected u [] = Unit {0}
    Turn a Unexpected u (x ∷ r) = (i : Tok) (more : List Tok) (k : ℕ) → kind i ≡ probe
        → length (u ++ i ∷ more) ≤ k → turns_r kind ks p k a (u ++ i ∷ more) ≡ Err (Unexpected, i ∷ more)

    first_turn : (a : A) (u : List Tok) → (round' a).opens u → (rounds round' a).opens u
    first_turn a u o = (0, a, [], u, refl, (refl, refl), inr o)

    next_turn : (a b : A) (u1 u2 : List Tok) → (round a).whole u1 b → (rounds round' b).opens u2
        → (rounds round' a).opens (u1 ++ u2)
    next_turn a b u1 u2 w (n, c', v, q, e, h, o) = (
      suc n,
      c',
      u1 ++ v,
      q,
      ap (λ l. u1 ++ l) e
          ∙ sym (append_assoc u1 v q),
      (b, u1, v, refl, (m a).whole u1 b w, h),
      o,
    )

    -- one turn, where the test lets it begin
    turned : (k : ℕ) (a : A) (ts : List Tok) → begins kind ks ts ≡ true
        → turns_r kind ks p (suc k) a ts ≡ (p a ts >>= λ x. turns_r kind ks p k x.0 x.1)
    turned k a ts b = cond_true (begins kind ks ts) (p a ts >>= λ x. turns_r kind ks p k x.0 x.1) (Ok (a, ts)) b

    -- the first round stops
    now : (a : A) (ts : List Tok) → begins kind ks ts ≡ true → (w : Why) (u rest : List Tok)
        → p a ts ≡ Err (w, rest) → ts ≡ u ++ rest → Hint (round' a) (p a) w u rest → Turn a w u rest
    now a ts b TooDeep u [] e s h = h
    now a ts b TooDeep u (x ∷ r) e s h = first_turn a (u ++ x ∷ []) h
    now a ts b OperandDue u rest e s h = λ i k. first_turn a (u ++ i ∷ []) (h i k)
    now a ts b Unexpected u [] e s h = tt
    now a ts b Unexpected [] (x ∷ r) e s h = by eats
      where
        by : (among probe ks ≡ true) ⊎ ((a : A) → Eats ks (p a)) → Turn a Unexpected [] (x ∷ r)
        by (inl due) i more zero k le = absurd (omega arith)
        by (inl due) i more (suc n) k le =
            turned n a (i ∷ more) (among_probe ks i true k due)
            ∙ ap (λ o. o >>= λ y. turns_r kind ks p n y.0 y.1) (h i more k)
        by (inr eat) i more n k le = absurd
            ((eat a).eaten x r (subst (λ l. begins kind ks l ≡ true) s b) (sym (ap (p a) s) ∙ e))
    now a ts b Unexpected (y ∷ u) (x ∷ r) e s h = go
      where
        go : Turn a Unexpected (y ∷ u) (x ∷ r)
        go i more zero k le = absurd (omega arith)
        go i more (suc n) k le = turned n a (y ∷ u ++ i ∷ more) (subst (λ l. begins kind ks l ≡ true) s b)
            ∙ ap (λ o. o >>= λ y. turns_r kind ks p n y.0 y.1) (h i more k)

    -- the rounds begin, or none is left
    starts_next : (b : A) (u2 : List Tok) (i : Tok) (more : List Tok) → kind i ≡ probe
        → ((y : Tok) (v : List Tok) → u2 ≡ y ∷ v → among (kind y) f ≡ true) → Stops kind c (u2 ++ i ∷ more)
    starts_next b [] i more k o = among_probe c i false k aside
    starts_next b (y ∷ v) i more k o = stops_by kind c y (v ++ i ∷ more) (apart (kind y) (o y v refl))

    -- a later round stops
    later : (a b : A) (ts r1 : List Tok) → begins kind ks ts ≡ true → (u1 : List Tok) → ts ≡ u1 ++ r1
        → (round a).whole u1 b → (w : Why) (u2 rest : List Tok)
        → ((y : Tok) (v : List Tok) → u2 ≡ y ∷ v → among (kind y) f ≡ true) → Turn b w u2 rest
        → Turn a w (u1 ++ u2) rest
    later a b ts r1 g u1 s w1 TooDeep u2 [] o h = h
    later a b ts r1 g u1 s w1 TooDeep u2 (x ∷ r) o h =
        subst (rounds round' a).opens (sym (append_assoc u1 u2 (x ∷ []))) (next_turn a b u1 (u2 ++ x ∷ []) w1 h)
    later a b ts r1 g u1 s w1 OperandDue u2 rest o h =
        λ i k. subst (rounds round' a).opens (sym (append_assoc u1 u2 (i ∷ [])))
        (next_turn a b u1 (u2 ++ i ∷ []) w1 (h i k))
    later a b ts r1 g u1 s w1 Unexpected u2 [] o h = tt
    later a b ts r1 g [] s w1 Unexpected u2 (x ∷ r) o h = absurd (full a b w1)
    later a b ts r1 g (y ∷ u1) s w1 Unexpected u2 (x ∷ r') o h = go
      where
        go : Turn a Unexpected (y ∷ u1 ++ u2) (x ∷ r')
        go i more zero k le = absurd (omega arith)
        go i more (suc n) k le =
            let all : (y ∷ u1 ++ u2) ++ i ∷ more ≡ y ∷ u1 ++ (u2 ++ i ∷ more) = append_assoc (y ∷ u1) u2 (i ∷ more) in
            let shorter : length (u2 ++ i ∷ more) ≤ n =
            omega (arith, ap length all, length-append (y ∷ u1) (u2 ++ i ∷ more)) in
            ap (turns_r kind ks p (suc n) a) all
            ∙ turned n a (y ∷ u1 ++ (u2 ++ i ∷ more)) (subst (λ l. begins kind ks l ≡ true) s g)
            ∙ ap (λ o. o >>= λ z. turns_r kind ks p n z.0 z.1)
            ((r a).complete (y ∷ u1) (u2 ++ i ∷ more) b w1 (starts_next b u2 i more k o))
            ∙ h i more n k shorter

    -- what stops in rounds begins with their first tokens
    turns_start : (k : ℕ) (a : A) (ts u rest : List Tok) (w : Why) → turns_r kind ks p k a ts ≡ Err (w, rest)
        → ts ≡ u ++ rest → (y : Tok) (v : List Tok) → u ≡ y ∷ v → among (kind y) f ≡ true
    turns_start zero a ts u rest w e s y v is = absurd (cc)
    turns_start (suc k) a ts u rest w e s y v is = by_test (begins kind ks ts) e
      where
        by_first : (o : Read Tok A) → p a ts ≡ o → (o >>= λ x. turns_r kind ks p k x.0 x.1) ≡ Err (w, rest)
            → among (kind y) f ≡ true
        by_first (Ok x) e1 e2 = from ((r a).sound ts x.1 x.0 e1)
          where
            from : ((u1 : List Tok) × (ts ≡ u1 ++ x.1) × (round a).whole u1 x.0) → among (kind y) f ≡ true
            from ([], s1, w1) = absurd (full a x.0 w1)
            from (z ∷ u1, s1, w1) =
                let all : z ∷ u1 ++ x.1 ≡ y ∷ v ++ rest = sym s1 ∙ s ∙ ap (λ l. l ++ rest) is in
                let same : z ≡ y = cc in
                subst (λ t. among (kind t) f ≡ true) same ((r a).starts z u1 ((r a).within (z ∷ u1) x.0 w1))
        by_first (Err x) e1 e2 =
            let same : x ≡ (w, rest) = err_parts {T = A} x (w, rest) e2 in
            (r a).starts y v (subst (round a).opens is
            (stop_opens (round a) (p a) f (λ _. c) (r a) ts u rest w (e1 ∙ ap (λ z. Err z) same) s))

        by_test : (b : Bool) → cond b (p a ts >>= λ x. turns_r kind ks p k x.0 x.1) (Ok (a, ts)) ≡ Err (w, rest)
            → among (kind y) f ≡ true
        by_test true e = by_first (p a ts) refl e
        by_test false e = absurd (cc)

    turns_tell : (k : ℕ) (a : A) (ts rest : List Tok) (w : Why) → turns_r kind ks p k a ts ≡ Err (w, rest)
        → (u : List Tok) × (ts ≡ u ++ rest) × Turn a w u rest
    turns_tell zero a ts rest w e = absurd (cc)
    turns_tell (suc k) a ts rest w e = by_test (begins kind ks ts) refl e (λ x. turns_tell k x.0 x.1 rest w)
      where
        go : begins kind ks ts ≡ true → (o : Read Tok A) → p a ts ≡ o
            → (o >>= λ x. turns_r kind ks p k x.0 x.1) ≡ Err (w, rest) →
            ((x : A × List Tok) → turns_r kind ks p k x.0 x.1 ≡ Err (w, rest) → (u : List Tok)
            × (x.1 ≡ u ++ rest) × Turn x.0 w u rest) → (u : List Tok) × (ts ≡ u ++ rest) × Turn a w u rest
        go g (Ok x) e1 e2 ih =
            let (u1, s1, w1) = (r a).sound ts x.1 x.0 e1 in
            let (u2, s2, h) = ih x e2 in (
              u1 ++ u2,
              s1 ∙ ap (λ l. u1 ++ l) s2
                  ∙ sym (append_assoc u1 u2 rest),
              later a x.0 ts x.1 g u1 s1 w1 w u2 rest
                  (turns_start k x.0 x.1 u2 rest w e2 s2) h,
            )
        go g (Err x) e1 e2 ih =
            let same : x ≡ (w, rest) = err_parts {T = A} x (w, rest) e2 in
            let stop : p a ts ≡ Err (w, rest) = e1 ∙ ap (λ z. Err z) same in
            let (u, s, h) = (t a).tell ts rest w stop in
            (u, s, now a ts g w u rest stop s h)

        by_test : (b : Bool) → begins kind ks ts ≡ b
            → cond b (p a ts >>= λ x. turns_r kind ks p k x.0 x.1) (Ok (a, ts)) ≡ Err (w, rest) →
            ((x : A × List Tok) → turns_r kind ks p k x.0 x.1 ≡ Err (w, rest) → (u : List Tok)
            × (x.1 ≡ u ++ rest) × Turn x.0 w u rest) → (u : List Tok) × (ts ≡ u ++ rest) × Turn a w u rest
        by_test true g e ih = go g (p a ts) refl e ih
        by_test false g e ih = absurd (cc)

    pub rounds_tells : (a : A) → Tells (rounds round' a) (rounds_r kind ks p a)
    rounds_tells a = record {
      tell = λ ts rest w e. let (u, s, h) = turns_tell (length ts) a ts rest w e in
          (u, s, hint w u rest h);
    }
      where
        hint : (w : Why) (u rest : List Tok) → Turn a w u rest → Hint (rounds round' a) (rounds_r kind ks p a) w u rest
        hint TooDeep u [] h = h
        hint TooDeep u (x ∷ r) h = h
        hint OperandDue u rest h = h
        hint Unexpected u [] h = tt
        hint Unexpected u (x ∷ r) h = λ i more k. h i more (length (u ++ i ∷ more)) k (omega arith)
