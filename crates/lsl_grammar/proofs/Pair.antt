-- Two alternatives that two tokens tell apart. The first begins with a token of some kinds and one of others. In the
-- second no text continues with the other token after the first, which is a text of the second by itself.
use Rattle.std.proofs.Common.{◌≡◌, ℕ, Bool, true, false, cond, List, [], ◌∷◌, ◌++◌, length, Ok, Err, inl, inr, ⊎_elim, refl, sym, ap, ◌∙◌, subst, arith, length-append, append-nil}
use Rattle.lsl_grammar.specs.declared.Why.{Why}
use Rattle.lsl_grammar.specs.declared.Why.TheVariants.{Unexpected, OperandDue, TooDeep}
use Rattle.lsl_grammar.specs.Language.{among, Lang, one_of, ◌>>=◌ as ◌>=>◌, ◌∣◌}
use Rattle.lsl_grammar.specs.Reading.{Reader, ◌>>=◌, begins, one_r, then_r, pair_next, pair_r}
use Rattle.lsl_grammar.proofs.ReadsLanguage.{Sub, Apart, Ends, Past, Stops, ends_of, stops_by, stops_sub, cond_true, cond_false}
use Rattle.lsl_grammar.proofs.Fronts.{or_fronts}
use Rattle.lsl_grammar.proofs.Widening.{or_mono, test_refines}
use Rattle.lsl_grammar.proofs.Hints.{Hint, Tells}
use Rattle.lsl_grammar.proofs.Rule.{sub_left, sub_right, or_full, Solid, solid_sign}

module _ {Tok T : Type 0} (kind : Tok → ℕ) (probe : ℕ) (K J : Tok → Lang Tok T) (k k' : Tok → Reader Tok T)
    (M M' : Lang Tok T) (q q' : Reader Tok T) (ks ls f c : List ℕ)
    (first : (t : Tok) → Solid kind probe (K t) (J t) (k t) (k' t) ls (ls ++ c))
    (second : Solid kind probe M M' q q' f c)
    (alone : (t : Tok) → among (kind t) ks ≡ true → (x : T) × M.whole (t ∷ []) x)
    (starts : Sub ks f) (apart : Apart ls c)
    (lone : among probe ks ≡ false) (lone' : among probe ls ≡ false) (aside : among probe (ls ++ c) ≡ false) where
  abbrev L : Lang Tok T
  L = one_of kind ks >=> K

  abbrev p : Reader Tok T
  p = then_r (one_r kind Unexpected ks) k

  abbrev p' : Reader Tok T
  p' = then_r (one_r kind Unexpected ks) k'

  left : Solid kind probe L (one_of kind ks >=> J) p p' ks (ls ++ c)
  left = solid_sign kind probe Unexpected ks ls (ls ++ c) K J k k' lone aside (λ t. (first t).rule)

  -- the two tokens

  pair_true : (t s : Tok) (ts : List Tok) → among (kind t) ks ≡ true → among (kind s) ls ≡ true
      → pair_next kind ks ls (t ∷ s ∷ ts) ≡ true
  pair_true t s ts a b = cond_true (among (kind t) ks) (among (kind s) ls) false a ∙ b

  pair_first : (t : Tok) (ts : List Tok) → among (kind t) ks ≡ false → pair_next kind ks ls (t ∷ ts) ≡ false
  pair_first t ts a = cond_false (among (kind t) ks) (begins kind ls ts) false a

  pair_second : (t : Tok) (ts : List Tok) → begins kind ls ts ≡ false → pair_next kind ks ls (t ∷ ts) ≡ false
  pair_second t ts b = go (among (kind t) ks)
    where
      go : (a : Bool) → cond a (begins kind ls ts) false ≡ false
      go true = b
      go false = refl

  -- the first alternative has both tokens

  left_two : (u : List Tok) (x : T) → L.whole u x → (t : Tok) × (s : Tok) × (v : List Tok) × (u ≡ t ∷ s ∷ v)
      × (among (kind t) ks ≡ true) × (among (kind s) ls ≡ true)
  left_two u x (t, a, b, e, (e1, m), w) = go b w (e ∙ ap (λ l. l ++ b) e1)
    where
      go : (b : List Tok) → (K t).whole b x → u ≡ t ∷ b → (t : Tok) × (s : Tok) × (v : List Tok)
          × (u ≡ t ∷ s ∷ v) × (among (kind t) ks ≡ true) × (among (kind s) ls ≡ true)
      go [] w e = absurd ((first t).full.none x w)
      go (s ∷ v) w e = (t, s, v, e, m, (first t).rule.reads.starts s v ((first t).rule.reads.within (s ∷ v) x w))

  left_opens : (t s : Tok) (u : List Tok) → L.opens (t ∷ s ∷ u) → (among (kind t) ks ≡ true)
      × (among (kind s) ls ≡ true)
  left_opens t s u (inl (inl e)) = absurd (cc)
  left_opens t s u (inl (inr (n, e, m))) = absurd (cc)
  left_opens t s u (inr (n, a, b, e, (e1, m), o)) =
      let all : t ∷ s ∷ u ≡ n ∷ b = e ∙ ap (λ l. l ++ b) e1 in
      let same : n ≡ t = cc in
      let rest : s ∷ u ≡ b = cc in
      (subst (λ z. among (kind z) ks ≡ true) same m, (first n).rule.reads.starts s u (subst (K n).opens (sym rest) o))

  -- no text of the second begins so
  not_second : (t s : Tok) (u rest : List Tok) → M.opens (t ∷ s ∷ u) → pair_next kind ks ls (t ∷ s ∷ u ++ rest) ≡ false
  not_second t s u rest o = go (among (kind t) ks) (among (kind s) ls) refl refl
    where
      clash : among (kind t) ks ≡ true → among (kind s) ls ≡ true → ⊥
      clash a b =
          let (x, w) = alone t a in
          let read : q (t ∷ s ∷ u) ≡ Ok (x, s ∷ u) =
          second.rule.reads.complete (t ∷ []) (s ∷ u) x w (stops_by kind c s u (apart (kind s) b)) in
          let end : Past [] (q (t ∷ s ∷ u ++ [])) = second.rule.reads.past (t ∷ s ∷ u) [] o in
          let end2 : Ends [] (s ∷ u) = subst (Past []) (ap q (append-nil (t ∷ s ∷ u)) ∙ read) end in
          absurd (omega (arith, ap length end2.1, length-append end2.0 (s ∷ u)))

      go : (a b : Bool) → among (kind t) ks ≡ a → among (kind s) ls ≡ b
          → cond (among (kind t) ks) (among (kind s) ls) false ≡ false
      go true true e f = absurd (clash e f)
      go true false e f = cond_true (among (kind t) ks) (among (kind s) ls) false e ∙ f
      go false b e f = cond_false (among (kind t) ks) (among (kind s) ls) false e

  take_left : (ts : List Tok) → pair_next kind ks ls ts ≡ true → pair_r kind ks ls p q ts ≡ p ts
  take_left ts e = cond_true (pair_next kind ks ls ts) (p ts) (q ts) e

  take_right : (ts : List Tok) → pair_next kind ks ls ts ≡ false → pair_r kind ks ls p q ts ≡ q ts
  take_right ts e = cond_false (pair_next kind ks ls ts) (p ts) (q ts) e

  sound : (ts rest : List Tok) (x : T) → pair_r kind ks ls p q ts ≡ Ok (x, rest) → (u : List Tok)
      × (ts ≡ u ++ rest) × (L ∣ M).whole u x
  sound ts rest x e = go (pair_next kind ks ls ts) e
    where
      go : (b : Bool) → cond b (p ts) (q ts) ≡ Ok (x, rest) → (u : List Tok) × (ts ≡ u ++ rest) × (L ∣ M).whole u x
      go true e = let (u, s1, w1) = left.rule.reads.sound ts rest x e in (u, s1, inl w1)
      go false e = let (u, s1, w1) = second.rule.reads.sound ts rest x e in (u, s1, inr w1)

  fault : (ts rest : List Tok) (w : Why) → pair_r kind ks ls p q ts ≡ Err (w, rest) → (u : List Tok)
      × (ts ≡ u ++ rest) × (L ∣ M).opens u
  fault ts rest w e = go (pair_next kind ks ls ts) e
    where
      go : (b : Bool) → cond b (p ts) (q ts) ≡ Err (w, rest) → (u : List Tok) × (ts ≡ u ++ rest) × (L ∣ M).opens u
      go true e = let (u, s1, w1) = left.rule.reads.fault ts rest w e in (u, s1, inl w1)
      go false e = let (u, s1, w1) = second.rule.reads.fault ts rest w e in (u, s1, inr w1)

  complete : (u rest : List Tok) (x : T) → (L ∣ M).whole u x → Stops kind (ls ++ c) rest
      → pair_r kind ks ls p q (u ++ rest) ≡ Ok (x, rest)
  complete u rest x (inl w) st =
      let (t, s, v, e, a, b) = left_two u x w in
      take_left (u ++ rest) (ap (λ l. pair_next kind ks ls (l ++ rest)) e ∙ pair_true t s (v ++ rest) a b)
      ∙ left.rule.reads.complete u rest x w st
  complete [] rest x (inr w) st = absurd (second.full.none x w)
  complete (t ∷ []) rest x (inr w) st =
      take_right (t ∷ rest) (pair_second t rest (stops_sub kind ls (ls ++ c) rest (sub_left ls c) st))
      ∙ second.rule.reads.complete (t ∷ []) rest x w (stops_sub kind c (ls ++ c) rest (sub_right ls c) st)
  complete (t ∷ s ∷ u) rest x (inr w) st =
      take_right (t ∷ s ∷ u ++ rest) (not_second t s u rest (second.rule.reads.within (t ∷ s ∷ u) x w))
      ∙ second.rule.reads.complete (t ∷ s ∷ u) rest x w
      (stops_sub kind c (ls ++ c) rest (sub_right ls c) st)

  ends : (ts : List Tok) → Past ts (pair_r kind ks ls p q ts)
  ends ts = go (pair_next kind ks ls ts)
    where
      go : (b : Bool) → Past ts (cond b (p ts) (q ts))
      go true = ends_of kind L p ks (λ _. ls ++ c) left.rule.reads ts
      go false = ends_of kind M q f (λ _. c) second.rule.reads ts

  -- a token that begins either
  one_past : (t : Tok) (rest : List Tok) → L.opens (t ∷ []) → M.opens (t ∷ [])
      → Past rest (pair_r kind ks ls p q (t ∷ rest))
  one_past t rest o1 o2 = go (pair_next kind ks ls (t ∷ rest))
    where
      go : (b : Bool) → Past rest (cond b (p (t ∷ rest)) (q (t ∷ rest)))
      go true = left.rule.reads.past (t ∷ []) rest o1
      go false = second.rule.reads.past (t ∷ []) rest o2

  past : (u rest : List Tok) → (L ∣ M).opens u → Past rest (pair_r kind ks ls p q (u ++ rest))
  past [] rest o = ends rest
  past (t ∷ []) rest (inl o) =
      let (x, w) = alone t (left.rule.reads.starts t [] o) in
      one_past t rest o (second.rule.reads.within (t ∷ []) x w)
  past (t ∷ []) rest (inr o) = go (among (kind t) ks) refl
    where
      go : (b : Bool) → among (kind t) ks ≡ b → Past rest (pair_r kind ks ls p q (t ∷ rest))
      go true e = one_past t rest (inl (inr (t, refl, e))) o
      go false e = subst (Past rest) (sym (take_right (t ∷ rest) (pair_first t rest e)))
          (second.rule.reads.past (t ∷ []) rest o)
  past (t ∷ s ∷ u) rest (inl o) =
      let (a, b) = left_opens t s u o in
      subst (Past rest) (sym (take_left (t ∷ s ∷ u ++ rest) (pair_true t s (u ++ rest) a b)))
      (left.rule.reads.past (t ∷ s ∷ u) rest o)
  past (t ∷ s ∷ u) rest (inr o) = subst (Past rest)
      (sym (take_right (t ∷ s ∷ u ++ rest) (not_second t s u rest o)))
      (second.rule.reads.past (t ∷ s ∷ u) rest o)

  -- what a stop reports

  probe_in : (xs : List ℕ) (i : Tok) → kind i ≡ probe → among probe xs ≡ false → among (kind i) xs ≡ false
  probe_in xs i e h = ap (λ n. among n xs) e ∙ h

  -- the test of two tokens, where it held
  pair_parts : (ts : List Tok) → pair_next kind ks ls ts ≡ true → (t : Tok) × (s : Tok) × (v : List Tok)
      × (ts ≡ t ∷ s ∷ v) × (among (kind t) ks ≡ true) × (among (kind s) ls ≡ true)
  pair_parts [] e = absurd (cc)
  pair_parts (t ∷ ts) e = go (among (kind t) ks) refl e
    where
      go : (b : Bool) → among (kind t) ks ≡ b → cond b (begins kind ls ts) false ≡ true → (t' : Tok) × (s : Tok)
          × (v : List Tok) × (t ∷ ts ≡ t' ∷ s ∷ v) × (among (kind t') ks ≡ true) × (among (kind s) ls ≡ true)
      go true m e = go2 ts e
        where
          go2 : (l : List Tok) → begins kind ls l ≡ true → (t' : Tok) × (s : Tok) × (v : List Tok)
              × (t ∷ l ≡ t' ∷ s ∷ v) × (among (kind t') ks ≡ true) × (among (kind s) ls ≡ true)
          go2 [] e = absurd (cc)
          go2 (s ∷ v) e = (t, s, v, refl, m, e)
      go false m e = absurd (cc)

  -- the first alternative doesn't stop as at a foreign token before it has taken both
  left_eats : (t s : Tok) (v u rest : List Tok) → among (kind t) ks ≡ true → among (kind s) ls ≡ true
      → p (t ∷ s ∷ v) ≡ Err (Unexpected, rest) → t ∷ s ∷ v ≡ u ++ rest → (w : List Tok) × (u ≡ t ∷ s ∷ w)
  left_eats t s v [] rest a b e h = absurd (left.eats.eaten t (s ∷ v) a (e ∙ ap (λ z. Err (Unexpected, z)) (sym h)))
  left_eats t s v (x ∷ []) rest a b e h =
      let rest_is : s ∷ v ≡ rest = cc in
      let now : p (t ∷ s ∷ v) ≡ k t (s ∷ v) =
      ap (λ o. o >>= λ y. k y.0 y.1) (cond_true (among (kind t) ks) (Ok (t, s ∷ v))
      (Err (Unexpected, t ∷ s ∷ v)) a) in
      absurd ((first t).eats.eaten s v b (sym now ∙ e ∙ ap (λ z. Err (Unexpected, z)) (sym rest_is)))
  left_eats t s v (x ∷ y ∷ w) rest a b e h =
      let x_is : x ≡ t = cc in
      let y_is : y ≡ s = cc in
      (w, ap (λ z. z ∷ y ∷ w) x_is ∙ ap (λ z. t ∷ z ∷ w) y_is)

  hint_left : (ts : List Tok) → pair_next kind ks ls ts ≡ true → (w : Why) (u rest : List Tok)
      → p ts ≡ Err (w, rest) → ts ≡ u ++ rest → Hint kind probe (one_of kind ks >=> J) p w u rest
      → Hint kind probe ((one_of kind ks >=> J) ∣ M') (pair_r kind ks ls p q) w u rest
  hint_left ts b TooDeep u [] e s h = h
  hint_left ts b TooDeep u (x ∷ r) e s h = inl h
  hint_left ts b OperandDue u rest e s h = λ i n. inl (h i n)
  hint_left ts b Unexpected u [] e s h = tt
  hint_left ts b Unexpected u (x ∷ r) e s h = λ i more n.
      let (t, z, v, is, m1, m2) = pair_parts ts b in
      let (w, u_is) = left_eats t z v u (x ∷ r) m1 m2 (sym (ap p is) ∙ e) (sym is ∙ s) in
      take_left (u ++ i ∷ more) (ap (λ l. pair_next kind ks ls (l ++ i ∷ more)) u_is
      ∙ pair_true t z (w ++ i ∷ more) m1 m2) ∙ h i more n

  hint_right : (ts : List Tok) → pair_next kind ks ls ts ≡ false → (w : Why) (u rest : List Tok)
      → ts ≡ u ++ rest → Hint kind probe M' q w u rest
      → Hint kind probe ((one_of kind ks >=> J) ∣ M') (pair_r kind ks ls p q) w u rest
  hint_right ts b TooDeep u [] s h = h
  hint_right ts b TooDeep u (x ∷ r) s h = inr h
  hint_right ts b OperandDue u rest s h = λ i n. inr (h i n)
  hint_right ts b Unexpected u [] s h = tt
  hint_right ts b Unexpected [] (x ∷ r) s h =
      λ i more n. take_right (i ∷ more) (pair_first i more (probe_in ks i n lone)) ∙ h i more n
  hint_right ts b Unexpected (y ∷ []) (x ∷ r) s h =
      λ i more n. take_right (y ∷ i ∷ more) (pair_second y (i ∷ more) (probe_in ls i n lone')) ∙ h i more n
  hint_right ts b Unexpected (y ∷ z ∷ u) (x ∷ r) s h =
      λ i more n. take_right (y ∷ z ∷ u ++ i ∷ more) (subst (λ l. pair_next kind ks ls l ≡ false) s b)
      ∙ h i more n

  tells : Tells kind probe ((one_of kind ks >=> J) ∣ M') (pair_r kind ks ls p q)
  tells = record { tell = λ ts rest w e. go ts rest w (pair_next kind ks ls ts) refl e }
    where
      go : (ts rest : List Tok) (w : Why) (b : Bool) → pair_next kind ks ls ts ≡ b
          → cond b (p ts) (q ts) ≡ Err (w, rest) → (u : List Tok) × (ts ≡ u ++ rest)
          × Hint kind probe ((one_of kind ks >=> J) ∣ M') (pair_r kind ks ls p q) w u rest
      go ts rest w true b e = let (u, s, h) = left.rule.tells.tell ts rest w e in (u, s, hint_left ts b w u rest e s h)
      go ts rest w false b e = let (u, s, h) = second.rule.tells.tell ts rest w e in
          (u, s, hint_right ts b w u rest s h)

  pub pair_solid : Solid kind probe (L ∣ M) ((one_of kind ks >=> J) ∣ M') (pair_r kind ks ls p q)
      (pair_r kind ks ls p' q') f (ls ++ c)
  pair_solid = record {
    rule = record {
      reads = record {
        sound = sound;
        fault = fault;
        complete = complete;
        past = past;
        within = λ u x h. ⊎_elim (λ w. inl (left.rule.reads.within u x w))
            (λ w. inr (second.rule.reads.within u x w)) h;
        starts = λ t u h. ⊎_elim (λ o. starts (kind t) (left.rule.reads.starts t u o))
            (λ o. second.rule.reads.starts t u o) h;
      };
      fronts = or_fronts left.rule.fronts second.rule.fronts;
      mono = or_mono left.rule.mono second.rule.mono;
      refines = test_refines (pair_next kind ks ls) p p' q q' left.rule.refines second.rule.refines;
      tells = tells;
    };
    full = or_full L M left.full second.full;
    eats = record { eaten = eaten };
    aside = aside;
  }
    where
      eaten : (t : Tok) (ts : List Tok) → among (kind t) f ≡ true
          → pair_r kind ks ls p q (t ∷ ts) ≡ Err (Unexpected, t ∷ ts) → ⊥
      eaten t ts m e = go (pair_next kind ks ls (t ∷ ts)) refl e
        where
          go : (b : Bool) → pair_next kind ks ls (t ∷ ts) ≡ b
              → cond b (p (t ∷ ts)) (q (t ∷ ts)) ≡ Err (Unexpected, t ∷ ts) → ⊥
          go true b e =
              let (t', z, v, is, m1, m2) = pair_parts (t ∷ ts) b in
              let same : t' ≡ t = cc in
              left.eats.eaten t ts (subst (λ y. among (kind y) ks ≡ true) same m1) e
          go false b e = second.eats.eaten t ts m e
