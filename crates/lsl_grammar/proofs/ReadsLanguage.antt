-- What a reader owes its language, and that each way to join readers keeps it.
use Rattle.std.proofs.Common.{◌≡◌, ℕ, zero, suc, ◌≤◌, Bool, true, false, cond, List, [], ◌∷◌, ◌++◌, length, Ok, Err, ◌⊎◌, inl, inr, ⊎_elim, refl, sym, ap, ◌∙◌, subst, arith, append_assoc, length-append, append-nil}
use Rattle.lsl_grammar.specs.declared.Why.{Why}
use Rattle.lsl_grammar.specs.declared.Why.TheVariants.{TooDeep}
use Rattle.lsl_grammar.specs.Language.{among, Lang, ret, one_of, ◌>>=◌ as ◌>=>◌, ◌∣◌, never, Rounds, rounds}
use Rattle.lsl_grammar.specs.Reading.{Read, Reader, ◌>>=◌, begins, ret_r, one_r, then_r, or_r, deep_stop, deep_r, turns_r, rounds_r}

-- each kind of the first list is in the second
abbrev pub Sub : List ℕ → List ℕ → Type 0
Sub xs ys = (k : ℕ) → among k xs ≡ true → among k ys ≡ true

-- no kind is in both
abbrev pub Apart : List ℕ → List ℕ → Type 0
Apart xs ys = (k : ℕ) → among k xs ≡ true → among k ys ≡ true → ⊥

-- the second list is the end of the first
abbrev pub Ends : {Tok : Type 0} → List Tok → List Tok → Type 0
Ends {Tok} all end = (v : List Tok) × (all ≡ v ++ end)

-- what was read, or where reading stopped, lies in these tokens
abbrev pub Past : {Tok T : Type 0} → List Tok → Read Tok T → Type 0
Past rest (Ok x) = Ends rest x.1
Past rest (Err e) = Ends rest e.1

pub ends_trans : {Tok : Type 0} (a b c : List Tok) → Ends a b → Ends b c → Ends a c
ends_trans a b c (v, e) (w, f) = (v ++ w, e ∙ ap (λ l. v ++ l) f ∙ sym (append_assoc v w c))

pub past_trans : {Tok T : Type 0} (a b : List Tok) (o : Read Tok T) → Ends a b → Past b o → Past a o
past_trans a b (Ok x) e h = ends_trans a b x.1 e h
past_trans a b (Err x) e h = ends_trans a b x.1 e h

-- the parts of two equal results
pub ok_parts : {Tok T : Type 0} (x y : T × List Tok) → (let o : Read Tok T = Ok x in o) ≡ Ok y → x ≡ y
ok_parts x y e = cc

pub err_parts : {Tok T : Type 0} (x y : Why × List Tok) → (let o : Read Tok T = Err x in o) ≡ Err y → x ≡ y
err_parts x y e = cc

pub ok_value : {Tok T : Type 0} (x y : T) (a b : List Tok) → (let o : Read Tok T = Ok (x, a) in o) ≡ Ok (y, b) → x ≡ y
ok_value {Tok} {T} x y a b e = ap (λ (z : T × List Tok). z.0) (ok_parts (x, a) (y, b) e)

pub ok_rest : {Tok T : Type 0} (x y : T) (a b : List Tok) → (let o : Read Tok T = Ok (x, a) in o) ≡ Ok (y, b) → a ≡ b
ok_rest {Tok} {T} x y a b e = ap (λ (z : T × List Tok). z.1) (ok_parts (x, a) (y, b) e)

pub err_rest : {Tok T : Type 0} (v w : Why) (a b : List Tok)
    → (let o : Read Tok T = Err (v, a) in o) ≡ Err (w, b) → a ≡ b
err_rest {Tok} {T} v w a b e = ap (λ (z : Why × List Tok). z.1) (err_parts {T = T} (v, a) (w, b) e)

-- a condition whose value is known
pub cond_true : {T : Type 0} (b : Bool) (x y : T) → b ≡ true → cond b x y ≡ x
cond_true b x y e = ap (λ c. cond c x y) e

pub cond_false : {T : Type 0} (b : Bool) (x y : T) → b ≡ false → cond b x y ≡ y
cond_false b x y e = ap (λ c. cond c x y) e

pub not_both : (b : Bool) → b ≡ true → b ≡ false → ⊥
not_both b e f = cc

module _ {Tok : Type 0} (kind : Tok → ℕ) where
  -- the next token is none of these
  abbrev pub Stops : List ℕ → List Tok → Type 0
  Stops ks ts = begins kind ks ts ≡ false

  pub record Reads {T : Type 0} (L : Lang Tok T) (p : Reader Tok T) (first : List ℕ) (next : T → List ℕ) : Type 0 where
    pub sound : (ts rest : List Tok) (x : T) → p ts ≡ Ok (x, rest) → (u : List Tok) × (ts ≡ u ++ rest) × L.whole u x
    pub fault : (ts rest : List Tok) (w : Why) → p ts ≡ Err (w, rest) → (u : List Tok) × (ts ≡ u ++ rest) × L.opens u
    pub complete : (u rest : List Tok) (x : T) → L.whole u x → Stops (next x) rest → p (u ++ rest) ≡ Ok (x, rest)
    pub past : (u rest : List Tok) → L.opens u → Past rest (p (u ++ rest))
    pub within : (u : List Tok) (x : T) → L.whole u x → L.opens u
    pub starts : (t : Tok) (u : List Tok) → L.opens (t ∷ u) → among (kind t) first ≡ true

  -- the result of a parser whose language it reads lies in its tokens
  pub ends_of : {T : Type 0} (L : Lang Tok T) (p : Reader Tok T) (f : List ℕ) (n : T → List ℕ) → Reads L p f n
      → (ts : List Tok) → Past ts (p ts)
  ends_of L p f n r ts = go (p ts) refl
    where
      go : (o : Read Tok _) → p ts ≡ o → Past ts o
      go (Ok x) e = let s = r.sound ts x.1 x.0 e in (s.0, s.1)
      go (Err x) e = let s = r.fault ts x.1 x.0 e in (s.0, s.1)

  pub stops_by : (ks : List ℕ) (t : Tok) (ts : List Tok) → (among (kind t) ks ≡ true → ⊥) → Stops ks (t ∷ ts)
  stops_by ks t ts h = go (among (kind t) ks) refl
    where
      go : (b : Bool) → among (kind t) ks ≡ b → among (kind t) ks ≡ false
      go true e = absurd (h e)
      go false e = e

  pub stops_sub : (xs ys : List ℕ) (ts : List Tok) → Sub xs ys → Stops ys ts → Stops xs ts
  stops_sub xs ys [] s h = refl
  stops_sub xs ys (t ∷ ts) s h = stops_by xs t ts (λ e. not_both (among (kind t) ys) (s (kind t) e) h)

  -- nothing
  pub ret_reads : {T : Type 0} (x : T) (f : List ℕ) (n : T → List ℕ) → Reads (ret x) (ret_r x) f n
  ret_reads x f n = record {
    sound = λ ts rest y e. ([], ok_rest x y ts rest e, (refl, sym (ok_value x y ts rest e)));
    fault = λ ts rest w e. absurd (cc);
    complete = λ u rest y h s. ap (λ l. ret_r x (l ++ rest)) h.0 ∙ ap (λ z. Ok (z, rest)) (sym h.1);
    past = λ u rest h. ([], ap (λ l. l ++ rest) (sym h));
    within = λ u y h. h.0;
    starts = λ t u h. absurd (cc);
  }

  -- one token
  pub one_reads : (why : Why) (ks : List ℕ) (n : Tok → List ℕ) → Reads (one_of kind ks) (one_r kind why ks) ks n
  one_reads why ks n = record {
    sound = sound;
    fault = fault;
    complete = λ u rest t h s. ap (λ l. one_r kind why ks (l ++ rest)) h.0
        ∙ cond_true (among (kind t) ks) (Ok (t, rest)) _ h.1;
    past = past;
    within = λ u t h. inr (t, h.0, h.1);
    starts = λ t u h. ⊎_elim (λ e. absurd (cc)) (λ (s, e, m). let same : t ≡ s = cc in
        subst (λ r. among (kind r) ks ≡ true) (sym same) m) h;
  }
    where
      sound : (ts rest : List Tok) (x : Tok) → one_r kind why ks ts ≡ Ok (x, rest) → (u : List Tok)
          × (ts ≡ u ++ rest) × (one_of kind ks).whole u x
      sound [] rest x e = absurd (cc)
      sound (t ∷ ts) rest x e = go (among (kind t) ks) refl e
        where
          go : (b : Bool) → among (kind t) ks ≡ b
              → cond {A = Read Tok Tok} b (Ok (t, ts)) (Err (why, t ∷ ts)) ≡ Ok (x, rest) → (u : List Tok)
              × (t ∷ ts ≡ u ++ rest) × (one_of kind ks).whole u x
          go true m e = (
            t ∷ [],
            ap (λ l. t ∷ l)
                (ok_rest t x ts rest e),
            (
              ap (λ y. y ∷ []) (ok_value t x ts rest e),
              subst
                  (λ y. among (kind y) ks ≡ true) (ok_value t x ts rest e) m,
            ),
          )
          go false m e = absurd (cc)

      fault : (ts rest : List Tok) (w : Why) → one_r kind why ks ts ≡ Err (w, rest) → (u : List Tok)
          × (ts ≡ u ++ rest) × (one_of kind ks).opens u
      fault [] rest w e = ([], err_rest {T = Tok} why w [] rest e, inl refl)
      fault (t ∷ ts) rest w e = go (among (kind t) ks) e
        where
          go : (b : Bool) → cond {A = Read Tok Tok} b (Ok (t, ts)) (Err (why, t ∷ ts)) ≡ Err (w, rest)
              → (u : List Tok) × (t ∷ ts ≡ u ++ rest) × (one_of kind ks).opens u
          go true e = absurd (cc)
          go false e = ([], err_rest {T = Tok} why w (t ∷ ts) rest e, inl refl)

      some_past : (ts : List Tok) → Past ts (one_r kind why ks ts)
      some_past [] = ([], refl)
      some_past (t ∷ ts) = go (among (kind t) ks)
        where
          go : (b : Bool) → Past (t ∷ ts) (cond {A = Read Tok Tok} b (Ok (t, ts)) (Err (why, t ∷ ts)))
          go true = (t ∷ [], refl)
          go false = ([], refl)

      past : (u rest : List Tok) → (one_of kind ks).opens u → Past rest (one_r kind why ks (u ++ rest))
      past u rest (inl e) = subst (λ l. Past rest (one_r kind why ks (l ++ rest))) (sym e) (some_past rest)
      past u rest (inr (t, e, m)) =
          let now : one_r kind why ks (t ∷ rest) ≡ Ok (t, rest) = cond_true (among (kind t) ks) (Ok (t, rest)) _ m in
          let at : Past rest (one_r kind why ks (t ∷ rest)) = subst (Past rest) (sym now) ([], refl) in
          subst (λ l. Past rest (one_r kind why ks (l ++ rest))) (sym e) at

  -- a reader may claim fewer first tokens, or more tokens at which it stops
  pub wider : {T : Type 0} (L : Lang Tok T) (p : Reader Tok T) (f : List ℕ) (n : T → List ℕ) (F : List ℕ)
      (N : T → List ℕ) → Reads L p f n → Sub f F → ((u : List Tok) (x : T) → L.whole u x → Sub (n x) (N x))
      → Reads L p F N
  wider L p f n F N r sf sn = record {
    sound = r.sound;
    fault = r.fault;
    complete = λ u rest x h s. r.complete u rest x h (stops_sub (n x) (N x) rest (sn u x h) s);
    past = r.past;
    within = r.within;
    starts = λ t u h. sf (kind t) (r.starts t u h);
  }

  -- a reader that does the same
  pub reads_as : {T : Type 0} (L : Lang Tok T) (p q : Reader Tok T) (f : List ℕ) (n : T → List ℕ)
      → ((ts : List Tok) → p ts ≡ q ts) → Reads L p f n → Reads L q f n
  reads_as L p q f n same r = record {
    sound = λ ts rest x e. r.sound ts rest x (same ts ∙ e);
    fault = λ ts rest w e. r.fault ts rest w (same ts ∙ e);
    complete = λ u rest x w s. sym (same (u ++ rest)) ∙ r.complete u rest x w s;
    past = λ u rest o. subst (Past rest) (same (u ++ rest)) (r.past u rest o);
    within = r.within;
    starts = r.starts;
  }

  -- one part, and what may follow it
  module _ {A B : Type 0} (L : Lang Tok A) (K : A → Lang Tok B) (p : Reader Tok A) (q : A → Reader Tok B)
      (f : List ℕ) (n : A → List ℕ) (fK : A → List ℕ) (F : List ℕ) (N : B → List ℕ)
      (r : Reads L p f n) (rK : (x : A) → Reads (K x) (q x) (fK x) N)
      (apart : (x : A) → Apart (fK x) (n x))
      (after : (x : A) (y : B) → (K x).whole [] y → Sub (n x) (N y))
      (heads : Sub f F)
      (empty : (x : A) → L.whole [] x → Sub (fK x) F) where
    then_sound : (ts rest : List Tok) (y : B) → then_r p q ts ≡ Ok (y, rest) → (u : List Tok) × (ts ≡ u ++ rest)
        × (L >=> K).whole u y
    then_sound ts rest y e = go (p ts) refl e
      where
        go : (o : Read Tok A) → p ts ≡ o → (o >>= λ x. q x.0 x.1) ≡ Ok (y, rest) → (u : List Tok)
            × (ts ≡ u ++ rest) × (L >=> K).whole u y
        go (Ok x) e1 e2 =
            let (u1, s1, w1) = r.sound ts x.1 x.0 e1 in
            let (u2, s2, w2) = (rK x.0).sound x.1 rest y e2 in
            (u1 ++ u2, s1 ∙ ap (λ l. u1 ++ l) s2 ∙ sym (append_assoc u1 u2 rest), (x.0, u1, u2, refl, w1, w2))
        go (Err x) e1 e2 = absurd (cc)

    then_fault : (ts rest : List Tok) (w : Why) → then_r p q ts ≡ Err (w, rest) → (u : List Tok)
        × (ts ≡ u ++ rest) × (L >=> K).opens u
    then_fault ts rest w e = go (p ts) refl e
      where
        go : (o : Read Tok A) → p ts ≡ o → (o >>= λ x. q x.0 x.1) ≡ Err (w, rest) → (u : List Tok)
            × (ts ≡ u ++ rest) × (L >=> K).opens u
        go (Ok x) e1 e2 =
            let (u1, s1, w1) = r.sound ts x.1 x.0 e1 in
            let (u2, s2, w2) = (rK x.0).fault x.1 rest w e2 in
            (u1 ++ u2, s1 ∙ ap (λ l. u1 ++ l) s2 ∙ sym (append_assoc u1 u2 rest), inr (x.0, u1, u2, refl, w1, w2))
        go (Err x) e1 e2 =
            let (u1, s1, w1) = r.fault ts x.1 x.0 e1 in
            (u1, s1 ∙ ap (λ l. u1 ++ l) (err_rest {T = B} x.0 w x.1 rest e2), inl w1)

    then_complete : (u rest : List Tok) (y : B) → (L >=> K).whole u y → Stops (N y) rest
        → then_r p q (u ++ rest) ≡ Ok (y, rest)
    then_complete u rest y (x, u1, u2, e, w1, w2) s =
        let first : p (u1 ++ (u2 ++ rest)) ≡ Ok (x, u2 ++ rest) = r.complete u1 (u2 ++ rest) x w1 (stop u2 w2) in
        ap (λ l. then_r p q l) (ap (λ l. l ++ rest) e ∙ append_assoc u1 u2 rest)
        ∙ ap (λ o. o >>= λ x. q x.0 x.1) first
        ∙ (rK x).complete u2 rest y w2 s
      where
        stop : (u2 : List Tok) → (K x).whole u2 y → Stops (n x) (u2 ++ rest)
        stop [] w = stops_sub (n x) (N y) rest (after x y w) s
        stop (t ∷ v) w = stops_by (n x) t (v ++ rest) (apart x (kind t) ((rK x).starts t v ((rK x).within (t ∷ v) y w)))

    -- where the first part has been read, or stopped, in the tokens after it
    go_on : (rest : List Tok) (o : Read Tok A) → Past rest o → Past rest (o >>= λ x. q x.0 x.1)
    go_on rest (Ok x) h = past_trans rest x.1 (q x.0 x.1) h (ends_of (K x.0) (q x.0) (fK x.0) N (rK x.0) x.1)
    go_on rest (Err x) h = h

    then_past : (u rest : List Tok) → (L >=> K).opens u → Past rest (then_r p q (u ++ rest))
    then_past u rest (inl h) = go_on rest (p (u ++ rest)) (r.past u rest h)
    then_past u rest (inr (x, u1, u2, e, w1, o2)) =
        subst (λ l. Past rest (then_r p q l)) (sym (ap (λ l. l ++ rest) e ∙ append_assoc u1 u2 rest)) (go u2 o2)
      where
        go : (u2 : List Tok) → (K x).opens u2 → Past rest (then_r p q (u1 ++ (u2 ++ rest)))
        go [] o = go_on rest (p (u1 ++ rest)) (r.past u1 rest (r.within u1 x w1))
        go (t ∷ v) o =
            let first : p (u1 ++ (t ∷ v ++ rest)) ≡ Ok (x, t ∷ v ++ rest) =
            r.complete u1 (t ∷ v ++ rest) x w1
            (stops_by (n x) t (v ++ rest) (apart x (kind t) ((rK x).starts t v o))) in
            subst (λ o. Past rest (o >>= λ x. q x.0 x.1)) (sym first) ((rK x).past (t ∷ v) rest o)

    then_starts : (t : Tok) (u : List Tok) → (L >=> K).opens (t ∷ u) → among (kind t) F ≡ true
    then_starts t u (inl h) = heads (kind t) (r.starts t u h)
    then_starts t u (inr (x, [], u2, e, w1, o2)) =
        empty x w1 (kind t) ((rK x).starts t u (subst (K x).opens (sym e) o2))
    then_starts t u (inr (x, s ∷ u1, u2, e, w1, o2)) =
        let same : s ≡ t = cc in
        heads (kind t) (subst (λ r. among (kind r) f ≡ true) same (r.starts s u1 (r.within (s ∷ u1) x w1)))

    pub then_reads : Reads (L >=> K) (then_r p q) F N
    then_reads = record {
      sound = then_sound;
      fault = then_fault;
      complete = then_complete;
      past = then_past;
      within = λ u y (x, u1, u2, e, w1, w2). inr (x, u1, u2, e, w1, (rK x).within u2 y w2);
      starts = then_starts;
    }

  -- one or the other, by the next token
  module _ {T : Type 0} (L M : Lang Tok T) (p q : Reader Tok T) (ks f g F : List ℕ) (N : T → List ℕ)
      (r : Reads L p f N) (s : Reads M q g N)
      (heads : Sub f ks) (apart : Apart ks g)
      (full : (x : T) → L.whole [] x → ⊥)
      (after : (x : T) → M.whole [] x → Sub ks (N x))
      (left : Sub f F) (right : Sub g F) where
    or_sound : (ts rest : List Tok) (x : T) → or_r kind ks p q ts ≡ Ok (x, rest) → (u : List Tok)
        × (ts ≡ u ++ rest) × (L ∣ M).whole u x
    or_sound ts rest x e = go (begins kind ks ts) e
      where
        go : (b : Bool) → cond b (p ts) (q ts) ≡ Ok (x, rest) → (u : List Tok) × (ts ≡ u ++ rest) × (L ∣ M).whole u x
        go true e = let (u, s1, w1) = r.sound ts rest x e in (u, s1, inl w1)
        go false e = let (u, s1, w1) = s.sound ts rest x e in (u, s1, inr w1)

    or_fault : (ts rest : List Tok) (w : Why) → or_r kind ks p q ts ≡ Err (w, rest) → (u : List Tok)
        × (ts ≡ u ++ rest) × (L ∣ M).opens u
    or_fault ts rest w e = go (begins kind ks ts) e
      where
        go : (b : Bool) → cond b (p ts) (q ts) ≡ Err (w, rest) → (u : List Tok) × (ts ≡ u ++ rest) × (L ∣ M).opens u
        go true e = let (u, s1, w1) = r.fault ts rest w e in (u, s1, inl w1)
        go false e = let (u, s1, w1) = s.fault ts rest w e in (u, s1, inr w1)

    or_complete : (u rest : List Tok) (x : T) → (L ∣ M).whole u x → Stops (N x) rest
        → or_r kind ks p q (u ++ rest) ≡ Ok (x, rest)
    or_complete [] rest x (inl w) st = absurd (full x w)
    or_complete (t ∷ u) rest x (inl w) st =
        cond_true (among (kind t) ks) _ _ (heads (kind t) (r.starts t u (r.within (t ∷ u) x w)))
        ∙ r.complete (t ∷ u) rest x w st
    or_complete [] rest x (inr w) st = cond_false (begins kind ks rest) _ _
        (stops_sub ks (N x) rest (after x w) st) ∙ s.complete [] rest x w st
    or_complete (t ∷ u) rest x (inr w) st =
        cond_false (among (kind t) ks) _ _
        (stops_by ks t u (λ e. apart (kind t) e (s.starts t u (s.within (t ∷ u) x w))))
        ∙ s.complete (t ∷ u) rest x w st

    or_ends : (ts : List Tok) → Past ts (or_r kind ks p q ts)
    or_ends ts = go (begins kind ks ts)
      where
        go : (b : Bool) → Past ts (cond b (p ts) (q ts))
        go true = ends_of L p f N r ts
        go false = ends_of M q g N s ts

    or_past : (u rest : List Tok) → (L ∣ M).opens u → Past rest (or_r kind ks p q (u ++ rest))
    or_past [] rest o = or_ends rest
    or_past (t ∷ u) rest (inl o) = subst (Past rest)
        (sym (cond_true (among (kind t) ks) (p (t ∷ u ++ rest)) (q (t ∷ u ++ rest))
        (heads (kind t) (r.starts t u o)))) (r.past (t ∷ u) rest o)
    or_past (t ∷ u) rest (inr o) = subst (Past rest)
        (sym (cond_false (among (kind t) ks) (p (t ∷ u ++ rest)) (q (t ∷ u ++ rest))
        (stops_by ks t u (λ e. apart (kind t) e (s.starts t u o))))) (s.past (t ∷ u) rest o)

    pub or_reads : Reads (L ∣ M) (or_r kind ks p q) F N
    or_reads = record {
      sound = or_sound;
      fault = or_fault;
      complete = or_complete;
      past = or_past;
      within = λ u x h. ⊎_elim (λ w. inl (r.within u x w)) (λ w. inr (s.within u x w)) h;
      starts = λ t u h. ⊎_elim (λ o. left (kind t) (r.starts t u o)) (λ o. right (kind t) (s.starts t u o)) h;
    }

  deep_rest : (why : Why) (ks : List ℕ) (ts : List Tok) → (deep_stop kind why ks ts).1 ≡ ts
  deep_rest why ks ts = go (begins kind ks ts)
    where
      go : (b : Bool) → (cond {A = Why × List Tok} b (TooDeep, ts) (why, ts)).1 ≡ ts
      go true = refl
      go false = refl

  -- what may not be opened
  pub deep_reads : {T : Type 0} (why : Why) (ks f : List ℕ) (n : T → List ℕ)
      → Reads (never {T = T}) (deep_r kind why ks) f n
  deep_reads {T} why ks f n = record {
    sound = λ ts rest x e. absurd (cc);
    fault = λ ts rest w e. (
      [],
      sym (deep_rest why ks ts)
          ∙ ap (λ (z : Why × List Tok). z.1) (err_parts {T = T} (deep_stop kind why ks ts) (w, rest) e),
      refl,
    );
    complete = λ u rest x h s. absurd h;
    past = λ u rest h. ([], ap (λ l. l ++ rest) (sym h) ∙ sym (deep_rest why ks (u ++ rest)));
    within = λ u x h. absurd h;
    starts = λ t u h. absurd (cc);
  }

  -- rounds
  module _ {A : Type 0} (round : A → Lang Tok A) (p : A → Reader Tok A) (f ks c : List ℕ) (N : A → List ℕ)
      (r : (a : A) → Reads (round a) (p a) f (λ _. c))
      (tested : Sub f ks)
      (apart : Apart f c)
      (full : (a b : A) → (round a).whole [] b → ⊥)
      (again : (a : A) → Sub ks (N a)) (last : (a : A) → Sub c (N a)) where
    abbrev Turned : A → List Tok → List Tok → A → Type 0
    Turned a ts rest b = (u : List Tok) × (ts ≡ u ++ rest) × ((n : ℕ) × Rounds round n a u b)

    turns_sound_step : (k : ℕ) → ((a : A) (ts rest : List Tok) (b : A) → turns_r kind ks p k a ts ≡ Ok (b, rest)
        → Turned a ts rest b) →
        (a : A) (ts rest : List Tok) (b : A) → turns_r kind ks p (suc k) a ts ≡ Ok (b, rest) → Turned a ts rest b
    turns_sound_step k ih a ts rest b e = by_test (begins kind ks ts) e
      where
        by_first : (o : Read Tok A) → p a ts ≡ o → (o >>= λ x. turns_r kind ks p k x.0 x.1) ≡ Ok (b, rest)
            → Turned a ts rest b
        by_first (Ok x) e1 e2 =
            let (u1, s1, w1) = (r a).sound ts x.1 x.0 e1 in
            let (u2, s2, (n, w2)) = ih x.0 x.1 rest b e2 in
            (u1 ++ u2, s1 ∙ ap (λ l. u1 ++ l) s2 ∙ sym (append_assoc u1 u2 rest), (suc n, (x.0, u1, u2, refl, w1, w2)))
        by_first (Err x) e1 e2 = absurd (cc)

        by_test : (t : Bool) → cond t (p a ts >>= λ x. turns_r kind ks p k x.0 x.1) (Ok (a, ts)) ≡ Ok (b, rest)
            → Turned a ts rest b
        by_test true e = by_first (p a ts) refl e
        by_test false e = ([], ok_rest a b ts rest e, (0, (refl, sym (ok_value a b ts rest e))))

    turns_sound : (k : ℕ) (a : A) (ts rest : List Tok) (b : A) → turns_r kind ks p k a ts ≡ Ok (b, rest)
        → Turned a ts rest b
    turns_sound zero a ts rest b e = ([], ok_rest a b ts rest e, (0, (refl, sym (ok_value a b ts rest e))))
    turns_sound (suc k) a ts rest b e = turns_sound_step k (turns_sound k) a ts rest b e

    abbrev Begun : A → List Tok → List Tok → Type 0
    Begun a ts rest = (u : List Tok) × (ts ≡ u ++ rest) × (rounds round a).opens u

    turns_fault_step : (k : ℕ) → ((a : A) (ts rest : List Tok) (w : Why)
        → turns_r kind ks p k a ts ≡ Err (w, rest) → Begun a ts rest) →
        (a : A) (ts rest : List Tok) (w : Why) → turns_r kind ks p (suc k) a ts ≡ Err (w, rest) → Begun a ts rest
    turns_fault_step k ih a ts rest w e = by_test (begins kind ks ts) e
      where
        by_first : (o : Read Tok A) → p a ts ≡ o → (o >>= λ x. turns_r kind ks p k x.0 x.1) ≡ Err (w, rest)
            → Begun a ts rest
        by_first (Ok x) e1 e2 =
            let (u1, s1, w1) = (r a).sound ts x.1 x.0 e1 in
            let (u2, s2, (n, b, v, q, e3, w2, o)) = ih x.0 x.1 rest w e2 in (
              u1 ++ u2,
              s1 ∙ ap (λ l. u1 ++ l) s2
                  ∙ sym (append_assoc u1 u2 rest),
              (
                suc n,
                b,
                u1 ++ v,
                q,
                ap (λ l. u1 ++ l) e3
                    ∙ sym (append_assoc u1 v q),
                (x.0, u1, v, refl, w1, w2),
                o,
              ),
            )
        by_first (Err x) e1 e2 =
            let (u1, s1, o1) = (r a).fault ts x.1 x.0 e1 in (
              u1,
              s1 ∙ ap (λ l. u1 ++ l) (err_rest {T = A} x.0 w x.1 rest
                  e2),
              (0, a, [], u1, refl, (refl, refl), inr o1),
            )

        by_test : (t : Bool) → cond t (p a ts >>= λ x. turns_r kind ks p k x.0 x.1) (Ok (a, ts)) ≡ Err (w, rest)
            → Begun a ts rest
        by_test true e = by_first (p a ts) refl e
        by_test false e = absurd (cc)

    turns_fault : (k : ℕ) (a : A) (ts rest : List Tok) (w : Why) → turns_r kind ks p k a ts ≡ Err (w, rest)
        → Begun a ts rest
    turns_fault zero a ts rest w e = absurd (cc)
    turns_fault (suc k) a ts rest w e = turns_fault_step k (turns_fault k) a ts rest w e

    turns_end : (k : ℕ) (a : A) (ts : List Tok) → Past ts (turns_r kind ks p k a ts)
    turns_end k a ts = go (turns_r kind ks p k a ts) refl
      where
        go : (o : Read Tok A) → turns_r kind ks p k a ts ≡ o → Past ts o
        go (Ok x) e = let (u, s, w) = turns_sound k a ts x.1 x.0 e in (u, s)
        go (Err x) e = let (u, s, w) = turns_fault k a ts x.1 x.0 e in (u, s)

    -- what begins rounds, or is whole, begins with their first tokens
    rounds_starts : (n : ℕ) (a : A) (t : Tok) (u : List Tok) (b : A) → Rounds round n a (t ∷ u) b
        → among (kind t) f ≡ true
    rounds_starts zero a t u b h = absurd (let e = h.0 in cc)
    rounds_starts (suc n) a t u b (x, [], q, e, w, h) = absurd (full a x w)
    rounds_starts (suc n) a t u b (x, s ∷ v, q, e, w, h) =
        let same : s ≡ t = cc in
        subst (λ r. among (kind r) f ≡ true) same ((r a).starts s v ((r a).within (s ∷ v) x w))

    -- after a round, more rounds and what stops them
    round_stops : (n : ℕ) (a b : A) (q rest : List Tok) → Rounds round n a q b → Stops (N b) rest → Stops c (q ++ rest)
    round_stops n a b [] rest h st = stops_sub c (N b) rest (last b) st
    round_stops n a b (t ∷ q) rest h st = stops_by c t (q ++ rest) (λ e. apart (kind t) (rounds_starts n a t q b h) e)

    one_turn : (k : ℕ) (a b : A) (t : Tok) (v more : List Tok) → (round a).whole (t ∷ v) b → Stops c more
        → turns_r kind ks p (suc k) a (t ∷ v ++ more) ≡ turns_r kind ks p k b more
    one_turn k a b t v more w st =
        cond_true (among (kind t) ks) _ _ (tested (kind t) ((r a).starts t v ((r a).within (t ∷ v) b w)))
        ∙ ap (λ o. o >>= λ x. turns_r kind ks p k x.0 x.1) ((r a).complete (t ∷ v) more b w st)

    turns_complete : (n k : ℕ) (a : A) (u rest : List Tok) (b : A) → Rounds round n a u b → Stops (N b) rest
        → length (u ++ rest) ≤ k → turns_r kind ks p k a (u ++ rest) ≡ Ok (b, rest)
    turns_complete zero zero a u rest b h st le =
        ap (λ l. turns_r kind ks p 0 a (l ++ rest)) h.0 ∙ ap (λ z. Ok (z, rest)) (sym h.1)
    turns_complete zero (suc k) a u rest b h st le =
        ap (λ l. turns_r kind ks p (suc k) a (l ++ rest)) h.0
        ∙ cond_false (begins kind ks rest) _ (Ok (a, rest)) (stops_sub ks (N b) rest (again b) st)
        ∙ ap (λ z. Ok (z, rest)) (sym h.1)
    turns_complete (suc n) k a u rest b (x, [], q, e, w, h) st le = absurd (full a x w)
    turns_complete (suc n) zero a u rest b (x, t ∷ v, q, e, w, h) st le =
        absurd (omega (arith, ap length (ap (λ l. l ++ rest) e)))
    turns_complete (suc n) (suc k) a u rest b (x, t ∷ v, q, e, w, h) st le =
        let all : u ++ rest ≡ t ∷ v ++ (q ++ rest) = ap (λ l. l ++ rest) e ∙ append_assoc (t ∷ v) q rest in
        let shorter : length (q ++ rest) ≤ k = omega (arith, ap length all, length-append (t ∷ v) (q ++ rest)) in
        ap (λ l. turns_r kind ks p (suc k) a l) all
        ∙ one_turn k a x t v (q ++ rest) w (round_stops n x b q rest h st)
        ∙ turns_complete n k x q rest b h st shorter

    -- where a round has been read, or stopped, in the tokens after it
    go_turn : (k : ℕ) (rest : List Tok) (o : Read Tok A) → Past rest o
        → Past rest (o >>= λ x. turns_r kind ks p k x.0 x.1)
    go_turn k rest (Ok x) h = past_trans rest x.1 (turns_r kind ks p k x.0 x.1) h (turns_end k x.0 x.1)
    go_turn k rest (Err x) h = h

    -- a round has begun, or is whole with nothing of the next after it
    open_turn : (k : ℕ) (a : A) (q rest : List Tok) → (round a).opens q → length (q ++ rest) ≤ k
        → Past rest (turns_r kind ks p k a (q ++ rest))
    open_turn k a [] rest o le = turns_end k a rest
    open_turn zero a (t ∷ q) rest o le = absurd (omega arith)
    open_turn (suc k) a (t ∷ q) rest o le =
        subst (Past rest) (sym (cond_true (among (kind t) ks)
        (p a (t ∷ q ++ rest) >>= λ x. turns_r kind ks p k x.0 x.1) (Ok (a, t ∷ q ++ rest))
        (tested (kind t) ((r a).starts t q o))))
        (go_turn k rest (p a (t ∷ q ++ rest)) ((r a).past (t ∷ q) rest o))

    turns_past : (n k : ℕ) (a b : A) (v q rest : List Tok) → Rounds round n a v b → (q ≡ []) ⊎ (round b).opens q
        → length (v ++ (q ++ rest)) ≤ k → Past rest (turns_r kind ks p k a (v ++ (q ++ rest)))
    turns_past zero k a b v q rest h (inl e) le =
        subst (λ l. Past rest (turns_r kind ks p k a l))
        (sym (ap (λ l. l ++ (q ++ rest)) h.0 ∙ ap (λ l. l ++ rest) e)) (turns_end k a rest)
    turns_past zero k a b v q rest h (inr o) le =
        let all : v ++ (q ++ rest) ≡ q ++ rest = ap (λ l. l ++ (q ++ rest)) h.0 in
        let le' : length (q ++ rest) ≤ k = omega (arith, ap length all) in
        subst (λ l. Past rest (turns_r kind ks p k a l)) (sym all)
        (open_turn k a q rest (subst (λ z. (round z).opens q) h.1 o) le')
    turns_past (suc n) k a b v q rest (x, [], v2, e, w, h) o le = absurd (full a x w)
    turns_past (suc n) zero a b v q rest (x, t ∷ v1, v2, e, w, h) o le =
        absurd (omega (arith, ap length (ap (λ l. l ++ (q ++ rest)) e)))
    turns_past (suc n) (suc k) a b v q rest (x, t ∷ v1, v2, e, w, h) o le =
        let all : v ++ (q ++ rest) ≡ t ∷ v1 ++ (v2 ++ (q ++ rest)) =
        ap (λ l. l ++ (q ++ rest)) e ∙ append_assoc (t ∷ v1) v2 (q ++ rest) in
        let shorter : length (v2 ++ (q ++ rest)) ≤ k =
        omega (arith, ap length all, length-append (t ∷ v1) (v2 ++ (q ++ rest))) in
        subst (λ l. Past rest (turns_r kind ks p (suc k) a l)) (sym all)
        (by_more (v2 ++ q) (append_assoc v2 q rest) (starts n v2 q h o)
        (turns_past n k x b v2 q rest h o shorter))
      where
        starts : (n : ℕ) (v2 q : List Tok) → Rounds round n x v2 b → (q ≡ []) ⊎ (round b).opens q
            → (s : Tok) (m : List Tok) → v2 ++ q ≡ s ∷ m → among (kind s) f ≡ true
        starts n (s' ∷ v2) q h o s m e = let same : s' ≡ s = cc in
            subst (λ r. among (kind r) f ≡ true) same (rounds_starts n x s' v2 b h)
        starts n [] q h (inl e') s m e = absurd (cc)
        starts n [] q h (inr o) s m e = (r b).starts s m (subst (round b).opens e o)

        by_more : (l : List Tok) → l ++ rest ≡ v2 ++ (q ++ rest)
            → ((s : Tok) (m : List Tok) → l ≡ s ∷ m → among (kind s) f ≡ true)
            → Past rest (turns_r kind ks p k x (v2 ++ (q ++ rest)))
            → Past rest (turns_r kind ks p (suc k) a (t ∷ v1 ++ (v2 ++ (q ++ rest))))
        by_more [] e st ih =
            subst (λ l. Past rest (turns_r kind ks p (suc k) a (t ∷ v1 ++ l))) e
            (subst (Past rest) (sym (cond_true (among (kind t) ks)
            (p a (t ∷ v1 ++ rest) >>= λ x. turns_r kind ks p k x.0 x.1) (Ok (a, t ∷ v1 ++ rest))
            (tested (kind t) ((r a).starts t v1 ((r a).within (t ∷ v1) x w)))))
            (go_turn k rest (p a (t ∷ v1 ++ rest)) ((r a).past (t ∷ v1) rest ((r a).within (t ∷ v1) x w))))
        by_more (s ∷ m) e st ih =
            let stop : Stops c (v2 ++ (q ++ rest)) =
            subst (Stops c) e (stops_by c s (m ++ rest) (λ z. apart (kind s) (st s m refl) z)) in
            subst (Past rest) (sym (one_turn k a x t v1 (v2 ++ (q ++ rest)) w stop)) ih

    pub rounds_reads : (a : A) → Reads (rounds round a) (rounds_r kind ks p a) f N
    rounds_reads a = record {
      sound = λ ts rest b e. turns_sound (length ts) a ts rest b e;
      fault = λ ts rest w e. turns_fault (length ts) a ts rest w e;
      complete = λ u rest b (n, h) st. turns_complete n (length (u ++ rest)) a u rest b h st (omega arith);
      past = λ u rest (n, b, v, q, e, h, o).
          let all : u ++ rest ≡ v ++ (q ++ rest) = ap (λ l. l ++ rest) e ∙ append_assoc v q rest in
          subst (λ l. Past rest (turns_r kind ks p (length l) a l)) (sym all)
          (turns_past n (length (v ++ (q ++ rest))) a b v q rest h o (omega arith));
      within = λ u b (n, h). (n, b, u, [], sym (append-nil u), h, inl refl);
      starts = λ t u (n, b, v, q, e, h, o). rounds_open_starts n b v q t u e h o;
    }
      where
        rounds_open_starts : (n : ℕ) (b : A) (v q : List Tok) (t : Tok) (u : List Tok) → t ∷ u ≡ v ++ q
            → Rounds round n a v b → (q ≡ []) ⊎ (round b).opens q → among (kind t) f ≡ true
        rounds_open_starts n b (s ∷ v) q t u e h o = let same : s ≡ t = cc in
            subst (λ r. among (kind r) f ≡ true) same (rounds_starts n a s v b h)
        rounds_open_starts n b [] q t u e h (inl e') = absurd (cc)
        rounds_open_starts n b [] q t u e h (inr o) = (r b).starts t u (subst (round b).opens (sym e) o)
