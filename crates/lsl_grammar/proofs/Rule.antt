-- A rule of a grammar with its reader, at narrow and at wide limits: all that they owe each other in one
-- record, and each way to join rules.
use Rattle.std.proofs.Common.{◌≡◌, ℕ, ◌==◌, Bool, true, false, cond, ◌||◌, ◌&&◌, not, List, [], ◌∷◌, ◌++◌, length, Ok, Err, ◌⊎◌, inl, inr, ⊎_elim, refl, sym, ap, ◌∙◌, subst, arith, length-append}
use Rattle.std.proofs.lemmas.Bool.{eqb-true, or_left, or_right}
use Rattle.lsl_grammar.specs.declared.Why.{Why}
use Rattle.lsl_grammar.specs.declared.Why.TheVariants.{Unexpected, TooDeep}
use Rattle.lsl_grammar.specs.Language.{among, Lang, ret, one_of, ◌>>=◌ as ◌>=>◌, ◌∣◌, never, rounds}
use Rattle.lsl_grammar.specs.Reading.{Read, Reader, ◌>>=◌, begins, ret_r, one_r, then_r, or_r, deep_stop, deep_r, rounds_r}
use Rattle.lsl_grammar.proofs.ReadsLanguage.{Sub, Apart, Ends, Reads, reads_as, cond_true, cond_false, err_parts, ret_reads, one_reads, wider, then_reads, or_reads, deep_reads, rounds_reads}
use Rattle.lsl_grammar.proofs.Fronts.{Fronts, ret_fronts, one_fronts, then_fronts, or_fronts, never_fronts, rounds_fronts}
use Rattle.lsl_grammar.proofs.Widening.{Mono, same_mono, never_mono, then_mono, or_mono, rounds_mono, Refines, same_refines, refines_as, then_refines, or_refines, rounds_refines, deep_refines}
use Rattle.lsl_grammar.proofs.Hints.{Tells, Eats, Suits, ret_tells, one_tells, tells_as, then_tells, or_tells, rounds_tells, deep_tells}

-- Lists of numbers of kinds, by tests that compute

abbrev pub subset : List ℕ → List ℕ → Bool
subset [] ys = true
subset (x ∷ xs) ys = among x ys && subset xs ys

abbrev pub disjoint : List ℕ → List ℕ → Bool
disjoint [] ys = true
disjoint (x ∷ xs) ys = not (among x ys) && disjoint xs ys

among_same : (k x : ℕ) (ys : List ℕ) → (k == x) ≡ true → among k ys ≡ among x ys
among_same k x ys e = ap (λ n. among n ys) (eqb-true k x e)

pub or_cases : (a b : Bool) → (a || b) ≡ true → (a ≡ true) ⊎ (b ≡ true)
or_cases true b e = inl refl
or_cases false b e = inr e

pub and_left : (a b : Bool) → (a && b) ≡ true → a ≡ true
and_left true b e = refl
and_left false b e = e

pub and_right : (a b : Bool) → (a && b) ≡ true → b ≡ true
and_right true b e = e
and_right false b e = absurd (cc)

pub sub_by : (xs ys : List ℕ) → subset xs ys ≡ true → Sub xs ys
sub_by [] ys e k h = absurd (cc)
sub_by (x ∷ xs) ys e k h =
    ⊎_elim
    (λ s. among_same k x ys s ∙ and_left (among x ys) (subset xs ys) e)
    (λ m. sub_by xs ys (and_right (among x ys) (subset xs ys) e) k m)
    (or_cases (k == x) (among k xs) h)

not_true : (b : Bool) → not b ≡ true → b ≡ true → ⊥
not_true true e f = cc
not_true false e f = cc

not_false : (b : Bool) → not b ≡ true → b ≡ false
not_false true e = absurd (cc)
not_false false e = refl

pub apart_by : (xs ys : List ℕ) → disjoint xs ys ≡ true → Apart xs ys
apart_by [] ys e k h m = cc
apart_by (x ∷ xs) ys e k h m =
    ⊎_elim
    (λ s. not_true (among x ys) (and_left (not (among x ys)) (disjoint xs ys) e) (sym (among_same k x ys s) ∙ m))
    (λ m'. apart_by xs ys (and_right (not (among x ys)) (disjoint xs ys) e) k m' m)
    (or_cases (k == x) (among k xs) h)

pub sub_left : (xs ys : List ℕ) → Sub xs (xs ++ ys)
sub_left [] ys k h = absurd (cc)
sub_left (x ∷ xs) ys k h = ⊎_elim (λ e. or_left (k == x) (among k (xs ++ ys)) e)
    (λ m. or_right (k == x) (among k (xs ++ ys)) (sub_left xs ys k m)) (or_cases (k == x) (among k xs) h)

pub sub_right : (xs ys : List ℕ) → Sub ys (xs ++ ys)
sub_right [] ys k h = h
sub_right (x ∷ xs) ys k h = or_right (k == x) (among k (xs ++ ys)) (sub_right xs ys k h)

pub append_cases : (k : ℕ) (xs ys : List ℕ) → among k (xs ++ ys) ≡ true → (among k xs ≡ true) ⊎ (among k ys ≡ true)
append_cases k [] ys h = inr h
append_cases k (x ∷ xs) ys h = ⊎_elim (λ e. inl (or_left (k == x) (among k xs) e))
    (λ m. ⊎_elim (λ a. inl (or_right (k == x) (among k xs) a)) (λ b. inr b) (append_cases k xs ys m))
    (or_cases (k == x) (among k (xs ++ ys)) h)

pub append_none : (k : ℕ) (xs ys : List ℕ) → among k xs ≡ false → among k ys ≡ false → among k (xs ++ ys) ≡ false
append_none k [] ys e f = f
append_none k (x ∷ xs) ys e f = go (k == x) e
  where
    go : (b : Bool) → (b || among k xs) ≡ false → (b || among k (xs ++ ys)) ≡ false
    go true h = h
    go false h = append_none' xs h
      where
        append_none' : (l : List ℕ) → among k l ≡ false → among k (l ++ ys) ≡ false
        append_none' [] h = f
        append_none' (z ∷ l) h = either (k == z) h (append_none' l)
          where
            either : (c : Bool) → (c || among k l) ≡ false → (among k l ≡ false → among k (l ++ ys) ≡ false)
                → (c || among k (l ++ ys)) ≡ false
            either true h ih = h
            either false h ih = ih h

not_among : (k : ℕ) (ks : List ℕ) → (among k ks ≡ true → ⊥) → among k ks ≡ false
not_among k ks h = go (among k ks) refl
  where
    go : (b : Bool) → among k ks ≡ b → among k ks ≡ false
    go true e = absurd (h e)
    go false e = e

-- no text is empty
pub record Filled {Tok T : Type 0} (L : Lang Tok T) : Type 0 where
  pub none : (x : T) → L.whole [] x → ⊥

-- a list of no tokens has no token in front
nil_parts : {Tok : Type 0} (p q : List Tok) → (let l : List Tok = [] in l) ≡ p ++ q → p ≡ []
nil_parts [] q e = refl
nil_parts (t ∷ p) q e = absurd (cc)

pub then_full : {Tok A B : Type 0} (L : Lang Tok A) (K : A → Lang Tok B) → Filled L → Filled (L >=> K)
then_full L K h = record { none = λ y (x, p, q, e, w, v). h.none x (subst (λ l. L.whole l x) (nil_parts p q e) w) }

pub or_full : {Tok T : Type 0} (L M : Lang Tok T) → Filled L → Filled M → Filled (L ∣ M)
or_full L M f g = record { none = λ x h. ⊎_elim (f.none x) (g.none x) h }

pub never_full : {Tok T : Type 0} → Filled (never {Tok = Tok} {T = T})
never_full = record { none = λ x h. h }

module _ {Tok : Type 0} (kind : Tok → ℕ) (probe : ℕ) where
  pub record Rule {T : Type 0} (L M : Lang Tok T) (p q : Reader Tok T) (first : List ℕ)
      (next : T → List ℕ) : Type 0 where
    pub reads : Reads kind L p first next
    pub fronts : Fronts L
    pub mono : Mono L M
    pub refines : Refines p q
    pub tells : Tells kind probe M p

  pub one_full : (ks : List ℕ) → Filled (one_of kind ks)
  one_full ks = record { none = λ x (e, m). cc }

  -- a sign comes first
  pub sign_full : {B : Type 0} (ks : List ℕ) (K : Tok → Lang Tok B) → Filled (one_of kind ks >=> K)
  sign_full ks K = then_full (one_of kind ks) K (one_full ks)

  pub ret_rule : {T : Type 0} (x : T) (f : List ℕ) (n : T → List ℕ) → Rule (ret x) (ret x) (ret_r x) (ret_r x) f n
  ret_rule x f n = record {
    reads = ret_reads kind x f n;
    fronts = ret_fronts x;
    mono =
        same_mono (ret x);
    refines = same_refines (ret_r x);
    tells = ret_tells kind probe (ret x) x;
  }

  pub one_rule : (why : Why) (ks : List ℕ) (n : Tok → List ℕ) → Suits kind probe why ks
      → Rule (one_of kind ks) (one_of kind ks) (one_r kind why ks) (one_r kind why ks) ks n
  one_rule why ks n suits = record {
    reads = one_reads kind why ks n;
    fronts = one_fronts kind ks;
    mono =
        same_mono (one_of kind ks);
    refines = same_refines (one_r kind why ks);
    tells =
        one_tells kind probe why ks suits;
  }

  -- readers that do the same
  pub rule_as : {T : Type 0} (L M : Lang Tok T) (p q p' q' : Reader Tok T) (f : List ℕ) (n : T → List ℕ)
      → ((ts : List Tok) → p ts ≡ p' ts) → ((ts : List Tok) → q ts ≡ q' ts) → Rule L M p q f n
      → Rule L M p' q' f n
  rule_as L M p q p' q' f n same same' r =
      record {
        reads = reads_as kind L p p' f n same r.reads;
        fronts = r.fronts;
        mono = r.mono;
        refines =
            refines_as p p' q q' same same' r.refines;
        tells = tells_as kind probe M p p' same r.tells;
      }

  pub wider_rule : {T : Type 0} {L M : Lang Tok T} {p q : Reader Tok T} {f : List ℕ} {n : T → List ℕ}
      (F : List ℕ) (N : T → List ℕ) → Rule L M p q f n → Sub f F
      → ((u : List Tok) (x : T) → L.whole u x → Sub (n x) (N x)) → Rule L M p q F N
  wider_rule {L = L} {p = p} {f = f} {n = n} F N r sf sn =
      record {
        reads = wider kind L p f n F N r.reads sf sn;
        fronts = r.fronts;
        mono = r.mono;
        refines =
            r.refines;
        tells = r.tells;
      }

  pub then_rule : {A B : Type 0} (L M : Lang Tok A) (K J : A → Lang Tok B) (p p' : Reader Tok A)
      (q q' : A → Reader Tok B) (f : List ℕ) (n : A → List ℕ) (fK : A → List ℕ) (F : List ℕ) (N : B → List ℕ) →
      Rule L M p p' f n → ((x : A) → Rule (K x) (J x) (q x) (q' x) (fK x) N) →
      ((x : A) → Apart (fK x) (n x)) → ((x : A) → among probe (n x) ≡ false)
      → ((x : A) (y : B) → (K x).whole [] y → Sub (n x) (N y)) →
      Sub f F → ((x : A) → L.whole [] x → Sub (fK x) F) → Rule (L >=> K) (M >=> J) (then_r p q) (then_r p' q') F N
  then_rule L M K J p p' q q' f n fK F N r s apart aside after heads empty = record {
    reads = then_reads kind L K p q f n fK F N r.reads (λ x. (s x).reads) apart after heads empty;
    fronts = then_fronts r.fronts (λ x. (s x).fronts);
    mono = then_mono r.mono (λ x. (s x).mono);
    refines = then_refines p p' q q' r.refines (λ x. (s x).refines);
    tells = then_tells kind probe L M K J p q f n fK N r.reads (λ x. (s x).reads) apart aside r.mono r.tells
        (λ x. (s x).tells);
  }

  pub or_rule : {T : Type 0} (L L' M M' : Lang Tok T) (p p' q q' : Reader Tok T) (f g F : List ℕ) (N : T → List ℕ) →
      Rule L L' p p' f N → Rule M M' q q' g N → Apart f g → among probe f ≡ false → Filled L
      → Eats kind probe f p → ((x : T) → M.whole [] x → Sub f (N x)) →
      Sub f F → Sub g F → Rule (L ∣ M) (L' ∣ M') (or_r kind f p q) (or_r kind f p' q') F N
  or_rule L L' M M' p p' q q' f g F N r s apart aside full eats after left right = record {
    reads = or_reads kind L M p q f f g F N r.reads s.reads (λ k h. h) apart full.none after left right;
    fronts = or_fronts r.fronts s.fronts;
    mono = or_mono r.mono s.mono;
    refines = or_refines kind f p p' q q' r.refines s.refines;
    tells = or_tells kind probe L' M' p q f aside eats r.tells s.tells;
  }

  pub rounds_rule : {A : Type 0} (round round' : A → Lang Tok A) (p p' : A → Reader Tok A) (f ks c : List ℕ)
      (N : A → List ℕ) →
      ((a : A) → Rule (round a) (round' a) (p a) (p' a) f (λ _. c)) → Sub f ks → Apart f c
      → ((a : A) → Filled (round a)) → among probe c ≡ false →
      (among probe ks ≡ true) ⊎ ((a : A) → Eats kind probe ks (p a)) → ((a : A) → Sub ks (N a))
      → ((a : A) → Sub c (N a)) →
      (a : A) → Rule (rounds round a) (rounds round' a) (rounds_r kind ks p a) (rounds_r kind ks p' a) f N
  rounds_rule round round' p p' f ks c N r tested apart full aside eats again last a = record {
    reads = rounds_reads kind round p f ks c N (λ b. (r b).reads) tested apart (λ b. (full b).none) again last a;
    fronts = rounds_fronts round (λ b. (r b).fronts) a;
    mono = rounds_mono (λ b. (r b).mono) a;
    refines = rounds_refines kind ks p p' (λ b. (r b).refines) a;
    tells = rounds_tells kind probe round round' p f ks c (λ b. (r b).reads) apart (λ b. (full b).none) aside
        eats (λ b. (r b).mono) (λ b. (r b).tells) a;
  }

  -- what may not be begun, where it may within wider limits
  pub deep_rule : {T : Type 0} (M : Lang Tok T) (q : Reader Tok T) (why : Why) (ks f : List ℕ) (n : T → List ℕ)
      → Suits kind probe why ks → M.opens [] →
      ((ts : List Tok) → begins kind ks ts ≡ false → q ts ≡ Err (why, ts))
      → ((t : Tok) → among (kind t) ks ≡ true → M.opens (t ∷ [])) →
      Rule never M (deep_r kind why ks) q f n
  deep_rule M q why ks f n suits empty misses covers = record {
    reads = deep_reads kind why ks f n;
    fronts = never_fronts;
    mono = never_mono M empty;
    refines = deep_refines kind why ks q misses;
    tells = deep_tells kind probe M why ks suits covers;
  }

  -- Rules without an empty text, whose continuing tokens are a fixed list

  pub record Solid {T : Type 0} (L M : Lang Tok T) (p q : Reader Tok T) (first next : List ℕ) : Type 0 where
    pub rule : Rule L M p q first (λ _. next)
    pub full : Filled L
    pub eats : Eats kind probe first p
    pub aside : among probe next ≡ false

  pub no_ends : (t : Tok) (rest : List Tok) → Ends rest (t ∷ rest) → ⊥
  no_ends t rest (v, e) = omega (arith, ap length e, length-append v (t ∷ rest))

  longer : (ts u r rest : List Tok) → ts ≡ u ++ r → (u ≡ [] → ⊥) → Ends r rest → rest ≡ ts → ⊥
  longer ts [] r rest e full h same = full refl
  longer ts (t ∷ u) r rest e full (v, f) same =
      omega (arith, ap length e, length-append (t ∷ u) r, ap length f, length-append v rest, ap length same)

  pub then_eats : {A B : Type 0} (L : Lang Tok A) (K : A → Lang Tok B) (p : Reader Tok A) (q : A → Reader Tok B)
      (f : List ℕ) (n : A → List ℕ) (fK : A → List ℕ) (N : B → List ℕ) →
      Reads kind L p f n → ((x : A) → Reads kind (K x) (q x) (fK x) N) → Filled L → Eats kind probe f p
      → Eats kind probe f (then_r p q)
  then_eats {A} {B} L K p q f n fK N r s full eats = record { eaten = λ t ts m e. go t ts m (p (t ∷ ts)) refl e }
    where
      go : (t : Tok) (ts : List Tok) → among (kind t) f ≡ true → (o : Read Tok A) → p (t ∷ ts) ≡ o
          → (o >>= λ x. q x.0 x.1) ≡ Err (Unexpected, t ∷ ts) → ⊥
      go t ts m (Ok x) e1 e2 =
          let (u1, s1, w1) = r.sound (t ∷ ts) x.1 x.0 e1 in
          let (u2, s2, o2) = (s x.0).fault x.1 (t ∷ ts) Unexpected e2 in
          longer (t ∷ ts) u1 x.1 (t ∷ ts) s1 (λ e. full.none x.0 (subst (λ l. L.whole l x.0) e w1)) (u2, s2) refl
      go t ts m (Err x) e1 e2 = eats.eaten t ts m (e1 ∙ ap (λ z. Err z) (err_parts {T = B} x (Unexpected, t ∷ ts) e2))

  pub one_eats : (why : Why) (ks : List ℕ) → Eats kind probe ks (one_r kind why ks)
  one_eats why ks = record {
    eaten = λ t ts m e.
        absurd (let is : one_r kind why ks (t ∷ ts) ≡ Ok (t, ts) =
        cond_true (among (kind t) ks) (Ok (t, ts)) (Err (why, t ∷ ts)) m in let both = sym is ∙ e in cc);
  }

  pub deep_eats : {T : Type 0} (why : Why) (ks : List ℕ) → Eats kind probe ks (deep_r {T = T} kind why ks)
  deep_eats {T} why ks = record {
    eaten =
        λ t ts m e. absurd (let is : deep_stop kind why ks (t ∷ ts) ≡ (TooDeep, t ∷ ts) =
        cond_true (among (kind t) ks) (TooDeep, t ∷ ts) (why, t ∷ ts) m in
        let both : ◌≡◌ {A = Why × List Tok} (TooDeep, t ∷ ts) (Unexpected, t ∷ ts) =
        sym is ∙ err_parts {T = T} (deep_stop kind why ks (t ∷ ts)) (Unexpected, t ∷ ts) e in
        let first : ◌≡◌ {A = Why} TooDeep Unexpected = ap (λ (z : Why × List Tok). z.0) both in cc);
  }

  pub or_eats : {T : Type 0} (p q : Reader Tok T) (f g : List ℕ) → Eats kind probe f p → Eats kind probe g q
      → Eats kind probe (f ++ g) (or_r kind f p q)
  or_eats p q f g a b = record { eaten = λ t ts m e. go t ts m (among (kind t) f) refl e }
    where
      go : (t : Tok) (ts : List Tok) → among (kind t) (f ++ g) ≡ true → (c : Bool) → among (kind t) f ≡ c
          → cond c (p (t ∷ ts)) (q (t ∷ ts)) ≡ Err (Unexpected, t ∷ ts) → ⊥
      go t ts m true h e = a.eaten t ts h e
      go t ts m false h e = ⊎_elim (λ z. let both = sym z ∙ h in absurd (cc)) (λ z. b.eaten t ts z e)
          (append_cases (kind t) f g m)

  -- a rule may claim more tokens at which it stops
  pub solid_wider : {T : Type 0} {L M : Lang Tok T} {p q : Reader Tok T} {f c : List ℕ} (C : List ℕ)
      → Solid L M p q f c → subset c C ≡ true → among probe C ≡ false → Solid L M p q f C
  solid_wider {f = f} {c = c} C s e1 e2 =
      record {
        rule = wider_rule f (λ _. C) s.rule (λ k h. h) (λ u x w. sub_by c C e1);
        full = s.full;
        eats =
            s.eats;
        aside = e2;
      }

  -- a sign, and what follows it
  pub sign_rule : {B : Type 0} (why : Why) (ks g : List ℕ) (N : B → List ℕ) (K J : Tok → Lang Tok B)
      (q q' : Tok → Reader Tok B) → Suits kind probe why ks → ((t : Tok) → Rule (K t) (J t) (q t) (q' t) g N) →
      Rule (one_of kind ks >=> K) (one_of kind ks >=> J) (then_r (one_r kind why ks) q)
      (then_r (one_r kind why ks) q') ks N
  sign_rule why ks g N K J q q' suits r =
      then_rule (one_of kind ks) (one_of kind ks) K J (one_r kind why ks) (one_r kind why ks) q q' ks (λ _. [])
      (λ _. g) ks N (one_rule why ks (λ _. []) suits) r (λ x k h m. cc) (λ x. refl) (λ x y w k h. absurd (cc))
      (λ k h. h) (λ x w. absurd ((one_full ks).none x w))

  pub solid_sign : {B : Type 0} (why : Why) (ks g c : List ℕ) (K J : Tok → Lang Tok B)
      (q q' : Tok → Reader Tok B) → Suits kind probe why ks → among probe c ≡ false
      → ((t : Tok) → Rule (K t) (J t) (q t) (q' t) g (λ _. c)) →
      Solid (one_of kind ks >=> K) (one_of kind ks >=> J) (then_r (one_r kind why ks) q)
      (then_r (one_r kind why ks) q') ks c
  solid_sign why ks g c K J q q' suits aside r = record {
    rule = sign_rule why ks g (λ _. c) K J q q' suits r;
    full = sign_full ks K;
    eats = then_eats (one_of kind ks) K (one_r kind why ks) q ks (λ _. []) (λ _. g) (λ _. c)
        (one_reads kind why ks (λ _. [])) (λ t. (r t).reads) (one_full ks) (one_eats why ks);
    aside = aside;
  }

  -- a part, and a part after it
  pub solid_then : {A B : Type 0} {L M : Lang Tok A} {p p' : Reader Tok A} {f c : List ℕ} (g d : List ℕ)
      (K J : A → Lang Tok B) (q q' : A → Reader Tok B) → Solid L M p p' f c
      → ((x : A) → Solid (K x) (J x) (q x) (q' x) g d) → disjoint g c ≡ true → among probe d ≡ false
      → Solid (L >=> K) (M >=> J) (then_r p q) (then_r p' q') f d
  solid_then {L = L} {M = M} {p = p} {p' = p'} {f = f} {c = c} g d K J q q' s t e aside = record {
    rule = then_rule L M K J p p' q q' f (λ _. c) (λ _. g) f (λ _. d) s.rule (λ x. (t x).rule)
        (λ x. apart_by g c e) (λ x. s.aside) (λ x y w. absurd ((t x).full.none y w)) (λ k h. h)
        (λ x w. absurd (s.full.none x w));
    full = then_full L K s.full;
    eats = then_eats L K p q f (λ _. c) (λ _. g) (λ _. d) s.rule.reads (λ x. (t x).rule.reads) s.full s.eats;
    aside = aside;
  }

  -- a part, and after it what may not be empty
  pub part_rule : {A B : Type 0} {L M : Lang Tok A} {p p' : Reader Tok A} {f c : List ℕ} (g : List ℕ)
      (N : B → List ℕ) (K J : A → Lang Tok B) (q q' : A → Reader Tok B) → Solid L M p p' f c
      → ((x : A) → Rule (K x) (J x) (q x) (q' x) g N) → ((x : A) → Filled (K x)) → disjoint g c ≡ true
      → Rule (L >=> K) (M >=> J) (then_r p q) (then_r p' q') f N
  part_rule {L = L} {M = M} {p = p} {p' = p'} {f = f} {c = c} g N K J q q' s t full e =
      then_rule L M K J p p' q q' f (λ _. c) (λ _. g) f N s.rule t (λ x. apart_by g c e) (λ x. s.aside)
      (λ x y w. absurd ((full x).none y w)) (λ k h. h) (λ x w. absurd (s.full.none x w))

  -- a part alone, and what is made of it
  pub solid_ret : {A B : Type 0} {L M : Lang Tok A} {p p' : Reader Tok A} {f c : List ℕ} (g : A → B)
      → Solid L M p p' f c → Solid (L >=> λ x. ret (g x)) (M >=> λ x. ret (g x)) (then_r p (λ x. ret_r (g x)))
      (then_r p' (λ x. ret_r (g x))) f c
  solid_ret {L = L} {M = M} {p = p} {p' = p'} {f = f} {c = c} g s = record {
    rule = then_rule L M (λ x. ret (g x)) (λ x. ret (g x)) p p' (λ x. ret_r (g x)) (λ x. ret_r (g x)) f (λ _. c)
        (λ _. []) f (λ _. c) s.rule (λ x. ret_rule (g x) [] (λ _. c)) (λ x k h m. cc) (λ x. s.aside)
        (λ x y w k h. h) (λ k h. h) (λ x w. absurd (s.full.none x w));
    full = then_full L (λ x. ret (g x)) s.full;
    eats = then_eats L (λ x. ret (g x)) p (λ x. ret_r (g x)) f (λ _. c) (λ _. []) (λ _. c) s.rule.reads
        (λ x. ret_reads kind (g x) [] (λ _. c)) s.full s.eats;
    aside = s.aside;
  }

  -- a part, and rounds after it
  pub solid_rounds : {A B : Type 0} {L M : Lang Tok A} {p p' : Reader Tok A} {f c : List ℕ} (ks d e : List ℕ)
      (start : A → B) (round round' : B → Lang Tok B) (q q' : B → Reader Tok B) → Solid L M p p' f c
      → ((b : B) → Solid (round b) (round' b) (q b) (q' b) ks d) →
      Apart ks c → Apart ks d → Sub ks e → Sub c e → Sub d e → among probe d ≡ false → among probe e ≡ false →
      Solid (L >=> λ a. rounds round (start a)) (M >=> λ a. rounds round' (start a))
      (then_r p (λ a. rounds_r kind ks q (start a))) (then_r p' (λ a. rounds_r kind ks q' (start a))) f e
  solid_rounds {L = L} {M = M} {p = p} {p' = p'} {f = f} {c = c} ks d e start round round' q q' s t a1 a2 s1 s2
      s3 z1 z2 = record {
        rule = then_rule L M (λ a. rounds round (start a)) (λ a. rounds round' (start a)) p p'
            (λ a. rounds_r kind ks q (start a)) (λ a. rounds_r kind ks q' (start a)) f (λ _. c) (λ _. ks) f (λ _. e)
            s.rule more
            (λ a. a1) (λ a. s.aside) (λ a y w. s2) (λ k h. h) (λ a w. absurd (s.full.none a w));
        full = then_full L (λ a. rounds round (start a)) s.full;
        eats = then_eats L (λ a. rounds round (start a)) p (λ a. rounds_r kind ks q (start a)) f (λ _. c) (λ _. ks)
            (λ _. e) s.rule.reads (λ a. (more a).reads) s.full s.eats;
        aside = z2;
      }
    where
      more : (a : _) → Rule (rounds round (start a)) (rounds round' (start a)) (rounds_r kind ks q (start a))
          (rounds_r kind ks q' (start a)) ks (λ _. e)
      more a = rounds_rule round round' q q' ks ks d (λ _. e) (λ b. (t b).rule) (λ k h. h) a2 (λ b. (t b).full)
          z1 (inr (λ b. (t b).eats)) (λ _. s1) (λ _. s3) (start a)

  same : (k : ℕ) → (k == k) ≡ true
  same k = grind arith

  pub probe_aside : (f g : List ℕ) → disjoint f (probe ∷ g) ≡ true → among probe f ≡ false
  probe_aside f g e = not_among probe f (λ h.
      apart_by f (probe ∷ g) e probe h (or_left (probe == probe) (among probe g) (same probe)))

  pub apart_aside : (f g : List ℕ) → disjoint f (probe ∷ g) ≡ true → Apart f g
  apart_aside f g e k h m = apart_by f (probe ∷ g) e k h (or_right (k == probe) (among k g) m)

  -- one or the other: what begins the first begins neither the second nor an operand
  pub solid_or : {T : Type 0} {L L' M M' : Lang Tok T} {p p' q q' : Reader Tok T} {f g c : List ℕ}
      → Solid L L' p p' f c → Solid M M' q q' g c → disjoint f (probe ∷ g) ≡ true
      → Solid (L ∣ M) (L' ∣ M') (or_r kind f p q) (or_r kind f p' q') (f ++ g) c
  solid_or {L = L} {L' = L'} {M = M} {M' = M'} {p = p} {p' = p'} {q = q} {q' = q'} {f = f} {g = g} {c = c} s t
      e = record {
        rule = or_rule L L' M M' p p' q q' f g (f ++ g) (λ _. c) s.rule t.rule (apart_aside f g e)
            (probe_aside f g e) s.full s.eats (λ x w. absurd (t.full.none x w)) (sub_left f g) (sub_right f g);
        full = or_full L M s.full t.full;
        eats = or_eats p q f g s.eats t.eats;
        aside = s.aside;
      }

  -- an alternative, or what may be empty
  pub or_more : {T : Type 0} {L L' M M' : Lang Tok T} {p p' q q' : Reader Tok T} {f g c : List ℕ}
      → Solid L L' p p' f c → Rule M M' q q' g (λ _. c) → disjoint f (probe ∷ g) ≡ true → subset f c ≡ true
      → Rule (L ∣ M) (L' ∣ M') (or_r kind f p q) (or_r kind f p' q') (f ++ g) (λ _. c)
  or_more {L = L} {L' = L'} {M = M} {M' = M'} {p = p} {p' = p'} {q = q} {q' = q'} {f = f} {g = g} {c = c} s t e1 e2 =
      or_rule L L' M M' p p' q q' f g (f ++ g) (λ _. c) s.rule t (apart_aside f g e1) (probe_aside f g e1)
      s.full s.eats (λ x w. sub_by f c e2) (sub_left f g) (sub_right f g)

  -- what may not be begun by these tokens, where it may within wider limits
  pub solid_deep : {T : Type 0} (M : Lang Tok T) (q : Reader Tok T) (why : Why) (ks c : List ℕ)
      → Suits kind probe why ks → among probe c ≡ false → M.opens [] →
      ((ts : List Tok) → begins kind ks ts ≡ false → q ts ≡ Err (why, ts))
      → ((t : Tok) → among (kind t) ks ≡ true → M.opens (t ∷ [])) →
      Solid never M (deep_r kind why ks) q ks c
  solid_deep M q why ks c suits aside empty misses covers =
      record {
        rule = deep_rule M q why ks ks (λ _. c) suits empty misses covers;
        full = never_full;
        eats =
            deep_eats why ks;
        aside = aside;
      }

  pub sign_misses : {B : Type 0} (why : Why) (ks : List ℕ) (q : Tok → Reader Tok B) (ts : List Tok)
      → begins kind ks ts ≡ false → then_r (one_r kind why ks) q ts ≡ Err (why, ts)
  sign_misses why ks q [] e = refl
  sign_misses why ks q (t ∷ ts) e = ap (λ o. o >>= λ x. q x.0 x.1)
      (cond_false (among (kind t) ks) (Ok (t, ts)) (Err (why, t ∷ ts)) e)

  -- a construct that a sign begins, where it may be begun within wider limits alone
  pub solid_shut : {B : Type 0} (ks c : List ℕ) (J : Tok → Lang Tok B) (q : Tok → Reader Tok B)
      → among probe ks ≡ false → among probe c ≡ false →
      Solid never (one_of kind ks >=> J) (deep_r kind Unexpected ks) (then_r (one_r kind Unexpected ks) q) ks c
  solid_shut ks c J q suits aside = solid_deep (one_of kind ks >=> J) (then_r (one_r kind Unexpected ks) q)
      Unexpected ks c suits aside (inl (inl refl)) (sign_misses Unexpected ks q) (λ t m. inl (inr (t, refl, m)))
