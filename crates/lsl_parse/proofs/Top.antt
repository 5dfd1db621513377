-- The whole text, and its first fault.
use Rattle.std.proofs.Common.{◌≡◌, ℕ, zero, suc, ◌+◌, ◌<◌, ◌≤◌, ◌==◌, pos, Bool, true, false, cond, ◌||◌, Option, None, Some, List, [], ◌∷◌, ◌++◌, length, take, drop, Ok, Err, inl, inr, ⊎_elim, refl, sym, ap, ◌∙◌, subst, arith, append_assoc, length-append, append-nil}
use Rattle.std.specs.Prelude.{slice_get}
use Rattle.std.proofs.lemmas.List.{append_cancel_right, take-append-drop, take-append-le}
use Rattle.std.proofs.lemmas.Bool.{eqb-true}
use Rattle.lsl_text.specs.declared.Span.{Span}
use Rattle.lsl_lex.specs.Kinds.{kind_of}
use Rattle.lsl_lex.specs.declared.token_types.Sort.TheVariants as sort
use Rattle.lsl_lex.specs.declared.token_types.Token.{Token}
use Rattle.lsl_tree.specs.Scripts.{Tree}
use Rattle.lsl_grammar.specs.declared.Why.{Why}
use Rattle.lsl_grammar.specs.declared.Why.TheVariants as why
use Rattle.lsl_grammar.specs.Language.{among}
use Rattle.lsl_grammar.specs.Reading.{Read}
use Rattle.lsl_grammar.proofs.ReadsLanguage.{Past}
use Rattle.lsl_grammar.proofs.Widening.{Sinks}
use Rattle.lsl_grammar.proofs.Hints.{Hint}
use Rattle.lsl_grammar.proofs.Rule.{Rule, no_ends, or_cases}
use Rattle.lsl_signs.specs.Limits.{most_constructs, height_limit, most_tokens}
use Rattle.lsl_lex.specs.declared.token_types.Sort.{Sort}
use Rattle.lsl_parse.specs.declared.fault.ParseKind.{ParseKind}
use Rattle.lsl_parse.specs.declared.fault.ParseKind.TheVariants.{Unexpected, FloatType, TooLarge}
use Rattle.lsl_signs.specs.Kinds.{codes, token_code}
use Rattle.lsl_read.specs.ScriptGrammar.{script}
use Rattle.lsl_read.specs.ScriptReading.{header_heads, script_r}
use Rattle.lsl_parse.specs.Faults.{Derives, Shallow, Open, WantsOperand, refused_words, IsFloatType, IsFloatTypeAt, Breaks, ParseFirst, span_at}
use Rattle.lsl_parse.specs.FaultReading.{fault_kind}
use Rattle.lsl_read.proofs.ExpressionRules.{probe}
use Rattle.lsl_read.proofs.ScriptRules.{script_is_read}

-- Lists

take_all : (u rest : List Token) → take (length u) (u ++ rest) ≡ u
take_all [] rest = refl
take_all (t ∷ u) rest = ap (λ l. t ∷ l) (take_all u rest)

take_one : (u rest : List Token) (t : Token) → take (length u + 1) (u ++ t ∷ rest) ≡ u ++ t ∷ []
take_one u rest t =
    let n : length u + 1 ≡ length (u ++ t ∷ []) = omega (arith, length-append u (t ∷ [])) in
    ap (λ m. take m (u ++ t ∷ rest)) n ∙ ap (take (length (u ++ t ∷ []))) (sym (append_assoc u (t ∷ []) rest))
    ∙ take_all (u ++ t ∷ []) rest

length_take : (n : ℕ) (ts : List Token) → length (take n ts) ≤ n
length_take zero ts = omega arith
length_take (suc n) [] = omega arith
length_take (suc n) (t ∷ ts) = let h = length_take n ts in omega arith

pub length_take_all : (n : ℕ) (ts : List Token) → n ≤ length ts → length (take n ts) ≡ n
length_take_all zero ts le = refl
length_take_all (suc n) [] le = absurd (omega arith)
length_take_all (suc n) (t ∷ ts) le = let h = length_take_all n ts (omega arith) in omega arith

pub take_length : (ts : List Token) → take (length ts) ts ≡ ts
take_length [] = refl
take_length (t ∷ ts) = ap (λ l. t ∷ l) (take_length ts)

get_at : (u rest : List Token) (t : Token) → slice_get (u ++ t ∷ rest) (length u) ≡ Some t
get_at [] rest t = refl
get_at (s ∷ u) rest t = get_at u rest t

one_some : (s t : Token) → ◌≡◌ {A = Option Token} (Some s) (Some t) → s ≡ t
one_some s t e = cc

pub span-at : (u rest : List Token) (end : Span) → span_at (u ++ rest) end (length u) ≡ span_at rest end 0
span-at [] rest end = refl
span-at (t ∷ u) rest end = span-at u rest end

place_below : (u rest : List Token) (t : Token) → length u < length (u ++ t ∷ rest)
place_below u rest t = omega (arith, length-append u (t ∷ rest))

-- Wider limits

abbrev pub Narrow : Option ℕ
Narrow = Some height_limit

abbrev pub Reading : Type 0
Reading = Read Token Tree

pub wide_rule : (limit : Option ℕ) (d D : ℕ) → suc d < D
    → Rule token_code probe (script limit d) (script None D) (script_r limit d) (script_r None D)
    (codes header_heads ++ codes (sort.DefaultWord ∷ [])) (λ _. codes (sort.StateWord ∷ []))
wide_rule limit d D lt = script_is_read limit d D lt

-- each prefix of what begins a script begins one
pub front : (n : ℕ) (u : List Token) → Shallow u → Shallow (take n u)
front n u o = (wide_rule Narrow most_constructs (most_constructs + 2) (omega arith)).fronts.closed (take n u)
    (drop n u) (subst Shallow (sym (take-append-drop n u)) o)

front_of : (n : ℕ) (u rest : List Token) → n ≤ length u → Shallow u → Shallow (take n (u ++ rest))
front_of n u rest le o = subst Shallow (sym (take-append-le n u rest le)) (front n u o)

pub shallow_open : (u : List Token) → Shallow u → Open u
shallow_open u o = (
  most_constructs + 2,
  (wide_rule Narrow most_constructs (most_constructs + 2)
      (omega arith)).mono.opens u o,
)

wider_opens : (e D : ℕ) (u : List Token) → suc e < D → (script None e).opens u → (script None D).opens u
wider_opens e D u lt o = (wide_rule None e D lt).mono.opens u o

-- what didn't stop for a limit is read that way within wider ones
pub wide_same : (ts : List Token) (o : Reading) → script_r Narrow most_constructs ts ≡ o → (Sinks o → ⊥)
    → (D : ℕ) → suc most_constructs < D → script_r None D ts ≡ o
wide_same ts o e h D lt = ⊎_elim (λ s. s ∙ e) (λ s. absurd (h (subst Sinks e s)))
    ((wide_rule Narrow most_constructs D lt).refines.agrees ts)

-- where reading stopped before a token, the tokens with it begin no script, however deep
pub not_open : (ts u rest : List Token) (t : Token) (o : Reading) → ts ≡ u ++ t ∷ rest
    → ((D : ℕ) → suc most_constructs < D → script_r None D ts ≡ o) → (Past rest o → ⊥) → Open (u ++ t ∷ []) → ⊥
not_open ts u rest t o s more h (e, w) =
    let D = e + most_constructs + 2 in
    let all : (u ++ t ∷ []) ++ rest ≡ ts = append_assoc u (t ∷ []) rest ∙ sym s in
    let past : Past rest (script_r None D ((u ++ t ∷ []) ++ rest)) =
    (wide_rule None D (D + 2) (omega arith)).reads.past (u ++ t ∷ []) rest
    (wider_opens e D (u ++ t ∷ []) (omega arith) w) in
    h (subst (Past rest) (ap (script_r None D) all ∙ more D (omega arith)) past)

-- nor within the limits, where it stopped for one
not_shallow : (ts u rest : List Token) (t : Token) (o : Reading) → ts ≡ u ++ t ∷ rest
    → script_r Narrow most_constructs ts ≡ o → (Past rest o → ⊥) → Shallow (u ++ t ∷ []) → ⊥
not_shallow ts u rest t o s e h w =
    let all : (u ++ t ∷ []) ++ rest ≡ ts = append_assoc u (t ∷ []) rest ∙ sym s in
    h (subst (Past rest) (ap (script_r Narrow most_constructs) all ∙ e)
    ((wide_rule Narrow most_constructs (most_constructs + 2) (omega arith)).reads.past (u ++ t ∷ []) rest
    w))

-- what an operand's token would do in place of the one at which reading stopped
no_operand : (u : List Token) → ((D : ℕ) → suc most_constructs < D → (i : Token) → token_code i ≡ probe
    → Past [] (script_r None D (u ++ i ∷ [])) → ⊥) → WantsOperand u → ⊥
no_operand u h w =
    let e = w.goes_on.0 in
    let D = e + most_constructs + 2 in
    let i = w.operand in
    let past : Past [] (script_r None D ((u ++ i ∷ []) ++ [])) =
    (wide_rule None D (D + 2) (omega arith)).reads.past (u ++ i ∷ []) []
    (wider_opens e D (u ++ i ∷ []) (omega arith) w.goes_on.1) in
    h D (omega arith) i (ap kind_of w.integer)
    (subst (λ l. Past [] (script_r None D l)) (append-nil (u ++ i ∷ [])) past)

-- a stop at a foreign token
foreign : (ts u m : List Token) (t : Token) → ts ≡ u ++ t ∷ m
    → script_r Narrow most_constructs ts ≡ Err (why.Unexpected, t ∷ m) → WantsOperand u → ⊥
foreign ts u m t s e = no_operand u (λ D lt i k past.
    let f : script_r None D ts ≡ Err (why.Unexpected, t ∷ m) =
    wide_same ts (Err (why.Unexpected, t ∷ m)) e (λ z. let y : ◌≡◌ {A = Why} why.Unexpected why.TooDeep =
    z in cc) D lt in
    let (v, s', h) = (wide_rule None D (D + 2) (omega arith)).tells.tell ts (t ∷ m) why.Unexpected f in
    let same : v ≡ u = append_cancel_right v u (t ∷ m) (sym s' ∙ s) in
    no_ends token_code probe i [] (subst (Past [])
    (ap (λ l. script_r None D (l ++ i ∷ [])) (sym same) ∙ h i [] k) past))

-- a token after a whole script
pub foreign_behind : (ts u m : List Token) (t : Token) (x : Tree) → ts ≡ u ++ t ∷ m
    → (script Narrow most_constructs).whole u x → WantsOperand u → ⊥
foreign_behind ts u m t x s w = no_operand u (λ D lt i k past.
    let whole : (script None D).whole u x = (wide_rule Narrow most_constructs D lt).mono.whole u x w in
    let stop : among (token_code i) (codes (sort.StateWord ∷ [])) ≡ false =
    ap (λ n. among n (codes (sort.StateWord ∷ []))) k in
    let read : script_r None D (u ++ i ∷ []) ≡ Ok (x, i ∷ []) =
    (wide_rule None D (D + 2) (omega arith)).reads.complete u (i ∷ []) x whole stop in
    no_ends token_code probe i [] (subst (Past []) read past))

-- The fault of a stop

pub first_at : (ts u rest : List Token) (k : ParseKind) → ts ≡ u ++ rest → Shallow u → length u ≤ most_tokens
    → Breaks ts (length u) k → ParseFirst ts (length u) k
first_at ts u rest k s o le b = record {
  before = λ n h. record {
    shallow = subst (λ l. Shallow (take n l)) (sym s) (front_of n u rest h o);
    counted = let c = length_take n ts in omega arith;
  };
  here = b;
}

-- more tokens than there may be
pub too_many : (ts u rest : List Token) → ts ≡ u ++ rest → Shallow u → most_tokens < length u
    → ParseFirst ts most_tokens TooLarge
too_many ts u rest s o lt = record {
  before = λ n h. record {
    shallow = subst (λ l. Shallow (take n l)) (sym s) (front_of n u rest (omega arith) o);
    counted = let c = length_take n ts in omega arith;
  };
  here = (
    omega (arith, ap length s, length-append u rest),
    subst (λ l. Shallow (take (most_tokens + 1) l))
        (sym s) (front_of (most_tokens + 1) u rest (omega arith) o),
    omega arith,
  );
}

among_more : (k x : ℕ) (xs : List ℕ) → among k (x ∷ xs) ≡ true → (among k xs ≡ true → ⊥) → k ≡ x
among_more k x xs h never = ⊎_elim (λ e. eqb-true k x e) (λ m. absurd (never m)) (or_cases (k == x) (among k xs) h)

is_less : (k : Sort) → kind_of k ≡ kind_of sort.Less → k ≡ sort.Less
is_less sort.Less e = refl
is_less (sort.Name t) e = absurd (cc)
is_less _ e = absurd (omega (arith, e))

-- a token that can't continue, where an operand can't begin either
module _ (ts u m : List Token) (t : Token) (s : ts ≡ u ++ t ∷ m) (closed : Open (u ++ t ∷ []) → ⊥) where
  below : length u < length ts
  below = omega (arith, ap length s, place_below u m t)

  not_open_at : Open (take (length u + 1) ts) → ⊥
  not_open_at o = closed (subst Open (ap (take (length u + 1)) s ∙ take_one u m t) o)

  before_it : take (length u) ts ≡ u
  before_it = ap (take (length u)) s ∙ take_all u (t ∷ m)

  there : slice_get ts (length u) ≡ Some t
  there = ap (λ l. slice_get l (length u)) s ∙ get_at u m t

  float_type : IsFloatType u t → IsFloatTypeAt ts (length u)
  float_type f = record { token = t; there = there; refused = subst (λ l. IsFloatType l t) (sym before_it) f }

  no_float_type : (IsFloatType u t → ⊥) → IsFloatTypeAt ts (length u) → ⊥
  no_float_type never f =
      let same : f.token ≡ t = one_some f.token t (sym f.there ∙ there) in
      never (subst (λ z. IsFloatType u z) same (subst (λ l. IsFloatType l f.token) before_it f.refused))

  pub foreign_breaks : (WantsOperand u → ⊥) → Breaks ts (length u) (fault_kind why.Unexpected (t ∷ m))
  foreign_breaks never = go (among (token_code t) (codes refused_words)) refl
    where
      go : (b : Bool) → among (token_code t) (codes refused_words) ≡ b
          → Breaks ts (length u) (cond b FloatType Unexpected)
      go true e = (below, not_open_at, float_type (inl e))
      go false e = (
        below,
        not_open_at,
        no_float_type
            (λ f. ⊎_elim (λ h. let both = sym h ∙ e in cc) (λ (k, w). never w) f),
      )

  due_breaks : WantsOperand u → Breaks ts (length u) (fault_kind why.OperandDue (t ∷ m))
  due_breaks w = go (among (token_code t) (codes (sort.Less ∷ refused_words))) refl
    where
      less_or : among (token_code t) (codes (sort.Less ∷ refused_words)) ≡ true → IsFloatType u t
      less_or h = by (among (token_code t) (codes refused_words)) refl
        where
          by : (b : Bool) → among (token_code t) (codes refused_words) ≡ b → IsFloatType u t
          by true e = inl e
          by false e = inr (
            is_less t.sort
                (among_more (token_code t) (kind_of sort.Less) (codes refused_words) h (λ z. let both =
                sym z ∙ e in cc)),
            w,
          )

      in_them : IsFloatType u t → among (token_code t) (codes (sort.Less ∷ refused_words)) ≡ true
      in_them (inl h) = either (token_code t == kind_of sort.Less) h
        where
          either : (b : Bool) → among (token_code t) (codes refused_words) ≡ true
              → (b || among (token_code t) (codes refused_words)) ≡ true
          either true h = refl
          either false h = h
      in_them (inr (k, _)) = ap (λ z. among (kind_of z) (codes (sort.Less ∷ refused_words))) k

      go : (b : Bool) → among (token_code t) (codes (sort.Less ∷ refused_words)) ≡ b
          → Breaks ts (length u) (cond b FloatType Unexpected)
      go true e = (below, not_open_at, float_type (less_or e))
      go false e = (below, not_open_at, no_float_type (λ f. let both = sym (in_them f) ∙ e in cc))

-- the first fault of these tokens, by where reading stopped
pub record Stopped (ts : List Token) (e : Why × List Token) : Type 0 where
  pub front : List Token
  pub there : ts ≡ front ++ e.1
  pub opens : Shallow front
  pub breaks : Breaks ts (length front) (fault_kind e.0 e.1)

module _ (ts : List Token) where
  pub stop_of : (w : Why) (rest : List Token) → script_r Narrow most_constructs ts ≡ Err (w, rest)
      → Stopped ts (w, rest)
  stop_of w rest e =
      let r = wide_rule Narrow most_constructs (most_constructs + 2) (omega arith) in
      let (u, s, h) = r.tells.tell ts rest w e in
      let (v, s', o) = r.reads.fault ts rest w e in
      let same : v ≡ u = append_cancel_right v u rest (sym s' ∙ s) in
      record { front = u; there = s; opens = subst Shallow same o; breaks = by w rest e u s h }
    where
      no_tree : (u : List Token) (w : Why) → script_r Narrow most_constructs ts ≡ Err (w, []) → (tree : Tree)
          → Derives ts tree → ⊥
      no_tree u w e tree d = let g : script_r Narrow most_constructs ts ≡ Ok (tree, []) =
          ap (script_r Narrow most_constructs) (sym (append-nil ts))
          ∙ (wide_rule Narrow most_constructs (most_constructs + 2) (omega arith)).reads.complete ts [] tree
          d.derived refl in let both = sym e ∙ g in cc

      at_end : (u : List Token) → ts ≡ u ++ [] → length u ≡ length ts
      at_end u s = ap length (sym (append-nil u) ∙ sym s)

      closed_at : (w : Why) (t : Token) (m u : List Token) → script_r Narrow most_constructs ts ≡ Err (w, t ∷ m)
          → ts ≡ u ++ t ∷ m → (w ≡ why.TooDeep → ⊥) → Open (u ++ t ∷ []) → ⊥
      closed_at w t m u e s other = not_open ts u m t (Err (w, t ∷ m)) s (wide_same ts (Err (w, t ∷ m)) e other)
          (no_ends token_code probe t m)

      the_int : Token → Token
      the_int t = record { sort = sort.Int (pos 0); span = t.span }

      by : (w : Why) (rest : List Token) → script_r Narrow most_constructs ts ≡ Err (w, rest) → (u : List Token)
          → ts ≡ u ++ rest → Hint token_code probe (script None (most_constructs + 2))
          (script_r Narrow most_constructs) w u rest → Breaks ts (length u) (fault_kind w rest)
      by w [] e u s h = (at_end u s, no_tree u w e)
      by why.TooDeep (t ∷ m) e u s h = (
        omega
            (arith, ap length s, place_below u m t),
        (
          most_constructs + 2,
          subst
              ((script None (most_constructs + 2)).opens) (sym (ap (take (length u + 1)) s ∙ take_one u m t))
              h,
        ),
        λ o. not_shallow ts u m t (Err (why.TooDeep, t ∷ m)) s e (no_ends token_code probe t m)
            (subst Shallow (ap (take (length u + 1)) s ∙ take_one u m t) o),
      )
      by why.Unexpected (t ∷ m) e u s h =
          foreign_breaks ts u m t s (closed_at why.Unexpected t m u e s (λ z. cc)) (foreign ts u m t s e)
      by why.OperandDue (t ∷ m) e u s h =
          due_breaks ts u m t s (closed_at why.OperandDue t m u e s (λ z. cc))
          (record {
            operand = the_int t;
            value = pos 0;
            integer = refl;
            goes_on =
                (most_constructs + 2, h (the_int t) refl);
          })
