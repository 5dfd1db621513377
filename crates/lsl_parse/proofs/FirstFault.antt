-- The reader of whole texts: what it reads is their tree, and where it stops is their first fault; there are no others.
use Rattle.std.proofs.Common.{◌≡◌, ℕ, ◌+◌, ◌<◌, ◌≤◌, List, [], ◌∷◌, length, take, Ok, Err, ⊎_elim, refl, sym, ap, ◌∙◌, subst, arith, length-append, append-nil}
use Rattle.std.proofs.lemmas.Bool.{cases_lt}
use Rattle.lsl_text.specs.declared.Span.{Span}
use Rattle.lsl_lex.specs.declared.token_types.Token.{Token}
use Rattle.lsl_tree.specs.Scripts.{Tree}
use Rattle.lsl_grammar.specs.declared.Why.{Why}
use Rattle.lsl_grammar.specs.declared.Why.TheVariants as why
use Rattle.lsl_grammar.specs.Reading.{◌>>=◌}
use Rattle.lsl_grammar.proofs.ReadsLanguage.{ok_parts, err_parts}
use Rattle.lsl_grammar.proofs.Rule.{no_ends}
use Rattle.lsl_signs.specs.Limits.{most_constructs, most_tokens}
use Rattle.lsl_parse.specs.declared.fault.ParseKind.{ParseKind}
use Rattle.lsl_parse.specs.declared.fault.ParseKind.TheVariants.{Unexpected, EndOfText, FloatType, TooDeep, TooLarge}
use Rattle.lsl_signs.specs.Kinds.{token_code}
use Rattle.lsl_read.specs.ScriptGrammar.{script}
use Rattle.lsl_read.specs.ScriptReading.{script_r, end_r, all_r}
use Rattle.lsl_parse.specs.Faults.{Derives, Shallow, Within, Breaks, ParseFirst, span_at}
use Rattle.lsl_parse.specs.FaultReading.{fault_kind}
use Rattle.lsl_read.proofs.ExpressionRules.{probe}
use Rattle.lsl_parse.proofs.Top.{Narrow, Reading, wide_rule, wide_same, not_open, foreign_behind, foreign_breaks, front, first_at, too_many, Stopped, stop_of, shallow_open, span-at, length_take_all}

narrow : (u : List Token) (x : Tree) → (script Narrow most_constructs).whole u x → Shallow u
narrow u x w = (wide_rule Narrow most_constructs (most_constructs + 2) (omega arith)).reads.within u x w

pub found : (ts rest : List Token) (x : Tree) → all_r Narrow most_constructs ts ≡ Ok (x, rest)
    → (script Narrow most_constructs).whole ts x
unfolding all_r
found ts rest x e = go (script_r Narrow most_constructs ts) refl e
  where
    go : (o : Reading) → script_r Narrow most_constructs ts ≡ o → (o >>= λ y. end_r y.0 y.1) ≡ Ok (x, rest)
        → (script Narrow most_constructs).whole ts x
    go (Ok (y, [])) f e =
        let (u, s, w) = (wide_rule Narrow most_constructs (most_constructs + 2) (omega arith)).reads.sound ts [] y f in
        let same : y ≡ x = ap (λ (z : Tree × List Token). z.0) (ok_parts (y, []) (x, rest) e) in
        subst (λ z. (script Narrow most_constructs).whole ts z) same
        (subst (λ l. (script Narrow most_constructs).whole l y) (sym (s ∙ append-nil u)) w)
    go (Ok (y, t ∷ m)) f e = absurd (cc)
    go (Err y) f e = absurd (cc)

-- where the reader of whole texts ends, nothing is left
pub nothing_behind : (ts : List Token) (x : Tree) (t : Token) (m : List Token)
    → all_r Narrow most_constructs ts ≡ Ok (x, t ∷ m) → ⊥
unfolding all_r
nothing_behind ts x t m e = go (script_r Narrow most_constructs ts) e
  where
    go : (o : Reading) → (o >>= λ y. end_r y.0 y.1) ≡ Ok (x, t ∷ m) → ⊥
    go (Ok (y, [])) e =
        let rest : ◌≡◌ {A = List Token} [] (t ∷ m) =
        ap (λ (z : Tree × List Token). z.1) (ok_parts (y, []) (x, t ∷ m) e) in
        cc
    go (Ok (y, s ∷ l)) e = cc
    go (Err y) e = cc

pub every : (ts : List Token) (x : Tree) → Derives ts x → all_r Narrow most_constructs ts ≡ Ok (x, [])
unfolding all_r
every ts x d =
    let read : script_r Narrow most_constructs ts ≡ Ok (x, []) =
    ap (script_r Narrow most_constructs) (sym (append-nil ts))
    ∙ (wide_rule Narrow most_constructs (most_constructs + 2) (omega arith)).reads.complete ts [] x
    d.derived refl in
    ap (λ o. o >>= λ y. end_r y.0 y.1) read

-- tokens after a whole script
behind : (ts : List Token) (y : Tree) (t : Token) (m : List Token)
    → script_r Narrow most_constructs ts ≡ Ok (y, t ∷ m) → Stopped ts (why.Unexpected, t ∷ m)
behind ts y t m f =
    let (u, s, w) = (wide_rule Narrow most_constructs (most_constructs + 2) (omega arith)).reads.sound ts (t ∷ m) y f in
    record {
      front = u;
      there = s;
      opens = narrow u y w;
      breaks = foreign_breaks ts u m t s (not_open ts u m t (Ok (y, t ∷ m)) s
          (wide_same ts (Ok (y, t ∷ m)) f (λ z. z)) (no_ends token_code probe t m))
          (foreign_behind ts u m t y s w);
    }

pub stopped : (ts rest : List Token) (w : Why) → all_r Narrow most_constructs ts ≡ Err (w, rest) → Stopped ts (w, rest)
unfolding all_r
stopped ts rest w e = go (script_r Narrow most_constructs ts) refl e
  where
    go : (o : Reading) → script_r Narrow most_constructs ts ≡ o → (o >>= λ y. end_r y.0 y.1) ≡ Err (w, rest)
        → Stopped ts (w, rest)
    go (Ok (y, [])) f e = absurd (cc)
    go (Ok (y, t ∷ m)) f e = subst (Stopped ts) (err_parts {T = Tree} (why.Unexpected, t ∷ m) (w, rest) e)
        (behind ts y t m f)
    go (Err x) f e =
        let same : x ≡ (w, rest) = err_parts {T = Tree} x (w, rest) e in
        stop_of ts w rest (f ∙ ap (λ z. Err z) same)

-- A script has no fault, and other tokens have one

not_after : (p : ℕ) (ts : List Token) (k : ParseKind) → Breaks ts p k → p < length ts → Within (take (p + 1) ts) → ⊥
not_after p ts EndOfText b lt w = omega (arith, b.0)
not_after p ts Unexpected b lt w = b.1 (shallow_open (take (p + 1) ts) w.shallow)
not_after p ts FloatType b lt w = b.1 (shallow_open (take (p + 1) ts) w.shallow)
not_after p ts TooDeep b lt w = b.2 w.shallow
not_after p ts TooLarge b lt w = omega (arith, b.2, w.counted, length_take_all (p + 1) ts (omega arith))

at_most : (p : ℕ) (ts : List Token) (k : ParseKind) → Breaks ts p k → p ≤ length ts
at_most p ts EndOfText b = omega (arith, b.0)
at_most p ts Unexpected b = omega (arith, b.0)
at_most p ts FloatType b = omega (arith, b.0)
at_most p ts TooDeep b = omega (arith, b.0)
at_most p ts TooLarge b = omega (arith, b.0)

not_before : (p q : ℕ) (ts : List Token) (k l : ParseKind) → ParseFirst ts p k → ParseFirst ts q l → p < q → ⊥
not_before p q ts k l f g lt =
    let m = at_most q ts l g.here in
    not_after p ts k f.here (omega arith) (g.before (p + 1) (omega arith))

same_kind : (p : ℕ) (ts : List Token) (k l : ParseKind) → Breaks ts p k → Breaks ts p l → k ≡ l
same_kind p ts EndOfText EndOfText b c = refl
same_kind p ts EndOfText Unexpected b c = absurd (omega (arith, b.0, c.0))
same_kind p ts EndOfText FloatType b c = absurd (omega (arith, b.0, c.0))
same_kind p ts EndOfText TooDeep b c = absurd (omega (arith, b.0, c.0))
same_kind p ts EndOfText TooLarge b c = absurd (omega (arith, b.0, c.0))
same_kind p ts Unexpected EndOfText b c = absurd (omega (arith, b.0, c.0))
same_kind p ts Unexpected Unexpected b c = refl
same_kind p ts Unexpected FloatType b c = absurd (b.2 c.2)
same_kind p ts Unexpected TooDeep b c = absurd (b.1 c.1)
same_kind p ts Unexpected TooLarge b c = absurd (b.1 (shallow_open (take (p + 1) ts) c.1))
same_kind p ts FloatType EndOfText b c = absurd (omega (arith, b.0, c.0))
same_kind p ts FloatType Unexpected b c = absurd (c.2 b.2)
same_kind p ts FloatType FloatType b c = refl
same_kind p ts FloatType TooDeep b c = absurd (b.1 c.1)
same_kind p ts FloatType TooLarge b c = absurd (b.1 (shallow_open (take (p + 1) ts) c.1))
same_kind p ts TooDeep EndOfText b c = absurd (omega (arith, b.0, c.0))
same_kind p ts TooDeep Unexpected b c = absurd (c.1 b.1)
same_kind p ts TooDeep FloatType b c = absurd (c.1 b.1)
same_kind p ts TooDeep TooDeep b c = refl
same_kind p ts TooDeep TooLarge b c = absurd (b.2 c.1)
same_kind p ts TooLarge EndOfText b c = absurd (omega (arith, b.0, c.0))
same_kind p ts TooLarge Unexpected b c = absurd (c.1 (shallow_open (take (p + 1) ts) b.1))
same_kind p ts TooLarge FloatType b c = absurd (c.1 (shallow_open (take (p + 1) ts) b.1))
same_kind p ts TooLarge TooDeep b c = absurd (c.2 b.1)
same_kind p ts TooLarge TooLarge b c = refl

pub one_first : (p q : ℕ) (ts : List Token) (k l : ParseKind) → ParseFirst ts p k → ParseFirst ts q l → (p ≡ q)
    × (k ≡ l)
one_first p q ts k l f g =
    ⊎_elim
    (λ lt. absurd (not_before p q ts k l f g lt))
    (λ le. ⊎_elim (λ lt. absurd (not_before q p ts l k g f lt)) (λ ge. same (omega arith)) (cases_lt q p))
    (cases_lt p q)
  where
    same : p ≡ q → (p ≡ q) × (k ≡ l)
    same e = (e, same_kind q ts k l (subst (λ n. Breaks ts n k) e f.here) g.here)

-- and a script has none
pub no_first : (p : ℕ) (ts : List Token) (k : ParseKind) (x : Tree) → Derives ts x → ParseFirst ts p k → ⊥
no_first p ts k x d f = go k f.here
  where
    within : Shallow (take (p + 1) ts)
    within = front (p + 1) ts (narrow ts x d.derived)

    go : (l : ParseKind) → Breaks ts p l → ⊥
    go EndOfText b = b.1 x d
    go Unexpected b = b.1 (shallow_open (take (p + 1) ts) within)
    go FloatType b = b.1 (shallow_open (take (p + 1) ts) within)
    go TooDeep b = b.2 within
    go TooLarge b = omega (arith, b.0, b.2, d.counted)

pub unambiguous : (ts : List Token) (x y : Tree) → Derives ts x → Derives ts y → x ≡ y
unambiguous ts x y d e = ap (λ (z : Tree × List Token). z.0)
    (ok_parts (x, []) (y, []) (sym (every ts x d) ∙ every ts y e))

-- As the clauses of the parser say it

pub every_same : (ts : List Token) (x y : Tree) → all_r Narrow most_constructs ts ≡ Ok (x, []) → Derives ts y → x ≡ y
every_same ts x y e d = ap (λ (z : Tree × List Token). z.0) (ok_parts (x, []) (y, []) (sym e ∙ every ts y d))

pub every_none : (ts rest : List Token) (y : Tree) (w : Why) → all_r Narrow most_constructs ts ≡ Err (w, rest)
    → Derives ts y → ⊥
every_none ts rest y w f d = let both = sym f ∙ every ts y d in cc

-- a stop at a token that is allowed there
pub first_stop : (ts rest : List Token) (w : Why) (end s : Span)
    → all_r Narrow most_constructs ts ≡ Err (w, rest) → length ts ≤ most_tokens + length rest
    → s ≡ span_at rest end 0 → (place : ℕ) × ParseFirst ts place (fault_kind w rest)
    × (s ≡ span_at ts end place)
first_stop ts rest w end s e le f =
    let h = stopped ts rest w e in
    let few : length h.front ≤ most_tokens = omega (arith, ap length h.there, length-append h.front rest, le) in (
      length h.front,
      first_at ts h.front rest (fault_kind w rest) h.there h.opens few h.breaks,
      f
          ∙ sym (ap (λ l. span_at l end (length h.front)) h.there ∙ span-at h.front rest end),
    )

-- a stop after more tokens than there may be
pub large_stop : (ts rest : List Token) (w : Why) → all_r Narrow most_constructs ts ≡ Err (w, rest)
    → most_tokens + length rest < length ts → ParseFirst ts most_tokens TooLarge
large_stop ts rest w e lt =
    let h = stopped ts rest w e in
    too_many ts h.front rest h.there h.opens (omega (arith, ap length h.there, length-append h.front rest, lt))

pub large_script : (ts : List Token) (x : Tree) → all_r Narrow most_constructs ts ≡ Ok (x, [])
    → most_tokens < length ts → ParseFirst ts most_tokens TooLarge
large_script ts x e lt = too_many ts ts [] (sym (append-nil ts)) (narrow ts x (found ts [] x e)) lt
