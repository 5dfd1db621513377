-- A statement with what may follow it, and the ways to join such rules.
use Rattle.std.proofs.Common.{◌≡◌, ℕ, Bool, true, false, cond, List, [], ◌∷◌, ◌++◌, refl, subst}
use Rattle.lsl_lex.specs.declared.token_types.Token.{Token}
use Rattle.lsl_tree.specs.Statements.{Stmt, ends_open}
use Rattle.lsl_grammar.specs.declared.Why.TheVariants.{Unexpected}
use Rattle.lsl_grammar.specs.Language.{among, ◌>>=◌ as ◌>=>◌, ◌∣◌}
use Rattle.lsl_grammar.specs.Reading.{then_r, or_r}
use Rattle.lsl_grammar.proofs.ReadsLanguage.{Sub, one_reads}
use Rattle.lsl_grammar.proofs.Hints.{Eats}
use Rattle.lsl_grammar.proofs.Rule.{disjoint, sub_left, sub_right, Filled, or_full, Rule, Solid, wider_rule, or_rule, sign_rule, sign_full, one_full, one_eats, or_eats, then_eats, probe_aside, apart_aside}
use Rattle.lsl_lex.specs.declared.token_types.Sort.{Sort}
use Rattle.lsl_lex.specs.declared.token_types.Sort.TheVariants.{ElseWord}
use Rattle.lsl_signs.specs.Kinds.{codes, token_code}
use Rattle.lsl_read.specs.ExpressionGrammar.{Language, any}
use Rattle.lsl_read.specs.ExpressionReading.{TokenReader, any_r}
use Rattle.lsl_read.proofs.ExpressionRules.{probe}

abbrev pub else_tail : List ℕ
else_tail = codes (ElseWord ∷ [])

-- an `else` continues a statement that ends in an `if` without one
abbrev pub tail_of : Stmt → List ℕ
tail_of a = cond (ends_open a) else_tail []

pub tail_lone : (x : Stmt) → among probe (tail_of x) ≡ false
tail_lone x = go (ends_open x)
  where
    go : (b : Bool) → among probe (cond b else_tail []) ≡ false
    go true = refl
    go false = refl

pub tail_else : (x : Stmt) → Sub (tail_of x) else_tail
tail_else x = go (ends_open x)
  where
    go : (b : Bool) → Sub (cond b else_tail []) else_tail
    go true k h = h
    go false k h = absurd (cc)

pub tail_same : (x y : Stmt) → ends_open x ≡ ends_open y → Sub (tail_of x) (tail_of y)
tail_same x y e k h = subst (λ b. among k (cond b else_tail []) ≡ true) e h

pub record Whole (L M : Language Stmt) (p q : TokenReader Stmt) (f : List ℕ) : Type 0 where
  pub rule : Rule token_code probe L M p q f tail_of
  pub full : Filled L
  pub eats : Eats token_code probe f p

pub closed_whole : {L M : Language Stmt} {p q : TokenReader Stmt} {f : List ℕ} → Solid token_code probe L M p q f []
    → Whole L M p q f
closed_whole {f = f} s = record {
  rule = wider_rule token_code probe f tail_of s.rule (λ k h. h)
      (λ u x w k h. absurd (cc));
  full = s.full;
  eats = s.eats;
}

pub whole_solid : {L M : Language Stmt} {p q : TokenReader Stmt} {f : List ℕ} → Whole L M p q f
    → Solid token_code probe L M p q f else_tail
whole_solid {f = f} w = record {
  rule = wider_rule token_code probe f (λ _. else_tail) w.rule (λ k h. h)
      (λ u x _. tail_else x);
  full = w.full;
  eats = w.eats;
  aside = refl;
}

pub whole_or : {L L' M M' : Language Stmt} {p p' q q' : TokenReader Stmt} {f g : List ℕ} → Whole L L' p p' f
    → Whole M M' q q' g → disjoint f (probe ∷ g) ≡ true
    → Whole (L ∣ M) (L' ∣ M') (or_r token_code f p q) (or_r token_code f p' q') (f ++ g)
whole_or {L = L} {L' = L'} {M = M} {M' = M'} {p = p} {p' = p'} {q = q} {q' = q'} {f = f} {g = g} w v e = record {
  rule = or_rule token_code probe L L' M M' p p' q q' f g (f ++ g) tail_of w.rule v.rule
      (apart_aside token_code probe f g e) (probe_aside token_code probe f g e) w.full w.eats
      (λ x h. absurd (v.full.none x h)) (sub_left f g) (sub_right f g);
  full = or_full L M w.full v.full;
  eats = or_eats token_code probe p q f g w.eats v.eats;
}

pub sign_whole : (ks : List Sort) (g : List ℕ) (K J : Token → Language Stmt) (q q' : Token → TokenReader Stmt)
    → among probe (codes ks) ≡ false → ((t : Token) → Rule token_code probe (K t) (J t) (q t) (q' t) g tail_of)
    → Whole (any ks >=> K) (any ks >=> J) (then_r (any_r ks) q) (then_r (any_r ks) q') (codes ks)
sign_whole ks g K J q q' lone r = record {
  rule = sign_rule token_code probe Unexpected (codes ks) g tail_of K J q q' lone r;
  full = sign_full token_code probe (codes ks) K;
  eats = then_eats token_code probe (any ks) K (any_r ks) q (codes ks) (λ _. []) (λ _. g) tail_of
      (one_reads token_code Unexpected (codes ks) (λ _. [])) (λ t. (r t).reads)
      (one_full token_code probe (codes ks)) (one_eats token_code probe Unexpected (codes ks));
}
