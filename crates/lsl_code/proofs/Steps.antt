-- The steps of the pass over code.
use Rattle.std.proofs.Common.{◌≡◌, ℕ, zero, suc, List, [], ◌∷◌, length, drop, reverse, Option, Some, None, option_map, Bool, true, false, cond, refl, sym, ap, ◌∙◌}
use Rattle.std.specs.Prelude.{is_some}
use Rattle.std.proofs.lemmas.List.{length-reverse}
use Rattle.lsl_value.specs.declared.tagged.Kind.{Kind}
use Rattle.lsl_value.specs.declared.tagged.Kind.TheVariants as kind
use Rattle.lsl_code.specs.declared.instructions.Instr.{Instr}
use Rattle.lsl_code.specs.declared.instructions.Instr.TheVariants.{MakeList}
use Rattle.lsl_code.specs.declared.signatures.Signature.{Signature}
use Rattle.lsl_code.specs.Effects.{strip, gather, pushed, called, behind}
use Rattle.lsl_code.specs.Kinds.{same_kind, is_element, Scope}

pub strip_drop : (ps ks : List Kind) → is_some (strip ps ks) ≡ true → strip ps ks ≡ Some (drop (length ps) ks)
strip_drop [] ks e = refl
strip_drop (p ∷ ps) [] e = absurd cc
strip_drop (p ∷ ps) (k ∷ ks) e = by_kind (same_kind p k) e (λ f. strip_drop ps ks f)
  where
    by_kind : (b : Bool) → is_some (cond b (strip ps ks) None) ≡ true
        → (is_some (strip ps ks) ≡ true → strip ps ks ≡ Some (drop (length ps) ks))
        → cond b (strip ps ks) None ≡ Some (drop (length ps) ks)
    by_kind true e more = more e
    by_kind false e more = absurd cc

pub gather_drop : (n : ℕ) (ks : List Kind) → is_some (gather n ks) ≡ true → gather n ks ≡ Some (drop n ks)
gather_drop zero ks e = refl
gather_drop (suc n) [] e = absurd cc
gather_drop (suc n) (k ∷ ks) e = by_kind (is_element k) e (λ f. gather_drop n ks f)
  where
    by_kind : (b : Bool) → is_some (cond b (gather n ks) None) ≡ true
        → (is_some (gather n ks) ≡ true → gather n ks ≡ Some (drop n ks))
        → cond b (gather n ks) None ≡ Some (drop n ks)
    by_kind true e more = more e
    by_kind false e more = absurd cc

pub some_map : (f : List Kind → List Kind) (o : Option (List Kind)) → is_some (option_map f o) ≡ true
    → is_some o ≡ true
some_map f None e = absurd cc
some_map f (Some x) e = refl

pub list_step : (s : Scope) (i : Instr) (n : ℕ) (old dropped new : List Kind) → i ≡ MakeList n
    → is_some (behind s i old) ≡ true → dropped ≡ drop n old → new ≡ kind.List ∷ dropped
    → Some new ≡ behind s i old
list_step s i n old dropped new is some d e =
    let some' : is_some (behind s (MakeList n) old) ≡ true = ap (λ i. is_some (behind s i old)) (sym is) ∙ some in
    ap Some (e ∙ ap (λ l. kind.List ∷ l) d)
    ∙ sym
    (ap (λ i. behind s i old) is ∙ ap (option_map (λ rest. kind.List ∷ rest))
    (gather_drop n old (some_map (λ rest. kind.List ∷ rest) (gather n old) some')))

pub call_step : (o : Option Signature) (n : ℕ) (g : Signature) (old dropped new : List Kind)
    → is_some (called o old) ≡ true → o ≡ Some g → n ≡ length g.params → dropped ≡ drop n old
    → new ≡ pushed g.result dropped → Some new ≡ called o old
call_step o n g old dropped new some there len d e =
    let some' : is_some (called (Some g) old) ≡ true = ap (λ o. is_some (called o old)) (sym there) ∙ some in
    ap Some (e ∙ ap (pushed g.result) (d ∙ ap (λ n. drop n old) (len ∙ sym (length-reverse g.params))))
    ∙ sym
    (ap (λ o. called o old) there ∙ ap (option_map (pushed g.result))
    (strip_drop (reverse g.params) old (some_map (pushed g.result) (strip (reverse g.params) old) some')))
