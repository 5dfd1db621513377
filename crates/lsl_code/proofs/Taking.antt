-- What instructions take off the kinds of operands, and what the tests of the table of kinds say.
use Rattle.std.proofs.Common.{◌≡◌, ℕ, ◌<◌, List, [], ◌∷◌, ◌++◌, length, take, drop, reverse, Option, Some, None, option_map, Bool, true, false, cond, refl, sym, ap, ap₂, ◌∙◌, arith}
use Rattle.std.specs.Prelude.{nat_lt, is_some, is_none}
use Rattle.std.proofs.lemmas.Bool.Decides.{nat_tests}
use Rattle.std.proofs.lemmas.List.{length-reverse, reverse-reverse, reverse-append}
use Rattle.lsl_value.specs.Values.{kind_of}
use Rattle.lsl_value.specs.declared.tagged.Kind.{Kind}
use Rattle.lsl_value.specs.declared.tagged.Value.{Value}
use Rattle.lsl_code.specs.declared.signatures.Signature.{Signature}
use Rattle.lsl_code.specs.Effects.{strip, pushed, only_if, with_kind, called, called_if}
use Rattle.lsl_code.specs.Kinds.{same_kind, kinds_of}
use Rattle.lsl_code.proofs.Sames.{same_is}
use Rattle.lsl_code.proofs.Steps.{strip_drop}
use Rattle.lsl_code.proofs.ValueKinds.{some_is, kinds_take, kinds_drop, kinds_append}

-- what is on top
pub strip_take : (ps ks : List Kind) → is_some (strip ps ks) ≡ true → take (length ps) ks ≡ ps
strip_take [] ks e = refl
strip_take (p ∷ ps) [] e = absurd cc
strip_take (p ∷ ps) (k ∷ ks) e = step (same_kind p k) refl e (λ f. strip_take ps ks f)
  where
    step : (b : Bool) → same_kind p k ≡ b → is_some (cond b (strip ps ks) None) ≡ true
        → (is_some (strip ps ks) ≡ true → take (length ps) ks ≡ ps) → k ∷ take (length ps) ks ≡ p ∷ ps
    step true s e more = ap₂ (λ x l. x ∷ l) (sym (same_is p k s)) (more e)
    step false s e more = absurd cc

-- operands that a signature takes
pub record Taken (g : Signature) (ks js : List Kind) : Type 0 where
  pub args : take (length g.params) ks ≡ reverse g.params
  pub rest : pushed g.result (drop (length g.params) ks) ≡ js

pub map_is : (f : List Kind → List Kind) (o : Option (List Kind)) (js : List Kind) → option_map f o ≡ Some js
    → is_some o ≡ true
map_is f None js e = absurd cc
map_is f (Some x) js e = refl

pub taken : (g : Signature) (ks js : List Kind) → called (Some g) ks ≡ Some js → Taken g ks js
taken g ks js e =
    let some = map_is (pushed g.result) (strip (reverse g.params) ks) js e in
    let len = length-reverse g.params in
    record {
      args = ap (λ n. take n ks) (sym len) ∙ strip_take (reverse g.params) ks some;
      rest =
          some_is _ _
          (ap (λ n. Some (pushed g.result (drop n ks))) (sym len) ∙ ap (option_map (pushed g.result))
          (sym (strip_drop (reverse g.params) ks some)) ∙ e);
    }

pub row_taken : (b : Bool) (g : Signature) (ks js : List Kind) → called_if b g ks ≡ Some js → Taken g ks js × (b ≡ true)
row_taken true g ks js e = (taken g ks js e, refl)
row_taken false g ks js e = absurd cc

pub kinds_reverse : (vs : List Value) → kinds_of (reverse vs) ≡ reverse (kinds_of vs)
kinds_reverse [] = refl
kinds_reverse (v ∷ vs) =
    ap kinds_of (reverse-append (v ∷ []) vs) ∙ kinds_append (reverse vs) (v ∷ [])
    ∙ ap (λ l. l ++ kind_of v ∷ []) (kinds_reverse vs) ∙ sym (reverse-append (kind_of v ∷ []) (kinds_of vs))

-- arguments, from first to last, have the kinds of the parameters
pub arguments_kinds : (g : Signature) (ops : List Value) (js : List Kind) → Taken g (kinds_of ops) js
    → kinds_of (reverse (take (length g.params) ops)) ≡ g.params
arguments_kinds g ops js t =
    kinds_reverse (take (length g.params) ops) ∙ ap reverse (kinds_take (length g.params) ops ∙ t.args)
    ∙ reverse-reverse g.params

pub rest_kinds : (g : Signature) (ops : List Value) (js : List Kind) → Taken g (kinds_of ops) js
    → pushed g.result (kinds_of (drop (length g.params) ops)) ≡ js
rest_kinds g ops js t = ap (pushed g.result) (kinds_drop (length g.params) ops) ∙ t.rest

pub only_is : (b : Bool) (left js : List Kind) → only_if b left ≡ Some js → (b ≡ true) × (left ≡ js)
only_is true left js e = (refl, some_is left js e)
only_is false left js e = absurd cc

pub with_is : (o : Option Kind) (f : Kind → Option (List Kind)) (js : List Kind) → with_kind o f ≡ Some js
    → (k : Kind) × (o ≡ Some k) × (f k ≡ Some js)
with_is None f js e = absurd cc
with_is (Some k) f js e = (k, refl, e)

pub map_of : (o : Option Kind) (left js : List Kind) → option_map (λ k. k ∷ left) o ≡ Some js
    → (k : Kind) × (o ≡ Some k) × (k ∷ left ≡ js)
map_of None left js e = absurd cc
map_of (Some k) left js e = (k, refl, some_is _ _ e)

pub less_is : (m n : ℕ) → nat_lt m n ≡ true → m < n
less_is m n e = grind (arith, nat_tests)

pub none_is : (o : Option Kind) (js : List Kind) → only_if (is_none o) [] ≡ Some js → o ≡ None
none_is None js e = refl
none_is (Some k) js e = absurd cc
