-- The answer of the parser is the tree, or the first fault.
use Rattle.std.proofs.Common.{◌≡◌, ℕ, zero, suc, take, drop, length-drop, ◌+◌, ◌-◌, ◌<◌, ◌≤◌, Bool, true, false, cond, List, [], ◌∷◌, length, Result, Ok, Err, refl, sym, ap, ◌∙◌, subst, arith}
use Rattle.std.specs.Prelude.{nat_lt}
use Rattle.std.proofs.lemmas.Bool.{ltb-true, ltb-false, le-ltb}
use Rattle.lsl_text.specs.declared.Span.{Span}
use Rattle.lsl_lex.specs.declared.token_types.Token.{Token}
use Rattle.lsl_tree.specs.Scripts.{Tree}
use Rattle.lsl_grammar.specs.declared.Why.{Why}
use Rattle.lsl_signs.specs.Limits.{most_constructs, most_tokens}
use Rattle.lsl_parse.specs.declared.fault.ParseKind.{ParseKind}
use Rattle.lsl_parse.specs.declared.fault.ParseFault.{ParseFault}
use Rattle.lsl_read.specs.ScriptGrammar.{script}
use Rattle.lsl_read.specs.ScriptReading.{all_r}
use Rattle.lsl_parse.specs.Faults.{Derives, ParseFirst, IsFirst, IsFaultAt, span_at}
use Rattle.lsl_parse.specs.FaultReading.{fault_kind, large_fault, stop_fault, answer_to, answer_of}
use Rattle.lsl_parse.proofs.Top.{Narrow, Reading, take_length}
use Rattle.lsl_parse.proofs.FirstFault.{nothing_behind, found, every, first_stop, large_stop, large_script, one_first, no_first}

-- the fault of a stop is the first
pub stop_first : (ts rest : List Token) (w : Why) (end : Span) → all_r Narrow most_constructs ts ≡ Err (w, rest)
    → IsFirst ts end (stop_fault ts end w rest)
stop_first ts rest w end e = go (nat_lt (most_tokens + length rest) (length ts)) refl
  where
    go : (b : Bool) → nat_lt (most_tokens + length rest) (length ts) ≡ b
        → IsFirst ts end (cond b (large_fault ts end)
        (record { kind = fault_kind w rest; span = span_at rest end 0 }))
    go true t = (most_tokens, large_stop ts rest w e (ltb-true (most_tokens + length rest) (length ts) t), refl)
    go false t = first_stop ts rest w end (span_at rest end 0) e
        (ltb-false (most_tokens + length rest) (length ts) t) refl

pub large_first : (ts : List Token) (x : Tree) (end : Span) → all_r Narrow most_constructs ts ≡ Ok (x, [])
    → most_tokens < length ts → IsFirst ts end (large_fault ts end)
large_first ts x end e lt = (most_tokens, large_script ts x e lt, refl)

-- a first fault is the only one
pub first_only : (ts : List Token) (end : Span) (fault : ParseFault) (place : ℕ) (kind : ParseKind)
    → IsFirst ts end fault → ParseFirst ts place kind → IsFaultAt ts end place kind fault
first_only ts end fault place kind (p, h, s) g =
    let o = one_first p place ts fault.kind kind h g in
    (o.1, s ∙ ap (span_at ts end) o.0)

pub found_tree : (ts : List Token) (x : Tree) → all_r Narrow most_constructs ts ≡ Ok (x, [])
    → length ts ≤ most_tokens → Derives ts x
found_tree ts x e le = record { derived = found ts [] x e; counted = le }

-- if there are too many tokens, no tree has them
pub large_none : (ts : List Token) (y : Tree) → most_tokens < length ts → Derives ts y → ⊥
large_none ts y lt d = omega (arith, d.counted)

module _ (ts : List Token) (end : Span) where
  tree_by : (o : Reading) → all_r Narrow most_constructs ts ≡ o → (tree : Tree) → answer_to ts end o ≡ Ok tree
      → Derives ts tree
  tree_by (Ok x) f tree e = go (nat_lt most_tokens (length ts)) refl e
    where
      go : (b : Bool) → nat_lt most_tokens (length ts) ≡ b
          → (let o : Result Tree ParseFault = cond b (Err (large_fault ts end)) (Ok x.0) in o) ≡ Ok tree
          → Derives ts tree
      go true t e = absurd (cc)
      go false t e =
          let same : x.0 ≡ tree = cc in
          record {
            derived = subst (λ z. (script Narrow most_constructs).whole ts z) same (found ts x.1 x.0 f);
            counted = ltb-false most_tokens (length ts) t;
          }
  tree_by (Err x) f tree e = absurd (cc)

  pub correct_tree : (tree : Tree) → answer_of ts end ≡ Ok tree → Derives ts tree
  correct_tree tree e = tree_by (all_r Narrow most_constructs ts) refl tree e

  pub complete_tree : (tree : Tree) → Derives ts tree → answer_of ts end ≡ Ok tree
  complete_tree tree d =
      ap (answer_to ts end) (every ts tree d)
      ∙ ap (λ b. cond b (Err (large_fault ts end)) (Ok tree)) (le-ltb most_tokens (length ts) d.counted)

  fault_by : (o : Reading) → all_r Narrow most_constructs ts ≡ o → (fault : ParseFault)
      → answer_to ts end o ≡ Err fault → IsFirst ts end fault
  fault_by (Ok (x, [])) f fault e = go (nat_lt most_tokens (length ts)) refl e
    where
      go : (b : Bool) → nat_lt most_tokens (length ts) ≡ b
          → (let o : Result Tree ParseFault = cond b (Err (large_fault ts end)) (Ok x) in o) ≡ Err fault
          → IsFirst ts end fault
      go true t e =
          let same : large_fault ts end ≡ fault = cc in
          subst (IsFirst ts end) same (large_first ts x end f (ltb-true most_tokens (length ts) t))
      go false t e = absurd (cc)
  fault_by (Ok (x, t ∷ m)) f fault e = absurd (nothing_behind ts x t m f)
  fault_by (Err (w, rest)) f fault e =
      let same : stop_fault ts end w rest ≡ fault = cc in
      subst (IsFirst ts end) same (stop_first ts rest w end f)

  pub correct_fault : (fault : ParseFault) → answer_of ts end ≡ Err fault → IsFirst ts end fault
  correct_fault fault e = fault_by (all_r Narrow most_constructs ts) refl fault e

  -- a fault that is the first is the answer's
  refused_by : (o : Reading) → all_r Narrow most_constructs ts ≡ o → (place : ℕ) (kind : ParseKind)
      → ParseFirst ts place kind → (a : Result Tree ParseFault) → answer_of ts end ≡ a → (fault : ParseFault)
      × (a ≡ Err fault) × (fault.kind ≡ kind)
  refused_by o f place kind g (Ok tree) e = absurd (no_first place ts kind tree (correct_tree tree e) g)
  refused_by o f place kind g (Err fault) e =
      (fault, refl, (first_only ts end fault place kind (correct_fault fault e) g).0)

  pub complete_fault : (place : ℕ) (kind : ParseKind) → ParseFirst ts place kind → (fault : ParseFault)
      × (answer_of ts end ≡ Err fault) × (fault.kind ≡ kind)
  complete_fault place kind g = refused_by (all_r Narrow most_constructs ts) refl place kind g (answer_of ts end) refl

span_at-drop : (n : ℕ) (tokens : List Token) (end : Span) → span_at (drop n tokens) end 0 ≡ span_at tokens end n
span_at-drop zero [] end = refl
span_at-drop zero (t ∷ tokens) end = refl
span_at-drop (suc n) [] end = refl
span_at-drop (suc n) (t ∷ tokens) end = span_at-drop n tokens end

-- the first span of the tokens from a place on
pub span_at-rest : (n : ℕ) (tokens : List Token) (end : Span)
    → span_at (take (length tokens - n) (drop n tokens)) end 0 ≡ span_at tokens end n
span_at-rest n tokens end = ap (λ l. span_at l end 0)
    (ap (λ k. take k (drop n tokens)) (sym (length-drop n tokens)) ∙ take_length (drop n tokens))
    ∙ span_at-drop n tokens end
