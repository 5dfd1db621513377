-- The kinds that the pass over a draft finds.
use Rattle.std.proofs.Common.{◌≡◌, ℕ, zero, suc, ◌<◌, List, [], ◌∷◌, length, map, reverse, Option, Some, None, refl, sym, ap, ◌∙◌, arith, slice_get}
use Rattle.std.specs.Prelude.{max, option_and_then}
use Rattle.lsl_value.specs.declared.tagged.Kind.{Kind}
use Rattle.lsl_code.specs.declared.instructions.Instr.{Instr}
use Rattle.lsl_code.specs.Drafts.{or_empty, next, scan, most_of}
use Rattle.lsl_code.specs.Effects.{behind, runs}
use Rattle.lsl_code.specs.Fits.{most_operands}
use Rattle.lsl_code.specs.Kinds.{Scope}

module _ (s : Scope) where
  -- the kinds before place k, if these are before the first
  abbrev pub kinds_before : List Instr → List Kind → ℕ → List Kind
  kinds_before [] ks k = ks
  kinds_before (i ∷ is) ks zero = ks
  kinds_before (i ∷ is) ks (suc k) = kinds_before is (next s i ks) k

  pub kinds_before_zero : (d : List Instr) (ks : List Kind) → kinds_before d ks 0 ≡ ks
  kinds_before_zero [] ks = refl
  kinds_before_zero (i ∷ d) ks = refl

  pub scan_at : (d : List Instr) (ks : List Kind) (k : ℕ) → k < length d
      → slice_get (map Some (scan s d ks)) k ≡ Some (Some (reverse (kinds_before d ks k)))
  scan_at [] ks k lt = absurd (omega arith)
  scan_at (i ∷ d) ks zero lt = refl
  scan_at (i ∷ d) ks (suc k) lt = scan_at d (next s i ks) k (omega arith)

  pub scan_length : (d : List Instr) (ks : List Kind) → length (map Some (scan s d ks)) ≡ length d
  scan_length [] ks = refl
  scan_length (i ∷ d) ks = ap suc (scan_length d (next s i ks))

  pub step_some : (o : Option (List Kind)) (d : List Instr) (r : List Kind)
      → option_and_then (runs s d) o ≡ Some r → (o ≡ Some (or_empty o)) × (runs s d (or_empty o) ≡ Some r)
  step_some None d r e = absurd cc
  step_some (Some js) d r e = (refl, e)

  -- where all runs, each instruction finds what it needs
  pub runs_at : (d : List Instr) (ks : List Kind) (k : ℕ) (i : Instr) (r : List Kind) → runs s d ks ≡ Some r
      → slice_get d k ≡ Some i → behind s i (kinds_before d ks k) ≡ Some (kinds_before d ks (suc k))
  runs_at [] ks k i r e at = absurd cc
  runs_at (x ∷ []) ks zero i r e at =
      let same : x ≡ i = cc in ap (λ y. behind s y ks) (sym same) ∙ (step_some (behind s x ks) [] r e).0
  runs_at (x ∷ y ∷ d) ks zero i r e at =
      let same : x ≡ i = cc in ap (λ y. behind s y ks) (sym same) ∙ (step_some (behind s x ks) (y ∷ d) r e).0
  runs_at (x ∷ d) ks (suc k) i r e at = runs_at d (next s x ks) k i r (step_some (behind s x ks) d r e).1 at

  pub kinds_before_step : (d : List Instr) (ks : List Kind) (k : ℕ) (i : Instr) → slice_get d k ≡ Some i
      → kinds_before d ks (suc k) ≡ next s i (kinds_before d ks k)
  kinds_before_step [] ks k i e = absurd cc
  kinds_before_step (x ∷ d) ks zero i e =
      let same : x ≡ i = cc in kinds_before_zero d (next s x ks) ∙ ap (λ y. next s y ks) same
  kinds_before_step (x ∷ d) ks (suc k) i e = kinds_before_step d (next s x ks) k i e

pub most_same : (stacks : List (List Kind)) → most_operands (map Some stacks) ≡ most_of stacks
most_same [] = refl
most_same (ks ∷ stacks) = ap (max (length ks)) (most_same stacks)
