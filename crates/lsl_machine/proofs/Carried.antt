-- How often a way keeps each slot, or puts a value to it.
use Rattle.std.proofs.Common.{◌≡◌, refl, arith, ℕ, zero, suc, ◌<◌, ◌≤◌, List, [], ◌∷◌, length, Some, inl, inr}
use Rattle.std.specs.Prelude.{slice_get}
use Rattle.std.proofs.lemmas.Bool.{cases_eq}
use Rattle.lsl_value.specs.declared.tagged.Value.{Value}
use Rattle.lsl_code.specs.SaveWays.{Keep, keep_count}
use Rattle.lsl_code.specs.BackWays.{Put, put_count}
use Rattle.lsl_machine.proofs.Counted.{once_more, counted_here, counted_there}

abbrev pub keeps_of : List Keep → ℕ → ℕ
keeps_of order n = keep_count n order

abbrev pub puts_of : List Put → ℕ → ℕ
puts_of puts n = put_count n puts

-- each slot is counted once at most
abbrev pub AtMostOnce : (ℕ → ℕ) → ℕ → Type 0
AtMostOnce c n = (k : ℕ) → k < n → c k ≤ 1

pub has_place : (vs : List Value) (n : ℕ) (v : Value) → slice_get vs n ≡ Some v → n < length vs
has_place [] n v e = absurd cc
has_place (x ∷ vs) zero v e = omega arith
has_place (x ∷ vs) (suc n) v e = let q = has_place vs n v e in omega arith

pub none_left : (c : ℕ → ℕ) (m n : ℕ) → AtMostOnce (once_more c m) n → m < n → c m ≡ 0
none_left c m n once lt =
    let a = once m lt in
    let b = counted_here c m m refl in
    omega arith

pub fewer : (c : ℕ → ℕ) (m n : ℕ) → AtMostOnce (once_more c m) n → AtMostOnce c n
fewer c m n once k lt =
    elim (cases_eq k m) [
      | inl e ↦ (let a = once k lt in let b = counted_here c m k e in omega arith)
      | inr e ↦ (let a = once k lt in let b = counted_there c m k e in omega arith)
    ]
