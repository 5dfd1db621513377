-- Where the instructions of a draft continue: only where they may.
use Rattle.std.proofs.Common.{◌≡◌, ℕ, zero, suc, ◌+◌, ◌<◌, List, [], ◌∷◌, length, Some, true, subst, arith, slice_get}
use Rattle.lsl_value.specs.declared.tagged.Kind.{Kind}
use Rattle.lsl_code.specs.declared.instructions.Instr.{Instr}
use Rattle.lsl_code.specs.declared.instructions.Instr.TheVariants.{Jump, JumpIf, JumpIfNot, Tick, Return, ReturnValue, GoState, Reset, TestSave, TestBack}
use Rattle.lsl_code.specs.Fits.{is_quiet}
use Rattle.lsl_code.specs.Kinds.{Scope}
use Rattle.lsl_code.proofs.Scans.{kinds_before}

module _ (s : Scope) (d : List Instr) where
  abbrev pub Quiet : ℕ → Type 0
  Quiet q = is_quiet d q ≡ true

  -- an instruction is there, and isn't a jump backward
  abbrev pub Open : ℕ → Type 0
  Open q = (q < length d) × Quiet q

  -- the kinds of the operands before a place, the top first
  abbrev pub kinds_at : ℕ → List Kind
  kinds_at = kinds_before s d []

  -- and no operand waits
  abbrev pub Clear : ℕ → Type 0
  Clear q = Open q × (kinds_at q ≡ [])

  -- an instruction continues where it may
  abbrev pub Way : ℕ → Instr → Type 0
  Way pc (Jump t) = Clear t × (kinds_at (pc + 1) ≡ []) × Quiet (pc + 1)
  Way pc (JumpIf t) = Clear t × Clear (pc + 1)
  Way pc (JumpIfNot t) = Clear t × Clear (pc + 1)
  Way pc (Tick line) = pc + 1 < length d
  Way pc Return = Quiet (pc + 1)
  Way pc ReturnValue = Quiet (pc + 1)
  Way pc (GoState n) = Quiet (pc + 1)
  Way pc Reset = Quiet (pc + 1)
  Way pc (TestSave t) = ⊥
  Way pc (TestBack t) = ⊥
  Way pc i = Open (pc + 1)

  abbrev pub Ways : ℕ → List Instr → Type 0
  Ways pc [] = Unit {0}
  Ways pc (i ∷ is) = Way pc i × Ways (pc + 1) is

  at_all : (is : List Instr) (pc j : ℕ) (i : Instr) → Ways pc is → slice_get is j ≡ Some i → Way (pc + j) i
  at_all [] pc j i h e = absurd cc
  at_all (x ∷ is) pc zero i h e =
      let z : pc ≡ pc + 0 = omega arith in
      let same : x ≡ i = cc in
      subst (Way (pc + 0)) same (subst (λ n. Way n x) z h.0)
  at_all (x ∷ is) pc (suc j) i h e =
      let z : pc + 1 + j ≡ pc + suc j = omega arith in
      subst (λ n. Way n i) z (at_all is (pc + 1) j i h.1 e)

  pub way_at : (j : ℕ) (i : Instr) → Ways 0 d → slice_get d j ≡ Some i → Way j i
  way_at j i h e = let z : 0 + j ≡ j = omega arith in subst (λ n. Way n i) z (at_all d 0 j i h e)
