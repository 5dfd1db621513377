-- Instructions on integers don't run out of memory.
use Rattle.std.proofs.Common.{sym, subst, arith, ℕ, List, [], ◌∷◌, take, Some}
use Rattle.std.specs.Prelude.{All, IsTrue}
use Rattle.lsl_value.specs.declared.operators.BinaryOp.{BinaryOp}
use Rattle.lsl_value.specs.declared.operators.BinaryOp.TheVariants.{Add}
use Rattle.lsl_value.specs.declared.tagged.Value.{Value}
use Rattle.lsl_value.specs.declared.tagged.Value.TheVariants as value
use Rattle.lsl_value.specs.Values.{kind_of}
use Rattle.lsl_ops.specs.Operations.{binary_takes_memory}
use Rattle.lsl_running.specs.declared.kept.Kept.{Kept}
use Rattle.lsl_code.specs.Machine.{MachineCall, call_at}
use Rattle.lsl_machine.specs.declared.running.Running.{Running}
use Rattle.lsl_machine.specs.Laid.{Lays}
use Rattle.lsl_machine.specs.Memory.{IsInteger}
use Rattle.lsl_machine.specs.Steps.{Popped}

-- the operand that was popped is the top one
pub top_integer : (g : Kept) (f place : ℕ) (sl ops : List Value) (outer : List MachineCall) (w : Value)
    (q : Running) → Popped g f place sl ops outer (Some w) q → All IsInteger (take 1 ops) → IsInteger w
top_integer g f place sl [] outer w q p all = absurd p
top_integer g f place sl (v ∷ rest) outer w q p all = subst IsInteger (sym p.0) (all 0 v (omega arith))

pub top_integers : (g : Kept) (f place : ℕ) (sl ops : List Value) (outer : List MachineCall) (v w : Value)
    (q r : Running) → Popped g f place sl ops outer (Some v) q
    → ((rest : List Value) → Lays q g (call_at f place sl rest) outer → Popped g f place sl rest outer (Some w) r)
    → All IsInteger (take 2 ops) → IsInteger v × IsInteger w
top_integers g f place sl [] outer v w q r p k all = absurd p
top_integers g f place sl (a ∷ []) outer v w q r p k all = absurd (k [] p.1)
top_integers g f place sl (a ∷ b ∷ rest) outer v w q r p k all =
    let left = subst IsInteger (sym p.0) (all 0 a (omega arith)) in
    let right = subst IsInteger (sym (k (b ∷ rest) p.1).0) (all 1 b (omega arith)) in
    (left, right)

-- what an operator gives of two integers takes no memory
pub integers_spare : (op : BinaryOp) (v w : Value) → IsInteger v × IsInteger w
    → IsTrue (binary_takes_memory op (kind_of v) (kind_of w)) → ⊥
integers_spare Add (value.Int a) (value.Int b) both e = absurd cc
integers_spare op (value.Int a) (value.Int b) both e = absurd cc
integers_spare op (value.Int a) w both e = absurd both.1
integers_spare op v w both e = absurd both.0
