-- A text that is accepted has no fault; and texts at places of lists.
use Rattle.std.proofs.Common.{◌≡◌, ℕ, zero, suc, ◌<◌, List, [], ◌∷◌, take, Option, Some, None, refl, ap, arith}
use Rattle.std.specs.Prelude.{slice_get}
use Rattle.lsl_tree.specs.Program.{Program}
use Rattle.lsl_build.specs.Accepted.{Accepted}
use Rattle.lsl_build.specs.Faults.{FirstFault}
use Rattle.lsl_build.specs.declared.faults.BuildFault.{BuildFault}
use Rattle.lsl_build.proofs.Accepted.{accepted-no_fault}

pub no_fault : (text : List ℕ) (program : Program) (fault : BuildFault) → Accepted text program → FirstFault text fault
    → ⊥
no_fault text program fault accepted first = accepted-no_fault text accepted.0 program fault accepted.1 first

pub some-one : (a b : List ℕ) → Some a ≡ Some b → a ≡ b
some-one a b e = ap value e
  where
    value : Option (List ℕ) → List ℕ
    value (Some x) = x
    value None = a

-- the element at a place before another is among those before that
pub get-take : (texts : List (List ℕ)) (place end : ℕ) → place < end
    → slice_get (take end texts) place ≡ slice_get texts place
get-take texts place zero lt = absurd (omega arith)
get-take [] place (suc end) lt = refl
get-take (t ∷ texts) zero (suc end) lt = refl
get-take (t ∷ texts) (suc place) (suc end) lt = get-take texts place end (omega arith)
