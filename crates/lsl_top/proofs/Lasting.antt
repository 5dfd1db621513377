-- What is written at the end of a run.
use Rattle.std.proofs.Common.{◌≡◌, ℕ, List, [], Vec, Global, Result, Ok, Err, ap, ◌∙◌, subst, arith}
use Rattle.std.specs.Prelude.{IfOk, OnOk}
use Rattle.lsl_ports.proofs.Growth.{begins-none, grew-none}
use Rattle.lsl_code.specs.declared.woven_units.Woven.{Woven as Code}
use Rattle.lsl_lines.specs.Frozen.{frozen_line}
use Rattle.lsl_tree.specs.Program.{Program}
use Rattle.lsl_region.specs.Worlds.{World}
use Rattle.lsl_world.specs.Frozen.{frozen_image}
use Rattle.lsl_top.specs.Goes.{IsFrozenWell, IsLast}
use Rattle.lsl_top.specs.Pieces.{last_piece}
use Rattle.lsl_top.specs.Plays.{Last}
use Rattle.lsl_top.specs.Ports.{Log, Writes}
use Rattle.lsl_top.specs.declared.writing.Trouble.{Trouble}
use Rattle.lsl_top.specs.declared.writing.Trouble.TheVariants.{NoMemory}

-- the line was written from a world's image
pub line-frozen-well : {E : Type 0} (codes : List Code) (programs : List Program) (w : World)
    (result : Result (Vec ℕ Global) E) (image : List ℕ) → image ≡ frozen_image codes w
    → IfOk result (λ line. line.items ≡ frozen_line image) → IsFrozenWell codes programs w
    → IfOk result (λ line. (line.items ≡ frozen_line (frozen_image codes w)) × IsFrozenWell codes programs w)
line-frozen-well codes programs w (Ok line) image same made well = (made ∙ ap frozen_line same, well)
line-frozen-well codes programs w (Err e) image same made well = tt

-- what holds, whatever was written
pub ended-well : {T E A : Type 0} (result : Result T E) → A → OnOk result A
ended-well (Ok t) a = a
ended-well (Err e) a = tt

-- there was no memory for the line
pub writes-nothing : {T : Type 0} (lines : List ℕ) (a : Log) → Writes {T = T} lines a a (Err NoMemory)
writes-nothing lines a = record {
  ok = tt;
  part = record { added = []; grew = grew-none a.sunk; begins = begins-none lines };
  counted = omega arith;
  cause = λ f. absurd (cc);
}

-- the units of the world are these
pub writes-by : {T : Type 0} (last : Last) (units codes : List Code) (w : World) → units ≡ codes → (a b : Log)
    (result : Result T Trouble) → Writes (last_piece last units w).lines a b result
    → Writes (last_piece last codes w).lines a b result
writes-by last units codes w e a b result h =
    subst (λ (z : List Code). Writes (last_piece last z w).lines a b result) e h

pub holds-by : {T : Type 0} (last : Last) (units codes : List Code) (programs : List Program) (w : World)
    → units ≡ codes → (result : Result T Trouble) → OnOk result (IsLast last units programs w)
    → OnOk result (IsLast last codes programs w)
holds-by last units codes programs w e result h =
    subst (λ (z : List Code). OnOk result (IsLast last z programs w)) e h
