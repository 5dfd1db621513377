-- Jumps with changed targets.
use Rattle.std.specs.Prelude.{ℕ, zero, suc, List, [], ◌∷◌}
use Rattle.lsl_code.specs.declared.instructions.Instr.{Instr}
use Rattle.lsl_code.specs.declared.instructions.Instr.TheVariants.{Jump, JumpIf, JumpIfNot}

-- the jump that leads to this place. What isn't a jump of plain code stays
abbrev pub targeted : Instr → ℕ → Instr
targeted (Jump to) target = Jump target
targeted (JumpIf to) target = JumpIf target
targeted (JumpIfNot to) target = JumpIfNot target
targeted i target = i

-- the code in which the jump at this place leads to this target
abbrev pub retargeted : List Instr → ℕ → ℕ → List Instr
retargeted [] place target = []
retargeted (i ∷ is) zero target = targeted i target ∷ is
retargeted (i ∷ is) (suc place) target = i ∷ retargeted is place target
