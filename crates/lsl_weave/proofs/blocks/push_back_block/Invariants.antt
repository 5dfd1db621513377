use Rattle.std.proofs.Common.{◌≡◌, ◌-◌, List, ◌++◌}
use Rattle.lsl_code.specs.declared.instructions.Instr.{Instr}
use Rattle.lsl_weave.specs.Layout.{back_slots, back_tops}
use Rattle.lsl_weave.proofs.blocks.push_back_block.Given as goal

abbrev pub invariant-loop-i : goal.invariant-loop-i
invariant-loop-i l =
    (tail : List Instr) → l.code ++ back_slots l.i (l.slots - l.i) tail
    ≡ l.fn.code ++ back_slots 0 l.slots tail

abbrev pub invariant-loop-j : goal.invariant-loop-j
invariant-loop-j l =
    (tail : List Instr) → l.code ++ back_tops (l.waits - l.j) tail
    ≡ l.fn.code ++ back_slots 0 l.slots (back_tops l.waits tail)
