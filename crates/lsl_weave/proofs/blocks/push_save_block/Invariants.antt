use Rattle.std.proofs.Common.{◌≡◌, ◌-◌, List, ◌++◌}
use Rattle.lsl_code.specs.declared.instructions.Instr.{Instr}
use Rattle.lsl_weave.specs.Layout.{keep_tops, keep_slots}
use Rattle.lsl_weave.proofs.blocks.push_save_block.Given as goal

abbrev pub invariant-loop-i : goal.invariant-loop-i
invariant-loop-i l =
    (tail : List Instr) → l.code ++ keep_tops (l.waits - l.i) tail ≡ l.fn.code ++ keep_tops l.waits tail

abbrev pub invariant-loop-j : goal.invariant-loop-j
invariant-loop-j l =
    (tail : List Instr) → l.code ++ keep_slots (l.slots - l.j) tail
    ≡ l.fn.code ++ keep_tops l.waits (keep_slots l.slots tail)
