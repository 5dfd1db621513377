use Rattle.std.proofs.Common.{◌≡◌, ◌++◌, drop}
use Rattle.lsl_code.specs.Bodies.{plain_body}
use Rattle.lsl_weave.specs.Layout.{save_block}
use Rattle.lsl_code.specs.ModeStacks.{flat}
use Rattle.lsl_weave.proofs.blocks.push_saves.Given as goal

abbrev pub invariant-loop-i : goal.invariant-loop-i
invariant-loop-i l =
    l.code ++ flat (save_block (plain_body l.function)) l.i (drop l.i l.function.points)
    ≡ l.fn.code ++ flat (save_block (plain_body l.function)) 0 l.function.points
