use Rattle.std.proofs.Common.{◌≡◌, ◌++◌, drop}
use Rattle.lsl_code.specs.Bodies.{plain_body}
use Rattle.lsl_weave.specs.Layout.{main}
use Rattle.lsl_code.specs.ModeStacks.{flat}
use Rattle.lsl_weave.proofs.blocks.push_mains.Given as goal

abbrev pub invariant-loop-i : goal.invariant-loop-i
invariant-loop-i l =
    l.code ++ flat (main (plain_body l.function)) l.i (drop l.i l.function.code)
    ≡ l.fn.code ++ flat (main (plain_body l.function)) 0 l.function.code
