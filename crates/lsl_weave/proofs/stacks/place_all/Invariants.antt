use Rattle.lsl_code.specs.Bodies.{Body}
use Rattle.lsl_weave.proofs.StacksPlaced.{Gives, HasPlaced}
use Rattle.lsl_weave.proofs.stacks.place_all.Given as goal

abbrev pub invariant-loop-i : goal.invariant-loop-i
invariant-loop-i l = (b : Body) → Gives b l.fn.placing → HasPlaced b l.plain l.fn.placing l.placing l.i
