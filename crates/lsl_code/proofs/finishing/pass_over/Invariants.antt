use Rattle.std.proofs.Common.{drop}
use Rattle.lsl_code.specs.Kinds.{scope}
use Rattle.lsl_code.proofs.Passes.{Passed}
use Rattle.lsl_code.proofs.finishing.pass_over.Given as goal

abbrev pub invariant-loop-instr : goal.invariant-loop-instr
invariant-loop-instr l =
    Passed (scope l.names l.slots l.gives) l.code
    (drop l.instr-index l.code) l.stack.kinds l.points l.stack.noted l.most
