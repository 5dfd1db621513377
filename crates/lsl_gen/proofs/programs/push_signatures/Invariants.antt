use Rattle.std.proofs.Common.{◌≡◌, ◌++◌, drop, map}
use Rattle.lsl_tree.specs.Program.{handler_of}
use Rattle.lsl_gen.specs.Programs.{signature_of}
use Rattle.lsl_gen.proofs.programs.push_signatures.Given as goal

abbrev pub invariant-loop-h : goal.invariant-loop-h
invariant-loop-h l =
    l.signatures ++ map signature_of (map (λ h. h.routine) (map handler_of (drop l.h-index l.handlers)))
    ≡ l.fn.signatures ++ map signature_of (map (λ h. h.routine) (map handler_of l.handlers))
