use Rattle.std.proofs.Common.{◌≡◌, ◌++◌, drop, map}
use Rattle.lsl_tree.specs.Program.{function_of, state_of, program_of}
use Rattle.lsl_tree.specs.Signatures.{routines_of, handlers_of}
use Rattle.lsl_gen.specs.Programs.{signature_of}
use Rattle.lsl_gen.proofs.programs.names_in.Given as goal

abbrev pub invariant-loop-f : goal.invariant-loop-f
invariant-loop-f l =
    l.functions ++ map signature_of (map (λ f. f.routine)
    (map function_of (drop l.f-index l.program.functions.items)))
    ≡ map signature_of (map (λ f. f.routine) (map function_of l.program.functions.items))

abbrev pub invariant-loop-state : goal.invariant-loop-state
invariant-loop-state l =
    l.functions ++ map signature_of (map (λ h. h.routine)
    (handlers_of (map state_of (drop l.state-index l.program.states.items))))
    ≡ map signature_of (routines_of (program_of l.program))
