use Rattle.std.proofs.Common.{◌≡◌, ◌++◌, drop, take, map}
use Rattle.std.specs.Prelude.{All}
use Rattle.lsl_tree.specs.Program.{routine_of, function_of}
use Rattle.lsl_gen.specs.Programs.{made_by, IsShort}
use Rattle.lsl_gen.proofs.functions.push_functions.Given as goal

abbrev pub invariant-loop-r : goal.invariant-loop-r
invariant-loop-r l =
    (l.functions ++ map (λ f. made_by l.names f.name f.routine) (map function_of (drop l.r-index l.routines))
    ≡ l.fn.functions ++ map (λ f. made_by l.names f.name f.routine) (map function_of l.routines))
    × All (λ r. IsShort (routine_of r.routine)) (take l.r-index l.routines)
