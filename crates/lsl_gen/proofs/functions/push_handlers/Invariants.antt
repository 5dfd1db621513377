use Rattle.std.proofs.Common.{◌≡◌, ◌++◌, drop, take, map, length}
use Rattle.std.specs.Prelude.{All}
use Rattle.lsl_table.specs.Events.{event_name_of}
use Rattle.lsl_tree.specs.Program.{routine_of, handler_of}
use Rattle.lsl_gen.specs.Programs.{made_by, IsShort, numbered_handlers}
use Rattle.lsl_gen.proofs.functions.push_handlers.Given as goal

abbrev pub invariant-loop-r : goal.invariant-loop-r
invariant-loop-r l =
    (l.functions ++ map (λ h. made_by l.names (event_name_of h.event) h.routine)
    (map handler_of (drop l.r-index l.routines))
    ≡ l.fn.functions ++ map (λ h. made_by l.names (event_name_of h.event) h.routine)
    (map handler_of l.routines))
    × (l.handlers ++ numbered_handlers (length l.functions) (map handler_of (drop l.r-index l.routines))
    ≡ numbered_handlers (length l.fn.functions) (map handler_of l.routines))
    × All (λ r. IsShort (routine_of r.routine)) (take l.r-index l.routines)
