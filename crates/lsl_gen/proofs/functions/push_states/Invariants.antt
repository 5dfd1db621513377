use Rattle.std.proofs.Common.{◌≡◌, ◌++◌, drop, take, map, length}
use Rattle.std.specs.Prelude.{All}
use Rattle.lsl_table.specs.Events.{event_name_of}
use Rattle.lsl_tree.specs.Program.{routine_of, state_of}
use Rattle.lsl_tree.specs.Signatures.{handlers_of}
use Rattle.lsl_gen.specs.Programs.{made_by, IsShort, numbered_states}
use Rattle.lsl_gen.proofs.functions.push_states.Given as goal

abbrev pub invariant-loop-state : goal.invariant-loop-state
invariant-loop-state l =
    (l.functions ++ map (λ h. made_by l.names (event_name_of h.event) h.routine)
    (handlers_of (map state_of (drop l.state-index l.states)))
    ≡ l.fn.functions ++ map (λ h. made_by l.names (event_name_of h.event) h.routine)
    (handlers_of (map state_of l.states)))
    × (l.found ++ numbered_states (length l.functions) (map state_of (drop l.state-index l.states))
    ≡ numbered_states (length l.fn.functions) (map state_of l.states))
    × All (λ s. All (λ r. IsShort (routine_of r.routine)) s.handlers.items) (take l.state-index l.states)
