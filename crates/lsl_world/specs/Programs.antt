-- What a world asks of its scripts' code, where the code is a list of checked programs: the source meaning answers it.
use Rattle.std.specs.Prelude.{ℕ, suc, ◌+◌, ◌*◌, List, [], ◌∷◌, length, if◌then◌else◌, Option, Some, None, slice_get}
use Rattle.std.proofs.Common.{zero}
use Rattle.lsl_value.specs.declared.names.EventId.{EventId}
use Rattle.lsl_value.specs.declared.tagged.Value.{Value}
use Rattle.lsl_tree.specs.Program.{EventRoutine, ProgramState, Program}
use Rattle.lsl_running.specs.declared.host.Reply.{Reply}
use Rattle.lsl_running.specs.declared.kept.Kept.{Kept}
use Rattle.lsl_running.specs.Results.{Whole, Lost}
use Rattle.lsl_meaning.specs.Globals.{initial_globals}
use Rattle.lsl_meaning.specs.Handlers.{whole}
use Rattle.lsl_code.specs.Units.{same_event}
use Rattle.lsl_gen.specs.Counts.{nodes_of}
use Rattle.lsl_script.specs.Rules.{Rules}

-- the number of an event's handler, where the handlers are numbered from this number on
abbrev pub handler_among : ℕ → List EventRoutine → EventId → Option ℕ
handler_among n [] id = None
handler_among n (h ∷ hs) id = if same_event h.event id then Some n else handler_among (suc n) hs id

-- the number of the handler of a state: routines are numbered functions first, then handlers, state by state
abbrev pub handler_in_states : ℕ → List ProgramState → ℕ → EventId → Option ℕ
handler_in_states n [] state id = None
handler_in_states n (s ∷ states) zero id = handler_among n s.handlers id
handler_in_states n (s ∷ states) (suc state) id = handler_in_states (n + length s.handlers) states state id

abbrev pub handler_of_program : Program → ℕ → EventId → Option ℕ
handler_of_program p state id = handler_in_states (length p.functions) p.states state id

abbrev pub handler_in : Option Program → ℕ → EventId → Option ℕ
handler_in None state id = None
handler_in (Some p) state id = handler_of_program p state id

abbrev pub initial_in : Option Program → List Value
initial_in None = []
initial_in (Some p) = initial_globals p

abbrev pub whole_in_program : Option Program → ℕ → Kept → List Value → ℕ → List Reply → Whole
whole_in_program None routine kept args ticks answers = Lost
whole_in_program (Some p) routine kept args ticks answers = whole p routine kept args ticks answers

-- between two ticks a handler makes at most 2,048 host calls for each node of its program
abbrev pub most_in : Option Program → ℕ
most_in None = 0
most_in (Some p) = 2048 * nodes_of p

abbrev pub rules_of : List Program → Rules
rules_of programs = record {
  handler = λ code state id. handler_in (slice_get programs code) state id;
  initial = λ code. initial_in (slice_get programs code);
  whole = λ code routine kept args ticks answers.
      whole_in_program (slice_get programs code) routine kept args ticks answers;
  most = λ code. most_in (slice_get programs code);
}
