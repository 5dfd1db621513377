-- What a call gives: of a routine of the script, and of a built-in one.
use Rattle.std.specs.Prelude.{ℕ, ◌-◌, pos, List, [], ◌∷◌, ◌++◌, map, drop, get_or, slice_get, Option, Some, None, cond}
use Rattle.lsl_value.specs.declared.names.BuiltinId.{BuiltinId}
use Rattle.lsl_value.specs.declared.tagged.Kind.{Kind}
use Rattle.lsl_value.specs.declared.tagged.Value.{Value}
use Rattle.lsl_value.specs.declared.tagged.Value.TheVariants as value
use Rattle.lsl_ops.specs.Operations.{integer_of}
use Rattle.lsl_pure.specs.Pure.{pure_of}
use Rattle.lsl_tree.specs.declared.program_node.Callee.{Callee}
use Rattle.lsl_tree.specs.declared.program_node.Callee.TheVariants.{Function, Builtin}
use Rattle.lsl_tree.specs.Actions.{Action, Block}
use Rattle.lsl_tree.specs.Program.{Routine}
use Rattle.lsl_running.specs.declared.ends.Fault.TheVariants.{StackHeap}
use Rattle.lsl_running.specs.declared.ends.Outcome.TheVariants as outcome
use Rattle.lsl_running.specs.declared.host.Reply.{Reply}
use Rattle.lsl_running.specs.declared.host.Reply.TheVariants as reply
use Rattle.lsl_running.specs.Calling.{CallForm, Pure, UsedMemory, FreeMemory, SetLimit, GetLimit, Asked, AskedAndWaits, Resets, call_form, is_answered_by}
use Rattle.lsl_running.specs.Charging.{used, is_within}
use Rattle.lsl_running.specs.Limits.{granted, grant_value, with_limit}
use Rattle.lsl_running.specs.Results.{Ends, Asks, Fails, Lost}
use Rattle.lsl_running.specs.Values.{empty_of, absent}
use Rattle.lsl_meaning.specs.State.{State, Site, within_call, Evaluation, Gives, Stops, bind, Flow, Normal, Returned, Jumped, give_result, tick}

-- what is done after a tick: a statement, from its start or from after a label directly in it
abbrev pub Lower : Type 0
Lower = Action → Option ℕ → Site → State → Evaluation Flow

-- what a routine's slots hold at first: the arguments, and then in each slot its kind's empty value
abbrev pub first_slots : Routine → List Value → List Value
first_slots r arguments = arguments ++ map empty_of (drop r.params r.slots)

-- the result of a routine that runs off its end: none, and one that gives a value doesn't
abbrev pub result_at_end : Option Kind → State → Evaluation (Option Value)
result_at_end None s = Gives None s
result_at_end (Some kind) s = Stops Lost

-- the result of a routine whose body ends this way
abbrev pub result_behind : Option Kind → Flow → State → Evaluation (Option Value)
result_behind kind Normal s = result_at_end kind s
result_behind kind (Returned result) s = Gives result s
result_behind kind (Jumped label) s = Stops Lost

-- a routine with its slots: the charge is tested, a tick passes, and the body is done
abbrev pub run_routine : Lower → Routine → Site → State → Evaluation (Option Value)
run_routine low r site s =
    cond (is_within s.kept (used site.held s.slots s.kept))
    (tick s.ticks r.line site s (λ t. bind (low (Block r.body) None site t) (result_behind r.kind)))
    (Stops (Fails StackHeap))

-- a call, from another one with these slots, of the routine of a number, for arguments from the first to the last
abbrev pub enter : Lower → Option Routine → ℕ → ℕ → List Value → Site → State → Evaluation (Option Value)
enter low None number line arguments site s = Stops Lost
enter low (Some r) number line arguments site s =
    bind (run_routine low r (within_call number line site s.slots) (record s { slots = first_slots r arguments }))
    (λ result t. give_result result site (record t { slots = s.slots }))

-- with this answer to a host call: its value is given, or the script stops
abbrev pub reply_given : Reply → Site → State → Evaluation (Option Value)
reply_given (reply.Value result) site s = give_result result site s
reply_given (reply.Stop fault) site s = Stops (Fails fault)

-- a host call takes the next answer; if none is left, the host is asked
abbrev pub ask : BuiltinId → List Value → Site → List Reply → State → Evaluation (Option Value)
ask id arguments site [] s = Stops (Asks id arguments)
ask id arguments site (answer ∷ more) s =
    cond (is_answered_by id answer) (reply_given answer site (record s { answers = more })) (Stops Lost)

-- the limit is set or not, and the script gets the answer; its argument waits no more
abbrev pub limit_given : Option ℕ → Site → State → Evaluation (Option Value)
limit_given limit site s =
    give_result (Some (grant_value limit)) site (record s { kept = with_limit limit s.kept })

-- a built-in call
abbrev pub call_builtin : CallForm → BuiltinId → ℕ → List Value → Site → State → Evaluation (Option Value)
call_builtin Pure id line arguments site s = give_result (Some (pure_of id arguments)) site s
call_builtin UsedMemory id line arguments site s =
    give_result (Some (value.Int (pos (used site.held s.slots s.kept)))) site s
call_builtin FreeMemory id line arguments site s =
    give_result (Some (value.Int (pos (s.kept.limit - used site.held s.slots s.kept)))) site s
call_builtin SetLimit id line arguments site s =
    limit_given (granted (integer_of (get_or arguments 0 absent)) (used site.held s.slots s.kept)) site s
call_builtin GetLimit id line arguments site s = give_result (Some (value.Int (pos s.kept.limit))) site s
call_builtin Asked id line arguments site s = ask id arguments site s.answers s
call_builtin AskedAndWaits id line arguments site s =
    bind (ask id arguments site s.answers s) (λ result t. tick t.ticks line site t (Gives result))
call_builtin Resets id line arguments site s = Stops (Ends outcome.Reset s.kept)

-- a call at this line, for arguments from the first to the last
abbrev pub call : List Routine → Lower → Callee → ℕ → List Value → Site → State → Evaluation (Option Value)
call routines low (Function number) line arguments site s =
    enter low (slice_get routines number) number line arguments site s
call routines low (Builtin id) line arguments site s = call_builtin (call_form id) id line arguments site s
