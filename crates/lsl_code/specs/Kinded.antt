-- Machines in which every value has the kind that its place wants, and what keeps them so.
use Rattle.std.specs.Prelude.{◌≡◌, ℕ, ◌<◌, List, [], ◌∷◌, Option, Some, true, length, slice_get, option_map}
use Rattle.lsl_value.specs.Values.{kind_of}
use Rattle.lsl_value.specs.declared.names.BuiltinId.{BuiltinId}
use Rattle.lsl_value.specs.declared.tagged.Kind.{Kind}
use Rattle.lsl_value.specs.declared.tagged.Value.{Value}
use Rattle.lsl_table.specs.Calls.{row_of}
use Rattle.lsl_running.specs.declared.ends.Outcome.{Outcome}
use Rattle.lsl_running.specs.declared.ends.Outcome.TheVariants as outcome
use Rattle.lsl_running.specs.declared.host.Reply.{Reply}
use Rattle.lsl_running.specs.declared.host.Reply.TheVariants as reply
use Rattle.lsl_running.specs.declared.kept.Kept.{Kept}
use Rattle.lsl_running.specs.Calling.{call_form}
use Rattle.lsl_code.specs.declared.functions.StateCode.{StateCode}
use Rattle.lsl_code.specs.declared.instructions.Instr.TheVariants.{Host}
use Rattle.lsl_code.specs.Acts.{first_slots}
use Rattle.lsl_code.specs.Bodies.{Body, instruction_at}
use Rattle.lsl_code.specs.Effects.{pushed, is_asked}
use Rattle.lsl_code.specs.Kinds.{kinds_of}
use Rattle.lsl_code.specs.Machine.{MachineCall, Machine, End, Ended, Faulted, Lost, Next, On, Pauses, Halts, Passing, Waiting, step}
use Rattle.lsl_code.specs.WellFormed.{StandsWith, IsWellFormedUnit}
use Rattle.lsl_code.specs.Wholes.{begun}

-- with operands of these kinds, the call is where its function wants them, and its slots have their kinds
abbrev pub IsKindedCall : Body → MachineCall → List Kind → Type 0
IsKindedCall w c ks = (kinds_of c.slots ≡ w.slots) × StandsWith w c.place ks

-- calls that wait for a result of this kind, or for none
abbrev pub AreWaiting : List Body → Option Kind → List MachineCall → Type 0
AreWaiting bodies result [] = Unit {0}
AreWaiting bodies result (c ∷ outer) =
    (w : Body) × (slice_get bodies c.function ≡ Some w)
    × IsKindedCall w c (pushed result (kinds_of c.operands)) × AreWaiting bodies w.result outer

abbrev pub AreKindedCalls : List Body → List MachineCall → Type 0
AreKindedCalls bodies [] = ⊥
AreKindedCalls bodies (c ∷ outer) =
    (w : Body) × (slice_get bodies c.function ≡ Some w)
    × IsKindedCall w c (kinds_of c.operands) × AreWaiting bodies w.result outer

-- of a unit with globals of these kinds and these functions
pub record IsKindedMachine (globals : List Kind) (bodies : List Body) (m : Machine) : Type 0 where
  pub kept : kinds_of m.kept.globals ≡ globals
  pub calls : AreKindedCalls bodies m.calls

-- the answer has the kind of the call's result, or is a stop
abbrev pub Answers : BuiltinId → Reply → Type 0
Answers id (reply.Value given) = option_map kind_of given ≡ (row_of id).result
Answers id (reply.Stop fault) = Unit {0}

-- if the next instruction asks, the next answer is one to its call
abbrev pub IsAnsweredIn : List Body → List MachineCall → List Reply → Type 0
IsAnsweredIn bodies [] answers = Unit {0}
IsAnsweredIn bodies (c ∷ outer) answers =
    (id : BuiltinId) (r : Reply) (more : List Reply) → instruction_at bodies c.function c.place ≡ Some (Host id)
    → answers ≡ r ∷ more → Answers id r

-- a state to which a handler goes is there
abbrev pub IsOutcome : ℕ → Outcome → Type 0
IsOutcome states (outcome.StateTo n) = n < states
IsOutcome states way = Unit {0}

abbrev pub IsKindedEnd : List Kind → ℕ → End → Type 0
IsKindedEnd globals states (Ended way kept) = (kinds_of kept.globals ≡ globals) × IsOutcome states way
IsKindedEnd globals states (Faulted fault) = Unit {0}
IsKindedEnd globals states Lost = ⊥

abbrev pub IsKindedNext : List Kind → ℕ → List Body → Next → Type 0
IsKindedNext globals states bodies (On m) = IsKindedMachine globals bodies m
IsKindedNext globals states bodies (Pauses (Passing m)) = IsKindedMachine globals bodies m
IsKindedNext globals states bodies (Pauses (Waiting id args)) =
    (is_asked (call_form id) ≡ true) × (kinds_of args ≡ (row_of id).params)
IsKindedNext globals states bodies (Halts e) = IsKindedEnd globals states e

-- a machine of a well-formed unit never meets a missing or a wrong operand: each step leads to a machine whose
-- kinds are right
abbrev pub NothingIsStuck : Type 0
NothingIsStuck =
    (globals : List Value) (states : List StateCode) (bodies : List Body) → IsWellFormedUnit globals states bodies
    → (m : Machine) → IsKindedMachine (kinds_of globals) bodies m → IsAnsweredIn bodies m.calls m.answers
    → IsKindedNext (kinds_of globals) (length states) bodies (step bodies m)

-- and the machine in which a handler begins is one
abbrev pub BeginsKinded : Type 0
BeginsKinded =
    (globals : List Value) (states : List StateCode) (bodies : List Body) → IsWellFormedUnit globals states bodies
    → (f : ℕ) (w : Body) (kept : Kept) (args : List Value) (answers : List Reply)
    → slice_get bodies f ≡ Some w → kinds_of kept.globals ≡ kinds_of globals → kinds_of args ≡ w.params
    → IsKindedMachine (kinds_of globals) bodies (begun f kept (first_slots w args) answers)
