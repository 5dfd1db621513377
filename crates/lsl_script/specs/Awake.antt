-- A script that is awake: its machine is one of its unit, and runs a handler of its state.
use Rattle.std.specs.Prelude.{◌≡◌, ◌≢◌, ℕ, ◌+◌, ◌≤◌, Bool, true, false, List, [], ◌∷◌, ◌++◌, length, Option, Some, None, if◌then◌else◌}
use Rattle.lsl_table.specs.Calls.{row_of}
use Rattle.lsl_running.specs.declared.ends.Fault.TheVariants.{TooManyListens}
use Rattle.lsl_running.specs.declared.ends.Outcome.{Outcome}
use Rattle.lsl_running.specs.Asking.{Call}
use Rattle.lsl_running.specs.declared.host.Reply.{Reply}
use Rattle.lsl_running.specs.declared.kept.Kept.{Kept}
use Rattle.lsl_running.specs.Calling.{call_form}
use Rattle.lsl_running.specs.Charging.{charges_of, default_limit}
use Rattle.lsl_code.specs.declared.woven_units.Woven.{Woven as Code}
use Rattle.lsl_code.specs.Bodies.{Body}
use Rattle.lsl_code.specs.Effects.{is_asked}
use Rattle.lsl_code.specs.Kinded.{IsOutcome}
use Rattle.lsl_code.specs.Kinds.{kinds_of}
use Rattle.lsl_code.specs.Machine.{Machine, Ended}
use Rattle.lsl_code.specs.Runs.{Halt, Over, CutAt}
use Rattle.lsl_code.specs.Standing.{IsChain}
use Rattle.lsl_machine.specs.declared.standing.Standing.{Standing}
use Rattle.lsl_machine.specs.declared.standing.Standing.TheVariants as standing
use Rattle.lsl_machine.specs.Futures.{halt_from}
use Rattle.lsl_machine.specs.State.{State, IsOf, bodies_of}
use Rattle.lsl_post.specs.declared.events.Event.{Event}
use Rattle.lsl_post.specs.declared.parts.Rest.TheVariants.{Idle}
use Rattle.lsl_script.specs.declared.live.Live.{Live}
use Rattle.lsl_script.specs.declared.live.Turn.{Turn}
use Rattle.lsl_script.specs.declared.live.Turn.TheVariants as turn
use Rattle.lsl_script.specs.Fitting.{FitsStates, IsInHand, least_limit}

-- how a handler's run halts, for a number of ticks and a list of answers
abbrev pub Run : Type 0
Run = ℕ → List Reply → Halt

-- after this many ticks and these answers the run continues as this machine does
pub record GoesOnAs (bodies : List Body) (comes : Run) (ticks : ℕ) (given : List Reply) (s : State) : Type 0 where
  pub same : (more : ℕ) (answers : List Reply)
      → comes (ticks + more) (given ++ answers) ≡ halt_from s.standing bodies s.machine more answers

-- what a handler leaves is charged within its limit, which is one that a script may have
pub record IsLeft (kept : Kept) : Type 0 where
  pub least : least_limit ≤ kept.limit
  pub limit : kept.limit ≤ default_limit
  pub charge : charges_of kept.globals ≤ kept.limit

-- wherever the run is cut its calls are the handler's, and there and where it ends the globals are charged within the
-- limit
pub record IsRunOf (bodies : List Body) (handler : ℕ) (comes : Run) : Type 0 where
  pub cut : (ticks : ℕ) (answers : List Reply) (m : Machine) → comes ticks answers ≡ CutAt m
      → IsChain bodies handler m.calls × IsLeft m.kept
  pub ended : (ticks : ℕ) (answers : List Reply) (way : Outcome) (kept : Kept)
      → comes ticks answers ≡ Over (Ended way kept) → IsLeft kept

-- after this many ticks and these answers the run continues as this machine does, once it has its answer
pub record AnswersAs (bodies : List Body) (comes : Run) (ticks : ℕ) (given : List Reply) (s : State) : Type 0 where
  pub same : (more : ℕ) (r : Reply) (answers : List Reply)
      → comes (ticks + more) (given ++ r ∷ answers) ≡ halt_from s.standing bodies s.machine more (r ∷ answers)

abbrev pub IsOnWayAs : Standing → List Body → Run → ℕ → List Reply → State → Type 0
IsOnWayAs standing.Ready bodies comes ticks given s = GoesOnAs bodies comes ticks given s
IsOnWayAs standing.Full bodies comes ticks given s = GoesOnAs bodies comes ticks given s
IsOnWayAs standing.AtTick bodies comes ticks given s = GoesOnAs bodies comes ticks given s
IsOnWayAs (standing.Asking id) bodies comes ticks given s = AnswersAs bodies comes ticks given s
IsOnWayAs (standing.Ended way) bodies comes ticks given s = Unit {0}
IsOnWayAs standing.Lost bodies comes ticks given s = Unit {0}

-- the machine is on the way of a run of the handler
pub record IsRunning (bodies : List Body) (handler : ℕ) (s : State) : Type 0 where
  pub run : Run
  pub of : IsRunOf bodies handler run
  pub ticks : ℕ
  pub given : List Reply
  pub on_way : IsOnWayAs s.standing bodies run ticks given s

-- a script that waits for an answer has continued since its handler was begun
abbrev pub HasBegun : Standing → Bool → Type 0
HasBegun (standing.Asking id) fresh = fresh ≡ false
HasBegun s fresh = Unit {0}

pub record IsAwake (unit : Code) (live : Live) : Type 0 where
  pub states : FitsStates unit.states live.parts.state live.parts.leaving live.parts.queue
  pub idle : live.parts.rest ≡ Idle
  pub event : IsInHand unit.states live.parts.state live.parts.leaving live.event live.handler
  pub machine : IsOf unit live.machine
  pub silent : live.machine.machine.answers ≡ []
  pub running : IsRunning (bodies_of unit) live.handler live.machine
  pub begun : HasBegun live.machine.standing live.fresh

-- the handler ended this way: it left globals of their kinds, and a state to which it goes is there
pub record HasLeft (unit : Code) (way : Outcome) (kept : Kept) : Type 0 where
  pub kinds : kinds_of kept.globals ≡ kinds_of unit.globals
  pub left : IsLeft kept
  pub outcome : IsOutcome (length unit.states) way

abbrev pub HasEndedAs : Code → Option Outcome → Standing → Kept → Type 0
HasEndedAs unit outcome (standing.Ended way) kept = (outcome ≡ Some way) × HasLeft unit way kept
HasEndedAs unit outcome s kept = ⊥

abbrev pub HasEnded : Code → Live → Type 0
HasEnded unit live = HasEndedAs unit live.outcome live.machine.standing live.machine.machine.kept

-- the pending call is one that the host answers, with arguments of its kinds
pub record IsAskedFor (call : Call) : Type 0 where
  pub asked : is_asked (call_form call.id) ≡ true
  pub kinds : kinds_of call.args ≡ (row_of call.id).params

-- where the script is after a turn
abbrev pub StandsAfter : Code → Turn → Live → Type 0
StandsAfter unit (turn.Asks call) live = (live.machine.standing ≡ standing.Asking call.id) × IsAskedFor call
StandsAfter unit turn.AtTick live = live.machine.standing ≡ standing.AtTick
StandsAfter unit turn.Ended live = HasEnded unit live
StandsAfter unit (turn.Faulted fault) live = fault ≢ TooManyListens
StandsAfter unit turn.NoMemory live = Unit {0}

-- the event where its handler was begun when the script woke
abbrev pub taken_by : Live → Option Event
taken_by live = if live.began then Some live.event else None

-- nothing but the machine changed
pub record IsBeside (old new : Live) : Type 0 where
  pub parts : new.parts ≡ old.parts
  pub event : new.event ≡ old.event
  pub handler : new.handler ≡ old.handler
  pub began : new.began ≡ old.began
