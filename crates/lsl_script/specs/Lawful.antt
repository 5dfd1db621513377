-- Handlers in flight that a script can have between segments: they are cut at a tick, with all their answers used.
use Rattle.std.specs.Prelude.{◌≡◌, ℕ, ◌+◌, ◌≤◌, true, List, [], ◌∷◌, ◌++◌, length}
use Rattle.lsl_value.specs.declared.names.BuiltinId.{BuiltinId}
use Rattle.lsl_value.specs.declared.tagged.Value.{Value}
use Rattle.lsl_running.specs.declared.host.Reply.{Reply}
use Rattle.lsl_running.specs.declared.kept.Kept.{Kept}
use Rattle.lsl_running.specs.Charging.{default_limit}
use Rattle.lsl_running.specs.Results.{ActiveCall, Whole, Asks, Cut}
use Rattle.lsl_code.specs.Kinded.{Answers}
use Rattle.lsl_code.specs.Kinds.{kinds_of}
use Rattle.lsl_post.specs.Timing.{Timing, fits_timer}
use Rattle.lsl_script.specs.Rules.{Rules, whole_in}
use Rattle.lsl_script.specs.Scripts.{Flight, Doing, Resting, Flying, Stopped, Script}

-- the result of a handler in flight in this state, for this many ticks and these answers
abbrev pub flight_whole : Rules → (code state : ℕ) → Flight → ℕ → List Reply → Whole
flight_whole r code state f ticks answers =
    whole_in r code (r.handler code state f.event.id) f.kept f.event.args ticks answers

abbrev pub WasCut : Whole → Type 0
WasCut w = (calls : List ActiveCall) × (w ≡ Cut calls)

abbrev pub HasAsked : Whole → Type 0
HasAsked w = (id : BuiltinId) × (args : List Value) × (w ≡ Asks id args)

-- each answer was asked for after those before it, and is one to that call
pub data AreGiven (comes : List Reply → Whole) : List Reply → Type 0 where
  NoneGiven : AreGiven comes []
  OneGiven : (before : List Reply) (r : Reply) (id : BuiltinId) (args : List Value)
      → AreGiven comes before → comes before ≡ Asks id args → Answers id r
      → AreGiven comes (before ++ r ∷ [])

-- the globals have the kinds of the code's, and the limit is at most the first
pub record IsKept (r : Rules) (code : ℕ) (kept : Kept) : Type 0 where
  pub globals : kinds_of kept.globals ≡ kinds_of (r.initial code)
  pub limit : kept.limit ≤ default_limit

pub record IsLawfulFlight (r : Rules) (code state : ℕ) (f : Flight) : Type 0 where
  pub kept : IsKept r code f.kept
  pub given : AreGiven (flight_whole r code state f f.ticks) f.answers
  pub cut : WasCut (flight_whole r code state f f.ticks f.answers)

abbrev pub IsLawfulDoing : Rules → (code state : ℕ) → Doing → Type 0
IsLawfulDoing r code state Resting = Unit {0}
IsLawfulDoing r code state (Flying f) = IsLawfulFlight r code state f
IsLawfulDoing r code state (Stopped fault) = Unit {0}

-- a timer that doesn't run is never due
abbrev pub IsTiming : Timing → Type 0
IsTiming t = fits_timer t.period t.due ≡ true

pub record Lawful (r : Rules) (s : Script) : Type 0 where
  pub timing : IsTiming s.mailbox.timing
  pub doing : IsLawfulDoing r s.code s.state s.doing

-- with this many answers more the handler makes no more calls before its next tick
abbrev pub AsksAtMost : Rules → (code state : ℕ) → Flight → ℕ → Type 0
AsksAtMost r code state f n =
    (replies : List Reply) → n ≤ length replies
    → HasAsked (flight_whole r code state f (f.ticks + 1) (f.answers ++ replies)) → ⊥
