-- Ticks that are passed one after another.
use Rattle.std.specs.Prelude.{◌≡◌, ◌+◌, ℕ, List, []}
use Rattle.lsl_running.specs.declared.host.Reply.{Reply}
use Rattle.lsl_code.specs.declared.woven_units.Woven.{Woven as Code}
use Rattle.lsl_machine.specs.declared.standing.Standing.TheVariants as standing
use Rattle.lsl_machine.specs.Futures.{StandsCut, halt_from}
use Rattle.lsl_machine.specs.Memory.{TakesNone}
use Rattle.lsl_machine.specs.State.{IsChained, IsOf, State, bodies_of}

-- a machine before a tick, and one after it: with a tick more the one has the result of the other
pub record PassesTick (unit : Code) (old new : State) : Type 0 where
  pub stands : old.standing ≡ standing.AtTick
  pub runs : (ticks : ℕ) (answers : List Reply)
      → halt_from old.standing (bodies_of unit) old.machine (1 + ticks) answers
      ≡ halt_from new.standing (bodies_of unit) new.machine ticks answers
  pub cut : new.standing ≡ standing.AtTick → StandsCut (bodies_of unit) new
  pub silent : new.machine.answers ≡ []
  pub of : IsOf unit new
  pub chained : (handler : ℕ) → IsChained (bodies_of unit) handler old → IsChained (bodies_of unit) handler new
  -- on integers alone the rest of the run takes no memory, except to enter a function and to make a host call
  pub memory : new.standing ≡ standing.Ready → TakesNone (bodies_of unit) old → TakesNone (bodies_of unit) new

-- n ticks are passed, each by a machine before it
pub data PassesTicks (unit : Code) : ℕ → State → State → Type 0 where
  NoTick : (s : State) → PassesTicks unit 0 s s
  OneMore : (n : ℕ) (s t u : State) → PassesTicks unit n s t → PassesTick unit t u → PassesTicks unit (n + 1) s u
