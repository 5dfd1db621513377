-- What an evaluation begins with, and its result.
use Rattle.std.specs.Prelude.{ℕ, zero, suc, ◌+◌, List, ◌∷◌, Option, Some, None, cond}
use Rattle.lsl_value.specs.Values.{charge_of}
use Rattle.lsl_value.specs.declared.tagged.Value.{Value}
use Rattle.lsl_running.specs.declared.ends.Fault.TheVariants.{StackHeap}
use Rattle.lsl_running.specs.declared.host.Reply.{Reply}
use Rattle.lsl_running.specs.declared.kept.Kept.{Kept}
use Rattle.lsl_running.specs.Charging.{call_charge, charges_of, hold_all, used, is_within}
use Rattle.lsl_running.specs.Results.{ActiveCall, Whole, Cut, Fails}

-- what an evaluation changes: the globals, the slots of the current call, the ticks and the answers that are left
pub record State : Type 0 where
  pub kept : Kept
  pub slots : List Value
  pub ticks : ℕ
  pub answers : List Reply

-- what surrounds an evaluation: the charge of the outer calls and the waiting values, the current routine, and the
-- calls around it, the innermost first
pub record Site : Type 0 where
  pub held : ℕ
  pub function : ℕ
  pub callers : List ActiveCall

-- while these values wait, the last one first
abbrev pub holding_all : Site → List Value → Site
holding_all site values = record site { held = hold_all site.held values }

-- while this value waits
abbrev pub holding : Site → Value → Site
holding site v = record site { held = site.held + charge_of v }

-- the current call, at this line
abbrev pub active_call : ℕ → Site → List Value → ActiveCall
active_call line site slots = record { function = site.function; slots = slots; line = line }

-- in the routine of this number, which the current call has called at this line
abbrev pub within_call : ℕ → ℕ → Site → List Value → Site
within_call number line site slots = record {
  held = site.held + call_charge + charges_of slots;
  function = number;
  callers = active_call line site slots ∷ site.callers;
}

-- a result and the state after it, or the result of the whole handler already
pub data Evaluation (A : Type 0) : Type 0 where
  Gives : A → State → Evaluation A
  Stops : Whole → Evaluation A

-- continues with the result, if there is one
abbrev pub bind : {A B : Type 0} → Evaluation A → (A → State → Evaluation B) → Evaluation B
bind (Gives a s) go = go a s
bind (Stops whole) go = Stops whole

-- how a statement ends
pub data Flow : Type 0 where
  Normal : Flow
  -- by leaving the routine, with a value or none
  Returned : Option Value → Flow
  -- by a jump to the label of this number
  Jumped : ℕ → Flow

-- a value that an expression has given: it waits now, and the charge is tested with it
abbrev pub give : Value → Site → State → Evaluation Value
give v site s =
    cond (is_within s.kept (used (site.held + charge_of v) s.slots s.kept)) (Gives v s) (Stops (Fails StackHeap))

-- the same for a value that may be none
abbrev pub give_result : Option Value → Site → State → Evaluation (Option Value)
give_result None site s = Gives None s
give_result (Some v) site s = bind (give v site s) (λ w t. Gives (Some w) t)

-- continues after a tick, at this line; if no tick is left, the active calls are the handler's result
abbrev pub tick : {A : Type 0} → ℕ → ℕ → Site → State → (State → Evaluation A) → Evaluation A
tick zero line site s go = Stops (Cut (active_call line site s.slots ∷ site.callers))
tick (suc ticks) line site s go = go (record s { ticks = ticks })
