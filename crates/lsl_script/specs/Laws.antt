-- What holds of every script, whatever its code means.
use Rattle.std.specs.Prelude.{◌≡◌, ℕ, Bool, false, List, [], ◌∷◌, Some}
use Rattle.lsl_running.specs.declared.ends.Fault.{Fault}
use Rattle.lsl_running.specs.declared.ends.Outcome.{Outcome}
use Rattle.lsl_running.specs.declared.ends.Outcome.TheVariants as outcome
use Rattle.lsl_running.specs.declared.kept.Kept.{Kept}
use Rattle.lsl_post.specs.declared.entries.Entry.{Entry}
use Rattle.lsl_post.specs.declared.entries.Entry.TheVariants as entry
use Rattle.lsl_post.specs.declared.events.Event.{Event}
use Rattle.lsl_post.specs.Listens.{no_listens}
use Rattle.lsl_post.specs.Mailbox.{Mailbox, new_mailbox}
use Rattle.lsl_post.specs.Timing.{stopped}
use Rattle.lsl_script.specs.Rules.{Rules, initial_kept}
use Rattle.lsl_script.specs.Scripts.{Script, fresh, is_ready, state_exit, takes}
use Rattle.lsl_script.specs.declared.going.Going.TheVariants.{Stays, Enters}
use Rattle.lsl_script.specs.Handlers.{ended, entered, event_due, failed, going_from, going_of, resting_charge}

-- a change to the state in which a script is already is a return
abbrev pub SameStateIsReturn : Type 0
SameStateIsReturn = (state : ℕ) (exits : Bool) → going_from state exits (outcome.StateTo state) ≡ Stays

-- while a script leaves its state, a return and any change of state lead to the state for which it leaves
abbrev pub LeavingGoesOn : Type 0
LeavingGoesOn =
    (n m state : ℕ) (exits : Bool)
    → (going_of (Some n) state exits outcome.Return ≡ Enters n)
    × (going_of (Some n) state exits (outcome.StateTo m) ≡ Enters n)

-- and its exit comes before any event that waits
abbrev pub ExitComesFirst : Type 0
ExitComesFirst = (n : ℕ) (box : Mailbox) → event_due (Some n) box ≡ Some state_exit

-- in a new state nothing is listened to and no event waits but the entry; the timer stays, and listens are numbered on
pub record KeepsTimer (r : Rules) (n : ℕ) (s : Script) : Type 0 where
  pub state : (entered r n s).state ≡ n
  pub timer : (entered r n s).mailbox.timing ≡ s.mailbox.timing
  pub listens : (entered r n s).mailbox.listens.list ≡ []
  pub next : (entered r n s).mailbox.listens.next ≡ s.mailbox.listens.next

abbrev pub NewStateKeepsTimer : Type 0
NewStateKeepsTimer = (r : Rules) (n : ℕ) (s : Script) → KeepsTimer r n s

-- a script that begins again has what it had at its start; the time of waking stays
pub record IsReset (r : Rules) (code wake : ℕ) : Type 0 where
  pub kept : (fresh r code wake).kept ≡ initial_kept r code
  pub state : (fresh r code wake).state ≡ 0
  pub timer : (fresh r code wake).mailbox.timing ≡ stopped
  pub listens : (fresh r code wake).mailbox.listens ≡ no_listens
  pub waking : (fresh r code wake).wake ≡ wake

abbrev pub ResetBeginsAgain : Type 0
ResetBeginsAgain = (r : Rules) (code wake : ℕ) → IsReset r code wake

-- a script that stopped for good takes no event and is never ready; its state stays, and its mailbox is empty
pub record IsDead (r : Rules) (number : ℕ) (s : Script) (fault : Fault) : Type 0 where
  pub takes : (e : Event) → takes r (failed r number s fault).value e ≡ false
  pub ready : (clock : ℕ) → is_ready clock (failed r number s fault).value ≡ false
  pub state : (failed r number s fault).value.state ≡ s.state
  pub mailbox : (failed r number s fault).value.mailbox ≡ new_mailbox
  pub kept : (failed r number s fault).value.kept ≡ initial_kept r s.code

abbrev pub FaultsAreForGood : Type 0
FaultsAreForGood = (r : Rules) (number : ℕ) (s : Script) (fault : Fault) → IsDead r number s fault

-- the charge is that of what the handler left, and is reported before anything else happens to the script
abbrev pub ChargeComesFirst : Type 0
ChargeComesFirst =
    (r : Rules) (number : ℕ) (s : Script) (kept : Kept) (o : Outcome)
    → (more : List Entry) × ((ended r number s kept o).entries ≡ entry.Done number (resting_charge kept) ∷ more)
