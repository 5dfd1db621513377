-- When the scripts of a world are due, and the index of these times.
use Rattle.std.specs.Prelude.{◌≡◌, ℕ, ◌+◌, ◌-◌, ◌↔◌, List, length, map, Option, Some, None, Contains, get_or, slice_get}
use Rattle.std.proofs.Common.{zero, suc}
use Rattle.lsl_post.specs.declared.parts.ScriptParts.{ScriptParts}
use Rattle.lsl_post.specs.Due.{Puts}
use Rattle.lsl_post.specs.Timer.{timing_of}
use Rattle.lsl_post.specs.Timing.{Timing, stopped}
use Rattle.lsl_region.specs.declared.grid.Seat.{Seat}
use Rattle.lsl_region.specs.Timers.{next_due}
use Rattle.lsl_region.specs.Worlds.{Member, World}
use Rattle.lsl_world.specs.Sizes.{HasNumber}

-- the timers of the scripts, in the order of their numbers
abbrev pub timing_in : Member → Timing
timing_in m = m.script.mailbox.timing

abbrev pub timings_of : World → List Timing
timings_of w = map timing_in w.members

-- when the script of this number is next due: never if its timer doesn't run, or there is no such script
abbrev pub due_of : List Timing → ℕ → Option ℕ
due_of timings zero = None
due_of timings (suc place) = next_due (get_or timings place stopped)

-- the entries are exactly the scripts with a running timer, with their due times
pub record IsIndexOf (timings : List Timing) (entries : List (ℕ × ℕ)) : Type 0 where
  pub exact : (at number : ℕ) → Contains entries (at, number) ↔ (due_of timings number ≡ Some at)

-- each is of one of `count` scripts
abbrev pub AreNumbered : ℕ → List (ℕ × ℕ) → Type 0
AreNumbered count entries = (at number : ℕ) → Contains entries (at, number) → HasNumber count number

-- when the script of these parts is next due
abbrev pub due_in : ScriptParts → Option ℕ
due_in parts = next_due (timing_of parts.timer)

-- The same where no world of programs is known: of the scripts in their seats, the entries are exactly those with a
-- running timer, with their due times; and there are no others.
pub record IsIndexIn (seats : List Seat) (entries : List (ℕ × ℕ)) : Type 0 where
  pub numbered : AreNumbered (length seats) entries
  pub exact : (at place : ℕ) (seat : Seat) (parts : ScriptParts) → slice_get seats place ≡ Some seat
      → seat.script ≡ Some parts → Contains entries (at, place + 1) ↔ (due_in parts ≡ Some at)

-- the entry of the script of this number was set from its seat: for private functions
pub record PutsIn (seats : List Seat) (number : ℕ) (old new : List (ℕ × ℕ)) : Type 0 where
  pub due : Option ℕ
  pub puts : Puts number due old new
  pub tells : (seat : Seat) (parts : ScriptParts) → slice_get seats (number - 1) ≡ Some seat
      → seat.script ≡ Some parts → due ≡ due_in parts
