-- A timer: its period in seconds and its due time in milliseconds, both 0 where it doesn't run.
use Rattle.std.specs.Prelude.{ℕ, ◌+◌, ◌*◌, ℤ, pos, negsuc, Bool, ◌&&◌, ◌||◌, ◌==◌, nat_lt, nat_le, if◌then◌else◌}

-- the latest reading of the clock, in milliseconds
abbrev pub latest_clock : ℕ
latest_clock = 2147483647999

abbrev pub fits_timer : ℕ → ℕ → Bool
fits_timer period due = nat_le period 2147483647 && (nat_lt 0 period || (due == 0))

pub record Timing : Type 0 where
  pub period : ℕ
  pub due : ℕ

abbrev pub stopped : Timing
stopped = record { period = 0; due = 0 }

-- due one period after this reading of the clock
abbrev pub due_after : ℕ → ℕ → Timing
due_after period clock = record { period = period; due = clock + 1000 * period }

-- set to a number of seconds: it stops where they aren't above 0
abbrev pub timing_set : ℤ → ℕ → Timing
timing_set (pos period) clock = if nat_lt 0 period then due_after period clock else stopped
timing_set (negsuc n) clock = stopped

-- the timer runs, and its time has come
abbrev pub is_due : ℕ → Timing → Bool
is_due clock t = nat_lt 0 t.period && nat_le t.due clock

-- after a reading of the clock
abbrev pub timing_after : ℕ → Timing → Timing
timing_after clock t = if is_due clock t then due_after t.period clock else t
