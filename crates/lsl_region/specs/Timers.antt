-- When timers are due.
use Rattle.std.specs.Prelude.{ℕ, nat_lt, if◌then◌else◌, Option, Some, None}
use Rattle.lsl_post.specs.Timing.{Timing}

-- when a timer is next due, where it runs
abbrev pub next_due : Timing → Option ℕ
next_due t = if nat_lt 0 t.period then Some t.due else None
