-- A timer's two fields as plain data.
use Rattle.lsl_post.specs.declared.timer.Timer.{Timer}
use Rattle.lsl_post.specs.Timing.{Timing}

abbrev pub timing_of : Timer → Timing
timing_of t = record { period = t.period; due = t.due }
