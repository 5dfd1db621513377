-- Timers and what they say as plain data.
use Rattle.std.proofs.Common.{◌≡◌, Bool, true, false, refl, ap, ◌∙◌}
use Rattle.std.proofs.Math.Bool.{Bool-set}
use Rattle.lsl_post.specs.declared.timer.Timer.{Timer}
use Rattle.lsl_post.specs.Timer.{timing_of}
use Rattle.lsl_post.specs.Timing.{Timing, fits_timer}
use Rattle.lsl_script.specs.Lawful.{IsTiming}
use Rattle.lsl_script.specs.Parts.{timer_of, timer_with}

-- a timer is the one that its data say
pub timer_is : (t : Timer) → t ≡ timer_of (timing_of t)
timer_is t = go (fits_timer t.period t.due) refl where
  go : (b : Bool) (e : fits_timer t.period t.due ≡ b) → t ≡ timer_with t.period t.due b e
  go true e = ap {B = Timer} (λ (f : fits_timer t.period t.due ≡ true). record {
    period = t.period;
    due = t.due;
    fits = f;
  })
      (Bool-set (fits_timer t.period t.due) true t.fits e)
  go false e = absurd cc

pub timing_fits : (t : Timer) → IsTiming (timing_of t)
timing_fits t = t.fits

pub timing_is : (t : Timing) → IsTiming t → timing_of (timer_of t) ≡ t
timing_is t fits = go (fits_timer t.period t.due) refl where
  go : (b : Bool) (e : fits_timer t.period t.due ≡ b) → timing_of (timer_with t.period t.due b e) ≡ t
  go true e = refl
  go false e = absurd cc

-- the timer with these data
pub timer_by : (t : Timer) (x : Timing) → timing_of t ≡ x → t ≡ timer_of x
timer_by t x e = timer_is t ∙ ap timer_of e
