-- Timers, and states that a script is leaving for.
use Rattle.std.proofs.Common.{◌≡◌, ◌≢◌, ◌∙◌, refl, sym, ap, arith, ℕ, zero, suc, List, Bool, true, false, Option, Some, None}
use Rattle.std.proofs.Math.Bool.{Bool-set}
use Rattle.std.proofs.lemmas.Bool.{false≢true}
use Rattle.lsl_value.specs.declared.names.EventId.TheVariants.{StateExit}
use Rattle.lsl_code.specs.declared.woven_units.Woven.{Woven as Code}
use Rattle.lsl_post.specs.declared.timer.Timer.{Timer}
use Rattle.lsl_post.specs.Timing.{fits_timer}
use Rattle.lsl_image.specs.declared.faults.ImageFault.TheVariants.{Body}
use Rattle.lsl_image.specs.Layout.{Layout, Ends, ◌>>=◌}
use Rattle.lsl_image.specs.Reading.{Faults, Gives}
use Rattle.lsl_image.specs.Script.{due_timer, flagged_leaving, handles, other_state}
use Rattle.lsl_image.specs.Leading.{Leads}
use Rattle.lsl_image.proofs.LeadingLemmas.{leads-ends}

module _ (bytes : List ℕ) (place period due q : ℕ) where
  due-refused : (good : Bool) (e : fits_timer period due ≡ good) → fits_timer period due ≡ false
      → Faults bytes (due_timer place period due good e) q (Body place)
  due-refused true e bad = absurd (false≢true (sym bad ∙ e))
  due-refused false e bad = refl

  due-given : (good : Bool) (e : fits_timer period due ≡ good) (own : fits_timer period due ≡ true)
      → Gives bytes (due_timer place period due good e) q (record { period = period; due = due; fits = own }) q
  due-given true e own = (
    ap (λ (t : fits_timer period due ≡ true).
        record { period = period; due = due; fits = t }) (Bool-set (fits_timer period due) true own e),
    refl,
  )
  due-given false e own = absurd (false≢true (sym e ∙ own))

  module _ (whole : Layout Timer) (start : ℕ)
      (leads : Leads bytes (due_timer place period due (fits_timer period due) refl) q (λ t. t) whole
      start) where
    pub timer-refused : fits_timer period due ≡ false → Faults bytes whole start (Body place)
    timer-refused bad = leads.faults (Body place) (due-refused (fits_timer period due) refl bad)

    pub timer-given : (own : fits_timer period due ≡ true)
        → Gives bytes whole start (record { period = period; due = due; fits = own }) q
    timer-given own = leads.gives (record { period = period; due = due; fits = own }) q
        (due-given (fits_timer period due) refl own)

module _ (bytes : List ℕ) (unit : Code) (state place q : ℕ) (whole : Layout (Option ℕ)) (start : ℕ) where
  pub leaving-none : (flagged : ℕ) → flagged ≡ 0
      → Leads bytes (flagged_leaving unit state place flagged) q (λ to. to) whole start
      → Gives bytes whole start None q
  leaving-none zero none leads = leads-ends leads
  leaving-none (suc n) none leads = absurd (omega (arith, none))

  pub leaving-refused : (flagged : ℕ) → flagged ≢ 0 → handles unit state StateExit ≡ false
      → Leads bytes (flagged_leaving unit state place flagged) q (λ to. to) whole start
      → Faults bytes whole start (Body place)
  leaving-refused zero some none leads = absurd (some refl)
  leaving-refused (suc n) some none leads = leads.faults (Body place) (rw none refl)

  pub leaving-some : (flagged : ℕ) → flagged ≢ 0 → handles unit state StateExit ≡ true
      → Leads bytes (flagged_leaving unit state place flagged) q (λ to. to) whole start
      → Leads bytes (other_state unit state >>= λ to. Ends (Some to)) q (λ to. to) whole start
  leaving-some zero some has leads = absurd (some refl)
  leaving-some (suc n) some has leads = rw has at leads
