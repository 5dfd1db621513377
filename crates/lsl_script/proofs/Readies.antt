-- A script that is ready can wake.
use Rattle.std.proofs.Common.{◌≡◌, ℕ, List, [], ◌∷◌, true, ◌||◌, Option, None, Some, length, refl}
use Rattle.std.specs.Prelude.{is_some, nat_lt}
use Rattle.lsl_post.specs.declared.events.Event.{Event}
use Rattle.lsl_post.specs.declared.parts.Rest.{Rest}
use Rattle.lsl_post.specs.declared.parts.Rest.TheVariants.{Idle, Saved, Dead}
use Rattle.lsl_post.specs.declared.parts.ScriptParts.{ScriptParts}
use Rattle.lsl_script.specs.Fitting.{are_ready, can_run}
use Rattle.lsl_script.specs.Waking.{CanWake, CanWakeFrom, event_in}

some_due : (leaving : Option ℕ) (queue : List Event) → (is_some leaving || nat_lt 0 (length queue)) ≡ true
    → is_some (event_in leaving queue) ≡ true
some_due (Some to) queue e = refl
some_due None [] e = absurd cc
some_due None (x ∷ queue) e = refl

wakes_from : (clock : ℕ) (parts : ScriptParts) (rest : Rest) → can_run clock parts rest ≡ true → CanWakeFrom parts rest
wakes_from clock parts Idle e = some_due parts.leaving parts.queue e
wakes_from clock parts (Saved event frames) e = tt
wakes_from clock parts (Dead fault) e = absurd cc

pub ready_wakes : (clock : ℕ) (parts : ScriptParts) → are_ready clock parts ≡ true → CanWake parts
ready_wakes clock parts e = wakes_from clock parts parts.rest e
