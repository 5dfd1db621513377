-- What a watch knows of the moments that were passed.
use Rattle.std.specs.Prelude.{◌≡◌, ℕ, nat_eq, List, ◌∷◌}
use Rattle.std.specs.HashSet.{contains}
use Rattle.lsl_seek.specs.Aims.{is_within, mark_before, stop_place, took_since}
use Rattle.lsl_seek.specs.Moments.{Moment}
use Rattle.lsl_seek.specs.declared.aim.Aim.{Aim}
use Rattle.lsl_seek.specs.declared.aim.Aim.TheVariants.{Outside}
use Rattle.lsl_seek.specs.declared.watch.Watch.{Watch}

-- the calls within the aim's call, as these moments have them
abbrev pub Encloses : Aim → Watch → List Moment → Type 0
Encloses (Outside script call) watch past = (q : ℕ) → contains nat_eq watch.inner q ≡ is_within call q past
Encloses _ watch past = Unit {0}

-- between two moments
pub record Watches (aim : Aim) (watch : Watch) (past : List Moment) : Type 0 where
  pub stop : watch.stop ≡ stop_place past
  pub taken : watch.is_taken ≡ took_since past
  pub before : watch.before ≡ mark_before past
  pub inner : Encloses aim watch past

-- at a moment: the calls are already those of it
pub record WatchesAt (aim : Aim) (watch : Watch) (m : Moment) (past : List Moment) : Type 0 where
  pub stop : watch.stop ≡ stop_place past
  pub taken : watch.is_taken ≡ took_since past
  pub before : watch.before ≡ mark_before past
  pub inner : Encloses aim watch (m ∷ past)
