-- Posts leave all timers, and what happens to one script leaves those of the others.
use Rattle.std.proofs.Common.{◌≡◌, ℕ, ◌+◌, Bool, true, false, List, map, refl, ap, ◌∙◌}
use Rattle.std.specs.Prelude.{Option, Some, None, if◌then◌else◌, length, slice_get, slice_set}
use Rattle.std.proofs.lemmas.List.{map-set, set-set}
use Rattle.lsl_post.specs.declared.events.Event.{Event}
use Rattle.lsl_post.specs.Timing.{Timing, stopped}
use Rattle.lsl_post.specs.Told.{Told, quiet}
use Rattle.lsl_script.specs.Rules.{Rules}
use Rattle.lsl_script.specs.Scripts.{Script, post_to}
use Rattle.lsl_region.specs.Posting.{post_all, post_where, ring_at}
use Rattle.lsl_region.specs.Segments.{turn}
use Rattle.lsl_region.specs.Arrivals.{touch_prim}
use Rattle.lsl_region.specs.Worlds.{Member, World, at_member, changed_at}
use Rattle.lsl_region.proofs.Outlines.{map-set_same}
use Rattle.lsl_world.specs.Timers.{timing_in, timings_of}
use Rattle.lsl_world.proofs.Keeping.{IsKept, each-keeps, touch-keeps, turn-kept}

posted-timing : (r : Rules) (number : ℕ) (e : Event) (s : Script) (b : Bool)
    → (if b then post_to r number e s else quiet s).value.mailbox.timing ≡ s.mailbox.timing
posted-timing r number e s true = refl
posted-timing r number e s false = refl

-- what happens to a script leaves its timer
member-timings : (place : ℕ) (thing : Member → Told Script)
    → ((m : Member) → (thing m).value.mailbox.timing ≡ timing_in m) → (w : World)
    → timings_of (at_member place thing w).value ≡ timings_of w
member-timings place thing same w = go (slice_get w.members place) refl where
  go : (o : Option Member) → slice_get w.members place ≡ o
      → timings_of (changed_at place thing w o).value ≡ timings_of w
  go None at = refl
  go (Some m) at =
      map-set_same timing_in w.members place m (record m { script = (thing m).value }) at (same m)

pub post-timings : (r : Rules) (test : World → Member → Bool) (e : Event) (w : World)
    → timings_of (post_all r test e w).value ≡ timings_of w
post-timings r test e w =
    each-keeps timings_of (post_where r test e)
    (λ n x. member-timings n _ (λ m. posted-timing r (n + 1) e m.script (test x m)) x) (length w.members) 0 w

pub touch-timings : (r : Rules) (object : ℕ) (prim : Option ℕ) (key name : List ℕ) (w : World)
    → timings_of (touch_prim r object prim key name w).value ≡ timings_of w
touch-timings = touch-keeps timings_of post-timings

-- the timers, except that of the script at this place
abbrev pub others : ℕ → World → List Timing
others place w = slice_set (timings_of w) place stopped

set-others : (place : ℕ) (members : List Member) (m : Member)
    → slice_set (map timing_in (slice_set members place m)) place stopped
    ≡ slice_set (map timing_in members) place stopped
set-others place members m =
    ap (λ (ts : List Timing). slice_set ts place stopped) (map-set timing_in members place m)
    ∙ set-set (map timing_in members) place (timing_in m) stopped

pub member-others : (place : ℕ) (thing : Member → Told Script) (w : World)
    → others place (at_member place thing w).value ≡ others place w
member-others place thing w = go (slice_get w.members place) where
  go : (o : Option Member) → others place (changed_at place thing w o).value ≡ others place w
  go None = refl
  go (Some m) = set-others place w.members (record m { script = (thing m).value })

others-kept : (place : ℕ) → IsKept (others place) place
others-kept place = record {
  own = λ thing code w. member-others place thing w;
  mail = λ m done w at code. set-others place w.members (record m { script = done.0 });
  left = λ r test e w. ap (λ (ts : List Timing). slice_set ts place stopped) (post-timings r test e w);
  named = λ m name w. refl;
  store = λ m pairs w. refl;
}

pub turn-others : (r : Rules) (most place : ℕ) (w : World)
    → others place (turn r most place w).value.0 ≡ others place w
turn-others r most place w = turn-kept (others place) r place (others-kept place) most w

pub ring-others : (r : Rules) (place : ℕ) (w : World) → others place (ring_at r place w).value ≡ others place w
ring-others r place w = member-others place _ w
