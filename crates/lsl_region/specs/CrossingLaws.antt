-- What a crossing is, in the language's words.
use Rattle.std.specs.Prelude.{◌≡◌, ◌≢◌, ℕ, ◌<◌, true, false, List, [], ◌∷◌, length}
use Rattle.lsl_value.specs.declared.names.ConstantId.TheVariants.{ChangedRegion}
use Rattle.lsl_value.specs.declared.names.EventId.TheVariants.{Changed}
use Rattle.lsl_table.specs.Constants.{constant_value_of}
use Rattle.lsl_post.specs.declared.events.Event.{Event}
use Rattle.lsl_post.specs.Told.{quiet}
use Rattle.lsl_script.specs.Rules.{Rules}
use Rattle.lsl_region.specs.Arrivals.{post_object}
use Rattle.lsl_region.specs.Journeys.{cross, is_in_region}
use Rattle.lsl_region.specs.Worlds.{World, object_at}

-- the event `changed`, of a region
pub record TellsOfRegion (e : Event) : Type 0 where
  pub changed : e.id ≡ Changed
  pub flag : e.args ≡ constant_value_of ChangedRegion ∷ []

-- the object is there, all others are where they were, and then its scripts get one event
pub record IsMove (r : Rules) (place : ℕ) (region : List ℕ) (w there : World) (e : Event) : Type 0 where
  pub moved : (object_at there place).region ≡ region
  pub others : (other : ℕ) → other ≢ place → object_at there other ≡ object_at w other
  pub event : TellsOfRegion e
  pub told : cross r place region w ≡ post_object r place e there

abbrev pub CrossingsAreOneEvent : Type 0
CrossingsAreOneEvent =
    (r : Rules) (place : ℕ) (region : List ℕ) (w : World) → place < length w.objects
    → is_in_region w place region ≡ false → (there : World) × (e : Event) × IsMove r place region w there e

-- to the region in which it is, nothing
abbrev pub CrossingsToTheSameRegionAreNone : Type 0
CrossingsToTheSameRegionAreNone =
    (r : Rules) (place : ℕ) (region : List ℕ) (w : World) → is_in_region w place region ≡ true
    → cross r place region w ≡ quiet w
