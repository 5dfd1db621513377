-- What a touch is, in the language's words.
use Rattle.std.specs.Prelude.{◌≡◌, ℕ, pos, true, false, [], ◌∷◌, Some, slice_get}
use Rattle.lsl_value.specs.declared.names.EventId.TheVariants as event
use Rattle.lsl_value.specs.declared.tagged.Value.TheVariants as value
use Rattle.lsl_post.specs.declared.events.Event.{Event}
use Rattle.lsl_post.specs.declared.events.Toucher.{Toucher}
use Rattle.lsl_post.specs.Told.{each_of}
use Rattle.lsl_script.specs.Rules.{Rules}
use Rattle.lsl_region.specs.Arrivals.{handles_touch, is_in_prim, touched, touched_prim}
use Rattle.lsl_region.specs.Posting.{post_all}
use Rattle.lsl_region.specs.Worlds.{Member, World}

-- an event of one touch by this toucher
pub record IsTouchOf (t : Toucher) (e : Event) : Type 0 where
  pub count : e.args ≡ value.Int (pos 1) ∷ []
  pub toucher : e.toucher ≡ Some t

-- touch_start, touch and touch_end, in this order
pub record AreTouchEvents (t : Toucher) (first second third : Event) : Type 0 where
  pub order : first.id ∷ second.id ∷ third.id ∷ [] ≡ event.TouchStart ∷ event.Touch ∷ event.TouchEnd ∷ []
  pub first_is : IsTouchOf t first
  pub second_is : IsTouchOf t second
  pub third_is : IsTouchOf t third

-- each event goes to all scripts of the prim before the next one
pub record IsTouch (r : Rules) (object prim : ℕ) (t : Toucher) (w : World) : Type 0 where
  pub first : Event
  pub second : Event
  pub third : Event
  pub are : AreTouchEvents t first second third
  pub posted : touched r object prim t w
      ≡ each_of (λ e v. post_all r (is_in_prim object prim) e v) (first ∷ second ∷ third ∷ []) w

abbrev pub TouchesAreThreeEvents : Type 0
TouchesAreThreeEvents = (r : Rules) (object prim : ℕ) (t : Toucher) (w : World) → IsTouch r object prim t w

-- the script is in the prim at this place of the object at this place
pub record IsIn (object prim : ℕ) (m : Member) : Type 0 where
  pub in_object : m.object ≡ object
  pub in_prim : m.prim ≡ prim

-- a touch is for the prim where one of its scripts has a handler of a touch in its state, otherwise for the root
abbrev pub TouchesGoToThePrim : Type 0
TouchesGoToThePrim =
    (r : Rules) (w : World) (object prim n : ℕ) (m : Member) → slice_get w.members n ≡ Some m → IsIn object prim m
    → handles_touch r m ≡ true → touched_prim r w object prim ≡ prim

abbrev pub TouchesGoToTheRoot : Type 0
TouchesGoToTheRoot =
    (r : Rules) (w : World) (object prim : ℕ)
    → ((n : ℕ) (m : Member) → slice_get w.members n ≡ Some m → IsIn object prim m → handles_touch r m ≡ false)
    → touched_prim r w object prim ≡ 0
