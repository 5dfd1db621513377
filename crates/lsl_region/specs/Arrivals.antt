-- What comes from outside: chat, touches, changes, rezzing, and readings of the clock.
use Rattle.std.specs.Prelude.{ℕ, ℤ, pos, Bool, ◌&&◌, ◌||◌, max, nat_eq, if◌then◌else◌, List, [], ◌∷◌, length, Option, Some, None, refl}
use Rattle.std.specs.List.{list_any}
use Rattle.lsl_value.specs.declared.names.EventId.{EventId}
use Rattle.lsl_value.specs.declared.names.EventId.TheVariants as event
use Rattle.lsl_value.specs.declared.tagged.Value.TheVariants as value
use Rattle.lsl_post.specs.declared.events.Event.{Event}
use Rattle.lsl_post.specs.declared.events.Toucher.{Toucher}
use Rattle.lsl_post.specs.Filters.{filter}
use Rattle.lsl_post.specs.Told.{Told, next_to, quiet}
use Rattle.lsl_script.specs.Rules.{Rules}
use Rattle.lsl_script.specs.Scripts.{handles}
use Rattle.lsl_region.specs.Links.{link_of, prim_named}
use Rattle.lsl_region.specs.Posting.{post_all, ring_all, said_to_all}
use Rattle.lsl_region.specs.Texts.{cut_speech}
use Rattle.lsl_region.specs.Worlds.{Member, World, object_at}

-- someone with this name and key says a text
abbrev pub say : Rules → ℤ → (name key text : List ℕ) → World → Told World
say r channel name key text w = said_to_all r (filter channel name key (cut_speech text)) w

abbrev pub is_in_object : ℕ → World → Member → Bool
is_in_object object w m = nat_eq m.object object

abbrev pub is_in_prim : ℕ → ℕ → World → Member → Bool
is_in_prim object prim w m = nat_eq m.object object && nat_eq m.prim prim

-- the three events of a touch
abbrev pub touch_start : Toucher → Event
touch_start t = record { id = event.TouchStart; args = value.Int (pos 1) ∷ []; toucher = Some t; fits = refl }

abbrev pub touch_held : Toucher → Event
touch_held t = record { id = event.Touch; args = value.Int (pos 1) ∷ []; toucher = Some t; fits = refl }

abbrev pub touch_end : Toucher → Event
touch_end t = record { id = event.TouchEnd; args = value.Int (pos 1) ∷ []; toucher = Some t; fits = refl }

abbrev pub handles_touch : Rules → Member → Bool
handles_touch r m =
    handles r m.script.code m.script.state event.TouchStart || handles r m.script.code m.script.state event.Touch
    || handles r m.script.code m.script.state event.TouchEnd

-- the prim that receives a touch: the root if no script of the touched prim handles a touch
abbrev pub touched_prim : Rules → World → ℕ → ℕ → ℕ
touched_prim r w object prim =
    if list_any (λ m. is_in_prim object prim w m && handles_touch r m) w.members then prim else 0

-- event by event, each to all scripts of the prim
abbrev pub touched : Rules → ℕ → ℕ → Toucher → World → Told World
touched r object prim t w =
    next_to (post_all r (is_in_prim object prim) (touch_start t) w)
    (λ v. next_to (post_all r (is_in_prim object prim) (touch_held t) v)
    (λ u. post_all r (is_in_prim object prim) (touch_end t) u))

abbrev pub toucher_of : ℕ → ℕ → (key name : List ℕ) → Toucher
toucher_of count prim key name = record { key = key; name = name; link = pos (link_of count prim) }

abbrev pub touch_prim : Rules → ℕ → Option ℕ → (key name : List ℕ) → World → Told World
touch_prim r object None key name w = quiet w
touch_prim r object (Some prim) key name w =
    touched r object (touched_prim r w object prim)
    (toucher_of (length (object_at w object).prims) prim key name) w

-- someone touches the prim of this number of the object at this place
abbrev pub touch : Rules → ℕ → ℕ → (key name : List ℕ) → World → Told World
touch r object link key name w =
    touch_prim r object (prim_named (length (object_at w object).prims) (pos link)) key name w

abbrev pub changed_event : ℤ → Event
changed_event flags = record { id = event.Changed; args = value.Int flags ∷ []; toucher = None; fits = refl }

abbrev pub rez_event : ℤ → Event
rez_event n = record { id = event.OnRez; args = value.Int n ∷ []; toucher = None; fits = refl }

-- an event that is posted to a whole object
abbrev pub IsObjectEvent : EventId → Type 0
IsObjectEvent event.Changed = Unit {0}
IsObjectEvent event.OnRez = Unit {0}
IsObjectEvent id = ⊥

-- an event for all scripts of an object
abbrev pub post_object : Rules → ℕ → Event → World → Told World
post_object r object e w = post_all r (is_in_object object) e w

-- the clock never goes back; then all timers are read
abbrev pub read_clock : Rules → ℕ → World → Told World
read_clock r clock w = ring_all r (record w { clock = max w.clock clock })
