-- Events that are posted to scripts, in the order of their numbers.
use Rattle.std.specs.Prelude.{ℕ, ◌+◌, ◌-◌, ℤ, Bool, not, ◌&&◌, nat_eq, if◌then◌else◌, List, [], ◌∷◌, length, None, refl}
use Rattle.std.specs.Str.{bytes_eq}
use Rattle.lsl_value.specs.declared.names.EventId.TheVariants as event
use Rattle.lsl_value.specs.declared.tagged.Value.TheVariants as value
use Rattle.lsl_post.specs.declared.events.Event.{Event}
use Rattle.lsl_post.specs.declared.filters.Filter.{Filter}
use Rattle.lsl_post.specs.Listens.{Standing, hears}
use Rattle.lsl_post.specs.Mailbox.{mailbox_hears}
use Rattle.lsl_post.specs.Told.{Told, each, quiet}
use Rattle.lsl_script.specs.Rules.{Rules}
use Rattle.lsl_script.specs.Scripts.{post_to, ring_to}
use Rattle.lsl_region.specs.declared.notice.Audience.{Audience}
use Rattle.lsl_region.specs.declared.notice.Audience.TheVariants.{Hearers, Prim as InPrim, Object as InObject, Linked}
use Rattle.lsl_region.specs.Links.{is_for}
use Rattle.lsl_region.specs.Worlds.{Member, World, at_member, prim_of}

-- to the script at this place, where the test holds of it
abbrev pub post_where : Rules → (World → Member → Bool) → Event → ℕ → World → Told World
post_where r test e place w =
    at_member place (λ m. if test w m then post_to r (place + 1) e m.script else quiet m.script) w

-- to those scripts from one place up to another of which it holds
abbrev pub post_between : Rules → (World → Member → Bool) → Event → (first end : ℕ) → World → Told World
post_between r test e first end w = each (post_where r test e) (end - first) first w

-- to all scripts of which it holds
abbrev pub post_all : Rules → (World → Member → Bool) → Event → World → Told World
post_all r test e w = each (post_where r test e) (length w.members) 0 w

abbrev pub listen_event : Filter → Event
listen_event said = record {
  id = event.Listen;
  args = value.Int said.channel ∷ value.Str said.name ∷ value.Key said.id ∷ value.Str said.message ∷ [];
  toucher = None;
  fits = refl;
}

-- a script hears what is said on a channel under this name and this key, unless its own prim says it
abbrev pub hears_said : Filter → World → Member → Bool
hears_said said w m = not (bytes_eq (prim_of w m).key said.id) && mailbox_hears said m.script.mailbox

-- whether a script in this prim of this object, with this key and these listens, hears, or is meant
abbrev pub is_admitted : Audience → (object prim : ℕ) → List ℕ → Standing → Bool
is_admitted (Hearers said) object prim key listens = not (bytes_eq key said.id) && hears said listens
is_admitted (InPrim of at) object prim key listens = nat_eq object of && nat_eq prim at
is_admitted (InObject of) object prim key listens = nat_eq object of
is_admitted (Linked of count sender number) object prim key listens =
    nat_eq object of && is_for count sender number prim

abbrev pub admits : Audience → World → Member → Bool
admits a w m = is_admitted a m.object m.prim (prim_of w m).key m.script.mailbox.listens

abbrev pub said_to_all : Rules → Filter → World → Told World
said_to_all r said w = post_all r (hears_said said) (listen_event said) w

abbrev pub message_event : ℤ → ℤ → List ℕ → List ℕ → Event
message_event sender number text key = record {
  id = event.LinkMessage;
  args = value.Int sender ∷ value.Int number ∷ value.Str text ∷ value.Key key ∷ [];
  toucher = None;
  fits = refl;
}

-- the timers are read, one script's after another's
abbrev pub ring_at : Rules → ℕ → World → Told World
ring_at r place w = at_member place (λ m. ring_to r (place + 1) w.clock m.script) w

abbrev pub ring_all : Rules → World → Told World
ring_all r w = each (ring_at r) (length w.members) 0 w
