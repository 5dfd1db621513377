-- Who says what, and who hears it, in the language's words.
use Rattle.std.specs.Prelude.{◌≡◌, ◌≢◌, ◌⊎◌, ℕ, ◌+◌, ℤ, true, List, [], ◌∷◌, Some, slice_get}
use Rattle.std.specs.List.{Any}
use Rattle.lsl_value.specs.declared.names.BuiltinId.{BuiltinId}
use Rattle.lsl_value.specs.declared.names.BuiltinId.TheVariants as builtin
use Rattle.lsl_value.specs.declared.tagged.Value.TheVariants as value
use Rattle.lsl_post.specs.declared.entries.Entry.TheVariants as entry
use Rattle.lsl_post.specs.declared.entries.Voice.{Voice}
use Rattle.lsl_post.specs.declared.filters.Filter.{Filter}
use Rattle.lsl_post.specs.declared.listen.Listen.{Listen}
use Rattle.lsl_post.specs.Filters.{filter, is_any_id}
use Rattle.lsl_post.specs.Told.{Told, lead}
use Rattle.lsl_script.specs.Rules.{Rules}
use Rattle.lsl_region.specs.declared.objects.Primitive.{Primitive}
use Rattle.lsl_region.specs.Answers.{answer_of, nothing, replied}
use Rattle.lsl_region.specs.Posting.{hears_said, said_to_all}
use Rattle.lsl_region.specs.Texts.{cut_name, cut_speech}
use Rattle.lsl_region.specs.Worlds.{Member, World, object_of, prim_of}

-- the script's own prim, be it the root or not
pub record IsPrimOf (w : World) (m : Member) (prim : Primitive) : Type 0 where
  pub object_there : slice_get w.objects m.object ≡ Some (object_of w m)
  pub prim_there : slice_get (object_of w m).prims m.prim ≡ Some prim

-- the line of the journal, and who hears it: the text, cut, with the prim's name and key
abbrev pub spoken : Rules → ℕ → Voice → Primitive → ℤ → List ℕ → World → Told World
spoken r place how prim channel text w =
    lead (entry.Chat (place + 1) how channel text ∷ []) (said_to_all r (filter channel prim.name prim.key text) w)

abbrev pub SpeaksAs : BuiltinId → Voice → Type 0
SpeaksAs id how =
    (r : Rules) (place : ℕ) (m : Member) (prim : Primitive) (channel : ℤ) (text : List ℕ) (w : World)
    → IsPrimOf w m prim
    → answer_of r place m id (value.Int channel ∷ value.Str text ∷ []) w
    ≡ replied nothing (spoken r place how prim channel (cut_speech text) w)

abbrev pub OwnersAreTold : Type 0
OwnersAreTold =
    (r : Rules) (place : ℕ) (m : Member) (text : List ℕ) (w : World)
    → answer_of r place m builtin.OwnerSay (value.Str text ∷ []) w
    ≡ record { value = (w, nothing); entries = entry.Owner (place + 1) (cut_speech text) ∷ [] }

-- a prim that is named has the name, cut, and keeps its key
abbrev pub PrimsAreNamed : Type 0
PrimsAreNamed =
    (r : Rules) (place : ℕ) (m : Member) (prim : Primitive) (text : List ℕ) (w : World) → IsPrimOf w m prim
    → prim_of (answer_of r place m builtin.SetObjectName (value.Str text ∷ []) w).value.0 m
    ≡ record { key = prim.key; name = cut_name text }

-- a listen asks what is said: it is active, on the channel, and each of name, id and message is wild or the one that
-- is said
pub record AsksWhatIsSaid (said : Filter) (l : Listen) : Type 0 where
  pub active : l.active ≡ true
  pub channel : l.channel ≡ said.channel
  pub name : (l.name ≡ []) ⊎ (l.name ≡ said.name)
  pub id : (is_any_id l.id ≡ true) ⊎ (l.id ≡ said.id)
  pub message : (l.message ≡ []) ⊎ (l.message ≡ said.message)

-- a script hears what another prim than its own says, by any of its listens
pub record Hears (said : Filter) (w : World) (m : Member) : Type 0 where
  pub apart : (prim_of w m).key ≢ said.id
  pub listen : Any (AsksWhatIsSaid said) m.script.mailbox.listens.list

abbrev pub ScriptsHearByTheirListens : Type 0
ScriptsHearByTheirListens =
    (said : Filter) (w : World) (m : Member)
    → (hears_said said w m ≡ true → Hears said w m) × (Hears said w m → hears_said said w m ≡ true)
