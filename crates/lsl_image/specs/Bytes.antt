-- The bytes of what an image holds, in either version.
use Rattle.std.specs.Prelude.{ℕ, ◌+◌, ◌==◌, Bool, true, false, if◌then◌else◌, List, [], ◌++◌, length, codes, Option, Some, None, slice_get}
use Rattle.std.specs.List.{flat_map}
use Rattle.sha2.specs.Sha256.{sha256}
use Rattle.lsl_value.specs.declared.tagged.Value.{Value}
use Rattle.lsl_running.specs.declared.ends.Fault.{Fault}
use Rattle.lsl_running.specs.declared.ends.Fault.TheVariants.{MathError, StackHeap, TooManyListens}
use Rattle.lsl_code.specs.declared.frames.Frame.{Frame}
use Rattle.lsl_code.specs.declared.woven_units.Woven.{Woven as Code}
use Rattle.lsl_code.specs.Units.{event_number}
use Rattle.lsl_post.specs.declared.events.Event.{Event}
use Rattle.lsl_post.specs.declared.events.Toucher.{Toucher}
use Rattle.lsl_post.specs.declared.listen.Listen.{Listen}
use Rattle.lsl_post.specs.declared.parts.Pair.{Pair}
use Rattle.lsl_post.specs.declared.parts.Rest.{Rest}
use Rattle.lsl_post.specs.declared.parts.Rest.TheVariants.{Idle, Saved, Dead}
use Rattle.lsl_post.specs.declared.parts.ScriptParts.{ScriptParts}
use Rattle.lsl_post.specs.declared.timer.Timer.{Timer}
use Rattle.lsl_post.specs.Listens.{Standing}
use Rattle.lsl_bytes.specs.Fields.{i32_bytes, text_bytes, u8_bytes, u16_bytes, u32_bytes, u64_bytes, value_bytes}
use Rattle.lsl_image.specs.declared.parts.ObjectParts.{ObjectParts}
use Rattle.lsl_image.specs.declared.parts.Placed.{Placed}
use Rattle.lsl_image.specs.declared.parts.WorldParts.{WorldParts}
use Rattle.lsl_image.specs.Object.{key_bytes}

abbrev pub values_bytes : List Value → List ℕ
values_bytes values = flat_map value_bytes values

unfoldable pub told_bytes : Toucher → List ℕ
told_bytes who = text_bytes who.key ++ text_bytes who.name ++ i32_bytes who.link

abbrev pub toucher_bytes : Option Toucher → List ℕ
toucher_bytes None = u8_bytes 0
toucher_bytes (Some who) = u8_bytes 1 ++ told_bytes who

unfoldable pub event_bytes : Event → List ℕ
event_bytes e = u8_bytes (event_number e.id) ++ values_bytes e.args ++ toucher_bytes e.toucher

unfoldable pub queue_bytes : List Event → List ℕ
queue_bytes events = u8_bytes (length events) ++ flat_map event_bytes events

abbrev pub flag_of : Bool → ℕ
flag_of true = 1
flag_of false = 0

unfoldable pub listen_bytes : Listen → List ℕ
listen_bytes l =
    i32_bytes l.number ++ u8_bytes (flag_of l.active) ++ i32_bytes l.channel ++ text_bytes l.name ++ text_bytes l.id
    ++ text_bytes l.message

unfoldable pub listens_bytes : Standing → List ℕ
listens_bytes s = i32_bytes s.next ++ u8_bytes (length s.list) ++ flat_map listen_bytes s.list

unfoldable pub timer_bytes : Timer → List ℕ
timer_bytes t = u32_bytes t.period ++ u64_bytes t.due

abbrev pub leaving_bytes : Option ℕ → List ℕ
leaving_bytes None = u8_bytes 0
leaving_bytes (Some to) = u8_bytes 1 ++ u16_bytes to

unfoldable pub frame_bytes : Frame → List ℕ
frame_bytes f = u16_bytes f.function ++ u16_bytes f.point ++ values_bytes f.slots

unfoldable pub calls_bytes : List Frame → List ℕ
calls_bytes frames = u16_bytes (length frames) ++ flat_map frame_bytes frames

abbrev pub fault_number : Fault → ℕ
fault_number MathError = 1
fault_number StackHeap = 2
fault_number TooManyListens = 3

abbrev pub rest_bytes : Rest → List ℕ
rest_bytes Idle = u8_bytes 0
rest_bytes (Saved e frames) = u8_bytes 1 ++ event_bytes e ++ calls_bytes frames
rest_bytes (Dead fault) = u8_bytes 2 ++ u8_bytes (fault_number fault)

-- version 1 has no limit
abbrev pub limit_bytes : ℕ → ℕ → List ℕ
limit_bytes version most = if version == 1 then [] else u32_bytes most

-- what a script waits for, and what it rests in
unfoldable pub waiting_bytes : ℕ → ScriptParts → List ℕ
waiting_bytes version s =
    queue_bytes s.queue ++ listens_bytes s.listens ++ timer_bytes s.timer ++ u64_bytes s.wake
    ++ limit_bytes version s.limit ++ rest_bytes s.rest

-- a script of a unit with this digest of its text
unfoldable pub script_bytes : ℕ → List ℕ → ScriptParts → List ℕ
script_bytes version digest s =
    digest ++ u16_bytes s.state ++ leaving_bytes s.leaving ++ values_bytes s.globals ++ waiting_bytes version s

abbrev pub digest_of : Option Code → List ℕ
digest_of None = []
digest_of (Some unit) = unit.digest

abbrev pub library_script_bytes : ℕ → List Code → ScriptParts → List ℕ
library_script_bytes version library s = script_bytes version (digest_of (slice_get library s.unit)) s

unfoldable pub both_bytes : Pair → List ℕ
both_bytes p = text_bytes p.name ++ text_bytes p.value

-- version 1 has no store
abbrev pub store_bytes : ℕ → List Pair → List ℕ
store_bytes version pairs = if version == 1 then [] else u16_bytes (length pairs) ++ flat_map both_bytes pairs

abbrev pub uuid_bytes : Option (List ℕ) → List ℕ
uuid_bytes None = []
uuid_bytes (Some id) = id

unfoldable pub names_bytes : List (List ℕ) → List ℕ
names_bytes names = u8_bytes (length names) ++ flat_map text_bytes names

unfoldable pub scripts_bytes : ℕ → List Code → List ScriptParts → List ℕ
scripts_bytes version library scripts =
    u16_bytes (length scripts) ++ flat_map (library_script_bytes version library) scripts

unfoldable pub body_bytes : ℕ → List Code → ObjectParts → List ℕ
body_bytes version library o =
    uuid_bytes (key_bytes o.key) ++ names_bytes o.names ++ scripts_bytes version library o.scripts
    ++ store_bytes version o.store

-- version 1 doesn't name the region that sends an object
abbrev pub sender_bytes : ℕ → List ℕ → List ℕ
sender_bytes version region = if version == 1 then [] else text_bytes region

unfoldable pub placed_bytes : ℕ → List Code → Placed → List ℕ
placed_bytes version library p = text_bytes p.region ++ body_bytes version library p.object

unfoldable pub objects_bytes : ℕ → List Code → WorldParts → List ℕ
objects_bytes version library w =
    u64_bytes w.clock ++ u8_bytes (length w.objects) ++ flat_map (placed_bytes version library) w.objects

-- the letters, the version and the size of the whole: what comes before the fields, and the digest after them
unfoldable pub head_bytes : List ℕ → ℕ → ℕ → List ℕ
head_bytes letters version size = letters ++ u16_bytes version ++ u64_bytes size

abbrev pub digested_bytes : List ℕ → List ℕ
digested_bytes bytes = bytes ++ sha256 bytes

-- an image with these fields
unfoldable pub image_bytes : List ℕ → ℕ → List ℕ → List ℕ
image_bytes letters version fields =
    digested_bytes (head_bytes letters version (14 + length fields + 32) ++ fields)

abbrev pub object_image : ℕ → List ℕ → List Code → ObjectParts → List ℕ
object_image version region library o =
    image_bytes (codes "LSLO") version (sender_bytes version region ++ body_bytes version library o)

abbrev pub world_image : ℕ → List Code → WorldParts → List ℕ
world_image version library w = image_bytes (codes "LSLW") version (objects_bytes version library w)
