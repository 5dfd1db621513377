-- Small images, before their digests, and parts of images.
use Rattle.std.specs.Prelude.{refl, ℕ, pos, negsuc, true, List, [], ◌∷◌, Some, codes, take}
use Rattle.lsl_value.specs.declared.names.EventId.{EventId}
use Rattle.lsl_value.specs.declared.names.EventId.TheVariants as event
use Rattle.lsl_value.specs.declared.tagged.Value.TheVariants.{Int, Str, Key}
use Rattle.lsl_running.specs.declared.ends.Fault.{Fault}
use Rattle.lsl_running.specs.declared.ends.Fault.TheVariants.{MathError, StackHeap, TooManyListens}
use Rattle.lsl_post.specs.declared.events.Event.{Event}
use Rattle.lsl_post.specs.declared.listen.Listen.{Listen}
use Rattle.lsl_post.specs.declared.parts.Rest.{Rest}
use Rattle.lsl_post.specs.declared.parts.Rest.TheVariants.{Saved, Dead}
use Rattle.lsl_post.specs.declared.parts.ScriptParts.{ScriptParts}
use Rattle.lsl_post.specs.Listens.{standing}
use Rattle.lsl_image.specs.declared.parts.ObjectParts.{ObjectParts}
use Rattle.lsl_image.specs.declared.parts.Shape.{Shape}
use Rattle.lsl_image.specs.declared.parts.WorldParts.{WorldParts}

abbrev pub empty_world : WorldParts
empty_world = record { clock = 1; objects = [] }

-- the letters, the version, the size of the whole, the clock, the count of objects
abbrev pub world_bytes : ℕ → List ℕ
world_bytes version =
    76 ∷ 83 ∷ 76 ∷ 87 ∷ 0 ∷ version ∷ 0 ∷ 0 ∷ 0 ∷ 0 ∷ 0 ∷ 0 ∷ 0 ∷ 55 ∷ 0 ∷ 0 ∷ 0 ∷ 0 ∷ 0 ∷ 0 ∷ 0 ∷ 1 ∷ 0 ∷ []

abbrev pub empty_world_bytes : List ℕ
empty_world_bytes = world_bytes 1

abbrev pub later_world_bytes : List ℕ
later_world_bytes = world_bytes 2

-- an object of one prim, without scripts
abbrev pub bare_shape : Shape
bare_shape = record { key = codes "00000000-0000-0000-0000-0000000001aB"; prims = 1; units = [] }

abbrev pub bare_object : ObjectParts
bare_object = record { key = bare_shape.key; names = codes "b" ∷ []; scripts = []; store = [] }

-- the letters, the version, the size of the whole, the region, the key, the prims, the scripts, the pairs
abbrev pub bare_bytes : List ℕ
bare_bytes =
    76 ∷ 83 ∷ 76 ∷ 79 ∷ 0 ∷ 2 ∷ 0 ∷ 0 ∷ 0 ∷ 0 ∷ 0 ∷ 0 ∷ 0 ∷ 77 ∷ 0 ∷ 0 ∷ 0 ∷ 1 ∷ 65 ∷
    0 ∷ 0 ∷ 0 ∷ 0 ∷ 0 ∷ 0 ∷ 0 ∷ 0 ∷ 0 ∷ 0 ∷ 0 ∷ 0 ∷ 0 ∷ 0 ∷ 1 ∷ 171 ∷ 1 ∷ 0 ∷ 0 ∷ 0 ∷ 1 ∷ 98 ∷
    0 ∷ 0 ∷ 0 ∷ 0 ∷ []

-- a touch with one argument, by a toucher of this key and name, of this prim
abbrev pub touched : Event
touched = record {
  id = event.Touch;
  args = Int (pos 1) ∷ [];
  toucher = Some (record { key = codes "k"; name = codes "n"; link = pos 3 });
  fits = refl;
}

abbrev pub listening : Listen
listening = record {
  number = pos 7;
  active = true;
  channel = negsuc 0;
  name = codes "a";
  id = codes "b";
  message = codes "c";
}

-- a script with something in each field
abbrev pub busy_script : ScriptParts
busy_script = record {
  unit = 0;
  globals = Int (negsuc 1) ∷ Str (codes "s") ∷ Key (codes "k") ∷ [];
  limit = 1064;
  state = 1;
  leaving = Some 2;
  queue = touched ∷ [];
  listens = standing (pos 8) (listening ∷ []);
  timer = record { period = 2; due = 3; fits = refl };
  wake = 4;
  rest = Dead TooManyListens;
}

-- the state, the state that it leaves for, the globals; the touch; the next number and the listen; the timer, the time
-- of waking, the limit, the fault
abbrev pub busy_bytes : List ℕ
busy_bytes =
    0 ∷ 1 ∷ 1 ∷ 0 ∷ 2 ∷ 1 ∷ 255 ∷ 255 ∷ 255 ∷ 254 ∷ 3 ∷ 0 ∷ 0 ∷ 0 ∷ 1 ∷ 115 ∷ 4 ∷ 0 ∷ 0 ∷ 0 ∷ 1 ∷ 107 ∷
    1 ∷ 4 ∷ 1 ∷ 0 ∷ 0 ∷ 0 ∷ 1 ∷ 1 ∷ 0 ∷ 0 ∷ 0 ∷ 1 ∷ 107 ∷ 0 ∷ 0 ∷ 0 ∷ 1 ∷ 110 ∷ 0 ∷ 0 ∷ 0 ∷ 3 ∷
    0 ∷ 0 ∷ 0 ∷ 8 ∷ 1 ∷ 0 ∷ 0 ∷ 0 ∷ 7 ∷ 1 ∷ 255 ∷ 255 ∷ 255 ∷ 255 ∷
    0 ∷ 0 ∷ 0 ∷ 1 ∷ 97 ∷ 0 ∷ 0 ∷ 0 ∷ 1 ∷ 98 ∷ 0 ∷ 0 ∷ 0 ∷ 1 ∷ 99 ∷
    0 ∷ 0 ∷ 0 ∷ 2 ∷ 0 ∷ 0 ∷ 0 ∷ 0 ∷ 0 ∷ 0 ∷ 0 ∷ 3 ∷ 0 ∷ 0 ∷ 0 ∷ 0 ∷ 0 ∷ 0 ∷ 0 ∷ 4 ∷ 0 ∷ 0 ∷ 4 ∷ 40 ∷ 2 ∷ 3 ∷ []

-- the handler of that touch was cut in its only call
abbrev pub saved_touch : Rest
saved_touch = Saved touched (record { function = 5; point = 6; slots = Int (pos 1) ∷ [] } ∷ [])

-- the current event; the count of calls; the function, the point and the value
abbrev pub saved_bytes : List ℕ
saved_bytes =
    1 ∷ 4 ∷ 1 ∷ 0 ∷ 0 ∷ 0 ∷ 1 ∷ 1 ∷ 0 ∷ 0 ∷ 0 ∷ 1 ∷ 107 ∷ 0 ∷ 0 ∷ 0 ∷ 1 ∷ 110 ∷ 0 ∷ 0 ∷ 0 ∷ 3 ∷
    0 ∷ 1 ∷ 0 ∷ 5 ∷ 0 ∷ 6 ∷ 1 ∷ 0 ∷ 0 ∷ 0 ∷ 1 ∷ []

abbrev pub each_fault : List Fault
each_fault = MathError ∷ StackHeap ∷ TooManyListens ∷ []

abbrev pub each_event : List EventId
each_event =
    event.StateEntry ∷ event.StateExit ∷ event.TouchStart ∷ event.Touch ∷ event.TouchEnd ∷ event.Listen ∷ event.Timer ∷
    event.LinkMessage ∷ event.Changed ∷ event.OnRez ∷ event.Dataserver ∷ event.LinksetData ∷ []

abbrev pub numbers_up_to : ℕ → List ℕ
numbers_up_to n = take n (1 ∷ 2 ∷ 3 ∷ 4 ∷ 5 ∷ 6 ∷ 7 ∷ 8 ∷ 9 ∷ 10 ∷ 11 ∷ 12 ∷ [])
