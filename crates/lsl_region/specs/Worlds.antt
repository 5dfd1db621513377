-- A world of objects and scripts as their texts mean it: no instruction, frame or image is in it.
use Rattle.std.specs.Prelude.{ℕ, List, [], Option, Some, None, get_or, slice_get, slice_set}
use Rattle.lsl_notes.specs.declared.cards.Notecard.{Notecard}
use Rattle.lsl_post.specs.Told.{Told, as_value, quiet}
use Rattle.lsl_script.specs.Scripts.{Script}
use Rattle.lsl_region.specs.declared.objects.Linkset.{Linkset}
use Rattle.lsl_region.specs.declared.objects.Primitive.{Primitive}

-- a script with the places of its object and its prim, and its name
pub record Member : Type 0 where
  pub object : ℕ
  pub prim : ℕ
  pub name : List ℕ
  pub script : Script

-- the reading of the clock in milliseconds, the objects, the scripts, and the notecards. The numbers of objects and
-- scripts are one more than their places here
pub record World : Type 0 where
  pub clock : ℕ
  pub objects : List Linkset
  pub members : List Member
  pub cards : List Notecard

-- without objects, at this reading of the clock
abbrev pub empty_world : ℕ → World
empty_world clock = record { clock = clock; objects = []; members = []; cards = [] }

abbrev pub no_prim : Primitive
no_prim = record { key = []; name = [] }

abbrev pub no_object : Linkset
no_object = record { owner = []; region = []; prims = []; store = [] }

abbrev pub object_at : World → ℕ → Linkset
object_at w place = get_or w.objects place no_object

abbrev pub object_of : World → Member → Linkset
object_of w m = object_at w m.object

abbrev pub prim_at : List Primitive → ℕ → Primitive
prim_at prims place = get_or prims place no_prim

abbrev pub prim_of : World → Member → Primitive
prim_of w m = prim_at (object_of w m).prims m.prim

abbrev pub with_member : World → ℕ → Member → World
with_member w place m = record w { members = slice_set w.members place m }

abbrev pub with_object : World → ℕ → Linkset → World
with_object w place o = record w { objects = slice_set w.objects place o }

abbrev pub changed_at : ℕ → (Member → Told Script) → World → Option Member → Told World
changed_at place thing w None = quiet w
changed_at place thing w (Some m) = as_value (λ s. with_member w place (record m { script = s })) (thing m)

-- the script at this place changes
abbrev pub at_member : ℕ → (Member → Told Script) → World → Told World
at_member place thing w = changed_at place thing w (slice_get w.members place)
