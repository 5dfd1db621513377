-- What a script receives of notecards, which are found by the number of its prim among all prims of the world.
use Rattle.std.specs.Prelude.{ℕ, ◌+◌, pos, List, [], ◌∷◌, length, Option, Some, None, refl, sum_by, take}
use Rattle.lsl_text.specs.Number.{decimal_of}
use Rattle.lsl_value.specs.declared.names.EventId.TheVariants as event
use Rattle.lsl_value.specs.declared.tagged.Value.TheVariants as value
use Rattle.lsl_notes.specs.declared.cards.Notecard.{Notecard}
use Rattle.lsl_notes.specs.Notecards.{data_of, number_of}
use Rattle.lsl_post.specs.declared.events.Event.{Event}
use Rattle.lsl_region.specs.declared.objects.Linkset.{Linkset}

-- how many prims these objects have
abbrev pub prims_in : List Linkset → ℕ
prims_in objects = sum_by (λ o. length o.prims) objects

-- the number of the notecard of a name in the prim at this place of the object at this place, where prims are numbered
-- from 1 on through all objects
abbrev pub card_of : List Notecard → List Linkset → (object prim : ℕ) → List ℕ → Option ℕ
card_of cards objects object prim name = number_of cards (prims_in (take object objects) + prim + 1) name

-- the answer of a query, with its key and a text
abbrev pub data_event : List ℕ → List ℕ → Event
data_event query text = record {
  id = event.Dataserver;
  args = value.Key query ∷ value.Str text ∷ [];
  toucher = None;
  fits = refl;
}

-- of a line, or of the number of lines
abbrev pub data_told : List (List ℕ) → Option ℕ → List ℕ
data_told card (Some line) = data_of card line
data_told card None = decimal_of (pos (length card))
