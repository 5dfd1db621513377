-- What calls do to an object's store: their answers, and the events that the object's scripts get.
use Rattle.std.specs.Prelude.{ℕ, ◌-◌, ℤ, pos, List, [], ◌∷◌, Option, Some, None, refl, unwrap_or}
use Rattle.lsl_value.specs.declared.names.EventId.TheVariants as event
use Rattle.lsl_value.specs.declared.tagged.Value.TheVariants as value
use Rattle.lsl_post.specs.declared.events.Event.{Event}
use Rattle.lsl_post.specs.declared.parts.Pair.{Pair}
use Rattle.lsl_image.specs.Object.{most_store_bytes}
use Rattle.lsl_data.specs.declared.answers.Wrote.{Wrote}
use Rattle.lsl_data.specs.declared.answers.Wrote.TheVariants.{Stored, Deleted, NoKey, NotFound, Same, Full}
use Rattle.lsl_data.specs.Pairs.{bytes_of, value_at}
use Rattle.lsl_region.specs.declared.store_calls.Change.{Change}

-- the event of a change: its number, a name and a value
abbrev pub store_event : ℤ → List ℕ → List ℕ → Event
store_event how name text = record {
  id = event.LinksetData;
  args = value.Int how ∷ value.Str name ∷ value.Str text ∷ [];
  toucher = None;
  fits = refl;
}

-- the answer of a write or a delete
abbrev pub number_of : Wrote → ℤ
number_of Stored = pos 0
number_of Deleted = pos 0
number_of Full = pos 1
number_of NoKey = pos 2
number_of NotFound = pos 4
number_of Same = pos 5

-- scripts get 1 with a name that has a value now, and 2 with one that is gone
abbrev pub told_of : Wrote → List ℕ → List ℕ → Option Event
told_of Stored name text = Some (store_event (pos 1) name text)
told_of Deleted name text = Some (store_event (pos 2) name [])
told_of NoKey name text = None
told_of NotFound name text = None
told_of Same name text = None
told_of Full name text = None

abbrev pub change_of : Wrote → List ℕ → List ℕ → Change
change_of wrote name text = record {
  answer = Some (value.Int (number_of wrote));
  told = told_of wrote name text;
}

-- and 0 with a store that was emptied
abbrev pub reset_change : Change
reset_change = record { answer = None; told = Some (store_event (pos 0) [] []) }

abbrev pub no_change : Change
no_change = record { answer = None; told = None }

-- the value of a name, or the empty text
abbrev pub read_in : List Pair → List ℕ → List ℕ
read_in pairs name = unwrap_or (value_at pairs name) []

-- how many bytes may be added
abbrev pub room_in : List Pair → ℕ
room_in pairs = most_store_bytes - bytes_of pairs
