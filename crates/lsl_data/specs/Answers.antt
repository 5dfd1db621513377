-- What a store answers to a write or a delete, and the effect on its pairs.
use Rattle.std.specs.Prelude.{ℕ, ◌==◌, Bool, false, nat_lt, if◌then◌else◌, List, [], length, Option, Some, None, is_some}
use Rattle.std.specs.Str.{bytes_eq}
use Rattle.lsl_post.specs.declared.parts.Pair.{Pair}
use Rattle.lsl_image.specs.Object.{most_store_bytes, pair}
use Rattle.lsl_data.specs.declared.answers.Wrote.{Wrote}
use Rattle.lsl_data.specs.declared.answers.Wrote.TheVariants.{Stored, Deleted, NoKey, NotFound, Same, Full}
use Rattle.lsl_data.specs.Pairs.{bytes_of, pair_at, value_at, with_pair, without}

-- the name has this value
abbrev pub holds : Option (List ℕ) → List ℕ → Bool
holds None value = false
holds (Some old) value = bytes_eq old value

-- an empty name, no such name, or the pair goes
unfoldable pub delete_answer : List Pair → List ℕ → Wrote
delete_answer pairs name =
    if length name == 0 then NoKey else (if is_some (pair_at pairs name) then Deleted else NotFound)

-- an empty name, an empty value as a delete, that value already, no room, or the pair is stored. Room is
-- counted without the value that goes
unfoldable pub write_answer : List Pair → List ℕ → List ℕ → Wrote
write_answer pairs name value =
    if length name == 0 then NoKey
    else if length value == 0 then delete_answer pairs name
    else if holds (value_at pairs name) value then Same
    else if nat_lt most_store_bytes (bytes_of (with_pair pairs (pair name value))) then Full
    else Stored

-- the pairs after an answer: changed where a pair was stored or deleted, and only there
abbrev pub pairs_after : Wrote → List Pair → List ℕ → List ℕ → List Pair
pairs_after Stored pairs name value = with_pair pairs (pair name value)
pairs_after Deleted pairs name value = without pairs name
pairs_after NoKey pairs name value = pairs
pairs_after NotFound pairs name value = pairs
pairs_after Same pairs name value = pairs
pairs_after Full pairs name value = pairs

abbrev pub written : List Pair → List ℕ → List ℕ → List Pair
written pairs name value = pairs_after (write_answer pairs name value) pairs name value

abbrev pub deleted : List Pair → List ℕ → List Pair
deleted pairs name = pairs_after (delete_answer pairs name) pairs name []
