-- What commands do to a store, one after another from an empty one.
use Rattle.std.specs.Prelude.{if◌then◌else◌, ℕ, List, [], ◌∷◌, ◌++◌, Option, Some, None, fold}
use Rattle.std.specs.List.{filter_map}
use Rattle.lsl_post.specs.declared.parts.Pair.{Pair}
use Rattle.lsl_data.specs.declared.answers.Wrote.{Wrote}
use Rattle.lsl_data.specs.declared.answers.Wrote.TheVariants.{Stored, Deleted, NoKey, NotFound, Same, Full}
use Rattle.lsl_data.specs.Answers.{delete_answer, deleted, write_answer, written}
use Rattle.lsl_data.specs.Pairs.{same_name}

pub data Command : Type 0 where
  Write : List ℕ → List ℕ → Command
  Delete : List ℕ → Command
  Reset : Command

-- the pairs after a command
abbrev pub after_command : List Pair → Command → List Pair
after_command pairs (Write name value) = written pairs name value
after_command pairs (Delete name) = deleted pairs name
after_command pairs Reset = []

-- the store after commands
abbrev pub store_after : List Command → List Pair
store_after commands = fold after_command [] commands

-- What was accepted: a name was given a value, a name was taken out, or all were.
pub data Accepted : Type 0 where
  Given : List ℕ → List ℕ → Accepted
  Taken : List ℕ → Accepted
  Emptied : Accepted

-- accepted is what was answered with Stored or Deleted
abbrev pub if_accepted : Wrote → List ℕ → List ℕ → List Accepted
if_accepted Stored name value = Given name value ∷ []
if_accepted Deleted name value = Taken name ∷ []
if_accepted NoKey name value = []
if_accepted NotFound name value = []
if_accepted Same name value = []
if_accepted Full name value = []

abbrev pub accepted_of : List Pair → Command → List Accepted
accepted_of pairs (Write name value) = if_accepted (write_answer pairs name value) name value
accepted_of pairs (Delete name) = if_accepted (delete_answer pairs name) name []
accepted_of pairs Reset = Emptied ∷ []

-- what a store accepts of commands, one after another
abbrev pub accepted_from : List Pair → List Command → List Accepted
accepted_from pairs [] = []
accepted_from pairs (c ∷ commands) = accepted_of pairs c ++ accepted_from (after_command pairs c) commands

-- what was accepted of a name gives its value, or that it has none; what was accepted of another says nothing of it
abbrev pub tells : List ℕ → Accepted → Option (Option (List ℕ))
tells name (Given other value) = if same_name name other then Some (Some value) else None
tells name (Taken other) = if same_name name other then Some None else None
tells name Emptied = Some None

-- the last value that was given
abbrev pub last_told : List (Option (List ℕ)) → Option (List ℕ)
last_told [] = None
last_told (value ∷ []) = value
last_told (value ∷ next ∷ told) = last_told (next ∷ told)

-- the value of a name by the last command on it that was accepted, since the last reset
abbrev pub last_value : List Accepted → List ℕ → Option (List ℕ)
last_value accepted name = last_told (filter_map (tells name) accepted)
