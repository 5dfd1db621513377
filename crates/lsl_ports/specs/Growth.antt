-- What was added to a list, where it is known.
use Rattle.std.specs.Prelude.{◌≡◌, List, ◌++◌, Option, Some, None}

-- these items were added, where the list is known; an unknown list stays unknown
abbrev pub Grew : {A : Type 0} → Option (List A) → Option (List A) → List A → Type 0
Grew None new items = new ≡ None
Grew (Some old) new items = new ≡ Some (old ++ items)

-- these items are a prefix of all
pub record Begins {A : Type 0} (items all : List A) : Type 0 where
  pub others : List A
  pub whole : items ++ others ≡ all

-- a prefix of these items was added
pub record GrewPartly {A : Type 0} (old new : Option (List A)) (items : List A) : Type 0 where
  pub added : List A
  pub grew : Grew old new added
  pub begins : Begins added items
