-- What was done: a value, and the entries that it gave.
use Rattle.std.specs.Prelude.{ℕ, ◌+◌, Bool, List, [], ◌∷◌, ◌++◌, if◌then◌else◌}
use Rattle.std.proofs.Common.{zero, suc}
use Rattle.lsl_post.specs.declared.entries.Entry.{Entry}

pub record Told (X : Type 0) : Type 0 where
  pub value : X
  pub entries : List Entry

abbrev pub quiet : {X : Type 0} → X → Told X
quiet x = record { value = x; entries = [] }

-- entries that come before
abbrev pub lead : {X : Type 0} → List Entry → Told X → Told X
lead entries a = record { value = a.value; entries = entries ++ a.entries }

-- one thing, and then another
abbrev pub next_to : {X Y : Type 0} → Told X → (X → Told Y) → Told Y
next_to a next = lead a.entries (next a.value)

-- the same entries with another value
abbrev pub as_value : {X Y : Type 0} → (X → Y) → Told X → Told Y
as_value f a = record { value = f a.value; entries = a.entries }

-- one thing for each of `count` numbers, in order, from one on
unfoldable pub each : {X : Type 0} → (ℕ → X → Told X) → ℕ → ℕ → X → Told X
each thing zero first x = quiet x
each thing (suc count) first x = next_to (thing first x) (λ y. each thing count (first + 1) y)

-- one thing again and again, until a value stops it, at most this often
unfoldable pub until : {X : Type 0} → (X → Bool) → (X → Told X) → ℕ → X → Told X
until stops thing zero x = quiet x
until stops thing (suc most) x =
    if stops x then quiet x else next_to (thing x) (λ y. until stops thing most y)

-- one thing for each item of a list, in order
unfoldable pub each_of : {A X : Type 0} → (A → X → Told X) → List A → X → Told X
each_of thing [] x = quiet x
each_of thing (a ∷ rest) x = next_to (thing a x) (λ y. each_of thing rest y)
