-- What is spelled is read, and what is read is spelled.
use Rattle.std.specs.Prelude.{ℕ, ◌≤◌, List, length}
use Rattle.lsl_bytes.specs.Places.{StandsAt}
use Rattle.lsl_image.specs.Layout.{Layout}
use Rattle.lsl_image.specs.Reading.{Gives}
use Rattle.lsl_image.specs.Spelling.{Spells}

-- bytes that spell something in place are read as that, whatever is before and after them
abbrev pub IsReadAsSpelled : {A : Type 0} → Layout A → Type 0
IsReadAsSpelled {A} layout =
    (bytes : List ℕ) (place : ℕ) (a : A) (part : List ℕ) (next : ℕ) →
    StandsAt bytes place part next → Spells layout place a part → Gives bytes layout place a next

-- what is read is spelled by the bytes from its place on
abbrev pub IsSpelledAsRead : {A : Type 0} → Layout A → Type 0
IsSpelledAsRead {A} layout =
    (bytes : List ℕ) (place : ℕ) (a : A) (next : ℕ) → place ≤ length bytes → Gives bytes layout place a next →
    (part : List ℕ) × StandsAt bytes place part next × Spells layout place a part
