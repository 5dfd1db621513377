-- What entries say of the plain journal.
use Rattle.std.specs.Prelude.{◌≡◌, ℕ, List, [], ◌∷◌, ◌++◌, All}
use Rattle.std.specs.List.{flat_map}
use Rattle.lsl_marks.specs.declared.entries.Entry.{Entry}
use Rattle.lsl_marks.specs.declared.entries.Told.{Told}
use Rattle.lsl_marks.specs.declared.entries.Told.TheVariants.{Entries, Differs}
use Rattle.lsl_marks.specs.declared.entries.What.{What}
use Rattle.lsl_marks.specs.declared.entries.What.TheVariants.{At, Set, Said}

-- a printed line, with its end; nothing for a marker and a value
abbrev pub said_of : What → List ℕ
said_of (At arrival) = []
said_of (Set value) = []
said_of (Said line) = line.now ++ 10 ∷ []

-- all printed lines, in order
abbrev pub said_in : List Entry → List ℕ
said_in entries = flat_map (λ (e : Entry). said_of e.what) entries

-- the entries say this journal
abbrev pub Says : Told → List ℕ → Type 0
Says (Entries entries) journal = said_in entries.items ≡ journal
Says (Differs guilty) journal = Unit {0}

-- these are the entries, if they were read
abbrev pub Has : Told → List Entry → Type 0
Has (Entries entries) all = entries.items ≡ all
Has (Differs guilty) all = Unit {0}

-- the entries are at no step
abbrev pub AreNowhere : Told → Type 0
AreNowhere (Entries entries) = All (λ (e : Entry). e.step ≡ 0) entries.items
AreNowhere (Differs guilty) = Unit {0}
