-- The files that a command names.
use Rattle.std.specs.Prelude.{◌≡◌, ℕ, ◌⊎◌, List, Contains, Option, Some, None}
use Rattle.lsl_ports.specs.Counts.{Rose}
use Rattle.lsl_ports.specs.Shelf.{Files}
use Rattle.lsl_lines.specs.World.{IsWorld}
use Rattle.lsl_lines.specs.declared.file.WorldFile.{WorldFile}
use Rattle.lsl_top.specs.Held.{Holds}
use Rattle.lsl_top.specs.Plays.{Mode, Whole, Handing, Freezing, Inspecting, Thawing, names_in, Viewing, cards_in}
use Rattle.lsl_top.specs.Words.{Command, Once, Check, Replay, Lossy, Freeze, Thaw, Make, View, State}

-- the world's own file, as the shelf holds it, is good, and a script or a notecard of it has its text in the file of
-- that name
abbrev pub IsNamedInWorld : Option Files → List ℕ → List ℕ → Type 0
IsNamedInWorld held world name =
    (bytes : List ℕ) × (file : WorldFile) × Holds held world bytes × IsWorld bytes file
    × (Contains (names_in file) name ⊎ Contains (cards_in file) name)

-- the frozen file of a play
abbrev pub IsFrozenName : Mode → List ℕ → Type 0
IsFrozenName Whole name = ⊥
IsFrozenName Handing name = ⊥
IsFrozenName Freezing name = ⊥
IsFrozenName (Inspecting at) name = ⊥
IsFrozenName (Thawing frozen) name = name ≡ frozen
IsFrozenName (Viewing frozen) name = name ≡ frozen

-- one of the files of a play: of its scripts', its notecards', or the frozen one
abbrev pub IsNotedName : Mode → List (List ℕ) → List ℕ → Type 0
IsNotedName mode cards name = IsFrozenName mode name ⊎ Contains cards name

abbrev pub IsPlayName : Mode → (names cards : List (List ℕ)) → List ℕ → Type 0
IsPlayName mode names cards name = IsFrozenName mode name ⊎ (Contains names name ⊎ Contains cards name)

-- the file of the world that is played in this mode, or one that it names, or the frozen one
abbrev pub IsNamedIn : Option Files → Mode → List ℕ → List ℕ → Type 0
IsNamedIn held mode world name = IsFrozenName mode name ⊎ ((name ≡ world) ⊎ IsNamedInWorld held world name)

-- the words name the file, or the world that they name does
abbrev pub IsNamed : Option Files → Command → List ℕ → Type 0
IsNamed held (Once file) name = name ≡ file
IsNamed held (Check file) name = name ≡ file
IsNamed held (Replay world) name = IsNamedIn held Whole world name
IsNamed held (Lossy world) name = IsNamedIn held Handing world name
IsNamed held (Freeze world) name = IsNamedIn held Freezing world name
IsNamed held (Thaw frozen world) name = IsNamedIn held (Thawing frozen) world name
IsNamed held (View frozen world) name = IsNamedIn held (Viewing frozen) world name
IsNamed held (Make number) name = ⊥
IsNamed held (State at world) name = IsNamedIn held (Inspecting at) world name

-- the count of one of these files rose
abbrev pub NamedRose : Option Files → Option Command → (List ℕ → ℕ) → (List ℕ → ℕ) → Type 0
NamedRose held None old new = ⊥
NamedRose held (Some command) old new = (name : List ℕ) × IsNamed held command name × Rose (old name) (new name)
