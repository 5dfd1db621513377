-- The faults of a shelf that fails at nothing but names without a file.
use Rattle.std.specs.Prelude.{◌≡◌, ℕ, List, Option, Some, None}
use Rattle.lsl_ports.specs.Shelf.{Files}
use Rattle.lsl_top.specs.Named.{IsNamed}
use Rattle.lsl_top.specs.Words.{Command}

abbrev pub faults_at : Option (List ℕ) → ℕ → ℕ
faults_at None count = count
faults_at (Some text) count = 0

-- the count of a name's faults, if this many were counted in all
abbrev pub faults_in : Files → ℕ → List ℕ → ℕ
faults_in files count name = faults_at (files name) count

-- a file that the words or their world name isn't there
abbrev pub IsMissing : Files → Option Command → Type 0
IsMissing files None = ⊥
IsMissing files (Some command) = (name : List ℕ) × IsNamed (Some files) command name × (files name ≡ None)
