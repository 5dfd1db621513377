-- One read of a file of which some bytes were read.
use Rattle.std.specs.Prelude.{◌≡◌, ℕ, ◌≤◌, List, ◌++◌, length, take, drop, Option, Some, None}
use Rattle.lsl_ports.specs.Shelf.{Files}

-- the next bytes of the file are these, and none came only at its end
pub record Follows (file : List ℕ) (place : ℕ) (next : List ℕ) : Type 0 where
  pub copied : next ≡ take (length next) (drop place file)
  pub ended : length next ≡ 0 → length file ≤ place

abbrev pub FollowsFile : Option (List ℕ) → ℕ → List ℕ → Type 0
FollowsFile None place next = ⊥
FollowsFile (Some file) place next = Follows file place next

-- where the shelf reports its files, the next bytes of the file of that name are these
abbrev pub FollowsIn : Option Files → List ℕ → ℕ → List ℕ → Type 0
FollowsIn None name place next = Unit {0}
FollowsIn (Some files) name place next = FollowsFile (files name) place next

-- the bytes grew by the next `count` bytes of the file
pub record Gains (held : Option Files) (name old new : List ℕ) (count : ℕ) : Type 0 where
  pub next : List ℕ
  pub grew : new ≡ old ++ next
  pub many : length next ≡ count
  pub told : FollowsIn held name (length old) next
