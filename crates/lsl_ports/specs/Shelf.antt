-- What a shelf holds, where it reports that, and what a read gives of it.
use Rattle.std.specs.Prelude.{◌≡◌, ℕ, ◌+◌, ◌<◌, ◌≤◌, List, length, take, drop, Option, Some, None, if◌then◌else◌, nat_lt}

-- the files of a shelf that reports them: a name's bytes, or none for a missing name
abbrev pub Files : Type 0
Files = List ℕ → Option (List ℕ)

-- the first `count` bytes of the piece are the file's from `place` on, and none came only at the file's end
pub record Copies (file : List ℕ) (place : ℕ) (piece : List ℕ) (count : ℕ) : Type 0 where
  pub copied : take count piece ≡ take count (drop place file)
  pub ended : count ≡ 0 → 0 < length piece → length file ≤ place

-- the file is there, and was copied
abbrev pub CopiesFile : Option (List ℕ) → ℕ → List ℕ → ℕ → Type 0
CopiesFile None place piece count = ⊥
CopiesFile (Some file) place piece count = Copies file place piece count

-- where the shelf reports its files, the file of that name is there, and was copied
abbrev pub Reads : Option Files → List ℕ → ℕ → List ℕ → ℕ → Type 0
Reads None name place piece count = Unit {0}
Reads (Some files) name place piece count = CopiesFile (files name) place piece count

-- the first `limit + 1` bytes of a file where that number fits 64 bits, otherwise the whole file
abbrev pub head_of : ℕ → List ℕ → List ℕ
head_of limit file = if nat_lt limit 18446744073709551615 then take (limit + 1) file else file

-- the file is there, and these are its first bytes
abbrev pub IsHeadOf : ℕ → Option (List ℕ) → List ℕ → Type 0
IsHeadOf limit None bytes = ⊥
IsHeadOf limit (Some file) bytes = bytes ≡ head_of limit file

-- where the shelf reports its files, the file of that name is there, and these are its first bytes
abbrev pub IsHead : Option Files → List ℕ → ℕ → List ℕ → Type 0
IsHead None name limit bytes = Unit {0}
IsHead (Some files) name limit bytes = IsHeadOf limit (files name) bytes
