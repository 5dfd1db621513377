-- The texts of several scripts: all are accepted, or one is the first that isn't.
use Rattle.std.specs.Prelude.{◌≡◌, ℕ, List, Some, slice_get, take}
use Rattle.std.specs.List.{AllZip}
use Rattle.lsl_tree.specs.Program.{Program}
use Rattle.lsl_build.specs.Accepted.{Accepted}
use Rattle.lsl_build.specs.Faults.{FirstFault}
use Rattle.lsl_build.specs.declared.faults.BuildFault.{BuildFault}

-- the texts are accepted as these programs, in order
abbrev pub AreAccepted : List (List ℕ) → List Program → Type 0
AreAccepted texts programs = AllZip Accepted texts programs

-- the text at this place isn't accepted, for this fault, and those before it are
pub record IsRefusedAt (texts : List (List ℕ)) (place : ℕ) (fault : BuildFault) : Type 0 where
  pub text : List ℕ
  pub text_is : slice_get texts place ≡ Some text
  pub first : FirstFault text fault
  pub before : (programs : List Program) × AreAccepted (take place texts) programs

-- the file of this name is the first whose text isn't accepted, for this fault
pub record FirstRefused (names texts : List (List ℕ)) (name : List ℕ) (fault : BuildFault) : Type 0 where
  pub place : ℕ
  pub named : slice_get names place ≡ Some name
  pub refused : IsRefusedAt texts place fault
