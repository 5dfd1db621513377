-- How many objects, prims and scripts there are, and which steps name only these.
use Rattle.std.specs.Prelude.{ℕ, ◌<◌, ◌≤◌, ◌⊎◌, ◌-◌, List, map, length, slice_get, sum_by, Option, Some, None}
use Rattle.lsl_region.specs.Pausing.{AreGaps}
use Rattle.lsl_lines.specs.declared.file.ObjectLine.{ObjectLine}
use Rattle.lsl_lines.specs.declared.file.PrimLine.{PrimLine}
use Rattle.lsl_lines.specs.declared.file.WorldFile.{WorldFile}
use Rattle.lsl_lines.specs.declared.file.Step.{Step}
use Rattle.lsl_lines.specs.declared.file.Step.TheVariants.{Clock, Say, Touch, Changed, Rez, Go, Run, Pause, Cross}

-- how many prims each object has, and how many scripts there are in all
pub record Size : Type 0 where
  pub prims : List ℕ
  pub scripts : ℕ

abbrev pub scripts_of_prims : List PrimLine → ℕ
scripts_of_prims prims = sum_by (λ (p : PrimLine). length p.scripts) prims

abbrev pub scripts_of : List ObjectLine → ℕ
scripts_of objects = sum_by (λ (o : ObjectLine). scripts_of_prims o.prims) objects

abbrev pub size_of_file : WorldFile → Size
size_of_file file = record {
  prims = map (λ (o : ObjectLine). length o.prims) file.objects;
  scripts = scripts_of file.objects;
}

-- things are numbered from 1
abbrev pub HasNumber : ℕ → ℕ → Type 0
HasNumber count number = (0 < number) × (number ≤ count)

-- an object of this many prims has one of that link number: 0 and 1 are its root
abbrev pub HasLink : Option ℕ → ℕ → Type 0
HasLink None link = ⊥
HasLink (Some count) link = (link ≤ 1) ⊎ (link ≤ count)

-- the object, the prim or the script that the step names is there, and its numbers are in their ranges
abbrev pub IsStepOf : Size → Step → Type 0
IsStepOf size (Clock time) = time ≤ 2147483647999
IsStepOf size (Say channel name key text) = Unit {0}
IsStepOf size (Touch object link key name) =
    HasNumber (length size.prims) object × HasLink (slice_get size.prims (object - 1)) link
IsStepOf size (Changed object flags) = HasNumber (length size.prims) object
IsStepOf size (Rez object n) = HasNumber (length size.prims) object
IsStepOf size (Go script most) = HasNumber size.scripts script × (most ≤ 1000000)
IsStepOf size (Run most) = most ≤ 1000000
IsStepOf size (Pause gaps) = AreGaps gaps
IsStepOf size (Cross object region) = HasNumber (length size.prims) object
