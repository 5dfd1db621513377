-- The regions that a file names, each once, in the order of first naming: those of its objects, and then those of its
-- crossings. They are numbered from 1.
use Rattle.std.specs.Prelude.{◌≡◌, ℕ, suc, ◌-◌, nat_eq, true, List, [], ◌∷◌, ◌++◌, All, fold, get_or, if◌then◌else◌, Option, Some, None, is_some, unwrap_or}
use Rattle.std.specs.Str.{bytes_eq}
use Rattle.lsl_handoff.specs.declared.drive.Way.{Way}
use Rattle.lsl_lines.specs.declared.file.ObjectLine.{ObjectLine}
use Rattle.lsl_lines.specs.declared.file.Step.{Step}
use Rattle.lsl_lines.specs.declared.file.Step.TheVariants.{Cross}
use Rattle.lsl_lines.specs.declared.file.WorldFile.{WorldFile}
use Rattle.lsl_region.specs.declared.objects.Linkset.{Linkset}

-- the number of a region, if it is named, where the first name has this one
abbrev pub number_from : ℕ → List (List ℕ) → List ℕ → Option ℕ
number_from n [] region = None
number_from n (name ∷ names) region = if bytes_eq name region then Some n else number_from (suc n) names region

abbrev pub number_of : List (List ℕ) → List ℕ → Option ℕ
number_of names region = number_from 1 names region

abbrev pub number_in : List (List ℕ) → List ℕ → ℕ
number_in names region = unwrap_or (number_of names region) 0

-- the name of this number
abbrev pub name_in : List (List ℕ) → ℕ → List ℕ
name_in names number = get_or names (number - 1) []

abbrev pub IsNamed : List (List ℕ) → List ℕ → Type 0
IsNamed names region = is_some (number_of names region) ≡ true

-- one more region, unless it was named
abbrev pub with_region : List (List ℕ) → List ℕ → List (List ℕ)
with_region names region = if is_some (number_of names region) then names else names ++ region ∷ []

abbrev pub with_object : List (List ℕ) → ObjectLine → List (List ℕ)
with_object names line = with_region names line.region

abbrev pub with_step : List (List ℕ) → Step → List (List ℕ)
with_step names (Cross object region) = with_region names region
with_step names step = names

abbrev pub regions_of_file : WorldFile → List (List ℕ)
regions_of_file file = fold with_step (fold with_object [] file.objects) file.steps

-- each object is in a region that is named
abbrev pub AreInNamed : List (List ℕ) → List Linkset → Type 0
AreInNamed names objects = All (λ (o : Linkset). IsNamed names o.region) objects

-- a crossing leads to a region that is named
abbrev pub LeadsToNamed : List (List ℕ) → Step → Type 0
LeadsToNamed names (Cross object region) = IsNamed names region
LeadsToNamed names step = Unit {0}

-- the way of an object between regions of these numbers, unless it is there
abbrev pub way_between : ℕ → Option ℕ → Option ℕ → Option Way
way_between object (Some from) (Some to) =
    if nat_eq from to then None else Some (record { object = object; from = from; to = to })
way_between object (Some from) None = None
way_between object None to = None
