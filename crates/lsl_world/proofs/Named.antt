-- The regions of a file are named.
use Rattle.std.proofs.Common.{◌≡◌, ◌≤◌, ◌+◌, refl, ap, arith, ℕ, suc, Bool, true, false, List, [], ◌∷◌, ◌++◌, length, length-append, if◌then◌else◌, Some, None}
use Rattle.std.specs.Prelude.{All, fold, is_some, map}
use Rattle.std.specs.Str.{bytes_eq}
use Rattle.std.proofs.lemmas.List.Elements.{All-cons, All-nil}
use Rattle.std.proofs.lemmas.Slice.Eq.{bytes_eq-Decides}
use Rattle.lsl_lines.specs.declared.file.ObjectLine.{ObjectLine}
use Rattle.lsl_lines.specs.declared.file.Step.{Step}
use Rattle.lsl_lines.specs.declared.file.Step.TheVariants.{Cross}
use Rattle.lsl_lines.specs.declared.file.WorldFile.{WorldFile}
use Rattle.lsl_region.specs.declared.objects.Linkset.{Linkset}
use Rattle.lsl_world.specs.Regions.{AreInNamed, IsNamed, LeadsToNamed, number_from, number_of, regions_of_file, with_object, with_region, with_step}
use Rattle.lsl_world.specs.Starts.{object_of_line}

abbrev IsFound : ℕ → List (List ℕ) → List ℕ → Type 0
IsFound first names region = is_some (number_from first names region) ≡ true

-- one more name leaves those that are named
found-more : (first : ℕ) (names more : List (List ℕ)) (region : List ℕ) → IsFound first names region
    → IsFound first (names ++ more) region
found-more first [] more region found = absurd (cc)
found-more first (name ∷ names) more region found =
    go (bytes_eq name region) found (λ e. found-more (suc first) names more region e)
  where
    go : (b : Bool) → is_some (if b then Some first else number_from (suc first) names region) ≡ true
        → (IsFound (suc first) names region → IsFound (suc first) (names ++ more) region)
        → is_some (if b then Some first else number_from (suc first) (names ++ more) region) ≡ true
    go true e next = refl
    go false e next = next e

-- a name at the end is found
found-last : (first : ℕ) (names : List (List ℕ)) (region : List ℕ) → IsFound first (names ++ region ∷ []) region
found-last first [] region =
    let same : bytes_eq region region ≡ true = (bytes_eq-Decides region region).1 refl in
    ap (λ (b : Bool). is_some (if b then Some first else None)) same
found-last first (name ∷ names) region = go (bytes_eq name region) (found-last (suc first) names region) where
  go : (b : Bool) → IsFound (suc first) (names ++ region ∷ []) region
      → is_some (if b then Some first else number_from (suc first) (names ++ region ∷ []) region) ≡ true
  go true next = refl
  go false next = next

pub named-kept : (names : List (List ℕ)) (one region : List ℕ) → IsNamed names region
    → IsNamed (with_region names one) region
named-kept names one region named = go (is_some (number_of names one)) where
  go : (b : Bool) → IsNamed (if b then names else names ++ one ∷ []) region
  go true = named
  go false = found-more 1 names (one ∷ []) region named

named-added : (names : List (List ℕ)) (region : List ℕ) → IsNamed (with_region names region) region
named-added names region = go (is_some (number_of names region)) refl where
  go : (b : Bool) → is_some (number_of names region) ≡ b
      → IsNamed (if b then names else names ++ region ∷ []) region
  go true e = e
  go false e = found-last 1 names region

objects-kept : (lines : List ObjectLine) (names : List (List ℕ)) (region : List ℕ) → IsNamed names region
    → IsNamed (fold with_object names lines) region
objects-kept [] names region named = named
objects-kept (line ∷ lines) names region named =
    objects-kept lines (with_object names line) region (named-kept names line.region region named)

step-kept : (step : Step) (names : List (List ℕ)) (region : List ℕ) → IsNamed names region
    → IsNamed (with_step names step) region
step-kept (Cross object one) names region named = named-kept names one region named
step-kept step names region named = named

steps-kept : (steps : List Step) (names : List (List ℕ)) (region : List ℕ) → IsNamed names region
    → IsNamed (fold with_step names steps) region
steps-kept [] names region named = named
steps-kept (step ∷ steps) names region named =
    steps-kept steps (with_step names step) region (step-kept step names region named)

objects-named : (lines : List ObjectLine) (names : List (List ℕ)) (rest : List Step)
    → All (λ (o : Linkset). IsNamed (fold with_step (fold with_object names lines) rest) o.region)
    (map object_of_line lines)
objects-named [] names rest = All-nil (λ (o : Linkset). IsNamed (fold with_step names rest) o.region)
objects-named (line ∷ lines) names rest =
    All-cons (λ (o : Linkset). IsNamed (fold with_step (fold with_object (with_object names line) lines) rest) o.region)
    (object_of_line line) (map object_of_line lines)
    (steps-kept rest (fold with_object (with_object names line) lines) line.region
    (objects-kept lines (with_object names line) line.region (named-added names line.region)))
    (objects-named lines (with_object names line) rest)

leads-kept : (step : Step) (steps : List Step) (names : List (List ℕ))
    → LeadsToNamed (fold with_step (with_step names step) steps) step
leads-kept (Cross object region) steps names =
    steps-kept steps (with_region names region) region (named-added names region)
leads-kept step steps names = tt

steps-named : (steps : List Step) (names : List (List ℕ)) → All (LeadsToNamed (fold with_step names steps)) steps
steps-named [] names = All-nil (LeadsToNamed names)
steps-named (step ∷ steps) names =
    All-cons (LeadsToNamed (fold with_step (with_step names step) steps)) step steps (leads-kept step steps names)
    (steps-named steps (with_step names step))

-- the regions of the objects of a file, and those to which its steps lead
pub file-objects-named : (file : WorldFile) → AreInNamed (regions_of_file file) (map object_of_line file.objects)
file-objects-named file = objects-named file.objects [] file.steps

pub file-steps-named : (file : WorldFile) → All (LeadsToNamed (regions_of_file file)) file.steps
file-steps-named file = steps-named file.steps (fold with_object [] file.objects)

-- there are at most as many of them as objects and steps
few-added : (names : List (List ℕ)) (region : List ℕ) → length (with_region names region) ≤ length names + 1
few-added names region = go (is_some (number_of names region)) where
  go : (b : Bool) → length (if b then names else names ++ region ∷ []) ≤ length names + 1
  go true = omega arith
  go false = omega (arith, length-append names (region ∷ []))

few-objects : (lines : List ObjectLine) (names : List (List ℕ))
    → length (fold with_object names lines) ≤ length names + length lines
few-objects [] names = omega arith
few-objects (line ∷ lines) names =
    omega (arith, few-objects lines (with_object names line), few-added names line.region)

few-step : (step : Step) (names : List (List ℕ)) → length (with_step names step) ≤ length names + 1
few-step (Cross object region) names = few-added names region
few-step step names = omega arith

few-steps : (steps : List Step) (names : List (List ℕ))
    → length (fold with_step names steps) ≤ length names + length steps
few-steps [] names = omega arith
few-steps (step ∷ steps) names = omega (arith, few-steps steps (with_step names step), few-step step names)

pub few-regions : (file : WorldFile) → length (regions_of_file file) ≤ length file.objects + length file.steps
few-regions file =
    omega (arith, few-steps file.steps (fold with_object [] file.objects), few-objects file.objects [])
