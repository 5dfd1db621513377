-- Files that end at a position.
use Rattle.std.proofs.Common.{◌≡◌, ◌∙◌, ℕ, zero, suc, ◌+◌, ◌-◌, ◌<◌, ◌≤◌, List, [], ◌∷◌, ◌++◌, length, take, get_or, Option, Some, None, refl, ap, sym, arith}
use Rattle.std.specs.Prelude.{All, slice_set}
use Rattle.std.proofs.lemmas.List.Elements.{All-cons, All-head, All-nil, All-tail}
use Rattle.lsl_lines.specs.declared.file.Step.{Step}
use Rattle.lsl_lines.specs.declared.file.Step.TheVariants.{Clock, Say, Touch, Changed, Rez, Go, Run, Pause, Cross}
use Rattle.lsl_lines.specs.declared.file.WorldFile.{WorldFile}
use Rattle.lsl_world.specs.Ranges.{IsInRange}
use Rattle.lsl_world.specs.Sizes.{IsStepOf, Size, size_of_file}
use Rattle.lsl_top.specs.Plays.{Mode, Whole, Handing, Freezing, Inspecting, Thawing, Viewing, file_in, steps_in}
use Rattle.lsl_top.specs.Positions.{AreDone, PositionsAreOfTheFile, part_of, shortened, steps_to, steps_until}
use Rattle.lsl_top.specs.declared.positions.Position.{Position}

-- ---- a file that ends earlier is in its ranges too

module _ (size : Size) where
  shortened-fits : (most : ℕ) (step : Step) → IsStepOf size step → IsStepOf size (shortened most step)
  shortened-fits most (Run count) h = omega (arith, h)
  shortened-fits most (Go script count) h = (h.0, let le = h.1 in omega (arith, le))
  shortened-fits most (Clock time) h = h
  shortened-fits most (Say channel name key text) h = h
  shortened-fits most (Touch object link key name) h = h
  shortened-fits most (Changed object flags) h = h
  shortened-fits most (Rez object n) h = h
  shortened-fits most (Pause gaps) h = h
  shortened-fits most (Cross object region) h = h

  part-fits : (segment : ℕ) (step : Step) → IsStepOf size step → All (IsStepOf size) (part_of segment step)
  part-fits zero step h = All-nil (IsStepOf size)
  part-fits (suc n) step h =
      All-cons (IsStepOf size) (shortened (suc n) step) [] (shortened-fits (suc n) step h) (All-nil (IsStepOf size))

  to-fits : (whole segment : ℕ) (steps : List Step) → All (IsStepOf size) steps
      → All (IsStepOf size) (steps_to whole segment steps)
  to-fits whole segment [] h = All-nil (IsStepOf size)
  to-fits zero segment (step ∷ steps) h = part-fits segment step (All-head (IsStepOf size) step steps h)
  to-fits (suc whole) segment (step ∷ steps) h =
      All-cons (IsStepOf size) step (steps_to whole segment steps) (All-head (IsStepOf size) step steps h)
      (to-fits whole segment steps (All-tail (IsStepOf size) step steps h))

  until-fits : (at : Option Position) (steps : List Step) → All (IsStepOf size) steps
      → All (IsStepOf size) (steps_until at steps)
  until-fits None steps h = h
  until-fits (Some at) steps h = to-fits (at.step - 1) at.segment steps h

  steps-fit : (mode : Mode) (steps : List Step) → All (IsStepOf size) steps → All (IsStepOf size) (steps_in mode steps)
  steps-fit Whole steps h = h
  steps-fit Handing steps h = h
  steps-fit Freezing steps h = h
  steps-fit (Inspecting at) steps h = until-fits at steps h
  steps-fit (Thawing frozen) steps h = h
  steps-fit (Viewing frozen) steps h = h

part-few : (segment : ℕ) (step : Step) → length (part_of segment step) ≤ 1
part-few zero step = omega arith
part-few (suc n) step = omega arith

to-few : (whole segment : ℕ) (steps : List Step) → length (steps_to whole segment steps) ≤ length steps
to-few whole segment [] = omega arith
to-few zero segment (step ∷ steps) = omega (arith, part-few segment step)
to-few (suc whole) segment (step ∷ steps) = omega (arith, to-few whole segment steps)

until-few : (at : Option Position) (steps : List Step) → length (steps_until at steps) ≤ length steps
until-few None steps = omega arith
until-few (Some at) steps = to-few (at.step - 1) at.segment steps

steps-few : (mode : Mode) (steps : List Step) → length (steps_in mode steps) ≤ length steps
steps-few Whole steps = omega arith
steps-few Handing steps = omega arith
steps-few Freezing steps = omega arith
steps-few (Inspecting at) steps = until-few at steps
steps-few (Thawing frozen) steps = omega arith
steps-few (Viewing frozen) steps = omega arith

pub played-in_range : (mode : Mode) (file : WorldFile) → IsInRange file → IsInRange (file_in mode file)
played-in_range mode file h = record {
  few_objects = h.few_objects;
  few_scripts = h.few_scripts;
  objects_fit = h.objects_fit;
  few_notes = h.few_notes;
  notes_fit = h.notes_fit;
  few_steps = let few = h.few_steps in omega (arith, few, steps-few mode file.steps);
  steps_fit = steps-fit (size_of_file file) mode file.steps h.steps_fit;
}

-- ---- positions

pub none-begun : (whole : ℕ) (steps : List Step) → steps_to whole 0 steps ≡ take whole steps
none-begun zero [] = refl
none-begun (suc whole) [] = refl
none-begun zero (step ∷ steps) = refl
none-begun (suc whole) (step ∷ steps) = ap (λ (z : List Step). step ∷ z) (none-begun whole steps)

pub all-whole : (whole segment : ℕ) (steps : List Step) → length steps ≤ whole → steps_to whole segment steps ≡ steps
all-whole whole segment [] le = refl
all-whole zero segment (step ∷ steps) le = absurd (omega (arith, le))
all-whole (suc whole) segment (step ∷ steps) le =
    ap (λ (z : List Step). step ∷ z) (all-whole whole segment steps (omega (arith, le)))

pub cut_none : (whole segment : ℕ) (old new : List Step) → segment ≡ 0 → new ≡ take whole old
    → new ≡ steps_to whole segment old
cut_none whole segment old new none is =
    is ∙ sym (ap (λ (n : ℕ). steps_to whole n old) none ∙ none-begun whole old)

pub cut_all : (whole segment : ℕ) (old : List Step) → length old ≤ whole → old ≡ steps_to whole segment old
cut_all whole segment old le = sym (all-whole whole segment old le)

-- a part of the next step in its place, and no step after it
taken : (whole n : ℕ) (steps : List Step) (x y : Step) → whole < length steps → x ≡ get_or steps whole x
    → y ≡ shortened (suc n) x → take (suc whole) (slice_set steps whole y) ≡ steps_to whole (suc n) steps
taken whole n [] x y lt is same = absurd (omega (arith, lt))
taken zero n (s ∷ steps) x y lt is same =
    ap (λ (z : Step). z ∷ []) (same ∙ ap (λ (z : Step). shortened (suc n) z) is)
taken (suc whole) n (s ∷ steps) x y lt is same =
    ap (λ (z : List Step). s ∷ z) (taken whole n steps x y (omega (arith, lt)) is same)

pub cut_part : (whole segment : ℕ) (old mid new : List Step) (x y : Step) → 0 < segment → whole < length old
    → x ≡ get_or old whole x → y ≡ shortened segment x → mid ≡ slice_set old whole y → new ≡ take (whole + 1) mid
    → new ≡ steps_to whole segment old
cut_part whole zero old mid new x y some lt is same set then = absurd (omega (arith, some))
cut_part whole (suc n) old mid new x y some lt is same set then =
    let next : whole + 1 ≡ suc whole = omega arith in
    then ∙ ap (λ (z : List Step). take (whole + 1) z) set
    ∙ ap (λ (k : ℕ). take k (slice_set old whole y)) next ∙ taken whole n old x y lt is same

parted : (segment : ℕ) (before after : List Step) (step : Step)
    → steps_to (length before) segment (before ++ step ∷ after) ≡ before ++ part_of segment step
parted segment [] after step = refl
parted segment (b ∷ before) after step = ap (λ (z : List Step). b ∷ z) (parted segment before after step)

pub positions-of-file : PositionsAreOfTheFile
positions-of-file = (
  λ at steps. record {
    within = λ before after step is place.
        let whole : at.step - 1 ≡ length before = omega (arith, place) in
        ap (λ (z : List Step). steps_to (at.step - 1) at.segment z) is
        ∙ ap (λ (n : ℕ). steps_to n at.segment (before ++ step ∷ after)) whole ∙ parted at.segment before after step;
    beginning = λ some none. ap (λ (n : ℕ). steps_to (at.step - 1) n steps) none ∙ none-begun (at.step - 1) steps;
    beyond = λ lt. all-whole (at.step - 1) at.segment steps (omega (arith, lt));
  },
  λ segment some. done segment some,
)
  where
    done : (segment : ℕ) → 0 < segment → AreDone segment
    done zero some = absurd (omega (arith, some))
    done (suc n) some = record {
      run = λ count le. ap (λ (k : ℕ). Run k ∷ []) (omega (arith, le));
      go = λ script count le. ap (λ (k : ℕ). Go script k ∷ []) (omega (arith, le));
    }
