-- A good file's counts and places are in their ranges, and its steps name nothing that isn't there.
use Rattle.std.proofs.Common.{◌≡◌, ℕ, zero, suc, ◌+◌, ◌-◌, ◌<◌, ◌≤◌, Bool, true, false, cond, List, [], ◌∷◌, ◌++◌, length, map, Some, Result, Ok, Err, refl, sym, ap, ◌∙◌, inl, inr, subst, arith, length-append, lit<, lit≤, zero-add, add-zero}
use Rattle.std.specs.Prelude.{nat_le, nat_lt, not, ◌&&◌, ◌||◌, All, slice_get}
use Rattle.std.proofs.lemmas.Bool.{leb-true, ltb-true, and_parts, or_cases}
use Rattle.std.proofs.lemmas.List.{length-map}
use Rattle.std.proofs.Math.ListN.{get_or-append}
use Rattle.std.proofs.Math.Seq.{get_or-append_seam}
use Rattle.std.proofs.lemmas.List.Sums.{prefix_len-le-length}
use Rattle.std.proofs.lemmas.List.Elements.{All-nil, All-push}
use Rattle.std.proofs.lemmas.List.Sums.{sum_by-append}
use Rattle.std.specs.Str.{bytes_eq}
use Rattle.lsl_value.specs.Key.{is_valid_key}
use Rattle.lsl_lines.specs.Checks.{◌>>=◌}
use Rattle.lsl_lines.specs.Forms.{form_of}
use Rattle.lsl_lines.specs.Lines.{lines_of}
use Rattle.lsl_lines.specs.Reading as reading
use Rattle.lsl_lines.specs.Reading.{at_last, begun, file_added, has_link, has_number, is_objects, is_steps, keys_behind, knows, line_added, new_note, new_object, new_prim, new_script, place_of, prims_of, read_line, with_prim, with_script, with_script_at_last}
use Rattle.lsl_lines.specs.Words.{is_skipped}
use Rattle.lsl_lines.specs.World.{IsWorld, fault_at, file_of, world_from, world_of}
use Rattle.lsl_lines.specs.declared.faults.FileFault.{FileFault}
use Rattle.lsl_lines.specs.declared.faults.FileKind.{FileKind}
use Rattle.lsl_lines.specs.declared.faults.FileKind.TheVariants.{BadLine, Unknown, TooMany, ClockBack, TooLong}
use Rattle.lsl_lines.specs.declared.file.NoteLine.{NoteLine}
use Rattle.lsl_lines.specs.declared.file.ObjectLine.{ObjectLine}
use Rattle.lsl_lines.specs.declared.file.PrimLine.{PrimLine}
use Rattle.lsl_lines.specs.declared.file.ScriptLine.{ScriptLine}
use Rattle.lsl_lines.specs.declared.file.Step.{Step as TheStep}
use Rattle.lsl_lines.specs.declared.file.Step.TheVariants.{Clock, Say, Touch, Changed as ChangedStep, Rez, Go, Run, Pause, Cross}
use Rattle.lsl_lines.specs.declared.file.WorldFile.{WorldFile}
use Rattle.lsl_lines.specs.declared.forms.Line.{Line}
use Rattle.lsl_lines.specs.declared.forms.Line.TheVariants.{Object, Prim, Script, Note, Begin, Step, End}
use Rattle.lsl_lines.specs.declared.reading.Part.{Part}
use Rattle.lsl_lines.specs.declared.reading.Part.TheVariants.{Objects, Steps, Ended}
use Rattle.lsl_lines.specs.declared.reading.Reading.{Reading}
use Rattle.lsl_world.specs.Ranges.{HasCard, HasFile, HasKey, IsObjectOf, IsInRange}
use Rattle.lsl_world.specs.Sizes.{HasLink, HasNumber, IsStepOf, Size, scripts_of, scripts_of_prims}
use Rattle.lsl_world.proofs.Passing.{Changed, Fit, at_last-fit, fit-cond, fit-fault_unless, fit-ok, fit-then}
use Rattle.lsl_world.proofs.StepRanges.{LineFits, StepFits, form-fits}

abbrev prims_in : List ObjectLine → List ℕ
prims_in objects = map (λ (o : ObjectLine). length o.prims) objects

abbrev size_in : List ObjectLine → ℕ → Size
size_in objects scripts = record { prims = prims_in objects; scripts = scripts }

-- what was read so far is in its ranges
record Sound (r : Reading) : Type 0 where
  few_objects : length r.objects ≤ 64
  counted : r.scripts ≡ scripts_of r.objects
  few_scripts : r.scripts ≤ 256
  objects_fit : All (IsObjectOf (length r.files)) r.objects
  few_notes : length r.notes ≤ 256
  notes_fit : All (HasCard (length r.cards)) r.notes
  few_steps : length r.steps ≤ 100000
  steps_fit : All (IsStepOf (size_in r.objects r.scripts)) r.steps
  no_steps : is_objects r.part ≡ true → r.steps ≡ []

fits-none : (size : Size) (steps : List TheStep) → steps ≡ [] → All (IsStepOf size) steps
fits-none size steps e = subst (λ (s : List TheStep). All (IsStepOf size) s) (sym e) (All-nil (IsStepOf size))

-- more files
file-later : (files more : ℕ) (scripts : List ScriptLine) → files ≤ more → All (HasFile files) scripts
    → All (HasFile more) scripts
file-later files more scripts le h = λ k d lt. let it = h k d lt in omega arith

object-later : (files more : ℕ) (o : ObjectLine) → files ≤ more → IsObjectOf files o → IsObjectOf more o
object-later files more o le h = record {
  rooted = h.rooted;
  few = h.few;
  keyed = h.keyed;
  files_there = λ k d lt. file-later files more _ le (h.files_there k d lt);
}

objects-later : (files more : ℕ) (objects : List ObjectLine) → files ≤ more → All (IsObjectOf files) objects
    → All (IsObjectOf more) objects
objects-later files more objects le h = λ k d lt. object-later files more _ le (h k d lt)

notes-later : (cards more : ℕ) (notes : List NoteLine) → cards ≤ more → All (HasCard cards) notes
    → All (HasCard more) notes
notes-later cards more notes le h = λ k d lt. let it = h k d lt in omega arith

-- an object with its root alone
new-fits : (files : ℕ) (key name owner region : List ℕ) → is_valid_key key ≡ true
    → IsObjectOf files (new_object key name owner region)
new-fits files key name owner region valid = record {
  rooted = lit< tt;
  few = lit≤ tt;
  keyed = All-push HasKey [] (new_prim key name) (All-nil HasKey) valid;
  files_there = All-push (λ (p : PrimLine). All (HasFile files) p.scripts) [] (new_prim key name)
      (All-nil (λ (p : PrimLine). All (HasFile files) p.scripts)) (All-nil (HasFile files));
}

abbrev IsStepIn : List ObjectLine → ℕ → TheStep → Type 0
IsStepIn objects scripts step = IsStepOf (size_in objects scripts) step

has-number : (count n : ℕ) → has_number count n ≡ true → HasNumber count n
has-number count n h =
    let (a, b) = and_parts (nat_lt 0 n) (nat_le n count) h in
    (ltb-true 0 n a, leb-true n count b)

has-object : (objects : List ObjectLine) (n : ℕ) → has_number (length objects) n ≡ true
    → HasNumber (length (prims_in objects)) n
has-object objects n h =
    subst (λ count. HasNumber count n) (sym (length-map objects (λ (o : ObjectLine). length o.prims)))
    (has-number (length objects) n h)

-- the count of prims at a place
prims-at : (objects : List ObjectLine) (place : ℕ) → place < length objects
    → slice_get (prims_in objects) place ≡ Some (prims_of (slice_get objects place))
prims-at [] place lt = absurd (omega arith)
prims-at (o ∷ objects) zero lt = refl
prims-at (o ∷ objects) (suc place) lt = prims-at objects place (omega arith)

link_tests : (count link : ℕ) → (nat_le link 1 || nat_le link count) ≡ true → HasLink (Some count) link
link_tests count link h = elim (or_cases (nat_le link 1) (nat_le link count) h) [
  | inl a ↦ inl (leb-true link 1 a)
  | inr b ↦ inr (leb-true link count b)
]

has-link : (objects : List ObjectLine) (object link : ℕ) → has_link objects object link ≡ true
    → HasNumber (length (prims_in objects)) object × HasLink (slice_get (prims_in objects) (object - 1)) link
has-link objects object link h =
    let (a, b) = and_parts (has_number (length objects) object)
    (nat_le link 1 || nat_le link (prims_of (slice_get objects (object - 1)))) h in
    let n = has-number (length objects) object a in
    let at : object - 1 < length objects = omega (arith, n.0, n.1) in (
      has-object objects object a,
      subst (λ o. HasLink o link) (sym (prims-at objects (object - 1) at))
          (link_tests (prims_of (slice_get objects (object - 1))) link b),
    )

-- a step that is known, with its numbers in their ranges
known-fits : (r : Reading) (step : TheStep) → StepFits step → knows r step ≡ true → IsStepIn r.objects r.scripts step
known-fits r (Clock time) f h = f
known-fits r (Say channel name key text) f h = tt
known-fits r (Touch object link key name) f h = has-link r.objects object link h
known-fits r (ChangedStep object flags) f h = has-object r.objects object h
known-fits r (Rez object n) f h = has-object r.objects object h
known-fits r (Go script most) f h = (has-number r.scripts script h, f)
known-fits r (Run most) f h = f
known-fits r (Pause gaps) f h = f
known-fits r (Cross object region) f h = has-object r.objects object h

step-sound : (r : Reading) (step : TheStep) (clock : ℕ) → Sound r → is_steps r.part ≡ true → StepFits step
    → length r.steps < 100000 → knows r step ≡ true → Sound (record r { steps = r.steps ++ step ∷ []; clock = clock })
step-sound r step clock s steps f few h = record {
  few_objects = s.few_objects;
  counted = s.counted;
  few_scripts = s.few_scripts;
  objects_fit = s.objects_fit;
  few_notes = s.few_notes;
  notes_fit = s.notes_fit;
  few_steps = omega (arith, few, length-append r.steps (step ∷ []));
  steps_fit = All-push (IsStepIn r.objects r.scripts) r.steps step s.steps_fit (known-fits r step f h);
  no_steps = λ e. absurd (not_both r.part e steps);
}
  where
    not_both : (part : Part) → is_objects part ≡ true → is_steps part ≡ true → ⊥
    not_both Objects e f = cc
    not_both Steps e f = cc
    not_both Ended e f = cc

step_added-sound : (r : Reading) (step : TheStep) → Sound r → StepFits step → Fit Sound (reading.step_added step r)
step_added-sound r step s f =
    fit-fault_unless Sound (is_steps r.part) BadLine _ (λ a.
    fit-fault_unless Sound (nat_lt (length r.steps) 100000) TooMany _ (λ b.
    fit-fault_unless Sound (knows r step) Unknown _ (λ c.
    fit-fault_unless Sound (nat_le r.clock (reading.clock_behind r.clock step)) ClockBack _ (λ d.
    step-sound r step (reading.clock_behind r.clock step) s a f (ltb-true (length r.steps) 100000 b) c))))

-- objects, prims and scripts are read before any step
objects-sound : (r : Reading) (objects : List ObjectLine) (scripts : ℕ) (files keys : List (List ℕ)) → Sound r
    → is_objects r.part ≡ true → length objects ≤ 64 → scripts ≡ scripts_of objects → scripts ≤ 256
    → All (IsObjectOf (length files)) objects
    → Sound (record r { objects = objects; scripts = scripts; files = files; keys = keys })
objects-sound r objects scripts files keys s part few counted few_scripts fit = record {
  few_objects = few;
  counted = counted;
  few_scripts = few_scripts;
  objects_fit = fit;
  few_notes = s.few_notes;
  notes_fit = s.notes_fit;
  few_steps = s.few_steps;
  steps_fit = fits-none (size_in objects scripts) r.steps (s.no_steps part);
  no_steps = s.no_steps;
}

scripts-more : (objects : List ObjectLine) (o : ObjectLine)
    → scripts_of (objects ++ o ∷ []) ≡ scripts_of objects + scripts_of_prims o.prims
scripts-more objects o =
    sum_by-append (λ (o : ObjectLine). scripts_of_prims o.prims) objects (o ∷ [])
    ∙ ap (λ n. scripts_of objects + n) (zero-add (scripts_of_prims o.prims))

object-sound : (key name owner region : List ℕ) (r : Reading) → Sound r → is_valid_key key ≡ true
    → Fit Sound (reading.object_added key name owner region r)
object-sound key name owner region r s valid =
    fit-fault_unless Sound (is_objects r.part) BadLine _ (λ part.
    fit-fault_unless Sound (nat_lt (length r.objects) 64) TooMany _ (λ few.
    fit-then Sound (keys_behind r.keys key) _ (λ keys e.
    let o = new_object key name owner region in
    let lt = ltb-true (length r.objects) 64 few in
    objects-sound r (r.objects ++ o ∷ []) r.scripts r.files keys s part
    (omega (arith, length-append r.objects (o ∷ []), lt))
    (s.counted ∙ sym (scripts-more r.objects o ∙ add-zero (scripts_of r.objects)))
    s.few_scripts
    (All-push (IsObjectOf (length r.files)) r.objects o s.objects_fit
    (new-fits (length r.files) key name owner region valid)))))

-- all of a list with one more at its end, and the parts of that
all-front : {X : Type 0} (P : X → Type 0) (front : List X) (x : X) → All P (front ++ x ∷ []) → All P front
all-front P front x h = λ k d lt.
    subst P (get_or-append front (x ∷ []) d k lt) (h k d (omega (arith, lt, length-append front (x ∷ []))))

all-last : {X : Type 0} (P : X → Type 0) (front : List X) (x : X) → All P (front ++ x ∷ []) → P x
all-last P front x h = subst P (get_or-append_seam front x [] x)
    (h (length front) x (omega (arith, length-append front (x ∷ []))))

-- the last object was changed, so that it has this many more scripts
last-sound : (r : Reading) (change : ObjectLine → Result ObjectLine FileKind) (objects : List ObjectLine) (more : ℕ)
    (files keys : List (List ℕ)) → Sound r → is_objects r.part ≡ true → Changed change r.objects objects
    → r.scripts + more ≤ 256 → length r.files ≤ length files
    → ((from to : ObjectLine) → change from ≡ Ok to → IsObjectOf (length files) from
    → IsObjectOf (length files) to × (scripts_of_prims to.prims ≡ scripts_of_prims from.prims + more))
    → Sound (record r { objects = objects; scripts = r.scripts + more; files = files; keys = keys })
last-sound r change objects more files keys s part c few grown changes =
    let P = IsObjectOf (length files) in
    let were : All P (c.front ++ c.from ∷ []) =
    subst (λ (os : List ObjectLine). All P os) c.old (objects-later (length r.files)
    (length files) r.objects grown s.objects_fit) in
    let (fits, scripts) = changes c.from c.to c.made (all-last P c.front c.from were) in
    let all : All P objects = subst (λ (os : List ObjectLine). All P os) (sym c.new)
    (All-push P c.front c.to (all-front P c.front c.from were) fits) in
    let long : length objects ≤ 64 = omega (
      arith,
      s.few_objects,
      ap length c.old,
      ap length c.new,
      length-append c.front (c.from ∷ []),
      length-append c.front (c.to ∷ []),
    ) in
    let count : r.scripts + more ≡ scripts_of objects = omega (
      arith,
      s.counted,
      ap scripts_of c.old,
      ap scripts_of c.new,
      scripts-more c.front c.from,
      scripts-more c.front c.to,
      scripts,
    ) in
    objects-sound r objects (r.scripts + more) files keys s part long count few all

prims-more : (prims : List PrimLine) (p : PrimLine)
    → scripts_of_prims (prims ++ p ∷ []) ≡ scripts_of_prims prims + length p.scripts
prims-more prims p =
    sum_by-append (λ (p : PrimLine). length p.scripts) prims (p ∷ [])
    ∙ ap (λ n. scripts_of_prims prims + n) (zero-add (length p.scripts))

-- an object with one prim more
prim-fits : (key name : List ℕ) (files : ℕ) (from to : ObjectLine) → is_valid_key key ≡ true
    → with_prim (new_prim key name) from ≡ Ok to
    → IsObjectOf files from
    → IsObjectOf files to × (scripts_of_prims to.prims ≡ scripts_of_prims from.prims + 0)
prim-fits key name files from to valid e h =
    fit-ok (λ (o : ObjectLine). IsObjectOf files o × (scripts_of_prims o.prims ≡ scripts_of_prims from.prims + 0))
    (with_prim (new_prim key name) from) to e
    (fit-fault_unless (λ (o : ObjectLine). IsObjectOf files o
    × (scripts_of_prims o.prims ≡ scripts_of_prims from.prims + 0))
    (nat_lt (length from.prims) 255) TooMany (Ok (record from { prims = from.prims ++ new_prim key name ∷ [] }))
    (λ few. let lt = ltb-true (length from.prims) 255 few in
    let long = length-append from.prims (new_prim key name ∷ []) in (
      record {
        rooted = omega (arith, long);
        few = omega (arith, long, lt);
        keyed = All-push HasKey from.prims (new_prim key name) h.keyed valid;
        files_there = All-push (λ (p : PrimLine). All (HasFile files) p.scripts) from.prims (new_prim key name)
            h.files_there (All-nil (HasFile files));
      },
      prims-more from.prims (new_prim key name),
    )))

prim-sound : (key name : List ℕ) (r : Reading) → Sound r → is_valid_key key ≡ true
    → Fit Sound (reading.prim_added key name r)
prim-sound key name r s valid =
    fit-fault_unless Sound (is_objects r.part) BadLine _ (λ part.
    fit-then Sound (at_last (with_prim (new_prim key name)) r.objects) _ (λ objects e.
    fit-then Sound (keys_behind r.keys key) _ (λ keys k.
    subst (λ n. Sound (record r { objects = objects; scripts = n; files = r.files; keys = keys })) (add-zero r.scripts)
    (last-sound r (with_prim (new_prim key name)) objects 0 r.files keys s part
    (fit-ok (Changed (with_prim (new_prim key name)) r.objects) (at_last (with_prim (new_prim key name)) r.objects)
    objects e (at_last-fit (with_prim (new_prim key name)) r.objects))
    (omega (arith, s.few_scripts)) (omega arith) (λ from to. prim-fits key name (length r.files) from to valid)))))

-- a script's file is among the files, in its place
files-grown : (files : List (List ℕ)) (file : List ℕ) → length files ≤ length (file_added files file)
files-grown files file = go (nat_lt (place_of files file) (length files))
  where
    go : (test : Bool) → length files ≤ length (cond test files (files ++ file ∷ []))
    go true = omega arith
    go false = omega (arith, length-append files (file ∷ []))

file-there : (files : List (List ℕ)) (file : List ℕ) → place_of files file < length (file_added files file)
file-there files file = go (nat_lt (place_of files file) (length files)) refl
  where
    go : (test : Bool) → nat_lt (place_of files file) (length files) ≡ test
        → place_of files file < length (cond test files (files ++ file ∷ []))
    go true e = ltb-true (place_of files file) (length files) e
    go false e = omega (arith, length-append files (file ∷ []), prefix_len-le-length (λ x. not (bytes_eq file x)) files)

-- a prim with one script more
script_of_prim-fits : (script : ScriptLine) (files : ℕ) (from to : PrimLine) → HasFile files script
    → with_script script from ≡ Ok to → All (HasFile files) from.scripts
    → All (HasFile files) to.scripts × (length to.scripts ≡ length from.scripts + 1) × (to.key ≡ from.key)
script_of_prim-fits script files from to there e h =
    fit-ok (λ (p : PrimLine). All (HasFile files) p.scripts × (length p.scripts ≡ length from.scripts + 1)
    × (p.key ≡ from.key))
    (with_script script from) to e
    (All-push (HasFile files) from.scripts script h there, length-append from.scripts (script ∷ []), refl)

-- an object with one script more, in its last prim
script-fits : (script : ScriptLine) (files : ℕ) (from to : ObjectLine) → HasFile files script
    → with_script_at_last script from ≡ Ok to → IsObjectOf files from
    → IsObjectOf files to × (scripts_of_prims to.prims ≡ scripts_of_prims from.prims + 1)
script-fits script files from to there e h =
    fit-ok (λ (o : ObjectLine). IsObjectOf files o × (scripts_of_prims o.prims ≡ scripts_of_prims from.prims + 1))
    (with_script_at_last script from) to e
    (fit-then (λ (o : ObjectLine). IsObjectOf files o × (scripts_of_prims o.prims ≡ scripts_of_prims from.prims + 1))
    (at_last (with_script script) from.prims) _
    (λ prims m. changed prims (fit-ok (Changed (with_script script) from.prims)
    (at_last (with_script script) from.prims)
    prims m (at_last-fit (with_script script) from.prims))))
  where
    changed : (prims : List PrimLine) → Changed (with_script script) from.prims prims
        → IsObjectOf files (record from { prims = prims }) × (scripts_of_prims prims ≡ scripts_of_prims from.prims + 1)
    changed prims c =
        let P : PrimLine → Type 0 = λ p. All (HasFile files) p.scripts in
        let were : All P (c.front ++ c.from ∷ []) = subst (λ (ps : List PrimLine). All P ps) c.old h.files_there in
        let keyed : All HasKey (c.front ++ c.from ∷ [])
        = subst (λ (ps : List PrimLine). All HasKey ps) c.old h.keyed in
        let (fits, count, same) = script_of_prim-fits script files c.from c.to there c.made
        (all-last P c.front c.from were)
        in
        let long : length prims ≡ length from.prims = omega (
          arith,
          ap length c.old,
          ap length c.new,
          length-append c.front (c.from ∷ []),
          length-append c.front (c.to ∷ []),
        ) in (
          record {
            rooted = omega (arith, h.rooted, long);
            few = omega (arith, h.few, long);
            keyed = subst (λ (ps : List PrimLine). All HasKey ps) (sym c.new)
                (All-push HasKey c.front c.to (all-front HasKey c.front c.from keyed)
                (subst (λ (k : List ℕ). is_valid_key k ≡ true) (sym same) (all-last HasKey c.front c.from keyed)));
            files_there = subst (λ (ps : List PrimLine). All P ps) (sym c.new)
                (All-push P c.front c.to (all-front P c.front c.from were) fits);
          },
          omega (
            arith,
            ap scripts_of_prims c.old,
            ap scripts_of_prims c.new,
            prims-more c.front c.from,
            prims-more c.front c.to,
            count,
          ),
        )

script-sound : (name file : List ℕ) (r : Reading) → Sound r → Fit Sound (reading.script_added name file r)
script-sound name file r s =
    fit-fault_unless Sound (is_objects r.part && nat_lt 0 (length r.objects)) BadLine _ (λ part.
    fit-fault_unless Sound (nat_lt r.scripts 256) TooMany _ (λ few.
    let script = new_script r.files name file in
    fit-then Sound (at_last (with_script_at_last script) r.objects) _ (λ objects e.
    let lt = ltb-true r.scripts 256 few in
    last-sound r (with_script_at_last script) objects 1 (file_added r.files file) r.keys s
    (and_parts (is_objects r.part) (nat_lt 0 (length r.objects)) part).0
    (fit-ok (Changed (with_script_at_last script) r.objects) (at_last (with_script_at_last script) r.objects) objects e
    (at_last-fit (with_script_at_last script) r.objects))
    (omega (arith, lt)) (files-grown r.files file)
    (λ from to m h. script-fits script (length (file_added r.files file)) from to (file-there r.files file) m h))))

-- one notecard more
note-sound : (name file : List ℕ) (r : Reading) → Sound r → Fit Sound (reading.note_added name file r)
note-sound name file r s =
    fit-fault_unless Sound (is_objects r.part && nat_lt 0 (length r.objects)) BadLine _ (λ part.
    fit-fault_unless Sound (nat_lt (length r.notes) 256) TooMany _ (λ few.
    let note = new_note r name file in
    let lt = ltb-true (length r.notes) 256 few in
    record {
      few_objects = s.few_objects;
      counted = s.counted;
      few_scripts = s.few_scripts;
      objects_fit = s.objects_fit;
      few_notes = omega (arith, lt, length-append r.notes (note ∷ []));
      notes_fit = All-push (HasCard (length (file_added r.cards file))) r.notes note
          (notes-later (length r.cards) (length (file_added r.cards file)) r.notes (files-grown r.cards file)
          s.notes_fit)
          (file-there r.cards file);
      few_steps = s.few_steps;
      steps_fit = s.steps_fit;
      no_steps = s.no_steps;
    }))

-- another part of the file
part-sound : (r : Reading) (part : Part) → Sound r → is_objects part ≡ false → Sound (record r { part = part })
part-sound r part s e = record {
  few_objects = s.few_objects;
  counted = s.counted;
  few_scripts = s.few_scripts;
  objects_fit = s.objects_fit;
  few_notes = s.few_notes;
  notes_fit = s.notes_fit;
  few_steps = s.few_steps;
  steps_fit = s.steps_fit;
  no_steps = λ f. absurd (apart (sym e ∙ f));
}
  where
    apart : false ≡ true → ⊥
    apart g = cc

line-sound : (line : Line) (r : Reading) → Sound r → LineFits line → Fit Sound (line_added line r)
line-sound (Object key name owner region) r s f = object-sound key name owner region r s f
line-sound (Prim key name) r s f = prim-sound key name r s f
line-sound (Script name file) r s f = script-sound name file r s
line-sound (Note name file) r s f = note-sound name file r s
line-sound Begin r s f =
    fit-fault_unless Sound (is_objects r.part) BadLine (Ok (record r { part = Steps })) (λ e. part-sound r Steps s refl)
line-sound (Step step) r s f = step_added-sound r step s f
line-sound End r s f =
    fit-fault_unless Sound (is_steps r.part) BadLine (Ok (record r { part = Ended })) (λ e. part-sound r Ended s refl)

read-sound : (line : List ℕ) (r : Reading) → Sound r → Fit Sound (read_line line r)
unfolding read_line
read-sound line r s =
    fit-cond Sound (is_skipped line) (Ok r) (form_of line >>= λ form. line_added form r) s
    (fit-then Sound (form_of line) (λ form. line_added form r)
    (λ form e. line-sound form r s (fit-ok LineFits (form_of line) form e (form-fits line))))

file-sound : (line : ℕ) (part : Part) (r : Reading) (file : WorldFile) → Sound r → file_of line part r ≡ Ok file
    → IsInRange file
file-sound line Objects r file s e = absurd (cc)
file-sound line Steps r file s e = absurd (cc)
file-sound line Ended r file s e = subst IsInRange (ap value e) (record {
  few_objects = s.few_objects;
  few_scripts = subst (λ n. n ≤ 256) s.counted s.few_scripts;
  objects_fit = s.objects_fit;
  few_notes = s.few_notes;
  notes_fit = s.notes_fit;
  few_steps = s.few_steps;
  steps_fit = subst (λ n. All (IsStepOf (size_in r.objects n)) r.steps) s.counted s.steps_fit;
})
  where
    value : Result WorldFile FileFault → WorldFile
    value (Ok found) = found
    value (Err fault) = file

from-sound : (line : ℕ) (r : Reading) (lines : List (List ℕ)) (file : WorldFile) → Sound r
    → world_from line r lines ≡ Ok file → IsInRange file
from-sound line r [] file s e = file-sound line r.part r file s e
from-sound line r (bytes ∷ lines) file s e =
    go (read_line bytes r) refl e (λ next h f. from-sound (line + 1) next lines file h f)
  where
    go : (read : Result Reading FileKind) → read_line bytes r ≡ read
        → elim read as (λ _. Result WorldFile FileFault) [
          | Ok next ↦ world_from (line + 1) next lines
          | Err kind ↦ Err (fault_at line kind)
        ] ≡ Ok file
        → ((next : Reading) → Sound next → world_from (line + 1) next lines ≡ Ok file → IsInRange file)
        → IsInRange file
    go (Ok next) m e rest = rest next (fit-ok Sound (read_line bytes r) next m (read-sound bytes r s)) e
    go (Err kind) m e rest = absurd (cc)

begun-sound : Sound begun
begun-sound = record {
  few_objects = lit≤ tt;
  counted = refl;
  few_scripts = lit≤ tt;
  objects_fit = All-nil (IsObjectOf 0);
  few_notes = lit≤ tt;
  notes_fit = All-nil (HasCard 0);
  few_steps = lit≤ tt;
  steps_fit = All-nil (IsStepOf (size_in [] 0));
  no_steps = λ e. refl;
}

-- a good file is in its ranges
pub good-in_range : (text : List ℕ) (file : WorldFile) → IsWorld text file → IsInRange file
unfolding world_of
good-in_range text file h = go (nat_le (length text) 1048576) h
  where
    go : (test : Bool) → cond test (world_from 1 begun (lines_of text)) (Err (fault_at 0 TooLong)) ≡ Ok file
        → IsInRange file
    go true e = from-sound 1 begun (lines_of text) file begun-sound e
    go false e = absurd (cc)
