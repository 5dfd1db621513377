-- Each world that a text can describe is the world of its text.
use Rattle.std.proofs.Common.{◌≡◌, ℕ, zero, suc, ◌+◌, ◌-◌, ◌<◌, ◌≤◌, nat_le, nat_lt, Bool, true, false, cond, ◌==◌, ◌||◌, List, [], ◌∷◌, ◌++◌, length, get_or, take, map, flat_map, slice_get, Result, Ok, Err, refl, sym, ap, ◌∙◌, arith, ⊎_elim, lit≤, append_assoc, append-nil, length-append}
use Rattle.std.proofs.lemmas.Bool.{and_parts, cond-true, le-leb, leb-true, lt-ltb, or_cases}
use Rattle.std.proofs.lemmas.List.{take_all}
use Rattle.std.specs.List.{AllByRecursion}
use Rattle.lsl_lines.specs.Checks.{◌>>=◌}
use Rattle.lsl_lines.specs.Lines.{lines_of}
use Rattle.lsl_lines.specs.Reading.{begun, clock_behind, has_link, has_number, knows, line_added, prims_of}
use Rattle.lsl_lines.specs.World.{fault_at, file_of, world_from, world_of}
use Rattle.lsl_lines.specs.Writable.{ClocksRise, EachIsRead, HasName, HasNoteName, IsName, IsWritable, IsWritableObject, IsWritablePrim, IsWritableStep, as_script, named_behind, scripts_in}
use Rattle.lsl_lines.specs.Written.{left_by, left_by_prims, line_text, lines_of_world, lying_in, note_line, note_lines, object_lines, prim_lines, rooted_lines, script_line, script_lines, text_of_world}
use Rattle.lsl_lines.specs.declared.faults.FileFault.{FileFault}
use Rattle.lsl_lines.specs.declared.faults.FileKind.{FileKind}
use Rattle.lsl_lines.specs.declared.file.NoteLine.{NoteLine}
use Rattle.lsl_lines.specs.declared.file.ObjectLine.{ObjectLine}
use Rattle.lsl_lines.specs.declared.file.PrimLine.{PrimLine}
use Rattle.lsl_lines.specs.declared.file.ScriptLine.{ScriptLine}
use Rattle.lsl_lines.specs.declared.file.Step.{Step as TheStep}
use Rattle.lsl_lines.specs.declared.file.Step.TheVariants.{Clock, Say, Touch, Changed, Rez, Go, Run, Pause, Cross}
use Rattle.lsl_lines.specs.declared.file.WorldFile.{WorldFile}
use Rattle.lsl_lines.specs.declared.forms.Line.{Line}
use Rattle.lsl_lines.specs.declared.forms.Line.TheVariants.{Begin, Step, End}
use Rattle.lsl_lines.specs.declared.reading.Part.{Part}
use Rattle.lsl_lines.specs.declared.reading.Part.TheVariants.{Steps, Ended}
use Rattle.lsl_lines.specs.declared.reading.Reading.{Reading}
use Rattle.lsl_lines.proofs.WrittenLines.{LineFits, StepFits, line_cut_off, line_read}
use Rattle.lsl_lines.proofs.WrittenObjects.{add_all, add_all-append, all-lying, cards_told, objects_told, ok_same, then_all, told}

-- ---- steps

abbrev step_line : TheStep → Line
step_line step = Step step

-- after these steps, where the last clock is this one
abbrev behind_steps : Reading → List TheStep → ℕ → Reading
behind_steps r steps clock = record r { part = Steps; steps = steps; clock = clock }

abbrev last_clock : ℕ → List TheStep → ℕ
last_clock clock [] = clock
last_clock clock (step ∷ steps) = last_clock (clock_behind clock step) steps

known : (r : Reading) (step : TheStep) → IsWritableStep r.objects r.scripts step → knows r step ≡ true
known r (Clock ms) h = refl
known r (Say channel name key text) h = refl
known r (Touch object link key name) h = h.0
known r (Changed object flags) h = h.0
known r (Rez object n) h = h.0
known r (Go script ticks) h = h.0
known r (Run ticks) h = refl
known r (Pause gaps) h = refl
known r (Cross object region) h = h.0

step_told : (r : Reading) (steps : List TheStep) (clock : ℕ) (step : TheStep)
    → IsWritableStep r.objects r.scripts step → clock ≤ clock_behind clock step → length steps < 100000
    → line_added (Step step) (behind_steps r steps clock)
    ≡ Ok (behind_steps r (steps ++ step ∷ []) (clock_behind clock step))
step_told r steps clock step h rises few =
    let now = behind_steps r steps clock in
    cond-true (nat_lt (length steps) 100000) _ _ (lt-ltb (length steps) 100000 few)
    ∙ cond-true (knows now step) _ _ (known now step h)
    ∙ cond-true (nat_le clock (clock_behind clock step)) _ _ (le-leb clock (clock_behind clock step) rises)

steps_told : (r : Reading) (steps more : List TheStep) (clock : ℕ)
    → AllByRecursion (IsWritableStep r.objects r.scripts) more → ClocksRise clock more
    → length steps + length more ≤ 100000
    → add_all (map step_line more) (behind_steps r steps clock)
    ≡ Ok (behind_steps r (steps ++ more) (last_clock clock more))
steps_told r steps [] clock h rises few =
    ap (λ (l : List TheStep). Ok (behind_steps r l clock)) (sym (append-nil steps))
steps_told r steps (step ∷ more) clock (one, h) (up, rises) few =
    let next = clock_behind clock step in
    let grown = steps ++ step ∷ [] in
    then_all (Step step) (map step_line more) (behind_steps r steps clock) (behind_steps r grown next)
    (Ok (behind_steps r (steps ++ step ∷ more) (last_clock next more)))
    (step_told r steps clock step one up (omega (arith, few)))
    (steps_told r grown more next h rises (omega (arith, few, length-append steps (step ∷ [])))
    ∙ ap (λ (l : List TheStep). Ok (behind_steps r l (last_clock next more))) (append_assoc steps (step ∷ []) more))

-- after the last line
abbrev ended : WorldFile → Reading
ended file =
    record (behind_steps (told file file.notes file.objects) file.steps (last_clock 0 file.steps)) { part = Ended }

-- the lines of a world describe it
world_told : (file : WorldFile) → IsWritable file → add_all (lines_of_world file) begun ≡ Ok (ended file)
world_told file w =
    let all = told file file.notes file.objects in
    let rest = map step_line file.steps ++ End ∷ [] in
    add_all-append (object_lines file 1 file.notes file.objects) (Begin ∷ rest) begun all
    (objects_told file [] file.notes 1 [] file.objects w (omega (arith, w.few_objects)) w.objects refl refl refl refl
    ∙ ap (λ (notes : List NoteLine). Ok (told file notes file.objects)) (all-lying file w))
    ∙ then_all Begin rest all (behind_steps all [] 0) (Ok (ended file)) refl
    (add_all-append (map step_line file.steps) (End ∷ []) (behind_steps all [] 0)
    (behind_steps all file.steps (last_clock 0 file.steps))
    (steps_told all [] file.steps 0 w.steps w.clocks_rise (omega (arith, w.few_steps))))

-- ---- each line can be written

each-append : {A : Type 0} (P : A → Type 0) (xs ys : List A) → AllByRecursion P xs → AllByRecursion P ys
    → AllByRecursion P (xs ++ ys)
each-append P [] ys h k = k
each-append P (x ∷ xs) ys (one, h) k = (one, each-append P xs ys h k)

no_name : IsName []
no_name = record { text = record { scalars = refl; within = lit≤ tt }; short = lit≤ tt }

name_at : (files : List (List ℕ)) (i : ℕ) → AllByRecursion IsName files → IsName (get_or files i [])
name_at [] i h = no_name
name_at (file ∷ files) zero (one, h) = one
name_at (file ∷ files) (suc i) (one, h) = name_at files i h

scripts_fit : (files : List (List ℕ)) (scripts : List ScriptLine) → AllByRecursion IsName files
    → AllByRecursion HasName scripts → AllByRecursion LineFits (map (script_line files) scripts)
scripts_fit files [] f h = tt
scripts_fit files (s ∷ scripts) f (one, h) = ((one, name_at files s.file f), scripts_fit files scripts f h)

notes_fit : (cards : List (List ℕ)) (notes : List NoteLine) → AllByRecursion IsName cards
    → AllByRecursion HasNoteName notes → AllByRecursion LineFits (map (note_line cards) notes)
notes_fit cards [] f h = tt
notes_fit cards (n ∷ notes) f (one, h) = ((one, name_at cards n.file f), notes_fit cards notes f h)

-- those that lie in a prim have names, and those that are left
lying_named : (prim : ℕ) (notes : List NoteLine) → AllByRecursion HasNoteName notes
    → AllByRecursion HasNoteName (lying_in prim notes)
lying_named prim [] h = tt
lying_named prim (n ∷ notes) (one, h) = go (n.prim == prim) (lying_named prim notes h) where
  go : (b : Bool) → AllByRecursion HasNoteName (lying_in prim notes)
      → AllByRecursion HasNoteName (cond b (n ∷ lying_in prim notes) [])
  go true named = (one, named)
  go false named = tt

left_named : (prim : ℕ) (notes : List NoteLine) → AllByRecursion HasNoteName notes
    → AllByRecursion HasNoteName (left_by prim notes)
left_named prim [] h = tt
left_named prim (n ∷ notes) (one, h) = go (n.prim == prim) (left_named prim notes h) where
  go : (b : Bool) → AllByRecursion HasNoteName (left_by prim notes)
      → AllByRecursion HasNoteName (cond b (left_by prim notes) (n ∷ notes))
  go true named = named
  go false named = (one, h)

left_behind_named : (prim count : ℕ) (notes : List NoteLine) → AllByRecursion HasNoteName notes
    → AllByRecursion HasNoteName (left_by_prims prim count notes)
left_behind_named prim zero notes h = h
left_behind_named prim (suc count) notes h =
    left_behind_named (prim + 1) count (left_by prim notes) (left_named prim notes h)

-- the scripts and notecards of a prim, and what follows them
in_prim_fit : (file : WorldFile) (number : ℕ) (notes : List NoteLine) (p : PrimLine) (rest : List Line)
    → IsWritable file → IsWritablePrim p → AllByRecursion HasNoteName notes → AllByRecursion LineFits rest
    → AllByRecursion LineFits (script_lines file.files p ++ (note_lines file number notes ++ rest))
in_prim_fit file number notes p rest w one named h =
    each-append LineFits (script_lines file.files p) (note_lines file number notes ++ rest)
    (scripts_fit file.files p.scripts w.files one.scripts)
    (each-append LineFits (note_lines file number notes) rest
    (notes_fit file.cards (lying_in number notes) w.cards (lying_named number notes named)) h)

prims_fit : (file : WorldFile) (number : ℕ) (notes : List NoteLine) (prims : List PrimLine) → IsWritable file
    → AllByRecursion HasNoteName notes → AllByRecursion IsWritablePrim prims
    → AllByRecursion LineFits (prim_lines file number notes prims)
prims_fit file number notes [] w named h = tt
prims_fit file number notes (p ∷ prims) w named (one, h) = (
  (one.key, one.name),
  in_prim_fit file number notes p (prim_lines file (number + 1) (left_by number notes) prims) w one named
      (prims_fit file (number + 1) (left_by number notes) prims w (left_named number notes named) h),
)

rooted_fit : (file : WorldFile) (number : ℕ) (notes : List NoteLine) (object : ObjectLine) (prims : List PrimLine)
    → IsWritable file → AllByRecursion HasNoteName notes → IsWritableObject object
    → AllByRecursion IsWritablePrim prims
    → AllByRecursion LineFits (rooted_lines file number notes object.owner object.region prims)
rooted_fit file number notes object [] w named o h = tt
rooted_fit file number notes object (p ∷ prims) w named o (one, h) = (
  (one.key, one.name, o.owner, o.region),
  in_prim_fit file number notes p (prim_lines file (number + 1) (left_by number notes) prims) w one named
      (prims_fit file (number + 1) (left_by number notes) prims w (left_named number notes named) h),
)

objects_fit : (file : WorldFile) (number : ℕ) (notes : List NoteLine) (objects : List ObjectLine) → IsWritable file
    → AllByRecursion HasNoteName notes → AllByRecursion IsWritableObject objects
    → AllByRecursion LineFits (object_lines file number notes objects)
objects_fit file number notes [] w named h = tt
objects_fit file number notes (o ∷ objects) w named (one, h) =
    let left = left_by_prims number (length o.prims) notes in
    each-append LineFits (rooted_lines file number notes o.owner o.region o.prims)
    (object_lines file (number + length o.prims) left objects)
    (rooted_fit file number notes o o.prims w named one one.prims)
    (objects_fit file (number + length o.prims) left objects w
    (left_behind_named number (length o.prims) notes named) h)

numbered : (count n : ℕ) → has_number count n ≡ true → n ≤ count
numbered count n h = let (some, le) = and_parts (nat_lt 0 n) (nat_le n count) h in leb-true n count le

prims_few : (objects : List ObjectLine) (i : ℕ) → AllByRecursion IsWritableObject objects
    → prims_of (slice_get objects i) ≤ 255
prims_few [] i h = lit≤ tt
prims_few (o ∷ objects) zero (one, h) = one.few
prims_few (o ∷ objects) (suc i) (one, h) = prims_few objects i h

linked : (objects : List ObjectLine) (object link : ℕ) → AllByRecursion IsWritableObject objects
    → has_link objects object link ≡ true → (object ≤ length objects) × (link ≤ 255)
linked objects object link h e =
    let most = prims_of (slice_get objects (object - 1)) in
    let (a, b) = and_parts (has_number (length objects) object) (nat_le link 1 || nat_le link most) e in (
      numbered (length objects) object a,
      ⊎_elim (root link) (child link most (prims_few objects (object - 1) h))
          (or_cases (nat_le link 1) (nat_le link most) b),
    )
  where
    root : (link : ℕ) → nat_le link 1 ≡ true → link ≤ 255
    root link t = let le = leb-true link 1 t in omega (arith, le)

    child : (link most : ℕ) → most ≤ 255 → nat_le link most ≡ true → link ≤ 255
    child link most few t = let le = leb-true link most t in omega (arith, le, few)

named_object : (objects : List ObjectLine) (n : ℕ) → length objects ≤ 64 → has_number (length objects) n ≡ true
    → n ≤ 4294967295
named_object objects n few h = let le = numbered (length objects) n h in omega (arith, le, few)

step_fits : (file : WorldFile) (step : TheStep) → IsWritable file
    → IsWritableStep file.objects (length (scripts_in file.objects)) step → StepFits step
step_fits file (Clock ms) w h = h
step_fits file (Say channel name key text) w h = h
step_fits file (Touch object link key name) w (e, k, n) =
    let (o, l) = linked file.objects object link w.objects e in
    (omega (arith, o, w.few_objects), omega (arith, l), k, n)
step_fits file (Changed object flags) w (e, f) = (named_object file.objects object w.few_objects e, f)
step_fits file (Rez object n) w (e, f) = (named_object file.objects object w.few_objects e, f)
step_fits file (Go script ticks) w (e, t) =
    let le = numbered (length (scripts_in file.objects)) script e in (omega (arith, le, w.few_scripts), t)
step_fits file (Run ticks) w h = h
step_fits file (Pause gaps) w h = h
step_fits file (Cross object region) w (e, r) = (named_object file.objects object w.few_objects e, r)

steps_fit : (file : WorldFile) (steps : List TheStep) → IsWritable file
    → AllByRecursion (IsWritableStep file.objects (length (scripts_in file.objects))) steps
    → AllByRecursion LineFits (map step_line steps)
steps_fit file [] w h = tt
steps_fit file (step ∷ steps) w (one, h) = (step_fits file step w one, steps_fit file steps w h)

lines_fit : (file : WorldFile) → IsWritable file → AllByRecursion LineFits (lines_of_world file)
lines_fit file w =
    each-append LineFits (object_lines file 1 file.notes file.objects)
    (Begin ∷ (map step_line file.steps ++ End ∷ []))
    (objects_fit file 1 file.notes file.objects w w.notes w.objects)
    (tt, each-append LineFits (map step_line file.steps) (End ∷ []) (steps_fit file file.steps w w.steps) (tt, tt))

-- ---- the text

lines_cut : (lines : List Line) → AllByRecursion LineFits lines
    → lines_of (flat_map (λ (l : List ℕ). l ++ 10 ∷ []) (map line_text lines)) ≡ map line_text lines
lines_cut [] h = refl
lines_cut (line ∷ lines) (one, h) =
    let rest = flat_map (λ (l : List ℕ). l ++ 10 ∷ []) (map line_text lines) in
    ap lines_of (append_assoc (line_text line) (10 ∷ []) rest)
    ∙ line_cut_off line rest one
    ∙ ap (λ (l : List (List ℕ)). line_text line ∷ l) (lines_cut lines h)

-- the world of what was read
abbrev world_in : Reading → WorldFile
world_in r = record { objects = r.objects; files = r.files; cards = r.cards; notes = r.notes; steps = r.steps }

abbrev with_files : WorldFile → List (List ℕ) → List (List ℕ) → WorldFile
with_files file files cards = record file { files = files; cards = cards }

read_through : (lines : List Line) (n : ℕ) (r q : Reading) → AllByRecursion LineFits lines → add_all lines r ≡ Ok q
    → q.part ≡ Ended → world_from n r (map line_text lines) ≡ Ok (world_in q)
read_through [] n r q h e end =
    ap (λ (x : Reading). file_of n x.part x) (ok_same r q e) ∙ ap (λ (p : Part). file_of n p q) end
read_through (line ∷ lines) n r q (one, h) e end =
    ap rest (line_read line r one) ∙ go (line_added line r) e (λ next f. read_through lines (n + 1) next q h f end)
  where
    rest : Result Reading FileKind → Result WorldFile FileFault
    rest read = elim read as (λ _. Result WorldFile FileFault) [
      | Ok next ↦ world_from (n + 1) next (map line_text lines)
      | Err kind ↦ Err (fault_at n kind)
    ]

    go : (m : Result Reading FileKind) → (m >>= add_all lines) ≡ Ok q
        → ((next : Reading) → add_all lines next ≡ Ok q → world_from (n + 1) next (map line_text lines)
        ≡ Ok (world_in q))
        → rest m ≡ Ok (world_in q)
    go (Ok next) f more = more next f
    go (Err kind) f more = absurd (cc)

pub each_is_read : EachIsRead
unfolding world_of
each_is_read file w =
    let text = text_of_world file in
    let all : take (named_behind 0 (scripts_in file.objects)) file.files ≡ file.files =
    take_all (named_behind 0 (scripts_in file.objects)) file.files (omega (arith, w.all_named)) in
    let noted : cards_told file file.notes ≡ file.cards =
    take_all (named_behind 0 (map as_script file.notes)) file.cards (omega (arith, w.all_cards_named)) in
    cond-true (nat_le (length text) 1048576) _ _ (le-leb (length text) 1048576 w.short)
    ∙ ap (world_from 1 begun) (lines_cut (lines_of_world file) (lines_fit file w))
    ∙ read_through (lines_of_world file) 1 begun (ended file) (lines_fit file w) (world_told file w) refl
    ∙ (λ i. Ok (with_files file (all i) (noted i)))
