-- What a line does to what was read before it: the faults are tested in this order.
use Rattle.std.specs.Prelude.{ℕ, ◌+◌, ◌-◌, nat_le, nat_lt, Bool, true, false, not, cond, ◌&&◌, ◌||◌, List, [], ◌∷◌, ◌++◌, length, slice_get, Option, Some, None, Result, Ok, Err}
use Rattle.std.specs.List.{position_or_len}
use Rattle.std.specs.Str.{bytes_eq, encode_utf8_all}
use Rattle.lsl_lines.specs.Checks.{◌>>=◌, fault_unless}
use Rattle.lsl_lines.specs.Forms.{form_of}
use Rattle.lsl_lines.specs.Keys.{has_key}
use Rattle.lsl_lines.specs.Words.{is_skipped}
use Rattle.lsl_lines.specs.declared.faults.FileKind.{FileKind}
use Rattle.lsl_lines.specs.declared.faults.FileKind.TheVariants.{BadLine, Unknown, TooMany, ClockBack, DoubleKey}
use Rattle.lsl_lines.specs.declared.file.NoteLine.{NoteLine}
use Rattle.lsl_lines.specs.declared.file.ObjectLine.{ObjectLine}
use Rattle.lsl_lines.specs.declared.file.PrimLine.{PrimLine}
use Rattle.lsl_lines.specs.declared.file.ScriptLine.{ScriptLine}
use Rattle.lsl_lines.specs.declared.file.Step.{Step as TheStep}
use Rattle.lsl_lines.specs.declared.file.Step.TheVariants.{Clock, Say, Touch, Changed, Rez, Go, Run, Pause, Cross}
use Rattle.lsl_lines.specs.declared.forms.Line.{Line}
use Rattle.lsl_lines.specs.declared.forms.Line.TheVariants.{Object, Prim, Script, Note, Begin, Step, End}
use Rattle.lsl_lines.specs.declared.reading.Part.{Part}
use Rattle.lsl_lines.specs.declared.reading.Part.TheVariants.{Objects, Steps, Ended}
use Rattle.lsl_lines.specs.declared.reading.Reading.{Reading}

-- before the first line
abbrev pub begun : Reading
begun = record {
  part = Objects;
  objects = [];
  scripts = 0;
  files = [];
  cards = [];
  notes = [];
  keys = [];
  steps = [];
  clock = 0;
}

abbrev pub is_objects : Part → Bool
is_objects Objects = true
is_objects Steps = false
is_objects Ended = false

abbrev pub is_steps : Part → Bool
is_steps Objects = false
is_steps Steps = true
is_steps Ended = false

-- the last element is changed, where there is one
abbrev pub at_last : {A : Type 0} → (A → Result A FileKind) → List A → Result (List A) FileKind
at_last change [] = Err BadLine
at_last change (x ∷ []) = change x >>= λ y. Ok (y ∷ [])
at_last change (x ∷ y ∷ ys) = at_last change (y ∷ ys) >>= λ zs. Ok (x ∷ zs)

abbrev pub new_prim : List ℕ → List ℕ → PrimLine
new_prim key name = record { key = key; name = name; scripts = [] }

abbrev pub new_object : List ℕ → List ℕ → List ℕ → List ℕ → ObjectLine
new_object key name owner region = record { owner = owner; region = region; prims = new_prim key name ∷ [] }

-- a key that an earlier object or prim has is refused
abbrev pub keys_behind : List (List ℕ) → List ℕ → Result (List (List ℕ)) FileKind
keys_behind keys key = fault_unless (not (has_key keys key)) DoubleKey (Ok (keys ++ encode_utf8_all key ∷ []))

-- an object with its root
abbrev pub object_added : List ℕ → List ℕ → List ℕ → List ℕ → Reading → Result Reading FileKind
object_added key name owner region r =
    fault_unless (is_objects r.part) BadLine
    (fault_unless (nat_lt (length r.objects) 64) TooMany
    (keys_behind r.keys key >>= λ keys.
    Ok (record r { objects = r.objects ++ new_object key name owner region ∷ []; keys = keys })))

abbrev pub with_prim : PrimLine → ObjectLine → Result ObjectLine FileKind
with_prim prim object =
    fault_unless (nat_lt (length object.prims) 255) TooMany (Ok (record object { prims = object.prims ++ prim ∷ [] }))

-- a prim of the last object
abbrev pub prim_added : List ℕ → List ℕ → Reading → Result Reading FileKind
prim_added key name r =
    fault_unless (is_objects r.part) BadLine
    (at_last (with_prim (new_prim key name)) r.objects >>= λ objects.
    keys_behind r.keys key >>= λ keys.
    Ok (record r { objects = objects; keys = keys }))

-- the place of a file: that of its first naming, or the next one
abbrev pub place_of : List (List ℕ) → List ℕ → ℕ
place_of files file = position_or_len (bytes_eq file) files

abbrev pub file_added : List (List ℕ) → List ℕ → List (List ℕ)
file_added files file = cond (nat_lt (place_of files file) (length files)) files (files ++ file ∷ [])

abbrev pub new_script : List (List ℕ) → List ℕ → List ℕ → ScriptLine
new_script files name file = record { name = name; file = place_of files file }

abbrev pub with_script : ScriptLine → PrimLine → Result PrimLine FileKind
with_script script prim = Ok (record prim { scripts = prim.scripts ++ script ∷ [] })

abbrev pub with_script_at_last : ScriptLine → ObjectLine → Result ObjectLine FileKind
with_script_at_last script object =
    at_last (with_script script) object.prims >>= λ prims. Ok (record object { prims = prims })

-- a script of the last prim
abbrev pub script_added : List ℕ → List ℕ → Reading → Result Reading FileKind
script_added name file r =
    fault_unless (is_objects r.part && nat_lt 0 (length r.objects)) BadLine
    (fault_unless (nat_lt r.scripts 256) TooMany
    (at_last (with_script_at_last (new_script r.files name file)) r.objects >>= λ objects.
    Ok (record r { objects = objects; scripts = r.scripts + 1; files = file_added r.files file })))

abbrev pub new_note : Reading → List ℕ → List ℕ → NoteLine
new_note r name file = record { prim = length r.keys; name = name; file = place_of r.cards file }

-- a notecard of the last prim; there is a key for each prim
abbrev pub note_added : List ℕ → List ℕ → Reading → Result Reading FileKind
note_added name file r =
    fault_unless (is_objects r.part && nat_lt 0 (length r.objects)) BadLine
    (fault_unless (nat_lt (length r.notes) 256) TooMany
    (Ok (record r { notes = r.notes ++ new_note r name file ∷ []; cards = file_added r.cards file })))

-- the number is one of `count`, counted from 1
abbrev pub has_number : ℕ → ℕ → Bool
has_number count n = nat_lt 0 n && nat_le n count

abbrev pub prims_of : Option ObjectLine → ℕ
prims_of None = 0
prims_of (Some object) = length object.prims

-- the object has a prim of that link number; 0 and 1 are its root
abbrev pub has_link : List ObjectLine → ℕ → ℕ → Bool
has_link objects object link =
    has_number (length objects) object
    && (nat_le link 1 || nat_le link (prims_of (slice_get objects (object - 1))))

-- the objects, scripts and prims of the step exist
abbrev pub knows : Reading → TheStep → Bool
knows r (Clock ms) = true
knows r (Say channel name key text) = true
knows r (Touch object link key name) = has_link r.objects object link
knows r (Changed object flags) = has_number (length r.objects) object
knows r (Rez object n) = has_number (length r.objects) object
knows r (Go script ticks) = has_number r.scripts script
knows r (Run ticks) = true
knows r (Pause gaps) = true
knows r (Cross object region) = has_number (length r.objects) object

-- the last clock after the step
abbrev pub clock_behind : ℕ → TheStep → ℕ
clock_behind clock (Clock ms) = ms
clock_behind clock _ = clock

abbrev pub step_added : TheStep → Reading → Result Reading FileKind
step_added step r =
    fault_unless (is_steps r.part) BadLine
    (fault_unless (nat_lt (length r.steps) 100000) TooMany
    (fault_unless (knows r step) Unknown
    (fault_unless (nat_le r.clock (clock_behind r.clock step)) ClockBack
    (Ok (record r { steps = r.steps ++ step ∷ []; clock = clock_behind r.clock step })))))

-- what this line does to what was read before it
abbrev pub line_added : Line → Reading → Result Reading FileKind
line_added (Object key name owner region) r = object_added key name owner region r
line_added (Prim key name) r = prim_added key name r
line_added (Script name file) r = script_added name file r
line_added (Note name file) r = note_added name file r
line_added Begin r = fault_unless (is_objects r.part) BadLine (Ok (record r { part = Steps }))
line_added (Step step) r = step_added step r
line_added End r = fault_unless (is_steps r.part) BadLine (Ok (record r { part = Ended }))

-- the same for a line of bytes: an empty one and a comment do nothing
unfoldable pub read_line : List ℕ → Reading → Result Reading FileKind
read_line line r = cond (is_skipped line) (Ok r) (form_of line >>= λ form. line_added form r)
