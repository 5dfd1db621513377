-- The grid of a file's objects represents the world at its start.
use Rattle.std.proofs.Common.{◌≡◌, ℕ, zero, suc, ◌<◌, List, [], ◌∷◌, ◌++◌, length, refl, ap, sym, ◌∙◌, subst, arith}
use Rattle.std.specs.Prelude.{All, Option, Some, None, false, is_some, map, slice_get}
use Rattle.std.proofs.lemmas.List.{length-map}
use Rattle.std.proofs.lemmas.Option.{slice_get-map}
use Rattle.lsl_value.specs.declared.names.EventId.TheVariants as event
use Rattle.lsl_value.specs.declared.tagged.Value.{Value}
use Rattle.lsl_running.specs.Charging.{default_limit}
use Rattle.lsl_code.specs.declared.woven_units.Woven.{Woven as Code}
use Rattle.lsl_lines.specs.declared.file.ObjectLine.{ObjectLine}
use Rattle.lsl_lines.specs.declared.file.PrimLine.{PrimLine}
use Rattle.lsl_lines.specs.declared.file.ScriptLine.{ScriptLine}
use Rattle.lsl_lines.specs.declared.file.WorldFile.{WorldFile}
use Rattle.lsl_post.specs.Mailbox.{new_mailbox, posted}
use Rattle.lsl_notes.specs.declared.cards.Notecard.{Notecard}
use Rattle.lsl_script.specs.Codes.{Meant, rules_of}
use Rattle.lsl_script.specs.Scripts.{Resting, Script, new_script, state_entry}
use Rattle.lsl_region.specs.declared.objects.Linkset.{Linkset}
use Rattle.lsl_region.specs.Grids.{Contents, IsScript, Stands, seat_of}
use Rattle.lsl_region.specs.Worlds.{Member}
use Rattle.lsl_world.specs.Ranges.{HasFile, IsObjectOf}
use Rattle.lsl_world.specs.Seats.{seats_of, seats_of_objects}
use Rattle.lsl_world.specs.Sizes.{Size, scripts_of, size_of_file}
use Rattle.lsl_world.specs.Stands.{prims_of}
use Rattle.lsl_world.specs.Starts.{member_of_line, members_of_objects, members_of_prim, members_of_prims, object_of_line, prim_of_line, start}
use Rattle.lsl_world.proofs.Filling.{objects-count}

all-first : {X : Type 0} (P : X → Type 0) (x : X) (xs : List X) → All P (x ∷ xs) → P x
all-first P x xs h = h 0 x (omega arith)

all-rest : {X : Type 0} (P : X → Type 0) (x : X) (xs : List X) → All P (x ∷ xs) → All P xs
all-rest P x xs h = λ k d lt. h (suc k) d (omega (arith, lt))

-- what holds of the item at each place
abbrev pub Every : {X : Type 0} → (X → Type 0) → List X → Type 0
Every {X} P xs = (n : ℕ) (x : X) → slice_get xs n ≡ Some x → P x

every-none : {X : Type 0} (P : X → Type 0) → Every P []
every-none P n x e = absurd cc

every-more : {X : Type 0} (P : X → Type 0) (y : X) (xs : List X) → P y → Every P xs → Every P (y ∷ xs)
every-more P y xs one rest zero x e = let k : y ≡ x = cc in subst P k one
every-more P y xs one rest (suc n) x e = rest n x e

every-append : {X : Type 0} (P : X → Type 0) (xs ys : List X) → Every P xs → Every P ys → Every P (xs ++ ys)
every-append P [] ys first rest n x e = rest n x e
every-append P (z ∷ xs) ys first rest zero x e = first 0 x e
every-append P (z ∷ xs) ys first rest (suc n) x e = every-append P xs ys (λ k. first (suc k)) rest n x e

-- a script at its start, from what its code says of it
abbrev pub made : ℕ → List Value → Option ℕ → Script
made code globals handler = record {
  code = code;
  kept = record { globals = globals; limit = default_limit };
  state = 0;
  leaving = None;
  mailbox = posted (is_some handler) state_entry new_mailbox;
  wake = 0;
  doing = Resting;
}

module _ (codes : List Code) (m : Meant codes) where
  new-same : (code : ℕ) → code < length codes → new_script (rules_of codes) code ≡ new_script m.rules code
  new-same code h =
      ap (λ (globals : List Value). made code globals ((rules_of codes).handler code 0 event.StateEntry))
      (sym (m.initial code h))
      ∙ ap (λ (handler : Option ℕ). made code (m.rules.initial code) handler)
      (sym (m.handler code 0 event.StateEntry h))

  prim-same : (object prim : ℕ) (lines : List ScriptLine) → All (HasFile (length codes)) lines
      → members_of_prim (rules_of codes) object prim lines ≡ members_of_prim m.rules object prim lines
  prim-same object prim [] all = refl
  prim-same object prim (x ∷ xs) all =
      ap (λ (s : Script). let first : Member = record { object = object; prim = prim; name = x.name; script = s } in
      first ∷ members_of_prim (rules_of codes) object prim xs)
      (new-same x.file (all-first (HasFile (length codes)) x xs all))
      ∙ ap (λ (ms : List Member). member_of_line m.rules object prim x ∷ ms)
      (prim-same object prim xs (all-rest (HasFile (length codes)) x xs all))

  abbrev pub AreThere : PrimLine → Type 0
  AreThere p = All (HasFile (length codes)) p.scripts

  prims-same : (object prim : ℕ) (lines : List PrimLine) → All AreThere lines
      → members_of_prims (rules_of codes) object prim lines ≡ members_of_prims m.rules object prim lines
  prims-same object prim [] all = refl
  prims-same object prim (x ∷ xs) all =
      ap (λ (ms : List Member). ms ++ members_of_prims (rules_of codes) object (suc prim) xs)
      (prim-same object prim x.scripts (all-first AreThere x xs all))
      ∙ ap (λ (ms : List Member). members_of_prim m.rules object prim x.scripts ++ ms)
      (prims-same object (suc prim) xs (all-rest AreThere x xs all))

  objects-same : (object : ℕ) (lines : List ObjectLine) → All (IsObjectOf (length codes)) lines
      → members_of_objects (rules_of codes) object lines ≡ members_of_objects m.rules object lines
  objects-same object [] all = refl
  objects-same object (x ∷ xs) all =
      let it = all-first (IsObjectOf (length codes)) x xs all in
      ap (λ (ms : List Member). ms ++ members_of_objects (rules_of codes) (suc object) xs)
      (prims-same object 0 x.prims it.files_there)
      ∙ ap (λ (ms : List Member). members_of_prims m.rules object 0 x.prims ++ ms)
      (objects-same (suc object) xs (all-rest (IsObjectOf (length codes)) x xs all))

  -- every script is one of a unit
  abbrev pub Fits : Member → Type 0
  Fits member = IsScript codes false member.script

  prim-fits : (object prim : ℕ) (lines : List ScriptLine) → All (HasFile (length codes)) lines
      → Every Fits (members_of_prim m.rules object prim lines)
  prim-fits object prim [] all = every-none Fits
  prim-fits object prim (x ∷ xs) all =
      every-more Fits (member_of_line m.rules object prim x) (members_of_prim m.rules object prim xs)
      (record {
        known = all-first (HasFile (length codes)) x xs all;
        lawful = record { timing = refl; doing = tt };
      })
      (prim-fits object prim xs (all-rest (HasFile (length codes)) x xs all))

  prims-fit : (object prim : ℕ) (lines : List PrimLine) → All AreThere lines
      → Every Fits (members_of_prims m.rules object prim lines)
  prims-fit object prim [] all = every-none Fits
  prims-fit object prim (x ∷ xs) all =
      every-append Fits (members_of_prim m.rules object prim x.scripts) (members_of_prims m.rules object (suc prim) xs)
      (prim-fits object prim x.scripts (all-first AreThere x xs all))
      (prims-fit object (suc prim) xs (all-rest AreThere x xs all))

  objects-fit : (object : ℕ) (lines : List ObjectLine) → All (IsObjectOf (length codes)) lines
      → Every Fits (members_of_objects m.rules object lines)
  objects-fit object [] all = every-none Fits
  objects-fit object (x ∷ xs) all =
      let it = all-first (IsObjectOf (length codes)) x xs all in
      every-append Fits (members_of_prims m.rules object 0 x.prims) (members_of_objects m.rules (suc object) xs)
      (prims-fit object 0 x.prims it.files_there)
      (objects-fit (suc object) xs (all-rest (IsObjectOf (length codes)) x xs all))

  pub starts : (file : WorldFile) (cards : List Notecard) (grid : Contents)
      → All (IsObjectOf (length codes)) file.objects → grid.objects ≡ map object_of_line file.objects
      → grid.seats ≡ seats_of_objects codes 0 file.objects → grid.cards ≡ cards
      → Stands codes None 0 grid (start m.rules file cards)
  starts file cards grid all objects seats held = record {
    time = refl;
    objects = objects;
    cards = held;
    seats = λ n.
        ap (λ xs. slice_get xs n) (seats ∙ ap (seats_of codes) (objects-same 0 file.objects all))
        ∙ slice_get-map (seat_of codes false) (members_of_objects m.rules 0 file.objects) n;
    scripts = λ n member e. objects-fit 0 file.objects all n member e;
  }

prims-kept : (lines : List ObjectLine)
    → map prims_of (map object_of_line lines) ≡ map (λ (o : ObjectLine). length o.prims) lines
prims-kept [] = refl
prims-kept (x ∷ xs) =
    ap (λ (n : ℕ). n ∷ map prims_of (map object_of_line xs)) (length-map x.prims prim_of_line)
    ∙ ap (λ (ns : List ℕ). length x.prims ∷ ns) (prims-kept xs)

abbrev pub size_in : List Linkset → ℕ → Size
size_in objects scripts = record { prims = map prims_of objects; scripts = scripts }

-- and it has as many objects, prims and scripts
pub sized : (codes : List Code) (file : WorldFile) (grid : Contents) → grid.objects ≡ map object_of_line file.objects
    → grid.seats ≡ seats_of_objects codes 0 file.objects
    → size_in grid.objects (length grid.seats) ≡ size_of_file file
sized codes file grid objects seats =
    ap (λ os. size_in os (length grid.seats)) objects
    ∙ ap (λ (n : ℕ). size_in (map object_of_line file.objects) n) (ap length seats ∙ objects-count codes 0 file.objects)
    ∙ ap (λ (ns : List ℕ). let size : Size = record { prims = ns; scripts = scripts_of file.objects } in size)
    (prims-kept file.objects)
