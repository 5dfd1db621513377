-- The lines of objects describe these objects.
use Rattle.std.proofs.Common.{◌≡◌, ℕ, zero, suc, ◌+◌, ◌<◌, ◌≤◌, max, nat_lt, Bool, true, false, not, cond, ◌==◌, ◌&&◌, List, [], ◌∷◌, ◌++◌, length, get_or, take, map, flat_map, Result, Ok, Err, refl, sym, ap, ◌∙◌, subst, arith, append_assoc, append-nil, encode_utf8_all}
use Rattle.std.proofs.lemmas.Bool.{cond-true, eqb-false, eqb-true, lt-ltb}
use Rattle.std.proofs.lemmas.Grind.{flat_map-append}
use Rattle.std.proofs.lemmas.List.{length-append, length-map, map-append}
use Rattle.std.specs.List.{AllByRecursion, IsDistinct}
use Rattle.std.specs.Str.{bytes_eq}
use Rattle.lsl_lines.specs.Checks.{◌>>=◌}
use Rattle.lsl_lines.specs.Keys.{has_key}
use Rattle.lsl_lines.specs.Reading.{at_last, file_added, keys_behind, line_added, new_prim, new_script, with_prim, with_script, with_script_at_last}
use Rattle.lsl_lines.specs.Writable.{IsWritable, IsWritableObject, LieInTurn, NameInTurn, as_script, keys_in, named_behind, scripts_in}
use Rattle.lsl_lines.specs.Written.{left_by, left_by_prims, lying_in, note_line, note_lines, object_lines, prim_lines, rooted_lines, script_line, script_lines}
use Rattle.lsl_lines.specs.declared.faults.FileKind.{FileKind}
use Rattle.lsl_lines.specs.declared.faults.FileKind.TheVariants.{DoubleKey}
use Rattle.lsl_lines.specs.declared.file.NoteLine.{NoteLine}
use Rattle.lsl_lines.specs.declared.file.ObjectLine.{ObjectLine}
use Rattle.lsl_lines.specs.declared.file.PrimLine.{PrimLine}
use Rattle.lsl_lines.specs.declared.file.ScriptLine.{ScriptLine}
use Rattle.lsl_lines.specs.declared.file.WorldFile.{WorldFile}
use Rattle.lsl_lines.specs.declared.forms.Line.{Line}
use Rattle.lsl_lines.specs.declared.forms.Line.TheVariants.{Object, Prim}
use Rattle.lsl_lines.specs.declared.reading.Part.TheVariants.{Objects}
use Rattle.lsl_lines.specs.declared.reading.Reading.{Reading}
use Rattle.lsl_lines.proofs.LastLemmas.{at_last-ok}
use Rattle.lsl_lines.proofs.WrittenFiles.{file_told, key_told, named-append, next_in_turn, next_within, place_told}

-- ---- lines in turn

abbrev pub add_all : List Line → Reading → Result Reading FileKind
add_all [] r = Ok r
add_all (line ∷ lines) r = line_added line r >>= add_all lines

value_or : {A : Type 0} → A → Result A FileKind → A
value_or x (Ok y) = y
value_or x (Err kind) = x

pub ok_same : {A : Type 0} (x y : A) → let one : Result A FileKind = Ok x in one ≡ Ok y → x ≡ y
unfolding value_or
ok_same x y e = ap (value_or x) e

pub add_all-append : (a b : List Line) (r q : Reading) → add_all a r ≡ Ok q → add_all (a ++ b) r ≡ add_all b q
add_all-append [] b r q e = ap (add_all b) (ok_same r q e)
add_all-append (line ∷ a) b r q e = go (line_added line r) e (λ x f. add_all-append a b x q f)
  where
    go : (m : Result Reading FileKind) → (m >>= add_all a) ≡ Ok q
        → ((x : Reading) → add_all a x ≡ Ok q → add_all (a ++ b) x ≡ add_all b q)
        → (m >>= add_all (a ++ b)) ≡ add_all b q
    go (Ok x) f more = more x f
    go (Err kind) f more = absurd (cc)

pub then_all : (line : Line) (lines : List Line) (r q : Reading) (out : Result Reading FileKind)
    → line_added line r ≡ Ok q → add_all lines q ≡ out → add_all (line ∷ lines) r ≡ out
then_all line lines r q out e h = ap (λ (m : Result Reading FileKind). m >>= add_all lines) e ∙ h

-- ---- what was read

abbrev pub reading : List (List ℕ) → List NoteLine → List ObjectLine → ℕ → List (List ℕ) → List (List ℕ) → Reading
reading cards notes objects scripts files keys = record {
  part = Objects;
  objects = objects;
  scripts = scripts;
  files = files;
  cards = cards;
  notes = notes;
  keys = keys;
  steps = [];
  clock = 0;
}

same_reading : (cards : List (List ℕ)) (notes : List NoteLine) (o p : List ObjectLine) (m n : ℕ)
    (f g k l : List (List ℕ)) → o ≡ p → m ≡ n → f ≡ g → k ≡ l
    → reading cards notes o m f k ≡ reading cards notes p n g l
same_reading cards notes o p m n f g k l a b c d = λ i. reading cards notes (a i) (b i) (c i) (d i)

-- the files of these notecards
abbrev pub cards_told : WorldFile → List NoteLine → List (List ℕ)
cards_told file notes = take (named_behind 0 (map as_script notes)) file.cards

-- what was read after the lines of these objects and notecards
abbrev pub told : WorldFile → List NoteLine → List ObjectLine → Reading
told file notes objects =
    reading (cards_told file notes) notes objects (length (scripts_in objects))
    (take (named_behind 0 (scripts_in objects)) file.files) (map encode_utf8_all (keys_in objects))

abbrev object : List ℕ → List ℕ → List PrimLine → ObjectLine
object owner region prims = record { owner = owner; region = region; prims = prims }

abbrev prim : List ℕ → List ℕ → List ScriptLine → PrimLine
prim key name scripts = record { key = key; name = name; scripts = scripts }

-- objects, of which the last has these prims
abbrev with_prims : List ObjectLine → List ℕ → List ℕ → List PrimLine → List ObjectLine
with_prims front owner region prims = front ++ object owner region prims ∷ []

abbrev in_prims : List PrimLine → List ScriptLine
in_prims prims = flat_map (λ (p : PrimLine). p.scripts) prims

abbrev key_of : PrimLine → List ℕ
key_of p = p.key

-- ---- the scripts and keys of these

scripts-last : (front : List ObjectLine) (o : ObjectLine)
    → scripts_in (front ++ o ∷ []) ≡ scripts_in front ++ in_prims o.prims
scripts-last front o =
    flat_map-append (λ (x : ObjectLine). in_prims x.prims) front (o ∷ [])
    ∙ ap (λ l. scripts_in front ++ l) (append-nil (in_prims o.prims))

keys-last : (front : List ObjectLine) (o : ObjectLine)
    → keys_in (front ++ o ∷ []) ≡ keys_in front ++ map key_of o.prims
keys-last front o =
    flat_map-append (λ (x : ObjectLine). map key_of x.prims) front (o ∷ [])
    ∙ ap (λ l. keys_in front ++ l) (append-nil (map key_of o.prims))

prims-last : (ps : List PrimLine) (p : PrimLine) → in_prims (ps ++ p ∷ []) ≡ in_prims ps ++ p.scripts
prims-last ps p =
    flat_map-append (λ (x : PrimLine). x.scripts) ps (p ∷ [])
    ∙ ap (λ l. in_prims ps ++ l) (append-nil p.scripts)

-- one more prim at the end
prim-more : (front : List ObjectLine) (owner region : List ℕ) (ps : List PrimLine) (p : PrimLine)
    → scripts_in (with_prims front owner region (ps ++ p ∷ []))
    ≡ scripts_in (with_prims front owner region ps) ++ p.scripts
prim-more front owner region ps p =
    scripts-last front (object owner region (ps ++ p ∷ []))
    ∙ ap (λ l. scripts_in front ++ l) (prims-last ps p)
    ∙ sym (append_assoc (scripts_in front) (in_prims ps) p.scripts)
    ∙ ap (λ l. l ++ p.scripts) (sym (scripts-last front (object owner region ps)))

key-more : (front : List ObjectLine) (owner region : List ℕ) (ps : List PrimLine) (p : PrimLine)
    → keys_in (with_prims front owner region (ps ++ p ∷ [])) ≡ keys_in (with_prims front owner region ps) ++ p.key ∷ []
key-more front owner region ps p =
    keys-last front (object owner region (ps ++ p ∷ []))
    ∙ ap (λ l. keys_in front ++ l) (map-append key_of ps (p ∷ []))
    ∙ sym (append_assoc (keys_in front) (map key_of ps) (p.key ∷ []))
    ∙ ap (λ l. l ++ p.key ∷ []) (sym (keys-last front (object owner region ps)))

-- an object without a prim adds nothing
bare-scripts : (front : List ObjectLine) (owner region : List ℕ)
    → scripts_in (with_prims front owner region []) ≡ scripts_in front
bare-scripts front owner region =
    flat_map-append (λ (x : ObjectLine). in_prims x.prims) front (object owner region [] ∷ [])
    ∙ append-nil (scripts_in front)

bare-keys : (front : List ObjectLine) (owner region : List ℕ)
    → keys_in (with_prims front owner region []) ≡ keys_in front
bare-keys front owner region =
    flat_map-append (λ (x : ObjectLine). map key_of x.prims) front (object owner region [] ∷ [])
    ∙ append-nil (keys_in front)

-- more scripts of the last prim
script-more : (front : List ObjectLine) (owner region : List ℕ) (ps : List PrimLine) (key name : List ℕ)
    (ss more : List ScriptLine)
    → scripts_in (with_prims front owner region (ps ++ prim key name (ss ++ more) ∷ []))
    ≡ scripts_in (with_prims front owner region (ps ++ prim key name ss ∷ [])) ++ more
script-more front owner region ps key name ss more =
    prim-more front owner region ps (prim key name (ss ++ more))
    ∙ sym (append_assoc (scripts_in (with_prims front owner region ps)) ss more)
    ∙ ap (λ l. l ++ more) (sym (prim-more front owner region ps (prim key name ss)))

-- ---- a script

-- the last prim has these scripts
abbrev with_scripts : List ObjectLine → List ℕ → List ℕ → List PrimLine → List ℕ → List ℕ → List ScriptLine
    → List ObjectLine
with_scripts front owner region ps key name ss = with_prims front owner region (ps ++ prim key name ss ∷ [])

some_last : (front : List ObjectLine) (o : ObjectLine) → nat_lt 0 (length (front ++ o ∷ [])) ≡ true
some_last front o = lt-ltb 0 (length (front ++ o ∷ [])) (omega (arith, length-append front (o ∷ [])))

script_told : (file : WorldFile) (notes : List NoteLine) (front : List ObjectLine) (owner region : List ℕ)
    (ps : List PrimLine) (key name : List ℕ) (ss : List ScriptLine) (s : ScriptLine) (rest : List ScriptLine)
    → IsWritable file
    → scripts_in (with_scripts front owner region ps key name ss) ++ s ∷ rest ≡ scripts_in file.objects
    → line_added (script_line file.files s) (told file notes (with_scripts front owner region ps key name ss))
    ≡ Ok (told file notes (with_scripts front owner region ps key name (ss ++ s ∷ [])))
script_told file notes front owner region ps key name ss s rest w e =
    let old = with_scripts front owner region ps key name ss in
    let before = scripts_in old in
    let cards = cards_told file notes in
    let n = named_behind 0 before in
    let path = get_or file.files s.file [] in
    let script : ScriptLine = new_script (take n file.files) s.name path in
    let turn : s.file ≤ n = next_in_turn 0 before s rest (subst (λ l. NameInTurn 0 l) (sym e) w.in_turn) in
    let within : max n (s.file + 1) ≤ length file.files =
    omega (arith, next_within 0 before s rest, ap (named_behind 0) e, w.all_named) in
    let few : length before < 256 = omega (arith, length-append before (s ∷ rest), ap length e, w.few_scripts) in
    let put : ScriptLine → List ObjectLine = λ x. with_scripts front owner region ps key name (ss ++ x ∷ []) in
    let place = place_told file.files n s.file w.files_differ turn within in
    let same : put script ≡ put s =
    ap (λ (p : ℕ). put (record { name = s.name; file = p })) place in
    let grown = script-more front owner region ps key name ss (s ∷ []) in
    let objects : at_last (with_script_at_last script) old ≡ Ok (put script) =
    at_last-ok (with_script_at_last script) old front (object owner region (ps ++ prim key name ss ∷ []))
    (object owner region (ps ++ prim key name (ss ++ script ∷ []) ∷ [])) refl
    (ap (λ (m : Result (List PrimLine) FileKind). m >>= λ prims. Ok (object owner region prims))
    (at_last-ok (with_script script) (ps ++ prim key name ss ∷ []) ps (prim key name ss)
    (prim key name (ss ++ script ∷ [])) refl refl)) in
    cond-true (true && nat_lt 0 (length old)) _ _ (some_last front (object owner region (ps ++ prim key name ss ∷ [])))
    ∙ cond-true (nat_lt (length before) 256) _ _ (lt-ltb (length before) 256 few)
    ∙ ap (λ (m : Result (List ObjectLine) FileKind). m >>= λ objects.
    Ok (reading cards notes objects (length before + 1) (file_added (take n file.files) path)
    (map encode_utf8_all (keys_in old))))
    objects
    ∙ ap (λ (r : Reading). Ok r) (same_reading cards notes (put script) (put s) (length before + 1)
    (length (scripts_in (put s)))
    (file_added (take n file.files) path) (take (named_behind 0 (scripts_in (put s))) file.files)
    (map encode_utf8_all (keys_in old)) (map encode_utf8_all (keys_in (put s)))
    same
    (sym (ap length grown ∙ length-append before (s ∷ [])))
    (file_told file.files n s.file w.files_differ turn within
    ∙ ap (λ m. take m file.files) (sym (ap (named_behind 0) grown ∙ named-append 0 before (s ∷ []))))
    (ap (map encode_utf8_all) (key-more front owner region ps (prim key name ss)
    ∙ sym (key-more front owner region ps (prim key name (ss ++ s ∷ []))))))

scripts_told : (file : WorldFile) (notes : List NoteLine) (front : List ObjectLine) (owner region : List ℕ)
    (ps : List PrimLine) (key name : List ℕ) (ss more rest : List ScriptLine) → IsWritable file
    → scripts_in (with_scripts front owner region ps key name ss) ++ (more ++ rest) ≡ scripts_in file.objects
    → add_all (map (script_line file.files) more) (told file notes (with_scripts front owner region ps key name ss))
    ≡ Ok (told file notes (with_scripts front owner region ps key name (ss ++ more)))
scripts_told file notes front owner region ps key name ss [] rest w e =
    ap (λ (l : List ScriptLine). Ok (told file notes (with_scripts front owner region ps key name l)))
    (sym (append-nil ss))
scripts_told file notes front owner region ps key name ss (s ∷ more) rest w e =
    let at : List ScriptLine → Reading = λ l. told file notes (with_scripts front owner region ps key name l) in
    let later : scripts_in (with_scripts front owner region ps key name (ss ++ s ∷ [])) ++ (more ++ rest)
    ≡ scripts_in file.objects =
    ap (λ l. l ++ (more ++ rest)) (script-more front owner region ps key name ss (s ∷ []))
    ∙ append_assoc (scripts_in (with_scripts front owner region ps key name ss)) (s ∷ []) (more ++ rest)
    ∙ e in
    then_all (script_line file.files s) (map (script_line file.files) more) (at ss) (at (ss ++ s ∷ []))
    (Ok (at (ss ++ s ∷ more))) (script_told file notes front owner region ps key name ss s (more ++ rest) w e)
    (scripts_told file notes front owner region ps key name (ss ++ s ∷ []) more rest w later
    ∙ ap (λ (l : List ScriptLine). Ok (at l)) (append_assoc ss (s ∷ []) more))

-- ---- a prim

key_stands : (file : WorldFile) (objects : List ObjectLine) (key : List ℕ) (rest : List (List ℕ)) → IsWritable file
    → keys_in objects ++ key ∷ rest ≡ keys_in file.objects
    → keys_behind (map encode_utf8_all (keys_in objects)) key
    ≡ Ok (map encode_utf8_all (keys_in objects) ++ encode_utf8_all key ∷ [])
key_stands file objects key rest w e =
    let keys = map encode_utf8_all (keys_in objects) in
    cond-true (not (has_key keys key)) (Ok (keys ++ encode_utf8_all key ∷ [])) (Err DoubleKey)
    (ap not (key_told (keys_in objects) key rest (subst (λ l. IsDistinct bytes_eq l) (sym e) w.keys_differ)))

-- what one more prim without a script changes
prim_counted : (file : WorldFile) (notes : List NoteLine) (front : List ObjectLine) (owner region : List ℕ)
    (ps : List PrimLine) (key name : List ℕ) (old : List ObjectLine)
    → scripts_in old ≡ scripts_in (with_prims front owner region ps)
    → keys_in old ≡ keys_in (with_prims front owner region ps)
    → reading (cards_told file notes) notes (with_scripts front owner region ps key name []) (length (scripts_in old))
    (take (named_behind 0 (scripts_in old)) file.files)
    (map encode_utf8_all (keys_in old) ++ encode_utf8_all key ∷ [])
    ≡ told file notes (with_scripts front owner region ps key name [])
prim_counted file notes front owner region ps key name old e k =
    let new = with_scripts front owner region ps key name [] in
    let same : scripts_in old ≡ scripts_in new =
    e ∙ sym (append-nil (scripts_in (with_prims front owner region ps)))
    ∙ sym (prim-more front owner region ps (prim key name [])) in
    let keys : keys_in new ≡ keys_in old ++ key ∷ [] =
    key-more front owner region ps (prim key name []) ∙ ap (λ l. l ++ key ∷ []) (sym k) in
    same_reading (cards_told file notes) notes new new (length (scripts_in old)) (length (scripts_in new))
    (take (named_behind 0 (scripts_in old)) file.files) (take (named_behind 0 (scripts_in new)) file.files)
    (map encode_utf8_all (keys_in old) ++ encode_utf8_all key ∷ []) (map encode_utf8_all (keys_in new))
    refl (ap length same) (ap (λ l. take (named_behind 0 l) file.files) same)
    (sym (ap (map encode_utf8_all) keys ∙ map-append encode_utf8_all (keys_in old) (key ∷ [])))

prim_told : (file : WorldFile) (notes : List NoteLine) (front : List ObjectLine) (owner region : List ℕ)
    (ps : List PrimLine) (key name : List ℕ) (rest : List (List ℕ)) → IsWritable file → length ps < 255
    → keys_in (with_prims front owner region ps) ++ key ∷ rest ≡ keys_in file.objects
    → line_added (Prim key name) (told file notes (with_prims front owner region ps))
    ≡ Ok (told file notes (with_scripts front owner region ps key name []))
prim_told file notes front owner region ps key name rest w few e =
    let old = with_prims front owner region ps in
    let new = with_scripts front owner region ps key name [] in
    let more : List ObjectLine → List (List ℕ) → Reading = λ objects keys.
    reading (cards_told file notes) notes objects (length (scripts_in old))
    (take (named_behind 0 (scripts_in old)) file.files) keys in
    let objects : at_last (with_prim (new_prim key name)) old ≡ Ok new =
    at_last-ok (with_prim (new_prim key name)) old front (object owner region ps)
    (object owner region (ps ++ new_prim key name ∷ [])) refl
    (cond-true (nat_lt (length ps) 255) _ _ (lt-ltb (length ps) 255 few)) in
    ap (λ (m : Result (List ObjectLine) FileKind). m >>= λ objects.
    keys_behind (map encode_utf8_all (keys_in old)) key >>= λ keys. Ok (more objects keys)) objects
    ∙ ap (λ (m : Result (List (List ℕ)) FileKind). m >>= λ keys. Ok (more new keys))
    (key_stands file old key rest w e)
    ∙ ap (λ (r : Reading). Ok r) (prim_counted file notes front owner region ps key name old refl refl)

-- ---- notecards

-- those that lie in a prim, and those that are left by it, are all
lying-left : (number : ℕ) (notes : List NoteLine) → lying_in number notes ++ left_by number notes ≡ notes
lying-left number [] = refl
lying-left number (note ∷ notes) = go (note.prim == number) (lying-left number notes) where
  go : (b : Bool) → lying_in number notes ++ left_by number notes ≡ notes
      → cond b (note ∷ lying_in number notes) [] ++ cond b (left_by number notes) (note ∷ notes) ≡ note ∷ notes
  go true same = ap (λ l. note ∷ l) same
  go false same = refl

lying-are : (number : ℕ) (notes : List NoteLine) → AllByRecursion (λ note. note.prim ≡ number) (lying_in number notes)
lying-are number [] = tt
lying-are number (note ∷ notes) = go (note.prim == number) refl (lying-are number notes) where
  go : (b : Bool) → (note.prim == number) ≡ b → AllByRecursion (λ note. note.prim ≡ number) (lying_in number notes)
      → AllByRecursion (λ note. note.prim ≡ number) (cond b (note ∷ lying_in number notes) [])
  go true e are = (eqb-true note.prim number e, are)
  go false e are = tt

note_told : (file : WorldFile) (objects : List ObjectLine) (front : List NoteLine) (note : NoteLine)
    (rest : List NoteLine) → IsWritable file → 0 < length objects → note.prim ≡ length (keys_in objects)
    → front ++ note ∷ rest ≡ file.notes
    → line_added (note_line file.cards note) (told file front objects) ≡ Ok (told file (front ++ note ∷ []) objects)
note_told file objects front note rest w some at e =
    let scripts = map as_script front in
    let n = named_behind 0 scripts in
    let path = get_or file.cards note.file [] in
    let all : scripts ++ as_script note ∷ map as_script rest ≡ map as_script file.notes =
    sym (map-append as_script front (note ∷ rest)) ∙ ap (map as_script) e in
    let turn : note.file ≤ n =
    next_in_turn 0 scripts (as_script note) (map as_script rest)
    (subst (λ l. NameInTurn 0 l) (sym all) w.cards_in_turn) in
    let within : max n (note.file + 1) ≤ length file.cards =
    omega (
      arith,
      next_within 0 scripts (as_script note) (map as_script rest),
      ap (named_behind 0) all,
      w.all_cards_named,
    ) in
    let few : length front < 256 = omega (arith, length-append front (note ∷ rest), ap length e, w.few_notes) in
    let place = place_told file.cards n note.file w.cards_differ turn within in
    let cards : file_added (take n file.cards) path ≡ cards_told file (front ++ note ∷ []) =
    file_told file.cards n note.file w.cards_differ turn within
    ∙ ap (λ m. take m file.cards) (sym (ap (named_behind 0) (map-append as_script front (note ∷ []))
    ∙ named-append 0 scripts (as_script note ∷ []))) in
    let prim : length (map encode_utf8_all (keys_in objects)) ≡ note.prim =
    length-map (keys_in objects) encode_utf8_all ∙ sym at in
    cond-true (true && nat_lt 0 (length objects)) _ _ (lt-ltb 0 (length objects) some)
    ∙ cond-true (nat_lt (length front) 256) _ _ (lt-ltb (length front) 256 few)
    ∙ (λ i. Ok (record (told file front objects) {
      cards = cards i;
      notes = front ++ record { prim = prim i; name = note.name; file = place i } ∷ [];
    }))

notes_told : (file : WorldFile) (objects : List ObjectLine) (front more rest : List NoteLine) → IsWritable file
    → 0 < length objects → AllByRecursion (λ note. note.prim ≡ length (keys_in objects)) more
    → front ++ (more ++ rest) ≡ file.notes
    → add_all (map (note_line file.cards) more) (told file front objects) ≡ Ok (told file (front ++ more) objects)
notes_told file objects front [] rest w some at e =
    ap (λ (l : List NoteLine). Ok (told file l objects)) (sym (append-nil front))
notes_told file objects front (note ∷ more) rest w some (one, at) e =
    then_all (note_line file.cards note) (map (note_line file.cards) more) (told file front objects)
    (told file (front ++ note ∷ []) objects) (Ok (told file (front ++ note ∷ more) objects))
    (note_told file objects front note (more ++ rest) w some one e)
    (notes_told file objects (front ++ note ∷ []) more rest w some at
    (append_assoc front (note ∷ []) (more ++ rest) ∙ e)
    ∙ ap (λ (l : List NoteLine). Ok (told file l objects)) (append_assoc front (note ∷ []) more))

-- those of a prim that has this number, after its scripts
prim_noted : (file : WorldFile) (objects : List ObjectLine) (front notes : List NoteLine) (prim : ℕ) → IsWritable file
    → 0 < length objects → prim ≡ length (keys_in objects) → front ++ notes ≡ file.notes
    → add_all (note_lines file prim notes) (told file front objects)
    ≡ Ok (told file (front ++ lying_in prim notes) objects)
prim_noted file objects front notes prim w some at e =
    notes_told file objects front (lying_in prim notes) (left_by prim notes) w some
    (subst (λ n. AllByRecursion (λ note. note.prim ≡ n) (lying_in prim notes)) at (lying-are prim notes))
    (ap (λ l. front ++ l) (lying-left prim notes) ∙ e)

-- those of `count` prims, from this number on
abbrev pub lying_in_prims : (number count : ℕ) → List NoteLine → List NoteLine
lying_in_prims number zero notes = []
lying_in_prims number (suc count) notes =
    lying_in number notes ++ lying_in_prims (number + 1) count (left_by number notes)

lying-left-prims : (number count : ℕ) (notes : List NoteLine)
    → lying_in_prims number count notes ++ left_by_prims number count notes ≡ notes
lying-left-prims number zero notes = refl
lying-left-prims number (suc count) notes =
    let left = left_by number notes in
    append_assoc (lying_in number notes) (lying_in_prims (number + 1) count left)
    (left_by_prims (number + 1) count left)
    ∙ ap (λ l. lying_in number notes ++ l) (lying-left-prims (number + 1) count left)
    ∙ lying-left number notes

lying-append : (number a b : ℕ) (notes : List NoteLine)
    → lying_in_prims number (a + b) notes
    ≡ lying_in_prims number a notes ++ lying_in_prims (number + a) b (left_by_prims number a notes)
lying-append number zero b notes =
    let none : 0 + b ≡ b = omega arith in
    let same : number ≡ number + 0 = omega arith in
    ap (λ n. lying_in_prims number n notes) none ∙ ap (λ n. lying_in_prims n b notes) same
lying-append number (suc a) b notes =
    let left = left_by number notes in
    let more : suc a + b ≡ suc (a + b) = omega arith in
    let same : number + 1 + a ≡ number + suc a = omega arith in
    ap (λ n. lying_in_prims number n notes) more
    ∙ ap (λ l. lying_in number notes ++ l) (lying-append (number + 1) a b left
    ∙ ap (λ n. lying_in_prims (number + 1) a left ++ lying_in_prims n b (left_by_prims (number + 1) a left)) same)
    ∙ sym (append_assoc (lying_in number notes) (lying_in_prims (number + 1) a left)
    (lying_in_prims (number + suc a) b (left_by_prims (number + 1) a left)))

-- notecards that lie in turn in this many prims are those of these
next-in-turn : (number most : ℕ) (notes : List NoteLine) → LieInTurn number most notes
    → LieInTurn (number + 1) most (left_by number notes)
next-in-turn number most [] h = tt
next-in-turn number most (note ∷ notes) (low, high, h) =
    go (note.prim == number) refl (λ turn. next-in-turn number most notes turn)
  where
    go : (b : Bool) → (note.prim == number) ≡ b
        → (LieInTurn number most notes → LieInTurn (number + 1) most (left_by number notes))
        → LieInTurn (number + 1) most (cond b (left_by number notes) (note ∷ notes))
    go true e next = next (subst (λ n. LieInTurn n most notes) (eqb-true note.prim number e) h)
    go false e next = (omega (arith, low, eqb-false note.prim number e), high, h)

none-left : (number count most : ℕ) (notes : List NoteLine) → most + 1 ≡ number + count
    → LieInTurn number most notes → left_by_prims number count notes ≡ []
none-left number zero most [] e h = refl
none-left number zero most (note ∷ notes) e (low, high, h) = absurd (omega (arith, e, low, high))
none-left number (suc count) most notes e h =
    none-left (number + 1) count most (left_by number notes) (omega (arith, e)) (next-in-turn number most notes h)

pub all-lying : (file : WorldFile) → IsWritable file
    → lying_in_prims 1 (length (keys_in file.objects)) file.notes ≡ file.notes
all-lying file w =
    let count = length (keys_in file.objects) in
    let lying = lying_in_prims 1 count file.notes in
    sym (append-nil lying)
    ∙ ap (λ l. lying ++ l) (sym (none-left 1 count count file.notes (omega arith) w.in_prims))
    ∙ lying-left-prims 1 count file.notes

-- ---- prims

prims_told : (file : WorldFile) (t notes : List NoteLine) (number : ℕ) (front : List ObjectLine)
    (owner region : List ℕ) (ps more : List PrimLine) (rest : List ScriptLine) (later : List (List ℕ))
    → IsWritable file → length ps + length more ≤ 255 → t ++ notes ≡ file.notes
    → number ≡ length (keys_in (with_prims front owner region ps)) + 1
    → scripts_in (with_prims front owner region ps) ++ (in_prims more ++ rest) ≡ scripts_in file.objects
    → keys_in (with_prims front owner region ps) ++ (map key_of more ++ later) ≡ keys_in file.objects
    → add_all (prim_lines file number notes more) (told file t (with_prims front owner region ps))
    ≡ Ok (told file (t ++ lying_in_prims number (length more) notes) (with_prims front owner region (ps ++ more)))
prims_told file t notes number front owner region ps [] rest later w few n at e k = λ i.
    Ok (told file ((sym (append-nil t)) i) (with_prims front owner region ((sym (append-nil ps)) i)))
prims_told file t notes number front owner region ps (p ∷ more) rest later w few n at e k =
    let bare = with_scripts front owner region ps p.key p.name [] in
    let grown = ps ++ p ∷ [] in
    let whole = with_prims front owner region grown in
    let behind : scripts_in bare ++ (p.scripts ++ (in_prims more ++ rest)) ≡ scripts_in file.objects =
    ap (λ l. l ++ (p.scripts ++ (in_prims more ++ rest)))
    (prim-more front owner region ps (prim p.key p.name [])
    ∙ append-nil (scripts_in (with_prims front owner region ps)))
    ∙ ap (λ l. scripts_in (with_prims front owner region ps) ++ l)
    (sym (append_assoc p.scripts (in_prims more) rest))
    ∙ e in
    let scripts : scripts_in whole ++ (in_prims more ++ rest) ≡ scripts_in file.objects =
    ap (λ l. l ++ (in_prims more ++ rest)) (prim-more front owner region ps p)
    ∙ append_assoc (scripts_in (with_prims front owner region ps)) p.scripts (in_prims more ++ rest)
    ∙ ap (λ l. scripts_in (with_prims front owner region ps) ++ l)
    (sym (append_assoc p.scripts (in_prims more) rest))
    ∙ e in
    let keys : keys_in whole ++ (map key_of more ++ later) ≡ keys_in file.objects =
    ap (λ l. l ++ (map key_of more ++ later)) (key-more front owner region ps p)
    ∙ append_assoc (keys_in (with_prims front owner region ps)) (p.key ∷ []) (map key_of more ++ later)
    ∙ k in
    let counted : length (keys_in whole) ≡ length (keys_in (with_prims front owner region ps)) + 1 =
    ap length (key-more front owner region ps p)
    ∙ length-append (keys_in (with_prims front owner region ps)) (p.key ∷ []) in
    let lying = lying_in number notes in
    let left = left_by number notes in
    let others = prim_lines file (number + 1) left more in
    then_all (Prim p.key p.name) (script_lines file.files p ++ (note_lines file number notes ++ others))
    (told file t (with_prims front owner region ps)) (told file t bare)
    (Ok (told file (t ++ lying_in_prims number (length (p ∷ more)) notes)
    (with_prims front owner region (ps ++ p ∷ more))))
    (prim_told file t front owner region ps p.key p.name (map key_of more ++ later) w (omega (arith, few)) k)
    (add_all-append (script_lines file.files p) (note_lines file number notes ++ others) (told file t bare)
    (told file t whole)
    (scripts_told file t front owner region ps p.key p.name [] p.scripts (in_prims more ++ rest) w behind)
    ∙ add_all-append (note_lines file number notes) others (told file t whole) (told file (t ++ lying) whole)
    (prim_noted file whole t notes number w
    (omega (arith, length-append front (object owner region grown ∷ []))) (omega (arith, at, counted)) n)
    ∙ prims_told file (t ++ lying) left (number + 1) front owner region grown more rest later w
    (omega (arith, few, length-append ps (p ∷ [])))
    (append_assoc t lying left ∙ ap (λ l. t ++ l) (lying-left number notes) ∙ n)
    (omega (arith, at, counted)) scripts keys
    ∙ (λ i. Ok (told file ((append_assoc t lying (lying_in_prims (number + 1) (length more) left)) i)
    (with_prims front owner region ((append_assoc ps (p ∷ []) more) i)))))

-- ---- an object

root_told : (file : WorldFile) (t : List NoteLine) (front : List ObjectLine) (owner region key name : List ℕ)
    (rest : List (List ℕ)) → IsWritable file → length front < 64
    → keys_in front ++ key ∷ rest ≡ keys_in file.objects
    → line_added (Object key name owner region) (told file t front)
    ≡ Ok (told file t (with_scripts front owner region [] key name []))
root_told file t front owner region key name rest w few e =
    let new = with_scripts front owner region [] key name [] in
    cond-true (nat_lt (length front) 64) _ _ (lt-ltb (length front) 64 few)
    ∙ ap (λ (m : Result (List (List ℕ)) FileKind). m >>= λ keys.
    Ok (reading (cards_told file t) t new (length (scripts_in front))
    (take (named_behind 0 (scripts_in front)) file.files) keys))
    (key_stands file front key rest w e)
    ∙ ap (λ (r : Reading). Ok r) (prim_counted file t front owner region [] key name front
    (sym (bare-scripts front owner region)) (sym (bare-keys front owner region)))

rooted_told : (file : WorldFile) (t notes : List NoteLine) (number : ℕ) (front : List ObjectLine)
    (owner region : List ℕ) (prims : List PrimLine) (rest : List ScriptLine) (later : List (List ℕ))
    → IsWritable file → length front < 64 → 0 < length prims → length prims ≤ 255 → t ++ notes ≡ file.notes
    → number ≡ length (keys_in front) + 1
    → scripts_in front ++ (in_prims prims ++ rest) ≡ scripts_in file.objects
    → keys_in front ++ (map key_of prims ++ later) ≡ keys_in file.objects
    → add_all (rooted_lines file number notes owner region prims) (told file t front)
    ≡ Ok (told file (t ++ lying_in_prims number (length prims) notes) (with_prims front owner region prims))
rooted_told file t notes number front owner region [] rest later w few some most n at e k = absurd (omega arith)
rooted_told file t notes number front owner region (p ∷ more) rest later w few some most n at e k =
    let bare = with_scripts front owner region [] p.key p.name [] in
    let one = with_prims front owner region (p ∷ []) in
    let all : scripts_in front ++ (p.scripts ++ (in_prims more ++ rest)) ≡ scripts_in file.objects =
    ap (λ l. scripts_in front ++ l) (sym (append_assoc p.scripts (in_prims more) rest)) ∙ e in
    let none : scripts_in bare ≡ scripts_in front =
    prim-more front owner region [] (prim p.key p.name [])
    ∙ append-nil (scripts_in (with_prims front owner region [])) ∙ bare-scripts front owner region in
    let behind : scripts_in bare ++ (p.scripts ++ (in_prims more ++ rest)) ≡ scripts_in file.objects =
    ap (λ l. l ++ (p.scripts ++ (in_prims more ++ rest))) none ∙ all in
    let scripts : scripts_in one ++ (in_prims more ++ rest) ≡ scripts_in file.objects =
    ap (λ l. l ++ (in_prims more ++ rest)) (prim-more front owner region [] p
    ∙ ap (λ l. l ++ p.scripts) (bare-scripts front owner region))
    ∙ append_assoc (scripts_in front) p.scripts (in_prims more ++ rest)
    ∙ all in
    let first : keys_in one ≡ keys_in front ++ p.key ∷ [] =
    key-more front owner region [] p ∙ ap (λ l. l ++ p.key ∷ []) (bare-keys front owner region) in
    let keys : keys_in one ++ (map key_of more ++ later) ≡ keys_in file.objects =
    ap (λ l. l ++ (map key_of more ++ later)) first
    ∙ append_assoc (keys_in front) (p.key ∷ []) (map key_of more ++ later)
    ∙ k in
    let counted : length (keys_in one) ≡ length (keys_in front) + 1 =
    ap length first ∙ length-append (keys_in front) (p.key ∷ []) in
    let lying = lying_in number notes in
    let left = left_by number notes in
    let others = prim_lines file (number + 1) left more in
    then_all (Object p.key p.name owner region)
    (script_lines file.files p ++ (note_lines file number notes ++ others)) (told file t front) (told file t bare)
    (Ok (told file (t ++ lying_in_prims number (length (p ∷ more)) notes) (with_prims front owner region (p ∷ more))))
    (root_told file t front owner region p.key p.name (map key_of more ++ later) w few k)
    (add_all-append (script_lines file.files p) (note_lines file number notes ++ others) (told file t bare)
    (told file t one)
    (scripts_told file t front owner region [] p.key p.name [] p.scripts (in_prims more ++ rest) w behind)
    ∙ add_all-append (note_lines file number notes) others (told file t one) (told file (t ++ lying) one)
    (prim_noted file one t notes number w
    (omega (arith, length-append front (object owner region (p ∷ []) ∷ []))) (omega (arith, at, counted)) n)
    ∙ prims_told file (t ++ lying) left (number + 1) front owner region (p ∷ []) more rest later w
    (omega (arith, most))
    (append_assoc t lying left ∙ ap (λ l. t ++ l) (lying-left number notes) ∙ n)
    (omega (arith, at, counted)) scripts keys
    ∙ ap (λ (l : List NoteLine). Ok (told file l (with_prims front owner region (p ∷ more))))
    (append_assoc t lying (lying_in_prims (number + 1) (length more) left)))

pub objects_told : (file : WorldFile) (t notes : List NoteLine) (number : ℕ) (front more : List ObjectLine)
    → IsWritable file → length front + length more ≤ 64 → AllByRecursion IsWritableObject more
    → t ++ notes ≡ file.notes → number ≡ length (keys_in front) + 1
    → scripts_in front ++ scripts_in more ≡ scripts_in file.objects
    → keys_in front ++ keys_in more ≡ keys_in file.objects
    → add_all (object_lines file number notes more) (told file t front)
    ≡ Ok (told file (t ++ lying_in_prims number (length (keys_in more)) notes) (front ++ more))
objects_told file t notes number front [] w few h n at e k = λ i.
    Ok (told file ((sym (append-nil t)) i) ((sym (append-nil front)) i))
objects_told file t notes number front (o ∷ more) w few (one, h) n at e k =
    let grown = front ++ o ∷ [] in
    let count = length o.prims in
    let scripts : scripts_in grown ++ scripts_in more ≡ scripts_in file.objects =
    ap (λ l. l ++ scripts_in more) (scripts-last front o)
    ∙ append_assoc (scripts_in front) (in_prims o.prims) (scripts_in more) ∙ e in
    let keys : keys_in grown ++ keys_in more ≡ keys_in file.objects =
    ap (λ l. l ++ keys_in more) (keys-last front o)
    ∙ append_assoc (keys_in front) (map key_of o.prims) (keys_in more) ∙ k in
    let counted : length (keys_in grown) ≡ length (keys_in front) + count =
    ap length (keys-last front o) ∙ length-append (keys_in front) (map key_of o.prims)
    ∙ ap (λ c. length (keys_in front) + c) (length-map o.prims key_of) in
    let lying = lying_in_prims number count notes in
    let left = left_by_prims number count notes in
    let all : length (keys_in (o ∷ more)) ≡ count + length (keys_in more) =
    length-append (map key_of o.prims) (keys_in more)
    ∙ ap (λ c. c + length (keys_in more)) (length-map o.prims key_of) in
    add_all-append (rooted_lines file number notes o.owner o.region o.prims)
    (object_lines file (number + count) left more) (told file t front) (told file (t ++ lying) grown)
    (rooted_told file t notes number front o.owner o.region o.prims (scripts_in more) (keys_in more) w
    (omega (arith, few)) one.rooted one.few n at e k)
    ∙ objects_told file (t ++ lying) left (number + count) grown more w
    (omega (arith, few, length-append front (o ∷ []))) h
    (append_assoc t lying left ∙ ap (λ l. t ++ l) (lying-left-prims number count notes) ∙ n)
    (omega (arith, at, counted)) scripts keys
    ∙ (λ i. Ok (told file ((append_assoc t lying (lying_in_prims (number + count) (length (keys_in more)) left)
    ∙ ap (λ l. t ++ l) (sym (lying-append number count (length (keys_in more)) notes)
    ∙ ap (λ c. lying_in_prims number c notes) (sym all))) i)
    ((append_assoc front (o ∷ []) more) i)))
