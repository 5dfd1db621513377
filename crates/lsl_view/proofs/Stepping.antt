-- The lines of one script, one object or one global more, by what is left of them.
use Rattle.std.proofs.Common.{◌≡◌, ◌∙◌, refl, sym, ap, arith, ℕ, ◌+◌, ◌*◌, ◌<◌, ◌≤◌, min, zero, suc, List, [], ◌∷◌, ◌++◌, length, take, drop, get_or, append_assoc, append-nil, length-append, Option, Some, None, slice_get, Result, Ok, Err}
use Rattle.std.specs.List.{AllByRecursion, flat_map}
use Rattle.std.specs.Prelude.{IfSome, OnOk, sum_by}
use Rattle.std.proofs.lemmas.List.{drop_all}
use Rattle.std.proofs.lemmas.List.Sums.{sum_by_more}
use Rattle.std.proofs.lemmas.Option.{get_or_from_slice_get, slice_get_within}
use Rattle.lsl_value.specs.declared.tagged.Value.{Value}
use Rattle.lsl_running.specs.Charging.{charges_of}
use Rattle.lsl_code.specs.declared.frames.Frame.{Frame}
use Rattle.lsl_code.specs.declared.functions.StateCode.{StateCode}
use Rattle.lsl_code.specs.declared.woven_units.Woven.{Woven as Code}
use Rattle.lsl_code.specs.Frames.{frame_charge}
use Rattle.lsl_post.specs.declared.parts.ScriptParts.{ScriptParts}
use Rattle.lsl_post.specs.Fitting.{CanLeave}
use Rattle.lsl_post.proofs.Places.{drop-at}
use Rattle.lsl_image.specs.declared.parts.Placed.{Placed}
use Rattle.lsl_image.specs.declared.parts.WorldParts.{WorldParts}
use Rattle.lsl_image.specs.Valid.{IsPlaced, IsWorld}
use Rattle.lsl_image.proofs.WroteLemmas.{item-at}
use Rattle.lsl_view.specs.Parts.{scripts_of}
use Rattle.lsl_view.specs.State.{global_line, object_lines, objects_behind, state_lines, states_behind}
use Rattle.lsl_view.specs.StateParts.{globals_shown, most_scripts, object_shown, objects_shown, script_state, state_in, states_shown}
use Rattle.lsl_view.specs.declared.known.Names.{Names}

-- a missing name is an empty one
no-name : (names : List (List ℕ)) (i : ℕ) → None ≡ slice_get names i → [] ≡ get_or names i []
no-name [] i is = refl
no-name (n ∷ names) zero is = absurd cc
no-name (n ∷ names) (suc i) is = no-name names i is

-- what holds where a call went well
on-ok : {T E A B : Type 0} (result : Result T E) → (A → B) → OnOk result A → OnOk result B
on-ok (Ok t) f h = f h
on-ok (Err e) f h = tt

module _ (library : List Code) (names : Names) (clock : ℕ) where
  abbrev lines : ℕ → List ScriptParts → List ℕ
  lines n xs = states_behind n (states_shown library names clock n xs)

  abbrev whole : (objects scripts : ℕ) → List Placed → List ℕ
  whole n k xs = objects_behind n k (objects_shown library names clock k xs)

  -- the lines of one script more were appended
  pub state-more : (place i : ℕ) (scripts : List ScriptParts) (x : ScriptParts) (now new total : List ℕ)
      → i < length scripts → x ≡ get_or scripts i x → now ++ lines place (drop i scripts) ≡ total
      → new ≡ now ++ state_lines (suc place) (script_state library names clock (get_or names.scripts place []) x)
      → new ++ lines (place + 1) (drop (i + 1) scripts) ≡ total
  state-more place i scripts x now new total within is left then =
      let one = state_lines (suc place) (script_state library names clock (get_or names.scripts place []) x) in
      let next : place + 1 ≡ suc place = omega arith in
      ap (λ (k : ℕ). new ++ lines k (drop (i + 1) scripts)) next
      ∙ ap (λ (l : List ℕ). l ++ lines (suc place) (drop (i + 1) scripts)) then
      ∙ append_assoc now one (lines (suc place) (drop (i + 1) scripts))
      ∙ ap (λ (l : List ScriptParts). now ++ lines place l) (sym (drop-at scripts i x (item-at scripts i x within is)))
      ∙ left

  -- the lines of a script with its unit and its name at its place
  state-shown : (place : ℕ) (x : ScriptParts) (unit : Code) (name now new : List ℕ)
      → name ≡ get_or names.scripts place [] → Some unit ≡ slice_get library x.unit
      → new ≡ now ++ state_lines (place + 1) (state_in (Some unit) clock name (get_or names.globals x.unit []) x)
      → new ≡ now ++ state_lines (suc place) (script_state library names clock (get_or names.scripts place []) x)
  state-shown place x unit name now new is named then =
      let globals = get_or names.globals x.unit [] in
      let next : place + 1 ≡ suc place = omega arith in
      then
      ∙ ap (λ (o : Option Code). now ++ state_lines (place + 1) (state_in o clock name globals x)) named
      ∙ ap (λ (n : List ℕ). now ++ state_lines (place + 1) (state_in (slice_get library x.unit) clock n globals x)) is
      ∙ ap (λ (k : ℕ). now ++ state_lines k (script_state library names clock (get_or names.scripts place []) x)) next

  module _ {E : Type 0} (place : ℕ) (x : ScriptParts) (unit : Code) (now new : List ℕ) (result : Result (Unit {0}) E)
      (named : Some unit ≡ slice_get library x.unit) where
    pub state-named : (name : List ℕ) → Some name ≡ slice_get names.scripts place
        → OnOk result (new ≡ now ++ state_lines (place + 1)
        (state_in (Some unit) clock name (get_or names.globals x.unit []) x))
        → OnOk result (new ≡ now ++ state_lines (suc place)
        (script_state library names clock (get_or names.scripts place []) x))
    state-named name is then = on-ok result
        (state-shown place x unit name now new (sym (get_or_from_slice_get names.scripts place name [] (sym is))) named)
        then

    pub state-unnamed : (name : List ℕ) → name ≡ [] → None ≡ slice_get names.scripts place
        → OnOk result (new ≡ now ++ state_lines (place + 1)
        (state_in (Some unit) clock name (get_or names.globals x.unit []) x))
        → OnOk result (new ≡ now ++ state_lines (suc place)
        (script_state library names clock (get_or names.scripts place []) x))
    state-unnamed name none is then =
        on-ok result (state-shown place x unit name now new (none ∙ no-name names.scripts place is) named) then

  -- all of them were
  pub states-done : (place i : ℕ) (scripts : List ScriptParts) (now total : List ℕ) → length scripts ≤ i
      → now ++ lines place (drop i scripts) ≡ total → now ≡ total
  states-done place i scripts now total over left =
      sym (append-nil now)
      ∙ ap (λ (l : List ScriptParts). now ++ lines place l) (sym (drop_all i scripts over)) ∙ left

  states-counted : (k : ℕ) (xs : List ScriptParts) → length (states_shown library names clock k xs) ≡ length xs
  states-counted k [] = refl
  states-counted k (x ∷ xs) = ap suc (states-counted (suc k) xs)

  -- the lines of one object more were appended
  pub object-more : (number before i : ℕ) (objects : List Placed) (x : Placed) (now mid new total : List ℕ)
      → i < length objects → x ≡ get_or objects i x → now ++ whole number before (drop i objects) ≡ total
      → mid ≡ now ++ object_lines (number + 1) (object_shown library names clock before x)
      → new ≡ mid ++ lines before x.object.scripts
      → new ++ whole (number + 1) (before + length x.object.scripts) (drop (i + 1) objects) ≡ total
  object-more number before i objects x now mid new total within is left first then =
      let own = object_shown library names clock before x in
      let next : number + 1 ≡ suc number = omega arith in
      let rest = objects_shown library names clock (before + length x.object.scripts) (drop (i + 1) objects) in
      let tail = whole (suc number) (before + length x.object.scripts) (drop (i + 1) objects) in
      ap (λ (k : ℕ). new ++ whole k (before + length x.object.scripts) (drop (i + 1) objects)) next
      ∙ ap (λ (l : List ℕ). l ++ tail) (then ∙ ap (λ (l : List ℕ). l ++ lines before x.object.scripts)
      (first ∙ ap (λ (k : ℕ). now ++ object_lines k own) next))
      ∙ append_assoc (now ++ object_lines (suc number) own) (lines before x.object.scripts) tail
      ∙ append_assoc now (object_lines (suc number) own) (lines before x.object.scripts ++ tail)
      ∙ ap (λ (l : List ℕ). now ++ l) (sym (append_assoc (object_lines (suc number) own)
      (lines before x.object.scripts) tail))
      ∙ ap (λ (k : ℕ). now ++ (object_lines (suc number) own ++ lines before x.object.scripts
      ++ objects_behind (suc number) (before + k) rest)) (sym (states-counted before x.object.scripts))
      ∙ ap (λ (l : List Placed). now ++ whole number before l)
      (sym (drop-at objects i x (item-at objects i x within is)))
      ∙ left

  pub objects-done : (number before i : ℕ) (objects : List Placed) (now total : List ℕ) → length objects ≤ i
      → now ++ whole number before (drop i objects) ≡ total → now ≡ total
  objects-done number before i objects now total over left =
      sym (append-nil now)
      ∙ ap (λ (l : List Placed). now ++ whole number before l) (sym (drop_all i objects over)) ∙ left

-- the number of scripts left after an object
pub scripts-left : (i before most : ℕ) (objects : List Placed) (x : Placed) → i < length objects
    → x ≡ get_or objects i x → before + length (flat_map scripts_of (drop i objects)) ≤ most
    → before + length (scripts_of x) + length (flat_map scripts_of (drop (i + 1) objects)) ≤ most
scripts-left i before most objects x within is few =
    let e = ap length (ap (flat_map scripts_of) (drop-at objects i x (item-at objects i x within is)))
    ∙ length-append (scripts_of x) (flat_map scripts_of (drop (i + 1) objects)) in
    omega (arith, e, few)

-- a name with its value
pub global-at : (names : List (List ℕ)) (values : List Value) (i : ℕ) (name : List ℕ) (value : Value)
    → Some name ≡ slice_get names i → Some value ≡ slice_get values i
    → Some (record { name = name; value = value }) ≡ slice_get (globals_shown names values) i
global-at [] values i name value e f = absurd cc
global-at (n ∷ names) [] i name value e f = absurd cc
global-at (n ∷ names) (v ∷ values) zero name value e f =
    let same : name ≡ n = cc in
    let like : value ≡ v = cc in
    λ j. Some (record { name = same j; value = like j })
global-at (n ∷ names) (v ∷ values) (suc i) name value e f = global-at names values i name value e f

pub globals-counted : (names : List (List ℕ)) (values : List Value)
    → length (globals_shown names values) ≡ min (length names) (length values)
globals-counted [] values = omega arith
globals-counted (n ∷ names) [] = omega arith
globals-counted (n ∷ names) (v ∷ values) = omega (arith, globals-counted names values)

unnamed : (names : List (List (List ℕ))) (unit : ℕ) → None ≡ slice_get names unit → get_or names unit [] ≡ []
unnamed [] unit is = refl
unnamed (n ∷ names) zero is = absurd cc
unnamed (n ∷ names) (suc unit) is = unnamed names unit is

-- a unit without names of globals shows none
pub none-shown : (names : List (List (List ℕ))) (unit : ℕ) (values : List Value) (now : List ℕ)
    → None ≡ slice_get names unit → now ≡ now ++ flat_map global_line (globals_shown (get_or names unit []) values)
none-shown names unit values now is =
    sym (append-nil now)
    ∙ ap (λ (l : List (List ℕ)). now ++ flat_map global_line (globals_shown l values)) (sym (unnamed names unit is))

-- a state that is left for is one of the unit's
pub can-leave : (states : List StateCode) (state : ℕ) (leaving : Option ℕ) → CanLeave states state leaving
    → IfSome leaving (λ to. to < length states)
can-leave states state None can = tt
can-leave states state (Some to) can = can.there

-- one call more is charged, saturated at 64 bits
pub charge-more : (sack : List Frame) (i : ℕ) (frame : Frame) (charged now new mid most : ℕ)
    → slice_get sack i ≡ Some frame → now ≡ min (charged + sum_by frame_charge (take i sack)) most
    → mid ≡ min (now + 32) most → new ≡ min (mid + charges_of frame.slots) most
    → new ≡ min (charged + sum_by frame_charge (take (i + 1) sack)) most
charge-more sack i frame charged now new mid most is so first then =
    let more = sum_by_more frame_charge sack i frame (slice_get_within sack i frame is) in
    let own = ap frame_charge (get_or_from_slice_get sack i frame frame is) in
    omega (arith, so, first, then, more, own)

-- this many objects, each with at most this many scripts
pub scripts-few : (library : List Code) (objects : List Placed) → AllByRecursion (IsPlaced library) objects
    → length (flat_map scripts_of objects) ≤ length objects * 65535
scripts-few library [] each = omega arith
scripts-few library (x ∷ objects) each =
    let more = length-append (scripts_of x) (flat_map scripts_of objects) in
    let rest = scripts-few library objects each.1 in
    let few = each.0.count in
    omega (arith, more, rest, few)

pub world-few : (library : List Code) (w : WorldParts) → IsWorld library w
    → length (flat_map scripts_of w.objects) ≤ most_scripts
world-few library w is =
    let most = scripts-few library w.objects is.objects in
    let count = is.count in
    omega (arith, most, count)
