-- Lines of scripts that were appended, one script after another and object by object.
use Rattle.std.proofs.Common.{◌≡◌, ◌∙◌, refl, sym, ap, arith, ℕ, ◌+◌, ◌<◌, ◌≤◌, zero, suc, List, [], ◌∷◌, ◌++◌, length, take, get_or, append_assoc, append-nil, length-append, Option, Some, slice_get}
use Rattle.std.specs.List.{flat_map}
use Rattle.std.proofs.lemmas.List.{length-take-le}
use Rattle.std.proofs.lemmas.List.Folds.{length-flat_map-take}
use Rattle.std.proofs.lemmas.Grind.{flat_map-append}
use Rattle.lsl_code.specs.declared.woven_units.Woven.{Woven as Code}
use Rattle.lsl_post.specs.declared.parts.ScriptParts.{ScriptParts}
use Rattle.lsl_post.proofs.Places.{take-at}
use Rattle.lsl_image.specs.declared.parts.Placed.{Placed}
use Rattle.lsl_image.proofs.WroteLemmas.{item-at}
use Rattle.lsl_view.specs.Lines.{lines_behind, script_lines}
use Rattle.lsl_view.specs.Parts.{scripts_of, shown_behind, shown_in, shown_script}

-- one piece was appended, and another
appended : (old mid new a b : List ℕ) → mid ≡ old ++ a → new ≡ mid ++ b → new ≡ old ++ (a ++ b)
appended old mid new a b first then = then ∙ ap (λ (l : List ℕ). l ++ b) first ∙ append_assoc old a b

-- what is within a list is there, whatever was elsewhere
any-else : (xs : List (List ℕ)) (n : ℕ) (a b : List ℕ) → n < length xs → get_or xs n a ≡ get_or xs n b
any-else [] n a b lt = absurd (omega (arith, lt))
any-else (x ∷ xs) zero a b lt = refl
any-else (x ∷ xs) (suc n) a b lt = any-else xs n a b (omega (arith, lt))

module _ (library : List Code) (names : List (List ℕ)) where
  abbrev lines : ℕ → List ScriptParts → List ℕ
  lines n xs = lines_behind n (shown_behind library names n xs)

  lines-append : (n m : ℕ) (xs ys : List ScriptParts) → m ≡ n + length xs
      → lines_behind n (shown_behind library names n (xs ++ ys))
      ≡ lines_behind n (shown_behind library names n xs) ++ lines_behind m (shown_behind library names m ys)
  lines-append n m [] ys e =
      let same : n ≡ m = omega (arith, e) in
      ap (λ (k : ℕ). lines_behind k (shown_behind library names k ys)) same
  lines-append n m (x ∷ xs) ys e =
      let first = script_lines (suc n) (shown_script library (get_or names n []) x) in
      ap (λ (l : List ℕ). first ++ l) (lines-append (suc n) m xs ys (omega (arith, e)))
      ∙ sym (append_assoc first (lines (suc n) xs) (lines m ys))

  -- the lines of one script more
  pub script-more : (before place i : ℕ) (scripts : List ScriptParts) (x : ScriptParts) (unit : Code) (name : List ℕ)
      (start now new : List ℕ)
      → i < length scripts → x ≡ get_or scripts i x → place ≡ before + i → place < length names
      → name ≡ get_or names place name → Some unit ≡ slice_get library x.unit
      → now ≡ start ++ lines_behind before (shown_behind library names before (take i scripts))
      → new ≡ now ++ script_lines (place + 1) (shown_in (Some unit) name x)
      → new ≡ start ++ lines_behind before (shown_behind library names before (take (i + 1) scripts))
  script-more before place i scripts x unit name start now new within is at below named there first then =
      let long : length (take i scripts) ≡ i = length-take-le i scripts (omega (arith, within)) in
      let one : script_lines (place + 1) (shown_in (Some unit) name x) ≡ lines place (x ∷ []) =
      ap (λ (o : Option Code). script_lines (place + 1) (shown_in o name x)) there
      ∙ ap (λ (z : List ℕ). script_lines (place + 1) (shown_script library z x))
      (named ∙ any-else names place name [] below)
      ∙ ap (λ (k : ℕ). script_lines k (shown_script library (get_or names place []) x)) (omega arith)
      ∙ sym (append-nil (script_lines (suc place) (shown_script library (get_or names place []) x))) in
      appended start now new (lines before (take i scripts))
      (script_lines (place + 1) (shown_in (Some unit) name x)) first then
      ∙ ap (λ (l : List ℕ). start ++ (lines before (take i scripts) ++ l)) one
      ∙ ap (λ (l : List ℕ). start ++ l)
      (sym (ap (lines before) (take-at scripts i x (item-at scripts i x within is))
      ∙ lines-append before place (take i scripts) (x ∷ []) (omega (arith, at, long))))

  -- and of one object more
  pub object-more : (before i : ℕ) (objects : List Placed) (x : Placed) (now new : List ℕ)
      → i < length objects → x ≡ get_or objects i x → before ≡ length (flat_map scripts_of (take i objects))
      → now ≡ lines_behind 0 (shown_behind library names 0 (flat_map scripts_of (take i objects)))
      → new ≡ now ++ lines_behind before (shown_behind library names before (scripts_of x))
      → new ≡ lines_behind 0 (shown_behind library names 0 (flat_map scripts_of (take (i + 1) objects)))
  object-more before i objects x now new within is count first then =
      then ∙ ap (λ (l : List ℕ). l ++ lines before (scripts_of x)) first
      ∙ sym (lines-append 0 before (flat_map scripts_of (take i objects)) (scripts_of x) (omega (arith, count)))
      ∙ ap (lines 0) (sym (scripts-more i objects x within is))
    where
      scripts-more : (i : ℕ) (objects : List Placed) (x : Placed) → i < length objects → x ≡ get_or objects i x
          → flat_map scripts_of (take (i + 1) objects) ≡ flat_map scripts_of (take i objects) ++ scripts_of x
      scripts-more i objects x within is =
          ap (flat_map scripts_of) (take-at objects i x (item-at objects i x within is))
          ∙ flat_map-append scripts_of (take i objects) (x ∷ [])
          ∙ ap (λ (l : List ScriptParts). flat_map scripts_of (take i objects) ++ l) (append-nil (scripts_of x))

pub scripts-counted : (i before : ℕ) (objects : List Placed) (x : Placed) → i < length objects
    → x ≡ get_or objects i x → before ≡ length (flat_map scripts_of (take i objects))
    → before + length (scripts_of x) ≡ length (flat_map scripts_of (take (i + 1) objects))
scripts-counted i before objects x within is count =
    let e = ap length (ap (flat_map scripts_of) (take-at objects i x (item-at objects i x within is))
    ∙ flat_map-append scripts_of (take i objects) (x ∷ [])
    ∙ ap (λ (l : List ScriptParts). flat_map scripts_of (take i objects) ++ l) (append-nil (scripts_of x)))
    ∙ length-append (flat_map scripts_of (take i objects)) (scripts_of x) in
    omega (arith, e, count)

-- there are names for the scripts of an object
pub names-left : (i before : ℕ) (objects : List Placed) (x : Placed) → i < length objects → x ≡ get_or objects i x
    → before ≡ length (flat_map scripts_of (take i objects))
    → before + length (scripts_of x) ≤ length (flat_map scripts_of objects)
names-left i before objects x within is count =
    let most = length-flat_map-take scripts_of objects i x within in
    let same = ap (λ (p : Placed). length (scripts_of p)) is in
    omega (arith, most, same, count)
