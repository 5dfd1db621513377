-- The seats of a file's scripts, object by object and prim by prim.
use Rattle.std.proofs.Common.{◌≡◌, ℕ, suc, List, [], ◌∷◌, ◌++◌, length, refl, ap, ◌∙◌, arith, length-append}
use Rattle.std.specs.Prelude.{false}
use Rattle.std.proofs.lemmas.List.{length-map, map-append}
use Rattle.std.proofs.lemmas.List.Elements.{All-map}
use Rattle.std.proofs.lemmas.List.Sums.{sum_by-cons}
use Rattle.lsl_code.specs.declared.woven_units.Woven.{Woven as Code}
use Rattle.lsl_lines.specs.declared.file.ObjectLine.{ObjectLine}
use Rattle.lsl_lines.specs.declared.file.PrimLine.{PrimLine}
use Rattle.lsl_lines.specs.declared.file.ScriptLine.{ScriptLine}
use Rattle.lsl_region.specs.Grids.{HasKey, IsFormed, seat_of}
use Rattle.lsl_script.specs.Codes.{rules_of}
use Rattle.lsl_world.specs.Ranges.{IsObjectOf}
use Rattle.lsl_world.specs.Seats.{seats_of_objects, seats_of_prim, seats_of_prims}
use Rattle.lsl_world.specs.Sizes.{scripts_of, scripts_of_prims}
use Rattle.lsl_world.specs.Starts.{member_of_line, members_of_objects, members_of_prim, members_of_prims, object_of_line, prim_of_line}

pub prims-more : (codes : List Code) (object n : ℕ) (x : PrimLine) (xs : List PrimLine)
    → seats_of_prims codes object n (x ∷ xs)
    ≡ seats_of_prim codes object n x.scripts ++ seats_of_prims codes object (suc n) xs
prims-more codes object n x xs =
    map-append (seat_of codes false) (members_of_prim (rules_of codes) object n x.scripts)
    (members_of_prims (rules_of codes) object (suc n) xs)

pub objects-more : (codes : List Code) (n : ℕ) (x : ObjectLine) (xs : List ObjectLine)
    → seats_of_objects codes n (x ∷ xs) ≡ seats_of_prims codes n 0 x.prims ++ seats_of_objects codes (suc n) xs
objects-more codes n x xs =
    map-append (seat_of codes false) (members_of_prims (rules_of codes) n 0 x.prims)
    (members_of_objects (rules_of codes) (suc n) xs)

-- how many they are
prim-count : (codes : List Code) (object n : ℕ) (lines : List ScriptLine)
    → length (seats_of_prim codes object n lines) ≡ length lines
prim-count codes object n lines =
    length-map (members_of_prim (rules_of codes) object n lines) (seat_of codes false)
    ∙ length-map lines (member_of_line (rules_of codes) object n)

prims-count : (codes : List Code) (object n : ℕ) (lines : List PrimLine)
    → length (seats_of_prims codes object n lines) ≡ scripts_of_prims lines
prims-count codes object n [] = refl
prims-count codes object n (x ∷ xs) =
    let first = seats_of_prim codes object n x.scripts in
    let rest = seats_of_prims codes object (suc n) xs in
    let a = ap length (prims-more codes object n x xs) ∙ length-append first rest in
    let b = prim-count codes object n x.scripts in
    let c = prims-count codes object (suc n) xs in
    let d = sum_by-cons (λ (p : PrimLine). length p.scripts) x xs in
    omega (arith, a, b, c, d)

pub objects-count : (codes : List Code) (n : ℕ) (lines : List ObjectLine)
    → length (seats_of_objects codes n lines) ≡ scripts_of lines
objects-count codes n [] = refl
objects-count codes n (x ∷ xs) =
    let first = seats_of_prims codes n 0 x.prims in
    let rest = seats_of_objects codes (suc n) xs in
    let a = ap length (objects-more codes n x xs) ∙ length-append first rest in
    let b = prims-count codes n 0 x.prims in
    let c = objects-count codes (suc n) xs in
    let d = sum_by-cons (λ (o : ObjectLine). scripts_of_prims o.prims) x xs in
    omega (arith, a, b, c, d)

-- the object of a line has a root, and keys
pub object-formed : (files : ℕ) (line : ObjectLine) → IsObjectOf files line → IsFormed (object_of_line line)
object-formed files line fits =
    let count = length-map line.prims prim_of_line in
    record {
      rooted = omega (arith, fits.rooted, count);
      few = omega (arith, fits.few, count);
      keyed = All-map HasKey prim_of_line line.prims fits.keyed;
      stored = record { few = omega arith; each = tt; ascend = tt; room = omega arith };
    }
