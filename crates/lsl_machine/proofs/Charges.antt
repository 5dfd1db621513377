-- Charges of lists of values.
use Rattle.std.proofs.Common.{map, ◌≡◌, ◌∙◌, ap, arith, ℕ, ◌+◌, ◌<◌, ◌≤◌, List, [], ◌∷◌, ◌++◌, length, get_or, take, sum_by, length-append}
use Rattle.std.proofs.lemmas.List.{take_more, map-append}
use Rattle.std.proofs.lemmas.List.Sums.{sum_by-cons, sum_by-append, sum_by_more, sum_by-take-le}
use Rattle.std.specs.List.{flat_map}
use Rattle.lsl_value.specs.Atoms.{item_charge_of}
use Rattle.lsl_value.specs.declared.list.Atom.{Atom}
use Rattle.lsl_value.specs.declared.tagged.Kind.TheVariants as kind
use Rattle.lsl_value.specs.declared.tagged.Value.TheVariants as value
use Rattle.lsl_ops.specs.Operations.{atoms_of}
use Rattle.lsl_value.specs.declared.tagged.Kind.{Kind}
use Rattle.lsl_value.specs.declared.tagged.Value.{Value}
use Rattle.lsl_value.specs.Values.{charge_of}
use Rattle.lsl_running.specs.Charging.{charges_of}
use Rattle.lsl_running.specs.Values.{empty_of}

pub charges_append : (xs ys : List Value) → charges_of (xs ++ ys) ≡ charges_of xs + charges_of ys
charges_append xs ys = sum_by-append charge_of xs ys

pub charges_step : (xs : List Value) (i : ℕ) (d : Value) → i < length xs
    → charges_of (take (i + 1) xs) ≡ charges_of (take i xs) + charge_of (get_or xs i d)
charges_step xs i d lt = sum_by_more charge_of xs i d lt

pub charges_some : (xs : List Value) (i : ℕ) → charges_of (take i xs) ≤ charges_of xs
charges_some xs i = sum_by-take-le charge_of xs i

pub empties_more : (ks : List Kind) (i : ℕ) (d : Kind) → i < length ks
    → map empty_of (take (i + 1) ks) ≡ map empty_of (take i ks) ++ empty_of (get_or ks i d) ∷ []
empties_more ks i d lt = ap (map empty_of) (take_more ks i d lt)
    ∙ map-append empty_of (take i ks) (get_or ks i d ∷ [])

pub empties_step : (ks : List Kind) (i : ℕ) (d : Kind) → i < length ks
    → charges_of (map empty_of (take (i + 1) ks)) ≡ charges_of (map empty_of (take i ks)) + charge_of
    (empty_of (get_or ks i d))
empties_step ks i d lt = let e = ap charges_of (empties_more ks i d lt)
    ∙ charges_append (map empty_of (take i ks)) (empty_of (get_or ks i d) ∷ []) in omega arith

empty_some : (k : Kind) → 1 ≤ charge_of (empty_of k)
empty_some kind.Int = omega arith
empty_some kind.Str = omega arith
empty_some kind.Key = omega arith
empty_some kind.List = omega arith

-- each empty value is charged something
pub empties_most : (ks : List Kind) → length ks ≤ charges_of (map empty_of ks)
empties_most [] = omega arith
empties_most (k ∷ ks) = let a = empty_some k in let b = empties_most ks in let c =
    sum_by-cons charge_of (empty_of k) (map empty_of ks) in omega arith

items_few : (atoms : List Atom) → length atoms ≤ sum_by item_charge_of atoms
items_few [] = omega arith
items_few (x ∷ atoms) = let b = items_few atoms in let c = sum_by-cons item_charge_of x atoms in omega arith

pub atoms_few : (v : Value) → length (atoms_of v) ≤ charge_of v
atoms_few (value.Int n) = omega arith
atoms_few (value.Str text) = omega arith
atoms_few (value.Key text) = omega arith
atoms_few (value.List atoms) = let a = items_few atoms in omega arith

-- a list has at most as many elements as its charge
pub elements_few : (vs : List Value) → length (flat_map atoms_of vs) ≤ charges_of vs
elements_few [] = omega arith
elements_few (v ∷ vs) =
    let a = atoms_few v in
    let b = elements_few vs in
    let c = sum_by-cons charge_of v vs in
    let d = length-append (atoms_of v) (flat_map atoms_of vs) in
    omega arith
