-- What lists are charged.
use Rattle.std.proofs.Common.{◌≡◌, ◌∙◌, ℕ, ◌+◌, ◌*◌, ◌<◌, ◌≤◌, List, [], ◌∷◌, ◌++◌, length, map, take, drop, Result, Ok, Err, OnOk, IfOk, IfErr, ap, refl, arith}
use Rattle.std.specs.List.{sum_by}
use Rattle.std.specs.Str.{encode_utf8_all}
use Rattle.std.proofs.lemmas.List.{take-append-drop, map-append}
use Rattle.std.proofs.lemmas.List.Sums.{sum_by-append, sum_by-cons}
use Rattle.std.proofs.lemmas.Str.{encodes_same}
use Rattle.lsl_value.specs.Atoms.{item_charge_of, list_charge_of}
use Rattle.lsl_value.specs.declared.list.Atom.{Atom}
use Rattle.lsl_value.specs.declared.list.Atom.TheVariants.{Int, Str, Key}
use Rattle.lsl_pure.specs.declared.PureFault.{PureFault}
use Rattle.lsl_pure.specs.declared.PureFault.TheVariants.{TooBig}
use Rattle.lsl_pure.specs.Cuts.{inserted}
use Rattle.lsl_pure.specs.Spelling.{spelled_charge, spelled_string, IsOverfull}

least-item : (a : Atom) → 16 ≤ item_charge_of a
least-item (Int n) = omega arith
least-item (Str text) = omega arith
least-item (Key text) = omega arith

-- a list that isn't charged much has few elements
pub length-le-charge : (atoms : List Atom) → 16 * length atoms ≤ sum_by item_charge_of atoms
length-le-charge [] = omega arith
length-le-charge (a ∷ atoms) = omega (arith, length-le-charge atoms, least-item a, sum_by-cons item_charge_of a atoms)

pub charge-inserted : (xs ys : List Atom) (k : ℕ)
    → sum_by item_charge_of (inserted xs k ys) ≡ sum_by item_charge_of xs + sum_by item_charge_of ys
charge-inserted xs ys k =
    omega (
      arith,
      sum_by-append item_charge_of (take k xs ++ ys) (drop k xs),
      sum_by-append item_charge_of (take k xs) ys,
      sum_by-append item_charge_of (take k xs) (drop k xs),
      ap (sum_by item_charge_of) (take-append-drop k xs),
    )

-- a list is charged what its elements are with their texts spelled out

item-spelled : (a : Atom) → item_charge_of a ≡ spelled_charge (spelled_string a)
item-spelled (Int n) = refl
item-spelled (Str text) = omega arith
item-spelled (Key text) = omega arith

pub charge-spelled : (atoms : List Atom) → sum_by item_charge_of atoms
    ≡ sum_by spelled_charge (map spelled_string atoms)
charge-spelled [] = refl
charge-spelled (a ∷ atoms) =
    omega (
      arith,
      charge-spelled atoms,
      item-spelled a,
      sum_by-cons item_charge_of a atoms,
      sum_by-cons
          spelled_charge (spelled_string a) (map spelled_string atoms),
    )

-- one element more is too much
pub overfull_push : (atoms : List Atom) (a : Atom) (more : List Atom) → spelled_string a ∷ [] ≡ more
    → 65536 < list_charge_of (atoms ++ a ∷ []) → IsOverfull (map spelled_string atoms ++ more)
overfull_push atoms a more same big =
    omega (
      arith,
      charge-spelled (atoms ++ a ∷ []),
      ap (sum_by spelled_charge)
          (map-append spelled_string atoms (a ∷ []) ∙ ap (λ m. map spelled_string atoms ++ m) same),
    )

-- and so is any list that begins so
pub overfull_more : (first more : List Atom) → IsOverfull first → IsOverfull (first ++ more)
overfull_more first more big = omega (arith, sum_by-append spelled_charge first more)

pub IfErr-weaker : {T : Type 0} (r : Result T PureFault) (P Q : Type 0) → (P → Q)
    → IfErr r (λ fault. fault ≡ TooBig → P) → IfErr r (λ fault. fault ≡ TooBig → Q)
IfErr-weaker (Ok x) P Q follows is = tt
IfErr-weaker (Err e) P Q follows is = λ fault. follows (is fault)

pub OnOk-map : {T : Type 0} (r : Result T PureFault) (new old : List Atom) (a : Atom) (more : List Atom)
    → spelled_string a ∷ [] ≡ more
    → OnOk r (new ≡ old ++ a ∷ []) → OnOk r (map spelled_string new ≡ map spelled_string old ++ more)
OnOk-map (Ok x) new old a more same is = ap (map spelled_string) is ∙ map-append spelled_string old (a ∷ [])
    ∙ ap (λ m. map spelled_string old ++ m) same
OnOk-map (Err e) new old a more same is = tt

-- elements are known by their texts spelled out

same-spelled : (a b : Atom) → spelled_string a ≡ spelled_string b → a ≡ b
same-spelled (Int m) (Int n) same = cc
same-spelled (Int m) (Str t) same = cc
same-spelled (Int m) (Key t) same = cc
same-spelled (Str s) (Int n) same = cc
same-spelled (Str s) (Str t) same = let text : encode_utf8_all s ≡ encode_utf8_all t = cc in
    ap Str (encodes_same s t text)
same-spelled (Str s) (Key t) same = cc
same-spelled (Key s) (Int n) same = cc
same-spelled (Key s) (Str t) same = cc
same-spelled (Key s) (Key t) same = let text : encode_utf8_all s ≡ encode_utf8_all t = cc in
    ap Key (encodes_same s t text)

same-strings : (xs ys : List Atom) → map spelled_string xs ≡ map spelled_string ys → xs ≡ ys
same-strings [] [] same = refl
same-strings [] (y ∷ ys) same = cc
same-strings (x ∷ xs) [] same = cc
same-strings (x ∷ xs) (y ∷ ys) same =
    let head : spelled_string x ≡ spelled_string y = cc in
    let tail : map spelled_string xs ≡ map spelled_string ys = cc in
    let first = same-spelled x y head in
    let others = same-strings xs ys tail in
    cc

pub IfOk-strings : {E : Type 0} (r : Result (List Atom) E) (spelled elements : List Atom)
    → spelled ≡ map spelled_string elements → IfOk r (λ xs. map spelled_string xs ≡ spelled)
    → IfOk r (λ xs. xs ≡ elements)
IfOk-strings (Ok xs) spelled elements same is = same-strings xs elements (is ∙ same)
IfOk-strings (Err e) spelled elements same is = tt

pub IfErr-strings : (r : Result (List Atom) PureFault) (spelled elements : List Atom)
    → spelled ≡ map spelled_string elements
    → IfErr r (λ fault. fault ≡ TooBig → IsOverfull spelled)
    → IfErr r (λ fault. fault ≡ TooBig → 65536 < list_charge_of elements)
IfErr-strings (Ok xs) spelled elements same is = tt
IfErr-strings (Err e) spelled elements same is = λ fault. let big = is fault in
    omega (arith, big, ap (sum_by spelled_charge) same, charge-spelled elements)
