-- Lists: `count` elements, one after another.
use Rattle.std.proofs.Common.{◌≡◌, ◌∙◌, sym, ap, refl, subst, ℕ, ◌<◌, ◌≤◌, arith, List, [], ◌∷◌, ◌++◌, length, append_assoc, length-append, Some, None}
use Rattle.std.specs.List.{flat_map, AllByRecursion}
use Rattle.std.proofs.lemmas.Grind.{flat_map-append}
use Rattle.std.proofs.lemmas.List.{append-nil}
use Rattle.std.proofs.lemmas.List.Concat.{flat_map-cons}
use Rattle.lsl_value.specs.Limits.{most_items}
use Rattle.lsl_value.specs.declared.list.Atom.{Atom}
use Rattle.lsl_bytes.specs.Fields.{FitsU32, AreAtoms, AreItems, IsAtom, u32_bytes, atom_bytes, list_bytes}
use Rattle.lsl_bytes.specs.Laws.{IsPrefixFree}
use Rattle.lsl_bytes.specs.Places.{StandsAt, Takes}
use Rattle.lsl_bytes.proofs.AtomLemmas.{atom-prefix_free}
use Rattle.lsl_bytes.proofs.NumberLemmas.{u32-prefix_free}
use Rattle.lsl_bytes.proofs.PlaceLemmas.{none-front, none-whole, stands-append, taken-front, takes_no, takes_none, takes_some}

one-more : (a : Atom) (rest : List Atom) (t : List ℕ)
    → flat_map atom_bytes (a ∷ rest) ++ t ≡ atom_bytes a ++ (flat_map atom_bytes rest ++ t)
one-more a rest t = ap (λ (part : List ℕ). part ++ t) (flat_map-cons atom_bytes a rest)
    ∙ append_assoc (atom_bytes a) (flat_map atom_bytes rest) t

atoms-prefix_free : (v w : List Atom) (a b : List ℕ) → length v ≡ length w → AllByRecursion IsAtom v
    → AllByRecursion IsAtom w → flat_map atom_bytes v ++ a ≡ flat_map atom_bytes w ++ b → (v ≡ w) × (a ≡ b)
atoms-prefix_free [] [] a b long fits_v fits_w same = (refl, same)
atoms-prefix_free [] (y ∷ w) a b long fits_v fits_w same = absurd (omega arith)
atoms-prefix_free (x ∷ v) [] a b long fits_v fits_w same = absurd (omega arith)
atoms-prefix_free (x ∷ v) (y ∷ w) a b long fits_v fits_w same =
    let first = atom-prefix_free x y (flat_map atom_bytes v ++ a) (flat_map atom_bytes w ++ b) fits_v.0 fits_w.0
    (sym (one-more x v a) ∙ same ∙ one-more y w b) in
    let others = atoms-prefix_free v w a b (omega arith) fits_v.1 fits_w.1 first.1 in
    (cons-same x y v w first.0 others.0, others.1)
  where
    cons-same : (x y : Atom) (v w : List Atom) → x ≡ y → v ≡ w → x ∷ v ≡ y ∷ w
    cons-same x y v w p q = cc

pub list-prefix_free : IsPrefixFree list_bytes AreItems
unfolding list_bytes
list-prefix_free v w a b fits_v fits_w same =
    let regrouped : u32_bytes (length v) ++ (flat_map atom_bytes v ++ a)
    ≡ u32_bytes (length w) ++ (flat_map atom_bytes w ++ b) =
    sym (append_assoc (u32_bytes (length v)) (flat_map atom_bytes v) a) ∙ same
    ∙ append_assoc (u32_bytes (length w)) (flat_map atom_bytes w) b in
    let counts = u32-prefix_free (length v) (length w) (flat_map atom_bytes v ++ a) (flat_map atom_bytes w ++ b)
    (omega (arith, fits_v.0)) (omega (arith, fits_w.0)) regrouped in
    atoms-prefix_free v w a b counts.0 fits_v.1 fits_w.1 counts.1

-- the elements taken so far are there, and each list that is there continues after them
pub record IsTaking (bytes : List ℕ) (place count : ℕ) (atoms : List Atom) (next : ℕ) : Type 0 where
  pub stands : StandsAt bytes place (flat_map atom_bytes atoms) next
  pub fits : AllByRecursion IsAtom atoms
  pub goes_on : (all : List Atom) (end : ℕ) → AreAtoms count all → StandsAt bytes place (flat_map atom_bytes all) end
      → (more : List Atom) × (all ≡ atoms ++ more) × AllByRecursion IsAtom more
      × StandsAt bytes next (flat_map atom_bytes more) end

pub taking-none : (bytes : List ℕ) (place count : ℕ) → place ≤ length bytes → IsTaking bytes place count [] place
taking-none bytes place count inside = record {
  stands = record { parts = refl; behind = omega arith; within = inside };
  fits = tt;
  goes_on = λ all end are stands. (all, refl, are.1, stands);
}

all-push : (atoms : List Atom) (a : Atom) → AllByRecursion IsAtom atoms → IsAtom a
    → AllByRecursion IsAtom (atoms ++ a ∷ [])
all-push [] a each is = (is, tt)
all-push (x ∷ atoms) a each is = (each.0, all-push atoms a each.1 is)

flat-one : (a : Atom) → flat_map atom_bytes (a ∷ []) ≡ atom_bytes a
flat-one a = flat_map-cons atom_bytes a [] ∙ append-nil (atom_bytes a)

-- another element follows those so far
next-atom : (bytes : List ℕ) (next count : ℕ) (atoms all more : List Atom) (end : ℕ) → length atoms < count
    → length all ≡ count → all ≡ atoms ++ more → AllByRecursion IsAtom more
    → StandsAt bytes next (flat_map atom_bytes more) end
    → (x : Atom) × (rest : List Atom) × (more ≡ x ∷ rest) × IsAtom x × AllByRecursion IsAtom rest
    × StandsAt bytes next (atom_bytes x ++ flat_map atom_bytes rest) end
next-atom bytes next count atoms all [] end short long is each stands =
    absurd (omega (arith, ap length is, length-append {A = Atom} atoms []))
next-atom bytes next count atoms all (x ∷ rest) end short long is each stands = (
  x,
  rest,
  refl,
  each.0,
  each.1,
  subst (λ (part : List ℕ). StandsAt bytes next part end)
      (flat_map-cons atom_bytes x rest) stands,
)

pub taking-more : (bytes : List ℕ) (place count : ℕ) (atoms : List Atom) (next : ℕ) (a : Atom) (behind : ℕ)
    → length atoms < count → IsTaking bytes place count atoms next
    → Takes atom_bytes IsAtom bytes next (Some (a, behind))
    → IsTaking bytes place count (atoms ++ a ∷ []) behind
taking-more bytes place count atoms next a behind short taking takes = record {
  stands = subst (λ (part : List ℕ). StandsAt bytes place part behind)
      (sym (flat_map-append atom_bytes atoms (a ∷ [])
      ∙ ap (λ (part : List ℕ). flat_map atom_bytes atoms ++ part) (flat-one a)))
      (stands-append bytes (flat_map atom_bytes atoms) (atom_bytes a) place next behind taking.stands takes.found.1);
  fits = all-push atoms a taking.fits takes.found.0;
  goes_on = λ (all : List Atom) (end : ℕ) are stands.
      let left = taking.goes_on all end are stands in
      let one = next-atom bytes next count atoms all left.0 end short are.0 left.1 left.2 left.3 in
      let same = taken-front atom_bytes IsAtom bytes next a behind takes one.0 (flat_map atom_bytes one.1) end
      one.3 one.5 in (
        one.1,
        left.1 ∙ ap (λ (more : List Atom). atoms ++ more)
            (one.2 ∙ ap (λ (x : Atom). x ∷ one.1) (sym same.0))
            ∙ sym (append_assoc atoms (a ∷ []) one.1),
        one.4,
        same.1,
      );
}

pub taking-stops : (bytes : List ℕ) (place count : ℕ) (atoms : List Atom) (next : ℕ) → length atoms < count
    → IsTaking bytes place count atoms next → Takes atom_bytes IsAtom bytes next None
    → Takes (flat_map atom_bytes) (AreAtoms count) bytes place None
taking-stops bytes place count atoms next short taking takes =
    takes_none (flat_map atom_bytes) (AreAtoms count) bytes place (λ (all : List Atom) (end : ℕ) are stands.
    let left = taking.goes_on all end are stands in
    let one = next-atom bytes next count atoms all left.0 end short are.0 left.1 left.2 left.3 in
    none-front atom_bytes IsAtom bytes next takes one.0 (flat_map atom_bytes one.1) end one.3 one.5)

pub taking-all : (bytes : List ℕ) (place count : ℕ) (atoms : List Atom) (next : ℕ) → length atoms ≡ count
    → IsTaking bytes place count atoms next
    → Takes (flat_map atom_bytes) (AreAtoms count) bytes place (Some (atoms, next))
taking-all bytes place count atoms next long taking =
    takes_some (flat_map atom_bytes) (AreAtoms count)
    (λ v w a b are_v are_w same. atoms-prefix_free v w a b (omega (arith, are_v.0, are_w.0)) are_v.1 are_w.1
    same)
    bytes place atoms next (long, taking.fits) taking.stands

-- a list: its count, and that number of elements
pub list-no_count : (bytes : List ℕ) (p : ℕ) → Takes u32_bytes FitsU32 bytes p None
    → Takes list_bytes AreItems bytes p None
unfolding list_bytes
list-no_count bytes p takes = takes_no u32_bytes FitsU32 list_bytes AreItems bytes p
    (λ w are. (length w, omega (arith, are.0), flat_map atom_bytes w, refl)) takes

pub list-too_long : (bytes : List ℕ) (p count start : ℕ) → Takes u32_bytes FitsU32 bytes p (Some (count, start))
    → most_items < count → Takes list_bytes AreItems bytes p None
unfolding list_bytes
list-too_long bytes p count start takes long =
    takes_none list_bytes AreItems bytes p (λ (w : List Atom) (next : ℕ) are stands.
    let parts = taken-front u32_bytes FitsU32 bytes p count start takes (length w) (flat_map atom_bytes w) next
    (omega (arith, are.0)) stands in
    omega (arith, parts.0, are.0, long))

pub list-no_atoms : (bytes : List ℕ) (p count start : ℕ) → Takes u32_bytes FitsU32 bytes p (Some (count, start))
    → Takes (flat_map atom_bytes) (AreAtoms count) bytes start None → Takes list_bytes AreItems bytes p None
unfolding list_bytes
list-no_atoms bytes p count start takes none =
    takes_none list_bytes AreItems bytes p (λ (w : List Atom) (next : ℕ) are stands.
    let parts = taken-front u32_bytes FitsU32 bytes p count start takes (length w) (flat_map atom_bytes w) next
    (omega (arith, are.0)) stands in
    none-whole (flat_map atom_bytes) (AreAtoms count) bytes start none w next (sym parts.0, are.1) parts.1)

pub list-found : (bytes : List ℕ) (p count start : ℕ) (atoms : List Atom) (next : ℕ) → count ≤ most_items
    → Takes u32_bytes FitsU32 bytes p (Some (count, start))
    → Takes (flat_map atom_bytes) (AreAtoms count) bytes start (Some (atoms, next))
    → Takes list_bytes AreItems bytes p (Some (atoms, next))
unfolding list_bytes
list-found bytes p count start atoms next short takes found =
    let counted : StandsAt bytes p (u32_bytes (length atoms)) start =
    subst (λ (n : ℕ). StandsAt bytes p (u32_bytes n) start) (sym found.found.0.0) takes.found.1 in
    takes_some list_bytes AreItems list-prefix_free bytes p atoms next
    (omega (arith, short, found.found.0.0), found.found.0.1)
    (stands-append bytes (u32_bytes (length atoms)) (flat_map atom_bytes atoms) p start next counted found.found.1)
