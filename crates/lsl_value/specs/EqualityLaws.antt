-- The tests of equality decide it.
use Rattle.std.proofs.Common.{◌≡◌, false, List, ap, refl, Decides}
use Rattle.std.specs.Cmp.{IsEquivalence, decided, signed_Decides}
use Rattle.std.specs.Cmp.Lexicographic.{pointwise}
use Rattle.std.proofs.lemmas.Bool.{false≢true}
use Rattle.std.proofs.lemmas.Bool.Decides.{Decides-like}
use Rattle.std.proofs.lemmas.Slice.Eq.{bytes_eq-Decides, slice_eq-Decides}
use Rattle.lsl_value.specs.Equality.{same_atom, same_atoms}
use Rattle.lsl_value.specs.Values.{same_value}
use Rattle.lsl_value.specs.declared.list.Atom.{Atom}
use Rattle.lsl_value.specs.declared.list.Atom.TheVariants.{Int as AtomInt, Str as AtomStr, Key as AtomKey}
use Rattle.lsl_value.specs.declared.tagged.Value.{Value}
use Rattle.lsl_value.specs.declared.tagged.Value.TheVariants.{Int, Str, Key, List as ListValue}

-- a test that fails decides what cannot be
Decides-never : {P : Type 0} → (P → ⊥) → Decides false P
Decides-never never = (λ no. absurd (false≢true no), λ p. absurd (never p))

pub same_atom-Decides : (a b : Atom) → Decides (same_atom a b) (a ≡ b)
same_atom-Decides (AtomInt a) (AtomInt b) = Decides-like _ (ap AtomInt) (λ same. cc) (signed_Decides a b)
same_atom-Decides (AtomInt a) (AtomStr b) = Decides-never (λ same. cc)
same_atom-Decides (AtomInt a) (AtomKey b) = Decides-never (λ same. cc)
same_atom-Decides (AtomStr a) (AtomInt b) = Decides-never (λ same. cc)
same_atom-Decides (AtomStr a) (AtomStr b) = Decides-like _ (ap AtomStr) (λ same. cc) (bytes_eq-Decides a b)
same_atom-Decides (AtomStr a) (AtomKey b) = Decides-never (λ same. cc)
same_atom-Decides (AtomKey a) (AtomInt b) = Decides-never (λ same. cc)
same_atom-Decides (AtomKey a) (AtomStr b) = Decides-never (λ same. cc)
same_atom-Decides (AtomKey a) (AtomKey b) = Decides-like _ (ap AtomKey) (λ same. cc) (bytes_eq-Decides a b)

pub same_atom_equiv : IsEquivalence same_atom
same_atom_equiv = decided same_atom same_atom-Decides

pub same_atoms-Decides : (a b : List Atom) → Decides (same_atoms a b) (a ≡ b)
same_atoms-Decides a b = slice_eq-Decides {E = same_atom} same_atom-Decides a b (same_atoms a b) refl

pub same_atoms_equiv : IsEquivalence same_atoms
same_atoms_equiv = decided same_atoms same_atoms-Decides

pub same_value-Decides : (a b : Value) → Decides (same_value a b) (a ≡ b)
same_value-Decides (Int a) (Int b) = Decides-like _ (ap Int) (λ same. cc) (signed_Decides a b)
same_value-Decides (Int a) (Str b) = Decides-never (λ same. cc)
same_value-Decides (Int a) (Key b) = Decides-never (λ same. cc)
same_value-Decides (Int a) (ListValue b) = Decides-never (λ same. cc)
same_value-Decides (Str a) (Int b) = Decides-never (λ same. cc)
same_value-Decides (Str a) (Str b) = Decides-like _ (ap Str) (λ same. cc) (bytes_eq-Decides a b)
same_value-Decides (Str a) (Key b) = Decides-never (λ same. cc)
same_value-Decides (Str a) (ListValue b) = Decides-never (λ same. cc)
same_value-Decides (Key a) (Int b) = Decides-never (λ same. cc)
same_value-Decides (Key a) (Str b) = Decides-never (λ same. cc)
same_value-Decides (Key a) (Key b) = Decides-like _ (ap Key) (λ same. cc) (bytes_eq-Decides a b)
same_value-Decides (Key a) (ListValue b) = Decides-never (λ same. cc)
same_value-Decides (ListValue a) (Int b) = Decides-never (λ same. cc)
same_value-Decides (ListValue a) (Str b) = Decides-never (λ same. cc)
same_value-Decides (ListValue a) (Key b) = Decides-never (λ same. cc)
same_value-Decides (ListValue a) (ListValue b) = Decides-like _ (ap ListValue) (λ same. cc) (same_atoms-Decides a b)

pub same_value_equiv : IsEquivalence same_value
same_value_equiv = decided same_value same_value-Decides

pub same_values-Decides : (a b : List Value) → Decides (pointwise same_value a b) (a ≡ b)
same_values-Decides a b = slice_eq-Decides {E = same_value} same_value-Decides a b (pointwise same_value a b) refl

pub same_values_equiv : IsEquivalence (pointwise same_value)
same_values_equiv = decided (pointwise same_value) same_values-Decides
