-- Values: an element's, or a list after its tag.
use Rattle.std.proofs.Common.{◌≡◌, ◌∙◌, sym, ap, refl, subst, inl, inr, ◌⊎◌, ℕ, arith, List, ◌∷◌, ◌++◌, Some, None}
use Rattle.lsl_value.specs.Values.{value_of_atom}
use Rattle.lsl_value.specs.declared.list.Atom.{Atom}
use Rattle.lsl_value.specs.declared.list.Atom.TheVariants.{Int as AtomInt, Str as AtomStr, Key as AtomKey}
use Rattle.lsl_value.specs.declared.tagged.Value.{Value}
use Rattle.lsl_value.specs.declared.tagged.Value.TheVariants.{Int, Str, Key, List as ListValue}
use Rattle.lsl_bytes.specs.Fields.{FitsU8, AreItems, IsAtom, IsValue, u8_bytes, atom_bytes, list_bytes, value_bytes}
use Rattle.lsl_bytes.specs.Laws.{IsPrefixFree}
use Rattle.lsl_bytes.specs.Places.{StandsAt, Takes}
use Rattle.lsl_bytes.proofs.AtomLemmas.{atom-prefix_free, atom-tag, same-tag, tag-differs, tagged-found}
use Rattle.lsl_bytes.proofs.ListLemmas.{list-prefix_free}
use Rattle.lsl_bytes.proofs.PlaceLemmas.{none-front, none-whole, taken-front, takes_as, takes_none}

-- an element's value
record IsOfAtom (v : Value) : Type 0 where
  atom : Atom
  fits : IsAtom atom
  is : v ≡ value_of_atom atom
  spelled : value_bytes v ≡ atom_bytes atom

-- a list
record IsOfList (v : Value) : Type 0 where
  atoms : List Atom
  fits : AreItems atoms
  is : v ≡ ListValue atoms
  spelled : value_bytes v ≡ 7 ∷ list_bytes atoms

value-split : (v : Value) → IsValue v → IsOfAtom v ⊎ IsOfList v
unfolding value_bytes atom_bytes
value-split (Int n) fits = inl (record { atom = AtomInt n; fits = fits; is = refl; spelled = refl })
value-split (Str text) fits = inl (record { atom = AtomStr text; fits = fits; is = refl; spelled = refl })
value-split (Key text) fits = inl (record { atom = AtomKey text; fits = fits; is = refl; spelled = refl })
value-split (ListValue atoms) fits = inr (record { atoms = atoms; fits = fits; is = refl; spelled = refl })

-- an element's tag isn't a list's
no-list : (atom : Atom) (atoms : List Atom) (a b : List ℕ) → atom_bytes atom ++ a ≡ (7 ∷ list_bytes atoms) ++ b → ⊥
no-list atom atoms a b same =
    let tag = atom-tag atom in
    tag-differs tag.0 7 (tag.2 ++ a) (list_bytes atoms ++ b)
    (ap (λ (part : List ℕ). part ++ a) (sym tag.3) ∙ same) tag.1

split-prefix_free : (v w : Value) (a b : List ℕ) → IsOfAtom v ⊎ IsOfList v → IsOfAtom w ⊎ IsOfList w
    → value_bytes v ++ a ≡ value_bytes w ++ b → (v ≡ w) × (a ≡ b)
split-prefix_free v w a b (inl p) (inl q) same =
    let parts = atom-prefix_free p.atom q.atom a b p.fits q.fits
    (ap (λ (t : List ℕ). t ++ a) (sym p.spelled) ∙ same ∙ ap (λ (t : List ℕ). t ++ b) q.spelled) in
    (p.is ∙ ap value_of_atom parts.0 ∙ sym q.is, parts.1)
split-prefix_free v w a b (inl p) (inr q) same =
    absurd (no-list p.atom q.atoms a b (ap (λ (t : List ℕ). t ++ a) (sym p.spelled) ∙ same
    ∙ ap (λ (t : List ℕ). t ++ b) q.spelled))
split-prefix_free v w a b (inr p) (inl q) same =
    absurd (no-list q.atom p.atoms b a (ap (λ (t : List ℕ). t ++ b) (sym q.spelled) ∙ sym same
    ∙ ap (λ (t : List ℕ). t ++ a) p.spelled))
split-prefix_free v w a b (inr p) (inr q) same =
    let whole : 7 ∷ (list_bytes p.atoms ++ a) ≡ 7 ∷ (list_bytes q.atoms ++ b) =
    ap (λ (t : List ℕ). t ++ a) (sym p.spelled) ∙ same ∙ ap (λ (t : List ℕ). t ++ b) q.spelled in
    let parts = list-prefix_free p.atoms q.atoms a b p.fits q.fits
    (same-tag 7 7 (list_bytes p.atoms ++ a) (list_bytes q.atoms ++ b) whole).1 in
    (p.is ∙ ap ListValue parts.0 ∙ sym q.is, parts.1)

pub value-prefix_free : IsPrefixFree value_bytes IsValue
value-prefix_free v w a b fits_v fits_w same =
    split-prefix_free v w a b (value-split v fits_v) (value-split w fits_w) same

value_of_atom-bytes : (a : Atom) → atom_bytes a ≡ value_bytes (value_of_atom a)
unfolding value_bytes atom_bytes
value_of_atom-bytes (AtomInt n) = refl
value_of_atom-bytes (AtomStr text) = refl
value_of_atom-bytes (AtomKey text) = refl

value_of_atom-fits : (a : Atom) → IsAtom a → IsValue (value_of_atom a)
value_of_atom-fits (AtomInt n) fits = fits
value_of_atom-fits (AtomStr text) fits = fits
value_of_atom-fits (AtomKey text) fits = fits

-- no value without a tag
pub value-no_tag : (bytes : List ℕ) (p : ℕ) → Takes u8_bytes FitsU8 bytes p None
    → Takes value_bytes IsValue bytes p None
unfolding u8_bytes
value-no_tag bytes p takes = takes_none value_bytes IsValue bytes p
    (λ (w : Value) (next : ℕ) fits stands. never w next (value-split w fits) stands)
  where
    never : (w : Value) (next : ℕ) → IsOfAtom w ⊎ IsOfList w → StandsAt bytes p (value_bytes w) next → ⊥
    never w next (inl q) stands =
        let tag = atom-tag q.atom in
        none-front u8_bytes FitsU8 bytes p takes tag.0 tag.2 next (omega (arith, tag.1))
        (subst (λ (part : List ℕ). StandsAt bytes p part next) (q.spelled ∙ tag.3) stands)
    never w next (inr q) stands =
        none-front u8_bytes FitsU8 bytes p takes 7 (list_bytes q.atoms) next (omega arith)
        (subst (λ (part : List ℕ). StandsAt bytes p part next) q.spelled stands)

-- a list after its tag
pub value-list_found : (bytes : List ℕ) (p q : ℕ) (atoms : List Atom) (next : ℕ)
    → Takes u8_bytes FitsU8 bytes p (Some (7, q)) → Takes list_bytes AreItems bytes q (Some (atoms, next))
    → Takes value_bytes IsValue bytes p (Some (ListValue atoms, next))
unfolding value_bytes
value-list_found bytes p q atoms next tagged takes =
    tagged-found list_bytes AreItems value_bytes IsValue value-prefix_free bytes p 7 q atoms (ListValue atoms)
    next refl takes.found.0 tagged takes

pub value-list_none : (bytes : List ℕ) (p q : ℕ) → Takes u8_bytes FitsU8 bytes p (Some (7, q))
    → Takes list_bytes AreItems bytes q None → Takes value_bytes IsValue bytes p None
unfolding u8_bytes
value-list_none bytes p place tagged takes =
    takes_none value_bytes IsValue bytes p
    (λ (w : Value) (next : ℕ) fits stands. never w next (value-split w fits) stands)
  where
    never : (w : Value) (next : ℕ) → IsOfAtom w ⊎ IsOfList w → StandsAt bytes p (value_bytes w) next → ⊥
    never w next (inl q) stands =
        let tag = atom-tag q.atom in
        let same = taken-front u8_bytes FitsU8 bytes p 7 place tagged tag.0 tag.2 next (omega (arith, tag.1))
        (subst (λ (part : List ℕ). StandsAt bytes p part next) (q.spelled ∙ tag.3) stands) in
        omega (arith, same.0, tag.1)
    never w next (inr q) stands =
        let behind = taken-front u8_bytes FitsU8 bytes p 7 place tagged 7 (list_bytes q.atoms) next
        (omega arith) (subst (λ (part : List ℕ). StandsAt bytes p part next) q.spelled stands) in
        none-whole list_bytes AreItems bytes place takes q.atoms next q.fits behind.1

-- any other tag: the element that is there
pub value-atom_found : (bytes : List ℕ) (p : ℕ) (a : Atom) (next : ℕ)
    → Takes atom_bytes IsAtom bytes p (Some (a, next))
    → Takes value_bytes IsValue bytes p (Some (value_of_atom a, next))
value-atom_found bytes p a next takes =
    takes_as atom_bytes IsAtom value_bytes IsValue value-prefix_free bytes p a (value_of_atom a) next
    (value_of_atom-fits a takes.found.0) (value_of_atom-bytes a) takes

pub value-atom_none : (bytes : List ℕ) (p tag place : ℕ) → Takes u8_bytes FitsU8 bytes p (Some (tag, place))
    → (tag ≡ 7 → ⊥) → Takes atom_bytes IsAtom bytes p None → Takes value_bytes IsValue bytes p None
unfolding u8_bytes
value-atom_none bytes p tag place tagged other takes =
    takes_none value_bytes IsValue bytes p
    (λ (w : Value) (next : ℕ) fits stands. never w next (value-split w fits) stands)
  where
    never : (w : Value) (next : ℕ) → IsOfAtom w ⊎ IsOfList w → StandsAt bytes p (value_bytes w) next → ⊥
    never w next (inl q) stands = none-whole atom_bytes IsAtom bytes p takes q.atom next q.fits
        (subst (λ (part : List ℕ). StandsAt bytes p part next) q.spelled stands)
    never w next (inr q) stands =
        other (taken-front u8_bytes FitsU8 bytes p tag place tagged 7 (list_bytes q.atoms) next (omega arith)
        (subst (λ (part : List ℕ). StandsAt bytes p part next) q.spelled stands)).0
