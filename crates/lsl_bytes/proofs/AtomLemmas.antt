-- Elements after the tags of their kinds.
use Rattle.std.proofs.Common.{◌≡◌, ◌∙◌, sym, ap, refl, subst, ℕ, ℤ, ◌<◌, arith, List, [], ◌∷◌, ◌++◌, Option, Some, None}
use Rattle.lsl_value.specs.Text.{IsText}
use Rattle.lsl_value.specs.declared.list.Atom.{Atom}
use Rattle.lsl_value.specs.declared.list.Atom.TheVariants.{Int, Str, Key}
use Rattle.lsl_bytes.specs.Fields.{FitsU8, FitsI32, IsAtom, u8_bytes, i32_bytes, int_bytes, text_bytes, atom_bytes}
use Rattle.lsl_bytes.specs.Laws.{IsPrefixFree}
use Rattle.lsl_bytes.specs.Places.{StandsAt, Takes}
use Rattle.lsl_bytes.proofs.NumberLemmas.{i32-prefix_free}
use Rattle.lsl_bytes.proofs.TextLemmas.{text-prefix_free}
use Rattle.lsl_bytes.proofs.PlaceLemmas.{none-whole, stands-append, taken-front, takes_no, takes_none, takes_some}

pub same-tag : (x y : ℕ) (xs ys : List ℕ) → x ∷ xs ≡ y ∷ ys → (x ≡ y) × (xs ≡ ys)
same-tag x y xs ys same = (cc, cc)

pub tag-differs : (x y : ℕ) (xs ys : List ℕ) → x ∷ xs ≡ y ∷ ys → x < y → ⊥
tag-differs x y xs ys same below = omega (arith, (same-tag x y xs ys same).0)

pub atom-prefix_free : IsPrefixFree atom_bytes IsAtom
unfolding atom_bytes
atom-prefix_free (Int v) (Int w) a b fits_v fits_w same =
    let parts = i32-prefix_free v w a b fits_v fits_w
    (same-tag 1 1 (i32_bytes v ++ a) (i32_bytes w ++ b) same).1 in (ap Int parts.0, parts.1)
atom-prefix_free (Int v) (Str w) a b fits_v fits_w same =
    absurd (tag-differs 1 3 (i32_bytes v ++ a) (text_bytes w ++ b) same (omega arith))
atom-prefix_free (Int v) (Key w) a b fits_v fits_w same =
    absurd (tag-differs 1 4 (i32_bytes v ++ a) (text_bytes w ++ b) same (omega arith))
atom-prefix_free (Str v) (Int w) a b fits_v fits_w same =
    absurd (tag-differs 1 3 (i32_bytes w ++ b) (text_bytes v ++ a) (sym same) (omega arith))
atom-prefix_free (Str v) (Str w) a b fits_v fits_w same =
    let parts = text-prefix_free v w a b fits_v fits_w
    (same-tag 3 3 (text_bytes v ++ a) (text_bytes w ++ b) same).1 in (ap Str parts.0, parts.1)
atom-prefix_free (Str v) (Key w) a b fits_v fits_w same =
    absurd (tag-differs 3 4 (text_bytes v ++ a) (text_bytes w ++ b) same (omega arith))
atom-prefix_free (Key v) (Int w) a b fits_v fits_w same =
    absurd (tag-differs 1 4 (i32_bytes w ++ b) (text_bytes v ++ a) (sym same) (omega arith))
atom-prefix_free (Key v) (Str w) a b fits_v fits_w same =
    absurd (tag-differs 3 4 (text_bytes w ++ b) (text_bytes v ++ a) (sym same) (omega arith))
atom-prefix_free (Key v) (Key w) a b fits_v fits_w same =
    let parts = text-prefix_free v w a b fits_v fits_w
    (same-tag 4 4 (text_bytes v ++ a) (text_bytes w ++ b) same).1 in (ap Key parts.0, parts.1)

-- a tag, and after it a value of its kind
pub tagged-found : {V W : Type 0} (form : V → List ℕ) (Fits : V → Type 0) (to : W → List ℕ) (Holds : W → Type 0)
    → IsPrefixFree to Holds → (bytes : List ℕ) (p tag q : ℕ) (v : V) (w : W) (next : ℕ)
    → to w ≡ tag ∷ form v → Holds w → Takes u8_bytes FitsU8 bytes p (Some (tag, q))
    → Takes form Fits bytes q (Some (v, next)) → Takes to Holds bytes p (Some (w, next))
unfolding u8_bytes
tagged-found form Fits to Holds law bytes p tag q v w next spelled holds tagged takes =
    takes_some to Holds law bytes p w next holds
    (subst (λ (part : List ℕ). StandsAt bytes p part next) (sym spelled)
    (stands-append bytes (tag ∷ []) (form v) p q next tagged.found.1 takes.found.1))

-- a tag, and after it no value of its kind
pub tagged-none : {V W : Type 0} (form : V → List ℕ) (Fits : V → Type 0) (to : W → List ℕ) (Holds : W → Type 0)
    (bytes : List ℕ) (p tag q : ℕ)
    → ((w : W) → Holds w → (rest : List ℕ) → to w ≡ tag ∷ rest → (v : V) × Fits v × (rest ≡ form v))
    → ((w : W) → (other : ℕ) × FitsU8 other × (rest : List ℕ) × (to w ≡ other ∷ rest))
    → Takes u8_bytes FitsU8 bytes p (Some (tag, q)) → Takes form Fits bytes q None → Takes to Holds bytes p None
unfolding u8_bytes
tagged-none {V} {W} form Fits to Holds bytes p tag q announced spelled tagged takes =
    takes_none to Holds bytes p (λ (w : W) (next : ℕ) holds stands.
    let parts = spelled w in
    let behind = taken-front u8_bytes FitsU8 bytes p tag q tagged parts.0 parts.2 next parts.1
    (subst (λ (part : List ℕ). StandsAt bytes p part next) parts.3 stands) in
    let value = announced w holds parts.2 (parts.3 ∙ ap (λ (t : ℕ). t ∷ parts.2) (sym behind.0)) in
    none-whole form Fits bytes q takes value.0 next value.1
    (subst (λ (part : List ℕ). StandsAt bytes q part next) value.2 behind.1))

pub atom-tag : (w : Atom) → (tag : ℕ) × (tag < 7) × (rest : List ℕ) × (atom_bytes w ≡ tag ∷ rest)
unfolding atom_bytes
atom-tag (Int n) = (1, omega arith, i32_bytes n, refl)
atom-tag (Str text) = (3, omega arith, text_bytes text, refl)
atom-tag (Key text) = (4, omega arith, text_bytes text, refl)

pub atom-spelled : (w : Atom) → (tag : ℕ) × FitsU8 tag × (rest : List ℕ) × (atom_bytes w ≡ tag ∷ rest)
atom-spelled w = let tag = atom-tag w in (tag.0, omega (arith, tag.1), tag.2, tag.3)

pub atom-int : (w : Atom) → IsAtom w → (rest : List ℕ) → atom_bytes w ≡ 1 ∷ rest → (n : ℤ) × FitsI32 n
    × (rest ≡ i32_bytes n)
unfolding atom_bytes
atom-int (Int n) is rest same = (n, is, sym (same-tag 1 1 (i32_bytes n) rest same).1)
atom-int (Str text) is rest same = absurd (tag-differs 1 3 rest (text_bytes text) (sym same) (omega arith))
atom-int (Key text) is rest same = absurd (tag-differs 1 4 rest (text_bytes text) (sym same) (omega arith))

pub atom-str : (w : Atom) → IsAtom w → (rest : List ℕ) → atom_bytes w ≡ 3 ∷ rest → (text : List ℕ) × IsText text
    × (rest ≡ text_bytes text)
unfolding atom_bytes
atom-str (Int n) is rest same = absurd (tag-differs 1 3 (i32_bytes n) rest same (omega arith))
atom-str (Str text) is rest same = (text, is, sym (same-tag 3 3 (text_bytes text) rest same).1)
atom-str (Key text) is rest same = absurd (tag-differs 3 4 rest (text_bytes text) (sym same) (omega arith))

pub atom-key : (w : Atom) → IsAtom w → (rest : List ℕ) → atom_bytes w ≡ 4 ∷ rest → (text : List ℕ) × IsText text
    × (rest ≡ text_bytes text)
unfolding atom_bytes
atom-key (Int n) is rest same = absurd (tag-differs 1 4 (i32_bytes n) rest same (omega arith))
atom-key (Str text) is rest same = absurd (tag-differs 3 4 (text_bytes text) rest same (omega arith))
atom-key (Key text) is rest same = (text, is, sym (same-tag 4 4 (text_bytes text) rest same).1)

-- the three kinds of elements, found
pub int-found : (bytes : List ℕ) (p q : ℕ) (n : ℤ) (next : ℕ) → Takes u8_bytes FitsU8 bytes p (Some (1, q))
    → Takes i32_bytes FitsI32 bytes q (Some (n, next)) → Takes atom_bytes IsAtom bytes p (Some (Int n, next))
unfolding atom_bytes
int-found bytes p q n next tagged takes =
    tagged-found i32_bytes FitsI32 atom_bytes IsAtom atom-prefix_free bytes p 1 q n (Int n) next refl
    takes.found.0 tagged takes

pub str-found : (bytes : List ℕ) (p q : ℕ) (text : List ℕ) (next : ℕ)
    → Takes u8_bytes FitsU8 bytes p (Some (3, q)) → Takes text_bytes IsText bytes q (Some (text, next))
    → Takes atom_bytes IsAtom bytes p (Some (Str text, next))
unfolding atom_bytes
str-found bytes p q text next tagged takes =
    tagged-found text_bytes IsText atom_bytes IsAtom atom-prefix_free bytes p 3 q text (Str text) next refl
    takes.found.0 tagged takes

pub key-found : (bytes : List ℕ) (p q : ℕ) (text : List ℕ) (next : ℕ)
    → Takes u8_bytes FitsU8 bytes p (Some (4, q)) → Takes text_bytes IsText bytes q (Some (text, next))
    → Takes atom_bytes IsAtom bytes p (Some (Key text, next))
unfolding atom_bytes
key-found bytes p q text next tagged takes =
    tagged-found text_bytes IsText atom_bytes IsAtom atom-prefix_free bytes p 4 q text (Key text) next refl
    takes.found.0 tagged takes

-- no element without a tag, or after a tag of none of the three kinds
pub atom-no_tag : (bytes : List ℕ) (p : ℕ) → Takes u8_bytes FitsU8 bytes p None → Takes atom_bytes IsAtom bytes p None
unfolding u8_bytes
atom-no_tag bytes p takes = takes_no u8_bytes FitsU8 atom_bytes IsAtom bytes p (λ w holds. atom-spelled w) takes

pub atom-other_tag : (bytes : List ℕ) (p tag q : ℕ) → Takes u8_bytes FitsU8 bytes p (Some (tag, q))
    → (tag ≡ 1 → ⊥) → (tag ≡ 3 → ⊥) → (tag ≡ 4 → ⊥) → Takes atom_bytes IsAtom bytes p None
unfolding u8_bytes atom_bytes
atom-other_tag bytes p tag q tagged no_int no_str no_key = takes_none atom_bytes IsAtom bytes p never
  where
    never : (w : Atom) (next : ℕ) → IsAtom w → StandsAt bytes p (atom_bytes w) next → ⊥
    never (Int n) next is stands = no_int
        (taken-front u8_bytes FitsU8 bytes p tag q tagged 1 (i32_bytes n) next (omega arith) stands).0
    never (Str text) next is stands = no_str
        (taken-front u8_bytes FitsU8 bytes p tag q tagged 3 (text_bytes text) next (omega arith) stands).0
    never (Key text) next is stands = no_key
        (taken-front u8_bytes FitsU8 bytes p tag q tagged 4 (text_bytes text) next (omega arith) stands).0

-- an integer after its tag
int-prefix_free : IsPrefixFree int_bytes FitsI32
int-prefix_free v w a b fits_v fits_w same =
    i32-prefix_free v w a b fits_v fits_w (same-tag 1 1 (i32_bytes v ++ a) (i32_bytes w ++ b) same).1

pub int-behind : (bytes : List ℕ) (p q : ℕ) (answer : Option (ℤ × ℕ)) → Takes u8_bytes FitsU8 bytes p (Some (1, q))
    → Takes i32_bytes FitsI32 bytes q answer → Takes int_bytes FitsI32 bytes p answer
int-behind bytes p q (Some taken) tagged takes =
    tagged-found i32_bytes FitsI32 int_bytes FitsI32 int-prefix_free bytes p 1 q taken.0 taken.0 taken.1 refl
    takes.found.0 tagged takes
int-behind bytes p q None tagged takes =
    tagged-none i32_bytes FitsI32 int_bytes FitsI32 bytes p 1 q
    (λ (n : ℤ) fits rest same. (n, fits, sym (same-tag 1 1 (i32_bytes n) rest same).1))
    (λ (n : ℤ). (1, omega arith, i32_bytes n, refl)) tagged takes

-- no integer without a tag, or after another tag
pub int-no_tag : (bytes : List ℕ) (p : ℕ) → Takes u8_bytes FitsU8 bytes p None → Takes int_bytes FitsI32 bytes p None
unfolding u8_bytes
int-no_tag bytes p takes = takes_no u8_bytes FitsU8 int_bytes FitsI32 bytes p
    (λ (n : ℤ) fits. (1, omega arith, i32_bytes n, refl)) takes

pub int-other_tag : (bytes : List ℕ) (p tag q : ℕ) → Takes u8_bytes FitsU8 bytes p (Some (tag, q))
    → (tag ≡ 1 → ⊥) → Takes int_bytes FitsI32 bytes p None
unfolding u8_bytes
int-other_tag bytes p tag q tagged other = takes_none int_bytes FitsI32 bytes p
    (λ (n : ℤ) (next : ℕ) fits stands.
    other (taken-front u8_bytes FitsU8 bytes p tag q tagged 1 (i32_bytes n) next (omega arith) stands).0)
