-- Bytes of a layout encode one thing, and have no fault.
use Rattle.std.proofs.Common.{◌≡◌, ◌∙◌, sym, ap, subst, inl, inr, arith, ℕ, List, length, drop}
use Rattle.lsl_bytes.specs.Laws.{IsPrefixFree}
use Rattle.lsl_bytes.proofs.NumberLemmas.{i32-prefix_free, u8-prefix_free, u16-prefix_free, u32-prefix_free, u64-prefix_free}
use Rattle.lsl_bytes.proofs.PlaceLemmas.{same-fronts}
use Rattle.lsl_bytes.proofs.TextLemmas.{text-prefix_free}
use Rattle.lsl_bytes.proofs.ValueLemmas.{value-prefix_free}
use Rattle.lsl_image.specs.declared.faults.ImageFault.{ImageFault}
use Rattle.lsl_image.specs.Layout.{Content, Fits, Form, U8, U16, U32, U64, I32, Bytes, TextForm, ValueForm, Layout, Ends, Refused, Here, Field, bytes_of}
use Rattle.lsl_image.specs.Reading.{Faults, Gives, Stands}

-- no field's bytes begin another's of its form
form-prefix_free : (form : Form) → IsPrefixFree (bytes_of form) (Fits form)
form-prefix_free U8 = u8-prefix_free
form-prefix_free U16 = u16-prefix_free
form-prefix_free U32 = u32-prefix_free
form-prefix_free U64 = u64-prefix_free
form-prefix_free I32 = i32-prefix_free
form-prefix_free (Bytes n) = same-fronts n
form-prefix_free TextForm = text-prefix_free
form-prefix_free ValueForm = value-prefix_free

-- what is in a field is one thing, and ends at one place
pub stands-one : (bytes : List ℕ) (place : ℕ) (form : Form) (v w : Content form) (p q : ℕ)
    → Stands bytes place form v p → Stands bytes place form w q → (v ≡ w) × (p ≡ q)
stands-one bytes place form v w p q g h =
    let same : v ≡ w = (form-prefix_free form v w (drop p bytes) (drop q bytes) g.0 h.0
    (sym g.1.parts ∙ h.1.parts)).0 in
    (same, omega (arith, g.1.behind, h.1.behind, ap (λ (x : Content form). length (bytes_of form x)) same))

pub gives-one : {A : Type 0} (bytes : List ℕ) (layout : Layout A) (place : ℕ) (a b : A) (p q : ℕ)
    → Gives bytes layout place a p → Gives bytes layout place b q → (a ≡ b) × (p ≡ q)
gives-one bytes (Ends c) place a b p q g h = (g.0 ∙ sym h.0, g.1 ∙ sym h.1)
gives-one bytes (Refused fault) place a b p q g h = absurd g
gives-one bytes (Here next) place a b p q g h = gives-one bytes (next place) place a b p q g h
gives-one {A} bytes (Field form next) place a b p q g h =
    let same = stands-one bytes place form h.0 g.0 h.1 g.1 h.2 g.2 in
    let here : Gives bytes (next h.0) g.1 b q = subst (λ (n : ℕ). Gives bytes (next h.0) n b q) same.1 h.3 in
    gives-one bytes (next g.0) g.1 a b p q g.3 (subst (λ (v : Content form). Gives bytes (next v) g.1 b q) same.0 here)

pub gives-no_fault : {A : Type 0} (bytes : List ℕ) (layout : Layout A) (place : ℕ) (a : A) (p : ℕ)
    (fault : ImageFault) → Gives bytes layout place a p → Faults bytes layout place fault → ⊥
gives-no_fault bytes (Ends c) place a p fault g f = f
gives-no_fault bytes (Refused wrong) place a p fault g f = g
gives-no_fault bytes (Here next) place a p fault g f = gives-no_fault bytes (next place) place a p fault g f
gives-no_fault bytes (Field form next) place a p fault g (inl none) = none.0 g.0 g.1 g.2
gives-no_fault {A} bytes (Field form next) place a p fault g (inr f) =
    let same = stands-one bytes place form f.0 g.0 f.1 g.1 f.2 g.2 in
    let here : Faults bytes (next f.0) g.1 fault = subst (λ (n : ℕ). Faults bytes (next f.0) n fault) same.1 f.3 in
    gives-no_fault bytes (next g.0) g.1 a p fault g.3
    (subst (λ (v : Content form). Faults bytes (next v) g.1 fault) same.0 here)

pub faults-one : {A : Type 0} (bytes : List ℕ) (layout : Layout A) (place : ℕ) (a b : ImageFault)
    → Faults bytes layout place a → Faults bytes layout place b → a ≡ b
faults-one bytes (Ends c) place a b f g = absurd f
faults-one bytes (Refused wrong) place a b f g = f ∙ sym g
faults-one bytes (Here next) place a b f g = faults-one bytes (next place) place a b f g
faults-one bytes (Field form next) place a b (inl f) (inl g) = f.1 ∙ sym g.1
faults-one bytes (Field form next) place a b (inl f) (inr g) = absurd (f.0 g.0 g.1 g.2)
faults-one bytes (Field form next) place a b (inr f) (inl g) = absurd (g.0 f.0 f.1 f.2)
faults-one {A} bytes (Field form next) place a b (inr f) (inr g) =
    let same = stands-one bytes place form g.0 f.0 g.1 f.1 g.2 f.2 in
    let here : Faults bytes (next g.0) f.1 b = subst (λ (n : ℕ). Faults bytes (next g.0) n b) same.1 g.3 in
    faults-one bytes (next f.0) f.1 a b f.3 (subst (λ (v : Content form). Faults bytes (next v) f.1 b) same.0 here)
