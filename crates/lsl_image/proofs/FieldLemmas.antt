-- Fields with a test, read.
use Rattle.std.proofs.Common.{◌≡◌, refl, sym, subst, inl, inr, ℕ, ℤ, List, Bool, true, false, Result, Err}
use Rattle.std.specs.Result.{IsErrAnd}
use Rattle.std.proofs.lemmas.Bool.{false≢true}
use Rattle.std.proofs.lemmas.Result.{err_from_is_err_and}
use Rattle.lsl_text.specs.declared.Refusal.{Refusal}
use Rattle.lsl_text.specs.declared.Refusal.TheVariants.{Fault, NoMemory}
use Rattle.lsl_bytes.specs.Fields.{FitsI32}
use Rattle.lsl_image.specs.declared.faults.ImageFault.{ImageFault}
use Rattle.lsl_image.specs.declared.faults.ImageFault.TheVariants.{Body}
use Rattle.lsl_image.specs.Layout.{Content, Form, I32, Layout, ◌>>=◌, field, field_that, here, tested}
use Rattle.lsl_image.specs.Reading.{Faults, Gives, Reads, Stands}
use Rattle.lsl_image.specs.Leading.{Leads}
use Rattle.lsl_image.proofs.LeadingLemmas.{leads-then}
use Rattle.lsl_image.proofs.ReadingLemmas.{faults-first}

module _ (bytes : List ℕ) (form : Form) (p : ℕ) where
  pub field-stands : (v : Content form) (q : ℕ) → Gives bytes (field form) p v q → Stands bytes p form v q
  unfolding field
  field-stands v q g =
      let at : Stands bytes p form g.0 q = subst (λ (n : ℕ). Stands bytes p form g.0 n) (sym g.3.1) g.2 in
      subst (λ (w : Content form). Stands bytes p form w q) (sym g.3.0) at

  module _ {A : Type 0} (next : Content form → Layout A) where
    -- what comes next is read after the field
    pub field-next : (v : Content form) (q : ℕ) (a : A) (r : ℕ) → Gives bytes (field form) p v q
        → Gives bytes (next v) q a r → Gives bytes (field form >>= next) p a r
    unfolding field ◌>>=◌
    field-next v q a r g h = (v, q, field-stands v q g, h)

    pub field-wrong : (v : Content form) (q : ℕ) (fault : ImageFault) → Gives bytes (field form) p v q
        → Faults bytes (next v) q fault → Faults bytes (field form >>= next) p fault
    unfolding field ◌>>=◌
    field-wrong v q fault g h = inr (v, q, field-stands v q g, h)

    field-no : (e : Refusal ImageFault) → Reads bytes (field form) p (Err e)
        → Reads bytes (field form >>= next) p (Err e)
    unfolding field ◌>>=◌
    field-no (Fault fault) (inl h) = inl h
    field-no (Fault fault) (inr h) = absurd h.3
    field-no NoMemory h = tt

    pub field-none : (e : Refusal ImageFault) (r : Result (A × ℕ) (Refusal ImageFault))
        → Reads bytes (field form) p (Err e) → IsErrAnd r (λ y. y ≡ e) → Reads bytes (field form >>= next) p r
    field-none e r h exit =
        let same = err_from_is_err_and r exit in
        rw (same.1, same.2) (field-no e h)

  module _ (test : Content form → Bool) (v : Content form) (q : ℕ) (g : Gives bytes (field form) p v q) where
    pub field_that-passes : test v ≡ true → Gives bytes (field_that form test) p v q
    unfolding field_that here ◌>>=◌
    field_that-passes good = (v, q, field-stands v q g, rw good (refl, refl))

    pub field_that-fails : test v ≡ false → Faults bytes (field_that form test) p (Body p)
    unfolding field_that here ◌>>=◌
    field_that-fails bad = inr (v, q, field-stands v q g, rw bad refl)

-- a test at a place
module _ {A : Type 0} (bytes : List ℕ) (place : ℕ) (a : A) (q : ℕ) where
  pub test-fails : (good : Bool) → good ≡ false → Faults bytes (tested good place a) q (Body place)
  test-fails true bad = absurd (false≢true (sym bad))
  test-fails false bad = refl

  pub test-passes : (good : Bool) → good ≡ true → Gives bytes (tested good place a) q a q
  test-passes true holds = (refl, refl)
  test-passes false holds = absurd (false≢true holds)

module _ {A C : Type 0} {bytes : List ℕ} (good : Bool) (place : ℕ) (a : A) {p : ℕ} {whole : Layout C} {start : ℕ} where
  -- the test passes, and the rest is read
  pub leads-tested : {B : Type 0} (g : A → Layout B) {f : B → C} → good ≡ true
      → Leads bytes (tested good place a >>= g) p f whole start → Leads bytes (g a) p f whole start
  leads-tested g holds leads = leads-then (tested good place a) g leads (test-passes bytes place a p good holds)

  pub leads-refused : {B : Type 0} (g : A → Layout B) {f : B → C} → good ≡ false
      → Leads bytes (tested good place a >>= g) p f whole start → Faults bytes whole start (Body place)
  leads-refused g bad leads = leads.faults (Body place)
      (faults-first bytes (tested good place a) g p (Body place) (test-fails bytes place a p good bad))

  -- the test is the last thing
  pub leads-passes : {f : A → C} → good ≡ true → Leads bytes (tested good place a) p f whole start
      → Gives bytes whole start (f a) p
  leads-passes holds leads = leads.gives a p (test-passes bytes place a p good holds)

  pub leads-fails : {f : A → C} → good ≡ false → Leads bytes (tested good place a) p f whole start
      → Faults bytes whole start (Body place)
  leads-fails bad leads = leads.faults (Body place) (test-fails bytes place a p good bad)

-- a number that was read and tested fits its field
pub i32-fits_that : (bytes : List ℕ) (test : ℤ → Bool) (p : ℕ) (n : ℤ) (q : ℕ)
    → Gives bytes (field_that I32 test) p n q → FitsI32 n
unfolding field_that here ◌>>=◌
i32-fits_that bytes test p n q g = subst FitsI32 (sym (same (test g.0) g.3)) g.2.0
  where
    same : (good : Bool) → Gives bytes (tested good p g.0) g.1 n q → n ≡ g.0
    same true h = h.0
    same false h = absurd h
