-- What is read at a place leads to what is read of a whole layout: each field that is read leads to what follows.
use Rattle.std.proofs.Common.{◌≡◌, refl, subst, sym, arith, ℕ, ℤ, suc, ◌+◌, ◌-◌, ◌<◌, ◌≤◌, List, [], ◌∷◌, ◌++◌, Result, Ok, Err}
use Rattle.std.specs.Result.{IsErrAnd}
use Rattle.std.proofs.lemmas.Result.{err_from_is_err_and}
use Rattle.lsl_text.specs.declared.Refusal.{Refusal}
use Rattle.lsl_text.specs.declared.Refusal.TheVariants.{Fault, NoMemory}
use Rattle.lsl_bytes.specs.Fields.{FitsI32}
use Rattle.lsl_image.specs.declared.faults.ImageFault.{ImageFault}
use Rattle.lsl_image.specs.Layout.{Layout, Ends, I32, Refused, ◌>>=◌, field, grown, here}
use Rattle.lsl_image.specs.Leading.{Leads}
use Rattle.lsl_image.specs.Reading.{Faults, Gives, Reads}
use Rattle.lsl_image.proofs.ReadingLemmas.{faults-first, faults-then, gives-then}

pub leads-all : {A : Type 0} (bytes : List ℕ) (l : Layout A) (p : ℕ) → Leads bytes l p (λ a. a) l p
leads-all bytes l p = record { gives = λ a q h. h; faults = λ fault h. h }

-- the first was read
pub leads-then : {A B C : Type 0} {bytes : List ℕ} (l : Layout A) (g : A → Layout B) {p : ℕ} {f : B → C}
    {whole : Layout C} {start : ℕ} {x : A} {q : ℕ} → Leads bytes (l >>= g) p f whole start → Gives bytes l p x q
    → Leads bytes (g x) q f whole start
leads-then {bytes = bytes} l g {p = p} {x = x} {q = q} leads given = record {
  gives = λ a r h. leads.gives a r (gives-then bytes l g p x q a r given h);
  faults = λ fault h. leads.faults fault (faults-then bytes l g p x q fault given h);
}

pub leads-here : {B C : Type 0} {bytes : List ℕ} (g : ℕ → Layout B) {p : ℕ} {f : B → C} {whole : Layout C}
    {start : ℕ} → Leads bytes (here >>= g) p f whole start → Leads bytes (g p) p f whole start
unfolding here
leads-here {bytes = bytes} g {p = p} leads = leads-then here g {x = p} leads (refl, refl)

-- the rest was read
pub leads-reads : {A : Type 0} {bytes : List ℕ} {l : Layout A} {p : ℕ} {whole : Layout A} {start : ℕ}
    (r : Result (A × ℕ) (Refusal ImageFault)) → Leads bytes l p (λ a. a) whole start → Reads bytes l p r
    → Reads bytes whole start r
leads-reads (Ok y) leads h = leads.gives y.0 y.1 h
leads-reads (Err (Fault fault)) leads h = leads.faults fault h
leads-reads (Err NoMemory) leads h = tt

pub leads-ends : {A B : Type 0} {bytes : List ℕ} {b : A} {p : ℕ} {f : A → B} {whole : Layout B} {start : ℕ}
    → Leads bytes (Ends b) p f whole start → Gives bytes whole start (f b) p
leads-ends {b = b} {p = p} leads = leads.gives b p (refl, refl)

pub leads-refuses : {A B : Type 0} {bytes : List ℕ} {fault : ImageFault} {p : ℕ} {f : A → B} {whole : Layout B}
    {start : ℕ} → Leads bytes (Refused fault) p f whole start → Faults bytes whole start fault
leads-refuses {fault = fault} leads = leads.faults fault refl

pub leads-err : {A B C : Type 0} {bytes : List ℕ} (l : Layout A) (g : A → Layout B) (e : Refusal ImageFault)
    {p : ℕ} {f : B → C} {whole : Layout C} {start : ℕ} → Leads bytes (l >>= g) p f whole start
    → Reads bytes l p (Err e) → Reads bytes whole start (Err e)
leads-err {bytes = bytes} l g (Fault fault) {p = p} leads h = leads.faults fault (faults-first bytes l g p fault h)
leads-err l g NoMemory leads h = tt

-- the first couldn't be read, and that is the answer
pub leads-exits : {A B C : Type 0} {bytes : List ℕ} (l : Layout A) (g : A → Layout B) (e : Refusal ImageFault)
    (r : Result (C × ℕ) (Refusal ImageFault)) {p : ℕ} {f : B → C} {whole : Layout C} {start : ℕ}
    → Leads bytes (l >>= g) p f whole start → Reads bytes l p (Err e) → IsErrAnd r (λ y. y ≡ e)
    → Reads bytes whole start r
leads-exits {bytes = bytes} l g e r {whole = whole} {start = start} leads h exit =
    let same = err_from_is_err_and r exit in
    rw (same.1, same.2) (leads-err l g e leads h)

-- n are to be read, and none is
pub leads-start : {A : Type 0} (bytes : List ℕ) (layout : List A → Layout A) (count p : ℕ) (list : List A)
    → list ≡ [] → Leads bytes (grown (count - 0) layout list) p (λ all. all) (grown count layout []) p
leads-start {A} bytes layout count p list none =
    let same : count - 0 ≡ count = omega arith in
    let all : Leads bytes (grown (count - 0) layout []) p (λ all. all) (grown count layout []) p =
    subst (λ (n : ℕ). Leads bytes (grown n layout []) p (λ all. all) (grown count layout []) p) (sym same)
    (leads-all bytes (grown count layout []) p) in
    subst (λ (l : List A). Leads bytes (grown (count - 0) layout l) p (λ all. all) (grown count layout []) p)
    (sym none) all

one_more-left : {A C : Type 0} (bytes : List ℕ) (layout : List A → Layout A) (before : List A) (count i p : ℕ)
    (f : List A → C) (whole : Layout C) (start : ℕ) → i < count
    → Leads bytes (grown (count - i) layout before) p f whole start
    → Leads bytes (layout before >>= λ next. grown (count - (i + 1)) layout (before ++ next ∷ [])) p f whole
    start
unfolding grown
one_more-left bytes layout before count i p f whole start within leads =
    let more : count - i ≡ suc (count - (i + 1)) = omega arith in
    subst (λ (n : ℕ). Leads bytes (grown n layout before) p f whole start) more leads

-- one more of them was read
pub leads-more : {A C : Type 0} {bytes : List ℕ} (layout : List A → Layout A) (before after : List A)
    (count i : ℕ) (x : A) {p : ℕ} {q : ℕ} {f : List A → C} {whole : Layout C} {start : ℕ} → i < count
    → after ≡ before ++ x ∷ [] → Leads bytes (grown (count - i) layout before) p f whole start
    → Gives bytes (layout before) p x q → Leads bytes (grown (count - (i + 1)) layout after) q f whole start
leads-more {A} {bytes = bytes} layout before after count i x {p = p} {q = q} {f = f} {whole = whole} {start =
    start} within same leads given =
    let opened = one_more-left bytes layout before count i p f whole start within leads in
    subst (λ (l : List A). Leads bytes (grown (count - (i + 1)) layout l) q f whole start) (sym same)
    (leads-then (layout before) (λ next. grown (count - (i + 1)) layout (before ++ next ∷ [])) opened given)

-- one more of them couldn't be read, and that is the answer
pub leads-stops : {A C : Type 0} {bytes : List ℕ} (layout : List A → Layout A) (before : List A) (count i : ℕ)
    (e : Refusal ImageFault) (r : Result (C × ℕ) (Refusal ImageFault)) {p : ℕ} {f : List A → C}
    {whole : Layout C} {start : ℕ} → i < count → Leads bytes (grown (count - i) layout before) p f whole start
    → Reads bytes (layout before) p (Err e) → IsErrAnd r (λ y. y ≡ e) → Reads bytes whole start r
leads-stops {bytes = bytes} layout before count i e r {p = p} {f = f} {whole = whole} {start = start} within
    leads h exit =
    let opened = one_more-left bytes layout before count i p f whole start within leads in
    leads-exits (layout before) (λ next. grown (count - (i + 1)) layout (before ++ next ∷ [])) e r opened h exit

-- all of them were read
pub leads-full : {A C : Type 0} {bytes : List ℕ} (layout : List A → Layout A) (list : List A) (count i : ℕ)
    {p : ℕ} {f : List A → C} {whole : Layout C} {start : ℕ} → count ≤ i
    → Leads bytes (grown (count - i) layout list) p f whole start → Gives bytes whole start (f list) p
unfolding grown
leads-full {bytes = bytes} layout list count i {p = p} {f = f} {whole = whole} {start = start} all leads =
    let none : count - i ≡ 0 = omega arith in
    let ended : Leads bytes (grown 0 layout list) p f whole start =
    subst (λ (n : ℕ). Leads bytes (grown n layout list) p f whole start) none leads in
    ended.gives list p (refl, refl)

-- a number that was read fits its field
pub i32-fits : (bytes : List ℕ) (p : ℕ) (n : ℤ) (q : ℕ) → Gives bytes (field I32) p n q → FitsI32 n
unfolding field
i32-fits bytes p n q g = subst FitsI32 (sym g.3.0) g.2.0
