-- What layouts one after another give, taken apart.
use Rattle.std.proofs.Common.{◌≡◌, ◌∙◌, refl, sym, ap, subst, arith, ℕ, zero, suc, ◌+◌, List, [], ◌∷◌, ◌++◌, length, Bool, true, false}
use Rattle.std.proofs.lemmas.List.{length_push}
use Rattle.std.specs.List.{AllByRecursion}
use Rattle.lsl_image.specs.Layout.{Content, Fits, Form, Layout, Ends, ◌>>=◌, each_behind, field, field_that, grown, here, tested}
use Rattle.lsl_image.specs.Reading.{Gives}
use Rattle.lsl_image.proofs.ReadingLemmas.{gives-split}

pub record Given {A : Type 0} (bytes : List ℕ) (l : Layout A) (p : ℕ) (a : A) (q : ℕ) : Type 0 where
  pub gives : Gives bytes l p a q

pub record Split {A B : Type 0} (bytes : List ℕ) (l : Layout A) (f : A → Layout B) (p : ℕ) (b : B)
    (q : ℕ) : Type 0 where
  pub value : A
  pub middle : ℕ
  pub first : Given bytes l p value middle
  pub rest : Given bytes (f value) middle b q

pub split : {A B : Type 0} {bytes : List ℕ} {l : Layout A} {f : A → Layout B} {p : ℕ} {b : B} {q : ℕ}
    → Given bytes (l >>= f) p b q → Split bytes l f p b q
split {bytes = bytes} {l = l} {f = f} {p = p} {b = b} {q = q} g =
    let s = gives-split bytes l f p b q g.gives in
    record { value = s.0; middle = s.1; first = record { gives = s.2 }; rest = record { gives = s.3 } }

pub ended : {A : Type 0} {bytes : List ℕ} {b : A} {p : ℕ} {a : A} {q : ℕ} → Given bytes (Ends b) p a q → a ≡ b
ended g = g.gives.0

pub record IsTested {A : Type 0} (good : Bool) (a v : A) : Type 0 where
  pub holds : good ≡ true
  pub same : v ≡ a

pub tested-told : {A : Type 0} {bytes : List ℕ} (good : Bool) (place : ℕ) {a : A} {p : ℕ} {v : A} {q : ℕ}
    → Given bytes (tested good place a) p v q → IsTested good a v
tested-told true place g = record { holds = refl; same = g.gives.0 }
tested-told false place g = absurd g.gives

-- the content of a field with a test
pub record IsThat (form : Form) (test : Content form → Bool) (v : Content form) : Type 0 where
  pub fits : Fits form v
  pub holds : test v ≡ true

pub that-told : {bytes : List ℕ} (form : Form) (test : Content form → Bool) {p : ℕ} {v : Content form} {q : ℕ}
    → Given bytes (field_that form test) p v q → IsThat form test v
unfolding field_that here ◌>>=◌
that-told {bytes} form test {p} {v} {q} g =
    let h = g.gives in
    let inner : Given bytes (tested (test h.0) p h.0) h.1 v q = record { gives = h.3 } in
    let t = tested-told (test h.0) p inner in
    record {
      fits = subst (λ (w : Content form). Fits form w) (sym t.same) h.2.0;
      holds = ap test t.same ∙ t.holds;
    }

pub field-told : {bytes : List ℕ} (form : Form) {p : ℕ} {v : Content form} {q : ℕ} → Given bytes (field form) p v q
    → Fits form v
unfolding field
field-told form g = subst (λ (w : Content form). Fits form w) (sym g.gives.3.0) g.gives.2.0

pub each-push : {X : Type 0} (P : X → Type 0) (xs : List X) (x : X) → AllByRecursion P xs → P x
    → AllByRecursion P (xs ++ x ∷ [])
each-push P [] x all one = (one, tt)
each-push P (y ∷ xs) x all one = (all.0, each-push P xs x all.1 one)

-- n were read, and this holds of each
pub grown-all : {A : Type 0} {bytes : List ℕ} (layout : List A → Layout A) (P : A → Type 0)
    → ((before : List A) (p : ℕ) (x : A) (q : ℕ) → Given bytes (layout before) p x q → P x)
    → (n : ℕ) (before : List A) (p : ℕ) (list : List A) (q : ℕ) → Given bytes (grown n layout before) p list q
    → AllByRecursion P before → AllByRecursion P list
unfolding grown
grown-all layout P each zero before p list q g all = subst (AllByRecursion P) (sym (ended g)) all
grown-all layout P each (suc n) before p list q g all =
    let s = split g in
    grown-all layout P each n (before ++ s.value ∷ []) s.middle list q s.rest
    (each-push P before s.value all (each before p s.value s.middle s.first))

pub grown-long : {A : Type 0} {bytes : List ℕ} (layout : List A → Layout A) (n : ℕ) (before : List A) (p : ℕ)
    (list : List A) (q : ℕ) → Given bytes (grown n layout before) p list q → length list ≡ length before + n
unfolding grown
grown-long layout zero before p list q g = ap length (ended g) ∙ omega arith
grown-long layout (suc n) before p list q g =
    let s = split g in
    omega (arith, grown-long layout n (before ++ s.value ∷ []) s.middle list q s.rest, length_push before s.value)

-- one was read for each of these, and this holds of each
pub each-all : {X A : Type 0} {bytes : List ℕ} (layout : X → Layout A) (Q : X → Type 0) (P : A → Type 0)
    → ((x : X) → Q x → (p : ℕ) (a : A) (q : ℕ) → Given bytes (layout x) p a q → P a)
    → (xs : List X) → AllByRecursion Q xs → (before : List A) (p : ℕ) (list : List A) (q : ℕ)
    → Given bytes (each_behind layout xs before) p list q → AllByRecursion P before → AllByRecursion P list
unfolding each_behind
each-all layout Q P each [] may before p list q g all = subst (AllByRecursion P) (sym (ended g)) all
each-all layout Q P each (x ∷ xs) may before p list q g all =
    let s = split g in
    each-all layout Q P each xs may.1 (before ++ s.value ∷ []) s.middle list q s.rest
    (each-push P before s.value all (each x may.0 p s.value s.middle s.first))

pub each-long : {X A : Type 0} {bytes : List ℕ} (layout : X → Layout A) (xs : List X) (before : List A) (p : ℕ)
    (list : List A) (q : ℕ) → Given bytes (each_behind layout xs before) p list q
    → length list ≡ length before + length xs
unfolding each_behind
each-long layout [] before p list q g = ap length (ended g) ∙ omega arith
each-long layout (x ∷ xs) before p list q g =
    let s = split g in
    omega (arith, each-long layout xs (before ++ s.value ∷ []) s.middle list q s.rest, length_push before s.value)
