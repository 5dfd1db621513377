-- What layouts one after another spell, taken apart: the bytes are those of the parts.
use Rattle.std.proofs.Common.{◌≡◌, ◌∙◌, refl, sym, ap, subst, arith, ℕ, zero, suc, ◌+◌, List, [], ◌∷◌, ◌++◌, length, append_assoc, length-append, Bool, true, false, cond}
use Rattle.std.proofs.lemmas.List.{append-nil}
use Rattle.std.specs.List.{flat_map}
use Rattle.lsl_image.specs.declared.faults.ImageFault.{ImageFault}
use Rattle.lsl_image.specs.Layout.{Content, Form, Layout, Ends, Refused, Here, Field, ◌>>=◌, bytes_of, each_behind, field, field_that, grown, here, tested}
use Rattle.lsl_image.specs.Spelling.{Spells}
use Rattle.lsl_image.proofs.SpeltLemmas.{Spelt}

-- what the first layout spells, and what the one after it does
pub record Parted {A B : Type 0} (l : Layout A) (g : A → Layout B) (p : ℕ) (b : B) (part : List ℕ) : Type 0 where
  pub value : A
  pub front : List ℕ
  pub rest : List ℕ
  pub first : Spelt l p value front
  pub others : Spelt (g value) (p + length front) b rest
  pub whole : part ≡ front ++ rest

spells-parted : {A B : Type 0} (l : Layout A) (g : A → Layout B) (p : ℕ) (b : B) (part : List ℕ)
    → Spells (l >>= g) p b part → Parted l g p b part
unfolding ◌>>=◌
spells-parted {A} {B} (Ends c) g p b part s =
    let nothing : List ℕ = [] in
    let place : p ≡ p + length nothing = omega arith in
    record {
      value = c;
      front = nothing;
      rest = part;
      first = record { spells = (refl, refl) };
      others = record { spells = subst (λ (n : ℕ). Spells (g c) n b part) place s };
      whole = refl;
    }
spells-parted (Refused fault) g p b part s = absurd s
spells-parted (Here next) g p b part s =
    let t = spells-parted (next p) g p b part s in
    record {
      value = t.value;
      front = t.front;
      rest = t.rest;
      first = record { spells = t.first.spells };
      others = t.others;
      whole = t.whole;
    }
spells-parted {A} {B} (Field form next) g p b part s =
    let bytes = bytes_of form s.0 in
    let t = spells-parted (next s.0) g (p + length bytes) b s.1 s.4 in
    let place : p + length bytes + length t.front ≡ p + length (bytes ++ t.front) =
    omega (arith, length-append bytes t.front) in
    record {
      value = t.value;
      front = bytes ++ t.front;
      rest = t.rest;
      first = record { spells = (s.0, t.front, s.2, refl, t.first.spells) };
      others = record { spells = subst (λ (n : ℕ). Spells (g t.value) n b t.rest) place t.others.spells };
      whole = s.3 ∙ ap (λ (u : List ℕ). bytes ++ u) t.whole ∙ sym (append_assoc bytes t.front t.rest);
    }

pub parted : {A B : Type 0} {l : Layout A} {g : A → Layout B} {p : ℕ} {b : B} {part : List ℕ}
    → Spelt (l >>= g) p b part → Parted l g p b part
parted {l = l} {g = g} {p = p} {b = b} {part = part} s = spells-parted l g p b part s.spells

pub behind-here : {B : Type 0} (g : ℕ → Layout B) {p : ℕ} {b : B} {part : List ℕ} → Spelt (here >>= g) p b part
    → Spelt (g p) p b part
unfolding here ◌>>=◌
behind-here g s = record { spells = s.spells }

-- the bytes of both parts, where those of each are known
pub both-parts : {A B : Type 0} {l : Layout A} {g : A → Layout B} {p : ℕ} {b : B} {part : List ℕ}
    (s : Parted l g p b part) {first others : List ℕ} → s.front ≡ first → s.rest ≡ others → part ≡ first ++ others
both-parts s {first} {others} f o =
    s.whole ∙ ap (λ (t : List ℕ). t ++ s.rest) f ∙ ap (λ (t : List ℕ). first ++ t) o

pub last-part : {A B : Type 0} {l : Layout A} {g : A → Layout B} {p : ℕ} {b : B} {part : List ℕ}
    (s : Parted l g p b part) {first : List ℕ} → s.front ≡ first → s.rest ≡ [] → part ≡ first
last-part s {first} f o = both-parts s f o ∙ append-nil first

-- what is spelled, by no bytes
pub record IsEnd {A : Type 0} (a b : A) (part : List ℕ) : Type 0 where
  pub same : b ≡ a
  pub none : part ≡ []

pub ended : {A : Type 0} {a b : A} {p : ℕ} {part : List ℕ} → Spelt (Ends a) p b part → IsEnd a b part
ended s = record { same = s.spells.0; none = s.spells.1 }

pub field-bytes : (form : Form) {p : ℕ} {v : Content form} {part : List ℕ} → Spelt (field form) p v part
    → part ≡ bytes_of form v
unfolding field
field-bytes form s =
    s.spells.3 ∙ ap (λ (t : List ℕ). bytes_of form s.spells.0 ++ t) s.spells.4.1
    ∙ append-nil (bytes_of form s.spells.0) ∙ ap (bytes_of form) (sym s.spells.4.0)

pub allowed : {A : Type 0} (good : Bool) (l : Layout A) (fault : ImageFault) {p : ℕ} {a : A} {part : List ℕ}
    → Spelt (cond good l (Refused fault)) p a part → (good ≡ true) × Spelt l p a part
allowed true l fault s = (refl, s)
allowed false l fault s = absurd s.spells

-- a test was passed, by no bytes
pub record HasPassed {A : Type 0} (good : Bool) (a b : A) (part : List ℕ) : Type 0 where
  pub holds : good ≡ true
  pub same : b ≡ a
  pub none : part ≡ []

pub passed : {A : Type 0} (good : Bool) (place : ℕ) {a b : A} {p : ℕ} {part : List ℕ}
    → Spelt (tested good place a) p b part → HasPassed good a b part
passed true place s = record { holds = refl; same = s.spells.0; none = s.spells.1 }
passed false place s = absurd s.spells

-- what a field with a test spells
pub record IsTested (form : Form) (test : Content form → Bool) (v : Content form) (part : List ℕ) : Type 0 where
  pub holds : test v ≡ true
  pub bytes : part ≡ bytes_of form v

pub that-bytes : (form : Form) (test : Content form → Bool) {p : ℕ} {v : Content form} {part : List ℕ}
    → Spelt (field_that form test) p v part → IsTested form test v part
unfolding field_that here ◌>>=◌
that-bytes form test {p} {v} {part} s =
    let w = s.spells.0 in
    let inner : Spelt (tested (test w) p w) (p + length (bytes_of form w)) v s.spells.1 = record { spells = s.spells.4 }
    in
    let t = passed (test w) p inner in
    record {
      holds = ap test t.same ∙ t.holds;
      bytes = s.spells.3 ∙ ap (λ (u : List ℕ). bytes_of form w ++ u) t.none ∙ append-nil (bytes_of form w)
          ∙ ap (bytes_of form) (sym t.same);
    }

-- n were spelled after others, by the bytes of each
pub record IsGrown {A : Type 0} (f : A → List ℕ) (n : ℕ) (before list : List A) (part : List ℕ) : Type 0 where
  pub new : List A
  pub same : list ≡ before ++ new
  pub long : length new ≡ n
  pub bytes : part ≡ flat_map f new

pub grown-bytes : {A : Type 0} (layout : List A → Layout A) (f : A → List ℕ)
    → ((before : List A) (p : ℕ) (x : A) (part : List ℕ) → Spelt (layout before) p x part → part ≡ f x)
    → (n : ℕ) (before : List A) (p : ℕ) (list : List A) (part : List ℕ) → Spelt (grown n layout before) p list part
    → IsGrown f n before list part
unfolding grown
grown-bytes layout f each zero before p list part s =
    let e = ended s in
    record { new = []; same = e.same ∙ sym (append-nil before); long = refl; bytes = e.none }
grown-bytes layout f each (suc n) before p list part s =
    let t = parted s in
    let o = grown-bytes layout f each n (before ++ t.value ∷ []) (p + length t.front) list t.rest t.others in
    record {
      new = t.value ∷ o.new;
      same = o.same ∙ append_assoc before (t.value ∷ []) o.new;
      long = ap suc o.long;
      bytes = both-parts t (each before p t.value t.front t.first) o.bytes;
    }

-- one was spelled for each, by its bytes
pub each-bytes : {X A : Type 0} (layout : X → Layout A) (f : A → List ℕ)
    → ((x : X) (p : ℕ) (a : A) (part : List ℕ) → Spelt (layout x) p a part → part ≡ f a)
    → (xs : List X) (before : List A) (p : ℕ) (list : List A) (part : List ℕ)
    → Spelt (each_behind layout xs before) p list part → IsGrown f (length xs) before list part
unfolding each_behind
each-bytes layout f each [] before p list part s =
    let e = ended s in
    record { new = []; same = e.same ∙ sym (append-nil before); long = refl; bytes = e.none }
each-bytes layout f each (x ∷ xs) before p list part s =
    let t = parted s in
    let o = each-bytes layout f each xs (before ++ t.value ∷ []) (p + length t.front) list t.rest t.others in
    record {
      new = t.value ∷ o.new;
      same = o.same ∙ append_assoc before (t.value ∷ []) o.new;
      long = ap suc o.long;
      bytes = both-parts t (each x p t.value t.front t.first) o.bytes;
    }
