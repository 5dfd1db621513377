-- What layouts one after another spell, put together.
use Rattle.std.proofs.Common.{◌≡◌, ◌∙◌, refl, sym, ap, subst, arith, ℕ, ◌+◌, List, [], ◌∷◌, ◌++◌, length, map, append_assoc, length-append, Bool, true, false}
use Rattle.std.proofs.lemmas.Bool.{false≢true}
use Rattle.std.proofs.lemmas.List.{append-nil}
use Rattle.std.specs.List.{flat_map, AllByRecursion}
use Rattle.lsl_image.specs.Layout.{Content, Fits, Form, Layout, Ends, Refused, Here, Field, ◌>>=◌, bytes_of, each_behind, field, field_that, grown, here, tested}
use Rattle.lsl_image.specs.Spelling.{Spells}

pub record Spelt {A : Type 0} (l : Layout A) (p : ℕ) (a : A) (part : List ℕ) : Type 0 where
  pub spells : Spells l p a part

spells-then : {A B : Type 0} (l : Layout A) (g : A → Layout B) (p : ℕ) (x : A) (front : List ℕ) (b : B)
    (rest : List ℕ) → Spells l p x front → Spells (g x) (p + length front) b rest → Spells (l >>= g) p b (front ++ rest)
unfolding ◌>>=◌
spells-then {A} {B} (Ends c) g p x front b rest s h =
    let place : p + length front ≡ p = omega (arith, ap length s.1) in
    let at : Spells (g c) p b rest =
    subst (λ (n : ℕ). Spells (g c) n b rest) place (subst (λ (v : A). Spells (g v) (p + length front) b rest) s.0 h) in
    subst (λ (t : List ℕ). Spells (g c) p b (t ++ rest)) (sym s.1) at
spells-then (Refused fault) g p x front b rest s h = absurd s
spells-then (Here next) g p x front b rest s h = spells-then (next p) g p x front b rest s h
spells-then {A} {B} (Field form next) g p x front b rest s h =
    let bytes = bytes_of form s.0 in
    let place : p + length front ≡ p + length bytes + length s.1 =
    omega (arith, ap length s.3, length-append bytes s.1) in
    let at : Spells (g x) (p + length bytes + length s.1) b rest =
    subst (λ (n : ℕ). Spells (g x) n b rest) place h in (
      s.0,
      s.1 ++ rest,
      s.2,
      ap (λ (t : List ℕ). t ++ rest) s.3 ∙ append_assoc bytes s.1 rest,
      spells-then (next s.0) g (p + length bytes) x s.1 b rest s.4 at,
    )

pub spelt-then : {A B : Type 0} {l : Layout A} (g : A → Layout B) {p : ℕ} {x : A} {front : List ℕ} {b : B}
    {rest : List ℕ} → Spelt l p x front → Spelt (g x) (p + length front) b rest → Spelt (l >>= g) p b (front ++ rest)
spelt-then {l = l} g {p = p} {x = x} {front = front} {b = b} {rest = rest} s h =
    record { spells = spells-then l g p x front b rest s.spells h.spells }

pub spelt-here : {B : Type 0} (g : ℕ → Layout B) {p : ℕ} {b : B} {part : List ℕ} → Spelt (g p) p b part
    → Spelt (here >>= g) p b part
unfolding here ◌>>=◌
spelt-here g s = record { spells = s.spells }

pub spelt-ends : {A : Type 0} {a b : A} {p : ℕ} → a ≡ b → Spelt (Ends b) p a []
spelt-ends same = record { spells = (same, refl) }

pub spelt-as : {A : Type 0} {l : Layout A} {p : ℕ} {a : A} {part other : List ℕ} → part ≡ other → Spelt l p a part
    → Spelt l p a other
spelt-as {l = l} {p = p} {a = a} same s = subst (λ (t : List ℕ). Spelt l p a t) same s

-- what ends as it was built to
pub spelt-last : {A B : Type 0} {l : Layout A} (g : A → Layout B) {p : ℕ} {x : A} {front : List ℕ} {b : B}
    → Spelt l p x front → Spelt (g x) (p + length front) b [] → Spelt (l >>= g) p b front
spelt-last g {front = front} s h = spelt-as (append-nil front) (spelt-then g s h)

pub spelt-field : (form : Form) (v : Content form) {p : ℕ} → Fits form v → Spelt (field form) p v (bytes_of form v)
unfolding field
spelt-field form v fits = record { spells = (v, [], fits, sym (append-nil (bytes_of form v)), (refl, refl)) }

tested-spells : {A : Type 0} (good : Bool) (place : ℕ) (a : A) (p : ℕ) → good ≡ true
    → Spells (tested good place a) p a []
tested-spells true place a p holds = (refl, refl)
tested-spells false place a p holds = absurd (false≢true holds)

pub spelt-tested : {A : Type 0} (good : Bool) (place : ℕ) (a : A) {p : ℕ} → good ≡ true
    → Spelt (tested good place a) p a []
spelt-tested good place a {p = p} holds = record { spells = tested-spells good place a p holds }

pub spelt-that : (form : Form) (test : Content form → Bool) (v : Content form) {p : ℕ} → Fits form v → test v ≡ true
    → Spelt (field_that form test) p v (bytes_of form v)
unfolding field_that here ◌>>=◌
spelt-that form test v {p = p} fits holds = record {
  spells = (
    v,
    [],
    fits,
    sym (append-nil (bytes_of form v)),
    tested-spells (test v) p v (p + length (bytes_of form v)) holds,
  );
}

-- each of these is good after those before it
pub GoodBehind : {A : Type 0} → (List A → A → Type 0) → List A → List A → Type 0
GoodBehind Good before [] = Unit {0}
GoodBehind Good before (x ∷ xs) = Good before x × GoodBehind Good (before ++ x ∷ []) xs

pub good-cons : {A : Type 0} (Good : List A → A → Type 0) (before : List A) (x : A) (xs : List A) → Good before x
    → GoodBehind Good (before ++ x ∷ []) xs → GoodBehind Good before (x ∷ xs)
unfolding GoodBehind
good-cons Good before x xs one others = (one, others)

pub good-nil : {A : Type 0} (Good : List A → A → Type 0) (before : List A) → GoodBehind Good before []
unfolding GoodBehind
good-nil Good before = tt

pub good-all : {A : Type 0} (P : A → Type 0) (before xs : List A) → AllByRecursion P xs
    → GoodBehind (λ those x. P x) before xs
unfolding GoodBehind
good-all P before [] all = tt
good-all P before (x ∷ xs) all = (all.0, good-all P (before ++ x ∷ []) xs all.1)

grown-spelt : {A : Type 0} (layout : List A → Layout A) (f : A → List ℕ) (Good : List A → A → Type 0)
    → ((before : List A) (x : A) (p : ℕ) → Good before x → Spelt (layout before) p x (f x))
    → (before xs : List A) (p : ℕ) → GoodBehind Good before xs
    → Spelt (grown (length xs) layout before) p (before ++ xs) (flat_map f xs)
unfolding grown GoodBehind
grown-spelt layout f Good each before [] p good = spelt-ends (append-nil before)
grown-spelt {A} layout f Good each before (x ∷ xs) p good =
    let others = grown-spelt layout f Good each (before ++ x ∷ []) xs (p + length (f x)) good.1 in
    let all : Spelt (grown (length xs) layout (before ++ x ∷ [])) (p + length (f x)) (before ++ x ∷ xs)
    (flat_map f xs) =
    subst (λ (l : List A). Spelt (grown (length xs) layout (before ++ x ∷ [])) (p + length (f x)) l (flat_map f xs))
    (append_assoc before (x ∷ []) xs) others in
    spelt-then (λ next. grown (length xs) layout (before ++ next ∷ [])) (each before x p good.0) all

pub spelt-grown : {A : Type 0} (layout : List A → Layout A) (f : A → List ℕ) (Good : List A → A → Type 0)
    → ((before : List A) (x : A) (p : ℕ) → Good before x → Spelt (layout before) p x (f x))
    → (xs : List A) (p : ℕ) → GoodBehind Good [] xs → Spelt (grown (length xs) layout []) p xs (flat_map f xs)
spelt-grown layout f Good each xs p good = grown-spelt layout f Good each [] xs p good

each-spelt : {X A : Type 0} (layout : X → Layout A) (shape : A → X) (f : A → List ℕ) (P : A → Type 0)
    → ((x : A) (p : ℕ) → P x → Spelt (layout (shape x)) p x (f x))
    → (before xs : List A) (p : ℕ) → AllByRecursion P xs
    → Spelt (each_behind layout (map shape xs) before) p (before ++ xs) (flat_map f xs)
unfolding each_behind
each-spelt layout shape f P each before [] p all = spelt-ends (append-nil before)
each-spelt {X} {A} layout shape f P each before (x ∷ xs) p all =
    let others = each-spelt layout shape f P each (before ++ x ∷ []) xs (p + length (f x)) all.1 in
    let whole : Spelt (each_behind layout (map shape xs) (before ++ x ∷ [])) (p + length (f x)) (before ++ x ∷ xs)
    (flat_map f xs) =
    subst (λ (l : List A). Spelt (each_behind layout (map shape xs) (before ++ x ∷ [])) (p + length (f x)) l
    (flat_map f xs)) (append_assoc before (x ∷ []) xs) others in
    spelt-then (λ next. each_behind layout (map shape xs) (before ++ next ∷ [])) (each x p all.0) whole

pub spelt-each : {X A : Type 0} (layout : X → Layout A) (shape : A → X) (f : A → List ℕ) (P : A → Type 0)
    → ((x : A) (p : ℕ) → P x → Spelt (layout (shape x)) p x (f x))
    → (xs : List A) (p : ℕ) → AllByRecursion P xs
    → Spelt (each_behind layout (map shape xs) []) p xs (flat_map f xs)
spelt-each layout shape f P each xs p all = each-spelt layout shape f P each [] xs p all
