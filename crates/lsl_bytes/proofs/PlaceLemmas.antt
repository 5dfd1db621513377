-- Parts at places, and what was taken there.
use Rattle.std.proofs.Common.{◌≡◌, ◌∙◌, sym, ap, refl, subst, inl, inr, get_or, ℕ, ◌+◌, ◌<◌, ◌≤◌, arith, List, ◌++◌, length, take, drop, length-append, length-drop, append_assoc, ◌-◌, slice_range, Some, None}
use Rattle.std.proofs.lemmas.Bool.{cases_lt}
use Rattle.std.proofs.lemmas.List.{drop-drop, drop_at, take_at, take_all, take-append-drop, length-take, get_or-drop, get_or_append_left, get_or_past}
use Rattle.std.proofs.lemmas.Option.{none-some, some_pair_parts}
use Rattle.lsl_bytes.specs.Laws.{IsPrefixFree}
use Rattle.lsl_bytes.specs.Places.{StandsAt, Takes}

pub stands-append : (bytes a b : List ℕ) (p q r : ℕ) → StandsAt bytes p a q → StandsAt bytes q b r
    → StandsAt bytes p (a ++ b) r
stands-append bytes a b p q r front rest = record {
  parts = front.parts ∙ ap (λ (t : List ℕ). a ++ t) rest.parts ∙ sym (append_assoc a b (drop r bytes));
  behind = omega (arith, front.behind, rest.behind, length-append a b);
  within = rest.within;
}

pub stands-front : (bytes a b : List ℕ) (p r : ℕ) → StandsAt bytes p (a ++ b) r → StandsAt bytes p a (p + length a)
stands-front bytes a b p r whole =
    let cut : drop p bytes ≡ a ++ (b ++ drop r bytes) = whole.parts ∙ append_assoc a b (drop r bytes) in
    let rest : drop (p + length a) bytes ≡ b ++ drop r bytes =
    sym (drop-drop (length a) p bytes) ∙ ap (drop (length a)) cut
    ∙ drop_at a (b ++ drop r bytes) (length a) refl in
    record {
      parts = cut ∙ ap (λ (t : List ℕ). a ++ t) (sym rest);
      behind = refl;
      within = omega (arith, whole.behind, whole.within, length-append a b);
    }

pub stands-rest : (bytes a b : List ℕ) (p r : ℕ) → StandsAt bytes p (a ++ b) r → StandsAt bytes (p + length a) b r
stands-rest bytes a b p r whole =
    let cut : drop p bytes ≡ a ++ (b ++ drop r bytes) = whole.parts ∙ append_assoc a b (drop r bytes) in
    record {
      parts = sym (drop-drop (length a) p bytes) ∙ ap (drop (length a)) cut
          ∙ drop_at a (b ++ drop r bytes) (length a) refl;
      behind = omega (arith, whole.behind, length-append a b);
      within = whole.within;
    }

-- what was taken before a whole that is there is the whole's prefix, and the rest follows it
pub taken-front : {V : Type 0} (form : V → List ℕ) (Fits : V → Type 0) (bytes : List ℕ) (p : ℕ) (x : V) (q : ℕ)
    → Takes form Fits bytes p (Some (x, q))
    → (y : V) (rest : List ℕ) (r : ℕ) → Fits y → StandsAt bytes p (form y ++ rest) r → (x ≡ y) × StandsAt bytes q rest r
taken-front form Fits bytes p x q takes y rest r fits stands =
    let same = some_pair_parts x y q (p + length (form y))
    (takes.every y (p + length (form y)) fits (stands-front bytes (form y) rest p r stands)) in
    (same.0, subst (λ (n : ℕ). StandsAt bytes n rest r) (sym same.1) (stands-rest bytes (form y) rest p r stands))

-- nothing was taken, so no value's bytes begin there
pub none-front : {V : Type 0} (form : V → List ℕ) (Fits : V → Type 0) (bytes : List ℕ) (p : ℕ)
    → Takes form Fits bytes p None
    → (y : V) (rest : List ℕ) (r : ℕ) → Fits y → StandsAt bytes p (form y ++ rest) r → ⊥
none-front form Fits bytes p takes y rest r fits stands =
    none-some (y, p + length (form y)) (takes.every y (p + length (form y)) fits
    (stands-front bytes (form y) rest p r stands))

pub none-whole : {V : Type 0} (form : V → List ℕ) (Fits : V → Type 0) (bytes : List ℕ) (p : ℕ)
    → Takes form Fits bytes p None
    → (y : V) (r : ℕ) → Fits y → StandsAt bytes p (form y) r → ⊥
none-whole form Fits bytes p takes y r fits stands = none-some (y, r) (takes.every y r fits stands)

-- a value that is there is the one, where the forms are prefix-free
pub takes_some : {V : Type 0} (form : V → List ℕ) (Fits : V → Type 0) → IsPrefixFree form Fits
    → (bytes : List ℕ) (p : ℕ) (v : V) (next : ℕ) → Fits v → StandsAt bytes p (form v) next
    → Takes form Fits bytes p (Some (v, next))
takes_some {V} form Fits law bytes p v next fits stands = record {
  found = (fits, stands);
  every = λ (w : V) (other : ℕ) fits_w stands_w.
      let same : v ≡ w = (law v w (drop next bytes) (drop other bytes) fits fits_w
      (sym stands.parts ∙ stands_w.parts)).0 in
      let place : next ≡ other = omega (arith, stands.behind, stands_w.behind, ap (λ (x : V). length (form x)) same) in
      cc;
}

pub takes_none : {V : Type 0} (form : V → List ℕ) (Fits : V → Type 0) (bytes : List ℕ) (p : ℕ)
    → ((v : V) (next : ℕ) → Fits v → StandsAt bytes p (form v) next → ⊥)
    → Takes form Fits bytes p None
takes_none form Fits bytes p never = record {
  found = tt;
  every =
      λ v next fits stands. absurd (never v next fits stands);
}

-- the same bytes as a value of another form
pub takes_as : {V W : Type 0} (form : V → List ℕ) (Fits : V → Type 0) (to : W → List ℕ) (Holds : W → Type 0)
    → IsPrefixFree to Holds
    → (bytes : List ℕ) (p : ℕ) (v : V) (w : W) (next : ℕ) → Holds w → form v ≡ to w
    → Takes form Fits bytes p (Some (v, next)) → Takes to Holds bytes p (Some (w, next))
takes_as form Fits to Holds law bytes p v w next holds same takes =
    takes_some to Holds law bytes p w next holds
    (subst (λ (part : List ℕ). StandsAt bytes p part next) same takes.found.1)

pub takes_no : {V W : Type 0} (form : V → List ℕ) (Fits : V → Type 0) (to : W → List ℕ) (Holds : W → Type 0)
    → (bytes : List ℕ) (p : ℕ) → ((w : W) → Holds w → (v : V) × Fits v × (rest : List ℕ)
    × (to w ≡ form v ++ rest)) → Takes form Fits bytes p None → Takes to Holds bytes p None
takes_no {V} {W} form Fits to Holds bytes p begins takes =
    takes_none to Holds bytes p (λ (w : W) (next : ℕ) holds stands.
    let front = begins w holds in
    none-front form Fits bytes p takes front.0 front.2 next front.1
    (subst (λ (part : List ℕ). StandsAt bytes p part next) front.3 stands))

-- lists as long as each other in front of the same list
pub same-fronts : (n : ℕ) (v w a b : List ℕ) → length v ≡ n → length w ≡ n → v ++ a ≡ w ++ b → (v ≡ w) × (a ≡ b)
same-fronts n v w a b long_v long_w same = (
  sym (take_at v a n long_v) ∙ ap (take n) same ∙ take_at w b n long_w,
  sym (drop_at v a n long_v)
      ∙ ap (drop n) same ∙ drop_at w b n long_w,
)

-- a part of bytes has bytes
pub part-fits : (bytes part : List ℕ) (p q : ℕ) → StandsAt bytes p part q → ((i : ℕ) → get_or bytes i 0 < 256)
    → (i : ℕ) → get_or part i 0 < 256
part-fits bytes part p q stands fits i =
    elim (cases_lt i (length part)) [
      | inl below ↦ subst (λ (n : ℕ). n < 256)
          (sym (get_or-drop p bytes i 0) ∙ ap (λ (t : List ℕ). get_or t i 0) stands.parts
          ∙ get_or_append_left part (drop q bytes) 0 i below) (fits (p + i))
      | inr past ↦ rw (get_or_past part i 0 past) (omega arith)
    ]

-- the first bytes of what is left from a place on
pub front-stands : (bytes rest part : List ℕ) (p n : ℕ) → rest ≡ slice_range bytes p (length bytes)
    → p ≤ length bytes → n ≤ length rest → part ≡ take n rest → (length part ≡ n)
    × StandsAt bytes p part (p + n)
front-stands bytes rest part p n is inside enough cut =
    let whole : rest ≡ drop p bytes = is ∙ take_all (length bytes - p) (drop p bytes)
    (omega (arith, length-drop p bytes)) in
    let front : part ≡ take n (drop p bytes) = cut ∙ ap (take n) whole in
    let size : length rest ≡ length bytes - p = ap length whole ∙ length-drop p bytes in
    let long : length part ≡ n = ap length front
    ∙ length-take-le n (drop p bytes) (omega (arith, length-drop p bytes)) in (
      long,
      record {
        parts = sym (take-append-drop n (drop p bytes))
            ∙ ap (λ (t : List ℕ). t ++ drop n (drop p bytes)) (sym front)
            ∙ ap (λ (t : List ℕ). part ++ t) (drop-drop n p bytes);
        behind = omega arith;
        within = omega arith;
      },
    )
  where
    length-take-le : (m : ℕ) (l : List ℕ) → m ≤ length l → length (take m l) ≡ m
    length-take-le m l short = omega (arith, length-take m l)

-- bytes that were appended to leave those before them
pub front-kept : (old mid new more : List ℕ) (n m : ℕ) → n ≡ length old → mid ≡ old ++ more → take m new ≡ mid
    → take n new ≡ old
front-kept old mid new more n m long is kept =
    let whole : new ≡ old ++ (more ++ drop m new) =
    sym (take-append-drop m new) ∙ ap (λ (t : List ℕ). t ++ drop m new) (kept ∙ is)
    ∙ append_assoc old more (drop m new) in
    ap (take n) whole ∙ take_at old (more ++ drop m new) n (sym long)
