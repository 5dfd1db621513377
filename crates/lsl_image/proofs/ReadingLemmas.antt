-- Layouts read one after another.
use Rattle.std.proofs.Common.{refl, subst, inl, inr, ℕ, List, Result, Ok, Err}
use Rattle.lsl_text.specs.declared.Refusal.{Refusal}
use Rattle.lsl_text.specs.declared.Refusal.TheVariants.{Fault, NoMemory}
use Rattle.lsl_image.specs.declared.faults.ImageFault.{ImageFault}
use Rattle.lsl_image.specs.Layout.{Layout, Ends, Refused, Here, Field, ◌>>=◌}
use Rattle.lsl_image.specs.Reading.{Faults, Gives, Reads}

pub gives-then : {A B : Type 0} (bytes : List ℕ) (l : Layout A) (f : A → Layout B) (p : ℕ) (x : A) (q : ℕ)
    (y : B) (r : ℕ) → Gives bytes l p x q → Gives bytes (f x) q y r → Gives bytes (l >>= f) p y r
unfolding ◌>>=◌
gives-then {A} {B} bytes (Ends a) f p x q y r g h =
    let at : Gives bytes (f a) q y r = subst (λ (v : A). Gives bytes (f v) q y r) g.0 h in
    subst (λ (n : ℕ). Gives bytes (f a) n y r) g.1 at
gives-then bytes (Refused fault) f p x q y r g h = absurd g
gives-then bytes (Here next) f p x q y r g h = gives-then bytes (next p) f p x q y r g h
gives-then bytes (Field form next) f p x q y r g h = (g.0, g.1, g.2, gives-then bytes (next g.0) f g.1 x q y r g.3 h)

pub faults-then : {A B : Type 0} (bytes : List ℕ) (l : Layout A) (f : A → Layout B) (p : ℕ) (x : A) (q : ℕ)
    (fault : ImageFault) → Gives bytes l p x q → Faults bytes (f x) q fault → Faults bytes (l >>= f) p fault
unfolding ◌>>=◌
faults-then {A} {B} bytes (Ends a) f p x q fault g h =
    let at : Faults bytes (f a) q fault = subst (λ (v : A). Faults bytes (f v) q fault) g.0 h in
    subst (λ (n : ℕ). Faults bytes (f a) n fault) g.1 at
faults-then bytes (Refused wrong) f p x q fault g h = absurd g
faults-then bytes (Here next) f p x q fault g h = faults-then bytes (next p) f p x q fault g h
faults-then bytes (Field form next) f p x q fault g h =
    inr (g.0, g.1, g.2, faults-then bytes (next g.0) f g.1 x q fault g.3 h)

pub faults-first : {A B : Type 0} (bytes : List ℕ) (l : Layout A) (f : A → Layout B) (p : ℕ)
    (fault : ImageFault) → Faults bytes l p fault → Faults bytes (l >>= f) p fault
unfolding ◌>>=◌
faults-first bytes (Ends a) f p fault g = absurd g
faults-first bytes (Refused wrong) f p fault g = g
faults-first bytes (Here next) f p fault g = faults-first bytes (next p) f p fault g
faults-first bytes (Field form next) f p fault (inl none) = inl none
faults-first bytes (Field form next) f p fault (inr g) =
    inr (g.0, g.1, g.2, faults-first bytes (next g.0) f g.1 fault g.3)

-- the first was read, and then the rest
pub reads-then : {A B : Type 0} (bytes : List ℕ) (l : Layout A) (f : A → Layout B) (p : ℕ) (x : A) (q : ℕ)
    (r : Result (B × ℕ) (Refusal ImageFault)) → Gives bytes l p x q → Reads bytes (f x) q r
    → Reads bytes (l >>= f) p r
reads-then bytes l f p x q (Ok y) g h = gives-then bytes l f p x q y.0 y.1 g h
reads-then bytes l f p x q (Err (Fault fault)) g h = faults-then bytes l f p x q fault g h
reads-then bytes l f p x q (Err NoMemory) g h = tt

-- the first couldn't be read
pub reads-err : {A B : Type 0} (bytes : List ℕ) (l : Layout A) (f : A → Layout B) (p : ℕ)
    (e : Refusal ImageFault) → Reads bytes l p (Err e) → Reads bytes (l >>= f) p (Err e)
reads-err bytes l f p (Fault fault) g = faults-first bytes l f p fault g
reads-err bytes l f p NoMemory g = tt

-- what one layout after another gives, both give
pub gives-split : {A B : Type 0} (bytes : List ℕ) (l : Layout A) (f : A → Layout B) (p : ℕ) (y : B) (r : ℕ)
    → Gives bytes (l >>= f) p y r → (x : A) × (q : ℕ) × Gives bytes l p x q × Gives bytes (f x) q y r
unfolding ◌>>=◌
gives-split bytes (Ends a) f p y r g = (a, p, (refl, refl), g)
gives-split bytes (Refused fault) f p y r g = absurd g
gives-split bytes (Here next) f p y r g = gives-split bytes (next p) f p y r g
gives-split bytes (Field form next) f p y r g =
    let rest = gives-split bytes (next g.0) f g.1 y r g.3 in
    (rest.0, rest.1, (g.0, g.1, g.2, rest.2), rest.3)

-- the first fault is the first layout's, where the other has none
pub faults-split : {A B : Type 0} (bytes : List ℕ) (l : Layout A) (f : A → Layout B) (p : ℕ)
    (fault : ImageFault) → ((x : A) (q : ℕ) → Faults bytes (f x) q fault → ⊥) → Faults bytes (l >>= f) p fault
    → Faults bytes l p fault
unfolding ◌>>=◌
faults-split bytes (Ends a) f p fault never g = absurd (never a p g)
faults-split bytes (Refused wrong) f p fault never g = g
faults-split bytes (Here next) f p fault never g = faults-split bytes (next p) f p fault never g
faults-split bytes (Field form next) f p fault never (inl none) = inl none
faults-split bytes (Field form next) f p fault never (inr g) =
    inr (g.0, g.1, g.2, faults-split bytes (next g.0) f g.1 fault never g.3)
