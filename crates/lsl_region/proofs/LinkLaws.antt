-- Whom a link number means.
use Rattle.std.proofs.Common.{◌≡◌, ◌≢◌, ℕ, ◌+◌, ◌-◌, ◌<◌, ◌≤◌, ◌⊎◌, inl, inr, Bool, true, false, refl, sym, ap, arith}
use Rattle.std.specs.Prelude.{not, nat_eq, nat_le, if◌then◌else◌, Some, None}
use Rattle.std.proofs.lemmas.Bool.{leb-true, le-leb, eqb-true, eq-eqb}
use Rattle.std.proofs.lemmas.Bool.Decides.{nat_tests}
use Rattle.lsl_region.specs.LinkLaws.{ChildrenAreAllButTheRoot, NumbersMeanTheirPrim, OthersAreAllButTheSender, PrimsAreNumbered, ThisIsTheSender}
use Rattle.lsl_region.specs.Links.{is_this}

eq-self : (n : ℕ) → nat_eq n n ≡ true
eq-self n = eq-eqb n n refl

eq-other : (n m : ℕ) → n ≢ m → nat_eq n m ≡ false
eq-other n m e = go (nat_eq n m) refl where
  go : (b : Bool) → nat_eq n m ≡ b → b ≡ false
  go true h = absurd (e (eqb-true n m h))
  go false h = refl

pub prims-numbered : PrimsAreNumbered
prims-numbered = (
  refl,
  λ count place several.
      let e : nat_eq count 1 ≡ false = eq-other count 1 (λ k. omega (arith, k, several)) in
      ap (λ (b : Bool). if b then 0 else place + 1) e,
)

pub others-mean : OthersAreAllButTheSender
others-mean count sender place = (ap not (eq-self sender), λ e. ap not (eq-other place sender e))

pub children-mean : ChildrenAreAllButTheRoot
children-mean count sender place = (refl, λ h. grind (arith, nat_tests, h))

pub this-means : ThisIsTheSender
this-means count sender place = (eq-self sender, λ e. eq-other place sender e)

pub numbers-mean : NumbersMeanTheirPrim
numbers-mean count sender n place within = go (nat_le n 1) (nat_le n count) (nat_eq count 1) refl refl refl where
  Means : Bool → Bool → Bool → Type 0
  Means a b c =
      (is_this (if a then Some 0 else (if b then Some (n - 1) else None)) place ≡ true
      → (n ≡ (if c then 0 else place + 1)) ⊎ ((place ≡ 0) × (n ≤ 1)))
      × ((n ≡ (if c then 0 else place + 1)) ⊎ ((place ≡ 0) × (n ≤ 1))
      → is_this (if a then Some 0 else (if b then Some (n - 1) else None)) place ≡ true)

  low : nat_le n 1 ≡ true → n ≤ 1
  low a = leb-true n 1 a

  high : nat_le n 1 ≡ false → 1 < n
  high a = grind (arith, nat_tests, a)

  root : (c : Bool) → nat_eq count 1 ≡ c → nat_le n 1 ≡ true
      → (n ≡ (if c then 0 else place + 1)) ⊎ ((place ≡ 0) × (n ≤ 1)) → place ≡ 0
  root true e a h = let k = eqb-true count 1 e in omega (arith, k, within)
  root false e a (inl h) = omega (arith, h, low a)
  root false e a (inr h) = h.0

  here : (c : Bool) → nat_eq count 1 ≡ c → nat_le n 1 ≡ false
      → (n ≡ (if c then 0 else place + 1)) ⊎ ((place ≡ 0) × (n ≤ 1)) → n - 1 ≡ place
  here true e a (inl h) = absurd (omega (arith, h, high a))
  here true e a (inr h) = absurd (omega (arith, h.1, high a))
  here false e a (inl h) = omega (arith, h)
  here false e a (inr h) = absurd (omega (arith, h.1, high a))

  number : (c : Bool) → nat_eq count 1 ≡ c → nat_le n 1 ≡ false → nat_le n count ≡ true → n - 1 ≡ place
      → n ≡ (if c then 0 else place + 1)
  number true e a b h = let k = eqb-true count 1 e in absurd (omega (arith, k, leb-true n count b, high a))
  number false e a b h = omega (arith, h, high a)

  go : (a b c : Bool) → nat_le n 1 ≡ a → nat_le n count ≡ b → nat_eq count 1 ≡ c → Means a b c
  go true b c a' b' c' = (
    λ h. inr (sym (eqb-true 0 place h), low a'),
    λ h. eq-eqb 0 place (sym (root c c' a' h)),
  )
  go false true c a' b' c' = (
    λ h. inl (number c c' a' b' (eqb-true (n - 1) place h)),
    λ h. eq-eqb (n - 1) place (here c c' a' h),
  )
  go false false c a' b' c' = (
    λ h. absurd cc,
    λ h. let k = here c c' a' h in
        let over : n ≤ count = omega (arith, k, within, high a') in
        let yes : nat_le n count ≡ true = le-leb n count over in
        absurd cc,
  )
