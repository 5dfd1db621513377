-- One thing again and again: in parts, and with a count of how often.
use Rattle.std.proofs.Common.{◌≡◌, ℕ, zero, suc, ◌+◌, Bool, true, false, ◌⊎◌, inl, inr, refl, ap, sym, ◌∙◌, arith}
use Rattle.std.specs.Prelude.{if◌then◌else◌}
use Rattle.lsl_post.specs.Told.{Told, as_value, lead, next_to, quiet, until}
use Rattle.lsl_post.proofs.Amid.{lead-lead}

module _ {X : Type 0} (stops : X → Bool) (thing : X → Told X) where
  pub until-stopped : (most : ℕ) (x : X) → stops x ≡ true → until stops thing most x ≡ quiet x
  unfolding until
  until-stopped zero x e = refl
  until-stopped (suc most) x e =
      ap (λ (b : Bool). if b then quiet x else next_to (thing x) (until stops thing most)) e

  -- at most as often as two numbers together: as the first, and then as the second
  pub until-parts : (first second most : ℕ) → most ≡ first + second → (x : X)
      → until stops thing most x ≡ next_to (until stops thing first x) (until stops thing second)
  unfolding until
  until-parts zero second most e x =
      let k : most ≡ second = omega (arith, e) in ap (λ (n : ℕ). until stops thing n x) k
  until-parts (suc first) second most e x =
      let k : most ≡ suc (first + second) = omega (arith, e) in
      ap (λ (n : ℕ). until stops thing n x) k
      ∙ go (stops x) refl (until-parts first second (first + second) refl (thing x).value)
    where
      go : (b : Bool) → stops x ≡ b
          → until stops thing (first + second) (thing x).value
          ≡ next_to (until stops thing first (thing x).value) (until stops thing second)
          → (if b then quiet x else next_to (thing x) (until stops thing (first + second)))
          ≡ next_to (if b then quiet x else next_to (thing x) (until stops thing first)) (until stops thing second)
      go true e more = sym (until-stopped second x e)
      go false e more =
          let y = until stops thing first (thing x).value in
          ap (λ (a : Told X). lead (thing x).entries a) more
          ∙ lead-lead (thing x).entries y.entries (until stops thing second y.value)

  -- and a count of how often
  abbrev pub counting : X × ℕ → Told (X × ℕ)
  counting x = as_value (λ v. (v, x.1 + 1)) (thing x.0)

  abbrev pub counted : ℕ → X × ℕ → Told (X × ℕ)
  counted most x = until {X = X × ℕ} (λ y. stops y.0) counting most x

  -- which changes nothing else
  pub counted-value : (most : ℕ) (x : X × ℕ) → as_value (λ y. y.0) (counted most x) ≡ until stops thing most x.0
  unfolding until
  counted-value zero x = refl
  counted-value (suc most) x = go (stops x.0) (counted-value most (counting x).value) where
    go : (b : Bool)
        → as_value (λ y. y.0) (counted most (counting x).value) ≡ until stops thing most (thing x.0).value
        → as_value (λ (y : X × ℕ). y.0) (if b then quiet x else next_to (counting x) (counted most))
        ≡ (if b then quiet x.0 else next_to (thing x.0) (until stops thing most))
    go true more = refl
    go false more = ap (λ (a : Told X). lead (thing x.0).entries a) more

  abbrev Ends : ℕ → Told (X × ℕ) → Type 0
  Ends total a = (a.value.1 ≡ total) ⊎ (stops a.value.0 ≡ true)

  -- it was done as often as it may be, or stopped
  pub counted-ends : (most total : ℕ) (x : X × ℕ) → total ≡ x.1 + most → Ends total (counted most x)
  unfolding until
  counted-ends zero total x e = inl (omega (arith, e))
  counted-ends (suc most) total x e =
      go (stops x.0) refl (counted-ends most total (counting x).value (omega (arith, e)))
    where
      go : (b : Bool) → stops x.0 ≡ b → Ends total (counted most (counting x).value)
          → Ends total (if b then quiet x else next_to (counting x) (counted most))
      go true e more = inr e
      go false e more = more
