-- Stores, which version 1 doesn't have.
use Rattle.std.proofs.Common.{◌≡◌, ◌≢◌, refl, sym, subst, ℕ, cond, List, [], Bool, eq-eqb, ne_eqb}
use Rattle.lsl_post.specs.declared.parts.Pair.{Pair}
use Rattle.lsl_image.specs.Layout.{Layout, Ends, U16, ◌>>=◌, field, grown}
use Rattle.lsl_image.specs.Object.{pair_behind, store}
use Rattle.lsl_image.specs.Reading.{Gives}
use Rattle.lsl_image.specs.Leading.{Leads}
use Rattle.lsl_image.proofs.LeadingLemmas.{leads-all}

abbrev counted : Layout (List Pair)
counted = field U16 >>= λ count. grown count pair_behind []

module _ (bytes : List ℕ) (version p : ℕ) where
  pub store-none : (pairs : List Pair) → version ≡ 1 → pairs ≡ [] → Gives bytes (store version) p pairs p
  unfolding store
  store-none pairs one none =
      subst (λ (b : Bool). Gives bytes (cond b (Ends []) counted) p pairs p) (sym (eq-eqb version 1 one)) (none, refl)

  pub store-some : version ≢ 1
      → Leads bytes (field U16 >>= λ count. grown count pair_behind []) p (λ ps. ps) (store version) p
  unfolding store
  store-some other =
      subst (λ (b : Bool). Leads bytes counted p (λ ps. ps) (cond b (Ends []) counted) p) (sym (ne_eqb version 1 other))
      (leads-all bytes counted p)
