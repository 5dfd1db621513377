-- What is known of the shelf below, after the one over it was passed on.
use Rattle.std.proofs.Common.{◌≡◌, ℕ, ◌≤◌, ◌==◌, List, [], ◌∷◌, Option, Some, None, ap, refl, if◌then◌else◌, arith}
use Rattle.std.specs.Prelude.{unwrap_or}
use Rattle.std.proofs.lemmas.Bool.Decides.{nat_tests}
use Rattle.lsl_ports.specs.Counts.{NoneFell}
use Rattle.lsl_ports.specs.Shelf.{Files}
use Rattle.lsl_trace.specs.Copies.{faults_over, files_over, held_over}
use Rattle.lsl_trace.specs.declared.copies.Replaced.{Replaced}

only-its-own : (number other : ℕ) → (if number == number then 1 else 0) ≤ (if number == other then 1 else 0)
    → other ≡ number
only-its-own number other h = grind (arith, nat_tests)

module _ (number other : ℕ) (old new : List ℕ → ℕ) (h : NoneFell (faults_over number old) (faults_over other new)) where
  pub same-number : other ≡ number
  same-number = only-its-own number other (h (256 ∷ 1 ∷ number ∷ []))

  pub none-fell-below : NoneFell old new
  none-fell-below name = h (256 ∷ 0 ∷ name)

files-below : (all others : List Replaced) (old new : Files) → files_over others new ≡ files_over all old → new ≡ old
files-below all others old new e =
    let below : Files → Files = λ files name. files (256 ∷ name) in
    ap below e

pub held-below : (all others : List Replaced) (old new : Option Files) → held_over others new ≡ held_over all old
    → new ≡ old
held-below all others None None e = refl
held-below all others None (Some new) e = absurd (cc)
held-below all others (Some old) None e = absurd (cc)
held-below all others (Some old) (Some new) e =
    ap Some (files-below all others old new (ap (λ (o : Option Files). unwrap_or o (files_over others new)) e))
