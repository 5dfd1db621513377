-- One thing more at the end of a list.
use Rattle.std.proofs.Common.{◌≡◌, ℕ, zero, suc, ◌<◌, List, [], ◌∷◌, ◌++◌, length, subst, arith, length-append}
use Rattle.std.specs.Prelude.{Some, slice_get}
use Rattle.lsl_region.specs.declared.grid.Seat.{Seat}
use Rattle.lsl_region.specs.declared.objects.Linkset.{Linkset}
use Rattle.lsl_region.specs.Grids.{ArePlaced, IsFormed, IsPlaced}

-- what holds of all items and of one more
pub all-more : {X : Type 0} (P : X → Type 0) (xs : List X) (y : X)
    → ((n : ℕ) (x : X) → slice_get xs n ≡ Some x → P x) → P y
    → (n : ℕ) (x : X) → slice_get (xs ++ y ∷ []) n ≡ Some x → P x
all-more P [] y all one zero x e = let k : y ≡ x = cc in subst P k one
all-more P [] y all one (suc n) x e = absurd cc
all-more P (z ∷ xs) y all one zero x e = all 0 x e
all-more P (z ∷ xs) y all one (suc n) x e = all-more P xs y (λ k. all (suc k)) one n x e

-- what was there is there
pub get-more : {X : Type 0} (xs : List X) (y : X) (n : ℕ) (x : X) → slice_get xs n ≡ Some x
    → slice_get (xs ++ y ∷ []) n ≡ Some x
get-more [] y n x e = absurd cc
get-more (z ∷ xs) y zero x e = e
get-more (z ∷ xs) y (suc n) x e = get-more xs y n x e

-- one object more
pub placed-more : (objects : List Linkset) (seats : List Seat) (o : Linkset) → ArePlaced objects seats
    → length objects < 64 → IsFormed o → ArePlaced (objects ++ o ∷ []) seats
placed-more objects seats o p room one = record {
  few_objects = omega (arith, length-append objects (o ∷ []));
  formed = λ n x e. all-more IsFormed objects o p.formed one n x e;
  few_seats = p.few_seats;
  placed = λ n s e. let q = p.placed n s e in
      record { object = q.object; there = get-more objects o s.object q.object q.there; prim = q.prim };
}

-- one script more
pub placed-seat : (objects : List Linkset) (seats : List Seat) (s : Seat) → ArePlaced objects seats
    → length seats < 256 → IsPlaced objects s → ArePlaced objects (seats ++ s ∷ [])
placed-seat objects seats s p room one = record {
  few_objects = p.few_objects;
  formed = p.formed;
  few_seats = omega (arith, length-append seats (s ∷ []));
  placed = λ n x e. all-more (λ (z : Seat). IsPlaced objects z) seats s p.placed one n x e;
}
