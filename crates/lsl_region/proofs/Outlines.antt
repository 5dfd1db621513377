-- What of a grid stays where a script, a prim's name or a store is another one.
use Rattle.std.proofs.Common.{◌≡◌, ℕ, zero, suc, List, [], ◌∷◌, length, map, refl, ap, sym, ◌∙◌}
use Rattle.std.specs.Prelude.{Some, slice_get, slice_set}
use Rattle.std.proofs.lemmas.List.{length-map}
use Rattle.lsl_post.specs.declared.parts.Pair.{Pair}
use Rattle.lsl_region.specs.declared.grid.Seat.{Seat}
use Rattle.lsl_region.specs.declared.objects.Linkset.{Linkset}
use Rattle.lsl_region.specs.declared.objects.Primitive.{Primitive}
use Rattle.lsl_region.specs.Answers.{with_name}
use Rattle.lsl_region.specs.Grids.{Contents, nameless, outline_of, vacant, without_names}

-- an item is replaced by one that agrees in this
pub map-set_same : {X Y : Type 0} (f : X → Y) (xs : List X) (n : ℕ) (x y : X) → slice_get xs n ≡ Some x → f y ≡ f x
    → map f (slice_set xs n y) ≡ map f xs
map-set_same f [] n x y at same = absurd cc
map-set_same f (z ∷ xs) zero x y at same =
    let is : z ≡ x = cc in
    ap (λ u. u ∷ map f xs) (same ∙ ap f (sym is))
map-set_same f (z ∷ xs) (suc n) x y at same = ap (λ l. f z ∷ l) (map-set_same f xs n x y at same)

pub named-nameless : (prims : List Primitive) (place : ℕ) (name : List ℕ)
    → map nameless (with_name prims place name) ≡ map nameless prims
named-nameless [] place name = refl
named-nameless (p ∷ prims) zero name = refl
named-nameless (p ∷ prims) (suc place) name = ap (λ l. nameless p ∷ l) (named-nameless prims place name)

-- a seat has another script
pub outline-seated : (grid : Contents) (n : ℕ) (seat t : Seat) → slice_get grid.seats n ≡ Some seat
    → vacant t ≡ vacant seat
    → outline_of (record { objects = grid.objects; seats = slice_set grid.seats n t; cards = grid.cards })
    ≡ outline_of grid
unfolding outline_of
outline-seated grid n seat t at same =
    ap {A = List Seat} {B = Contents} (λ seats. record {
      objects = map without_names grid.objects;
      seats = seats;
      cards = grid.cards;
    })
    (map-set_same vacant grid.seats n seat t at same)

-- a prim has another name
pub outline-named : (grid : Contents) (n : ℕ) (o : Linkset) (prim : ℕ) (name : List ℕ)
    → slice_get grid.objects n ≡ Some o
    → outline_of (record {
      objects = slice_set grid.objects n (record o { prims = with_name o.prims prim name });
      seats = grid.seats;
      cards = grid.cards;
    }) ≡ outline_of grid
unfolding outline_of
outline-named grid n o prim name at =
    ap {A = List Linkset} {B = Contents} (λ objects. record {
      objects = objects;
      seats = map vacant grid.seats;
      cards = grid.cards;
    })
    (map-set_same without_names grid.objects n o (record o { prims = with_name o.prims prim name }) at
    (ap {A = List Primitive} {B = Linkset} (λ prims. record {
      owner = o.owner;
      region = o.region;
      prims = prims;
      store = [];
    })
    (named-nameless o.prims prim name)))

-- an object has another store
pub outline-stored : (grid : Contents) (n : ℕ) (o : Linkset) (pairs : List Pair) → slice_get grid.objects n ≡ Some o
    → outline_of (record {
      objects = slice_set grid.objects n (record o { store = pairs });
      seats = grid.seats;
      cards = grid.cards;
    }) ≡ outline_of grid
unfolding outline_of
outline-stored grid n o pairs at =
    ap {A = List Linkset} {B = Contents} (λ objects. record {
      objects = objects;
      seats = map vacant grid.seats;
      cards = grid.cards;
    })
    (map-set_same without_names grid.objects n o (record o { store = pairs }) at refl)

pub outline-seats : (old new : Contents) → outline_of new ≡ outline_of old → map vacant new.seats ≡ map vacant old.seats
unfolding outline_of
outline-seats old new e = ap (λ (g : Contents). g.seats) e

pub outline-objects : (old new : Contents) → outline_of new ≡ outline_of old
    → map without_names new.objects ≡ map without_names old.objects
unfolding outline_of
outline-objects old new e = ap (λ (g : Contents). g.objects) e

-- as many scripts, and as many objects with as many prims
pub outline-scripts : (old new : Contents) → outline_of new ≡ outline_of old
    → length new.seats ≡ length old.seats
outline-scripts old new e =
    sym (length-map new.seats vacant) ∙ ap (λ (l : List Seat). length l) (outline-seats old new e)
    ∙ length-map old.seats vacant

nameless-count : (prims : List Primitive) → length (map nameless prims) ≡ length prims
nameless-count prims = length-map prims nameless

pub prims-counted : (objects : List Linkset)
    → map (λ (o : Linkset). length o.prims) (map without_names objects) ≡ map (λ (o : Linkset). length o.prims) objects
prims-counted [] = refl
prims-counted (o ∷ objects) =
    ap (λ (n : ℕ). n ∷ map (λ (o : Linkset). length o.prims) (map without_names objects)) (nameless-count o.prims)
    ∙ ap (λ (l : List ℕ). length o.prims ∷ l) (prims-counted objects)

pub outline-prims : (old new : Contents) → outline_of new ≡ outline_of old
    → map (λ (o : Linkset). length o.prims) new.objects ≡ map (λ (o : Linkset). length o.prims) old.objects
outline-prims old new e =
    sym (prims-counted new.objects) ∙ ap (map (λ (o : Linkset). length o.prims)) (outline-objects old new e)
    ∙ prims-counted old.objects

-- the seat at a place is the one that was there, except its script
pub vacant-read : (old new : List Seat) (n : ℕ) (seat : Seat) → map vacant new ≡ map vacant old
    → slice_get old n ≡ Some seat → (t : Seat) × (slice_get new n ≡ Some t) × (vacant t ≡ vacant seat)
vacant-read [] new n seat e at = absurd cc
vacant-read (x ∷ xs) [] n seat e at = absurd cc
vacant-read (x ∷ xs) (y ∷ ys) zero seat e at =
    let heads : vacant y ≡ vacant x = cc in
    let is : x ≡ seat = cc in
    (y, refl, heads ∙ ap vacant is)
vacant-read (x ∷ xs) (y ∷ ys) (suc n) seat e at =
    let tails : map vacant ys ≡ map vacant xs = cc in vacant-read xs ys n seat tails at

pub outline-cards : (old new : Contents) → outline_of new ≡ outline_of old → new.cards ≡ old.cards
unfolding outline_of
outline-cards old new e = ap (λ (g : Contents). g.cards) e
