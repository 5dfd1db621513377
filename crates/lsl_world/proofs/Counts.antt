-- No step but a crossing changes a world's objects, other than their stores and their prims' names, or the number of
-- its scripts.
use Rattle.std.proofs.Common.{◌≡◌, ℕ, zero, suc, ◌-◌, Bool, false, List, [], ◌∷◌, length, get_or, refl, ap}
use Rattle.std.specs.Prelude.{Option, Some, None, map, max, min, slice_get, slice_set}
use Rattle.std.proofs.Math.ListN.{length-set}
use Rattle.lsl_running.specs.declared.host.Reply.{Reply}
use Rattle.lsl_post.specs.declared.events.Event.{Event}
use Rattle.lsl_post.specs.declared.parts.Pair.{Pair}
use Rattle.lsl_post.specs.Told.{Told}
use Rattle.lsl_script.specs.Rules.{Rules}
use Rattle.lsl_script.specs.Scripts.{Script}
use Rattle.lsl_region.specs.declared.objects.Linkset.{Linkset}
use Rattle.lsl_region.specs.declared.objects.Primitive.{Primitive}
use Rattle.lsl_region.specs.Answers.{with_mailed, with_name, with_store}
use Rattle.lsl_region.specs.Grids.{without_names}
use Rattle.lsl_region.specs.Posting.{post_all, post_where, ring_at}
use Rattle.lsl_region.specs.Segments.{turn}
use Rattle.lsl_region.specs.Worlds.{Member, World, at_member, changed_at, no_object}
use Rattle.lsl_region.proofs.Outlines.{named-nameless}
use Rattle.lsl_lines.specs.declared.file.Step.{Step}
use Rattle.lsl_lines.specs.declared.file.Step.TheVariants.{Clock, Say, Touch, Changed, Rez, Go, Run, Pause, Cross}
use Rattle.lsl_world.proofs.Keeping.{IsKept, each-keeps, touch-keeps, turn-kept, until-keeps}
use Rattle.lsl_world.specs.Steps.{next, round_or_last, rounds, turn_in}

-- the objects without their stores and their prims' names, and the number of scripts
abbrev pub outline : World → List Linkset × ℕ
outline w = (map without_names w.objects, length w.members)

-- where this many scripts are there
abbrev among : World → ℕ → List Linkset × ℕ
among w scripts = (map without_names w.objects, scripts)

member-keeps : (place : ℕ) (thing : Member → Told Script) (w : World) → outline (at_member place thing w).value
    ≡ outline w
member-keeps place thing w = go (slice_get w.members place) where
  go : (o : Option Member) → outline (changed_at place thing w o).value ≡ outline w
  go None = refl
  go (Some m) = ap (among w) (length-set w.members place (record m { script = (thing m).value }))

mailed-keeps : (place : ℕ) (m : Member) (done : Script × Reply) (w : World)
    → outline (with_mailed place m done w).value.0 ≡ outline w
mailed-keeps place m done w =
    ap (among w) (length-set w.members place (record m { script = done.0 }))

pub post-keeps : (r : Rules) (test : World → Member → Bool) (e : Event) (w : World)
    → outline (post_all r test e w).value ≡ outline w
post-keeps r test e w =
    each-keeps outline (post_where r test e) (λ n x. member-keeps n _ x) (length w.members) 0 w

-- an item is replaced by one that agrees in this
pub set-keeps : {X Y : Type 0} (f : X → Y) (xs : List X) (k : ℕ) (y d : X) → f y ≡ f (get_or xs k d)
    → map f (slice_set xs k y) ≡ map f xs
set-keeps f [] k y d e = refl
set-keeps f (x ∷ xs) zero y d e = ap (λ z. z ∷ map f xs) e
set-keeps f (x ∷ xs) (suc k) y d e = ap (λ zs. f x ∷ zs) (set-keeps f xs k y d e)

-- a prim has another name
named-keeps : (objects : List Linkset) (k : ℕ) (prim : ℕ) (name : List ℕ)
    → map without_names (slice_set objects k
    (record (get_or objects k no_object) { prims = with_name (get_or objects k no_object).prims prim name }))
    ≡ map without_names objects
named-keeps objects k prim name =
    let o : Linkset = get_or objects k no_object in
    set-keeps without_names objects k (record o { prims = with_name o.prims prim name }) no_object
    (ap (λ (prims : List Primitive).
    let named : Linkset = record { owner = o.owner; region = o.region; prims = prims; store = [] } in named)
    (named-nameless o.prims prim name))

-- an object has another store
store-keeps : (m : Member) (pairs : List Pair) (w : World) → outline (with_store w m pairs) ≡ outline w
store-keeps m pairs w =
    let o : Linkset = get_or w.objects m.object no_object in
    ap (λ (os : List Linkset). let kept : List Linkset × ℕ = (os, length w.members) in kept)
    (set-keeps without_names w.objects m.object (record o { store = pairs }) no_object refl)

-- so a turn keeps it
outline-kept : (place : ℕ) → IsKept outline place
outline-kept place = record {
  own = λ thing code w. member-keeps place thing w;
  mail = λ m done w at code. mailed-keeps place m done w;
  left = post-keeps;
  named = λ m name w. ap (λ (os : List Linkset). let kept : List Linkset × ℕ = (os, length w.members) in kept)
      (named-keeps w.objects m.object m.prim name);
  store = store-keeps;
}

pub turn-keeps : (r : Rules) (most place : ℕ) (w : World) → outline (turn r most place w).value.0 ≡ outline w
turn-keeps r most place w = turn-kept outline r place (outline-kept place) most w

turn_in-keeps : (r : Rules) (place : ℕ) (x : World × ℕ) → outline (turn_in r place x).value.0 ≡ outline x.0
turn_in-keeps r place x = turn-keeps r (min 8 x.1) place x.0

round-keeps : (r : Rules) (x : World × (ℕ × Bool)) → outline (round_or_last r x).value.0 ≡ outline x.0
round-keeps r x =
    each-keeps {X = World × ℕ} (λ y. outline y.0) (turn_in r) (turn_in-keeps r) (length x.0.members) 0 (x.0, x.1.0)

rounds-keep : (r : Rules) (most : ℕ) (w : World) → outline (rounds r most w).value ≡ outline w
rounds-keep r most w =
    until-keeps {X = World × (ℕ × Bool)} (λ x. outline x.0) (λ x. x.1.1) (round_or_last r) (round-keeps r) most
    (w, (most, false))

-- every step but a crossing
abbrev pub IsHere : Step → Type 0
IsHere (Cross object region) = ⊥
IsHere step = Unit {0}

pub next-keeps : (r : Rules) (step : Step) → IsHere step → (w : World) → outline (next r step w).value ≡ outline w
next-keeps r (Clock time) here w =
    each-keeps outline (ring_at r) (λ n x. member-keeps n _ x) (length w.members) 0
    (record w { clock = max w.clock time })
next-keeps r (Say channel name key text) here w = post-keeps r _ _ w
next-keeps r (Touch object link key name) here w = touch-keeps outline post-keeps r (object - 1) _ key name w
next-keeps r (Changed object flags) here w = post-keeps r _ _ w
next-keeps r (Rez object n) here w = post-keeps r _ _ w
next-keeps r (Go script most) here w = turn-keeps r most (script - 1) w
next-keeps r (Run most) here w = rounds-keep r most w
next-keeps r (Pause gaps) here w = refl
next-keeps r (Cross object region) here w = absurd here
