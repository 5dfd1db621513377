-- A world in memory whose grid was changed.
use Rattle.std.proofs.Common.{◌≡◌, ℕ, ◌-◌, ◌<◌, ◌≤◌, List, [], ◌++◌, length, map, refl, ap, sym, subst, ◌∙◌, append-nil}
use Rattle.std.specs.Prelude.{None, Result, Ok, Err, OnOk}
use Rattle.lsl_tree.specs.Program.{Program}
use Rattle.lsl_post.specs.declared.entries.Entry.{Entry}
use Rattle.lsl_post.specs.Due.{Puts}
use Rattle.lsl_post.specs.Journal.{Part, Tells}
use Rattle.lsl_post.specs.Told.{Told}
use Rattle.lsl_post.specs.Timing.{Timing, latest_clock}
use Rattle.lsl_region.specs.Grids.{AreSeated, Contents, Stands, outline_of}
use Rattle.lsl_region.specs.Pausing.{Cursor}
use Rattle.lsl_region.specs.Worlds.{World as SourceWorld}
use Rattle.lsl_region.proofs.Outlines.{outline-prims, outline-scripts}
use Rattle.lsl_world.specs.declared.world.World.{World}
use Rattle.lsl_world.specs.Sizes.{HasNumber, Size}
use Rattle.lsl_world.specs.Sound.{IsSound}
use Rattle.lsl_world.specs.Stands.{IsOf, prims_of, size_of}
use Rattle.lsl_world.specs.Timers.{AreNumbered, IsIndexOf, due_of, timings_of}
use Rattle.lsl_world.proofs.Indexing.{due-apart, index-put}
use Rattle.lsl_world.proofs.Timings.{others}

abbrev pub with_grid : World → Contents → World
with_grid world grid = record world { grid = grid }

module _ {T E : Type 0} (programs : List Program) (world : World) (w : SourceWorld) (is : IsOf programs world w)
    (grid : Contents) (old now : List Entry) where
  pub changed : (r : Result T E) (a : Told SourceWorld) → timings_of a.value ≡ timings_of w
      → OnOk r (AreSeated world.units grid.seats)
      → Tells r (λ v _. Stands world.units None world.clock grid v) old now a
      → Tells r (λ v _. IsOf programs (with_grid world grid) v) old now a
  changed (Ok t) a same seated told = (
    record {
      runs = is.runs;
      seated = seated;
      timely = is.timely;
      stands = told.0;
      index = subst (λ (ts : List Timing). IsIndexOf ts world.due) (sym same) is.index;
    },
    told.1,
  )
  changed (Err e) a same seated told = told

-- a turn also counts, and its script's due time is put
abbrev pub with_turn : World → Contents → Cursor → List (ℕ × ℕ) → World
with_turn world grid pause due = record world { grid = grid; pause = pause; due = due }

module _ (programs : List Program) (world : World) (w : SourceWorld) (is : IsOf programs world w)
    (grid : Contents) (pause : Cursor) (due : List (ℕ × ℕ)) where
  pub turned : (number : ℕ) (v : SourceWorld) → 0 < number → AreSeated world.units grid.seats
      → Stands world.units None world.clock grid v → others (number - 1) v ≡ others (number - 1) w
      → Puts number (due_of (timings_of v) number) world.due due
      → IsOf programs (with_turn world grid pause due) v
  turned number v some seated stands same puts = record {
    runs = is.runs;
    seated = seated;
    timely = is.timely;
    stands = stands;
    index = index-put (timings_of w) (timings_of v) number world.due due
        (due-apart (timings_of w) (timings_of v) number some same) is.index puts;
  }

-- the clock is read
pub later : (programs : List Program) (world : World) (w : SourceWorld) (clock : ℕ) → IsOf programs world w
    → clock ≤ latest_clock → IsOf programs (record world { clock = clock })
    (record w { clock = clock })
later programs world w clock is timely = record {
  runs = is.runs;
  seated = is.seated;
  timely = timely;
  stands = record {
    time = refl;
    objects = is.stands.objects;
    cards = is.stands.cards;
    seats = is.stands.seats;
    scripts = is.stands.scripts;
  };
  index = is.index;
}

-- as many objects, prims and scripts
pub size-kept : (world : World) (grid : Contents) → outline_of grid ≡ outline_of world.grid
    → size_of (with_grid world grid) ≡ size_of world
size-kept world grid e =
    ap {A = ℕ} {B = Size} (λ n. record { prims = map prims_of grid.objects; scripts = n })
    (outline-scripts world.grid grid e)
    ∙ ap {A = List ℕ} {B = Size} (λ prims. record { prims = prims; scripts = length world.grid.seats })
    (outline-prims world.grid grid e)

pub numbered-kept : (world : World) (grid : Contents) (due : List (ℕ × ℕ))
    → outline_of grid ≡ outline_of world.grid → AreNumbered (length world.grid.seats) due
    → AreNumbered (length grid.seats) due
numbered-kept world grid due e are =
    subst (λ (n : ℕ). AreNumbered n due) (sym (outline-scripts world.grid grid e)) are

pub number-kept : (world : World) (grid : Contents) (number : ℕ) → outline_of grid ≡ outline_of world.grid
    → HasNumber (length world.grid.seats) number → HasNumber (length grid.seats) number
number-kept world grid number e has =
    subst (λ (n : ℕ). HasNumber n number) (sym (outline-scripts world.grid grid e)) has

pub sound-kept : {T E : Type 0} (world : World) (grid : Contents) (r : Result T E) → IsSound world
    → outline_of grid ≡ outline_of world.grid → OnOk r (AreSeated world.units grid.seats)
    → OnOk r (IsSound (with_grid world grid))
sound-kept world grid (Ok t) is e seated = record {
  seated = seated;
  timely = is.timely;
  numbered = numbered-kept world grid world.due e is.numbered;
}
sound-kept world grid (Err e) is same seated = tt

pub sound-later : (world : World) (clock : ℕ) → IsSound world → clock ≤ latest_clock
    → IsSound (record world { clock = clock })
sound-later world clock is timely = record { seated = is.seated; timely = timely; numbered = is.numbered }

-- all entries are a part of them
pub part-all : (old now entries : List Entry) → now ≡ old ++ entries → Part old now entries
part-all old now entries e = record { added = entries; missing = []; now = e; all = append-nil entries }

-- what holds anyhow
pub on-ok : {T E P : Type 0} (r : Result T E) → P → OnOk r P
on-ok (Ok t) p = p
on-ok (Err e) p = tt

-- all was reported, and a last thing was done that reports nothing
pub tells-last : {T E X P : Type 0} (r : Result T E) (Rel : X → T → Type 0) (old now : List Entry) (a : Told X)
    → now ≡ old ++ a.entries → OnOk r P → (P → (t : T) → Rel a.value t) → Tells r Rel old now a
tells-last (Ok t) Rel old now a e p rel = (rel p t, e)
tells-last (Err f) Rel old now a e p rel = part-all old now a.entries e

-- gaps are set
abbrev pub with_pause : World → Cursor → World
with_pause world pause = record world { pause = pause }

pub paused : (programs : List Program) (world : World) (w : SourceWorld) (pause : Cursor) → IsOf programs world w
    → IsOf programs (with_pause world pause) w
paused programs world w pause is =
    record { runs = is.runs; seated = is.seated; timely = is.timely; stands = is.stands; index = is.index }
