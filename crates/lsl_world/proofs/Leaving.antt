-- A part of a step of a world in memory is a part of it at its stage.
use Rattle.std.proofs.Common.{◌≡◌, ℕ, false, List, [], ◌∷◌, ◌++◌, length, map, refl, ap, sym, subst, ◌∙◌, arith}
use Rattle.std.specs.Prelude.{Option, Some, None, Result, Ok, Err, IfOk, IfSome}
use Rattle.std.proofs.lemmas.List.{length-map}
use Rattle.lsl_code.specs.declared.woven_units.Woven.{Woven as Code}
use Rattle.lsl_ports.specs.Trips.{Trip}
use Rattle.lsl_post.specs.declared.entries.Entry.{Entry}
use Rattle.lsl_post.specs.Journal.{Part}
use Rattle.lsl_post.specs.Told.{Told, as_value}
use Rattle.lsl_handoff.specs.declared.card.Card.{Card}
use Rattle.lsl_handoff.specs.Handovers.{HasCounts}
use Rattle.lsl_handoff.specs.NoteBytes.{IsNoteOf, note_bytes}
use Rattle.lsl_tree.specs.Program.{Program}
use Rattle.lsl_script.specs.Rules.{Rules}
use Rattle.lsl_region.specs.declared.grid.Seat.{Seat}
use Rattle.lsl_region.specs.declared.objects.Linkset.{Linkset}
use Rattle.lsl_region.specs.Grids.{Contents, Stands, outline_of, seat_of, vacant, without_names}
use Rattle.lsl_region.specs.Worlds.{Member, World as SourceWorld}
use Rattle.lsl_region.proofs.Journeys.{contents-is}
use Rattle.lsl_lines.specs.declared.file.Step.{Step}
use Rattle.lsl_lines.specs.declared.file.Step.TheVariants.{Go, Run}
use Rattle.lsl_world.specs.declared.world.World.{World}
use Rattle.lsl_world.specs.Handing.{AreCarded, CanHand}
use Rattle.lsl_world.specs.Kept.{region_of, regions_of}
use Rattle.lsl_world.specs.Lossy.{Gone, Stage, goes, goes_by}
use Rattle.lsl_world.specs.Orders.{AreInOrder}
use Rattle.lsl_world.specs.Parts.{DoesPartAt, IsRestOf, TellsPart, led}
use Rattle.lsl_world.specs.Programs.{rules_of}
use Rattle.lsl_world.specs.Sizes.{HasNumber, IsStepOf, Size}
use Rattle.lsl_world.specs.Stages.{IsAt, IsOrderly}
use Rattle.lsl_world.specs.Stands.{IsOf, prims_of, size_of}
use Rattle.lsl_world.specs.Steps.{next}
use Rattle.lsl_world.proofs.Crossed.{same-count, with_world}
use Rattle.lsl_world.proofs.Regions.{nameless-regions}
use Rattle.lsl_world.proofs.Shapes.{keys_in, keys_of, offers-kept, outline-keys, unit_in, units_of}

-- ---- what a grid's outline says of its world

abbrev unit_of_seat : Seat → ℕ × ℕ
unit_of_seat seat = (seat.object, seat.unit)

seated-units : (codes : List Code) (ms : List Member)
    → map unit_of_seat (map vacant (map (seat_of codes false) ms)) ≡ map unit_in ms
seated-units codes [] = refl
seated-units codes (m ∷ ms) = ap (λ (us : List (ℕ × ℕ)). unit_in m ∷ us) (seated-units codes ms)

module _ (codes : List Code) (now then_was : ℕ) (new old : Contents) (v w : SourceWorld)
    (now_is : Stands codes None now new v) (was : Stands codes None then_was old w)
    (same : outline_of new ≡ outline_of old) where
  objects-outline : map without_names v.objects ≡ map without_names w.objects
  unfolding outline_of
  objects-outline =
      ap (λ (os : List Linkset). map without_names os) (sym now_is.objects)
      ∙ ap (λ (c : Contents). c.objects) same
      ∙ ap (λ (os : List Linkset). map without_names os) was.objects

  pub outline-regions : regions_of v ≡ regions_of w
  outline-regions =
      sym (nameless-regions v.objects) ∙ ap (λ (os : List Linkset). map region_of os) objects-outline
      ∙ nameless-regions w.objects

  pub outline-keys_of : keys_of v ≡ keys_of w
  outline-keys_of =
      sym (outline-keys v.objects) ∙ ap (λ (os : List Linkset). map keys_in os) objects-outline
      ∙ outline-keys w.objects

  seats-outline : map vacant new.seats ≡ map vacant old.seats
  unfolding outline_of
  seats-outline = ap (λ (c : Contents). c.seats) same

  pub outline-units : units_of v ≡ units_of w
  outline-units =
      sym (seated-units codes v.members)
      ∙ ap (λ (c : Contents). map unit_of_seat (map vacant c.seats)) (sym (contents-is codes now new v now_is))
      ∙ ap (λ (ss : List Seat). map unit_of_seat ss) seats-outline
      ∙ ap (λ (c : Contents). map unit_of_seat (map vacant c.seats)) (contents-is codes then_was old w was)
      ∙ seated-units codes w.members

-- ---- steps of turns

abbrev pub IsTurns : Step → Type 0
IsTurns (Go script most) = Unit {0}
IsTurns (Run most) = Unit {0}
IsTurns step = ⊥

rest-turns : (step rest : Step) → IsRestOf step rest → IsTurns rest
rest-turns (Go script most) (Go other left) is = tt
rest-turns (Run most) (Run left) is = tt
rest-turns step rest is = absurd (is)

abbrev turned : Stage → List Trip → Told SourceWorld → Gone
turned stage trips a = record { told = as_value (λ w. with_world stage w) a; sent = []; behind = trips }

module _ (codes : List Code) (r : Rules) (regions : List (List ℕ)) (stage : Stage) (trips : List Trip) where
  turns-gone : (step : Step) → IsTurns step → goes codes r regions step stage trips
      ≡ turned stage trips (next r step stage.world)
  turns-gone (Go script most) is = go stage.cards where
    go : (o : Option (List (List Card))) → goes_by o codes r regions (Go script most) stage trips
        ≡ turned stage trips (next r (Go script most) stage.world)
    go None = refl
    go (Some cards) = refl
  turns-gone (Run most) is = go stage.cards where
    go : (o : Option (List (List Card))) → goes_by o codes r regions (Run most) stage trips
        ≡ turned stage trips (next r (Run most) stage.world)
    go None = refl
    go (Some cards) = refl
  turns-gone step is = absurd (is)

module _ (programs : List Program) (old new : World) (units : new.units ≡ old.units)
    (names : new.regions ≡ old.regions) (kept : new.cards ≡ old.cards)
    (outline : outline_of new.grid ≡ outline_of old.grid) (before after : List Entry) (stage : Stage)
    (is : IsAt programs old stage) where
  abbrev r : Rules
  r = rules_of programs

  -- the stage with a world that is there now
  module _ (v : SourceWorld) (of : IsOf programs new v) where
    abbrev w : SourceWorld
    w = stage.world

    stands : Stands old.units None new.clock new.grid v
    stands = subst (λ (cs : List Code). Stands cs None new.clock new.grid v) units of.stands

    same_regions : regions_of v ≡ regions_of w
    same_regions = outline-regions old.units new.clock old.clock new.grid old.grid v w stands is.of.stands outline

    orderly : (cards : List (List Card)) → IsOrderly old.units old.regions cards stage
        → IsOrderly old.units old.regions cards (with_world stage v)
    orderly cards order = record {
      order = subst (λ (hs : List (List ℕ)). AreInOrder old.regions cards hs) (sym same_regions) order.order;
      past = order.past;
      notes = λ n has. subst (λ (k : ℕ). IsNoteOf k (length old.regions) (note_bytes n) n)
          (sym (same-count v w same_regions)) (order.notes n has);
      offers = λ n has. offers-kept old.units old.regions v w
          (outline-keys_of old.units new.clock old.clock new.grid old.grid v w stands is.of.stands outline)
          (outline-units old.units new.clock old.clock new.grid old.grid v w stands is.of.stands outline)
          n.kind n (order.offers n has);
    }

    now-at : IsAt programs new (with_world stage v)
    now-at = record {
      of = of;
      cards = kept ∙ is.cards;
      ordered = λ cards some.
          subst (λ (c : List Code). IsOrderly c new.regions cards (with_world stage v)) (sym units)
          (subst (λ (ns : List (List ℕ)). IsOrderly old.units ns cards (with_world stage v)) (sym names)
          (orderly cards (is.ordered cards some)));
    }

  -- a part of it
  turns-part : {E : Type 0} (step : Step) (result : Result (Option Step) E) → IsTurns step
      → IfOk result (λ left. IfSome left (λ rest. IsRestOf step rest))
      → TellsPart result r (IsOf programs new) before after (next r step stage.world)
      → DoesPartAt old.units r old.regions (λ s. IsAt programs new s) step stage [] before after result
  turns-part step (Ok None) turns left told =
      let gone = turns-gone old.units r old.regions stage [] step turns in
      record {
        tells = subst (λ (g : Gone). IsAt programs new g.told.value × (after ≡ before ++ g.told.entries)) (sym gone)
            (now-at (next r step stage.world).value told.0, told.1);
        sent = subst (λ (g : Gone). [] ≡ g.sent) (sym gone) refl;
      }
  turns-part step (Ok (Some rest)) turns left told = record {
    there = with_world stage told.world;
    now = now-at told.world told.now;
    told = told.told;
    added = told.added;
    none = refl;
    whole = λ others.
        turns-gone old.units r old.regions stage others step turns
        ∙ ap (λ (a : Told SourceWorld). turned stage others a) told.whole
        ∙ ap (λ (g : Gone). led told.told g)
        (sym (turns-gone old.units r old.regions (with_world stage told.world) others rest
        (rest-turns step rest left)));
    fair = λ others fair. fair;
  }
  turns-part step (Err e) turns left told =
      let gone = turns-gone old.units r old.regions stage [] step turns in
      record {
        tells = subst (λ (g : Gone). Part before after g.told.entries) (sym gone) told;
        sent = record { others = (goes old.units r old.regions step stage []).sent; whole = refl };
      }

  pub part-at : {E : Type 0} (step form : Step) (result : Result (Option Step) E) → step ≡ form → IsTurns form
      → IfOk result (λ left. IfSome left (λ rest. IsRestOf form rest))
      → ((w : SourceWorld) → IsOf programs old w
      → TellsPart result r (IsOf programs new) before after (next r form w))
      → DoesPartAt old.units r old.regions (λ s. IsAt programs new s) step stage [] before after result
  part-at step form result same turns left tells =
      subst (λ (s : Step). DoesPartAt old.units r old.regions (λ s. IsAt programs new s) s stage [] before after result)
      (sym same) (turns-part form result turns left (tells stage.world is.of))

-- ---- what is left of a step can be done

pub rest-of : (step form : Step) → step ≡ form → {E : Type 0} (result : Result (Option Step) E)
    → IfOk result (λ left. IfSome left (λ rest. IsRestOf form rest))
    → IfOk result (λ left. IfSome left (λ rest. IsRestOf step rest))
rest-of step form same result left =
    subst (λ (s : Step). IfOk result (λ left. IfSome left (λ rest. IsRestOf s rest))) (sym same) left

pub rest-step : (size : Size) (step rest : Step) → IsRestOf step rest → IsStepOf size step → IsStepOf size rest
rest-step size (Go script most) (Go other left) is step =
    (subst (λ (n : ℕ). HasNumber size.scripts n) (sym is.0) step.0, omega (arith, is.1, step.1))
rest-step size (Run most) (Run left) is step = omega (arith, is, step)
rest-step size step rest is can = absurd (is)

pub rest-hands : (world : World) (step rest : Step) → IsRestOf step rest → CanHand world rest
rest-hands world (Go script most) (Go other left) is = λ cards some. tt
rest-hands world (Run most) (Run left) is = λ cards some. tt
rest-hands world step rest is = absurd (is)

-- each region keeps a card of each object
pub carded-as : (old new : World) → new.regions ≡ old.regions → new.cards ≡ old.cards
    → size_of new ≡ size_of old → AreCarded old → AreCarded new
carded-as old new names kept same carded = λ cards some.
    let count : length new.grid.objects ≡ length old.grid.objects =
    sym (length-map new.grid.objects prims_of) ∙ ap (λ (s : Size). length s.prims) same
    ∙ length-map old.grid.objects prims_of in
    subst (λ (n : ℕ). HasCounts n (length new.regions) cards) (sym count)
    (subst (λ (ns : List (List ℕ)). HasCounts (length old.grid.objects) (length ns) cards) (sym names)
    (carded cards (sym kept ∙ some)))
