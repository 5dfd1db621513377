-- A world in memory, and the same with other regions and cards.
use Rattle.std.proofs.Common.{◌≡◌, subst, ℕ, List, Option, Some, None, length}
use Rattle.std.specs.declared.result.Result.{Result}
use Rattle.std.specs.declared.result.Result.TheVariants.{Ok, Err}
use Rattle.lsl_code.specs.declared.woven_units.Woven.{Woven as Code}
use Rattle.lsl_handoff.specs.declared.card.Card.{Card}
use Rattle.lsl_handoff.specs.Entries.{AreAllPast, AreCarried}
use Rattle.lsl_lines.specs.declared.file.Step.{Step}
use Rattle.lsl_ports.specs.Trips.{Trip}
use Rattle.lsl_post.specs.declared.entries.Entry.{Entry}
use Rattle.lsl_post.specs.Journal.{Tells}
use Rattle.lsl_post.specs.Told.{Told}
use Rattle.lsl_script.specs.Rules.{Rules}
use Rattle.lsl_tree.specs.Program.{Program}
use Rattle.lsl_region.specs.Worlds.{World as SourceWorld}
use Rattle.lsl_world.specs.declared.world.World.{World}
use Rattle.lsl_world.specs.Kept.{regions_of}
use Rattle.lsl_world.specs.Orders.{AreInOrder, Hands, SendsOfStep}
use Rattle.lsl_world.specs.Programs.{rules_of}
use Rattle.lsl_world.specs.Sound.{IsSound}
use Rattle.lsl_world.specs.Stands.{IsOf}
use Rattle.lsl_world.specs.Travels.{Does}

abbrev pub with_cards : World → List (List ℕ) → Option (List (List Card)) → World
with_cards world regions cards = record world { regions = regions; cards = cards }

module _ (world : World) (regions : List (List ℕ)) (cards : Option (List (List Card))) where
  pub of-as : (programs : List Program) (w : SourceWorld) → IsOf programs world w
      → IsOf programs (with_cards world regions cards) w
  of-as programs w is =
      record { runs = is.runs; seated = is.seated; timely = is.timely; stands = is.stands; index = is.index }

  pub sound-as : IsSound world → IsSound (with_cards world regions cards)
  sound-as is = record { seated = is.seated; timely = is.timely; numbered = is.numbered }

pub tells-as : {T E X : Type 0} (r : Result T E) (First Second : X → Type 0) (old new : List Entry) (a : Told X)
    → ((x : X) → First x → Second x) → Tells r (λ x _. First x) old new a → Tells r (λ x _. Second x) old new a
tells-as (Ok t) First Second old new a into told = (into a.value told.0, told.1)
tells-as (Err e) First Second old new a into told = told

module _ {T E : Type 0} (codes : List Code) (r : Rules) (First Second : SourceWorld → Type 0)
    (into : (w : SourceWorld) → First w → Second w) (step : Step) (w : SourceWorld) (trips : List Trip)
    (before after : List Entry) (result : Result T E) where
  pub does-as : Does codes r First step w trips before after result
      → Does codes r Second step w trips before after result
  does-as does = record {
    tells = λ honest. tells-as result First Second before after _ into (does.tells honest);
    sent = does.sent;
  }

  pub hands-as : (regions : List (List ℕ)) (old new : List (List Card)) (entries : List (List ℕ))
      → Hands codes r First regions old new step w entries trips before after result
      → Hands codes r Second regions old new step w entries trips before after result
  hands-as regions old new entries hands = record {
    tells = tells-as result First Second before after _ into hands.tells;
    ordered = hands.ordered;
    past = hands.past;
    few = hands.few;
    sent = hands.sent;
  }

-- the result of a step, by the regions and the cards that are beside the world
abbrev pub GoesBy : {T E : Type 0} → (List Trip → Type 0) → World → World → List (List ℕ)
    → (old new : Option (List (List Card))) → Step → (before after : List Entry) → Result T E → Type 0
GoesBy Went self now regions old new step before after result =
    (trips : List Trip) × Went trips
    × (old ≡ None → (programs : List Program) (w : SourceWorld) → IsOf programs self w
    → Does self.units (rules_of programs) (IsOf programs now) step w trips before after result)
    × ((cards : List (List Card)) → old ≡ Some cards → (later : List (List Card)) × (new ≡ Some later)
    × ((programs : List Program) (w : SourceWorld) (entries : List (List ℕ)) → IsOf programs self w
    → AreInOrder regions cards (regions_of w) → AreAllPast (length w.objects) (length regions) cards entries
    → AreCarried (length w.objects) (length regions) entries trips
    → Hands self.units (rules_of programs) (IsOf programs now) regions cards later step w entries trips before after
    result)
    × ((programs : List Program) (w : SourceWorld) → IsOf programs self w
    → SendsOfStep self.units regions self.grid step trips))

-- they are what was there before
pub goes-beside : {T E : Type 0} (Went : List Trip → Type 0) (self now : World) (names regions : List (List ℕ))
    (taken old new : Option (List (List Card))) (step : Step) (before after : List Entry) (result : Result T E)
    → names ≡ regions → taken ≡ old → GoesBy Went self now names taken new step before after result
    → GoesBy Went self now regions old new step before after result
goes-beside Went self now names regions taken old new step before after result same had goes =
    subst (λ (rs : List (List ℕ)). GoesBy Went self now rs old new step before after result) same
    (subst (λ (cs : Option (List (List Card))). GoesBy Went self now names cs new step before after result) had goes)
