-- Worlds in memory where a run is at a stage, and what a step results in there.
use Rattle.std.specs.Prelude.{◌≡◌, ℕ, List, Contains, length, Some}
use Rattle.std.specs.declared.result.Result.{Result}
use Rattle.lsl_code.specs.declared.woven_units.Woven.{Woven as Code}
use Rattle.lsl_ports.specs.Trips.{Trip}
use Rattle.lsl_handoff.specs.declared.card.Card.{Card}
use Rattle.lsl_handoff.specs.declared.note.Note.{Note}
use Rattle.lsl_handoff.specs.DriveLaws.{ArePast}
use Rattle.lsl_handoff.specs.Handovers.{Passes}
use Rattle.lsl_handoff.specs.NoteBytes.{IsNoteOf, note_bytes}
use Rattle.lsl_post.specs.declared.entries.Entry.{Entry}
use Rattle.lsl_post.specs.Journal.{Tells}
use Rattle.lsl_tree.specs.Program.{Program}
use Rattle.lsl_script.specs.Rules.{Rules}
use Rattle.lsl_region.specs.Journeys.{Sends}
use Rattle.lsl_lines.specs.declared.file.Step.{Step}
use Rattle.lsl_world.specs.declared.world.World.{World}
use Rattle.lsl_world.specs.Kept.{regions_of}
use Rattle.lsl_world.specs.Lossy.{Stage, goes}
use Rattle.lsl_world.specs.Orders.{AreInOrder, IsOfferIn}
use Rattle.lsl_world.specs.Stands.{IsOf}

-- the cards are in order, and all notes that were handed over are past; each is one that may be delivered
pub record IsOrderly (codes : List Code) (regions : List (List ℕ)) (cards : List (List Card)) (stage : Stage) : Type 0
  where
    pub order : AreInOrder regions cards (regions_of stage.world)
    pub past : ArePast cards stage.notes
    pub notes : (note : Note) → Contains stage.notes note
        → IsNoteOf (length stage.world.objects) (length regions) (note_bytes note) note
    pub offers : (note : Note) → Contains stage.notes note → Passes (IsOfferIn codes regions stage.world) note.kind note

-- the world in memory is that of the stage, with its cards, where there are any
pub record IsAt (programs : List Program) (world : World) (stage : Stage) : Type 0 where
  pub of : IsOf programs world stage.world
  pub cards : world.cards ≡ stage.cards
  pub ordered : (cards : List (List Card)) → stage.cards ≡ Some cards
      → IsOrderly world.units world.regions cards stage

-- the result of a step, with the trips that it made
pub record DoesAt {T E : Type 0} (codes : List Code) (r : Rules) (regions : List (List ℕ)) (IsNow : Stage → Type 0)
    (step : Step) (stage : Stage) (trips : List Trip) (old new : List Entry) (result : Result T E) : Type 0 where
  pub tells : Tells result (λ s _. IsNow s) old new (goes codes r regions step stage trips).told
  pub sent : Sends result trips (goes codes r regions step stage trips).sent
