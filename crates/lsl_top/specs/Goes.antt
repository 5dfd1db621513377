-- Steps that are done one by one, each one's lines being written before the next step: for private functions.
use Rattle.std.specs.Prelude.{◌≡◌, ℕ, suc, ◌≤◌, List, [], ◌∷◌, length, take, Option, Some, None, Result, MatchResult, Err, IsErrOf, slice_get}
use Rattle.hex.specs.Hex.{IsBytes}
use Rattle.lsl_ports.specs.Counts.{Rose}
use Rattle.lsl_ports.specs.Trips.{Trip, Went}
use Rattle.lsl_code.specs.declared.woven_units.Woven.{Woven as Code}
use Rattle.lsl_image.specs.Images.{WorldImage}
use Rattle.lsl_image.specs.Valid.{shapes_of}
use Rattle.lsl_tree.specs.Program.{Program}
use Rattle.lsl_script.specs.Lawful.{Lawful}
use Rattle.lsl_script.specs.Rules.{Rules}
use Rattle.lsl_region.specs.Worlds.{Member, World}
use Rattle.lsl_lines.specs.declared.file.Step.{Step}
use Rattle.lsl_world.specs.Frozen.{frozen_image, parts_of_world}
use Rattle.lsl_world.specs.Lossy.{IsFairFrom, Stage, travel_from}
use Rattle.lsl_world.specs.Programs.{rules_of}
use Rattle.lsl_world.specs.Stages.{IsAt}
use Rattle.lsl_world.specs.declared.world.World.{World as Memory}
use Rattle.lsl_top.specs.Pieces.{Piece, stage_pieces}
use Rattle.lsl_top.specs.Plays.{Last, Homes, Frozen, Inspected}
use Rattle.lsl_top.specs.Ports.{Log, Wire}
use Rattle.lsl_top.specs.Promise.{IsBegun, IsBegunAt, IsWhole}
use Rattle.lsl_top.specs.declared.writing.Trouble.{Trouble}
use Rattle.lsl_top.specs.declared.writing.Trouble.TheVariants.{WriteFault}

-- all steps were done from this stage; the world that they lead to is there now, and they were written and sent
pub record Done (codes : List Code) (r : Rules) (regions : List (List ℕ)) (IsNow : Stage → Type 0) (steps : List Step)
    (stage : Stage) (trips : List Trip) (old new : Option (List ℕ)) : Type 0 where
  pub value : IsNow (travel_from codes r regions steps trips stage).value
  pub whole : IsWhole (stage_pieces codes r regions steps trips stage) trips old new

-- Within a step that was begun: what is left of it, if anything, leads from a stage that is there now to its end.
pub record IsWithin (codes : List Code) (r : Rules) (regions : List (List ℕ)) (IsNow : Stage → Type 0) (end : Stage)
    : Type 0 where
  pub there : Stage
  pub now : IsNow there
  pub left : List Step
  pub few : length left ≤ 1
  pub leads : (travel_from codes r regions left [] there).value ≡ end

-- The lines of `done` steps were written whole, and then a prefix of the next one's. At a failed write that step is the
-- last one that was begun: no step begins before the lines of the step before it are written.
pub record StoppedAt {T : Type 0} (done : ℕ) (codes : List Code) (r : Rules) (regions : List (List ℕ))
    (IsNow : Stage → Type 0) (steps : List Step) (stage : Stage) (trips : List Trip) (old new : Option (List ℕ))
    (result : Result T Trouble) : Type 0 where
  pub begun : IsBegunAt done (stage_pieces codes r regions steps trips stage) trips old new
  pub last : IsErrOf result WriteFault → IsWithin codes r regions IsNow
      (travel_from codes r regions (take (suc done) steps) trips stage).value

abbrev pub Runs : {T : Type 0} → List Code → Rules → List (List ℕ) → (Stage → Type 0) → List Step → Stage → List Trip
    → Option (List ℕ) → Option (List ℕ) → Result T Trouble → Type 0
Runs codes r regions IsNow steps stage trips old new result =
    MatchResult result (λ _. Done codes r regions IsNow steps stage trips old new)
    (λ _. (done : ℕ) × StoppedAt done codes r regions IsNow steps stage trips old new result)

-- These trips were made. From each stage that is there then, the steps go this way by them, where what came back is
-- fair. A write failed only if the count rose.
pub record Goes {T : Type 0} (gives : List ℕ → Option (List ℕ) → Type 0) (codes : List Code) (regions : List (List ℕ))
    (IsThen IsNow : List Program → Stage → Type 0) (steps : List Step) (old new : Log) (before after : Wire)
    (result : Result T Trouble) : Type 0 where
  pub trips : List Trip
  pub went : Went gives before.told after.told trips
  pub runs : (programs : List Program) (stage : Stage) → IsThen programs stage → IsFairFrom stage trips
      → Runs codes (rules_of programs) regions (IsNow programs) steps stage trips old.sunk new.sunk result
  pub counted : old.faults ≤ new.faults
  pub links_counted : before.faults ≤ after.faults
  pub cause : IsErrOf result WriteFault → Rose old.faults new.faults

-- what is left of a step, as steps
abbrev pub steps_left : Option Step → List Step
steps_left None = []
steps_left (Some step) = step ∷ []

-- a part of a step was done, and its lines were written: however what is left of it goes, the step goes; or it stopped
abbrev pub GoesPart : (List ℕ → Option (List ℕ) → Type 0) → List Code → List (List ℕ) → (first now : Memory) → Step
    → (old new : Log) → (before after : Wire) → Result (Option Step) Trouble → Type 0
GoesPart gives codes regions first now step old new before after result =
    MatchResult result
    (λ left. (last : Memory) (end : Log) (done : Wire) (r : Result (Unit {0}) Trouble)
    → Goes gives codes regions (λ programs. IsAt programs now) (λ programs. IsAt programs last) (steps_left left)
    new end after done r
    → Goes gives codes regions (λ programs. IsAt programs first) (λ programs. IsAt programs last) (step ∷ [])
    old end before done r)
    (λ trouble. Goes {T = Unit {0}} gives codes regions (λ programs. IsAt programs first)
    (λ programs. IsAt programs now) (step ∷ []) old new before after (Err trouble))

-- From each stage that is there, a run of programs was written and sent this way, where what came back is fair; and
-- then this holds.
pub record Performs {T : Type 0} (gives : List ℕ → Option (List ℕ) → Type 0) (IsThen : List Program → Stage → Type 0)
    (Then : List Program → Stage → List Trip → Type 0) (pieces : List Program → Stage → List Trip → List Piece)
    (old new : Log) (before after : Wire) (result : Result T Trouble) : Type 0 where
  pub trips : List Trip
  pub went : Went gives before.told after.told trips
  pub runs : (programs : List Program) (stage : Stage) → IsThen programs stage → IsFairFrom stage trips
      → MatchResult result
      (λ _. IsWhole (pieces programs stage trips) trips old.sunk new.sunk × Then programs stage trips)
      (λ _. IsBegun (pieces programs stage trips) trips old.sunk new.sunk)
  pub counted : old.faults ≤ new.faults
  pub links_counted : before.faults ≤ after.faults
  pub cause : IsErrOf result WriteFault → Rose old.faults new.faults

-- a world that was frozen: its handlers in flight are ones that its scripts can have, and these bytes are its image
pub record IsFrozenWell (codes : List Code) (programs : List Program) (w : World) : Type 0 where
  pub lawful : (n : ℕ) (m : Member) → slice_get w.members n ≡ Some m → Lawful (rules_of programs) m.script
  pub image : WorldImage (shapes_of (parts_of_world codes w)) codes (parts_of_world codes w) (frozen_image codes w)
  pub bytes : IsBytes (frozen_image codes w)

-- what holds at the end of a run that was written
abbrev pub IsLast : Last → List Code → List Program → World → Type 0
IsLast Homes codes programs w = Unit {0}
IsLast Frozen codes programs w = IsFrozenWell codes programs w
IsLast (Inspected names) codes programs w = Unit {0}
