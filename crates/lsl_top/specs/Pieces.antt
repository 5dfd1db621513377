-- What is written and sent, piece by piece: a run has a piece for each step. Its last piece says where each object is,
-- or has the frozen world, or all that the world holds.
use Rattle.std.specs.Prelude.{ℕ, List, [], ◌∷◌, ◌++◌}
use Rattle.lsl_ports.specs.Trips.{Trip}
use Rattle.lsl_code.specs.declared.woven_units.Woven.{Woven as Code}
use Rattle.lsl_script.specs.Rules.{Rules}
use Rattle.lsl_region.specs.Worlds.{World}
use Rattle.lsl_lines.specs.Frozen.{frozen_line}
use Rattle.lsl_lines.specs.Journal.{lines_of}
use Rattle.lsl_lines.specs.declared.file.Step.{Step}
use Rattle.lsl_view.specs.StateParts.{state_of_parts}
use Rattle.lsl_view.specs.declared.known.Names.{Names}
use Rattle.lsl_world.specs.Frozen.{frozen_image, parts_of_world}
use Rattle.lsl_world.specs.Lossy.{Stage, goes, travel_from}
use Rattle.lsl_world.specs.Reports.{homes}
use Rattle.lsl_world.specs.Travels.{go_on, images_of, left, travel}
use Rattle.lsl_top.specs.Plays.{Last, Homes, Frozen, Inspected}

-- lines, and what is sent over the link before they are written, in order
pub record Piece : Type 0 where
  pub lines : List ℕ
  pub sent : List (List ℕ)

abbrev pub lines_in : List Piece → List ℕ
lines_in [] = []
lines_in (piece ∷ pieces) = piece.lines ++ lines_in pieces

abbrev pub sent_in : List Piece → List (List ℕ)
sent_in [] = []
sent_in (piece ∷ pieces) = piece.sent ++ sent_in pieces

-- a step's lines, and the image that it sends, or none
abbrev pub step_piece : List Code → Rules → Step → List Trip → World → Piece
step_piece codes r step trips w =
    record { lines = lines_of (go_on r step trips w).entries; sent = images_of codes step w }

-- the pieces of all steps by the trips that are made, in order
unfoldable pub step_pieces : List Code → Rules → List Step → List Trip → World → List Piece
step_pieces codes r [] trips w = []
step_pieces codes r (step ∷ steps) trips w =
    step_piece codes r step trips w ∷ step_pieces codes r steps (left step w trips) (go_on r step trips w).value

-- the piece of a step at a stage of a run
abbrev pub stage_piece : List Code → Rules → List (List ℕ) → Step → List Trip → Stage → Piece
stage_piece codes r regions step trips stage =
    let gone = goes codes r regions step stage trips in
    record { lines = lines_of gone.told.entries; sent = gone.sent }

unfoldable pub stage_pieces : List Code → Rules → List (List ℕ) → List Step → List Trip → Stage → List Piece
stage_pieces codes r regions [] trips stage = []
stage_pieces codes r regions (step ∷ steps) trips stage =
    let gone = goes codes r regions step stage trips in
    stage_piece codes r regions step trips stage ∷ stage_pieces codes r regions steps gone.behind gone.told.value

-- where each object is
abbrev pub home_piece : World → Piece
home_piece w = record { lines = lines_of (homes w); sent = [] }

-- the frozen world
abbrev pub frozen_piece : List Code → World → Piece
frozen_piece codes w = record { lines = frozen_line (frozen_image codes w); sent = [] }

-- all that the world holds
abbrev pub inspected_piece : List Code → Names → World → Piece
inspected_piece codes names w = record { lines = state_of_parts codes names (parts_of_world codes w); sent = [] }

-- what is printed at the end
abbrev pub last_piece : Last → List Code → World → Piece
last_piece Homes codes w = home_piece w
last_piece Frozen codes w = frozen_piece codes w
last_piece (Inspected names) codes w = inspected_piece codes names w

-- the pieces of these steps from a world, and then the last one
abbrev pub pieces_from : Last → List Code → Rules → List Step → List Trip → World → List Piece
pieces_from last codes r steps trips w =
    step_pieces codes r steps trips w ++ last_piece last codes (travel r steps trips w).value ∷ []

-- the pieces from a stage
abbrev pub pieces_at : Last → List Code → Rules → List (List ℕ) → List Step → List Trip → Stage → List Piece
pieces_at last codes r regions steps trips stage =
    stage_pieces codes r regions steps trips stage
    ++ last_piece last codes (travel_from codes r regions steps trips stage).value.world ∷ []
