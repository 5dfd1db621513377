-- The frames of a machine at a tick, and which frames are valid.
use Rattle.std.specs.Prelude.{ℕ, zero, suc, ◌+◌, ◌-◌, ◌≡◌, ◌≤◌, List, [], ◌∷◌, ◌++◌, Option, Some, None, map, reverse, slice_get, sum_by}
use Rattle.lsl_value.specs.declared.tagged.Value.{Value}
use Rattle.lsl_running.specs.Charging.{script_charge, call_charge, charges_of}
use Rattle.lsl_code.specs.declared.frames.Frame.{Frame}
use Rattle.lsl_code.specs.declared.functions.Point.{Point}
use Rattle.lsl_code.specs.declared.instructions.Instr.{Instr}
use Rattle.lsl_code.specs.declared.instructions.Instr.TheVariants.{Tick, Call}
use Rattle.lsl_code.specs.Bodies.{Body, instruction_at}
use Rattle.lsl_code.specs.Kinds.{kinds_of}
use Rattle.lsl_code.specs.Machine.{MachineCall}
use Rattle.lsl_code.specs.Saving.{frame_of}

abbrev pub point_in : Option Instr → ℕ
point_in (Some (Tick point)) = point
point_in (Some (Call f point)) = point
point_in i = 0

-- the frame of a call whose tick, or call of another function, is at this place: its slots, and its operands from the
-- first pushed
abbrev pub frame_at : List Body → ℕ → MachineCall → Frame
frame_at bodies place c =
    frame_of c.function (point_in (instruction_at bodies c.function place)) (c.slots ++ reverse c.operands)

-- a call that waits is after the call that it made
abbrev pub waiting_frame : List Body → MachineCall → Frame
waiting_frame bodies c = frame_at bodies (c.place - 1) c

-- the frames of a machine at a tick, the innermost first
abbrev pub frames_of : List Body → List MachineCall → List Frame
frames_of bodies [] = []
frames_of bodies (c ∷ outer) = frame_at bodies c.place c ∷ map (waiting_frame bodies) outer

-- the points of a unit: those of each function, by its number
abbrev pub Points : Type 0
Points = ℕ → ℕ → Option Point

abbrev pub body_point : Option Body → ℕ → Option Point
body_point None p = None
body_point (Some body) p = slice_get body.points p

abbrev pub points_of : List Body → Points
points_of bodies f p = body_point (slice_get bodies f) p

-- a frame is at a point of its function: at a tick, or at a call of this function; it has one value of each
-- kind of the point's map
abbrev pub IsAtPoint : Points → Option ℕ → Frame → Type 0
IsAtPoint points callee frame =
    (point : Point) × (points frame.function frame.point ≡ Some point) × (point.calls ≡ callee)
    × (kinds_of frame.slots ≡ point.kinds)

-- the last frame is the handler's
abbrev pub EndsIn : ℕ → Frame → List Frame → Type 0
EndsIn handler frame [] = frame.function ≡ handler
EndsIn handler frame (next ∷ outer) = Unit {0}

-- a frame that calls this function, or none, before these outer ones
abbrev pub FitsFrame : Points → ℕ → Option ℕ → Frame → List Frame → Type 0
FitsFrame points handler callee frame outer = IsAtPoint points callee frame × EndsIn handler frame outer

-- each frame fits: it is at a call of the function of the frame before it
abbrev pub FitFrames : Points → ℕ → Option ℕ → List Frame → Type 0
FitFrames points handler callee [] = Unit {0}
FitFrames points handler callee (frame ∷ outer) =
    FitsFrame points handler callee frame outer × FitFrames points handler (Some frame.function) outer

-- there are frames, the innermost at a tick, and each fits
abbrev pub AreFrames : Points → ℕ → List Frame → Type 0
AreFrames points handler [] = ⊥
AreFrames points handler (frame ∷ outer) = FitFrames points handler None (frame ∷ outer)

abbrev pub FirstUnfit : Points → ℕ → Option ℕ → List Frame → ℕ → Type 0
FirstUnfit points handler callee [] n = ⊥
FirstUnfit points handler callee (frame ∷ outer) zero = FitsFrame points handler callee frame outer → ⊥
FirstUnfit points handler callee (frame ∷ outer) (suc n) =
    FitsFrame points handler callee frame outer × FirstUnfit points handler (Some frame.function) outer n

-- the frame of this number is the first that doesn't fit, or there is none, and the number is 0
abbrev pub IsFirstUnfit : Points → ℕ → List Frame → ℕ → Type 0
IsFirstUnfit points handler [] n = n ≡ 0
IsFirstUnfit points handler (frame ∷ outer) n = FirstUnfit points handler None (frame ∷ outer) n

abbrev pub frame_charge : Frame → ℕ
frame_charge frame = call_charge + charges_of frame.slots

-- the charge of a machine with these frames and globals
abbrev pub parked_charge : List Value → List Frame → ℕ
parked_charge globals frames = script_charge + charges_of globals + sum_by frame_charge frames

-- frames of a handler, beside these globals, with a charge within this limit
abbrev pub AreValid : Points → ℕ → List Value → ℕ → List Frame → Type 0
AreValid points handler globals limit frames =
    AreFrames points handler frames × (parked_charge globals frames ≤ limit)
