-- The layout of what a script rests in, and of all its parts.
use Rattle.std.specs.Prelude.{ℕ, zero, suc, ◌+◌, Bool, true, false, ◌&&◌, ◌||◌, nat_eq, nat_le, nat_lt, if◌then◌else◌, List, [], ◌∷◌, length, Option, Some, None, is_some}
use Rattle.std.specs.Str.{bytes_eq}
use Rattle.lsl_value.specs.declared.tagged.Value.{Value}
use Rattle.lsl_running.specs.declared.ends.Fault.{Fault}
use Rattle.lsl_running.specs.declared.ends.Fault.TheVariants.{MathError, StackHeap, TooManyListens}
use Rattle.lsl_code.specs.declared.frames.Frame.{Frame}
use Rattle.lsl_code.specs.declared.functions.Point.{Point}
use Rattle.lsl_code.specs.declared.woven_units.Woven.{Woven as Code}
use Rattle.lsl_code.specs.Weaves.{bodies_of}
use Rattle.lsl_code.specs.Frames.{parked_charge, points_of}
use Rattle.lsl_code.specs.Kinds.{kinds_of}
use Rattle.lsl_code.specs.Units.{handler_of}
use Rattle.lsl_post.specs.declared.parts.Rest.{Rest}
use Rattle.lsl_post.specs.declared.parts.Rest.TheVariants.{Idle, Saved, Dead}
use Rattle.lsl_post.specs.declared.parts.ScriptParts.{ScriptParts}
use Rattle.lsl_image.specs.declared.faults.ImageFault.TheVariants.{Body, WrongCode}
use Rattle.lsl_image.specs.Layout.{Layout, Bytes, Ends, Refused, U8, U16, U64, ◌>>=◌, field, field_that, grown, here, tested, values_of}
use Rattle.lsl_image.specs.Script.{event_in, leaving, limit, listens, queue, timer}

-- the function that a frame after these is a call of: that of the one before it, and none at the innermost
abbrev pub callee_of : List Frame → Option ℕ
callee_of [] = None
callee_of (last ∷ []) = Some last.function
callee_of (first ∷ next ∷ frames) = callee_of (next ∷ frames)

abbrev pub same_callee : Option ℕ → Option ℕ → Bool
same_callee None None = true
same_callee (Some f) (Some g) = nat_eq f g
same_callee None (Some g) = false
same_callee (Some f) None = false

abbrev pub is_number_of : Option ℕ → ℕ → Bool
is_number_of None f = false
is_number_of (Some g) f = nat_eq f g

abbrev pub frame : ℕ → ℕ → List Value → Frame
frame function number slots = record { function = function; point = number; slots = slots }

-- the values of a point's map, if the point is there and is a tick or a call of this function
abbrev pub frame_at : ℕ → ℕ → ℕ → Option ℕ → Option Point → Layout Frame
frame_at place function number callee None = Refused (Body place)
frame_at place function number callee (Some point) =
    if same_callee point.calls callee
    then (values_of point.kinds >>= λ slots. Ends (frame function number slots))
    else Refused (Body place)

-- more frames follow, or this is the handler's function
abbrev pub ends_in : Option ℕ → Bool → ℕ → Bool
ends_in handler more f = more || is_number_of handler f

-- a frame that calls this function, or none, if more follow or the handler's is the last
unfoldable pub frame_in : Code → Option ℕ → Bool → Option ℕ → Layout Frame
frame_in unit handler more callee = do
  function ← field_that U16 (λ f. nat_lt f (length unit.functions) && ends_in handler more f)
  place ← here
  number ← field U16
  frame_at place function number callee (points_of (bodies_of unit) function number)

-- a frame after these
abbrev pub frame_behind : Code → Option ℕ → ℕ → List Frame → Layout Frame
frame_behind unit handler count before =
    frame_in unit handler (nat_lt (length before + 1) count) (callee_of before)

-- the frames of a handler, with a charge within the limit
unfoldable pub saved_calls : Code → List Value → ℕ → Option ℕ → Layout (List Frame)
saved_calls unit globals most handler = do
  place ← here
  count ← field_that U16 (λ n. nat_le 1 n)
  frames ← grown count (frame_behind unit handler count) []
  tested (nat_le (parked_charge globals frames) most) place frames

abbrev pub fault_numbered : ℕ → Fault
fault_numbered zero = MathError
fault_numbered (suc zero) = MathError
fault_numbered (suc (suc zero)) = StackHeap
fault_numbered (suc (suc (suc n))) = TooManyListens

-- the current event, and the saved calls of its handler
unfoldable pub saved_rest : Code → ℕ → Bool → List Value → ℕ → Layout Rest
saved_rest unit state exits globals most = do
  event ← event_in unit state exits
  frames ← saved_calls unit globals most (handler_of unit.states state event.id)
  Ends (Saved event frames)

-- the fault that stopped the script
unfoldable pub dead_rest : Layout Rest
dead_rest = do
  number ← field_that U8 (λ f. nat_le 1 f && nat_le f 3)
  Ends (Dead (fault_numbered number))

abbrev pub rest_of : Code → ℕ → Bool → List Value → ℕ → ℕ → Layout Rest
rest_of unit state exits globals most zero = Ends Idle
rest_of unit state exits globals most (suc zero) = saved_rest unit state exits globals most
rest_of unit state exits globals most (suc (suc n)) = dead_rest

-- idle, saved calls, or a fault: the current event is an exit exactly where one is due
unfoldable pub rest : Code → ℕ → Bool → List Value → ℕ → Layout Rest
rest unit state exits globals most = do
  kind ← field_that U8 (λ n. nat_le n 2)
  rest_of unit state exits globals most kind

-- the digest of the unit's text
unfoldable pub code_digest : Code → Layout (List ℕ)
code_digest unit = do
  digest ← field (Bytes 32)
  if bytes_eq digest unit.digest then Ends digest else Refused (WrongCode digest unit.digest)

-- the parts of a script of this unit, which has this number
unfoldable pub script : ℕ → ℕ → Code → Layout ScriptParts
script version number unit = do
  digest ← code_digest unit
  state ← field_that U16 (λ n. nat_lt n (length unit.states))
  left ← leaving unit state
  globals ← values_of (kinds_of unit.globals)
  waiting ← queue unit state
  heard ← listens
  ticking ← timer
  wake ← field U64
  most ← limit version
  resting ← rest unit state (is_some left) globals most
  Ends (record {
    unit = number;
    globals = globals;
    limit = most;
    state = state;
    leaving = left;
    queue = waiting;
    listens = heard;
    timer = ticking;
    wake = wake;
    rest = resting;
  })
