-- A function with a slot, which calls itself with an operand waiting: its code, woven by hand, and the results of
-- saving and restoring two of its calls.
use Rattle.std.proofs.Common.{◌≡◌, pos, List, [], ◌∷◌, Some, None, refl}
use Rattle.lsl_value.specs.declared.tagged.Kind.TheVariants as kind
use Rattle.lsl_value.specs.declared.tagged.Value.TheVariants as value
use Rattle.lsl_code.specs.declared.frames.Frame.{Frame}
use Rattle.lsl_code.specs.declared.functions.Point.{Point}
use Rattle.lsl_code.specs.declared.instructions.Instr.TheVariants.{Int, Drop, Jump, Tick, Call, Return, TestSave, KeepSlot, KeepTop, Seal, TestBack, Unpack, BackSlot, BackTop, Branch, Again, Awake}
use Rattle.lsl_code.specs.Bodies.{Body}
use Rattle.lsl_code.specs.Frames.{frames_of, parked_charge}
use Rattle.lsl_code.specs.Machine.{MachineCall, call_at}
use Rattle.lsl_code.specs.Modes.{repeat}
use Rattle.lsl_code.specs.Restoring.{awake_with, back_step, begins_restoring}
use Rattle.lsl_code.specs.Saving.{frame_of, saving, save_step, begins_saving}
use Rattle.lsl_weave.specs.Layout.{woven_code, woven_of}
use Rattle.lsl_weave.specs.Lifting.{lift}
use Rattle.lsl_code.specs.Weaves.{most_steps}

abbrev tick_point : Point
tick_point = record { kinds = kind.Int ∷ []; calls = None }

abbrev call_point : Point
call_point = record { kinds = kind.Int ∷ kind.Int ∷ []; calls = Some 0 }

abbrev plain : Body
plain = record {
  params = [];
  slots = kind.Int ∷ [];
  result = None;
  most = 1;
  points = tick_point ∷ call_point ∷ [];
  lines = 1 ∷ 2 ∷ [];
  code = Tick 0 ∷ Int (pos 7) ∷ Call 0 1 ∷ Drop ∷ Return ∷ [];
  stacks =
      Some [] ∷ Some [] ∷ Some (kind.Int ∷ []) ∷ Some (kind.Int ∷ []) ∷ Some [] ∷ [];
}

-- the test at the start, the code, two blocks that save, the way to a block, two blocks that restore
woven_by_hand : woven_code plain
    ≡ TestBack 13 ∷ Tick 0 ∷ TestSave 8 ∷ Int (pos 7) ∷ Call 0 1 ∷ TestSave 10 ∷ Drop ∷ Return
    ∷ KeepSlot 0 ∷ Seal 0 ∷ KeepTop ∷ KeepSlot 0 ∷ Seal 1
    ∷ Unpack ∷ Branch ∷ Jump 17 ∷ Jump 20
    ∷ BackSlot 0 ∷ Awake ∷ Jump 1 ∷ BackSlot 0 ∷ BackTop ∷ Again 0 ∷ Jump 5 ∷ []
woven_by_hand = refl

-- at the tick with 5 in its slot, called where 7 waits and the slot holds 1
abbrev calls : List MachineCall
calls = call_at 0 0 (value.Int (pos 5) ∷ []) [] ∷ call_at 0 3 (value.Int (pos 1) ∷ []) (value.Int (pos 7) ∷ []) ∷ []

abbrev woven_calls : List MachineCall
woven_calls =
    call_at 0 1 (value.Int (pos 5) ∷ []) [] ∷ call_at 0 5 (value.Int (pos 1) ∷ []) (value.Int (pos 7) ∷ []) ∷ []

abbrev frames : List Frame
frames =
    frame_of 0 0 (value.Int (pos 5) ∷ []) ∷ frame_of 0 1 (value.Int (pos 1) ∷ value.Int (pos 7) ∷ []) ∷ []

stands_so : lift (plain ∷ []) calls ≡ woven_calls
stands_so = refl

has_these : frames_of (plain ∷ []) calls ≡ frames
has_these = refl

-- a test and two instructions, a test and three
saved_so : repeat (save_step (woven_of plain ∷ [])) 7 (begins_saving woven_calls) ≡ Some (saving [] [] frames)
saved_so = refl

-- from the start to the block four, then a value each, and the end
restored_so : repeat (back_step (woven_of plain ∷ [])) 13 (begins_restoring 0 (woven_of plain) frames)
    ≡ Some (awake_with woven_calls 0 [] [])
restored_so = refl

-- two calls, three integers
charged_so : parked_charge [] frames ≡ 1112
charged_so = refl

-- two frames with five values
bound_so : most_steps (frame_of 0 0 (value.Int (pos 4) ∷ value.Int (pos 2) ∷ value.Int (pos 1) ∷ [])
    ∷ frame_of 1 3 (value.Int (pos 1) ∷ value.Int (pos 10) ∷ []) ∷ []) ≡ 52
bound_so = refl

-- added code that keeps two slots the other way round saves them that way
abbrev exchanged : Body
exchanged = record {
  params = [];
  slots = kind.Int ∷ kind.Int ∷ [];
  result = None;
  most = 0;
  points = record { kinds = kind.Int ∷ kind.Int ∷ []; calls = None } ∷ [];
  lines = 1 ∷ [];
  code = TestBack 0 ∷ Tick 0 ∷ TestSave 4 ∷ Return ∷ KeepSlot 0 ∷ KeepSlot 1 ∷ Seal 0 ∷ [];
  stacks = [];
}

saved_exchanged : repeat (save_step (exchanged ∷ [])) 4
    (begins_saving (call_at 0 1 (value.Int (pos 1) ∷ value.Int (pos 2) ∷ []) [] ∷ []))
    ≡ Some (saving [] [] (frame_of 0 0 (value.Int (pos 2) ∷ value.Int (pos 1) ∷ []) ∷ []))
saved_exchanged = refl
