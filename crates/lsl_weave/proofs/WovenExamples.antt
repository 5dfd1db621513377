-- A unit whose added code keeps two slots the other way round is woven. Units whose added code forgets one, doubles
-- one or goes astray are not.
use Rattle.std.proofs.Common.{◌≡◌, ℕ, zero, suc, ◌-◌, List, [], ◌∷◌, ◌++◌, length, Option, Some, None, Bool, true, false, refl}
use Rattle.lsl_value.specs.declared.names.EventId.TheVariants.{StateEntry}
use Rattle.lsl_value.specs.declared.tagged.Kind.{Kind}
use Rattle.lsl_value.specs.declared.tagged.Kind.TheVariants as kind
use Rattle.lsl_code.specs.declared.functions.StateCode.{StateCode}
use Rattle.lsl_code.specs.declared.instructions.Instr.{Instr}
use Rattle.lsl_code.specs.declared.instructions.Instr.TheVariants.{Jump, Tick, Return, TestSave, KeepSlot, KeepTop, Seal, TestBack, Unpack, BackSlot, Branch, Awake}
use Rattle.lsl_code.specs.Bodies.{Body}
use Rattle.lsl_code.specs.ModeStacks.{nones}
use Rattle.lsl_code.specs.Woven.{is_woven}

abbrev states : List StateCode
states = record { name = []; handlers = record { event = StateEntry; function = 0 } ∷ [] } ∷ []

abbrev empties : ℕ → List (Option (List Kind))
empties zero = []
empties (suc n) = Some [] ∷ empties n

-- a function with three slots and a tick; its first n instructions run, with no operands
abbrev function_of : ℕ → List Instr → Body
function_of n code = record {
  params = [];
  slots = kind.Int ∷ kind.Str ∷ kind.Int ∷ [];
  result = None;
  most = 0;
  points = record { kinds = kind.Int ∷ kind.Str ∷ kind.Int ∷ []; calls = None } ∷ [];
  lines = 1 ∷ [];
  code = code;
  stacks = empties n ++ nones (length code - n);
}

abbrev passes : ℕ → List Instr → Bool
passes n code = is_woven [] states (function_of n code ∷ [])

-- kept this way, and put back in order
abbrev saving_so : List Instr → List Instr
saving_so keeps =
    TestBack 8 ∷ Tick 0 ∷ TestSave 4 ∷ Return ∷ (keeps ++ (Seal 0 ∷ Unpack ∷ Branch ∷ Jump 11
    ∷ BackSlot 0 ∷ BackSlot 1 ∷ BackSlot 2 ∷ Awake ∷ Jump 1 ∷ []))

-- put back this way, with a call at this place then
abbrev restoring_so : ℕ → List Instr → List Instr
restoring_so home puts =
    TestBack 8 ∷ Tick 0 ∷ TestSave 4 ∷ Return ∷ KeepSlot 2 ∷ KeepSlot 1 ∷ KeepSlot 0 ∷ Seal 0 ∷ Unpack ∷ Branch
    ∷ Jump 11 ∷ (puts ++ (Awake ∷ Jump home ∷ []))

in_order : passes 4 (saving_so (KeepSlot 2 ∷ KeepSlot 1 ∷ KeepSlot 0 ∷ [])) ≡ true
in_order = refl

exchanged : passes 4 (saving_so (KeepSlot 0 ∷ KeepSlot 1 ∷ KeepSlot 2 ∷ [])) ≡ true
exchanged = refl

kept_twice : passes 4 (saving_so (KeepSlot 0 ∷ KeepSlot 1 ∷ KeepSlot 0 ∷ [])) ≡ false
kept_twice = refl

kept_as_another_kind : passes 4 (saving_so (KeepSlot 1 ∷ KeepSlot 2 ∷ KeepSlot 0 ∷ [])) ≡ false
kept_as_another_kind = refl

no_operand_waits : passes 4 (saving_so (KeepSlot 2 ∷ KeepTop ∷ KeepSlot 0 ∷ [])) ≡ false
no_operand_waits = refl

put_exchanged : passes 4 (restoring_so 1 (BackSlot 2 ∷ BackSlot 1 ∷ BackSlot 0 ∷ [])) ≡ true
put_exchanged = refl

put_twice : passes 4 (restoring_so 1 (BackSlot 0 ∷ BackSlot 1 ∷ BackSlot 0 ∷ [])) ≡ false
put_twice = refl

put_to_another_kind : passes 4 (restoring_so 1 (BackSlot 1 ∷ BackSlot 0 ∷ BackSlot 2 ∷ [])) ≡ false
put_to_another_kind = refl

past_the_tick : passes 4 (restoring_so 2 (BackSlot 0 ∷ BackSlot 1 ∷ BackSlot 2 ∷ [])) ≡ false
past_the_tick = refl

abbrev put_in_order : List Instr
put_in_order = Unpack ∷ Branch ∷ Jump 12 ∷ BackSlot 0 ∷ BackSlot 1 ∷ BackSlot 2 ∷ Awake ∷ Jump 1 ∷ []

-- the test is directly after the tick
behind_a_jump : passes 5 (TestBack 9 ∷ Tick 0 ∷ Jump 3 ∷ TestSave 5 ∷ Return
    ∷ KeepSlot 2 ∷ KeepSlot 1 ∷ KeepSlot 0 ∷ Seal 0 ∷ put_in_order) ≡ false
behind_a_jump = refl

behind_the_tick : passes 5 (TestBack 9 ∷ Tick 0 ∷ TestSave 5 ∷ Jump 4 ∷ Return
    ∷ KeepSlot 2 ∷ KeepSlot 1 ∷ KeepSlot 0 ∷ Seal 0 ∷ put_in_order) ≡ true
behind_the_tick = refl

-- the way goes only forward
goes_forward : passes 4 (TestBack 9 ∷ Tick 0 ∷ TestSave 4 ∷ Return
    ∷ KeepSlot 2 ∷ Jump 6 ∷ KeepSlot 1 ∷ KeepSlot 0 ∷ Seal 0 ∷ put_in_order) ≡ true
goes_forward = refl

goes_back : passes 4 (TestBack 9 ∷ Tick 0 ∷ TestSave 6 ∷ Return
    ∷ KeepSlot 0 ∷ Seal 0 ∷ KeepSlot 2 ∷ KeepSlot 1 ∷ Jump 4 ∷ put_in_order) ≡ false
goes_back = refl
