-- The woven code of a function: its instructions, with a test after each tick and each call, then a block for each
-- point that keeps its values, then code that takes a frame and goes to the block of the frame's point, then a block
-- for each point that puts its values back.
use Rattle.std.specs.Prelude.{ℕ, zero, suc, ◌+◌, ◌-◌, List, [], ◌∷◌, ◌++◌, Option, Some, None, Bool, false, cond, length, map, nat_eq, slice_get}
use Rattle.lsl_value.specs.declared.tagged.Kind.{Kind}
use Rattle.lsl_code.specs.declared.functions.Point.{Point}
use Rattle.lsl_code.specs.declared.instructions.Instr.{Instr}
use Rattle.lsl_code.specs.declared.instructions.Instr.TheVariants.{Jump, JumpIf, JumpIfNot, Tick, Call, TestSave, KeepSlot, KeepTop, Seal, TestBack, Unpack, BackSlot, BackTop, Branch, Again, Awake}
use Rattle.lsl_code.specs.Bodies.{Body}
use Rattle.lsl_code.specs.ModeStacks.{flat, nones}

-- the sum of the widths of the first k
abbrev pub offset : {A : Type 0} → (A → ℕ) → List A → ℕ → ℕ
offset w [] k = 0
offset w (x ∷ xs) zero = 0
offset w (x ∷ xs) (suc k) = w x + offset w xs k

-- how many woven instructions there are for one
abbrev pub width : Instr → ℕ
width (Tick p) = 2
width (Call f p) = 2
width i = 1

-- the place of a plain instruction in woven code
abbrev pub shift : Body → ℕ → ℕ
shift b k = 1 + offset width b.code k

-- how many operands wait at a point
abbrev pub waiting : Body → Point → ℕ
waiting b p = length p.kinds - length b.slots

abbrev pub save_width : Body → Point → ℕ
save_width b p = waiting b p + length b.slots + 1

abbrev pub back_width : Body → Point → ℕ
back_width b p = waiting b p + length b.slots + 2

abbrev pub saves_from : Body → ℕ
saves_from b = shift b (length b.code)

abbrev pub backs_from : Body → ℕ
backs_from b = saves_from b + offset (save_width b) b.points (length b.points)

-- the block that keeps a point's values
abbrev pub save_place : Body → ℕ → ℕ
save_place b p = saves_from b + offset (save_width b) b.points p

-- the block that puts them back
abbrev pub back_place : Body → ℕ → ℕ
back_place b p = backs_from b + 2 + length b.points + offset (back_width b) b.points p

-- the woven instructions for one
abbrev pub main : Body → ℕ → Instr → List Instr
main b k (Tick p) = Tick p ∷ TestSave (save_place b p) ∷ []
main b k (Call f p) = Call f p ∷ TestSave (save_place b p) ∷ []
main b k (Jump to) = Jump (shift b to) ∷ []
main b k (JumpIf to) = JumpIf (shift b to) ∷ []
main b k (JumpIfNot to) = JumpIfNot (shift b to) ∷ []
main b k i = i ∷ []

-- n operands are kept, from the top down
abbrev pub keep_tops : ℕ → List Instr → List Instr
keep_tops zero tail = tail
keep_tops (suc n) tail = KeepTop ∷ keep_tops n tail

-- the first n slots are kept, from the last to the first
abbrev pub keep_slots : ℕ → List Instr → List Instr
keep_slots zero tail = tail
keep_slots (suc n) tail = KeepSlot n ∷ keep_slots n tail

abbrev pub save_block : Body → ℕ → Point → List Instr
save_block b p point = keep_tops (waiting b point) (keep_slots (length b.slots) (Seal p ∷ []))

-- n slots are put back, from slot i on
abbrev pub back_slots : ℕ → ℕ → List Instr → List Instr
back_slots i zero tail = tail
back_slots i (suc n) tail = BackSlot i ∷ back_slots (suc i) n tail

abbrev pub back_tops : ℕ → List Instr → List Instr
back_tops zero tail = tail
back_tops (suc n) tail = BackTop ∷ back_tops n tail

abbrev pub has_point : ℕ → Instr → Bool
has_point p (Tick q) = nat_eq p q
has_point p (Call f q) = nat_eq p q
has_point p i = false

-- the place of a point's tick or call in plain code
abbrev pub place_of : ℕ → List Instr → ℕ
place_of p [] = 0
place_of p (i ∷ is) = cond (has_point p i) 0 (suc (place_of p is))

-- continues with the called function, and then after the call, or awake at the tick
abbrev pub back_end : Body → ℕ → Option ℕ → List Instr
back_end b p (Some f) = Again f ∷ Jump (shift b (place_of p b.code) + 1) ∷ []
back_end b p None = Awake ∷ Jump (shift b (place_of p b.code)) ∷ []

abbrev pub back_block : Body → ℕ → Point → List Instr
back_block b p point =
    back_slots 0 (length b.slots) (back_tops (waiting b point) (back_end b p point.calls))

-- to the block of a point
abbrev pub table : Body → ℕ → Point → List Instr
table b p point = Jump (back_place b p) ∷ []

abbrev pub woven_code : Body → List Instr
woven_code b =
    TestBack (backs_from b) ∷ (flat (main b) 0 b.code ++ (flat (save_block b) 0 b.points
    ++ (Unpack ∷ Branch ∷ (flat (table b) 0 b.points ++ flat (back_block b) 0 b.points))))

-- the kinds of the operands before a plain instruction, when the machine runs
abbrev pub kinds_or_none : Option (Option (List Kind)) → Option (List Kind)
kinds_or_none None = None
kinds_or_none (Some ks) = ks

abbrev pub stack_before : Body → ℕ → Option (List Kind)
stack_before b k = kinds_or_none (slice_get b.stacks k)

-- and before each of its woven instructions: before a test there are those of the next one
abbrev pub main_stacks : Body → ℕ → Instr → List (Option (List Kind))
main_stacks b k (Tick p) = stack_before b k ∷ stack_before b (k + 1) ∷ []
main_stacks b k (Call f p) = stack_before b k ∷ stack_before b (k + 1) ∷ []
main_stacks b k i = stack_before b k ∷ []

-- a running machine is never in the blocks
abbrev pub woven_stacks : Body → List (Option (List Kind))
woven_stacks b =
    Some [] ∷ (flat (main_stacks b) 0 b.code ++ nones (length (woven_code b) - saves_from b))

-- the woven code of a function's code
abbrev pub woven_of : Body → Body
woven_of b = record {
  params = b.params;
  slots = b.slots;
  result = b.result;
  most = b.most;
  points = b.points;
  lines = b.lines;
  code = woven_code b;
  stacks = woven_stacks b;
}

-- of all functions
abbrev pub all_woven : List Body → List Body
all_woven bodies = map woven_of bodies
