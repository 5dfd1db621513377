-- Which code is well formed: each test is of one instruction, by its place.
use Rattle.std.specs.Prelude.{ℕ, suc, ◌+◌, List, [], ◌∷◌, ◌++◌, Bool, true, false, not, ◌&&◌, cond, Option, Some, None, nat_eq, max, length, reverse, slice_get}
use Rattle.lsl_value.specs.declared.tagged.Kind.{Kind}
use Rattle.lsl_code.specs.declared.instructions.Instr.{Instr}
use Rattle.lsl_code.specs.declared.instructions.Instr.TheVariants.{Jump, JumpIf, JumpIfNot, Tick, Call, Return, ReturnValue, GoState, Reset, TestSave, KeepSlot, KeepTop, Seal, TestBack, Unpack, BackSlot, BackTop, Branch, Again, Awake}
use Rattle.lsl_code.specs.declared.functions.Point.{Point}
use Rattle.lsl_code.specs.Bodies.{Body}
use Rattle.lsl_code.specs.Effects.{behind, waiting}
use Rattle.lsl_code.specs.Forward.{is_back}
use Rattle.lsl_code.specs.Kinds.{same_kinds, Scope}

-- the test holds of each element with its number, from this number on
abbrev pub all_places : {A : Type 0} → (ℕ → A → Bool) → ℕ → List A → Bool
all_places test k [] = true
all_places test k (x ∷ xs) = test k x && all_places test (suc k) xs

abbrev pub has_kinds : Option (Option (List Kind)) → List Kind → Bool
has_kinds None ks = false
has_kinds (Some None) ks = false
has_kinds (Some (Some js)) ks = same_kinds js (reverse ks)

-- an instruction is at this place, and the operands before it have these kinds, the top first
abbrev pub finds : Body → ℕ → List Kind → Bool
finds w place ks = has_kinds (slice_get w.stacks place) ks

-- where an instruction continues finds these operands
abbrev pub goes_on : Body → ℕ → Instr → List Kind → Bool
goes_on w k (Jump to) ks = finds w to ks
goes_on w k (JumpIf to) ks = finds w to ks && finds w (k + 1) ks
goes_on w k (JumpIfNot to) ks = finds w to ks && finds w (k + 1) ks
goes_on w k Return ks = true
goes_on w k ReturnValue ks = true
goes_on w k (GoState n) ks = true
goes_on w k Reset ks = true
goes_on w k i ks = finds w (k + 1) ks

-- no jump backward is at this place
abbrev pub is_quiet : List Instr → ℕ → Bool
is_quiet code place = not (is_back place (slice_get code place))

-- a jump backward is only directly after a tick, and no jump leads to one
abbrev pub jumps_on : List Instr → ℕ → Instr → Bool
jumps_on code k (Jump to) = is_quiet code to && is_quiet code (k + 1)
jumps_on code k (JumpIf to) = is_quiet code to && is_quiet code (k + 1)
jumps_on code k (JumpIfNot to) = is_quiet code to && is_quiet code (k + 1)
jumps_on code k (Tick point) = true
jumps_on code k i = is_quiet code (k + 1)

abbrev pub same_callee : Option ℕ → Option ℕ → Bool
same_callee None None = true
same_callee (Some f) (Some g) = nat_eq f g
same_callee None (Some g) = false
same_callee (Some f) None = false

-- the point is a tick's, or this function's call, and has these kinds in its map
abbrev pub is_point : Option Point → Option ℕ → List Kind → Bool
is_point None callee ks = false
is_point (Some point) callee ks = same_callee point.calls callee && same_kinds point.kinds ks

abbrev pub has_point : Scope → List Point → Instr → List Kind → Bool
has_point s points (Tick p) ks = is_point (slice_get points p) None (s.slots ++ reverse ks)
has_point s points (Call f p) ks =
    is_point (slice_get points p) (Some f) (s.slots ++ reverse (waiting (slice_get s.functions f) ks))
has_point s points i ks = true

abbrev pub goes_on_with : Body → ℕ → Instr → Option (List Kind) → Bool
goes_on_with w k i None = false
goes_on_with w k i (Some js) = goes_on w k i js

-- an instruction finds what it needs, and so does each where it continues
abbrev pub fits_before : Scope → Body → ℕ → Instr → List Kind → Bool
fits_before s w k i ks = goes_on_with w k i (behind s i ks) && has_point s w.points i ks

-- a running machine can be before each point's instruction, since a saved frame may name it
abbrev pub may_be_bare : Instr → Bool
may_be_bare (Tick p) = false
may_be_bare (Call f p) = false
may_be_bare i = true

abbrev pub fits_where : Scope → Body → ℕ → Instr → Option (Option (List Kind)) → Bool
fits_where s w k i None = false
fits_where s w k i (Some None) = may_be_bare i
fits_where s w k i (Some (Some js)) = fits_before s w k i (reverse js)

abbrev pub fits_at : Scope → Body → ℕ → Instr → Bool
fits_at s w k i = fits_where s w k i (slice_get w.stacks k)

abbrev pub most_operands : List (Option (List Kind)) → ℕ
most_operands [] = 0
most_operands (None ∷ stacks) = most_operands stacks
most_operands (Some ks ∷ stacks) = max (length ks) (most_operands stacks)

abbrev pub begins_with_tick : List Instr → Bool
begins_with_tick (Tick point ∷ code) = true
begins_with_tick code = false

-- one more, if the instruction has the point
abbrev pub counted : ℕ → Instr → ℕ → ℕ
counted number (Tick p) more = cond (nat_eq number p) (suc more) more
counted number (Call f p) more = cond (nat_eq number p) (suc more) more
counted number i more = more

-- how often a point occurs in the code
abbrev pub count_of : ℕ → List Instr → ℕ
count_of number [] = 0
count_of number (i ∷ is) = counted number i (count_of number is)

abbrev pub is_once : List Instr → ℕ → Point → Bool
is_once code number point = nat_eq (count_of number code) 1

-- an instruction that only runs
abbrev pub is_plain : Instr → Bool
is_plain (TestSave to) = false
is_plain (KeepSlot n) = false
is_plain KeepTop = false
is_plain (Seal point) = false
is_plain (TestBack to) = false
is_plain Unpack = false
is_plain (BackSlot n) = false
is_plain BackTop = false
is_plain Branch = false
is_plain (Again f) = false
is_plain Awake = false
is_plain i = true

abbrev pub plain_at : ℕ → Instr → Bool
plain_at k i = is_plain i
