-- Code in which control goes back only after a tick: plain code, and code with tests of saving and restoring between.
use Rattle.std.specs.Prelude.{ℕ, suc, ◌+◌, ◌≡◌, Bool, true, false, nat_lt, List, Option, Some, slice_get}
use Rattle.lsl_code.specs.declared.instructions.Instr.{Instr}
use Rattle.lsl_code.specs.declared.instructions.Instr.TheVariants.{Jump, JumpIf, JumpIfNot, Tick, TestSave, TestBack, KeepSlot, KeepTop, Seal, Unpack, BackSlot, BackTop, Branch, Again, Awake}
use Rattle.lsl_code.specs.Bodies.{Body, instruction_at}

-- whether the instruction at this place is a jump backward
abbrev pub is_back : ℕ → Option Instr → Bool
is_back place (Some (Jump to)) = nat_lt to (suc place)
is_back place (Some (JumpIf to)) = nat_lt to (suc place)
is_back place (Some (JumpIfNot to)) = nat_lt to (suc place)
is_back place _ = false

-- whether a jump backward is there, or directly after a test there
abbrev pub leads_back : ℕ → Option Instr → Option Instr → Bool
leads_back place (Some (TestSave to)) next = is_back (place + 1) next
leads_back place (Some (TestBack to)) next = is_back (place + 1) next
leads_back place i next = is_back place i

abbrev pub goes_back : List Body → ℕ → ℕ → Bool
goes_back bodies f place = leads_back place (instruction_at bodies f place) (instruction_at bodies f (place + 1))

abbrev pub is_tick : Option Instr → Bool
is_tick (Some (Tick point)) = true
is_tick _ = false

-- a tick is there, or directly after a test there
abbrev pub begins : Option Instr → Option Instr → Bool
begins (Some (TestSave to)) next = is_tick next
begins (Some (TestBack to)) next = is_tick next
begins i next = is_tick i

-- a running machine doesn't continue directly after it, or only after a tick, or it is a test before a jump backward
abbrev pub frees : Instr → ℕ → Option Instr → Bool
frees (Tick point) place next = true
frees (Jump to) place next = true
frees (TestSave to) place next = is_back (place + 1) next
frees (TestBack to) place next = is_back (place + 1) next
frees (KeepSlot n) place next = true
frees KeepTop place next = true
frees (Seal point) place next = true
frees Unpack place next = true
frees (BackSlot n) place next = true
frees BackTop place next = true
frees Branch place next = true
frees (Again f) place next = true
frees Awake place next = true
frees _ place next = false

-- a jump doesn't lead to a jump backward, nor to a test before one
abbrev pub Lands : List Body → ℕ → Instr → Type 0
Lands bodies f (Jump to) = goes_back bodies f to ≡ false
Lands bodies f (JumpIf to) = goes_back bodies f to ≡ false
Lands bodies f (JumpIfNot to) = goes_back bodies f to ≡ false
Lands bodies f _ = Unit {0}

-- no jump leads to a jump backward, one is reached only after a tick, and each function begins with a tick; at most one
-- test may be between, or before
pub record Forward (bodies : List Body) : Type 0 where
  pub lands : (f place : ℕ) (i : Instr) → instruction_at bodies f place ≡ Some i → Lands bodies f i
  pub behind : (f place : ℕ) (i : Instr) → instruction_at bodies f place ≡ Some i
      → frees i place (instruction_at bodies f (place + 1)) ≡ false → goes_back bodies f (place + 1) ≡ false
  pub starts : (f : ℕ) (body : Body) → slice_get bodies f ≡ Some body
      → begins (instruction_at bodies f 0) (instruction_at bodies f 1) ≡ true
