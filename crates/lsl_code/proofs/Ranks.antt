-- How far a call can go before its next tick.
use Rattle.std.proofs.Common.{◌≡◌, ℕ, suc, ◌+◌, ◌-◌, ◌*◌, ◌<◌, ◌≤◌, List, [], ◌∷◌, ◌⊎◌, inl, inr, ⊎_elim, Bool, true, false, nat_lt, Option, None, Some, refl, ap, arith, slice_get}
use Rattle.std.proofs.lemmas.Option.{slice_get_within}
use Rattle.std.proofs.lemmas.Bool.Decides.{nat_tests}
use Rattle.lsl_code.specs.declared.instructions.Instr.{Instr}
use Rattle.lsl_code.specs.declared.instructions.Instr.TheVariants.{Jump, JumpIf, JumpIfNot, Tick, TestSave, TestBack}
use Rattle.lsl_code.specs.Bodies.{Body, instruction_in, instruction_at}
use Rattle.lsl_code.specs.Machine.{MachineCall, Machine}
use Rattle.lsl_code.specs.Runs.{length_in, fuel_in, fuel, on}
use Rattle.lsl_code.specs.Forward.{is_back, leads_back, is_tick, begins}

abbrev pub rank_jump : Bool → ℕ → ℕ → ℕ
rank_jump true place n = 3 * n + 1
rank_jump false place n = 3 * (n - place)

abbrev pub rank_test : Bool → Bool → ℕ → ℕ → ℕ
rank_test true back place n = 2
rank_test false true place n = 3 * n + 2
rank_test false false place n = 3 * (n - place)

-- how far a call can go before its next tick
abbrev pub rank_of : Option Instr → Option Instr → ℕ → ℕ → ℕ
rank_of (Some (Tick point)) next place n = 1
rank_of (Some (Jump t)) next place n = rank_jump (nat_lt t (suc place)) place n
rank_of (Some (JumpIf t)) next place n = rank_jump (nat_lt t (suc place)) place n
rank_of (Some (JumpIfNot t)) next place n = rank_jump (nat_lt t (suc place)) place n
rank_of (Some (TestSave t)) next place n = rank_test (is_tick next) (is_back (place + 1) next) place n
rank_of (Some (TestBack t)) next place n = rank_test (is_tick next) (is_back (place + 1) next) place n
rank_of _ next place n = 3 * (n - place)

abbrev pub rank_at : List Body → ℕ → ℕ → ℕ
rank_at bodies f place =
    rank_of (instruction_at bodies f place) (instruction_at bodies f (place + 1)) place
    (length_in (slice_get bodies f))

abbrev pub left_in : List Body → List MachineCall → ℕ
left_in bodies [] = 0
left_in bodies (c ∷ outer) = rank_at bodies c.function c.place + left_in bodies outer

abbrev pub left : List Body → Machine → ℕ
left bodies m = left_in bodies m.calls

-- the fuel of a run is enough
jump_most : (b : Bool) (place n : ℕ) → rank_jump b place n ≤ 3 * n + 2
jump_most true place n = omega arith
jump_most false place n = omega arith

test_most : (b c : Bool) (place n : ℕ) → rank_test b c place n ≤ 3 * n + 2
test_most true c place n = omega arith
test_most false true place n = omega arith
test_most false false place n = omega arith

rank_most : (o next : Option Instr) (place n : ℕ) → rank_of o next place n ≤ 3 * n + 2
rank_most (Some (Tick point)) next place n = omega arith
rank_most (Some (Jump t)) next place n = jump_most (nat_lt t (suc place)) place n
rank_most (Some (JumpIf t)) next place n = jump_most (nat_lt t (suc place)) place n
rank_most (Some (JumpIfNot t)) next place n = jump_most (nat_lt t (suc place)) place n
rank_most (Some (TestSave t)) next place n = test_most (is_tick next) (is_back (place + 1) next) place n
rank_most (Some (TestBack t)) next place n = test_most (is_tick next) (is_back (place + 1) next) place n
rank_most _ next place n = omega arith

pub left_in_most : (bodies : List Body) (calls : List MachineCall)
    → 2 * left_in bodies calls + 4 ≤ fuel_in bodies calls
left_in_most bodies [] = omega arith
left_in_most bodies (c ∷ outer) =
    omega (
      arith,
      rank_most (instruction_at bodies c.function c.place)
          (instruction_at bodies c.function (c.place + 1)) c.place (length_in (slice_get bodies c.function)),
      left_in_most bodies outer,
    )

pub left_most : (bodies : List Body) (m : Machine) → left bodies m ≤ fuel bodies m
left_most bodies m = omega (arith, left_in_most bodies m.calls)

-- an instruction that is there is within the code
pub fetch_within : (o : Option Body) (place : ℕ) (i : Instr) → instruction_in o place ≡ Some i → place < length_in o
fetch_within None place i e = absurd cc
fetch_within (Some body) place i e = slice_get_within body.code place i e

-- whether something is there
abbrev pub There : Option Instr → ℕ → ℕ → Type 0
There None q n = Unit {0}
There (Some i) q n = q < n

pub there_within : (b : Option Body) (place : ℕ) (o : Option Instr) → instruction_in b place ≡ o
    → There o place (length_in b)
there_within b place None e = tt
there_within b place (Some i) e = fetch_within b place i e

-- the rank of a place where a tick is near, or of one with no jump backward
abbrev pub Flat : ℕ → ℕ → ℕ → Type 0
Flat r q n = ((r ≤ 2) × (q < n)) ⊎ (r ≡ 3 * (n - q))

test_flat : (b c : Bool) (q n : ℕ) → c ≡ false → q < n → Flat (rank_test b c q n) q n
test_flat true c q n h w = inl (omega arith, w)
test_flat false true q n h w = absurd cc
test_flat false false q n h w = inr refl

pub rank_flat : (o next : Option Instr) (q n : ℕ) → There o q n → leads_back q o next ≡ false
    → Flat (rank_of o next q n) q n
rank_flat (Some (Tick point)) next q n w h = inl (omega arith, w)
rank_flat (Some (Jump t)) next q n w h = inr (ap (λ b. rank_jump b q n) h)
rank_flat (Some (JumpIf t)) next q n w h = inr (ap (λ b. rank_jump b q n) h)
rank_flat (Some (JumpIfNot t)) next q n w h = inr (ap (λ b. rank_jump b q n) h)
rank_flat (Some (TestSave t)) next q n w h = test_flat (is_tick next) (is_back (q + 1) next) q n h w
rank_flat (Some (TestBack t)) next q n w h = test_flat (is_tick next) (is_back (q + 1) next) q n h w
rank_flat None next q n w h = inr refl
rank_flat (Some i) next q n w h = inr refl

-- it is below that of an earlier one
pub rank_after : (r q n pc : ℕ) → pc < n → pc < q → Flat r q n → r < 3 * (n - pc)
rank_after r q n pc lt on h = ⊎_elim (λ e. let d = e.0 in let k = e.1 in omega arith) (λ e. omega arith) h

-- and below that of any jump backward
pub rank_back : (r q n pc : ℕ) → pc < n → Flat r q n → r < 3 * n + 1
rank_back r q n pc lt h = ⊎_elim (λ e. let d = e.0 in omega arith) (λ e. omega arith) h

-- a caller, beside its callee at its start
pub rank_enter : (e r n pc : ℕ) → e ≤ 2 → pc < n → Flat r (pc + 1) n → e + r < 3 * (n - pc)
rank_enter e r n pc le lt h = ⊎_elim (λ d. let k = d.0 in let w = d.1 in omega arith) (λ d. omega arith) h

-- a jump leads to a place of a lower rank
pub rank_go : (b : Bool) (t pc n r : ℕ) → nat_lt t (suc pc) ≡ b → pc < n → Flat r t n → r < rank_jump b pc n
rank_go true t pc n r e lt h = rank_back r t n pc lt h
rank_go false t pc n r e lt h = let on : pc < t = grind (arith, nat_tests) in rank_after r t n pc lt on h

-- and on a conditional one, straight on goes to a lower rank too
pub past_jump : (b : Bool) (pc n r : ℕ) → pc < n → Flat r (pc + 1) n → r < rank_jump b pc n
past_jump true pc n r lt flat = rank_back r (pc + 1) n pc lt flat
past_jump false pc n r lt flat = rank_after r (pc + 1) n pc lt (omega arith) flat

open_test : (b c : Bool) (q n : ℕ) → b ≡ true → rank_test b c q n ≤ 2
open_test true c q n h = omega arith
open_test false c q n h = absurd cc

-- a function's start
pub rank_open : (o next : Option Instr) (place n : ℕ) → begins o next ≡ true → rank_of o next place n ≤ 2
rank_open (Some (Tick point)) next place n h = omega arith
rank_open (Some (TestSave t)) next place n h = open_test (is_tick next) (is_back (place + 1) next) place n h
rank_open (Some (TestBack t)) next place n h = open_test (is_tick next) (is_back (place + 1) next) place n h
rank_open None next place n h = absurd cc
rank_open (Some i) next place n h = absurd cc

rank_tick : (o next : Option Instr) (place n : ℕ) → is_tick o ≡ true → rank_of o next place n ≡ 1
rank_tick (Some (Tick point)) next place n h = refl
rank_tick o next place n h = absurd cc

rank_jumps : (o next : Option Instr) (place n : ℕ) → is_back place o ≡ true → rank_of o next place n ≡ 3 * n + 1
rank_jumps (Some (Jump t)) next place n h = ap (λ b. rank_jump b place n) h
rank_jumps (Some (JumpIf t)) next place n h = ap (λ b. rank_jump b place n) h
rank_jumps (Some (JumpIfNot t)) next place n h = ap (λ b. rank_jump b place n) h
rank_jumps o next place n h = absurd cc

-- after a test
pub past_test : (b c : Bool) (pc n : ℕ) (o next : Option Instr) → is_tick o ≡ b → is_back (pc + 1) o ≡ c → pc < n
    → (c ≡ false → Flat (rank_of o next (pc + 1) n) (pc + 1) n) → rank_of o next (pc + 1) n < rank_test b c pc n
past_test true c pc n o next e d lt flat = omega (arith, rank_tick o next (pc + 1) n e)
past_test false true pc n o next e d lt flat = omega (arith, rank_jumps o next (pc + 1) n d)
past_test false false pc n o next e d lt flat = rank_after _ (pc + 1) n pc lt (omega arith) (flat refl)
