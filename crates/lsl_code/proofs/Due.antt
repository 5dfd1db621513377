-- How often a call can still ask before its next tick: the laws of it.
use Rattle.std.proofs.Common.{◌≡◌, ℕ, zero, suc, ◌+◌, ◌<◌, ◌≤◌, List, [], ◌∷◌, Bool, true, false, nat_lt, Option, None, Some, refl, ap, arith, drop, slice_get}
use Rattle.std.proofs.lemmas.Bool.Decides.{nat_tests}
use Rattle.lsl_value.specs.declared.names.BuiltinId.{BuiltinId}
use Rattle.lsl_code.specs.declared.instructions.Instr.{Instr}
use Rattle.lsl_code.specs.declared.instructions.Instr.TheVariants.{Jump, JumpIf, JumpIfNot, Host, Tick, TestSave, TestBack}
use Rattle.lsl_code.specs.Forward.{is_back, leads_back, is_tick, begins}
use Rattle.lsl_code.specs.Laws.{hosts}
use Rattle.lsl_code.specs.Asking.{due_jump, due_test, due_of}

pub hosts_cons : (i : Instr) (is : List Instr) → hosts is ≤ hosts (i ∷ is)
hosts_cons (Host id) is = omega arith
hosts_cons i is = omega arith

pub hosts_drop : (n : ℕ) (xs : List Instr) → hosts (drop n xs) ≤ hosts xs
hosts_drop zero xs = omega arith
hosts_drop (suc n) [] = omega arith
hosts_drop (suc n) (x ∷ xs) = let a = hosts_cons x xs in let b = hosts_drop n xs in omega arith

pub hosts_later : (p q : ℕ) (xs : List Instr) → p ≤ q → hosts (drop q xs) ≤ hosts (drop p xs)
hosts_later zero q xs le = hosts_drop q xs
hosts_later (suc p) zero xs le = absurd (omega arith)
hosts_later (suc p) (suc q) [] le = omega arith
hosts_later (suc p) (suc q) (x ∷ xs) le = hosts_later p q xs (omega arith)

pub hosts_ask : (p : ℕ) (id : BuiltinId) (xs : List Instr) → slice_get xs p ≡ Some (Host id)
    → suc (hosts (drop (suc p) xs)) ≤ hosts (drop p xs)
hosts_ask p id [] e = absurd cc
hosts_ask zero id (x ∷ xs) e =
    let same : x ≡ Host id = cc in let d : hosts (x ∷ xs) ≡ suc (hosts xs) = ap (λ i. hosts (i ∷ xs)) same in
    omega arith
hosts_ask (suc p) id (x ∷ xs) e = hosts_ask p id xs e

pub jump_most : (b : Bool) (q : ℕ) (code : List Instr) → due_jump b q code ≤ hosts code
jump_most true q code = omega arith
jump_most false q code = hosts_drop q code

pub test_most : (b c : Bool) (q : ℕ) (code : List Instr) → due_test b c q code ≤ hosts code
test_most true c q code = omega arith
test_most false c q code = jump_most c q code

pub due_any : (o next : Option Instr) (q : ℕ) (code : List Instr) → due_of o next q code ≤ hosts code
due_any (Some (Tick p)) next q code = omega arith
due_any (Some (Jump t)) next q code = jump_most (nat_lt t (suc q)) q code
due_any (Some (JumpIf t)) next q code = jump_most (nat_lt t (suc q)) q code
due_any (Some (JumpIfNot t)) next q code = jump_most (nat_lt t (suc q)) q code
due_any (Some (TestSave t)) next q code = test_most (is_tick next) (is_back (q + 1) next) q code
due_any (Some (TestBack t)) next q code = test_most (is_tick next) (is_back (q + 1) next) q code
due_any None next q code = hosts_drop q code
due_any (Some i) next q code = hosts_drop q code

pub jump_flat : (b : Bool) (q : ℕ) (code : List Instr) → b ≡ false → due_jump b q code ≤ hosts (drop q code)
jump_flat true q code h = absurd cc
jump_flat false q code h = omega arith

pub test_flat : (b c : Bool) (q : ℕ) (code : List Instr) → c ≡ false → due_test b c q code ≤ hosts (drop q code)
test_flat true c q code h = omega arith
test_flat false c q code h = jump_flat c q code h

pub due_flat : (o next : Option Instr) (q : ℕ) (code : List Instr) → leads_back q o next ≡ false
    → due_of o next q code ≤ hosts (drop q code)
due_flat (Some (Tick p)) next q code h = omega arith
due_flat (Some (Jump t)) next q code h = jump_flat (nat_lt t (suc q)) q code h
due_flat (Some (JumpIf t)) next q code h = jump_flat (nat_lt t (suc q)) q code h
due_flat (Some (JumpIfNot t)) next q code h = jump_flat (nat_lt t (suc q)) q code h
due_flat (Some (TestSave t)) next q code h = test_flat (is_tick next) (is_back (q + 1) next) q code h
due_flat (Some (TestBack t)) next q code h = test_flat (is_tick next) (is_back (q + 1) next) q code h
due_flat None next q code h = omega arith
due_flat (Some i) next q code h = omega arith

pub due_go : (b : Bool) (t pc d : ℕ) (code : List Instr) → nat_lt t (suc pc) ≡ b → d ≤ hosts (drop t code)
    → d ≤ due_jump b pc code
due_go true t pc d code e le = omega (arith, hosts_drop t code)
due_go false t pc d code e le =
    let on : pc < t = grind (arith, nat_tests) in omega (arith, hosts_later pc t code (omega arith))

pub due_past : (b : Bool) (pc d : ℕ) (code : List Instr) → d ≤ hosts (drop (pc + 1) code) → d ≤ due_jump b pc code
due_past true pc d code le = omega (arith, hosts_drop (pc + 1) code)
due_past false pc d code le = omega (arith, hosts_later pc (pc + 1) code (omega arith))

pub due_tick : (o next : Option Instr) (place : ℕ) (code : List Instr) → is_tick o ≡ true
    → due_of o next place code ≡ 0
due_tick (Some (Tick point)) next place code h = refl
due_tick o next place code h = absurd cc

pub open_test : (b c : Bool) (q : ℕ) (code : List Instr) → b ≡ true → due_test b c q code ≡ 0
open_test true c q code h = refl
open_test false c q code h = absurd cc

pub due_open : (o next : Option Instr) (place : ℕ) (code : List Instr) → begins o next ≡ true
    → due_of o next place code ≡ 0
due_open (Some (Tick p)) next place code h = refl
due_open (Some (TestSave t)) next place code h = open_test (is_tick next) (is_back (place + 1) next) place code h
due_open (Some (TestBack t)) next place code h = open_test (is_tick next) (is_back (place + 1) next) place code h
due_open None next place code h = absurd cc
due_open (Some i) next place code h = absurd cc

pub past_test : (b c : Bool) (pc : ℕ) (code : List Instr) (o next : Option Instr) → is_tick o ≡ b
    → is_back (pc + 1) o ≡ c → (c ≡ false → due_of o next (pc + 1) code ≤ hosts (drop (pc + 1) code))
    → due_of o next (pc + 1) code ≤ due_test b c pc code
past_test true c pc code o next e d flat = omega (arith, due_tick o next (pc + 1) code e)
past_test false true pc code o next e d flat = due_any o next (pc + 1) code
past_test false false pc code o next e d flat = due_past false pc _ code (flat refl)
