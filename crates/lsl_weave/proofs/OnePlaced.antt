-- Each point of a well-formed unit is at one place.
use Rattle.std.proofs.Common.{◌≡◌, ℕ, zero, suc, ◌≤◌, List, [], ◌∷◌, Option, Some, None, Bool, true, false, cond, refl, sym, ap, ◌∙◌, arith, slice_get}
use Rattle.std.specs.Prelude.{nat_eq}
use Rattle.lsl_value.specs.declared.tagged.Value.{Value}
use Rattle.lsl_code.specs.declared.functions.StateCode.{StateCode}
use Rattle.lsl_code.specs.declared.instructions.Instr.{Instr}
use Rattle.lsl_code.specs.declared.instructions.Instr.TheVariants.{Tick, Call}
use Rattle.lsl_code.specs.Bodies.{Body}
use Rattle.lsl_code.specs.Fits.{counted, count_of}
use Rattle.lsl_code.specs.Machine.{MachineCall}
use Rattle.lsl_code.specs.Standing.{point_instr, AreChained, IsChain}
use Rattle.lsl_code.specs.WellFormed.{IsWellFormedUnit}
use Rattle.lsl_code.proofs.AtPoints.{well_formed, some_map}
use Rattle.lsl_code.proofs.Tested.{eq_self}
use Rattle.lsl_weave.specs.Layout.{has_point, place_of}
use Rattle.lsl_weave.specs.Lifting.{AreBehindCalls, OuterAreBehind, AreOnePlaced}

counted_most : (p : ℕ) (i : Instr) (n : ℕ) → n ≤ counted p i n
counted_most p (Tick q) n = by_test (nat_eq p q)
  where
    by_test : (b : Bool) → n ≤ cond b (suc n) n
    by_test true = omega arith
    by_test false = omega arith
counted_most p (Call f q) n = by_test (nat_eq p q)
  where
    by_test : (b : Bool) → n ≤ cond b (suc n) n
    by_test true = omega arith
    by_test false = omega arith
counted_most p i n = omega arith

counted_there : (p : ℕ) (callee : Option ℕ) (n : ℕ) → counted p (point_instr callee p) n ≡ suc n
counted_there p None n = ap (λ b. cond b (suc n) n) (eq_self p)
counted_there p (Some g) n = ap (λ b. cond b (suc n) n) (eq_self p)

point_there : (p : ℕ) (callee : Option ℕ) → has_point p (point_instr callee p) ≡ true
point_there p None = eq_self p
point_there p (Some g) = eq_self p

-- what has the point is counted
counted_if : (p : ℕ) (i : Instr) (n : ℕ) → has_point p i ≡ true → counted p i n ≡ suc n
counted_if p (Tick q) n e = ap (λ b. cond b (suc n) n) e
counted_if p (Call f q) n e = ap (λ b. cond b (suc n) n) e
counted_if p i n e = absurd cc

some_count : (code : List Instr) (p k : ℕ) (callee : Option ℕ)
    → slice_get code k ≡ Some (point_instr callee p)
    → 1 ≤ count_of p code
some_count [] p k callee e = absurd cc
some_count (i ∷ code) p zero callee e =
    let same : i ≡ point_instr callee p = cc in
    omega (arith, ap (λ x. counted p x (count_of p code)) same, counted_there p callee (count_of p code))
some_count (i ∷ code) p (suc k) callee e =
    omega (arith, some_count code p k callee e, counted_most p i (count_of p code))

pub one_place : (code : List Instr) (p k : ℕ) (callee : Option ℕ) → count_of p code ≡ 1
    → slice_get code k ≡ Some (point_instr callee p) → place_of p code ≡ k
one_place [] p k callee once e = absurd cc
one_place (i ∷ code) p zero callee once e =
    let same : i ≡ point_instr callee p = cc in
    ap (λ b. cond b 0 (suc (place_of p code))) (ap (has_point p) same ∙ point_there p callee)
one_place (i ∷ code) p (suc k) callee once e =
    by_test (has_point p i) refl (λ more. one_place code p k callee more e)
  where
    by_test : (b : Bool) → has_point p i ≡ b → (count_of p code ≡ 1 → place_of p code ≡ k)
        → cond b 0 (suc (place_of p code)) ≡ suc k
    by_test true h go = absurd (omega
        (arith, once, counted_if p i (count_of p code) h, some_count code p k callee e))
    by_test false h go = ap suc (go (left h))
      where
        counted_not : (j : Instr) → has_point p j ≡ false → counted p j (count_of p code) ≡ count_of p code
        counted_not (Tick q) h = ap (λ b. cond b (suc (count_of p code)) (count_of p code)) h
        counted_not (Call f q) h = ap (λ b. cond b (suc (count_of p code)) (count_of p code)) h
        counted_not j h = refl

        left : has_point p i ≡ false → count_of p code ≡ 1
        left h = sym (counted_not i h) ∙ once

pub one_placed : (globals : List Value) (states : List StateCode) (bodies : List Body)
    → IsWellFormedUnit globals states bodies → AreOnePlaced bodies
one_placed globals states bodies ok f b found k p callee here =
    let m = (some_map globals states bodies ok f b found k p callee here).1 in
    let once = (well_formed globals states bodies ok f b found).once p m.point m.mapped in
    one_place b.code p k callee once here

-- calls that wait for one another are after calls
chained_behind : (bodies : List Body) (h g : ℕ) (outer : List MachineCall) → AreChained bodies h g outer
    → AreBehindCalls bodies outer
chained_behind bodies h g [] chain = tt
chained_behind bodies h g (c ∷ outer) chain =
    let a = chain.0 in
    ((a.0, a.1, g, a.2, a.3, a.4, a.5), chained_behind bodies h c.function outer chain.1)

pub chain_behind : (bodies : List Body) (h : ℕ) (calls : List MachineCall) → IsChain bodies h calls
    → OuterAreBehind bodies calls
chain_behind bodies h [] chain = absurd chain
chain_behind bodies h (c ∷ outer) chain = chained_behind bodies h c.function outer chain
