-- Woven code runs as the plain code done_by.
use Rattle.std.proofs.Common.{◌≡◌, ℕ, zero, suc, ◌+◌, ◌*◌, ◌<◌, ◌≤◌, List, [], ◌∷◌, ◌++◌, length, map, Option, Some, None, Bool, true, false, cond, refl, sym, ap, ◌∙◌, subst, arith, length-append}
use Rattle.std.specs.Prelude.{slice_get, option_map}
use Rattle.std.proofs.lemmas.Option.{slice_get-map}
use Rattle.lsl_value.specs.declared.tagged.Value.{Value}
use Rattle.lsl_value.specs.Values.{truth_of}
use Rattle.lsl_running.specs.declared.host.Reply.{Reply}
use Rattle.lsl_running.specs.declared.kept.Kept.{Kept}
use Rattle.lsl_code.specs.declared.instructions.Instr.{Instr}
use Rattle.lsl_running.specs.Charging.{call_charge, charges_of, hold_all, used}
use Rattle.lsl_code.specs.declared.instructions.Instr.TheVariants.{Jump, JumpIf, JumpIfNot, Tick, Call, Unpack, Branch}
use Rattle.lsl_code.specs.Bodies.{Body}
use Rattle.lsl_code.specs.Acts.{Did, Goes, Jumps, Enters, Leaves, Passes, Asks, Ends, Fails, Stuck, entered, act}
use Rattle.lsl_code.specs.Machine.{MachineCall, base, used_in, call_at, put}
use Rattle.lsl_code.specs.Runs.{length_in, fuel_in, fuel}
use Rattle.lsl_weave.specs.Layout.{offset, width, shift, main, save_block, back_block, table, woven_code, woven_of, all_woven}
use Rattle.lsl_code.specs.ModeStacks.{flat}
use Rattle.lsl_weave.specs.Lifting.{lift_waiting, lift}
use Rattle.lsl_code.proofs.Acts.{LeadsTo, By, act_by}
use Rattle.lsl_code.proofs.Ranks.{left, left_in_most}
use Rattle.lsl_weave.proofs.Placing.{HasAt, flat_length, main_length}

pub offset_none : {A : Type 0} (w : A → ℕ) (xs : List A) → offset w xs 0 ≡ 0
offset_none w [] = refl
offset_none w (x ∷ xs) = refl

pub offset_next : {A : Type 0} (w : A → ℕ) (xs : List A) (k : ℕ) (x : A) → slice_get xs k ≡ Some x
    → offset w xs (suc k) ≡ offset w xs k + w x
offset_next w [] k x e = cc
offset_next w (y ∷ xs) zero x e =
    let same : y ≡ x = cc in
    omega (arith, offset_none w xs, ap w same)
offset_next w (y ∷ xs) (suc k) x e = omega (arith, offset_next w xs k x e)

pub shift_next : (b : Body) (k : ℕ) (i : Instr) → slice_get b.code k ≡ Some i
    → shift b (k + 1) ≡ shift b k + width i
shift_next b k i e =
    let z : k + 1 ≡ suc k = omega arith in
    omega (arith, offset_next width b.code k i e, ap (offset width b.code) z)

-- what one instruction makes of a call, in woven code
abbrev pub Lifted : Body → Did → Did → Type 0
Lifted b (Jumps t ops) d = d ≡ Jumps (shift b t) ops
Lifted b (Goes sl ops g) d = d ≡ Goes sl ops g
Lifted b (Enters k ns rest) d = d ≡ Enters k ns rest
Lifted b (Leaves o) d = d ≡ Leaves o
Lifted b Passes d = d ≡ Passes
Lifted b (Asks id args rest) d = d ≡ Asks id args rest
Lifted b (Ends s) d = d ≡ Ends s
Lifted b (Fails x) d = d ≡ Fails x
Lifted b Stuck d = d ≡ Stuck

-- the first of the instructions for one
abbrev pub first : Body → Instr → Instr
first b (Jump t) = Jump (shift b t)
first b (JumpIf t) = JumpIf (shift b t)
first b (JumpIfNot t) = JumpIfNot (shift b t)
first b i = i

pub first_at : (b : Body) (code : List Instr) (s k : ℕ) (i : Instr) → HasAt code s (main b k i)
    → slice_get code s ≡ Some (first b i)
first_at b code s k (Tick p) h = h.0
first_at b code s k (Call f p) h = h.0
first_at b code s k (Jump t) h = h.0
first_at b code s k (JumpIf t) h = h.0
first_at b code s k (JumpIfNot t) h = h.0
first_at b code s k _ h = h.0

entered_same : (o : Option Body) (j : ℕ) (g : Kept) (held : ℕ) (sl ops : List Value)
    → entered (option_map woven_of o) j g held sl ops ≡ entered o j g held sl ops
entered_same None j g held sl ops = refl
entered_same (Some fn) j g held sl ops = refl

module _ (b : Body) (bs : List Body) where
  -- an effect that isn't a jump is the same
  same_lifted : (i : Instr) (d : Did) → By bs i d → ((t : ℕ) → LeadsTo i t → ⊥) → Lifted b d d
  same_lifted i (Goes sl ops g) by h = refl
  same_lifted i (Jumps t ops) by h = absurd (h t by)
  same_lifted i (Enters j ns rest) by h = refl
  same_lifted i (Leaves o) by h = refl
  same_lifted i Passes by h = refl
  same_lifted i (Asks id args rest) by h = refl
  same_lifted i (Ends s) by h = refl
  same_lifted i (Fails x) by h = refl
  same_lifted i Stuck by h = refl

  branch_lifted : (c : Bool) (t : ℕ) (sl ops : List Value) (g : Kept)
      → Lifted b (cond c (Goes sl ops g) (Jumps t ops)) (cond c (Goes sl ops g) (Jumps (shift b t) ops))
  branch_lifted true t sl ops g = refl
  branch_lifted false t sl ops g = refl

  turn_lifted : (c : Bool) (t : ℕ) (sl ops : List Value) (g : Kept)
      → Lifted b (cond c (Jumps t ops) (Goes sl ops g)) (cond c (Jumps (shift b t) ops) (Goes sl ops g))
  turn_lifted true t sl ops g = refl
  turn_lifted false t sl ops g = refl

  -- the effect of plain code is that of woven code, up to where jumps lead
  pub act_lift : (i : Instr) (g : Kept) (held : ℕ) (sl ops : List Value)
      → Lifted b (act bs (Some i) g held sl ops) (act (all_woven bs) (Some (first b i)) g held sl ops)
  act_lift (Jump t) g held sl ops = refl
  act_lift (JumpIf t) g held sl [] = refl
  act_lift (JumpIf t) g held sl (v ∷ ops) = turn_lifted (truth_of v) t sl ops g
  act_lift (JumpIfNot t) g held sl [] = refl
  act_lift (JumpIfNot t) g held sl (v ∷ ops) = branch_lifted (truth_of v) t sl ops g
  act_lift (Call j p) g held sl ops =
      subst (Lifted b (entered (slice_get bs j) j g held sl ops))
      (sym (ap (λ o. entered o j g held sl ops) (slice_get-map woven_of bs j)
      ∙ entered_same (slice_get bs j) j g held sl ops))
      (same_lifted (Call j p) (entered (slice_get bs j) j g held sl ops)
      (act_by bs (Call j p) g held sl ops) (λ t x. x))
  act_lift i g held sl ops = same_lifted i (act bs (Some i) g held sl ops) (act_by bs i g held sl ops)
      (λ t x. x)

pub base_lift : (bs : List Body) (cs : List MachineCall) → base (map (lift_waiting bs) cs) ≡ base cs
base_lift bs [] = refl
base_lift bs (c ∷ cs) = ap (λ n. hold_all n c.operands + call_charge + charges_of c.slots) (base_lift bs cs)

-- the charge in woven code is the same
pub charge_lift : (bs : List Body) (calls : List MachineCall) (g : Kept)
    → used_in (lift bs calls) g ≡ used_in calls g
charge_lift bs [] g = refl
charge_lift bs (c ∷ rest) g = ap (λ n. used (hold_all n c.operands) c.slots g) (base_lift bs rest)

-- the woven code is at least as long, so its fuel is enough
width_some : (xs : List Instr) → length xs ≤ offset width xs (length xs)
width_some [] = omega arith
width_some (x ∷ xs) = omega (arith, wide x, width_some xs)
  where
    wide : (i : Instr) → 1 ≤ width i
    wide (Tick p) = omega arith
    wide (Call f p) = omega arith
    wide _ = omega arith

code_longer : (b : Body) → length b.code ≤ length (woven_code b)
code_longer b =
    omega (
      arith,
      width_some b.code,
      length-append (flat (main b) 0 b.code)
          (flat (save_block b) 0 b.points ++
          (Unpack ∷ Branch ∷ (flat (table b) 0 b.points ++ flat (back_block b) 0 b.points))),
      flat_length
          (main b) width (main_length b) 0 b.code,
    )

length_lift : (o : Option Body) → length_in o ≤ length_in (option_map woven_of o)
length_lift None = omega arith
length_lift (Some b) = code_longer b

long_lift : (bs : List Body) (f : ℕ) → length_in (slice_get bs f) ≤ length_in (slice_get (all_woven bs) f)
long_lift bs f = omega (arith, length_lift (slice_get bs f), ap length_in (slice_get-map woven_of bs f))

fuel_lift : (bs : List Body) (cs : List MachineCall)
    → fuel_in bs cs ≤ fuel_in (all_woven bs) (map (lift_waiting bs) cs)
fuel_lift bs [] = omega arith
fuel_lift bs (c ∷ cs) = omega (arith, long_lift bs c.function, fuel_lift bs cs)

-- enough for the calls that wait, whatever the innermost one is
pub fuel_top : (bs : List Body) (g : Kept) (a : List Reply) (f x y : ℕ) (sl ops sl' ops' : List Value)
    (cs : List MachineCall) → 2 * left bs (put g a f x sl ops cs) < fuel (all_woven bs)
    (put g a f y sl' ops' (map (lift_waiting bs) cs))
fuel_top bs g a f x y sl ops sl' ops' cs =
    omega (arith, left_in_most bs (call_at f x sl ops ∷ cs), long_lift bs f, fuel_lift bs cs)
