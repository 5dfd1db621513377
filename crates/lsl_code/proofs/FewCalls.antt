-- A charge within the limit lets in few calls.
use Rattle.std.proofs.Common.{◌≡◌, ℕ, suc, ◌+◌, ◌-◌, ◌*◌, ◌<◌, ◌≤◌, ℤ, pos, List, [], ◌∷◌, Bool, true, false, cond, Option, None, Some, refl, arith, length, take, drop, reverse, get_or, slice_get, slice_set}
use Rattle.std.proofs.lemmas.Bool.Decides.{nat_tests}
use Rattle.lsl_value.specs.Values.{truth_of}
use Rattle.lsl_value.specs.declared.names.BuiltinId.{BuiltinId}
use Rattle.lsl_value.specs.declared.tagged.Value.{Value}
use Rattle.lsl_value.specs.declared.tagged.Value.TheVariants as value
use Rattle.lsl_ops.specs.Operations.{cast_of, integer_of}
use Rattle.lsl_pure.specs.Pure.{pure_of}
use Rattle.lsl_running.specs.declared.ends.Fault.TheVariants.{StackHeap}
use Rattle.lsl_running.specs.declared.host.Reply.{Reply}
use Rattle.lsl_running.specs.declared.host.Reply.TheVariants as reply
use Rattle.lsl_running.specs.declared.kept.Kept.{Kept}
use Rattle.lsl_running.specs.Calling.{parameter_count, is_answered_by}
use Rattle.lsl_running.specs.Charging.{call_charge, charges_of, hold_all, used, is_within, with_global}
use Rattle.lsl_running.specs.Limits.{granted, grant_value}
use Rattle.lsl_running.specs.Values.{absent, unary_value, binary_value, list_value}
use Rattle.lsl_running.proofs.Granting.{granted_told}
use Rattle.lsl_code.specs.declared.instructions.Instr.{Instr}
use Rattle.lsl_code.specs.declared.instructions.Instr.TheVariants.{Int, Str, Load, LoadGlobal, Store, StoreGlobal, Set, Drop, Unary, Binary, Cast, MakeList, JumpIf, JumpIfNot, Pure, Used, Free, SetLimit, GetLimit, Call, ReturnValue, TestSave, TestBack}
use Rattle.lsl_code.specs.Bodies.{Body, instruction_at}
use Rattle.lsl_code.specs.Acts.{Did, Goes, Jumps, Enters, Leaves, Passes, Asks, Ends, Fails, Stuck, on_top, or_zero_divisor, first_slots, entered, gives, gives_limit, act}
use Rattle.lsl_code.specs.Machine.{MachineCall, Machine, Faulted, Lost, Passing, Waiting, Next, On, Pauses, Halts, base, used_in, call_at, put, checked, left_to, replied, answered, after, step_in}

-- at most as many calls as the limit lets in
abbrev pub Few : Machine → Type 0
Few m = (length m.calls ≤ 2016) × (m.kept.limit ≤ 65536)

abbrev pub FewNext : Next → Type 0
FewNext (On m) = Few m
FewNext (Pauses (Passing m)) = Few m
FewNext (Pauses (Waiting id args)) = Unit {0}
FewNext (Halts e) = Unit {0}

pub held_more : (h : ℕ) (ops : List Value) → h ≤ hold_all h ops
held_more h [] = omega arith
held_more h (v ∷ ops) = let m = held_more h ops in omega arith

pub base_count : (outer : List MachineCall) → 1024 + 32 * length outer ≤ base outer
base_count [] = omega arith
base_count (c ∷ outer) = let a = base_count outer in let b = held_more (base outer) c.operands in omega arith

pub fit_few : (calls : List MachineCall) (g : Kept) → g.limit ≤ 65536 → is_within g (used_in calls g) ≡ true
    → length calls ≤ 2016
fit_few [] g lim h = omega arith
fit_few (c ∷ outer) g lim h =
    let a = base_count outer in
    let b = held_more (base outer) c.operands in
    let lt : used_in (c ∷ outer) g < suc g.limit = grind (arith, nat_tests) in
    omega arith

pub checked_few : (m : Machine) → m.kept.limit ≤ 65536 → FewNext (checked m)
checked_few m lim = by_test (is_within m.kept (used_in m.calls m.kept)) refl
  where
    by_test : (b : Bool) → is_within m.kept (used_in m.calls m.kept) ≡ b
        → FewNext (cond b (On m) (Halts (Faulted StackHeap)))
    by_test true e = (fit_few m.calls m.kept lim e, lim)
    by_test false e = tt

pub left_few : (outer : List MachineCall) (g : Kept) (a : List Reply) (o : Option Value) → length outer ≤ 2016
    → g.limit ≤ 65536 → FewNext (left_to outer g a o)
left_few [] g a o le lim = tt
left_few (c ∷ outer) g a None le lim = (le, lim)
left_few (c ∷ outer) g a (Some v) le lim = checked_few (put g a c.function c.place c.slots (v ∷ c.operands) outer) lim

pub only_if_few : (b : Bool) (x : Next) → FewNext x → FewNext (cond b x (Halts Lost))
only_if_few true x h = h
only_if_few false x h = tt

pub answered_few : (id : BuiltinId) (args : List Value) (b : List Reply) (go : Reply → List Reply → Next)
    → ((r : Reply) (more : List Reply) → FewNext (go r more)) → FewNext (answered b id args go)
answered_few id args [] go h = tt
answered_few id args (r ∷ more) go h = only_if_few (is_answered_by id r) (go r more) (h r more)

pub replied_few : (r : Reply) (g : Kept) (a : List Reply) (f q : ℕ) (sl rest : List Value)
    (outer : List MachineCall) → suc (length outer) ≤ 2016 → g.limit ≤ 65536
    → FewNext (replied r g a f q sl rest outer)
replied_few (reply.Value (Some v)) g a f q sl rest outer le lim = checked_few (put g a f q sl (v ∷ rest) outer) lim
replied_few (reply.Value None) g a f q sl rest outer le lim = (le, lim)
replied_few (reply.Stop x) g a f q sl rest outer le lim = tt

-- what an instruction keeps to: the second induction over all instructions
abbrev pub Small : Kept → ℕ → List Value → Did → Type 0
Small g held sl (Goes sl' ops' g') = g'.limit ≤ 65536
Small g held sl (Enters j ns rest) = is_within g (used (hold_all held rest + call_charge + charges_of sl) ns g) ≡ true
Small g held sl _ = Unit {0}

module _ (g : Kept) (held : ℕ) (sl : List Value) where
  gives_small : (slots ops : List Value) (g' : Kept) → g'.limit ≤ 65536 → Small g held sl (gives held slots ops g')
  gives_small slots ops g' lim =
      elim (is_within g' (used (hold_all held ops) slots g')) as
      (λ b. Small g held sl (cond b (Goes slots ops g') (Fails StackHeap))) [ true ↦ lim | false ↦ tt ]

  -- a limit that was set is at most the first one
  limit_small : (rest : List Value) (n : ℤ) (charge : ℕ) → g.limit ≤ 65536 → (limit : Option ℕ)
      → granted n charge ≡ limit → Small g held sl (gives_limit limit held sl rest g)
  limit_small rest n charge lim None is = gives_small sl (grant_value None ∷ rest) g lim
  limit_small rest n charge lim (Some m) is =
      gives_small sl (grant_value (Some m) ∷ rest) (record g { limit = m }) (granted_told n charge m is).1

  on_top_small : (ops : List Value) (go : Value → List Value → Did)
      → ((v : Value) (vs : List Value) → Small g held sl (go v vs)) → Small g held sl (on_top ops go)
  on_top_small [] go h = tt
  on_top_small (v ∷ vs) go h = h v vs

  or_zero_divisor_small : (o : Option Value) (go : Value → Did) → ((v : Value) → Small g held sl (go v))
      → Small g held sl (or_zero_divisor o go)
  or_zero_divisor_small None go h = tt
  or_zero_divisor_small (Some v) go h = h v

  branch_small : (b : Bool) (d e : Did) → Small g held sl d → Small g held sl e → Small g held sl (cond b d e)
  branch_small true d e h k = h
  branch_small false d e h k = k

  entering_small : (j : ℕ) (body : Body) (args rest : List Value) (b : Bool)
      → is_within g (used (hold_all held rest + call_charge + charges_of sl) (first_slots body args) g) ≡ b
      → Small g held sl (cond b (Enters j (first_slots body args) rest) (Fails StackHeap))
  entering_small j body args rest true e = e
  entering_small j body args rest false e = tt

  entered_small : (o : Option Body) (j : ℕ) (ops : List Value) → Small g held sl (entered o j g held sl ops)
  entered_small None j ops = tt
  entered_small (Some body) j ops =
      entering_small j body (reverse (take (length body.params) ops)) (drop (length body.params) ops) _ refl

pub act_small : (bodies : List Body) (o : Option Instr) (g : Kept) (held : ℕ) (sl ops : List Value)
    → g.limit ≤ 65536 → Small g held sl (act bodies o g held sl ops)
act_small bodies None g held sl ops lim = tt
act_small bodies (Some (Int n)) g held sl ops lim = gives_small g held sl sl (value.Int n ∷ ops) g lim
act_small bodies (Some (Str t)) g held sl ops lim = gives_small g held sl sl (value.Str t ∷ ops) g lim
act_small bodies (Some (Load x)) g held sl ops lim = gives_small g held sl sl (get_or sl x absent ∷ ops) g lim
act_small bodies (Some (LoadGlobal x)) g held sl ops lim =
    gives_small g held sl sl (get_or g.globals x absent ∷ ops) g lim
act_small bodies (Some (Store x)) g held sl ops lim =
    on_top_small g held sl ops _ (λ v rest. gives_small g held sl (slice_set sl x v) (v ∷ rest) g lim)
act_small bodies (Some (StoreGlobal x)) g held sl ops lim =
    on_top_small g held sl ops _ (λ v rest. gives_small g held sl sl (v ∷ rest) (with_global g x v) lim)
act_small bodies (Some (Set x)) g held sl ops lim = on_top_small g held sl ops _ (λ v rest. lim)
act_small bodies (Some (Unary op)) g held sl ops lim =
    on_top_small g held sl ops _ (λ v rest. gives_small g held sl sl (unary_value op v ∷ rest) g lim)
act_small bodies (Some (Binary op)) g held sl ops lim =
    on_top_small g held sl ops _
    (λ v more. on_top_small g held sl more _
    (λ w rest. or_zero_divisor_small g held sl (binary_value op v w) _
    (λ r. gives_small g held sl sl (r ∷ rest) g lim)))
act_small bodies (Some (Cast k)) g held sl ops lim =
    on_top_small g held sl ops _ (λ v rest. gives_small g held sl sl (cast_of v k ∷ rest) g lim)
act_small bodies (Some (MakeList n)) g held sl ops lim =
    gives_small g held sl sl (list_value (reverse (take n ops)) ∷ drop n ops) g lim
act_small bodies (Some (Pure id)) g held sl ops lim =
    gives_small g held sl sl
    (pure_of id (reverse (take (parameter_count id) ops)) ∷ drop (parameter_count id) ops) g lim
act_small bodies (Some Drop) g held sl ops lim = on_top_small g held sl ops _ (λ v rest. lim)
act_small bodies (Some Used) g held sl ops lim =
    gives_small g held sl sl (value.Int (pos (used (hold_all held ops) sl g)) ∷ ops) g lim
act_small bodies (Some Free) g held sl ops lim =
    gives_small g held sl sl (value.Int (pos (g.limit - used (hold_all held ops) sl g)) ∷ ops) g lim
act_small bodies (Some SetLimit) g held sl ops lim =
    on_top_small g held sl ops _
    (λ v rest. limit_small g held sl rest (integer_of v) (used (hold_all held rest) sl g) lim _ refl)
act_small bodies (Some GetLimit) g held sl ops lim =
    gives_small g held sl sl (value.Int (pos g.limit) ∷ ops) g lim
act_small bodies (Some (JumpIf t)) g held sl ops lim =
    on_top_small g held sl ops _
    (λ v rest. branch_small g held sl (truth_of v) (Jumps t rest) (Goes sl rest g) tt lim)
act_small bodies (Some (JumpIfNot t)) g held sl ops lim =
    on_top_small g held sl ops _
    (λ v rest. branch_small g held sl (truth_of v) (Goes sl rest g) (Jumps t rest) lim tt)
act_small bodies (Some (Call j p)) g held sl ops lim = entered_small g held sl (slice_get bodies j) j ops
act_small bodies (Some ReturnValue) g held sl ops lim = on_top_small g held sl ops _ (λ v rest. tt)
act_small bodies (Some (TestSave t)) g held sl ops lim = lim
act_small bodies (Some (TestBack t)) g held sl ops lim = lim
act_small bodies (Some i) g held sl ops lim = tt

pub after_few : (d : Did) (g : Kept) (a : List Reply) (f pc : ℕ) (sl ops : List Value) (outer : List MachineCall)
    → Small g (base outer) sl d → suc (length outer) ≤ 2016 → g.limit ≤ 65536
    → FewNext (after d g a f pc sl ops outer)
after_few (Goes sl' ops' g') g a f pc sl ops outer h le lim = (le, h)
after_few (Jumps t ops') g a f pc sl ops outer h le lim = (le, lim)
after_few (Enters j ns rest) g a f pc sl ops outer h le lim =
    (fit_few (call_at j 0 ns [] ∷ call_at f (pc + 1) sl rest ∷ outer) g lim h, lim)
after_few (Leaves o) g a f pc sl ops outer h le lim = left_few outer g a o (omega arith) lim
after_few Passes g a f pc sl ops outer h le lim = (le, lim)
after_few (Asks id args rest) g a f pc sl ops outer h le lim =
    answered_few id args a _ (λ r more. replied_few r g more f (pc + 1) sl rest outer le lim)
after_few (Ends s) g a f pc sl ops outer h le lim = tt
after_few (Fails x) g a f pc sl ops outer h le lim = tt
after_few Stuck g a f pc sl ops outer h le lim = tt

pub step_few : (bodies : List Body) (g : Kept) (a : List Reply) (calls : List MachineCall) → length calls ≤ 2016
    → g.limit ≤ 65536 → FewNext (step_in bodies g a calls)
step_few bodies g a [] le lim = tt
step_few bodies g a (c ∷ outer) le lim =
    after_few (act bodies (instruction_at bodies c.function c.place) g (base outer) c.slots c.operands) g a
    c.function c.place c.slots c.operands outer
    (act_small bodies (instruction_at bodies c.function c.place) g (base outer) c.slots c.operands lim) le lim
