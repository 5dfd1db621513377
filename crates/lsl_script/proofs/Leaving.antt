-- A run of a handler keeps its calls the handler's, and its globals charged within the limit.
use Rattle.std.proofs.Common.{◌≡◌, ℕ, suc, ℤ, pos, ◌+◌, ◌-◌, ◌<◌, ◌≤◌, List, [], ◌∷◌, Bool, true, false, cond, Option, None, Some, refl, arith, slice_get, length, reverse, take, drop, get_or}
use Rattle.std.proofs.lemmas.Bool.Decides.{nat_tests}
use Rattle.std.specs.Prelude.{slice_set}
use Rattle.lsl_value.specs.Values.{truth_of}
use Rattle.lsl_value.specs.declared.tagged.Value.{Value}
use Rattle.lsl_value.specs.declared.tagged.Value.TheVariants as value
use Rattle.lsl_ops.specs.Operations.{cast_of, integer_of}
use Rattle.lsl_pure.specs.Pure.{pure_of}
use Rattle.lsl_running.specs.declared.ends.Fault.TheVariants.{StackHeap}
use Rattle.lsl_running.specs.declared.host.Reply.{Reply}
use Rattle.lsl_running.specs.declared.host.Reply.TheVariants as reply
use Rattle.lsl_running.specs.declared.kept.Kept.{Kept}
use Rattle.lsl_running.specs.Calling.{parameter_count, is_answered_by}
use Rattle.lsl_running.specs.Charging.{charges_of, default_limit, hold_all, used, is_within, with_global}
use Rattle.lsl_running.specs.Limits.{granted, grant_value}
use Rattle.lsl_running.specs.Values.{absent, unary_value, binary_value, list_value}
use Rattle.lsl_running.proofs.Granting.{granted_told}
use Rattle.lsl_code.specs.declared.instructions.Instr.{Instr}
use Rattle.lsl_code.specs.declared.instructions.Instr.TheVariants.{Int, Str, Load, LoadGlobal, Store, StoreGlobal, Set, Drop, Unary, Binary, Cast, MakeList, JumpIf, JumpIfNot, Pure, Used, Free, SetLimit, GetLimit, Call, ReturnValue, TestSave, TestBack}
use Rattle.lsl_code.specs.Bodies.{Body, instruction_at}
use Rattle.lsl_code.specs.Acts.{Did, Goes, Jumps, Enters, Leaves, Passes, Asks, Ends, Fails, Stuck, on_top, or_zero_divisor, entered, first_slots, gives, gives_limit, act}
use Rattle.lsl_code.specs.Forward.{Forward}
use Rattle.lsl_code.specs.Machine.{MachineCall, Machine, End, Ended, Faulted, Lost, Passing, Waiting, Next, On, Pauses, Halts, base, used_in, put, checked, left_to, replied, after, step_in, step}
use Rattle.lsl_code.specs.Runs.{run}
use Rattle.lsl_code.specs.Standing.{IsChain, IsChainedNext}
use Rattle.lsl_code.proofs.Chaining.{stays_chained}
use Rattle.lsl_code.proofs.FewCalls.{base_count, held_more}
use Rattle.lsl_script.specs.Awake.{IsLeft}
use Rattle.lsl_script.specs.Fitting.{least_limit}
use Rattle.lsl_script.proofs.RunKeeps.{Kept as KeptBy, KeptAt, run_keeps}

abbrev pub IsLeftIn : Machine → Type 0
IsLeftIn m = IsLeft m.kept

abbrev pub IsLeftAt : End → Type 0
IsLeftAt (Ended way kept) = IsLeft kept
IsLeftAt (Faulted fault) = Unit {0}
IsLeftAt Lost = Unit {0}

abbrev LeftNext : Next → Type 0
LeftNext x = KeptBy IsLeftIn IsLeftAt x

abbrev Left : Did → Type 0
Left (Goes sl ops g) = IsLeft g
Left (Jumps to ops) = Unit {0}
Left (Enters callee slots rest) = Unit {0}
Left (Leaves given) = Unit {0}
Left Passes = Unit {0}
Left (Asks id args rest) = Unit {0}
Left (Ends way) = Unit {0}
Left (Fails fault) = Unit {0}
Left Stuck = Unit {0}

gives_left : (held : ℕ) (sl ops : List Value) (g : Kept) → IsLeft g → Left (gives held sl ops g)
gives_left held sl ops g h =
    elim (is_within g (used (hold_all held ops) sl g)) as (λ b. Left (cond b (Goes sl ops g) (Fails StackHeap)))
    [ true ↦ h | false ↦ tt ]

-- what is charged within the limit has its globals within it
gives_anew : (held : ℕ) (sl ops : List Value) (g : Kept) → least_limit ≤ g.limit → g.limit ≤ default_limit
    → Left (gives held sl ops g)
gives_anew held sl ops g least small = go (is_within g (used (hold_all held ops) sl g)) refl where
  go : (b : Bool) → is_within g (used (hold_all held ops) sl g) ≡ b → Left (cond b (Goes sl ops g) (Fails StackHeap))
  go true e =
      let within : hold_all held ops + 32 + charges_of sl + charges_of g.globals < suc g.limit = grind
      (arith, nat_tests) in
      record { least = least; limit = small; charge = omega arith }
  go false e = tt

-- a limit that was set is one that a script may have, and the globals are charged within it
limit_left : (held : ℕ) (sl rest : List Value) (g : Kept) → IsLeft g → 1024 ≤ held → (n : ℤ) (limit : Option ℕ)
    → granted n (used (hold_all held rest) sl g) ≡ limit → Left (gives_limit limit held sl rest g)
limit_left held sl rest g h low n None got = gives_left held sl (grant_value None ∷ rest) g h
limit_left held sl rest g h low n (Some m) got =
    let told = granted_told n (used (hold_all held rest) sl g) m got in
    let room : hold_all held rest + 32 + charges_of sl + charges_of g.globals + 8 ≤ m = told.0 in
    let more = held_more held rest in
    let left : IsLeft (record g { limit = m }) =
    record { least = omega arith; limit = told.1; charge = omega arith } in
    gives_left held sl (grant_value (Some m) ∷ rest) (record g { limit = m }) left

top_left : (ops : List Value) (go : Value → List Value → Did) → ((v : Value) (rest : List Value) → Left (go v rest))
    → Left (on_top ops go)
top_left [] go h = tt
top_left (v ∷ rest) go h = h v rest

divided_left : (o : Option Value) (go : Value → Did) → ((v : Value) → Left (go v)) → Left (or_zero_divisor o go)
divided_left None go h = tt
divided_left (Some v) go h = h v

choice_left : (b : Bool) (x y : Did) → Left x → Left y → Left (cond b x y)
choice_left true x y l r = l
choice_left false x y l r = r

entered_left : (o : Option Body) (callee : ℕ) (g : Kept) (held : ℕ) (sl ops : List Value)
    → Left (entered o callee g held sl ops)
entered_left None callee g held sl ops = tt
entered_left (Some body) callee g held sl ops =
    choice_left _ (Enters callee (first_slots body (reverse (take (length body.params) ops)))
    (drop (length body.params) ops))
    (Fails StackHeap) tt tt

act_left : (bodies : List Body) (o : Option Instr) (g : Kept) (held : ℕ) (sl ops : List Value) → IsLeft g
    → 1024 ≤ held → Left (act bodies o g held sl ops)
act_left bodies None g held sl ops h low = tt
act_left bodies (Some (Int n)) g held sl ops h low = gives_left held sl (value.Int n ∷ ops) g h
act_left bodies (Some (Str text)) g held sl ops h low = gives_left held sl (value.Str text ∷ ops) g h
act_left bodies (Some (Load n)) g held sl ops h low = gives_left held sl (get_or sl n absent ∷ ops) g h
act_left bodies (Some (LoadGlobal n)) g held sl ops h low = gives_left held sl (get_or g.globals n absent ∷ ops) g h
act_left bodies (Some (Store n)) g held sl ops h low =
    top_left ops _ (λ v rest. gives_left held (slice_set sl n v) (v ∷ rest) g h)
act_left bodies (Some (StoreGlobal n)) g held sl ops h low =
    top_left ops _ (λ v rest. gives_anew held sl (v ∷ rest) (with_global g n v) h.least h.limit)
act_left bodies (Some (Set n)) g held sl ops h low = top_left ops _ (λ v rest. h)
act_left bodies (Some Drop) g held sl ops h low = top_left ops _ (λ v rest. h)
act_left bodies (Some (Unary op)) g held sl ops h low =
    top_left ops _ (λ v rest. gives_left held sl (unary_value op v ∷ rest) g h)
act_left bodies (Some (Binary op)) g held sl ops h low =
    top_left ops _ (λ x more. top_left more _ (λ y rest.
    divided_left (binary_value op x y) _ (λ v. gives_left held sl (v ∷ rest) g h)))
act_left bodies (Some (Cast kind)) g held sl ops h low =
    top_left ops _ (λ v rest. gives_left held sl (cast_of v kind ∷ rest) g h)
act_left bodies (Some (MakeList n)) g held sl ops h low =
    gives_left held sl (list_value (reverse (take n ops)) ∷ drop n ops) g h
act_left bodies (Some (JumpIf to)) g held sl ops h low =
    top_left ops _ (λ v rest. choice_left (truth_of v) (Jumps to rest) (Goes sl rest g) tt h)
act_left bodies (Some (JumpIfNot to)) g held sl ops h low =
    top_left ops _ (λ v rest. choice_left (truth_of v) (Goes sl rest g) (Jumps to rest) h tt)
act_left bodies (Some (Pure id)) g held sl ops h low =
    gives_left held sl (pure_of id (reverse (take (parameter_count id) ops)) ∷ drop (parameter_count id) ops) g h
act_left bodies (Some Used) g held sl ops h low =
    gives_left held sl (value.Int (pos (used (hold_all held ops) sl g)) ∷ ops) g h
act_left bodies (Some Free) g held sl ops h low =
    gives_left held sl (value.Int (pos (g.limit - used (hold_all held ops) sl g)) ∷ ops) g h
act_left bodies (Some SetLimit) g held sl ops h low =
    top_left ops _ (λ v rest. limit_left held sl rest g h low (integer_of v) _ refl)
act_left bodies (Some GetLimit) g held sl ops h low = gives_left held sl (value.Int (pos g.limit) ∷ ops) g h
act_left bodies (Some (Call f point)) g held sl ops h low = entered_left (slice_get bodies f) f g held sl ops
act_left bodies (Some ReturnValue) g held sl ops h low = top_left ops _ (λ v rest. tt)
act_left bodies (Some (TestSave to)) g held sl ops h low = h
act_left bodies (Some (TestBack to)) g held sl ops h low = h
act_left bodies (Some i) g held sl ops h low = tt

checked_left : (m : Machine) → IsLeft m.kept → LeftNext (checked m)
checked_left m h =
    elim (is_within m.kept (used_in m.calls m.kept)) as (λ b. LeftNext (cond b (On m) (Halts (Faulted StackHeap))))
    [ true ↦ h | false ↦ tt ]

caller_left : (outer : List MachineCall) (g : Kept) (a : List Reply) (given : Option Value) → IsLeft g
    → LeftNext (left_to outer g a given)
caller_left [] g a given h = h
caller_left (c ∷ outer) g a None h = h
caller_left (c ∷ outer) g a (Some v) h =
    checked_left (put g a c.function c.place c.slots (v ∷ c.operands) outer) h

replied_left : (r : Reply) (g : Kept) (a : List Reply) (f place : ℕ) (sl rest : List Value) (outer : List MachineCall)
    → IsLeft g → LeftNext (replied r g a f place sl rest outer)
replied_left (reply.Value (Some v)) g a f place sl rest outer h = checked_left (put g a f place sl (v ∷ rest) outer) h
replied_left (reply.Value None) g a f place sl rest outer h = h
replied_left (reply.Stop fault) g a f place sl rest outer h = tt

answered_left : (b : Bool) (x : Next) → LeftNext x → LeftNext (cond b x (Halts Lost))
answered_left true x h = h
answered_left false x h = tt

after_left : (d : Did) (g : Kept) (a : List Reply) (f place : ℕ) (sl ops : List Value) (outer : List MachineCall)
    → IsLeft g → Left d → LeftNext (after d g a f place sl ops outer)
after_left (Goes sl' ops' g') g a f place sl ops outer h l = l
after_left (Jumps to ops') g a f place sl ops outer h l = h
after_left (Enters j ns rest) g a f place sl ops outer h l = h
after_left (Leaves given) g a f place sl ops outer h l = caller_left outer g a given h
after_left Passes g a f place sl ops outer h l = h
after_left (Asks id args rest) g [] f place sl ops outer h l = tt
after_left (Asks id args rest) g (r ∷ more) f place sl ops outer h l =
    answered_left (is_answered_by id r) (replied r g more f (place + 1) sl rest outer)
    (replied_left r g more f (place + 1) sl rest outer h)
after_left (Ends way) g a f place sl ops outer h l = h
after_left (Fails fault) g a f place sl ops outer h l = tt
after_left Stuck g a f place sl ops outer h l = tt

step_left : (bodies : List Body) (g : Kept) (a : List Reply) (calls : List MachineCall) → IsLeft g
    → LeftNext (step_in bodies g a calls)
step_left bodies g a [] h = tt
step_left bodies g a (c ∷ outer) h =
    let counted = base_count outer in
    let at_least : 1024 ≤ base outer = omega arith in
    after_left (act bodies (instruction_at bodies c.function c.place) g (base outer) c.slots c.operands) g a c.function
    c.place c.slots c.operands outer h
    (act_left bodies (instruction_at bodies c.function c.place) g (base outer) c.slots c.operands h at_least)

pub left_keeps : (bodies : List Body) → Forward bodies → (t : ℕ) (m : Machine) → IsLeft m.kept
    → KeptAt IsLeftIn IsLeftAt bodies (run bodies t m)
left_keeps bodies forward t m h =
    run_keeps IsLeftIn IsLeftAt bodies forward (λ n k. step_left bodies n.kept n.answers n.calls k) t m h

-- and the calls
abbrev pub IsChainIn : List Body → ℕ → Machine → Type 0
IsChainIn bodies handler m = IsChain bodies handler m.calls

abbrev pub Anyhow : End → Type 0
Anyhow e = Unit {0}

chained_kept : (bodies : List Body) (handler : ℕ) (x : Next) → IsChainedNext bodies handler x
    → KeptBy (IsChainIn bodies handler) Anyhow x
chained_kept bodies handler (On m) h = h
chained_kept bodies handler (Pauses (Passing m)) h = h
chained_kept bodies handler (Pauses (Waiting id args)) h = tt
chained_kept bodies handler (Halts e) h = tt

pub chain_keeps : (bodies : List Body) → Forward bodies → (handler t : ℕ) (m : Machine) → IsChain bodies handler m.calls
    → KeptAt (IsChainIn bodies handler) Anyhow bodies (run bodies t m)
chain_keeps bodies forward handler t m h =
    run_keeps (IsChainIn bodies handler) Anyhow bodies forward
    (λ n k. chained_kept bodies handler (step bodies n) (stays_chained bodies handler n k)) t m h
