-- A run of woven code is the run of the plain code.
use Rattle.std.proofs.Common.{◌≡◌, ℕ, zero, suc, ◌+◌, ◌-◌, ◌*◌, ◌<◌, ◌≤◌, List, [], ◌∷◌, ◌⊎◌, inl, inr, ⊎_elim, length, map, Option, Some, None, Bool, true, false, cond, refl, sym, ap, ◌∙◌, subst, arith}
use Rattle.std.specs.Prelude.{slice_get, option_map}
use Rattle.std.proofs.lemmas.Option.{slice_get-map}
use Rattle.lsl_value.specs.declared.tagged.Value.{Value}
use Rattle.lsl_running.specs.declared.host.Reply.{Reply}
use Rattle.lsl_running.specs.declared.kept.Kept.{Kept}
use Rattle.lsl_running.specs.declared.ends.Fault.TheVariants.{StackHeap}
use Rattle.lsl_code.specs.declared.functions.Point.{Point}
use Rattle.lsl_running.specs.declared.host.Reply.TheVariants as reply
use Rattle.lsl_running.specs.Calling.{is_answered_by}
use Rattle.lsl_code.specs.declared.instructions.Instr.{Instr}
use Rattle.lsl_value.specs.declared.names.BuiltinId.{BuiltinId}
use Rattle.lsl_running.specs.Charging.{hold_all, used, is_within}
use Rattle.lsl_code.specs.declared.instructions.Instr.TheVariants.{Tick, Call, TestSave, KeepSlot, KeepTop, Seal, TestBack, Unpack}
use Rattle.lsl_code.specs.Bodies.{Body, instruction_in, instruction_at}
use Rattle.lsl_code.specs.Acts.{Did, Goes, Jumps, Enters, Leaves, Passes, Asks, Ends, Fails, Stuck, act}
use Rattle.lsl_code.specs.Machine.{MachineCall, Machine, Lost, Faulted, Next, On, Pauses, Halts, Pause, Passing, Waiting, base, used_in, call_at, put, left_to, replied, answered, after, done_by, step_in, step}
use Rattle.lsl_code.specs.Runs.{fuel_in, fuel, Halt, Over, AskAt, on, steps, run, passed}
use Rattle.lsl_code.specs.Forward.{leads_back, Forward}
use Rattle.lsl_weave.specs.Layout.{offset, width, shift, save_width, saves_from, backs_from, save_place, keep_tops, keep_slots, woven_code, woven_of, all_woven}
use Rattle.lsl_weave.specs.Lifting.{woven_place, lift_waiting, lift, lift_machine, lift_halt, IsBehindCall, AreBehindCalls, OuterAreBehind}
use Rattle.lsl_code.proofs.Acts.{is_straight, By, act_by}
use Rattle.lsl_code.proofs.Ranks.{left_in, left}
use Rattle.lsl_code.specs.Wholes.{line_in, with_line}
use Rattle.lsl_code.proofs.Running.{Falls, step_falls, run_law}
use Rattle.lsl_weave.proofs.Placing.{HasAt, laid}
use Rattle.lsl_weave.proofs.Saved.{woven_found}
use Rattle.lsl_weave.proofs.Lift.{offset_none, shift_next, Lifted, first, first_at, act_lift, base_lift, fuel_top}

pub offset_past : {A : Type 0} (w : A → ℕ) (xs : List A) (k : ℕ) → length xs ≤ k
    → offset w xs k ≡ offset w xs (length xs)
offset_past w [] k le = refl
offset_past w (x ∷ xs) zero le = absurd (omega arith)
offset_past w (x ∷ xs) (suc k) le = ap (λ n. w x + n) (offset_past w xs k (omega arith))

none_past : {A : Type 0} (xs : List A) (k : ℕ) → slice_get xs k ≡ None → length xs ≤ k
none_past [] k e = omega arith
none_past (x ∷ xs) zero e = cc
none_past (x ∷ xs) (suc k) e = omega (arith, none_past xs k e)

-- an instruction at which the running mode stops, and which has no line
abbrev pub Still : Instr → Type 0
Still i = ((bs : List Body) (g : Kept) (held : ℕ) (sl ops : List Value)
    → act bs (Some i) g held sl ops ≡ Stuck)
    × ((q : ℕ) (next : Option Instr) → leads_back q (Some i) next ≡ false)
    × ((lines : List ℕ) → line_in (Some (with_line lines i)) ≡ 0)

abbrev pub StillAt : List Instr → ℕ → Type 0
StillAt code k = (i : Instr) × (slice_get code k ≡ Some i) × Still i

block_still : (code : List Instr) (s m n p : ℕ) → HasAt code s (keep_tops m (keep_slots n (Seal p ∷ [])))
    → StillAt code s
block_still code s (suc m) n p h = (KeepTop, h.0, ((λ bs g held sl ops. refl), (λ q next. refl), (λ lines. refl)))
block_still code s zero (suc n) p h = (KeepSlot n, h.0, ((λ bs g held sl ops. refl), (λ q next. refl), (λ lines. refl)))
block_still code s zero zero p h = (Seal p, h.0, ((λ bs g held sl ops. refl), (λ q next. refl), (λ lines. refl)))

-- nothing that runs follows the plain code's end
end_still : (b : Body) → StillAt (woven_code b) (saves_from b)
end_still b = by_points b.points refl
  where
    by_points : (ps : List Point) → b.points ≡ ps → StillAt (woven_code b) (saves_from b)
    by_points [] e =
        let z : backs_from b ≡ saves_from b = omega
        (arith, ap (λ ps. offset (save_width b) ps (length ps)) e) in (
          Unpack,
          subst (λ n. slice_get (woven_code b) n ≡ Some Unpack) z (laid b).unpack,
          ((λ bs g held sl ops. refl), (λ q next. refl), (λ lines. refl)),
        )
    by_points (p ∷ ps) e =
        let mapped : slice_get b.points 0 ≡ Some p = ap (λ l. slice_get l 0) e in
        let z : save_place b 0 ≡ saves_from b = omega (arith, offset_none (save_width b) b.points) in
        subst (StillAt (woven_code b)) z
        (block_still (woven_code b) (save_place b 0) _ _ 0 ((laid b).saves 0 p mapped))

pub past_still : (b : Body) (k : ℕ) → slice_get b.code k ≡ None → StillAt (woven_code b) (shift b k)
past_still b k e =
    let z : saves_from b ≡ shift b k = ap (λ n. 1 + n)
    (sym (offset_past width b.code k (none_past b.code k e))) in
    subst (StillAt (woven_code b)) z (end_still b)

-- the woven machine reaches the plain one's place, or is one test before it
abbrev pub Reaches : List Body → Machine → Machine → Type 0
Reaches bs m u = (u ≡ lift_machine bs m) ⊎ (step (all_woven bs) u ≡ On (lift_machine bs m))

-- the result of the woven step is that of the plain one
abbrev pub Alike : List Body → Next → Next → Type 0
Alike bs (On m) y = (u : Machine) × (y ≡ On u) × OuterAreBehind bs m.calls × Reaches bs m u
Alike bs (Pauses (Passing m)) y =
    (u : Machine) × (y ≡ Pauses (Passing u)) × OuterAreBehind bs m.calls
    × (step (all_woven bs) u ≡ On (lift_machine bs m)) × (2 * left bs m < fuel (all_woven bs) u)
Alike bs (Pauses (Waiting id args)) y = y ≡ Pauses (Waiting id args)
Alike bs (Halts e) y = y ≡ Halts e

-- a woven machine by its parts done_by this
woven_does : (bs : List Body) (g : Kept) (a : List Reply) (f x : ℕ) (sl ops : List Value)
    (low : List MachineCall) (b : Body) (i : Instr) → slice_get bs f ≡ Some b
    → slice_get (woven_code b) x ≡ Some i
    → step (all_woven bs) (put g a f x sl ops low) ≡ done_by (all_woven bs) (Some i) g a f x sl ops low
woven_does bs g a f x sl ops low b i found e =
    ap (λ o. done_by (all_woven bs) (instruction_in o x) g a f x sl ops low) (woven_found bs f b found)
    ∙ ap (λ o. done_by (all_woven bs) o g a f x sl ops low) e

-- the place of a lifted call
top_is : (bs : List Body) (g : Kept) (a : List Reply) (f k : ℕ) (sl ops : List Value)
    (rest : List MachineCall) (b : Body) → slice_get bs f ≡ Some b
    → put g a f (shift b k) sl ops (map (lift_waiting bs) rest) ≡ lift_machine bs (put g a f k sl ops rest)
top_is bs g a f k sl ops rest b found =
    ap (λ o. put g a f (woven_place o k) sl ops (map (lift_waiting bs) rest)) (sym found)

straight_width : (i : Instr) → is_straight i ≡ true → width i ≡ 1
straight_width (Tick p) e = absurd cc
straight_width (Call f p) e = absurd cc
straight_width i e = refl

module _ (bs : List Body) (g : Kept) (a : List Reply) where
  -- the test at a function's start
  head_step : (f : ℕ) (b : Body) (ns : List Value) (rest : List MachineCall) → slice_get bs f ≡ Some b
      → step (all_woven bs) (put g a f 0 ns [] (map (lift_waiting bs) rest))
      ≡ On (lift_machine bs (put g a f 0 ns [] rest))
  head_step f b ns rest found =
      let low = map (lift_waiting bs) rest in
      let z : 0 + 1 ≡ shift b 0 = omega (arith, offset_none width b.code) in
      woven_does bs g a f 0 ns [] low b (TestBack (backs_from b)) found (laid b).head
      ∙ ap (λ n. On (put g a f n ns [] low)) z ∙ ap On (top_is bs g a f 0 ns [] rest b found)

  -- the test after a point
  test_step : (f k t : ℕ) (sl ops : List Value) (rest : List MachineCall) (b : Body) → slice_get bs f ≡ Some b
      → slice_get (woven_code b) (shift b k + 1) ≡ Some (TestSave t) → shift b (k + 1) ≡ shift b k + 2
      → step (all_woven bs) (put g a f (shift b k + 1) sl ops (map (lift_waiting bs) rest))
      ≡ On (lift_machine bs (put g a f (k + 1) sl ops rest))
  test_step f k t sl ops rest b found e s =
      let low = map (lift_waiting bs) rest in
      let z : shift b k + 1 + 1 ≡ shift b (k + 1) = omega (arith, s) in
      woven_does bs g a f (shift b k + 1) sl ops low b (TestSave t) found e
      ∙ ap (λ n. On (put g a f n sl ops low)) z ∙ ap On (top_is bs g a f (k + 1) sl ops rest b found)

  -- a caller that has come back
  caller_reaches : (c : MachineCall) (rest : List MachineCall) (ops : List Value) → IsBehindCall bs c
      → Reaches bs (put g a c.function c.place c.slots ops rest)
      (put g a c.function (lift_waiting bs c).place c.slots ops (map (lift_waiting bs) rest))
  caller_reaches c rest ops h =
      let b = h.0 in
      let k = h.1 in
      let found = h.4 in
      let low = map (lift_waiting bs) rest in
      let z : c.place - 1 ≡ k = omega (arith, h.5) in
      let x_is : (lift_waiting bs c).place ≡ shift b k + 1 = ap (λ o. woven_place o (c.place - 1) + 1) found
      ∙ ap (λ n. shift b n + 1) z in
      let test = ((laid b).mains k (Call h.2 h.3) h.6).1.0 in
      let s = test_step c.function k (save_place b h.3) c.slots ops rest b found test
      (shift_next b k (Call h.2 h.3) h.6) in
      inr (ap (λ n. step (all_woven bs) (put g a c.function n c.slots ops low)) x_is ∙ s
      ∙ ap (λ n. On (lift_machine bs (put g a c.function n c.slots ops rest))) (sym h.5))

  checked_alike : (t t' : Bool) (m u : Machine) → t' ≡ t → OuterAreBehind bs m.calls → Reaches bs m u
      → Alike bs (cond t (On m) (Halts (Faulted StackHeap))) (cond t' (On u) (Halts (Faulted StackHeap)))
  checked_alike true t' m u e h r = (u, ap (λ b. cond b (On u) (Halts (Faulted StackHeap))) e, h, r)
  checked_alike false t' m u e h r = ap (λ b. cond b (On u) (Halts (Faulted StackHeap))) e

  left_alike : (rest : List MachineCall) (o : Option Value) → AreBehindCalls bs rest
      → Alike bs (left_to rest g a o) (left_to (map (lift_waiting bs) rest) g a o)
  left_alike [] o h = refl
  left_alike (c ∷ rest) None h = (
    put g a c.function (lift_waiting bs c).place c.slots c.operands
        (map (lift_waiting bs) rest),
    refl,
    h.1,
    caller_reaches c rest c.operands h.0,
  )
  left_alike (c ∷ rest) (Some v) h =
      let ops = v ∷ c.operands in
      let m = put g a c.function c.place c.slots ops rest in
      let u = put g a c.function (lift_waiting bs c).place c.slots ops (map (lift_waiting bs) rest) in
      checked_alike (is_within g (used_in m.calls g)) (is_within g (used_in u.calls g)) m u
      (ap (λ n. is_within g (used (hold_all n ops) c.slots g)) (base_lift bs rest)) h.1
      (caller_reaches c rest ops h.0)

  only_if_alike : (t : Bool) (x y : Next) → Alike bs x y
      → Alike bs (cond t x (Halts Lost)) (cond t y (Halts Lost))
  only_if_alike true x y h = h
  only_if_alike false x y h = refl

  answered_alike : (b : List Reply) (id : BuiltinId) (args : List Value) (go go' : Reply → List Reply → Next)
      → ((r : Reply) (more : List Reply) → Alike bs (go r more) (go' r more))
      → Alike bs (answered b id args go) (answered b id args go')
  answered_alike [] id args go go' h = refl
  answered_alike (r ∷ more) id args go go' h =
      only_if_alike (is_answered_by id r) (go r more) (go' r more) (h r more)

  replied_alike : (more : List Reply) (f k x : ℕ) (sl r : List Value) (rest : List MachineCall) (b : Body)
      → slice_get bs f ≡ Some b → x ≡ shift b (k + 1) → AreBehindCalls bs rest → (answer : Reply)
      → Alike bs (replied answer g more f (k + 1) sl r rest)
      (replied answer g more f x sl r (map (lift_waiting bs) rest))
  replied_alike more f k x sl r rest b found s h (reply.Value (Some v)) =
      let low = map (lift_waiting bs) rest in
      let m = put g more f (k + 1) sl (v ∷ r) rest in
      let u = put g more f x sl (v ∷ r) low in
      checked_alike (is_within g (used_in m.calls g)) (is_within g (used_in u.calls g)) m u
      (ap (λ n. is_within g (used (hold_all n (v ∷ r)) sl g)) (base_lift bs rest)) h
      (inl (ap (λ n. put g more f n sl (v ∷ r) low) s
      ∙ top_is bs g more f (k + 1) sl (v ∷ r) rest b found))
  replied_alike more f k x sl r rest b found s h (reply.Value None) =
      let low = map (lift_waiting bs) rest in (
        put g more f x sl r low,
        refl,
        h,
        inl
            (ap (λ n. put g more f n sl r low) s ∙ top_is bs g more f (k + 1) sl r rest b found),
      )
  replied_alike more f k x sl r rest b found s h (reply.Stop fault) = refl

  -- one instruction of a function that is there
  after_alike : (d : Did) (i : Instr) (f k : ℕ) (sl ops : List Value) (rest : List MachineCall) (b : Body)
      → slice_get bs f ≡ Some b → slice_get b.code k ≡ Some i → By bs i d → AreBehindCalls bs rest
      → (d' : Did) → Lifted b d d' → Alike bs (after d g a f k sl ops rest)
      (after d' g a f (shift b k) sl ops (map (lift_waiting bs) rest))
  after_alike (Goes sl' ops' g') i f k sl ops rest b found e by h d' l =
      let low = map (lift_waiting bs) rest in
      let s : shift b k + 1 ≡ shift b (k + 1) = omega (arith, shift_next b k i e, straight_width i by) in (
        put g' a f (shift b k + 1) sl' ops' low,
        ap (λ d. after d g a f (shift b k) sl ops low) l,
        h,
        inl
            (ap (λ n. put g' a f n sl' ops' low) s ∙ top_is bs g' a f (k + 1) sl' ops' rest b found),
      )
  after_alike (Jumps t ops') i f k sl ops rest b found e by h d' l =
      let low = map (lift_waiting bs) rest in (
        put g a f (shift b t) sl ops' low,
        ap (λ d. after d g a f (shift b k) sl ops low) l,
        h,
        inl
            (top_is bs g a f t sl ops' rest b found),
      )
  after_alike (Enters j ns r) i f k sl ops rest b found e by h d' l =
      let low = map (lift_waiting bs) rest in
      let c = call_at f (k + 1) sl r in
      let z : k + 1 - 1 ≡ k = omega arith in
      let wait : (lift_waiting bs c).place ≡ shift b k + 1 = ap (λ o. woven_place o (k + 1 - 1) + 1) found
      ∙ ap (λ n. shift b n + 1) z in
      let u = put g a j 0 ns [] (map (lift_waiting bs) (c ∷ rest)) in
      let is : slice_get b.code k ≡ Some (Call j by.0) = e ∙ ap Some by.1 in (
        u,
        ap (λ d. after d g a f (shift b k) sl ops low) l
            ∙ ap (λ n. On (put g a j 0 ns [] (call_at f n sl r ∷ low))) (sym wait),
        ((b, k, j, by.0, found, refl, is), h),
        inr (head_step j by.2 ns (c ∷ rest) by.3),
      )
  after_alike (Leaves o) i f k sl ops rest b found e by h d' l =
      subst (Alike bs (left_to rest g a o))
      (sym (ap (λ d. after d g a f (shift b k) sl ops (map (lift_waiting bs) rest)) l))
      (left_alike rest o h)
  after_alike Passes i f k sl ops rest b found e by h d' l =
      let low = map (lift_waiting bs) rest in
      let is : slice_get b.code k ≡ Some (Tick by.0) = e ∙ ap Some by.1 in
      let test = ((laid b).mains k (Tick by.0) is).1.0 in (
        put g a f (shift b k + 1) sl ops low,
        ap
            (λ d. after d g a f (shift b k) sl ops low) l,
        h,
        test_step f k
            (save_place b by.0) sl ops rest b found test (shift_next b k (Tick by.0) is),
        fuel_top bs g a f
            (k + 1) (shift b k + 1) sl ops sl ops rest,
      )
  after_alike (Asks id args r) i f k sl ops rest b found e by h d' l =
      let low = map (lift_waiting bs) rest in
      let s : shift b k + 1 ≡ shift b (k + 1) = omega (arith, shift_next b k i e, ap width by) in
      subst (Alike bs (answered a id args (λ x more. replied x g more f (k + 1) sl r rest)))
      (sym (ap (λ d. after d g a f (shift b k) sl ops low) l))
      (answered_alike a id args _ _ (λ x more. replied_alike more f k
      (shift b k + 1) sl r rest b found s h x))
  after_alike (Ends s) i f k sl ops rest b found e by h d' l =
      ap (λ d. after d g a f (shift b k) sl ops (map (lift_waiting bs) rest)) l
  after_alike (Fails x) i f k sl ops rest b found e by h d' l =
      ap (λ d. after d g a f (shift b k) sl ops (map (lift_waiting bs) rest)) l
  after_alike Stuck i f k sl ops rest b found e by h d' l =
      ap (λ d. after d g a f (shift b k) sl ops (map (lift_waiting bs) rest)) l

module _ (bs : List Body) where
  -- the woven machine stops where the plain one done_by
  unknown_alike : (g : Kept) (a : List Reply) (c : MachineCall) (rest : List MachineCall)
      → slice_get bs c.function ≡ None
      → step (all_woven bs) (lift_machine bs (record { kept = g; calls = c ∷ rest; answers = a }))
      ≡ Halts Lost
  unknown_alike g a c rest found =
      let there : slice_get (all_woven bs) c.function ≡ None = slice_get-map woven_of bs c.function
      ∙ ap (option_map woven_of) found in
      let x = woven_place (slice_get bs c.function) c.place in
      ap (λ o. done_by (all_woven bs) (instruction_in o x) g a c.function x c.slots c.operands
      (map (lift_waiting bs) rest)) there

  past_alike : (g : Kept) (a : List Reply) (f k : ℕ) (sl ops : List Value) (rest : List MachineCall)
      (b : Body) → slice_get bs f ≡ Some b → slice_get b.code k ≡ None
      → step (all_woven bs) (lift_machine bs (put g a f k sl ops rest)) ≡ Halts Lost
  past_alike g a f k sl ops rest b found e =
      let low = map (lift_waiting bs) rest in
      let s = past_still b k e in
      ap (step (all_woven bs)) (sym (top_is bs g a f k sl ops rest b found))
      ∙ woven_does bs g a f (shift b k) sl ops low b s.0 found s.1
      ∙ ap (λ d. after d g a f (shift b k) sl ops low) (s.2.0 (all_woven bs) g (base low) sl ops)

  found_alike : (g : Kept) (a : List Reply) (f k : ℕ) (sl ops : List Value) (rest : List MachineCall)
      (b : Body) (i : Instr) → slice_get bs f ≡ Some b → slice_get b.code k ≡ Some i → AreBehindCalls bs rest
      → Alike bs (done_by bs (Some i) g a f k sl ops rest)
      (step (all_woven bs) (lift_machine bs (put g a f k sl ops rest)))
  found_alike g a f k sl ops rest b i found e h =
      let ws = all_woven bs in
      let low = map (lift_waiting bs) rest in
      let d = act bs (Some i) g (base rest) sl ops in
      let d' = act ws (Some (first b i)) g (base rest) sl ops in
      let there = first_at b (woven_code b) (shift b k) k i ((laid b).mains k i e) in
      let s = ap (step ws) (sym (top_is bs g a f k sl ops rest b found))
      ∙ woven_does bs g a f (shift b k) sl ops low b (first b i) found there
      ∙ ap (λ n. after (act ws (Some (first b i)) g n sl ops) g a f (shift b k) sl ops low)
      (base_lift bs rest) in
      subst (Alike bs (after d g a f k sl ops rest)) (sym s)
      (after_alike bs g a d i f k sl ops rest b found e (act_by bs i g (base rest) sl ops) h d'
      (act_lift b bs i g (base rest) sl ops))

  fetched_alike : (g : Kept) (a : List Reply) (c : MachineCall) (rest : List MachineCall) (ob : Option Body)
      (oi : Option Instr) → AreBehindCalls bs rest → slice_get bs c.function ≡ ob
      → instruction_in ob c.place ≡ oi
      → Alike bs (done_by bs oi g a c.function c.place c.slots c.operands rest)
      (step (all_woven bs) (lift_machine bs (record { kept = g; calls = c ∷ rest; answers = a })))
  fetched_alike g a c rest None None h found e = unknown_alike g a c rest found
  fetched_alike g a c rest None (Some i) h found e = absurd cc
  fetched_alike g a c rest (Some b) None h found e =
      past_alike g a c.function c.place c.slots c.operands rest b found e
  fetched_alike g a c rest (Some b) (Some i) h found e =
      found_alike g a c.function c.place c.slots c.operands rest b i found e h

  step_in_alike : (g : Kept) (a : List Reply) (calls : List MachineCall) → OuterAreBehind bs calls
      → Alike bs (step_in bs g a calls)
      (step (all_woven bs) (lift_machine bs (record { kept = g; calls = calls; answers = a })))
  step_in_alike g a [] h = refl
  step_in_alike g a (c ∷ rest) h =
      fetched_alike g a c rest (slice_get bs c.function) (instruction_at bs c.function c.place) h refl refl

  -- one plain instruction is one or two woven ones
  pub step_alike : (m : Machine) → OuterAreBehind bs m.calls
      → Alike bs (step bs m) (step (all_woven bs) (lift_machine bs m))
  step_alike m h = step_in_alike m.kept m.answers m.calls h

run_is : (bs : List Body) (t : ℕ) (m : Machine) → run bs t m ≡ steps bs (passed bs t) (fuel bs m) m
run_is bs zero m = refl
run_is bs (suc t) m = refl

-- the first of some steps, where it pauses or halts
steps_end : (bs : List Body) (stop : Machine → Pause → Halt) (n : ℕ) (m : Machine) (y : Next) (h : Halt)
    → step bs m ≡ y → ((more : Machine → Halt) → on y (stop m) more ≡ h) → steps bs stop n m ≡ h
steps_end bs stop zero m y h e s = ap (λ x. on x (stop m) (λ next. Over Lost)) e ∙ s (λ next. Over Lost)
steps_end bs stop (suc n) m y h e s = ap (λ x. on x (stop m) (steps bs stop n)) e ∙ s (steps bs stop n)

steps_on : (bs : List Body) (stop : Machine → Pause → Halt) (n : ℕ) (m u : Machine) → step bs m ≡ On u
    → steps bs stop (suc n) m ≡ steps bs stop n u
steps_on bs stop n m u e = ap (λ x. on x (stop m) (steps bs stop n)) e

asked : (bs : List Body) (t : ℕ) (m : Machine) (id : BuiltinId) (args : List Value)
    → passed bs t m (Waiting id args) ≡ AskAt id args m t
asked bs zero m id args = refl
asked bs (suc t) m id args = refl

module _ (bs : List Body) (forward : Forward bs) where
  -- after a tick both have the same end
  abbrev TickAlike : ℕ → Type 0
  TickAlike t = (m next u : Machine) → OuterAreBehind bs next.calls
      → step (all_woven bs) u ≡ On (lift_machine bs next) → 2 * left bs next < fuel (all_woven bs) u
      → passed (all_woven bs) t (lift_machine bs m) (Passing u) ≡ lift_halt bs (passed bs t m (Passing next))

  module _ (t : ℕ) (tick : TickAlike t) where
    abbrev Stretch : ℕ → Type 0
    Stretch k = (n : ℕ) (m : Machine) → left bs m ≤ k → 2 * k ≤ n → OuterAreBehind bs m.calls
        → steps (all_woven bs) (passed (all_woven bs) t) n (lift_machine bs m) ≡ lift_halt bs (run bs t m)

    on_alike : (k n : ℕ) (m : Machine) (x : Next) → ((j : ℕ) → suc j ≡ k → Stretch j) → left bs m ≤ k
        → 2 * k ≤ n → Falls bs (left bs m) x → Alike bs x (step (all_woven bs) (lift_machine bs m))
        → steps (all_woven bs) (passed (all_woven bs) t) n (lift_machine bs m)
        ≡ lift_halt bs (on x (passed bs t m) (run bs t))
    on_alike zero n m (On next) go le more falls alike = absurd (omega arith)
    on_alike (suc k) zero m (On next) go le more falls alike = absurd (omega arith)
    on_alike (suc k) (suc zero) m (On next) go le more falls alike = absurd (omega arith)
    on_alike (suc k) (suc (suc n)) m (On next) go le more falls alike =
        let ws = all_woven bs in
        steps_on ws (passed ws t) (suc n) (lift_machine bs m) alike.0 alike.1
        ∙ ⊎_elim
        (λ (same : alike.0 ≡ lift_machine bs next). ap (steps ws (passed ws t) (suc n)) same
        ∙ go k refl (suc n) next (omega arith) (omega arith) alike.2)
        (λ (test : step ws alike.0 ≡ On (lift_machine bs next)). steps_on ws (passed ws t) n alike.0
        (lift_machine bs next) test ∙ go k refl n next (omega arith) (omega arith) alike.2)
        alike.3
    on_alike k n m (Pauses (Passing next)) go le more falls alike =
        steps_end (all_woven bs) (passed (all_woven bs) t) n (lift_machine bs m)
        (Pauses (Passing alike.0)) _ alike.1 (λ _. tick m next alike.0 alike.2 alike.3 alike.4)
    on_alike k n m (Pauses (Waiting id args)) go le more falls alike =
        steps_end (all_woven bs) (passed (all_woven bs) t) n (lift_machine bs m)
        (Pauses (Waiting id args)) _ alike
        (λ _. asked (all_woven bs) t (lift_machine bs m) id args
        ∙ sym (ap (lift_halt bs) (asked bs t m id args)))
    on_alike k n m (Halts e) go le more falls alike =
        steps_end (all_woven bs) (passed (all_woven bs) t) n (lift_machine bs m) (Halts e) _ alike (λ _. refl)

    stretch : (k : ℕ) → Stretch k
    stretch zero n m le more h =
        on_alike zero n m (step bs m) (λ j e. absurd (omega arith)) le more (step_falls bs forward m)
        (step_alike bs m h) ∙ sym (ap (lift_halt bs) (run_law bs forward t m))
    stretch (suc k) n m le more h =
        on_alike (suc k) n m (step bs m)
        (λ j e. let same : k ≡ j = omega arith in subst Stretch same (stretch k)) le more
        (step_falls bs forward m) (step_alike bs m h) ∙ sym (ap (lift_halt bs) (run_law bs forward t m))

  tick_alike : (t : ℕ) → TickAlike t
  tick_alike zero m next u h e le = refl
  tick_alike (suc t) m next u h e le = by_fuel (tick_alike t) (fuel (all_woven bs) u) refl
    where
      by_fuel : TickAlike t → (n : ℕ) → fuel (all_woven bs) u ≡ n
          → run (all_woven bs) t u ≡ lift_halt bs (run bs t next)
      by_fuel tick zero z = absurd (omega arith)
      by_fuel tick (suc n) z =
          let ws = all_woven bs in
          run_is ws t u ∙ ap (λ n. steps ws (passed ws t) n u) z
          ∙ steps_on ws (passed ws t) n u (lift_machine bs next) e
          ∙ stretch t tick (left bs next) n next (omega arith) (omega arith) h

  -- the run of the woven unit is that of the plain one
  pub runs_alike : (t : ℕ) (m : Machine) → OuterAreBehind bs m.calls
      → run (all_woven bs) t (lift_machine bs m) ≡ lift_halt bs (run bs t m)
  runs_alike t m h =
      run_is (all_woven bs) t (lift_machine bs m)
      ∙ stretch t (tick_alike t) (left bs m) (fuel (all_woven bs) (lift_machine bs m)) m (omega arith)
      (enough m.calls) h
    where
      enough : (calls : List MachineCall) → 2 * left_in bs calls ≤ fuel_in (all_woven bs) (lift bs calls)
      enough [] = omega arith
      enough (c ∷ rest) = omega (
        arith,
        fuel_top bs m.kept m.answers c.function c.place
            (woven_place (slice_get bs c.function) c.place) c.slots c.operands c.slots c.operands rest,
      )
