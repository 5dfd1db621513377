-- Calls of built-in functions, and answers of the host.
use Rattle.std.proofs.Common.{◌≡◌, ℕ, ◌+◌, ◌-◌, ◌≤◌, nat_eq, pos, List, [], ◌∷◌, ◌++◌, Bool, true, false, ◌&&◌, cond, Option, Some, None, refl, sym, ap, ap₂, ◌∙◌, subst, arith, length, get_or, take, drop, reverse}
use Rattle.std.specs.Prelude.{is_some}
use Rattle.std.proofs.lemmas.Bool.Decides.{nat_tests}
use Rattle.lsl_value.specs.declared.names.BuiltinId.{BuiltinId}
use Rattle.lsl_value.specs.declared.tagged.Kind.{Kind}
use Rattle.lsl_value.specs.declared.tagged.Value.{Value}
use Rattle.lsl_value.specs.declared.tagged.Value.TheVariants as value
use Rattle.lsl_table.specs.Calls.{row_of}
use Rattle.lsl_ops.specs.Operations.{integer_of}
use Rattle.lsl_pure.specs.Pure.{pure_of}
use Rattle.lsl_running.specs.declared.host.Reply.{Reply}
use Rattle.lsl_running.specs.declared.host.Reply.TheVariants as reply
use Rattle.lsl_running.specs.Calling as form
use Rattle.lsl_running.specs.Calling.{CallForm, call_form, parameter_count, is_answer_to, is_answered_by}
use Rattle.lsl_running.specs.Charging.{hold_all, used}
use Rattle.lsl_running.specs.Limits.{granted, grant_value, with_limit}
use Rattle.lsl_running.specs.Results as whole
use Rattle.lsl_running.specs.Results.{Whole}
use Rattle.lsl_running.specs.Values.{absent}
use Rattle.lsl_meaning.specs.Calls.{reply_given, ask, limit_given, call_builtin}
use Rattle.lsl_meaning.specs.State.{State, Evaluation, Gives, Stops, give_result, tick}
use Rattle.lsl_code.specs.declared.instructions.Instr.{Instr}
use Rattle.lsl_code.specs.declared.instructions.Instr.TheVariants as instr
use Rattle.lsl_code.specs.Acts.{Asks, gives, gives_limit}
use Rattle.lsl_code.specs.Bodies.{Body}
use Rattle.lsl_code.specs.Machine.{MachineCall, Machine, Lost, Halts, base, replied, answered, step}
use Rattle.lsl_code.specs.Pieces.{HasAt}
use Rattle.lsl_code.specs.Runs.{on, passed, run}
use Rattle.lsl_code.specs.Wholes.{told}
use Rattle.lsl_gen.specs.Expressions.{builtin_code}
use Rattle.lsl_gen.proofs.Forms.{gives_integer, takes_integer, fits_form, integer_given, integer_taken}
use Rattle.lsl_gen.proofs.Leaves.{pushed, Results, site_of, here, at, led, one, give_sim, result_sim, asked, tick_sim, received_sim}
use Rattle.lsl_gen.proofs.Simulations.{Sim, then_sim, from_sim}

take_front : (vs ops : List Value) → take (length vs) (vs ++ ops) ≡ vs
take_front [] ops = refl
take_front (v ∷ vs) ops = ap (λ l. v ∷ l) (take_front vs ops)

drop_front : (vs ops : List Value) → drop (length vs) (vs ++ ops) ≡ ops
drop_front [] ops = refl
drop_front (v ∷ vs) ops = drop_front vs ops

-- the operands that a call takes, and those below
pub popped : {A : Type 0} (n : ℕ) (vs ops : List Value) (F : List Value → List Value → A) → length vs ≡ n
    → F (take n (vs ++ ops)) (drop n (vs ++ ops)) ≡ F vs ops
popped n vs ops F e =
    ap (λ n. F (take n (vs ++ ops)) (drop n (vs ++ ops))) (sym e) ∙ ap₂ F (take_front vs ops) (drop_front vs ops)

-- an answer that the call can have brings a value where the call has a result
pub answer_fits : (result : Option Kind) (o : Option Value) → is_answer_to result (reply.Value o) ≡ true
    → is_some o ≡ is_some result
answer_fits None None e = refl
answer_fits None (Some v) e = absurd cc
answer_fits (Some kind) None e = absurd cc
answer_fits (Some kind) (Some v) e = refl

no_values : (vs : List Value) → length vs ≡ 0 → vs ≡ []
no_values [] e = refl
no_values (v ∷ vs) e = absurd (omega arith)

pub both_true : (a b : Bool) → (a && b) ≡ true → (a ≡ true) × (b ≡ true)
both_true true b e = (refl, e)
both_true false b e = absurd cc

pub empty_and : (n : ℕ) (b : Bool) → (nat_eq n 0 && b) ≡ true → (n ≡ 0) × (b ≡ true)
empty_and n b e =
    let both = both_true (nat_eq n 0) b e in
    let none : nat_eq n 0 ≡ true = both.0 in
    let zero_is : n ≡ 0 = grind (arith, nat_tests) in
    (zero_is, both.1)

module _ (bodies : List Body) (law : (t : ℕ) (m : Machine)
    → run bodies t m ≡ on (step bodies m) (passed bodies t m) (run bodies t)) (n : ℕ) (f : ℕ)
    (outer : List MachineCall) where
  pub has_sim : (b c : Bool) (k : Option Value → State → Whole) (r : Evaluation (Option Value)) (h : Whole)
      → b ≡ c → Sim (Results n b) k r h → Sim (Results n c) k r h
  has_sim b c k r h e m = subst (λ b. Sim (Results n b) k r h) e m

  replied_sim : (id : BuiltinId) (r : Reply) (q q' : ℕ) (m : Machine) (s : State) (more : List Reply) (ops : List Value)
      → is_answered_by id r ≡ true → q ≡ q' → s.ticks ≤ n
      → Sim (Results n (is_some (row_of id).result)) (λ o t. at bodies law f outer t q' (pushed o ops))
      (reply_given r (site_of bodies f outer ops) (record s { answers = more }))
      (told bodies (on (replied r s.kept more f q s.slots ops outer) (passed bodies s.ticks m) (run bodies s.ticks)))
  replied_sim id (reply.Value (Some v)) q q' m s more ops fits e le =
      has_sim true (is_some (row_of id).result) (λ o t. at bodies law f outer t q' (pushed o ops)) _ _
      (answer_fits (row_of id).result (Some v) fits)
      (received_sim bodies law f outer n q q' (passed bodies s.ticks m) (record s { answers = more }) v ops e le)
  replied_sim id (reply.Value None) q q' m s more ops fits e le =
      record {
        eq = ap (λ q. at bodies law f outer (record s { answers = more }) q ops) e;
        post =
            (le, answer_fits (row_of id).result None fits);
      }
  replied_sim id (reply.Stop fault) q q' m s more ops fits e le = record { eq = refl; post = tt }

  -- an answer is taken, or one is asked for
  answered_sim : (id : BuiltinId) (args : List Value) (answers : List Reply) (q q' : ℕ) (m : Machine)
      (s : State) (ops : List Value)
      → q ≡ q' → s.ticks ≤ n
      → Sim (Results n (is_some (row_of id).result)) (λ o t. at bodies law f outer t q' (pushed o ops))
      (ask id args (site_of bodies f outer ops) answers s)
      (told bodies (on (answered answers id args (λ r more. replied r s.kept more f q s.slots ops outer))
      (passed bodies s.ticks m) (run bodies s.ticks)))
  answered_sim id args [] q q' m s ops e le = record { eq = asked bodies law f outer s.ticks m id args; post = tt }
  answered_sim id args (r ∷ more) q q' m s ops e le = fitting (is_answered_by id r) refl
    where
      fitting : (b : Bool) → is_answered_by id r ≡ b
          → Sim (Results n (is_some (row_of id).result)) (λ o t. at bodies law f outer t q' (pushed o ops))
          (cond b (reply_given r (site_of bodies f outer ops) (record s { answers = more })) (Stops whole.Lost))
          (told bodies (on (cond b (replied r s.kept more f q s.slots ops outer) (Halts Lost))
          (passed bodies s.ticks m) (run bodies s.ticks)))
      fitting true fits = replied_sim id r q q' m s more ops fits e le
      fitting false fits = record { eq = refl; post = tt }

  host_sim : (id : BuiltinId) (pc q : ℕ) (vs ops : List Value) (s : State) → s.ticks ≤ n
      → length vs ≡ parameter_count id → HasAt bodies f pc (instr.Host id ∷ []) → pc + 1 ≡ q
      → Sim (Results n (is_some (row_of id).result)) (λ o t. at bodies law f outer t q (pushed o ops))
      (ask id (reverse vs) (site_of bodies f outer ops) s.answers s) (at bodies law f outer s pc (vs ++ ops))
  host_sim id pc q vs ops s le count has e =
      from_sim _ _ _ _ _
      (one bodies law f outer s pc (vs ++ ops) (instr.Host id) has.0
      ∙ popped (parameter_count id) vs ops
      (λ args rest. led bodies law f outer s pc (vs ++ ops) (Asks id (reverse args) rest)) count)
      (answered_sim id (reverse vs) s.answers (pc + 1) q (here bodies law f outer s pc (vs ++ ops)) s ops e le)

  -- a value that one instruction pushes is the call's result
  pushed_sim : (has : Bool) (v : Value) (pc q : ℕ) (from ops : List Value) (s : State) → true ≡ has
      → s.ticks ≤ n → pc + 1 ≡ q
      → Sim (Results n has) (λ o t. at bodies law f outer t q (pushed o ops))
      (give_result (Some v) (site_of bodies f outer ops) s)
      (led bodies law f outer s pc from (gives (base outer) s.slots (v ∷ ops) s.kept))
  pushed_sim has v pc q from ops s result le e =
      has_sim true has (λ o t. at bodies law f outer t q (pushed o ops)) _ _ result
      (result_sim bodies law f outer n q v ops s _ (give_sim bodies law f outer n pc q s s from v ops e refl refl le))

  -- a value of the script's own memory
  own_sim : (i : Instr) (has : Bool) (v : Value) (pc q : ℕ) (vs ops : List Value) (s : State)
      → vs ≡ [] → true ≡ has → s.ticks ≤ n → pc + 1 ≡ q
      → at bodies law f outer s pc ops
      ≡ led bodies law f outer s pc ops (gives (base outer) s.slots (v ∷ ops) s.kept)
      → Sim (Results n has) (λ o t. at bodies law f outer t q (pushed o ops))
      (give_result (Some v) (site_of bodies f outer ops) s) (at bodies law f outer s pc (vs ++ ops))
  own_sim i has v pc q vs ops s none result le e step =
      from_sim _ _ _ _ _ (ap (λ l. at bodies law f outer s pc (l ++ ops)) none ∙ step)
      (pushed_sim has v pc q ops ops s result le e)

  -- a limit that was set or not, and the answer
  limit_sim : (limit : Option ℕ) (has : Bool) (pc q : ℕ) (from ops : List Value) (s : State) → true ≡ has
      → s.ticks ≤ n → pc + 1 ≡ q
      → Sim (Results n has) (λ o t. at bodies law f outer t q (pushed o ops))
      (limit_given limit (site_of bodies f outer ops) s)
      (led bodies law f outer s pc from (gives_limit limit (base outer) s.slots ops s.kept))
  limit_sim limit has pc q from ops s result le e =
      let behind : State = record s { kept = with_limit limit s.kept } in
      has_sim true has (λ o t. at bodies law f outer t q (pushed o ops)) _ _ result
      (result_sim bodies law f outer n q (grant_value limit) ops behind _
      (give_sim bodies law f outer n pc q s behind from (grant_value limit) ops e refl refl le))

  set_sim : (has : Bool) (pc q : ℕ) (vs ops : List Value) (s : State) → length vs ≡ 1 → true ≡ has
      → s.ticks ≤ n → pc + 1 ≡ q → HasAt bodies f pc (instr.SetLimit ∷ [])
      → Sim (Results n has) (λ o t. at bodies law f outer t q (pushed o ops))
      (limit_given (granted (integer_of (get_or (reverse vs) 0 absent))
      (used (hold_all (base outer) ops) s.slots s.kept)) (site_of bodies f outer ops) s)
      (at bodies law f outer s pc (vs ++ ops))
  set_sim has pc q [] ops s count result le e there = absurd (omega arith)
  set_sim has pc q (v ∷ []) ops s count result le e there =
      from_sim _ _ _ _ _ (one bodies law f outer s pc (v ∷ ops) instr.SetLimit there.0)
      (limit_sim (granted (integer_of v) (used (hold_all (base outer) ops) s.slots s.kept)) has pc q (v ∷ ops) ops
      s result le e)
  set_sim has pc q (v ∷ w ∷ vs) ops s count result le e there = absurd (omega arith)

  -- a built-in call, whose arguments are pushed
  pub builtin_sim : (call : CallForm) (id : BuiltinId) (line pc q : ℕ) (vs ops : List Value) (s : State)
      → fits_form call (row_of id) ≡ true → s.ticks ≤ n → length vs ≡ parameter_count id
      → HasAt bodies f pc (builtin_code call id line) → pc + length (builtin_code call id line) ≡ q
      → Sim (Results n (is_some (row_of id).result)) (λ o t. at bodies law f outer t q (pushed o ops))
      (call_builtin call id line (reverse vs) (site_of bodies f outer ops) s) (at bodies law f outer s pc (vs ++ ops))
  builtin_sim form.Pure id line pc q vs ops s fits le count has e =
      from_sim _ _ _ _ _
      (one bodies law f outer s pc (vs ++ ops) (instr.Pure id) has.0
      ∙ popped (parameter_count id) vs ops
      (λ args rest. led bodies law f outer s pc (vs ++ ops)
      (gives (base outer) s.slots (pure_of id (reverse args) ∷ rest) s.kept)) count)
      (pushed_sim _ (pure_of id (reverse vs)) pc q (vs ++ ops) ops s (sym fits) le e)
  builtin_sim form.UsedMemory id line pc q vs ops s fits le count has e =
      let both = empty_and (parameter_count id) (gives_integer (row_of id).result) fits in
      own_sim instr.Used _ (value.Int (pos (used (hold_all (base outer) ops) s.slots s.kept))) pc q vs ops s
      (no_values vs (count ∙ both.0)) (sym (ap is_some (integer_given (row_of id).result both.1))) le e
      (one bodies law f outer s pc ops instr.Used has.0)
  builtin_sim form.FreeMemory id line pc q vs ops s fits le count has e =
      let both = empty_and (parameter_count id) (gives_integer (row_of id).result) fits in
      own_sim instr.Free _ (value.Int (pos (s.kept.limit - used (hold_all (base outer) ops) s.slots s.kept))) pc
      q vs ops s
      (no_values vs (count ∙ both.0)) (sym (ap is_some (integer_given (row_of id).result both.1))) le e
      (one bodies law f outer s pc ops instr.Free has.0)
  builtin_sim form.SetLimit id line pc q vs ops s fits le count has e =
      let both = both_true (takes_integer (row_of id).params) (gives_integer (row_of id).result) fits in
      set_sim (is_some (row_of id).result) pc q vs ops s
      (count ∙ ap length (integer_taken (row_of id).params both.0))
      (sym (ap is_some (integer_given (row_of id).result both.1))) le e has
  builtin_sim form.GetLimit id line pc q vs ops s fits le count has e =
      let both = empty_and (parameter_count id) (gives_integer (row_of id).result) fits in
      own_sim instr.GetLimit _ (value.Int (pos s.kept.limit)) pc q vs ops s
      (no_values vs (count ∙ both.0)) (sym (ap is_some (integer_given (row_of id).result both.1))) le e
      (one bodies law f outer s pc ops instr.GetLimit has.0)
  builtin_sim form.Asked id line pc q vs ops s fits le count has e = host_sim id pc q vs ops s le count has e
  builtin_sim form.AskedAndWaits id line pc q vs ops s fits le count has e =
      let d : pc + 1 + 1 ≡ q = omega (arith, e) in
      then_sim (Results n (is_some (row_of id).result)) (Results n (is_some (row_of id).result))
      (λ o t. at bodies law f outer t (pc + 1) (pushed o ops))
      (λ o t. at bodies law f outer t q (pushed o ops))
      (ask id (reverse vs) (site_of bodies f outer ops) s.answers s)
      (λ o t. tick t.ticks line (site_of bodies f outer ops) t (Gives o)) _
      (host_sim id pc (pc + 1) vs ops s le count (has.0, tt) refl)
      (λ o t post. from_sim _ _ _ _ _ (one bodies law f outer t (pc + 1) (pushed o ops) (instr.Tick line) has.1.0)
      (tick_sim bodies law f outer (Results n (is_some (row_of id).result))
      (λ o t. at bodies law f outer t q (pushed o ops)) t.ticks line (pc + 1) (pc + 1 + 1) ops
      (pushed o ops) t (Gives o) has.1.0
      (λ t' e'. record {
        eq = ap (λ q. at bodies law f outer (record t { ticks = t' }) q (pushed o ops)) d;
        post = (omega (arith, post.0, e'), post.1);
      })))
  builtin_sim form.Resets id line pc q vs ops s fits le count has e =
      record { eq = one bodies law f outer s pc (vs ++ ops) instr.Reset has.0; post = tt }
