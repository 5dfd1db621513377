-- Expressions: the machine pushes the values that they give.
use Rattle.std.proofs.Common.{◌≡◌, ℕ, ◌+◌, ◌≤◌, pos, List, [], ◌∷◌, ◌++◌, Bool, true, false, cond, Option, Some, None, refl, sym, ap, ◌∙◌, subst, arith, length, length-append, reverse, get_or, slice_set}
use Rattle.std.proofs.lemmas.Bool.Decides.{nat_tests}
use Rattle.lsl_value.specs.Values.{charge_of}
use Rattle.lsl_value.specs.declared.names.ConstantId.{ConstantId}
use Rattle.lsl_value.specs.declared.names.ConstantId.TheVariants as constant
use Rattle.lsl_value.specs.declared.tagged.Value.{Value}
use Rattle.lsl_value.specs.declared.tagged.Value.TheVariants as value
use Rattle.lsl_table.specs.Constants.{constant_value_of}
use Rattle.lsl_ops.specs.Operations.{cast_of}
use Rattle.lsl_tree.specs.declared.expression.StepOp.{StepOp}
use Rattle.lsl_tree.specs.declared.program_node.Place.{Place}
use Rattle.lsl_tree.specs.declared.program_node.Place.TheVariants.{Global, Slot}
use Rattle.lsl_tree.specs.Nodes as node
use Rattle.lsl_tree.specs.Nodes.{Node, Nodes, NoNode, AndNode}
use Rattle.lsl_tree.specs.Program.{Program}
use Rattle.lsl_tree.specs.Shape.{argument_count, IsShapedNode, AreShapedNodes, IsShaped}
use Rattle.lsl_tree.specs.Signatures.{routines_of}
use Rattle.lsl_running.specs.declared.ends.Fault.TheVariants.{StackHeap}
use Rattle.lsl_running.specs.declared.kept.Kept.{Kept}
use Rattle.lsl_running.specs.Charging.{hold_all, used, is_within, with_global}
use Rattle.lsl_running.specs.Results as whole
use Rattle.lsl_running.specs.Results.{Whole}
use Rattle.lsl_running.specs.Values.{absent, unary_value, binary_value, list_value}
use Rattle.lsl_meaning.specs.Calls.{Lower}
use Rattle.lsl_meaning.specs.Expressions.{value_at, storing, assign, step_operator, assign_step, step_behind, needed, value_of, values_of}
use Rattle.lsl_meaning.specs.State.{State, Site, holding_all, Evaluation, Gives, Stops, bind, give}
use Rattle.lsl_code.specs.declared.instructions.Instr.TheVariants as instr
use Rattle.lsl_code.specs.Acts.{gives, act}
use Rattle.lsl_code.specs.Bodies.{Body}
use Rattle.lsl_code.specs.Machine.{MachineCall, Machine, base, step}
use Rattle.lsl_code.specs.Pieces.{HasAt}
use Rattle.lsl_code.specs.Runs.{on, passed, run}
use Rattle.lsl_code.specs.Wholes.{seen}
use Rattle.lsl_gen.specs.Expressions.{literal, load, store, call_code, step_code, value_code, values_code}
use Rattle.lsl_gen.proofs.Bodies.{bodies_of}
use Rattle.lsl_gen.proofs.Calls.{popped}
use Rattle.lsl_gen.proofs.Leaves.{pushed, Results, site_of, at, led, one, give_sim, operation_sim}
use Rattle.lsl_gen.proofs.Pieces.{has_front, has_back, last_at, last_end}
use Rattle.lsl_gen.proofs.Routines.{outline, LowerSim, call_sim}
use Rattle.lsl_gen.proofs.Simulations.{Holds, Sim, then_sim, from_sim, Within}

-- how many values, and how many ticks at most
abbrev pub Values : ℕ → ℕ → List Value → State → Type 0
Values n count vs s = (s.ticks ≤ n) × (length vs ≡ count)

hold_more : (held : ℕ) (ops vs : List Value) → hold_all (hold_all held ops) vs ≡ hold_all held (vs ++ ops)
hold_more held ops [] = refl
hold_more held ops (v ∷ vs) = ap (λ n. n + charge_of v) (hold_more held ops vs)

site_more : (bodies : List Body) (f : ℕ) (outer : List MachineCall) (ops vs : List Value)
    → site_of bodies f outer (vs ++ ops) ≡ holding_all (site_of bodies f outer ops) vs
site_more bodies f outer ops vs =
    let site = site_of bodies f outer ops in
    ap (λ (held : ℕ). record site { held = held }) (sym (hold_more (base outer) ops vs))

-- a constant's value is pushed by one instruction
literal_act : (id : ConstantId) (bodies : List Body) (g : Kept) (held : ℕ) (slots ops : List Value)
    → act bodies (Some (literal (constant_value_of id))) g held slots ops
    ≡ gives held slots (constant_value_of id ∷ ops) g
literal_act constant.True bodies g held slots ops = refl
literal_act id bodies g held slots ops = refl

-- what a given value keeps to
also_sim : {A : Type 0} (P Q : A → State → Type 0) (k : A → State → Whole) (r : Evaluation A) (h : Whole)
    → Sim P k r h → Holds Q r → Sim (λ a s. P a s × Q a s) k r h
also_sim P Q k (Gives a s) h m q = record { eq = m.eq; post = (m.post, q) }
also_sim P Q k (Stops w) h m q = record { eq = m.eq; post = tt }

given_within : (b : Bool) (held : ℕ) (v : Value) (s : State)
    → is_within s.kept (used (held + charge_of v) s.slots s.kept) ≡ b
    → Holds (λ w t. is_within t.kept (used (held + charge_of w) t.slots t.kept) ≡ true)
    (cond b (Gives v s) (Stops (whole.Fails StackHeap)))
given_within true held v s e = e
given_within false held v s e = tt

given : (v : Value) (site : Site) (s : State)
    → Holds (λ w t. is_within t.kept (used (site.held + charge_of w) t.slots t.kept) ≡ true) (give v site s)
given v site s = given_within (is_within s.kept (used (site.held + charge_of v) s.slots s.kept)) site.held v s refl

less_within : (g : Kept) (a b : ℕ) → b ≤ a → is_within g a ≡ true → is_within g b ≡ true
less_within g a b le h = grind (arith, nat_tests)

module _ (p : Program) (shaped : IsShaped p)
    (law : (t : ℕ) (m : Machine) → run (bodies_of p) t m
    ≡ on (step (bodies_of p) m) (passed (bodies_of p) t m) (run (bodies_of p) t))
    (low : Lower) (n : ℕ) (lower : LowerSim p shaped law n low) where
  module _ (f : ℕ) (outer : List MachineCall) where
    load_sim : (place : Place) (pc q : ℕ) (ops : List Value) (s : State) → s.ticks ≤ n
        → seen (bodies_of p) f pc ≡ Some (load place) → pc + 1 ≡ q
        → Sim (Within n) (λ v t. at (bodies_of p) law f outer t q (v ∷ ops))
        (give (value_at place s) (site_of (bodies_of p) f outer ops) s)
        (at (bodies_of p) law f outer s pc ops)
    load_sim (Slot i) pc q ops s le e d =
        from_sim _ _ _ _ _ (one (bodies_of p) law f outer s pc ops (instr.Load i) e)
        (give_sim (bodies_of p) law f outer n pc q s s ops (get_or s.slots i absent) ops d refl refl le)
    load_sim (Global i) pc q ops s le e d =
        from_sim _ _ _ _ _ (one (bodies_of p) law f outer s pc ops (instr.LoadGlobal i) e)
        (give_sim (bodies_of p) law f outer n pc q s s ops (get_or s.kept.globals i absent) ops d refl refl le)

    store_sim : (place : Place) (v : Value) (pc q : ℕ) (ops : List Value) (s : State) → s.ticks ≤ n
        → seen (bodies_of p) f pc ≡ Some (store place) → pc + 1 ≡ q
        → Sim (Within n) (λ v t. at (bodies_of p) law f outer t q (v ∷ ops))
        (assign place v (site_of (bodies_of p) f outer ops) s) (at (bodies_of p) law f outer s pc (v ∷ ops))
    store_sim (Slot i) v pc q ops s le e d =
        from_sim _ _ _ _ _ (one (bodies_of p) law f outer s pc (v ∷ ops) (instr.Store i) e)
        (give_sim (bodies_of p) law f outer n pc q s (record s { slots = slice_set s.slots i v }) (v ∷ ops) v
        ops d refl refl le)
    store_sim (Global i) v pc q ops s le e d =
        from_sim _ _ _ _ _ (one (bodies_of p) law f outer s pc (v ∷ ops) (instr.StoreGlobal i) e)
        (give_sim (bodies_of p) law f outer n pc q s (record s { kept = with_global s.kept i v }) (v ∷ ops) v
        ops d refl refl le)

    -- the charge of a value that was held already can't be too much
    room_sim : (b : Bool) (q : ℕ) (s : State) (v : Value) (ops : List Value) → b ≡ true → s.ticks ≤ n
        → Sim (Within n) (λ w t. at (bodies_of p) law f outer t q (w ∷ ops))
        (cond b (Gives v s) (Stops (whole.Fails StackHeap))) (at (bodies_of p) law f outer s q (v ∷ ops))
    room_sim true q s v ops e le = record { eq = refl; post = le }
    room_sim false q s v ops e le = absurd cc

    -- the new value goes, and the old one is given again
    old_sim : (pc q : ℕ) (s : State) (old new : Value) (ops : List Value) → s.ticks ≤ n
        → is_within s.kept (used (hold_all (base outer) ops + charge_of old + charge_of new) s.slots s.kept)
        ≡ true
        → seen (bodies_of p) f pc ≡ Some instr.Drop → pc + 1 ≡ q
        → Sim (Within n) (λ w t. at (bodies_of p) law f outer t q (w ∷ ops))
        (give old (site_of (bodies_of p) f outer ops) s)
        (at (bodies_of p) law f outer s pc (new ∷ old ∷ ops))
    old_sim pc q s old new ops le fits e d =
        from_sim _ _ _ _ _ (one (bodies_of p) law f outer s pc (new ∷ old ∷ ops) instr.Drop e
        ∙ ap (λ q. at (bodies_of p) law f outer s q (old ∷ ops)) d)
        (room_sim (is_within s.kept (used (hold_all (base outer) ops + charge_of old) s.slots s.kept)) q s old ops
        (less_within s.kept (used (hold_all (base outer) ops + charge_of old + charge_of new) s.slots s.kept)
        (used (hold_all (base outer) ops + charge_of old) s.slots s.kept) (omega arith) fits) le)

    step_sim : (place : Place) (op : StepOp) (pc q : ℕ) (ops : List Value) (s : State) → s.ticks ≤ n
        → HasAt (bodies_of p) f pc (step_code place op) → pc + 1 + 1 + 1 + 1 + 1 + 1 ≡ q
        → Sim (Within n) (λ v t. at (bodies_of p) law f outer t q (v ∷ ops))
        (step_behind place op (site_of (bodies_of p) f outer ops) s) (at (bodies_of p) law f outer s pc ops)
    step_sim place op pc q ops s le has d =
        let site = site_of (bodies_of p) f outer in
        let at_place = at (bodies_of p) law f outer in
        let integer : Value = value.Int (pos 1) in
        then_sim (Within n) (Within n) (λ old t. at_place t (pc + 1) (old ∷ ops))
        (λ v t. at_place t q (v ∷ ops)) _
        (λ old t. bind (assign_step place op (site (old ∷ ops)) t) (λ stepped u. give old (site ops) u)) _
        (load_sim place pc (pc + 1) ops s le has.0 refl)
        (λ old t le1. then_sim (λ w u. (u.ticks ≤ n)
        × (is_within u.kept (used (hold_all (base outer) ops + charge_of old + charge_of w) u.slots u.kept)
        ≡ true)) (Within n) (λ w u. at_place u (pc + 1 + 1 + 1 + 1 + 1) (w ∷ old ∷ ops))
        (λ v u. at_place u q (v ∷ ops)) _ (λ stepped u. give old (site ops) u) _
        (then_sim (Within n) _ (λ by u. at_place u (pc + 1 + 1) (by ∷ old ∷ ops)) _ _ _ _
        (from_sim _ _ _ _ _ (one (bodies_of p) law f outer t (pc + 1) (old ∷ ops) (instr.Int (pos 1)) has.1.0)
        (give_sim (bodies_of p) law f outer n (pc + 1) (pc + 1 + 1) t t (old ∷ ops) integer (old ∷ ops) refl
        refl refl le1))
        (λ by u le2. then_sim (Within n) _ (λ v w. at_place w (pc + 1 + 1 + 1) (v ∷ by ∷ old ∷ ops)) _ _ _ _
        (load_sim place (pc + 1 + 1) (pc + 1 + 1 + 1) (by ∷ old ∷ ops) u le2 has.1.1.0 refl)
        (λ v w le3. then_sim (Within n) _ (λ r x. at_place x (pc + 1 + 1 + 1 + 1) (r ∷ old ∷ ops)) _ _ _ _
        (from_sim _ _ _ _ _ (one (bodies_of p) law f outer w (pc + 1 + 1 + 1) (v ∷ by ∷ old ∷ ops)
        (instr.Binary (step_operator op)) has.1.1.1.0)
        (operation_sim (bodies_of p) law f outer (binary_value (step_operator op) v by) n (pc + 1 + 1 + 1)
        (pc + 1 + 1 + 1 + 1) w (v ∷ by ∷ old ∷ ops) (old ∷ ops) refl le3))
        (λ r x le4. also_sim (Within n) (λ w u.
        is_within u.kept (used (hold_all (base outer) ops + charge_of old + charge_of w) u.slots u.kept)
        ≡ true) (λ w u. at_place u (pc + 1 + 1 + 1 + 1 + 1) (w ∷ old ∷ ops)) _ _
        (store_sim place r (pc + 1 + 1 + 1 + 1) (pc + 1 + 1 + 1 + 1 + 1) (old ∷ ops) x le4 has.1.1.1.1.0 refl)
        (given r (site (old ∷ ops)) (storing place r x))))))
        (λ w u post. old_sim (pc + 1 + 1 + 1 + 1 + 1) q u old w ops post.0 post.1 has.1.1.1.1.1.0 d))

    needed_sim : (q : ℕ) (ops : List Value) (o : Option Value) (s : State) → Results n true o s
        → Sim (Within n) (λ v t. at (bodies_of p) law f outer t q (v ∷ ops)) (needed o s)
        (at (bodies_of p) law f outer s q (pushed o ops))
    needed_sim q ops None s post = let never : false ≡ true = post.1 in absurd cc
    needed_sim q ops (Some v) s post = record { eq = refl; post = post.0 }

    mutual
      pub value_sim : (t : Node) (other : Bool) (pc : ℕ) (ops : List Value) (s : State) → s.ticks ≤ n
          → IsShapedNode (outline p other) t → HasAt (bodies_of p) f pc (value_code t)
          → Sim (Within n) (λ v u. at (bodies_of p) law f outer u (pc + length (value_code t)) (v ∷ ops))
          (value_of (routines_of p) low t (site_of (bodies_of p) f outer ops) s)
          (at (bodies_of p) law f outer s pc ops)
      value_sim (node.Int i) other pc ops s le sh has =
          from_sim _ _ _ _ _ (one (bodies_of p) law f outer s pc ops (instr.Int i) has.0)
          (give_sim (bodies_of p) law f outer n pc (pc + 1) s s ops (value.Int i) ops refl refl refl le)
      value_sim (node.Str text) other pc ops s le sh has =
          from_sim _ _ _ _ _ (one (bodies_of p) law f outer s pc ops (instr.Str text) has.0)
          (give_sim (bodies_of p) law f outer n pc (pc + 1) s s ops (value.Str text) ops refl refl refl le)
      value_sim (node.Constant id kind) other pc ops s le sh has =
          from_sim _ _ _ _ _ (one (bodies_of p) law f outer s pc ops (literal (constant_value_of id)) has.0
          ∙ ap (led (bodies_of p) law f outer s pc ops)
          (literal_act id (bodies_of p) s.kept (base outer) s.slots ops))
          (give_sim (bodies_of p) law f outer n pc (pc + 1) s s ops (constant_value_of id) ops refl refl refl le)
      value_sim (node.Variable place kind) other pc ops s le sh has = load_sim place pc (pc + 1) ops s le has.0 refl
      value_sim (node.Call callee kind line arguments) other pc ops s le sh has =
          let code = values_code arguments in
          let end : pc + length code + length (call_code callee line)
          ≡ pc + length (code ++ call_code callee line) =
          omega (arith, length-append code (call_code callee line)) in
          then_sim (Values n (argument_count arguments)) (Within n)
          (λ vs t. at (bodies_of p) law f outer t (pc + length code) (vs ++ ops)) _ _ _ _
          (values_sim arguments other pc ops s le sh.1 (has_front (bodies_of p) f pc code (call_code callee line) has))
          (λ vs t post. then_sim (Results n true) (Within n)
          (λ o u. at (bodies_of p) law f outer u (pc + length (code ++ call_code callee line))
          (pushed o ops)) _ _ needed _
          (call_sim p shaped law low n lower callee line other true (argument_count arguments) f outer
          (pc + length code) (pc + length (code ++ call_code callee line)) vs ops t sh.0 post.0 post.1
          (has_back (bodies_of p) f pc code (call_code callee line) has) end)
          (needed_sim (pc + length (code ++ call_code callee line)) ops))
      value_sim (node.ListLiteral elements) other pc ops s le sh has =
          let code = values_code elements in
          let i = instr.MakeList (argument_count elements) in
          then_sim (Values n (argument_count elements)) (Within n)
          (λ vs t. at (bodies_of p) law f outer t (pc + length code) (vs ++ ops)) _ _ _ _
          (values_sim elements other pc ops s le sh (has_front (bodies_of p) f pc code (i ∷ []) has))
          (λ vs t post. from_sim _ _ _ _ _
          (one (bodies_of p) law f outer t (pc + length code) (vs ++ ops) i (last_at (bodies_of p) f pc code i has)
          ∙ popped (argument_count elements) vs ops
          (λ taken rest. led (bodies_of p) law f outer t (pc + length code) (vs ++ ops)
          (gives (base outer) t.slots (list_value (reverse taken) ∷ rest) t.kept)) post.1)
          (give_sim (bodies_of p) law f outer n (pc + length code) (pc + length (code ++ i ∷ [])) t t
          (vs ++ ops) (list_value (reverse vs)) ops (last_end pc code i) refl refl post.0))
      value_sim (node.Cast kind operand) other pc ops s le sh has =
          let code = value_code operand in
          let i = instr.Cast kind in
          then_sim (Within n) (Within n) (λ v t. at (bodies_of p) law f outer t (pc + length code) (v ∷ ops)) _ _ _ _
          (value_sim operand other pc ops s le sh (has_front (bodies_of p) f pc code (i ∷ []) has))
          (λ v t le'. from_sim _ _ _ _ _ (one (bodies_of p) law f outer t (pc + length code) (v ∷ ops) i
          (last_at (bodies_of p) f pc code i has))
          (give_sim (bodies_of p) law f outer n (pc + length code) (pc + length (code ++ i ∷ [])) t t (v ∷ ops)
          (cast_of v kind) ops (last_end pc code i) refl refl le'))
      value_sim (node.Unary op operand) other pc ops s le sh has =
          let code = value_code operand in
          let i = instr.Unary op in
          then_sim (Within n) (Within n) (λ v t. at (bodies_of p) law f outer t (pc + length code) (v ∷ ops)) _ _ _ _
          (value_sim operand other pc ops s le sh (has_front (bodies_of p) f pc code (i ∷ []) has))
          (λ v t le'. from_sim _ _ _ _ _ (one (bodies_of p) law f outer t (pc + length code) (v ∷ ops) i
          (last_at (bodies_of p) f pc code i has))
          (give_sim (bodies_of p) law f outer n (pc + length code) (pc + length (code ++ i ∷ [])) t t (v ∷ ops)
          (unary_value op v) ops (last_end pc code i) refl refl le'))
      value_sim (node.Binary op kind left right) other pc ops s le sh has =
          let cl = value_code left in
          let cr = value_code right in
          let i = instr.Binary op in
          let pr = pc + length cr in
          let has_left = has_back (bodies_of p) f pc cr (cl ++ i ∷ []) has in
          let end : pr + length cl + 1 ≡ pc + length (cr ++ (cl ++ i ∷ [])) =
          omega (arith, length-append cr (cl ++ i ∷ []), length-append cl (i ∷ [])) in
          then_sim (Within n) (Within n) (λ w t. at (bodies_of p) law f outer t pr (w ∷ ops)) _ _ _ _
          (value_sim right other pc ops s le sh.1 (has_front (bodies_of p) f pc cr (cl ++ i ∷ []) has))
          (λ w t le1. then_sim (Within n) (Within n)
          (λ v u. at (bodies_of p) law f outer u (pr + length cl) (v ∷ w ∷ ops)) _ _ _ _
          (value_sim left other pr (w ∷ ops) t le1 sh.0 (has_front (bodies_of p) f pr cl (i ∷ []) has_left))
          (λ v u le2. from_sim _ _ _ _ _ (one (bodies_of p) law f outer u (pr + length cl) (v ∷ w ∷ ops) i
          (last_at (bodies_of p) f pr cl i has_left))
          (operation_sim (bodies_of p) law f outer (binary_value op v w) n (pr + length cl)
          (pc + length (cr ++ (cl ++ i ∷ []))) u (v ∷ w ∷ ops) ops end le2)))
      value_sim (node.Assign place kind operand) other pc ops s le sh has =
          let code = value_code operand in
          then_sim (Within n) (Within n) (λ v t. at (bodies_of p) law f outer t (pc + length code) (v ∷ ops)) _ _ _ _
          (value_sim operand other pc ops s le sh (has_front (bodies_of p) f pc code (store place ∷ []) has))
          (λ v t le'. store_sim place v (pc + length code) (pc + length (code ++ store place ∷ [])) ops t le'
          (last_at (bodies_of p) f pc code (store place) has) (last_end pc code (store place)))
      value_sim (node.StepBehind place op) other pc ops s le sh has =
          step_sim place op pc (pc + 6) ops s le has (omega arith)

      pub values_sim : (ts : Nodes) (other : Bool) (pc : ℕ) (ops : List Value) (s : State) → s.ticks ≤ n
          → AreShapedNodes (outline p other) ts → HasAt (bodies_of p) f pc (values_code ts)
          → Sim (Values n (argument_count ts))
          (λ vs u. at (bodies_of p) law f outer u (pc + length (values_code ts)) (vs ++ ops))
          (values_of (routines_of p) low ts (site_of (bodies_of p) f outer ops) s)
          (at (bodies_of p) law f outer s pc ops)
      values_sim NoNode other pc ops s le sh has =
          let e : pc ≡ pc + 0 = omega arith in
          record { eq = ap (λ q. at (bodies_of p) law f outer s q ops) e; post = (le, refl) }
      values_sim (AndNode ts t) other pc ops s le sh has =
          let cs = values_code ts in
          let ct = value_code t in
          let end : pc + length cs + length ct ≡ pc + length (cs ++ ct) = omega (arith, length-append cs ct) in
          then_sim (Values n (argument_count ts)) (Values n (argument_count ts + 1))
          (λ vs u. at (bodies_of p) law f outer u (pc + length cs) (vs ++ ops)) _ _ _ _
          (values_sim ts other pc ops s le sh.0 (has_front (bodies_of p) f pc cs ct has))
          (λ vs u post. subst (λ (site : Site).
          Sim (Values n (argument_count ts + 1))
          (λ vs u. at (bodies_of p) law f outer u (pc + length (cs ++ ct)) (vs ++ ops))
          (bind (value_of (routines_of p) low t site u) (λ v w. Gives (v ∷ vs) w))
          (at (bodies_of p) law f outer u (pc + length cs) (vs ++ ops)))
          (site_more (bodies_of p) f outer ops vs)
          (then_sim (Within n) (Values n (argument_count ts + 1))
          (λ v w. at (bodies_of p) law f outer w (pc + length cs + length ct) (v ∷ (vs ++ ops))) _ _
          (λ v w. Gives (v ∷ vs) w) _
          (value_sim t other (pc + length cs) (vs ++ ops) u post.0 sh.1 (has_back (bodies_of p) f pc cs ct has))
          (λ v w le'. record {
            eq = ap (λ q. at (bodies_of p) law f outer w q (v ∷ (vs ++ ops))) end;
            post =
                (le', omega (arith, post.1));
          })))
