-- The jumps of a routine's code lead to the starts of statements, before which no operand waits.
use Rattle.std.proofs.Common.{◌≡◌, ℕ, ◌+◌, ◌<◌, List, [], ◌∷◌, ◌++◌, length, Some, Bool, true, false, cond, ◌||◌, ◌&&◌, nat_eq, pos, refl, sym, ap, ◌∙◌, subst, arith, length-append}
use Rattle.std.specs.List.{list_any}
use Rattle.std.proofs.lemmas.List.Folds.{list_any-append}
use Rattle.lsl_value.specs.declared.names.BuiltinId.{BuiltinId}
use Rattle.lsl_value.specs.declared.names.ConstantId.{ConstantId}
use Rattle.lsl_value.specs.declared.names.ConstantId.TheVariants as constant
use Rattle.lsl_table.specs.Constants.{constant_value_of}
use Rattle.lsl_tree.specs.declared.program_node.Callee.{Callee}
use Rattle.lsl_tree.specs.declared.program_node.Callee.TheVariants.{Function, Builtin}
use Rattle.lsl_tree.specs.declared.program_node.Place.{Place}
use Rattle.lsl_tree.specs.declared.program_node.Place.TheVariants.{Global, Slot}
use Rattle.lsl_tree.specs.Actions as action
use Rattle.lsl_tree.specs.Actions.{Action, Actions, NoAction, AndAction}
use Rattle.lsl_tree.specs.Effects as effect
use Rattle.lsl_tree.specs.Effects.{Effect}
use Rattle.lsl_tree.specs.Kinded as tree
use Rattle.lsl_tree.specs.Kinded.{IsKindedNode, IsKindedEffect, IsKindedAction, AreKindedActions}
use Rattle.lsl_tree.specs.Nodes as node
use Rattle.lsl_tree.specs.Nodes.{Node, Nodes, NoNode, AndNode, node_kind_of}
use Rattle.lsl_tree.specs.Program.{Routine, Program}
use Rattle.lsl_tree.specs.Shape.{labels_in, argument_count, IsShapedAction, AreShapedActions}
use Rattle.lsl_running.specs.Calling as form
use Rattle.lsl_running.specs.Calling.{CallForm, call_form}
use Rattle.lsl_meaning.specs.Expressions.{step_operator}
use Rattle.lsl_meaning.specs.Statements.{has_label}
use Rattle.lsl_code.specs.declared.instructions.Instr.{Instr}
use Rattle.lsl_code.specs.declared.instructions.Instr.TheVariants as instr
use Rattle.lsl_code.specs.Effects.{runs}
use Rattle.lsl_code.proofs.Placed.{StandsAt, has_front, has_back, falls_through, kinds_behind, join, open_at, open_jump, open_if_not, through_piece}
use Rattle.lsl_code.proofs.Tested.{within_list}
use Rattle.lsl_code.proofs.Ways.{Open, kinds_at, Clear, Ways}
use Rattle.lsl_gen.specs.Expressions.{literal, load, store, builtin_code, call_code, value_code, values_code, effect_code, effects_code}
use Rattle.lsl_gen.specs.Programs.{scope_of}
use Rattle.lsl_gen.specs.declared.label_places.LabelPlace.{LabelPlace}
use Rattle.lsl_gen.specs.Statements.{size, sizes, place_of, place_if_label, places_in, action_code, actions_code}
use Rattle.lsl_gen.proofs.LabelScopes.{placed_in, has_label-append, has_contained}
use Rattle.lsl_gen.proofs.Lengths.{code_length, codes_length}
use Rattle.lsl_gen.proofs.Operands.{value_runs, effects_run, action_runs, actions_run}
use Rattle.lsl_gen.proofs.Routines.{outline}

falls_load : (place : Place) → falls_through (load place) ≡ true
falls_load (Slot i) = refl
falls_load (Global i) = refl

falls_store : (place : Place) → falls_through (store place) ≡ true
falls_store (Slot i) = refl
falls_store (Global i) = refl

falls_literal : (id : ConstantId) → falls_through (literal (constant_value_of id)) ≡ true
falls_literal constant.True = refl
falls_literal id = refl

either : (b c d : Bool) → (b || c) ≡ true → (c ≡ true → d ≡ true) → (b || d) ≡ true
either true c d e f = refl
either false c d e f = f e

module _ (p : Program) (r : Routine) (d : List Instr) where
  -- code whose instructions continue where they may, and that begins at an open place if an open place follows it
  abbrev Piece : ℕ → List Instr → Type 0
  Piece pc is = StandsAt d pc is → Open (scope_of p r) d (pc + length is) → Ways (scope_of p r) d pc is
      × Open (scope_of p r) d pc

  seq : (pc : ℕ) (a b : List Instr) → Piece pc a → Piece (pc + length a) b → Piece pc (a ++ b)
  seq pc a b first second stands o =
      let e : pc + length (a ++ b) ≡ pc + length a + length b = omega (arith, length-append a b) in
      let y = second (has_back d pc a b stands) (subst (Open (scope_of p r) d) e o) in
      let x = first (has_front d pc a b stands) y.1 in
      (join (scope_of p r) d pc a b x.0 y.0, x.1)

  lone : (pc : ℕ) (i : Instr) → falls_through i ≡ true → Piece pc (i ∷ [])
  lone pc i e = through_piece (scope_of p r) d (i ∷ []) pc (ap (λ b. b && true) e)

  builtin_piece : (call : CallForm) (id : BuiltinId) (line pc : ℕ) → Piece pc (builtin_code call id line)
  builtin_piece form.Pure id line pc = lone pc (instr.Pure id) refl
  builtin_piece form.UsedMemory id line pc = lone pc instr.Used refl
  builtin_piece form.FreeMemory id line pc = lone pc instr.Free refl
  builtin_piece form.SetLimit id line pc = lone pc instr.SetLimit refl
  builtin_piece form.GetLimit id line pc = lone pc instr.GetLimit refl
  builtin_piece form.Asked id line pc = lone pc (instr.Host id) refl
  builtin_piece form.AskedAndWaits id line pc =
      through_piece (scope_of p r) d (instr.Host id ∷ instr.Tick line ∷ []) pc refl
  builtin_piece form.Resets id line pc = λ stands o. ((o.1, tt), open_at (scope_of p r) d pc instr.Reset stands.0 refl)

  call_piece : (callee : Callee) (line pc : ℕ) → Piece pc (call_code callee line)
  call_piece (Function n) line pc = lone pc (instr.Call n line) refl
  call_piece (Builtin id) line pc = builtin_piece (call_form id) id line pc

  mutual
    value_piece : (t : Node) (pc : ℕ) → Piece pc (value_code t)
    value_piece (node.Int n) pc = lone pc _ refl
    value_piece (node.Str text) pc = lone pc _ refl
    value_piece (node.Constant id kind) pc = lone pc _ (falls_literal id)
    value_piece (node.Variable place kind) pc = lone pc _ (falls_load place)
    value_piece (node.Call callee kind line ts) pc =
        seq pc (values_code ts) (call_code callee line) (values_piece ts pc) (call_piece callee line _)
    value_piece (node.ListLiteral ts) pc =
        seq pc (values_code ts) _ (values_piece ts pc) (lone _ (instr.MakeList (argument_count ts)) refl)
    value_piece (node.Cast kind t) pc = seq pc (value_code t) _ (value_piece t pc) (lone _ (instr.Cast kind) refl)
    value_piece (node.Unary op t) pc = seq pc (value_code t) _ (value_piece t pc) (lone _ (instr.Unary op) refl)
    value_piece (node.Binary op kind a b) pc =
        seq pc (value_code b) _ (value_piece b pc)
        (seq _ (value_code a) _ (value_piece a (pc + length (value_code b)))
        (lone _ (instr.Binary op) refl))
    value_piece (node.Assign place kind t) pc =
        seq pc (value_code t) _ (value_piece t pc) (lone _ (store place) (falls_store place))
    value_piece (node.StepBehind place op) pc =
        let c : List Instr = instr.Drop ∷ [] in
        let b : List Instr = store place ∷ c in
        let a : List Instr = instr.Int (pos 1) ∷ load place ∷ instr.Binary (step_operator op) ∷ b in
        seq pc (load place ∷ []) a (lone pc (load place) (falls_load place))
        (seq _ (instr.Int (pos 1) ∷ []) (load place ∷ instr.Binary (step_operator op) ∷ b)
        (lone _ (instr.Int (pos 1)) refl)
        (seq _ (load place ∷ []) (instr.Binary (step_operator op) ∷ b) (lone _ (load place) (falls_load place))
        (seq _ (instr.Binary (step_operator op) ∷ []) b (lone _ (instr.Binary (step_operator op)) refl)
        (seq _ (store place ∷ []) c (lone _ (store place) (falls_store place)) (lone _ instr.Drop refl)))))

    values_piece : (ts : Nodes) (pc : ℕ) → StandsAt d pc (values_code ts)
        → Open (scope_of p r) d (pc + length (values_code ts)) → Ways (scope_of p r) d pc (values_code ts)
        × Open (scope_of p r) d pc
    values_piece NoNode pc stands o = let e : pc + 0 ≡ pc = omega arith in (tt, subst (Open (scope_of p r) d) e o)
    values_piece (AndNode ts t) pc stands o =
        seq pc (values_code ts) (value_code t) (values_piece ts pc)
        (value_piece t (pc + length (values_code ts))) stands o

  effect_piece : (x : Effect) (pc : ℕ) → Piece pc (effect_code x)
  effect_piece (effect.Value t) pc = seq pc (value_code t) _ (value_piece t pc) (lone _ instr.Drop refl)
  effect_piece (effect.Call callee line ts) pc =
      seq pc (values_code ts) (call_code callee line) (values_piece ts pc) (call_piece callee line _)

  effects_piece : (xs : List Effect) (pc : ℕ) → Piece pc (effects_code xs)
  effects_piece [] pc stands o = let e : pc + 0 ≡ pc = omega arith in (tt, subst (Open (scope_of p r) d) e o)
  effects_piece (x ∷ xs) pc stands o =
      seq pc (effect_code x) (effects_code xs) (effect_piece x pc)
      (effects_piece xs (pc + length (effect_code x))) stands o

  -- no operand waits after code that leaves none
  leaves : (is : List Instr) (pc n : ℕ) → StandsAt d pc is → kinds_at (scope_of p r) d pc ≡ []
      → runs (scope_of p r) is [] ≡ Some [] → length is ≡ n → kinds_at (scope_of p r) d (pc + n) ≡ []
  leaves is pc n stands z e len =
      ap (λ n. kinds_at (scope_of p r) d (pc + n)) (sym len)
      ∙ kinds_behind (scope_of p r) d is pc [] stands (ap (runs (scope_of p r) is) z ∙ e)

  -- nor after a test
  behind_test : (t : Node) (pc to : ℕ) (rest : List Instr) → IsKindedNode (tree.scope_of p r) t
      → StandsAt d pc (value_code t ++ (instr.JumpIfNot to ∷ rest)) → kinds_at (scope_of p r) d pc ≡ []
      → kinds_at (scope_of p r) d (pc + length (value_code t) + 1) ≡ []
  behind_test t pc to rest k stands z =
      let top : kinds_at (scope_of p r) d (pc + length (value_code t)) ≡ node_kind_of t ∷ [] =
      kinds_behind (scope_of p r) d (value_code t) pc (node_kind_of t ∷ [])
      (has_front d pc (value_code t) (instr.JumpIfNot to ∷ rest) stands)
      (ap (runs (scope_of p r) (value_code t)) z ∙ value_runs p r t [] k) in
      let here = has_back d pc (value_code t) (instr.JumpIfNot to ∷ rest) stands in
      kinds_behind (scope_of p r) d (instr.JumpIfNot to ∷ []) (pc + length (value_code t)) [] (here.0, tt)
      (ap (runs (scope_of p r) (instr.JumpIfNot to ∷ [])) top)

  tested : (t : Node) (pc to : ℕ) (rest : List Instr)
      → StandsAt d pc (value_code t ++ (instr.JumpIfNot to ∷ rest)) → pc + length (value_code t) < to
      → Ways (scope_of p r) d pc (value_code t) × Open (scope_of p r) d pc
  tested t pc to rest stands lt =
      value_piece t pc (has_front d pc (value_code t) (instr.JumpIfNot to ∷ rest) stands)
      (open_if_not (scope_of p r) d (pc + length (value_code t)) to
      (has_back d pc (value_code t) (instr.JumpIfNot to ∷ rest) stands).0 lt)

  pub returning : (t : Node) (pc : ℕ) → StandsAt d pc (value_code t ++ instr.ReturnValue ∷ [])
      → Ways (scope_of p r) d pc (value_code t) × Open (scope_of p r) d pc
  returning t pc stands =
      value_piece t pc (has_front d pc (value_code t) (instr.ReturnValue ∷ []) stands)
      (open_at (scope_of p r) d (pc + length (value_code t)) instr.ReturnValue
      (has_back d pc (value_code t) (instr.ReturnValue ∷ []) stands).0 refl)

  -- code of this length after a statement's
  behind_size : (pc n : ℕ) (a b : List Instr) → length a ≡ n → StandsAt d pc (a ++ b) → StandsAt d (pc + n) b
  behind_size pc n a b e stands = subst (λ m. StandsAt d (pc + m) b) e (has_back d pc a b stands)

  -- a statement begins at an open place if an open place follows it
  mutual
    pub action_first : (a : Action) (places : List LabelPlace) (pc : ℕ)
        → StandsAt d pc (action_code a places pc) → Open (scope_of p r) d (pc + size a)
        → Open (scope_of p r) d pc
    action_first (action.Block xs) places pc stands o = actions_first xs (places_in xs pc ++ places) pc stands o
    action_first (action.Effect x) places pc stands o = (effect_piece x pc stands o).1
    action_first (action.Declare slot t) places pc stands o =
        (seq pc (value_code t) _ (value_piece t pc) (lone _ (instr.Set slot) refl) stands
        (subst (λ n. Open (scope_of p r) d (pc + n)) (sym (code_length (action.Declare slot t) places pc))
        o)).1
    action_first (action.Label label) places pc stands o = let e : pc + 0 ≡ pc = omega arith in
        subst (Open (scope_of p r) d) e o
    action_first (action.If t a) places pc stands o = (tested t pc _ _ stands (omega arith)).1
    action_first (action.IfElse t a b) places pc stands o = (tested t pc _ _ stands (omega arith)).1
    action_first (action.Loop line t xs a) places pc stands o = (tested t pc _ _ stands (omega arith)).1
    action_first (action.Do line a t) places pc stands o =
        let q = pc + size a in
        let ca = action_code a places pc in
        let rest = value_code t ++ (instr.JumpIfNot (q + length (value_code t) + 1 + 2) ∷ instr.Tick
        line ∷ instr.Jump pc ∷ []) in
        let more = behind_size pc (size a) ca rest (code_length a places pc) stands in
        action_first a places pc (has_front d pc ca rest stands) (tested t q _ _ more (omega arith)).1
    action_first (action.Jump line label) places pc stands o =
        open_at (scope_of p r) d pc (instr.Tick line) stands.0 refl
    action_first action.Return places pc stands o = open_at (scope_of p r) d pc instr.Return stands.0 refl
    action_first (action.ReturnValue t) places pc stands o = (returning t pc stands).1
    action_first (action.State n) places pc stands o = open_at (scope_of p r) d pc (instr.GoState n) stands.0 refl

    pub actions_first : (xs : Actions) (places : List LabelPlace) (pc : ℕ)
        → StandsAt d pc (actions_code xs places pc) → Open (scope_of p r) d (pc + sizes xs)
        → Open (scope_of p r) d pc
    actions_first NoAction places pc stands o = let e : pc + 0 ≡ pc = omega arith in subst (Open (scope_of p r) d) e o
    actions_first (AndAction xs a) places pc stands o =
        let q = pc + sizes xs in
        let cs = actions_code xs places pc in
        let ca = action_code a places q in
        let more = behind_size pc (sizes xs) cs ca (codes_length xs places pc) stands in
        let e : pc + (sizes xs + size a) ≡ q + size a = omega arith in
        actions_first xs places pc (has_front d pc cs ca stands)
        (action_first a places q more (subst (Open (scope_of p r) d) e o))

  -- each of these labels has a place where a jump may lead
  abbrev pub AllClear : List LabelPlace → Type 0
  AllClear [] = Unit {0}
  AllClear (x ∷ places) = Clear (scope_of p r) d x.place × AllClear places

  clear_append : (a b : List LabelPlace) → AllClear a → AllClear b → AllClear (a ++ b)
  clear_append [] b ca cb = cb
  clear_append (x ∷ a) b ca cb = (ca.0, clear_append a b ca.1 cb)

  clear_found : (label : ℕ) (places : List LabelPlace) → AllClear places
      → list_any (λ x. nat_eq label x.label) places ≡ true → Clear (scope_of p r) d (place_of label places)
  clear_found label [] c h = absurd cc
  clear_found label (x ∷ places) c h = by_label (nat_eq label x.label) h (λ w. clear_found label places c.1 w)
    where
      by_label : (b : Bool) → (b || list_any (λ x. nat_eq label x.label) places) ≡ true
          → (list_any (λ x. nat_eq label x.label) places ≡ true
          → Clear (scope_of p r) d (place_of label places))
          → Clear (scope_of p r) d (cond b x.place (place_of label places))
      by_label true e more = c.0
      by_label false e more = more e

  label_clear : (a : Action) (q : ℕ) → Clear (scope_of p r) d q → AllClear (place_if_label a q)
  label_clear (action.Label label) q c = (c, tt)
  label_clear a q c = tt

  -- the labels of a block
  pub labels_clear : (xs : Actions) (places : List LabelPlace) (pc : ℕ)
      → AreKindedActions (tree.scope_of p r) xs → StandsAt d pc (actions_code xs places pc)
      → kinds_at (scope_of p r) d pc ≡ []
      → Open (scope_of p r) d (pc + sizes xs) → AllClear (places_in xs pc)
  labels_clear NoAction places pc k stands z o = tt
  labels_clear (AndAction xs a) places pc k stands z o =
      let q = pc + sizes xs in
      let cs = actions_code xs places pc in
      let ca = action_code a places q in
      let front = has_front d pc cs ca stands in
      let more = behind_size pc (sizes xs) cs ca (codes_length xs places pc) stands in
      let e : pc + (sizes xs + size a) ≡ q + size a = omega arith in
      let oq = action_first a places q more (subst (Open (scope_of p r) d) e o) in
      clear_append (places_in xs pc) (place_if_label a q) (labels_clear xs places pc k.0 front z oq)
      (label_clear a q (
        oq,
        leaves cs pc (sizes xs) front z (actions_run p r xs places pc k.0)
            (codes_length xs places pc),
      ))

  -- all the labels around
  pub record Around (places : List LabelPlace) (labels : List ℕ) : Type 0 where
    pub clear : AllClear places
    pub has : (label : ℕ) → has_label labels label ≡ true → list_any (λ x. nat_eq label x.label) places ≡ true

  pub around_more : (xs : Actions) (places : List LabelPlace) (labels : List ℕ) (pc : ℕ)
      → AllClear (places_in xs pc) → Around places labels
      → Around (places_in xs pc ++ places) (labels_in xs ++ labels)
  around_more xs places labels pc c around = record {
    clear = clear_append (places_in xs pc) places c around.clear;
    has = λ label h. list_any-append (λ (x : LabelPlace). nat_eq label x.label) (places_in xs pc) places
        ∙ ap (λ b. b || list_any (λ x. nat_eq label x.label) places) (placed_in xs label pc)
        ∙ either (has_label (labels_in xs) label) (has_label labels label)
        (list_any (λ x. nat_eq label x.label) places)
        (sym (has_label-append label (labels_in xs) labels) ∙ h) (around.has label);
  }

  -- a tick, and a jump after it
  tick_jump : (pc line to : ℕ) → Clear (scope_of p r) d to
      → StandsAt d pc (instr.Tick line ∷ instr.Jump to ∷ []) → kinds_at (scope_of p r) d pc ≡ []
      → Open (scope_of p r) d (pc + 2)
      → Ways (scope_of p r) d pc (instr.Tick line ∷ instr.Jump to ∷ [])
  tick_jump pc line to c stands z o =
      let e : pc + 2 ≡ pc + 1 + 1 = omega arith in
      let out = leaves (instr.Tick line ∷ instr.Jump to ∷ []) pc 2 stands z refl refl in (
        within_list d (pc + 1) (instr.Jump to)
            stands.1.0,
        (
          (
            c,
            ap (kinds_at (scope_of p r) d) (sym e)
                ∙ out,
            (subst (Open (scope_of p r) d) e o).1,
          ),
          tt,
        ),
      )

  module _ (gives : Bool) where
    mutual
      -- each instruction of a statement continues where it may
      pub action_ways : (a : Action) (places : List LabelPlace) (labels : List ℕ) (pc : ℕ)
          → IsKindedAction (tree.scope_of p r) a → IsShapedAction (outline p gives) labels a
          → Around places labels
          → StandsAt d pc (action_code a places pc) → kinds_at (scope_of p r) d pc ≡ []
          → Open (scope_of p r) d (pc + size a) → Ways (scope_of p r) d pc (action_code a places pc)
      action_ways (action.Block xs) places labels pc k h w stands z o =
          actions_ways xs (places_in xs pc ++ places) (labels_in xs ++ labels) pc k h.1
          (around_more xs places labels pc (labels_clear xs (places_in xs pc ++ places) pc k stands z o) w) stands z o
      action_ways (action.Effect x) places labels pc k h w stands z o = (effect_piece x pc stands o).0
      action_ways (action.Declare slot t) places labels pc k h w stands z o =
          (seq pc (value_code t) _ (value_piece t pc) (lone _ (instr.Set slot) refl) stands
          (subst (λ n. Open (scope_of p r) d (pc + n)) (sym (code_length (action.Declare slot t) places pc))
          o)).0
      action_ways (action.Label label) places labels pc k h w stands z o = tt
      action_ways (action.If t a) places labels pc k h w stands z o =
          let vt = value_code t in
          let q = pc + length vt + 1 in
          let ca = action_code a places q in
          let rest = has_back d pc vt (instr.JumpIfNot (q + size a) ∷ ca) stands in
          let e : pc + (length vt + 1 + size a) ≡ q + size a = omega arith in
          let out = subst (Open (scope_of p r) d) e o in
          let zq = behind_test t pc (q + size a) ca k.0 stands z in
          let zout = leaves ca q (size a) rest.1 zq (action_runs p r a places q k.1) (code_length a places q) in
          join (scope_of p r) d pc vt _ (tested t pc _ _ stands (omega arith)).0 (
            ((out, zout), (action_first a places q rest.1 out, zq)),
            action_ways a places labels q k.1 h.1 w
                rest.1 zq out,
          )
      action_ways (action.IfElse t a b) places labels pc k h w stands z o =
          let vt = value_code t in
          let q = pc + length vt + 1 in
          let next = q + size a + 1 in
          let ca = action_code a places q in
          let cb = action_code b places next in
          let over = instr.Jump (next + size b) in
          let rest = has_back d pc vt (instr.JumpIfNot next ∷ (ca ++ (over ∷ cb))) stands in
          let ha = has_front d q ca (over ∷ cb) rest.1 in
          let more = behind_size q (size a) ca (over ∷ cb) (code_length a places q) rest.1 in
          let e : pc + (length vt + 1 + size a + 1 + size b) ≡ next + size b = omega arith in
          let out = subst (Open (scope_of p r) d) e o in
          let zq = behind_test t pc next (ca ++ (over ∷ cb)) k.0 stands z in
          let za = leaves ca q (size a) ha zq (action_runs p r a places q k.1) (code_length a places q) in
          let zn = leaves (over ∷ []) (q + size a) 1 (more.0, tt) za refl refl in
          let zout = leaves cb next (size b) more.1 zn (action_runs p r b places next k.2)
          (code_length b places next) in
          let oa = open_jump (scope_of p r) d (q + size a) (next + size b) more.0 (omega arith) in
          let ob = action_first b places next more.1 out in
          let second : Ways (scope_of p r) d (q + length ca) (over ∷ cb) =
          subst (λ m. Ways (scope_of p r) d (q + m) (over ∷ cb)) (sym (code_length a places q))
          (((out, zout), zn, ob.1), action_ways b places labels next k.2 h.2 w more.1 zn out) in
          join (scope_of p r) d pc vt _ (tested t pc _ _ stands (omega arith)).0 (
            ((ob, zn), (action_first a places q ha oa, zq)),
            join (scope_of p r) d q ca _
                (action_ways a places labels q k.1 h.1 w ha zq oa) second,
          )
      action_ways (action.Loop line t xs a) places labels pc k h w stands z o =
          let vt = value_code t in
          let q = pc + length vt + 1 in
          let behind = q + size a in
          let cs = effects_code xs in
          let end = behind + length cs in
          let ca = action_code a places q in
          let back : List Instr = instr.Tick line ∷ instr.Jump pc ∷ [] in
          let rest = has_back d pc vt (instr.JumpIfNot (end + 2) ∷ (ca ++ (cs ++ back))) stands in
          let ha = has_front d q ca (cs ++ back) rest.1 in
          let more = behind_size q (size a) ca (cs ++ back) (code_length a places q) rest.1 in
          let hs = has_front d behind cs back more in
          let last = has_back d behind cs back more in
          let e : pc + (length vt + 1 + size a + length cs + 2) ≡ end + 2 = omega arith in
          let out = subst (Open (scope_of p r) d) e o in
          let test = tested t pc _ _ stands (omega arith) in
          let zq = behind_test t pc (end + 2) (ca ++ (cs ++ back)) k.0 stands z in
          let za = leaves ca q (size a) ha zq (action_runs p r a places q k.2) (code_length a places q) in
          let zs = leaves cs behind (length cs) hs za (effects_run p r xs k.1) refl in
          let zout = leaves back end 2 last zs refl refl in
          let os = effects_piece xs behind hs (open_at (scope_of p r) d end (instr.Tick line) last.0 refl) in
          let round = join (scope_of p r) d behind cs back os.0 (tick_jump end line pc (test.1, z) last zs out) in
          let second : Ways (scope_of p r) d (q + length ca) (cs ++ back) =
          subst (λ m. Ways (scope_of p r) d (q + m) (cs ++ back)) (sym (code_length a places q)) round in
          join (scope_of p r) d pc vt _ test.0 (
            ((out, zout), (action_first a places q ha os.1, zq)),
            join (scope_of p r) d q ca _
                (action_ways a places labels q k.2 h.2 w ha zq os.1) second,
          )
      action_ways (action.Do line a t) places labels pc k h w stands z o =
          let vt = value_code t in
          let q = pc + size a in
          let end = q + length vt + 1 in
          let ca = action_code a places pc in
          let back : List Instr = instr.JumpIfNot (end + 2) ∷ instr.Tick line ∷ instr.Jump pc ∷ [] in
          let ha = has_front d pc ca (vt ++ back) stands in
          let more = behind_size pc (size a) ca (vt ++ back) (code_length a places pc) stands in
          let last = has_back d q vt back more in
          let e : pc + (size a + length vt + 1 + 2) ≡ end + 2 = omega arith in
          let out = subst (Open (scope_of p r) d) e o in
          let za = leaves ca pc (size a) ha z (action_runs p r a places pc k.0) (code_length a places pc) in
          let zt = behind_test t q (end + 2) (instr.Tick line ∷ instr.Jump pc ∷ []) k.1 more za in
          let zout = leaves (instr.Tick line ∷ instr.Jump pc ∷ []) end 2 last.1 zt refl refl in
          let test = tested t q _ _ more (omega arith) in
          let again = tick_jump end line pc (action_first a places pc ha test.1, z) last.1 zt out in
          let second : Ways (scope_of p r) d (pc + length ca) (vt ++ back) =
          subst (λ m. Ways (scope_of p r) d (pc + m) (vt ++ back)) (sym (code_length a places pc))
          (join (scope_of p r) d q vt _ test.0
          (((out, zout), (open_at (scope_of p r) d end (instr.Tick line) last.1.0 refl, zt)), again)) in
          join (scope_of p r) d pc ca _ (action_ways a places labels pc k.0 h.0 w ha z test.1) second
      action_ways (action.Jump line label) places labels pc k h w stands z o =
          tick_jump pc line (place_of label places)
          (clear_found label places w.clear (w.has label (has_contained labels label h))) stands z o
      action_ways action.Return places labels pc k h w stands z o = (o.1, tt)
      action_ways (action.ReturnValue t) places labels pc k h w stands z o =
          let e : pc + (length (value_code t) + 1) ≡ pc + length (value_code t) + 1 = omega arith in
          join (scope_of p r) d pc (value_code t) _ (returning t pc stands).0
          ((subst (Open (scope_of p r) d) e o).1, tt)
      action_ways (action.State n) places labels pc k h w stands z o = (o.1, tt)

      pub actions_ways : (xs : Actions) (places : List LabelPlace) (labels : List ℕ) (pc : ℕ)
          → AreKindedActions (tree.scope_of p r) xs → AreShapedActions (outline p gives) labels xs
          → Around places labels
          → StandsAt d pc (actions_code xs places pc) → kinds_at (scope_of p r) d pc ≡ []
          → Open (scope_of p r) d (pc + sizes xs) → Ways (scope_of p r) d pc (actions_code xs places pc)
      actions_ways NoAction places labels pc k h w stands z o = tt
      actions_ways (AndAction xs a) places labels pc k h w stands z o =
          let q = pc + sizes xs in
          let cs = actions_code xs places pc in
          let ca = action_code a places q in
          let front = has_front d pc cs ca stands in
          let more = behind_size pc (sizes xs) cs ca (codes_length xs places pc) stands in
          let e : pc + (sizes xs + size a) ≡ q + size a = omega arith in
          let out = subst (Open (scope_of p r) d) e o in
          let zq = leaves cs pc (sizes xs) front z (actions_run p r xs places pc k.0) (codes_length xs places pc) in
          join (scope_of p r) d pc cs _ (actions_ways xs places labels pc k.0 h.0 w front z
          (action_first a places q more out))
          (subst (λ m. Ways (scope_of p r) d (pc + m) ca) (sym (codes_length xs places pc))
          (action_ways a places labels q k.1 h.1 w more zq out))
