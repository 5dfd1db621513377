-- What an instruction does to values whose kinds are right: it finds what it needs, and leaves right kinds.
use Rattle.std.proofs.Common.{◌≡◌, ℕ, ◌+◌, ◌-◌, pos, List, [], ◌∷◌, ◌++◌, length, map, take, drop, reverse, get_or, Option, Some, None, option_map, Bool, true, false, cond, refl, sym, ap, ap₂, ◌∙◌, slice_get, slice_set}
use Rattle.std.specs.Prelude.{nat_lt}
use Rattle.std.proofs.lemmas.List.{take-append-drop}
use Rattle.std.proofs.lemmas.Option.{slice_get-map}
use Rattle.lsl_value.specs.OperatorRows.{result_kind_of}
use Rattle.lsl_value.specs.Values.{kind_of}
use Rattle.lsl_value.specs.declared.tagged.Kind.{Kind}
use Rattle.lsl_value.specs.declared.tagged.Kind.TheVariants as kind
use Rattle.lsl_value.specs.declared.tagged.Value.{Value}
use Rattle.lsl_value.specs.declared.tagged.Value.TheVariants as value
use Rattle.lsl_table.specs.Calls.{row_of}
use Rattle.lsl_code.specs.declared.instructions.Instr.{Instr}
use Rattle.lsl_code.specs.declared.instructions.Instr.TheVariants.{Int, Str, Load, LoadGlobal, Store, StoreGlobal, Set, Drop, Unary, Binary, Cast, MakeList, Jump, JumpIf, JumpIfNot, Pure, Used, Free, SetLimit, GetLimit, Host, Tick, Call, Return, ReturnValue, GoState, Reset, TestSave, KeepSlot, KeepTop, Seal, TestBack, Unpack, BackSlot, BackTop, Branch, Again, Awake}
use Rattle.lsl_code.specs.Bodies.{Body}
use Rattle.lsl_code.specs.Effects.{gather, pushed, only_if, called, is_pure, is_asked, behind}
use Rattle.lsl_code.specs.Kinds.{same_kind, kinds_of, Scope, builtin_signature}
use Rattle.lsl_running.specs.declared.ends.Fault.TheVariants.{StackHeap}
use Rattle.lsl_running.specs.declared.kept.Kept.{Kept}
use Rattle.lsl_running.specs.Calling.{parameter_count, call_form}
use Rattle.lsl_running.specs.Charging.{call_charge, charges_of, hold_all, used, is_within, with_global}
use Rattle.lsl_running.specs.Limits.{granted, grant_value}
use Rattle.lsl_running.specs.Values.{empty_of, absent, unary_value, binary_value, list_value}
use Rattle.lsl_ops.specs.Operations.{cast_of, integer_of}
use Rattle.lsl_pure.specs.Pure.{pure_of}
use Rattle.lsl_code.specs.Acts.{Did, Goes, Jumps, Enters, Leaves, Passes, Asks, Ends, Fails, Stuck, within, or_zero_divisor, first_slots, entered, gives, gives_limit, act}
use Rattle.lsl_code.specs.Kinded.{IsOutcome}
use Rattle.lsl_code.specs.Kinds.{signature_in}
use Rattle.lsl_value.specs.Values.{truth_of}
use Rattle.lsl_code.proofs.Sames.{same_is}
use Rattle.lsl_code.proofs.Steps.{gather_drop}
use Rattle.lsl_code.proofs.ValueKinds.{some_is, pure_kind, binary_kind, cast_kind, empties_kinds, kinds_drop, kinds_append, stored_kinds, read_kind}
use Rattle.lsl_code.proofs.Taking.{map_is, taken, row_taken, arguments_kinds, rest_kinds, only_is, with_is, map_of, less_is, none_is}

module _ (bodies : List Body) (s : Scope) where
  -- what is done fits the kinds after the instruction, if these operands were before it
  abbrev pub DidFit : List Value → Did → List Kind → Type 0
  DidFit ops (Goes slots operands kept) js =
      (kinds_of kept.globals ≡ s.globals) × (kinds_of slots ≡ s.slots) × (kinds_of operands ≡ js)
  DidFit ops (Jumps to operands) js = kinds_of operands ≡ js
  DidFit ops (Enters callee slots rest) js =
      (w : Body) × (slice_get bodies callee ≡ Some w) × (kinds_of slots ≡ w.slots) ×
      (pushed w.result (kinds_of rest) ≡ js)
  DidFit ops (Leaves None) js = s.result ≡ None
  DidFit ops (Leaves (Some v)) js = s.result ≡ Some (kind_of v)
  DidFit ops Passes js = kinds_of ops ≡ js
  DidFit ops (Asks id args rest) js =
      (is_asked (call_form id) ≡ true) × (kinds_of args ≡ (row_of id).params) ×
      (pushed (row_of id).result (kinds_of rest) ≡ js)
  DidFit ops (Ends way) js = IsOutcome s.states way
  DidFit ops (Fails fault) js = Unit {0}
  DidFit ops Stuck js = ⊥

module _ (bodies : List Body) (s : Scope) (signed : s.functions ≡ map signature_in bodies)
    (params : (f : ℕ) (w : Body) → slice_get bodies f ≡ Some w → take (length w.params) w.slots ≡ w.params) where
  module _ (g : Kept) (held : ℕ) (sl ops : List Value) (js : List Kind) (kg : kinds_of g.globals ≡ s.globals)
      (ks : kinds_of sl ≡ s.slots) where
    within_fit : (held' : ℕ) (slots : List Value) (kept : Kept) (d : Did) → DidFit bodies s ops d js
        → DidFit bodies s ops (within held' slots kept d) js
    within_fit held' slots kept d h =
        elim (is_within kept (used held' slots kept)) as
        (λ b. DidFit bodies s ops (cond b d (Fails StackHeap)) js) [ true ↦ h | false ↦ tt ]

    gives_fit : (slots operands : List Value) (kept : Kept) → kinds_of kept.globals ≡ s.globals
        → kinds_of slots ≡ s.slots → kinds_of operands ≡ js
        → DidFit bodies s ops (gives held slots operands kept) js
    gives_fit slots operands kept a b c =
        within_fit (hold_all held operands) slots kept (Goes slots operands kept) (a, b, c)

    -- a value of this kind on these operands
    value_fit : (v : Value) (rest : List Value) (k : Kind) → kind_of v ≡ k → k ∷ kinds_of rest ≡ js
        → DidFit bodies s ops (gives held sl (v ∷ rest) g) js
    value_fit v rest k e f = gives_fit sl (v ∷ rest) g kg ks (ap (λ q. q ∷ kinds_of rest) e ∙ f)

    limit_fit : (limit : Option ℕ) (rest : List Value) → kind.Int ∷ kinds_of rest ≡ js
        → DidFit bodies s ops (gives_limit limit held sl rest g) js
    limit_fit None rest f = gives_fit sl (grant_value None ∷ rest) g kg ks f
    limit_fit (Some n) rest f = gives_fit sl (grant_value (Some n) ∷ rest) (record g { limit = n }) kg ks f

    divisor_fit : (o : Option Value) (rest : List Value) (k : Kind) → ((v : Value) → o ≡ Some v → kind_of v ≡ k)
        → k ∷ kinds_of rest ≡ js → DidFit bodies s ops (or_zero_divisor o (λ v. gives held sl (v ∷ rest) g)) js
    divisor_fit None rest k h f = tt
    divisor_fit (Some v) rest k h f = value_fit v rest k (h v refl) f

    branch_fit : (b : Bool) (d e : Did) → DidFit bodies s ops d js → DidFit bodies s ops e js
        → DidFit bodies s ops (cond b d e) js
    branch_fit true d e h k = h
    branch_fit false d e h k = k

    entered_fit : (o : Option Body) (f : ℕ) → slice_get bodies f ≡ o
        → called (slice_get s.functions f) (kinds_of ops) ≡ Some js
        → DidFit bodies s ops (entered o f g held sl ops) js
    entered_fit None f there e = absurd (never (signature there) e)
      where
        signature : slice_get bodies f ≡ None → slice_get s.functions f ≡ None
        signature h =
            ap (λ l. slice_get l f) signed ∙ slice_get-map signature_in bodies f ∙ ap (option_map signature_in) h

        never : slice_get s.functions f ≡ None → called (slice_get s.functions f) (kinds_of ops) ≡ Some js → ⊥
        never h e =
            let none : called None (kinds_of ops) ≡ Some js = ap (λ o. called o (kinds_of ops)) (sym h)
            ∙ e in absurd cc
    entered_fit (Some w) f there e =
        let named : slice_get s.functions f ≡ Some (signature_in w) =
        ap (λ l. slice_get l f) signed ∙ slice_get-map signature_in bodies f
        ∙ ap (option_map signature_in) there in
        let t = taken (signature_in w) (kinds_of ops) js (ap (λ o. called o (kinds_of ops)) (sym named) ∙ e) in
        let args = reverse (take (length w.params) ops) in
        let rest = drop (length w.params) ops in
        let all : kinds_of (first_slots w args) ≡ w.slots =
        kinds_append args (map empty_of (drop (length w.params) w.slots))
        ∙ ap₂ (λ a b. a ++ b) (arguments_kinds (signature_in w) ops js t ∙ sym (params f w there))
        (empties_kinds (drop (length w.params) w.slots))
        ∙ take-append-drop (length w.params) w.slots in
        within_fit (hold_all held rest + call_charge + charges_of sl) (first_slots w args) g
        (Enters f (first_slots w args) rest)
        (w, there, all, rest_kinds (signature_in w) ops js t)

  module _ (g : Kept) (held : ℕ) (sl : List Value) (js : List Kind) (kg : kinds_of g.globals ≡ s.globals)
      (ks : kinds_of sl ≡ s.slots) where
    -- each instruction, by the table of kinds
    pub act_fits : (i : Instr) (ops : List Value) → behind s i (kinds_of ops) ≡ Some js
        → DidFit bodies s ops (act bodies (Some i) g held sl ops) js
    act_fits (Int n) ops e = value_fit g held sl ops js kg ks (value.Int n) ops kind.Int refl (some_is _ _ e)
    act_fits (Str t) ops e = value_fit g held sl ops js kg ks (value.Str t) ops kind.Str refl (some_is _ _ e)
    act_fits (Load n) ops e =
        let r = with_is (slice_get s.slots n) (λ k. Some (k ∷ kinds_of ops)) js e in
        value_fit g held sl ops js kg ks (get_or sl n absent) ops r.0 (read_kind sl s.slots n absent r.0 ks r.1)
        (some_is _ _ r.2)
    act_fits (LoadGlobal n) ops e =
        let r = with_is (slice_get s.globals n) (λ k. Some (k ∷ kinds_of ops)) js e in
        value_fit g held sl ops js kg ks (get_or g.globals n absent) ops r.0
        (read_kind g.globals s.globals n absent r.0 kg r.1) (some_is _ _ r.2)
    act_fits (Store n) [] e = absurd cc
    act_fits (Store n) (v ∷ ops) e =
        let r = with_is (slice_get s.slots n) (λ q. only_if (same_kind q (kind_of v)) (kinds_of (v ∷ ops))) js e in
        let o = only_is (same_kind r.0 (kind_of v)) (kinds_of (v ∷ ops)) js r.2 in
        gives_fit g held sl (v ∷ ops) js kg ks (slice_set sl n v) (v ∷ ops) g kg
        (stored_kinds sl s.slots n v ks (r.1 ∙ ap Some (same_is r.0 (kind_of v) o.0))) o.1
    act_fits (StoreGlobal n) [] e = absurd cc
    act_fits (StoreGlobal n) (v ∷ ops) e =
        let r = with_is (slice_get s.globals n) (λ q. only_if (same_kind q (kind_of v)) (kinds_of (v ∷ ops))) js e in
        let o = only_is (same_kind r.0 (kind_of v)) (kinds_of (v ∷ ops)) js r.2 in
        gives_fit g held sl (v ∷ ops) js kg ks sl (v ∷ ops) (with_global g n v)
        (stored_kinds g.globals s.globals n v kg (r.1 ∙ ap Some (same_is r.0 (kind_of v) o.0))) ks o.1
    act_fits (Set n) [] e = absurd cc
    act_fits (Set n) (v ∷ ops) e =
        let r = with_is (slice_get s.slots n) (λ q. only_if (same_kind q (kind_of v)) (kinds_of ops)) js e in
        let o = only_is (same_kind r.0 (kind_of v)) (kinds_of ops) js r.2 in
        (kg, stored_kinds sl s.slots n v ks (r.1 ∙ ap Some (same_is r.0 (kind_of v) o.0)), o.1)
    act_fits Drop [] e = absurd cc
    act_fits Drop (v ∷ ops) e = (kg, ks, some_is _ _ e)
    act_fits (Unary op) [] e = absurd cc
    act_fits (Unary op) (v ∷ ops) e =
        value_fit g held sl (v ∷ ops) js kg ks (unary_value op v) ops kind.Int refl (only_is _ _ js e).1
    act_fits (Binary op) [] e = absurd cc
    act_fits (Binary op) (left ∷ []) e = absurd cc
    act_fits (Binary op) (left ∷ right ∷ ops) e =
        let r = map_of (result_kind_of op (kind_of left) (kind_of right)) (kinds_of ops) js e in
        divisor_fit g held sl (left ∷ right ∷ ops) js kg ks (binary_value op left right) ops r.0
        (λ v given. binary_kind op left right v r.0 r.1 given) r.2
    act_fits (Cast to) [] e = absurd cc
    act_fits (Cast to) (v ∷ ops) e =
        value_fit g held sl (v ∷ ops) js kg ks (cast_of v to) ops to (cast_kind v to) (only_is _ _ js e).1
    act_fits (MakeList n) ops e =
        let some = map_is (λ rest. kind.List ∷ rest) (gather n (kinds_of ops)) js e in
        let left : Some (kind.List ∷ drop n (kinds_of ops)) ≡ Some js =
        sym (ap (option_map (λ rest. kind.List ∷ rest)) (gather_drop n (kinds_of ops) some)) ∙ e in
        value_fit g held sl ops js kg ks (list_value (reverse (take n ops))) (drop n ops) kind.List refl
        (ap (λ l. kind.List ∷ l) (kinds_drop n ops) ∙ some_is _ _ left)
    act_fits (Jump to) ops e = some_is _ _ e
    act_fits (JumpIf to) [] e = absurd cc
    act_fits (JumpIf to) (v ∷ ops) e =
        branch_fit g held sl (v ∷ ops) js kg ks (truth_of v) (Jumps to ops) (Goes sl ops g) (some_is _ _ e)
        (kg, ks, some_is _ _ e)
    act_fits (JumpIfNot to) [] e = absurd cc
    act_fits (JumpIfNot to) (v ∷ ops) e =
        branch_fit g held sl (v ∷ ops) js kg ks (truth_of v) (Goes sl ops g) (Jumps to ops)
        (kg, ks, some_is _ _ e) (some_is _ _ e)
    act_fits (Pure id) ops e =
        let r = row_taken (is_pure (call_form id)) (builtin_signature id) (kinds_of ops) js e in
        let n = parameter_count id in
        let v = pure_of id (reverse (take n ops)) in
        let there : pushed (Some (kind_of v)) (kinds_of (drop n ops)) ≡ js =
        ap (λ o. pushed o (kinds_of (drop n ops))) (sym (pure_kind id (reverse (take n ops)) r.1))
        ∙ rest_kinds (builtin_signature id) ops js r.0 in
        value_fit g held sl ops js kg ks v (drop n ops) (kind_of v) refl there
    act_fits Used ops e =
        value_fit g held sl ops js kg ks (value.Int (pos (used (hold_all held ops) sl g))) ops kind.Int refl
        (some_is _ _ e)
    act_fits Free ops e =
        value_fit g held sl ops js kg ks (value.Int (pos (g.limit - used (hold_all held ops) sl g))) ops kind.Int
        refl (some_is _ _ e)
    act_fits SetLimit [] e = absurd cc
    act_fits SetLimit (v ∷ ops) e =
        limit_fit g held sl (v ∷ ops) js kg ks (granted (integer_of v) (used (hold_all held ops) sl g)) ops
        (only_is _ _ js e).1
    act_fits GetLimit ops e =
        value_fit g held sl ops js kg ks (value.Int (pos g.limit)) ops kind.Int refl (some_is _ _ e)
    act_fits (Host id) ops e =
        let r = row_taken (is_asked (call_form id)) (builtin_signature id) (kinds_of ops) js e in
        (r.1, arguments_kinds (builtin_signature id) ops js r.0, rest_kinds (builtin_signature id) ops js r.0)
    act_fits (Tick point) ops e = some_is _ _ e
    act_fits (Call f point) ops e = entered_fit g held sl ops js kg ks (slice_get bodies f) f refl e
    act_fits Return ops e = none_is s.result js e
    act_fits ReturnValue [] e = absurd cc
    act_fits ReturnValue (v ∷ ops) e =
        let r = with_is s.result (λ q. only_if (same_kind q (kind_of v)) []) js e in
        r.1 ∙ ap Some (same_is r.0 (kind_of v) (only_is (same_kind r.0 (kind_of v)) [] js r.2).0)
    act_fits (GoState n) ops e = less_is n s.states (only_is (nat_lt n s.states) [] js e).0
    act_fits Reset ops e = tt
    act_fits (TestSave to) ops e = (kg, ks, some_is _ _ e)
    act_fits (TestBack to) ops e = (kg, ks, some_is _ _ e)
    act_fits (KeepSlot n) ops e = absurd cc
    act_fits KeepTop ops e = absurd cc
    act_fits (Seal point) ops e = absurd cc
    act_fits Unpack ops e = absurd cc
    act_fits (BackSlot n) ops e = absurd cc
    act_fits BackTop ops e = absurd cc
    act_fits Branch ops e = absurd cc
    act_fits (Again f) ops e = absurd cc
    act_fits Awake ops e = absurd cc
