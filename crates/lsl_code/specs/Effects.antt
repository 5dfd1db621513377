-- The table of kinds: what an instruction finds, and the kinds of the operands after it, with the top first.
use Rattle.std.specs.Prelude.{zero, suc, ℕ, List, [], ◌∷◌, Bool, true, false, cond, Option, Some, None, nat_lt, length, drop, reverse, slice_get, is_none, option_map, option_and_then}
use Rattle.lsl_value.specs.OperatorRows.{result_kind_of, casts_of}
use Rattle.lsl_value.specs.declared.operators.BinaryOp.{BinaryOp}
use Rattle.lsl_value.specs.declared.tagged.Kind.{Kind}
use Rattle.lsl_value.specs.declared.tagged.Kind.TheVariants as kind
use Rattle.lsl_running.specs.Calling as form
use Rattle.lsl_running.specs.Calling.{CallForm, call_form}
use Rattle.lsl_code.specs.declared.instructions.Instr.{Instr}
use Rattle.lsl_code.specs.declared.instructions.Instr.TheVariants.{Int, Str, Load, LoadGlobal, Store, StoreGlobal, Set, Drop, Unary, Binary, Cast, MakeList, Jump, JumpIf, JumpIfNot, Pure, Used, Free, SetLimit, GetLimit, Host, Tick, Call, Return, ReturnValue, GoState, Reset, TestSave, KeepSlot, KeepTop, Seal, TestBack, Unpack, BackSlot, BackTop, Branch, Again, Awake}
use Rattle.lsl_code.specs.declared.signatures.Signature.{Signature}
use Rattle.lsl_code.specs.Kinds.{same_kind, is_element, Scope, builtin_signature}

-- without these topmost kinds
abbrev pub strip : List Kind → List Kind → Option (List Kind)
strip [] ks = Some ks
strip (p ∷ ps) [] = None
strip (p ∷ ps) (k ∷ ks) = cond (same_kind p k) (strip ps ks) None

-- without n elements of a list
abbrev pub gather : ℕ → List Kind → Option (List Kind)
gather zero ks = Some ks
gather (suc n) [] = None
gather (suc n) (k ∷ ks) = cond (is_element k) (gather n ks) None

abbrev pub pushed : Option Kind → List Kind → List Kind
pushed None ks = ks
pushed (Some k) ks = k ∷ ks

abbrev pub top_kind : List Kind → (Kind → List Kind → Option (List Kind)) → Option (List Kind)
top_kind [] go = None
top_kind (k ∷ ks) go = go k ks

abbrev pub only_if : Bool → List Kind → Option (List Kind)
only_if b ks = cond b (Some ks) None

abbrev pub with_kind : Option Kind → (Kind → Option (List Kind)) → Option (List Kind)
with_kind None go = None
with_kind (Some k) go = go k

abbrev pub called : Option Signature → List Kind → Option (List Kind)
called None ks = None
called (Some g) ks = option_map (pushed g.result) (strip (reverse g.params) ks)

abbrev pub is_pure : CallForm → Bool
is_pure form.Pure = true
is_pure _ = false

abbrev pub is_asked : CallForm → Bool
is_asked form.Asked = true
is_asked form.AskedAndWaits = true
is_asked _ = false

abbrev pub called_if : Bool → Signature → List Kind → Option (List Kind)
called_if b g ks = cond b (called (Some g) ks) None

-- a slot's or a global's kind is added
abbrev pub loaded : List Kind → ℕ → List Kind → Option (List Kind)
loaded kinds n ks = with_kind (slice_get kinds n) (λ k. Some (k ∷ ks))

-- two operands' kinds, the left one's first, become that of their value
abbrev pub operated : BinaryOp → List Kind → Option (List Kind)
operated op ks =
    top_kind ks (λ left more. top_kind more (λ right rest. option_map (λ k. k ∷ rest) (result_kind_of op left right)))

-- the kinds after an instruction that finds what it needs
abbrev pub behind : Scope → Instr → List Kind → Option (List Kind)
behind s (Int n) ks = Some (kind.Int ∷ ks)
behind s (Str text) ks = Some (kind.Str ∷ ks)
behind s (Load n) ks = loaded s.slots n ks
behind s (LoadGlobal n) ks = loaded s.globals n ks
behind s (Store n) ks =
    top_kind ks (λ k rest. with_kind (slice_get s.slots n) (λ q. only_if (same_kind q k) (k ∷ rest)))
behind s (StoreGlobal n) ks =
    top_kind ks (λ k rest. with_kind (slice_get s.globals n) (λ q. only_if (same_kind q k) (k ∷ rest)))
behind s (Set n) ks = top_kind ks (λ k rest. with_kind (slice_get s.slots n) (λ q. only_if (same_kind q k) rest))
behind s Drop ks = top_kind ks (λ k rest. Some rest)
behind s (Unary op) ks = top_kind ks (λ k rest. only_if (same_kind kind.Int k) (kind.Int ∷ rest))
behind s (Binary op) ks = operated op ks
behind s (Cast to) ks = top_kind ks (λ k rest. only_if (casts_of k to) (to ∷ rest))
behind s (MakeList n) ks = option_map (λ rest. kind.List ∷ rest) (gather n ks)
behind s (Jump to) ks = Some ks
behind s (JumpIf to) ks = top_kind ks (λ k rest. Some rest)
behind s (JumpIfNot to) ks = top_kind ks (λ k rest. Some rest)
behind s (Pure id) ks = called_if (is_pure (call_form id)) (builtin_signature id) ks
behind s Used ks = Some (kind.Int ∷ ks)
behind s Free ks = Some (kind.Int ∷ ks)
behind s SetLimit ks = top_kind ks (λ k rest. only_if (same_kind kind.Int k) (kind.Int ∷ rest))
behind s GetLimit ks = Some (kind.Int ∷ ks)
behind s (Host id) ks = called_if (is_asked (call_form id)) (builtin_signature id) ks
behind s (Tick point) ks = Some ks
behind s (Call f point) ks = called (slice_get s.functions f) ks
behind s Return ks = only_if (is_none s.result) []
behind s ReturnValue ks = top_kind ks (λ k rest. with_kind s.result (λ q. only_if (same_kind q k) []))
behind s (GoState n) ks = only_if (nat_lt n s.states) []
behind s Reset ks = Some []
behind s (TestSave to) ks = Some ks
behind s (TestBack to) ks = Some ks
behind s (KeepSlot n) ks = None
behind s KeepTop ks = None
behind s (Seal point) ks = None
behind s Unpack ks = None
behind s (BackSlot n) ks = None
behind s BackTop ks = None
behind s Branch ks = None
behind s (Again f) ks = None
behind s Awake ks = None

-- the kinds after one instruction after another
abbrev pub runs : Scope → List Instr → List Kind → Option (List Kind)
runs s [] ks = Some ks
runs s (i ∷ is) ks = option_and_then (runs s is) (behind s i ks)

-- how many arguments a function takes
abbrev pub arguments_of : Option Signature → ℕ
arguments_of None = 0
arguments_of (Some g) = length g.params

-- the operands that wait at a call
abbrev pub waiting : Option Signature → List Kind → List Kind
waiting g ks = drop (arguments_of g) ks
