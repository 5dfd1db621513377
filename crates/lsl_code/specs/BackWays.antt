-- The way that restoring takes through a function's code, and which ways are good.
use Rattle.std.specs.Prelude.{ℕ, zero, suc, ◌+◌, ◌&&◌, Bool, true, false, cond, nat_eq, List, [], ◌∷◌, Option, Some, None, length, option_map, slice_get, slice_set}
use Rattle.lsl_value.specs.declared.tagged.Kind.{Kind}
use Rattle.lsl_code.specs.declared.functions.Point.{Point}
use Rattle.lsl_code.specs.declared.instructions.Instr.{Instr}
use Rattle.lsl_code.specs.declared.instructions.Instr.TheVariants.{Jump, Tick, Call, TestBack, Unpack, BackSlot, BackTop, Branch, Again, Awake}
use Rattle.lsl_code.specs.Bodies.{Body}
use Rattle.lsl_code.specs.Fits.{all_places}
use Rattle.lsl_code.specs.Kinds.{same_kinds}
use Rattle.lsl_code.specs.Modes.{landing}
use Rattle.lsl_code.specs.SaveWays.{onward, with_one, waiting_kinds}

-- where a value is put: to a slot, or on the operands
pub data Put : Type 0 where
  ToSlot : ℕ → Put
  ToTop : Put

-- where the values are put, one after another, the function that is called at the end, or none, and the place of the
-- call then
pub record BackWay : Type 0 where
  pub puts : List Put
  pub callee : Option ℕ
  pub lands : ℕ

abbrev pub putting : Put → BackWay → BackWay
putting p way = record { puts = p ∷ way.puts; callee = way.callee; lands = way.lands }

abbrev pub way_end : List Instr → ℕ → Option ℕ → Option BackWay
way_end code place callee =
    Some (record { puts = []; callee = callee; lands = landing (slice_get code (place + 1)) (place + 1) })

-- `opened` says whether a frame is current; p is its point
abbrev pub backs_at : List Instr → (Bool → ℕ → Option BackWay) → Bool → ℕ → ℕ → Option Instr → Option BackWay
backs_at code go opened p place (Some (TestBack to)) = onward place to (go opened to)
backs_at code go opened p place (Some (Jump to)) = onward place to (go opened to)
backs_at code go false p place (Some Unpack) = go true (place + 1)
backs_at code go true p place (Some Branch) = go true (place + 1 + p)
backs_at code go true p place (Some (BackSlot n)) = option_map (putting (ToSlot n)) (go true (place + 1))
backs_at code go true p place (Some BackTop) = option_map (putting ToTop) (go true (place + 1))
backs_at code go true p place (Some (Again g)) = way_end code place (Some g)
backs_at code go true p place (Some Awake) = way_end code place None
backs_at code go opened p place _ = None

-- the way from a place, of at most n instructions
abbrev pub backs : List Instr → ℕ → ℕ → Bool → ℕ → Option BackWay
backs code zero p opened place = None
backs code (suc n) p opened place = backs_at code (backs code n p) opened p place (slice_get code place)

-- the slots and the operands when the values, or their kinds, are put this way; none may be left
abbrev pub put_back : {A : Type 0} → List Put → List A → List A → List A → Option (List A × List A)
put_back [] [] slots operands = Some (slots, operands)
put_back [] (v ∷ values) slots operands = None
put_back (ToTop ∷ puts) [] slots operands = None
put_back (ToTop ∷ puts) (v ∷ values) slots operands = put_back puts values slots (v ∷ operands)
put_back (ToSlot n ∷ puts) [] slots operands = None
put_back (ToSlot n ∷ puts) (v ∷ values) slots operands =
    with_one (slice_get slots n) (λ old. put_back puts values (slice_set slots n v) operands)

-- how often a value is put to a slot
abbrev pub put_count : ℕ → List Put → ℕ
put_count n [] = 0
put_count n (ToTop ∷ puts) = put_count n puts
put_count n (ToSlot m ∷ puts) = cond (nat_eq n m) (suc (put_count n puts)) (put_count n puts)

abbrev pub is_put_once : List Put → ℕ → Kind → Bool
is_put_once puts n k = nat_eq (put_count n puts) 1

abbrev pub are_put : Option (List Kind × List Kind) → List Kind → List Kind → Bool
are_put None slots operands = false
are_put (Some r) slots operands = same_kinds r.0 slots && same_kinds r.1 operands

abbrev pub is_tick_of : ℕ → Option Instr → Bool
is_tick_of p (Some (Tick q)) = nat_eq p q
is_tick_of p i = false

abbrev pub is_call_of : ℕ → ℕ → Option Instr → Bool
is_call_of g p (Some (Call f q)) = nat_eq g f && nat_eq p q
is_call_of g p i = false

-- the call is then at the point's tick, or directly after the point's call of this function
abbrev pub lands_well : List Instr → ℕ → Option ℕ → Option ℕ → ℕ → Bool
lands_well code p None None place = is_tick_of p (slice_get code place)
lands_well code p (Some g) (Some f) (suc place) = nat_eq g f && is_call_of g p (slice_get code place)
lands_well code p calls callee place = false

-- a value is put to each slot and to each waiting operand once, each to one of its kind, and the way ends
-- with the function that the point calls, or with none at a tick
abbrev pub is_back_way : Body → ℕ → Point → Option BackWay → Bool
is_back_way w p point None = false
is_back_way w p point (Some way) =
    lands_well w.code p point.calls way.callee way.lands && all_places (is_put_once way.puts) 0 w.slots
    && are_put (put_back way.puts point.kinds w.slots []) w.slots (waiting_kinds w.slots point)

-- from the function's start restoring goes forward to the block of this point, and through it
abbrev pub restores_point : Body → ℕ → Point → Bool
restores_point w p point = is_back_way w p point (backs w.code (length w.code) p false 0)
