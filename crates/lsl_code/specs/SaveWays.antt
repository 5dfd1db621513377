-- The way that saving takes through a function's code, and which ways are good.
use Rattle.std.specs.Prelude.{ℕ, zero, suc, ◌+◌, ◌&&◌, Bool, true, false, cond, nat_eq, nat_lt, List, [], ◌∷◌, Option, Some, None, drop, length, option_map, reverse, slice_get}
use Rattle.lsl_value.specs.declared.tagged.Kind.{Kind}
use Rattle.lsl_code.specs.declared.functions.Point.{Point}
use Rattle.lsl_code.specs.declared.instructions.Instr.{Instr}
use Rattle.lsl_code.specs.declared.instructions.Instr.TheVariants.{Jump, Tick, Call, TestSave, KeepSlot, KeepTop, Seal}
use Rattle.lsl_code.specs.Bodies.{Body}
use Rattle.lsl_code.specs.Fits.{all_places}
use Rattle.lsl_code.specs.Kinds.{same_kinds}

-- what is kept: a slot, or the topmost operand
pub data Keep : Type 0 where
  OfSlot : ℕ → Keep
  OfTop : Keep

-- what is kept on the way, one after another, and the point of the frame that is closed at its end
pub record SaveWay : Type 0 where
  pub order : List Keep
  pub point : ℕ

abbrev pub keeping : Keep → SaveWay → SaveWay
keeping k way = record { order = k ∷ way.order; point = way.point }

-- continues, if the jump leads forward
abbrev pub onward : {A : Type 0} → ℕ → ℕ → Option A → Option A
onward place to way = cond (nat_lt place to) way None

abbrev pub keeps_at : (ℕ → Option SaveWay) → ℕ → Option Instr → Option SaveWay
keeps_at go place (Some (TestSave to)) = onward place to (go to)
keeps_at go place (Some (Jump to)) = onward place to (go to)
keeps_at go place (Some (KeepSlot n)) = option_map (keeping (OfSlot n)) (go (place + 1))
keeps_at go place (Some KeepTop) = option_map (keeping OfTop) (go (place + 1))
keeps_at go place (Some (Seal p)) = Some (record { order = []; point = p })
keeps_at go place _ = None

-- the way from a place, of at most n instructions
abbrev pub keeps : List Instr → ℕ → ℕ → Option SaveWay
keeps code zero place = None
keeps code (suc n) place = keeps_at (keeps code n) place (slice_get code place)

abbrev pub with_one : {A B : Type 0} → Option A → (A → Option B) → Option B
with_one None go = None
with_one (Some a) go = go a

-- the current values when these are kept, or their kinds; no operand may be left
abbrev pub kept : {A : Type 0} → List A → List Keep → List A → List A → Option (List A)
kept slots [] [] hand = Some hand
kept slots [] (o ∷ operands) hand = None
kept slots (OfTop ∷ order) [] hand = None
kept slots (OfTop ∷ order) (o ∷ operands) hand = kept slots order operands (o ∷ hand)
kept slots (OfSlot n ∷ order) operands hand =
    with_one (slice_get slots n) (λ v. kept slots order operands (v ∷ hand))

abbrev pub are_kinds : Option (List Kind) → List Kind → Bool
are_kinds None ks = false
are_kinds (Some js) ks = same_kinds js ks

-- how often a slot is kept
abbrev pub keep_count : ℕ → List Keep → ℕ
keep_count n [] = 0
keep_count n (OfTop ∷ order) = keep_count n order
keep_count n (OfSlot m ∷ order) = cond (nat_eq n m) (suc (keep_count n order)) (keep_count n order)

abbrev pub is_kept_once : List Keep → ℕ → Kind → Bool
is_kept_once order n k = nat_eq (keep_count n order) 1

-- the kinds of the operands that wait at a point, the top first
abbrev pub waiting_kinds : List Kind → Point → List Kind
waiting_kinds slots point = reverse (drop (length slots) point.kinds)

-- the way ends at this point, and each slot and each waiting operand is kept once, in an order that has the
-- kinds of the point's map
abbrev pub is_save_way : List Kind → ℕ → Point → Option SaveWay → Bool
is_save_way slots p point None = false
is_save_way slots p point (Some way) =
    nat_eq way.point p && all_places (is_kept_once way.order) 0 slots
    && are_kinds (kept slots way.order (waiting_kinds slots point) []) point.kinds

abbrev pub is_test : Option Instr → Bool
is_test (Some (TestSave to)) = true
is_test i = false

abbrev pub saves_point : Body → ℕ → ℕ → Option Point → Bool
saves_point w place p None = false
saves_point w place p (Some point) =
    is_test (slice_get w.code (place + 1))
    && is_save_way w.slots p point (keeps w.code (length w.code) (place + 1))

-- directly after each tick and each call is a test, from which saving goes forward to the end of that point's frame
abbrev pub saves_at : Body → ℕ → Instr → Bool
saves_at w place (Tick p) = saves_point w place p (slice_get w.points p)
saves_at w place (Call f p) = saves_point w place p (slice_get w.points p)
saves_at w place i = true
