-- Tables of places in woven code.
use Rattle.std.specs.Prelude.{ℕ, ◌+◌, ◌-◌, ◌≤◌, ◌<◌, ◌≡◌, List, Some, length, slice_get, slice_set}
use Rattle.lsl_code.specs.declared.functions.FunctionCode.{FunctionCode}
use Rattle.lsl_code.specs.declared.functions.Point.{Point}
use Rattle.lsl_code.specs.declared.instructions.Instr.{Instr}
use Rattle.lsl_code.specs.declared.instructions.Instr.TheVariants.{Tick, Call}
use Rattle.lsl_code.specs.Bodies.{Body, plain_body}
use Rattle.lsl_weave.specs.declared.tables.Tables.{Tables}
use Rattle.lsl_weave.specs.Layout.{offset, width, save_width, back_width, saves_from, backs_from, place_of}

-- the sums of the first 0, 1, ..., n widths, from a start
pub record IsTableTo {A : Type 0} (start : ℕ) (w : A → ℕ) (xs : List A) (n : ℕ) (table : List ℕ)
    (sum : ℕ) : Type 0 where
  pub long : length table ≡ n + 1
  pub at : (k : ℕ) → k ≤ n → slice_get table k ≡ Some (start + offset w xs k)
  pub sum_is : sum ≡ start + offset w xs n

-- and of all widths
pub record IsTable {A : Type 0} (start : ℕ) (w : A → ℕ) (xs : List A) (table : List ℕ) : Type 0 where
  pub long : length table ≡ length xs + 1
  pub at : (k : ℕ) → k ≤ length xs → slice_get table k ≡ Some (start + offset w xs k)

-- the width of a point's block, with what follows its slots and operands
abbrev pub block_width : ℕ → ℕ → Point → ℕ
block_width slots extra point = length point.kinds - slots + slots + extra

-- the table with this place, where the instruction has a point
abbrev pub with_place : List ℕ → Instr → ℕ → List ℕ
with_place places (Tick p) place = slice_set places p place
with_place places (Call f p) place = slice_set places p place
with_place places i place = places

-- the places of the plain instructions, of the blocks that save and those that restore, and of each point in plain code
pub record AreTables (b : Body) (shifts saves backs places : List ℕ) : Type 0 where
  pub shifts_are : IsTable 1 width b.code shifts
  pub saves_are : IsTable (saves_from b) (save_width b) b.points saves
  pub backs_are : IsTable (backs_from b + 2 + length b.points) (back_width b) b.points backs
  pub places_are : (p : ℕ) → p < length b.points → slice_get places p ≡ Some (place_of p b.code)

-- of this function
abbrev pub TablesOf : FunctionCode → Tables → Type 0
TablesOf function t =
    AreTables (plain_body function) t.shifts.items t.saves.items t.backs.items t.places.items
