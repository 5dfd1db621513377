-- What the tests of units say, in the terms of kinds, places and points.
use Rattle.std.specs.Prelude.{◌≡◌, ◌≢◌, ℕ, ◌<◌, ◌≤◌, List, [], Option, Some, None, true, length, take, reverse, slice_get, All}
use Rattle.std.specs.List.{AllPairs}
use Rattle.lsl_value.specs.declared.tagged.Kind.{Kind}
use Rattle.lsl_value.specs.declared.tagged.Value.{Value}
use Rattle.lsl_table.specs.Events.{signature_of}
use Rattle.lsl_code.specs.declared.functions.Handler.{Handler}
use Rattle.lsl_code.specs.declared.functions.Point.{Point}
use Rattle.lsl_code.specs.declared.functions.StateCode.{StateCode}
use Rattle.lsl_code.specs.declared.instructions.Instr.{Instr}
use Rattle.lsl_code.specs.declared.signatures.Names.{Names}
use Rattle.lsl_code.specs.Bodies.{Body}
use Rattle.lsl_code.specs.Effects.{behind}
use Rattle.lsl_code.specs.Fits.{goes_on, has_point, most_operands, begins_with_tick, count_of, is_plain}
use Rattle.lsl_code.specs.Forward.{Forward}
use Rattle.lsl_code.specs.Kinds.{Scope, scope, names_in}
use Rattle.lsl_code.specs.Standing.{point_instr}
use Rattle.lsl_code.specs.Units.{fits_unit}
use Rattle.lsl_code.specs.Woven.{is_woven}

-- operands of these kinds, the top first, are before the instruction at this place
abbrev pub StandsWith : Body → ℕ → List Kind → Type 0
StandsWith w place ks = slice_get w.stacks place ≡ Some (Some (reverse ks))

-- an instruction finds what it needs, where it continues finds the kinds after it, and its point has those before it in
-- its map
abbrev pub FindsItsOperands : Scope → Body → ℕ → Instr → List Kind → Type 0
FindsItsOperands s w place i ks =
    (js : List Kind) × (behind s i ks ≡ Some js) × (goes_on w place i js ≡ true)
    × (has_point s w.points i ks ≡ true)

-- what the running code of a function keeps
pub record IsWellFormedFunction (names : Names) (w : Body) : Type 0 where
  pub first : StandsWith w 0 []
  pub stacks : length w.stacks ≡ length w.code
  pub finds : (place : ℕ) (i : Instr) (ks : List Kind) → slice_get w.code place ≡ Some i → StandsWith w place ks
      → FindsItsOperands (scope names w.slots w.result) w place i ks
  -- a running machine can be before each point's instruction
  pub stands : (place p : ℕ) (callee : Option ℕ) → slice_get w.code place ≡ Some (point_instr callee p)
      → (ks : List Kind) × StandsWith w place ks
  pub once : (p : ℕ) (point : Point) → slice_get w.points p ≡ Some point → count_of p w.code ≡ 1
  pub lines : length w.lines ≡ length w.points
  pub most : most_operands w.stacks ≡ w.most
  pub params : take (length w.params) w.slots ≡ w.params
  pub short : length w.code < 4294967296

-- the handler's function has the parameters of its event, and gives no value
abbrev pub HasFunction : List Body → Handler → Type 0
HasFunction bodies h =
    (w : Body) × (slice_get bodies h.function ≡ Some w) × (w.params ≡ signature_of h.event) × (w.result ≡ None)

pub record IsWellFormedState (bodies : List Body) (s : StateCode) : Type 0 where
  pub handlers : All (HasFunction bodies) s.handlers
  pub events : AllPairs (λ a b. a.event ≢ b.event) s.handlers

-- of a unit, plain or woven
pub record IsWellFormedUnit (globals : List Value) (states : List StateCode) (bodies : List Body) : Type 0 where
  pub functions : (f : ℕ) (w : Body) → slice_get bodies f ≡ Some w
      → IsWellFormedFunction (names_in globals states bodies) w
  pub forward : Forward bodies
  pub some_state : 1 ≤ length states
  pub few_states : length states ≤ 65535
  pub each_state : All (IsWellFormedState bodies) states

-- code to which nothing is added
pub record ArePlain (bodies : List Body) : Type 0 where
  pub begins : (f : ℕ) (w : Body) → slice_get bodies f ≡ Some w → begins_with_tick w.code ≡ true
  pub plain : (f place : ℕ) (w : Body) (i : Instr) → slice_get bodies f ≡ Some w → slice_get w.code place ≡ Some i
      → is_plain i ≡ true

-- what passes the test of plain units is well formed, and plain
abbrev pub FitsTells : Type 0
FitsTells =
    (globals : List Value) (states : List StateCode) (bodies : List Body)
    → fits_unit globals states bodies ≡ true → IsWellFormedUnit globals states bodies × ArePlain bodies

-- and what passes the test of woven units is well formed
abbrev pub WovenTells : Type 0
WovenTells =
    (globals : List Value) (states : List StateCode) (bodies : List Body)
    → is_woven globals states bodies ≡ true → IsWellFormedUnit globals states bodies
