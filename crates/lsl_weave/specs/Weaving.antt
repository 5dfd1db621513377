-- The woven unit of a plain one.
use Rattle.std.specs.Prelude.{◌≡◌, map}
use Rattle.lsl_code.specs.declared.functions.FunctionCode.{FunctionCode}
use Rattle.lsl_code.specs.declared.units.Unit.{Unit as Code}
use Rattle.lsl_code.specs.declared.woven_functions.WovenCode.{WovenCode}
use Rattle.lsl_code.specs.declared.woven_units.Woven.{Woven}
use Rattle.lsl_code.specs.Bodies.{plain_body}
use Rattle.lsl_weave.specs.Layout.{woven_code, woven_stacks}

-- the function with its woven code
abbrev pub woven_function : FunctionCode → WovenCode
woven_function f = record {
  name = f.name;
  params = f.params;
  slots = f.slots;
  result = f.result;
  most = f.most;
  points = f.points;
  lines = f.lines;
  code = woven_code (plain_body f);
  running = woven_stacks (plain_body f);
}

-- the unit is the same except for the code of its functions, which is woven
pub record IsWovenOf (unit : Code) (woven : Woven) : Type 0 where
  pub digest : woven.digest ≡ unit.digest
  pub globals : woven.globals ≡ unit.globals
  pub states : woven.states ≡ unit.states
  pub functions : woven.functions ≡ map woven_function unit.functions
