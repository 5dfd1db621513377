-- The names of a unit's functions and states, and the lines of its points, for a reader.
use Rattle.std.specs.Prelude.{◌≡◌, ℕ, ◌<◌, List, [], length, Option, Some, None, get_or, slice_get}
use Rattle.lsl_code.specs.declared.functions.StateCode.{StateCode}
use Rattle.lsl_code.specs.declared.woven_functions.WovenCode.{WovenCode}

abbrev pub name_in : Option WovenCode → List ℕ
name_in None = []
name_in (Some function) = function.name

-- the name of the function of this number: a handler's is its event's
abbrev pub function_name : List WovenCode → ℕ → List ℕ
function_name functions number = name_in (slice_get functions number)

abbrev pub state_name_in : Option StateCode → List ℕ
state_name_in None = []
state_name_in (Some state) = state.name

abbrev pub state_name : List StateCode → ℕ → List ℕ
state_name states number = state_name_in (slice_get states number)

abbrev pub lines_in : Option WovenCode → List ℕ
lines_in None = []
lines_in (Some function) = function.lines

-- the line of the text for a call at this point
abbrev pub line_of : List WovenCode → (function point : ℕ) → ℕ
line_of functions function point = get_or (lines_in (slice_get functions function)) point 0

-- there is such a function, and it has such a point
abbrev pub HasPoint : List WovenCode → (function point : ℕ) → Type 0
HasPoint functions function point =
    (code : WovenCode) × (slice_get functions function ≡ Some code) × (point < length code.points)
