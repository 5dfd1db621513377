-- Each point of a function of a woven unit has a line.
use Rattle.std.proofs.Common.{◌≡◌, ◌∙◌, ap, ℕ, List, length, get_or, Some, slice_get}
use Rattle.std.specs.Prelude.{map, option_map}
use Rattle.std.proofs.lemmas.Option.{get_or_from_slice_get, slice_get-map}
use Rattle.lsl_code.specs.declared.woven_functions.WovenCode.{WovenCode}
use Rattle.lsl_code.specs.declared.woven_units.Woven.{Woven}
use Rattle.lsl_code.specs.WovenBodies.{woven_body}
use Rattle.lsl_code.proofs.UnitTold.{woven_tells}

pub lines_long : (unit : Woven) (f : ℕ) (code : WovenCode) → slice_get unit.functions f ≡ Some code
    → length code.lines ≡ length code.points
lines_long unit f code is =
    let told = woven_tells unit.globals unit.states (map woven_body unit.functions) unit.woven in
    (told.functions f (woven_body code) (slice_get-map woven_body unit.functions f ∙ ap (option_map woven_body) is)).lines

-- what is at a place is the function of this number
pub function_is : (functions list : List WovenCode) (f place : ℕ) (x code : WovenCode) → list ≡ functions → place ≡ f
    → x ≡ get_or list place x → slice_get functions f ≡ Some code → x ≡ code
function_is functions list f place x code same at is there =
    is ∙ ap (λ (l : List WovenCode). get_or l place x) same ∙ ap (λ (k : ℕ). get_or functions k x) at
    ∙ get_or_from_slice_get functions f code x there
