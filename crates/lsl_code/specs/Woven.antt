-- Which units are woven: their code runs as a unit's does, and has code that saves and restores each of its
-- calls.
use Rattle.std.specs.Prelude.{ℕ, ◌&&◌, Bool, List}
use Rattle.lsl_value.specs.declared.tagged.Value.{Value}
use Rattle.lsl_code.specs.declared.functions.StateCode.{StateCode}
use Rattle.lsl_code.specs.declared.signatures.Names.{Names}
use Rattle.lsl_code.specs.Bodies.{Body}
use Rattle.lsl_code.specs.Fits.{all_places}
use Rattle.lsl_code.specs.Kinds.{names_in}
use Rattle.lsl_code.specs.Units.{fits_running, fits_states, is_short}
use Rattle.lsl_code.specs.BackWays.{restores_point}
use Rattle.lsl_code.specs.ForwardTests.{body_ok}
use Rattle.lsl_code.specs.SaveWays.{saves_at}

-- its code saves and restores a call at each of its points
abbrev pub is_kept : Body → Bool
is_kept w = all_places (saves_at w) 0 w.code && all_places (restores_point w) 0 w.points

abbrev pub is_woven_function : Names → ℕ → Body → Bool
is_woven_function names f w = body_ok w && fits_running names w && is_short w && is_kept w

-- a unit with these initial globals, states and functions
abbrev pub is_woven : List Value → List StateCode → List Body → Bool
is_woven globals states bodies =
    all_places (is_woven_function (names_in globals states bodies)) 0 bodies && fits_states bodies states
