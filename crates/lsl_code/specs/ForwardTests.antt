-- Tests of code in which control goes back only after ticks.
use Rattle.std.specs.Prelude.{ℕ, ◌+◌, ◌&&◌, Bool, true, false, cond, List, slice_get}
use Rattle.lsl_code.specs.declared.instructions.Instr.{Instr}
use Rattle.lsl_code.specs.declared.instructions.Instr.TheVariants.{Jump, JumpIf, JumpIfNot}
use Rattle.lsl_code.specs.Bodies.{Body}
use Rattle.lsl_code.specs.Fits.{all_places}
use Rattle.lsl_code.specs.Forward.{leads_back, frees, begins}

-- a jump backward is there, or directly after a test there
abbrev pub high_in : List Instr → ℕ → Bool
high_in code place = leads_back place (slice_get code place) (slice_get code (place + 1))

-- a jump doesn't lead to one
abbrev pub lands_ok : List Instr → Instr → Bool
lands_ok code (Jump to) = cond (high_in code to) false true
lands_ok code (JumpIf to) = cond (high_in code to) false true
lands_ok code (JumpIfNot to) = cond (high_in code to) false true
lands_ok code i = true

-- and one is reached only after a tick
abbrev pub place_ok : List Instr → ℕ → Instr → Bool
place_ok code place i =
    lands_ok code i && cond (frees i place (slice_get code (place + 1))) true
    (cond (high_in code (place + 1)) false true)

-- the function begins with a tick, or with a test before one
abbrev pub body_ok : Body → Bool
body_ok b = begins (slice_get b.code 0) (slice_get b.code 1) && all_places (place_ok b.code) 0 b.code
