-- The places of a draft's pieces in the code of a function.
use Rattle.std.specs.Prelude.{ℕ, ◌+◌, ◌≡◌, List, [], ◌∷◌, Some}
use Rattle.lsl_code.specs.declared.instructions.Instr.{Instr}
use Rattle.lsl_code.specs.Bodies.{Body}
use Rattle.lsl_code.specs.Wholes.{seen}

-- these instructions, with lines in place of points, are in function f from this place on
abbrev pub HasAt : List Body → ℕ → ℕ → List Instr → Type 0
HasAt bodies f place [] = Unit {0}
HasAt bodies f place (i ∷ is) = (seen bodies f place ≡ Some i) × HasAt bodies f (place + 1) is
