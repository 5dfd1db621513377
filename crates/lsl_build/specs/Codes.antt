-- The code of texts: of each the woven code of its program, known by the text's digest.
use Rattle.std.specs.Prelude.{◌≡◌, ℕ, List, [], ◌∷◌, map}
use Rattle.sha2.specs.Sha256.{sha256}
use Rattle.lsl_tree.specs.Program.{Program}
use Rattle.lsl_meaning.specs.Globals.{initial_globals}
use Rattle.lsl_code.specs.declared.woven_units.Woven.{Woven}
use Rattle.lsl_gen.specs.Programs.{generated_functions, generated_states}
use Rattle.lsl_weave.specs.Weaving.{woven_function}
use Rattle.lsl_build.specs.Accepted.{Accepted}

-- the woven code of this program, which is that of this text
pub record IsCodeOf (text : List ℕ) (program : Program) (code : Woven) : Type 0 where
  pub digest : code.digest ≡ sha256 text
  pub globals : code.globals ≡ initial_globals program
  pub states : code.states ≡ generated_states program
  pub functions : code.functions ≡ map woven_function (generated_functions program)

-- the text is accepted, and this is the code of its program
abbrev pub HasCode : List ℕ → Woven → Type 0
HasCode text code = (program : Program) × Accepted text program × IsCodeOf text program code

-- the library of these texts: each is accepted, and has its code at its place
abbrev pub AreCodesOf : List (List ℕ) → List Woven → Type 0
AreCodesOf [] [] = Unit {0}
AreCodesOf (text ∷ texts) (code ∷ library) = HasCode text code × AreCodesOf texts library
AreCodesOf texts library = ⊥
