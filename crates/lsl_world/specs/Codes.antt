-- Which code runs a program: what the compiler promises of both.
use Rattle.std.specs.Prelude.{◌≡◌, ◌≤◌, List}
use Rattle.std.specs.List.{AllZip}
use Rattle.lsl_tree.specs.Kinded.{IsKinded}
use Rattle.lsl_tree.specs.Program.{Program}
use Rattle.lsl_tree.specs.Shape.{IsShaped}
use Rattle.lsl_meaning.specs.Globals.{initial_globals}
use Rattle.lsl_code.specs.declared.woven_units.Woven.{Woven as Code}
use Rattle.lsl_code.specs.Laws.{hosts_of}
use Rattle.lsl_gen.specs.Counts.{nodes_of}
use Rattle.lsl_gen.specs.Laws.{Agrees}
use Rattle.lsl_gen.specs.Programs.{generated_states}
use Rattle.lsl_machine.specs.State.{bodies_of}

-- the code begins with the program's globals, has its states and handlers, runs as it is meant, and makes host calls at
-- no more places than the program has nodes
pub record IsRunBy (program : Program) (code : Code) : Type 0 where
  pub globals : code.globals ≡ initial_globals program
  pub states : code.states ≡ generated_states program
  pub meaning : Agrees (bodies_of code) program
  pub asks : hosts_of (bodies_of code) ≤ nodes_of program
  pub kinded : IsKinded program
  pub shaped : IsShaped program

-- program by program
abbrev pub AreRunBy : List Program → List Code → Type 0
AreRunBy programs codes = AllZip IsRunBy programs codes
