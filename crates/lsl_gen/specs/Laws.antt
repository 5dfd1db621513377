-- What the code of a program is, and what it results in.
use Rattle.std.specs.Prelude.{◌≡◌, ◌≢◌, ℕ, suc, ◌*◌, ◌≤◌, List, ◌++◌, length, map, All, true}
use Rattle.lsl_value.specs.declared.names.BuiltinId.{BuiltinId}
use Rattle.lsl_value.specs.declared.tagged.Value.{Value}
use Rattle.lsl_tree.specs.Kinded.{IsKinded}
use Rattle.lsl_tree.specs.Program.{Program}
use Rattle.lsl_tree.specs.Shape.{IsShaped}
use Rattle.lsl_tree.specs.Signatures.{routines_of}
use Rattle.lsl_running.specs.declared.host.Reply.{Reply}
use Rattle.lsl_running.specs.declared.kept.Kept.{Kept}
use Rattle.lsl_running.specs.Charging.{default_limit}
use Rattle.lsl_running.specs.Results.{ActiveCall, Asks, Cut}
use Rattle.lsl_meaning.specs.Globals.{initial_globals}
use Rattle.lsl_meaning.specs.Handlers.{whole}
use Rattle.lsl_code.specs.Bodies.{Body, plain_body}
use Rattle.lsl_code.specs.Units.{fits_unit}
use Rattle.lsl_code.specs.Wholes.{whole_of_bodies}
use Rattle.lsl_gen.specs.Counts.{nodes_of}
use Rattle.lsl_gen.specs.Programs.{IsShort, generated_functions, generated_states}

-- each routine run from its start results in what it means: for all globals and limits, arguments, ticks and answers
abbrev pub Agrees : List Body → Program → Type 0
Agrees bodies p =
    (number : ℕ) (kept : Kept) (arguments : List Value) (ticks : ℕ) (answers : List Reply)
    → whole_of_bodies bodies number kept arguments ticks answers ≡ whole p number kept arguments ticks answers

abbrev pub CodeRunsAsMeant : Type 0
CodeRunsAsMeant = (p : Program) → IsKinded p → IsShaped p → Agrees (map plain_body (generated_functions p)) p

-- places and states have numbers that instructions can hold
pub record HasShortCode (p : Program) : Type 0 where
  pub routines : All IsShort (routines_of p)
  pub states : length p.states ≤ 65535

abbrev pub UnitsAreWellFormed : Type 0
UnitsAreWellFormed =
    (p : Program) → IsKinded p → IsShaped p → HasShortCode p
    → fits_unit (initial_globals p) (generated_states p) (map plain_body (generated_functions p)) ≡ true

-- a handler that is cut, and continues with one tick and this many answers more, makes no call before its next tick
abbrev pub AsksSoOften : Type 0
AsksSoOften =
    (p : Program) → IsKinded p → IsShaped p
    → (number : ℕ) (kept : Kept) (arguments : List Value) (ticks : ℕ) (answers replies : List Reply)
    (calls : List ActiveCall)
    → whole p number kept arguments ticks answers ≡ Cut calls
    → kept.limit ≤ default_limit → 2048 * nodes_of p ≤ length replies
    → (id : BuiltinId) (asked : List Value)
    → whole p number kept arguments (suc ticks) (answers ++ replies) ≢ Asks id asked
