-- That no run of a checked program is lost.
use Rattle.std.specs.Prelude.{◌≡◌, ◌≢◌, ℕ, ◌<◌, List, ◌∷◌, ◌++◌, length, true}
use Rattle.lsl_value.specs.declared.names.BuiltinId.{BuiltinId}
use Rattle.lsl_value.specs.declared.tagged.Value.{Value}
use Rattle.lsl_tree.specs.Program.{Program}
use Rattle.lsl_tree.specs.Shape.{IsShaped}
use Rattle.lsl_tree.specs.Signatures.{routines_of}
use Rattle.lsl_running.specs.declared.host.Reply.{Reply}
use Rattle.lsl_running.specs.declared.kept.Kept.{Kept}
use Rattle.lsl_running.specs.Calling.{is_answered_by}
use Rattle.lsl_running.specs.Results.{Whole, Asks, Lost}
use Rattle.lsl_meaning.specs.Handlers.{whole}

-- each answer that is asked for, where those before it were given, is one to that call: it brings a value exactly
-- where the call's row has a result, or stops the script
abbrev pub AnswerTheirCalls : (List Reply → Whole) → List Reply → Type 0
AnswerTheirCalls comes answers =
    (before more : List Reply) (given : Reply) (id : BuiltinId) (asked : List Value)
    → answers ≡ before ++ given ∷ more → comes before ≡ Asks id asked → is_answered_by id given ≡ true

-- a routine with such answers is cut, asks, ends or stops, for all globals, limits and arguments
abbrev pub IsNeverLost : Type 0
IsNeverLost =
    (p : Program) → IsShaped p
    → (number : ℕ) → number < length (routines_of p)
    → (kept : Kept) (arguments : List Value) (ticks : ℕ) (answers : List Reply)
    → AnswerTheirCalls (whole p number kept arguments ticks) answers
    → whole p number kept arguments ticks answers ≢ Lost
