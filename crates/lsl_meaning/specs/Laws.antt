-- Laws of the meaning.
use Rattle.std.specs.Prelude.{◌≡◌, ◌≢◌, ℕ, ◌+◌, List, ◌++◌}
use Rattle.lsl_value.specs.declared.names.BuiltinId.{BuiltinId}
use Rattle.lsl_value.specs.declared.tagged.Value.{Value}
use Rattle.lsl_tree.specs.Program.{Program}
use Rattle.lsl_running.specs.declared.host.Reply.{Reply}
use Rattle.lsl_running.specs.declared.kept.Kept.{Kept}
use Rattle.lsl_running.specs.Results.{ActiveCall, Asks, Cut}
use Rattle.lsl_meaning.specs.Handlers.{whole}

-- where a handler isn't cut, more ticks change nothing
abbrev pub MoreTicksChangeNothing : Type 0
MoreTicksChangeNothing =
    (p : Program) (number : ℕ) (kept : Kept) (arguments : List Value) (ticks more : ℕ) (answers : List Reply)
    → ((calls : List ActiveCall) → whole p number kept arguments ticks answers ≢ Cut calls)
    → whole p number kept arguments (ticks + more) answers ≡ whole p number kept arguments ticks answers

-- where a handler doesn't ask, more answers change nothing
abbrev pub MoreAnswersChangeNothing : Type 0
MoreAnswersChangeNothing =
    (p : Program) (number : ℕ) (kept : Kept) (arguments : List Value) (ticks : ℕ) (answers more : List Reply)
    → ((id : BuiltinId) (asked : List Value) → whole p number kept arguments ticks answers ≢ Asks id asked)
    → whole p number kept arguments ticks (answers ++ more) ≡ whole p number kept arguments ticks answers
