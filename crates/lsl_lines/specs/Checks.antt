-- Checks, one after another: each gives a value, or the fault of the line.
use Rattle.std.specs.Prelude.{Bool, cond, Result, Ok, Err}
use Rattle.lsl_lines.specs.declared.faults.FileKind.{FileKind}

infixl 10 ◌>>=◌
abbrev pub ◌>>=◌ : {A B : Type 0} → Result A FileKind → (A → Result B FileKind) → Result B FileKind
(Ok x) >>= f = f x
(Err kind) >>= f = Err kind

-- this fault where the test fails, otherwise the result of the further checks
abbrev pub fault_unless : {A : Type 0} → Bool → FileKind → Result A FileKind → Result A FileKind
fault_unless test kind more = cond test more (Err kind)
