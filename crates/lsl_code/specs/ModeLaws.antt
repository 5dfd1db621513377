-- Saving and restoring have one result each, and keep the globals, the limit and the answers.
use Rattle.std.specs.Prelude.{ℕ, ◌≡◌, List}
use Rattle.lsl_code.specs.declared.frames.Frame.{Frame}
use Rattle.lsl_code.specs.Bodies.{Body}
use Rattle.lsl_code.specs.Machine.{Machine}
use Rattle.lsl_code.specs.ModeRuns.{Beside, beside_of, SaveRun, BackRun}

abbrev pub OneSaving : Type 0
OneSaving =
    (bodies : List Body) (m : Machine) (frames others : List Frame) (x y : Beside)
    → SaveRun bodies m frames x → SaveRun bodies m others y → (frames ≡ others) × (x ≡ y)

abbrev pub SavingKeeps : Type 0
SavingKeeps =
    (bodies : List Body) (m : Machine) (frames : List Frame) (x : Beside)
    → SaveRun bodies m frames x → x ≡ beside_of m

abbrev pub OneRestoring : Type 0
OneRestoring =
    (bodies : List Body) (handler : ℕ) (frames : List Frame) (x : Beside) (m other : Machine) (n k : ℕ)
    → BackRun bodies handler frames x m n → BackRun bodies handler frames x other k → (m ≡ other) × (n ≡ k)

abbrev pub RestoringKeeps : Type 0
RestoringKeeps =
    (bodies : List Body) (handler : ℕ) (frames : List Frame) (x : Beside) (m : Machine) (n : ℕ)
    → BackRun bodies handler frames x m n → beside_of m ≡ x
