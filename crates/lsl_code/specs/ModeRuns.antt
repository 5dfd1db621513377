-- What saving a machine, and restoring frames, end with: the code's own instructions do it, and what is beside the
-- calls stays.
use Rattle.std.specs.Prelude.{ℕ, ◌≡◌, List, [], Option, Some, slice_get, option_map}
use Rattle.lsl_running.specs.declared.host.Reply.{Reply}
use Rattle.lsl_running.specs.declared.kept.Kept.{Kept}
use Rattle.lsl_code.specs.declared.frames.Frame.{Frame}
use Rattle.lsl_code.specs.Bodies.{Body}
use Rattle.lsl_code.specs.Machine.{Machine}
use Rattle.lsl_code.specs.Modes.{repeat}
use Rattle.lsl_code.specs.Saving.{saving, save_step, begins_saving}
use Rattle.lsl_code.specs.Restoring.{awake_with, back_step, begins_restoring}

-- the globals, the limit and the answers left
pub record Beside : Type 0 where
  pub kept : Kept
  pub answers : List Reply

-- a state of saving or restoring, with what is beside it
pub record Whole (S : Type 0) : Type 0 where
  pub part : S
  pub beside : Beside

abbrev pub whole : {S : Type 0} → Beside → S → Whole S
whole x s = record { part = s; beside = x }

-- a step, in which no instruction touches what is beside
abbrev pub step_beside : {S : Type 0} → (S → Option S) → Whole S → Option (Whole S)
step_beside step s = option_map (whole s.beside) (step s.part)

abbrev pub beside_of : Machine → Beside
beside_of m = record { kept = m.kept; answers = m.answers }

-- saving this machine, which is at a tick, ends with these frames and these globals, limit and answers
abbrev pub SaveRun : List Body → Machine → List Frame → Beside → Type 0
SaveRun bodies m frames x =
    (n : ℕ)
    × (repeat (step_beside (save_step bodies)) n (whole (beside_of m) (begins_saving m.calls))
    ≡ Some (whole x (saving [] [] frames)))

-- restoring these frames of a handler, with these globals, limit and answers, ends with this machine after n
-- instructions
abbrev pub BackRun : List Body → ℕ → List Frame → Beside → Machine → ℕ → Type 0
BackRun bodies handler frames x m n =
    (body : Body) × (point : ℕ) × (slice_get bodies handler ≡ Some body)
    × (repeat (step_beside (back_step bodies)) n (whole x (begins_restoring handler body frames))
    ≡ Some (whole (beside_of m) (awake_with m.calls point [] [])))
