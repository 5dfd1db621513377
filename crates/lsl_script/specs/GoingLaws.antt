-- Where a script goes after its handler ended, by how it ended. That it continues to the state for which it leaves
-- already is LeavingGoesOn of Laws; with it each case has its rule.
use Rattle.std.specs.Prelude.{◌≡◌, ◌≢◌, ℕ, Bool, true, false, Option, None}
use Rattle.lsl_running.specs.declared.ends.Outcome.TheVariants as outcome
use Rattle.lsl_script.specs.declared.going.Going.TheVariants.{Stays, Leaves, Enters, Restarts}
use Rattle.lsl_script.specs.Handlers.{going_of}

-- by a reset it begins again, also while it leaves its state
abbrev pub ResetsRestart : Type 0
ResetsRestart =
    (leaving : Option ℕ) (state : ℕ) (exits : Bool) → going_of leaving state exits outcome.Reset ≡ Restarts

-- by a return it stays, and so by a change to the state in which it is
abbrev pub ReturnsStay : Type 0
ReturnsStay =
    (state : ℕ) (exits : Bool)
    → (going_of None state exits outcome.Return ≡ Stays) × (going_of None state exits (outcome.StateTo state) ≡ Stays)

-- by a change to another state it leaves its own first, where that has a handler of its exit, and otherwise is there at
-- once
abbrev pub ChangesLeaveFirst : Type 0
ChangesLeaveFirst =
    (n state : ℕ) → n ≢ state
    → (going_of None state true (outcome.StateTo n) ≡ Leaves n)
    × (going_of None state false (outcome.StateTo n) ≡ Enters n)
