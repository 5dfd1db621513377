-- A run continues with further answers.
use Rattle.std.proofs.Common.{◌≡◌, ℕ, zero, suc, ◌+◌, ◌<◌, ◌≤◌, List, [], ◌∷◌, ◌++◌, Bool, true, false, cond, Option, None, Some, refl, sym, ap, ◌∙◌, arith}
use Rattle.lsl_value.specs.declared.names.BuiltinId.{BuiltinId}
use Rattle.lsl_value.specs.declared.tagged.Value.{Value}
use Rattle.lsl_running.specs.declared.ends.Fault.TheVariants.{StackHeap}
use Rattle.lsl_running.specs.declared.host.Reply.{Reply}
use Rattle.lsl_running.specs.declared.host.Reply.TheVariants as reply
use Rattle.lsl_running.specs.declared.kept.Kept.{Kept}
use Rattle.lsl_running.specs.Calling.{is_answered_by}
use Rattle.lsl_running.specs.Charging.{is_within}
use Rattle.lsl_code.specs.Bodies.{Body, instruction_at}
use Rattle.lsl_code.specs.Acts.{Did, Goes, Jumps, Enters, Leaves, Passes, Asks, Ends, Fails, Stuck, act}
use Rattle.lsl_code.specs.Machine.{MachineCall, Machine, Faulted, Lost, Passing, Waiting, Next, On, Pauses, Halts, base, used_in, put, checked, left_to, replied, answered, after, step_in, step}
use Rattle.lsl_code.specs.Runs.{on, run, passed}
use Rattle.lsl_code.specs.Forward.{Forward}
use Rattle.lsl_code.specs.Laws.{with_answers, after_answers, MoreAnswers}
use Rattle.lsl_code.proofs.Running.{Falls, step_falls, run_law}
use Rattle.lsl_code.proofs.Ranks.{left}

module _ (bodies : List Body) (b : List Reply) where
  -- a step with these further answers
  abbrev pub Same : Next → Next → Type 0
  Same (On m) y = y ≡ On (with_answers b m)
  Same (Pauses (Passing m)) y = y ≡ Pauses (Passing (with_answers b m))
  Same (Pauses (Waiting id args)) y = Unit {0}
  Same (Halts e) y = y ≡ Halts e

  cond_same : (c : Bool) (m : Machine)
      → Same (cond c (On m) (Halts (Faulted StackHeap)))
      (cond c (On (with_answers b m)) (Halts (Faulted StackHeap)))
  cond_same true m = refl
  cond_same false m = refl

  checked_same : (m : Machine) → Same (checked m) (checked (with_answers b m))
  checked_same m = cond_same (is_within m.kept (used_in m.calls m.kept)) m

  only_if_same : (c : Bool) (x y : Next) → Same x y → Same (cond c x (Halts Lost)) (cond c y (Halts Lost))
  only_if_same true x y h = h
  only_if_same false x y h = refl

  answered_same : (a : List Reply) (id : BuiltinId) (args : List Value) (go : Reply → List Reply → Next)
      → ((r : Reply) (more : List Reply) → Same (go r more) (go r (more ++ b)))
      → Same (answered a id args go) (answered (a ++ b) id args go)
  answered_same [] id args go h = tt
  answered_same (r ∷ more) id args go h = only_if_same (is_answered_by id r) (go r more) (go r (more ++ b)) (h r more)

  replied_same : (r : Reply) (g : Kept) (a : List Reply) (f q : ℕ) (sl rest : List Value)
      (outer : List MachineCall) → Same (replied r g a f q sl rest outer) (replied r g (a ++ b) f q sl rest outer)
  replied_same (reply.Value (Some v)) g a f q sl rest outer = checked_same (put g a f q sl (v ∷ rest) outer)
  replied_same (reply.Value None) g a f q sl rest outer = refl
  replied_same (reply.Stop x) g a f q sl rest outer = refl

  left_same : (outer : List MachineCall) (g : Kept) (a : List Reply) (o : Option Value)
      → Same (left_to outer g a o) (left_to outer g (a ++ b) o)
  left_same [] g a o = refl
  left_same (c ∷ outer) g a None = refl
  left_same (c ∷ outer) g a (Some v) = checked_same (put g a c.function c.place c.slots (v ∷ c.operands) outer)

  after_same : (d : Did) (g : Kept) (a : List Reply) (f pc : ℕ) (sl ops : List Value) (outer : List MachineCall)
      → Same (after d g a f pc sl ops outer) (after d g (a ++ b) f pc sl ops outer)
  after_same (Goes sl' ops' g') g a f pc sl ops outer = refl
  after_same (Jumps t ops') g a f pc sl ops outer = refl
  after_same (Enters j ns rest) g a f pc sl ops outer = refl
  after_same (Leaves o) g a f pc sl ops outer = left_same outer g a o
  after_same Passes g a f pc sl ops outer = refl
  after_same (Asks id args rest) g a f pc sl ops outer =
      answered_same a id args _ (λ r more. replied_same r g more f (pc + 1) sl rest outer)
  after_same (Ends s) g a f pc sl ops outer = refl
  after_same (Fails x) g a f pc sl ops outer = refl
  after_same Stuck g a f pc sl ops outer = refl

  pub step_in_same : (g : Kept) (a : List Reply) (calls : List MachineCall)
      → Same (step_in bodies g a calls) (step_in bodies g (a ++ b) calls)
  step_in_same g a [] = refl
  step_in_same g a (c ∷ outer) =
      after_same (act bodies (instruction_at bodies c.function c.place) g (base outer) c.slots c.operands) g a
      c.function c.place c.slots c.operands outer

  module _ (forward : Forward bodies) where
    module _ (t : ℕ)
        (tick_same : (m next : Machine) → passed bodies t (with_answers b m)
        (Passing (with_answers b next)) ≡ after_answers bodies b (passed bodies t m (Passing next)))
      where
        waits : (t : ℕ) (m : Machine) (id : BuiltinId) (args : List Value)
            → run bodies t (with_answers b m) ≡ after_answers bodies b (passed bodies t m (Waiting id args))
        waits zero m id args = refl
        waits (suc t) m id args = refl

        on_case : (m : Machine) (x y : Next) → step bodies (with_answers b m) ≡ y → Same x y
            → Falls bodies (left bodies m) x
            → ((next : Machine) → left bodies next < left bodies m → run bodies t
            (with_answers b next) ≡ after_answers bodies b (run bodies t next))
            → run bodies t (with_answers b m) ≡ after_answers bodies b (on x (passed bodies t m) (run bodies t))
        on_case m (On next) y d same falls go =
            run_law bodies forward t (with_answers b m)
            ∙ ap (λ x. on x (passed bodies t (with_answers b m)) (run bodies t)) (d ∙ same) ∙ go next falls
        on_case m (Pauses (Passing next)) y d same falls go =
            run_law bodies forward t (with_answers b m)
            ∙ ap (λ x. on x (passed bodies t (with_answers b m)) (run bodies t)) (d ∙ same) ∙ tick_same m next
        on_case m (Pauses (Waiting id args)) y d same falls go = waits t m id args
        on_case m (Halts e) y d same falls go =
            run_law bodies forward t (with_answers b m)
            ∙ ap (λ x. on x (passed bodies t (with_answers b m)) (run bodies t)) (d ∙ same)

        stretch : (n : ℕ) (m : Machine) → left bodies m ≤ n
            → run bodies t (with_answers b m) ≡ after_answers bodies b (run bodies t m)
        stretch zero m le =
            on_case m (step bodies m) (step bodies (with_answers b m)) refl (step_in_same m.kept m.answers m.calls)
            (step_falls bodies forward m) (λ next lt. absurd (omega arith))
            ∙ sym (ap (after_answers bodies b) (run_law bodies forward t m))
        stretch (suc n) m le =
            on_case m (step bodies m) (step bodies (with_answers b m)) refl (step_in_same m.kept m.answers m.calls)
            (step_falls bodies forward m) (λ next lt. stretch n next (omega arith))
            ∙ sym (ap (after_answers bodies b) (run_law bodies forward t m))

    -- a run with further answers is the run without them, continued from where it asked
    pub answers_law : (t : ℕ) (m : Machine)
        → run bodies t (with_answers b m) ≡ after_answers bodies b (run bodies t m)
    answers_law zero m = stretch zero (λ m next. refl) (left bodies m) m (omega arith)
    answers_law (suc t) m = stretch (suc t) (λ m next. answers_law t next) (left bodies m) m (omega arith)

pub more_answers : MoreAnswers
more_answers bodies forward t further m = answers_law bodies further forward t m
