-- An awake script stays one of its unit.
use Rattle.std.proofs.Common.{◌≡◌, ◌≢◌, ℕ, ◌+◌, List, [], ◌∷◌, ◌++◌, Option, Some, refl, sym, ap, ◌∙◌, subst, append_assoc}
use Rattle.lsl_running.specs.declared.ends.Fault.TheVariants.{TooManyListens}
use Rattle.lsl_running.specs.declared.ends.Outcome.{Outcome}
use Rattle.lsl_running.specs.declared.host.Reply.{Reply}
use Rattle.lsl_running.specs.declared.kept.Kept.{Kept}
use Rattle.lsl_value.specs.declared.tagged.Value.{Value}
use Rattle.lsl_running.specs.declared.host.Reply.TheVariants as reply
use Rattle.lsl_code.specs.declared.woven_units.Woven.{Woven as Code}
use Rattle.lsl_code.specs.Bodies.{Body}
use Rattle.lsl_code.specs.Laws.{with_answers}
use Rattle.lsl_code.specs.Machine.{Machine, Ended}
use Rattle.lsl_code.specs.Runs.{Over, run}
use Rattle.lsl_machine.specs.declared.standing.Halt.{Halt as Answer}
use Rattle.lsl_machine.specs.declared.standing.Halt.TheVariants as halt
use Rattle.lsl_machine.specs.declared.standing.Standing.{Standing}
use Rattle.lsl_machine.specs.declared.standing.Standing.TheVariants as standing
use Rattle.lsl_machine.specs.Futures.{IsAsked, RunsOn, halt_from, ticks_passed}
use Rattle.lsl_machine.specs.State.{CanRun, IsIn, IsKinded, State, bodies_of, standing_of}
use Rattle.lsl_script.specs.declared.live.Live.{Live}
use Rattle.lsl_script.specs.Awake.{AnswersAs, GoesOnAs, HasEndedAs, IsAwake, IsOnWayAs, IsRunning, Run, StandsAfter}
use Rattle.lsl_script.specs.Mailing.{turn_of}
use Rattle.lsl_script.proofs.Flights.{QuietEnd, Quiet, quiet_keeps}
use Rattle.lsl_script.proofs.RunKeeps.{KeptAt}
use Rattle.lsl_script.proofs.Turning.{Behind, behind}

-- what can run continues as it does
pub on_way_goes : (z : Standing) (bodies : List Body) (comes : Run) (ticks : ℕ) (given : List Reply) (s : State)
    → CanRun z → IsOnWayAs z bodies comes ticks given s → GoesOnAs bodies comes ticks given s
on_way_goes standing.Ready bodies comes ticks given s can on = on
on_way_goes standing.Full bodies comes ticks given s can on = on
on_way_goes standing.AtTick bodies comes ticks given s can on = on
on_way_goes (standing.Asking id) bodies comes ticks given s can on = absurd can
on_way_goes (standing.Ended way) bodies comes ticks given s can on = absurd can
on_way_goes standing.Lost bodies comes ticks given s can on = absurd can

pub goes_way : (z : Standing) (bodies : List Body) (comes : Run) (ticks : ℕ) (given : List Reply) (s : State)
    → CanRun z → GoesOnAs bodies comes ticks given s → IsOnWayAs z bodies comes ticks given s
goes_way standing.Ready bodies comes ticks given s can goes = goes
goes_way standing.Full bodies comes ticks given s can goes = goes
goes_way standing.AtTick bodies comes ticks given s can goes = goes
goes_way (standing.Asking id) bodies comes ticks given s can goes = absurd can
goes_way (standing.Ended way) bodies comes ticks given s can goes = absurd can
goes_way standing.Lost bodies comes ticks given s can goes = absurd can

halted_on : (h : Answer) (bodies : List Body) (comes : Run) (ticks : ℕ) (given : List Reply) (s : State)
    → Behind bodies comes ticks given h s → IsOnWayAs (standing_of h) bodies comes ticks given s
halted_on (halt.Asks call) bodies comes ticks given s b = record { same = λ more r answers. b more (r ∷ answers) }
halted_on halt.AtTick bodies comes ticks given s b = record { same = b }
halted_on (halt.Ended way) bodies comes ticks given s b = tt
halted_on (halt.Faulted fault) bodies comes ticks given s b = tt
halted_on halt.NoMemory bodies comes ticks given s b = tt

module _ (unit : Code) (handler : ℕ) (old new : State) (running : IsRunning (bodies_of unit) handler old) where
  abbrev bodies : List Body
  bodies = bodies_of unit

  module _ (can : CanRun old.standing) (h : Answer) (runs : RunsOn bodies old h new) where
    came : Behind bodies running.run (running.ticks + ticks_passed old.standing) running.given h new
    came =
        behind bodies running.run running.ticks (running.ticks + ticks_passed old.standing) running.given old h new
        (on_way_goes old.standing bodies running.run running.ticks running.given old can running.on_way) runs refl

    pub runs_still : new.standing ≡ standing_of h → IsRunning (bodies_of unit) handler new
    runs_still stands = record {
      run = running.run;
      of = running.of;
      ticks = running.ticks + ticks_passed old.standing;
      given = running.given;
      on_way = subst (λ z. IsOnWayAs z bodies running.run (running.ticks + ticks_passed old.standing) running.given new)
          (sym stands) (halted_on h bodies running.run _ running.given new came);
    }

  -- with an answer
  pub runs_answered : (given : Option Value) → AnswersAs bodies running.run running.ticks running.given old
      → ((ticks : ℕ) (more : List Reply)
      → halt_from old.standing bodies old.machine ticks (reply.Value given ∷ more)
      ≡ halt_from new.standing bodies new.machine ticks more)
      → CanRun new.standing → IsRunning (bodies_of unit) handler new
  runs_answered given answers same can = record {
    run = running.run;
    of = running.of;
    ticks = running.ticks;
    given = running.given ++ reply.Value given ∷ [];
    on_way = goes_way new.standing bodies running.run running.ticks (running.given ++ reply.Value given ∷ []) new can
        (record {
          same = λ more later.
              ap (running.run (running.ticks + more)) (append_assoc running.given (reply.Value given ∷ []) later)
              ∙ answers.same more (reply.Value given) later ∙ same more later;
        });
  }

ran : (unit : Code) (m : Machine) (ticks : ℕ) (way : Outcome) (kept : Kept) → IsKinded unit m → m.answers ≡ []
    → run (bodies_of unit) (ticks + 0) (with_answers [] m) ≡ Over (Ended way kept) → QuietEnd unit (Ended way kept)
ran unit m ticks way kept of none e =
    subst (KeptAt (Quiet unit) (QuietEnd unit) (bodies_of unit)) e
    (quiet_keeps unit (ticks + 0) (with_answers [] m)
    (record { kept = of.kept; calls = of.calls }, ap (λ (a : List Reply). a ++ []) none))

-- a machine that ended left globals of their kinds
ended_kinds : (unit : Code) (z : Standing) (m : Machine) (way : Outcome) (kept : Kept) → CanRun z → IsIn unit z m
    → m.answers ≡ [] → halt_from z (bodies_of unit) m (ticks_passed z + 0) [] ≡ Over (Ended way kept)
    → QuietEnd unit (Ended way kept)
ended_kinds unit standing.Ready m way kept can of none e = ran unit m 0 way kept of none e
ended_kinds unit standing.AtTick m way kept can of none e = ran unit m 1 way kept of.0 none e
ended_kinds unit standing.Full m way kept can of none e = absurd cc
ended_kinds unit z m way kept can of none e = absurd can

-- where it is after a turn
pub stands_after : (unit : Code) (old new : Live) (h : Answer) → IsAwake unit old → CanRun old.machine.standing
    → RunsOn (bodies_of unit) old.machine h new.machine → new.machine.standing ≡ standing_of h → IsAsked h
    → h ≢ halt.Faulted TooManyListens → ((way : Outcome) → h ≡ halt.Ended way → new.outcome ≡ Some way)
    → StandsAfter unit (turn_of h) new
stands_after unit old new (halt.Asks call) a can runs stands asked few outcome =
    (stands, record { asked = asked.0; kinds = asked.1 })
stands_after unit old new halt.AtTick a can runs stands asked few outcome = stands
stands_after unit old new (halt.Ended way) a can runs stands asked few outcome =
    let k = ended_kinds unit old.machine.standing old.machine.machine way new.machine.machine.kept can a.machine.0
    a.silent (runs 0 []) in
    subst (λ z. HasEndedAs unit new.outcome z new.machine.machine.kept) (sym stands) (
      outcome way refl,
      record {
        kinds = k.0;
        left = a.running.of.ended _ _ way new.machine.machine.kept
            (came unit old.handler old.machine new.machine a.running can (halt.Ended way) runs 0 []);
        outcome = k.1;
      },
    )
stands_after unit old new (halt.Faulted fault) a can runs stands asked few outcome = λ e. few (ap halt.Faulted e)
stands_after unit old new halt.NoMemory a can runs stands asked few outcome = tt
