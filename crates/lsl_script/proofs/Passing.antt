-- An awake script passes the current tick.
use Rattle.std.proofs.Common.{◌≡◌, ℕ, false, ◌+◌, ◌-◌, ◌<◌, ◌≤◌, List, [], ◌++◌, refl, sym, ap, ◌∙◌, subst, arith}
use Rattle.lsl_running.specs.declared.host.Reply.{Reply}
use Rattle.lsl_code.specs.declared.woven_units.Woven.{Woven as Code}
use Rattle.lsl_machine.specs.declared.standing.Halt.TheVariants as halt
use Rattle.lsl_machine.specs.declared.standing.Standing.TheVariants as standing
use Rattle.lsl_machine.specs.Futures.{StandsCut, halt_from, ticks_passed}
use Rattle.lsl_machine.specs.Passing.{NoTick, OneMore, PassesTick, PassesTicks}
use Rattle.lsl_machine.specs.State.{CanRun, IsOf, State, bodies_of}
use Rattle.lsl_script.specs.declared.live.Live.{Live}
use Rattle.lsl_script.specs.declared.live.Turn.TheVariants as turn
use Rattle.lsl_script.specs.Awake.{GoesOnAs, IsAwake, IsRunning, Run}
use Rattle.lsl_script.specs.Lives.{IsFresh, Lives, Rests, Turns, flight_run, ticks_due}
use Rattle.lsl_script.specs.Passing as segments
use Rattle.lsl_script.specs.Passing.{PassesPart, PassesSegment, PassesSegments, PassesTo}
use Rattle.lsl_script.specs.Scripts.{Flight, Script}
use Rattle.lsl_script.proofs.Comes.{more_given}
use Rattle.lsl_script.proofs.Running.{begun_runs_so, source_on}
use Rattle.lsl_script.proofs.Staying.{goes_way, on_way_goes}

-- the machine after its tick
pub record HasPassed (unit : Code) (old new : State) : Type 0 where
  pub stands : old.standing ≡ standing.AtTick
  pub runs : (ticks : ℕ) (answers : List Reply)
      → halt_from old.standing (bodies_of unit) old.machine (1 + ticks) answers
      ≡ halt_from new.standing (bodies_of unit) new.machine ticks answers
  pub able : CanRun new.standing
  pub of : IsOf unit new
  pub silent : new.machine.answers ≡ []

module _ (unit : Code) (old new : State) (p : HasPassed unit old new) where
  passed_goes : (comes : Run) (ticks : ℕ) (given : List Reply) → GoesOnAs (bodies_of unit) comes ticks given old
      → GoesOnAs (bodies_of unit) comes (ticks + 1) given new
  passed_goes comes ticks given goes = record {
    same = λ more answers.
        let n : ticks + 1 + more ≡ ticks + (1 + more) = omega arith in
        ap (λ k. comes k (given ++ answers)) n ∙ goes.same (1 + more) answers ∙ p.runs more answers;
  }

  passed_running : (handler : ℕ) → IsRunning (bodies_of unit) handler old → IsRunning (bodies_of unit) handler new
  passed_running handler r = record {
    run = r.run;
    of = r.of;
    ticks = r.ticks + 1;
    given = r.given;
    on_way = goes_way new.standing (bodies_of unit) r.run (r.ticks + 1) r.given new p.able
        (passed_goes r.run r.ticks r.given
        (on_way_goes old.standing (bodies_of unit) r.run r.ticks r.given old (subst CanRun (sym p.stands) tt)
        r.on_way));
  }

module _ (unit : Code) (live : Live) (new : State) (p : HasPassed unit live.machine new) where
  pub passed_awake : IsAwake unit live → IsAwake unit (record live { machine = new })
  passed_awake a = record {
    states = a.states;
    idle = a.idle;
    event = a.event;
    machine = p.of;
    silent = p.silent;
    running = passed_running unit live.machine new p live.handler a.running;
    begun = begun_runs_so new.standing live.fresh p.able;
  }

  -- it is at a tick again
  pub passed_turns : new.standing ≡ standing.AtTick → StandsCut (bodies_of unit) new → (codes : List Code)
      (s : Script) (f : Flight) → Rests codes unit s f live
      → Turns codes unit s f turn.AtTick (record live { machine = new })
  passed_turns at cut codes s f rests =
      let one : 1 ≡ ticks_passed live.machine.standing = sym (ap ticks_passed p.stands) in
      source_on codes unit s f live (record live { machine = new }) (record live { machine = new }) halt.AtTick
      rests.fresh rests.fresh (record { parts = refl; event = refl; handler = refl })
      (record {
        runs = λ t answers. subst (λ k. halt_from live.machine.standing (bodies_of unit) live.machine.machine (k + t)
            answers ≡ halt_from new.standing (bodies_of unit) new.machine t answers) one (p.runs t answers);
        stands = at;
        cut = λ e. cut;
        asked = tt;
        few = λ e. absurd cc;
        of = p.of;
        silent = p.silent;
      }) rests.lives refl

  -- or it can continue
  pub passed_lives : new.standing ≡ standing.Ready → (codes : List Code) (s : Script) (f : Flight)
      → Rests codes unit s f live → Lives codes unit s f (record live { machine = new })
  passed_lives ready codes s f rests =
      let l = rests.lives in
      let one : ticks_due live.fresh live.machine.standing ≡ 1 =
      ap (λ b. ticks_due b live.machine.standing) rests.fresh ∙ ap ticks_passed p.stands in
      let none : ticks_due live.fresh new.standing ≡ 0 =
      ap (λ b. ticks_due b new.standing) rests.fresh ∙ ap ticks_passed ready in
      let was = l.due in
      record {
        carries = record {
          known = l.carries.known;
          parts = l.carries.parts;
          timing = l.carries.timing;
          alive = l.carries.alive;
        };
        handles = record {
          held = l.handles.held;
          flies = l.handles.flies;
          same = l.handles.same;
          event = l.handles.event;
          handler = l.handles.handler;
          kept = l.handles.kept;
        };
        ticks = l.ticks + 1;
        due = omega arith;
        fresh = subst (λ b. IsFresh b new.standing (l.ticks + 1) f.answers) (sym rests.fresh) tt;
        given = more_given codes s.code s.state f unit live.handler l.carries.known l.handles.handler l.ticks 1
            f.answers l.given;
        run = passed_goes unit live.machine new p (flight_run unit live.handler f) l.ticks f.answers l.run;
      }

-- one of many ticks
pub of_tick : (unit : Code) (old new : State) → PassesTick unit old new → CanRun new.standing → HasPassed unit old new
of_tick unit old new one able = record {
  stands = one.stands;
  runs = one.runs;
  able = able;
  of = one.of;
  silent = one.silent;
}

at_tick : (s : State) → s.standing ≡ standing.AtTick → CanRun s.standing
at_tick s at = subst CanRun (sym at) tt

-- the last of them
pub record LastTick (unit : Code) (n : ℕ) (old new : State) : Type 0 where
  pub before : State
  pub ticks : PassesTicks unit (n - 1) old before
  pub last : PassesTick unit before new

pub last_tick : (unit : Code) (n : ℕ) (old new : State) → PassesTicks unit n old new → 0 < n → LastTick unit n old new
last_tick unit n old new (NoTick s) some = absurd (omega (arith, some))
last_tick unit n old new (OneMore k s t u before one) some =
    let e : k ≡ k + 1 - 1 = omega arith in
    record { before = t; ticks = subst (λ (x : ℕ). PassesTicks unit x s t) e before; last = one }

no_tick : (unit : Code) (n : ℕ) (old new : State) → PassesTicks unit n old new → n ≡ 0 → old ≡ new
no_tick unit n old new (NoTick s) none = refl
no_tick unit n old new (OneMore k s t u before one) none = absurd (omega (arith, none))

-- a single one
pub one_tick : (unit : Code) (n : ℕ) (old new : State) → PassesTicks unit n old new → 0 < n → n ≤ 1
    → PassesTick unit old new
one_tick unit n old new p some most =
    let l = last_tick unit n old new p some in
    subst (λ (s : State). PassesTick unit s new) (sym (no_tick unit (n - 1) old l.before l.ticks (omega (arith, most))))
    l.last

module _ (unit : Code) (live : Live) where
  abbrev with : State → Live
  with s = record live { machine = s }

  segment : (s t : State) → PassesTick unit s t → t.standing ≡ standing.AtTick → PassesSegment unit (with s) (with t)
  segment s t one at = record {
    beside = record { parts = refl; event = refl; handler = refl; began = refl };
    source = passed_turns unit (with s) t (of_tick unit s t one (at_tick t at)) at (one.cut at);
  }

  part : (s t : State) → PassesTick unit s t → t.standing ≡ standing.Ready → PassesPart unit (with s) (with t)
  part s t one ready = record {
    beside = record { parts = refl; event = refl; handler = refl; began = refl };
    source = passed_lives unit (with s) t (of_tick unit s t one (subst CanRun (sym ready) tt)) ready;
    memory = one.memory ready;
  }

  pub ticks_segments : (n : ℕ) (s t : State) → PassesTicks unit n s t → t.standing ≡ standing.AtTick
      → PassesSegments unit n (with s) (with t)
  ticks_segments n s t (NoTick u) at = segments.NoSegment (with u)
  ticks_segments n s t (OneMore k u v w before one) at =
      segments.OneMore k (with u) (with v) (with w) (ticks_segments k u v before one.stands) (segment v w one at)

  pub ticks_awake : (n : ℕ) (s t : State) → PassesTicks unit n s t → CanRun t.standing → IsAwake unit (with s)
      → IsAwake unit (with t)
  ticks_awake n s t (NoTick u) able awake = awake
  ticks_awake n s t (OneMore k u v w before one) able awake =
      passed_awake unit (with v) w (of_tick unit v w one able)
      (ticks_awake k u v before (at_tick v one.stands) awake)

  -- to a tick, or on from the last one
  pub ticks_part : (n : ℕ) (s t : State) → PassesTicks unit n s t → 0 < n → t.standing ≡ standing.Ready
      → PassesTo false unit (n - 1) (with s) (with t)
  ticks_part n s t ticks some ready =
      let l = last_tick unit n s t ticks some in (
        with l.before,
        ticks_segments (n - 1) s l.before l.ticks l.last.stands,
        part l.before t l.last ready,
      )
