-- A run of an awake script's machine, as a whole.
use Rattle.std.proofs.Common.{◌≡◌, ◌≢◌, ◌<◌, ◌+◌, ℕ, List, [], ◌++◌, Bool, false, Some, refl, sym, ap, ◌∙◌, subst}
use Rattle.lsl_running.specs.declared.ends.Fault.TheVariants.{TooManyListens}
use Rattle.lsl_running.specs.declared.ends.Outcome.{Outcome}
use Rattle.lsl_running.specs.Asking.{Call}
use Rattle.lsl_code.specs.Bodies.{Body}
use Rattle.lsl_code.specs.declared.woven_units.Woven.{Woven as Code}
use Rattle.lsl_machine.specs.declared.standing.Halt.{Halt as Answer}
use Rattle.lsl_machine.specs.declared.standing.Halt.TheVariants as halt
use Rattle.lsl_machine.specs.declared.standing.Standing.{Standing}
use Rattle.lsl_machine.specs.declared.standing.Standing.TheVariants as standing
use Rattle.lsl_machine.specs.Futures.{HaltsBehind, IsAsked, RunsOn, StandsCut, ticks_passed}
use Rattle.lsl_machine.specs.State.{CanRun, IsOf, State, asks_ahead, bodies_of, standing_of}
use Rattle.lsl_script.specs.declared.live.Live.{Live}
use Rattle.lsl_script.specs.declared.live.Turn.TheVariants as turn
use Rattle.lsl_script.specs.Awake.{HasBegun, IsAwake, IsBeside, IsRunning, StandsAfter}
use Rattle.lsl_script.specs.Fitting.{FitsStates, IsInHand}
use Rattle.lsl_script.specs.Lawful.{AreGiven, flight_whole}
use Rattle.lsl_script.specs.Codes.{rules_of}
use Rattle.lsl_script.specs.Lives.{Lives, Turns, flight_run, ticks_due}
use Rattle.lsl_script.specs.Mailing.{turn_of, with_halt}
use Rattle.lsl_script.specs.Scripts.{Flight, Script}
use Rattle.lsl_post.specs.declared.parts.ScriptParts.{ScriptParts}
use Rattle.lsl_post.specs.declared.events.Event.{Event}
use Rattle.lsl_script.proofs.Comes.{more_given}
use Rattle.lsl_script.proofs.Staying.{runs_still, stands_after}
use Rattle.lsl_script.proofs.Turning.{behind, carried, handled, turned}

halt_parts : (h : Answer) (live : Live) → (with_halt h live).parts ≡ live.parts
halt_parts (halt.Asks call) live = refl
halt_parts halt.AtTick live = refl
halt_parts (halt.Ended way) live = refl
halt_parts (halt.Faulted fault) live = refl
halt_parts halt.NoMemory live = refl

halt_event : (h : Answer) (live : Live) → (with_halt h live).event ≡ live.event
halt_event (halt.Asks call) live = refl
halt_event halt.AtTick live = refl
halt_event (halt.Ended way) live = refl
halt_event (halt.Faulted fault) live = refl
halt_event halt.NoMemory live = refl

halt_handler : (h : Answer) (live : Live) → (with_halt h live).handler ≡ live.handler
halt_handler (halt.Asks call) live = refl
halt_handler halt.AtTick live = refl
halt_handler (halt.Ended way) live = refl
halt_handler (halt.Faulted fault) live = refl
halt_handler halt.NoMemory live = refl

halt_fresh : (h : Answer) (live : Live) → (with_halt h live).fresh ≡ live.fresh
halt_fresh (halt.Asks call) live = refl
halt_fresh halt.AtTick live = refl
halt_fresh (halt.Ended way) live = refl
halt_fresh (halt.Faulted fault) live = refl
halt_fresh halt.NoMemory live = refl

halt_machine : (h : Answer) (live : Live) → (with_halt h live).machine ≡ live.machine
halt_machine (halt.Asks call) live = refl
halt_machine halt.AtTick live = refl
halt_machine (halt.Ended way) live = refl
halt_machine (halt.Faulted fault) live = refl
halt_machine halt.NoMemory live = refl

halt_outcome : (h : Answer) (live : Live) (way : Outcome) → h ≡ halt.Ended way → (with_halt h live).outcome ≡ Some way
halt_outcome (halt.Asks call) live way e = absurd cc
halt_outcome halt.AtTick live way e = absurd cc
halt_outcome (halt.Ended other) live way e = let same : other ≡ way = cc in ap Some same
halt_outcome (halt.Faulted fault) live way e = absurd cc
halt_outcome halt.NoMemory live way e = absurd cc

-- what the machine's run showed, beside a script whose other fields stay
pub record IsRun (unit : Code) (old : State) (h : Answer) (new : State) : Type 0 where
  pub runs : RunsOn (bodies_of unit) old h new
  pub stands : new.standing ≡ standing_of h
  pub cut : h ≡ halt.AtTick → StandsCut (bodies_of unit) new
  pub asked : IsAsked h
  pub few : h ≢ halt.Faulted TooManyListens
  pub of : IsOf unit new
  pub silent : new.machine.answers ≡ []

pub record Stays (old mid : Live) : Type 0 where
  pub parts : mid.parts ≡ old.parts
  pub event : mid.event ≡ old.event
  pub handler : mid.handler ≡ old.handler

pub halt_stays : (h : Answer) (old mid : Live) → Stays old mid → Stays old (with_halt h mid)
halt_stays h old mid s = record {
  parts = halt_parts h mid ∙ s.parts;
  event = halt_event h mid ∙ s.event;
  handler = halt_handler h mid ∙ s.handler;
}

pub halt_run : (unit : Code) (old : State) (h : Answer) (mid : Live) → IsRun unit old h mid.machine
    → IsRun unit old h (with_halt h mid).machine
halt_run unit old h mid r = subst (IsRun unit old h) (sym (halt_machine h mid)) r

-- a script with a handler that isn't just begun
pub begun_so : (z : Standing) (fresh : Bool) → fresh ≡ false → HasBegun z fresh
begun_so (standing.Asking id) fresh e = e
begun_so z fresh e = tt

-- and one that can run, and so waits for no answer
pub begun_runs_so : (z : Standing) (fresh : Bool) → CanRun z → HasBegun z fresh
begun_runs_so (standing.Asking id) fresh can = absurd can
begun_runs_so z fresh can = tt

awake_by : (unit : Code) (old new : Live) (h : Answer) → IsAwake unit old → CanRun old.machine.standing → Stays old new
    → new.fresh ≡ false → IsRun unit old.machine h new.machine → IsAwake unit new
awake_by unit old new h a can s fresh r =
    let hand : IsInHand unit.states new.parts.state new.parts.leaving new.event new.handler =
    subst (λ (p : ScriptParts). IsInHand unit.states p.state p.leaving new.event new.handler) (sym s.parts)
    (subst (λ (e : Event). IsInHand unit.states old.parts.state old.parts.leaving e new.handler) (sym s.event)
    (subst (IsInHand unit.states old.parts.state old.parts.leaving old.event) (sym s.handler) a.event)) in
    record {
      states = subst (λ (p : ScriptParts). FitsStates unit.states p.state p.leaving p.queue) (sym s.parts) a.states;
      idle = ap (λ (p : ScriptParts). p.rest) s.parts ∙ a.idle;
      event = hand;
      machine = r.of;
      silent = r.silent;
      running = subst (λ h. IsRunning (bodies_of unit) h new.machine) (sym s.handler)
          (runs_still unit old.handler old.machine new.machine a.running can h r.runs r.stands);
      begun = begun_so new.machine.standing new.fresh fresh;
    }

pub awake_on : (unit : Code) (old mid new : Live) (h : Answer) → IsAwake unit old → CanRun old.machine.standing
    → Stays old mid → mid.fresh ≡ false → IsRun unit old.machine h mid.machine → new ≡ with_halt h mid
    → IsAwake unit new
awake_on unit old mid new h a can s fresh r e =
    subst (IsAwake unit) (sym e)
    (awake_by unit old (with_halt h mid) h a can (halt_stays h old mid s) (halt_fresh h mid ∙ fresh)
    (halt_run unit old.machine h mid r))

-- a machine that halted without more of the script
pub awake_at : (unit : Code) (old mid : Live) (h : Answer) → IsAwake unit old → CanRun old.machine.standing
    → Stays old mid → mid.fresh ≡ false → IsRun unit old.machine h mid.machine → IsAwake unit mid
awake_at unit old mid h a can s fresh r = awake_by unit old mid h a can s fresh r

pub stands_on : (unit : Code) (old mid new : Live) (h : Answer) → IsAwake unit old → CanRun old.machine.standing
    → IsRun unit old.machine h mid.machine → new ≡ with_halt h mid → StandsAfter unit (turn_of h) new
stands_on unit old mid new h a can r e =
    let k = halt_run unit old.machine h mid r in
    subst (StandsAfter unit (turn_of h)) (sym e)
    (stands_after unit old (with_halt h mid) h a can k.runs k.stands k.asked k.few (λ way is. halt_outcome h mid
    way is))

pub source_on : (codes : List Code) (unit : Code) (s : Script) (f : Flight) (old mid new : Live) (h : Answer)
    → old.fresh ≡ false → mid.fresh ≡ false → Stays old mid → IsRun unit old.machine h mid.machine
    → Lives codes unit s f old → new ≡ with_halt h mid → Turns codes unit s f (turn_of h) new
source_on codes unit s f old mid new h old_fresh fresh stays r lives e =
    let k = halt_run unit old.machine h mid r in
    let st = halt_stays h old mid stays in
    let to = with_halt h mid in
    let due : lives.ticks + ticks_passed old.machine.standing ≡ f.ticks + 1 =
    ap (λ b. lives.ticks + ticks_due b old.machine.standing) (sym old_fresh) ∙ lives.due in
    let c = carried codes unit s f old to lives.carries st.parts in
    let hd = handled codes unit s f old to lives.handles st.event st.handler in
    let given : AreGiven (flight_whole (rules_of codes) s.code s.state f (f.ticks + 1)) f.answers =
    subst (λ t. AreGiven (flight_whole (rules_of codes) s.code s.state f t) f.answers) due
    (more_given codes s.code s.state f unit old.handler lives.carries.known lives.handles.handler lives.ticks
    (ticks_passed old.machine.standing) f.answers lives.given) in
    let b = behind (bodies_of unit) (flight_run unit old.handler f) lives.ticks (f.ticks + 1) f.answers old.machine h
    to.machine lives.run k.runs due in
    subst (Turns codes unit s f (turn_of h)) (sym e)
    (turned codes unit s f old to c hd (halt_fresh h mid ∙ fresh) given k.of h
    (λ t answers. subst (λ n. HaltsBehind (bodies_of unit) h to.machine t answers (flight_run unit n f
    (f.ticks + 1 + t) (f.answers ++ answers))) (sym st.handler) (b t answers)) k.stands k.cut)

pub halt_beside : (h : Answer) (live : Live) → IsBeside live (with_halt h live)
halt_beside (halt.Asks call) live = record { parts = refl; event = refl; handler = refl; began = refl }
halt_beside halt.AtTick live = record { parts = refl; event = refl; handler = refl; began = refl }
halt_beside (halt.Ended way) live = record { parts = refl; event = refl; handler = refl; began = refl }
halt_beside (halt.Faulted fault) live = record { parts = refl; event = refl; handler = refl; began = refl }
halt_beside halt.NoMemory live = record { parts = refl; event = refl; handler = refl; began = refl }

turn_asks : (h : Answer) (call : Call) → turn_of h ≡ turn.Asks call → h ≡ halt.Asks call
turn_asks (halt.Asks other) call e = let same : other ≡ call = cc in ap halt.Asks same
turn_asks halt.AtTick call e = absurd cc
turn_asks (halt.Ended way) call e = absurd cc
turn_asks (halt.Faulted fault) call e = absurd cc
turn_asks halt.NoMemory call e = absurd cc

pub turn_lacks : (h : Answer) → turn_of h ≡ turn.NoMemory → h ≡ halt.NoMemory
turn_lacks (halt.Asks call) e = absurd cc
turn_lacks halt.AtTick e = absurd cc
turn_lacks (halt.Ended way) e = absurd cc
turn_lacks (halt.Faulted fault) e = absurd cc
turn_lacks halt.NoMemory e = refl

-- where the machine's run asks with fewer than k ahead, so does the script
pub fewer_on : (bodies : List Body) (k : ℕ) (mid new : Live) (h : Answer) (call : Call) → new ≡ with_halt h mid
    → turn_of h ≡ turn.Asks call → (h ≡ halt.Asks call → asks_ahead bodies mid.machine < k)
    → asks_ahead bodies new.machine < k
fewer_on bodies k mid new h call e asks fewer =
    subst (λ (live : Live). asks_ahead bodies live.machine < k) (sym e)
    (subst (λ (s : State). asks_ahead bodies s < k) (sym (halt_machine h mid)) (fewer (turn_asks h call asks)))
