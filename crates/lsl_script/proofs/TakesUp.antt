-- A script takes up the handler that was saved.
use Rattle.std.proofs.Common.{◌≡◌, ℕ, List, [], Bool, true, false, cond, Option, None, Some, refl, sym, ap, ◌∙◌, subst, slice_get, arith}
use Rattle.std.specs.Prelude.{if◌then◌else◌}
use Rattle.lsl_value.specs.declared.tagged.Value.{Value}
use Rattle.lsl_running.specs.declared.ends.Fault.TheVariants.{StackHeap}
use Rattle.lsl_running.specs.declared.host.Reply.{Reply}
use Rattle.lsl_running.specs.declared.kept.Kept.{Kept}
use Rattle.lsl_running.specs.Charging.{is_within, script_charge, used}
use Rattle.lsl_code.specs.declared.frames.Frame.{Frame}
use Rattle.lsl_code.specs.declared.woven_units.Woven.{Woven as Code}
use Rattle.lsl_code.specs.Acts.{first_slots}
use Rattle.lsl_code.specs.Bodies.{Body}
use Rattle.lsl_code.specs.Frames.{frames_of}
use Rattle.lsl_code.specs.Kinds.{kinds_of}
use Rattle.lsl_code.specs.Laws.{with_answers}
use Rattle.lsl_code.specs.Machine.{MachineCall, Machine, Faulted, Passing, Pauses, step_in}
use Rattle.lsl_code.specs.Runs.{Over, CutAt, run}
use Rattle.lsl_code.specs.Standing.{HasFrames, IsChain}
use Rattle.lsl_code.specs.Units.{handler_of}
use Rattle.lsl_code.specs.Wholes.{begun, started, told}
use Rattle.lsl_machine.specs.declared.standing.Standing.TheVariants as standing
use Rattle.lsl_machine.specs.Futures.{halt_from, ticks_passed}
use Rattle.lsl_machine.specs.State.{bodies_of, kept_with}
use Rattle.lsl_post.specs.declared.events.Event.{Event}
use Rattle.lsl_post.specs.declared.parts.Rest.{Rest}
use Rattle.lsl_post.specs.declared.parts.Rest.TheVariants.{Idle, Saved}
use Rattle.lsl_post.specs.declared.parts.ScriptParts.{ScriptParts}
use Rattle.lsl_post.specs.Told.{Told, quiet}
use Rattle.lsl_script.specs.declared.live.Live.{Live}
use Rattle.lsl_script.specs.Awake.{GoesOnAs}
use Rattle.lsl_script.specs.Codes.{HasUnit, bodies_in, globals_in, rules_of}
use Rattle.lsl_script.specs.Handlers.{take_next}
use Rattle.lsl_script.specs.Lawful.{AreGiven, IsLawfulDoing, IsLawfulFlight, Lawful, flight_whole}
use Rattle.lsl_script.specs.Lives.{IsFresh, Lives, awake_parts, entries_of_taking, flight_run, ticks_due}
use Rattle.lsl_script.specs.Parts.{kept_of, machine_at, machine_in, parts_of, rest_of, run_in}
use Rattle.lsl_script.specs.Scripts.{Flight, Doing, Resting, Flying, Stopped, Script, is_alive}
use Rattle.lsl_script.specs.Waking.{IsEmptied, WakesAs, resting_parts}
use Rattle.lsl_script.proofs.Comes.{cut_machine, flight_is, flights_ask_so_often, given_as}
use Rattle.lsl_script.proofs.Flights.{Quiet, QuietEnd, given_keeps}
use Rattle.lsl_script.proofs.Origins.{chain_begun}
use Rattle.lsl_script.proofs.RunKeeps.{KeptAt}
use Rattle.lsl_script.proofs.Ticks.{at_tick, resumes}
use Rattle.lsl_script.proofs.Units.{arguments_fit, sound}

-- what a source script with a saved handler is doing
saved_flies : (codes : List Code) (code state : ℕ) (e : Event) (frames : List Frame) (d : Doing)
    → Saved e frames ≡ rest_of codes code state d
    → (f : Flight) × (d ≡ Flying f) × (e ≡ f.event)
    × (frames ≡ frames_of (bodies_in (slice_get codes code)) (machine_at (slice_get codes code) state f).calls)
saved_flies codes code state e frames Resting is = absurd cc
saved_flies codes code state e frames (Flying f) is = let a : e ≡ f.event = cc in
    let b : frames ≡ frames_of (bodies_in (slice_get codes code)) (machine_at (slice_get codes code) state f).calls
    = cc in
    (f, refl, a, b)
saved_flies codes code state e frames (Stopped fault) is = absurd cc

-- the machine of a flight in a unit
pub machine_is : (codes : List Code) (code state : ℕ) (unit : Code) (f : Flight) (handler : ℕ) (m : Machine)
    → HasUnit codes code unit → handler_of unit.states state f.event.id ≡ Some handler
    → flight_run unit handler f f.ticks f.answers ≡ CutAt m
    → machine_at (slice_get codes code) state f ≡ m
machine_is codes code state unit f handler m known found cut =
    ap (λ (o : Option Code). machine_at o state f) known
    ∙ ap (λ (h : Option ℕ). machine_in f.kept (run_in (bodies_of unit) h f)) found
    ∙ ap (machine_in f.kept) cut

-- a flight's machine has no answers left, all kinds right, and its handler's frames
pub record IsSaved (unit : Code) (handler : ℕ) (m : Machine) : Type 0 where
  pub silent : m.answers ≡ []
  pub frames : HasFrames (bodies_of unit) handler m.calls (frames_of (bodies_of unit) m.calls)

module _ (unit : Code) (handler t : ℕ) (kept : Kept) (answers : List Reply) (m : Machine) where
  within_saved : (slots : List Value) (b : Bool)
      → Quiet unit (begun handler kept slots [])
      → cond b (run (bodies_of unit) t (begun handler kept slots answers)) (Over (Faulted StackHeap)) ≡ CutAt m
      → AreGiven (λ a. told (bodies_of unit) (cond b (run (bodies_of unit) t (begun handler kept slots a))
      (Over (Faulted StackHeap)))) answers
      → IsChain (bodies_of unit) handler m.calls
      → IsSaved unit handler m
  within_saved slots true quiet cut given chain =
      let k : KeptAt (Quiet unit) (QuietEnd unit) (bodies_of unit) (CutAt m) =
      subst (KeptAt (Quiet unit) (QuietEnd unit) (bodies_of unit)) cut
      (given_keeps unit (begun handler kept slots []) quiet t answers given) in
      let waits : step_in (bodies_of unit) m.kept [] m.calls ≡ Pauses (Passing k.1) =
      subst (λ a. step_in (bodies_of unit) m.kept a m.calls ≡ Pauses (Passing k.1)) k.0.1 k.2 in
      record {
        silent = k.0.1;
        frames = (sound unit).frames handler m k.0.0 chain (at_tick (bodies_of unit) m.kept m.calls k.1 waits);
      }
  within_saved slots false quiet cut given chain = absurd cc

  started_saved : (o : Option Body) (args : List Value)
      → ((w : Body) → o ≡ Some w → Quiet unit (begun handler kept (first_slots w args) []))
      → started o (bodies_of unit) handler kept args t answers ≡ CutAt m
      → AreGiven (λ a. told (bodies_of unit) (started o (bodies_of unit) handler kept args t a)) answers
      → IsChain (bodies_of unit) handler m.calls
      → IsSaved unit handler m
  started_saved None args quiet cut given chain = absurd cc
  started_saved (Some w) args quiet cut given chain =
      within_saved (first_slots w args) (is_within kept (used script_charge (first_slots w args) kept))
      (quiet w refl) cut
      given chain

pub flight_saved : (codes : List Code) (code state : ℕ) (unit : Code) (f : Flight) (handler : ℕ) (m : Machine)
    → HasUnit codes code unit → handler_of unit.states state f.event.id ≡ Some handler
    → IsLawfulFlight (rules_of codes) code state f
    → flight_run unit handler f f.ticks f.answers ≡ CutAt m → IsSaved unit handler m
flight_saved codes code state unit f handler m known found lawful cut =
    let fit = arguments_fit unit state handler f.event found in
    let globals : kinds_of f.kept.globals ≡ kinds_of unit.globals =
    lawful.kept.globals ∙ ap (λ (o : Option Code). kinds_of (globals_in o)) known in
    started_saved unit handler f.ticks f.kept f.answers m (slice_get (bodies_of unit) handler) f.event.args
    (λ w there.
    let same : Some fit.0 ≡ Some w = sym fit.1 ∙ there in
    let one : fit.0 ≡ w = cc in (
      (sound unit).begins handler w f.kept f.event.args [] there globals (subst (λ (x : Body). kinds_of f.event.args
          ≡ x.params) one fit.2),
      refl,
    ))
    cut
    (given_as (flight_whole (rules_of codes) code state f f.ticks)
    (λ a. told (bodies_of unit) (flight_run unit handler f f.ticks a))
    (flight_is codes code state f unit handler known found f.ticks) f.answers lawful.given)
    (chain_begun (bodies_of unit) (sound unit).forward handler f.kept f.event.args f.ticks f.answers m cut)

-- it is the saved machine
pub record IsTakenUp (codes : List Code) (unit : Code) (s : Script) (e : Event) (handler : ℕ) (kept : Kept)
    (frames : List Frame) : Type 0 where
  pub flight : Flight
  pub flies : s.doing ≡ Flying flight
  pub event : e ≡ flight.event
  pub lawful : IsLawfulFlight (rules_of codes) s.code s.state flight
  pub found : handler_of unit.states s.state flight.event.id ≡ Some handler
  pub machine : Machine
  pub cut : flight_run unit handler flight flight.ticks flight.answers ≡ CutAt machine
  pub has_kept : kept ≡ machine.kept
  pub has_frames : frames ≡ frames_of (bodies_of unit) machine.calls
  pub saved : IsSaved unit handler machine

pub taken_up : (codes : List Code) (unit : Code) (s : Script) (parts : ScriptParts) (kept : Kept) (e : Event)
    (handler : ℕ) (frames : List Frame) → HasUnit codes s.code unit
    → resting_parts parts kept (Saved e frames) ≡ parts_of codes s → Lawful (rules_of codes) s
    → handler_of unit.states parts.state e.id ≡ Some handler → IsTakenUp codes unit s e handler kept frames
taken_up codes unit s parts kept e handler frames known is lawful found =
    let x = saved_flies codes s.code s.state e frames s.doing (ap (λ (p : ScriptParts). p.rest) is) in
    let f = x.0 in
    let l : IsLawfulFlight (rules_of codes) s.code s.state f =
    subst (IsLawfulDoing (rules_of codes) s.code s.state) x.1 lawful.doing in
    let here : handler_of unit.states s.state f.event.id ≡ Some handler =
    ap (λ (w : Event). handler_of unit.states s.state w.id) (sym x.2)
    ∙ ap (λ n. handler_of unit.states n e.id) (sym (ap (λ (p : ScriptParts). p.state) is)) ∙ found in
    let m = cut_machine codes s.code s.state f unit handler f.ticks f.answers known here l.cut in
    let at = machine_is codes s.code s.state unit f handler m.0 known here m.1 in
    record {
      flight = f;
      flies = x.1;
      event = x.2;
      lawful = l;
      found = here;
      machine = m.0;
      cut = m.1;
      has_kept = ap (λ (p : ScriptParts). kept_with p.globals p.limit) is ∙ ap (kept_of codes s.code s.state s.kept) x.1
          ∙ ap (λ (n : Machine). n.kept) at;
      has_frames = x.3 ∙ ap (λ (o : Option Code). frames_of (bodies_in o) (machine_at (slice_get codes s.code)
          s.state f).calls) known
          ∙ ap (λ (n : Machine). frames_of (bodies_of unit) n.calls) at;
      saved = flight_saved codes s.code s.state unit f handler m.0 known here l m.1;
    }

pub taken_wakes : (codes : List Code) (unit : Code) (s : Script) (parts : ScriptParts) (kept : Kept) (e : Event)
    (handler : ℕ) (frames : List Frame) (live : Live) → HasUnit codes s.code unit → IsEmptied parts
    → resting_parts parts kept (Saved e frames) ≡ parts_of codes s → Lawful (rules_of codes) s
    → (t : IsTakenUp codes unit s e handler kept frames)
    → live.parts ≡ parts → live.event ≡ e → live.handler ≡ handler → live.began ≡ false → live.fresh ≡ false
    → live.machine.standing ≡ standing.AtTick → live.machine.machine.kept ≡ kept → live.machine.machine.answers ≡ []
    → live.machine.machine.calls ≡ t.machine.calls
    → WakesAs codes unit s live
taken_wakes codes unit s parts kept e handler frames live known empty is lawful t parts_are event same began fresh
    stands
    kept_is silent calls =
    let f = t.flight in
    let m = live.machine.machine in
    let one : m ≡ t.machine =
    ap {A = List MachineCall} {B = Machine} (λ c. record { kept = m.kept; calls = c; answers = m.answers }) calls
    ∙ ap {A = Kept} {B = Machine} (λ k. record { kept = k; calls = t.machine.calls; answers = m.answers }) (kept_is
    ∙ t.has_kept)
    ∙ ap {A = List Reply} {B = Machine} (λ a. record { kept = t.machine.kept; calls = t.machine.calls; answers = a })
    (silent ∙ sym t.saved.silent) in
    let live_parts : live.parts ≡ awake_parts s live.parts.limit =
    parts_are
    ∙ ap {A = Rest} {B = ScriptParts} (λ r. record parts { rest = r }) empty.1
    ∙ ap {A = List Value} {B = ScriptParts} (λ g. record parts { globals = g; rest = Idle }) empty.0
    ∙ ap {A = ScriptParts} {B = ScriptParts} (λ p. record p { globals = []; limit = parts.limit; rest = Idle }) is
    ∙ ap (λ n. awake_parts s n) (sym (ap (λ (p : ScriptParts). p.limit) parts_are)) in
    let due : ticks_due live.fresh live.machine.standing ≡ 1 =
    ap (λ b. ticks_due b live.machine.standing) fresh ∙ ap ticks_passed stands in
    let goes : GoesOnAs (bodies_of unit) (flight_run unit live.handler f) f.ticks f.answers live.machine =
    subst (λ h. GoesOnAs (bodies_of unit) (flight_run unit h f) f.ticks f.answers live.machine) (sym same) (record {
      same = λ more answers.
          resumes (bodies_of unit) (sound unit).forward handler f.kept t.machine f.ticks more f.answers answers
          f.event.args t.cut
          ∙ ap (λ n. run (bodies_of unit) more (with_answers answers n)) (sym one)
          ∙ ap (λ z. halt_from z (bodies_of unit) m more answers) (sym stands);
    }) in
    let lives : Lives codes unit s f live = record {
      carries = record {
        known = known;
        parts = live_parts;
        timing = lawful.timing;
        alive = ap is_alive t.flies;
      };
      handles = record {
        held = f;
        flies = t.flies;
        same = refl;
        event = event ∙ t.event;
        handler = t.found ∙ ap Some (sym same);
        kept = t.lawful.kept;
      };
      ticks = f.ticks;
      due = omega arith;
      fresh = subst (λ b. IsFresh b live.machine.standing f.ticks f.answers) (sym fresh) tt;
      given = t.lawful.given;
      run = goes;
    } in
    let taken : (number : ℕ) → take_next number s s.doing ≡ quiet s = λ number. ap (take_next number s) t.flies in
    record {
      flight = f;
      flies = λ number. ap (λ (a : Told Script). a.value.doing) (taken number) ∙ t.flies;
      lives = λ number. subst (λ (a : Told Script). Lives codes unit a.value f live) (sym (taken number)) lives;
      rests = λ no. record {
        lives = lives;
        flies = t.flies;
        fresh = fresh;
        stands = stands;
        cut = ap (λ h. flight_run unit h f f.ticks f.answers) same ∙ t.cut ∙ ap CutAt (sym one);
      };
      took = λ number. ap (λ (a : Told Script). a.entries) (taken number)
          ∙ ap (λ (b : Bool). entries_of_taking number (if b then Some live.event else None)) (sym began);
      asks = flights_ask_so_often codes s.code unit s.state f known t.lawful;
    }
