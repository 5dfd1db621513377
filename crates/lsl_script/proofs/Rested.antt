-- A script comes to rest at a tick.
use Rattle.std.proofs.Common.{◌≡◌, ℕ, ◌+◌, ◌≤◌, List, [], ◌++◌, Option, sym, ap, ◌∙◌, subst, slice_get, append-nil}
use Rattle.lsl_running.specs.declared.host.Reply.{Reply}
use Rattle.lsl_running.specs.declared.kept.Kept.{Kept}
use Rattle.lsl_running.specs.Charging.{default_limit}
use Rattle.lsl_code.specs.declared.frames.Frame.{Frame}
use Rattle.lsl_code.specs.declared.woven_units.Woven.{Woven as Code}
use Rattle.lsl_code.specs.Frames.{AreValid, frames_of, points_of}
use Rattle.lsl_code.specs.Kinds.{kinds_of}
use Rattle.lsl_code.specs.Laws.{with_answers}
use Rattle.lsl_code.specs.Machine.{Machine, Passing, Pauses, step}
use Rattle.lsl_code.specs.Runs.{CutAt, on, passed, run}
use Rattle.lsl_code.specs.Standing.{IsChain}
use Rattle.lsl_code.proofs.Running.{run_law}
use Rattle.lsl_machine.specs.declared.standing.Standing.{Standing}
use Rattle.lsl_machine.specs.declared.standing.Standing.TheVariants as standing
use Rattle.lsl_machine.specs.Futures.{halt_from}
use Rattle.lsl_machine.specs.State.{CanRun, IsChained, IsChainedAt, IsIn, IsKinded, bodies_of}
use Rattle.lsl_post.specs.declared.events.Event.{Event}
use Rattle.lsl_post.specs.declared.parts.Rest.{Rest}
use Rattle.lsl_post.specs.declared.parts.Rest.TheVariants.{Saved}
use Rattle.lsl_post.specs.declared.parts.ScriptParts.{ScriptParts}
use Rattle.lsl_script.specs.declared.live.Live.{Live}
use Rattle.lsl_script.specs.Awake.{IsAwake, IsLeft}
use Rattle.lsl_script.specs.Codes.{bodies_in}
use Rattle.lsl_script.specs.Fitting.{FitsUnit, least_limit}
use Rattle.lsl_script.specs.Lives.{Rests, awake_parts}
use Rattle.lsl_script.specs.Parts.{kept_of, machine_at, parts_of, rest_of}
use Rattle.lsl_script.specs.Resting.{saved_parts, with_room}
use Rattle.lsl_script.specs.Scripts.{Flight, Script}
use Rattle.lsl_script.proofs.Staying.{on_way_goes}
use Rattle.lsl_script.proofs.TakesUp.{machine_is}
use Rattle.lsl_script.proofs.Units.{sound}

at_tick_kinded : (unit : Code) (z : Standing) (m : Machine) → z ≡ standing.AtTick → IsIn unit z m
    → IsKinded unit m × ((n : Machine) × (step (bodies_of unit) m ≡ Pauses (Passing n)))
at_tick_kinded unit z m at of = subst (λ x. IsIn unit x m) at of

-- the run is cut at the machine's place
cut_here : (unit : Code) (m n : Machine) → m.answers ≡ [] → step (bodies_of unit) m ≡ Pauses (Passing n)
    → run (bodies_of unit) 0 (with_answers [] m) ≡ CutAt m
cut_here unit m n silent passes =
    let same : with_answers [] m ≡ m =
    ap {A = List Reply} {B = Machine} (λ a. record { kept = m.kept; calls = m.calls; answers = a })
    (append-nil m.answers) in
    ap (run (bodies_of unit) 0) same
    ∙ run_law (bodies_of unit) (sound unit).forward 0 m
    ∙ ap (λ y. on y (passed (bodies_of unit) 0 m) (run (bodies_of unit) 0)) passes

-- its calls are the handler's
pub tick_cut : (unit : Code) (live : Live) → IsAwake unit live → live.machine.standing ≡ standing.AtTick
    → IsChain (bodies_of unit) live.handler live.machine.machine.calls × IsLeft live.machine.machine.kept
tick_cut unit live a stands =
    let m = live.machine.machine in
    let here = at_tick_kinded unit live.machine.standing m stands a.machine.0 in
    let r = a.running in
    let goes = on_way_goes live.machine.standing (bodies_of unit) r.run r.ticks r.given live.machine
    (subst CanRun (sym stands) tt) r.on_way in
    r.of.cut (r.ticks + 0) (r.given ++ []) m
    (goes.same 0 [] ∙ ap (λ z. halt_from z (bodies_of unit) m 0 []) stands ∙ cut_here unit m here.1.0 a.silent here.1.1)

pub rested_chained : (unit : Code) (live : Live) → IsAwake unit live → live.machine.standing ≡ standing.AtTick
    → IsChained (bodies_of unit) live.handler live.machine
rested_chained unit live a stands =
    subst (λ z. IsChainedAt (bodies_of unit) live.handler z live.machine.machine) (sym stands) (tick_cut unit live
    a stands).0

pub rested_fits : (unit : Code) (live : Live) (kept : Kept) (frames : List Frame) → IsAwake unit live
    → live.machine.standing ≡ standing.AtTick → kept ≡ live.machine.machine.kept
    → AreValid (points_of (bodies_of unit)) live.handler kept.globals kept.limit frames
    → FitsUnit unit (saved_parts live.parts kept live.event frames)
rested_fits unit live kept frames a stands same valid =
    let here = at_tick_kinded unit live.machine.standing live.machine.machine stands a.machine.0 in
    let left = (tick_cut unit live a stands).1 in
    record {
      states = a.states;
      globals = ap (λ (k : Kept). kinds_of k.globals) same ∙ here.0.kept;
      least = subst (λ (k : Kept). least_limit ≤ k.limit) (sym same) left.least;
      limit = subst (λ (k : Kept). k.limit ≤ default_limit) (sym same) left.limit;
      rest = (live.handler, a.event, valid);
    }

pub rested_is : (codes : List Code) (unit : Code) (s : Script) (f : Flight) (live : Live) (kept : Kept)
    (frames : List Frame) → Rests codes unit s f live → kept ≡ live.machine.machine.kept
    → frames ≡ frames_of (bodies_of unit) live.machine.machine.calls
    → saved_parts live.parts kept live.event frames ≡ parts_of codes s
rested_is codes unit s f live kept frames r same are =
    let c = r.lives.carries in
    let h = r.lives.handles in
    let m = live.machine.machine in
    let at = machine_is codes s.code s.state unit f live.handler m c.known h.handler r.cut in
    let has : kept ≡ kept_of codes s.code s.state s.kept s.doing =
    same ∙ sym (ap (λ (n : Machine). n.kept) at) ∙ sym (ap (kept_of codes s.code s.state s.kept) r.flies) in
    let rest : Saved live.event frames ≡ rest_of codes s.code s.state s.doing =
    ap (λ (e : Event). Saved e frames) h.event
    ∙ ap (Saved f.event) (are
    ∙ sym (ap (λ (n : Machine). frames_of (bodies_of unit) n.calls) at)
    ∙ sym (ap (λ (o : Option Code). frames_of (bodies_in o) (machine_at (slice_get codes s.code) s.state f).calls)
    c.known))
    ∙ sym (ap (rest_of codes s.code s.state) r.flies) in
    ap {A = ScriptParts} {B = ScriptParts} (λ p. saved_parts p kept live.event frames) c.parts
    ∙ ap {A = Kept} {B = ScriptParts}
    (λ k. record (awake_parts s live.parts.limit) {
      globals = k.globals;
      limit = k.limit;
      rest = Saved live.event
          frames;
    }) has
    ∙ ap {A = Rest} {B = ScriptParts} (λ x. record (parts_of codes s) { rest = x }) rest

-- what an awake script represents doesn't depend on its machine's capacity
pub rests_in_room : (codes : List Code) (unit : Code) (s : Script) (f : Flight) (live : Live) (room : ℕ)
    → Rests codes unit s f live → Rests codes unit s f (with_room live room)
rests_in_room codes unit s f live room r =
    let l = r.lives in
    record {
      lives = record {
        carries = record {
          known = l.carries.known;
          parts = l.carries.parts;
          timing = l.carries.timing;
          alive = l.carries.alive;
        };
        handles = record {
          held = l.handles.held;
          flies = l.handles.flies;
          same = l.handles.same;
          event = l.handles.event;
          handler = l.handles.handler;
          kept = l.handles.kept;
        };
        ticks = l.ticks;
        due = l.due;
        fresh = l.fresh;
        given = l.given;
        run = record { same = l.run.same };
      };
      flies = r.flies;
      fresh = r.fresh;
      stands = r.stands;
      cut = r.cut;
    }
