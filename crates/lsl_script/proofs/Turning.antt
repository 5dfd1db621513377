-- What one run of the machine is to the flight.
use Rattle.std.proofs.Common.{◌≡◌, ℕ, ◌+◌, pos, List, [], ◌∷◌, ◌++◌, true, false, cond, Option, None, Some, refl, sym, ap, ◌∙◌, subst, append-nil, option_map, length, arith}
use Rattle.lsl_value.specs.Values.{kind_of}
use Rattle.lsl_value.specs.declared.names.BuiltinId.{BuiltinId}
use Rattle.lsl_value.specs.declared.tagged.Kind.{Kind}
use Rattle.lsl_value.specs.declared.tagged.Kind.TheVariants as kind
use Rattle.lsl_value.specs.declared.tagged.Value.{Value}
use Rattle.lsl_value.specs.declared.tagged.Value.TheVariants as value
use Rattle.lsl_table.specs.Calls.{row_of}
use Rattle.lsl_running.specs.declared.ends.Fault.{Fault}
use Rattle.lsl_running.specs.declared.host.Reply.{Reply}
use Rattle.lsl_running.specs.declared.host.Reply.TheVariants as reply
use Rattle.lsl_running.specs.declared.kept.Kept.{Kept}
use Rattle.lsl_running.specs.Calling.{is_answer_to}
use Rattle.lsl_running.specs.Results as whole
use Rattle.lsl_running.specs.Results.{Whole}
use Rattle.lsl_code.specs.declared.woven_units.Woven.{Woven as Code}
use Rattle.lsl_code.specs.Bodies.{Body}
use Rattle.lsl_code.specs.Kinded.{IsKindedNext}
use Rattle.lsl_code.specs.Kinds.{kinds_of}
use Rattle.lsl_code.specs.Machine.{MachineCall, Machine, Ended, Faulted, Lost}
use Rattle.lsl_code.specs.Runs.{Halt, Over, CutAt}
use Rattle.lsl_code.specs.Wholes.{active_calls, told}
use Rattle.lsl_machine.specs.declared.standing.Halt.{Halt as Answer}
use Rattle.lsl_machine.specs.declared.standing.Halt.TheVariants as halt
use Rattle.lsl_machine.specs.declared.standing.Standing.TheVariants as standing
use Rattle.lsl_machine.specs.Futures.{HaltsBehind, RunsOn, StandsCut, halt_from, run_on, ticks_passed}
use Rattle.lsl_machine.specs.State.{State, IsIn, IsOf, bodies_of, replied_to, standing_of}
use Rattle.lsl_post.specs.declared.parts.ScriptParts.{ScriptParts}
use Rattle.lsl_script.specs.declared.live.Live.{Live}
use Rattle.lsl_script.specs.Awake.{GoesOnAs, Run}
use Rattle.lsl_script.specs.Codes.{rules_of}
use Rattle.lsl_script.specs.Handlers.{ticked}
use Rattle.lsl_script.specs.Lawful.{AreGiven, flight_whole}
use Rattle.lsl_script.specs.Lives.{Carries, Handles, IsFresh, Turns, awake_parts, flight_run, ticks_due}
use Rattle.lsl_script.specs.Mailing.{turn_of}
use Rattle.lsl_script.specs.Scripts.{Flight, Script}
use Rattle.lsl_script.proofs.Comes.{flight_is}

-- the result of a run, as the result of the run from its start
abbrev pub Behind : List Body → Run → ℕ → List Reply → Answer → State → Type 0
Behind bodies comes ticks given h new =
    (t : ℕ) (answers : List Reply) → HaltsBehind bodies h new t answers (comes (ticks + t) (given ++ answers))

pub behind : (bodies : List Body) (comes : Run) (ticks passed : ℕ) (given : List Reply) (old : State) (h : Answer)
    (new : State) → GoesOnAs bodies comes ticks given old → RunsOn bodies old h new
    → ticks + ticks_passed old.standing ≡ passed → Behind bodies comes passed given h new
behind bodies comes ticks passed given old h new goes runs e t answers =
    let n : ticks + (ticks_passed old.standing + t) ≡ passed + t = omega arith in
    subst (HaltsBehind bodies h new t answers)
    (sym (goes.same (ticks_passed old.standing + t) answers) ∙ ap (λ k. comes k (given ++ answers)) n)
    (runs t answers)

-- no answer but those given
none_more : (comes : Run) (ticks : ℕ) (given : List Reply) → comes (ticks + 0) (given ++ []) ≡ comes ticks given
none_more comes ticks given =
    let n : ticks + 0 ≡ ticks = omega arith in
    ap (λ k. comes k (given ++ [])) n ∙ ap (comes ticks) (append-nil given)

stop_is_answer : (result : Option Kind) (fault : Fault) → is_answer_to result (reply.Stop fault) ≡ true
stop_is_answer None fault = refl
stop_is_answer (Some k) fault = refl

-- some answer is one to a call
some_value : (k : Kind) → (v : Value) × (kind_of v ≡ k)
some_value kind.Int = (value.Int (pos 0), refl)
some_value kind.Str = (value.Str [], refl)
some_value kind.Key = (value.Key [], refl)
some_value kind.List = (value.List [], refl)

some_answer : (result : Option Kind) → (given : Option Value) × (option_map kind_of given ≡ result)
some_answer None = (None, refl)
some_answer (Some k) = let v = some_value k in (Some v.0, ap Some v.1)

abbrev stop_on : List Body → Fault → Kept → List MachineCall → Halt
stop_on bodies fault kept calls = run_on bodies 0 (replied_to (reply.Stop fault) kept [] calls)

stops_calls : (unit : Code) (fault : Fault) (kept : Kept) (calls : List MachineCall) (given : Option Value)
    → IsKindedNext (kinds_of unit.globals) (length unit.states) (bodies_of unit)
    (replied_to (reply.Value given) kept [] calls)
    → stop_on (bodies_of unit) fault kept calls ≡ Over (Faulted fault)
stops_calls unit fault kept [] given k = absurd k
stops_calls unit fault kept (c ∷ outer) given k = refl

-- where the host stops the script, the run is over with the fault
stopped_at : (unit : Code) (id : BuiltinId) (m : Machine) (fault : Fault) → IsIn unit (standing.Asking id) m
    → halt_from (standing.Asking id) (bodies_of unit) m 0 (reply.Stop fault ∷ []) ≡ Over (Faulted fault)
stopped_at unit id m fault waits =
    let a = some_answer (row_of id).result in
    ap (λ b. cond b (stop_on (bodies_of unit) fault m.kept m.calls) (Over Lost)) (stop_is_answer (row_of id).result
    fault)
    ∙ stops_calls unit fault m.kept m.calls a.0 (waits a.0 a.1)

module _ (codes : List Code) (unit : Code) (s : Script) (f : Flight) (old new : Live) where
  abbrev pub Comes : Run
  Comes = flight_run unit new.handler f

  pub carried : Carries codes unit s old → new.parts ≡ old.parts → Carries codes unit s new
  carried c same = record {
    known = c.known;
    parts = same ∙ c.parts ∙ ap (λ (p : ScriptParts). awake_parts s p.limit) (sym same);
    timing = c.timing;
    alive = c.alive;
  }

  pub handled : Handles codes unit s f old → new.event ≡ old.event → new.handler ≡ old.handler
      → Handles codes unit s f new
  handled h event handler =
      record {
        held = h.held;
        flies = h.flies;
        same = h.same;
        event = event ∙ h.event;
        handler = h.handler ∙ ap Some (sym handler);
        kept = h.kept;
      }

  module _ (carries : Carries codes unit s new) (handles : Handles codes unit s f new) (fresh : new.fresh ≡ false)
      (given : AreGiven (flight_whole (rules_of codes) s.code s.state f (f.ticks + 1)) f.answers)
      (of : IsOf unit new.machine)
    where
      here : (t : ℕ) (answers : List Reply)
          → flight_whole (rules_of codes) s.code s.state f t answers ≡ told (bodies_of unit) (Comes t answers)
      here = flight_is codes s.code s.state f unit new.handler carries.known handles.handler

      now : (h : Halt) → Comes (f.ticks + 1 + 0) (f.answers ++ []) ≡ h
          → flight_whole (rules_of codes) s.code s.state f (f.ticks + 1) f.answers ≡ told (bodies_of unit) h
      now h e =
          here (f.ticks + 1) f.answers
          ∙ ap (told (bodies_of unit)) (sym (none_more Comes (f.ticks + 1) f.answers) ∙ e)

      -- what a halt says of the flight
      pub turned : (h : Answer) → Behind (bodies_of unit) Comes (f.ticks + 1) f.answers h new.machine
          → new.machine.standing ≡ standing_of h
          → (h ≡ halt.AtTick → StandsCut (bodies_of unit) new.machine)
          → Turns codes unit s f (turn_of h) new
      turned (halt.Asks call) comes stands cut =
          let asked : flight_whole (rules_of codes) s.code s.state f (f.ticks + 1) f.answers ≡ whole.Asks call.id
          call.args =
          here (f.ticks + 1) f.answers
          ∙ ap (told (bodies_of unit)) (sym (none_more Comes (f.ticks + 1) f.answers)) ∙ comes 0 [] in
          let one : (n : ℕ) → n + 0 ≡ n = λ n. omega arith in (
            asked,
            record {
              carries = carries;
              handles = handles;
              fresh = fresh;
              asking = stands;
              args = call.args;
              asked = asked;
              given = given;
              run = record { same = λ more r answers. comes more (r ∷ answers) };
              stop = λ fault. here (f.ticks + 1) (f.answers ++ reply.Stop fault ∷ [])
                  ∙ ap (told (bodies_of unit)) (
                  ap (λ t. Comes t (f.answers ++ reply.Stop fault ∷ [])) (sym (one (f.ticks + 1)))
                  ∙ comes 0 (reply.Stop fault ∷ [])
                  ∙ ap (λ z. halt_from z (bodies_of unit) new.machine.machine 0 (reply.Stop fault ∷ [])) stands
                  ∙ stopped_at unit call.id new.machine.machine fault
                  (subst (λ z. IsIn unit z new.machine.machine) stands of.0));
            },
          )
      turned halt.AtTick comes stands cut =
          let at : Comes (f.ticks + 1) f.answers ≡ CutAt new.machine.machine =
          sym (none_more Comes (f.ticks + 1) f.answers) ∙ comes 0 [] ∙ cut refl in
          let due : ticks_due new.fresh new.machine.standing ≡ 1 =
          ap (λ b. ticks_due b new.machine.standing) fresh ∙ ap ticks_passed stands in (
            (
              active_calls (bodies_of unit) new.machine.machine.calls,
              here (f.ticks + 1) f.answers ∙ ap (told (bodies_of unit)) at,
            ),
            record {
              lives = record {
                carries = record {
                  known = carries.known;
                  parts = carries.parts;
                  timing = carries.timing;
                  alive =
                      refl;
                };
                handles = record {
                  held = ticked f;
                  flies = refl;
                  same = refl;
                  event = handles.event;
                  handler = handles.handler;
                  kept = handles.kept;
                };
                ticks = f.ticks + 1;
                due = omega arith;
                fresh = subst (λ b. IsFresh b new.machine.standing (f.ticks + 1) f.answers) (sym fresh) tt;
                given = given;
                run = record { same = comes };
              };
              flies = refl;
              fresh = fresh;
              stands = stands;
              cut = at;
            },
          )
      turned (halt.Ended way) comes stands cut = record {
        carries = carries;
        way = way;
        ended = stands;
        comes = now (Over (Ended way new.machine.machine.kept)) (comes 0 []);
      }
      turned (halt.Faulted fault) comes stands cut = (now (Over (Faulted fault)) (comes 0 []), carries)
      turned halt.NoMemory comes stands cut = tt
