-- A handler just begun reaches its first tick, or the script stops before it.
use Rattle.std.proofs.Common.{◌≡◌, ℕ, ◌+◌, List, [], ◌++◌, Bool, true, false, refl, sym, ap, ◌∙◌, subst, append-nil, arith}
use Rattle.lsl_value.specs.declared.names.BuiltinId.{BuiltinId}
use Rattle.lsl_value.specs.declared.tagged.Value.{Value}
use Rattle.lsl_running.specs.declared.host.Reply.{Reply}
use Rattle.lsl_running.specs.Results as whole
use Rattle.lsl_running.specs.Results.{Whole, Cut}
use Rattle.lsl_code.specs.declared.woven_units.Woven.{Woven as Code}
use Rattle.lsl_code.specs.Machine.{Ended, Faulted, Lost}
use Rattle.lsl_code.specs.Runs.{Halt, Over, AskAt, CutAt}
use Rattle.lsl_code.specs.Wholes.{told}
use Rattle.lsl_machine.specs.declared.standing.Halt.{Halt as Answer}
use Rattle.lsl_machine.specs.declared.standing.Halt.TheVariants as halt
use Rattle.lsl_machine.specs.declared.standing.Standing.{Standing}
use Rattle.lsl_machine.specs.Futures.{ticks_passed}
use Rattle.lsl_machine.specs.State.{bodies_of, standing_of}
use Rattle.lsl_script.specs.declared.live.Live.{Live}
use Rattle.lsl_script.specs.Codes.{rules_of}
use Rattle.lsl_script.specs.Lawful.{flight_whole}
use Rattle.lsl_script.specs.Lives.{IsFresh, Lives, Turns, flight_run, ticks_due}
use Rattle.lsl_script.specs.Mailing.{turn_of, with_halt}
use Rattle.lsl_script.specs.Scripts.{Flight, Script}
use Rattle.lsl_script.proofs.Comes.{flight_is, more_ticks_same}
use Rattle.lsl_script.proofs.Running.{IsRun, Stays, halt_stays}
use Rattle.lsl_script.proofs.Ticks.{NotEarly, not_early}
use Rattle.lsl_script.proofs.Turning.{Behind, behind, carried, handled}
use Rattle.lsl_script.proofs.Units.{sound}

fresh_facts : (b : Bool) (z : Standing) (ticks : ℕ) (answers : List Reply) → b ≡ true → IsFresh b z ticks answers
    → (ticks_passed z ≡ 0) × (ticks ≡ 0) × (answers ≡ [])
fresh_facts true z ticks answers e f = f
fresh_facts false z ticks answers e f = absurd cc

module _ (codes : List Code) (unit : Code) (s : Script) (f : Flight) (old mid : Live) (h : Answer)
    (old_fresh : old.fresh ≡ true) (stays : Stays old mid) (r : IsRun unit old.machine h mid.machine)
    (lives : Lives codes unit s f old)
  where
    first_facts : (ticks_passed old.machine.standing ≡ 0) × (lives.ticks ≡ 0) × (f.answers ≡ [])
    first_facts = fresh_facts old.fresh old.machine.standing lives.ticks f.answers old_fresh lives.fresh

    first_behind : Behind (bodies_of unit) (flight_run unit old.handler f) lives.ticks f.answers h mid.machine
    first_behind =
        let a = first_facts.0 in
        behind (bodies_of unit) (flight_run unit old.handler f) lives.ticks lives.ticks f.answers old.machine h
        mid.machine
        lives.run r.runs (omega arith)

    first_due : lives.ticks ≡ f.ticks
    first_due =
        let one : ticks_due old.fresh old.machine.standing ≡ 1 = ap (λ b. ticks_due b old.machine.standing) old_fresh in
        let all : lives.ticks + ticks_due old.fresh old.machine.standing ≡ f.ticks + 1 = lives.due in
        omega arith

    -- at its first tick it lives on
    pub first_lives : h ≡ halt.AtTick → mid.fresh ≡ false → Lives codes unit s f mid
    first_lives is fresh =
        let one : ticks_due mid.fresh mid.machine.standing ≡ 1 =
        ap (λ b. ticks_due b mid.machine.standing) fresh ∙ ap ticks_passed (r.stands ∙ ap standing_of is) in
        let due = first_due in
        let b : Behind (bodies_of unit) (flight_run unit old.handler f) lives.ticks f.answers halt.AtTick mid.machine =
        subst (λ x. Behind (bodies_of unit) (flight_run unit old.handler f) lives.ticks f.answers x mid.machine) is
        first_behind in
        record {
          carries = carried codes unit s f old mid lives.carries stays.parts;
          handles = handled codes unit s f old mid lives.handles stays.event stays.handler;
          ticks = lives.ticks;
          due = omega arith;
          fresh = subst (λ x. IsFresh x mid.machine.standing lives.ticks f.answers) (sym fresh) tt;
          given = lives.given;
          run = record {
            same = λ more answers.
                ap (λ n. flight_run unit n f (lives.ticks + more) (f.answers ++ answers)) stays.handler
                ∙ b more answers;
          };
        }

    at_start : flight_run unit old.handler f (lives.ticks + 0) (f.answers ++ []) ≡ flight_run unit old.handler f 0 []
    at_start =
        let zero : lives.ticks + 0 ≡ 0 = let e = first_facts.1 in omega arith in
        ap (λ t. flight_run unit old.handler f t (f.answers ++ [])) zero
        ∙ ap (λ (a : List Reply). flight_run unit old.handler f 0 (a ++ [])) first_facts.2

    early : NotEarly (flight_run unit old.handler f (lives.ticks + 0) (f.answers ++ []))
    early = subst NotEarly (sym at_start) (not_early (bodies_of unit) (sound unit).forward old.handler f.kept
        f.event.args)

    asks_early : (x : Halt) (id : BuiltinId) (args : List Value) → NotEarly x → told (bodies_of unit) x
        ≡ whole.Asks id args
        → ⊥
    asks_early (Over (Ended way kept)) id args n e = n
    asks_early (Over (Faulted fault)) id args n e = cc
    asks_early (Over Lost) id args n e = cc
    asks_early (AskAt other wanted m t) id args n e = n
    asks_early (CutAt m) id args n e = cc

-- otherwise it stops there
module _ (codes : List Code) (unit : Code) (s : Script) (f : Flight) (old mid new : Live) (old_fresh : old.fresh ≡ true)
    (stays : Stays old mid) (lives : Lives codes unit s f old)
  where
    first_by : (h : Answer) → IsRun unit old.machine h mid.machine → (h ≡ halt.AtTick → ⊥)
        → new ≡ with_halt h mid → Turns codes unit s f (turn_of h) new
    first_by (halt.Asks call) r other e =
        absurd (asks_early codes unit s f old mid (halt.Asks call) old_fresh stays r lives _ call.id call.args
        (early codes unit s f old mid (halt.Asks call) old_fresh stays r lives)
        (first_behind codes unit s f old mid (halt.Asks call) old_fresh stays r lives 0 []))
    first_by halt.AtTick r other e = absurd (other refl)
    first_by (halt.Ended way) r other e =
        absurd (subst NotEarly (first_behind codes unit s f old mid (halt.Ended way) old_fresh stays r lives 0 [])
        (early codes unit s f old mid (halt.Ended way) old_fresh stays r lives))
    first_by (halt.Faulted fault) r other e =
        let st = halt_stays (halt.Faulted fault) old mid stays in
        let c = carried codes unit s f old mid lives.carries stays.parts in
        let facts = first_facts codes unit s f old mid (halt.Faulted fault) old_fresh stays r lives in
        let due = first_due codes unit s f old mid (halt.Faulted fault) old_fresh stays r lives in
        let zero : lives.ticks + 0 ≡ lives.ticks = omega arith in
        let over : flight_run unit old.handler f lives.ticks f.answers ≡ Over (Faulted fault) =
        sym (ap (λ t. flight_run unit old.handler f t f.answers) zero)
        ∙ ap (flight_run unit old.handler f (lives.ticks + 0)) (sym (append-nil f.answers))
        ∙ first_behind codes unit s f old mid (halt.Faulted fault) old_fresh stays r lives 0 [] in
        let here : flight_whole (rules_of codes) s.code s.state f lives.ticks f.answers ≡ whole.Fails fault =
        flight_is codes s.code s.state f unit old.handler lives.carries.known lives.handles.handler lives.ticks
        f.answers
        ∙ ap (told (bodies_of unit)) over in
        let later = more_ticks_same codes s.code s.state f unit old.handler lives.carries.known lives.handles.handler
        lives.ticks 1 f.answers (whole.Fails fault) here (λ calls w. cc) in
        let next : lives.ticks + 1 ≡ f.ticks + 1 = omega arith in
        subst (Turns codes unit s f (turn_of (halt.Faulted fault))) (sym e)
        (ap (λ t. flight_whole (rules_of codes) s.code s.state f t f.answers) (sym next) ∙ later, c)
    first_by halt.NoMemory r other e = tt

pub first_turns : (codes : List Code) (unit : Code) (s : Script) (f : Flight) (old mid new : Live) (h : Answer)
    → old.fresh ≡ true → Stays old mid → IsRun unit old.machine h mid.machine → (h ≡ halt.AtTick → ⊥)
    → Lives codes unit s f old → new ≡ with_halt h mid → Turns codes unit s f (turn_of h) new
first_turns codes unit s f old mid new h fresh stays r other lives e =
    first_by codes unit s f old mid new fresh stays lives h r other e
