-- A script wakes.
use Rattle.std.proofs.Common.{◌≡◌, ℕ, suc, ◌+◌, List, [], ◌∷◌, ◌++◌, true, Option, None, Some, drop, refl, sym, ap, ◌∙◌, subst, slice_get, arith}
use Rattle.std.specs.Prelude.{All, if◌then◌else◌, is_some}
use Rattle.std.proofs.lemmas.Option.{get_or_from_slice_get, slice_get_within}
use Rattle.lsl_value.specs.declared.names.BuiltinId.{BuiltinId}
use Rattle.lsl_value.specs.declared.tagged.Value.{Value}
use Rattle.lsl_running.specs.declared.host.Reply.{Reply}
use Rattle.lsl_running.specs.declared.kept.Kept.{Kept}
use Rattle.lsl_running.specs.Results.{Asks, Cut}
use Rattle.lsl_code.specs.declared.functions.StateCode.{StateCode}
use Rattle.lsl_code.specs.declared.woven_units.Woven.{Woven as Code}
use Rattle.lsl_code.specs.Kinds.{kinds_of}
use Rattle.lsl_code.specs.Machine.{Ended, Faulted, Lost}
use Rattle.lsl_code.specs.Runs.{Halt, Over, AskAt, CutAt}
use Rattle.lsl_code.specs.Units.{handler_of}
use Rattle.lsl_code.specs.Wholes.{active_calls, told}
use Rattle.lsl_code.proofs.WholeLaws.{answers_change_nothing}
use Rattle.lsl_machine.specs.Futures.{ticks_passed}
use Rattle.lsl_machine.specs.State.{bodies_of, kept_with}
use Rattle.lsl_post.specs.declared.events.Event.{Event}
use Rattle.lsl_post.specs.declared.parts.Rest.{Rest}
use Rattle.lsl_post.specs.declared.parts.Rest.TheVariants.{Idle}
use Rattle.lsl_post.specs.declared.parts.ScriptParts.{ScriptParts}
use Rattle.lsl_post.specs.Mailbox.{Mailbox}
use Rattle.lsl_post.specs.Told.{Told}
use Rattle.lsl_script.specs.declared.live.Live.{Live}
use Rattle.lsl_script.specs.Awake.{GoesOnAs, taken_by}
use Rattle.lsl_script.specs.Codes.{HasUnit, globals_in, rules_of}
use Rattle.lsl_script.specs.Fitting.{CanWait, FitsStates, FitsUnit, has_handler, is_exit}
use Rattle.lsl_script.specs.Handlers.{begun as begun_script, event_due, mailbox_behind, take_next, with_event_due}
use Rattle.lsl_script.specs.Lawful.{NoneGiven, AsksAtMost, HasAsked, IsKept, IsTiming, Lawful, flight_whole}
use Rattle.lsl_script.specs.Lives.{IsFresh, Lives, ticks_due, awake_parts, entries_of_taking, flight_run}
use Rattle.lsl_script.specs.Parts.{kept_of, parts_of, rest_of}
use Rattle.lsl_script.specs.Scripts.{Flight, Doing, Resting, Flying, Stopped, Script, state_exit}
use Rattle.lsl_script.specs.Waking.{IsEmptied, WakesAs, event_in, queue_behind, resting_parts}
use Rattle.lsl_script.proofs.Comes.{flight_is, flights_ask_so_often, more_ticks_same}
use Rattle.lsl_script.proofs.Ticks.{NotEarly, not_early}
use Rattle.lsl_script.proofs.Units.{sound}

-- the event that is taken can be handled, and those after it still wait
first_waits : (states : List StateCode) (state : ℕ) (queue : List Event) (e : Event) → All (CanWait states state) queue
    → slice_get queue 0 ≡ Some e → CanWait states state e
first_waits states state queue e all first =
    subst (CanWait states state) (get_or_from_slice_get queue 0 e e first)
    (all 0 e (slice_get_within queue 0 e first))

pub taken_handled : (states : List StateCode) (state : ℕ) (leaving : Option ℕ) (queue : List Event) (e : Event)
    → FitsStates states state leaving queue → event_in leaving queue ≡ Some e
    → (has_handler states state e.id ≡ true) × (is_exit e ≡ is_some leaving)
taken_handled states state None queue e fits first =
    let w = first_waits states state queue e fits.waits first in (w.handled, w.other)
taken_handled states state (Some to) queue e fits first =
    let same : state_exit ≡ e = cc in
    (ap (λ (x : Event). has_handler states state x.id) (sym same) ∙ fits.leaves.exit, ap is_exit (sym same))

drop_waits : (states : List StateCode) (state : ℕ) (queue : List Event) → All (CanWait states state) queue
    → All (CanWait states state) (drop 1 queue)
drop_waits states state [] all k d lt = absurd (omega arith)
drop_waits states state (x ∷ queue) all k d lt = all (suc k) d (omega arith)

pub behind_fits : (states : List StateCode) (state : ℕ) (leaving : Option ℕ) (queue : List Event)
    → FitsStates states state leaving queue → FitsStates states state leaving (queue_behind leaving queue)
behind_fits states state None queue fits =
    record { stands = fits.stands; leaves = fits.leaves; waits = drop_waits states state queue fits.waits }
behind_fits states state (Some to) queue fits = fits

-- what a source script at rest is doing
idle_rests : (codes : List Code) (code state : ℕ) (d : Doing) → Idle ≡ rest_of codes code state d → d ≡ Resting
idle_rests codes code state Resting e = refl
idle_rests codes code state (Flying f) e = absurd cc
idle_rests codes code state (Stopped fault) e = absurd cc

due_is : (leaving : Option ℕ) (box : Mailbox) → event_due leaving box ≡ event_in leaving box.queue
due_is None box = refl
due_is (Some to) box = refl

behind_queue : (leaving : Option ℕ) (box : Mailbox) → (mailbox_behind leaving box).queue ≡ queue_behind leaving
    box.queue
behind_queue None box = refl
behind_queue (Some to) box = refl

behind_listens : (leaving : Option ℕ) (box : Mailbox) → (mailbox_behind leaving box).listens ≡ box.listens
behind_listens None box = refl
behind_listens (Some to) box = refl

behind_timing : (leaving : Option ℕ) (box : Mailbox) → (mailbox_behind leaving box).timing ≡ box.timing
behind_timing None box = refl
behind_timing (Some to) box = refl

abbrev pub new_flight : Event → Kept → Flight
new_flight e kept = record { event = e; kept = kept; ticks = 0; answers = [] }

-- a handler just begun makes at most this many calls before its second tick
module _ (codes : List Code) (unit : Code) (s : Script) (e : Event) (handler : ℕ) (known : HasUnit codes s.code unit)
    (found : handler_of unit.states s.state e.id ≡ Some handler) (kept : IsKept (rules_of codes) s.code s.kept)
  where
    abbrev f : Flight
    f = new_flight e s.kept

    here : (t : ℕ) (answers : List Reply) → flight_whole (rules_of codes) s.code s.state (new_flight e s.kept) t answers
        ≡ told (bodies_of unit) (flight_run unit handler (new_flight e s.kept) t answers)
    here = flight_is codes s.code s.state f unit handler known found

    -- what is over at once stays so
    over_at_once : (h : Halt) → flight_run unit handler f 0 [] ≡ h
        → ((id : BuiltinId) (args : List Value) → told (bodies_of unit) h ≡ Asks id args → ⊥)
        → ((calls : _) → told (bodies_of unit) h ≡ Cut calls → ⊥)
        → (replies : List Reply)
        → HasAsked (flight_whole (rules_of codes) s.code s.state f (0 + 1) ([] ++ replies)) → ⊥
    over_at_once h is no_ask uncut replies asks =
        let same : told (bodies_of unit) (flight_run unit handler f 0 replies) ≡ told (bodies_of unit) h =
        answers_change_nothing (bodies_of unit) (sound unit).forward handler f.kept f.event.args 0 [] replies
        (λ id args e. no_ask id args (ap (told (bodies_of unit)) (sym is) ∙ e)) ∙ ap (told (bodies_of unit)) is in
        let later = more_ticks_same codes s.code s.state f unit handler known found 0 1 replies
        (told (bodies_of unit) h) (here 0 replies ∙ same) uncut in
        no_ask asks.0 asks.1 (sym later ∙ asks.2)

    pub begun_asks : AsksAtMost (rules_of codes) s.code s.state (new_flight e s.kept) ((rules_of codes).most s.code)
    begun_asks replies enough asks =
        by_halt (flight_run unit handler f 0 []) refl
        (not_early (bodies_of unit) (sound unit).forward handler s.kept e.args) asks
      where
        by_halt : (h : Halt) → flight_run unit handler f 0 [] ≡ h → NotEarly h
            → HasAsked (flight_whole (rules_of codes) s.code s.state f (0 + 1) ([] ++ replies)) → ⊥
        by_halt (Over (Ended way left)) is early asks = absurd early
        by_halt (Over (Faulted fault)) is early asks =
            over_at_once (Over (Faulted fault)) is (λ id args e. cc) (λ calls e. cc) replies asks
        by_halt (Over Lost) is early asks = over_at_once (Over Lost) is (λ id args e. cc) (λ calls e. cc) replies asks
        by_halt (AskAt id args m t) is early asks = absurd early
        by_halt (CutAt m) is early asks =
            flights_ask_so_often codes s.code unit s.state f known (record {
              kept = kept;
              given = NoneGiven;
              cut = (active_calls (bodies_of unit) m.calls, here 0 [] ∙ ap (told (bodies_of unit)) is);
            }) replies enough asks

    -- its machine lives
    pub begun_lives : (live : Live) → IsTiming s.mailbox.timing
        → live.parts ≡ awake_parts (begun_script s e) live.parts.limit → live.event ≡ e → live.handler ≡ handler
        → live.fresh ≡ true → ticks_passed live.machine.standing ≡ 0
        → GoesOnAs (bodies_of unit) (flight_run unit handler (new_flight e s.kept)) 0 [] live.machine
        → Lives codes unit (begun_script s e) (new_flight e s.kept) live
    begun_lives live timing parts event same fresh passed goes = record {
      carries = record {
        known = known;
        parts = parts;
        timing = subst IsTiming (sym (behind_timing s.leaving s.mailbox)) timing;
        alive = refl;
      };
      handles = record {
        held = f;
        flies = refl;
        same = refl;
        event = event;
        handler = found ∙ ap Some (sym same);
        kept = kept;
      };
      ticks = 0;
      due = ap (λ b. 0 + ticks_due b live.machine.standing) fresh;
      fresh = subst (λ b. IsFresh b live.machine.standing 0 []) (sym fresh) (passed, refl, refl);
      given = NoneGiven;
      run = subst (λ h. GoesOnAs (bodies_of unit) (flight_run unit h f) 0 [] live.machine) (sym same) goes;
    }

taken_is : (live : Live) (e : Event) → live.began ≡ true → live.event ≡ e → taken_by live ≡ Some e
taken_is live e began event = ap (λ b. if b then Some live.event else None) began ∙ ap Some event

mail_same : (s : Script) (e : Event) (limit : ℕ) (l : Option ℕ)
    → record (awake_parts s limit) { leaving = l; queue = queue_behind l s.mailbox.queue }
    ≡ awake_parts (record (begun_script s e) { leaving = l; mailbox = mailbox_behind l s.mailbox }) limit
mail_same s e limit None = refl
mail_same s e limit (Some to) = refl

pub emptied : (parts : ScriptParts) (queue : List Event) → IsEmptied parts
    → record parts { queue = queue } ≡ record parts { globals = []; queue = queue; rest = Idle }
emptied parts queue empty =
    ap {A = Rest} {B = ScriptParts} (λ r. record parts { queue = queue; rest = r }) empty.1
    ∙ ap {A = List Value} {B = ScriptParts} (λ g. record parts { globals = g; queue = queue; rest = Idle }) empty.0

begun_parts : (codes : List Code) (s : Script) (parts : ScriptParts) (kept : Kept) (e : Event) (live : Live)
    → IsEmptied parts → resting_parts parts kept Idle ≡ parts_of codes s
    → live.parts ≡ record parts { queue = queue_behind parts.leaving parts.queue }
    → live.parts ≡ awake_parts (begun_script s e) live.parts.limit
begun_parts codes s parts kept e live empty is parts_are =
    parts_are
    ∙ ap {A = Rest} {B = ScriptParts} (λ r. record parts {
      queue = queue_behind parts.leaving parts.queue;
      rest = r;
    }) empty.1
    ∙ ap {A = List Value} {B = ScriptParts} (λ g. record parts {
      globals = g;
      queue = queue_behind parts.leaving
          parts.queue;
      rest = Idle;
    }) empty.0
    ∙ ap {A = ScriptParts} {B = ScriptParts} (λ p. record p {
      globals = [];
      limit = parts.limit;
      queue =
          queue_behind p.leaving p.queue;
      rest = Idle;
    }) is
    ∙ mail_same s e parts.limit s.leaving
    ∙ ap (λ n. awake_parts (begun_script s e) n) (sym (ap (λ (p : ScriptParts). p.limit) parts_are))

-- the event is taken, and its handler begins
pub begun_wakes : (codes : List Code) (unit : Code) (s : Script) (parts : ScriptParts) (kept : Kept) (e : Event)
    (handler : ℕ) (live : Live)
    → FitsUnit unit (resting_parts parts kept Idle) → IsEmptied parts → HasUnit codes s.code unit
    → resting_parts parts kept Idle ≡ parts_of codes s → Lawful (rules_of codes) s
    → event_in parts.leaving parts.queue ≡ Some e
    → handler_of unit.states parts.state e.id ≡ Some handler
    → live.parts ≡ record parts { queue = queue_behind parts.leaving parts.queue }
    → live.event ≡ e → live.handler ≡ handler → live.began ≡ true → live.fresh ≡ true
    → ticks_passed live.machine.standing ≡ 0
    → GoesOnAs (bodies_of unit) (flight_run unit handler (new_flight e kept)) 0 [] live.machine
    → WakesAs codes unit s live
begun_wakes codes unit s parts kept e handler live fits empty known is lawful first found parts_are event same
    began fresh
    passed goes =
    let rest : s.doing ≡ Resting = idle_rests codes s.code s.state s.doing (ap (λ (p : ScriptParts). p.rest) is) in
    let kept_same : kept ≡ s.kept =
    ap (λ (p : ScriptParts). kept_with p.globals p.limit) is
    ∙ ap (kept_of codes s.code s.state s.kept) rest in
    let state : parts.state ≡ s.state = ap (λ (p : ScriptParts). p.state) is in
    let leaving : parts.leaving ≡ s.leaving = ap (λ (p : ScriptParts). p.leaving) is in
    let due : event_due s.leaving s.mailbox ≡ Some e =
    due_is s.leaving s.mailbox ∙ sym (ap (λ (p : ScriptParts). event_in p.leaving p.queue) is) ∙ first in
    let taken : (number : ℕ) → take_next number s s.doing ≡ with_event_due number s (Some e) =
    λ number. ap (take_next number s) rest ∙ ap (with_event_due number s) due in
    let found' : handler_of unit.states s.state e.id ≡ Some handler =
    ap (λ n. handler_of unit.states n e.id) (sym state) ∙ found in
    let initial : unit.globals ≡ (rules_of codes).initial s.code =
    ap (λ (o : Option Code). globals_in o) (sym known) in
    let is_kept : IsKept (rules_of codes) s.code s.kept =
    subst (IsKept (rules_of codes) s.code) kept_same
    (record { globals = fits.globals ∙ ap kinds_of initial; limit = fits.limit }) in
    let live_parts : live.parts ≡ awake_parts (begun_script s e) live.parts.limit =
    begun_parts codes s parts kept e live empty is parts_are in
    let lives = begun_lives codes unit s e handler known found' is_kept live lawful.timing live_parts event same fresh
    passed (subst (λ k. GoesOnAs (bodies_of unit) (flight_run unit handler (new_flight e k)) 0 [] live.machine)
    kept_same goes) in
    record {
      flight = new_flight e s.kept;
      flies = λ number. ap (λ (a : Told Script). a.value.doing) (taken number);
      lives = λ number. subst (λ (a : Told Script). Lives codes unit a.value (new_flight e s.kept) live)
          (sym (taken number)) lives;
      rests = λ no. absurd cc;
      took = λ number. ap (λ (a : Told Script). a.entries) (taken number)
          ∙ ap (λ (o : Option Event). entries_of_taking number o) (sym (taken_is live e began event));
      asks = begun_asks codes unit s e handler known found' is_kept;
    }
