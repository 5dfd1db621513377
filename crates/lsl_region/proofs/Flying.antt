-- The result of a script that is out, for one tick more of its flight.
use Rattle.std.proofs.Common.{◌≡◌, ℕ, zero, suc, ◌+◌, ◌-◌, ◌<◌, ◌≤◌, List, [], ◌∷◌, ◌++◌, length, refl, ap, sym, ◌∙◌, subst, append_assoc, append-nil, arith}
use Rattle.std.specs.Prelude.{Option, Some, slice_get}
use Rattle.lsl_value.specs.declared.names.BuiltinId.{BuiltinId}
use Rattle.lsl_running.specs.declared.ends.Fault.{Fault}
use Rattle.lsl_running.specs.Asking.{Call}
use Rattle.lsl_running.specs.declared.host.Reply.{Reply}
use Rattle.lsl_running.specs.Results as whole
use Rattle.lsl_running.specs.Results.{Whole}
use Rattle.lsl_code.specs.declared.woven_units.Woven.{Woven as Code}
use Rattle.lsl_code.specs.Wholes.{told}
use Rattle.lsl_machine.specs.Futures.{halt_from}
use Rattle.lsl_machine.specs.State.{State, bodies_of}
use Rattle.lsl_post.specs.declared.entries.Entry.{Entry}
use Rattle.lsl_post.specs.Told.{Told, as_value, lead, next_to, quiet}
use Rattle.lsl_post.proofs.Amid.{Amid}
use Rattle.lsl_script.specs.declared.live.Live.{Live}
use Rattle.lsl_script.specs.declared.live.Turn.{Turn}
use Rattle.lsl_script.specs.declared.live.Turn.TheVariants as turn
use Rattle.lsl_script.specs.Awake.{StandsAfter}
use Rattle.lsl_script.specs.Codes.{Meant, rules_of}
use Rattle.lsl_script.specs.Handlers.{ended, failed, given, ticked, with_flight}
use Rattle.lsl_script.specs.Lawful.{AsksAtMost, HasAsked, flight_whole}
use Rattle.lsl_script.specs.Lives.{Turns, Waits, flight_run}
use Rattle.lsl_script.specs.Rules.{Rules}
use Rattle.lsl_script.specs.Scripts.{Flight, Script}
use Rattle.lsl_script.proofs.Comes.{flight_is}
use Rattle.lsl_script.proofs.Meant.{ended_same, failed_same, flight_same}
use Rattle.lsl_region.specs.Answers.{answer}
use Rattle.lsl_region.specs.Grids.{Contents, Lent}
use Rattle.lsl_region.specs.Segments.{asked, came, whole_in_flight}
use Rattle.lsl_region.specs.Turning.{GoesOn, InFlight, IsEnd, IsLast, IsOnWay, IsOut, Paused, StandsAt, asks_left}
use Rattle.lsl_region.specs.Worlds.{Member, World, with_member}
use Rattle.lsl_region.proofs.Placed.{at-member}

pub stands-at : (unit : Code) (t : Turn) (live : Live) → StandsAfter unit t live → StandsAt unit t live
stands-at unit (turn.Asks call) live s = s
stands-at unit turn.AtTick live s = s
stands-at unit turn.Ended live s = s
stands-at unit (turn.Faulted fault) live s = tt
stands-at unit turn.NoMemory live s = tt

-- it makes one call more
asked-more : (r : Rules) (most place : ℕ) (f : Flight) (w : World) (h : Whole)
    → whole_in_flight r (slice_get w.members place) f ≡ h
    → asked r (most + 1) place f w ≡ came r (asked r most place) place f w h
unfolding asked
asked-more r most place f w h e =
    let n : most + 1 ≡ suc most = omega arith in
    ap (λ (k : ℕ). asked r k place f w) n ∙ ap (came r (asked r most place) place f w) e

module _ (codes : List Code) (unit : Code) (clock place : ℕ) (grid : Contents) (live : Live) (stop : Turn)
    (f : Flight) (most : ℕ) (w : World) (m : Meant codes) (p : Paused codes unit clock place grid live stop f most w)
  where
    abbrev script : Script
    script = p.member.script

    abbrev with : Script → World
    with t = with_member w place (record p.member { script = t })

    known : script.code < length codes
    known = (p.stands.scripts place p.member p.at).known

    comes : (h : Whole) → flight_whole (rules_of codes) script.code script.state f (f.ticks + 1) f.answers ≡ h
        → asked m.rules (most + 1) place f w ≡ came m.rules (asked m.rules most place) place f w h
    comes h e = asked-more m.rules most place f w h
        (ap (λ (o : Option Member). whole_in_flight m.rules o f) p.at
        ∙ flight_same codes m script.code script.state f (f.ticks + 1) f.answers known ∙ e)

    -- it asked
    pub comes-asking : (call : Call)
        → flight_whole (rules_of codes) script.code script.state f
        (f.ticks + 1) f.answers ≡ whole.Asks call.id call.args
        → asked m.rules (most + 1) place f w
        ≡ next_to (answer m.rules place call.id call.args w) (λ x. asked m.rules most place (given x.1 f) x.0)
    comes-asking call e = comes (whole.Asks call.id call.args) e

    -- it came to a tick
    pub comes-cut : (calls : List _)
        → flight_whole (rules_of codes) script.code script.state f (f.ticks + 1) f.answers ≡ whole.Cut calls
        → asked m.rules (most + 1) place f w ≡ quiet (with (with_flight (ticked f) script))
    comes-cut calls e = comes (whole.Cut calls) e
        ∙ at-member place (λ (k : Member). quiet (with_flight (ticked f) k.script)) w p.member p.at

    -- it ended
    pub comes-ended : (way : _) (kept : _)
        → flight_whole (rules_of codes) script.code script.state f (f.ticks + 1) f.answers ≡ whole.Ends way kept
        → asked m.rules (most + 1) place f w ≡ as_value with (ended (rules_of codes) (place + 1) script kept way)
    comes-ended way kept e = comes (whole.Ends way kept) e
        ∙ at-member place (λ (k : Member). ended m.rules (place + 1) k.script kept way) w p.member p.at
        ∙ ap (as_value with) (ended_same codes m (place + 1) script kept way known)

    -- it faulted
    pub comes-failed : (fault : Fault)
        → flight_whole (rules_of codes) script.code script.state f (f.ticks + 1) f.answers ≡ whole.Fails fault
        → asked m.rules (most + 1) place f w ≡ as_value with (failed (rules_of codes) (place + 1) script fault)
    comes-failed fault e = comes (whole.Fails fault) e
        ∙ at-member place (λ (k : Member). failed m.rules (place + 1) k.script fault) w p.member p.at
        ∙ ap (as_value with) (failed_same codes m (place + 1) script fault known)

-- What results from a flight that waits, once it has an answer and others, is the result of its machine.
waits-told : (codes : List Code) (unit : Code) (s : Script) (f : Flight) (id : BuiltinId) (live : Live)
    → Waits codes unit s f id live → (r : Reply) (replies : List Reply)
    → flight_whole (rules_of codes) s.code s.state f (f.ticks + 1) (f.answers ++ r ∷ replies)
    ≡ told (bodies_of unit) (halt_from live.machine.standing (bodies_of unit) live.machine.machine 0 (r ∷ replies))
waits-told codes unit s f id live k r replies =
    let z : f.ticks + 1 ≡ f.ticks + 1 + 0 = omega arith in
    flight_is codes s.code s.state f unit live.handler k.carries.known k.handles.handler (f.ticks + 1)
    (f.answers ++ r ∷ replies)
    ∙ ap (λ (t : ℕ). told (bodies_of unit) (flight_run unit live.handler f t (f.answers ++ r ∷ replies))) z
    ∙ ap (told (bodies_of unit)) (k.run.same 0 r replies)

-- one that asked and was answered makes one call fewer, whatever was posted to the script meanwhile
pub asks-fewer : (codes : List Code) (unit : Code) (s t : Script) (f : Flight) (id of : BuiltinId) (live new : Live)
    (most : ℕ) (r : Reply) → Waits codes unit s f id live → Waits codes unit t f of new → new.machine ≡ live.machine
    → AsksAtMost (rules_of codes) s.code s.state f most
    → AsksAtMost (rules_of codes) t.code t.state (given r f) (most - 1)
asks-fewer codes unit s t f id of live new most r a b same asks = λ replies enough asked.
    let e = ap (flight_whole (rules_of codes) t.code t.state f (f.ticks + 1)) (append_assoc f.answers (r ∷ []) replies)
    ∙ waits-told codes unit t f of new b r replies
    ∙ ap (λ (x : State). told (bodies_of unit) (halt_from x.standing (bodies_of unit) x.machine 0 (r ∷ replies))) same
    ∙ sym (waits-told codes unit s f id live a r replies) in
    asks (r ∷ replies) (omega arith) (subst HasAsked e asked)

-- while it asks it asks at least once
pub asks-once : (codes : List Code) (s : Script) (f : Flight) (most : ℕ) (call : Call)
    → flight_whole (rules_of codes) s.code s.state f (f.ticks + 1) f.answers ≡ whole.Asks call.id call.args
    → AsksAtMost (rules_of codes) s.code s.state f most → 0 < most
asks-once codes s f zero call e asks =
    absurd (asks [] (omega arith) (
      call.id,
      call.args,
      ap (flight_whole (rules_of codes) s.code s.state f (f.ticks + 1)) (append-nil f.answers) ∙ e,
    ))
asks-once codes s f (suc most) call e asks = omega arith

pub asks-more : (r : Rules) (code state : ℕ) (f : Flight) (n k : ℕ) → n ≤ k → AsksAtMost r code state f n
    → AsksAtMost r code state f k
asks-more r code state f n k le asks = λ replies enough. asks replies (omega arith)

-- from stop to stop fewer are left
pub left-falls : (unit : Code) (t : Turn) (live : Live) (n : ℕ)
    → ((call : Call) → t ≡ turn.Asks call → asks_left unit (turn.Asks call) live < n) → 0 < n
    → asks_left unit t live < n
left-falls unit (turn.Asks call) live n falls some = falls call refl
left-falls unit turn.AtTick live n falls some = some
left-falls unit turn.Ended live n falls some = some
left-falls unit (turn.Faulted fault) live n falls some = some
left-falls unit turn.NoMemory live n falls some = some

pub is-end : (t : Turn) → IsLast t → (t ≡ turn.AtTick → ⊥) → IsEnd t
is-end (turn.Asks call) last other = last
is-end turn.AtTick last other = other refl
is-end turn.Ended last other = tt
is-end (turn.Faulted fault) last other = tt
is-end turn.NoMemory last other = tt

-- the script that is out
pub out-of : (o : Option Live) (P : Live → Type 0) (live : Live) → o ≡ Some live → IsOut o P → P live
out-of o P live e out = subst (λ (x : Option Live). IsOut x P) e out

-- it continued to a stop
pub goes-to : (codes : List Code) (unit : Code) (clock place : ℕ) (grid : Contents) (live new : Live) (t : Turn)
    (f : Flight) (most : ℕ) (w : World) (g : GoesOn codes unit clock place grid live f most w)
    → Turns codes unit g.member.script f t new → Paused codes unit clock place grid new t f most w
goes-to codes unit clock place grid live new t f most w g turns = record {
  stands = g.stands;
  member = g.member;
  at = g.at;
  turns = turns;
  asks = g.asks;
}

-- the script that asked is lent
abbrev pub paused-lent : (codes : List Code) (unit : Code) (clock place : ℕ) (grid : Contents) (live : Live)
    (call : Call)
    (f : Flight) (most : ℕ) (w : World) → Paused codes unit clock place grid live (turn.Asks call) f most w
    → Lent codes unit clock place grid live call.id f w
paused-lent codes unit clock place grid live call f most w p = record {
  stands = p.stands;
  member = p.member;
  at = p.at;
  waits = p.turns.1;
}

-- one host call is answered
abbrev pub answering : Rules → ℕ → Call → InFlight → Told InFlight
answering r place call x =
    as_value (λ y. record { world = y.0; flight = given y.1 x.flight; most = x.most - 1 })
    (answer r place call.id call.args x.world)

-- what is left to do then
abbrev pub still_asked : Rules → ℕ → InFlight → Told World
still_asked r place x = asked r (x.most + 1) place x.flight x.world

pub way-amid : (r : Rules) (place : ℕ) (total : Told World) (old now : List Entry) (At : InFlight → Type 0)
    → IsOnWay r place total old now At → Amid At total old now (still_asked r place)
way-amid r place total old now At k =
    record { value = k.there; rel = k.at; done = k.done; whole = k.whole; so_far = k.so_far }

pub amid-way : (r : Rules) (place : ℕ) (total : Told World) (old now : List Entry) (At : InFlight → Type 0)
    → Amid At total old now (still_asked r place) → IsOnWay r place total old now At
amid-way r place total old now At a =
    record { there = a.value; at = a.rel; done = a.done; whole = a.whole; so_far = a.so_far }

pub goes-asking : (codes : List Code) (unit : Code) (clock place : ℕ) (grid : Contents) (live : Live) (m : Meant codes)
    (call : Call) (x : InFlight)
    → Paused codes unit clock place grid live (turn.Asks call) x.flight x.most x.world
    → still_asked m.rules place x ≡ next_to (answering m.rules place call x) (still_asked m.rules place)
goes-asking codes unit clock place grid live m call x p =
    let some = asks-once codes p.member.script x.flight x.most call p.turns.0 p.asks in
    let n : x.most ≡ x.most - 1 + 1 = omega arith in
    let a = answer m.rules place call.id call.args x.world in
    comes-asking codes unit clock place grid live (turn.Asks call) x.flight x.most x.world m p call p.turns.0
    ∙ ap (λ (k : ℕ). lead a.entries (asked m.rules k place (given a.value.1 x.flight) a.value.0)) n
