-- The effect on the grid and the world where a segment begins and where it stops.
use Rattle.std.proofs.Common.{◌≡◌, ℕ, ◌+◌, true, false, List, [], ◌∷◌, ◌++◌, refl, ap, sym, ◌∙◌, subst, append_assoc, append-nil}
use Rattle.std.specs.Prelude.{Option, Some, None, slice_get}
use Rattle.lsl_running.specs.declared.ends.Fault.{Fault}
use Rattle.lsl_running.specs.declared.ends.Outcome.{Outcome}
use Rattle.lsl_running.specs.declared.kept.Kept.{Kept}
use Rattle.lsl_code.specs.declared.woven_units.Woven.{Woven as Code}
use Rattle.lsl_post.specs.declared.entries.Entry.{Entry}
use Rattle.lsl_post.specs.declared.entries.Entry.TheVariants as entry
use Rattle.lsl_post.specs.declared.events.Event.{Event}
use Rattle.lsl_post.specs.declared.parts.ScriptParts.{ScriptParts}
use Rattle.lsl_post.specs.Journal.{Part}
use Rattle.lsl_post.specs.Told.{Told, as_value, next_to, quiet}
use Rattle.lsl_script.specs.declared.closing.Closed.{Closed}
use Rattle.lsl_script.specs.declared.going.Going.{Going}
use Rattle.lsl_script.specs.declared.going.Going.TheVariants.{Stays, Leaves, Enters, Restarts}
use Rattle.lsl_script.specs.declared.live.Live.{Live}
use Rattle.lsl_script.specs.declared.live.Turn.{Turn}
use Rattle.lsl_script.specs.declared.live.Turn.TheVariants as turn
use Rattle.lsl_script.specs.Awake.{taken_by}
use Rattle.lsl_script.specs.Closing.{ClosesAs}
use Rattle.lsl_script.specs.Codes.{Meant, rules_of}
use Rattle.lsl_script.specs.Handlers.{ended, event_due, failed, going_of, gone, take_next, ticked, with_event_due, with_flight}
use Rattle.lsl_script.specs.Lawful.{AsksAtMost, Lawful}
use Rattle.lsl_script.specs.Lives.{Rests, entries_of_closing, entries_of_taking}
use Rattle.lsl_script.specs.Parts.{parts_of}
use Rattle.lsl_script.specs.Rules.{Rules}
use Rattle.lsl_script.specs.Scripts.{Doing, Flight, Flying, Resting, Script, Stopped, handles}
use Rattle.lsl_script.specs.Waking.{WakesAs}
use Rattle.lsl_script.proofs.Stops.{rests_asks, rests_lawful}
use Rattle.lsl_value.specs.declared.names.EventId.TheVariants as event
use Rattle.lsl_region.specs.declared.grid.Seat.{Seat}
use Rattle.lsl_region.specs.Grids.{Contents, Stands}
use Rattle.lsl_region.specs.PausedTurns.{flies_at, flies_in, is_flying}
use Rattle.lsl_region.specs.Segments.{asked, flown, flown_in, segment, taken}
use Rattle.lsl_region.specs.Turning.{Begins, GoesOn, Held, InFlight, IsOnWay, Paused, with_seated}
use Rattle.lsl_region.specs.Worlds.{Member, World, with_member}
use Rattle.lsl_region.proofs.Away.{keeps-out, member-there, stands-away}
use Rattle.lsl_region.proofs.Coming.{stands-back, stands-out}
use Rattle.lsl_region.proofs.Flying.{asks-more, comes-cut, comes-ended, comes-failed}
use Rattle.lsl_region.proofs.Placed.{at-member}
use Rattle.lsl_region.proofs.Posts.{with-same}

gone-code : (r : Rules) (number : ℕ) (s : Script) (going : Going) → (gone r number s going).value.code ≡ s.code
gone-code r number s Stays = refl
gone-code r number s (Leaves to) = refl
gone-code r number s (Enters to) = refl
gone-code r number s Restarts = refl

ended-code : (r : Rules) (number : ℕ) (s : Script) (kept : Kept) (way : Outcome)
    → (ended r number s kept way).value.code ≡ s.code
ended-code r number s kept way =
    gone-code r number (record s { kept = kept })
    (going_of s.leaving s.state (handles r s.code s.state event.StateExit) way)

-- and no handler is in flight then
gone-rests : (r : Rules) (number : ℕ) (s : Script) (going : Going) → (gone r number s going).value.doing ≡ Resting
gone-rests r number s Stays = refl
gone-rests r number s (Leaves to) = refl
gone-rests r number s (Enters to) = refl
gone-rests r number s Restarts = refl

ended-rests : (r : Rules) (number : ℕ) (s : Script) (kept : Kept) (way : Outcome)
    → (ended r number s kept way).value.doing ≡ Resting
ended-rests r number s kept way =
    gone-rests r number (record s { kept = kept })
    (going_of s.leaving s.state (handles r s.code s.state event.StateExit) way)

-- whether the script at a place is in flight, when it was changed
flies-with : (w : World) (place : ℕ) (m : Member) (a : Told World) (t : Told Script) → slice_get w.members place
    ≡ Some m
    → a ≡ as_value (λ (t : Script). with_member w place (record m { script = t })) t
    → flies_at a.value place ≡ is_flying t.value.doing
flies-with w place m a t at e =
    ap (λ (b : Told World). flies_at b.value place) e
    ∙ ap flies_in (member-there w place m (record m { script = t.value }) at)

-- one that is held is in flight
pub held-flies : (codes : List Code) (unit : Code) (clock place : ℕ) (grid : Contents) (live : Live) (w : World)
    → Held codes unit clock place grid live w → flies_at w place ≡ true
held-flies codes unit clock place grid live w h = ap flies_in h.at ∙ ap is_flying h.rests.flies

-- a script that takes its next event keeps its code and its state
record TakesBeside (s t : Script) : Type 0 where
  pub code : t.code ≡ s.code
  pub state : t.state ≡ s.state

takes-due : (number : ℕ) (s : Script) (e : Option Event) → TakesBeside s (with_event_due number s e).value
takes-due number s None = record { code = refl; state = refl }
takes-due number s (Some e) = record { code = refl; state = refl }

takes-next : (number : ℕ) (s : Script) (d : Doing) → TakesBeside s (take_next number s d).value
takes-next number s Resting = takes-due number s (event_due s.leaving s.mailbox)
takes-next number s (Flying f) = record { code = refl; state = refl }
takes-next number s (Stopped fault) = record { code = refl; state = refl }

module _ {codes : List Code} {unit : Code} {clock place : ℕ} {grid : Contents} {live : Live} {f : Flight} {most : ℕ}
    {w : World} (m : Meant codes) where
  -- at a tick it stays out
  pub tick-told : (p : Paused codes unit clock place grid live turn.AtTick f most w) (out : List Entry)
      → Held codes unit clock place grid live (asked m.rules (most + 1) place f w).value
      × (out ≡ out ++ (asked m.rules (most + 1) place f w).entries)
  tick-told p out =
      let s = p.member.script in
      let t : Script = with_flight (ticked f) s in
      subst (λ (a : Told World). Held codes unit clock place grid live a.value × (out ≡ out ++ a.entries))
      (sym (comes-cut codes unit clock place grid live turn.AtTick f most w m p p.turns.0.0 p.turns.0.1)) (
        record {
          flight = ticked f;
          stands = stands-away codes clock place grid w p.member t p.stands p.at
              (keeps-out codes _ s t (p.stands.scripts place p.member p.at) refl);
          member = record p.member { script = t };
          at = member-there w place p.member (record p.member { script = t }) p.at;
          rests = p.turns.1;
        },
        sym (append-nil out),
      )

  -- at its handler's end it comes back
  module _ (p : Paused codes unit clock place grid live turn.Ended f most w) (closed : Closed)
      (k : ClosesAs codes (place + 1) p.member.script live.machine.machine.kept p.turns.way closed) where
    abbrev ending : Told Script
    ending = ended (rules_of codes) (place + 1) p.member.script live.machine.machine.kept p.turns.way

    ended-total : asked m.rules (most + 1) place f w
        ≡ as_value (λ (t : Script). with_member w place (record p.member { script = t })) ending
    ended-total = comes-ended codes unit clock place grid live turn.Ended f most w m p p.turns.way
        live.machine.machine.kept p.turns.comes

    ended-entries : (asked m.rules (most + 1) place f w).entries
        ≡ entries_of_closing (place + 1) closed.charge closed.cleared
    ended-entries = ap (λ (a : Told World). a.entries) ended-total ∙ k.entries

    pub ended-part : (out new : List Entry) → Part out new (entries_of_closing (place + 1) closed.charge closed.cleared)
        → Part out new (asked m.rules (most + 1) place f w).entries
    ended-part out new part = subst (λ (es : List Entry). Part out new es) (sym ended-entries) part

    pub ended-down : flies_at (asked m.rules (most + 1) place f w).value place ≡ false
    ended-down =
        flies-with w place p.member (asked m.rules (most + 1) place f w) ending p.at ended-total
        ∙ ap is_flying (ended-rests (rules_of codes) (place + 1) p.member.script live.machine.machine.kept p.turns.way)

    pub ended-told : (seat : Seat) → slice_get grid.seats place ≡ Some seat → (out new : List Entry)
        → new ≡ out ++ entries_of_closing (place + 1) closed.charge closed.cleared
        → Stands codes None clock (with_seated grid place seat (Some closed.script))
        (asked m.rules (most + 1) place f w).value × (new ≡ out ++ (asked m.rules (most + 1) place f w).entries)
    ended-told seat sits out new e = (
      subst (λ (v : World). Stands codes None clock (with_seated grid place seat (Some closed.script)) v)
          (sym (ap (λ (a : Told World). a.value) ended-total))
          (subst (λ (parts : ScriptParts). Stands codes None clock (with_seated grid place seat (Some parts))
          (with_member w place (record p.member { script = ending.value }))) (sym k.script)
          (stands-back codes clock place grid w p.member ending.value seat p.at sits
          (ended-code (rules_of codes) (place + 1) p.member.script live.machine.machine.kept p.turns.way) p.stands
          k.lawful)),
      e ∙ ap (λ (es : List Entry). out ++ es) (sym ended-entries),
    )

  -- after a fault it comes back
  module _ (fault : Fault) (p : Paused codes unit clock place grid live (turn.Faulted fault) f most w) where
    abbrev failing : Told Script
    failing = failed (rules_of codes) (place + 1) p.member.script fault

    failed-total : asked m.rules (most + 1) place f w
        ≡ as_value (λ (t : Script). with_member w place (record p.member { script = t })) failing
    failed-total = comes-failed codes unit clock place grid live (turn.Faulted fault) f most w m p fault p.turns.0

    pub failed-part : (out new : List Entry) → Part out new (entry.Stopped (place + 1) fault ∷ [])
        → Part out new (asked m.rules (most + 1) place f w).entries
    failed-part out new part =
        subst (λ (a : Told World). Part out new a.entries) (sym failed-total) part

    pub failed-down : flies_at (asked m.rules (most + 1) place f w).value place ≡ false
    failed-down = flies-with w place p.member (asked m.rules (most + 1) place f w) failing p.at failed-total

    pub failed-told : (script : ScriptParts) → script ≡ parts_of codes failing.value
        → Lawful (rules_of codes) failing.value → (seat : Seat) → slice_get grid.seats place ≡ Some seat
        → (out new : List Entry) → new ≡ out ++ entry.Stopped (place + 1) fault ∷ []
        → Stands codes None clock (with_seated grid place seat (Some script))
        (asked m.rules (most + 1) place f w).value × (new ≡ out ++ (asked m.rules (most + 1) place f w).entries)
    failed-told script is lawful seat sits out new e =
        subst (λ (a : Told World). Stands codes None clock (with_seated grid place seat (Some script)) a.value
        × (new ≡ out ++ a.entries)) (sym failed-total) (
          subst (λ (parts : ScriptParts). Stands codes None clock (with_seated grid place seat (Some parts))
              (with_member w place (record p.member { script = failing.value }))) (sym is)
              (stands-back codes clock place grid w p.member failing.value seat p.at sits refl p.stands lawful),
          e,
        )

-- on the way of a flight it came to a tick
pub way-tick : (codes : List Code) (unit : Code) (clock place : ℕ) (grid : Contents) (live : Live) (last : Turn)
    (m : Meant codes) (total : Told World) (old now : List Entry) → last ≡ turn.AtTick
    → IsOnWay m.rules place total old now
    (λ (x : InFlight). Paused codes unit clock place grid live last x.flight x.most x.world)
    → Held codes unit clock place grid live total.value × (now ≡ old ++ total.entries)
way-tick codes unit clock place grid live last m total old now e k =
    let x = k.there in
    let rest = asked m.rules (x.most + 1) place x.flight x.world in
    let p = subst (λ (t : Turn). Paused codes unit clock place grid live t x.flight x.most x.world) e k.at in
    let d = tick-told m p now in (
      subst (λ (a : Told World). Held codes unit clock place grid live a.value) (sym k.whole) d.0,
      d.1 ∙ ap (λ (es : List Entry). es ++ rest.entries) k.so_far ∙ append_assoc old k.done rest.entries
          ∙ ap (λ (a : Told World). old ++ a.entries) (sym k.whole),
    )

-- a script that was at a tick comes back at the end of a turn
pub stands-settled : (codes : List Code) (unit : Code) (clock place : ℕ) (grid : Contents) (live : Live) (w : World)
    (h : Held codes unit clock place grid live w) (script : ScriptParts) → script ≡ parts_of codes h.member.script
    → (seat : Seat) → slice_get grid.seats place ≡ Some seat
    → Stands codes None clock (with_seated grid place seat (Some script)) w
stands-settled codes unit clock place grid live w h script is seat sits =
    let s = h.member.script in
    subst (λ (v : World). Stands codes None clock (with_seated grid place seat (Some script)) v)
    (with-same w place h.member h.at)
    (subst (λ (parts : ScriptParts). Stands codes None clock (with_seated grid place seat (Some parts))
    (with_member w place h.member)) (sym is)
    (stands-back codes clock place grid w h.member s seat h.at sits refl h.stands
    (rests_lawful codes unit s h.flight live h.rests)))

-- the flight of the script at a place is continued
flown-is : (r : Rules) (place : ℕ) (v : World) (u : Member) (f : Flight) → slice_get v.members place ≡ Some u
    → u.script.doing ≡ Flying f
    → flown_in r place v (slice_get v.members place) ≡ asked r (r.most u.script.code + 1) place f v
flown-is r place v u f at flies = ap (flown_in r place v) at ∙ ap (flown r place v u.script.code) flies

module _ {codes : List Code} {unit : Code} {clock place : ℕ} {grid : Contents} {live : Live} {w : World}
    (m : Meant codes) where
  -- a script that is held takes no event
  module _ (h : Held codes unit clock place grid live w) where
    abbrev pub held_most : ℕ
    held_most = m.rules.most h.member.script.code

    taken-held : taken place w ≡ quiet w
    taken-held =
        at-member place (λ (k : Member). take_next (place + 1) k.script k.script.doing) w h.member h.at
        ∙ ap (λ (d : Doing). as_value (λ (t : Script). with_member w place (record h.member { script = t }))
        (take_next (place + 1) h.member.script d)) h.rests.flies
        ∙ ap (λ (v : World). quiet v) (with-same w place h.member h.at)

    pub segment-held : segment m.rules place w ≡ asked m.rules (held_most + 1) place h.flight w
    segment-held =
        ap (λ (a : Told World). next_to a (λ v. flown_in m.rules place v (slice_get v.members place))) taken-held
        ∙ flown-is m.rules place w h.member h.flight h.at h.rests.flies

    pub held-goes : GoesOn codes unit clock place grid live h.flight held_most w
    held-goes =
        let s = h.member.script in
        record {
          stands = h.stands;
          member = h.member;
          at = h.at;
          lives = h.rests.lives;
          asks = asks-more (rules_of codes) s.code s.state h.flight _ held_most
              (m.most s.code (h.stands.scripts place h.member h.at).known)
              (rests_asks codes unit s h.flight live h.rests);
        }

    pub held-rests : Rests codes unit held-goes.member.script h.flight live
    unfolding held-goes
    held-rests = h.rests

  -- one that began has a flight
  module _ (b : Begins codes unit clock place grid live w) where
    abbrev pub begun_most : ℕ
    begun_most = m.rules.most b.member.script.code

    pub flown-begun : flown_in m.rules place w (slice_get w.members place)
        ≡ asked m.rules (begun_most + 1) place b.flight w
    flown-begun = flown-is m.rules place w b.member b.flight b.at b.flies

    pub begun-goes : GoesOn codes unit clock place grid live b.flight begun_most w
    begun-goes =
        let s = b.member.script in
        record {
          stands = b.stands;
          member = b.member;
          at = b.at;
          lives = b.lives;
          asks = asks-more (rules_of codes) s.code s.state b.flight _ begun_most
              (m.most s.code (b.stands.scripts place b.member b.at).known) b.asks;
        }

    pub begun-rests : live.began ≡ false → Rests codes unit begun-goes.member.script b.flight live
    unfolding begun-goes
    begun-rests = b.rests

-- a script wakes and takes its next event
module _ (codes : List Code) (unit : Code) (clock place : ℕ) (grid : Contents) (w : World) (u : Member) (seat : Seat)
    (st : Stands codes None clock grid w) (at : slice_get w.members place ≡ Some u)
    (sits : slice_get grid.seats place ≡ Some seat) where
  abbrev taking : Told Script
  taking = take_next (place + 1) u.script u.script.doing

  taken-total : taken place w ≡ as_value (λ (t : Script). with_member w place (record u { script = t })) taking
  taken-total = at-member place (λ (k : Member). take_next (place + 1) k.script k.script.doing) w u at

  module _ (live : Live) (k : WakesAs codes unit u.script live) where
    taken-entries : (taken place w).entries ≡ entries_of_taking (place + 1) (taken_by live)
    taken-entries = ap (λ (a : Told World). a.entries) taken-total ∙ k.took (place + 1)

    pub taken-part : (out new : List Entry) → Part out new (entries_of_taking (place + 1) (taken_by live))
        → Part out new (taken place w).entries
    taken-part out new part = subst (λ (es : List Entry). Part out new es) (sym taken-entries) part

    pub taken-told : (out new : List Entry) → new ≡ out ++ entries_of_taking (place + 1) (taken_by live)
        → Begins codes unit clock place (with_seated grid place seat None) live (taken place w).value
        × (new ≡ out ++ (taken place w).entries)
    taken-told out new e =
        let t = taking.value in
        let beside = takes-next (place + 1) u.script u.script.doing in (
          subst (λ (v : World). Begins codes unit clock place (with_seated grid place seat None) live v)
              (sym (ap (λ (a : Told World). a.value) taken-total))
              (record {
                flight = k.flight;
                stands = stands-out codes clock place grid w u t seat at sits beside.code st;
                member = record u { script = t };
                at = member-there w place u (record u { script = t }) at;
                lives = k.lives (place + 1);
                asks = subst (λ (c : ℕ). AsksAtMost (rules_of codes) c t.state k.flight ((rules_of codes).most c))
                    (sym beside.code)
                    (subst (λ (n : ℕ). AsksAtMost (rules_of codes) u.script.code n k.flight
                    ((rules_of codes).most u.script.code)) (sym beside.state) k.asks);
                flies = k.flies (place + 1);
                rests = λ saved.
                    let r = k.rests saved in
                    subst (λ (s : Script). Rests codes unit s k.flight live)
                    (sym (ap (λ (d : Doing). (take_next (place + 1) u.script d).value) r.flies)) r;
              }),
          e ∙ ap (λ (es : List Entry). out ++ es) (sym taken-entries),
        )
