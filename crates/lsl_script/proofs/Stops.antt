-- A script at the tick of its flight.
use Rattle.std.proofs.Common.{◌≡◌, ℕ, ◌+◌, List, sym, ap, ◌∙◌, subst, arith}
use Rattle.std.specs.Prelude.{nat_le}
use Rattle.lsl_code.specs.declared.woven_units.Woven.{Woven as Code}
use Rattle.lsl_code.specs.Wholes.{active_calls, told}
use Rattle.lsl_machine.specs.State.{bodies_of}
use Rattle.lsl_post.specs.declared.parts.ScriptParts.{ScriptParts}
use Rattle.lsl_script.specs.declared.live.Live.{Live}
use Rattle.lsl_machine.specs.Futures.{ticks_passed}
use Rattle.lsl_script.specs.Codes.{rules_of}
use Rattle.lsl_script.specs.Lawful.{AreGiven, AsksAtMost, IsLawfulDoing, IsLawfulFlight, Lawful, flight_whole}
use Rattle.lsl_script.specs.Lives.{Rests, ticks_due}
use Rattle.lsl_script.specs.Scripts.{Doing, Flight, Script, can_go_on, is_ready}
use Rattle.lsl_script.proofs.Comes.{flight_is, flights_ask_so_often}

-- it has passed the flight's ticks
rests_ticks : (codes : List Code) (unit : Code) (s : Script) (f : Flight) (live : Live) (r : Rests codes unit s f live)
    → r.lives.ticks ≡ f.ticks
rests_ticks codes unit s f live r =
    let due : ticks_due live.fresh live.machine.standing ≡ 1 =
    ap (λ b. ticks_due b live.machine.standing) r.fresh ∙ ap ticks_passed r.stands in
    let all : r.lives.ticks + ticks_due live.fresh live.machine.standing ≡ f.ticks + 1 = r.lives.due in
    omega arith

pub rests_flight : (codes : List Code) (unit : Code) (s : Script) (f : Flight) (live : Live) → Rests codes unit s f live
    → IsLawfulFlight (rules_of codes) s.code s.state f
rests_flight codes unit s f live r = record {
  kept = r.lives.handles.kept;
  given = subst (λ t. AreGiven (flight_whole (rules_of codes) s.code s.state f t) f.answers)
      (rests_ticks codes unit s f live r) r.lives.given;
  cut = (
    active_calls (bodies_of unit) live.machine.machine.calls,
    flight_is codes s.code s.state f unit live.handler r.lives.carries.known r.lives.handles.handler f.ticks f.answers
        ∙ ap (told (bodies_of unit)) r.cut,
  );
}

pub rests_lawful : (codes : List Code) (unit : Code) (s : Script) (f : Flight) (live : Live) → Rests codes unit s f live
    → Lawful (rules_of codes) s
rests_lawful codes unit s f live r = record {
  timing = r.lives.carries.timing;
  doing = subst (IsLawfulDoing (rules_of codes) s.code s.state) (sym r.flies) (rests_flight codes unit s f live r);
}

-- and makes at most this many calls before its next tick
pub rests_asks : (codes : List Code) (unit : Code) (s : Script) (f : Flight) (live : Live) → Rests codes unit s f live
    → AsksAtMost (rules_of codes) s.code s.state f ((rules_of codes).most s.code)
rests_asks codes unit s f live r =
    flights_ask_so_often codes s.code unit s.state f r.lives.carries.known (rests_flight codes unit s f live r)

pub rests_ready : (codes : List Code) (unit : Code) (s : Script) (f : Flight) (live : Live) (clock : ℕ)
    → Rests codes unit s f live → nat_le live.parts.wake clock ≡ is_ready clock s
rests_ready codes unit s f live clock r =
    ap (λ (p : ScriptParts). nat_le p.wake clock) r.lives.carries.parts
    ∙ ap (λ (d : Doing). can_go_on clock s d) (sym r.flies)
