-- A handler in flight that a script can have by what its program means is one that it can have by its code.
use Rattle.std.proofs.Common.{◌≡◌, ℕ, ◌<◌, List, length, refl, ap, sym, ◌∙◌}
use Rattle.std.specs.Prelude.{Option, Some, None}
use Rattle.lsl_value.specs.declared.tagged.Value.{Value}
use Rattle.lsl_running.specs.declared.host.Reply.{Reply}
use Rattle.lsl_code.specs.declared.woven_units.Woven.{Woven as Code}
use Rattle.lsl_code.specs.Kinds.{kinds_of}
use Rattle.lsl_script.specs.Codes.{Meant, rules_of}
use Rattle.lsl_script.specs.Lawful.{IsLawfulDoing, IsLawfulFlight, Lawful, flight_whole}
use Rattle.lsl_script.specs.Rules.{whole_in}
use Rattle.lsl_script.specs.Scripts.{Doing, Resting, Flying, Stopped, Flight, Script}
use Rattle.lsl_script.proofs.Comes.{given_as}

module _ (codes : List Code) (m : Meant codes) (code : ℕ) (h : code < length codes) where
  whole-one : (handler : Option ℕ) (f : Flight) (ticks : ℕ) (answers : List Reply)
      → whole_in m.rules code handler f.kept f.event.args ticks answers
      ≡ whole_in (rules_of codes) code handler f.kept f.event.args ticks answers
  whole-one None f ticks answers = refl
  whole-one (Some routine) f ticks answers = m.whole code routine f.kept f.event.args ticks answers h

  whole-same : (state : ℕ) (f : Flight) (ticks : ℕ) (answers : List Reply)
      → flight_whole m.rules code state f ticks answers ≡ flight_whole (rules_of codes) code state f ticks answers
  whole-same state f ticks answers =
      ap (λ (o : Option ℕ). whole_in m.rules code o f.kept f.event.args ticks answers)
      (m.handler code state f.event.id h)
      ∙ whole-one ((rules_of codes).handler code state f.event.id) f ticks answers

  flight-lawful : (state : ℕ) (f : Flight) → IsLawfulFlight m.rules code state f
      → IsLawfulFlight (rules_of codes) code state f
  flight-lawful state f l = record {
    kept = record {
      globals = l.kept.globals ∙ ap (λ (values : List Value). kinds_of values) (m.initial code h);
      limit = l.kept.limit;
    };
    given = given_as (flight_whole m.rules code state f f.ticks) (flight_whole (rules_of codes) code state f f.ticks)
        (whole-same state f f.ticks) f.answers l.given;
    cut = (l.cut.0, sym (whole-same state f f.ticks f.answers) ∙ l.cut.1);
  }

  doing-lawful : (state : ℕ) (d : Doing) → IsLawfulDoing m.rules code state d
      → IsLawfulDoing (rules_of codes) code state d
  doing-lawful state Resting l = tt
  doing-lawful state (Flying f) l = flight-lawful state f l
  doing-lawful state (Stopped fault) l = tt

  -- and the other way round
  flight-meant : (state : ℕ) (f : Flight) → IsLawfulFlight (rules_of codes) code state f
      → IsLawfulFlight m.rules code state f
  flight-meant state f l = record {
    kept = record {
      globals = l.kept.globals ∙ ap (λ (values : List Value). kinds_of values) (sym (m.initial code h));
      limit = l.kept.limit;
    };
    given = given_as (flight_whole (rules_of codes) code state f f.ticks) (flight_whole m.rules code state f f.ticks)
        (λ answers. sym (whole-same state f f.ticks answers)) f.answers l.given;
    cut = (l.cut.0, whole-same state f f.ticks f.answers ∙ l.cut.1);
  }

  doing-meant : (state : ℕ) (d : Doing) → IsLawfulDoing (rules_of codes) code state d
      → IsLawfulDoing m.rules code state d
  doing-meant state Resting l = tt
  doing-meant state (Flying f) l = flight-meant state f l
  doing-meant state (Stopped fault) l = tt

pub script-lawful : (codes : List Code) (m : Meant codes) (s : Script) → s.code < length codes → Lawful m.rules s
    → Lawful (rules_of codes) s
script-lawful codes m s h l =
    record { timing = l.timing; doing = doing-lawful codes m s.code h s.state s.doing l.doing }

pub script-meant : (codes : List Code) (m : Meant codes) (s : Script) → s.code < length codes
    → Lawful (rules_of codes) s → Lawful m.rules s
script-meant codes m s h l =
    record { timing = l.timing; doing = doing-meant codes m s.code h s.state s.doing l.doing }
