-- The result of a flight is the result of its handler's run from its start.
use Rattle.std.proofs.Common.{◌≡◌, ℕ, suc, ◌+◌, ◌*◌, ◌≤◌, List, ◌++◌, Option, None, Some, length, refl, sym, ap, ◌∙◌, subst, slice_get, arith}
use Rattle.lsl_running.specs.declared.host.Reply.{Reply}
use Rattle.lsl_running.specs.Results.{Whole, Asks, Cut, Lost}
use Rattle.lsl_code.specs.declared.woven_units.Woven.{Woven as Code}
use Rattle.lsl_code.specs.Laws.{hosts_of}
use Rattle.lsl_code.specs.Machine.{Machine}
use Rattle.lsl_code.specs.Runs.{CutAt}
use Rattle.lsl_code.specs.Units.{handler_of}
use Rattle.lsl_code.specs.Wholes.{told, whole_of_bodies}
use Rattle.lsl_code.proofs.Asking.{asks_so_often}
use Rattle.lsl_code.proofs.WholeLaws.{ticks_change_nothing}
use Rattle.lsl_machine.specs.State.{bodies_of}
use Rattle.lsl_script.specs.Codes.{HasUnit, bodies_in, handler_in_unit, most_asks, rules_of}
use Rattle.lsl_script.specs.FlightLaws.{FlightsAskSoOften}
use Rattle.lsl_script.specs.Lawful.{AreGiven, NoneGiven, OneGiven, WasCut, flight_whole}
use Rattle.lsl_script.specs.Lives.{flight_run}
use Rattle.lsl_script.specs.Rules.{whole_in}
use Rattle.lsl_script.specs.Scripts.{Flight}
use Rattle.lsl_script.proofs.Flights.{told_asks, told_cut}
use Rattle.lsl_script.proofs.Units.{sound}

abbrev by_handler : Flight → ℕ → List Reply → Option Code → Option ℕ → Whole
by_handler f t answers o None = Lost
by_handler f t answers o (Some h) = whole_of_bodies (bodies_in o) h f.kept f.event.args t answers

handled : (codes : List Code) (code : ℕ) (f : Flight) (t : ℕ) (answers : List Reply) (o : Option ℕ)
    → whole_in (rules_of codes) code o f.kept f.event.args t answers ≡ by_handler f t answers (slice_get codes code) o
handled codes code f t answers None = refl
handled codes code f t answers (Some h) = refl

in_unit : (codes : List Code) (code state : ℕ) (f : Flight) (unit : Code) → HasUnit codes code unit
    → (t : ℕ) (answers : List Reply)
    → flight_whole (rules_of codes) code state f t answers
    ≡ by_handler f t answers (Some unit) (handler_of unit.states state f.event.id)
in_unit codes code state f unit known t answers =
    handled codes code f t answers (handler_in_unit (slice_get codes code) state f.event.id)
    ∙ ap (λ (o : Option Code). by_handler f t answers o (handler_in_unit o state f.event.id)) known

pub flight_is : (codes : List Code) (code state : ℕ) (f : Flight) (unit : Code) (h : ℕ) → HasUnit codes code unit
    → handler_of unit.states state f.event.id ≡ Some h → (t : ℕ) (answers : List Reply)
    → flight_whole (rules_of codes) code state f t answers ≡ told (bodies_of unit) (flight_run unit h f t answers)
flight_is codes code state f unit h known found t answers =
    in_unit codes code state f unit known t answers ∙ ap (by_handler f t answers (Some unit)) found

-- a flight that is cut has a handler
pub cut_handler : (codes : List Code) (code state : ℕ) (f : Flight) (unit : Code) (t : ℕ) (answers : List Reply)
    → HasUnit codes code unit → WasCut (flight_whole (rules_of codes) code state f t answers)
    → (h : ℕ) × (handler_of unit.states state f.event.id ≡ Some h)
cut_handler codes code state f unit t answers known cut =
    go (handler_of unit.states state f.event.id) refl (sym (in_unit codes code state f unit known t answers) ∙ cut.1)
  where
    go : (o : Option ℕ) → handler_of unit.states state f.event.id ≡ o → by_handler f t answers (Some unit) o ≡ Cut cut.0
        → (h : ℕ) × (handler_of unit.states state f.event.id ≡ Some h)
    go None is e = absurd cc
    go (Some h) is e = (h, is)

-- if it is cut, the run is cut at a machine
pub cut_machine : (codes : List Code) (code state : ℕ) (f : Flight) (unit : Code) (h t : ℕ) (answers : List Reply)
    → HasUnit codes code unit → handler_of unit.states state f.event.id ≡ Some h
    → WasCut (flight_whole (rules_of codes) code state f t answers)
    → (m : Machine) × (flight_run unit h f t answers ≡ CutAt m)
cut_machine codes code state f unit h t answers known found cut =
    told_cut (bodies_of unit) (flight_run unit h f t answers) cut.0
    (sym (flight_is codes code state f unit h known found t answers) ∙ cut.1)

-- what isn't cut is the same with more ticks
pub more_ticks_same : (codes : List Code) (code state : ℕ) (f : Flight) (unit : Code) (h : ℕ) → HasUnit codes code unit
    → handler_of unit.states state f.event.id ≡ Some h → (t more : ℕ) (answers : List Reply) (w : Whole)
    → flight_whole (rules_of codes) code state f t answers ≡ w → ((calls : _) → w ≡ Cut calls → ⊥)
    → flight_whole (rules_of codes) code state f (t + more) answers ≡ w
more_ticks_same codes code state f unit h known found t more answers w is uncut =
    let here = flight_is codes code state f unit h known found in
    here (t + more) answers
    ∙ ticks_change_nothing (bodies_of unit) (sound unit).forward h f.kept f.event.args t more answers
    (λ calls e. uncut calls (sym is ∙ here t answers ∙ e))
    ∙ sym (here t answers) ∙ is

-- answers that were given were given with more ticks as well
pub more_given : (codes : List Code) (code state : ℕ) (f : Flight) (unit : Code) (h : ℕ) → HasUnit codes code unit
    → handler_of unit.states state f.event.id ≡ Some h → (t more : ℕ) (answers : List Reply)
    → AreGiven (flight_whole (rules_of codes) code state f t) answers
    → AreGiven (flight_whole (rules_of codes) code state f (t + more)) answers
more_given codes code state f unit h known found t more answers NoneGiven = NoneGiven
more_given codes code state f unit h known found t more answers (OneGiven before r id args given asks fits) =
    OneGiven before r id args (more_given codes code state f unit h known found t more before given)
    (more_ticks_same codes code state f unit h known found t more before (Asks id args) asks (λ calls e. cc)) fits

-- and for another meaning that is the same
pub given_as : (c d : List Reply → Whole) → ((answers : List Reply) → c answers ≡ d answers) → (answers : List Reply)
    → AreGiven c answers → AreGiven d answers
given_as c d same answers NoneGiven = NoneGiven
given_as c d same answers (OneGiven before r id args given asks fits) =
    OneGiven before r id args (given_as c d same before given) (sym (same before) ∙ asks) fits

pub flights_ask_so_often : FlightsAskSoOften
flights_ask_so_often codes code unit state f known lawful replies enough asks =
    let h = cut_handler codes code state f unit f.ticks f.answers known lawful.cut in
    let m = cut_machine codes code state f unit h.0 f.ticks f.answers known h.1 lawful.cut in
    let n : f.ticks + 1 ≡ suc f.ticks = omega arith in
    let a = told_asks (bodies_of unit) (flight_run unit h.0 f (f.ticks + 1) (f.answers ++ replies)) asks.0 asks.1
    (sym (flight_is codes code state f unit h.0 known h.1 (f.ticks + 1) (f.answers ++ replies)) ∙ asks.2) in
    let most : 2048 * hosts_of (bodies_of unit) ≤ length replies =
    subst (λ (o : Option Code). most_asks (bodies_in o) ≤ length replies) known enough in
    asks_so_often (bodies_of unit) (sound unit).forward h.0 f.kept f.event.args f.ticks f.answers replies m.0 m.1
    lawful.kept.limit most asks.0 asks.1 a.0 a.1
    (ap (λ t. flight_run unit h.0 f t (f.answers ++ replies)) (sym n) ∙ a.2)
