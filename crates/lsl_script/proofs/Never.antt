-- A handler in flight with answers to its own calls has a result.
use Rattle.std.proofs.Common.{◌≡◌, ℕ, List, [], Bool, true, false, cond, Option, None, Some, refl, sym, ap, ◌∙◌, subst, slice_get}
use Rattle.std.specs.Prelude.{is_some}
use Rattle.std.proofs.lemmas.Bool.{false≢true}
use Rattle.lsl_value.specs.declared.tagged.Value.{Value}
use Rattle.lsl_running.specs.declared.ends.Fault.TheVariants.{StackHeap}
use Rattle.lsl_running.specs.declared.host.Reply.{Reply}
use Rattle.lsl_running.specs.declared.kept.Kept.{Kept}
use Rattle.lsl_running.specs.Charging.{is_within, script_charge, used}
use Rattle.lsl_running.specs.Results as whole
use Rattle.lsl_code.specs.declared.woven_units.Woven.{Woven as Code}
use Rattle.lsl_code.specs.Acts.{first_slots}
use Rattle.lsl_code.specs.Bodies.{Body}
use Rattle.lsl_code.specs.Kinds.{kinds_of}
use Rattle.lsl_code.specs.Laws.{with_answers}
use Rattle.lsl_code.specs.Machine.{Ended, Faulted, Lost}
use Rattle.lsl_code.specs.Runs.{Halt, Over, AskAt, CutAt, run}
use Rattle.lsl_code.specs.Units.{handler_of}
use Rattle.lsl_code.specs.Wholes.{begun, started, told}
use Rattle.lsl_machine.specs.State.{bodies_of}
use Rattle.lsl_script.specs.Codes.{globals_in, handler_in_unit, rules_of}
use Rattle.lsl_script.specs.FlightLaws.{FlightsAreNeverLost}
use Rattle.lsl_script.specs.Lawful.{AreGiven, flight_whole}
use Rattle.lsl_script.specs.Lives.{flight_run}
use Rattle.lsl_script.proofs.Comes.{flight_is, given_as}
use Rattle.lsl_script.proofs.Flights.{Quiet, QuietEnd, given_keeps}
use Rattle.lsl_script.proofs.RunKeeps.{KeptAt}
use Rattle.lsl_script.proofs.Units.{arguments_fit, sound}

module _ (unit : Code) where
  not_lost : (h : Halt) → KeptAt (Quiet unit) (QuietEnd unit) (bodies_of unit) h → told (bodies_of unit) h ≡ whole.Lost
      → ⊥
  not_lost (Over (Ended way kept)) k e = cc
  not_lost (Over (Faulted fault)) k e = cc
  not_lost (Over Lost) k e = k
  not_lost (AskAt id args m t) k e = cc
  not_lost (CutAt m) k e = cc

  module _ (handler t : ℕ) (kept : Kept) (answers : List Reply) where
    within_comes : (slots : List Value) (b : Bool) → Quiet unit (begun handler kept slots [])
        → AreGiven (λ a. told (bodies_of unit) (cond b (run (bodies_of unit) t (begun handler kept slots a))
        (Over (Faulted StackHeap)))) answers
        → told (bodies_of unit) (cond b (run (bodies_of unit) t (begun handler kept slots answers))
        (Over (Faulted StackHeap))) ≡ whole.Lost
        → ⊥
    within_comes slots true quiet given e =
        not_lost (run (bodies_of unit) t (with_answers answers (begun handler kept slots [])))
        (given_keeps unit (begun handler kept slots []) quiet t answers given) e
    within_comes slots false quiet given e = cc

    started_comes : (o : Option Body) (args : List Value)
        → ((w : Body) → o ≡ Some w → Quiet unit (begun handler kept (first_slots w args) []))
        → (w : Body) → o ≡ Some w
        → AreGiven (λ a. told (bodies_of unit) (started o (bodies_of unit) handler kept args t a)) answers
        → told (bodies_of unit) (started o (bodies_of unit) handler kept args t answers) ≡ whole.Lost → ⊥
    started_comes None args quiet w there given e = absurd cc
    started_comes (Some body) args quiet w there given e =
        within_comes (first_slots body args) (is_within kept (used script_charge (first_slots body args) kept))
        (quiet body refl) given e

some_handler : (o : Option ℕ) → is_some o ≡ true → (h : ℕ) × (o ≡ Some h)
some_handler None some = absurd (false≢true some)
some_handler (Some h) some = (h, refl)

pub flights_are_never_lost : FlightsAreNeverLost
flights_are_never_lost codes code unit state f ticks answers known handled kept given lost =
    let h = some_handler (handler_of unit.states state f.event.id)
    (sym (ap (λ (o : Option Code). is_some (handler_in_unit o state f.event.id)) known) ∙ handled) in
    let fit = arguments_fit unit state h.0 f.event h.1 in
    let globals : kinds_of f.kept.globals ≡ kinds_of unit.globals =
    kept.globals ∙ ap (λ (o : Option Code). kinds_of (globals_in o)) known in
    started_comes unit h.0 ticks f.kept answers (slice_get (bodies_of unit) h.0) f.event.args
    (λ w there.
    let same : Some fit.0 ≡ Some w = sym fit.1 ∙ there in
    let one : fit.0 ≡ w = cc in (
      (sound unit).begins h.0 w f.kept f.event.args [] there globals (subst (λ (x : Body). kinds_of f.event.args
          ≡ x.params) one fit.2),
      refl,
    ))
    fit.0 fit.1
    (given_as (flight_whole (rules_of codes) code state f ticks)
    (λ a. told (bodies_of unit) (flight_run unit h.0 f ticks a)) (flight_is codes code state f unit h.0 known h.1 ticks)
    answers given)
    (sym (flight_is codes code state f unit h.0 known h.1 ticks answers) ∙ lost)
