-- The saved calls of a handler in flight are shown as the active calls that its text has there.
use Rattle.std.proofs.Common.{◌≡◌, ◌∙◌, refl, sym, ap, ℕ, ◌<◌, List, length, Option, Some, None, slice_get}
use Rattle.std.specs.Prelude.{map}
use Rattle.lsl_running.specs.declared.host.Reply.{Reply}
use Rattle.lsl_running.specs.Results.{Whole}
use Rattle.lsl_tree.specs.Program.{Program}
use Rattle.lsl_code.specs.declared.woven_units.Woven.{Woven as Code}
use Rattle.lsl_code.specs.Frames.{frames_of}
use Rattle.lsl_code.specs.Machine.{Machine}
use Rattle.lsl_code.specs.Runs.{CutAt, Halt}
use Rattle.lsl_code.specs.Wholes.{told}
use Rattle.lsl_machine.specs.State.{bodies_of}
use Rattle.lsl_script.specs.Codes.{HasUnit, bodies_in, rules_of as rules_of_codes}
use Rattle.lsl_script.specs.Lawful.{IsLawfulFlight, flight_whole}
use Rattle.lsl_script.specs.Parts.{machine_at}
use Rattle.lsl_script.specs.Rules.{whole_in}
use Rattle.lsl_script.specs.Scripts.{Flight}
use Rattle.lsl_script.proofs.Comes.{cut_handler, cut_machine, flight_is}
use Rattle.lsl_script.proofs.TakesUp.{flight_saved, machine_is}
use Rattle.lsl_world.specs.Codes.{AreRunBy}
use Rattle.lsl_world.specs.Programs.{rules_of}
use Rattle.lsl_world.proofs.Meanings.{handlers-are, wholes-are}
use Rattle.lsl_view.specs.Calls.{shown_frame}
use Rattle.lsl_view.specs.Names.{name_of}
use Rattle.lsl_view.specs.Source.{calls_in, shown_call}
use Rattle.lsl_view.proofs.ActiveCalls.{calls-shown}

-- the result of a flight by its program is its result by its code
module _ (programs : List Program) (codes : List Code) (all : AreRunBy programs codes) (code : ℕ)
    (h : code < length codes) where
  by-handler : (handler : Option ℕ) (f : Flight) (ticks : ℕ) (answers : List Reply)
      → whole_in (rules_of programs) code handler f.kept f.event.args ticks answers
      ≡ whole_in (rules_of_codes codes) code handler f.kept f.event.args ticks answers
  by-handler None f ticks answers = refl
  by-handler (Some routine) f ticks answers =
      wholes-are programs codes all code routine f.kept f.event.args ticks answers h

  pub flights-are : (state : ℕ) (f : Flight) (ticks : ℕ) (answers : List Reply)
      → flight_whole (rules_of programs) code state f ticks answers
      ≡ flight_whole (rules_of_codes codes) code state f ticks answers
  flights-are state f ticks answers =
      ap (λ (o : Option ℕ). whole_in (rules_of programs) code o f.kept f.event.args ticks answers)
      (handlers-are programs codes all code state f.event.id h)
      ∙ by-handler ((rules_of_codes codes).handler code state f.event.id) f ticks answers

-- the frames with which a flight is saved
pub flight-shown : (codes : List Code) (code state : ℕ) (unit : Code) (names : List (List ℕ)) (f : Flight)
    → HasUnit codes code unit → map name_of unit.functions ≡ names
    → IsLawfulFlight (rules_of_codes codes) code state f
    → map (shown_frame unit.functions)
    (frames_of (bodies_in (slice_get codes code)) (machine_at (slice_get codes code) state f).calls)
    ≡ map (shown_call names) (calls_in (flight_whole (rules_of_codes codes) code state f f.ticks f.answers))
flight-shown codes code state unit names f known same lawful =
    let h = cut_handler codes code state f unit f.ticks f.answers known lawful.cut in
    let m = cut_machine codes code state f unit h.0 f.ticks f.answers known h.1 lawful.cut in
    let saved = flight_saved codes code state unit f h.0 m.0 known h.1 lawful m.1 in
    let at = machine_is codes code state unit f h.0 m.0 known h.1 m.1 in
    let comes : flight_whole (rules_of_codes codes) code state f f.ticks f.answers
    ≡ told (bodies_of unit) (CutAt m.0) =
    flight_is codes code state f unit h.0 known h.1 f.ticks f.answers
    ∙ ap (λ (x : Halt). told (bodies_of unit) x) m.1 in
    ap (λ (o : Option Code). map (shown_frame unit.functions)
    (frames_of (bodies_in o) (machine_at (slice_get codes code) state f).calls)) known
    ∙ ap (λ (n : Machine). map (shown_frame unit.functions) (frames_of (bodies_of unit) n.calls)) at
    ∙ calls-shown unit.functions names same h.0 m.0.calls (frames_of (bodies_of unit) m.0.calls) saved.frames
    ∙ ap (λ (w : Whole). map (shown_call names) (calls_in w)) (sym comes)
