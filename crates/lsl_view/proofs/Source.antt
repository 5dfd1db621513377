-- A script's parts are shown as the script is by its text.
use Rattle.std.proofs.Common.{◌≡◌, ◌∙◌, refl, sym, ap, arith, ℕ, ◌+◌, ◌<◌, zero, suc, List, [], ◌∷◌, length, Option, Some, None, slice_get}
use Rattle.std.specs.Prelude.{map}
use Rattle.lsl_tree.specs.Program.{ProgramState, Program}
use Rattle.lsl_code.specs.declared.functions.StateCode.{StateCode}
use Rattle.lsl_code.specs.declared.woven_functions.WovenCode.{WovenCode}
use Rattle.lsl_code.specs.declared.woven_units.Woven.{Woven as Code}
use Rattle.lsl_code.specs.Frames.{frames_of}
use Rattle.lsl_code.specs.Naming.{state_name, state_name_in}
use Rattle.lsl_gen.specs.Programs.{numbered_states}
use Rattle.lsl_script.specs.Codes.{bodies_in, rules_of as rules_of_codes}
use Rattle.lsl_script.specs.Lawful.{IsLawfulDoing, Lawful}
use Rattle.lsl_script.specs.Parts.{machine_at, parts_of, rest_of}
use Rattle.lsl_script.specs.Rules.{whole_in}
use Rattle.lsl_script.specs.Scripts.{Doing, Resting, Flying, Stopped, Script}
use Rattle.lsl_world.specs.Codes.{AreRunBy, IsRunBy}
use Rattle.lsl_world.specs.Programs.{handler_in, rules_of}
use Rattle.lsl_world.proofs.Lawfulness.{script-lawful}
use Rattle.lsl_world.proofs.Meanings.{meant}
use Rattle.lsl_view.specs.Calls.{shown_frame}
use Rattle.lsl_view.specs.Names.{AreNamedBy, IsNamedBy}
use Rattle.lsl_view.specs.Parts.{frames_in, rest_word, shown_in, shown_script}
use Rattle.lsl_view.specs.Source.{calls_in, doing_word, live_calls, name_of_state, names_in, shown_by, shown_call}
use Rattle.lsl_view.proofs.Flights.{flight-shown, flights-are}

-- a program with its code, or neither
data Both (programs : List Program) (codes : List Code) (n : ℕ) : Type 0 where
  Neither : slice_get programs n ≡ None → slice_get codes n ≡ None → Both programs codes n
  Each : (p : Program) (c : Code) → slice_get programs n ≡ Some p → slice_get codes n ≡ Some c → IsRunBy p c
      → IsNamedBy p c → n < length codes → Both programs codes n

further : (p : Program) (programs : List Program) (c : Code) (codes : List Code) (n : ℕ) → Both programs codes n
    → Both (p ∷ programs) (c ∷ codes) (suc n)
further p programs c codes n (Neither a b) = Neither a b
further p programs c codes n (Each q d a b runs named lt) = Each q d a b runs named (omega (arith, lt))

both : (programs : List Program) (codes : List Code) (n : ℕ) → AreRunBy programs codes → AreNamedBy programs codes
    → Both programs codes n
both [] [] n runs named = Neither refl refl
both [] (c ∷ codes) n runs named = absurd runs
both (p ∷ programs) [] n runs named = absurd runs
both (p ∷ programs) (c ∷ codes) zero runs named = Each p c refl refl runs.0 named.0 (omega arith)
both (p ∷ programs) (c ∷ codes) (suc n) runs named =
    further p programs c codes n (both programs codes n runs.1 named.1)

-- a state of the code has the name of the program's
numbered : (n : ℕ) (states : List ProgramState) (k : ℕ)
    → state_name_in (slice_get (numbered_states n states) k) ≡ name_of_state (slice_get states k)
numbered n [] k = refl
numbered n (s ∷ states) zero = refl
numbered n (s ∷ states) (suc k) = numbered (n + length s.handlers) states k

rests : (codes : List Code) (code state : ℕ) (d : Doing) → rest_word (rest_of codes code state d) ≡ doing_word d
rests codes code state Resting = refl
rests codes code state (Flying f) = refl
rests codes code state (Stopped fault) = refl

module _ (programs : List Program) (codes : List Code) (all : AreRunBy programs codes) where
  calls-are : (code state : ℕ) (unit : Code) (names : List (List ℕ)) (d : Doing) → code < length codes
      → slice_get codes code ≡ Some unit → map (λ (w : WovenCode). w.name) unit.functions ≡ names
      → IsLawfulDoing (rules_of_codes codes) code state d
      → map (shown_frame unit.functions) (frames_in (rest_of codes code state d))
      ≡ map (shown_call names) (live_calls (rules_of programs) code state d)
  calls-are code state unit names Resting lt known same lawful = refl
  calls-are code state unit names (Flying f) lt known same lawful =
      flight-shown codes code state unit names f known same lawful
      ∙ ap (λ w. map (shown_call names) (calls_in w))
      (sym (flights-are programs codes all code lt state f f.ticks f.answers))
  calls-are code state unit names (Stopped fault) lt known same lawful = refl

  -- a script of no code has no calls
  no-frames : (code state : ℕ) (d : Doing) → slice_get codes code ≡ None
      → map (shown_frame []) (frames_in (rest_of codes code state d)) ≡ []
  no-frames code state Resting none = refl
  no-frames code state (Flying f) none =
      ap (λ (o : Option Code). map (shown_frame []) (frames_of (bodies_in o) (machine_at o state f).calls)) none
  no-frames code state (Stopped fault) none = refl

  no-calls : (code state : ℕ) (d : Doing) → slice_get programs code ≡ None
      → map (shown_call []) (live_calls (rules_of programs) code state d) ≡ []
  no-calls code state Resting none = refl
  no-calls code state (Flying f) none =
      ap (λ (o : Option Program). map (shown_call []) (calls_in (whole_in (rules_of programs) code
      (handler_in o state f.event.id) f.kept f.event.args f.ticks f.answers))) none
  no-calls code state (Stopped fault) none = refl

  one-shown : (name : List ℕ) (s : Script) → Lawful (rules_of programs) s → Both programs codes s.code
      → shown_script codes name (parts_of codes s) ≡ shown_by (rules_of programs) (slice_get programs s.code) name s
  one-shown name s lawful (Neither a b) =
      let rest = rests codes s.code s.state s.doing in
      let calls = no-frames s.code s.state s.doing b ∙ sym (no-calls s.code s.state s.doing a) in
      let made : shown_in None name (parts_of codes s) ≡ shown_by (rules_of programs) None name s =
      λ i. record { name = name; state = []; rest = rest i; queued = length s.mailbox.queue; calls = calls i } in
      ap (λ (o : Option Code). shown_in o name (parts_of codes s)) b ∙ made
      ∙ ap (λ (o : Option Program). shown_by (rules_of programs) o name s) (sym a)
  one-shown name s lawful (Each p unit a b runs named lt) =
      let there = script-lawful codes (meant programs codes all) s lt lawful in
      let state : state_name unit.states s.state ≡ name_of_state (slice_get p.states s.state) =
      ap (λ (states : List StateCode). state_name states s.state) runs.states
      ∙ numbered (length p.functions) p.states s.state in
      let rest = rests codes s.code s.state s.doing in
      let calls = calls-are s.code s.state unit (names_in (Some p)) s.doing lt b named there.doing in
      let made : shown_in (Some unit) name (parts_of codes s) ≡ shown_by (rules_of programs) (Some p) name s =
      λ i. record { name = name; state = state i; rest = rest i; queued = length s.mailbox.queue; calls = calls i } in
      ap (λ (o : Option Code). shown_in o name (parts_of codes s)) b ∙ made
      ∙ ap (λ (o : Option Program). shown_by (rules_of programs) o name s) (sym a)

  pub script-shown : (name : List ℕ) (s : Script) → AreNamedBy programs codes → Lawful (rules_of programs) s
      → shown_script codes name (parts_of codes s) ≡ shown_by (rules_of programs) (slice_get programs s.code) name s
  script-shown name s named lawful = one-shown name s lawful (both programs codes s.code all named)
