-- The unit of a program is well formed, where its numbers are small enough.
use Rattle.std.proofs.Common.{◌≡◌, ◌≢◌, ℕ, suc, ◌+◌, ◌≤◌, List, [], ◌∷◌, ◌++◌, length, map, Some, option_map, Bool, true, false, cond, refl, sym, ap, ap₂, ◌∙◌, arith, slice_get}
use Rattle.std.specs.Prelude.{is_none, not, All, nat_le}
use Rattle.std.specs.List.{AllPairs}
use Rattle.std.proofs.lemmas.Bool.Decides.{nat_tests}
use Rattle.std.proofs.lemmas.List.Elements.{All-head, All-tail, All-cons, All-nil}
use Rattle.std.proofs.lemmas.Option.{slice_get-map}
use Rattle.lsl_value.specs.declared.names.EventId.{EventId}
use Rattle.lsl_value.specs.declared.names.EventId.TheVariants as event
use Rattle.lsl_tree.specs.Kinded.{IsHandler, EventsDiffer, IsKinded}
use Rattle.lsl_tree.specs.Program.{Routine, NamedRoutine, EventRoutine, ProgramState, Program}
use Rattle.lsl_tree.specs.Shape.{IsShaped}
use Rattle.lsl_tree.specs.Signatures.{routines_of, handlers_of}
use Rattle.lsl_meaning.specs.Globals.{initial_globals}
use Rattle.lsl_meaning.proofs.GlobalLemmas as lemmas
use Rattle.lsl_code.specs.Bodies.{Body, plain_body}
use Rattle.lsl_code.specs.Fits.{all_places}
use Rattle.lsl_code.specs.Kinds.{signature_in, names_in}
use Rattle.lsl_code.specs.Units.{fits_function, handles, handler_fits, event_number, same_event, has_event, events_differ, state_fits, fits_states, fits_unit}
use Rattle.lsl_code.proofs.Tested.{both, sames, all_if}
use Rattle.lsl_gen.specs.Laws.{HasShortCode, UnitsAreWellFormed}
use Rattle.lsl_gen.specs.Programs.{IsShort, signature_of, names_of, generated_functions, numbered_handlers, numbered_states, generated_states}
use Rattle.lsl_gen.proofs.Bodies.{routine_body, bodies_of, bodies_generated, All-at, shaped_at}
use Rattle.lsl_gen.proofs.FunctionSteps.{map_length}
use Rattle.lsl_gen.proofs.Routes.{routine_fits, each_body, kinded_at, all_plain}

-- the events by their numbers
abbrev events : List EventId
events =
    event.StateEntry ∷ event.StateEntry ∷ event.StateExit ∷ event.TouchStart ∷ event.Touch ∷ event.TouchEnd
    ∷ event.Listen
    ∷ event.Timer ∷ event.LinkMessage ∷ event.Changed ∷ event.OnRez ∷ event.Dataserver ∷ event.LinksetData ∷ []

event_at : (e : EventId) → slice_get events (event_number e) ≡ Some e
event_at event.StateEntry = refl
event_at e = refl

event_is : (a b : EventId) → event_number a ≡ event_number b → a ≡ b
event_is a b e = let same : Some a ≡ Some b = sym (event_at a) ∙ ap (slice_get events) e ∙ event_at b in cc

other_event : (a b : EventId) (t : Bool) → same_event a b ≡ t → a ≢ b → t ≡ false
other_event a b false e h = refl
other_event a b true e h = let same : event_number a ≡ event_number b = grind (arith, nat_tests) in
    absurd (h (event_is a b same))

none_has : (h : EventRoutine) (hs : List EventRoutine) (n : ℕ) → All (λ b. h.event ≢ b.event) hs
    → has_event h.event (numbered_handlers n hs) ≡ false
none_has h [] n all = refl
none_has h (x ∷ hs) n all =
    ap (λ t. cond t true (has_event h.event (numbered_handlers (suc n) hs)))
    (other_event h.event x.event (same_event h.event x.event) refl
    (All-head (λ b. h.event ≢ b.event) x hs all))
    ∙ none_has h hs (suc n) (All-tail (λ b. h.event ≢ b.event) x hs all)

differ_ok : (hs : List EventRoutine) (n : ℕ) → AllPairs (λ a b. a.event ≢ b.event) hs
    → events_differ (numbered_handlers n hs) ≡ true
differ_ok [] n pairs = refl
differ_ok (h ∷ hs) n pairs =
    both _ _ (ap not (none_has h hs (suc n) (λ k d lt. pairs 0 (suc k) d (omega arith) (omega arith))))
    (differ_ok hs (suc n) (λ i j d lt le. pairs (suc i) (suc j) d (omega arith) (omega arith)))

at_least : (m n : ℕ) → m ≤ n → nat_le m n ≡ true
at_least m n le = grind (arith, nat_tests)

shift_get : {X : Type 0} (xs ys : List X) (k : ℕ) → slice_get (xs ++ ys) (length xs + k) ≡ slice_get ys k
shift_get [] ys k = let z : 0 + k ≡ k = omega arith in ap (slice_get ys) z
shift_get (x ∷ xs) ys k =
    let z : length (x ∷ xs) + k ≡ suc (length xs + k) = omega arith in
    ap (slice_get (x ∷ (xs ++ ys))) z ∙ shift_get xs ys k

abbrev routines_in : List EventRoutine → List Routine
routines_in hs = map (λ h. h.routine) hs

routines-append : (a b : List EventRoutine) → routines_in (a ++ b) ≡ routines_in a ++ routines_in b
routines-append [] b = refl
routines-append (x ∷ a) b = ap (λ l. x.routine ∷ l) (routines-append a b)

module _ (p : Program) where
  signatures : (rs : List Routine) → map signature_in (map (routine_body p) rs) ≡ map signature_of rs
  signatures [] = refl
  signatures (r ∷ rs) = ap (λ l. signature_of r ∷ l) (signatures rs)

  states_length : (states : List ProgramState) (n : ℕ) → length (numbered_states n states) ≡ length states
  states_length [] n = refl
  states_length (s ∷ states) n = ap suc (states_length states (n + length s.handlers))

  names_same : IsKinded p → names_in (initial_globals p) (generated_states p) (bodies_of p) ≡ names_of p
  names_same kinded =
      ap₂ (λ gs fs. record { globals = gs; functions = fs; states = length (generated_states p) })
      (lemmas.globals p kinded) (signatures (routines_of p))
      ∙ ap (λ n. record { globals = (names_of p).globals; functions = (names_of p).functions; states = n })
      (states_length p.states (length p.functions))

  module _ (bodies : List Body) where
    -- from this number on the functions are those of these routines
    abbrev From : ℕ → List Routine → Type 0
    From m rs = (k : ℕ) → slice_get bodies (m + k) ≡ option_map (routine_body p) (slice_get rs k)

    handlers_ok : (hs : List EventRoutine) (more : List Routine) (m n : ℕ) → From m (routines_in hs ++ more)
        → All IsHandler hs → all_places (handler_fits bodies) n (numbered_handlers m hs) ≡ true
    handlers_ok [] more m n from all = refl
    handlers_ok (h ∷ hs) more m n from all =
        let z : m + 0 ≡ m = omega arith in
        let known = All-head IsHandler h hs all in
        let here : slice_get bodies m ≡ Some (routine_body p h.routine) = ap (slice_get bodies) (sym z) ∙ from 0 in
        both _ _ (ap (handles (record { event = h.event; function = m })) here
        ∙ both _ _ (sames _ _ known.params) (ap is_none known.result))
        (handlers_ok hs more (suc m) (suc n) (λ k. let y : suc m + k ≡ m + suc k = omega arith in
        ap (slice_get bodies) y ∙ from (suc k)) (All-tail IsHandler h hs all))

    state_handlers : (s : ProgramState) (states : List ProgramState) → All IsHandler (handlers_of (s ∷ states))
        → All IsHandler s.handlers × All IsHandler (handlers_of states)
    state_handlers s states all = split s.handlers (handlers_of states) all
      where
        split : (a b : List EventRoutine) → All IsHandler (a ++ b) → All IsHandler a × All IsHandler b
        split [] b all = (All-nil IsHandler, all)
        split (x ∷ a) b all =
            let rest = split a b (All-tail IsHandler x (a ++ b) all) in
            (All-cons IsHandler x a (All-head IsHandler x (a ++ b) all) rest.0, rest.1)

    states_ok : (states : List ProgramState) (m n : ℕ) → From m (routines_in (handlers_of states))
        → All IsHandler (handlers_of states) → All EventsDiffer states
        → all_places (state_fits bodies) n (numbered_states m states) ≡ true
    states_ok [] m n from all differ = refl
    states_ok (s ∷ states) m n from all differ =
        let rest = handlers_of states in
        let cut = state_handlers s states all in
        let parts = routines-append s.handlers rest in
        both _ _
        (both _ _ (handlers_ok s.handlers (routines_in rest) m 0
        (λ k. from k ∙ ap (λ l. option_map (routine_body p) (slice_get l k)) parts) cut.0)
        (differ_ok s.handlers m (All-head EventsDiffer s states differ)))
        (states_ok states (m + length s.handlers) (suc n)
        (λ k. let y : m + length s.handlers + k ≡ m + (length (routines_in s.handlers) + k) =
        omega (arith, map_length (λ h. h.routine) s.handlers) in
        ap (slice_get bodies) y ∙ from (length (routines_in s.handlers) + k)
        ∙ ap (λ l. option_map (routine_body p) (slice_get l (length (routines_in s.handlers) + k))) parts
        ∙ ap (option_map (routine_body p)) (shift_get (routines_in s.handlers) (routines_in rest) k))
        cut.1 (All-tail EventsDiffer s states differ))

  module _ (kinded : IsKinded p) (shaped : IsShaped p) (short : HasShortCode p) where
    functions_fit : all_places (fits_function (names_in (initial_globals p) (generated_states p) (bodies_of p)))
        0 (bodies_of p) ≡ true
    functions_fit =
        ap (λ names. all_places (fits_function names) 0 (bodies_of p)) (names_same kinded)
        ∙ all_if (fits_function (names_of p)) (bodies_of p) (each_body p (λ k w. fits_function (names_of p) k w ≡ true)
        (λ k r e. routine_fits p r (kinded_at p kinded shaped k r e) (shaped_at p shaped k r e) k
        (All-at IsShort (routines_of p) k r short.routines e)))

    from_functions : From (bodies_of p) (length p.functions) (routines_in (handlers_of p.states))
    from_functions k =
        let functions = map (λ (f : NamedRoutine). f.routine) p.functions in
        let z : length p.functions + k ≡ length functions + k =
        omega (arith, map_length (λ (f : NamedRoutine). f.routine) p.functions) in
        slice_get-map (routine_body p) (routines_of p) (length p.functions + k)
        ∙ ap (λ n. option_map (routine_body p) (slice_get (routines_of p) n)) z
        ∙ ap (option_map (routine_body p)) (shift_get functions (routines_in (handlers_of p.states)) k)

    states_fit : fits_states (bodies_of p) (generated_states p) ≡ true
    states_fit =
        let count = states_length p.states (length p.functions) in
        let some : 1 ≤ length (generated_states p) = omega (arith, shaped.states, count) in
        let few : length (generated_states p) ≤ 65535 = omega (arith, short.states, count) in
        both _ _ (both _ _ (at_least 1 (length (generated_states p)) some)
        (at_least (length (generated_states p)) 65535 few))
        (states_ok (bodies_of p) p.states (length p.functions) 0 from_functions kinded.handlers kinded.events)

    pub unit_fits : fits_unit (initial_globals p) (generated_states p) (map plain_body (generated_functions p)) ≡ true
    unit_fits =
        ap (fits_unit (initial_globals p) (generated_states p)) (bodies_generated p)
        ∙ both _ _ (both _ _ functions_fit (all_plain p kinded shaped)) states_fit

pub gives_units : UnitsAreWellFormed
gives_units p kinded shaped short = unit_fits p kinded shaped short
