-- One more function, one more handler, one more state.
use Rattle.std.proofs.Common.{◌≡◌, ℕ, suc, ◌+◌, ◌<◌, ◌≤◌, List, [], ◌∷◌, ◌++◌, length, sym, ap, ap₂, ◌∙◌, refl, subst, arith, append_assoc, length-append, map, take, drop, get_or}
use Rattle.std.specs.Prelude.{All}
use Rattle.std.proofs.lemmas.List.{map-append, take_more, take_all}
use Rattle.std.proofs.lemmas.List.Elements.{All-append, All-cons, All-nil}
use Rattle.lsl_tree.specs.declared.program.EventRoutine as declared_handler
use Rattle.lsl_tree.specs.declared.program.ProgramState as declared_state
use Rattle.lsl_tree.specs.Program.{EventRoutine, handler_of, state_of}
use Rattle.lsl_tree.specs.Signatures.{handlers_of}
use Rattle.lsl_code.specs.declared.functions.FunctionCode.{FunctionCode}
use Rattle.lsl_code.specs.declared.functions.Handler.{Handler}
use Rattle.lsl_code.specs.declared.functions.StateCode.{StateCode}
use Rattle.lsl_gen.specs.Programs.{numbered_handlers, numbered_states}
use Rattle.lsl_gen.proofs.GlobalSteps.{rest_of}

-- what holds of one more element
pub all_more : {X : Type 0} (P : X → Type 0) (xs : List X) (i : ℕ) (x : X) → i < length xs → x ≡ get_or xs i x
    → All P (take i xs) → P x → All P (take (i + 1) xs)
all_more P xs i x lt is all one =
    subst (All P) (sym (take_more xs i x lt ∙ ap (λ y. take i xs ++ y ∷ []) (sym is)))
    (All-append P (take i xs) (x ∷ []) all (All-cons P x [] one (All-nil P)))

pub all_taken : {X : Type 0} (P : X → Type 0) (xs : List X) (i : ℕ) → length xs ≤ i → All P (take i xs) → All P xs
all_taken P xs i le all = subst (All P) (take_all i xs le) all

pub made_step : {X A B : Type 0} (F : A → B) (v : X → A) (new old w : List B) (made : B) (xs : List X) (i : ℕ)
    (x : X) → i < length xs → x ≡ get_or xs i x
    → old ++ map F (map v (drop i xs)) ≡ w → made ≡ F (v x) → new ≡ old ++ made ∷ []
    → new ++ map F (map v (drop (i + 1) xs)) ≡ w
made_step F v new old w made xs i x lt is inv one e =
    let rest = map F (map v (drop (i + 1) xs)) in
    ap (λ l. l ++ rest) (e ∙ ap (λ m. old ++ m ∷ []) one) ∙ append_assoc old (F (v x) ∷ []) rest
    ∙ sym (ap (λ l. old ++ map F (map v l)) (rest_of xs i x lt is)) ∙ inv

pub handlers_step : (new old w : List Handler) (functions functions' : List FunctionCode) (made : FunctionCode)
    (number : ℕ) (h : Handler) (xs : List declared_handler.EventRoutine) (i : ℕ)
    (x : declared_handler.EventRoutine)
    → i < length xs → x ≡ get_or xs i x → old ++ numbered_handlers (length functions)
    (map handler_of (drop i xs)) ≡ w → number ≡ length functions
    → h ≡ record { event = x.event; function = number } → new ≡ old ++ h ∷ [] → functions' ≡ functions ++ made ∷ []
    → new ++ numbered_handlers (length functions') (map handler_of (drop (i + 1) xs)) ≡ w
handlers_step new old w functions functions' made number h xs i x lt is inv count same e more =
    let hs = map handler_of (drop (i + 1) xs) in
    let next : length functions' ≡ suc (length functions) =
    omega (arith, ap length more, length-append functions (made ∷ [])) in
    let first : Handler = record { event = x.event; function = length functions } in
    ap₂ (λ l n. l ++ numbered_handlers n hs)
    (e ∙ ap (λ y. old ++ y ∷ []) (same ∙ ap (λ n. record { event = x.event; function = n }) count)) next
    ∙ append_assoc old (first ∷ []) (numbered_handlers (suc (length functions)) hs)
    ∙ sym (ap (λ l. old ++ numbered_handlers (length functions) (map handler_of l)) (rest_of xs i x lt is)) ∙ inv

pub map_length : {A B : Type 0} (f : A → B) (xs : List A) → length (map f xs) ≡ length xs
map_length f [] = refl
map_length f (x ∷ xs) = ap suc (map_length f xs)

pub states_made : (F : EventRoutine → FunctionCode) (new old w : List FunctionCode)
    (xs : List declared_state.ProgramState) (i : ℕ) (x : declared_state.ProgramState) → i < length xs
    → x ≡ get_or xs i x
    → old ++ map F (handlers_of (map state_of (drop i xs))) ≡ w
    → new ≡ old ++ map F (map handler_of x.handlers.items)
    → new ++ map F (handlers_of (map state_of (drop (i + 1) xs))) ≡ w
states_made F new old w xs i x lt is inv e =
    let hs = map handler_of x.handlers.items in
    let rest = handlers_of (map state_of (drop (i + 1) xs)) in
    ap (λ l. l ++ map F rest) e ∙ append_assoc old (map F hs) (map F rest)
    ∙ ap (λ l. old ++ l) (sym (map-append F hs rest))
    ∙ sym (ap (λ l. old ++ map F (handlers_of (map state_of l))) (rest_of xs i x lt is)) ∙ inv

pub states_step : (F : EventRoutine → FunctionCode) (new old w : List StateCode)
    (functions functions' : List FunctionCode) (s : StateCode) (name : List ℕ) (handlers : List Handler)
    (xs : List declared_state.ProgramState) (i : ℕ) (x : declared_state.ProgramState)
    → i < length xs → x ≡ get_or xs i x → old ++ numbered_states (length functions) (map state_of (drop i xs))
    ≡ w → name ≡ x.name
    → handlers ≡ numbered_handlers (length functions) (map handler_of x.handlers.items)
    → s ≡ record { name = name; handlers = handlers } → new ≡ old ++ s ∷ []
    → functions' ≡ functions ++ map F (map handler_of x.handlers.items)
    → new ++ numbered_states (length functions') (map state_of (drop (i + 1) xs)) ≡ w
states_step F new old w functions functions' s name handlers xs i x lt is inv named listed same e more =
    let hs = map handler_of x.handlers.items in
    let rest = map state_of (drop (i + 1) xs) in
    let next : length functions' ≡ length functions + length hs =
    omega (arith, ap length more, length-append functions (map F hs), map_length F hs) in
    let first : StateCode = record { name = x.name; handlers = numbered_handlers (length functions) hs } in
    ap₂ (λ l n. l ++ numbered_states n rest)
    (e ∙ ap (λ y. old ++ y ∷ []) (same ∙ ap₂ (λ a b. record { name = a; handlers = b }) named listed)) next
    ∙ append_assoc old (first ∷ []) (numbered_states (length functions + length hs) rest)
    ∙ sym (ap (λ l. old ++ numbered_states (length functions) (map state_of l)) (rest_of xs i x lt is)) ∙ inv
