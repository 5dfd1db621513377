-- The functions of a program's code, by the numbers of its routines.
use Rattle.std.proofs.Common.{◌≡◌, ℕ, zero, suc, ◌≤◌, List, [], ◌∷◌, ◌++◌, Some, option_map, refl, sym, ap, ap₂, ◌∙◌, subst, length, map, drop, slice_get}
use Rattle.std.specs.Prelude.{All}
use Rattle.std.proofs.lemmas.Option.{slice_get-map, slice_get_within, get_or_from_slice_get}
use Rattle.std.proofs.lemmas.List.{map-append, length-take-le}
use Rattle.std.proofs.lemmas.List.Elements.{All-get_or}
use Rattle.lsl_value.specs.declared.tagged.Value.{Value}
use Rattle.lsl_running.specs.Values.{empty_of}
use Rattle.lsl_table.specs.Events.{event_name_of}
use Rattle.lsl_tree.specs.Program.{Routine, NamedRoutine, Program}
use Rattle.lsl_tree.specs.Shape.{IsShapedRoutine, IsShaped}
use Rattle.lsl_tree.specs.Signatures.{Signature, signature_of_routine, function_signatures, routines_of, handlers_of}
use Rattle.lsl_meaning.specs.Calls as meaning
use Rattle.lsl_code.specs.declared.functions.FunctionCode.{FunctionCode}
use Rattle.lsl_code.specs.Acts as machine
use Rattle.lsl_code.specs.Bodies.{Body, plain_body}
use Rattle.lsl_gen.specs.Programs.{names_of, routine_code, functions_made, handlers_made, generated_functions}

-- a routine's function, whose name doesn't matter
abbrev pub routine_body : Program → Routine → Body
routine_body p r = plain_body (routine_code p [] r)

abbrev pub bodies_of : Program → List Body
bodies_of p = map (routine_body p) (routines_of p)

pub All-at : {X : Type 0} (P : X → Type 0) (xs : List X) (k : ℕ) (x : X) → All P xs → slice_get xs k ≡ Some x → P x
All-at P xs k x all e =
    subst P (get_or_from_slice_get xs k x x e) (All-get_or P xs k x (slice_get_within xs k x e) all)

pub shaped_at : (p : Program) → IsShaped p → (k : ℕ) (r : Routine) → slice_get (routines_of p) k ≡ Some r
    → IsShapedRoutine (function_signatures p) (length p.states) r
shaped_at p shaped k r e = All-at (IsShapedRoutine (function_signatures p) (length p.states)) (routines_of p) k
    r shaped.routines e

maps_same : {X : Type 0} (p : Program) (code : X → FunctionCode) (routine : X → Routine) (xs : List X)
    → ((x : X) → plain_body (code x) ≡ routine_body p (routine x))
    → map plain_body (map code xs) ≡ map (routine_body p) (map routine xs)
maps_same p code routine [] same = refl
maps_same p code routine (x ∷ xs) same = ap₂ (λ b bs. b ∷ bs) (same x) (maps_same p code routine xs same)

pub bodies_generated : (p : Program) → map plain_body (generated_functions p) ≡ bodies_of p
bodies_generated p =
    map-append plain_body (functions_made (names_of p) p.functions) (handlers_made (names_of p) (handlers_of p.states))
    ∙ ap₂ (λ a b. a ++ b) (maps_same p (λ f. routine_code p f.name f.routine) (λ f. f.routine) p.functions
    (λ f. refl)) (maps_same p (λ h. routine_code p (event_name_of h.event) h.routine) (λ h. h.routine)
    (handlers_of p.states) (λ h. refl))
    ∙ sym (map-append (routine_body p) (map (λ f. f.routine) p.functions) (map (λ h. h.routine) (handlers_of p.states)))

pub body_at : (p : Program) (k : ℕ) (r : Routine) → slice_get (routines_of p) k ≡ Some r
    → slice_get (bodies_of p) k ≡ Some (routine_body p r)
body_at p k r e = slice_get-map (routine_body p) (routines_of p) k ∙ ap (option_map (routine_body p)) e

called_at : (functions : List NamedRoutine) (more : List Routine) (k : ℕ) (g : Signature)
    → slice_get (map (λ f. signature_of_routine f.routine) functions) k ≡ Some g
    → (r : Routine) × (slice_get (map (λ f. f.routine) functions ++ more) k ≡ Some r) × (signature_of_routine r ≡ g)
called_at [] more k g e = absurd cc
called_at (f ∷ functions) more zero g e = let same : signature_of_routine f.routine ≡ g = cc in (f.routine, refl, same)
called_at (f ∷ functions) more (suc k) g e = called_at functions more k g e

-- the routine of a function that is called
pub routine_at : (p : Program) (k : ℕ) (g : Signature)
    → slice_get (map (λ f. signature_of_routine f.routine) p.functions) k ≡ Some g
    → (r : Routine) × (slice_get (routines_of p) k ≡ Some r) × (signature_of_routine r ≡ g)
routine_at p k g e = called_at p.functions (map (λ h. h.routine) (handlers_of p.states)) k g e

pub slots_same : (p : Program) (r : Routine) (args : List Value) → r.params ≤ length r.slots
    → machine.first_slots (routine_body p r) args ≡ meaning.first_slots r args
slots_same p r args le = ap (λ n. args ++ map empty_of (drop n r.slots)) (length-take-le r.params r.slots le)
