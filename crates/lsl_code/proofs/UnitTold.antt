-- What the tests of units say.
use Rattle.std.proofs.Common.{◌≡◌, ℕ, suc, ◌+◌, ◌≤◌, List, [], ◌∷◌, Option, Some, None, Bool, true, false, cond, refl, sym, ap, ◌∙◌, arith, slice_get}
use Rattle.std.specs.Prelude.{not, nat_le, is_none}
use Rattle.std.proofs.lemmas.Bool.Decides.{nat_tests}
use Rattle.lsl_value.specs.declared.tagged.Kind.{Kind}
use Rattle.lsl_code.specs.declared.instructions.Instr.{Instr}
use Rattle.lsl_code.specs.declared.instructions.Instr.TheVariants.{Jump, JumpIf, JumpIfNot, Tick, TestSave, TestBack}
use Rattle.lsl_code.specs.Bodies.{Body}
use Rattle.lsl_code.specs.Drafts.{next}
use Rattle.lsl_code.specs.Fits.{all_places, is_quiet, jumps_on, begins_with_tick, is_plain, plain_at}
use Rattle.lsl_code.specs.Forward.{is_back}
use Rattle.lsl_code.specs.Units.{fits_function, is_plain_function}
use Rattle.std.specs.Prelude.{◌≢◌, All}
use Rattle.std.specs.List.{AllPairs}
use Rattle.std.proofs.lemmas.List.Elements.{All-cons, All-nil}
use Rattle.std.proofs.lemmas.List.Kept.{AllPairs-cons}
use Rattle.lsl_value.specs.declared.names.EventId.{EventId}
use Rattle.lsl_value.specs.declared.tagged.Value.{Value}
use Rattle.lsl_table.specs.Events.{signature_of}
use Rattle.lsl_code.specs.declared.functions.Handler.{Handler}
use Rattle.lsl_code.specs.declared.functions.StateCode.{StateCode}
use Rattle.lsl_code.specs.Bodies.{instruction_in, instruction_at}
use Rattle.lsl_code.specs.Forward.{leads_back, goes_back, begins, frees, Lands, Forward}
use Rattle.lsl_code.specs.Kinds.{names_in}
use Rattle.lsl_code.specs.Units.{handles, handler_fits, event_number, same_event, has_event, events_differ, state_fits, fits_states}
use Rattle.lsl_code.specs.WellFormed.{HasFunction, IsWellFormedFunction, IsWellFormedState, IsWellFormedUnit, FitsTells, WovenTells}
use Rattle.lsl_code.specs.Woven.{is_woven_function}
use Rattle.lsl_code.proofs.Sames.{both_true, sames_are}
use Rattle.lsl_code.proofs.Tested.{eq_self}
use Rattle.lsl_code.proofs.ForwardTold.{forward_of}
use Rattle.lsl_code.proofs.Told.{all_at, function_told}

is_false : (b : Bool) → not b ≡ true → b ≡ false
is_false true e = absurd cc
is_false false e = refl

-- plain code has no tests between a tick and a jump
plain_leads : (place : ℕ) (o next : Option Instr) → ((i : Instr) → o ≡ Some i → is_plain i ≡ true)
    → leads_back place o next ≡ is_back place o
plain_leads place (Some (TestSave to)) next plain = let never = plain (TestSave to) refl in absurd cc
plain_leads place (Some (TestBack to)) next plain = let never = plain (TestBack to) refl in absurd cc
plain_leads place None next plain = refl
plain_leads place (Some i) next plain = refl

begins_told : (code : List Instr) (next : Option Instr) → begins_with_tick code ≡ true
    → begins (slice_get code 0) next ≡ true
begins_told (Tick point ∷ code) next e = refl
begins_told code next e = absurd cc

-- a jump backward is only after a tick
behind_told : (code : List Instr) (place : ℕ) (i : Instr) (next : Option Instr) → jumps_on code place i ≡ true
    → is_plain i ≡ true → frees i place next ≡ false → is_quiet code (place + 1) ≡ true
behind_told code place (Jump to) next j p f = (both_true _ _ j).1
behind_told code place (JumpIf to) next j p f = (both_true _ _ j).1
behind_told code place (JumpIfNot to) next j p f = (both_true _ _ j).1
behind_told code place (Tick point) next j p f = absurd cc
behind_told code place i next j p f = j

module _ (bodies : List Body) (start : (f : ℕ) (w : Body) → slice_get bodies f ≡ Some w
    → begins_with_tick w.code ≡ true)
    (plain : all_places is_plain_function 0 bodies ≡ true) where
  module _ (f : ℕ) (w : Body) (there : slice_get bodies f ≡ Some w) where
    only_plain : all_places plain_at 0 w.code ≡ true
    only_plain = (both_true _ _ (all_at is_plain_function bodies f w plain there)).0

    all_jumps : all_places (jumps_on w.code) 0 w.code ≡ true
    all_jumps = (both_true _ _ (all_at is_plain_function bodies f w plain there)).1

    is_at : (place : ℕ) → instruction_at bodies f place ≡ slice_get w.code place
    is_at place = ap (λ o. instruction_in o place) there

    pub plain_told : (place : ℕ) (i : Instr) → slice_get w.code place ≡ Some i → is_plain i ≡ true
    plain_told place i e = all_at plain_at w.code place i only_plain e

    jump_told : (place : ℕ) (i : Instr) → slice_get w.code place ≡ Some i → jumps_on w.code place i ≡ true
    jump_told place i e = all_at (jumps_on w.code) w.code place i all_jumps e

    quiet_told : (place : ℕ) → is_quiet w.code place ≡ true → goes_back bodies f place ≡ false
    quiet_told place e =
        ap (λ o. leads_back place o (instruction_at bodies f (place + 1))) (is_at place)
        ∙ plain_leads place (slice_get w.code place) (instruction_at bodies f (place + 1)) (plain_told place)
        ∙ is_false _ e

    lands_told : (place : ℕ) (i : Instr) → jumps_on w.code place i ≡ true → Lands bodies f i
    lands_told place (Jump to) j = quiet_told to (both_true _ _ j).0
    lands_told place (JumpIf to) j = quiet_told to (both_true _ _ j).0
    lands_told place (JumpIfNot to) j = quiet_told to (both_true _ _ j).0
    lands_told place i j = tt

    starts_told : begins (instruction_at bodies f 0) (instruction_at bodies f 1) ≡ true
    starts_told = ap (λ o. begins o (instruction_at bodies f 1)) (is_at 0) ∙ begins_told w.code _ (start f w there)

  lands_in : (f place : ℕ) (i : Instr) (o : Option Body) → slice_get bodies f ≡ o
      → instruction_in o place ≡ Some i → Lands bodies f i
  lands_in f place i None there e = absurd cc
  lands_in f place i (Some w) there e = lands_told f w there place i (jump_told f w there place i e)

  behind_in : (f place : ℕ) (i : Instr) (o : Option Body) → slice_get bodies f ≡ o
      → instruction_in o place ≡ Some i → frees i place (instruction_at bodies f (place + 1)) ≡ false
      → goes_back bodies f (place + 1) ≡ false
  behind_in f place i None there e free = absurd cc
  behind_in f place i (Some w) there e free =
      quiet_told f w there (place + 1)
      (behind_told w.code place i _ (jump_told f w there place i e) (plain_told f w there place i e) free)

  -- the jumps of plain code go back only after ticks
  pub forward_told : Forward bodies
  forward_told = record {
    lands = λ f place i e. lands_in f place i (slice_get bodies f) refl e;
    behind = λ f place i e free. behind_in f place i (slice_get bodies f) refl e free;
    starts = λ f w there. starts_told f w there;
  }

handles_told : (bodies : List Body) (h : Handler) (o : Option Body) → slice_get bodies h.function ≡ o
    → handles h o ≡ true → HasFunction bodies h
handles_told bodies h None there e = absurd cc
handles_told bodies h (Some w) there e =
    let b = both_true _ _ e in
    (w, there, sames_are w.params (signature_of h.event) b.0, none_told w.result b.1)
  where
    none_told : (o : Option Kind) → is_none o ≡ true → o ≡ None
    none_told None e = refl
    none_told (Some k) e = absurd cc

-- what a test at all places says of each element
pub all_told : {A : Type 0} (test : ℕ → A → Bool) (P : A → Type 0) (k : ℕ) (xs : List A)
    → ((j : ℕ) (x : A) → test j x ≡ true → P x) → all_places test k xs ≡ true → All P xs
all_told test P k [] tells e = All-nil P
all_told test P k (x ∷ xs) tells e =
    let b = both_true (test k x) _ e in
    All-cons P x xs (tells k x b.0) (all_told test P (suc k) xs tells b.1)

none_same : (e : EventId) (hs : List Handler) → has_event e hs ≡ false → All (λ h. e ≢ h.event) hs
none_same e [] absent = All-nil (λ h. e ≢ h.event)
none_same e (h ∷ hs) absent =
    let b = neither (same_event e h.event) _ absent in
    All-cons (λ h. e ≢ h.event) h hs
    (λ same. clash (same_event e h.event) (ap (λ x. same_event e x) (sym same) ∙ eq_self (event_number e)) b.0)
    (none_same e hs b.1)
  where
    neither : (a b : Bool) → cond a true b ≡ false → (a ≡ false) × (b ≡ false)
    neither true b e = absurd cc
    neither false b e = (refl, e)

    clash : (b : Bool) → b ≡ true → b ≡ false → ⊥
    clash true t f = absurd cc
    clash false t f = absurd cc

differ_told : (hs : List Handler) → events_differ hs ≡ true → AllPairs (λ a b. a.event ≢ b.event) hs
differ_told [] e = λ i j d lt within. absurd (omega arith)
differ_told (h ∷ hs) e =
    let b = both_true _ _ e in
    AllPairs-cons (λ a b. a.event ≢ b.event) h hs (none_same h.event hs (is_false _ b.0)) (differ_told hs b.1)

state_told : (bodies : List Body) (n : ℕ) (s : StateCode) → state_fits bodies n s ≡ true → IsWellFormedState bodies s
state_told bodies n s e =
    let b = both_true _ _ e in
    record {
      handlers =
          all_told (handler_fits bodies) (HasFunction bodies) 0 s.handlers
          (λ j h t. handles_told bodies h (slice_get bodies h.function) refl t) b.0;
      events = differ_told s.handlers b.1;
    }

at_most : (m n : ℕ) → nat_le m n ≡ true → m ≤ n
at_most m n e = grind (arith, nat_tests)

module _ (globals : List Value) (states : List StateCode) (bodies : List Body) where
  -- what the tests of plain and of woven units have in common
  unit_told : ((f : ℕ) (w : Body) → slice_get bodies f ≡ Some w
      → IsWellFormedFunction (names_in globals states bodies) w)
      → Forward bodies → fits_states bodies states ≡ true → IsWellFormedUnit globals states bodies
  unit_told functions forward fits =
      let each = both_true _ _ fits in
      let counts = both_true _ _ each.0 in
      record {
        functions = functions;
        forward = forward;
        some_state = at_most _ _ counts.0;
        few_states = at_most _ _ counts.1;
        each_state =
            all_told (state_fits bodies) (IsWellFormedState bodies) 0 states (λ j s t. state_told bodies j s t)
            each.1;
      }

pub fits_tells : FitsTells
fits_tells globals states bodies e =
    let both = both_true _ _ e in
    let each = both_true _ _ both.0 in
    let names = names_in globals states bodies in
    let told = λ (f : ℕ) (w : Body) (there : slice_get bodies f ≡ Some w).
    both_true _ _ (all_at (fits_function names) bodies f w each.0 there) in
    let begins = λ (f : ℕ) (w : Body) (there : slice_get bodies f ≡ Some w). (both_true _ _ (told f w there).0).0 in (
      unit_told globals states bodies
          (λ f w there. function_told names w (both_true _ _ (told f w there).0).1 (told f w there).1)
          (forward_told bodies begins each.1) both.1,
      record {
        begins = begins;
        plain = λ f place w i there here. plain_told bodies begins each.1 f w there place i here;
      },
    )

pub woven_tells : WovenTells
woven_tells globals states bodies e =
    let both = both_true _ _ e in
    let names = names_in globals states bodies in
    let told = λ (f : ℕ) (w : Body) (there : slice_get bodies f ≡ Some w).
    both_true _ _ (both_true _ _ (all_at (is_woven_function names) bodies f w both.0 there)).0 in
    let runs = λ (f : ℕ) (w : Body) (there : slice_get bodies f ≡ Some w). both_true _ _ (told f w there).0 in
    unit_told globals states bodies (λ f w there. function_told names w (runs f w there).1 (told f w there).1)
    (forward_of bodies (λ f w there. (runs f w there).0)) both.1
