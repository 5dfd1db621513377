-- The code of a whole routine is in order, and goes back only after ticks.
use Rattle.std.proofs.Common.{◌≡◌, ℕ, ◌+◌, ◌<◌, ◌≤◌, List, [], ◌∷◌, ◌++◌, length, Option, Some, None, option_map, Bool, true, false, refl, sym, ap, ◌∙◌, subst, arith, slice_get, length-append, append-nil}
use Rattle.std.specs.Prelude.{option_and_then, is_none, is_some, not}
use Rattle.std.proofs.lemmas.Option.{slice_get_past, slice_get-map}
use Rattle.lsl_value.specs.declared.tagged.Kind.{Kind}
use Rattle.lsl_tree.specs.Actions as action
use Rattle.lsl_tree.specs.Actions.{Action, Actions, NoAction, AndAction}
use Rattle.lsl_tree.specs.Kinded as tree
use Rattle.lsl_tree.specs.Kinded.{AreKindedActions, IsKindedRoutine, IsKinded}
use Rattle.lsl_tree.specs.Program.{Routine, Program}
use Rattle.lsl_tree.specs.Shape.{labels_in, AreShapedActions, ends_with_value, IsShapedRoutine, IsShaped}
use Rattle.lsl_tree.specs.Signatures.{function_signatures, routines_of}
use Rattle.lsl_code.specs.declared.instructions.Instr.{Instr}
use Rattle.lsl_code.specs.declared.instructions.Instr.TheVariants as instr
use Rattle.lsl_code.specs.Bodies.{Body}
use Rattle.lsl_code.specs.Effects.{only_if, runs}
use Rattle.lsl_code.specs.Fits.{all_places, begins_with_tick}
use Rattle.lsl_code.specs.Forward.{is_back, Forward}
use Rattle.lsl_code.specs.Kinds.{Scope}
use Rattle.lsl_code.specs.Units.{fits_function, is_plain_function}
use Rattle.lsl_code.proofs.Made.{made, made_plain}
use Rattle.lsl_code.proofs.Placed.{StandsAt, has_front, has_back, has_all, join, open_at}
use Rattle.lsl_code.proofs.Scans.{kinds_before_zero}
use Rattle.lsl_code.proofs.Tested.{all_if}
use Rattle.lsl_code.proofs.UnitTold.{forward_told}
use Rattle.lsl_code.proofs.Ways.{Quiet, Open, kinds_at, Ways}
use Rattle.lsl_gen.specs.Expressions.{value_code}
use Rattle.lsl_gen.specs.Programs.{ending, draft_of, names_of, scope_of}
use Rattle.lsl_gen.specs.Statements.{sizes, places_in, action_code, actions_code}
use Rattle.lsl_gen.proofs.Bodies.{routine_body, bodies_of, All-at, shaped_at}
use Rattle.lsl_gen.proofs.JumpTargets.{returning, actions_first, AllClear, labels_clear, Around, around_more, actions_ways}
use Rattle.lsl_gen.proofs.Lengths.{codes_length}
use Rattle.lsl_gen.proofs.Operands.{then, action_runs}
use Rattle.lsl_gen.proofs.Routines.{outline}

ending_runs : (s : Scope) (kind : Option Kind) → s.result ≡ kind → runs s (ending kind) [] ≡ Some []
ending_runs s None e = ap (λ o. option_and_then (runs s []) (only_if (is_none o) [])) e
ending_runs s (Some k) e = refl

-- the code of a routine finds what it needs
pub draft_runs : (p : Program) (r : Routine) → IsKindedRoutine p r → runs (scope_of p r) (draft_of r) [] ≡ Some []
draft_runs p r kinded =
    then (scope_of p r) (action_code (action.Block r.body) [] 1) (ending r.kind) [] [] _
    (action_runs p r (action.Block r.body) [] 1 kinded) (ending_runs (scope_of p r) r.kind refl)

module _ (p : Program) (r : Routine) (d : List Instr) where
  -- nothing follows the code
  quiet_end : (q : ℕ) → length d ≤ q → Quiet (scope_of p r) d q
  quiet_end q le = ap (λ o. not (is_back q o)) (slice_get_past d q le)

  -- statements whose last one returns a value
  value_ways : (gives : Bool) (body : Actions) → ends_with_value body ≡ true
      → AreKindedActions (tree.scope_of p r) body
      → AreShapedActions (outline p gives) (labels_in body ++ []) body
      → StandsAt d 1 (actions_code body (places_in body 1 ++ []) 1) → kinds_at (scope_of p r) d 1 ≡ []
      → Quiet (scope_of p r) d (1 + sizes body)
      → Ways (scope_of p r) d 1 (actions_code body (places_in body 1 ++ []) 1) × Open (scope_of p r) d 1
  value_ways gives (AndAction xs (action.ReturnValue t)) e k h stands z quiet =
      let labels = labels_in xs ++ [] in
      let body = AndAction xs (action.ReturnValue t) in
      let places = places_in body 1 ++ [] in
      let q = 1 + sizes xs in
      let cs = actions_code xs places 1 in
      let ca = value_code t ++ instr.ReturnValue ∷ [] in
      let front = has_front d 1 cs ca stands in
      let more = subst (λ m. StandsAt d (1 + m) ca) (codes_length xs places 1) (has_back d 1 cs ca stands) in
      let last = returning p r d t q more in
      let end : 1 + (sizes xs + (length (value_code t) + 1)) ≡ q + length (value_code t) + 1 = omega arith in
      let clear : AllClear p r d (places_in xs 1 ++ []) =
      subst (AllClear p r d) (sym (append-nil (places_in xs 1)))
      (labels_clear p r d xs places 1 k.0 front z last.1) in
      let around : Around p r d places labels =
      around_more p r d body [] [] 1 clear (record { clear = tt; has = λ label h. h }) in
      let first = actions_ways p r d gives xs places labels 1 k.0 h.0 around front z last.1 in
      let second : Ways (scope_of p r) d (1 + length cs) ca =
      subst (λ m. Ways (scope_of p r) d (1 + m) ca) (sym (codes_length xs places 1))
      (join (scope_of p r) d q (value_code t) _ last.0 (subst (Quiet (scope_of p r) d) end quiet, tt)) in
      (join (scope_of p r) d 1 cs ca first second, actions_first p r d xs places 1 front last.1)
  value_ways gives body e k h stands z quiet = absurd cc

  body_ways : (kind : Option Kind) (body : Actions) → (is_some kind ≡ true → ends_with_value body ≡ true)
      → AreKindedActions (tree.scope_of p r) body
      → AreShapedActions (outline p (is_some kind)) (labels_in body ++ []) body
      → StandsAt d 1 (action_code (action.Block body) [] 1 ++ ending kind) → kinds_at (scope_of p r) d 1 ≡ []
      → length d ≡ 1 + length (action_code (action.Block body) [] 1 ++ ending kind)
      → Ways (scope_of p r) d 1 (action_code (action.Block body) [] 1 ++ ending kind) × Open (scope_of p r) d 1
  body_ways None body ends k h stands z len =
      let code = action_code (action.Block body) [] 1 in
      let size_is = codes_length body (places_in body 1 ++ []) 1 in
      let front = has_front d 1 code (instr.Return ∷ []) stands in
      let last = subst (λ m. StandsAt d (1 + m) (instr.Return ∷ [])) size_is
      (has_back d 1 code (instr.Return ∷ []) stands) in
      let o = open_at (scope_of p r) d (1 + sizes body) instr.Return last.0 refl in
      let quiet = quiet_end (1 + sizes body + 1)
      (omega (arith, len, size_is, length-append code (instr.Return ∷ []))) in
      let places = places_in body 1 ++ [] in
      let around : Around p r d places (labels_in body ++ []) =
      around_more p r d body [] [] 1 (labels_clear p r d body places 1 k front z o)
      (record { clear = tt; has = λ label h. h }) in
      let second : Ways (scope_of p r) d (1 + length code) (instr.Return ∷ []) =
      subst (λ m. Ways (scope_of p r) d (1 + m) (instr.Return ∷ [])) (sym size_is) (quiet, tt) in (
        join (scope_of p r) d 1 code (instr.Return ∷ [])
            (actions_ways p r d false body places (labels_in body ++ []) 1 k h around front z o)
            second,
        actions_first p r d body places 1 front o,
      )
  body_ways (Some kind) body ends k h stands z len =
      let code = action_code (action.Block body) [] 1 in
      let nil = append-nil code in
      let size_is = codes_length body (places_in body 1 ++ []) 1 in
      let quiet = quiet_end (1 + sizes body) (omega (arith, len, size_is, ap length nil)) in
      subst (λ is. Ways (scope_of p r) d 1 is × Open (scope_of p r) d 1) (sym nil)
      (value_ways true body (ends refl) k h (subst (StandsAt d 1) nil stands) z quiet)

module _ (p : Program) (r : Routine) (kinded : IsKindedRoutine p r)
    (shaped : IsShapedRoutine (function_signatures p) (length p.states) r) where
  draft_ways : Ways (scope_of p r) (draft_of r) 0 (draft_of r)
  draft_ways =
      let d = draft_of r in
      let code = action_code (action.Block r.body) [] 1 ++ ending r.kind in
      let stands = has_all d in
      let z : kinds_at (scope_of p r) d 1 ≡ [] = kinds_before_zero (scope_of p r) code [] in
      let len : length d ≡ 1 + length code = omega arith in
      let body = body_ways p r d r.kind r.body shaped.ending kinded shaped.body.1 stands.1 z len in
      let lt : 0 + 1 < length d = body.1.0 in
      (lt, body.0)

  -- a routine's code is well formed, where its length is a number of 32 bits
  pub routine_fits : (f : ℕ) → length (draft_of r) < 4294967296 → fits_function (names_of p) f (routine_body p r) ≡ true
  routine_fits f short = made (names_of p) r.slots r.kind [] r.params (draft_of r) [] (draft_runs p r kinded)
      draft_ways f refl short

  pub routine_plain : (f : ℕ) → is_plain_function f (routine_body p r) ≡ true
  routine_plain f = made_plain (names_of p) r.slots r.kind [] r.params (draft_of r) [] (draft_runs p r kinded)
      draft_ways f

module _ (p : Program) where
  -- what holds of each routine's function
  pub each_body : (P : ℕ → Body → Type 0)
      → ((k : ℕ) (r : Routine) → slice_get (routines_of p) k ≡ Some r → P k (routine_body p r))
      → (k : ℕ) (w : Body) → slice_get (bodies_of p) k ≡ Some w → P k w
  each_body P h k w e = found (slice_get (routines_of p) k) refl
      (sym (slice_get-map (routine_body p) (routines_of p) k) ∙ e)
    where
      found : (o : Option Routine) → slice_get (routines_of p) k ≡ o → option_map (routine_body p) o ≡ Some w → P k w
      found None there e = absurd cc
      found (Some r) there e = let same : routine_body p r ≡ w = cc in subst (P k) same (h k r there)

  module _ (kinded : IsKinded p) (shaped : IsShaped p) where
    pub kinded_at : (k : ℕ) (r : Routine) → slice_get (routines_of p) k ≡ Some r → IsKindedRoutine p r
    kinded_at k r e = All-at (IsKindedRoutine p) (routines_of p) k r kinded.routines e

    pub all_plain : all_places is_plain_function 0 (bodies_of p) ≡ true
    all_plain =
        all_if is_plain_function (bodies_of p) (each_body (λ k w. is_plain_function k w ≡ true)
        (λ k r e. routine_plain p r (kinded_at k r e) (shaped_at p shaped k r e) k))

    -- the code of a program goes back only after ticks
    pub generated_forward : Forward (bodies_of p)
    generated_forward = forward_told (bodies_of p)
        (each_body (λ k w. begins_with_tick w.code ≡ true) (λ k r e. refl)) all_plain
