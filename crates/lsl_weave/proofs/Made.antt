-- The woven code of a well-formed unit is a woven unit's.
use Rattle.std.proofs.Common.{◌≡◌, ℕ, List, [], ◌∷◌, length, map, Option, Some, None, true, refl, sym, ap, ◌∙◌, subst}
use Rattle.std.specs.Prelude.{slice_get, option_map, nat_eq}
use Rattle.std.proofs.lemmas.Option.{slice_get-map}
use Rattle.lsl_value.specs.Values.{kind_of}
use Rattle.lsl_value.specs.declared.tagged.Value.{Value}
use Rattle.lsl_code.specs.declared.functions.Handler.{Handler}
use Rattle.lsl_code.specs.declared.functions.StateCode.{StateCode}
use Rattle.lsl_code.specs.declared.signatures.Names.{Names}
use Rattle.lsl_code.specs.declared.signatures.Signature.{Signature}
use Rattle.lsl_code.specs.Bodies.{Body}
use Rattle.lsl_code.specs.Fits.{all_places, is_once}
use Rattle.lsl_code.specs.Kinds.{scope, signature_in, names_in}
use Rattle.lsl_code.specs.Units.{fits_running, fits_function, is_short, handles, handler_fits, state_fits, events_differ, fits_states, fits_unit}
use Rattle.lsl_code.proofs.Sames.{both_true, eq_is}
use Rattle.lsl_code.proofs.Tested.{both, eqs, all_if}
use Rattle.lsl_code.proofs.Told.{all_at}
use Rattle.lsl_code.proofs.UnitTold.{fits_tells}
use Rattle.lsl_weave.specs.Layout.{woven_code, woven_of, all_woven}
use Rattle.lsl_code.specs.Woven.{is_kept, is_woven_function}
use Rattle.lsl_weave.specs.WovenLaws.{WeavingMakesWoven}
use Rattle.lsl_weave.proofs.Forwards.{woven_from, woven_forward}
use Rattle.lsl_weave.proofs.MadeBacks.{all_restored}
use Rattle.lsl_weave.proofs.MadeCounts.{count_woven, most_woven}
use Rattle.lsl_weave.proofs.MadeKinds.{woven_fits}
use Rattle.lsl_weave.proofs.MadeSaves.{all_saves}
use Rattle.lsl_weave.proofs.Quiet.{all_others}
use Rattle.lsl_weave.proofs.PlainPoints.{has_points}
use Rattle.lsl_weave.proofs.StacksLaid.{stacks_long}

signatures_same : (bodies : List Body) → map signature_in (all_woven bodies) ≡ map signature_in bodies
signatures_same [] = refl
signatures_same (b ∷ bodies) = ap (λ l. signature_in b ∷ l) (signatures_same bodies)

names_same : (globals : List Value) (states : List StateCode) (bodies : List Body)
    → names_in globals states (all_woven bodies) ≡ names_in globals states bodies
names_same globals states bodies =
    ap (λ (l : List Signature). record {
      globals = map kind_of globals;
      functions = l;
      states =
          length states;
    })
    (signatures_same bodies)

-- the running code
running_made : (names : Names) (b : Body) → fits_running names b ≡ true
    → fits_running names (woven_of b) ≡ true
running_made names b ok =
    let p6 = both_true _ _ ok in
    let p5 = both_true _ _ p6.0 in
    let p4 = both_true _ _ p5.0 in
    let p3 = both_true _ _ p4.0 in
    let p2 = both_true _ _ p3.0 in
    let p1 = both_true _ _ p2.0 in
    let long = eq_is _ _ p1.1 in
    let stacks = eqs _ _ (stacks_long b) in
    let fits = woven_fits (scope names b.slots b.result) b long p2.1 p1.0 in
    let once = all_others (is_once b.code) (is_once (woven_code b))
    (λ p pt h. ap (λ n. nat_eq n 1) (count_woven p b) ∙ h) 0 b.points p3.1 in
    let most = ap (λ n. nat_eq n b.most) (most_woven b long) ∙ p5.1 in
    both _ _ (both _ _ (both _ _ (both _ _ (both _ _ (both _ _ refl stacks) fits) once) p4.1) most) p6.1

-- the states
handles_same : (h : Handler) (o : Option Body) → handles h (option_map woven_of o) ≡ handles h o
handles_same h None = refl
handles_same h (Some b) = refl

handler_same : (bodies : List Body) (n : ℕ) (h : Handler) → handler_fits bodies n h ≡ true
    → handler_fits (all_woven bodies) n h ≡ true
handler_same bodies n h e =
    ap (handles h) (slice_get-map woven_of bodies h.function) ∙ handles_same h (slice_get bodies h.function)
    ∙ e

state_same : (bodies : List Body) (n : ℕ) (s : StateCode) → state_fits bodies n s ≡ true
    → state_fits (all_woven bodies) n s ≡ true
state_same bodies n s e =
    let p = both_true (all_places (handler_fits bodies) 0 s.handlers) (events_differ s.handlers) e in
    both _ _ (all_others (handler_fits bodies) (handler_fits (all_woven bodies)) (handler_same bodies) 0
    s.handlers p.0) p.1

states_made : (bodies : List Body) (states : List StateCode) → fits_states bodies states ≡ true
    → fits_states (all_woven bodies) states ≡ true
states_made bodies states e =
    let p = both_true _ _ e in
    both _ _ p.0 (all_others (state_fits bodies) (state_fits (all_woven bodies)) (state_same bodies) 0 states
    p.1)

module _ (globals : List Value) (states : List StateCode) (bodies : List Body)
    (fits : fits_unit globals states bodies ≡ true)
    (short : all_places (λ f w. is_short w) 0 (all_woven bodies) ≡ true) where
  abbrev names : Names
  names = names_in globals states bodies

  kept_made : (f : ℕ) (b : Body) → slice_get bodies f ≡ Some b → is_kept (woven_of b) ≡ true
  kept_made f b found =
      let has = has_points globals states bodies (fits_tells globals states bodies fits).0 f b found in
      both _ _ (all_saves b has) (all_restored b has)

  function_made : (f : ℕ) (w : Body) → slice_get (all_woven bodies) f ≡ Some w
      → is_woven_function names f w ≡ true
  function_made f w found =
      let x = woven_from bodies f w found in
      let b = x.0 in
      let plain = all_at (fits_function names) bodies f b (both_true _ _ (both_true _ _ fits).0).0 x.1 in
      let running = subst (λ y. fits_running names y ≡ true) x.2
      (running_made names b (both_true _ _ (both_true _ _ plain).0).1) in
      let kept = subst (λ y. is_kept y ≡ true) x.2 (kept_made f b x.1) in
      let brief = all_at (λ f w. is_short w) (all_woven bodies) f w short found in
      both _ _ (both _ _ (both _ _ (woven_forward globals states bodies fits f w found) running) brief) kept

pub weaving_makes_woven : WeavingMakesWoven
weaving_makes_woven globals states bodies fits short =
    let functions = all_if (is_woven_function (names_in globals states bodies)) (all_woven bodies)
    (function_made globals states bodies fits short) in
    let functions' = subst (λ n. all_places (is_woven_function n) 0 (all_woven bodies) ≡ true)
    (sym (names_same globals states bodies)) functions in
    both _ _ functions' (states_made bodies states (both_true _ _ fits).1)
