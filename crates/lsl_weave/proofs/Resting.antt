-- Machines of a woven unit at a tick, in which all kinds are right, rest at points, and calls that do are
-- such.
use Rattle.std.proofs.Common.{◌≡◌, ℕ, ◌+◌, List, [], ◌∷◌, length, drop, Option, Some, None, true, option_map, refl, sym, ap, ◌∙◌, subst, slice_get}
use Rattle.std.proofs.lemmas.Option.{slice_get-map}
use Rattle.lsl_value.specs.declared.tagged.Kind.{Kind}
use Rattle.lsl_value.specs.declared.tagged.Value.{Value}
use Rattle.lsl_code.specs.declared.functions.Point.{Point}
use Rattle.lsl_code.specs.declared.functions.StateCode.{StateCode}
use Rattle.lsl_code.specs.declared.instructions.Instr.{Instr}
use Rattle.lsl_code.specs.declared.instructions.Instr.TheVariants.{Tick, Call}
use Rattle.lsl_code.specs.declared.signatures.Names.{Names}
use Rattle.lsl_code.specs.Bodies.{Body, instruction_in}
use Rattle.lsl_code.specs.Effects.{pushed, called, waiting}
use Rattle.lsl_code.specs.Fits.{fits_at}
use Rattle.lsl_code.specs.Kinded.{AreWaiting, AreKindedCalls}
use Rattle.lsl_code.specs.Kinds.{Scope, scope, kinds_of, names_in, signature_in}
use Rattle.lsl_code.specs.Machine.{MachineCall}
use Rattle.lsl_code.specs.Standing.{AreChained, IsChain, IsAtTick}
use Rattle.lsl_code.specs.Units.{fits_running}
use Rattle.lsl_code.specs.WellFormed.{StandsWith}
use Rattle.lsl_code.proofs.AtPoints.{pushed_one, one_stack}
use Rattle.lsl_code.proofs.Sames.{both_true}
use Rattle.lsl_code.proofs.Taking.{taken}
use Rattle.lsl_code.proofs.Told.{all_at, finds_told}
use Rattle.lsl_code.specs.SaveWays.{waiting_kinds}
use Rattle.lsl_code.specs.Woven.{is_woven}
use Rattle.lsl_weave.specs.WovenCalls.{IsAt, WaitAtCalls, RestAtTick}
use Rattle.lsl_weave.specs.WovenLaws.{KindedMachinesRest, RestingCallsAreKinded}
use Rattle.lsl_weave.proofs.SavingOn.{function_ok}
use Rattle.lsl_weave.proofs.Waiting.{HasWaiting, waits_told, kinds_there, place_told}

module _ (globals : List Value) (states : List StateCode) (bodies : List Body)
    (ok : is_woven globals states bodies ≡ true) where
  abbrev names : Names
  names = names_in globals states bodies

  module _ (f : ℕ) (w : Body) (found : slice_get bodies f ≡ Some w) where
    abbrev own : Scope
    own = scope names w.slots w.result

    fit_at : (k : ℕ) (i : Instr) → slice_get w.code k ≡ Some i → fits_at own w k i ≡ true
    fit_at k i here =
        let q2 = both_true _ _ (function_ok globals states bodies ok f w found) in
        let q1 = both_true _ _ q2.0 in
        let running : fits_running names w ≡ true = (both_true _ _ q1.0).1 in
        let p6 = both_true _ _ running in
        let p5 = both_true _ _ p6.0 in
        let p4 = both_true _ _ p5.0 in
        let p3 = both_true _ _ p4.0 in
        let p2 = both_true _ _ p3.0 in
        all_at (fits_at own w) w.code k i p2.1 here

    tick_waits : (k p : ℕ) (ks : List Kind) → slice_get w.code k ≡ Some (Tick p) → StandsWith w k ks
        → HasWaiting w p None ks
    tick_waits k p ks here stands =
        waits_told w p (slice_get w.points p) None ks refl
        (place_told own w k (Tick p) ks (fit_at k (Tick p) here) stands).3

    -- at a tick: the kinds before it
    tick_told : (k p : ℕ) → slice_get w.code k ≡ Some (Tick p) → (ks : List Kind) × StandsWith w k ks
        × HasWaiting w p None ks
    tick_told k p here =
        let stack = kinds_there own w k (Tick p) (slice_get w.stacks k) refl refl (fit_at k (Tick p) here) in
        (stack.0, stack.1, tick_waits k p stack.0 here stack.1)

    -- at a call: the operands that wait, and with the result those after it
    call_told : (k p g : ℕ) (callee : Body) → slice_get w.code k ≡ Some (Call g p)
        → slice_get bodies g ≡ Some callee → (ks : List Kind) × HasWaiting w p (Some g) ks
        × StandsWith w (k + 1) (pushed callee.result ks)
    call_told k p g callee here there =
        let stack = kinds_there own w k (Call g p) (slice_get w.stacks k) refl refl (fit_at k (Call g p) here)
        in
        let ks = stack.0 in
        let told = place_told own w k (Call g p) ks (fit_at k (Call g p) here) stack.1 in
        let named : slice_get own.functions g ≡ Some (signature_in callee) =
        slice_get-map signature_in bodies g ∙ ap (option_map signature_in) there in
        let t = taken (signature_in callee) ks told.0 (ap (λ o. called o ks) (sym named) ∙ told.1) in
        let left = drop (length callee.params) ks in
        let wait : waiting (slice_get own.functions g) ks ≡ left = ap (λ o. waiting o ks) named in
        let m = waits_told w p (slice_get w.points p) (Some g) _ refl told.3 in (
          left,
          subst (HasWaiting w p (Some g)) wait m,
          subst (StandsWith w (k + 1)) (sym t.rest)
              (finds_told w (k + 1) told.0 told.2),
        )

  same_body : (f : ℕ) (a b : Body) → slice_get bodies f ≡ Some a → slice_get bodies f ≡ Some b → a ≡ b
  same_body f a b p q = cc

  waits_rest : (h g : ℕ) (callee : Body) (outer : List MachineCall) → slice_get bodies g ≡ Some callee
      → AreWaiting bodies callee.result outer → AreChained bodies h g outer → WaitAtCalls bodies h outer g
  waits_rest h g callee [] there kinded chain = chain
  waits_rest h g callee (c ∷ outer) there kinded chain =
      let w = kinded.0 in
      let found = kinded.1 in
      let link = chain.0 in
      let same = same_body c.function link.0 w link.3 found in
      let k = link.1 in
      let p = link.2 in
      let here : slice_get w.code k ≡ Some (Call g p) =
      subst (λ (b : Body). slice_get b.code k ≡ Some (Call g p)) same link.5 in
      let told = call_told c.function w found k p g callee here there in
      let stands = subst (λ n. StandsWith w n (pushed callee.result (kinds_of c.operands))) link.4 kinded.2.1
      in
      let operands = pushed_one callee.result _ _ (one_stack w (k + 1) _ _ stands told.2) in
      let m = told.1 in
      let fit : IsAt bodies c k (Some g) p =
      record {
        body = w;
        found = found;
        here = here;
        point = m.point;
        mapped = m.mapped;
        calls =
            m.calls;
        slots = kinded.2.0;
        operands = operands ∙ sym m.waits;
      } in
      (k, p, link.4, fit, waits_rest h c.function w outer found kinded.3 chain.1)

  calls_rest : (h : ℕ) (calls : List MachineCall) → AreKindedCalls bodies calls → IsChain bodies h calls
      → IsAtTick bodies calls → RestAtTick bodies h calls
  calls_rest h [] kinded chain tick = absurd kinded
  calls_rest h (c ∷ outer) kinded chain tick =
      let w = kinded.0 in
      let found = kinded.1 in
      let p = tick.0 in
      let here : slice_get w.code c.place ≡ Some (Tick p) =
      sym (ap (λ o. instruction_in o c.place) found) ∙ tick.1 in
      let m = tick_waits c.function w found c.place p (kinds_of c.operands) here kinded.2.1 in
      let fit : IsAt bodies c c.place None p =
      record {
        body = w;
        found = found;
        here = here;
        point = m.point;
        mapped = m.mapped;
        calls =
            m.calls;
        slots = kinded.2.0;
        operands = sym m.waits;
      } in
      (p, fit, waits_rest h c.function w outer found kinded.3 chain)

  same_waits : (w : Body) (p : ℕ) (callee : Option ℕ) (ks : List Kind) (pt : Point)
      → slice_get w.points p ≡ Some pt → HasWaiting w p callee ks → waiting_kinds w.slots pt ≡ ks
  same_waits w p callee ks pt e m =
      let same : pt ≡ m.point = one_of (slice_get w.points p) pt m.point e m.mapped in
      ap (waiting_kinds w.slots) same ∙ m.waits
    where
      one_of : (o : Option Point) (a b : Point) → o ≡ Some a → o ≡ Some b → a ≡ b
      one_of o a b p q = cc

  -- the other way round
  waits_kinded : (h g : ℕ) (callee : Body) (outer : List MachineCall) → slice_get bodies g ≡ Some callee
      → WaitAtCalls bodies h outer g → AreWaiting bodies callee.result outer × AreChained bodies h g outer
  waits_kinded h g callee [] there rest = (tt, rest)
  waits_kinded h g callee (c ∷ outer) there rest =
      let k = rest.0 in
      let p = rest.1 in
      let fit : IsAt bodies c k (Some g) p = rest.3 in
      let w = fit.body in
      let told = call_told c.function w fit.found k p g callee fit.here there in
      let operands = fit.operands ∙ same_waits w p (Some g) told.0 fit.point fit.mapped told.1 in
      let stands = subst (λ n. StandsWith w n (pushed callee.result (kinds_of c.operands))) (sym rest.2)
      (subst (λ l. StandsWith w (k + 1) (pushed callee.result l)) (sym operands) told.2) in
      let more = waits_kinded h c.function w outer fit.found rest.4 in
      ((w, fit.found, (fit.slots, stands), more.0), ((w, k, p, fit.found, rest.2, fit.here), more.1))

  calls_kinded : (h : ℕ) (calls : List MachineCall) → RestAtTick bodies h calls → AreKindedCalls bodies calls
      × IsChain bodies h calls × IsAtTick bodies calls
  calls_kinded h [] rest = absurd rest
  calls_kinded h (c ∷ outer) rest =
      let p = rest.0 in
      let fit : IsAt bodies c c.place None p = rest.1 in
      let w = fit.body in
      let told = tick_told c.function w fit.found c.place p fit.here in
      let operands = fit.operands ∙ same_waits w p None told.0 fit.point fit.mapped told.2 in
      let stands = subst (StandsWith w c.place) (sym operands) told.1 in
      let more = waits_kinded h c.function w outer fit.found rest.2 in (
        (w, fit.found, (fit.slots, stands), more.0),
        more.1,
        (
          p,
          ap (λ o. instruction_in o c.place) fit.found
              ∙ fit.here,
        ),
      )

pub kinded_machines_rest : KindedMachinesRest
kinded_machines_rest globals states bodies ok h m kinded chain tick =
    calls_rest globals states bodies ok h m.calls kinded.calls chain tick

pub resting_calls_are_kinded : RestingCallsAreKinded
resting_calls_are_kinded globals states bodies ok h calls rest =
    calls_kinded globals states bodies ok h calls rest
