-- The calls that frames are restored to are charged as the frames are.
use Rattle.std.proofs.Common.{◌≡◌, ◌∙◌, refl, sym, ap, subst, arith, ℕ, zero, suc, ◌+◌, ◌<◌, ◌≤◌, List, [], ◌∷◌, ◌++◌, inr, length, map, Option, Some, None, true, false, append_assoc, append-nil}
use Rattle.std.specs.Prelude.{slice_get, option_map, option_and_then, sum_by}
use Rattle.std.proofs.lemmas.List.Sums.{sum_by-cons}
use Rattle.lsl_value.specs.declared.tagged.Kind.{Kind}
use Rattle.lsl_value.specs.declared.tagged.Value.{Value}
use Rattle.lsl_running.specs.declared.kept.Kept.{Kept}
use Rattle.lsl_running.specs.Charging.{charges_of, script_charge}
use Rattle.lsl_running.specs.Values.{empty_of}
use Rattle.lsl_code.specs.declared.frames.Frame.{Frame}
use Rattle.lsl_code.specs.declared.functions.Point.{Point}
use Rattle.lsl_code.specs.declared.functions.StateCode.{StateCode}
use Rattle.lsl_code.specs.BackWays.{BackWay, backs, put_count, is_put_once, is_back_way, restores_point}
use Rattle.lsl_code.specs.Bodies.{Body, instruction_in}
use Rattle.lsl_code.specs.Frames.{points_of, IsAtPoint, AreFrames, frame_charge, parked_charge}
use Rattle.lsl_code.specs.Machine.{MachineCall, Machine, base, used_in}
use Rattle.lsl_code.specs.ModeRuns.{Beside, BackRun}
use Rattle.lsl_code.specs.Modes.{repeat}
use Rattle.lsl_code.specs.Restoring.{Restoring, restoring, awake_with, blank, BackAct, Moves, Reenters, Wakes, NoBack, back_act, back_after, back_step, begins_restoring}
use Rattle.lsl_code.specs.Woven.{is_kept, is_woven}
use Rattle.lsl_code.proofs.Repeating.{first_then, both_then, one_end}
use Rattle.lsl_code.proofs.Sames.{both_true, eq_is}
use Rattle.lsl_code.proofs.Told.{all_at}
use Rattle.lsl_weave.proofs.BackKept.{OnBack, BackGoesOn, back_way, back_begins}
use Rattle.lsl_weave.proofs.BackOn.{back_goes_on, back_not_over}
use Rattle.lsl_weave.proofs.Chains.{WaitFrames, wait_frames, frame_body, handler_body}
use Rattle.lsl_weave.proofs.Reentered.{after_end}
use Rattle.lsl_weave.proofs.SavingOn.{AreKept, kept_ok}
use Rattle.lsl_machine.proofs.Carried.{puts_of}
use Rattle.lsl_machine.proofs.Counted.{idle_all}
use Rattle.lsl_machine.proofs.PutCharges.{PutsOn, HasPut, has_put}
use Rattle.lsl_machine.proofs.Reaching.{alone}
use Rattle.lsl_machine.proofs.Totals.{base_more}
use Rattle.lsl_machine.proofs.Vacating.{slot_there}

-- the call is restored, and has this charge
record IsPaid (bodies : List Body) (left : List Frame) (callee : Option ℕ) (c : MachineCall) (point : ℕ)
    (hand : List Value) (sack : List Frame) (total : ℕ) : Type 0 where
  steps : ℕ
  call : MachineCall
  at : ℕ
  charge : charges_of call.slots + charges_of call.operands ≡ total
  ran : (rest : List MachineCall) → repeat (back_step bodies) steps (restoring (c ∷ rest) point hand sack)
      ≡ after_end bodies callee call rest at left

one_step : {S : Type 0} (step : S → Option S) (s : S) (o : Option S) → step s ≡ o → repeat step 1 s ≡ o
one_step step s None e = ap (option_and_then (repeat step 0)) e
one_step step s (Some t) e = first_then step 0 s t (Some t) e refl

module _ (bodies : List Body) (w : Body) (left : List Frame) (callee : Option ℕ) (total : ℕ) where
  step_is : (c : MachineCall) (point : ℕ) (hand : List Value) (sack : List Frame)
      → slice_get bodies c.function ≡ Some w → (rest : List MachineCall)
      → back_step bodies (restoring (c ∷ rest) point hand sack)
      ≡ back_after bodies (back_act (Some w) (slice_get w.code c.place) c point hand sack) rest point hand sack
  step_is c point hand sack found rest =
      ap (λ o. back_after bodies (back_act o (instruction_in o c.place) c point hand sack) rest point hand sack)
      found

  by_act : (n : ℕ) (c : MachineCall) (point : ℕ) (hand : List Value) (sack : List Frame) (a : BackAct)
      → BackGoesOn bodies w n left callee c.function hand sack a → HasPut w n left total hand a
      → ((rest : List MachineCall) → back_step bodies (restoring (c ∷ rest) point hand sack)
      ≡ back_after bodies a rest point hand sack)
      → ((c' : MachineCall) (point' : ℕ) (hand' : List Value) (sack' : List Frame) → c'.function ≡ c.function
      → OnBack w n left callee c' point' hand' sack' → PutsOn w n left c' point' hand' sack' total
      → IsPaid bodies left callee c' point' hand' sack' total)
      → IsPaid bodies left callee c point hand sack total
  by_act n c point hand sack (Moves c' point' hand' sack') g put step more =
      let r = more c' point' hand' sack' g.0 g.1 put in
      record {
        steps = suc r.steps;
        call = r.call;
        at = r.at;
        charge = r.charge;
        ran = λ rest. first_then (back_step bodies) r.steps (restoring (c ∷ rest) point hand sack)
            (restoring (c' ∷ rest) point' hand' sack') _ (step rest) (r.ran rest);
      }
  by_act n c point hand sack (Reenters g c') on put step more =
      let none = ap charges_of on.1 in
      record {
        steps = 1;
        call = c';
        at = point;
        charge = omega arith;
        ran = λ rest. one_step (back_step bodies) (restoring (c ∷ rest) point hand sack) _
            (step rest ∙ entered rest);
      }
    where
      entered : (rest : List MachineCall)
          → back_after bodies (Reenters g c') rest point hand sack ≡ after_end bodies callee c' rest point left
      entered rest =
          ap (λ h. back_after bodies (Reenters g c') rest point h sack) on.1
          ∙ ap (λ s. back_after bodies (Reenters g c') rest point [] s) on.2
          ∙ ap (λ o. after_end bodies o c' rest point left) (sym on.3)
  by_act n c point hand sack (Wakes c') on put step more =
      let none = ap charges_of on.1 in
      record {
        steps = 1;
        call = c';
        at = point;
        charge = omega arith;
        ran = λ rest. one_step (back_step bodies) (restoring (c ∷ rest) point hand sack) _
            (step rest ∙ woken rest);
      }
    where
      woken : (rest : List MachineCall) → back_after bodies (Wakes c') rest point hand sack
          ≡ after_end bodies callee c' rest point left
      woken rest =
          ap (λ h. back_after bodies (Wakes c') rest point h sack) on.1
          ∙ ap (λ s. back_after bodies (Wakes c') rest point [] s) on.2
          ∙ ap (λ o. after_end bodies o c' rest point left) (sym on.3)
  by_act n c point hand sack NoBack on put step more = absurd on

  paid : (n : ℕ) (c : MachineCall) (point : ℕ) (hand : List Value) (sack : List Frame)
      → slice_get bodies c.function ≡ Some w → OnBack w n left callee c point hand sack
      → PutsOn w n left c point hand sack total → IsPaid bodies left callee c point hand sack total
  paid zero c point hand sack found on put = absurd (back_not_over w left callee c point hand sack on)
  paid (suc n) c point hand sack found on put =
      by_act n c point hand sack (back_act (Some w) (slice_get w.code c.place) c point hand sack)
      (back_goes_on bodies w n left callee c point hand sack found on)
      (has_put w n left total c point hand sack put) (step_is c point hand sack found)
      (λ c' point' hand' sack' same on' put'.
      paid n c' point' hand' sack' (ap (slice_get bodies) same ∙ found) on' put')

-- a value is put to each slot once on a function's way
once_put : (w : Body) (p : ℕ) (pt : Point) (way : BackWay) → is_kept w ≡ true → slice_get w.points p ≡ Some pt
    → backs w.code (length w.code) p false 0 ≡ Some way → (i : ℕ) → i < length w.slots
    → put_count i way.puts ≡ 1
once_put w p pt way ok mapped is i lt =
    let at_point = all_at (restores_point w) w.points p pt (both_true _ _ ok).1 mapped in
    let on_way = subst (λ o. is_back_way w p pt o ≡ true) is at_point in
    let each = (both_true _ _ (both_true _ _ on_way).0).1 in
    let slot = slot_there w.slots i lt in
    eq_is _ 1 (all_at (is_put_once way.puts) w.slots i slot.0 each slot.1)

length_empties : (ks : List Kind) → length (map empty_of ks) ≡ length ks
length_empties [] = refl
length_empties (k ∷ ks) = ap suc (length_empties ks)

-- the way begins at the function's start
put_begins : (w : Body) (f : ℕ) (left : List Frame) (fr : Frame) (pt : Point) (point : ℕ) (hand : List Value)
    → is_kept w ≡ true → slice_get w.points fr.point ≡ Some pt
    → PutsOn w (length w.code) left (blank f w) point hand (left ++ fr ∷ []) (charges_of fr.slots)
put_begins w f left fr pt point hand ok mapped =
    let b = back_way w fr.point pt ok mapped in
    let len = length_empties w.slots in
    let each : (i : ℕ) → i < length (map empty_of w.slots) → put_count i b.way.puts ≡ 1 =
    λ i lt. once_put w fr.point pt b.way ok mapped b.is_way i (omega arith) in
    let none = idle_all (puts_of b.way.puts) 0 (map empty_of w.slots) (λ i lt. each (0 + i) (omega arith)) in
    inr (
      fr,
      refl,
      record {
        way = b.way;
        is_way = b.is_way;
        once = λ i lt. let e = each i lt in omega arith;
        sum = omega (arith, none);
      },
    )

more_frames : (fr : Frame) (frs : List Frame)
    → sum_by frame_charge (fr ∷ frs) ≡ frame_charge fr + sum_by frame_charge frs
more_frames fr frs = sum_by-cons frame_charge fr frs

module _ (bodies : List Body) (ok : AreKept bodies) where
  frame_paid : (fr : Frame) (callee : Option ℕ) (w : Body) (point : ℕ) (left : List Frame)
      → slice_get bodies fr.function ≡ Some w → IsAtPoint (points_of bodies) callee fr
      → IsPaid bodies left callee (blank fr.function w) point [] (left ++ fr ∷ []) (charges_of fr.slots)
  frame_paid fr callee w point left found fit =
      let b = frame_body bodies callee fr fit in
      let same : b.0 ≡ w = one_body (slice_get bodies fr.function) b.0 w b.1 found in
      let mapped = subst (λ x. slice_get x.points fr.point ≡ Some fit.0) same b.2 in
      let kept = ok fr.function w found in
      paid bodies w left callee (charges_of fr.slots) (length w.code) (blank fr.function w) point []
      (left ++ fr ∷ []) found
      (back_begins w fr.function left callee fr fit.0 point [] kept mapped fit.3 fit.2)
      (put_begins w fr.function left fr fit.0 point [] kept mapped)
    where
      one_body : (o : Option Body) (a b : Body) → o ≡ Some a → o ≡ Some b → a ≡ b
      one_body o a b p q = cc

  waits_paid : (frs : List Frame) (h g : ℕ) (bh bg : Body) (left : List Frame)
      → slice_get bodies h ≡ Some bh → slice_get bodies g ≡ Some bg → WaitFrames bodies h frs g → (n : ℕ)
      × (point : ℕ) × (cs : List MachineCall) × (base cs ≡ script_charge + sum_by frame_charge frs)
      × (repeat (back_step bodies) n (restoring (blank h bh ∷ []) 0 [] (left ++ frs))
      ≡ Some (restoring (blank g bg ∷ cs) point [] left))
  waits_paid [] h g bh bg left fh fg chain =
      let e : bh ≡ bg = same_body (slice_get bodies h) bh bg fh (ap (slice_get bodies) (sym chain) ∙ fg) in (
        0,
        0,
        [],
        omega arith,
        ap (λ l. Some (restoring (blank h bh ∷ []) 0 [] l)) (append-nil left)
            ∙ ap (λ b. Some (restoring (blank h b ∷ []) 0 [] left)) e
            ∙ ap (λ f. Some (restoring (blank f bg ∷ []) 0 [] left)) (sym chain),
      )
    where
      same_body : (o : Option Body) (a b : Body) → o ≡ Some a → o ≡ Some b → a ≡ b
      same_body o a b p q = cc
  waits_paid (fr ∷ frs) h g bh bg left fh fg chain =
      let b = frame_body bodies (Some g) fr chain.0 in
      let w = b.0 in
      let a = waits_paid frs h fr.function bh w (left ++ fr ∷ []) fh b.1 chain.1 in
      let r = frame_paid fr (Some g) w a.1 left b.1 chain.0 in
      let c = r.call in
      let S0 = restoring (blank h bh ∷ []) 0 [] (left ++ fr ∷ frs) in
      let S1 = restoring (blank fr.function w ∷ a.2) a.1 [] (left ++ fr ∷ []) in
      let a' = subst (λ l. repeat (back_step bodies) a.0 (restoring (blank h bh ∷ []) 0 [] l) ≡ Some S1)
      (append_assoc left (fr ∷ []) frs) a.4 in
      let enter = ap (option_map (λ callee. restoring (blank g callee ∷ c ∷ a.2) r.at [] left)) fg in
      let more = base_more c a.2 in
      let all = more_frames fr frs in
      let outer = a.3 in
      let one = r.charge in (
        a.0 + r.steps,
        r.at,
        c ∷ a.2,
        omega arith,
        both_then (back_step bodies) a.0 r.steps S0 S1 _ a' (r.ran a.2 ∙ enter),
      )

  frames_paid : (h : ℕ) (frames : List Frame) → AreFrames (points_of bodies) h frames → (n : ℕ)
      × (calls : List MachineCall) × (base calls ≡ script_charge + sum_by frame_charge frames) × (body : Body)
      × (point : ℕ) × (slice_get bodies h ≡ Some body)
      × (repeat (back_step bodies) n (begins_restoring h body frames) ≡ Some (awake_with calls point [] []))
  frames_paid h [] fit = absurd fit
  frames_paid h (fr ∷ frs) fit =
      let chain = wait_frames bodies h fr frs fit.0.1 fit.1 in
      let b = frame_body bodies None fr fit.0.0 in
      let w = b.0 in
      let bh = handler_body bodies h fr.function w frs b.1 chain in
      let a = waits_paid frs h fr.function bh.0 w (fr ∷ []) bh.1 b.1 chain in
      let r = frame_paid fr None w a.1 [] b.1 fit.0.0 in
      let more = base_more r.call a.2 in
      let all = more_frames fr frs in
      let outer = a.3 in
      let one = r.charge in (
        a.0 + r.steps,
        r.call ∷ a.2,
        omega arith,
        bh.0,
        r.at,
        bh.1,
        both_then (back_step bodies) a.0 r.steps (begins_restoring h bh.0 (fr ∷ frs))
            (restoring (blank fr.function w ∷ a.2) a.1 [] (fr ∷ [])) _ a.4 (r.ran a.2),
      )

-- a machine that frames are restored to is charged at most what they are
pub restored_charge : (globals : List Value) (states : List StateCode) (bodies : List Body)
    → is_woven globals states bodies ≡ true → (h : ℕ) (frames : List Frame) (x : Beside)
    → AreFrames (points_of bodies) h frames → (m : Machine) (n : ℕ) → BackRun bodies h frames x m n
    → used_in m.calls m.kept ≤ parked_charge m.kept.globals frames
restored_charge globals states bodies ok h frames x fit m n run =
    let r = frames_paid bodies (kept_ok globals states bodies ok) h frames fit in
    let same_body : r.3 ≡ run.0 = cc (r.5, run.2) in
    let first = alone (back_step bodies) n x _ (begins_restoring h run.0 frames) (awake_with m.calls run.1 [] [])
    run.3 in
    let other = subst (λ (b : Body). repeat (back_step bodies) r.0 (begins_restoring h b frames)
    ≡ Some (awake_with r.1 r.4 [] [])) same_body r.6 in
    let same = one_end (back_step bodies) r.0 n (begins_restoring h run.0 frames) (awake_with r.1 r.4 [] [])
    (awake_with m.calls run.1 [] []) other refl first refl in
    let calls : r.1 ≡ m.calls = ap (λ (s : Restoring). s.calls) same.1 in
    used_within m.calls m.kept frames (sym (ap base calls) ∙ r.2)
  where
    used_within : (calls : List MachineCall) (g : Kept) (frames : List Frame)
        → base calls ≡ script_charge + sum_by frame_charge frames
        → used_in calls g ≤ parked_charge g.globals frames
    used_within [] g frames e = omega arith
    used_within (c ∷ outer) g frames e = omega arith
