-- Restoring frames that fit ends, with calls at points of their kinds.
use Rattle.std.proofs.Common.{◌≡◌, ℕ, ◌+◌, ◌*◌, ◌≤◌, ◌<◌, List, [], ◌∷◌, ◌++◌, length, Option, Some, None, true, sym, ap, ◌∙◌, subst, arith, append_assoc, append-nil}
use Rattle.std.specs.Prelude.{slice_get, option_map, nat_lt}
use Rattle.std.proofs.lemmas.Bool.Decides.{nat_tests}
use Rattle.lsl_value.specs.declared.tagged.Value.{Value}
use Rattle.lsl_code.specs.declared.frames.Frame.{Frame}
use Rattle.lsl_code.specs.declared.functions.StateCode.{StateCode}
use Rattle.lsl_code.specs.Bodies.{Body}
use Rattle.lsl_code.specs.Frames.{points_of, IsAtPoint, AreFrames}
use Rattle.lsl_code.specs.Machine.{MachineCall, Machine}
use Rattle.lsl_code.specs.ModeRuns.{Beside, whole, BackRun}
use Rattle.lsl_code.specs.Modes.{repeat}
use Rattle.lsl_code.specs.Restoring.{restoring, awake_with, blank, back_step, begins_restoring}
use Rattle.lsl_code.proofs.ModeRuns.{runs_beside, one_restoring}
use Rattle.lsl_code.proofs.Repeating.{both_then}
use Rattle.lsl_code.proofs.Sames.{both_true}
use Rattle.lsl_code.specs.Woven.{is_woven}
use Rattle.lsl_weave.specs.WovenCalls.{WaitAtCalls, RestAtTick}
use Rattle.lsl_weave.specs.WovenLaws.{WovenRestores, RestoredRest}
use Rattle.lsl_weave.proofs.BackKept.{back_begins}
use Rattle.lsl_weave.proofs.Chains.{WaitFrames, wait_frames, frame_body, handler_body}
use Rattle.lsl_weave.proofs.SavingOn.{AreKept, function_ok, kept_ok}
use Rattle.lsl_weave.proofs.Reentered.{IsReentered, reentered}

-- each function's code keeps and restores its calls, and is short
abbrev AreShort : List Body → Type 0
AreShort bodies = (f : ℕ) (w : Body) → slice_get bodies f ≡ Some w → length w.code < 4294967296

module _ (bodies : List Body) (ok : AreKept bodies) (short : AreShort bodies) where
  -- one frame, from its function's start
  frame_reentered : (fr : Frame) (callee : Option ℕ) (w : Body) (point : ℕ) (left : List Frame)
      → slice_get bodies fr.function ≡ Some w → IsAtPoint (points_of bodies) callee fr
      → IsReentered bodies (length w.code) left callee (blank fr.function w) point [] (left ++ fr ∷ [])
  frame_reentered fr callee w point left found fit =
      let b = frame_body bodies callee fr fit in
      let same : b.0 ≡ w = one_body (slice_get bodies fr.function) b.0 w b.1 found in
      let mapped = subst (λ x. slice_get x.points fr.point ≡ Some fit.0) same b.2 in
      reentered bodies w left callee (length w.code) (blank fr.function w) point [] (left ++ fr ∷ []) found
      (back_begins w fr.function left callee fr fit.0 point [] (ok fr.function w found) mapped fit.3 fit.2)
    where
      one_body : (o : Option Body) (a b : Body) → o ≡ Some a → o ≡ Some b → a ≡ b
      one_body o a b p q = cc

  -- the calls that wait, up to the entry of the function that they wait for
  waits_reentered : (frs : List Frame) (h g : ℕ) (bh bg : Body) (left : List Frame)
      → slice_get bodies h ≡ Some bh → slice_get bodies g ≡ Some bg → WaitFrames bodies h frs g → (n : ℕ)
      × (n ≤ 4294967296 * length frs) × (point : ℕ) × (cs : List MachineCall) × WaitAtCalls bodies h cs g
      × (repeat (back_step bodies) n (restoring (blank h bh ∷ []) 0 [] (left ++ frs))
      ≡ Some (restoring (blank g bg ∷ cs) point [] left))
  waits_reentered [] h g bh bg left fh fg chain =
      let e : bh ≡ bg = same_body (slice_get bodies h) bh bg fh (ap (slice_get bodies) (sym chain) ∙ fg) in (
        0,
        omega arith,
        0,
        [],
        chain,
        ap (λ l. Some (restoring (blank h bh ∷ []) 0 [] l)) (append-nil left)
            ∙ ap (λ b. Some (restoring (blank h b ∷ []) 0 [] left)) e
            ∙ ap (λ f. Some (restoring (blank f bg ∷ []) 0 [] left)) (sym chain),
      )
    where
      same_body : (o : Option Body) (a b : Body) → o ≡ Some a → o ≡ Some b → a ≡ b
      same_body o a b p q = cc
  waits_reentered (fr ∷ frs) h g bh bg left fh fg chain =
      let b = frame_body bodies (Some g) fr chain.0 in
      let w = b.0 in
      let a = waits_reentered frs h fr.function bh w (left ++ fr ∷ []) fh b.1 chain.1 in
      let r = frame_reentered fr (Some g) w a.2 left b.1 chain.0 in
      let c = r.call in
      let ends = r.ends in
      let S0 = restoring (blank h bh ∷ []) 0 [] (left ++ fr ∷ frs) in
      let S1 = restoring (blank fr.function w ∷ a.3) a.2 [] (left ++ fr ∷ []) in
      let a' = subst (λ l. repeat (back_step bodies) a.0 (restoring (blank h bh ∷ []) 0 [] l) ≡ Some S1)
      (append_assoc left (fr ∷ []) frs) a.5 in
      let enter = ap (option_map (λ callee. restoring (blank g callee ∷ c ∷ a.3) r.at [] left)) fg in
      let outer = subst (WaitAtCalls bodies h a.3) (sym r.function_is) a.4 in
      let count : a.0 + r.steps ≤ 4294967296 * length (fr ∷ frs) =
      omega (arith, a.1, r.few, short fr.function w b.1) in (
        a.0 + r.steps,
        count,
        r.at,
        c ∷ a.3,
        (ends.0, ends.1, ends.2, ends.3, outer),
        both_then (back_step bodies) a.0 r.steps S0 S1 _ a' (r.ran a.3 ∙ enter),
      )

  -- restoring frames that fit ends with calls at points
  frames_reentered : (h : ℕ) (frames : List Frame) → AreFrames (points_of bodies) h frames
      → (calls : List MachineCall) × RestAtTick bodies h calls × (n : ℕ) × (n ≤ 4294967296 * length frames)
      × (body : Body) × (point : ℕ) × (slice_get bodies h ≡ Some body)
      × (repeat (back_step bodies) n (begins_restoring h body frames) ≡ Some (awake_with calls point [] []))
  frames_reentered h [] fit = absurd fit
  frames_reentered h (fr ∷ frs) fit =
      let chain = wait_frames bodies h fr frs fit.0.1 fit.1 in
      let b = frame_body bodies None fr fit.0.0 in
      let w = b.0 in
      let bh = handler_body bodies h fr.function w frs b.1 chain in
      let a = waits_reentered frs h fr.function bh.0 w (fr ∷ []) bh.1 b.1 chain in
      let r = frame_reentered fr None w a.2 [] b.1 fit.0.0 in
      let outer = subst (WaitAtCalls bodies h a.3) (sym r.function_is) a.4 in
      let ends = r.ends in
      let count : a.0 + r.steps ≤ 4294967296 * length (fr ∷ frs) =
      omega (arith, a.1, r.few, short fr.function w b.1) in (
        r.call ∷ a.3,
        (ends.0, ends.1, outer),
        a.0 + r.steps,
        count,
        bh.0,
        r.at,
        bh.1,
        both_then (back_step bodies) a.0 r.steps (begins_restoring h bh.0 (fr ∷ frs))
            (restoring (blank fr.function w ∷ a.3) a.2 [] (fr ∷ [])) _ a.5 (r.ran a.3),
      )

abbrev machine_with : List MachineCall → Beside → Machine
machine_with calls x = record { kept = x.kept; calls = calls; answers = x.answers }

module _ (bodies : List Body) (ok : AreKept bodies) (short : AreShort bodies) where
  machine_reentered : (h : ℕ) (frames : List Frame) (x : Beside) → AreFrames (points_of bodies) h frames
      → (m : Machine) × RestAtTick bodies h m.calls × (n : ℕ) × (n ≤ 4294967296 * length frames)
      × BackRun bodies h frames x m n
  machine_reentered h frames x fit =
      let r = frames_reentered bodies ok short h frames fit in
      let run = runs_beside (back_step bodies) r.2 x (begins_restoring h r.4 frames)
      ∙ ap (option_map (whole x)) r.7 in
      (machine_with r.0 x, r.1, r.2, r.3, (r.4, r.5, r.6, run))

is_less : (m n : ℕ) → nat_lt m n ≡ true → m < n
is_less m n e = grind (arith, nat_tests)

short_ok : (globals : List Value) (states : List StateCode) (bodies : List Body)
    → is_woven globals states bodies ≡ true → AreShort bodies
short_ok globals states bodies ok f w found =
    let both = both_true _ _ (function_ok globals states bodies ok f w found) in
    is_less _ _ (both_true _ _ both.0).1

pub woven_restores : WovenRestores
woven_restores globals states bodies ok h frames x fit =
    let r = machine_reentered bodies (kept_ok globals states bodies ok) (short_ok globals states bodies ok) h
    frames x fit in
    (r.0, r.2, r.3, r.4)

-- it has one result
pub restored_rest : RestoredRest
restored_rest globals states bodies ok h frames x fit m n run =
    let r = machine_reentered bodies (kept_ok globals states bodies ok) (short_ok globals states bodies ok) h
    frames x fit in
    let same = one_restoring bodies h frames x r.0 m r.2 n r.4 run in
    subst (λ (y : Machine). RestAtTick bodies h y.calls) same.0 r.1
