-- Saving a machine of a woven unit at a tick ends, with frames that fit.
use Rattle.std.proofs.Common.{◌≡◌, ℕ, zero, suc, ◌+◌, List, [], ◌∷◌, ◌++◌, length, Option, Some, None, refl, sym, ap, ◌∙◌, subst, append_assoc, append-nil}
use Rattle.std.specs.Prelude.{slice_get, option_map}
use Rattle.lsl_value.specs.declared.tagged.Kind.{Kind}
use Rattle.lsl_value.specs.declared.tagged.Value.{Value}
use Rattle.lsl_code.specs.declared.frames.Frame.{Frame}
use Rattle.lsl_code.specs.Bodies.{Body, instruction_in}
use Rattle.lsl_code.specs.Frames.{body_point, points_of, IsAtPoint, AreFrames}
use Rattle.lsl_code.specs.Kinds.{kinds_of}
use Rattle.lsl_code.specs.Machine.{MachineCall, Machine}
use Rattle.lsl_code.specs.ModeRuns.{whole, beside_of, SaveRun}
use Rattle.lsl_code.specs.Modes.{repeat, at_place}
use Rattle.lsl_code.specs.Saving.{saving, SaveAct, Keeps, Seals, NoSave, save_act, save_after, save_step, begins_saving}
use Rattle.lsl_code.proofs.ModeRuns.{runs_beside, one_saving}
use Rattle.lsl_code.proofs.Repeating.{first_then, both_then}
use Rattle.lsl_weave.specs.WovenCalls.{IsAt, WaitAtCalls, RestAtTick}
use Rattle.lsl_weave.specs.WovenLaws.{WovenSaves, SavedFramesFit}
use Rattle.lsl_weave.proofs.Chains.{WaitFrames, are_frames}
use Rattle.lsl_weave.proofs.SavingOn.{OnSaveWay, SaveGoesOn, AreKept, kept_ok, save_begins, save_goes_on, save_not_over}

-- the call ends as a frame of this point, with values of these kinds
record IsSealed (bodies : List Body) (c : MachineCall) (hand : List Value) (p : ℕ) (kinds : List Kind) : Type
    0 where
  steps : ℕ
  frame : Frame
  function_is : frame.function ≡ c.function
  point_is : frame.point ≡ p
  kinds_are : kinds_of frame.slots ≡ kinds
  ran : (rest : List MachineCall) (sack : List Frame)
      → repeat (save_step bodies) steps (saving (c ∷ rest) hand sack)
      ≡ Some (saving rest [] (sack ++ frame ∷ []))

module _ (bodies : List Body) (w : Body) (p : ℕ) (kinds : List Kind) where
  step_is : (c : MachineCall) (hand : List Value) → slice_get bodies c.function ≡ Some w
      → (rest : List MachineCall) (sack : List Frame)
      → save_step bodies (saving (c ∷ rest) hand sack)
      ≡ save_after (save_act (slice_get w.code c.place) c hand) rest sack
  step_is c hand found rest sack = ap (λ o. save_after (save_act (instruction_in o c.place) c hand) rest sack)
      found

  by_act : (n : ℕ) (c : MachineCall) (hand : List Value) (a : SaveAct) → SaveGoesOn w p kinds n c.function a
      → ((rest : List MachineCall) (sack : List Frame)
      → save_step bodies (saving (c ∷ rest) hand sack) ≡ save_after a rest sack)
      → ((c' : MachineCall) (hand' : List Value) → c'.function ≡ c.function → OnSaveWay w p kinds n c' hand'
      → IsSealed bodies c' hand' p kinds) → IsSealed bodies c hand p kinds
  by_act n c hand (Keeps c' hand') g step more =
      let r = more c' hand' g.0 g.1 in
      record {
        steps = suc r.steps;
        frame = r.frame;
        function_is = r.function_is ∙ g.0;
        point_is = r.point_is;
        kinds_are = r.kinds_are;
        ran = λ rest sack. first_then (save_step bodies) r.steps (saving (c ∷ rest) hand sack)
            (saving (c' ∷ rest) hand' sack) _ (step rest sack) (r.ran rest sack);
      }
  by_act n c hand (Seals fr) g step more =
      record {
        steps = 1;
        frame = fr;
        function_is = g.0;
        point_is = g.1;
        kinds_are = g.2;
        ran = λ rest sack. first_then (save_step bodies) 0 (saving (c ∷ rest) hand sack)
            (saving rest [] (sack ++ fr ∷ [])) _ (step rest sack) refl;
      }
  by_act n c hand NoSave g step more = absurd g

  sealed : (n : ℕ) (c : MachineCall) (hand : List Value) → slice_get bodies c.function ≡ Some w
      → OnSaveWay w p kinds n c hand → IsSealed bodies c hand p kinds
  sealed zero c hand found on = absurd (save_not_over w p kinds c hand on)
  sealed (suc n) c hand found on =
      by_act n c hand (save_act (slice_get w.code c.place) c hand) (save_goes_on w p kinds n c hand on)
      (step_is c hand found) (λ c' hand' same on'.
      sealed n c' hand' (ap (slice_get bodies) same ∙ found) on')

module _ (bodies : List Body) (ok : AreKept bodies) where
  sealed_at : (c : MachineCall) (k : ℕ) (callee : Option ℕ) (p : ℕ) (fit : IsAt bodies c k callee p) (x : ℕ)
      → x ≡ k + 1 → IsSealed bodies (at_place c x c.operands) [] p fit.point.kinds
  sealed_at c k callee p fit x e =
      sealed bodies fit.body p fit.point.kinds (length fit.body.code) (at_place c x c.operands) [] fit.found
      (save_begins bodies c k callee p fit x e (ok c.function fit.body fit.found))

  frame_fits : (c : MachineCall) (k : ℕ) (callee : Option ℕ) (p : ℕ) (fit : IsAt bodies c k callee p) (x : ℕ)
      (s : IsSealed bodies (at_place c x c.operands) [] p fit.point.kinds)
      → IsAtPoint (points_of bodies) callee s.frame
  frame_fits c k callee p fit x s =
      let found = ap (slice_get bodies) s.function_is ∙ fit.found in (
        fit.point,
        ap (λ o. body_point o s.frame.point) found ∙ ap (slice_get fit.body.points) s.point_is
            ∙ fit.mapped,
        fit.calls,
        s.kinds_are,
      )

  waits_sealed : (cs : List MachineCall) (h g : ℕ) (sack : List Frame) → WaitAtCalls bodies h cs g → (n : ℕ)
      × (frs : List Frame) × WaitFrames bodies h frs g
      × (repeat (save_step bodies) n (saving cs [] sack) ≡ Some (saving [] [] (sack ++ frs)))
  waits_sealed [] h g sack w = (0, [], w, ap (λ l. Some (saving [] [] l)) (sym (append-nil sack)))
  waits_sealed (c ∷ cs) h g sack w =
      let s = sealed_at c w.0 (Some g) w.1 w.3 c.place w.2 in
      let r = waits_sealed cs h c.function (sack ++ s.frame ∷ []) w.4 in
      let fit = frame_fits c w.0 (Some g) w.1 w.3 c.place s in
      let outer = subst (WaitFrames bodies h r.1) (sym s.function_is) r.2 in (
        s.steps + r.0,
        s.frame ∷ r.1,
        (fit, outer),
        both_then (save_step bodies) s.steps r.0
            (saving (c ∷ cs) [] sack) (saving cs [] (sack ++ s.frame ∷ [])) _ (s.ran cs sack)
            (r.3 ∙ ap (λ l. Some (saving [] [] l)) (append_assoc sack (s.frame ∷ []) r.1)),
      )

  -- saving a machine at a tick ends, with frames that fit
  tick_saves : (h : ℕ) (calls : List MachineCall) → RestAtTick bodies h calls → (frames : List Frame)
      × AreFrames (points_of bodies) h frames
      × ((n : ℕ) × (repeat (save_step bodies) n (begins_saving calls) ≡ Some (saving [] [] frames)))
  tick_saves h [] t = absurd t
  tick_saves h (c ∷ cs) t =
      let x = c.place + 1 in
      let s = sealed_at c c.place None t.0 t.1 x refl in
      let r = waits_sealed cs h c.function (s.frame ∷ []) t.2 in
      let fit = frame_fits c c.place None t.0 t.1 x s in
      let outer = subst (WaitFrames bodies h r.1) (sym s.function_is) r.2 in (
        s.frame ∷ r.1,
        are_frames bodies h s.frame r.1 fit
            outer,
        (
          s.steps + r.0,
          both_then (save_step bodies) s.steps r.0
              (saving (at_place c x c.operands ∷ cs) [] []) (saving cs [] (s.frame ∷ [])) _ (s.ran cs []) r.3,
        ),
      )

machine_saves : (bodies : List Body) → AreKept bodies → (h : ℕ) (m : Machine) → RestAtTick bodies h m.calls
    → (frames : List Frame) × AreFrames (points_of bodies) h frames × SaveRun bodies m frames (beside_of m)
machine_saves bodies ok h m rests =
    let r = tick_saves bodies ok h m.calls rests in
    let q = r.2 in (
      r.0,
      r.1,
      (
        q.0,
        runs_beside (save_step bodies) q.0 (beside_of m) (begins_saving m.calls)
            ∙ ap (option_map (whole (beside_of m))) q.1,
      ),
    )

pub woven_saves : WovenSaves
woven_saves globals states bodies ok h m rests =
    let r = machine_saves bodies (kept_ok globals states bodies ok) h m rests in
    (r.0, r.2)

-- it has one result, so all that it ends with fit
pub saved_frames_fit : SavedFramesFit
saved_frames_fit globals states bodies ok h m rests frames x s =
    let r = machine_saves bodies (kept_ok globals states bodies ok) h m rests in
    let same = one_saving bodies m r.0 frames (beside_of m) x r.2 s in
    subst (AreFrames (points_of bodies) h) same.0 r.1
