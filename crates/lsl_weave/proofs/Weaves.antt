-- The woven code of a well-formed unit weaves.
use Rattle.std.proofs.Common.{◌≡◌, ℕ, List, [], ◌∷◌, map, Option, Some, None, true, option_map, refl, ap, ◌∙◌, subst, slice_get}
use Rattle.std.proofs.lemmas.Option.{slice_get-map}
use Rattle.lsl_value.specs.declared.tagged.Value.{Value}
use Rattle.lsl_code.specs.declared.frames.Frame.{Frame}
use Rattle.lsl_code.specs.declared.functions.StateCode.{StateCode}
use Rattle.lsl_code.specs.Bodies.{Body}
use Rattle.lsl_code.specs.Fits.{all_places}
use Rattle.lsl_code.specs.Frames.{AreFrames, body_point, points_of}
use Rattle.lsl_code.specs.Machine.{MachineCall}
use Rattle.lsl_code.specs.ModeRuns.{beside_of, SaveRun}
use Rattle.lsl_code.specs.Modes.{at_place}
use Rattle.lsl_code.specs.Standing.{point_instr, Stands, Wait, HasFrames}
use Rattle.lsl_code.specs.Units.{fits_unit, is_short}
use Rattle.lsl_code.specs.Weaves.{SavesFrames, RestoresFrames}
use Rattle.lsl_code.proofs.Calling.{frames_have_calls}
use Rattle.lsl_code.proofs.Stood.{frames_fit}
use Rattle.lsl_code.proofs.UnitTold.{fits_tells, woven_tells}
use Rattle.lsl_weave.specs.Layout.{shift, woven_code, woven_of, all_woven}
use Rattle.lsl_weave.specs.Lifting.{woven_place, lift_waiting, lift, lift_machine}
use Rattle.lsl_weave.specs.UnitLaws.{UnitsWeave}
use Rattle.lsl_weave.proofs.Besides.{machine_saved}
use Rattle.lsl_weave.proofs.Lift.{first, first_at}
use Rattle.lsl_weave.proofs.Made.{weaving_makes_woven}
use Rattle.lsl_weave.proofs.OneMachine.{frames_have_one_machine}
use Rattle.lsl_weave.proofs.Placing.{laid}
use Rattle.lsl_weave.proofs.Saved.{woven_found, waiting_at}
use Rattle.lsl_weave.proofs.Units.{machine_with, units_restore}

first_point : (b : Body) (callee : Option ℕ) (p : ℕ) → first b (point_instr callee p) ≡ point_instr callee p
first_point b None p = refl
first_point b (Some g) p = refl

body_points : (o : Option Body) (p : ℕ) → body_point (option_map woven_of o) p ≡ body_point o p
body_points None p = refl
body_points (Some b) p = refl

-- woven code has the points of the plain code
pub points_same : (bodies : List Body) → points_of (all_woven bodies) ≡ points_of bodies
points_same bodies =
    λ i f p. (ap (λ o. body_point o p) (slice_get-map woven_of bodies f)
    ∙ body_points (slice_get bodies f) p) i

module _ (bodies : List Body) where
  -- a call at a point is at that point in woven code
  stands_woven : (c : MachineCall) (k : ℕ) (callee : Option ℕ) (frame : Frame) (st : Stands bodies c k callee frame)
      (x place : ℕ) → x ≡ shift st.body k
      → Stands (all_woven bodies) (at_place c place c.operands) x callee frame
  stands_woven c k callee frame st x place e =
      let b = st.body in
      let i = point_instr callee frame.point in
      record {
        body = woven_of b;
        found = woven_found bodies c.function b st.found;
        here =
            ap (slice_get (woven_code b)) e
            ∙ first_at b (woven_code b) (shift b k) k i ((laid b).mains k i st.here)
            ∙ ap Some (first_point b callee frame.point);
        point = st.point;
        mapped = st.mapped;
        calls = st.calls;
        kinds = st.kinds;
        slots = st.slots;
        function = st.function;
        values = st.values;
      }

  waits_woven : (h : ℕ) (cs : List MachineCall) (frames : List Frame) (g : ℕ) → Wait bodies h cs frames g
      → Wait (all_woven bodies) h (map (lift_waiting bodies) cs) frames g
  waits_woven h [] [] g w = w
  waits_woven h [] (frame ∷ frames) g w = absurd w
  waits_woven h (c ∷ cs) [] g w = absurd w
  waits_woven h (c ∷ cs) (frame ∷ frames) g w =
      let st : Stands bodies c w.0 (Some g) frame = w.2 in (
        shift st.body w.0,
        waiting_at bodies c w.0 st.body st.found w.1,
        stands_woven c w.0 (Some g) frame st (shift st.body w.0) _ refl,
        waits_woven h cs frames c.function w.3,
      )

  pub frames_woven : (h : ℕ) (cs : List MachineCall) (frames : List Frame) → HasFrames bodies h cs frames
      → HasFrames (all_woven bodies) h (lift bodies cs) frames
  frames_woven h [] frames w = absurd w
  frames_woven h (c ∷ cs) [] w = absurd w
  frames_woven h (c ∷ cs) (frame ∷ frames) w =
      let st : Stands bodies c c.place None frame = w.0 in (
        stands_woven c c.place None frame st _ _ (ap (λ o. woven_place o c.place) st.found),
        waits_woven h cs frames c.function w.1,
      )

module _ (globals : List Value) (states : List StateCode) (bodies : List Body)
    (fits : fits_unit globals states bodies ≡ true) where
  fit_plain : (h : ℕ) (frames : List Frame) → AreFrames (points_of (all_woven bodies)) h frames
      → AreFrames (points_of bodies) h frames
  fit_plain h frames fit = subst (λ points. AreFrames points h frames) (points_same bodies) fit

  restores : RestoresFrames (all_woven bodies)
  restores h frames x fit =
      let r = units_restore globals states bodies fits h frames x (fit_plain h frames fit) in
      (lift_machine bodies r.0, r.6.0, frames_woven bodies h r.0.calls frames r.2, r.6.1, r.6.2)

  module _ (short : all_places (λ f w. is_short w) 0 (all_woven bodies) ≡ true) where
    saves : SavesFrames (all_woven bodies)
    saves h m frames has =
        let plain = (fits_tells globals states bodies fits).0 in
        let woven = woven_tells globals states (all_woven bodies)
        (weaving_makes_woven globals states bodies fits short) in
        let fit = fit_plain h frames (frames_fit (all_woven bodies) h m.calls frames has) in
        let calls = frames_have_calls globals states bodies plain h frames fit in
        let same = frames_have_one_machine globals states (all_woven bodies) woven h (lift bodies calls.0) m.calls
        frames (frames_woven bodies h calls.0 frames calls.1) has in
        subst (λ l. SaveRun (all_woven bodies) (machine_with l (beside_of m)) frames (beside_of m)) same
        (machine_saved bodies h (machine_with calls.0 (beside_of m)) frames calls.1)

pub units_weave : UnitsWeave
units_weave globals states bodies fits short =
    record {
      saves = saves globals states bodies fits short;
      restores = restores globals states bodies fits;
    }
