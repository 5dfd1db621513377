-- Machines of a unit at a tick have valid frames.
use Rattle.std.proofs.Common.{◌≡◌, ℕ, suc, ◌+◌, ◌-◌, List, [], ◌∷◌, ◌++◌, length, map, reverse, Option, Some, None, refl, sym, ap, ap₂, ◌∙◌, subst, arith, slice_get}
use Rattle.lsl_value.specs.Values.{kind_of}
use Rattle.lsl_value.specs.declared.tagged.Kind.{Kind}
use Rattle.lsl_value.specs.declared.tagged.Value.{Value}
use Rattle.lsl_code.specs.declared.frames.Frame.{Frame}
use Rattle.lsl_code.specs.declared.functions.StateCode.{StateCode}
use Rattle.lsl_code.specs.declared.instructions.Instr.TheVariants.{Tick, Call}
use Rattle.lsl_code.specs.Bodies.{Body, instruction_in, instruction_at}
use Rattle.lsl_code.specs.Effects.{pushed}
use Rattle.lsl_code.specs.FrameLaws.{TicksHaveFrames, FramesFit}
use Rattle.lsl_code.specs.Frames.{point_in, frame_at, waiting_frame, frames_of, points_of, body_point, IsAtPoint, EndsIn, FitFrames}
use Rattle.lsl_code.specs.Kinded.{IsKindedCall, AreWaiting, AreKindedCalls}
use Rattle.lsl_code.specs.Kinds.{kinds_of}
use Rattle.lsl_code.specs.Machine.{MachineCall}
use Rattle.lsl_code.specs.Standing.{AreChained, IsChain, IsAtTick, point_instr, Stands, Wait, HasFrames}
use Rattle.lsl_code.specs.WellFormed.{StandsWith, IsWellFormedUnit}
use Rattle.lsl_code.proofs.AtPoints.{HasMap, pushed_one, one_stack, tick_map, call_map}
use Rattle.lsl_code.proofs.Taking.{kinds_reverse}
use Rattle.lsl_code.proofs.ValueKinds.{kinds_append}

pub map_length : {A B : Type 0} (f : A → B) (xs : List A) → length (map f xs) ≡ length xs
map_length f [] = refl
map_length f (x ∷ xs) = ap suc (map_length f xs)

point_is : (callee : Option ℕ) (p : ℕ) → point_in (Some (point_instr callee p)) ≡ p
point_is None p = refl
point_is (Some g) p = refl

same_body : (bodies : List Body) (f : ℕ) (a b : Body) → slice_get bodies f ≡ Some a
    → slice_get bodies f ≡ Some b → a ≡ b
same_body bodies f a b p q = cc

module _ (bodies : List Body) where
  -- the call of a frame at a point with its kinds in the map
  stands_with : (c : MachineCall) (k p : ℕ) (callee : Option ℕ) (w : Body) (ks : List Kind)
      → slice_get bodies c.function ≡ Some w → slice_get w.code k ≡ Some (point_instr callee p)
      → HasMap w.points p callee (w.slots ++ reverse ks) → kinds_of c.slots ≡ w.slots
      → kinds_of c.operands ≡ ks
      → Stands bodies c k callee (frame_at bodies k c)
  stands_with c k p callee w ks found here m slots operands =
      let values = c.slots ++ reverse c.operands in
      let e : point_in (instruction_at bodies c.function k) ≡ p =
      ap (λ o. point_in (instruction_in o k)) found ∙ ap point_in here ∙ point_is callee p in
      let kinds : kinds_of values ≡ w.slots ++ reverse ks =
      kinds_append c.slots (reverse c.operands)
      ∙ ap₂ (λ a b. a ++ b) slots (kinds_reverse c.operands ∙ ap reverse operands) in
      record {
        body = w;
        found = found;
        here = here ∙ ap (λ n. Some (point_instr callee n)) (sym e);
        point = m.point;
        mapped = ap (slice_get w.points) e ∙ m.mapped;
        calls = m.calls;
        kinds = kinds ∙ sym m.kinds;
        slots = sym (map_length kind_of c.slots) ∙ ap length slots;
        function = refl;
        values = refl;
      }

module _ (globals : List Value) (states : List StateCode) (bodies : List Body)
    (ok : IsWellFormedUnit globals states bodies) (h : ℕ) where
  waiting_stands : (c : MachineCall) (g k p : ℕ) (callee b w : Body) → slice_get bodies g ≡ Some callee
      → slice_get bodies c.function ≡ Some b → c.place ≡ k + 1 → slice_get b.code k ≡ Some (Call g p)
      → slice_get bodies c.function ≡ Some w → IsKindedCall w c (pushed callee.result (kinds_of c.operands))
      → Stands bodies c k (Some g) (waiting_frame bodies c)
  waiting_stands c g k p callee b w there found at here found' kinded =
      let same = same_body bodies c.function b w found found' in
      let here' : slice_get w.code k ≡ Some (Call g p) = ap (λ x. slice_get x.code k) (sym same) ∙ here in
      let m = call_map globals states bodies ok c.function w found' k p g callee here' there in
      let behind = subst (λ n. StandsWith w n (pushed callee.result (kinds_of c.operands))) at kinded.1 in
      let left = pushed_one callee.result _ _ (one_stack w (k + 1) _ _ behind m.2) in
      let z : k ≡ c.place - 1 = omega (arith, at) in
      subst (λ n. Stands bodies c k (Some g) (frame_at bodies n c)) z
      (stands_with bodies c k p (Some g) w m.0 found' here' m.1 kinded.0 left)

  waits_stand : (outer : List MachineCall) (g : ℕ) (callee : Body) → slice_get bodies g ≡ Some callee
      → AreChained bodies h g outer → AreWaiting bodies callee.result outer
      → Wait bodies h outer (map (waiting_frame bodies) outer) g
  waits_stand [] g callee there chain waits = chain
  waits_stand (c ∷ outer) g callee there chain waits =
      let b = chain.0.0 in
      let k = chain.0.1 in
      let p = chain.0.2 in (
        k,
        chain.0.4,
        waiting_stands c g k p callee b waits.0 there chain.0.3 chain.0.4 chain.0.5 waits.1 waits.2,
        waits_stand outer c.function waits.0 waits.1 chain.1 waits.3,
      )

pub ticks_have_frames : TicksHaveFrames
ticks_have_frames globals states bodies ok h m kinded chain tick = by_calls m.calls kinded.calls chain tick
  where
    by_calls : (calls : List MachineCall) → AreKindedCalls bodies calls → IsChain bodies h calls
        → IsAtTick bodies calls → HasFrames bodies h calls (frames_of bodies calls)
    by_calls [] kinded chain tick = absurd kinded
    by_calls (c ∷ outer) kinded chain tick =
        let w = kinded.0 in
        let here : slice_get w.code c.place ≡ Some (Tick tick.0) =
        sym (ap (λ o. instruction_in o c.place) kinded.1) ∙ tick.1 in
        let m = tick_map globals states bodies ok c.function w kinded.1 c.place tick.0
        (kinds_of c.operands) here kinded.2.1 in (
          stands_with bodies c c.place tick.0 None w (kinds_of c.operands) kinded.1 here m kinded.2.0 refl,
          waits_stand globals states bodies ok h outer c.function w kinded.1 chain kinded.3,
        )

module _ (bodies : List Body) (h : ℕ) where
  at_point : (c : MachineCall) (k : ℕ) (callee : Option ℕ) (frame : Frame) → Stands bodies c k callee frame
      → IsAtPoint (points_of bodies) callee frame
  at_point c k callee frame st = (
    st.point,
    ap (λ f. points_of bodies f frame.point) st.function ∙ ap (λ o. body_point o frame.point) st.found
        ∙ st.mapped,
    st.calls,
    st.kinds,
  )

  ends_in : (c : MachineCall) (frame : Frame) (outer : List MachineCall) (frames : List Frame)
      → frame.function ≡ c.function → Wait bodies h outer frames c.function → EndsIn h frame frames
  ends_in c frame [] [] e w = e ∙ w
  ends_in c frame [] (next ∷ frames) e w = absurd w
  ends_in c frame (d ∷ outer) [] e w = absurd w
  ends_in c frame (d ∷ outer) (next ∷ frames) e w = tt

  waits_fit : (outer : List MachineCall) (frames : List Frame) (g f : ℕ) → f ≡ g
      → Wait bodies h outer frames g
      → FitFrames (points_of bodies) h (Some f) frames
  waits_fit [] [] g f e w = tt
  waits_fit [] (frame ∷ frames) g f e w = absurd w
  waits_fit (c ∷ outer) [] g f e w = tt
  waits_fit (c ∷ outer) (frame ∷ frames) g f e w =
      let st : Stands bodies c w.0 (Some g) frame = w.2 in (
        (
          subst (λ n. IsAtPoint (points_of bodies) (Some n) frame) (sym e) (at_point c w.0 (Some g) frame st),
          ends_in c frame outer frames st.function w.3,
        ),
        waits_fit outer frames c.function frame.function st.function w.3,
      )

pub frames_fit : FramesFit
frames_fit bodies h [] frames w = absurd w
frames_fit bodies h (c ∷ outer) [] w = absurd w
frames_fit bodies h (c ∷ outer) (frame ∷ frames) w =
    let st : Stands bodies c c.place None frame = w.0 in (
      (at_point bodies h c c.place None frame st, ends_in bodies h c frame outer frames st.function w.1),
      waits_fit bodies h outer frames c.function frame.function st.function w.1,
    )
