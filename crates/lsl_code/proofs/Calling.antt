-- Frames that fit are those of calls in which all kinds are right.
use Rattle.std.proofs.Common.{◌≡◌, ℕ, suc, ◌+◌, List, [], ◌∷◌, ◌++◌, length, take, drop, reverse, Option, Some, None, Bool, true, false, cond, refl, sym, ap, ◌∙◌, subst, slice_get}
use Rattle.std.specs.Prelude.{nat_eq}
use Rattle.std.proofs.lemmas.List.{take-append-drop, reverse-reverse}
use Rattle.std.proofs.Math.Seq.{drop-append_seam}
use Rattle.lsl_value.specs.Values.{kind_of}
use Rattle.lsl_value.specs.declared.tagged.Kind.{Kind}
use Rattle.lsl_value.specs.declared.tagged.Value.{Value}
use Rattle.lsl_code.specs.declared.frames.Frame.{Frame}
use Rattle.lsl_code.specs.declared.functions.Point.{Point}
use Rattle.lsl_code.specs.declared.functions.StateCode.{StateCode}
use Rattle.lsl_code.specs.declared.instructions.Instr.{Instr}
use Rattle.lsl_code.specs.declared.instructions.Instr.TheVariants.{Tick, Call}
use Rattle.lsl_code.specs.Bodies.{Body, instruction_in}
use Rattle.lsl_code.specs.Effects.{pushed}
use Rattle.lsl_code.specs.Fits.{count_of}
use Rattle.lsl_code.specs.FrameLaws.{FramesHaveCalls}
use Rattle.lsl_code.specs.Frames.{points_of, body_point, IsAtPoint, EndsIn, FitFrames}
use Rattle.lsl_code.specs.Kinded.{AreWaiting}
use Rattle.lsl_code.specs.Kinds.{kinds_of}
use Rattle.lsl_code.specs.Machine.{MachineCall, call_at}
use Rattle.lsl_code.specs.Standing.{AreChained, point_instr, Stands, Wait}
use Rattle.lsl_code.specs.WellFormed.{StandsWith, IsWellFormedUnit}
use Rattle.lsl_code.proofs.AtPoints.{HasMap, well_formed, some_map, tick_map, call_map}
use Rattle.lsl_code.proofs.Sames.{eq_is}
use Rattle.lsl_code.proofs.Stood.{map_length}
use Rattle.lsl_code.proofs.Taking.{kinds_reverse}
use Rattle.lsl_code.proofs.ValueKinds.{kinds_take, kinds_drop}

-- a point's instruction is somewhere in the code
abbrev pub Found : List Instr → ℕ → Type 0
Found code p = (k : ℕ) × (callee : Option ℕ) × (slice_get code k ≡ Some (point_instr callee p))

found_on : (i : Instr) (code : List Instr) (p : ℕ) → Found code p → Found (i ∷ code) p
found_on i code p f = (suc f.0, f.1, f.2)

tick_found : (b : Bool) (p q : ℕ) (code : List Instr) (n more : ℕ) → nat_eq p q ≡ b
    → cond b (suc more) more ≡ suc n
    → (more ≡ suc n → Found code p) → Found (Tick q ∷ code) p
tick_found true p q code n more e c go = (0, None, ap (λ x. Some (Tick x)) (sym (eq_is p q e)))
tick_found false p q code n more e c go = found_on (Tick q) code p (go c)

call_found : (b : Bool) (f p q : ℕ) (code : List Instr) (n more : ℕ) → nat_eq p q ≡ b
    → cond b (suc more) more ≡ suc n
    → (more ≡ suc n → Found code p) → Found (Call f q ∷ code) p
call_found true f p q code n more e c go = (0, Some f, ap (λ x. Some (Call f x)) (sym (eq_is p q e)))
call_found false f p q code n more e c go = found_on (Call f q) code p (go c)

pub found_in : (code : List Instr) (p n : ℕ) → count_of p code ≡ suc n → Found code p
found_in [] p n e = absurd cc
found_in (Tick q ∷ code) p n e =
    tick_found (nat_eq p q) p q code n (count_of p code) refl e (λ c. found_in code p n c)
found_in (Call f q ∷ code) p n e =
    call_found (nat_eq p q) f p q code n (count_of p code) refl e (λ c. found_in code p n c)
found_in (i ∷ code) p n e = found_on i code p (found_in code p n e)

-- a list of kinds that is two together, taken apart
front_kinds : (xs : List Value) (a b : List Kind) → kinds_of xs ≡ a ++ b → kinds_of (take (length a) xs) ≡ a
front_kinds xs a b e = kinds_take (length a) xs ∙ ap (take (length a)) e ∙ take_front a b
  where
    take_front : (a b : List Kind) → take (length a) (a ++ b) ≡ a
    take_front [] b = refl
    take_front (x ∷ a) b = ap (λ l. x ∷ l) (take_front a b)

back_kinds : (xs : List Value) (a b : List Kind) → kinds_of xs ≡ a ++ b → kinds_of (drop (length a) xs) ≡ b
back_kinds xs a b e = kinds_drop (length a) xs ∙ ap (drop (length a)) e ∙ drop-append_seam a b

-- the call of a frame, with its slots and its operands, at this place
abbrev call_of : Body → ℕ → Frame → MachineCall
call_of w place frame =
    call_at frame.function place (take (length w.slots) frame.slots)
    (reverse (drop (length w.slots) frame.slots))

same_some : {A : Type 0} (o : Option A) (x y : A) → o ≡ Some x → o ≡ Some y → x ≡ y
same_some o x y p q = cc

module _ (bodies : List Body) where
  -- its function is there, and so is its point
  record Homed (frame : Frame) (callee : Option ℕ) : Type 0 where
    pub body : Body
    pub found : slice_get bodies frame.function ≡ Some body
    pub point : Point
    pub mapped : slice_get body.points frame.point ≡ Some point
    pub calls : point.calls ≡ callee
    pub kinds : kinds_of frame.slots ≡ point.kinds

  homed : (frame : Frame) (callee : Option ℕ) → IsAtPoint (points_of bodies) callee frame → Homed frame callee
  homed frame callee at = by_body (slice_get bodies frame.function) refl at.1
    where
      by_body : (o : Option Body) → slice_get bodies frame.function ≡ o → body_point o frame.point ≡ Some at.0
          → Homed frame callee
      by_body None e m = absurd cc
      by_body (Some w) e m =
          record { body = w; found = e; point = at.0; mapped = m; calls = at.2; kinds = at.3 }

  -- the call of a frame at a point with these kinds of its map
  call_stands : (frame : Frame) (callee : Option ℕ) (place k : ℕ) (ks : List Kind) (at : Homed frame callee)
      → slice_get at.body.code k ≡ Some (point_instr callee frame.point)
      → kinds_of frame.slots ≡ at.body.slots ++ reverse ks
      → Stands bodies (call_of at.body place frame) k callee frame
      × (kinds_of (call_of at.body place frame).slots ≡ at.body.slots)
      × (kinds_of (call_of at.body place frame).operands ≡ ks)
  call_stands frame callee place k ks at here kinds =
      let n = length at.body.slots in
      let slots = front_kinds frame.slots at.body.slots (reverse ks) kinds in
      let behind = back_kinds frame.slots at.body.slots (reverse ks) kinds in (
        record {
          body = at.body;
          found = at.found;
          here = here;
          point = at.point;
          mapped = at.mapped;
          calls = at.calls;
          kinds = at.kinds;
          slots = sym (map_length kind_of (take n frame.slots)) ∙ ap length slots;
          function = refl;
          values =
              sym (take-append-drop n frame.slots)
              ∙ ap (λ l. take n frame.slots ++ l) (sym (reverse-reverse (drop n frame.slots)));
        },
        slots,
        kinds_reverse (drop n frame.slots) ∙ ap reverse behind ∙ reverse-reverse ks,
      )

  -- two points of one number are one
  map_is : (frame : Frame) (callee other : Option ℕ) (ks : List Kind) (at : Homed frame callee)
      → HasMap at.body.points frame.point other ks → (other ≡ callee) × (kinds_of frame.slots ≡ ks)
  map_is frame callee other ks at m =
      let same = same_some _ at.point m.point at.mapped m.mapped in
      (sym m.calls ∙ sym (ap (λ x. x.calls) same) ∙ at.calls, at.kinds ∙ ap (λ x. x.kinds) same ∙ m.kinds)

module _ (globals : List Value) (states : List StateCode) (bodies : List Body)
    (ok : IsWellFormedUnit globals states bodies) (h : ℕ) where
  -- the place of a frame's tick or call
  placed : (frame : Frame) (callee : Option ℕ) (at : Homed bodies frame callee)
      → (k : ℕ) × (slice_get at.body.code k ≡ Some (point_instr callee frame.point))
  placed frame callee at =
      let f = frame.function in
      let w = at.body in
      let p = frame.point in
      let once = (well_formed globals states bodies ok f w at.found).once p at.point at.mapped in
      let place = found_in w.code p 0 once in
      let m = some_map globals states bodies ok f w at.found place.0 p place.1 place.2 in
      let same = map_is bodies frame callee place.1 m.0 at m.1 in
      (place.0, place.2 ∙ ap (λ o. Some (point_instr o p)) same.0)

  -- calls that wait for a function, of these frames
  record Made (frames : List Frame) (g : ℕ) (callee : Body) : Type 0 where
    pub calls : List MachineCall
    pub wait : Wait bodies h calls frames g
    pub chain : AreChained bodies h g calls
    pub kinded : AreWaiting bodies callee.result calls

  -- the last frame before these is the handler's, if there are none
  abbrev Ends : List Frame → ℕ → Type 0
  Ends [] g = g ≡ h
  Ends (frame ∷ frames) g = Unit {0}

  ends : (frame : Frame) (frames : List Frame) → EndsIn h frame frames → Ends frames frame.function
  ends frame [] e = e
  ends frame (next ∷ frames) e = tt

  made : (frames : List Frame) (g : ℕ) (callee : Body) → slice_get bodies g ≡ Some callee → Ends frames g
      → FitFrames (points_of bodies) h (Some g) frames → Made frames g callee
  made [] g callee there e fit = record { calls = []; wait = e; chain = e; kinded = tt }
  made (frame ∷ frames) g callee there e fit =
      let at = homed bodies frame (Some g) fit.0.0 in
      let w = at.body in
      let place = placed frame (Some g) at in
      let k = place.0 in
      let m = call_map globals states bodies ok frame.function w at.found k frame.point g callee place.1
      there in
      let kinds = (map_is bodies frame (Some g) (Some g) (w.slots ++ reverse m.0) at m.1).1 in
      let c = call_of w (k + 1) frame in
      let one = call_stands bodies frame (Some g) (k + 1) k m.0 at place.1 kinds in
      let stands = subst (λ l. StandsWith w (k + 1) (pushed callee.result l)) (sym one.2) m.2 in
      let more = made frames frame.function w at.found (ends frame frames fit.0.1) fit.1 in
      record {
        calls = c ∷ more.calls;
        wait = (k, refl, one.0, more.wait);
        chain = ((w, k, frame.point, at.found, refl, place.1), more.chain);
        kinded = (w, at.found, (one.1, stands), more.kinded);
      }

pub frames_have_calls : FramesHaveCalls
frames_have_calls globals states bodies ok h [] fit = absurd fit
frames_have_calls globals states bodies ok h (frame ∷ frames) fit =
    let at = homed bodies frame None fit.0.0 in
    let w = at.body in
    let f = frame.function in
    let place = placed globals states bodies ok h frame None at in
    let k = place.0 in
    let stack = (well_formed globals states bodies ok f w at.found).stands k frame.point None place.1 in
    let m = tick_map globals states bodies ok f w at.found k frame.point stack.0 place.1 stack.1 in
    let kinds = (map_is bodies frame None None (w.slots ++ reverse stack.0) at m).1 in
    let c = call_of w k frame in
    let one = call_stands bodies frame None k k stack.0 at place.1 kinds in
    let stands = subst (StandsWith w k) (sym one.2) stack.1 in
    let more = made globals states bodies ok h frames f w at.found
    (ends globals states bodies ok h frame frames fit.0.1) fit.1 in (
      c ∷ more.calls,
      (one.0, more.wait),
      (w, at.found, (one.1, stands), more.kinded),
      more.chain,
      (frame.point, ap (λ o. instruction_in o k) at.found ∙ place.1),
    )
