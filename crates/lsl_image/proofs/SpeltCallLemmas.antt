-- Saved calls and what a script rests in, spelled.
use Rattle.std.proofs.Common.{◌≡◌, refl, sym, ap, subst, arith, eq-eqb, ℕ, ◌+◌, ◌<◌, ◌≤◌, ◌&&◌, nat_lt, nat_le, cond, List, [], ◌∷◌, ◌++◌, length, append_assoc, Bool, true, false, Option, Some, None, is_some, slice_get}
use Rattle.std.proofs.lemmas.Bool.{and_from}
use Rattle.std.proofs.lemmas.Bool.Decides.{nat_tests}
use Rattle.std.proofs.lemmas.List.{length-map, length_push}
use Rattle.std.proofs.lemmas.Option.{none-some, slice_get_within}
use Rattle.std.specs.List.{AllByRecursion}
use Rattle.lsl_value.specs.declared.tagged.Value.{Value}
use Rattle.lsl_running.specs.declared.ends.Fault.{Fault}
use Rattle.lsl_running.specs.declared.ends.Fault.TheVariants.{MathError, StackHeap, TooManyListens}
use Rattle.lsl_code.specs.declared.frames.Frame.{Frame}
use Rattle.lsl_code.specs.declared.functions.Point.{Point}
use Rattle.lsl_code.specs.declared.woven_units.Woven.{Woven as Code}
use Rattle.lsl_code.specs.Bodies.{Body as CodeBody}
use Rattle.lsl_code.specs.Weaves.{bodies_of}
use Rattle.lsl_code.specs.WovenBodies.{woven_body}
use Rattle.lsl_code.specs.Frames.{AreFrames, AreValid, EndsIn, FitFrames, IsAtPoint, body_point, parked_charge, points_of}
use Rattle.lsl_code.specs.Units.{handler_of}
use Rattle.lsl_post.specs.declared.parts.Rest.{Rest}
use Rattle.lsl_post.specs.declared.parts.Rest.TheVariants.{Idle, Saved, Dead}
use Rattle.lsl_post.specs.declared.parts.ScriptParts.{ScriptParts}
use Rattle.lsl_post.specs.Fitting.{CanRest}
use Rattle.lsl_bytes.specs.Fields.{u8_bytes, u16_bytes}
use Rattle.lsl_image.specs.declared.faults.ImageFault.TheVariants.{Body}
use Rattle.lsl_image.specs.Bytes.{calls_bytes, event_bytes, fault_number, frame_bytes, rest_bytes, values_bytes}
use Rattle.lsl_image.specs.Fits.{FitsFrame, FitsRest}
use Rattle.lsl_image.specs.Layout.{Ends, Refused, U16, U8, ◌>>=◌, values_of}
use Rattle.lsl_image.specs.Rest.{callee_of, dead_rest, ends_in, fault_numbered, frame, frame_at, frame_behind, frame_in, rest, same_callee, saved_calls, saved_rest}
use Rattle.lsl_image.specs.Valid.{HasFewCalls}
use Rattle.lsl_image.proofs.FrameLemmas.{callee-after}
use Rattle.lsl_image.proofs.SpeltEventLemmas.{event-spells, values-spells}
use Rattle.lsl_image.proofs.StandLemmas.{handled-stands}
use Rattle.lsl_image.proofs.SpeltLemmas.{GoodBehind, Spelt, good-cons, good-nil, spelt-as, spelt-ends, spelt-field, spelt-grown, spelt-here, spelt-last, spelt-tested, spelt-that, spelt-then}

callee-itself : (o : Option ℕ) → same_callee o o ≡ true
callee-itself None = refl
callee-itself (Some f) = eq-eqb f f refl

module _ (unit : Code) (handler : ℕ) where
  point-there : (function number : ℕ) (point : Point) → points_of (bodies_of unit) function number ≡ Some point
      → function < length unit.functions
  point-there function number point known = by (slice_get (bodies_of unit) function) refl known
    where
      by : (found : Option CodeBody) → slice_get (bodies_of unit) function ≡ found
          → body_point found number ≡ Some point → function < length unit.functions
      by None is known = absurd (none-some point known)
      by (Some code) is known =
          subst (λ (n : ℕ). function < n) (length-map unit.functions woven_body)
          (slice_get_within (bodies_of unit) function code is)

  ends-so : (more : Bool) (function : ℕ) → (more ≡ false → function ≡ handler)
      → ends_in (Some handler) more function ≡ true
  ends-so true function own = refl
  ends-so false function own = eq-eqb function handler (own refl)

  at-spells : (place number : ℕ) (callee : Option ℕ) (f : Frame) (point : Point) (p : ℕ) → f.point ≡ number
      → point.calls ≡ callee → Spelt (values_of point.kinds) p f.slots (values_bytes f.slots)
      → Spelt (frame_at place f.function number callee (Some point)) p f (values_bytes f.slots)
  at-spells place number callee f point p is calls s =
      let same : same_callee point.calls callee ≡ true =
      subst (λ (c : Option ℕ). same_callee point.calls c ≡ true) calls (callee-itself point.calls) in
      let made : Spelt (values_of point.kinds >>= λ slots. Ends (frame f.function number slots)) p f
      (values_bytes f.slots) =
      spelt-last _ s (spelt-ends (ap (λ (n : ℕ). frame f.function n f.slots) is)) in
      subst (λ (b : Bool). Spelt (cond b (values_of point.kinds >>= λ slots. Ends (frame f.function number slots))
      (Refused (Body place))) p f (values_bytes f.slots)) (sym same) made

  frame-spells : (more : Bool) (callee : Option ℕ) (f : Frame) (p : ℕ) → IsAtPoint (points_of (bodies_of unit)) callee f
      → (more ≡ false → f.function ≡ handler) → FitsFrame f
      → Spelt (frame_in unit (Some handler) more callee) p f (frame_bytes f)
  unfolding frame_in frame_bytes
  frame-spells more callee f p at own fits =
      let there = point-there f.function f.point at.0 at.1 in
      let test = and_from (nat_lt f.function (length unit.functions)) (ends_in (Some handler) more f.function)
      (grind (arith, nat_tests, there)) (ends-so more f.function own) in
      let q = p + length (u16_bytes f.function) in
      let r = q + length (u16_bytes f.point) in
      let known : Spelt (frame_at q f.function f.point callee (points_of (bodies_of unit) f.function f.point)) r f
      (values_bytes f.slots) =
      subst (λ (o : Option Point). Spelt (frame_at q f.function f.point callee o) r f (values_bytes f.slots)) (sym at.1)
      (at-spells q f.point callee f at.0 r refl at.2 (values-spells at.0.kinds f.slots r at.3 fits.slots)) in
      spelt-as (sym (append_assoc (u16_bytes f.function) (u16_bytes f.point) (values_bytes f.slots)))
      (spelt-then _ (spelt-that U16 (λ n. nat_lt n (length unit.functions) && ends_in (Some handler) more n) f.function
      fits.function test) (spelt-here _ (spelt-then _ (spelt-field U16 f.point fits.point) known)))

  abbrev Good : ℕ → List Frame → Frame → Type 0
  Good count before f = IsAtPoint (points_of (bodies_of unit)) (callee_of before) f
      × (nat_lt (length before + 1) count ≡ false → f.function ≡ handler) × FitsFrame f

  frames-good : (count : ℕ) (before frames : List Frame) → length before + length frames ≡ count
      → FitFrames (points_of (bodies_of unit)) handler (callee_of before) frames → AllByRecursion FitsFrame frames
      → GoodBehind (Good count) before frames
  frames-good count before [] all fit fits = good-nil (Good count) before
  frames-good count before (f ∷ frames) all fit fits =
      let callee : Some f.function ≡ callee_of (before ++ f ∷ []) = callee-after before (before ++ f ∷ []) f refl in
      good-cons (Good count) before f frames
      (fit.0.0, last frames f fit.0.1 (omega (arith, all)), fits.0)
      (frames-good count (before ++ f ∷ []) frames (omega (arith, all, length_push before f))
      (subst (λ (c : Option ℕ). FitFrames (points_of (bodies_of unit)) handler c frames) callee fit.1) fits.1)
    where
      last : (others : List Frame) (g : Frame) → EndsIn handler g others → length before + 1 + length others ≡ count
          → nat_lt (length before + 1) count ≡ false → g.function ≡ handler
      last [] g ends many none = ends
      last (next ∷ others) g ends many none = absurd (grind (arith, nat_tests, many, none))

  some-calls : (frames : List Frame) → AreFrames (points_of (bodies_of unit)) handler frames
      → (0 < length frames) × FitFrames (points_of (bodies_of unit)) handler None frames
  some-calls [] are = absurd are
  some-calls (f ∷ frames) are = (omega arith, are)

  pub calls-spells : (globals : List Value) (most : ℕ) (frames : List Frame) (p : ℕ)
      → AreValid (points_of (bodies_of unit)) handler globals most frames → length frames < 65536
      → AllByRecursion FitsFrame frames
      → Spelt (saved_calls unit globals most (Some handler)) p frames (calls_bytes frames)
  unfolding saved_calls calls_bytes
  calls-spells globals most frames p valid few fits =
      let some = some-calls frames valid.0 in
      let count = length frames in
      spelt-here _ (spelt-then _ (spelt-that U16 (λ n. nat_le 1 n) count few (grind (arith, nat_tests, some.0)))
      (spelt-last _ (spelt-grown (frame_behind unit (Some handler) count) frame_bytes (Good count)
      (λ before f q good. frame-spells (nat_lt (length before + 1) count) (callee_of before) f q good.0 good.1 good.2)
      frames _ (frames-good count [] frames (omega arith) some.1 fits))
      (spelt-tested (nat_le (parked_charge globals frames) most) p frames (grind (arith, nat_tests, valid.1)))))

fault-back : (f : Fault) → fault_numbered (fault_number f) ≡ f
fault-back MathError = refl
fault-back StackHeap = refl
fault-back TooManyListens = refl

fault-small : (f : Fault) → (1 ≤ fault_number f) × (fault_number f ≤ 3)
fault-small MathError = (omega arith, omega arith)
fault-small StackHeap = (omega arith, omega arith)
fault-small TooManyListens = (omega arith, omega arith)

module _ (unit : Code) (s : ScriptParts) where
  pub rest-spells : (r : Rest) (p : ℕ) → CanRest unit s.state s.leaving s.globals s.limit r → HasFewCalls r → FitsRest r
      → Spelt (rest unit s.state (is_some s.leaving) s.globals s.limit) p r (rest_bytes r)
  unfolding rest saved_rest dead_rest
  rest-spells Idle p may few fits =
      spelt-last _ (spelt-that U8 (λ n. nat_le n 2) 0 (omega arith) refl) (spelt-ends refl)
  rest-spells (Saved e frames) p may few fits =
      let q = p + length (u8_bytes 1) in
      let r = q + length (event_bytes e) in
      let calls : Spelt (saved_calls unit s.globals s.limit (handler_of unit.states s.state e.id)) r frames
      (calls_bytes frames) =
      subst (λ (h : Option ℕ). Spelt (saved_calls unit s.globals s.limit h) r frames (calls_bytes frames))
      (sym may.1.handled) (calls-spells unit may.0 s.globals s.limit frames r may.2 few fits.1) in
      spelt-as (sym (append_assoc (u8_bytes 1) (event_bytes e) (calls_bytes frames)))
      (spelt-then _ (spelt-that U8 (λ n. nat_le n 2) 1 (omega arith) refl)
      (spelt-then _ (event-spells unit s.state (is_some s.leaving) e q fits.0
      (handled-stands unit s.state (is_some s.leaving) e (ap is_some may.1.handled) may.1.exit))
      (spelt-last _ calls (spelt-ends refl))))
  rest-spells (Dead fault) p may few fits =
      let small = fault-small fault in
      spelt-then _ (spelt-that U8 (λ n. nat_le n 2) 2 (omega arith) refl)
      (spelt-last _ (spelt-that U8 (λ n. nat_le 1 n && nat_le n 3) (fault_number fault) (omega (arith, small.1))
      (and_from (nat_le 1 (fault_number fault)) (nat_le (fault_number fault) 3) (grind (arith, nat_tests, small.0))
      (grind (arith, nat_tests, small.1)))) (spelt-ends (ap Dead (sym (fault-back fault)))))
