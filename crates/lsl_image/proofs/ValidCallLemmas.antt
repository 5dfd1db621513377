-- Saved calls that are read are a handler's.
use Rattle.std.proofs.Common.{◌≡◌, ◌∙◌, refl, sym, ap, subst, arith, eqb-true, ℕ, zero, suc, ◌+◌, ◌<◌, ◌&&◌, ◌||◌, nat_eq, nat_lt, nat_le, cond, List, [], ◌∷◌, ◌++◌, length, append_assoc, length-append, Bool, true, false, Option, Some, None}
use Rattle.std.proofs.lemmas.Bool.{and_parts, false≢true, leb-true}
use Rattle.std.proofs.lemmas.Bool.Decides.{nat_tests}
use Rattle.std.proofs.lemmas.List.{append-nil, length_push}
use Rattle.lsl_value.specs.declared.tagged.Value.{Value}
use Rattle.lsl_code.specs.declared.frames.Frame.{Frame}
use Rattle.lsl_code.specs.declared.functions.Point.{Point}
use Rattle.lsl_code.specs.declared.woven_units.Woven.{Woven as Code}
use Rattle.lsl_code.specs.Weaves.{bodies_of}
use Rattle.lsl_code.specs.Frames.{AreFrames, AreValid, EndsIn, FitFrames, IsAtPoint, parked_charge, points_of}
use Rattle.lsl_image.specs.declared.faults.ImageFault.TheVariants.{Body}
use Rattle.lsl_image.specs.Layout.{Ends, Refused, U16, ◌>>=◌, grown, values_of}
use Rattle.lsl_image.specs.Rest.{callee_of, ends_in, frame, frame_at, frame_behind, frame_in, same_callee, saved_calls}
use Rattle.lsl_image.proofs.FrameLemmas.{callee-after}
use Rattle.lsl_image.proofs.GivenLemmas.{Given, ended, grown-long, split, tested-told, that-told}
use Rattle.lsl_image.proofs.ValidLemmas.{values-kinds_are}

callee-same : (a b : Option ℕ) → same_callee a b ≡ true → a ≡ b
callee-same None None same = refl
callee-same (Some f) (Some g) same = ap Some (eqb-true f g same)
callee-same None (Some g) same = absurd (false≢true same)
callee-same (Some f) None same = absurd (false≢true same)

module _ (bytes : List ℕ) (unit : Code) (handler : ℕ) where
  module _ (place function number : ℕ) (callee : Option ℕ) where
    test-point : (point : Point) → Some point ≡ points_of (bodies_of unit) function number → (b : Bool)
        → same_callee point.calls callee ≡ b → (p : ℕ) (f : Frame) (q : ℕ)
        → Given bytes (cond b (values_of point.kinds >>= λ slots. Ends (frame function number slots))
        (Refused (Body place))) p f q
        → (f.function ≡ function) × IsAtPoint (points_of (bodies_of unit)) callee f
    test-point point known true same p f q g =
        let s = split g in
        let is : f ≡ frame function number s.value = ended s.rest in
        let at : IsAtPoint (points_of (bodies_of unit)) callee (frame function number s.value) = (
          point,
          sym known,
          callee-same point.calls callee same,
          values-kinds_are bytes point.kinds p s.value s.middle s.first,
        ) in
        (ap (λ (x : Frame). x.function) is, subst (IsAtPoint (points_of (bodies_of unit)) callee) (sym is) at)
    test-point point known false other p f q g = absurd g.gives

    at-point : (found : Option Point) → found ≡ points_of (bodies_of unit) function number → (p : ℕ) (f : Frame) (q : ℕ)
        → Given bytes (frame_at place function number callee found) p f q
        → (f.function ≡ function) × IsAtPoint (points_of (bodies_of unit)) callee f
    at-point None known p f q g = absurd g.gives
    at-point (Some point) known p f q g = test-point point known (same_callee point.calls callee) refl p f q g

  -- a frame is at a point, and is the handler's if it is the last
  frame-told : (more : Bool) (callee : Option ℕ) (p : ℕ) (f : Frame) (q : ℕ)
      → Given bytes (frame_in unit (Some handler) more callee) p f q
      → IsAtPoint (points_of (bodies_of unit)) callee f × (more ≡ false → f.function ≡ handler)
  unfolding frame_in
  frame-told more callee p f q g =
      let first = split g in
      let placed = split first.rest in
      let numbered = split placed.rest in
      let test = that-told U16 (λ n. nat_lt n (length unit.functions) && ends_in (Some handler) more n) first.first in
      let ends = (and_parts (nat_lt first.value (length unit.functions)) (ends_in (Some handler) more first.value)
      test.holds).1 in
      let told = at-point placed.value first.value numbered.value callee
      (points_of (bodies_of unit) first.value numbered.value)
      refl numbered.middle f q numbered.rest in (
        told.1,
        λ last. told.0 ∙ eqb-true first.value handler
            (sym (ap (λ (b : Bool). b || nat_eq first.value handler) last) ∙ ends),
      )

  -- the frames after these
  frames-told : (count n : ℕ) (before : List Frame) (p : ℕ) (frames : List Frame) (q : ℕ) → length before + n ≡ count
      → Given bytes (grown n (frame_behind unit (Some handler) count) before) p frames q
      → (behind : List Frame) × (frames ≡ before ++ behind)
      × FitFrames (points_of (bodies_of unit)) handler (callee_of before) behind
  unfolding grown
  frames-told count zero before p frames q all g = ([], ended g ∙ sym (append-nil before), tt)
  frames-told count (suc n) before p frames q all g =
      let s = split g in
      let told = frame-told (nat_lt (length before + 1) count) (callee_of before) p s.value s.middle s.first in
      let others = frames-told count n (before ++ s.value ∷ []) s.middle frames q
      (omega (arith, all, length_push before s.value)) s.rest in
      let callee : callee_of (before ++ s.value ∷ []) ≡ Some s.value.function =
      sym (callee-after before (before ++ s.value ∷ []) s.value refl) in
      let long = grown-long (frame_behind unit (Some handler) count) n (before ++ s.value ∷ []) s.middle frames q s.rest
      in
      let fit : FitFrames (points_of (bodies_of unit)) handler (Some s.value.function) others.0 =
      subst (λ (c : Option ℕ). FitFrames (points_of (bodies_of unit)) handler c others.0) callee others.2 in (
        s.value ∷ others.0,
        others.1 ∙ append_assoc before (s.value ∷ []) others.0,
        (
          (
            told.0,
            last n others.0 s.value (λ none. told.1 (grind (arith, nat_tests, all, none)))
                (omega (arith, long, ap length others.1, length-append (before ++ s.value ∷ []) others.0)),
          ),
          fit,
        ),
      )
    where
      last : (n : ℕ) (behind : List Frame) (f : Frame) → (n ≡ 0 → f.function ≡ handler) → length behind ≡ n
          → EndsIn handler f behind
      last n [] f own many = own (omega (arith, many))
      last n (next ∷ behind) f own many = tt

  pub calls-valid : (globals : List Value) (most p : ℕ) (frames : List Frame) (q : ℕ)
      → Given bytes (saved_calls unit globals most (Some handler)) p frames q
      → AreValid (points_of (bodies_of unit)) handler globals most frames
  unfolding saved_calls
  calls-valid globals most p frames q g =
      let placed = split g in
      let counted = split placed.rest in
      let read = split counted.rest in
      let some = leb-true 1 counted.value (that-told U16 (λ n. nat_le 1 n) counted.first).holds in
      let test = tested-told (nat_le (parked_charge globals read.value) most) placed.value read.rest in
      let told = frames-told counted.value counted.value [] counted.middle read.value read.middle
      (omega arith) read.first in
      let long = grown-long (frame_behind unit (Some handler) counted.value) counted.value [] counted.middle read.value
      read.middle read.first in
      let fit : FitFrames (points_of (bodies_of unit)) handler None read.value =
      subst (FitFrames (points_of (bodies_of unit)) handler None) (sym told.1) told.2 in
      let valid : AreValid (points_of (bodies_of unit)) handler globals most read.value =
      (are read.value fit (omega (arith, long, some)), leb-true (parked_charge globals read.value) most test.holds) in
      subst (AreValid (points_of (bodies_of unit)) handler globals most) (sym test.same) valid
    where
      are : (fs : List Frame) → FitFrames (points_of (bodies_of unit)) handler None fs → 0 < length fs
          → AreFrames (points_of (bodies_of unit)) handler fs
      are [] fit few = absurd (omega (arith, few))
      are (f ∷ fs) fit few = fit
