-- Saved calls, read one after another.
use Rattle.std.proofs.Common.{◌≡◌, ◌∙◌, refl, subst, sym, ap, ℕ, ◌+◌, nat_lt, List, [], ◌∷◌, ◌++◌, length, true, false, Option, Some, None, Result}
use Rattle.lsl_text.specs.declared.Refusal.{Refusal}
use Rattle.lsl_code.specs.declared.frames.Frame.{Frame}
use Rattle.lsl_code.specs.declared.functions.Point.{Point}
use Rattle.lsl_code.specs.declared.woven_units.Woven.{Woven as Code}
use Rattle.lsl_image.specs.declared.faults.ImageFault.{ImageFault}
use Rattle.lsl_image.specs.declared.faults.ImageFault.TheVariants.{Body}
use Rattle.lsl_image.specs.Layout.{Layout, Ends, ◌>>=◌, values_of}
use Rattle.lsl_image.specs.Reading.{Faults, Reads}
use Rattle.lsl_image.specs.Rest.{callee_of, frame, frame_at, frame_behind, frame_in, same_callee}
use Rattle.lsl_image.specs.Leading.{Leads}

module _ (bytes : List ℕ) (place function number : ℕ) (callee : Option ℕ) (found : Option Point) (q : ℕ)
    (whole : Layout Frame) (start : ℕ) (leads : Leads bytes (frame_at place function number callee found) q
    (λ f. f) whole start) where
  pub frame-no_point : None ≡ found → Faults bytes whole start (Body place)
  frame-no_point none = leads.faults (Body place)
      (subst (λ (o : Option Point). Faults bytes (frame_at place function number callee o) q (Body place)) none
      refl)

  pub frame-refused : (point : Point) → Some point ≡ found → same_callee point.calls callee ≡ false
      → Faults bytes whole start (Body place)
  frame-refused point known bad =
      let refused : Faults bytes (frame_at place function number callee (Some point)) q (Body place) = rw bad refl in
      leads.faults (Body place) (subst (λ (o : Option Point).
      Faults bytes (frame_at place function number callee o) q (Body place)) known refused)

  pub frame-slots : (point : Point) → Some point ≡ found → same_callee point.calls callee ≡ true
      → Leads bytes (values_of point.kinds >>= λ slots. Ends (frame function number slots)) q (λ f. f) whole
      start
  frame-slots point known good =
      let at : Leads bytes (frame_at place function number callee (Some point)) q (λ f. f) whole start =
      subst (λ (o : Option Point). Leads bytes (frame_at place function number callee o) q (λ f. f) whole
      start) (sym known) leads in
      rw good at at

callee_of-push : (frames : List Frame) (f : Frame) → callee_of (frames ++ f ∷ []) ≡ Some f.function
callee_of-push [] f = refl
callee_of-push (g ∷ []) f = refl
callee_of-push (g ∷ h ∷ frames) f = callee_of-push (h ∷ frames) f

pub callee-after : (frames after : List Frame) (f : Frame) → after ≡ frames ++ f ∷ []
    → Some f.function ≡ callee_of after
callee-after frames after f same = sym (ap callee_of same ∙ callee_of-push frames f)

-- the frame after these
pub frame-behind : (bytes : List ℕ) (unit : Code) (handler : Option ℕ) (count i : ℕ) (callee : Option ℕ)
    (before : List Frame) (p : ℕ) (r : Result (Frame × ℕ) (Refusal ImageFault)) → length before ≡ i
    → callee ≡ callee_of before → Reads bytes (frame_in unit handler (nat_lt (i + 1) count) callee) p r
    → Reads bytes (frame_behind unit handler count before) p r
frame-behind bytes unit handler count i callee before p r many own h =
    let at : Reads bytes (frame_in unit handler (nat_lt (i + 1) count) (callee_of before)) p r =
    subst (λ (o : Option ℕ). Reads bytes (frame_in unit handler (nat_lt (i + 1) count) o) p r) own h in
    subst (λ (n : ℕ). Reads bytes (frame_in unit handler (nat_lt (n + 1) count) (callee_of before)) p r) (sym many) at
