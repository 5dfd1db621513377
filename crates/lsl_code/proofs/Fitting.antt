-- Frames from the one of a number on, and all frames.
use Rattle.std.proofs.Common.{◌≡◌, ◌↔◌, ℕ, zero, suc, ◌+◌, ◌<◌, List, [], ◌∷◌, length, drop, get_or, Option, Some, None, Bool, false, sym, ap, ◌∙◌, subst, arith}
use Rattle.std.proofs.Math.Seq.{drop-cons}
use Rattle.std.specs.Prelude.{IsTrue, slice_get}
use Rattle.lsl_code.specs.declared.frames.Frame.{Frame}
use Rattle.lsl_code.specs.Frames.{Points, FitsFrame, FitFrames, FirstUnfit}

pub one_off : {A : Type 0} (xs : List A) (i : ℕ) (x : A) → i < length xs → x ≡ get_or xs i x
    → drop i xs ≡ x ∷ drop (i + 1) xs
one_off xs i x lt is =
    let z : suc i ≡ i + 1 = omega arith in
    drop-cons xs i x lt ∙ ap (λ y. y ∷ drop (suc i) xs) (sym is) ∙ ap (λ n. x ∷ drop n xs) z

pub off_at : {A : Type 0} (xs : List A) (i : ℕ) (x : A) → slice_get xs i ≡ Some x → drop i xs ≡ x ∷ drop (i + 1) xs
off_at [] i x is = absurd cc
off_at (y ∷ xs) zero x is = let same : y ≡ x = cc in ap (λ z. z ∷ xs) same
off_at (y ∷ xs) (suc i) x is =
    let more : suc (i + 1) ≡ suc i + 1 = omega arith in
    off_at xs i x is ∙ ap (λ n. x ∷ drop n (y ∷ xs)) more

module _ (points : Points) (handler : ℕ) (callee : Option ℕ) (whole : List Frame) (i : ℕ) (frame : Frame)
    (outer : List Frame) where
  -- what holds of the frames from here on holds of all
  abbrev From : Option ℕ → ℕ → List Frame → Type 0
  From callee i left =
      (FitFrames points handler callee left → FitFrames points handler None whole)
      × ((n : ℕ) → FirstUnfit points handler callee left n → FirstUnfit points handler None whole (i + n))

  pub unfit_here : drop i whole ≡ frame ∷ outer → From callee i (drop i whole)
      → (FitsFrame points handler callee frame outer → ⊥) → FirstUnfit points handler None whole i
  unfit_here e from unfit =
      let z : i + 0 ≡ i = omega arith in
      subst (FirstUnfit points handler None whole) z
      (from.1 0 (subst (λ l. FirstUnfit points handler callee l 0) (sym e) unfit))

  pub fit_on : drop i whole ≡ frame ∷ outer → From callee i (drop i whole)
      → FitsFrame points handler callee frame outer
      → From (Some frame.function) (i + 1) outer
  fit_on e from fit = (
    (λ more. from.0 (subst (FitFrames points handler callee) (sym e) (fit, more))),
    (λ n h. let z : i + suc n ≡ i + 1 + n = omega arith in
        subst (FirstUnfit points handler None whole) z
        (from.1 (suc n) (subst (λ l. FirstUnfit points handler callee l (suc n)) (sym e) (fit, h)))),
  )

-- what a test that failed says
pub refuted : (b : Bool) (P : Type 0) → IsTrue b ↔ P → b ≡ false → P → ⊥
refuted b P iff e p = absurd (cc (iff.1 p, e))
