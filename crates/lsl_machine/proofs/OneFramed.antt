-- Frames are those of one list of calls at most.
use Rattle.std.proofs.Common.{◌≡◌, ◌∙◌, refl, sym, ap, subst, arith, ℕ, ◌+◌, List, [], ◌∷◌, ◌++◌, length, reverse, Option, Some, None}
use Rattle.std.specs.Prelude.{slice_get}
use Rattle.std.proofs.lemmas.List.{reverse-reverse}
use Rattle.lsl_value.specs.declared.tagged.Value.{Value}
use Rattle.lsl_code.specs.declared.frames.Frame.{Frame}
use Rattle.lsl_code.specs.Bodies.{Body}
use Rattle.lsl_code.specs.Machine.{MachineCall, call_at}
use Rattle.lsl_code.specs.Standing.{Stands, Wait, HasFrames}
use Rattle.lsl_weave.specs.Lifting.{AreOnePlaced}

tails_same : (a b : Value) (xs ys : List Value) → a ∷ xs ≡ b ∷ ys → (a ≡ b) × (xs ≡ ys)
tails_same a b xs ys e = let h : a ≡ b = cc in let t : xs ≡ ys = cc in (h, t)

parts_same : (xs ys : List Value) (vs ws : List Value) → length xs ≡ length ys → xs ++ vs ≡ ys ++ ws
    → (xs ≡ ys) × (vs ≡ ws)
parts_same [] [] vs ws len e = (refl, e)
parts_same [] (y ∷ ys) vs ws len e = absurd (omega arith)
parts_same (x ∷ xs) [] vs ws len e = absurd (omega arith)
parts_same (x ∷ xs) (y ∷ ys) vs ws len e =
    let t = tails_same x y (xs ++ vs) (ys ++ ws) e in
    let r = parts_same xs ys vs ws (omega arith) t.1 in
    (ap (λ a. a ∷ xs) t.0 ∙ ap (λ l. y ∷ l) r.0, r.1)

call_same : (c d : MachineCall) → c.function ≡ d.function → c.place ≡ d.place → c.slots ≡ d.slots
    → c.operands ≡ d.operands → c ≡ d
call_same c d f p s o =
    ap (λ x. call_at x c.place c.slots c.operands) f ∙ ap (λ x. call_at d.function x c.slots c.operands) p
    ∙ ap (λ x. call_at d.function d.place x c.operands) s ∙ ap (λ x. call_at d.function d.place d.slots x) o

module _ (bodies : List Body) (one : AreOnePlaced bodies) where
  same_stand : (c d : MachineCall) (k j : ℕ) (callee : Option ℕ) (fr : Frame) → Stands bodies c k callee fr
      → Stands bodies d j callee fr → (k ≡ j) × (c.function ≡ d.function) × (c.slots ≡ d.slots)
      × (c.operands ≡ d.operands)
  same_stand c d k j callee fr s t =
      let function : c.function ≡ d.function = sym s.function ∙ t.function in
      let found : slice_get bodies c.function ≡ Some t.body = ap (slice_get bodies) function ∙ t.found in
      let body : s.body ≡ t.body = cc (s.found, found) in
      let len : length c.slots ≡ length d.slots = s.slots ∙ ap (λ (b : Body). length b.slots) body ∙ sym t.slots in
      let parts = parts_same c.slots d.slots (reverse c.operands) (reverse d.operands) len (sym s.values ∙ t.values)
      in
      let operands = sym (reverse-reverse c.operands) ∙ ap reverse parts.1 ∙ reverse-reverse d.operands in
      let place = sym (one c.function s.body s.found k fr.point callee s.here)
      ∙ one c.function s.body s.found j fr.point callee
      (ap (λ (b : Body). slice_get b.code j) body ∙ t.here) in
      (place, function, parts.0, operands)

  waits_same : (calls others : List MachineCall) (frames : List Frame) (h g : ℕ) → Wait bodies h calls frames g
      → Wait bodies h others frames g → calls ≡ others
  waits_same [] [] [] h g v w = refl
  waits_same [] (d ∷ others) [] h g v w = absurd w
  waits_same (c ∷ calls) others [] h g v w = absurd v
  waits_same [] others (fr ∷ frames) h g v w = absurd v
  waits_same (c ∷ calls) [] (fr ∷ frames) h g v w = absurd w
  waits_same (c ∷ calls) (d ∷ others) (fr ∷ frames) h g v w =
      let s = same_stand c d v.0 w.0 (Some g) fr v.2 w.2 in
      let place : c.place ≡ d.place = v.1 ∙ ap (λ k. k + 1) s.0 ∙ sym w.1 in
      let first = call_same c d s.1 place s.2 s.3 in
      let rest = waits_same calls others frames h c.function v.3
      (subst (λ f. Wait bodies h others frames f) (sym s.1) w.3) in
      ap (λ x. x ∷ calls) first ∙ ap (λ l. d ∷ l) rest

  -- two lists of calls that have the same frames are the same
  pub frames_same : (calls others : List MachineCall) (frames : List Frame) (h : ℕ)
      → HasFrames bodies h calls frames → HasFrames bodies h others frames → calls ≡ others
  frames_same [] others frames h v w = absurd v
  frames_same (c ∷ calls) [] frames h v w = absurd w
  frames_same (c ∷ calls) (d ∷ others) [] h v w = absurd v
  frames_same (c ∷ calls) (d ∷ others) (fr ∷ frames) h v w =
      let s = same_stand c d c.place d.place None fr v.0 w.0 in
      let first = call_same c d s.1 s.0 s.2 s.3 in
      let rest = waits_same calls others frames h c.function v.1
      (subst (λ f. Wait bodies h others frames f) (sym s.1) w.1) in
      ap (λ x. x ∷ calls) first ∙ ap (λ l. d ∷ l) rest
