-- Frames are those of one list of calls.
use Rattle.std.proofs.Common.{◌≡◌, ℕ, ◌+◌, ◌-◌, List, [], ◌∷◌, ◌++◌, length, take, drop, map, reverse, Option, Some, None, refl, sym, ap, ap₂, ◌∙◌, subst, arith, slice_get}
use Rattle.std.proofs.Math.Seq.{take-append_seam, drop-append_seam}
use Rattle.std.proofs.lemmas.List.{reverse-reverse}
use Rattle.lsl_value.specs.declared.tagged.Value.{Value}
use Rattle.lsl_code.specs.declared.frames.Frame.{Frame}
use Rattle.lsl_code.specs.declared.functions.StateCode.{StateCode}
use Rattle.lsl_code.specs.Bodies.{Body, instruction_in, instruction_at}
use Rattle.lsl_code.specs.Frames.{point_in, frame_at, waiting_frame}
use Rattle.lsl_code.specs.Machine.{MachineCall, call_at}
use Rattle.lsl_code.specs.Saving.{frame_of}
use Rattle.lsl_code.specs.Standing.{point_instr, Stands, Wait}
use Rattle.lsl_code.specs.WellFormed.{IsWellFormedUnit}
use Rattle.lsl_weave.specs.Layout.{place_of}
use Rattle.lsl_weave.specs.WovenLaws.{FramesHaveOneMachine, FramesAreTold}
use Rattle.lsl_weave.proofs.OnePlaced.{one_placed}

-- of two lists that are one together, the parts of equal lengths are equal
front_one : {A : Type 0} (a b x y : List A) → length a ≡ length b → a ++ x ≡ b ++ y → a ≡ b
front_one a b x y n e =
    sym (take-append_seam a x) ∙ ap (take (length a)) e ∙ ap (λ k. take k (b ++ y)) n ∙ take-append_seam b y

back_one : {A : Type 0} (a b x y : List A) → length a ≡ length b → a ++ x ≡ b ++ y → x ≡ y
back_one a b x y n e =
    sym (drop-append_seam a x) ∙ ap (drop (length a)) e ∙ ap (λ k. drop k (b ++ y)) n ∙ drop-append_seam b y

call_one : (c d : MachineCall) → c.function ≡ d.function → c.place ≡ d.place → c.slots ≡ d.slots
    → c.operands ≡ d.operands → c ≡ d
call_one c d f p s o = λ i. call_at (f i) (p i) (s i) (o i)

module _ (globals : List Value) (states : List StateCode) (bodies : List Body)
    (ok : IsWellFormedUnit globals states bodies) where
  module _ (c d : MachineCall) (k l : ℕ) (callee : Option ℕ) (frame : Frame)
      (a : Stands bodies c k callee frame) (b : Stands bodies d l callee frame) where
    function_same : c.function ≡ d.function
    function_same = sym a.function ∙ b.function

    body_same : a.body ≡ b.body
    body_same = one_of (slice_get bodies d.function) a.body b.body
        (ap (slice_get bodies) (sym function_same) ∙ a.found) b.found
      where
        one_of : (o : Option Body) (x y : Body) → o ≡ Some x → o ≡ Some y → x ≡ y
        one_of o x y p q = cc

    place_same : k ≡ l
    place_same =
        sym (one_placed globals states bodies ok c.function a.body a.found k frame.point callee a.here)
        ∙ ap (λ w. place_of frame.point w.code) body_same
        ∙ one_placed globals states bodies ok d.function b.body b.found l frame.point callee b.here

    long_same : length c.slots ≡ length d.slots
    long_same = a.slots ∙ ap (λ w. length w.slots) body_same ∙ sym b.slots

    values_same : c.slots ++ reverse c.operands ≡ d.slots ++ reverse d.operands
    values_same = sym a.values ∙ b.values

    stands_one : c.place ≡ d.place → c ≡ d
    stands_one place =
        let left = back_one c.slots d.slots (reverse c.operands) (reverse d.operands) long_same values_same in
        call_one c d function_same place (front_one c.slots d.slots _ _ long_same values_same)
        (sym (reverse-reverse c.operands) ∙ ap reverse left ∙ reverse-reverse d.operands)

  waits_one : (h : ℕ) (cs ds : List MachineCall) (frames : List Frame) (g j : ℕ) → g ≡ j
      → Wait bodies h cs frames g → Wait bodies h ds frames j → cs ≡ ds
  waits_one h [] [] [] g j e x y = refl
  waits_one h [] [] (frame ∷ frames) g j e x y = absurd x
  waits_one h [] (d ∷ ds) [] g j e x y = absurd y
  waits_one h [] (d ∷ ds) (frame ∷ frames) g j e x y = absurd x
  waits_one h (c ∷ cs) ds [] g j e x y = absurd x
  waits_one h (c ∷ cs) [] (frame ∷ frames) g j e x y = absurd y
  waits_one h (c ∷ cs) (d ∷ ds) (frame ∷ frames) g j e x y =
      let a : Stands bodies c x.0 (Some g) frame = x.2 in
      let b : Stands bodies d y.0 (Some g) frame = subst (λ n. Stands bodies d y.0 (Some n) frame) (sym e) y.2 in
      let place : c.place ≡ d.place =
      x.1 ∙ ap (λ n. n + 1) (place_same c d x.0 y.0 (Some g) frame a b) ∙ sym y.1 in
      ap₂ (λ v l. v ∷ l) (stands_one c d x.0 y.0 (Some g) frame a b place)
      (waits_one h cs ds frames c.function d.function (function_same c d x.0 y.0 (Some g) frame a b) x.3 y.3)

pub frames_have_one_machine : FramesHaveOneMachine
frames_have_one_machine globals states bodies ok h [] ds frames x y = absurd x
frames_have_one_machine globals states bodies ok h (c ∷ cs) [] frames x y = absurd y
frames_have_one_machine globals states bodies ok h (c ∷ cs) (d ∷ ds) [] x y = absurd x
frames_have_one_machine globals states bodies ok h (c ∷ cs) (d ∷ ds) (frame ∷ frames) x y =
    let a : Stands bodies c c.place None frame = x.0 in
    let b : Stands bodies d d.place None frame = y.0 in
    let place = place_same globals states bodies ok c d c.place d.place None frame a b in
    ap₂ (λ v l. v ∷ l) (stands_one globals states bodies ok c d c.place d.place None frame a b place)
    (waits_one globals states bodies ok h cs ds frames c.function d.function
    (function_same globals states bodies ok c d c.place d.place None frame a b) x.1 y.1)

point_is : (callee : Option ℕ) (p : ℕ) → point_in (Some (point_instr callee p)) ≡ p
point_is None p = refl
point_is (Some g) p = refl

module _ (bodies : List Body) where
  frame_told : (c : MachineCall) (k : ℕ) (callee : Option ℕ) (frame : Frame) → Stands bodies c k callee frame
      → frame ≡ frame_at bodies k c
  frame_told c k callee frame st =
      let p : frame.point ≡ point_in (instruction_at bodies c.function k) =
      sym (point_is callee frame.point)
      ∙ sym (ap (λ o. point_in (instruction_in o k)) st.found ∙ ap point_in st.here) in
      λ i. frame_of (st.function i) (p i) (st.values i)

  waits_told : (h : ℕ) (cs : List MachineCall) (frames : List Frame) (g : ℕ) → Wait bodies h cs frames g
      → frames ≡ map (waiting_frame bodies) cs
  waits_told h [] [] g w = refl
  waits_told h [] (frame ∷ frames) g w = absurd w
  waits_told h (c ∷ cs) [] g w = absurd w
  waits_told h (c ∷ cs) (frame ∷ frames) g w =
      let z : w.0 ≡ c.place - 1 = omega (arith, w.1) in
      ap₂ (λ x l. x ∷ l) (frame_told c w.0 (Some g) frame w.2 ∙ ap (λ n. frame_at bodies n c) z)
      (waits_told h cs frames c.function w.3)

pub frames_are_told : FramesAreTold
frames_are_told bodies h [] frames w = absurd w
frames_are_told bodies h (c ∷ cs) [] w = absurd w
frames_are_told bodies h (c ∷ cs) (frame ∷ frames) w =
    ap₂ (λ x l. x ∷ l) (frame_told bodies c c.place None frame w.0) (waits_told bodies h cs frames c.function w.1)
