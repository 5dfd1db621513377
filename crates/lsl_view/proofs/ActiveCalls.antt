-- The frames of a machine at a tick are shown as its active calls are.
use Rattle.std.proofs.Common.{◌≡◌, ◌∙◌, refl, sym, ap, arith, ℕ, ◌-◌, zero, suc, List, [], ◌∷◌, ◌++◌, length, take, get_or, reverse, Option, Some, None, slice_get}
use Rattle.std.specs.Prelude.{map, option_map}
use Rattle.std.proofs.lemmas.List.{take-append-le, take_all}
use Rattle.std.proofs.lemmas.Option.{slice_get-map}
use Rattle.lsl_value.specs.declared.tagged.Value.{Value}
use Rattle.lsl_code.specs.declared.frames.Frame.{Frame}
use Rattle.lsl_code.specs.declared.instructions.Instr.{Instr}
use Rattle.lsl_code.specs.declared.woven_functions.WovenCode.{WovenCode}
use Rattle.lsl_code.specs.Bodies.{Body, instruction_in}
use Rattle.lsl_code.specs.Machine.{MachineCall}
use Rattle.lsl_code.specs.Naming.{function_name, line_of, lines_in as lines_of_code, name_in}
use Rattle.lsl_code.specs.Standing.{HasFrames, Stands, Wait, point_instr}
use Rattle.lsl_code.specs.Wholes.{active_at, active_calls, line_in, lines_in, waiting_call, with_line}
use Rattle.lsl_code.specs.WovenBodies.{woven_body}
use Rattle.lsl_view.specs.Calls.{shown_frame, slot_count, slots_in}
use Rattle.lsl_view.specs.Lines.{ShownCall}
use Rattle.lsl_view.specs.Names.{name_of}
use Rattle.lsl_view.specs.Source.{shown_call}

named : (functions : List WovenCode) (n : ℕ) → get_or (map name_of functions) n [] ≡ name_in (slice_get functions n)
named [] n = refl
named (f ∷ functions) zero = refl
named (f ∷ functions) (suc n) = named functions n

-- a function and its body have the same lines, and as many slots
lines_same : (o : Option WovenCode) → lines_in (option_map woven_body o) ≡ lines_of_code o
lines_same None = refl
lines_same (Some f) = refl

slots_same : (o : Option WovenCode) (body : Body) → option_map woven_body o ≡ Some body → slots_in o ≡ length body.slots
slots_same None body e = absurd cc
slots_same (Some f) body e = let same : woven_body f ≡ body = cc in ap (λ (b : Body). length b.slots) same

line_of_point : (lines : List ℕ) (callee : Option ℕ) (p : ℕ)
    → line_in (Some (with_line lines (point_instr callee p))) ≡ get_or lines p 0
line_of_point lines None p = refl
line_of_point lines (Some g) p = refl

front : (n : ℕ) (xs ys : List Value) → length xs ≡ n → take n (xs ++ ys) ≡ xs
front n xs ys e = take-append-le n xs ys (omega (arith, e)) ∙ take_all n xs (omega (arith, e))

module _ (functions : List WovenCode) (names : List (List ℕ)) (same : map name_of functions ≡ names) where
  found-is : (n : ℕ) → slice_get (map woven_body functions) n ≡ option_map woven_body (slice_get functions n)
  found-is n = slice_get-map woven_body functions n

  line-is : (c : MachineCall) (k : ℕ) (callee : Option ℕ) (frame : Frame)
      → Stands (map woven_body functions) c k callee frame
      → line_of functions frame.function frame.point ≡ (active_at (map woven_body functions) k c).line
  line-is c k callee frame s =
      let lines = lines_in (slice_get (map woven_body functions) c.function) in
      let here : instruction_in (slice_get (map woven_body functions) c.function) k
      ≡ Some (point_instr callee frame.point) =
      ap (λ (o : Option Body). instruction_in o k) s.found ∙ s.here in
      ap (λ (f : ℕ). line_of functions f frame.point) s.function
      ∙ ap (λ (l : List ℕ). get_or l frame.point 0)
      (sym (ap (λ (o : Option Body). lines_in o) (found-is c.function) ∙ lines_same (slice_get functions c.function)))
      ∙ sym (line_of_point lines callee frame.point)
      ∙ ap (λ (o : Option Instr). line_in (option_map (with_line lines) o)) (sym here)

  slots-are : (c : MachineCall) (k : ℕ) (callee : Option ℕ) (frame : Frame)
      → Stands (map woven_body functions) c k callee frame
      → take (slot_count functions frame.function) frame.slots ≡ c.slots
  slots-are c k callee frame s =
      let count : slot_count functions c.function ≡ length s.body.slots =
      slots_same (slice_get functions c.function) s.body (sym (found-is c.function) ∙ s.found) in
      ap (λ (f : ℕ). take (slot_count functions f) frame.slots) s.function
      ∙ ap (take (slot_count functions c.function)) s.values
      ∙ front (slot_count functions c.function) c.slots (reverse c.operands) (s.slots ∙ sym count)

  name-is : (c : MachineCall) (k : ℕ) (callee : Option ℕ) (frame : Frame)
      → Stands (map woven_body functions) c k callee frame
      → function_name functions frame.function ≡ get_or names c.function []
  name-is c k callee frame s =
      ap (function_name functions) s.function ∙ sym (named functions c.function)
      ∙ ap (λ (ns : List (List ℕ)). get_or ns c.function []) same

  stands-shown : (c : MachineCall) (k : ℕ) (callee : Option ℕ) (frame : Frame)
      → Stands (map woven_body functions) c k callee frame
      → shown_frame functions frame ≡ shown_call names (active_at (map woven_body functions) k c)
  stands-shown c k callee frame s =
      let name = name-is c k callee frame s in
      let line = line-is c k callee frame s in
      let slots = slots-are c k callee frame s in
      λ i. record { name = name i; line = line i; slots = slots i }

  waiting-shown : (h : ℕ) (outer : List MachineCall) (frames : List Frame) (g : ℕ)
      → Wait (map woven_body functions) h outer frames g
      → map (shown_frame functions) frames
      ≡ map (shown_call names) (map (waiting_call (map woven_body functions)) outer)
  waiting-shown h [] [] g w = refl
  waiting-shown h [] (frame ∷ frames) g w = absurd w
  waiting-shown h (c ∷ outer) [] g w = absurd w
  waiting-shown h (c ∷ outer) (frame ∷ frames) g w =
      let place : c.place - 1 ≡ w.0 = omega (arith, w.1) in
      ap (λ (x : ShownCall). x ∷ map (shown_frame functions) frames)
      (stands-shown c w.0 (Some g) frame w.2
      ∙ ap (λ (k : ℕ). shown_call names (active_at (map woven_body functions) k c)) (sym place))
      ∙ ap (λ (xs : List ShownCall). shown_call names (waiting_call (map woven_body functions) c) ∷ xs)
      (waiting-shown h outer frames c.function w.3)

  pub calls-shown : (h : ℕ) (calls : List MachineCall) (frames : List Frame)
      → HasFrames (map woven_body functions) h calls frames
      → map (shown_frame functions) frames
      ≡ map (shown_call names) (active_calls (map woven_body functions) calls)
  calls-shown h [] frames has = absurd has
  calls-shown h (c ∷ outer) [] has = absurd has
  calls-shown h (c ∷ outer) (frame ∷ frames) has =
      ap (λ (x : ShownCall). x ∷ map (shown_frame functions) frames)
      (stands-shown c c.place None frame has.0)
      ∙ ap (λ (xs : List ShownCall). shown_call names (active_at (map woven_body functions) c.place c) ∷ xs)
      (waiting-shown h outer frames c.function has.1)
