-- Saved calls as they lie on a stack.
use Rattle.std.proofs.Common.{◌≡◌, ◌∙◌, refl, sym, ap, subst, arith, ℕ, zero, suc, ◌+◌, ◌-◌, ◌≤◌, ◌<◌, List, [], ◌∷◌, ◌++◌, length, take, drop, reverse, get_or, Option, Some, None}
use Rattle.std.specs.Prelude.{slice_get}
use Rattle.std.proofs.Math.Seq.{take-add}
use Rattle.std.proofs.lemmas.List.{append_assoc, append-nil, get_or-reverse, length-reverse, reverse-append, take_all, take-append-drop}
use Rattle.std.proofs.lemmas.Option.{slice_get-get_or, slice_get_read}
use Rattle.lsl_value.specs.declared.tagged.Value.{Value}
use Rattle.lsl_code.specs.declared.frames.Frame.{Frame}
use Rattle.lsl_code.specs.declared.frames.Mark.{Mark}
use Rattle.lsl_code.specs.declared.sacks.Top.{Top}
use Rattle.lsl_code.specs.Packs.{EndAt, calls_by, end_in, values_between}
use Rattle.lsl_code.specs.Sacks.{EndsWithin, IsSack, calls_in, sack_frames, stack_frames, values_of}
use Rattle.lsl_code.specs.Saving.{frame_of}

pub calls_count : (order : List Value → List Value) (from : ℕ) (ms : List Mark) (vs : List Value)
    → length (calls_by order from ms vs) ≡ length ms
calls_count order from [] vs = refl
calls_count order from (m ∷ ms) vs = ap suc (calls_count order m.end ms vs)

-- where the values of the call at a place lie
pub call_there : (order : List Value → List Value) (from : ℕ) (ms : List Mark) (vs : List Value) (i : ℕ) (m : Mark)
    → slice_get ms i ≡ Some m → slice_get (calls_by order from ms vs) i
    ≡ Some (frame_of m.function m.point (order (values_between (end_in from (take i ms)) m.end vs)))
call_there order from [] vs i m is = absurd cc
call_there order from (k ∷ ms) vs zero m is =
    let same : k ≡ m = cc in
    ap (λ (x : Mark). Some (frame_of x.function x.point (order (values_between from x.end vs)))) same
call_there order from (k ∷ ms) vs (suc i) m is = call_there order k.end ms vs i m is

pub ends_within : (from : ℕ) (ms : List Mark) (to n : ℕ) → EndAt from ms to → to ≤ n → EndsWithin from ms n
ends_within from [] to n e le = let same = e in omega arith
ends_within from (m ∷ ms) to n e le = (e.0, ends_within m.end ms to n e.1 le)

-- where the last call's values end
pub last_end : (from : ℕ) (ms : List Mark) (to : ℕ) → EndsWithin from ms to
    → EndAt from ms (end_in from ms) × (from ≤ end_in from ms) × (end_in from ms ≤ to)
last_end from [] to e = (refl, omega arith, e)
last_end from (m ∷ ms) to e =
    let r = last_end m.end ms to e.1 in
    let a = e.0 in
    let b = r.1 in
    ((e.0, r.0), omega arith, r.2)

pub ends_there : (from : ℕ) (ms : List Mark) (to i : ℕ) (m : Mark) → EndsWithin from ms to → slice_get ms i ≡ Some m
    → (end_in from (take i ms) ≤ m.end) × (m.end ≤ to)
ends_there from [] to i m e is = absurd cc
ends_there from (k ∷ ms) to zero m e is =
    let same : k ≡ m = cc in
    let b = (last_end k.end ms to e.1).1 in
    let d = (last_end k.end ms to e.1).2 in
    let c = ap (λ (x : Mark). x.end) same in
    let a = e.0 in
    (omega arith, omega arith)
ends_there from (k ∷ ms) to (suc i) m e is = ends_there k.end ms to i m e.1 is

pub between_joined : (vs : List Value) (a b : ℕ) → a ≤ b → take a vs ++ values_between a b vs ≡ take b vs
between_joined vs a b le =
    let n : a + (b - a) ≡ b = omega arith in
    sym (take-add a (b - a) vs) ∙ ap (λ (k : ℕ). take k vs) n

values_joined : (xs ys : List Frame) → values_of (xs ++ ys) ≡ values_of ys ++ values_of xs
values_joined [] ys = sym (append-nil (values_of ys))
values_joined (f ∷ xs) ys =
    ap (λ (l : List Value). l ++ f.slots) (values_joined xs ys) ∙ append_assoc (values_of ys) (values_of xs) f.slots

outer_values : (from : ℕ) (ms : List Mark) (vs : List Value) → EndsWithin from ms (length vs)
    → take from vs ++ values_of (reverse (calls_in from ms vs)) ≡ take (end_in from ms) vs
outer_values from [] vs e = append-nil (take from vs)
outer_values from (m ∷ ms) vs e =
    let first = frame_of m.function m.point (values_between from m.end vs) in
    let rest = calls_in m.end ms vs in
    ap (λ (fs : List Frame). take from vs ++ values_of fs) (reverse-append (first ∷ []) rest)
    ∙ ap (λ (l : List Value). take from vs ++ l) (values_joined (reverse rest) (first ∷ []))
    ∙ sym (append_assoc (take from vs) (values_between from m.end vs) (values_of (reverse rest)))
    ∙ ap (λ (l : List Value). l ++ values_of (reverse rest)) (between_joined vs from m.end e.0)
    ∙ outer_values m.end ms vs e.1

pub sack_values : (top : Option Top) (outer : List Mark) (vs : List Value) → IsSack top outer vs
    → vs ≡ values_of (sack_frames top outer vs)
sack_values None outer vs e = e.1
sack_values (Some top) outer vs e =
    sym (take-append-drop (end_in 0 outer) vs)
    ∙ ap (λ (l : List Value). l ++ drop (end_in 0 outer) vs) (sym (outer_values 0 outer vs e))

-- the call at a place from the end
reversed_there : (fs : List Frame) (i : ℕ) (f : Frame) → i < length fs → slice_get fs (length fs - 1 - i) ≡ Some f
    → slice_get (reverse fs) i ≡ Some f
reversed_there fs i f lt is =
    let n = length-reverse fs in
    slice_get-get_or (reverse fs) i f (omega arith)
    ∙ ap Some (get_or-reverse fs i f lt)
    ∙ sym (slice_get-get_or fs (length fs - 1 - i) f (omega arith)) ∙ is

-- a sack without a call
pub no_call : (top : Option Top) (outer : List Mark) (vs : List Value) → top ≡ None → IsSack top outer vs
    → (outer ≡ []) × (vs ≡ [])
no_call None outer vs none fits = fits
no_call (Some top) outer vs none fits = absurd cc

-- the calls of a sack that has some
module _ (top : Option Top) (t : Top) (outer : List Mark) (vs : List Value) (frames : List Frame)
    (view : sack_frames top outer vs ≡ frames) (fits : IsSack top outer vs) (some : top ≡ Some t) where
  pub some_view : stack_frames t.function t.point outer vs ≡ frames
  some_view = ap (λ (o : Option Top). sack_frames o outer vs) (sym some) ∙ view

  pub some_fits : EndsWithin 0 outer (length vs)
  some_fits = subst (λ (o : Option Top). IsSack o outer vs) some fits

  pub sack_count : length frames ≡ length outer + 1
  sack_count =
      let count = calls_count (λ (l : List Value). l) 0 outer vs in
      let turned = length-reverse (calls_in 0 outer vs) in
      let all = ap {A = List Frame} length some_view in
      omega arith

  module _ (number place start : ℕ) (at : place ≡ length outer - number)
      (from : start ≡ end_in 0 (take place outer)) where
    -- the innermost call
    module _ (first : number ≡ 0) where
      all_outer : start ≡ end_in 0 outer
      all_outer = from ∙ ap (end_in 0) (take_all place outer (omega arith))

      pub top_within : start ≤ length vs
      top_within = let e = (last_end 0 outer (length vs) some_fits).2 in let a = all_outer in omega arith

      pub top_call : slice_get frames number ≡ Some (frame_of t.function t.point (drop start vs))
      top_call =
          ap (slice_get frames) first ∙ ap (λ (fs : List Frame). slice_get fs 0) (sym some_view)
          ∙ ap (λ (n : ℕ). Some (frame_of t.function t.point (drop n vs))) (sym all_outer)

    -- a call around it
    module _ (m : Mark) (pos : 0 < number) (within : number < length frames) (is : m ≡ get_or outer place m) where
      mark_there : slice_get outer place ≡ Some m
      mark_there = let n = sack_count in slice_get_read outer (length outer) place m refl (omega arith) is

      pub outer_span : (start ≤ m.end) × (m.end ≤ length vs)
      outer_span =
          let s = ends_there 0 outer (length vs) place m some_fits mark_there in
          let a = s.0 in
          (omega arith, s.1)

      pub outer_call : slice_get frames number ≡ Some (frame_of m.function m.point (values_between start m.end vs))
      outer_call =
          let calls = calls_in 0 outer vs in
          let count = calls_count (λ (l : List Value). l) 0 outer vs in
          let some = sack_count in
          let next : number ≡ suc (number - 1) = omega arith in
          let place_is : length calls - 1 - (number - 1) ≡ place = omega arith in
          ap (slice_get frames) next ∙ ap (λ (fs : List Frame). slice_get fs (suc (number - 1))) (sym some_view)
          ∙ reversed_there calls (number - 1) _ (omega arith)
          (ap (slice_get calls) place_is
          ∙ call_there (λ (l : List Value). l) 0 outer vs place m mark_there
          ∙ ap (λ (k : ℕ). Some (frame_of m.function m.point (values_between k m.end vs))) (sym from))
