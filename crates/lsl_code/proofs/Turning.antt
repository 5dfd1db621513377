-- Calls on a stack, and the same calls in a pack, the innermost first: the ones seen from the end of the others.
use Rattle.std.proofs.Common.{◌≡◌, ◌∙◌, refl, sym, ap, subst, arith, ℕ, ◌-◌, ◌≤◌, List, [], ◌∷◌, ◌++◌, length, take, drop, reverse}
use Rattle.std.proofs.Math.Seq.{drop-append_seam, take-append_seam}
use Rattle.std.proofs.lemmas.List.{drop_all, length-drop, length-reverse, length-take-le, nil_from_length, reverse-append, reverse-reverse, take_rest, take-append-drop}
use Rattle.lsl_value.specs.declared.tagged.Value.{Value}
use Rattle.lsl_code.specs.declared.frames.Frame.{Frame}
use Rattle.lsl_code.specs.declared.frames.Mark.{Mark}
use Rattle.lsl_code.specs.Packs.{EndAt, calls_by, end_in, frames_in, packed, values_between}
use Rattle.lsl_code.specs.Sacks.{EndsWithin, calls_in, seen_from_end, stack_frames}
use Rattle.lsl_code.specs.Saving.{frame_of}
use Rattle.lsl_code.proofs.OnStack.{between_joined, ends_within, last_end}
use Rattle.lsl_code.proofs.Packing.{calls_more, ends_less, ends_more, from_below}

-- one more call is seen, the first at the end
turned_on : (total from : ℕ) (m : Mark) (ms : List Mark) → reverse (seen_from_end total from (m ∷ ms))
    ≡ reverse (seen_from_end total m.end ms) ++ (record m { end = total - from }) ∷ []
turned_on total from m ms = reverse-append ((record m { end = total - from }) ∷ []) (seen_from_end total m.end ms)

pub turned_ends : (total from : ℕ) (ms : List Mark) → EndAt from ms total
    → EndAt 0 (reverse (seen_from_end total from ms)) (total - from)
turned_ends total from [] e = let same = e in omega arith
turned_ends total from (m ∷ ms) e =
    let a = e.0 in
    let b = from_below m.end ms total e.1 in
    subst (λ (l : List Mark). EndAt 0 l (total - from)) (sym (turned_on total from m ms))
    (ends_more 0 (reverse (seen_from_end total m.end ms)) (total - m.end) (record m { end = total - from })
    (turned_ends total m.end ms e.1) (omega arith))

-- the values between two places, seen from the end
turned_between : (vs : List Value) (a b : ℕ) → a ≤ b → b ≤ length vs
    → values_between (length vs - b) (length vs - a) (reverse vs) ≡ reverse (values_between a b vs)
turned_between vs a b le within =
    let part = values_between a b vs in
    let front = reverse (take a vs) in
    let back = reverse (drop b vs) in
    let all : reverse vs ≡ back ++ (reverse part ++ front) =
    ap {A = List Value} reverse (sym (take-append-drop b vs)) ∙ reverse-append (take b vs) (drop b vs)
    ∙ ap (λ (l : List Value). back ++ reverse l) (sym (between_joined vs a b le))
    ∙ ap (λ (l : List Value). back ++ l) (reverse-append (take a vs) part) in
    let behind : length vs - b ≡ length back =
    let n = length-drop b vs in let m = length-reverse (drop b vs) in omega arith in
    let long : length (reverse part) ≡ length vs - a - (length vs - b) =
    let n = length-reverse part in
    let m = length-drop a vs in
    let k = length-take-le (b - a) (drop a vs) (omega arith) in
    omega arith in
    ap (λ (l : List Value). values_between (length vs - b) (length vs - a) l) all
    ∙ ap (λ (n : ℕ). take (length vs - a - (length vs - b)) (drop n (back ++ (reverse part ++ front)))) behind
    ∙ ap (λ (l : List Value). take (length vs - a - (length vs - b)) l) (drop-append_seam back (reverse part ++ front))
    ∙ ap (λ (n : ℕ). take n (reverse part ++ front)) (sym long)
    ∙ take-append_seam (reverse part) front

module _ (order back : List Value → List Value) (same : (l : List Value) → order (reverse l) ≡ back l) where
  turned_calls : (from : ℕ) (ms : List Mark) (vs : List Value) → EndAt from ms (length vs)
      → calls_by order 0 (reverse (seen_from_end (length vs) from ms)) (reverse vs)
      ≡ reverse (calls_by back from ms vs)
  turned_calls from [] vs e = refl
  turned_calls from (m ∷ ms) vs e =
      let total = length vs in
      let first = frame_of m.function m.point (back (values_between from m.end vs)) in
      let rest = reverse (seen_from_end total m.end ms) in
      let last = values_between (total - m.end) (total - from) (reverse vs) in
      ap (λ (l : List Mark). calls_by order 0 l (reverse vs)) (turned_on total from m ms)
      ∙ calls_more order 0 rest (total - m.end) (record m { end = total - from }) (reverse vs)
      (turned_ends total m.end ms e.1)
      ∙ ap (λ (fs : List Frame). fs ++ frame_of m.function m.point (order last) ∷ []) (turned_calls m.end ms vs e.1)
      ∙ ap (λ (l : List Value). reverse (calls_by back m.end ms vs) ++ frame_of m.function m.point l ∷ [])
      (ap order (turned_between vs from m.end e.0 (from_below m.end ms total e.1))
      ∙ same (values_between from m.end vs))
      ∙ sym (reverse-append (first ∷ []) (calls_by back m.end ms vs))

-- the last call of a stack apart from those around it
pub stack_of : (ms : List Mark) (m : Mark) (vs : List Value) → EndAt 0 (ms ++ m ∷ []) (length vs)
    → EndsWithin 0 ms (length vs)
    × (reverse (calls_in 0 (ms ++ m ∷ []) vs) ≡ stack_frames m.function m.point ms vs)
stack_of ms m vs e =
    let r = ends_less 0 ms m (length vs) e in
    let last = values_between (end_in 0 ms) m.end vs in
    let calls = calls_in 0 ms vs in (
      ends_within 0 ms (end_in 0 ms) (length vs) r.0 r.1,
      ap {A = List Frame} reverse (calls_more (λ (l : List Value). l) 0 ms (end_in 0 ms) m vs r.0)
          ∙ reverse-append calls (frame_of m.function m.point last ∷ [])
          ∙ ap (λ (l : List Value). frame_of m.function m.point l ∷ reverse calls)
          (ap (λ (n : ℕ). take (n - end_in 0 ms) (drop (end_in 0 ms) vs)) r.2 ∙ take_rest vs (end_in 0 ms)),
    )

-- a pack's calls on a stack
pub pack_on_stack : (ms : List Mark) (vs : List Value) → EndAt 0 ms (length vs)
    → reverse (calls_in 0 (reverse (seen_from_end (length vs) 0 ms)) (reverse vs)) ≡ frames_in 0 ms vs
pack_on_stack ms vs e =
    ap {A = List Frame} reverse (turned_calls (λ (l : List Value). l) reverse (λ l. refl) 0 ms vs e)
    ∙ reverse-reverse (frames_in 0 ms vs)

-- a stack's calls in a pack
pub stack_in_pack : (ms : List Mark) (vs : List Value) → EndAt 0 ms (length vs)
    → frames_in 0 (reverse (seen_from_end (length vs) 0 ms)) (reverse vs) ≡ reverse (calls_in 0 ms vs)
stack_in_pack ms vs e = turned_calls reverse (λ (l : List Value). l) reverse-reverse 0 ms vs e

-- a stack's marks with that of the innermost call, and all of them turned
module _ (outer more : List Mark) (m : Mark) (vs : List Value) (end : ℕ) (fit : EndsWithin 0 outer (length vs))
    (pushed : more ≡ outer ++ m ∷ []) (at : m.end ≡ end) (all : end ≡ length vs) where
  pub whole_ends : EndAt 0 more end
  whole_ends =
      let r = last_end 0 outer (length vs) fit in
      let le : end_in 0 outer ≤ m.end = let b = r.2 in omega arith in
      subst (λ (l : List Mark). EndAt 0 l end) (sym pushed)
      (subst (EndAt 0 (outer ++ m ∷ [])) at (ends_more 0 outer (end_in 0 outer) m r.0 le))

  module _ (now : List Mark) (back : List Value) (turned : now ≡ reverse (seen_from_end end 0 more))
      (reversed : back ≡ reverse vs) where
    pub packed_ends : EndAt 0 now end × (end ≤ length back)
    packed_ends =
        let none : end - 0 ≡ end = omega arith in
        let long = ap {A = List Value} length reversed in
        let same = length-reverse vs in (
          subst (λ (l : List Mark). EndAt 0 l end) (sym turned)
              (subst (EndAt 0 (reverse (seen_from_end end 0 more))) none (turned_ends end 0 more whole_ends)),
          omega arith,
        )

    pub packed_view : packed (frames_in 0 now back) (reverse (drop end back))
        ≡ packed (stack_frames m.function m.point outer vs) []
    packed_view =
        let ends : EndAt 0 (outer ++ m ∷ []) (length vs) =
        subst (λ (l : List Mark). EndAt 0 l (length vs)) pushed (subst (EndAt 0 more) all whole_ends) in
        let marks : now ≡ reverse (seen_from_end (length vs) 0 (outer ++ m ∷ [])) =
        turned ∙ ap (λ (n : ℕ). reverse (seen_from_end n 0 more)) all
        ∙ ap (λ (l : List Mark). reverse (seen_from_end (length vs) 0 l)) pushed in
        let over = packed_ends.1 in
        let long = ap {A = List Value} length reversed in
        let same = length-reverse vs in
        ap (λ (l : List Mark). packed (frames_in 0 l back) (reverse (drop end back))) marks
        ∙ ap (λ (l : List Value). packed (frames_in 0 (reverse (seen_from_end (length vs) 0 (outer ++ m ∷ []))) l)
        (reverse (drop end back))) reversed
        ∙ ap (λ (fs : List Frame). packed fs (reverse (drop end back)))
        (stack_in_pack (outer ++ m ∷ []) vs ends ∙ (stack_of outer m vs ends).1)
        ∙ ap (λ (l : List Value). packed (stack_frames m.function m.point outer vs) (reverse l))
        (drop_all end back (omega arith))

-- a pack's marks turned, and the last of them taken off
module _ (ms now left : List Mark) (vs back : List Value) (end : ℕ) (ends : EndAt 0 ms end) (all : end ≡ length vs)
    (turned : now ≡ reverse (seen_from_end end 0 ms)) (reversed : back ≡ reverse vs) where
  module _ (m : Mark) (popped : now ≡ left ++ m ∷ []) where
    front_ends : EndAt 0 (left ++ m ∷ []) (length back)
    front_ends =
        let long = ap {A = List Value} length reversed in
        let same = length-reverse vs in
        let none : end - 0 ≡ length back = omega arith in
        subst (λ (l : List Mark). EndAt 0 l (length back)) (sym turned ∙ popped)
        (subst (EndAt 0 (reverse (seen_from_end end 0 ms))) none (turned_ends end 0 ms ends))

    pub popped_fit : EndsWithin 0 left (length back)
    popped_fit = (stack_of left m back front_ends).0

    pub popped_calls : stack_frames m.function m.point left back ≡ frames_in 0 ms vs
    popped_calls =
        sym (stack_of left m back front_ends).1
        ∙ ap (λ (l : List Mark). reverse (calls_in 0 l back)) (sym popped ∙ turned)
        ∙ ap (λ (n : ℕ). reverse (calls_in 0 (reverse (seen_from_end n 0 ms)) back)) all
        ∙ ap (λ (l : List Value). reverse (calls_in 0 (reverse (seen_from_end (length vs) 0 ms)) l)) reversed
        ∙ pack_on_stack ms vs (subst (EndAt 0 ms) all ends)

-- there is no call
pub none_turned : (ms now : List Mark) (vs : List Value) (end : ℕ) → EndAt 0 ms end → end ≡ length vs
    → now ≡ reverse (seen_from_end end 0 ms) → length now ≡ 0 → (ms ≡ []) × (vs ≡ [])
none_turned [] now vs end e all turned none = let zero : length vs ≡ 0 = omega arith in (refl, nil_from_length vs zero)
none_turned (m ∷ ms) now vs end e all turned none =
    let long = ap {A = List Mark} length turned in
    let same = length-reverse (seen_from_end end 0 (m ∷ ms)) in
    absurd (omega arith)
