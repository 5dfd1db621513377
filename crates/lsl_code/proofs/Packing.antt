-- Saved calls with values in one list.
use Rattle.std.proofs.Common.{◌≡◌, ◌∙◌, refl, sym, ap, subst, arith, ℕ, suc, ◌+◌, ◌-◌, ◌<◌, ◌≤◌, List, [], ◌∷◌, ◌++◌, length, take, drop, reverse, Option, Some, None, Result, Ok, Err, OnOk, option_to_list}
use Rattle.std.specs.Prelude.{slice_get}
use Rattle.std.proofs.lemmas.List.{append_assoc, append-nil, drop-append-le, take-append-le, length-append, length-drop, length-reverse, length-take-le, reverse-append, reverse-reverse, take_rest, drop_all, drop-take, take-append-drop}
use Rattle.lsl_value.specs.declared.tagged.Value.{Value}
use Rattle.lsl_code.specs.declared.frames.Frame.{Frame}
use Rattle.lsl_code.specs.declared.frames.Mark.{Mark}
use Rattle.lsl_code.specs.Packs.{EndAt, Packed, calls_by, end_in, frames_in, packed, values_between}
use Rattle.lsl_code.specs.Saving.{frame_of}

pub on_ok : {T E P Q : Type 0} (r : Result T E) → (P → Q) → OnOk r P → OnOk r Q
on_ok (Ok x) f p = f p
on_ok (Err e) f p = tt

pub from_below : (from : ℕ) (ms : List Mark) (to : ℕ) → EndAt from ms to → from ≤ to
from_below from [] to e = omega arith
from_below from (m ∷ ms) to e = let a = e.0 in let b = from_below m.end ms to e.1 in omega arith

between_same : (from to : ℕ) (vs ws : List Value) → from ≤ to → to ≤ length vs
    → values_between from to (vs ++ ws) ≡ values_between from to vs
between_same from to vs ws a b =
    let d = length-drop from vs in
    ap (λ (xs : List Value). take (to - from) xs) (drop-append-le from vs ws (omega arith))
    ∙ take-append-le (to - from) (drop from vs) ws (omega arith)

module _ (order : List Value → List Value) where
  -- calls are what they were, whatever values follow theirs
  pub calls_same : (from : ℕ) (ms : List Mark) (to : ℕ) (vs ws : List Value) → EndAt from ms to → to ≤ length vs
      → calls_by order from ms (vs ++ ws) ≡ calls_by order from ms vs
  calls_same from [] to vs ws e le = refl
  calls_same from (m ∷ ms) to vs ws e le =
      let b = from_below m.end ms to e.1 in
      let one = between_same from m.end vs ws e.0 (omega arith) in
      ap (λ s. frame_of m.function m.point (order s) ∷ calls_by order m.end ms (vs ++ ws)) one
      ∙ ap (λ (fs : List Frame). frame_of m.function m.point (order (values_between from m.end vs)) ∷ fs)
      (calls_same m.end ms to vs ws e.1 le)

  pub calls_more : (from : ℕ) (ms : List Mark) (to : ℕ) (m : Mark) (vs : List Value) → EndAt from ms to
      → calls_by order from (ms ++ m ∷ []) vs
      ≡ calls_by order from ms vs ++ frame_of m.function m.point (order (values_between to m.end vs)) ∷ []
  calls_more from [] to m vs e =
      ap (λ (n : ℕ). frame_of m.function m.point (order (values_between n m.end vs)) ∷ []) e
  calls_more from (k ∷ ms) to m vs e =
      ap (λ (fs : List Frame). frame_of k.function k.point (order (values_between from k.end vs)) ∷ fs)
      (calls_more k.end ms to m vs e.1)

pub ends_more : (from : ℕ) (ms : List Mark) (to : ℕ) (m : Mark) → EndAt from ms to → to ≤ m.end
    → EndAt from (ms ++ m ∷ []) m.end
ends_more from [] to m e le = (omega arith, refl)
ends_more from (k ∷ ms) to m e le = (e.0, ends_more k.end ms to m e.1 le)

pub ends_less : (from : ℕ) (ms : List Mark) (m : Mark) (to : ℕ) → EndAt from (ms ++ m ∷ []) to
    → EndAt from ms (end_in from ms) × (end_in from ms ≤ to) × (m.end ≡ to)
ends_less from [] m to e = let a = e.0 in let b = e.1 in (refl, omega arith, e.1)
ends_less from (k ∷ ms) m to e =
    let r = ends_less k.end ms m to e.1 in
    ((e.0, r.0), r.1, r.2)

pub end_is : (from : ℕ) (ms : List Mark) (m : Mark) → Some m ≡ slice_get ms (length ms - 1)
    → m.end ≡ end_in from ms
end_is from [] m e = absurd cc
end_is from (k ∷ []) m e = let same : m ≡ k = cc in ap (λ (x : Mark). x.end) same
end_is from (k ∷ j ∷ ms) m e =
    let n : length (k ∷ j ∷ ms) - 1 ≡ suc (length (j ∷ ms) - 1) = omega arith in
    end_is k.end (j ∷ ms) m (e ∙ ap (slice_get (k ∷ j ∷ ms)) n)

hand_kept : (n : ℕ) (vs : List Value) (v : Value) → n ≤ length vs
    → reverse (drop n (vs ++ v ∷ [])) ≡ v ∷ reverse (drop n vs)
hand_kept n vs v le =
    ap {A = List Value} reverse (drop-append-le n vs (v ∷ []) le) ∙ reverse-append (drop n vs) (v ∷ [])

-- these calls, and the current values after them
abbrev shown : List Mark → List Value → ℕ → Packed
shown ms vs start = packed (frames_in 0 ms vs) (reverse (drop start vs))

module _ (ms : List Mark) (start : ℕ) (vs : List Value) (old : Packed) (ends : EndAt 0 ms start)
    (within : start ≤ length vs) (view : shown ms vs start ≡ old) where
  pub kept_view : (more : List Value) (v : Value) → more ≡ vs ++ v ∷ []
      → shown ms more start ≡ packed old.frames (v ∷ old.hand)
  kept_view more v is =
      ap (λ (l : List Value). shown ms l start) is
      ∙ ap (λ (f : List Frame). packed f (reverse (drop start (vs ++ v ∷ []))))
      (calls_same reverse 0 ms start vs (v ∷ []) ends within)
      ∙ ap (λ (h : List Value). packed (frames_in 0 ms vs) h) (hand_kept start vs v within)
      ∙ ap (λ (p : Packed). packed p.frames (v ∷ p.hand)) view

  pub hand_there : start < length vs → 0 < length old.hand
  hand_there lt =
      let a = ap (λ (p : Packed). length p.hand) view in
      let b = length-reverse (drop start vs) in
      let c = length-drop start vs in
      omega arith

  pub hand_none : length vs ≤ start → old.hand ≡ []
  hand_none le =
      sym (ap (λ (p : Packed). p.hand) view) ∙ ap {A = List Value} reverse (drop_all start vs le)

  none_left : old.hand ≡ [] → length vs ≡ start
  none_left none =
      let a = ap (λ (p : Packed). length p.hand) view in
      let b = length-reverse (drop start vs) in
      let c = length-drop start vs in
      let d = ap {A = List Value} length none in
      omega arith

  -- the calls are all
  pub all_ends : (n : ℕ) → n ≡ length vs → old.hand ≡ [] → EndAt 0 ms n
  all_ends n is none = subst (EndAt 0 ms) (sym (is ∙ none_left none)) ends

  -- no current value is left
  module _ (few : List Value) (cut : few ≡ take start vs) where
    cut_long : length few ≡ start
    cut_long = ap {A = List Value} length cut ∙ length-take-le start vs within

    pub cleared_ends : EndAt 0 ms start × (start ≤ length few)
    cleared_ends = let n = cut_long in (ends, omega arith)

    pub cleared_view : shown ms few start ≡ packed old.frames []
    cleared_view =
        let n = cut_long in
        let whole = calls_same reverse 0 ms start (take start vs) (drop start vs) ends
        (let m = length-take-le start vs within in omega arith) in
        let kept : frames_in 0 ms few ≡ old.frames =
        ap (frames_in 0 ms) cut ∙ sym whole ∙ ap (frames_in 0 ms) (take-append-drop start vs)
        ∙ ap (λ (p : Packed). p.frames) view in
        ap (λ (f : List Frame). packed f (reverse (drop start few))) kept
        ∙ ap (λ (h : List Value). packed old.frames (reverse h)) (drop_all start few (omega arith))

  -- a value leaves the end
  module _ (few : List Value) (lt : start < length vs) where
    pub taken_frames : (o : Option Value) → vs ≡ few ++ option_to_list o → frames_in 0 ms few ≡ old.frames
    taken_frames None is =
        ap (frames_in 0 ms) (sym (is ∙ append-nil few)) ∙ ap (λ (p : Packed). p.frames) view
    taken_frames (Some v) is =
        let n = ap {A = List Value} length is in
        let m = length-append few (v ∷ []) in
        sym (calls_same reverse 0 ms start few (v ∷ []) ends (omega arith)) ∙ ap (frames_in 0 ms) (sym is)
        ∙ ap (λ (p : Packed). p.frames) view

    pub taken_hand : (o : Option Value) → vs ≡ few ++ option_to_list o
        → old.hand ≡ option_to_list o ++ reverse (drop start few)
    taken_hand None is =
        sym (ap (λ (p : Packed). p.hand) view)
        ∙ ap (λ (l : List Value). reverse (drop start l)) (is ∙ append-nil few)
    taken_hand (Some v) is =
        let n = ap {A = List Value} length is in
        let m = length-append few (v ∷ []) in
        sym (ap (λ (p : Packed). p.hand) view) ∙ ap (λ (l : List Value). reverse (drop start l)) is
        ∙ hand_kept start few v (omega arith)

  -- the current call is closed
  module _ (more : List Mark) (m : Mark) (is : more ≡ ms ++ m ∷ []) (end : m.end ≡ length vs) where
    pub sealed_ends : EndAt 0 more m.end
    sealed_ends = subst (λ (l : List Mark). EndAt 0 l m.end) (sym is) (ends_more 0 ms start m ends (omega arith))

    pub sealed_view : (n : ℕ) → n ≡ length vs
        → shown more vs n ≡ packed (old.frames ++ frame_of m.function m.point old.hand ∷ []) []
    sealed_view n all =
        ap (λ (l : List Mark). shown l vs n) is
        ∙ ap (λ (f : List Frame). packed f (reverse (drop n vs))) (calls_more reverse 0 ms start m vs ends)
        ∙ ap (λ (s : List Value). packed (frames_in 0 ms vs ++ frame_of m.function m.point s ∷ [])
        (reverse (drop n vs)))
        (ap (λ (k : ℕ). reverse (values_between start k vs)) end ∙ ap {A = List Value} reverse (take_rest vs start))
        ∙ ap (λ (h : List Value). packed (frames_in 0 ms vs
        ++ frame_of m.function m.point (reverse (drop start vs)) ∷ []) (reverse h)) (drop_all n vs (omega arith))
        ∙ ap (λ (p : Packed). packed (p.frames ++ frame_of m.function m.point p.hand ∷ []) []) view

  -- the last call becomes current
  module _ (left : List Mark) (m : Mark) (few : List Value) (now : List Mark) (s : ℕ) (is : ms ≡ left ++ m ∷ [])
      (cut : few ≡ take start vs) (same : now ≡ left) (at : s ≡ end_in 0 now) where
    fits_left : EndAt 0 left (end_in 0 left) × (end_in 0 left ≤ start) × (m.end ≡ start)
    fits_left = ends_less 0 left m start (subst (λ (l : List Mark). EndAt 0 l start) is ends)

    at_left : s ≡ end_in 0 left
    at_left = at ∙ ap (end_in 0) same

    pub unpacked_ends : EndAt 0 left s × (s ≤ length few)
    unpacked_ends =
        let f = fits_left in
        let a = at_left in
        let b = ap {A = List Value} length cut in
        let c = length-take-le start vs within in
        let d = f.1 in
        (subst (EndAt 0 left) (sym a) f.0, omega arith)

    pub unpacked_view : (fr : Frame) × (old.frames ≡ frames_in 0 left few ++ fr ∷ []) × (m.point ≡ fr.point)
        × (reverse (drop s few) ≡ fr.slots)
    unpacked_view =
        let f = fits_left in
        let e = unpacked_ends in
        let c = length-take-le start vs within in
        let b = ap {A = List Value} length cut in
        let d = e.1 in
        let whole = calls_same reverse 0 left s (take start vs) (drop start vs) e.0 (omega arith) in
        let joined : frames_in 0 left vs ≡ frames_in 0 left few =
        ap (frames_in 0 left) (sym (take-append-drop start vs)) ∙ whole ∙ ap (frames_in 0 left) (sym cut) in
        let sum : s + (m.end - s) ≡ start = let g = f.2 in omega arith in (
          frame_of m.function m.point (reverse (values_between s m.end vs)),
          sym (ap (λ (p : Packed). p.frames) view) ∙ ap (λ (l : List Mark). frames_in 0 l vs) is
              ∙ calls_more reverse 0 left s m vs e.0
              ∙ ap (λ (fs : List Frame). fs ++ frame_of m.function m.point (reverse (values_between s m.end vs)) ∷ [])
              joined,
          refl,
          ap (λ (l : List Value). reverse (drop s l)) (cut ∙ ap (λ (n : ℕ). take n vs) (sym sum))
              ∙ ap {A = List Value} reverse (drop-take s (m.end - s) vs),
        )

  -- values were poured after those of the calls
  pub poured_view : (more slots : List Value) → old.hand ≡ [] → more ≡ vs ++ reverse slots
      → shown ms more start ≡ packed old.frames slots
  poured_view more slots none is =
      let hand : reverse (drop start vs) ≡ [] = ap (λ (p : Packed). p.hand) view ∙ none in
      ap (λ (l : List Value). shown ms l start) is
      ∙ ap (λ (f : List Frame). packed f (reverse (drop start (vs ++ reverse slots))))
      (calls_same reverse 0 ms start vs (reverse slots) ends within ∙ ap (λ (p : Packed). p.frames) view)
      ∙ ap (λ (l : List Value). packed old.frames (reverse l)) (drop-append-le start vs (reverse slots) within)
      ∙ ap (packed old.frames) (reverse-append (drop start vs) (reverse slots)
      ∙ ap (λ (l : List Value). l ++ reverse (drop start vs)) (reverse-reverse slots)
      ∙ ap (λ (l : List Value). slots ++ l) hand ∙ append-nil slots)

pub poured_on : (to next from left all : List Value) (v : Value) → to ++ reverse from ≡ all
    → from ≡ left ++ v ∷ [] → next ≡ to ++ v ∷ [] → next ++ reverse left ≡ all
poured_on to next from left all v before off on =
    ap (λ (l : List Value). l ++ reverse left) on ∙ append_assoc to (v ∷ []) (reverse left)
    ∙ ap (λ (l : List Value). to ++ l) (sym (ap {A = List Value} reverse off ∙ reverse-append left (v ∷ [])))
    ∙ before

pub poured_all : (to from all : List Value) → to ++ reverse from ≡ all → from ≡ [] → to ≡ all
poured_all to from all before none =
    sym (append-nil to) ∙ ap (λ (l : List Value). to ++ reverse l) (sym none) ∙ before
