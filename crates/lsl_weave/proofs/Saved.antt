-- What the added code keeps.
use Rattle.std.proofs.Common.{◌≡◌, ℕ, zero, suc, ◌+◌, ◌-◌, ◌<◌, ◌≤◌, List, [], ◌∷◌, ◌++◌, length, map, take, reverse, Option, Some, None, refl, sym, ap, ◌∙◌, subst, arith, append_assoc, length-append}
use Rattle.std.specs.Prelude.{slice_get, option_map}
use Rattle.std.proofs.Common.{append-nil}
use mathlib.Core.List.{reverse_aux}
use Rattle.std.proofs.lemmas.List.{length-reverse}
use Rattle.std.proofs.lemmas.Option.{slice_get-map}
use Rattle.lsl_value.specs.declared.tagged.Value.{Value}
use Rattle.lsl_value.specs.Values.{kind_of}
use Rattle.lsl_code.specs.declared.frames.Frame.{Frame}
use Rattle.lsl_code.specs.declared.instructions.Instr.{Instr}
use Rattle.lsl_code.specs.declared.instructions.Instr.TheVariants.{TestSave, KeepSlot, KeepTop, Seal}
use Rattle.lsl_code.specs.Bodies.{Body, instruction_in}
use Rattle.lsl_code.specs.Machine.{MachineCall, call_at}
use Rattle.lsl_code.specs.Modes.{repeat, at_place}
use Rattle.lsl_code.specs.Saving.{saving, Keeps, keeps_slot, frame_of, save_act, save_after, save_step, begins_saving}
use Rattle.lsl_weave.specs.Layout.{shift, waiting, save_place, main, keep_tops, keep_slots, woven_code, woven_of, all_woven}
use Rattle.lsl_code.specs.Standing.{point_instr, Stands, Wait, HasFrames}
use Rattle.lsl_weave.specs.Lifting.{woven_place, lift_waiting, lift}
use Rattle.lsl_code.proofs.Repeating.{first_then, both_then, then_one}
use Rattle.lsl_weave.proofs.Placing.{HasAt, laid}

pub has_value : {A : Type 0} (xs : List A) (n : ℕ) → n < length xs → (v : A) × (slice_get xs n ≡ Some v)
has_value [] n lt = absurd (omega arith)
has_value (x ∷ xs) zero lt = (x, refl)
has_value (x ∷ xs) (suc n) lt = has_value xs n (omega arith)

pub take_one_more : {A : Type 0} (xs : List A) (n : ℕ) (v : A) (ys : List A) → slice_get xs n ≡ Some v
    → take n xs ++ v ∷ ys ≡ take (suc n) xs ++ ys
take_one_more [] n v ys e = cc
take_one_more (x ∷ xs) zero v ys e = cc
take_one_more (x ∷ xs) (suc n) v ys e = ap (λ l. x ∷ l) (take_one_more xs n v ys e)

pub take_all : {A : Type 0} (xs : List A) → take (length xs) xs ≡ xs
take_all [] = refl
take_all (x ∷ xs) = ap (λ l. x ∷ l) (take_all xs)

pub woven_found : (bs : List Body) (f : ℕ) (b : Body) → slice_get bs f ≡ Some b
    → slice_get (all_woven bs) f ≡ Some (woven_of b)
woven_found bs f b e = slice_get-map woven_of bs f ∙ ap (option_map woven_of) e

module _ (ws : List Body) (f : ℕ) (w : Body) (found : slice_get ws f ≡ Some w) where
  save_at : (k : ℕ) (slots ops : List Value) (rest : List MachineCall) (hand : List Value) (sack : List Frame)
      (i : Instr) → slice_get w.code k ≡ Some i
      → save_step ws (saving (call_at f k slots ops ∷ rest) hand sack)
      ≡ save_after (save_act (Some i) (call_at f k slots ops) hand) rest sack
  save_at k slots ops rest hand sack i e =
      ap (λ o. save_after (save_act o (call_at f k slots ops) hand) rest sack)
      (ap (λ o. instruction_in o k) found ∙ e)

  tops_kept : (ops : List Value) (k : ℕ) (slots : List Value) (rest : List MachineCall) (hand : List Value)
      (sack : List Frame) (tail : List Instr) → HasAt w.code k (keep_tops (length ops) tail) → (k' : ℕ)
      × (repeat (save_step ws) (length ops) (saving (call_at f k slots ops ∷ rest) hand sack)
      ≡ Some (saving (call_at f k' slots [] ∷ rest) (reverse_aux ops hand) sack)) × HasAt w.code k' tail
  tops_kept [] k slots rest hand sack tail h = (k, refl, h)
  tops_kept (v ∷ ops) k slots rest hand sack tail h =
      let r = tops_kept ops (k + 1) slots rest (v ∷ hand) sack tail h.1 in (
        r.0,
        first_then (save_step ws) (length ops) (saving (call_at f k slots (v ∷ ops) ∷ rest) hand sack)
            (saving (call_at f (k + 1) slots ops ∷ rest) (v ∷ hand) sack) _
            (save_at k slots (v ∷ ops) rest hand sack KeepTop h.0) r.1,
        r.2,
      )

  slots_kept : (n k : ℕ) (slots : List Value) (rest : List MachineCall) (hand : List Value)
      (sack : List Frame) (tail : List Instr) → n ≤ length slots → HasAt w.code k (keep_slots n tail)
      → (k' : ℕ) × (repeat (save_step ws) n (saving (call_at f k slots [] ∷ rest) hand sack)
      ≡ Some (saving (call_at f k' slots [] ∷ rest) (take n slots ++ hand) sack)) × HasAt w.code k' tail
  slots_kept zero k slots rest hand sack tail le h = (k, refl, h)
  slots_kept (suc n) k slots rest hand sack tail le h =
      let v = has_value slots n (omega arith) in
      let r = slots_kept n (k + 1) slots rest (v.0 ∷ hand) sack tail (omega arith) h.1 in
      let st = save_at k slots [] rest hand sack (KeepSlot n) h.0
      ∙ ap (λ o. save_after (keeps_slot o
      (λ u. Keeps (call_at f (k + 1) slots []) (u ∷ hand))) rest sack) v.1 in (
        r.0,
        first_then (save_step ws) n (saving (call_at f k slots [] ∷ rest) hand sack)
            (saving (call_at f (k + 1) slots [] ∷ rest) (v.0 ∷ hand) sack) _ st
            (r.1 ∙ ap (λ l. Some (saving (call_at f r.0 slots [] ∷ rest) l sack))
            (take_one_more slots n v.0 hand v.1)),
        r.2,
      )

  -- a whole block
  block_kept : (k p : ℕ) (slots ops : List Value) (rest : List MachineCall) (sack : List Frame)
      → HasAt w.code k (keep_tops (length ops) (keep_slots (length slots) (Seal p ∷ [])))
      → repeat (save_step ws) (length ops + (length slots + 1))
      (saving (call_at f k slots ops ∷ rest) [] sack)
      ≡ Some (saving rest [] (sack ++ frame_of f p (slots ++ reverse ops) ∷ []))
  block_kept k p slots ops rest sack h =
      let a = tops_kept ops k slots rest [] sack _ h in
      let b = slots_kept (length slots) a.0 slots rest (reverse_aux ops []) sack _ (omega arith) a.2 in
      let v : take (length slots) slots ++ reverse_aux ops []
      ≡ slots ++ reverse ops = ap (λ l. l ++ reverse ops) (take_all slots) in
      let st = save_at b.0 slots [] rest (take (length slots) slots ++ reverse_aux ops []) sack
      (Seal p) b.2.0 in
      let st' = st ∙ ap (λ l. Some (saving rest [] (sack ++ frame_of f p l ∷ []))) v in
      both_then (save_step ws) (length ops) (length slots + 1) (saving (call_at f k slots ops ∷ rest) [] sack)
      (saving (call_at f a.0 slots [] ∷ rest) (reverse_aux ops []) sack) _ a.1
      (then_one (save_step ws) (length slots)
      (saving (call_at f a.0 slots [] ∷ rest) (reverse_aux ops []) sack)
      (saving (call_at f b.0 slots [] ∷ rest)
      (take (length slots) slots ++ reverse_aux ops []) sack) _ b.1 st')

-- directly after a point is the test that leads to its block
test_behind : (b : Body) (code : List Instr) (s k p : ℕ) (callee : Option ℕ)
    → HasAt code s (main b k (point_instr callee p))
    → slice_get code (s + 1) ≡ Some (TestSave (save_place b p))
test_behind b code s k p None h = h.1.0
test_behind b code s k p (Some g) h = h.1.0

pub length_map : {A B : Type 0} (f : A → B) (xs : List A) → length (map f xs) ≡ length xs
length_map f [] = refl
length_map f (x ∷ xs) = ap suc (length_map f xs)

frame_is : (f p : ℕ) (values : List Value) (fr : Frame) → fr.function ≡ f → fr.point ≡ p → fr.slots ≡ values
    → frame_of f p values ≡ fr
frame_is f p values fr a b c =
    ap (λ x. frame_of x p values) (sym a) ∙ ap (λ x. frame_of fr.function x values) (sym b)
    ∙ ap (λ x. frame_of fr.function fr.point x) (sym c)

module _ (bs : List Body) where
  -- the point's map gives the number of operands that wait
  pub waits_for : (c : MachineCall) (k : ℕ) (callee : Option ℕ) (fr : Frame) (st : Stands bs c k callee fr)
      → waiting st.body st.point ≡ length c.operands
  waits_for c k callee fr st =
      omega (
        arith,
        ap length st.kinds,
        length_map kind_of fr.slots,
        ap length st.values,
        length-append c.slots
            (reverse c.operands),
        length-reverse c.operands,
        st.slots,
      )

  one_saved : (c : MachineCall) (k : ℕ) (callee : Option ℕ) (fr : Frame) (rest : List MachineCall)
      (sack : List Frame) (x : ℕ) (st : Stands bs c k callee fr) → x ≡ shift st.body k + 1 → (n : ℕ)
      × (repeat (save_step (all_woven bs)) n (saving (at_place c x c.operands ∷ rest) [] sack)
      ≡ Some (saving rest [] (sack ++ fr ∷ [])))
  one_saved c k callee fr rest sack x st e =
      let b = st.body in
      let p = fr.point in
      let ws = all_woven bs in
      let wf = woven_found bs c.function b st.found in
      let l = laid b in
      let test = test_behind b (woven_code b) (shift b k) k p callee
      (l.mains k (point_instr callee p) st.here) in
      let test' = subst (λ n. slice_get (woven_code b) n ≡ Some (TestSave (save_place b p))) (sym e) test in
      let go = save_at ws c.function (woven_of b) wf x c.slots c.operands rest [] sack
      (TestSave (save_place b p)) test' in
      let block = l.saves p st.point st.mapped in
      let block' = subst (λ n. HasAt (woven_code b) (save_place b p)
      (keep_tops n (keep_slots (length b.slots) (Seal p ∷ [])))) (waits_for c k callee fr st) block in
      let block'' = subst (λ n. HasAt (woven_code b) (save_place b p)
      (keep_tops (length c.operands) (keep_slots n (Seal p ∷ [])))) (sym st.slots) block' in
      let kept = block_kept ws c.function (woven_of b) wf
      (save_place b p) p c.slots c.operands rest sack block'' in
      let kept' = kept ∙ ap (λ r. Some (saving rest [] (sack ++ r ∷ [])))
      (frame_is c.function p (c.slots ++ reverse c.operands) fr st.function refl st.values) in (
        suc (length c.operands + (length c.slots + 1)),
        first_then (save_step ws)
            (length c.operands + (length c.slots + 1)) (saving (at_place c x c.operands ∷ rest) [] sack)
            (saving (at_place c (save_place b p) c.operands ∷ rest) [] sack) _ go kept',
      )

  pub waiting_at : (c : MachineCall) (k : ℕ) (b : Body) → slice_get bs c.function ≡ Some b → c.place ≡ k + 1
      → woven_place (slice_get bs c.function) (c.place - 1) + 1 ≡ shift b k + 1
  waiting_at c k b found e =
      let z : c.place - 1 ≡ k = omega (arith, e) in
      ap (λ o. woven_place o (c.place - 1) + 1) found ∙ ap (λ n. shift b n + 1) z

  waits_saved : (cs : List MachineCall) (frs : List Frame) (h g : ℕ) (sack : List Frame) → Wait bs h cs frs g
      → (n : ℕ) × (repeat (save_step (all_woven bs)) n (saving (map (lift_waiting bs) cs) [] sack)
      ≡ Some (saving [] [] (sack ++ frs)))
  waits_saved [] [] h g sack w = (0, ap (λ l. Some (saving [] [] l)) (sym (append-nil sack)))
  waits_saved [] (fr ∷ frs) h g sack w = absurd w
  waits_saved (c ∷ cs) [] h g sack w = absurd w
  waits_saved (c ∷ cs) (fr ∷ frs) h g sack w =
      let k = w.0 in
      let st : Stands bs c k (Some g) fr = w.2 in
      let rest = map (lift_waiting bs) cs in
      let a = one_saved c k (Some g) fr rest sack (woven_place (slice_get bs c.function) (c.place - 1) + 1) st
      (waiting_at c k st.body st.found w.1) in
      let b = waits_saved cs frs h c.function (sack ++ fr ∷ []) w.3 in
      let e = append_assoc sack (fr ∷ []) frs in (
        a.0 + b.0,
        both_then (save_step (all_woven bs)) a.0 b.0
            (saving (map (lift_waiting bs) (c ∷ cs)) [] sack) (saving rest [] (sack ++ fr ∷ [])) _ a.1
            (b.1 ∙ ap (λ l. Some (saving [] [] l)) e),
      )

  -- saving ends with the frames
  pub frames_saved : (h : ℕ) (cs : List MachineCall) (frs : List Frame) → HasFrames bs h cs frs → (n : ℕ)
      × (repeat (save_step (all_woven bs)) n (begins_saving (lift bs cs)) ≡ Some (saving [] [] frs))
  frames_saved h [] frs w = absurd w
  frames_saved h (c ∷ cs) [] w = absurd w
  frames_saved h (c ∷ cs) (fr ∷ frs) w =
      let st : Stands bs c c.place None fr = w.0 in
      let rest = map (lift_waiting bs) cs in
      let x = woven_place (slice_get bs c.function) c.place + 1 in
      let a = one_saved c c.place None fr rest [] x st (ap (λ o. woven_place o c.place + 1) st.found) in
      let b = waits_saved cs frs h c.function (fr ∷ []) w.1 in (
        a.0 + b.0,
        both_then (save_step (all_woven bs)) a.0 b.0 (begins_saving (lift bs (c ∷ cs)))
            (saving rest [] (fr ∷ [])) _ a.1 b.1,
      )
