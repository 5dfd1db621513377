-- What the added code puts back.
use Rattle.std.proofs.Common.{◌≡◌, ℕ, suc, ◌+◌, ◌*◌, ◌≤◌, List, [], ◌∷◌, ◌++◌, length, map, reverse, Option, Some, None, refl, sym, ap, ◌∙◌, subst, arith, append_assoc, append-nil, length-append}
use Rattle.std.proofs.lemmas.List.Sums.{sum_by-cons}
use Rattle.std.specs.Prelude.{slice_get, slice_set, option_map}
use mathlib.Core.List.{reverse_aux, reverse-reverse}
use Rattle.std.proofs.lemmas.List.{length-reverse}
use Rattle.lsl_value.specs.declared.tagged.Value.{Value}
use Rattle.lsl_running.specs.Values.{empty_of}
use Rattle.lsl_code.specs.declared.frames.Frame.{Frame}
use Rattle.lsl_code.specs.declared.instructions.Instr.{Instr}
use Rattle.lsl_code.specs.declared.instructions.Instr.TheVariants.{Jump, TestBack, Unpack, BackSlot, BackTop, Branch, Again, Awake}
use Rattle.lsl_code.specs.Bodies.{Body, instruction_in}
use Rattle.lsl_code.specs.Machine.{MachineCall, call_at}
use Rattle.lsl_code.specs.Modes.{repeat, at_place, landing}
use Rattle.lsl_code.specs.Restoring.{restoring, awake_with, blank, BackAct, Moves, unpacked, where_slot, back_act, back_after, back_step, begins_restoring}
use Rattle.lsl_weave.specs.Layout.{shift, waiting, backs_from, back_place, back_slots, back_tops, back_end, woven_code, woven_of, all_woven}
use Rattle.lsl_code.specs.Standing.{Stands, Wait, HasFrames}
use Rattle.lsl_weave.specs.Lifting.{woven_place, lift_waiting, lift, AreOnePlaced}
use Rattle.lsl_code.specs.Weaves.{most_steps}
use Rattle.lsl_code.proofs.Repeating.{first_then, both_then, then_one}
use Rattle.lsl_weave.proofs.Placing.{HasAt, laid}
use Rattle.lsl_weave.proofs.Saved.{woven_found, length_map, waits_for, waiting_at}
use Rattle.lsl_code.specs.Weaves.{values_count}

abbrev pub Restores : List Body → ℕ → List Frame → List MachineCall → ℕ → Type 0
Restores bs handler sack calls n =
    (b : Body) × (point : ℕ) × (slice_get bs handler ≡ Some b)
    × (repeat (back_step bs) n (begins_restoring handler b sack) ≡ Some (awake_with calls point [] []))

pub unpacked_end : (frs : List Frame) (fr : Frame) (go : List Frame → Frame → BackAct)
    → unpacked (frs ++ fr ∷ []) go ≡ go frs fr
unpacked_end [] fr go = refl
unpacked_end (f ∷ []) fr go = refl
unpacked_end (f ∷ g ∷ frs) fr go = unpacked_end (g ∷ frs) fr (λ rest last. go (f ∷ rest) last)

pub get_seam : {A : Type 0} (done : List A) (d : A) (ds : List A)
    → slice_get (done ++ d ∷ ds) (length done) ≡ Some d
get_seam [] d ds = refl
get_seam (x ∷ done) d ds = get_seam done d ds

pub set_seam : {A : Type 0} (done : List A) (d v : A) (ds : List A)
    → slice_set (done ++ d ∷ ds) (length done) v ≡ done ++ v ∷ ds
set_seam [] d v ds = refl
set_seam (x ∷ done) d v ds = ap (λ l. x ∷ l) (set_seam done d v ds)

module _ (ws : List Body) (f : ℕ) (w : Body) (found : slice_get ws f ≡ Some w) where
  back_at : (k : ℕ) (slots ops : List Value) (rest : List MachineCall) (point : ℕ) (hand : List Value)
      (sack : List Frame) (i : Instr) → slice_get w.code k ≡ Some i
      → back_step ws (restoring (call_at f k slots ops ∷ rest) point hand sack)
      ≡ back_after ws (back_act (Some w) (Some i)
      (call_at f k slots ops) point hand sack) rest point hand sack
  back_at k slots ops rest point hand sack i e =
      ap (λ o. back_after ws (back_act o (instruction_in o k)
      (call_at f k slots ops) point hand sack) rest point hand sack) found
      ∙ ap (λ o. back_after ws (back_act (Some w) o
      (call_at f k slots ops) point hand sack) rest point hand sack) e

  slots_back : (vs ds done more : List Value) (i k : ℕ) (rest : List MachineCall) (point : ℕ)
      (sack : List Frame) (tail : List Instr) → i ≡ length done → length ds ≡ length vs
      → HasAt w.code k (back_slots i (length vs) tail) → (k' : ℕ)
      × (repeat (back_step ws) (length vs)
      (restoring (call_at f k (done ++ ds) [] ∷ rest) point (vs ++ more) sack)
      ≡ Some (restoring (call_at f k' (done ++ vs) [] ∷ rest) point more sack)) × HasAt w.code k' tail
  slots_back [] [] done more i k rest point sack tail e l h = (k, refl, h)
  slots_back [] (d ∷ ds) done more i k rest point sack tail e l h = absurd (omega arith)
  slots_back (v ∷ vs) [] done more i k rest point sack tail e l h = absurd (omega arith)
  slots_back (v ∷ vs) (d ∷ ds) done more i k rest point sack tail e l h =
      let next : suc i ≡ length (done ++ v ∷ []) = omega (arith, length-append done (v ∷ [])) in
      let r = slots_back vs ds (done ++ v ∷ []) more (suc i) (k + 1) rest point sack tail next
      (omega arith) h.1 in
      let S0 = restoring (call_at f k (done ++ d ∷ ds) [] ∷ rest) point (v ∷ (vs ++ more)) sack in
      let S1 = restoring (call_at f (k + 1) ((done ++ v ∷ []) ++ ds) [] ∷ rest) point (vs ++ more) sack in
      let has : slice_get (done ++ d ∷ ds) i ≡ Some d = ap (λ n. slice_get (done ++ d ∷ ds) n) e
      ∙ get_seam done d ds in
      let put : slice_set (done ++ d ∷ ds) i v
      ≡ (done ++ v ∷ []) ++ ds = ap (λ n. slice_set (done ++ d ∷ ds) n v) e ∙ set_seam done d v ds
      ∙ sym (append_assoc done (v ∷ []) ds) in
      let st = back_at k (done ++ d ∷ ds) [] rest point (v ∷ (vs ++ more)) sack (BackSlot i) h.0
      ∙ ap (λ o. back_after ws (where_slot o
      (Moves (call_at f (k + 1) (slice_set (done ++ d ∷ ds) i v) []) point (vs ++ more) sack)) rest point
      (v ∷ (vs ++ more)) sack) has ∙ ap
      (λ l. Some (restoring (call_at f (k + 1) l [] ∷ rest) point (vs ++ more) sack)) put in (
        r.0,
        first_then (back_step ws) (length vs) S0 S1 _ st
            (r.1 ∙ ap (λ l. Some (restoring (call_at f r.0 l [] ∷ rest) point more sack))
            (append_assoc done (v ∷ []) vs)),
        r.2,
      )

  tops_back : (vs : List Value) (k : ℕ) (slots ops : List Value) (rest : List MachineCall) (point : ℕ)
      (sack : List Frame) (tail : List Instr) → HasAt w.code k (back_tops (length vs) tail) → (k' : ℕ)
      × (repeat (back_step ws) (length vs) (restoring (call_at f k slots ops ∷ rest) point vs sack)
      ≡ Some (restoring (call_at f k' slots (reverse_aux vs ops) ∷ rest) point [] sack))
      × HasAt w.code k' tail
  tops_back [] k slots ops rest point sack tail h = (k, refl, h)
  tops_back (v ∷ vs) k slots ops rest point sack tail h =
      let r = tops_back vs (k + 1) slots (v ∷ ops) rest point sack tail h.1 in (
        r.0,
        first_then (back_step ws) (length vs)
            (restoring (call_at f k slots ops ∷ rest) point (v ∷ vs) sack)
            (restoring (call_at f (k + 1) slots (v ∷ ops) ∷ rest) point vs sack) _
            (back_at k slots ops rest point (v ∷ vs) sack BackTop h.0) r.1,
        r.2,
      )

  -- from the function's start to a point's block
  pub head_back : (r q : ℕ) (slots : List Value) (rest : List MachineCall) (point : ℕ) (hand : List Value)
      (sack : List Frame) (fr : Frame) → slice_get w.code 0 ≡ Some (TestBack r)
      → slice_get w.code r ≡ Some Unpack → slice_get w.code (r + 1) ≡ Some Branch
      → slice_get w.code (r + 2 + fr.point) ≡ Some (Jump q)
      → repeat (back_step ws) 4 (restoring (call_at f 0 slots [] ∷ rest) point hand (sack ++ fr ∷ []))
      ≡ Some (restoring (call_at f q slots [] ∷ rest) fr.point fr.slots sack)
  head_back r q slots rest point hand sack fr e0 e1 e2 e3 =
      let all = sack ++ fr ∷ [] in
      let S0 = restoring (call_at f 0 slots [] ∷ rest) point hand all in
      let S1 = restoring (call_at f r slots [] ∷ rest) point hand all in
      let S2 = restoring (call_at f (r + 1) slots [] ∷ rest) fr.point fr.slots sack in
      let S3 = restoring (call_at f (r + 1 + 1 + fr.point) slots [] ∷ rest) fr.point fr.slots sack in
      let S4 = restoring (call_at f q slots [] ∷ rest) fr.point fr.slots sack in
      let z : r + 2 + fr.point ≡ r + 1 + 1 + fr.point = omega arith in
      let e3' = subst (λ n. slice_get w.code n ≡ Some (Jump q)) z e3 in
      let s1 = back_at 0 slots [] rest point hand all (TestBack r) e0 in
      let s2 = back_at r slots [] rest point hand all Unpack e1
      ∙ ap (λ a. back_after ws a rest point hand all)
      (unpacked_end sack fr (λ left x. Moves (call_at f (r + 1) slots []) x.point x.slots left)) in
      let s3 = back_at (r + 1) slots [] rest fr.point fr.slots sack Branch e2 in
      let s4 = back_at (r + 1 + 1 + fr.point) slots [] rest fr.point fr.slots sack (Jump q) e3' in
      first_then (back_step ws) 3 S0 S1 _ s1
      (first_then (back_step ws) 2 S1 S2 _ s2
      (first_then (back_step ws) 1 S2 S3 _ s3 (first_then (back_step ws) 0 S3 S4 _ s4 refl)))

more_values : (fr : Frame) (frs : List Frame) → values_count (fr ∷ frs) ≡ length fr.slots + values_count frs
more_values fr frs = sum_by-cons (λ (frame : Frame). length frame.slots) fr frs

same_body : (bs : List Body) (f g : ℕ) (a b : Body) → f ≡ g → slice_get bs f ≡ Some a
    → slice_get bs g ≡ Some b → a ≡ b
same_body bs f g a b e p q = let s : slice_get bs f ≡ slice_get bs g = ap (λ n. slice_get bs n) e in cc

module _ (bs : List Body) where
  -- one frame, up to its block's end
  frame_back : (c : MachineCall) (k : ℕ) (callee : Option ℕ) (fr : Frame) (rest : List MachineCall)
      (point : ℕ) (hand : List Value) (sack : List Frame) (st : Stands bs c k callee fr) → (k' : ℕ)
      × (repeat (back_step (all_woven bs)) (4 + (length c.slots + length c.operands))
      (restoring (blank c.function (woven_of st.body) ∷ rest) point hand (sack ++ fr ∷ []))
      ≡ Some (restoring (call_at c.function k' c.slots c.operands ∷ rest) fr.point [] sack))
      × HasAt (woven_code st.body) k' (back_end st.body fr.point callee)
  frame_back c k callee fr rest point hand sack st =
      let b = st.body in
      let p = fr.point in
      let ws = all_woven bs in
      let w = woven_of b in
      let wf = woven_found bs c.function b st.found in
      let l = laid b in
      let empties = map empty_of b.slots in
      let head = head_back ws c.function w wf (backs_from b)
      (back_place b p) empties rest point hand sack fr l.head l.unpack l.branch
      (l.tables p st.point st.mapped) in
      let block = l.backs p st.point st.mapped in
      let block1 = subst (λ n. HasAt (woven_code b) (back_place b p)
      (back_slots 0 n (back_tops (waiting b st.point) (back_end b p st.point.calls))))
      (sym st.slots) block in
      let ops_len : length (reverse c.operands) ≡ length c.operands = length-reverse c.operands in
      let wait : waiting b st.point ≡ length (reverse c.operands) = waits_for bs c k callee fr st
      ∙ sym ops_len in
      let block2 = subst (λ n. HasAt (woven_code b) (back_place b p)
      (back_slots 0 (length c.slots) (back_tops n (back_end b p st.point.calls)))) wait block1 in
      let block3 = subst (λ o. HasAt (woven_code b) (back_place b p)
      (back_slots 0 (length c.slots) (back_tops (length (reverse c.operands))
      (back_end b p o)))) st.calls block2 in
      let fit : length empties ≡ length c.slots = length_map empty_of b.slots ∙ sym st.slots in
      let s = slots_back ws c.function w wf c.slots empties [] (reverse c.operands) 0
      (back_place b p) rest p sack _ refl fit block3 in
      let t = tops_back ws c.function w wf (reverse c.operands) s.0 c.slots [] rest p sack _ s.2 in
      let S1 = restoring (call_at c.function (back_place b p) empties [] ∷ rest) p fr.slots sack in
      let S1' = restoring (call_at c.function (back_place b p) empties [] ∷ rest) p
      (c.slots ++ reverse c.operands) sack in
      let S2 = restoring (call_at c.function s.0 c.slots [] ∷ rest) p (reverse c.operands) sack in
      let head' = head ∙ ap (λ v. Some
      (restoring (call_at c.function (back_place b p) empties [] ∷ rest) p v sack)) st.values in
      let twice : reverse_aux (reverse c.operands) [] ≡ c.operands = reverse-reverse c.operands in
      let t' = t.1 ∙ ap (λ o. Some (restoring (call_at c.function t.0 c.slots o ∷ rest) p [] sack)) twice in
      let t'' = subst (λ n. repeat (back_step ws) n S2
      ≡ Some (restoring (call_at c.function t.0 c.slots c.operands ∷ rest) p [] sack)) ops_len t' in (
        t.0,
        both_then (back_step ws) 4 (length c.slots + length c.operands)
            (restoring (blank c.function w ∷ rest) point hand (sack ++ fr ∷ [])) S1' _ head'
            (both_then (back_step ws) (length c.slots) (length c.operands) S1' S2 _ s.1 t''),
        t.2,
      )

  -- the calls that wait, from the outermost inwards, up to the entry of the function that they wait for
  waits_back : (cs : List MachineCall) (frs : List Frame) (h g : ℕ) (bh bg : Body) (frs0 : List Frame)
      → AreOnePlaced bs → slice_get bs h ≡ Some bh → slice_get bs g ≡ Some bg → Wait bs h cs frs g → (n : ℕ)
      × (n ≤ 5 * length frs + values_count frs) × (point : ℕ)
      × (repeat (back_step (all_woven bs)) n (restoring (blank h (woven_of bh) ∷ []) 0 [] (frs0 ++ frs))
      ≡ Some (restoring (blank g (woven_of bg) ∷ map (lift_waiting bs) cs) point [] frs0))
  waits_back [] [] h g bh bg frs0 one fh fg w =
      let e : bh ≡ bg = sym (same_body bs g h bg bh w fg fh) in
      let s = restoring (blank h (woven_of bh) ∷ []) 0 [] in (
        0,
        omega arith,
        0,
        ap (λ l. Some (restoring (blank h (woven_of bh) ∷ []) 0 [] l)) (append-nil frs0)
            ∙ ap (λ b. Some (restoring (blank h (woven_of b) ∷ []) 0 [] frs0)) e
            ∙ ap (λ f. Some (restoring (blank f (woven_of bg) ∷ []) 0 [] frs0)) (sym w),
      )
  waits_back [] (fr ∷ frs) h g bh bg frs0 one fh fg w = absurd w
  waits_back (c ∷ cs) [] h g bh bg frs0 one fh fg w = absurd w
  waits_back (c ∷ cs) (fr ∷ frs) h g bh bg frs0 one fh fg w =
      let k = w.0 in
      let st : Stands bs c k (Some g) fr = w.2 in
      let b = st.body in
      let ws = all_woven bs in
      let rest = map (lift_waiting bs) cs in
      let a = waits_back cs frs h c.function bh b (frs0 ++ fr ∷ []) one fh st.found w.3 in
      let S0 = restoring (blank h (woven_of bh) ∷ []) 0 [] (frs0 ++ fr ∷ frs) in
      let S1 = restoring (blank c.function (woven_of b) ∷ rest) a.2 [] (frs0 ++ fr ∷ []) in
      let a' = subst (λ l. repeat (back_step ws) a.0 (restoring (blank h (woven_of bh) ∷ []) 0 [] l)
      ≡ Some S1) (append_assoc frs0 (fr ∷ []) frs) a.3 in
      let m = frame_back c k (Some g) fr rest a.2 [] frs0 st in
      let S2 = restoring (call_at c.function m.0 c.slots c.operands ∷ rest) fr.point [] frs0 in
      let back = λ (o : Option Instr). λ (x : Body). Some
      (restoring (blank g x ∷ at_place c (landing o (m.0 + 1)) c.operands ∷ rest) fr.point [] frs0) in
      let again = back_at ws c.function (woven_of b)
      (woven_found bs c.function b st.found) m.0 c.slots c.operands rest fr.point [] frs0
      (Again g) m.2.0 in
      let enter = ap (option_map (λ callee. restoring
      (blank g callee ∷ at_place c (landing (slice_get (woven_code b) (m.0 + 1))
      (m.0 + 1)) c.operands ∷ rest) fr.point [] frs0)) (woven_found bs g bg fg) in
      let jump = ap (λ o. back o (woven_of bg)) m.2.1.0 in
      let home = ap (λ x. Some (restoring
      (blank g (woven_of bg) ∷ at_place c x c.operands ∷ rest) fr.point [] frs0))
      (ap (λ x. shift b x + 1) (one c.function b st.found k fr.point (Some g) st.here)
      ∙ sym (waiting_at bs c k b st.found w.1)) in
      let n1 = 4 + (length c.slots + length c.operands) in
      let count : a.0 + (n1 + 1) ≤ 5 * length (fr ∷ frs) + values_count (fr ∷ frs) = omega (
        arith,
        a.1,
        more_values fr frs,
        ap length st.values,
        length-append c.slots
            (reverse c.operands),
        length-reverse c.operands,
      ) in (
        a.0 + (n1 + 1),
        count,
        fr.point,
        both_then (back_step ws) a.0 (n1 + 1) S0 S1 _ a'
            (then_one (back_step ws) n1 S1 S2 _ m.1 (again ∙ enter ∙ jump ∙ home)),
      )

  handler_found : (cs : List MachineCall) (frs : List Frame) (h g : ℕ) (bg : Body) → slice_get bs g ≡ Some bg
      → Wait bs h cs frs g → (bh : Body) × (slice_get bs h ≡ Some bh)
  handler_found [] [] h g bg fg w = (bg, ap (slice_get bs) (sym w) ∙ fg)
  handler_found [] (fr ∷ frs) h g bg fg w = absurd w
  handler_found (c ∷ cs) [] h g bg fg w = absurd w
  handler_found (c ∷ cs) (fr ∷ frs) h g bg fg w = handler_found cs frs h c.function w.2.body w.2.found w.3

  -- restoring ends with the machine that has the frames, within the bound
  pub frames_restored : (h : ℕ) (cs : List MachineCall) (frs : List Frame) → AreOnePlaced bs
      → HasFrames bs h cs frs → (n : ℕ) × (n ≤ most_steps frs) × Restores (all_woven bs) h frs (lift bs cs) n
  frames_restored h [] frs one w = absurd w
  frames_restored h (c ∷ cs) [] one w = absurd w
  frames_restored h (c ∷ cs) (fr ∷ frs) one w =
      let st : Stands bs c c.place None fr = w.0 in
      let b = st.body in
      let ws = all_woven bs in
      let rest = map (lift_waiting bs) cs in
      let bh = handler_found cs frs h c.function b st.found w.1 in
      let a = waits_back cs frs h c.function bh.0 b (fr ∷ []) one bh.1 st.found w.1 in
      let S0 = begins_restoring h (woven_of bh.0) (fr ∷ frs) in
      let S1 = restoring (blank c.function (woven_of b) ∷ rest) a.2 [] (fr ∷ []) in
      let m = frame_back c c.place None fr rest a.2 [] [] st in
      let S2 = restoring (call_at c.function m.0 c.slots c.operands ∷ rest) fr.point [] [] in
      let done = λ (x : ℕ). Some (awake_with (at_place c x c.operands ∷ rest) fr.point [] []) in
      let wake = back_at ws c.function (woven_of b)
      (woven_found bs c.function b st.found) m.0 c.slots c.operands rest fr.point [] [] Awake m.2.0 in
      let jump = ap (λ o. done (landing o (m.0 + 1))) m.2.1.0 in
      let home = ap done (ap (shift b) (one c.function b st.found c.place fr.point None st.here)
      ∙ ap (λ o. woven_place o c.place) (sym st.found)) in
      let n1 = 4 + (length c.slots + length c.operands) in
      let count : a.0 + (n1 + 1) ≤ most_steps (fr ∷ frs) = omega (
        arith,
        a.1,
        more_values fr frs,
        ap length st.values,
        length-append c.slots
            (reverse c.operands),
        length-reverse c.operands,
      ) in (
        a.0 + (n1 + 1),
        count,
        (
          woven_of bh.0,
          fr.point,
          woven_found bs h bh.0 bh.1,
          both_then
              (back_step ws) a.0 (n1 + 1) S0 S1 _ a.3
              (then_one (back_step ws) n1 S1 S2 _ m.1 (wake ∙ jump ∙ home)),
        ),
      )
