-- Woven code passes the test that the plain code passes.
use Rattle.std.proofs.Common.{◌≡◌, ℕ, zero, suc, ◌+◌, ◌<◌, ◌≤◌, List, [], ◌∷◌, ◌++◌, length, Bool, true, false, cond, nat_lt, Option, None, Some, refl, sym, ap, ◌∙◌, subst, arith}
use Rattle.std.specs.Prelude.{slice_get, ◌&&◌}
use Rattle.std.proofs.lemmas.Bool.Decides.{nat_tests}
use Rattle.lsl_code.specs.declared.functions.Point.{Point}
use Rattle.lsl_code.specs.declared.instructions.Instr.{Instr}
use Rattle.lsl_code.specs.declared.instructions.Instr.TheVariants.{Jump, JumpIf, JumpIfNot, Tick, Call, TestSave, KeepSlot, KeepTop, Seal, TestBack, Unpack, BackSlot, BackTop, Branch, Again, Awake}
use Rattle.lsl_code.specs.Bodies.{Body}
use Rattle.lsl_code.specs.Forward.{leads_back, is_back, is_tick, begins}
use Rattle.lsl_weave.specs.Layout.{offset, width, shift, waiting, save_width, back_width, backs_from, back_place, main, keep_tops, keep_slots, save_block, back_slots, back_tops, place_of, back_end, back_block, table, woven_code, woven_of}
use Rattle.lsl_code.specs.ModeStacks.{flat}
use Rattle.lsl_code.specs.Standing.{point_instr}
use Rattle.lsl_weave.proofs.Placing.{HasAt, main_length, save_length, back_length, table_length, laid}
use Rattle.lsl_weave.proofs.Lift.{offset_none, shift_next, first, first_at}
use Rattle.lsl_weave.proofs.Running.{past_still}
use Rattle.lsl_weave.proofs.Weavable.{Weavable}
use Rattle.lsl_code.specs.ForwardTests.{high_in, place_ok, body_ok}
use Rattle.lsl_code.specs.Fits.{all_places, is_plain}
use Rattle.lsl_code.proofs.Sames.{both_true, all_from}

pub both : (a b : Bool) → a ≡ true → b ≡ true → (a && b) ≡ true
both true b h k = k
both false b h k = absurd cc

-- the test over parts of a list
pub all_append : {A : Type 0} (test : ℕ → A → Bool) (s : ℕ) (a b : List A) → all_places test s a ≡ true
    → all_places test (s + length a) b ≡ true → all_places test s (a ++ b) ≡ true
all_append test s [] b h k = let z : s + 0 ≡ s = omega arith in subst (λ n. all_places test n b ≡ true) z k
all_append test s (x ∷ a) b h k =
    let z : s + length (x ∷ a) ≡ suc s + length a = omega arith in
    let e = both_true (test s x) _ h in
    both (test s x) _ e.0 (all_append test (suc s) a b e.1 (subst (λ n. all_places test n b ≡ true) z k))

pub all_flat : {A B : Type 0} (test : ℕ → B → Bool) (g : ℕ → A → List B) (w : A → ℕ)
    → ((i : ℕ) (x : A) → length (g i x) ≡ w x) → (s i : ℕ) (xs : List A)
    → ((k : ℕ) (x : A) → slice_get xs k ≡ Some x → all_places test (s + offset w xs k) (g (i + k) x) ≡ true)
    → all_places test s (flat g i xs) ≡ true
all_flat test g w len s i [] h = refl
all_flat test g w len s i (x ∷ xs) h =
    let z : s + offset w (x ∷ xs) 0 ≡ s = omega arith in
    let z' : i + 0 ≡ i = omega arith in
    let here = subst (λ n. all_places test n (g i x) ≡ true) z
    (subst (λ n. all_places test (s + offset w (x ∷ xs) 0) (g n x) ≡ true) z' (h 0 x refl)) in
    let rest = λ (k : ℕ) (y : _) (e : slice_get xs k ≡ Some y). let p : s + offset w (x ∷ xs) (suc k)
    ≡ s + length (g i x) + offset w xs k = omega (arith, len i x) in
    let p' : i + suc k ≡ suc i + k = omega arith in
    subst (λ n. all_places test n (g (suc i + k) y) ≡ true) p
    (subst (λ n. all_places test (s + offset w (x ∷ xs) (suc k)) (g n y) ≡ true) p' (h (suc k) y e)) in
    all_append test s (g i x) (flat g (suc i) xs) here
    (all_flat test g w len (s + length (g i x)) (suc i) xs rest)

-- shift goes up
pub offset_up : {A : Type 0} (w : A → ℕ) (xs : List A) (u v : ℕ) → u ≤ v → offset w xs u ≤ offset w xs v
offset_up w [] u v le = omega arith
offset_up w (x ∷ xs) zero zero le = omega arith
offset_up w (x ∷ xs) zero (suc v) le = omega arith
offset_up w (x ∷ xs) (suc u) zero le = absurd (omega arith)
offset_up w (x ∷ xs) (suc u) (suc v) le = omega (arith, offset_up w xs u v (omega arith))

width_one : (i : Instr) → 1 ≤ width i
width_one (Tick p) = omega arith
width_one (Call f p) = omega arith
width_one _ = omega arith

pub shift_up : (b : Body) (u v : ℕ) (i : Instr) → slice_get b.code u ≡ Some i → u < v → shift b u < shift b v
shift_up b u v i e lt =
    omega (arith, shift_next b u i e, width_one i, offset_up width b.code (u + 1) v (omega arith))

ahead : (b : Body) (u v : ℕ) (i : Instr) → slice_get b.code u ≡ Some i → nat_lt v (suc u) ≡ false
    → nat_lt (shift b v) (suc (shift b u)) ≡ false
ahead b u v i e h =
    let lt : u < v = grind (arith, nat_tests) in
    let up = shift_up b u v i e lt in
    grind (arith, nat_tests)

first_back : (b : Body) (u : ℕ) (i : Instr) → is_plain i ≡ true → slice_get b.code u ≡ Some i
    → (next next' : Option Instr) → leads_back u (Some i) next ≡ false
    → leads_back (shift b u) (Some (first b i)) next' ≡ false
first_back b u (Jump v) p e next next' h = ahead b u v (Jump v) e h
first_back b u (JumpIf v) p e next next' h = ahead b u v (JumpIf v) e h
first_back b u (JumpIfNot v) p e next next' h = ahead b u v (JumpIfNot v) e h
first_back b u (TestSave t) p e next next' h = absurd cc
first_back b u (TestBack t) p e next next' h = absurd cc
first_back b u i p e next next' h = refl

module _ (b : Body) (plain : (k : ℕ) (i : Instr) → slice_get b.code k ≡ Some i → is_plain i ≡ true) where
  abbrev W : List Instr
  W = woven_code b

  there : (u : ℕ) (i : Instr) → slice_get b.code u ≡ Some i → slice_get W (shift b u) ≡ Some (first b i)
  there u i e = first_at b W (shift b u) u i ((laid b).mains u i e)

  -- woven code has no jump backward where the plain code had none
  not_high : (u : ℕ) (o : Option Instr) → slice_get b.code u ≡ o → high_in b.code u ≡ false
      → high_in W (shift b u) ≡ false
  not_high u None e h =
      let s = past_still b u e in
      ap (λ x. leads_back (shift b u) x (slice_get W (shift b u + 1))) s.1
      ∙ s.2.1 (shift b u) (slice_get W (shift b u + 1))
  not_high u (Some i) e h =
      ap (λ x. leads_back (shift b u) x (slice_get W (shift b u + 1))) (there u i e)
      ∙ first_back b u i (plain u i e) e (slice_get b.code (u + 1)) _
      (ap (λ x. leads_back u x (slice_get b.code (u + 1))) (sym e) ∙ h)

  lands_true : (c : Bool) → c ≡ false → cond c false true ≡ true
  lands_true true h = absurd cc
  lands_true false h = refl

  free_true : (c h : Bool) → h ≡ false → cond c true (cond h false true) ≡ true
  free_true true h e = refl
  free_true false h e = lands_true h e

  same_true : (c h : Bool) → h ≡ c → cond c true (cond h false true) ≡ true
  same_true true h e = refl
  same_true false h e = lands_true h e

  first_same : (i : Instr) (q : ℕ) (next : Option Instr) → is_plain i ≡ true
      → leads_back q (Some (first b i)) next ≡ is_back q (Some (first b i))
  first_same (TestSave t) q next p = absurd cc
  first_same (TestBack t) q next p = absurd cc
  first_same i q next p = refl

  back_low : (q : ℕ) (o next : Option Instr) → leads_back q o next ≡ false → is_back q o ≡ false
  back_low q (Some (TestSave t)) next h = refl
  back_low q (Some (TestBack t)) next h = refl
  back_low q None next h = refl
  back_low q (Some i) next h = h

  -- after a test is a jump backward, or neither that nor a test before one
  test_ok : (u y : ℕ) (o : Option Instr) → y ≡ shift b u → slice_get b.code u ≡ o
      → cond (is_back y (slice_get W y)) true (cond (high_in W y) false true) ≡ true
  test_ok u y None z e =
      subst (λ q. cond (is_back q (slice_get W q)) true (cond (high_in W q) false true) ≡ true) (sym z)
      (free_true _ _ (not_high u None e (ap (λ x. leads_back u x (slice_get b.code (u + 1))) e)))
  test_ok u y (Some i) z e =
      let q = shift b u in
      let next = slice_get W (q + 1) in
      subst (λ q. cond (is_back q (slice_get W q)) true (cond (high_in W q) false true) ≡ true) (sym z)
      (same_true (is_back q (slice_get W q)) (high_in W q)
      (ap (λ x. leads_back q x next) (there u i e) ∙ first_same i q next (plain u i e)
      ∙ sym (ap (is_back q) (there u i e))))

  module _ (tested : all_places (place_ok b.code) 0 b.code ≡ true) where
    place_is : (k : ℕ) (i : Instr) → slice_get b.code k ≡ Some i → place_ok b.code k i ≡ true
    place_is k i e =
        let z : 0 + k ≡ k = omega arith in
        ap (λ n. place_ok b.code n i) (sym z) ∙ all_from (place_ok b.code) 0 b.code k i tested e

    false_of : (c : Bool) → cond c false true ≡ true → c ≡ false
    false_of true h = absurd cc
    false_of false h = refl

    -- an instruction of width 1
    next_low : (k : ℕ) (i : Instr) → slice_get b.code k ≡ Some i → width i ≡ 1
        → high_in b.code (k + 1) ≡ false → high_in W (shift b k + 1) ≡ false
    next_low k i e one h =
        let z : shift b (k + 1) ≡ shift b k + 1 = omega (arith, shift_next b k i e, one) in
        subst (λ q. high_in W q ≡ false) z (not_high (k + 1) (slice_get b.code (k + 1)) refl h)

    jump_low : (t : ℕ) → cond (high_in b.code t) false true ≡ true
        → cond (high_in W (shift b t)) false true ≡ true
    jump_low t h = lands_true _ (not_high t (slice_get b.code t) refl (false_of (high_in b.code t) h))

    -- after the test after a call
    enter_low : (k f p : ℕ) → slice_get b.code k ≡ Some (Call f p)
        → is_back (shift b k + 1 + 1) (slice_get W (shift b k + 1 + 1)) ≡ false
    enter_low k f p e =
        let ok : cond (high_in b.code (k + 1)) false true ≡ true = place_is k (Call f p) e in
        let low = not_high (k + 1) (slice_get b.code (k + 1)) refl (false_of _ ok) in
        let z : shift b (k + 1) ≡ shift b k + 1 + 1 = omega (arith, shift_next b k (Call f p) e) in
        subst (λ q. is_back q (slice_get W q) ≡ false) z
        (back_low (shift b (k + 1)) (slice_get W (shift b (k + 1)))
        (slice_get W (shift b (k + 1) + 1)) low)

    enter_high : (k f p : ℕ) → slice_get b.code k ≡ Some (Call f p) → high_in W (shift b k + 1) ≡ false
    enter_high k f p e =
        ap (λ x. leads_back (shift b k + 1) x (slice_get W (shift b k + 1 + 1)))
        ((laid b).mains k (Call f p) e).1.0 ∙ enter_low k f p e

    point_test : (k n : ℕ) (i : Instr) → slice_get b.code k ≡ Some i → width i ≡ 2 → n ≡ suc (shift b k)
        → cond (is_back (n + 1) (slice_get W (n + 1))) true (cond (high_in W (n + 1)) false true) ≡ true
    point_test k n i e two z =
        let y : n + 1 ≡ shift b (k + 1) = omega (arith, shift_next b k i e, two, z) in
        test_ok (k + 1) (n + 1) (slice_get b.code (k + 1)) y refl

    main_ok : (k : ℕ) (i : Instr) → slice_get b.code k ≡ Some i
        → all_places (place_ok W) (shift b k) (main b k i) ≡ true
    main_ok k (Tick p) e = both _ true (point_test k (suc (shift b k)) (Tick p) e refl refl) refl
    main_ok k (Call f p) e = both _ _ (lands_true _ (enter_high k f p e))
        (both _ true (point_test k (suc (shift b k)) (Call f p) e refl refl) refl)
    main_ok k (Jump t) e = both _ true
        (both _ true (jump_low t (both_true _ true (place_is k (Jump t) e)).0) refl) refl
    main_ok k (JumpIf t) e =
        let ok = both_true (cond (high_in b.code t) false true) (cond (high_in b.code (k + 1)) false true)
        (place_is k (JumpIf t) e) in
        both _ true (both _ _ (jump_low t ok.0)
        (lands_true _ (next_low k (JumpIf t) e refl (false_of _ ok.1)))) refl
    main_ok k (JumpIfNot t) e =
        let ok = both_true (cond (high_in b.code t) false true) (cond (high_in b.code (k + 1)) false true)
        (place_is k (JumpIfNot t) e) in
        both _ true (both _ _ (jump_low t ok.0)
        (lands_true _ (next_low k (JumpIfNot t) e refl (false_of _ ok.1)))) refl
    main_ok k (TestSave t) e = let p = plain k (TestSave t) e in absurd cc
    main_ok k (TestBack t) e = let p = plain k (TestBack t) e in absurd cc
    main_ok k (KeepSlot n) e = refl
    main_ok k KeepTop e = refl
    main_ok k (Seal p) e = refl
    main_ok k Unpack e = refl
    main_ok k (BackSlot n) e = refl
    main_ok k BackTop e = refl
    main_ok k Branch e = refl
    main_ok k (Again f) e = refl
    main_ok k Awake e = refl
    main_ok k i e = both _ true (lands_true _
        (next_low k i e refl (false_of (high_in b.code (k + 1)) (place_is k i e)))) refl

    -- the blocks
    tops_ok : (s m : ℕ) (tail : List Instr) → ((s : ℕ) → all_places (place_ok W) s tail ≡ true)
        → all_places (place_ok W) s (keep_tops m tail) ≡ true
    tops_ok s zero tail h = h s
    tops_ok s (suc m) tail h = tops_ok (suc s) m tail h

    slots_ok : (s n : ℕ) (tail : List Instr) → ((s : ℕ) → all_places (place_ok W) s tail ≡ true)
        → all_places (place_ok W) s (keep_slots n tail) ≡ true
    slots_ok s zero tail h = h s
    slots_ok s (suc n) tail h = slots_ok (suc s) n tail h

    save_ok : (s p : ℕ) (pt : Point) → all_places (place_ok W) s (save_block b p pt) ≡ true
    save_ok s p pt = tops_ok s (waiting b pt) _ (λ s. slots_ok s (length b.slots) (Seal p ∷ []) (λ s. refl))

    put_ok : (s i n : ℕ) (tail : List Instr) → ((s : ℕ) → all_places (place_ok W) s tail ≡ true)
        → all_places (place_ok W) s (back_slots i n tail) ≡ true
    put_ok s i zero tail h = h s
    put_ok s i (suc n) tail h = put_ok (suc s) (suc i) n tail h

    push_ok : (s m : ℕ) (tail : List Instr) → ((s : ℕ) → all_places (place_ok W) s tail ≡ true)
        → all_places (place_ok W) s (back_tops m tail) ≡ true
    push_ok s zero tail h = h s
    push_ok s (suc m) tail h = push_ok (suc s) m tail h

    end_ok : (s p : ℕ) (o : Option ℕ) → slice_get b.code (place_of p b.code) ≡ Some (point_instr o p)
        → all_places (place_ok W) s (back_end b p o) ≡ true
    end_ok s p (Some f) e = both _ true
        (both _ true (lands_true _ (enter_high (place_of p b.code) f p e)) refl) refl
    end_ok s p None e =
        let k = place_of p b.code in
        both _ true (both _ true (lands_true _
        (ap (λ x. leads_back (shift b k) x (slice_get W (shift b k + 1)))
        (there k (Tick p) e))) refl) refl

    -- a block begins with no jump
    block_low : (q n m p : ℕ) (o : Option ℕ) → HasAt W q (back_slots 0 n (back_tops m (back_end b p o)))
        → high_in W q ≡ false
    block_low q (suc n) m p o h = ap (λ x. leads_back q x (slice_get W (q + 1))) h.0
    block_low q zero (suc m) p o h = ap (λ x. leads_back q x (slice_get W (q + 1))) h.0
    block_low q zero zero p (Some f) h = ap (λ x. leads_back q x (slice_get W (q + 1))) h.0
    block_low q zero zero p None h = ap (λ x. leads_back q x (slice_get W (q + 1))) h.0

    table_ok : (s p : ℕ) (pt : Point) → slice_get b.points p ≡ Some pt
        → all_places (place_ok W) s (table b p pt) ≡ true
    table_ok s p pt e = both _ true
        (both _ true (lands_true _ (block_low (back_place b p) (length b.slots) (waiting b pt) p pt.calls
        ((laid b).backs p pt e))) refl) refl

    from_zero : (k : ℕ) → 0 + k ≡ k
    from_zero k = omega arith

    mains_ok : all_places (place_ok W) 1 (flat (main b) 0 b.code) ≡ true
    mains_ok =
        all_flat (place_ok W) (main b) width (main_length b) 1 0 b.code
        (λ k i e. subst (λ n. all_places (place_ok W) (shift b k) (main b n i) ≡ true) (sym (from_zero k))
        (main_ok k i e))

    saves_ok : (s : ℕ) → all_places (place_ok W) s (flat (save_block b) 0 b.points) ≡ true
    saves_ok s = all_flat (place_ok W) (save_block b) (save_width b) (save_length b) s 0 b.points
        (λ k pt e. save_ok _ (0 + k) pt)

    tables_ok : (s : ℕ) → all_places (place_ok W) s (flat (table b) 0 b.points) ≡ true
    tables_ok s =
        all_flat (place_ok W) (table b) (λ p. 1) (table_length b) s 0 b.points
        (λ k pt e. subst (λ n. all_places (place_ok W) (s + offset (λ p. 1) b.points k) (table b n pt)
        ≡ true) (sym (from_zero k)) (table_ok (s + offset (λ p. 1) b.points k) k pt e))

    module _ (stand : (p : ℕ) (pt : Point) → slice_get b.points p ≡ Some pt
        → slice_get b.code (place_of p b.code) ≡ Some (point_instr pt.calls p)) where
      back_ok : (s p : ℕ) (pt : Point) → slice_get b.points p ≡ Some pt
          → all_places (place_ok W) s (back_block b p pt) ≡ true
      back_ok s p pt e = put_ok s 0 (length b.slots) _
          (λ s. push_ok s (waiting b pt) _ (λ s. end_ok s p pt.calls (stand p pt e)))

      backs_ok : (s : ℕ) → all_places (place_ok W) s (flat (back_block b) 0 b.points) ≡ true
      backs_ok s =
          all_flat (place_ok W) (back_block b) (back_width b) (back_length b) s 0 b.points
          (λ k pt e. subst (λ n. all_places (place_ok W) (s + offset (back_width b) b.points k)
          (back_block b n pt) ≡ true) (sym (from_zero k)) (back_ok _ k pt e))

      woven_ok : all_places (place_ok W) 0 W ≡ true
      woven_ok =
          let z : 0 + 1 ≡ shift b 0 = omega (arith, offset_none width b.code) in
          let tail = flat (table b) 0 b.points ++ flat (back_block b) 0 b.points in
          let tail_ok = λ (s : ℕ). all_append (place_ok W) s (flat (table b) 0 b.points)
          (flat (back_block b) 0 b.points) (tables_ok s) (backs_ok _) in
          let back_part = λ (s : ℕ). both (place_ok W s Unpack) _ refl
          (both (place_ok W (suc s) Branch) _ refl (tail_ok (suc (suc s)))) in
          both (place_ok W 0 (TestBack (backs_from b))) _
          (both true _ refl (test_ok 0 (0 + 1) (slice_get b.code 0) z refl))
          (all_append (place_ok W) 1 (flat (main b) 0 b.code)
          (flat (save_block b) 0 b.points ++ (Unpack ∷ Branch ∷ tail)) mains_ok
          (all_append (place_ok W) _ (flat (save_block b) 0 b.points) (Unpack ∷ Branch ∷ tail) (saves_ok _)
          (back_part _)))

  starts_ok : (o next : Option Instr) → slice_get b.code 0 ≡ o → begins o next ≡ true
      → is_tick (slice_get W 1) ≡ true
  starts_ok (Some (Tick p)) next e h =
      let z : shift b 0 ≡ 1 = omega (arith, offset_none width b.code) in
      ap is_tick (subst (λ n. slice_get W n ≡ Some (Tick p)) z (there 0 (Tick p) e))
  starts_ok (Some (TestSave t)) next e h = let p = plain 0 (TestSave t) e in absurd cc
  starts_ok (Some (TestBack t)) next e h = let p = plain 0 (TestBack t) e in absurd cc
  starts_ok None next e h = absurd cc
  starts_ok (Some i) next e h = absurd cc

-- woven code passes the test
pub body_woven : (b : Body) → Weavable b → body_ok b ≡ true → body_ok (woven_of b) ≡ true
body_woven b w h =
    let t = both_true (begins (slice_get b.code 0) (slice_get b.code 1))
    (all_places (place_ok b.code) 0 b.code) h in
    both _ _ (starts_ok b w.0 (slice_get b.code 0) (slice_get b.code 1) refl t.0) (woven_ok b w.0 t.1 w.1)
