-- In woven code saving has a good way from each point.
use Rattle.std.proofs.Common.{◌≡◌, ℕ, zero, suc, ◌+◌, ◌-◌, ◌<◌, ◌≤◌, List, [], ◌∷◌, ◌++◌, length, take, drop, Option, Some, None, Bool, true, false, cond, refl, sym, ap, ◌∙◌, arith, length-drop, ⊎_elim}
use Rattle.std.specs.Prelude.{slice_get, option_map, nat_eq}
use mathlib.Core.List.{reverse_aux, reverse-reverse}
use Rattle.std.proofs.lemmas.Bool.{cases_lt}
use Rattle.std.proofs.lemmas.List.{length-reverse}
use Rattle.std.proofs.lemmas.Option.{slice_get_within}
use Rattle.lsl_value.specs.declared.tagged.Kind.{Kind}
use Rattle.lsl_code.specs.declared.functions.Point.{Point}
use Rattle.lsl_code.specs.declared.instructions.Instr.{Instr}
use Rattle.lsl_code.specs.declared.instructions.Instr.TheVariants.{Tick, Call, TestSave, Seal}
use Rattle.lsl_code.specs.Bodies.{Body}
use Rattle.lsl_code.specs.Fits.{all_places, may_be_bare}
use Rattle.lsl_code.specs.Standing.{point_instr}
use Rattle.lsl_code.proofs.Tested.{both, eq_self, sames, less, differs, differs', all_if}
use Rattle.lsl_weave.specs.Layout.{width, shift, waiting, saves_from, save_place, main, keep_tops, keep_slots, woven_code, woven_of}
use Rattle.lsl_code.specs.ModeStacks.{flat}
use Rattle.lsl_code.specs.SaveWays.{Keep, OfSlot, OfTop, keeping, onward, keeps_at, keeps, with_one, kept, are_kinds, keep_count, is_kept_once, waiting_kinds, is_save_way, is_test, saves_point, saves_at}
use Rattle.lsl_weave.proofs.Lift.{shift_next}
use Rattle.lsl_weave.proofs.PlainPoints.{HasPoints}
use Rattle.lsl_weave.proofs.Placing.{HasAt, laid, main_length}
use Rattle.lsl_weave.proofs.Saved.{has_value, take_one_more, take_all}
use Rattle.lsl_weave.proofs.WovenForward.{all_append, all_flat, offset_up}
use Rattle.lsl_weave.proofs.Quiet.{all_others, no_point, blocks, blocks_quiet}

pub onward_on : {A : Type 0} (place to : ℕ) (way : Option A) → place < to → onward place to way ≡ way
onward_on place to way lt = ap (λ b. cond b way None) (less place to lt)

-- the order in which a block keeps
abbrev slots_order : ℕ → List Keep
slots_order zero = []
slots_order (suc n) = OfSlot n ∷ slots_order n

abbrev block_order : ℕ → ℕ → List Keep
block_order zero n = slots_order n
block_order (suc m) n = OfTop ∷ block_order m n

slots_way : (code : List Instr) (n k p more : ℕ) → HasAt code k (keep_slots n (Seal p ∷ []))
    → keeps code (suc (n + more)) k ≡ Some (record { order = slots_order n; point = p })
slots_way code zero k p more h = ap (keeps_at (keeps code (zero + more)) k) h.0
slots_way code (suc n) k p more h =
    let z : suc n + more ≡ suc (n + more) = omega arith in
    ap (keeps_at (keeps code (suc n + more)) k) h.0
    ∙ ap (λ f. option_map (keeping (OfSlot n)) (keeps code f (k + 1))) z
    ∙ ap (option_map (keeping (OfSlot n))) (slots_way code n (k + 1) p more h.1)

block_way : (code : List Instr) (m n k p more : ℕ) → HasAt code k (keep_tops m (keep_slots n (Seal p ∷ [])))
    → keeps code (suc (m + (n + more))) k ≡ Some (record { order = block_order m n; point = p })
block_way code zero n k p more h =
    let z : suc (zero + (n + more)) ≡ suc (n + more) = omega arith in
    ap (λ f. keeps code f k) z ∙ slots_way code n k p more h
block_way code (suc m) n k p more h =
    let z : suc m + (n + more) ≡ suc (m + (n + more)) = omega arith in
    ap (keeps_at (keeps code (suc m + (n + more))) k) h.0
    ∙ ap (λ f. option_map (keeping OfTop) (keeps code f (k + 1))) z
    ∙ ap (option_map (keeping OfTop)) (block_way code m n (k + 1) p more h.1)

slots_kept_kinds : (slots : List Kind) (n : ℕ) (hand : List Kind) → n ≤ length slots
    → kept slots (slots_order n) [] hand ≡ Some (take n slots ++ hand)
slots_kept_kinds slots zero hand le = refl
slots_kept_kinds slots (suc n) hand le =
    let v = has_value slots n (omega arith) in
    ap (λ o. with_one o (λ q. kept slots (slots_order n) [] (q ∷ hand))) v.1
    ∙ slots_kept_kinds slots n (v.0 ∷ hand) (omega arith) ∙ ap Some (take_one_more slots n v.0 hand v.1)

block_kept_kinds : (slots ops : List Kind) (n : ℕ) (hand : List Kind) → n ≤ length slots
    → kept slots (block_order (length ops) n) ops hand ≡ Some (take n slots ++ reverse_aux ops hand)
block_kept_kinds slots [] n hand le = slots_kept_kinds slots n hand le
block_kept_kinds slots (o ∷ ops) n hand le = block_kept_kinds slots ops n (o ∷ hand) le

pub one_more : (b : Bool) (n : ℕ) → b ≡ true → cond b (suc n) n ≡ suc n
one_more b n e = ap (λ t. cond t (suc n) n) e

pub no_more : (b : Bool) (n : ℕ) → b ≡ false → cond b (suc n) n ≡ n
no_more b n e = ap (λ t. cond t (suc n) n) e

count_none : (i n : ℕ) → n ≤ i → keep_count i (slots_order n) ≡ 0
count_none i zero le = refl
count_none i (suc n) le = no_more (nat_eq i n) _ (differs' n i (omega arith)) ∙ count_none i n (omega arith)

count_one : (i n : ℕ) → i < n → keep_count i (slots_order n) ≡ 1
count_one i zero lt = absurd (omega arith)
count_one i (suc n) lt =
    ⊎_elim
    (λ less. no_more (nat_eq i n) _ (differs i n less) ∙ count_one i n less)
    (λ least. let e : i ≡ n = omega arith in
    one_more (nat_eq i n) _ (ap (nat_eq i) (sym e) ∙ eq_self i) ∙ ap suc (count_none i n (omega arith)))
    (cases_lt i n)

block_count : (i m n : ℕ) → i < n → keep_count i (block_order m n) ≡ 1
block_count i zero n lt = count_one i n lt
block_count i (suc m) n lt = block_count i m n lt

pub drop_take : (n : ℕ) (ks slots : List Kind) → take n ks ≡ slots → slots ++ drop n ks ≡ ks
drop_take n ks slots e = ap (λ l. l ++ drop n ks) (sym e) ∙ take_drop n ks
  where
    take_drop : (n : ℕ) (ks : List Kind) → take n ks ++ drop n ks ≡ ks
    take_drop zero ks = refl
    take_drop (suc n) [] = refl
    take_drop (suc n) (k ∷ ks) = ap (λ l. k ∷ l) (take_drop n ks)

kinds_true : (o : Option (List Kind)) (ks : List Kind) → o ≡ Some ks → are_kinds o ks ≡ true
kinds_true o ks e = ap (λ x. are_kinds x ks) e ∙ sames ks ks refl

slots_long : (code : List Instr) (s n p : ℕ) → HasAt code s (keep_slots n (Seal p ∷ []))
    → s + n + 1 ≤ length code
slots_long code s zero p h = omega (arith, slice_get_within code s (Seal p) h.0)
slots_long code s (suc n) p h = omega (arith, slots_long code (s + 1) n p h.1)

tops_long : (code : List Instr) (s m n p : ℕ) → HasAt code s (keep_tops m (keep_slots n (Seal p ∷ [])))
    → s + m + n + 1 ≤ length code
tops_long code s zero n p h = omega (arith, slots_long code s n p h)
tops_long code s (suc m) n p h = omega (arith, tops_long code (s + 1) m n p h.1)

pub point_width : (callee : Option ℕ) (p : ℕ) → width (point_instr callee p) ≡ 2
point_width None p = refl
point_width (Some g) p = refl

module _ (b : Body) (has : HasPoints b) where
  waiting_length : (pt : Point) → length (waiting_kinds b.slots pt) ≡ waiting b pt
  waiting_length pt = length-reverse (drop (length b.slots) pt.kinds) ∙ length-drop (length b.slots) pt.kinds

  -- the test after a point is before the blocks
  before_blocks : (k p : ℕ) (callee : Option ℕ) → slice_get b.code k ≡ Some (point_instr callee p)
      → shift b k + 1 < saves_from b
  before_blocks k p callee here =
      let within = slice_get_within b.code k _ here in
      omega (
        arith,
        shift_next b k (point_instr callee p) here,
        point_width callee p,
        offset_up width b.code
            (k + 1) (length b.code) (omega (arith, within)),
      )

  block_ok : (k p : ℕ) (callee : Option ℕ) (pt : Point) → slice_get b.code k ≡ Some (point_instr callee p)
      → slice_get b.points p ≡ Some pt → slice_get (woven_code b) (shift b k + 1)
      ≡ Some (TestSave (save_place b p)) → is_save_way b.slots p pt
      (keeps (woven_code b) (length (woven_code b)) (shift b k + 1)) ≡ true
  block_ok k p callee pt here mapped test =
      let code = woven_code b in
      let m = waiting b pt in
      let n = length b.slots in
      let place = shift b k + 1 in
      let to = save_place b p in
      let block = (laid b).saves p pt mapped in
      let more = length code - (m + n + 2) in
      let ahead : place < to = omega (arith, before_blocks k p callee here) in
      let enough : m + n + 2 ≤ length code = omega (arith, tops_long code to m n p block, ahead) in
      let fuel : length code ≡ suc (suc (m + (n + more))) = omega (arith, enough) in
      let way : keeps code (length code) place ≡ Some (record { order = block_order m n; point = p }) =
      ap (λ f. keeps code f place) fuel
      ∙ ap (keeps_at (keeps code (suc (m + (n + more)))) place) test
      ∙ onward_on place to (keeps code (suc (m + (n + more))) to) ahead
      ∙ block_way code m n to p more block in
      let ops = waiting_kinds b.slots pt in
      let kinds : kept b.slots (block_order m n) ops [] ≡ Some pt.kinds =
      ap (λ x. kept b.slots (block_order x n) ops []) (sym (waiting_length pt))
      ∙ block_kept_kinds b.slots ops n [] (omega arith)
      ∙ ap (λ l. Some (l ++ reverse_aux ops [])) (take_all b.slots)
      ∙ ap (λ l. Some (b.slots ++ l)) (reverse-reverse (drop n pt.kinds))
      ∙ ap Some (drop_take n pt.kinds b.slots (has.slots_first p pt mapped)) in
      let counts = all_if (is_kept_once (block_order m n)) b.slots
      (λ j x e. ap (λ c. nat_eq c 1) (block_count j m n (slice_get_within b.slots j x e))) in
      ap (is_save_way b.slots p pt) way ∙ both _ _ (both _ _ (eq_self p) counts) (kinds_true _ pt.kinds kinds)

  point_saves : (k p : ℕ) (callee : Option ℕ) → slice_get b.code k ≡ Some (point_instr callee p)
      → slice_get (woven_code b) (shift b k + 1) ≡ Some (TestSave (save_place b p))
      → saves_point (woven_of b) (shift b k) p (slice_get b.points p) ≡ true
  point_saves k p callee here test =
      let q = has.placed k p callee here in
      ap (saves_point (woven_of b) (shift b k) p) q.1
      ∙ both _ _ (ap is_test test) (block_ok k p callee q.0 here q.1 test)

  main_saves : (k : ℕ) (i : Instr) → slice_get b.code k ≡ Some i → (j : ℕ)
      → all_places (saves_at (woven_of b)) (shift b k) (main b j i) ≡ true
  main_saves k (Tick p) e j = both _ _ (point_saves k p None e ((laid b).mains k (Tick p) e).1.0) refl
  main_saves k (Call g p) e j = both _ _ (point_saves k p (Some g) e ((laid b).mains k (Call g p) e).1.0) refl
  main_saves k i e j = refl

saves_nothing : (w : Body) (k : ℕ) (i : Instr) → may_be_bare i ≡ true → saves_at w k i ≡ true
saves_nothing w k (Tick p) e = absurd cc
saves_nothing w k (Call g p) e = absurd cc
saves_nothing w k _ e = refl

pub all_saves : (b : Body) → HasPoints b → all_places (saves_at (woven_of b)) 0 (woven_code b) ≡ true
all_saves b has =
    let w = woven_of b in
    let mains = all_flat (saves_at w) (main b) width (main_length b) 1 0 b.code
    (λ k i e. main_saves b has k i e (0 + k)) in
    let s = 1 + length (flat (main b) 0 b.code) in
    all_append (saves_at w) 1 (flat (main b) 0 b.code) (blocks b) mains
    (all_others no_point (saves_at w) (saves_nothing w) s (blocks b) (blocks_quiet b s))
