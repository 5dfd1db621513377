-- Where the instructions of woven code are.
use Rattle.std.proofs.Common.{◌≡◌, ℕ, zero, suc, ◌+◌, ◌≤◌, List, [], ◌∷◌, ◌++◌, length, Option, Some, None, refl, ap, subst, arith, append_assoc, length-append}
use Rattle.std.specs.Prelude.{slice_get}
use Rattle.std.proofs.lemmas.Option.{slice_get_within}
use Rattle.lsl_code.specs.declared.functions.Point.{Point}
use Rattle.lsl_code.specs.declared.instructions.Instr.{Instr}
use Rattle.lsl_code.specs.declared.instructions.Instr.TheVariants.{Jump, JumpIf, JumpIfNot, Tick, Call, Seal, TestBack, Unpack, Branch}
use Rattle.lsl_code.specs.Bodies.{Body}
use Rattle.lsl_weave.specs.Layout.{offset, width, shift, waiting, save_width, back_width, saves_from, backs_from, save_place, back_place, main, keep_tops, keep_slots, save_block, back_slots, back_tops, back_end, back_block, table, woven_code}
use Rattle.lsl_code.specs.ModeStacks.{flat}

-- these instructions are at this place
abbrev pub HasAt : {B : Type 0} → List B → ℕ → List B → Type 0
HasAt code k [] = Unit {0}
HasAt code k (i ∷ is) = (slice_get code k ≡ Some i) × HasAt code (k + 1) is

pub has_front : {B : Type 0} (code : List B) (k : ℕ) (a b : List B) → HasAt code k (a ++ b) → HasAt code k a
has_front code k [] b h = tt
has_front code k (i ∷ a) b h = (h.0, has_front code (k + 1) a b h.1)

pub has_back : {B : Type 0} (code : List B) (k : ℕ) (a b : List B) → HasAt code k (a ++ b)
    → HasAt code (k + length a) b
has_back code k [] b h = let e : k ≡ k + 0 = omega arith in subst (λ n. HasAt code n b) e h
has_back code k (i ∷ a) b h =
    let e : k + 1 + length a ≡ k + length (i ∷ a) = omega arith in
    subst (λ n. HasAt code n b) e (has_back code (k + 1) a b h.1)

pub get_middle : {B : Type 0} (pre : List B) (i : B) (is : List B)
    → slice_get (pre ++ i ∷ is) (length pre) ≡ Some i
get_middle [] i is = refl
get_middle (x ∷ pre) i is = get_middle pre i is

pub has_all : {B : Type 0} (is pre : List B) → HasAt (pre ++ is) (length pre) is
has_all [] pre = tt
has_all (i ∷ is) pre =
    let n : length (pre ++ i ∷ []) ≡ length pre + 1 = omega (arith, length-append pre (i ∷ [])) in
    let rest = has_all is (pre ++ i ∷ []) in
    let rest' = subst (λ l. HasAt l (length (pre ++ i ∷ [])) is) (append_assoc pre (i ∷ []) is) rest in
    (get_middle pre i is, subst (λ m. HasAt (pre ++ i ∷ is) m is) n rest')

-- the block of the k-th element is after those before it
pub flat_at : {A B : Type 0} (code : List B) (g : ℕ → A → List B) (w : A → ℕ)
    → ((i : ℕ) (x : A) → length (g i x) ≡ w x) → (s i : ℕ) (xs : List A) (k : ℕ) (x : A)
    → HasAt code s (flat g i xs) → slice_get xs k ≡ Some x → HasAt code (s + offset w xs k) (g (i + k) x)
flat_at code g w len s i [] k x h e = cc
flat_at code g w len s i (y ∷ xs) zero x h e =
    let same : y ≡ x = cc in
    let here = has_front code s (g i y) (flat g (suc i) xs) h in
    let z : s ≡ s + 0 = omega arith in
    let z' : i ≡ i + 0 = omega arith in
    subst (λ n. HasAt code n (g (i + 0) x)) z
    (subst (λ n. HasAt code s (g n x)) z' (subst (λ v. HasAt code s (g i v)) same here))
flat_at code g w len s i (y ∷ xs) (suc k) x h e =
    let there = has_back code s (g i y) (flat g (suc i) xs) h in
    let rest = flat_at code g w len (s + length (g i y)) (suc i) xs k x there e in
    let z : s + length (g i y) + offset w xs k ≡ s + (w y + offset w xs k) = omega (arith, len i y) in
    let z' : suc i + k ≡ i + suc k = omega arith in
    subst (λ n. HasAt code n (g (i + suc k) x)) z
    (subst (λ n. HasAt code (s + length (g i y) + offset w xs k) (g n x)) z' rest)

pub flat_length : {A B : Type 0} (g : ℕ → A → List B) (w : A → ℕ) → ((i : ℕ) (x : A) → length (g i x) ≡ w x)
    → (i : ℕ) (xs : List A) → length (flat g i xs) ≡ offset w xs (length xs)
flat_length g w len i [] = refl
flat_length g w len i (x ∷ xs) =
    omega (arith, length-append (g i x) (flat g (suc i) xs), len i x, flat_length g w len (suc i) xs)

keep_tops_length : (n : ℕ) (tail : List Instr) → length (keep_tops n tail) ≡ n + length tail
keep_tops_length zero tail = omega arith
keep_tops_length (suc n) tail = omega (arith, keep_tops_length n tail)

keep_slots_length : (n : ℕ) (tail : List Instr) → length (keep_slots n tail) ≡ n + length tail
keep_slots_length zero tail = omega arith
keep_slots_length (suc n) tail = omega (arith, keep_slots_length n tail)

back_slots_length : (i n : ℕ) (tail : List Instr) → length (back_slots i n tail) ≡ n + length tail
back_slots_length i zero tail = omega arith
back_slots_length i (suc n) tail = omega (arith, back_slots_length (suc i) n tail)

back_tops_length : (n : ℕ) (tail : List Instr) → length (back_tops n tail) ≡ n + length tail
back_tops_length zero tail = omega arith
back_tops_length (suc n) tail = omega (arith, back_tops_length n tail)

pub main_length : (b : Body) (k : ℕ) (i : Instr) → length (main b k i) ≡ width i
main_length b k (Tick p) = refl
main_length b k (Call f p) = refl
main_length b k (Jump t) = refl
main_length b k (JumpIf t) = refl
main_length b k (JumpIfNot t) = refl
main_length b k _ = refl

pub save_length : (b : Body) (k : ℕ) (p : Point) → length (save_block b k p) ≡ save_width b p
save_length b k p =
    omega (
      arith,
      keep_tops_length (waiting b p)
          (keep_slots (length b.slots) (Seal k ∷ [])),
      keep_slots_length (length b.slots) (Seal k ∷ []),
    )

end_length : (b : Body) (k : ℕ) (o : Option ℕ) → length (back_end b k o) ≡ 2
end_length b k None = refl
end_length b k (Some f) = refl

pub back_length : (b : Body) (k : ℕ) (p : Point) → length (back_block b k p) ≡ back_width b p
back_length b k p =
    omega (
      arith,
      back_slots_length 0 (length b.slots)
          (back_tops (waiting b p) (back_end b k p.calls)),
      back_tops_length (waiting b p)
          (back_end b k p.calls),
      end_length b k p.calls,
    )

pub table_total : (ps : List Point) (k : ℕ) → k ≤ length ps → offset (λ p. 1) ps k ≡ k
table_total [] k le = omega arith
table_total (p ∷ ps) zero le = refl
table_total (p ∷ ps) (suc k) le = omega (arith, table_total ps k (omega arith))

-- the four parts of woven code
pub record Laid (b : Body) (code : List Instr) : Type 0 where
  pub head : slice_get code 0 ≡ Some (TestBack (backs_from b))
  pub mains : (k : ℕ) (i : Instr) → slice_get b.code k ≡ Some i → HasAt code (shift b k) (main b k i)
  pub saves : (p : ℕ) (pt : Point) → slice_get b.points p ≡ Some pt
      → HasAt code (save_place b p) (save_block b p pt)
  pub unpack : slice_get code (backs_from b) ≡ Some Unpack
  pub branch : slice_get code (backs_from b + 1) ≡ Some Branch
  pub tables : (p : ℕ) (pt : Point) → slice_get b.points p ≡ Some pt
      → slice_get code (backs_from b + 2 + p) ≡ Some (Jump (back_place b p))
  pub backs : (p : ℕ) (pt : Point) → slice_get b.points p ≡ Some pt
      → HasAt code (back_place b p) (back_block b p pt)

main_any : (b : Body) (i : Instr) (j k : ℕ) → j ≡ k → main b j i ≡ main b k i
main_any b i j k e = ap (λ n. main b n i) e

-- what follows, at a place that has another name
pub has_behind : {B : Type 0} (code : List B) (k n : ℕ) (a b : List B) → k + length a ≡ n
    → HasAt code k (a ++ b) → HasAt code n b
has_behind code k n a b e h = subst (λ m. HasAt code m b) e (has_back code k a b h)

pub table_length : (b : Body) (k : ℕ) (p : Point) → length (table b k p) ≡ 1
table_length b k p = refl

module _ (b : Body) where
  in_saves : HasAt (woven_code b) 1
      (flat (main b) 0 b.code ++ (flat (save_block b) 0 b.points ++
      (Unpack ∷ Branch ∷ (flat (table b) 0 b.points ++ flat (back_block b) 0 b.points))))
  in_saves = (has_all (woven_code b) []).1

  at_saves : HasAt (woven_code b) (saves_from b)
      (flat (save_block b) 0 b.points ++
      (Unpack ∷ Branch ∷ (flat (table b) 0 b.points ++ flat (back_block b) 0 b.points)))
  at_saves = has_behind (woven_code b) 1 (saves_from b) (flat (main b) 0 b.code) _
      (ap (λ n. 1 + n) (flat_length (main b) width (main_length b) 0 b.code)) in_saves

  at_backs : HasAt (woven_code b) (backs_from b)
      (Unpack ∷ Branch ∷ (flat (table b) 0 b.points ++ flat (back_block b) 0 b.points))
  at_backs = has_behind (woven_code b) (saves_from b) (backs_from b) (flat (save_block b) 0 b.points) _
      (ap (λ n. saves_from b + n) (flat_length (save_block b) (save_width b)
      (save_length b) 0 b.points)) at_saves

  at_table : HasAt (woven_code b) (backs_from b + 2)
      (flat (table b) 0 b.points ++ flat (back_block b) 0 b.points)
  at_table =
      let z : backs_from b + 1 + 1 ≡ backs_from b + 2 = omega arith in
      subst (λ n. HasAt (woven_code b) n
      (flat (table b) 0 b.points ++ flat (back_block b) 0 b.points)) z at_backs.1.1

  at_blocks : HasAt (woven_code b) (backs_from b + 2 + length b.points) (flat (back_block b) 0 b.points)
  at_blocks =
      let z : backs_from b + 2 + length (flat (table b) 0 b.points)
      ≡ backs_from b + 2 + length b.points =
      omega (
        arith,
        flat_length (table b) (λ p. 1) (table_length b) 0 b.points,
        table_total b.points
            (length b.points) (omega arith),
      ) in
      has_behind (woven_code b) (backs_from b + 2) _ (flat (table b) 0 b.points) _ z at_table

  from_zero : (k : ℕ) → 0 + k ≡ k
  from_zero k = omega arith

  laid_main : (k : ℕ) (i : Instr) → slice_get b.code k ≡ Some i
      → HasAt (woven_code b) (shift b k) (main b k i)
  laid_main k i e =
      subst (λ n. HasAt (woven_code b) (shift b k) (main b n i)) (from_zero k)
      (flat_at (woven_code b) (main b) width (main_length b) 1 0 b.code k i
      (has_front (woven_code b) 1 (flat (main b) 0 b.code) _ in_saves) e)

  laid_save : (p : ℕ) (pt : Point) → slice_get b.points p ≡ Some pt
      → HasAt (woven_code b) (save_place b p) (save_block b p pt)
  laid_save p pt e =
      subst (λ n. HasAt (woven_code b) (save_place b p) (save_block b n pt)) (from_zero p)
      (flat_at (woven_code b) (save_block b) (save_width b) (save_length b) (saves_from b) 0 b.points p pt
      (has_front (woven_code b) (saves_from b) (flat (save_block b) 0 b.points) _ at_saves) e)

  laid_table : (p : ℕ) (pt : Point) → slice_get b.points p ≡ Some pt
      → slice_get (woven_code b) (backs_from b + 2 + p) ≡ Some (Jump (back_place b p))
  laid_table p pt e =
      let z : backs_from b + 2 + offset (λ q. 1) b.points p
      ≡ backs_from b + 2 + p = omega (
        arith,
        table_total b.points p
            (omega (arith, slice_get_within b.points p pt e)),
      ) in
      let h = flat_at (woven_code b) (table b) (λ q. 1) (table_length b) (backs_from b + 2) 0 b.points p pt
      (has_front (woven_code b) (backs_from b + 2) (flat (table b) 0 b.points) _ at_table) e in
      let h' = subst (λ n. HasAt (woven_code b) (backs_from b + 2 + offset (λ q. 1) b.points p)
      (table b n pt)) (from_zero p) h in
      subst (λ n. slice_get (woven_code b) n ≡ Some (Jump (back_place b p))) z h'.0

  laid_back : (p : ℕ) (pt : Point) → slice_get b.points p ≡ Some pt
      → HasAt (woven_code b) (back_place b p) (back_block b p pt)
  laid_back p pt e =
      subst (λ n. HasAt (woven_code b) (back_place b p) (back_block b n pt)) (from_zero p)
      (flat_at (woven_code b) (back_block b) (back_width b) (back_length b)
      (backs_from b + 2 + length b.points) 0 b.points p pt at_blocks e)

pub laid : (b : Body) → Laid b (woven_code b)
laid b =
    record {
      head = (has_all (woven_code b) []).0;
      mains = laid_main b;
      saves = laid_save b;
      unpack = (at_backs b).0;
      branch = (at_backs b).1.0;
      tables = laid_table b;
      backs = laid_back b;
    }
