-- The blocks of woven code have no points.
use Rattle.std.proofs.Common.{◌≡◌, ℕ, zero, suc, ◌+◌, List, [], ◌∷◌, ◌++◌, length, Option, Some, None, Bool, true, refl}
use Rattle.std.specs.Prelude.{◌&&◌}
use Rattle.lsl_code.specs.declared.instructions.Instr.{Instr}
use Rattle.lsl_code.specs.declared.instructions.Instr.TheVariants.{Seal, Unpack, Branch}
use Rattle.lsl_code.specs.Bodies.{Body}
use Rattle.lsl_code.specs.Fits.{all_places, may_be_bare}
use Rattle.lsl_code.proofs.Sames.{both_true}
use Rattle.lsl_code.proofs.Tested.{both}
use Rattle.lsl_weave.specs.Layout.{waiting, keep_tops, keep_slots, save_block, back_slots, back_tops, back_end, back_block, table}
use Rattle.lsl_code.specs.ModeStacks.{flat}
use Rattle.lsl_weave.proofs.WovenForward.{all_append}

pub all_others : {A : Type 0} (test other : ℕ → A → Bool)
    → ((k : ℕ) (x : A) → test k x ≡ true → other k x ≡ true)
    → (s : ℕ) (xs : List A) → all_places test s xs ≡ true → all_places other s xs ≡ true
all_others test other h s [] e = refl
all_others test other h s (x ∷ xs) e =
    let p = both_are e in
    both (other s x) (all_places other (suc s) xs) (h s x p.0) (all_others test other h (suc s) xs p.1)
  where
    both_are : (test s x && all_places test (suc s) xs) ≡ true → (test s x ≡ true)
        × (all_places test (suc s) xs ≡ true)
    both_are e = both_true (test s x) (all_places test (suc s) xs) e

-- code without points
abbrev pub no_point : ℕ → Instr → Bool
no_point k i = may_be_bare i

abbrev pub IsQuiet : List Instr → Type 0
IsQuiet is = (s : ℕ) → all_places no_point s is ≡ true

quiet_tops : (m : ℕ) (tail : List Instr) → IsQuiet tail → IsQuiet (keep_tops m tail)
quiet_tops zero tail h s = h s
quiet_tops (suc m) tail h s = quiet_tops m tail h (suc s)

quiet_slots : (n : ℕ) (tail : List Instr) → IsQuiet tail → IsQuiet (keep_slots n tail)
quiet_slots zero tail h s = h s
quiet_slots (suc n) tail h s = quiet_slots n tail h (suc s)

quiet_back_slots : (i n : ℕ) (tail : List Instr) → IsQuiet tail → IsQuiet (back_slots i n tail)
quiet_back_slots i zero tail h s = h s
quiet_back_slots i (suc n) tail h s = quiet_back_slots (suc i) n tail h (suc s)

quiet_back_tops : (m : ℕ) (tail : List Instr) → IsQuiet tail → IsQuiet (back_tops m tail)
quiet_back_tops zero tail h s = h s
quiet_back_tops (suc m) tail h s = quiet_back_tops m tail h (suc s)

quiet_end : (b : Body) (p : ℕ) (callee : Option ℕ) → IsQuiet (back_end b p callee)
quiet_end b p None s = refl
quiet_end b p (Some g) s = refl

quiet_flat : {A : Type 0} (g : ℕ → A → List Instr) → ((i : ℕ) (x : A) → IsQuiet (g i x))
    → (i : ℕ) (xs : List A)
    → IsQuiet (flat g i xs)
quiet_flat g h i [] s = refl
quiet_flat g h i (x ∷ xs) s = all_append no_point s (g i x) (flat g (suc i) xs) (h i x s)
    (quiet_flat g h (suc i) xs (s + length (g i x)))

-- all that follows the running part
abbrev pub blocks : Body → List Instr
blocks b =
    flat (save_block b) 0 b.points ++ (Unpack ∷ Branch ∷ (flat (table b) 0 b.points ++ flat (back_block b) 0
    b.points))

pub blocks_quiet : (b : Body) (s : ℕ) → all_places no_point s (blocks b) ≡ true
blocks_quiet b s =
    let n = length b.slots in
    let saves = quiet_flat (save_block b)
    (λ p pt. quiet_tops (waiting b pt) (keep_slots n (Seal p ∷ []))
    (quiet_slots n (Seal p ∷ []) (λ s. refl))) 0 b.points in
    let tables = quiet_flat (table b) (λ p pt s. refl) 0 b.points in
    let backs_ = quiet_flat (back_block b)
    (λ p pt. quiet_back_slots 0 n (back_tops (waiting b pt) (back_end b p pt.calls))
    (quiet_back_tops (waiting b pt) (back_end b p pt.calls) (quiet_end b p pt.calls))) 0 b.points in
    let last = λ (s : ℕ). all_append no_point s (flat (table b) 0 b.points) (flat (back_block b) 0 b.points)
    (tables s) (backs_ (s + length (flat (table b) 0 b.points))) in
    all_append no_point s (flat (save_block b) 0 b.points)
    (Unpack ∷ Branch ∷ (flat (table b) 0 b.points ++ flat (back_block b) 0 b.points)) (saves s)
    (last (suc (suc (s + length (flat (save_block b) 0 b.points)))))
