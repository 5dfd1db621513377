-- Code that is written part by part: what is written, and what is left, are together the whole.
use Rattle.std.proofs.Common.{◌≡◌, ℕ, zero, suc, ◌+◌, ◌-◌, ◌<◌, List, [], ◌∷◌, ◌++◌, length, map, drop, Option, Some, None, refl, sym, ap, ◌∙◌, arith, append_assoc, append-nil}
use Rattle.std.specs.Prelude.{slice_get}
use Rattle.std.proofs.lemmas.List.{map-append}
use Rattle.lsl_value.specs.declared.tagged.Kind.{Kind}
use Rattle.lsl_code.specs.declared.instructions.Instr.{Instr}
use Rattle.lsl_code.specs.declared.instructions.Instr.TheVariants.{KeepTop, KeepSlot, BackSlot, BackTop}
use Rattle.lsl_code.specs.declared.functions.FunctionCode.{FunctionCode}
use Rattle.lsl_code.specs.declared.woven_functions.WovenCode.{WovenCode}
use Rattle.lsl_code.specs.Bodies.{Body, plain_body}
use Rattle.lsl_code.specs.WovenBodies.{woven_body}
use Rattle.lsl_weave.specs.Layout.{woven_of, all_woven, keep_tops, keep_slots, back_slots, back_tops}
use Rattle.lsl_code.specs.ModeStacks.{flat, nones}

drop_here : {A : Type 0} (xs : List A) (k : ℕ) (x : A) → slice_get xs k ≡ Some x
    → drop k xs ≡ x ∷ drop (k + 1) xs
drop_here [] k x e = cc
drop_here (y ∷ xs) zero x e = let same : y ≡ x = cc in ap (λ z. z ∷ xs) same
drop_here (y ∷ xs) (suc k) x e = let z : suc k + 1 ≡ suc (k + 1) = omega arith in drop_here xs k x e
    ∙ ap (λ n. x ∷ drop n (y ∷ xs)) (sym z)

drop_all : {A : Type 0} (xs : List A) → drop (length xs) xs ≡ []
drop_all [] = refl
drop_all (x ∷ xs) = drop_all xs

pub flat_starts : {A B : Type 0} (g : ℕ → A → List B) (xs : List A) (code : List B)
    → code ++ flat g 0 (drop 0 xs) ≡ code ++ flat g 0 xs
flat_starts g xs code = refl

pub flat_more : {A B : Type 0} (g : ℕ → A → List B) (xs : List A) (i : ℕ) (x : A) (code code' all : List B)
    → slice_get xs i ≡ Some x → code' ≡ code ++ g i x → code ++ flat g i (drop i xs) ≡ all
    → code' ++ flat g (i + 1) (drop (i + 1) xs) ≡ all
flat_more g xs i x code code' all e l h =
    let z : i + 1 ≡ suc i = omega arith in
    ap (λ c. c ++ flat g (i + 1) (drop (i + 1) xs)) l
    ∙ append_assoc code (g i x) (flat g (i + 1) (drop (i + 1) xs))
    ∙ ap (λ n. code ++ (g i x ++ flat g n (drop (i + 1) xs))) z
    ∙ ap (λ ys. code ++ flat g i ys) (sym (drop_here xs i x e)) ∙ h

pub flat_done : {A B : Type 0} (g : ℕ → A → List B) (xs : List A) (n : ℕ) (code all : List B) → n ≡ length xs
    → code ++ flat g n (drop n xs) ≡ all → code ≡ all
flat_done g xs n code all e h =
    sym (append-nil code) ∙ ap (λ ys. code ++ flat g n ys) (sym (drop_all xs))
    ∙ ap (λ m. code ++ flat g n (drop m xs)) (sym e) ∙ h

pub one_more : {B : Type 0} (code code' : List B) (x : B) (rest all : List B) → code' ≡ code ++ x ∷ []
    → code ++ x ∷ rest ≡ all → code' ++ rest ≡ all
one_more code code' x rest all l h = ap (λ c. c ++ rest) l ∙ append_assoc code (x ∷ []) rest ∙ h

left : (m i : ℕ) → i < m → m - i ≡ suc (m - (i + 1))
left m i lt = omega arith

pub tops_more : (code code' : List Instr) (m i : ℕ) (all : List Instr → List Instr) → i < m
    → code' ≡ code ++ KeepTop ∷ [] → ((tail : List Instr) → code ++ keep_tops (m - i) tail ≡ all tail)
    → (tail : List Instr) → code' ++ keep_tops (m - (i + 1)) tail ≡ all tail
tops_more code code' m i all lt l h tail =
    one_more code code' KeepTop (keep_tops (m - (i + 1)) tail) (all tail) l
    (ap (λ n. code ++ keep_tops n tail) (sym (left m i lt)) ∙ h tail)

pub slots_more : (code code' : List Instr) (n j : ℕ) (all : List Instr → List Instr) → j < n
    → code' ≡ code ++ KeepSlot (n - 1 - j) ∷ []
    → ((tail : List Instr) → code ++ keep_slots (n - j) tail ≡ all tail) → (tail : List Instr)
    → code' ++ keep_slots (n - (j + 1)) tail ≡ all tail
slots_more code code' n j all lt l h tail =
    let z : n - 1 - j ≡ n - (j + 1) = omega arith in
    one_more code code' (KeepSlot (n - (j + 1))) (keep_slots (n - (j + 1)) tail) (all tail)
    (l ∙ ap (λ k. code ++ KeepSlot k ∷ []) z)
    (ap (λ k. code ++ keep_slots k tail) (sym (left n j lt)) ∙ h tail)

pub back_slots_more : (code code' : List Instr) (n i : ℕ) (all : List Instr → List Instr) → i < n
    → code' ≡ code ++ BackSlot i ∷ [] → ((tail : List Instr) → code ++ back_slots i (n - i) tail ≡ all tail)
    → (tail : List Instr) → code' ++ back_slots (i + 1) (n - (i + 1)) tail ≡ all tail
back_slots_more code code' n i all lt l h tail =
    let z : suc i ≡ i + 1 = omega arith in
    one_more code code' (BackSlot i) (back_slots (i + 1) (n - (i + 1)) tail) (all tail) l
    (ap (λ k. code ++ BackSlot i ∷ back_slots k (n - (i + 1)) tail) (sym z)
    ∙ ap (λ k. code ++ back_slots i k tail) (sym (left n i lt)) ∙ h tail)

pub back_tops_more : (code code' : List Instr) (m j : ℕ) (all : List Instr → List Instr) → j < m
    → code' ≡ code ++ BackTop ∷ [] → ((tail : List Instr) → code ++ back_tops (m - j) tail ≡ all tail)
    → (tail : List Instr) → code' ++ back_tops (m - (j + 1)) tail ≡ all tail
back_tops_more code code' m j all lt l h tail =
    one_more code code' BackTop (back_tops (m - (j + 1)) tail) (all tail) l
    (ap (λ n. code ++ back_tops n tail) (sym (left m j lt)) ∙ h tail)

none_left : (m : ℕ) → m - m ≡ 0
none_left m = omega arith

pub tops_done : (code : List Instr) (m : ℕ) (all : List Instr → List Instr)
    → ((tail : List Instr) → code ++ keep_tops (m - m) tail ≡ all tail) → (tail : List Instr)
    → code ++ tail ≡ all tail
tops_done code m all h tail = ap (λ n. code ++ keep_tops n tail) (sym (none_left m)) ∙ h tail

pub slots_done : (code : List Instr) (n : ℕ) (all : List Instr → List Instr)
    → ((tail : List Instr) → code ++ keep_slots (n - n) tail ≡ all tail) → (tail : List Instr)
    → code ++ tail ≡ all tail
slots_done code n all h tail = ap (λ k. code ++ keep_slots k tail) (sym (none_left n)) ∙ h tail

pub back_slots_done : (code : List Instr) (n : ℕ) (all : List Instr → List Instr)
    → ((tail : List Instr) → code ++ back_slots n (n - n) tail ≡ all tail) → (tail : List Instr)
    → code ++ tail ≡ all tail
back_slots_done code n all h tail = ap (λ k. code ++ back_slots n k tail) (sym (none_left n)) ∙ h tail

pub back_tops_done : (code : List Instr) (m : ℕ) (all : List Instr → List Instr)
    → ((tail : List Instr) → code ++ back_tops (m - m) tail ≡ all tail) → (tail : List Instr)
    → code ++ tail ≡ all tail
back_tops_done code m all h tail = ap (λ n. code ++ back_tops n tail) (sym (none_left m)) ∙ h tail

pub map_more : {A B : Type 0} (g : A → B) (xs : List A) (i : ℕ) (x : A) (done done' all : List B)
    → slice_get xs i ≡ Some x → done' ≡ done ++ g x ∷ [] → done ++ map g (drop i xs) ≡ all
    → done' ++ map g (drop (i + 1) xs) ≡ all
map_more g xs i x done done' all e l h =
    one_more done done' (g x) (map g (drop (i + 1) xs)) all l
    (ap (λ ys. done ++ map g ys) (sym (drop_here xs i x e)) ∙ h)

pub map_done : {A B : Type 0} (g : A → B) (xs : List A) (n : ℕ) (done all : List B) → n ≡ length xs
    → done ++ map g (drop n xs) ≡ all → done ≡ all
map_done g xs n done all e h =
    sym (append-nil done) ∙ ap (λ ys. done ++ map g ys) (sym (drop_all xs))
    ∙ ap (λ m. done ++ map g (drop m xs)) (sym e) ∙ h

pub nones_more : (done done' : List (Option (List Kind))) (m i : ℕ) (all : List (Option (List Kind))) → i < m
    → done' ≡ done ++ None ∷ [] → done ++ nones (m - i) ≡ all → done' ++ nones (m - (i + 1)) ≡ all
nones_more done done' m i all lt l h =
    one_more done done' None (nones (m - (i + 1))) all l (ap (λ n. done ++ nones n) (sym (left m i lt)) ∙ h)

pub nones_done : (done : List (Option (List Kind))) (m : ℕ) (all : List (Option (List Kind)))
    → done ++ nones (m - m) ≡ all → done ≡ all
nones_done done m all h = sym (append-nil done) ∙ ap (λ n. done ++ nones n) (sym (none_left m)) ∙ h

pub made_more : (done done' : List WovenCode) (w : WovenCode) (f : FunctionCode)
    (rest rest' : List FunctionCode)
    (all : List Body) → done' ≡ done ++ w ∷ [] → rest ≡ f ∷ rest' → woven_body w ≡ woven_of (plain_body f)
    → map woven_body done ++ all_woven (map plain_body rest) ≡ all
    → map woven_body done' ++ all_woven (map plain_body rest') ≡ all
made_more done done' w f rest rest' all e r same h =
    let left = all_woven (map plain_body rest') in
    ap (λ l. map woven_body l ++ left) e ∙ ap (λ l. l ++ left) (map-append woven_body done (w ∷ []))
    ∙ append_assoc (map woven_body done) (woven_body w ∷ []) left
    ∙ ap (λ b. map woven_body done ++ b ∷ left) same
    ∙ ap (λ l. map woven_body done ++ all_woven (map plain_body l)) (sym r) ∙ h

none_of : {A : Type 0} (xs : List A) → length xs ≡ 0 → xs ≡ []
none_of [] e = refl
none_of (x ∷ xs) e = absurd (omega arith)

pub made_all : (done : List WovenCode) (rest : List FunctionCode) (all : List Body) → length rest ≡ 0
    → map woven_body done ++ all_woven (map plain_body rest) ≡ all → map woven_body done ≡ all
made_all done rest all e h =
    sym (append-nil (map woven_body done))
    ∙ ap (λ l. map woven_body done ++ all_woven (map plain_body l)) (sym (none_of rest e)) ∙ h
