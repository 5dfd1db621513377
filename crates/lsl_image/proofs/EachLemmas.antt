-- Things read one after another, one for each of a list.
use Rattle.std.proofs.Common.{◌≡◌, ◌∙◌, refl, sym, ap, subst, ℕ, ◌+◌, ◌<◌, ◌≤◌, List, [], ◌∷◌, ◌++◌, length, drop, get_or, Result, Err}
use Rattle.std.specs.Result.{IsErrAnd}
use Rattle.std.proofs.lemmas.List.{drop_all, drop_more}
use Rattle.lsl_text.specs.declared.Refusal.{Refusal}
use Rattle.lsl_image.specs.declared.faults.ImageFault.{ImageFault}
use Rattle.lsl_image.specs.Layout.{Layout, ◌>>=◌, each, each_behind}
use Rattle.lsl_image.specs.Reading.{Gives, Reads}
use Rattle.lsl_image.specs.Leading.{Leads}
use Rattle.lsl_image.proofs.LeadingLemmas.{leads-all, leads-exits, leads-then}

pub each-start : {X A : Type 0} (bytes : List ℕ) (layout : X → Layout A) (xs : List X) (p : ℕ) (list : List A)
    → list ≡ [] → Leads bytes (each_behind layout xs list) p (λ all. all) (each layout xs) p
each-start {X} {A} bytes layout xs p list none =
    subst (λ (l : List A). Leads bytes (each_behind layout xs l) p (λ all. all) (each layout xs) p) (sym none)
    (leads-all bytes (each layout xs) p)

-- what is at a place, and what is left
pub each-at : {X : Type 0} (xs : List X) (i : ℕ) (x : X) → i < length xs → x ≡ get_or xs i x
    → drop i xs ≡ x ∷ drop (i + 1) xs
each-at {X} xs i x within is = drop_more xs i x within ∙ ap (λ (y : X). y ∷ drop (i + 1) xs) (sym is)

each-left : {X A C : Type 0} (bytes : List ℕ) (layout : X → Layout A) (xs : List X) (i p : ℕ) (x : X)
    (before : List A) (f : List A → C) (whole : Layout C) (start : ℕ) → drop i xs ≡ x ∷ drop (i + 1) xs
    → Leads bytes (each_behind layout (drop i xs) before) p f whole start
    → Leads bytes (layout x >>= λ next. each_behind layout (drop (i + 1) xs) (before ++ next ∷ [])) p f whole start
unfolding each_behind
each-left {X} bytes layout xs i p x before f whole start first leads =
    subst (λ (ys : List X). Leads bytes (each_behind layout ys before) p f whole start) first leads

-- one more of them was read
pub each-more : {X A C : Type 0} {bytes : List ℕ} (layout : X → Layout A) (xs : List X) (before after : List A)
    (i : ℕ) (x : X) (a : A) {p : ℕ} {q : ℕ} {f : List A → C} {whole : Layout C} {start : ℕ}
    → drop i xs ≡ x ∷ drop (i + 1) xs
    → after ≡ before ++ a ∷ []
    → Leads bytes (each_behind layout (drop i xs) before) p f whole start → Gives bytes (layout x) p a q
    → Leads bytes (each_behind layout (drop (i + 1) xs) after) q f whole start
each-more {A = A} {bytes = bytes} layout xs before after i x a {p = p} {q = q} {f = f} {whole = whole}
    {start = start} first same leads given =
    let opened = each-left bytes layout xs i p x before f whole start first leads in
    subst (λ (l : List A). Leads bytes (each_behind layout (drop (i + 1) xs) l) q f whole start) (sym same)
    (leads-then (layout x) (λ next. each_behind layout (drop (i + 1) xs) (before ++ next ∷ [])) opened given)

-- one more of them couldn't be read, and that is the answer
pub each-stops : {X A C : Type 0} {bytes : List ℕ} (layout : X → Layout A) (xs : List X) (before : List A) (i : ℕ)
    (x : X) (e : Refusal ImageFault) (r : Result (C × ℕ) (Refusal ImageFault)) {p : ℕ} {f : List A → C}
    {whole : Layout C} {start : ℕ} → drop i xs ≡ x ∷ drop (i + 1) xs
    → Leads bytes (each_behind layout (drop i xs) before) p f whole start → Reads bytes (layout x) p (Err e)
    → IsErrAnd r (λ y. y ≡ e) → Reads bytes whole start r
each-stops {bytes = bytes} layout xs before i x e r {p = p} {f = f} {whole = whole} {start = start} first leads
    h exit =
    let opened = each-left bytes layout xs i p x before f whole start first leads in
    leads-exits (layout x) (λ next. each_behind layout (drop (i + 1) xs) (before ++ next ∷ [])) e r opened h exit

-- all of them were read
pub each-full : {X A C : Type 0} {bytes : List ℕ} (layout : X → Layout A) (xs : List X) (list : List A) (i : ℕ)
    {p : ℕ} {f : List A → C} {whole : Layout C} {start : ℕ} → length xs ≤ i
    → Leads bytes (each_behind layout (drop i xs) list) p f whole start → Gives bytes whole start (f list) p
unfolding each_behind
each-full {X} {bytes = bytes} layout xs list i {p = p} {f = f} {whole = whole} {start = start} all leads =
    let ended : Leads bytes (each_behind layout [] list) p f whole start =
    subst (λ (ys : List X). Leads bytes (each_behind layout ys list) p f whole start) (drop_all i xs all) leads in
    ended.gives list p (refl, refl)
