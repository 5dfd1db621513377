-- What holds of results.
use Rattle.std.proofs.Common.{◌≡◌, List, [], ◌++◌, refl, sym, subst, append-nil}
use Rattle.lsl_post.specs.declared.entries.Entry.{Entry}
use Rattle.lsl_post.specs.Journal.{Adds, Part, Tells}
use Rattle.lsl_post.specs.Told.{Told, as_value, quiet}
use Rattle.lsl_post.proofs.Amid.{part-none}
use Rattle.std.specs.Prelude.{IfOk, OnOk}
use Rattle.std.specs.Result.{result_map_both}
use Rattle.std.specs.declared.result.Result.{Result}
use Rattle.std.specs.declared.result.Result.TheVariants.{Ok, Err}

pub OnOk-map : {T E : Type 0} (r : Result T E) (P Q : Type 0) → (P → Q) → OnOk r P → OnOk r Q
OnOk-map (Ok x) P Q f p = f p
OnOk-map (Err e) P Q f p = p

-- entries that were added are those of what was done
pub tells-from : {T E X : Type 0} (r : Result T E) (P : X → Type 0) (a : Told X) (old new es : List Entry)
    → a.entries ≡ es → P a.value → Adds r old new es → Tells r (λ t _. P t) old new a
tells-from (Ok x) P a old new es e p d = (p, subst (λ (z : List Entry). new ≡ old ++ z) (sym e) d)
tells-from (Err x) P a old new es e p d = subst (λ (z : List Entry). Part old new z) (sym e) d

pub IfOk-map : {T E : Type 0} (r : Result T E) (P Q : T → Type 0) → ((t : T) → P t → Q t) → IfOk r P → IfOk r Q
IfOk-map (Ok x) P Q f p = f x p
IfOk-map (Err e) P Q f p = p

-- nothing was reported, and the answer is that of a value
pub tells-quiet : {T E X : Type 0} (r : Result T E) (Rel : X → T → Type 0) (x : X) (old : List Entry)
    → IfOk r (Rel x) → Tells r Rel old old (quiet x)
tells-quiet (Ok t) Rel x old p = (p, sym (append-nil old))
tells-quiet (Err e) Rel x old p = part-none old []

pub IfOk-both : {T E : Type 0} (r : Result T E) (P : Type 0) (Q : T → Type 0) → OnOk r P → IfOk r Q
    → IfOk r (λ t. P × Q t)
IfOk-both (Ok x) P Q p q = (p, q)
IfOk-both (Err e) P Q p q = tt

pub OnOk-any : {T E : Type 0} (r : Result T E) (P : Type 0) → P → OnOk r P
OnOk-any (Ok x) P p = p
OnOk-any (Err e) P p = tt

-- what is answered once something was done
pub IfOk-answered : {T U E : Type 0} (r : Result T E) (given : U) (P : U → Type 0) → P given
    → IfOk (result_map_both (λ _. given) (λ e. e) r) P
IfOk-answered (Ok x) given P p = p
IfOk-answered (Err e) given P p = tt

pub OnOk-answered : {T U E : Type 0} (r : Result T E) (given : U) (P : Type 0) → OnOk r P
    → OnOk (result_map_both (λ _. given) (λ e. e) r) P
OnOk-answered (Ok x) given P p = p
OnOk-answered (Err e) given P p = tt

pub tells-answered : {T U E X : Type 0} (r : Result T E) (given : U) (P : X → Type 0) (old new : List Entry)
    (a : Told X) → Tells r (λ v _. P v) old new a
    → Tells (result_map_both (λ _. given) (λ e. e) r) (λ (v : X × U) reply. P v.0 × (reply ≡ v.1)) old new
    (as_value (λ v. (v, given)) a)
tells-answered (Ok x) given P old new a d = ((d.0, refl), d.1)
tells-answered (Err e) given P old new a d = d
