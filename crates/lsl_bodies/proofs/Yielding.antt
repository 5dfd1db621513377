-- What holds of each value that a verdict gives.
use Rattle.std.proofs.Common.{◌≡◌, ℕ, ◌+◌, Bool, true, false, Option, Some, None, List, [], ◌∷◌, ◌++◌, length}
use Rattle.std.proofs.Common.{refl, sym, ap, ◌∙◌, subst, arith, append_assoc, append-nil}
use Rattle.std.specs.Prelude.{Ok, Err, All}
use Rattle.std.proofs.lemmas.List.Elements.{All-nil, All-cons, All-head, All-tail}
use Rattle.lsl_bodies.specs.declared.faults.TypeFault.{TypeFault}
use Rattle.lsl_bodies.specs.Verdict.{Verdict, ◌>>=◌, the_one_verdict, must_verdict, each_verdict}
use Rattle.lsl_bodies.proofs.Deciding.{ok_same, ok_not_err}

pub record Yields {T : Type 0} (P : T → Type 0) (v : Verdict T) : Type 0 where
  pub ok : (t : T) → v ≡ Ok t → P t

pub gives_yields : {T : Type 0} {P : T → Type 0} {x : T} → P x → Yields P (Ok x)
gives_yields {P = P} {x = x} p = record { ok = λ t e. subst P (ok_same x t e) p }

pub faulty_yields : {T : Type 0} {P : T → Type 0} {f : TypeFault} → Yields P (Err f)
faulty_yields {f = f} = record { ok = λ t e. absurd (ok_not_err t f (sym e)) }

-- the first part, and then the second
pub then_yields : {A B : Type 0} {P : A → Type 0} {Q : B → Type 0} {v : Verdict A} {q : A → Verdict B}
    → Yields P v → ((x : A) → P x → Yields Q (q x)) → Yields Q (v >>= q)
then_yields {v = Ok x} first rest = rest x (first.ok x refl)
then_yields {v = Err e} first rest = faulty_yields

-- whatever the first part gives
pub rest_yields : {A B : Type 0} {Q : B → Type 0} (v : Verdict A) {q : A → Verdict B}
    → ((x : A) → Yields Q (q x)) → Yields Q (v >>= q)
rest_yields (Ok x) rest = rest x
rest_yields (Err e) rest = faulty_yields

pub itself : {T : Type 0} (v : Verdict T) → Yields (λ t. v ≡ Ok t) v
itself v = record { ok = λ t e. e }

pub both_yield : {T : Type 0} {P Q : T → Type 0} {v : Verdict T} → Yields P v → Yields Q v → Yields (λ t. P t × Q t) v
both_yield a b = record { ok = λ t e. (a.ok t e, b.ok t e) }

pub weaker_yields : {T : Type 0} {P Q : T → Type 0} {v : Verdict T} → Yields P v → ((t : T) → P t → Q t) → Yields Q v
weaker_yields a w = record { ok = λ t e. w t (a.ok t e) }

pub the_one_yields : {T : Type 0} {P : T → Type 0} (o : Option T) (fault : TypeFault)
    → ((t : T) → o ≡ Some t → P t) → Yields P (the_one_verdict o fault)
the_one_yields (Some x) fault h = gives_yields (h x refl)
the_one_yields None fault h = faulty_yields

-- there is such an entry
pub entry_yields : {T : Type 0} (o : Option T) (fault : TypeFault)
    → Yields (λ t. o ≡ Some t) (the_one_verdict o fault)
entry_yields o fault = the_one_yields o fault (λ t e. e)

pub must_yields : (b : Bool) (fault : TypeFault) → Yields (λ u. b ≡ true) (must_verdict b fault)
must_yields true fault = gives_yields refl
must_yields false fault = faulty_yields

-- what each step keeps
pub each_yields : {X S : Type 0} (P : S → Type 0) (q : S → X → Verdict S) → ((s : S) (x : X) → P s → Yields P (q s x))
    → (s : S) (xs : List X) → P s → Yields P (each_verdict q s xs)
each_yields P q step s [] p = gives_yields p
each_yields P q step s (x ∷ xs) p = then_yields (step s x p) (λ n r. each_yields P q step n xs r)

-- what each step keeps where something holds of each part
pub each_keeps : {X S : Type 0} (Q : X → Type 0) (P : S → Type 0) (q : S → X → Verdict S)
    → ((s : S) (x : X) → Q x → P s → Yields P (q s x))
    → (s : S) (xs : List X) → All Q xs → P s → Yields P (each_verdict q s xs)
each_keeps Q P q step s [] h p = gives_yields p
each_keeps Q P q step s (x ∷ xs) h p =
    then_yields (step s x (All-head Q x xs h) p) (λ n r. each_keeps Q P q step n xs (All-tail Q x xs h) r)

-- what each step shows of its part
pub each_shows : {X S : Type 0} (Q : X → Type 0) (q : S → X → Verdict S)
    → ((s : S) (x : X) → Yields (λ n. Q x) (q s x))
    → (s : S) (xs : List X) → Yields (λ n. All Q xs) (each_verdict q s xs)
each_shows Q q step s [] = gives_yields (All-nil Q)
each_shows Q q step s (x ∷ xs) =
    then_yields (step s x) (λ n r. weaker_yields (each_shows Q q step n xs) (λ m t. All-cons Q x xs r t))

-- what the steps add
pub gathered : {X Y : Type 0} → (X → List Y) → List X → List Y
gathered w [] = []
gathered w (x ∷ xs) = w x ++ gathered w xs

pub each_gathers : {X S Y : Type 0} (m : S → List Y) (w : X → List Y) (q : S → X → Verdict S)
    → ((s : S) (x : X) → Yields (λ n. m n ≡ m s ++ w x) (q s x))
    → (s : S) (xs : List X) → Yields (λ n. m n ≡ m s ++ gathered w xs) (each_verdict q s xs)
unfolding gathered
each_gathers m w q step s [] = gives_yields (sym (append-nil (m s)))
each_gathers m w q step s (x ∷ xs) =
    then_yields (step s x) (λ n h.
    weaker_yields (each_gathers m w q step n xs) (λ r e.
    e ∙ (ap (λ l. l ++ gathered w xs) h ∙ append_assoc (m s) (w x) (gathered w xs))))

pub each_counts : {X S : Type 0} (m : S → ℕ) (q : S → X → Verdict S)
    → ((s : S) (x : X) → Yields (λ n. m n ≡ m s + 1) (q s x))
    → (s : S) (xs : List X) → Yields (λ n. m n ≡ m s + length xs) (each_verdict q s xs)
each_counts m q step s [] = gives_yields (omega arith)
each_counts m q step s (x ∷ xs) =
    then_yields (step s x) (λ n h. weaker_yields (each_counts m q step n xs) (λ r e. omega (arith, e, h)))
