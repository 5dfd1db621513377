-- A verdict that says of each part what its rule says.
use Rattle.std.proofs.Common.{◌≡◌, Bool, true, false, Option, Some, None, List, [], ◌∷◌, refl, sym, ap, ◌∙◌, subst, inl}
use Rattle.std.proofs.Common.{inr, not}
use Rattle.std.specs.Prelude.{Ok, Err}
use Rattle.lsl_bodies.specs.declared.faults.TypeFault.{TypeFault}
use Rattle.lsl_bodies.specs.Judgement.{Judgement, gives, the_one, must, entry, faulty, each}
use Rattle.lsl_bodies.specs.Judgement as rule
use Rattle.lsl_bodies.specs.Verdict.{Verdict, ◌>>=◌, the_one_verdict, must_verdict, each_verdict}

pub record Decides {T : Type 0} (J : Judgement T) (v : Verdict T) : Type 0 where
  pub ok : (t : T) → v ≡ Ok t → J.types t
  pub err : (f : TypeFault) → v ≡ Err f → J.breaks f
  pub types : (t : T) → J.types t → v ≡ Ok t
  pub breaks : (f : TypeFault) → J.breaks f → v ≡ Err f

abbrev right : (T : Type 0) → T → Verdict T
right T x = Ok x

abbrev wrong : (T : Type 0) → TypeFault → Verdict T
wrong T f = Err f

pub ok_same : {T : Type 0} (a b : T) → right T a ≡ right T b → a ≡ b
ok_same a b e = cc

pub err_same : (T : Type 0) (f g : TypeFault) → wrong T f ≡ wrong T g → f ≡ g
err_same T f g e = cc

pub ok_not_err : {T : Type 0} (a : T) (f : TypeFault) → right T a ≡ wrong T f → ⊥
ok_not_err a f e = cc

pub gives_decides : {T : Type 0} (x : T) → Decides (gives x) (Ok x)
gives_decides x = record {
  ok = λ t e. sym (ok_same x t e);
  err = λ f e. ok_not_err x f e;
  types = λ t e. ap Ok (sym e);
  breaks = λ f h. absurd h;
}

pub faulty_decides : {T : Type 0} (fault : TypeFault) → Decides {T = T} (faulty fault) (Err fault)
faulty_decides {T} fault = record {
  ok = λ t e. ok_not_err t fault (sym e);
  err = λ f e. sym (err_same T fault f e);
  types = λ t h. absurd h;
  breaks = λ f e. ap Err (sym e);
}

pub then_decides : {A B : Type 0} (J : Judgement A) (K : A → Judgement B) (v : Verdict A) (q : A → Verdict B)
    → Decides J v → ((x : A) → Decides (K x) (q x)) → Decides (rule.◌>>=◌ J K) (v >>= q)
then_decides J K (Ok x) q dj dk = record {
  ok = λ u e. (x, dj.ok x refl, (dk x).ok u e);
  err = λ f e. inr (x, dj.ok x refl, (dk x).err f e);
  types = λ u h. ap q (ok_same x h.0 (dj.types h.0 h.1)) ∙ (dk h.0).types u h.2;
  breaks = λ f s. elim s [
    | inl b ↦ absurd (ok_not_err x f (dj.breaks f b))
    | inr h ↦ ap q
        (ok_same x h.0 (dj.types h.0 h.1)) ∙ (dk h.0).breaks f h.2
  ];
}
then_decides {A} {B} J K (Err g) q dj dk = record {
  ok = λ u e. absurd (ok_not_err u g (sym e));
  err = λ f e. inl (dj.err f (ap Err (err_same B g f e)));
  types = λ u h. absurd (ok_not_err h.0 g (sym (dj.types h.0 h.1)));
  breaks = λ f s. elim s [
    | inl b ↦ ap Err (err_same A g f (dj.breaks f b))
    | inr h ↦ absurd
        (ok_not_err h.0 g (sym (dj.types h.0 h.1)))
  ];
}

pub the_one_decides : {T : Type 0} (P : T → Type 0) (fault : TypeFault) (o : Option T)
    → ((t : T) → o ≡ Some t → P t) → ((t : T) → P t → o ≡ Some t) → Decides (the_one P fault) (the_one_verdict o fault)
the_one_decides {T} P fault None some found = record {
  ok = λ t e. absurd (ok_not_err t fault (sym e));
  err = λ f e. (λ t p. let h : None ≡ Some t = found t p in cc, sym (err_same T fault f e));
  types = λ t p. let h : None ≡ Some t = found t p in absurd (cc);
  breaks = λ f h. ap Err (sym h.1);
}
the_one_decides {T} P fault (Some x) some found = record {
  ok = λ t e. some t (ap Some (ok_same x t e));
  err = λ f e. absurd (ok_not_err x f e);
  types = λ t p. let h : Some x ≡ Some t = found t p in cc;
  breaks = λ f h. absurd (h.0 x (some x refl));
}

pub must_decides : (P : Type 0) (fault : TypeFault) (b : Bool) → (b ≡ true → P) → (P → b ≡ true)
    → Decides (must P fault) (must_verdict b fault)
must_decides P fault true holds test = record {
  ok = λ t e. holds refl;
  err = λ f e. absurd (ok_not_err tt f e);
  types = λ t p. refl;
  breaks = λ f h. absurd (h.0 (holds refl));
}
must_decides P fault false holds test = record {
  ok = λ t e. absurd (ok_not_err t fault (sym e));
  err = λ f e. (λ p. let h : false ≡ true = test p in cc, sym (err_same (Unit {0}) fault f e));
  types = λ t p. let h : false ≡ true = test p in absurd (cc);
  breaks = λ f h. ap Err (sym h.1);
}

pub test_decides : (fault : TypeFault) (b : Bool) → Decides (must (b ≡ true) fault) (must_verdict b fault)
test_decides fault b = must_decides (b ≡ true) fault b (λ h. h) (λ h. h)

-- a relation that a test excludes
pub must_not_decides : (P : Type 0) (fault : TypeFault) (b : Bool) → (b ≡ true → P) → (P → b ≡ true)
    → Decides (must (P → ⊥) fault) (must_verdict (not b) fault)
must_not_decides P fault true holds test =
    must_decides (P → ⊥) fault false (λ h. absurd (cc)) (λ n. absurd (n (holds refl)))
must_not_decides P fault false holds test =
    must_decides (P → ⊥) fault true (λ h p. let e : false ≡ true = test p in cc) (λ n. refl)

pub entry_decides : {T : Type 0} (o : Option T) (fault : TypeFault) → Decides (entry o fault) (the_one_verdict o fault)
entry_decides {T} None fault = record {
  ok = λ t e. absurd (ok_not_err t fault (sym e));
  err = λ f e. (refl, sym (err_same T fault f e));
  types = λ t h. absurd (cc);
  breaks = λ f h. ap Err (sym h.1);
}
entry_decides (Some x) fault = record {
  ok = λ t e. ap Some (ok_same x t e);
  err = λ f e. absurd (ok_not_err x f e);
  types = λ t h. cc;
  breaks = λ f h. let e : Some x ≡ None = h.0 in absurd (cc);
}

pub each_decides : {X S : Type 0} (rule : S → X → Judgement S) (q : S → X → Verdict S)
    → ((s : S) (x : X) → Decides (rule s x) (q s x)) → (s : S) (xs : List X)
    → Decides (each rule s xs) (each_verdict q s xs)
each_decides rule q d s [] = gives_decides s
each_decides rule q d s (x ∷ xs) = then_decides (rule s x) (λ n. each rule n xs) (q s x)
    (λ n. each_verdict q n xs) (d s x) (λ n. each_decides rule q d n xs)

pub decides_as : {T : Type 0} (J : Judgement T) (v w : Verdict T) → v ≡ w → Decides J w → Decides J v
decides_as J v w e d = subst (λ x. Decides J x) (sym e) d
