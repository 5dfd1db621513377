-- What follows of a whole from its parts.
use Rattle.std.proofs.Common.{◌≡◌, ap, ◌∙◌, sym, subst}
use Rattle.std.specs.Prelude.{Ok}
use Rattle.lsl_text.specs.declared.Refusal.{Refusal}
use Rattle.lsl_text.specs.declared.Refusal.TheVariants.{NoMemory, Fault}
use Rattle.lsl_bodies.specs.declared.faults.TypeFault.{TypeFault}
use Rattle.lsl_bodies.specs.Verdict.{Verdict, ◌>>=◌, Refuses}

-- the first part has a fault
pub fails_first : {A B : Type 0} (e : Refusal TypeFault) (v : Verdict A) (q : A → Verdict B) → Refuses e v
    → Refuses e (v >>= q)
fails_first NoMemory v q h = tt
fails_first (Fault f) v q h = ap (λ w. w >>= q) h

-- the first part is in order, and what follows it has a fault
pub fails_behind : {A B : Type 0} (e : Refusal TypeFault) (v : Verdict A) (t : A) (q : A → Verdict B) → v ≡ Ok t
    → Refuses e (q t) → Refuses e (v >>= q)
fails_behind e v t q h g = subst (λ w. Refuses e (w >>= q)) (sym h) g

-- both are in order
pub ok_behind : {A B : Type 0} (v : Verdict A) (t : A) (q : A → Verdict B) (w : Verdict B) → v ≡ Ok t → q t ≡ w
    → (v >>= q) ≡ w
ok_behind v t q w h g = ap (λ x. x >>= q) h ∙ g
