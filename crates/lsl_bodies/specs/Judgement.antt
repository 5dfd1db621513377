-- Rules that give the meaning of a part of a script, or its first fault.
use Rattle.std.specs.Prelude.{◌≡◌, Option, Some, None, ◌⊎◌, List, [], ◌∷◌}
use Rattle.lsl_text.specs.declared.Span.{Span}
use Rattle.lsl_bodies.specs.declared.faults.TypeKind.{TypeKind}
use Rattle.lsl_bodies.specs.declared.faults.TypeFault.{TypeFault}

abbrev pub at : TypeKind → Span → TypeFault
at kind span = record { kind = kind; span = span }

pub record Judgement (T : Type 0) : Type 1 where
  -- it is in order, and this is its meaning
  pub types : T → Type 0
  -- this is its first fault
  pub breaks : TypeFault → Type 0

-- its meaning is this
abbrev pub gives : {T : Type 0} → T → Judgement T
gives x = record { types = λ t. t ≡ x; breaks = λ f. ⊥ }

-- the first part, and then the second, which may depend on the meaning of the first
infixl 10 ◌>>=◌
abbrev pub ◌>>=◌ : {A B : Type 0} → Judgement A → (A → Judgement B) → Judgement B
◌>>=◌ {A} {B} J K = record {
  types = λ u. (t : A) × J.types t × (K t).types u;
  breaks = λ f. J.breaks f ⊎ ((t : A) × J.types t × (K t).breaks f);
}

-- what the relation holds of, or this fault if it holds of nothing
abbrev pub the_one : {T : Type 0} → (T → Type 0) → TypeFault → Judgement T
the_one {T} P fault = record { types = P; breaks = λ f. ((t : T) → P t → ⊥) × (f ≡ fault) }

-- this must hold, otherwise there is this fault
abbrev pub must : Type 0 → TypeFault → Judgement (Unit {0})
must P fault = record { types = λ t. P; breaks = λ f. (P → ⊥) × (f ≡ fault) }

-- the entry of a table, or this fault if it has none
abbrev pub entry : {T : Type 0} → Option T → TypeFault → Judgement T
entry o fault = record { types = λ t. o ≡ Some t; breaks = λ f. (o ≡ None) × (f ≡ fault) }

-- it has this fault
abbrev pub faulty : {T : Type 0} → TypeFault → Judgement T
faulty fault = record { types = λ t. ⊥; breaks = λ f. f ≡ fault }

-- each of a list in order, with the result of those before it
abbrev pub each : {X S : Type 0} → (S → X → Judgement S) → S → List X → Judgement S
each rule s [] = gives s
each rule s (x ∷ xs) = rule s x >>= λ next. each rule next xs
