-- Rules as functions, with the meaning of a part, or its first fault, as their value.
use Rattle.std.specs.Prelude.{Option, Some, None, Bool, true, false, List, [], ◌∷◌, Result, Ok, Err}
use Rattle.lsl_text.specs.declared.Refusal.{Refusal}
use Rattle.lsl_text.specs.declared.Refusal.TheVariants as refusal
use Rattle.lsl_bodies.specs.declared.faults.TypeFault.{TypeFault}
use Rattle.std.specs.Prelude.{◌≡◌}

abbrev pub Verdict : Type 0 → Type 0
Verdict T = Result T TypeFault

infixl 10 ◌>>=◌
abbrev pub ◌>>=◌ : {A B : Type 0} → Verdict A → (A → Verdict B) → Verdict B
Ok x >>= q = q x
Err f >>= q = Err f

abbrev pub the_one_verdict : {T : Type 0} → Option T → TypeFault → Verdict T
the_one_verdict (Some x) fault = Ok x
the_one_verdict None fault = Err fault

abbrev pub must_verdict : Bool → TypeFault → Verdict (Unit {0})
must_verdict true fault = Ok tt
must_verdict false fault = Err fault

abbrev pub each_verdict : {X S : Type 0} → (S → X → Verdict S) → S → List X → Verdict S
each_verdict rule s [] = Ok s
each_verdict rule s (x ∷ xs) = rule s x >>= λ next. each_verdict rule next xs

-- what a function of the checker returned is the verdict, unless memory ran out
abbrev pub Refuses : {Y : Type 0} → Refusal TypeFault → Verdict Y → Type 0
Refuses refusal.NoMemory verdict = Unit {0}
Refuses (refusal.Fault f) verdict = verdict ≡ Err f

abbrev pub Rules : {X Y : Type 0} → (X → Y) → Result X (Refusal TypeFault) → Verdict Y → Type 0
Rules view (Ok x) verdict = verdict ≡ Ok (view x)
Rules view (Err e) verdict = Refuses e verdict
