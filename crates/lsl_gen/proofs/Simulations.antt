-- The end of a run, beside the evaluation that it carries out.
use Rattle.std.proofs.Common.{◌≡◌, ℕ, ◌≤◌, ◌∙◌}
use Rattle.lsl_running.specs.Results.{Whole}
use Rattle.lsl_meaning.specs.State.{State, Evaluation, Gives, Stops, bind}

-- what an evaluation results in, where a result continues
abbrev pub finish : {A : Type 0} → Evaluation A → (A → State → Whole) → Whole
finish (Gives a s) k = k a s
finish (Stops whole) k = whole

abbrev pub Holds : {A : Type 0} → (A → State → Type 0) → Evaluation A → Type 0
Holds P (Gives a s) = P a s
Holds P (Stops whole) = Unit {0}

-- the end h is that of the evaluation, where k continues with a result; and a result is as P says
pub record Sim {A : Type 0} (P : A → State → Type 0) (k : A → State → Whole) (r : Evaluation A)
    (h : Whole) : Type 0 where
  pub eq : h ≡ finish r k
  pub post : Holds P r

-- one evaluation after another
pub then_sim : {A B : Type 0} (P : A → State → Type 0) (Q : B → State → Type 0) (k : A → State → Whole)
    (l : B → State → Whole) (r : Evaluation A) (go : A → State → Evaluation B) (h : Whole)
    → Sim P k r h → ((a : A) (s : State) → P a s → Sim Q l (go a s) (k a s)) → Sim Q l (bind r go) h
then_sim P Q k l (Gives a s) go h m next = let b = next a s m.post in record { eq = m.eq ∙ b.eq; post = b.post }
then_sim P Q k l (Stops whole) go h m next = record { eq = m.eq; post = tt }

-- another continuation, and a weaker fact
pub map_sim : {A : Type 0} (P Q : A → State → Type 0) (k l : A → State → Whole) (r : Evaluation A) (h : Whole)
    → Sim P k r h → ((a : A) (s : State) → P a s → (k a s ≡ l a s) × Q a s) → Sim Q l r h
map_sim P Q k l (Gives a s) h m on = let b = on a s m.post in record { eq = m.eq ∙ b.0; post = b.1 }
map_sim P Q k l (Stops whole) h m on = record { eq = m.eq; post = tt }

-- from an earlier place
pub from_sim : {A : Type 0} (P : A → State → Type 0) (k : A → State → Whole) (r : Evaluation A) (h h' : Whole)
    → h ≡ h' → Sim P k r h' → Sim P k r h
from_sim P k r h h' e m = record { eq = e ∙ m.eq; post = m.post }

-- at most n ticks are left
abbrev pub Within : {A : Type 0} → ℕ → A → State → Type 0
Within n a s = s.ticks ≤ n
