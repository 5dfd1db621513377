-- What is found and the first fault are all that there is, whatever the answer is made of.
use Rattle.std.proofs.Common.{◌≡◌, ℕ, List, refl}
use Rattle.std.specs.Prelude.{Ok, Err, IfOk, IsErrOf, MatchResult}
use Rattle.std.specs.Prelude as prelude
use Rattle.lsl_text.specs.declared.Refusal.{Refusal}
use Rattle.lsl_text.specs.declared.Refusal.TheVariants.{NoMemory, Fault}
use Rattle.lsl_tree.specs.Program.{Program}
use Rattle.lsl_build.specs.declared.faults.BuildFault.{BuildFault}
use Rattle.lsl_build.specs.Accepted.{Accepted}
use Rattle.lsl_build.specs.Faults.{FirstFault, IsThat}
use Rattle.lsl_build.proofs.Accepted.{one_program, accepted-no_fault}
use Rattle.lsl_build.proofs.FirstFault.{one_fault}

abbrev Answer : Type 0 → Type 0
Answer B = prelude.Result B (Refusal BuildFault)

-- a program that is found is one of the text
abbrev Found : {B : Type 0} → (B → Program) → List ℕ → Answer B → Type 0
Found program text r = IfOk r (λ b. Accepted text (program b))

-- a fault is a first one
abbrev First : {B : Type 0} → List ℕ → Answer B → Type 0
First text r = (fault : BuildFault) → IsErrOf r (Fault fault) → FirstFault text fault

pub answer_every : {B : Type 0} (program : B → Program) (text : List ℕ) (r : Answer B) → Found program text r
    → First text r → (p : Program) → Accepted text p → MatchResult r (λ b. program b ≡ p) (λ e. e ≡ NoMemory)
answer_every program text (Ok b) found first p accepted = one_program text (program b) p found accepted
answer_every program text (Err NoMemory) found first p accepted = refl
answer_every program text (Err (Fault f)) found first p (script, accepted) =
    absurd (accepted-no_fault text script p f accepted (first f refl))

pub answer_only : {B : Type 0} (program : B → Program) (text : List ℕ) (r : Answer B) → Found program text r
    → First text r → (fault : BuildFault) → FirstFault text fault → MatchResult r (λ _. ⊥) (IsThat fault)
answer_only program text (Ok b) (script, accepted) first fault is =
    accepted-no_fault text script (program b) fault accepted is
answer_only program text (Err NoMemory) found first fault is = tt
answer_only program text (Err (Fault f)) found first fault is = one_fault text f fault (first f refl) is
