-- What a check that gives the verdict says of the rules.
use Rattle.std.proofs.Common.{◌≡◌, refl, sym, ◌∙◌}
use Rattle.std.specs.Prelude.{Ok, Err, IfOk, IfErr, MatchResult}
use Rattle.std.specs.Prelude as prelude
use Rattle.lsl_text.specs.declared.Refusal.{Refusal}
use Rattle.lsl_text.specs.declared.Refusal.TheVariants.{NoMemory, Fault}
use Rattle.lsl_tree.specs.declared.program.Program.{Program}
use Rattle.lsl_tree.specs.Scripts.{Tree}
use Rattle.lsl_tree.specs.Program as program
use Rattle.lsl_tree.specs.Program.{program_of}
use Rattle.lsl_bodies.specs.declared.faults.TypeFault.{TypeFault}
use Rattle.lsl_bodies.specs.Verdict.{Rules}
use Rattle.lsl_type.specs.ScriptVerdicts.{script_verdict}
use Rattle.lsl_type.specs.Typed.{Typed, TypeFirst, IsTypeRefusal, IsThat}
use Rattle.lsl_bodies.proofs.Deciding.{ok_same, err_same, ok_not_err}
use Rattle.lsl_tree.specs.Shape.{IsShaped}
use Rattle.lsl_tree.specs.Kinded.{IsKinded}
use Rattle.lsl_type.proofs.ProgramKinds.{script_sound}
use Rattle.lsl_type.proofs.ScriptLemmas.{script_decides}

abbrev Answer : Type 0
Answer = prelude.Result Program (Refusal TypeFault)

pub answer_found : (tree : Tree) (r : Answer) → Rules program_of r (script_verdict tree)
    → IfOk r (λ p. Typed tree (program_of p))
answer_found tree (Ok p) h = (script_decides tree).ok (program_of p) h
answer_found tree (Err e) h = tt

pub answer_every : (tree : Tree) (r : Answer) → Rules program_of r (script_verdict tree)
    → (program : program.Program) → Typed tree program → MatchResult r (λ p. program_of p ≡ program) (λ e. e ≡ NoMemory)
answer_every tree (Ok p) h program t = ok_same (program_of p) program (sym h ∙ (script_decides tree).types program t)
answer_every tree (Err NoMemory) h program t = refl
answer_every tree (Err (Fault f)) h program t =
    absurd (ok_not_err program f (sym ((script_decides tree).types program t) ∙ h))

pub answer_shaped : (tree : Tree) (r : Answer) → Rules program_of r (script_verdict tree)
    → IfOk r (λ p. IsShaped (program_of p))
answer_shaped tree (Ok p) h = ((script_sound tree).ok (program_of p) h).0
answer_shaped tree (Err e) h = tt

pub answer_kinded : (tree : Tree) (r : Answer) → Rules program_of r (script_verdict tree)
    → IfOk r (λ p. IsKinded (program_of p))
answer_kinded tree (Ok p) h = ((script_sound tree).ok (program_of p) h).1
answer_kinded tree (Err e) h = tt

pub answer_first : (tree : Tree) (r : Answer) → Rules program_of r (script_verdict tree) → IfErr r (IsTypeRefusal tree)
answer_first tree (Ok p) h = tt
answer_first tree (Err NoMemory) h = tt
answer_first tree (Err (Fault f)) h = (script_decides tree).err f h

pub answer_only : (tree : Tree) (r : Answer) → Rules program_of r (script_verdict tree)
    → (fault : TypeFault) → TypeFirst tree fault → MatchResult r (λ _. ⊥) (IsThat fault)
answer_only tree (Ok p) h fault b = ok_not_err (program_of p) fault (sym h ∙ (script_decides tree).breaks fault b)
answer_only tree (Err NoMemory) h fault b = tt
answer_only tree (Err (Fault f)) h fault b =
    err_same program.Program f fault (sym h ∙ (script_decides tree).breaks fault b)

-- a script with a program has no fault
pub no_breach : (tree : Tree) (program : program.Program) (fault : TypeFault) → Typed tree program
    → TypeFirst tree fault → ⊥
no_breach tree program fault t b = ok_not_err program fault
    (sym ((script_decides tree).types program t) ∙ (script_decides tree).breaks fault b)
